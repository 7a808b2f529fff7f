-- The walk's code, step by step: what each return of `recursive_intersect` and `half_step` gives, and that the count has room. Assumes nothing.
use mathlib.Core.Bool.{Bool, true, false}
use mathlib.Core.Path.{◌≡◌, refl, sym, ap}
use Prim.Native.Nat.{ℕ, zero, suc, ◌+◌, ◌-◌, ◌^◌, ◌≤◌}
use native.Mathlib.Nat.{le_refl}
use native.Mathlib.Omega.{arith}
use lib.Pow.{pow_mono}
use Rattle.bisection.specs.Walk.{onward, walk_of}
use Rattle.bisection.proofs.Nodes.{pow_two}
use Rattle.bisection.proofs.Walked.{half-size}
use Rattle.curve.specs.declared.curve.Curve.{Curve}
use Rattle.frame.specs.declared.frame.View.{View}
use Rattle.overlap.specs.declared.subcurve.Subcurve.{Subcurve}
use Rattle.overlap.specs.Subcurve.{low_half, high_half}
use Rattle.overlap.specs.Thrown.{is_thrown}
use Rattle.leaf.specs.Leaf.{Leaf, leaf_of}
use Rattle.walk.specs.declared.rule.Rule.{Rule}
use Rattle.walk.specs.declared.walk.Reached.{Reached}
use Rattle.walk.specs.Rule.{ends}
use Rattle.walk.specs.Steps.{entered, later, settled, is_over, walk_in, half_in}
use Rattle.walk.proofs.Rules.{ends-later}

-- ---- the count

abbrev size_of : Reached → ℕ
size_of r = r.looked

entered-size : (r : Reached) → size_of (entered r) ≤ size_of r + 1
unfolding entered
entered-size r = le_refl (r.looked + 1)

settled-size : (rule : Rule) (l : Leaf) (r : Reached) → size_of (settled rule l r) ≤ size_of r
unfolding settled
settled-size rule l r = le_refl r.looked

-- the power of the level below
level_below : (d : ℕ) → (d ≡ 0 → ⊥) → 2 ^ suc (d - 1) + 2 ^ suc (d - 1) ≡ 2 ^ suc d
level_below zero f = absurd (f refl)
level_below (suc d) f = let e : suc d - 1 ≡ d = omega arith in rw e (sym (pow_two (suc d)))

-- one subcurve entered, the first half has room to count
pub room_low : (d n : ℕ) → (d ≡ 0 → ⊥) → n + 2 ^ suc d ≤ 2 ^ 32 → n + 1 + 2 ^ suc (d - 1) ≤ 2 ^ 32
room_low d n f h =
    let some : 0 ≤ suc (d - 1) = omega arith in
    omega (arith, level_below d f, pow_mono some)

-- and behind it the second
pub room_high : (rule : Rule) (c : Curve) (v : View) (p : Subcurve) (d : ℕ) (r e q : Reached) → (d ≡ 0 → ⊥) → r.looked + 2 ^ suc d ≤ 2 ^ 32 → e ≡ entered r
    → q ≡ half_in rule c v (d - 1) p e → q.looked + 2 ^ suc (d - 1) ≤ 2 ^ 32
unfolding half_in
room_high rule c v p d r e q f h k g =
    let grown = half-size low_half high_half (is_thrown c v.zmax) entered (λ s. settled rule (leaf_of c v s)) (is_over rule) size_of entered-size (λ s. settled-size rule (leaf_of c v s)) (d - 1) p e in
    let counted : size_of e ≤ size_of r + 1 = rw k (entered-size r) in
    omega (arith, level_below d f, ap size_of g, grown, counted)

-- ---- the returns

module _ (rule : Rule) (c : Curve) (v : View) (s : Subcurve) (d : ℕ) (b : Bool) (tested : b ≡ is_thrown c v.zmax s) where
  pub half_out : b ≡ true → (r : Reached) → r ≡ half_in rule c v d s r
  unfolding half_in
  half_out t r = rw (← tested, t)

  pub half_in_lem : b ≡ false → (q r : Reached) → q ≡ walk_in rule c v d s r → q ≡ half_in rule c v d s r
  unfolding half_in walk_in
  half_in_lem t q r e = rw (← tested, t) e

pub walk_ends : (rule : Rule) (c : Curve) (v : View) (s : Subcurve) (d : ℕ) (r q : Reached) (a : Leaf) → d ≡ 0 → a ≡ leaf_of c v s
    → q.leaf ≡ later rule a r.leaf → q.looked ≡ r.looked + 1 → q ≡ walk_in rule c v d s r
unfolding walk_in walk_of settled entered
walk_ends rule c v s d r q a z k w n = rw (z, ← k, ← w, ← n)

-- the count has no part in whether the walk is over
pub over-entered : (rule : Rule) (r : Reached) (n : ℕ) → is_over rule (record { leaf = r.leaf; looked = n }) ≡ is_over rule r
unfolding is_over
over-entered rule r n = refl

pub over-settled : (rule : Rule) (l after : Leaf) (r : Reached) (n : ℕ) (b : Bool) → is_over rule r ≡ false → after ≡ later rule l r.leaf → b ≡ ends rule l → b ≡ is_over rule (record { leaf = after; looked = n })
unfolding is_over
over-settled rule l after r n b h k e = rw (k, ends-later rule l r.leaf h) e

pub one_more : (r : Reached) → record { leaf = r.leaf; looked = r.looked + 1 } ≡ entered r
unfolding entered
one_more r = refl

-- the two halves of a walk that is not at its end
walk_cuts : (rule : Rule) (c : Curve) (v : View) (s : Subcurve) (d : ℕ) (r : Reached) → (d ≡ 0 → ⊥) → walk_in rule c v d s r ≡ onward (is_over rule) (half_in rule c v (d - 1) (high_half s)) (half_in rule c v (d - 1) (low_half s) (entered r))
unfolding walk_in half_in walk_of
walk_cuts rule c v s zero r f = absurd (f refl)
walk_cuts rule c v s (suc d) r f = let e : suc d - 1 ≡ d = omega arith in rw e

module _ (rule : Rule) (c : Curve) (v : View) (s low high : Subcurve) (d : ℕ) (r e q : Reached) (b : Bool)
    (cut : d ≡ 0 → ⊥) (counted : e ≡ entered r) (is-low : low ≡ low_half s) (is-high : high ≡ high_half s)
    (first : q ≡ half_in rule c v (d - 1) low e) (over : b ≡ is_over rule q) where
  -- the walk of the low half
  low_walked : half_in rule c v (d - 1) (low_half s) (entered r) ≡ q
  low_walked = rw (← is-low, ← counted) (sym first)

  pub walk_stops : b ≡ true → q ≡ walk_in rule c v d s r
  walk_stops t =
      let o : is_over rule q ≡ true = cc in
      rw (walk_cuts rule c v s d r cut, low_walked, o)

  pub walk_goes : b ≡ false → (q' : Reached) → q' ≡ half_in rule c v (d - 1) high q → q' ≡ walk_in rule c v d s r
  walk_goes t q' w =
      let o : is_over rule q ≡ false = cc in
      rw (walk_cuts rule c v s d r cut, low_walked, o, ← is-high) w
