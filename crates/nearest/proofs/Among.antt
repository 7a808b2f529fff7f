-- The answers of a list, one curve more each time. Assumes nothing.
use mathlib.Core.Bool.{Bool, true, false, cond, false≢true}
use mathlib.Core.Option.{Option, none, some}
use mathlib.Core.Path.{◌≡◌, refl, ap, ◌∙◌}
use Prim.Native.Nat.{ℕ, zero, suc, ◌+◌, ◌-◌, ◌≤◌}
use native.Mathlib.Numerals.{unary_clauses}
use native.Mathlib.Omega.{arith}
use lib.Ieee.{lt}
use Rattle.std.specs.Prelude.{Some, None, Ok, Err}
use Rattle.limits.specs.declared.refusal.Refusal.{Refusal}
use Rattle.bisection.specs.Below.{only, or_else, at_or, choose, better, first_below, best_below}
use Rattle.bisection.proofs.Below.{IsFirst, IsIn, first_is, best_in}
use Rattle.nearest.specs.Nearest.{Nearest, Hit, is_hit, is_refused, distance_in, among, nearer_of, joined}

-- ---- two answers, one behind the other

-- a refusal stands
refusal_stands : (x y : Nearest) → is_refused x ≡ true → x ≡ joined x y
unfolding joined
refusal_stands (Err reason) y e = refl
refusal_stands (Ok h) y e = absurd (false≢true e)

refused-behind : (x : Nearest) (reason : Refusal) → is_hit x ≡ true → Err reason ≡ joined x (Err reason)
unfolding joined
refused-behind (Ok h) reason e = refl
refused-behind (Err r) reason e = absurd (false≢true e)

pub miss_behind : (x : Nearest) → x ≡ joined x (Ok None)
unfolding joined nearer_of
miss_behind (Ok (Some h)) = refl
miss_behind (Ok None) = refl
miss_behind (Err reason) = refl

either_hit : (b : Bool) (g h : Hit) → ◌≡◌ {A = Nearest} (cond b (Ok (Some g)) (Ok (Some h))) (Ok (cond b (Some g) (Some h)))
either_hit true g h = refl
either_hit false g h = refl

hit_behind : (x y : Nearest) → is_hit x ≡ true → is_hit y ≡ true → cond (lt (distance_in y) (distance_in x)) y x ≡ joined x y
unfolding joined nearer_of
hit_behind (Ok (Some h)) (Ok (Some g)) e e' = either_hit (lt g.0.t_hit h.0.t_hit) g h
hit_behind (Ok None) y e e' = absurd (false≢true e)
hit_behind (Err reason) y e e' = absurd (false≢true e)
hit_behind (Ok (Some h)) (Ok None) e e' = absurd (false≢true e')
hit_behind (Ok (Some h)) (Err reason) e e' = absurd (false≢true e')

-- ---- the answers 0 to n - 1

module _ (answer : ℕ → Nearest) where
  abbrev refused : ℕ → Bool
  refused k = is_refused (answer k)

  abbrev hit : ℕ → Bool
  hit k = is_hit (answer k)

  abbrev nearer : ℕ → ℕ → Bool
  nearer j i = lt (distance_in (answer j)) (distance_in (answer i))

  chosen : (b : Bool) (j i : ℕ) → answer (choose b j i) ≡ cond b (answer j) (answer i)
  chosen true j i = refl
  chosen false j i = refl

  -- behind answers of which none is a refusal and o is the nearest
  behind : (n : ℕ) (y : Nearest) → answer n ≡ y → (o : Option ℕ) → IsIn n hit o → at_or answer (Ok None) (or_else (only (is_refused y) n) (better nearer (is_hit y) n o)) ≡ joined (at_or answer (Ok None) o) y
  unfolding joined nearer_of
  behind n (Err reason) e none h = e
  behind n (Err reason) e (some i) h = e ∙ refused-behind (answer i) reason h.1
  behind n (Ok None) e none h = refl
  behind n (Ok None) e (some i) h = miss_behind (answer i)
  behind n (Ok (Some g)) e none h = e
  behind n (Ok (Some g)) e (some i) h = chosen (nearer n i) n i ∙ hit_behind (answer i) (answer n) h.1 (ap is_hit e) ∙ ap (joined (answer i)) e

  pub one_more : (n : ℕ) → among answer (suc n) ≡ joined (among answer n) (answer n)
  unfolding among first_below best_below
  one_more n = go (first_below n refused) (first_is n refused)
    where
      go : (o : Option ℕ) → IsFirst n refused o → at_or answer (Ok None) (or_else (or_else o (only (refused n) n)) (better nearer (hit n) n (best_below nearer n hit))) ≡ joined (at_or answer (Ok None) (or_else o (best_below nearer n hit))) (answer n)
      go none h = behind n (answer n) refl (best_below nearer n hit) (best_in nearer hit n)
      go (some i) h = refusal_stands (answer i) (answer n) h.1

  pub none_yet : among answer 0 ≡ Ok None
  unfolding among first_below best_below
  none_yet = refl

  -- a refusal is the answer however many come behind it
  more : (n d : ℕ) (reason : Refusal) → among answer n ≡ Err reason → among answer (n + d) ≡ Err reason
  unfolding joined
  more n zero reason e = simp unary_clauses e
  more n (suc d) reason e = simp unary_clauses (one_more (n + d) ∙ ap (λ x. joined x (answer (n + d))) (more n d reason e))

  pub refusal_is : (n m : ℕ) (reason : Refusal) → n ≤ m → among answer n ≡ Err reason → among answer m ≡ Err reason
  refusal_is n m reason le e = let all : n + (m - n) ≡ m = omega arith in rw all at (more n (m - n) reason e)
