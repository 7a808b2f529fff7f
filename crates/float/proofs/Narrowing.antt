-- `narrow`'s arms, from a format g to one with fewer digits and exponents, f. Of a value of g with the sign s, the field E and the digits t, `Sized f g s E t n` says that n is the pattern, without its sign, of what `narrow_at f` gives.
-- At the end they stand for f64 and f32. Assumes nothing.
use Rattle.std.proofs.Common.{◌≡◌, ℕ, zero, suc, ◌+◌, ◌-◌, ◌*◌, ◌/◌, ◌%◌, ◌^◌, ◌<◌, ◌≤◌, min, Bool, cond, not, T, leb, sym, refl, ap, ◌∙◌, subst, inl, inr, zero-le, le_trans, le_of_eq, le_refl, lt_of_lt_of_le, lt_irrefl, mul-le-mul_right, mul_assoc, suc-mul, add_comm, eq-or-lt_of_le, mul-one, mul_left_comm, le-add_left, arith, lit≤, pow_pos, pow_mono, pow-add, shl_lt, le-leb}
use borrow.Author.Tests.{lt-leb}
use lib.Ieee.{Float, nan, inf, fin, Format, binary32, binary64, prec, emax, low, hid, ones, top, up, down, round, fits, is_nan, of_bits, to_bits, of_fields}
use lib.Ieee.Fits.{two, reach, down_pos, round-fits}
use lib.Ieee.Bits.{of_bits-to_bits}
use lib.Ieee.Exact.{HasValue, round_exact}
use lib.Ieee.Nearest.{closest}
use lib.Ieee.Scale.{round_same}
use Rattle.float.specs.Narrow.{fewer, rebias, narrow_rest, narrow_at}
use Rattle.float.proofs.Closest.{closest_zero, closest_plus, closest_le, closest_ge}
use Rattle.float.proofs.Pattern.{join, twice, last, in_reach, pattern, built, same_value, round_no_nan}
use Rattle.float.proofs.Fields.{read, significand, significand_lt, digits_in, field_in, finite_at, infinite_at}

-- by any fraction that the value equals
pub narrow-value : (f : Format) (v : Float) (s : Bool) (a c : ℕ) → 0 < c → HasValue v s a c → narrow_at f v ≡ round f s a c
unfolding narrow_at
narrow-value f nan s a c C h = absurd h
narrow-value f (inf t) s a c C h = absurd h
narrow-value f (fin t m e) s a c C (p, q) = round_same f t (m * up e) (down e) a c (down_pos e) C q ∙ ap (λ (z : Bool). round f z a c) p

pub narrow_no_nan : (f : Format) (v : Float) → T (not (is_nan v)) → T (not (is_nan (narrow_at f v)))
unfolding narrow_at is_nan
narrow_no_nan f nan h = h
narrow_no_nan f (inf s) h = tt
narrow_no_nan f (fin s m e) h = round_no_nan f s (m * up e) (down e)

abbrev pub Sized : Format → Format → Bool → ℕ → ℕ → ℕ → Type 0
Sized f g s E t n = (n ≤ last f) × (of_bits f (cond s (top f) 0 + n) ≡ narrow_at f (of_fields g s E t))

normal : (g : Format) (E t : ℕ) → 1 ≤ E → significand g E t ≡ t + hid g
normal g zero t h = absurd (lt_irrefl 0 h)
normal g (suc E) t h = add_comm (hid g) t

-- g has k digits more than f, and its exponents reach d further: so the same exponent has a field that is d more
module _ (f g : Format) (k d : ℕ) (P : prec g ≡ prec f + k) (B : emax g ≡ emax f + d) (D : prec f < d) (s : Bool) (E t : ℕ) (H : t < hid g) where
  abbrev m : ℕ
  m = significand g E t

  -- how many digits are cut below f's least normal value
  abbrev cut : ℕ
  cut = d + k - (E - 1)

  m_lt : m < 2 ^ (prec f + k)
  m_lt = subst (λ (p : ℕ). m < 2 ^ p) P (significand_lt g E t H)

  lows : low g ≡ low f + d + k
  lows = omega (arith, two f)

  is_round : E < ones g → round f s (m * 2 ^ (E - 1)) (2 ^ low g) ≡ narrow_at f (of_fields g s E t)
  is_round h = sym (narrow-value f (of_fields g s E t) s (m * 2 ^ (E - 1)) (2 ^ low g) (pow_pos (low g)) (finite_at g s E t h))

  -- below the least normal value no digit is dropped in units of the least value
  subnormal_built : E ≤ d → of_bits f (pattern f s (0 * hid f + closest m (2 ^ cut))) ≡ narrow_at f (of_fields g s E t)
  subnormal_built h =
      let j = E - 1 in
      built f s (m * 2 ^ j) (2 ^ low g) m (2 ^ cut) 0 (pow_pos (low g)) (pow_pos cut)
      (ap (λ (x : ℕ). x * 2 ^ cut) (join m j (low f)) ∙ join m (j + low f) cut ∙ ap (λ (x : ℕ). m * 2 ^ x) (all j (low f) (low g) lows (omega arith)) ∙ ap (λ (x : ℕ). m * x) (sym (mul-one (2 ^ low g))))
      (lt_of_lt_of_le m_lt (subst (λ (x : ℕ). 2 ^ (prec f + k) ≤ x) (pow-add 2 (prec f) cut) (pow_mono {i = prec f + k} {j = prec f + cut} (omega arith))))
      (λ l. absurd (lt_irrefl 0 l))
      ∙ is_round (omega arith)
    where
      all : (j a b : ℕ) → b ≡ a + d + k → j ≤ d → j + a + (d + k - j) ≡ b
      all j a b e h = omega arith

  hids : hid f * 2 ^ k ≡ hid g
  hids = sym (pow-add 2 (prec f - 1) k) ∙ ap (λ (x : ℕ). 2 ^ x) (omega (arith, two f))

  lead : d < E → hid f * 2 ^ k ≤ m
  lead l = subst (λ (x : ℕ). x ≤ m) (sym hids) (subst (λ (x : ℕ). hid g ≤ x) (sym (normal g E t (omega arith))) (le-add_left (hid g) t))

  -- from there on the k last digits are cut
  normal_built : d < E → E < ones g → of_bits f (pattern f s ((E - suc d) * hid f + closest m (2 ^ k))) ≡ narrow_at f (of_fields g s E t)
  normal_built l h =
      let j = E - 1 in
      let i = E - suc d in
      built f s (m * 2 ^ j) (2 ^ low g) m (2 ^ k) i (pow_pos (low g)) (pow_pos k)
      (ap (λ (x : ℕ). x * 2 ^ k) (join m j (low f)) ∙ join m (j + low f) k ∙ ap (λ (x : ℕ). m * 2 ^ x) (all (low f) (low g) lows) ∙ ap (λ (x : ℕ). m * x) (pow-add 2 (low g) i))
      (subst (λ (x : ℕ). m < x) (pow-add 2 (prec f) k) m_lt)
      (λ _. lead l)
      ∙ is_round h
    where
      all : (a b : ℕ) → b ≡ a + d + k → E - 1 + a + k ≡ b + (E - suc d)
      all a b e = omega arith

  sized : (n w : ℕ) → n ≤ last f → min w (last f) ≡ n → of_bits f (pattern f s w) ≡ narrow_at f (of_fields g s E t) → Sized f g s E t n
  sized n w l e h = (l, ap (λ (x : ℕ). of_bits f (cond s (top f) 0 + x)) (sym e) ∙ h)

  within : (w y : ℕ) → w ≤ y → min w y ≡ w
  within w y l = omega arith

  -- ---- the arms

  arm_zero : E + prec f ≤ d → Sized f g s E t 0
  arm_zero h =
      let c = closest m (2 ^ cut) in
      let z : 0 ≡ c = closest_zero m (2 ^ cut) (lt_of_lt_of_le (shl_lt (prec f + k) 1 m_lt) (pow_mono {i = prec f + k + 1} {j = cut} (omega arith))) in
      sized 0 (0 * hid f + c) zero-le (none c z) (subnormal_built (omega arith))
    where
      none : (c : ℕ) → 0 ≡ c → min (0 * hid f + c) (last f) ≡ 0
      none c e = omega arith

  arm_subnormal : d < E + prec f → E ≤ d → Sized f g s E t (closest (t + hid g) (2 ^ (suc (d + k) - E)))
  arm_subnormal l h =
      let c = closest m (2 ^ cut) in
      let same : c ≡ closest (t + hid g) (2 ^ (suc (d + k) - E)) = ap (λ (x : ℕ). closest x (2 ^ cut)) (normal g E t (omega arith)) ∙ ap (λ (x : ℕ). closest (t + hid g) (2 ^ x)) (omega arith) in
      let small : c ≤ 2 ^ prec f = closest_le m (2 ^ cut) (2 ^ prec f) (pow_pos cut) (lt_of_lt_of_le m_lt (subst (λ (x : ℕ). 2 ^ (prec f + k) ≤ x) (pow-add 2 (prec f) cut) (pow_mono {i = prec f + k} {j = prec f + cut} (omega arith)))) in
      let fit : 0 * hid f + c ≤ last f = in_reach f 0 c (omega (arith, two f, reach f)) small in
      subst (λ (x : ℕ). Sized f g s E t x) same (sized c (0 * hid f + c) (omega arith) (omega arith) (subnormal_built h))

  -- the field and the digits are cut as one number, of which the field is an even number of 2 ^ k
  arm_normal : (n : ℕ) → n ≡ (E - suc d) * hid g + (t + hid g) → d < E → E < ones f + d → Sized f g s E t (closest n (2 ^ k))
  arm_normal n e l h =
      let i = E - suc d in
      let c = closest m (2 ^ k) in
      let small : c ≤ 2 ^ prec f = closest_le m (2 ^ k) (2 ^ prec f) (pow_pos k) (subst (λ (x : ℕ). m < x) (pow-add 2 (prec f) k) m_lt) in
      let fit : i * hid f + c ≤ last f = in_reach f i c (omega arith) small in
      let even : i * hid f ≡ 2 * (i * 2 ^ (prec f - 1 - 1)) = ap (λ (x : ℕ). i * x) (twice (prec f - 1) (omega (arith, two f))) ∙ mul_left_comm i 2 (2 ^ (prec f - 1 - 1)) in
      let same : closest n (2 ^ k) ≡ i * hid f + c =
      ap (λ (x : ℕ). closest x (2 ^ k)) (e ∙ ap (λ (x : ℕ). i * x + (t + hid g)) (sym hids) ∙ ap (λ (x : ℕ). x + (t + hid g)) (sym (mul_assoc i (hid f) (2 ^ k)) ∙ ap (λ (x : ℕ). x * 2 ^ k) even))
      ∙ closest_plus (i * 2 ^ (prec f - 1 - 1)) (t + hid g) (2 ^ k) (pow_pos k)
      ∙ ap (λ (x : ℕ). x + closest (t + hid g) (2 ^ k)) (sym even)
      ∙ ap (λ (x : ℕ). i * hid f + closest x (2 ^ k)) (sym (normal g E t (omega arith))) in
      subst (λ (x : ℕ). Sized f g s E t x) (sym same) (sized (i * hid f + c) (i * hid f + c) fit (within (i * hid f + c) (last f) fit) (normal_built l (omega arith)))

  arm_infinite : ones f + d ≤ E → E < ones g → Sized f g s E t (last f)
  arm_infinite l h =
      let i = E - suc d in
      let c = closest m (2 ^ k) in
      let large : hid f ≤ c = closest_ge m (2 ^ k) (hid f) (pow_pos k) (lead (omega arith)) in
      let past : last f ≤ i * hid f + hid f = le_trans (mul-le-mul_right (hid f) (omega arith)) (le_of_eq (suc-mul i (hid f))) in
      sized (last f) (i * hid f + c) (le_refl (last f)) (omega arith) (normal_built (omega arith) h)

-- the last field
arm_last : (f g : Format) (s : Bool) (E t : ℕ) → E ≡ ones g → T (not (is_nan (of_fields g s E t))) → Sized f g s E t (last f)
unfolding narrow_at to_bits fits
arm_last f g s E t e h = (le_refl (last f), of_bits-to_bits f (inf s) tt ∙ sym (ap (narrow_at f) (infinite_at g s E t e h)))

-- ---- a value of the format is kept

finite_kept : (f : Format) (s : Bool) (E t : ℕ) → t < hid f → E < ones f → T (fits f (of_fields f s E t)) → narrow_at f (of_fields f s E t) ≡ of_fields f s E t
finite_kept f s E t H h w =
    let v = of_fields f s E t in
    let q = significand f E t in
    let j = E - 1 in
    let is : HasValue v s (q * 2 ^ j) (2 ^ low f) = finite_at f s E t h in
    let q_lt : q < 2 ^ prec f = significand_lt f E t H in
    narrow-value f v s (q * 2 ^ j) (2 ^ low f) (pow_pos (low f)) is
    ∙ same_value f (round f s (q * 2 ^ j) (2 ^ low f)) v s (q * 2 ^ j) (round-fits f s (q * 2 ^ j) (2 ^ low f)) w
    (round_exact f s (q * 2 ^ j) (2 ^ low f) q j (pow_pos (low f)) q_lt (lt_of_lt_of_le (shl_lt (prec f) j q_lt) (pow_mono {i = prec f + j} {j = low f + suc (emax f)} (omega (arith, two f, reach f)))) refl)
    is

kept_at : (f : Format) (s : Bool) (E t : ℕ) → t < hid f → E ≤ ones f → T (not (is_nan (of_fields f s E t))) → T (fits f (of_fields f s E t)) → narrow_at f (of_fields f s E t) ≡ of_fields f s E t
unfolding narrow_at
kept_at f s E t H l n w = elim (eq-or-lt_of_le l) [
  | inl e ↦ let g = infinite_at f s E t e n in ap (narrow_at f) g ∙ sym g
  | inr h ↦ finite_kept f s E t H h w
]

number-kept : (f : Format) (x : Float) → T (fits f x) → T (not (is_nan x)) → narrow_at f x ≡ x
number-kept f x h n =
    let b = to_bits f x in
    subst (λ (v : Float). narrow_at f v ≡ v) (read f x h)
    (kept_at f (leb (top f) b) (b % top f / hid f) (b % hid f) (digits_in f b) (field_in f b) (subst (λ (v : Float). T (not (is_nan v))) (sym (read f x h)) n) (subst (λ (v : Float). T (fits f v)) (sym (read f x h)) h))

pub narrow-kept : (f : Format) (x : Float) → T (fits f x) → narrow_at f x ≡ x
unfolding narrow_at is_nan
narrow-kept f nan h = refl
narrow-kept f (inf s) h = refl
narrow-kept f (fin s m e) h = number-kept f (fin s m e) h tt

-- ---- from f64 to f32

module _ (s : Bool) (E t : ℕ) (H : t < hid binary64) where
  -- n is the pattern, without its sign
  abbrev pub Narrowed : ℕ → Type 0
  Narrowed n = Sized binary32 binary64 s E t n

  pub to_zero : E + prec binary32 ≤ rebias → Narrowed 0
  to_zero = arm_zero binary32 binary64 fewer rebias refl refl (lit≤ tt) s E t H

  pub to_subnormal : rebias < E + prec binary32 → E ≤ rebias → Narrowed (closest (t + hid binary64) (2 ^ (suc (rebias + fewer) - E)))
  to_subnormal = arm_subnormal binary32 binary64 fewer rebias refl refl (lit≤ tt) s E t H

  pub to_normal : (n : ℕ) → n ≡ (E - suc rebias) * hid binary64 + (t + hid binary64) → rebias < E → E < ones binary32 + rebias → Narrowed (closest n (2 ^ fewer))
  to_normal = arm_normal binary32 binary64 fewer rebias refl refl (lit≤ tt) s E t H

  pub to_infinite : ones binary32 + rebias ≤ E → E < ones binary64 → Narrowed (last binary32)
  to_infinite = arm_infinite binary32 binary64 fewer rebias refl refl (lit≤ tt) s E t H

  pub to_last : E ≡ ones binary64 → T (not (is_nan (of_fields binary64 s E t))) → Narrowed (last binary32)
  to_last = arm_last binary32 binary64 s E t

-- ---- `narrow_rest`, by its three cases

module _ (n : ℕ) where
  abbrev E : ℕ
  E = n / hid binary64

  pub rest_zero : E + prec binary32 ≤ rebias → 0 ≡ narrow_rest n
  unfolding narrow_rest
  rest_zero h = rw (le-leb _ _ h) refl

  pub rest_subnormal : rebias < E + prec binary32 → E ≤ rebias → closest (n % hid binary64 + hid binary64) (2 ^ (suc (rebias + fewer) - E)) ≡ narrow_rest n
  unfolding narrow_rest
  rest_subnormal l h = rw (lt-leb _ _ l, le-leb _ _ h) refl

  pub rest_infinite : rebias < E → last binary32 ≡ narrow_rest n
  unfolding narrow_rest
  rest_infinite l = rw (lt-leb (E + prec binary32) rebias (omega arith), lt-leb E rebias l) refl
