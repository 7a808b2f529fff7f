-- The root of a value that is finite and above zero, for either format: `sqrt_at` is the nearest value to the root (`nearest-root`), no other is (`nearest-only`), and the quotient in it is exact (`quotient_exact`). Assumes nothing.
use Rattle.std.proofs.Common.{◌≡◌, ℕ, zero, suc, ◌+◌, ◌-◌, ◌*◌, ◌/◌, ◌%◌, ◌^◌, ◌<◌, ◌≤◌, Bool, true, false, not, T, leb, ◌⊎◌, sym, ap, ◌∙◌, subst, inl, inr, true≢false, suc-le-suc, zero-le, le_trans, le_of_eq, le_refl, lt_of_lt_of_le, le_of_suc-le-suc, le_of_lt, lt_irrefl, mul-le-mul_right, zero-lt-suc, mul_assoc, mul_comm, mul-le-mul, le_antisymm, lt_of_mul-lt-mul_right, eq-or-lt_of_le, mul-le-mul_left, mul-lt-mul_of_pos_right, pow-suc, lt_of_not-le, not-le_of_lt, mul-div_cancel, mul_left_comm, arith, pow_pos, pow_mono, shl_lt}
use native.Mathlib.Nat.{one-le-pow, pow-le-pow_right}
use lib.Ieee.{Float, nan, inf, fin, Format, prec, emax, low, hid, ones, top, is_nan, fits, of_fields, to_bits}
use lib.Ieee.Fits.{two, reach, round-fits}
use lib.Ieee.Exact.{HasValue, units_val}
use lib.Ieee.Positive.{num, den, positive, den_pos, value→cross}
use Rattle.float.specs.Root.{isqrt, root_at, sqrt_at, NearestRoot}
use Rattle.float.proofs.Fields.{read, digits_in, field_in, finite_at, infinite_at, significand}
use Rattle.float.proofs.Isqrt.{isqrt_is, isqrt-ge, square_suc}
use Rattle.float.proofs.Pattern.{four_pow, twice_hid, same_value}
use Rattle.float.proofs.Rooting.{radicand, dropped, root_digits, radicand_ge, radicand_even, digits_lt, parts, one_more, root-at, odd_square}
use Rattle.float.proofs.Shapes.{raised, Shape, shape_root, shape_normal, shape_subnormal, shift, scaled}

-- ---- the root of m * 2 ^ t

regroup : (y j : ℕ) → y * 4 ^ suc j ≡ 4 * (y * 2 ^ j * 2 ^ j)
regroup y j = ap (λ (x : ℕ). y * x) (pow-suc 4 j ∙ ap (λ (x : ℕ). x * 4) (four_pow j)) ∙ simp (mul_assoc, mul_comm, mul_left_comm)

module _ (f : Format) (m t : ℕ) (lo : hid f ≤ m) (hi : m < 2 ^ prec f) (L : raised f ≤ t) (H : t < low f + 2 * emax f) where
  abbrev c : ℕ
  c = radicand f m t

  abbrev q : ℕ
  q = isqrt c

  abbrev d : ℕ
  d = root_digits f m t

  abbrev k : ℕ
  k = dropped f t

  abbrev j : ℕ
  j = k - 1

  -- 4 * m * 2 ^ t is c units of 4 ^ dropped
  whole : c * 4 ^ k ≡ 4 * (m * 2 ^ t)
  whole = ap (λ (x : ℕ). c * 4 ^ x) (sym (one_more f m t lo hi L H)) ∙ regroup c j ∙ ap (λ (x : ℕ). 4 * x) (parts f m t lo hi L H)

  -- (2 * d - 1) is q, whose square is odd, or it is less than q
  under : (2 * d - 1) * (2 * d - 1) < c
  under = go (eq-or-lt_of_le (down q))
    where
      down : (q : ℕ) → 2 * ((q + 1) / 2) - 1 ≤ q
      down q = omega arith

      odd : (q : ℕ) → 0 < q → 2 * ((q + 1) / 2) - 1 ≡ q → q % 2 ≡ 1
      odd q l e = omega arith

      beyond : (y : ℕ) → y % 2 ≡ 1 → c % 2 ≡ 0 → y ≤ c → y < c
      beyond y e f l = omega arith

      less : (x : ℕ) → x * x < suc x * suc x
      less x = omega (arith, square_suc x)

      some : 0 < q
      some = lt_of_lt_of_le (pow_pos (prec f)) (isqrt-ge c (2 ^ prec f) (radicand_ge f m t lo hi L H))

      go : (2 * d - 1 ≡ q) ⊎ (2 * d - 1 < q) → (2 * d - 1) * (2 * d - 1) < c
      go (inl e) = subst (λ (z : ℕ). z * z < c) (sym e) (beyond (q * q) (odd_square q (odd q some e)) (radicand_even f m t lo hi L H) (isqrt_is c).0)
      go (inr l) = lt_of_lt_of_le (less (2 * d - 1)) (le_trans (mul-le-mul l l) (isqrt_is c).0)

  over : c < (2 * d + 1) * (2 * d + 1)
  over = lt_of_lt_of_le (isqrt_is c).1 (mul-le-mul (up q) (up q))
    where
      up : (q : ℕ) → q + 1 ≤ 2 * ((q + 1) / 2) + 1
      up q = omega arith

  -- the fraction n / g is m * 2 ^ t of 1 / 4 ^ low
  module _ (n g : ℕ) (G : 0 < g) (same : n * 4 ^ low f ≡ m * 2 ^ t * g) where
    exact : c * 4 ^ k * g ≡ 4 * (n * 4 ^ low f)
    exact = ap (λ (x : ℕ). x * g) whole ∙ mul_assoc 4 (m * 2 ^ t) g ∙ ap (λ (x : ℕ). 4 * x) (sym same)

    nearest-at : NearestRoot f n g (root_at f (m * 2 ^ t))
    nearest-at = record {
      digits = d;
      places = k;
      held = fit;
      value =
          subst (λ (v : Float). HasValue v false (d * 2 ^ k) (2 ^ low f)) (sym (root-at f m t lo hi L H))
          (units_val f false d k (lt_of_lt_of_le (shl_lt (prec f) k (digits_lt f m t lo hi L H)) (pow_mono {i = prec f + k} {j = low f + suc (emax f)} (omega (arith, two f, reach f)))));
      fine = digits_lt f m t lo hi L H;
      full = quarter (hid f * hid f * 4 ^ k * g) (n * 4 ^ low f) (subst (λ (x : ℕ). 4 * (hid f * hid f * 4 ^ k * g) ≤ x) exact (le_trans (le_of_eq (doubled (hid f) (2 ^ prec f) (4 ^ k) g (twice_hid f))) (mul-le-mul_right g (mul-le-mul_right (4 ^ k) (radicand_ge f m t lo hi L H)))));
      above = subst (λ (x : ℕ). (2 * d - 1) * (2 * d - 1) * 4 ^ k * g < x) exact (mul-lt-mul_of_pos_right (mul-lt-mul_of_pos_right under four_pos) G);
      below = subst (λ (x : ℕ). x < (2 * d + 1) * (2 * d + 1) * 4 ^ k * g) exact (mul-lt-mul_of_pos_right (mul-lt-mul_of_pos_right over four_pos) G);
    }
      where
        fit : T (fits f (root_at f (m * 2 ^ t)))
        fit = unfold root_at in round-fits f false (isqrt (m * 2 ^ t)) (2 ^ low f)

        four_pos : 0 < 4 ^ k
        four_pos = one-le-pow k 4 (zero-lt-suc 3)

        quarter : (a b : ℕ) → 4 * a ≤ 4 * b → a ≤ b
        quarter a b h = omega arith

        doubled : (h z u g : ℕ) → z ≡ 2 * h → 4 * (h * h * u * g) ≡ z * z * u * g
        doubled h z u g e = rw e (simp (mul_assoc, mul_left_comm) (omega arith))

-- ---- every value that is finite and above zero has one of the two shapes

no_sign : (v : Float) (a c : ℕ) → HasValue v true a c → T (positive v) → ⊥
no_sign nan a c h p = p
no_sign (inf s) a c h p = p
no_sign (fin true m e) a c h p = p
no_sign (fin false m e) a c h p = true≢false (sym h.0)

not-nan : (v : Float) → T (positive v) → T (not (is_nan v))
unfolding is_nan
not-nan nan p = p
not-nan (inf s) p = tt
not-nan (fin s m e) p = tt

Shaped : Format → Float → Type 0
Shaped f v = (m : ℕ) × (t : ℕ) × Shape f v m t

finite_shape : (f : Format) (E t : ℕ) → t < hid f → E < ones f → T (positive (of_fields f false E t)) → Shaped f (of_fields f false E t)
unfolding Shaped of_fields
finite_shape f zero zero h l p = absurd p
finite_shape f zero (suc t) h l p = let w = prec f in (suc t * 2 ^ shift f w (suc t), low f - shift f w (suc t), shape_subnormal f w (suc t) (le_refl w) (zero-lt-suc t) h)
finite_shape f (suc E) t h l p = (t + hid f, suc E + (low f - 1), shape_normal f (suc E) t h (suc-le-suc zero-le) l)

shape_at : (f : Format) (s : Bool) (E t : ℕ) → t < hid f → E ≤ ones f → T (positive (of_fields f s E t)) → Shaped f (of_fields f s E t)
shape_at f s E t h l p = elim (eq-or-lt_of_le l) [
  | inl e ↦ absurd (subst (λ (v : Float). T (positive v)) (infinite_at f s E t e (not-nan (of_fields f s E t) p)) p)
  | inr g ↦ go s g p
]
  where
    go : (s : Bool) → E < ones f → T (positive (of_fields f s E t)) → Shaped f (of_fields f s E t)
    go true g p = absurd (no_sign (of_fields f true E t) (significand f E t * 2 ^ (E - 1)) (2 ^ low f) (finite_at f true E t g) p)
    go false g p = finite_shape f E t h g p

shape_of : (f : Format) (x : Float) → T (fits f x) → T (positive x) → Shaped f x
shape_of f x h p =
    let b = to_bits f x in
    subst (Shaped f) (read f x h)
    (shape_at f (leb (top f) b) (b % top f / hid f) (b % hid f) (digits_in f b) (field_in f b) (subst (λ (v : Float). T (positive v)) (sym (read f x h)) p))

module _ (f : Format) (x : Float) (h : T (fits f x)) (p : T (positive x)) where
  -- x is m * 2 ^ t of 1 / 4 ^ low
  pub units_of : (m : ℕ) × (t : ℕ) × (num x * 4 ^ low f ≡ m * 2 ^ t * den x) × Shape f x m t
  unfolding Shaped
  units_of =
      let z = shape_of f x h p in
      let s = z.2 in
      let a = s.4.0 in
      (z.0, z.1, scaled (num x) (den x) a (low f) (value→cross x a (2 ^ low f) s.4.2) ∙ ap (λ (y : ℕ). y * den x) s.4.3, s)

  pub quotient_exact : num x * 4 ^ low f / den x * den x ≡ num x * 4 ^ low f
  quotient_exact =
      let z = units_of in
      ap (λ (y : ℕ). y / den x * den x) z.2 ∙ ap (λ (y : ℕ). y * den x) (mul-div_cancel (z.0 * 2 ^ z.1) (den_pos x)) ∙ sym z.2

  pub nearest-root : NearestRoot f (num x) (den x) (sqrt_at f x)
  nearest-root =
      let z = units_of in
      let m = z.0 in
      let t = z.1 in
      let s = z.3 in
      subst (λ (v : Float). NearestRoot f (num x) (den x) v) (sym (shape_root f x m t s)) (nearest-at f m t s.0 s.1 s.2 s.3 (num x) (den x) (den_pos x) z.2)

-- ---- there is only one

-- √(y / d) is below 2 ^ prec units of 2 ^ k
short : (f : Format) (k a y d : ℕ) → a < 2 ^ prec f → 4 * y < (2 * a + 1) * (2 * a + 1) * 4 ^ k * d → y < hid f * hid f * 4 ^ suc k * d
short f k a y d l g =
    let h = hid f in
    let b : 2 * a + 1 ≤ 4 * h = under a (2 ^ prec f) h (twice_hid f) l in
    quarter y (h * h * 4 ^ suc k * d)
    (lt_of_lt_of_le g (le_trans (mul-le-mul_right d (mul-le-mul_right (4 ^ k) (mul-le-mul b b))) (le_of_eq (same h (4 ^ k) (4 ^ suc k) (pow-suc 4 k)))))
  where
    quarter : (a b : ℕ) → 4 * a < 4 * b → a < b
    quarter a b l = omega arith

    under : (a z h : ℕ) → z ≡ 2 * h → a < z → 2 * a + 1 ≤ 4 * h
    under a z h e l = omega arith

    same : (h u v : ℕ) → v ≡ u * 4 → 4 * h * (4 * h) * u * d ≡ 4 * (h * h * v * d)
    same h u v e = rw e (simp (mul_assoc, mul_comm, mul_left_comm))

-- so there is one number of places
places-le : (f : Format) (n d : ℕ) (r s : Float) (p : NearestRoot f n d r) (q : NearestRoot f n d s) → p.places ≤ q.places
places-le f n d r s p q =
    let y = n * 4 ^ low f in
    le_of_suc-le-suc
    (lt_of_not-le (λ (g : suc q.places ≤ p.places).
    lt_irrefl y
    (lt_of_lt_of_le (short f q.places q.digits y d q.fine q.below) (le_trans (mul-le-mul_right d (mul-le-mul_left (hid f * hid f) (pow-le-pow_right (zero-lt-suc 3) g))) p.full))))

digits_le : (a b u d y : ℕ) → (2 * a - 1) * (2 * a - 1) * u * d < y → y < (2 * b + 1) * (2 * b + 1) * u * d → a ≤ b
digits_le a b u d y l g = omega (arith, lt_of_not-le (λ (w : 2 * b + 1 ≤ 2 * a - 1). not-le_of_lt (lt_of_mul-lt-mul_right u (lt_of_mul-lt-mul_right d (lt_of_lt_of_le l (le_of_lt g)))) (mul-le-mul w w)))

pub nearest-only : (f : Format) (n d : ℕ) (r s : Float) → NearestRoot f n d r → NearestRoot f n d s → r ≡ s
nearest-only f n d r s p q =
    let y = 4 * (n * 4 ^ low f) in
    let k : p.places ≡ q.places = le_antisymm (places-le f n d r s p q) (places-le f n d s r q p) in
    let a : p.digits ≡ q.digits =
    le_antisymm
    (digits_le p.digits q.digits (4 ^ q.places) d y (subst (λ (i : ℕ). (2 * p.digits - 1) * (2 * p.digits - 1) * 4 ^ i * d < y) k p.above) q.below)
    (digits_le q.digits p.digits (4 ^ q.places) d y q.above (subst (λ (i : ℕ). y < (2 * p.digits + 1) * (2 * p.digits + 1) * 4 ^ i * d) k p.below)) in
    same_value f r s false (q.digits * 2 ^ q.places) p.held q.held
    (subst (λ (i : ℕ). HasValue r false (q.digits * 2 ^ i) (2 ^ low f)) k (subst (λ (i : ℕ). HasValue r false (i * 2 ^ p.places) (2 ^ low f)) a p.value))
    q.value
