-- The float that is built from a sign, an exponent's field and digits is the rounding of a fraction: `built`, for either format, on which `narrow` rests.
-- A pattern without its sign is k * 2 ^ (prec - 1) + q for q * 2 ^ k units of the format's least value: the leading digit of q adds one to the field k.
-- So a q that was rounded up to 2 ^ prec carries into the field, and past the last field the sum is the infinity's pattern. Assumes nothing.
use Rattle.std.proofs.Common.{◌≡◌, ℕ, zero, suc, ◌+◌, ◌-◌, ◌*◌, ◌/◌, ◌^◌, ◌<◌, ◌≤◌, min, Bool, true, false, cond, not, T, ltb, ◌⊎◌, sym, refl, ap, ◌∙◌, subst, inl, inr, le_trans, le_of_eq, le_refl, lt_of_lt_of_le, lt_of_le_of_lt, le_of_lt, add_assoc, lt_irrefl, mul-le-mul_right, zero-lt-suc, mul_assoc, suc-mul, mul_comm, div-lt_iff_lt-mul, add-mul, le_antisymm, eq-or-lt_of_le, mul-le-mul_left, mul-lt-mul_of_pos_right, mul-pos, one-mul, pow-suc, lt_of_not-le, le-div_iff_mul-le, zero-add, zero-mul, mul-one, div-one, mul-div_cancel, mul_left_comm, arith, ltb→lt, nltb→le, pow_pos, pow_mono, pow-add, shl_lt}
use native.Mathlib.Nat.{pow-succ', div-div-eq-div-mul}
use native.Mathlib.Decide.{dec_le}
use lib.Ieee.{Float, nan, inf, fin, Format, prec, emax, low, down, size, odd, units, round, hid, ones, top, of_bits, nan_bits, to_bits, fits, is_nan}
use lib.Ieee.Digits.{size-lt, size-le}
use lib.Ieee.Fits.{two, two-le_pos, down_pos, round-fits, round_is}
use lib.Ieee.Bits.{of_bits-to_bits, nan_bits_is}
use lib.Ieee.Exact.{HasValue, odd_sign}
use lib.Ieee.Nearest.{closest, closest_same, div_same}
use lib.Ieee.Order.{kept, drop}
use Rattle.float.proofs.Closest.{closest_le, closest_ge}

-- ---- powers of two and digits

pub pow_lt_back : (i j : ℕ) → 2 ^ i < 2 ^ j → i < j
pow_lt_back i j h = lt_of_not-le (λ (g : j ≤ i). lt_irrefl (2 ^ i) (lt_of_lt_of_le h (pow_mono g)))

pub product_lt : (i j : ℕ) {a b : ℕ} → a < 2 ^ i → b < 2 ^ j → a * b < 2 ^ (i + j)
product_lt i j {a} {b} h l = subst (λ (x : ℕ). a * b < x) (sym (pow-add 2 i j)) (lt_of_le_of_lt (mul-le-mul_left a (le_of_lt l)) (mul-lt-mul_of_pos_right h (pow_pos j)))

pub join : (m i j : ℕ) → m * 2 ^ i * 2 ^ j ≡ m * 2 ^ (i + j)
join m i j = mul_assoc m (2 ^ i) (2 ^ j) ∙ ap (λ (x : ℕ). m * x) (sym (pow-add 2 i j))

pub four_pow : (k : ℕ) → 4 ^ k ≡ 2 ^ k * 2 ^ k
four_pow zero = refl
four_pow (suc k) = pow-suc 4 k ∙ ap (λ (x : ℕ). x * 4) (four_pow k) ∙ sym (ap (λ (x : ℕ). x * x) (pow-suc 2 k) ∙ four (2 ^ k))
  where
    four : (x : ℕ) → x * 2 * (x * 2) ≡ x * x * 4
    four x = simp (mul_assoc, mul_comm, mul_left_comm) (omega arith)

size_exact : (n j : ℕ) → 2 ^ j ≤ n → n < 2 ^ suc j → size n ≡ suc j
size_exact n j lo hi = le_antisymm (size-le n (suc j) hi) (pow_lt_back j (size n) (lt_of_le_of_lt lo (size-lt n)))

-- 2 ^ p is twice the weight of the leading digit
pub twice : (p : ℕ) → 0 < p → 2 ^ p ≡ 2 * 2 ^ (p - 1)
twice p h = ap (λ (x : ℕ). 2 ^ x) (go p h) ∙ pow-succ' 2 (p - 1)
  where
    go : (p : ℕ) → 0 < p → p ≡ suc (p - 1)
    go p h = omega arith

pub twice_hid : (f : Format) → 2 ^ prec f ≡ 2 * hid f
twice_hid f = twice (prec f) (two-le_pos (prec f) (two f))

-- ---- a units are written as the pattern w, in a format of p digits

abbrev Written : ℕ → ℕ → ℕ → Type 0
Written p a w = ((a ≡ w) × (w < 2 ^ (p - 1))) ⊎ ((k : ℕ) × (q : ℕ) × (2 ^ (p - 1) ≤ q) × (q < 2 ^ p) × (a ≡ q * 2 ^ k) × (w ≡ k * 2 ^ (p - 1) + q))

-- where the leading digit is not among q's, no digit was dropped
plain : (h q k : ℕ) → (0 < k → h ≤ q) → ¬ (h ≤ q) → (q * 2 ^ k ≡ k * h + q) × (k * h + q < h)
plain h q zero g n =
    let e : 0 * h + q ≡ q = ap (λ (x : ℕ). x + q) (zero-mul h) ∙ zero-add q in
    (mul-one q ∙ sym e, subst (λ (x : ℕ). x < h) (sym e) (lt_of_not-le n))
plain h q (suc k) g n = absurd (n (g (zero-lt-suc k)))

written : (p q k : ℕ) → 0 < p → q ≤ 2 ^ p → (0 < k → 2 ^ (p - 1) ≤ q) → Written p (q * 2 ^ k) (k * 2 ^ (p - 1) + q)
written p q k P h g = go (dec_le (2 ^ (p - 1)) q) (eq-or-lt_of_le h)
  where
    half : (x y : ℕ) → 0 < y → x ≡ 2 * y → y < x
    half x y l e = omega arith

    carried : (x y z : ℕ) → x ≡ z + y → y + y ≡ 2 * y → z + 2 * y ≡ x + y
    carried x y z d e = omega arith

    double : (y : ℕ) → y + y ≡ 2 * y
    double y = omega arith

    go : Dec (2 ^ (p - 1) ≤ q) → (q ≡ 2 ^ p) ⊎ (q < 2 ^ p) → Written p (q * 2 ^ k) (k * 2 ^ (p - 1) + q)
    go (yes l) (inr t) = inr (k, q, l, t, refl, refl)
    go (yes l) (inl e) =
        let y = 2 ^ (p - 1) in
        let e2 : q ≡ 2 * y = e ∙ twice p P in
        inr (
          suc k,
          y,
          le_refl y,
          half (2 ^ p) y (pow_pos (p - 1)) (twice p P),
          ap (λ (x : ℕ). x * 2 ^ k) e2 ∙ ap (λ (x : ℕ). x * 2 ^ k) (mul_comm 2 y) ∙ mul_assoc y 2 (2 ^ k) ∙ ap (λ (x : ℕ). y * x) (sym (pow-succ' 2 k)),
          ap (λ (x : ℕ). k * y + x) e2 ∙ carried (suc k * y) y (k * y) (suc-mul k y) (double y),
        )
    go (no n) e = inl (plain (2 ^ (p - 1)) q k g n)

-- ---- what `to_bits` writes

low-size : (z p : ℕ) → z ≤ p - 1 → z - p ≡ 0
low-size z p h = omega arith

high-size : (p k : ℕ) → 0 < p → suc (p - 1 + k) - p ≡ k
high-size p k h = omega arith

one_more : (p k : ℕ) → 0 < p → p + k ≡ suc (p - 1 + k)
one_more p k h = omega arith

-- the bounds of q * 2 ^ k, for a q of p digits
at_least : (p q k : ℕ) → 2 ^ (p - 1) ≤ q → 2 ^ (p - 1 + k) ≤ q * 2 ^ k
at_least p q k h = subst (λ (x : ℕ). x ≤ q * 2 ^ k) (sym (pow-add 2 (p - 1) k)) (mul-le-mul_right (2 ^ k) h)

field_digits : (p a w : ℕ) → 0 < p → Written p a w → (size a - p) * 2 ^ (p - 1) + a / 2 ^ (size a - p) ≡ w
field_digits p a w P (inl (e, h)) =
    ap (λ (k : ℕ). k * 2 ^ (p - 1) + a / 2 ^ k) (low-size (size a) p (size-le a (p - 1) (subst (λ (x : ℕ). x < 2 ^ (p - 1)) (sym e) h)))
    ∙ ap (λ (x : ℕ). x + a / 1) (zero-mul (2 ^ (p - 1)))
    ∙ zero-add (a / 1)
    ∙ div-one a
    ∙ e
field_digits p a w P (inr (k, q, l, t, e, e')) =
    let z : size a - p ≡ k =
    ap (λ (x : ℕ). size x - p) e
    ∙ ap (λ (x : ℕ). x - p) (size_exact (q * 2 ^ k) (p - 1 + k) (at_least p q k l) (subst (λ (x : ℕ). q * 2 ^ k < 2 ^ x) (one_more p k P) (shl_lt p k t)))
    ∙ high-size p k P in
    ap (λ (x : ℕ). x * 2 ^ (p - 1) + a / 2 ^ x) z ∙ ap (λ (x : ℕ). k * 2 ^ (p - 1) + x) (ap (λ (x : ℕ). x / 2 ^ k) e ∙ mul-div_cancel q (pow_pos k)) ∙ sym e'

to_bits_of : (f : Format) (v : Float) (s : Bool) (a : ℕ) → HasValue v s a (2 ^ low f) → to_bits f v ≡ cond s (top f) 0 + (size a - prec f) * hid f + a / 2 ^ (size a - prec f)
unfolding to_bits
to_bits_of f nan s a h = absurd h
to_bits_of f (inf t) s a h = absurd h
to_bits_of f (fin t m e) s a (h, k) =
    ap (λ (x : ℕ). cond t (top f) 0 + (size x - prec f) * hid f + x / 2 ^ (size x - prec f)) (ap (λ (x : ℕ). x / down e) k ∙ mul-div_cancel a (down_pos e))
    ∙ ap (λ (x : Bool). cond x (top f) 0 + (size a - prec f) * hid f + a / 2 ^ (size a - prec f)) h

-- so a value of the format is the only one of its size and sign
pub same_value : (f : Format) (v w : Float) (s : Bool) (a : ℕ) → T (fits f v) → T (fits f w) → HasValue v s a (2 ^ low f) → HasValue w s a (2 ^ low f) → v ≡ w
same_value f v w s a p q h k = sym (of_bits-to_bits f v p) ∙ ap (of_bits f) (to_bits_of f v s a h ∙ sym (to_bits_of f w s a k)) ∙ of_bits-to_bits f w q

-- ---- the infinity's pattern is where the values end

-- without its sign
abbrev pub last : Format → ℕ
last f = ones f * hid f

module _ (f : Format) (a w : ℕ) where
  abbrev h : ℕ
  h = hid f

  first : (e : ℕ) → 1 ≤ 2 * e + 1
  first e = omega arith

  under_last : a < 2 ^ (low f + suc (emax f)) → Written (prec f) a w → w ≤ ones f * h
  under_last l (inl (e, g)) = le_trans (le_of_lt g) (le_trans (le_of_eq (sym (one-mul h))) (mul-le-mul_right h (first (emax f))))
  under_last l (inr (k, q, g, t, e, e')) =
      let b : prec f - 1 + k < low f + suc (emax f) = pow_lt_back (prec f - 1 + k) (low f + suc (emax f)) (lt_of_le_of_lt (at_least (prec f) q k g) (subst (λ (x : ℕ). x < 2 ^ (low f + suc (emax f))) e l)) in
      le_trans (le_of_eq e')
      (le_trans (step (k * h) q h (2 ^ prec f) (twice_hid f) t)
      (le_trans (le_of_eq (sym (add-mul k 2 h))) (mul-le-mul_right h (room (prec f) (emax f) k (two f) b))))
    where
      step : (x q h z : ℕ) → z ≡ 2 * h → q < z → x + q ≤ x + 2 * h
      step x q h z e l = omega arith

      room : (p m k : ℕ) → 2 ≤ p → p - 1 + k < m + p - 2 + suc m → k + 2 ≤ 2 * m + 1
      room p m k u l = omega arith

  over_last : 2 ^ (low f + suc (emax f)) ≤ a → Written (prec f) a w → ones f * h ≤ w
  over_last l (inl (e, g)) = absurd (none (prec f) (emax f) (two f) (pow_lt_back (low f + suc (emax f)) (prec f - 1) (lt_of_le_of_lt l (subst (λ (x : ℕ). x < h) (sym e) g))))
    where
      none : (p m : ℕ) → 2 ≤ p → m + p - 2 + suc m < p - 1 → ⊥
      none p m u l = omega arith
  over_last l (inr (k, q, g, t, e, e')) =
      let b : low f + suc (emax f) < prec f + k = pow_lt_back (low f + suc (emax f)) (prec f + k) (lt_of_le_of_lt (subst (λ (x : ℕ). 2 ^ (low f + suc (emax f)) ≤ x) e l) (shl_lt (prec f) k t)) in
      le_trans (mul-le-mul_right h (room (prec f) (emax f) k (two f) b)) (le_trans (le_of_eq (suc-mul k h)) (le_trans (step (k * h) q h g) (le_of_eq (sym e'))))
    where
      step : (x q h : ℕ) → h ≤ q → x + h ≤ x + q
      step x q h l = omega arith

      room : (p m k : ℕ) → 2 ≤ p → m + p - 2 + suc m < p + k → 2 * m + 1 ≤ suc k
      room p m k u l = omega arith

-- a field i and the digits q, which may have been rounded up to 2 ^ prec, are no more than the infinity's pattern
pub in_reach : (f : Format) (i q : ℕ) → i + 2 ≤ ones f → q ≤ 2 ^ prec f → i * hid f + q ≤ last f
in_reach f i q l h = le_trans (step (i * hid f) (hid f) (2 ^ prec f) (twice_hid f) h) (le_trans (le_of_eq (sym (add-mul i 2 (hid f)))) (mul-le-mul_right (hid f) l))
  where
    step : (x h z : ℕ) → z ≡ 2 * h → q ≤ z → x + q ≤ x + 2 * h
    step x h z e l = omega arith

-- the pattern w with the sign s, and the infinity's where w is past it
abbrev pub pattern : Format → Bool → ℕ → ℕ
pattern f s w = cond s (top f) 0 + min w (last f)

to_bits_units : (f : Format) (s : Bool) (q k w : ℕ) → Written (prec f) (q * 2 ^ k) w → to_bits f (units f s q k) ≡ pattern f s w
unfolding units
to_bits_units f s q k w g = go (ltb (q * 2 ^ k) (2 ^ (low f + suc (emax f)))) (ltb→lt (q * 2 ^ k) (2 ^ (low f + suc (emax f)))) (nltb→le (q * 2 ^ k) (2 ^ (low f + suc (emax f))))
  where
    left : (x y : ℕ) → x ≤ y → x ≡ min x y
    left x y l = omega arith

    right : (x y : ℕ) → y ≤ x → y ≡ min x y
    right x y l = omega arith

    go : (b : Bool) → (T b → q * 2 ^ k < 2 ^ (low f + suc (emax f))) → (T (not b) → 2 ^ (low f + suc (emax f)) ≤ q * 2 ^ k)
        → to_bits f (cond b (odd (suc (prec f)) s q k (low f)) (inf s)) ≡ pattern f s w
    go true l n =
        let a = q * 2 ^ k in
        to_bits_of f (odd (suc (prec f)) s q k (low f)) s a (odd_sign (suc (prec f)) s q k (low f))
        ∙ add_assoc (cond s (top f) 0) ((size a - prec f) * hid f) (a / 2 ^ (size a - prec f))
        ∙ ap (λ (x : ℕ). cond s (top f) 0 + x) (field_digits (prec f) a w (two-le_pos (prec f) (two f)) g ∙ left w (last f) (under_last f a w (l tt) g))
    go false l n = unfold to_bits in ap (λ (x : ℕ). cond s (top f) 0 + x) (right w (last f) (over_last f (q * 2 ^ k) w (n tt) g))

-- ---- a fraction's rounding, by any fraction a / b that it equals in units of 2 ^ k least values, if its whole part has the format's digits

drop_is : (z p k : ℕ) → z ≤ p + k → (0 < k → p - 1 + k < z) → z - p ≡ k
drop_is z p zero h g = omega arith
drop_is z p (suc k) h g = go (g (zero-lt-suc k))
  where
    go : p - 1 + suc k < z → z - p ≡ suc k
    go l = omega arith

module _ (f : Format) (s : Bool) (num den a b k : ℕ) (D : 0 < den) (B : 0 < b) (same : num * 2 ^ low f * b ≡ a * (den * 2 ^ k)) (fine : a < 2 ^ prec f * b) (lead : 0 < k → hid f * b ≤ a) where
  u : 0 < den * 2 ^ k
  u = mul-pos D (pow_pos k)

  whole : num * 2 ^ low f / den / 2 ^ k ≡ a / b
  whole = div-div-eq-div-mul (num * 2 ^ low f) den (2 ^ k) ∙ div_same (num * 2 ^ low f) (den * 2 ^ k) a b u B same

  digits_lt : a / b < 2 ^ prec f
  digits_lt = (div-lt_iff_lt-mul B).1 fine

  digits-ge : 0 < k → hid f ≤ a / b
  digits-ge l = (le-div_iff_mul-le B).1 (lead l)

  dropped : size (num * 2 ^ low f / den) - prec f ≡ k
  dropped =
      let n = num * 2 ^ low f / den in
      drop_is (size n) (prec f) k
      (size-le n (prec f + k) (subst (λ (x : ℕ). n < x) (sym (pow-add 2 (prec f) k)) ((div-lt_iff_lt-mul (pow_pos k)).0 (subst (λ (x : ℕ). x < 2 ^ prec f) (sym whole) digits_lt))))
      (λ l.
      pow_lt_back (prec f - 1 + k) (size n)
      (lt_of_le_of_lt
      (subst (λ (x : ℕ). x ≤ n) (sym (pow-add 2 (prec f - 1) k)) ((le-div_iff_mul-le (pow_pos k)).0 (subst (λ (x : ℕ). hid f ≤ x) (sym whole) (digits-ge l))))
      (size-lt n)))

  pub round_by : round f s num den ≡ units f s (closest a b) k
  round_by =
      round_is f s num den
      ∙ ap (λ (x : ℕ). units f s (closest (num * 2 ^ low f) (den * 2 ^ x)) x) dropped
      ∙ ap (λ (x : ℕ). units f s x k) (closest_same (num * 2 ^ low f) (den * 2 ^ k) a b u B same)

  pub built : of_bits f (pattern f s (k * hid f + closest a b)) ≡ round f s num den
  built =
      ap (of_bits f)
      (sym
      (ap (to_bits f) round_by
      ∙ to_bits_units f s (closest a b) k (k * hid f + closest a b)
      (written (prec f) (closest a b) k (two-le_pos (prec f) (two f)) (closest_le a b (2 ^ prec f) B fine) (λ l. closest_ge a b (hid f) B (lead l)))))
      ∙ of_bits-to_bits f (round f s num den) (round-fits f s num den)

-- ---- no rounding is a NaN

units_no_nan : (f : Format) (s : Bool) (q k : ℕ) → is_nan (units f s q k) ≡ false
unfolding units is_nan
units_no_nan f s q k = go (ltb (q * 2 ^ k) (2 ^ (low f + suc (emax f)))) q
  where
    go : (b : Bool) (q : ℕ) → is_nan (cond b (odd (suc (prec f)) s q k (low f)) (inf s)) ≡ false
    go true zero = unfold odd in refl
    go true (suc q) = unfold odd in refl
    go false q = refl

pub round_no_nan : (f : Format) (s : Bool) (num den : ℕ) → T (not (is_nan (round f s num den)))
round_no_nan f s num den = subst (λ (b : Bool). T (not b)) (sym (ap is_nan (round_is f s num den) ∙ units_no_nan f s (kept (prec f) (num * 2 ^ low f) den) (drop (prec f) (num * 2 ^ low f) den))) tt

-- what `from_bits` asks of a pattern
pub may_read : (f : Format) (n : ℕ) (v : Float) → of_bits f n ≡ v → T (not (is_nan v)) → T (not (nan_bits f n))
may_read f n v e h = subst (λ (b : Bool). T (not b)) (sym (nan_bits_is f n ∙ ap is_nan e)) h
