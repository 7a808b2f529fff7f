-- What a value's bit pattern says of it, for either format: its sign, the field of its exponent and its digits. Assumes nothing.
use Rattle.std.proofs.Common.{◌≡◌, ℕ, zero, suc, ◌+◌, ◌-◌, ◌*◌, ◌/◌, ◌%◌, ◌^◌, ◌<◌, ◌≤◌, Bool, true, false, cond, not, T, eqb, leb, sym, refl, ap, ◌∙◌, subst, le_of_suc-le-suc, mod-lt, zero-lt-suc, mul_comm, div-lt_iff_lt-mul, mul-pos, one-mul, le-div_iff_mul-le, zero-mul, arith, leb→le, pow_pos, eq-eqb, ne_eqb}
use native.Mathlib.Nat.{div-eq_of_lt}
use lib.Dec.{nleb→lt}
use lib.Ieee.{Float, nan, inf, Format, prec, emax, low, odd, fits, is_nan, hid, ones, top, of_fields, of_bits, to_bits}
use lib.Ieee.Bits.{of_bits-to_bits}
use lib.Ieee.Exact.{HasValue, odd_sign}
use Rattle.float.proofs.Pattern.{twice_hid}

-- the pattern b as a value, by its three fields
abbrev pub at : Format → ℕ → Float
at f b = of_fields f (leb (top f) b) (b % top f / hid f) (b % hid f)

of_bits-at : (f : Format) (b : ℕ) → of_bits f b ≡ at f b
unfolding of_bits
of_bits-at f b = refl

pub read : (f : Format) (x : Float) → T (fits f x) → at f (to_bits f x) ≡ x
read f x h = sym (of_bits-at f (to_bits f x)) ∙ of_bits-to_bits f x h

-- the significand: a field of 0 has no leading digit
abbrev pub significand : Format → ℕ → ℕ → ℕ
significand f zero t = t
significand f (suc x) t = hid f + t

pub significand_lt : (f : Format) (x t : ℕ) → t < hid f → significand f x t < 2 ^ prec f
significand_lt f zero t h = go (hid f) (2 ^ prec f) (twice_hid f) h
  where
    go : (a z : ℕ) → z ≡ 2 * a → t < a → t < z
    go a z e l = omega arith
significand_lt f (suc x) t h = go (hid f) (2 ^ prec f) (twice_hid f) h
  where
    go : (a z : ℕ) → z ≡ 2 * a → t < a → a + t < z
    go a z e l = omega arith

pub digits_in : (f : Format) (b : ℕ) → b % hid f < hid f
digits_in f b = mod-lt b (pow_pos (prec f - 1))

top_pos : (f : Format) → 0 < top f
top_pos f = mul-pos (pow_pos (prec f - 1)) (zero-lt-suc (ones f))

pub field_in : (f : Format) (b : ℕ) → b % top f / hid f ≤ ones f
field_in f b = le_of_suc-le-suc ((div-lt_iff_lt-mul (pow_pos (prec f - 1))).1 (subst (λ (x : ℕ). b % top f < x) (mul_comm (hid f) (suc (ones f))) (mod-lt b (top_pos f))))

-- below the last field, the value is the significand times 2 ^ (x - 1) least values
pub finite_at : (f : Format) (s : Bool) (x t : ℕ) → x < ones f → HasValue (of_fields f s x t) s (significand f x t * 2 ^ (x - 1)) (2 ^ low f)
unfolding of_fields
finite_at f s zero t h = odd_sign (prec f) s t 0 (low f)
finite_at f s (suc x) t h =
    subst (λ (v : Float). HasValue v s ((hid f + t) * 2 ^ (suc x - 1)) (2 ^ low f))
    (sym (ap (λ (c : Bool). cond c (cond (eqb t 0) (inf s) nan) (odd (prec f) s (hid f + t) x (low f))) (ne_eqb (suc x) (ones f) (no (suc x) (ones f) h))))
    (subst (λ (k : ℕ). HasValue (odd (prec f) s (hid f + t) x (low f)) s ((hid f + t) * 2 ^ k) (2 ^ low f)) (pred x) (odd_sign (prec f) s (hid f + t) x (low f)))
  where
    no : (a b : ℕ) → a < b → a ≡ b → ⊥
    no a b l e = omega arith

    pred : (x : ℕ) → x ≡ suc x - 1
    pred x = omega arith

-- the last field is an infinity's, if it is no NaN's
pub infinite_at : (f : Format) (s : Bool) (x t : ℕ) → x ≡ ones f → T (not (is_nan (of_fields f s x t))) → of_fields f s x t ≡ inf s
unfolding of_fields is_nan
infinite_at f s zero t e h = absurd (none (emax f) e)
  where
    none : (m : ℕ) → 0 ≡ 2 * m + 1 → ⊥
    none m g = omega arith
infinite_at f s (suc x) t e h = go (eqb (suc x) (ones f)) (eqb t 0) (eq-eqb (suc x) (ones f) e) h
  where
    go : (a b : Bool) → a ≡ true → T (not (is_nan (cond a (cond b (inf s) nan) (odd (prec f) s (hid f + t) x (low f))))) → cond a (cond b (inf s) nan) (odd (prec f) s (hid f + t) x (low f)) ≡ inf s
    go true true p n = refl
    go true false p n = absurd n
    go false b p n = absurd (no p)
      where
        no : false ≡ true → ⊥
        no p = subst (λ (c : Bool). T (not c)) p tt

-- the sign's bit, moved to the weight c
pub sign_is : (f : Format) (b c : ℕ) → b < 2 * top f → b / top f * c ≡ cond (leb (top f) b) c 0
sign_is f b c h = go (leb (top f) b) (leb→le (top f) b) (nleb→lt (top f) b)
  where
    one : (q : ℕ) → 1 ≤ q → q < 2 → q ≡ 1
    one q l g = omega arith

    go : (p : Bool) → (T p → top f ≤ b) → (T (not p) → b < top f) → b / top f * c ≡ cond p c 0
    go true l g = ap (λ (q : ℕ). q * c) (one (b / top f) ((le-div_iff_mul-le (top_pos f)).1 (subst (λ (x : ℕ). x ≤ b) (sym (one-mul (top f))) (l tt))) ((div-lt_iff_lt-mul (top_pos f)).1 h)) ∙ one-mul c
    go false l g = ap (λ (q : ℕ). q * c) (div-eq_of_lt (g tt)) ∙ zero-mul c
