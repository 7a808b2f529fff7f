-- `float::narrow` meets its contract. Where the arms meet, what they leave is the pattern that `Narrowing.antt` says, by the arm that was taken. Assumes nothing.
use Rattle.std.proofs.Common.{◌≡◌, ℕ, suc, ◌+◌, ◌-◌, ◌*◌, ◌/◌, ◌%◌, ◌^◌, ◌<◌, ◌≤◌, not, T, leb, Bool, ◌⊎◌, sym, ap, ◌∙◌, subst, inl, inr, ⊎_elim, eq-or-lt_of_le, lt_of_not-le, arith}
use native.Mathlib.Decide.{dec_le}
use lib.Ieee.{Float, binary32, binary64, prec, hid, ones, top, is_nan, fits, of_bits, to_bits}
use lib.Ieee.Bits.{to_bits-lt}
use lib.Ieee.Nearest.{closest}
use Rattle.float.specs.Narrow.{fewer, rebias, narrow_rest, narrow_at, narrow_of}
use Rattle.float.proofs.Compare.{is_none}
use Rattle.float.proofs.Fields.{at, read, digits_in, field_in, sign_is}
use Rattle.float.proofs.Narrowing.{Narrowed, to_zero, to_subnormal, to_normal, to_infinite, to_last, narrow_no_nan, rest_zero, rest_subnormal, rest_infinite}
use Rattle.float.proofs.Pattern.{last, may_read}
use Rattle.float.proofs.narrow.Goals as goal
use Rattle.float.proofs.narrow.Goals.{in-897-to-1150, in_default, in_default-via-then-exponent-lt897, in_default-via-else-exponent-lt897+else-exponent-lt1151}

-- ---- the exponent's field and the digits of the pattern b

abbrev E : ℕ → ℕ
E b = b % top binary64 / hid binary64

abbrev t : ℕ → ℕ
t b = b % hid binary64

digits-is : (b : ℕ) → b % top binary64 % hid binary64 ≡ t b
digits-is b = omega arith

whole_is : (b : ℕ) → rebias < E b → b % top binary64 - rebias * hid binary64 ≡ (E b - suc rebias) * hid binary64 + (t b + hid binary64)
whole_is b l = omega arith

-- ---- what is known of an x that is no NaN

module _ (x : Float) (held : T (fits binary64 x)) (no_nan : T (not (is_nan x))) where
  abbrev b : ℕ
  b = to_bits binary64 x

  is_x : at binary64 b ≡ x
  is_x = read binary64 x held

  digits : t b < hid binary64
  digits = digits_in binary64 b

  -- n is the pattern, without its sign, of what `narrow_of` gives
  abbrev Here : ℕ → Type 0
  Here n = Narrowed (leb (top binary64) b) (E b) (t b) digits n

  in-last : Here (last binary32) ⊎ (E b < ones binary64)
  in-last = go (eq-or-lt_of_le (field_in binary64 b))
    where
      go : (E b ≡ ones binary64) ⊎ (E b < ones binary64) → Here (last binary32) ⊎ (E b < ones binary64)
      go (inl e) = inl (to_last (leb (top binary64) b) (E b) (t b) digits e (subst (λ (v : Float). T (not (is_nan v))) (sym is_x) no_nan))
      go (inr l) = inr l

  -- what is no normal value of binary32
  rest-low : E b ≤ rebias → Here (narrow_rest (b % top binary64))
  rest-low h = elim (dec_le (E b + prec binary32) rebias) [
    | yes l ↦ subst Here (rest_zero (b % top binary64) l) (to_zero (leb (top binary64) b) (E b) (t b) digits l)
    | no n ↦
        let l : rebias < E b + prec binary32 = lt_of_not-le n in
        subst Here (ap (λ (z : ℕ). closest (z + hid binary64) (2 ^ (suc (rebias + fewer) - E b))) (sym (digits-is b)) ∙ rest_subnormal (b % top binary64) l h) (to_subnormal (leb (top binary64) b) (E b) (t b) digits l h)
  ]

  rest-high : ones binary32 + rebias ≤ E b → Here (narrow_rest (b % top binary64))
  rest-high h = subst Here (rest_infinite (b % top binary64) (omega arith)) (⊎_elim (λ k. k) (λ l. to_infinite (leb (top binary64) b) (E b) (t b) digits h l) in-last)

  -- the arm of the normal values, and the other
  in-normal : (n : ℕ) → rebias < E b → E b < ones binary32 + rebias → n ≡ closest (b % top binary64 - rebias * hid binary64) (2 ^ fewer) → Here n
  in-normal n l h e = subst Here (sym e) (to_normal (leb (top binary64) b) (E b) (t b) digits (b % top binary64 - rebias * hid binary64) (whole_is b l) l h)

  in-rest : (n : ℕ) → (E b ≤ rebias) ⊎ (ones binary32 + rebias ≤ E b) → n ≡ narrow_rest (b % top binary64) → Here n
  in-rest n h e = subst Here (sym e) (⊎_elim rest-low rest-high h)

  -- with the sign's bit
  abbrev signed : ℕ → ℕ
  signed n = b / top binary64 * top binary32 % 2 ^ 64 + n

  few : b < 2 * top binary64
  few = to_bits-lt binary64 x held

  narrowed : (n : ℕ) → Here n → of_bits binary32 (signed n) ≡ narrow_of x
  unfolding narrow_of
  narrowed n h = ap (λ (z : ℕ). of_bits binary32 (z + n)) (small b few ∙ sign_is binary64 b (top binary32) few) ∙ h.1 ∙ ap (narrow_at binary32) is_x
    where
      small : (b : ℕ) → b < 2 * top binary64 → b / top binary64 * top binary32 % 2 ^ 64 ≡ b / top binary64 * top binary32
      small b l = omega arith

  below : (n : ℕ) → Here n → signed n < 2 ^ 32
  below n h = omega (arith, h.0, few)

-- ---- the answers

pub returns-then-is_nan : goal.returns-then-is_nan
unfolding narrow_of narrow_at of_bits
returns-then-is_nan c = sym (ap narrow_of (is_none c.args.x c.if-is_nan.ensures.value))

-- what the arms leave
module _ (c : goal.After-row_known-1) where
  fit : T (fits binary64 c.args.x)
  fit = subst T (sym c.well_formed.0.1) tt

  number : T (not (is_nan c.args.x))
  number = subst (λ (v : Bool). T (not v)) c.if-is_nan.ensures.value tt

  abbrev rounded : ℕ
  rounded = c.if-exponent-lt897.rounded

  here : Here c.args.x fit number rounded
  here = elim c.if-exponent-lt897.branch [
    | in-897-to-1150 w ↦ in-normal c.args.x fit number rounded (omega (arith, w.in-897-to-1150)) (omega (arith, w.in-897-to-1150)) (w.rounded-is ∙ w.shift_nearest-rounded.ensures)
    | in_default w ↦ in-rest c.args.x fit number rounded (elim w.in_default.branch [ in_default-via-then-exponent-lt897 v ↦ inl (omega arith) | in_default-via-else-exponent-lt897+else-exponent-lt1151 v ↦ inr (omega arith) ]) (w.rounded-is ∙ w.narrow_rest-rounded.ensures)
  ]

  value : of_bits binary32 (signed c.args.x fit number rounded) ≡ narrow_of c.args.x
  value = narrowed c.args.x fit number rounded here

pub overflow_add-result : goal.overflow_add-result
overflow_add-result c = omega (arith, below c.args.x (fit c) (number c) (rounded c) (here c))

pub overflow_cast-result : goal.overflow_cast-result
overflow_cast-result c = omega (arith, below c.args.x (fit c) (number c) (rounded c) (here c))

pub float_from_bits-result : goal.float_from_bits-result
unfolding narrow_of
float_from_bits-result c = may_read binary32 (signed c.args.x (fit c) (number c) (rounded c)) (narrow_of c.args.x) (value c) (narrow_no_nan binary32 c.args.x (number c))

pub returns : goal.returns
returns c = value c
