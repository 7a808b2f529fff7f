-- A value of either format that is finite and above zero as m * 2 ^ t of 1 / 4 ^ low, with an m of prec digits, by the fields of its pattern. Assumes nothing.
use Rattle.std.proofs.Common.{◌≡◌, ℕ, zero, suc, ◌+◌, ◌-◌, ◌*◌, ◌/◌, ◌^◌, ◌<◌, ◌≤◌, true, false, ℤ, sym, ap, ◌∙◌, subst, true≢false, lt_of_lt_of_le, le-add_right, lt_of_le_of_lt, lt_irrefl, mul-le-mul_right, mul_assoc, add_comm, mul-pos, zero-mul, mul-one, mul_right_comm, mul-div_cancel, le-add_left, arith, pow_pos, pow_mono, pow-add, shl_lt}
use lib.Count.{count_leading_zeros, leading_top}
use lib.Ieee.{Float, nan, inf, fin, Format, prec, emax, low, up, down, hid, ones, of_fields}
use lib.Ieee.Fits.{two, reach, down_pos}
use lib.Ieee.Exact.{HasValue}
use Rattle.float.specs.Root.{root_at, sqrt_at}
use Rattle.float.proofs.Fields.{finite_at}
use Rattle.float.proofs.Pattern.{join, four_pow, twice_hid, pow_lt_back}

-- ---- a value's root, by the number of least values that it is

no_size : (m a d : ℕ) → m ≡ 0 → m ≡ a * d → 0 < a → 0 < d → ⊥
no_size m a d z e A D = lt_irrefl 0 (subst (λ (x : ℕ). 0 < x) (sym e ∙ z) (mul-pos A D))

no_zero : (e : ℤ) (a l : ℕ) → 0 * up e * l ≡ a * down e → 0 < a → ⊥
no_zero e a l h A = no_size (0 * up e * l) a (down e) (ap (λ (x : ℕ). x * l) (zero-mul (up e)) ∙ zero-mul l) h A (down_pos e)

-- n / d in units of 1 / 4 ^ l, where it is a whole number of 1 / 2 ^ l: that is exact
pub scaled : (n d a l : ℕ) → n * 2 ^ l ≡ a * d → n * 4 ^ l ≡ a * 2 ^ l * d
scaled n d a l h = ap (λ (x : ℕ). n * x) (four_pow l) ∙ sym (mul_assoc n (2 ^ l) (2 ^ l)) ∙ ap (λ (x : ℕ). x * 2 ^ l) h ∙ mul_right_comm a d (2 ^ l)

root_of : (f : Format) (v : Float) (a : ℕ) → HasValue v false a (2 ^ low f) → 0 < a → sqrt_at f v ≡ root_at f (a * 2 ^ low f)
unfolding sqrt_at
root_of f nan a h A = absurd h
root_of f (inf s) a h A = absurd h
root_of f (fin true m e) a h A = absurd (true≢false h.0)
root_of f (fin false zero e) a h A = absurd (no_zero e a (2 ^ low f) h.1 A)
root_of f (fin false (suc m) e) a h A = ap (root_at f) (ap (λ (x : ℕ). x / down e) (scaled (suc m * up e) (down e) a (low f) h.1) ∙ mul-div_cancel (a * 2 ^ low f) (down_pos e))

-- ---- the two shapes

-- A value's field E means 2 ^ (E - 1) least values, which are 2 ^ (E - 1 + low) of 1 / 4 ^ low. A subnormal's digits are shifted by less than prec places, so that they too have a leading one.
abbrev pub raised : Format → ℕ
raised f = low f - suc (prec f)

-- m has prec digits, t is no less than a subnormal's and below the infinity's, and v is a least values
abbrev pub Shape : Format → Float → ℕ → ℕ → Type 0
Shape f v m t = (hid f ≤ m) × (m < 2 ^ prec f) × (raised f ≤ t) × (t < low f + 2 * emax f) × ((a : ℕ) × (0 < a) × HasValue v false a (2 ^ low f) × (a * 2 ^ low f ≡ m * 2 ^ t))

pub shape_root : (f : Format) (v : Float) (m t : ℕ) → Shape f v m t → sqrt_at f v ≡ root_at f (m * 2 ^ t)
shape_root f v m t z = root_of f v z.4.0 z.4.2 z.4.1 ∙ ap (root_at f) z.4.3

pub shape_normal : (f : Format) (E t : ℕ) → t < hid f → 1 ≤ E → E < ones f → Shape f (of_fields f false E t) (t + hid f) (E + (low f - 1))
shape_normal f zero t h l g = absurd (lt_irrefl 0 l)
shape_normal f (suc E) t h l g = (
  le-add_left (hid f) t,
  omega (arith, twice_hid f),
  omega (arith, two f, reach f),
  omega (arith, two f, reach f),
  (
    (hid f + t) * 2 ^ (suc E - 1),
    mul-pos (lt_of_lt_of_le (pow_pos (prec f - 1)) (le-add_right (hid f) t)) (pow_pos (suc E - 1)),
    finite_at f false (suc E) t g,
    join (hid f + t) (suc E - 1) (low f) ∙ ap (λ (x : ℕ). x * 2 ^ (suc E - 1 + low f)) (add_comm (hid f) t) ∙ ap (λ (x : ℕ). (t + hid f) * 2 ^ x) (omega (arith, two f, reach f)),
  ),
)

-- how far a subnormal's leading digit is from its place, where t is a number of w bits
abbrev pub shift : Format → ℕ → ℕ → ℕ
shift f w t = count_leading_zeros w t - (w - prec f)

shift_of : (f : Format) (w t : ℕ) → prec f ≤ w → 0 < t → t < hid f → (w - prec f ≤ count_leading_zeros w t) × (shift f w t < prec f) × (hid f ≤ t * 2 ^ shift f w t) × (t * 2 ^ shift f w t < 2 ^ prec f)
shift_of f w t W P h =
    let z = leading_top w t P (lt_of_lt_of_le h (pow_mono (omega arith))) in
    let j = z.0 in
    let n = count_leading_zeros w t in
    let s = shift f w t in
    let J : j < prec f - 1 = pow_lt_back j (prec f - 1) (lt_of_le_of_lt z.2 h) in
    let e : n + suc j ≡ w = z.1 in (
      many (prec f) n j e J,
      few (prec f) n j e J,
      subst (λ (x : ℕ). 2 ^ x ≤ t * 2 ^ s) (sum (prec f) n j W e J) (subst (λ (x : ℕ). x ≤ t * 2 ^ s) (sym (pow-add 2 j s)) (mul-le-mul_right (2 ^ s) z.2)),
      subst (λ (x : ℕ). t * 2 ^ s < 2 ^ x) (next (prec f) n j W e J) (shl_lt (suc j) s z.3),
    )
  where
    many : (p n j : ℕ) → n + suc j ≡ w → j < p - 1 → w - p ≤ n
    many p n j e l = omega arith

    few : (p n j : ℕ) → n + suc j ≡ w → j < p - 1 → n - (w - p) < p
    few p n j e l = omega arith

    sum : (p n j : ℕ) → p ≤ w → n + suc j ≡ w → j < p - 1 → j + (n - (w - p)) ≡ p - 1
    sum p n j g e l = omega arith

    next : (p n j : ℕ) → p ≤ w → n + suc j ≡ w → j < p - 1 → suc j + (n - (w - p)) ≡ p
    next p n j g e l = omega arith

pub shape_subnormal : (f : Format) (w t : ℕ) → prec f ≤ w → 0 < t → t < hid f → Shape f (of_fields f false 0 t) (t * 2 ^ shift f w t) (low f - shift f w t)
shape_subnormal f w t W P h =
    let z = shift_of f w t W P h in
    let s = shift f w t in
    let l : s < prec f = z.1 in (
      z.2,
      z.3,
      omega (arith, two f, reach f),
      omega (arith, two f, reach f),
      (t * 2 ^ 0, mul-pos P (pow_pos 0), finite_at f false 0 t (omega arith), ap (λ (x : ℕ). x * 2 ^ low f) (mul-one t) ∙ sym (join t s (low f - s) ∙ ap (λ (x : ℕ). t * 2 ^ x) (all s (low f) (omega (arith, two f, reach f))))),
    )
  where
    all : (s l : ℕ) → s ≤ l → s + (l - s) ≡ l
    all s l h = omega arith
