-- `closest a b`, the whole number nearest to a / b, a half to the even one: what a number has to be for it, its bounds, and where no half can arise. Assumes nothing.
use Rattle.std.proofs.Common.{◌≡◌, ℕ, zero, suc, ◌+◌, ◌-◌, ◌*◌, ◌/◌, ◌%◌, ◌<◌, ◌≤◌, sym, refl, ap, ◌∙◌, le_trans, lt_of_le_of_lt, add_assoc, mod-lt, mul_assoc, lt-suc_self, div-lt_iff_lt-mul, add-mul, one-mul, div-add-mod', le-div_iff_mul-le, zero-add, zero-mul, add-one, arith}
use Prim.Native.Nat.{compare, Ordering}
use lib.Arith.{digits_div, digits_mod}
use lib.Ieee.{nearest}
use lib.Ieee.Fits.{nearest-le}
use lib.Ieee.Nearest.{closest, nearest-ge}
use Rattle.float.proofs.Nearest.{by_rest, nearest_none, nearest_even}

-- by the three ways in which twice the remainder can compare with the divisor
closest_by : (a b v : ℕ) → (a % b * 2 < b → v ≡ a / b) → (a % b * 2 ≡ b → v ≡ a / b + a / b % 2) → (b < a % b * 2 → v ≡ suc (a / b)) → v ≡ closest a b
closest_by a b v below tie above = by_rest (λ (w : ℕ). v ≡ w) (λ _. a / b % 2) a b below tie (λ h. above h ∙ sym (add-one (a / b))) ∙ nearest_even a b

-- less than a half is nothing
pub closest_zero : (a b : ℕ) → a * 2 < b → 0 ≡ closest a b
closest_zero a b h = sym (nearest_none (λ _. a / b % 2) a b h) ∙ nearest_even a b

-- ---- an even number of divisors more

pub closest_plus : (j a b : ℕ) → 0 < b → closest (2 * j * b + a) b ≡ 2 * j + closest a b
closest_plus j a b B =
    let q = a / b in
    let r = a % b in
    let R : r < b = mod-lt a B in
    let e : 2 * j * b + a ≡ (2 * j + q) * b + r = ap (λ (x : ℕ). 2 * j * b + x) (sym (div-add-mod' a b)) ∙ sym (add_assoc (2 * j * b) (q * b) r) ∙ ap (λ (x : ℕ). x + r) (sym (add-mul (2 * j) q b)) in
    ap (λ (x : ℕ). closest x b) e
    ∙ ap (λ (x : ℕ). nearest x (compare (((2 * j + q) * b + r) % b * 2) b)) (digits_div (2 * j + q) R)
    ∙ ap (λ (x : ℕ). nearest (2 * j + q) (compare (x * 2) b)) (digits_mod (2 * j + q) R)
    ∙ go q (compare (r * 2) b)
  where
    go : (q : ℕ) (o : Ordering) → nearest (2 * j + q) o ≡ 2 * j + nearest q o
    go q Ordering.lt = refl
    go q Ordering.eq = omega arith
    go q Ordering.gt = omega arith

-- ---- bounds

pub closest_le : (a b z : ℕ) → 0 < b → a < z * b → closest a b ≤ z
closest_le a b z B h = le_trans (nearest-le (a / b) (compare (a % b * 2) b)) ((div-lt_iff_lt-mul B).1 h)

pub closest_ge : (a b z : ℕ) → 0 < b → z * b ≤ a → z ≤ closest a b
closest_ge a b z B h = le_trans ((le-div_iff_mul-le B).1 h) (nearest-ge (a / b) (compare (a % b * 2) b))

-- ---- half of a number q that was cut, where what was cut off is something if q is odd: no tie can arise

-- the remainder by 2 * h is a + r, with a nothing or h
cut_even : (q h r v ρ : ℕ) → r < h → q % 2 ≡ 0 → v ≡ q / 2 → ρ ≡ r → (ρ * 2 < 2 * h → (q + 1) / 2 ≡ v) × (ρ * 2 ≡ 2 * h → (q + 1) / 2 ≡ v + v % 2) × (2 * h < ρ * 2 → (q + 1) / 2 ≡ suc v)
cut_even q h r v ρ R e d m = omega arith

cut_odd : (q h r v ρ : ℕ) → 0 < r → q % 2 ≡ 1 → v ≡ q / 2 → ρ ≡ h + r → (ρ * 2 < 2 * h → (q + 1) / 2 ≡ v) × (ρ * 2 ≡ 2 * h → (q + 1) / 2 ≡ v + v % 2) × (2 * h < ρ * 2 → (q + 1) / 2 ≡ suc v)
cut_odd q h r v ρ R e d m = omega arith

pub closest_cut : (w q h : ℕ) → q * h ≤ w → w < (q + 1) * h → (q % 2 ≡ 1 → q * h < w) → (q + 1) / 2 ≡ closest w (2 * h)
closest_cut w q h lo hi odd =
    let R : w - q * h < h = rest (q * h) ((q + 1) * h) (add-mul q 1 h ∙ ap (λ (x : ℕ). q * h + x) (one-mul h)) lo hi in
    go (q % 2) refl (lt_of_le_of_lt (bit q) (lt-suc_self 1)) R
  where
    rest : (x y : ℕ) → y ≡ x + h → x ≤ w → w < y → w - x < h
    rest x y e l k = omega arith

    bit : (q : ℕ) → q % 2 ≤ 1
    bit q = omega arith

    more : (x : ℕ) → x < w → 0 < w - x
    more x l = omega arith

    -- w is q / 2 * (2 * h) and a rest
    is : (e a : ℕ) → q % 2 ≡ e → e * h ≡ a → w ≡ q / 2 * (2 * h) + (a + (w - q * h))
    is e a g k = whole (q * h) (q / 2 * (2 * h)) a (ap (λ (x : ℕ). x * h) (sym (div-add-mod' q 2)) ∙ add-mul (q / 2 * 2) (q % 2) h ∙ ap (λ (x : ℕ). x + q % 2 * h) (mul_assoc (q / 2) 2 h) ∙ ap (λ (x : ℕ). q / 2 * (2 * h) + x) (ap (λ (x : ℕ). x * h) g ∙ k)) lo
      where
        whole : (x y a : ℕ) → x ≡ y + a → x ≤ w → w ≡ y + (a + (w - x))
        whole x y a e l = omega arith

    picked : (a : ℕ) → w ≡ q / 2 * (2 * h) + (a + (w - q * h)) → a + (w - q * h) < 2 * h → ((v ρ : ℕ) → v ≡ q / 2 → ρ ≡ a + (w - q * h) → (ρ * 2 < 2 * h → (q + 1) / 2 ≡ v) × (ρ * 2 ≡ 2 * h → (q + 1) / 2 ≡ v + v % 2) × (2 * h < ρ * 2 → (q + 1) / 2 ≡ suc v)) → (q + 1) / 2 ≡ closest w (2 * h)
    picked a e l f =
        let g = f (w / (2 * h)) (w % (2 * h)) (ap (λ (x : ℕ). x / (2 * h)) e ∙ digits_div (q / 2) l) (ap (λ (x : ℕ). x % (2 * h)) e ∙ digits_mod (q / 2) l) in
        closest_by w (2 * h) ((q + 1) / 2) g.0 g.1 g.2

    go : (e : ℕ) → q % 2 ≡ e → e < 2 → w - q * h < h → (q + 1) / 2 ≡ closest w (2 * h)
    go zero g l R = picked 0 (is 0 0 g (zero-mul h)) (omega arith) (λ v ρ d m. cut_even q h (w - q * h) v ρ R g d (m ∙ zero-add (w - q * h)))
    go (suc zero) g l R = picked h (is 1 h g (one-mul h)) (omega arith) (λ v ρ d m. cut_odd q h (w - q * h) v ρ (more (q * h) (odd g)) g d m)
    go (suc (suc e)) g l R = absurd (no e l)
      where
        no : (e : ℕ) → suc (suc e) < 2 → ⊥
        no e l = omega arith
