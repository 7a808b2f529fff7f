-- How many segments, parts and curves there are at most. Assumes nothing.
use mathlib.Core.Path.{◌≡◌, sym, ap, ◌∙◌, subst}
use mathlib.Core.Logic.{inl, inr}
use mathlib.Core.Bool.{Bool, true, false, cond, ◌||◌}
use Prim.Native.Nat.{ℕ, ◌+◌, ◌-◌, ◌*◌, ◌/◌, ◌^◌, ◌≤◌, ◌<◌}
use native.Mathlib.Nat.{le_trans, lt_of_le_of_lt, mul-le-mul, mul-le-mul_right, mul_comm, mul_assoc, add-mul, one-mul, div-le_self, eq-or-lt_of_le}
use native.Mathlib.Omega.{arith}
use borrow.Author.Tests.{eq-eqb, ne_eqb}
use lib.Dec.{eqb, lit<}
use lib.Pow.{pow_mono}
use Rattle.curve.specs.Layout.{floats}
use Rattle.create.specs.Basis.{stride_of}
use Rattle.create.specs.Create.{segment_count, part_count}

pub segment-count-le : (n degree basis : ℕ) → segment_count n degree basis ≤ n
unfolding segment_count
segment-count-le n degree basis = go (eqb basis 0)
  where
    go : (b : Bool) → cond b ((n - 1) / degree) (n - degree) ≤ n
    go true = le_trans (div-le_self (n - 1) degree) (omega arith)
    go false = omega arith

pub part-count-le : (k : ℕ) → k ≤ 10 → part_count k ≤ 2 ^ 10
unfolding part_count
part-count-le k h = pow_mono h

-- so their product fits any width from 19 bits on
pub product_lt : {s t : ℕ} → s ≤ 256 → t ≤ 2 ^ 10 → s * t < 2 ^ 19
product_lt h g = lt_of_le_of_lt (mul-le-mul h g) (lit< tt)

-- ---- the degrees 2 and 3

abbrev is_degree : ℕ → Bool
is_degree d = eqb d 2 || eqb d 3

pub degree_right : (d : ℕ) → 2 ≤ d → d ≤ 3 → is_degree d ≡ true
degree_right d l h = elim (eq-or-lt_of_le l) [
  | inl e ↦ rw (eq-eqb d 2 (sym e))
  | inr g ↦ rw (ne_eqb d 2 (omega arith), eq-eqb d 3 (omega arith))
]

-- ---- the places of a segment, in a loop over n of them

next : (i k : ℕ) → (i + 1) * k ≡ i * k + k
next i k = add-mul i 1 k ∙ ap (λ (x : ℕ). i * k + x) (one-mul k)

one_more : (i n k : ℕ) → i < n → i * k + k ≤ n * k
one_more i n k h = subst (λ (x : ℕ). x ≤ n * k) (next i k) (mul-le-mul_right k (step i n h))
  where
    step : (i n : ℕ) → i < n → i + 1 ≤ n
    step i n h = omega arith

-- it ends within its points
pub within-points : (i n k x length : ℕ) → i < n → n * k + x ≤ length + k → i * k + x ≤ length
within-points i n k x length h l = omega (arith, one_more i n k h)

-- what it writes is within the list
pub within-list : (i n parts length : ℕ) → i < n → floats * (n * parts) ≤ length → i * (parts * floats) + parts * floats ≤ length
within-list i n parts length h l = le_trans (one_more i n (parts * floats) h) (subst (λ (x : ℕ). x ≤ length) (mul_comm floats (n * parts) ∙ mul_assoc n parts floats) l)

-- the next one starts no later than it ends
pub stride-le : (degree basis : ℕ) → stride_of degree basis ≤ 3 * degree + 3
unfolding stride_of
stride-le degree basis = go (eqb basis 0)
  where
    go : (b : Bool) → cond b (3 * degree) 3 ≤ 3 * degree + 3
    go true = omega arith
    go false = omega arith
