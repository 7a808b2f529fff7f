-- The whole-number root: what `isqrt n` is (`isqrt_is`), that nothing else is (`isqrt-only`), and its order. Assumes nothing.
use Rattle.std.proofs.Common.{◌≡◌, ℕ, suc, ◌+◌, ◌*◌, ◌<◌, ◌≤◌, le_trans, le_of_suc-le-suc, mul_assoc, suc-mul, mul_comm, mul-le-mul, lt_of_not-le, mul-suc, not-le_of_lt, mul_left_comm, arith}
use lib.Ieee.Root.{whole_part}
use Rattle.float.specs.Root.{isqrt}

-- r is the largest number whose square is at most n
abbrev pub Root : ℕ → ℕ → Type 0
Root n r = (r * r ≤ n) × (n < (r + 1) * (r + 1))

pub double : (x : ℕ) → 2 * x * (2 * x) ≡ x * x * 4
double x = simp (mul_assoc, mul_comm, mul_left_comm) (omega arith)

pub isqrt_is : (n : ℕ) → Root n (isqrt n)
unfolding isqrt
isqrt_is = whole_part

-- ---- the root's order

pub isqrt-ge : (n x : ℕ) → x * x ≤ n → x ≤ isqrt n
isqrt-ge n x h = le_of_suc-le-suc (lt_of_not-le (λ (g : suc (isqrt n) ≤ x). not-le_of_lt (isqrt_is n).1 (le_trans (mul-le-mul (up (isqrt n) g) (up (isqrt n) g)) h)))
  where
    up : (r : ℕ) → suc r ≤ x → r + 1 ≤ x
    up r g = omega arith

pub isqrt-lt : (n x : ℕ) → n < x * x → isqrt n < x
isqrt-lt n x h = lt_of_not-le (λ (g : x ≤ isqrt n). not-le_of_lt h (le_trans (mul-le-mul g g) (isqrt_is n).0))

-- no other number is the root
pub isqrt-only : (n r : ℕ) → Root n r → r ≡ isqrt n
isqrt-only n r h = omega (arith, isqrt-ge n r h.0, isqrt-lt n (r + 1) h.1)

pub square_suc : (x : ℕ) → suc x * suc x ≡ x * x + (2 * x + 1)
square_suc x = omega (arith, suc-mul x (suc x), mul-suc x x)
