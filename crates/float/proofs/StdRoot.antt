-- std's square root is `sqrt_at`, for each value that a format holds. std takes the root to 2271 binary places, cut, and half a place more says whether there is something behind; `sqrt_at` takes it to the format's least value, cut. Rounded, both are half of the root's first prec + 1 digits, rounded up, as `Rooting.antt` says of the second. Assumes nothing.
use Rattle.std.proofs.Common.{◌≡◌, ℕ, zero, suc, ◌+◌, ◌-◌, ◌*◌, ◌/◌, ◌%◌, ◌^◌, ◌<◌, ◌≤◌, Bool, true, false, cond, T, eqb, ◌⊎◌, ℤ, pos, negsuc, sym, refl, ap, ◌∙◌, subst, inl, inr, le_trans, le_of_eq, lt_of_lt_of_le, mul-le-mul_right, mul_assoc, mul_comm, mul_left_comm, mul-lt-mul_of_pos_right, eq-or-lt_of_le, mul-div_cancel, mul_right_comm, arith, lit≤, pow_pos, pow-add, zero-lt-suc, ne_eqb, eqb→eq, lt→ltb}
use native.Mathlib.Nat.{pow-succ'}
use lib.Ieee.{Float, nan, inf, fin, Format, binary32, binary64, prec, emax, low, hid, up, down, fits, units, round, root_twice, sqrt}
use lib.Ieee.Nearest.{closest}
use lib.Ieee.Positive.{num, den, positive, den_pos}
use Rattle.float.specs.Root.{isqrt, root_at, sqrt_at, sqrt_of}
use Rattle.float.proofs.Closest.{closest_cut}
use Rattle.float.proofs.Isqrt.{isqrt_is, isqrt-ge, isqrt-lt}
use Rattle.float.proofs.NearestRoot.{units_of}
use Rattle.float.proofs.Pattern.{four_pow, twice_hid, round_by}
use Rattle.float.proofs.Rooting.{radicand, dropped, root_digits, odd_square, scaled, cut_ge, cut_lt, radicand_even, radicand_ge, radicand_lt, parts, one_more, root-at}
use Rattle.float.proofs.Shapes.{raised, shape_root}

-- ---- twice the root of n, and one more where it is not whole

last : ℕ → ℕ
last n = cond (eqb (isqrt n * isqrt n) n) 0 1

root_twice_is : (n : ℕ) → root_twice n ≡ 2 * isqrt n + last n
unfolding root_twice isqrt last
root_twice_is n = refl

last-le : (n : ℕ) → last n ≤ 1
unfolding last
last-le n = go (eqb (isqrt n * isqrt n) n)
  where
    go : (b : Bool) → cond b 0 1 ≤ 1
    go true = lit≤ tt
    go false = lit≤ tt

last-one : (n : ℕ) → isqrt n * isqrt n < n → last n ≡ 1
unfolding last
last-one n l = ap (λ (b : Bool). cond b 0 1) (ne_eqb (isqrt n * isqrt n) n (λ e. less (isqrt n * isqrt n) n l e))
  where
    less : (a b : ℕ) → a < b → a ≡ b → ⊥
    less a b l e = omega arith

module _ (c h : ℕ) (even : c % 2 ≡ 0) (H : 0 < h) where
  abbrev q : ℕ
  q = isqrt c

  abbrev n : ℕ
  n = c * h * h

  abbrev w : ℕ
  w = root_twice n

  double : (x y : ℕ) → x * (2 * y) ≡ 2 * (x * y)
  double x y = mul_left_comm x 2 y

  twice_ge : q * (2 * h) ≤ w
  twice_ge = omega (arith, double q h, cut_ge c h even, root_twice_is n)

  twice_lt : w < (q + 1) * (2 * h)
  twice_lt = omega (arith, double (q + 1) h, cut_lt c h even H, root_twice_is n, last-le n)

  -- the square of an odd q is no c, so the root of n is more than q * h, or it is not whole
  twice_more : q % 2 ≡ 1 → q * (2 * h) < w
  twice_more o = go (eq-or-lt_of_le (cut_ge c h even))
    where
      beyond : (y : ℕ) → y % 2 ≡ 1 → c % 2 ≡ 0 → y ≤ c → y < c
      beyond y e f l = omega arith

      under : q * h * (q * h) < n
      under = subst (λ (z : ℕ). z < n) (sym (scaled q h)) (mul-lt-mul_of_pos_right (mul-lt-mul_of_pos_right (beyond (q * q) (odd_square q o) even (isqrt_is c).0) H) H)

      go : (q * h ≡ isqrt n) ⊎ (q * h < isqrt n) → q * (2 * h) < w
      go (inl e) = omega (arith, double q h, root_twice_is n, last-one n (subst (λ (z : ℕ). z * z < n) e under), e)
      go (inr l) = omega (arith, double q h, root_twice_is n, l)

-- ---- the rounding of it

module _ (f : Format) (c p k : ℕ) (even : c % 2 ≡ 0) (lo : 2 ^ prec f * 2 ^ prec f ≤ c) (hi : c < (2 * 2 ^ prec f - 1) * (2 * 2 ^ prec f - 1)) (same : low f + p ≡ 2271 + k) where
  abbrev h : ℕ
  h = 2 ^ p

  abbrev z : ℕ
  z = 2 ^ prec f

  abbrev twice : ℕ
  twice = root_twice (c * h * h)

  pos_h : 0 < h
  pos_h = pow_pos p

  four : 2 ^ (p + 2) ≡ 2 * (2 * h)
  four = pow-add 2 p 2 ∙ mul_comm h 4 ∙ mul_assoc 2 2 h

  halved : (isqrt c + 1) / 2 ≡ closest twice (2 ^ (p + 2))
  halved = subst (λ (u : ℕ). (isqrt c + 1) / 2 ≡ closest twice u) (sym four) (closest_cut twice (isqrt c) (2 * h) (twice_ge c h even pos_h) (twice_lt c h even pos_h) (twice_more c h even pos_h))

  fine : twice < z * 2 ^ (p + 2)
  fine = lt_of_lt_of_le (twice_lt c h even pos_h) (le_trans (mul-le-mul_right (2 * h) (top (isqrt c) z (isqrt-lt c (2 * z - 1) hi))) (le_of_eq (mul_assoc z 2 (2 * h) ∙ ap (λ (x : ℕ). z * x) (sym four))))
    where
      top : (q z : ℕ) → q < 2 * z - 1 → q + 1 ≤ z * 2
      top q z l = omega arith

  lead : hid f * 2 ^ (p + 2) ≤ twice
  lead =
      le_trans (le_of_eq (ap (λ (x : ℕ). hid f * x) four ∙ sym (mul_assoc (hid f) 2 (2 * h)) ∙ ap (λ (x : ℕ). x * (2 * h)) (mul_comm (hid f) 2 ∙ sym (twice_hid f))))
      (le_trans (mul-le-mul_right (2 * h) (isqrt-ge c z lo)) (twice_ge c h even pos_h))

  scale : twice * 2 ^ low f * 2 ^ (p + 2) ≡ twice * (2 ^ 2272 * 2 ^ suc k)
  scale = mul_assoc twice (2 ^ low f) (2 ^ (p + 2)) ∙ ap (λ (x : ℕ). twice * x) (sym (pow-add 2 (low f) (p + 2)) ∙ ap (λ (x : ℕ). 2 ^ x) (places (low f) p k same) ∙ pow-add 2 2272 (suc k))
    where
      places : (l p k : ℕ) → l + p ≡ 2271 + k → l + (p + 2) ≡ 2272 + suc k
      places l p k e = omega arith

  std_units : round f false twice (2 ^ 2272) ≡ units f false ((isqrt c + 1) / 2) (suc k)
  std_units = round_by f false twice (2 ^ 2272) twice (2 ^ (p + 2)) (suc k) (pow_pos 2272) (pow_pos (p + 2)) scale fine (λ _. lead) ∙ ap (λ (x : ℕ). units f false x (suc k)) (sym halved)

-- ---- a value above zero

-- std's places are more than a format has
low-le : (f : Format) → low f ≤ 2271
low-le binary32 = lit≤ tt
low-le binary64 = lit≤ tt

abbrev deeper : Format → ℕ
deeper f = 2271 - low f

wide : (l d : ℕ) → 4 ^ l * 4 ^ d ≡ 2 ^ (l + d + (l + d))
wide l d = sym (pow-add 4 l d) ∙ four_pow (l + d) ∙ sym (pow-add 2 (l + d) (l + d))

all_places : (f : Format) → 4 ^ low f * 4 ^ deeper f ≡ 2 ^ 4542
all_places f = wide (low f) (deeper f) ∙ ap (λ (x : ℕ). 2 ^ x) (sum (low f) (low-le f))
  where
    sum : (l : ℕ) → l ≤ 2271 → l + (2271 - l) + (l + (2271 - l)) ≡ 4542
    sum l h = omega arith

module _ (f : Format) (m t : ℕ) (lo : hid f ≤ m) (hi : m < 2 ^ prec f) (L : raised f ≤ t) (H : t < low f + 2 * emax f) where
  abbrev c : ℕ
  c = radicand f m t

  abbrev half : ℕ
  half = dropped f t - 1

  squares : m * 2 ^ t * 4 ^ deeper f ≡ c * 2 ^ (half + deeper f) * 2 ^ (half + deeper f)
  squares =
      let x = 2 ^ half in
      let y = 2 ^ deeper f in
      ap (λ (z : ℕ). z * 4 ^ deeper f) (sym (parts f m t lo hi L H))
      ∙ ap (λ (z : ℕ). c * x * x * z) (four_pow (deeper f))
      ∙ paired c x y
      ∙ ap (λ (z : ℕ). c * z * z) (sym (pow-add 2 half (deeper f)))
    where
      paired : (c x y : ℕ) → c * x * x * (y * y) ≡ c * (x * y) * (x * y)
      paired c x y = simp (mul_assoc, mul_left_comm)

  std-at : round f false (root_twice (m * 2 ^ t * 4 ^ deeper f)) (2 ^ 2272) ≡ root_at f (m * 2 ^ t)
  std-at =
      ap (λ (z : ℕ). round f false (root_twice z) (2 ^ 2272)) squares
      ∙ std_units f c (half + deeper f) half (radicand_even f m t lo hi L H) (radicand_ge f m t lo hi L H) (radicand_lt f m t lo hi L H) (around (low f) half (low-le f))
      ∙ ap (units f false (root_digits f m t)) (one_more f m t lo hi L H)
      ∙ sym (root-at f m t lo hi L H)
    where
      around : (l k : ℕ) → l ≤ 2271 → l + (k + (2271 - l)) ≡ 2271 + k
      around l k h = omega arith

std_fraction : (f : Format) (x : Float) → T (positive x) → sqrt f x ≡ round f false (root_twice (num x * 2 ^ 4542 / den x)) (2 ^ 2272)
unfolding sqrt
std_fraction f nan p = absurd p
std_fraction f (inf s) p = absurd p
std_fraction f (fin true m e) p = absurd p
std_fraction f (fin false zero e) p = absurd p
std_fraction f (fin false (suc m) e) p = refl

above : (f : Format) (x : Float) → T (fits f x) → T (positive x) → sqrt_at f x ≡ sqrt f x
above f x h p =
    let z = units_of f x h p in
    let m = z.0 in
    let t = z.1 in
    let s = z.3 in
    shape_root f x m t s
    ∙ sym (std-at f m t s.0 s.1 s.2 s.3)
    ∙ ap (λ (y : ℕ). round f false (root_twice y) (2 ^ 2272)) (sym (ap (λ (y : ℕ). y / den x) (whole m t z.2) ∙ mul-div_cancel (m * 2 ^ t * 4 ^ deeper f) (den_pos x)))
    ∙ sym (std_fraction f x p)
  where
    whole : (m t : ℕ) → num x * 4 ^ low f ≡ m * 2 ^ t * den x → num x * 2 ^ 4542 ≡ m * 2 ^ t * 4 ^ deeper f * den x
    whole m t e =
        ap (λ (y : ℕ). num x * y) (sym (all_places f))
        ∙ sym (mul_assoc (num x) (4 ^ low f) (4 ^ deeper f))
        ∙ ap (λ (y : ℕ). y * 4 ^ deeper f) e
        ∙ mul_right_comm (m * 2 ^ t) (den x) (4 ^ deeper f)

-- ---- every value

no_power : (k : ℕ) → 2 ^ suc k ≡ 1 → ⊥
no_power k h = omega (arith, pow-succ' 2 k)

-- a zero is written in one way
zero_place : (e : ℤ) → up e * down e ≡ 1 → e ≡ pos 0
zero_place (pos zero) h = refl
zero_place (pos (suc k)) h = absurd (no_power k (omega (arith, h)))
zero_place (negsuc k) h = absurd (no_power k (omega (arith, h)))

pub std_root : (f : Format) (x : Float) → T (fits f x) → sqrt_at f x ≡ sqrt f x
unfolding sqrt_at sqrt fits
std_root f nan fit = refl
std_root f (inf true) fit = refl
std_root f (inf false) fit = refl
std_root f (fin s zero e) fit = ap (fin s 0) (zero_place e (eqb→eq _ _ fit))
std_root f (fin true (suc m) e) fit = refl
std_root f (fin false (suc m) e) fit = above f (fin false (suc m) e) fit (lt→ltb 0 (suc m) (zero-lt-suc m))

-- The contract of `f32::sqrt` is that of `sqrt`.
pub root_by_std : (x : Float) → T (fits binary32 x) → sqrt binary32 x ≡ sqrt_of x
unfolding sqrt_of
root_by_std x h = sym (std_root binary32 x h)
