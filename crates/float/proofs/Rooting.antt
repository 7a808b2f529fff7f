-- The rounding of a whole-number root, for either format: `root_at` of m * 2 ^ t is `root_digits` of its last digit. Assumes nothing.
-- For n = c * 4 ^ j the root of n, cut, begins with the prec + 1 digits of q = isqrt c. The rounded root is half of q, rounded up: c is even, so where q is odd its square is no c, and there is more behind it.
use Rattle.std.proofs.Common.{◌≡◌, ℕ, zero, suc, ◌+◌, ◌-◌, ◌*◌, ◌/◌, ◌%◌, ◌^◌, ◌<◌, ◌≤◌, false, not, T, sym, ap, ◌∙◌, subst, le_trans, le_of_eq, lt_of_lt_of_le, lt_of_le_of_lt, lt_irrefl, mul-le-mul_right, mul_assoc, mul_comm, add-mul, mul-le-mul, mul-lt-mul_of_pos_right, one-mul, div-add-mod', mul-one, mul-suc, mul-add, mul_left_comm, arith, lit≤, pow_pos, pow_mono, pow-add}
use native.Mathlib.Nat.{pow-succ'}
use lib.Ieee.{Format, binary32, binary64, prec, emax, low, hid, is_nan, units}
use lib.Bits.{shifted_even}
use lib.Ieee.Nearest.{closest}
use Rattle.float.specs.Root.{isqrt, root_at}
use Rattle.float.proofs.Closest.{closest_cut}
use Rattle.float.proofs.Isqrt.{isqrt_is, isqrt-ge, isqrt-lt, double, square_suc}
use Rattle.float.proofs.Pattern.{join, twice_hid, round_by, round_no_nan}
use Rattle.float.proofs.Shapes.{raised}

-- ---- squares

pub scaled : (x h : ℕ) → x * h * (x * h) ≡ x * x * h * h
scaled x h = simp (mul_assoc, mul_left_comm)

-- an odd number's square is odd
pub odd_square : (q : ℕ) → q % 2 ≡ 1 → q * q % 2 ≡ 1
odd_square q e =
    let eq : q * q ≡ q * (q / 2) * 2 + q = ap (λ (x : ℕ). q * x) (sym (div-add-mod' q 2) ∙ ap (λ (r : ℕ). q / 2 * 2 + r) e) ∙ mul-add q (q / 2 * 2) 1 ∙ ap (λ (x : ℕ). x + q * 1) (sym (mul_assoc q (q / 2) 2)) ∙ ap (λ (x : ℕ). q * (q / 2) * 2 + x) (mul-one q) in
    omega arith

module _ (c h : ℕ) (even : c % 2 ≡ 0) where
  abbrev q : ℕ
  q = isqrt c

  abbrev w : ℕ
  w = isqrt (c * h * h)

  pub cut_ge : q * h ≤ w
  cut_ge = isqrt-ge (c * h * h) (q * h) (le_trans (le_of_eq (scaled q h)) (mul-le-mul_right h (mul-le-mul_right h (isqrt_is c).0)))

  pub cut_lt : 0 < h → w < (q + 1) * h
  cut_lt H = isqrt-lt (c * h * h) ((q + 1) * h) (lt_of_lt_of_le (mul-lt-mul_of_pos_right (mul-lt-mul_of_pos_right (isqrt_is c).1 H) H) (le_of_eq (sym (scaled (q + 1) h))))

  -- (q * h + 1) ^ 2 is at most (q * q + 1) * h * h
  cut_more : 2 * q + 1 ≤ h → q % 2 ≡ 1 → q * h < w
  cut_more l e =
      let x = q * h in
      let above : q * q + 1 ≤ c = beyond (q * q) (odd_square q e) (isqrt_is c).0 in
      let room : 2 * x + h ≤ h * h = le_trans (le_of_eq (sym (add-mul (2 * q) 1 h ∙ ap (λ (z : ℕ). z + 1 * h) (mul_assoc 2 q h) ∙ ap (λ (z : ℕ). 2 * x + z) (one-mul h)))) (mul-le-mul_right h l) in
      let wide : (q * q + 1) * h * h ≡ x * x + h * h = ap (λ (z : ℕ). z * h) (add-mul (q * q) 1 h) ∙ add-mul (q * q * h) (1 * h) h ∙ ap (λ (z : ℕ). z + 1 * h * h) (sym (scaled q h)) ∙ ap (λ (z : ℕ). x * x + z * h) (one-mul h) in
      isqrt-ge (c * h * h) (suc x)
      (le_trans (le_of_eq (square_suc x)) (le_trans (fit (x * x) x (h * h) room) (le_trans (le_of_eq (sym wide)) (mul-le-mul_right h (mul-le-mul_right h above)))))
    where
      beyond : (y : ℕ) → y % 2 ≡ 1 → y ≤ c → y + 1 ≤ c
      beyond y g k = omega arith

      fit : (a x y : ℕ) → 2 * x + h ≤ y → a + (2 * x + 1) ≤ a + y
      fit a x y k = omega arith

-- ---- the rounding

module _ (f : Format) (c j : ℕ) (even : c % 2 ≡ 0) (lo : 2 ^ prec f * 2 ^ prec f ≤ c) (hi : c < (2 * 2 ^ prec f - 1) * (2 * 2 ^ prec f - 1)) (J : prec f + 2 ≤ j) where
  abbrev h : ℕ
  h = 2 ^ j

  abbrev z : ℕ
  z = 2 ^ prec f

  abbrev n : ℕ
  n = c * h * h

  q_ge : z ≤ isqrt c
  q_ge = isqrt-ge c z lo

  q_lt : isqrt c < 2 * z - 1
  q_lt = isqrt-lt c (2 * z - 1) hi

  halved : (isqrt c + 1) / 2 ≡ closest (isqrt n) (2 ^ suc j)
  halved =
      subst (λ (u : ℕ). (isqrt c + 1) / 2 ≡ closest (isqrt n) u) (sym (pow-succ' 2 j))
      (closest_cut (isqrt n) (isqrt c) h (cut_ge c h even) (cut_lt c h even (pow_pos j)) (cut_more c h even (le_trans (room (isqrt c) z (2 ^ (prec f + 2)) (pow-add 2 (prec f) 2) q_lt) (pow_mono J))))
    where
      room : (q z y : ℕ) → y ≡ z * 4 → q < 2 * z - 1 → 2 * q + 1 ≤ y
      room q z y e l = omega arith

  fine : isqrt n < z * 2 ^ suc j
  fine = lt_of_lt_of_le (cut_lt c h even (pow_pos j)) (le_trans (mul-le-mul_right h (top (isqrt c) z q_lt)) (le_of_eq (mul_assoc z 2 h ∙ ap (λ (x : ℕ). z * x) (sym (pow-succ' 2 j)))))
    where
      top : (q z : ℕ) → q < 2 * z - 1 → q + 1 ≤ z * 2
      top q z l = omega arith

  lead : hid f * 2 ^ suc j ≤ isqrt n
  lead =
      le_trans (le_of_eq (ap (λ (x : ℕ). hid f * x) (pow-succ' 2 j) ∙ sym (mul_assoc (hid f) 2 h) ∙ ap (λ (x : ℕ). x * h) (mul_comm (hid f) 2 ∙ sym (twice_hid f))))
      (le_trans (mul-le-mul_right h q_ge) (cut_ge c h even))

  root_units : root_at f n ≡ units f false ((isqrt c + 1) / 2) (suc j)
  unfolding root_at
  root_units =
      round_by f false (isqrt n) (2 ^ low f) (isqrt n) (2 ^ suc j) (suc j) (pow_pos (low f)) (pow_pos (suc j)) (mul_assoc (isqrt n) (2 ^ low f) (2 ^ suc j)) fine (λ _. lead)
      ∙ ap (λ (x : ℕ). units f false x (suc j)) (sym halved)

-- ---- m * 2 ^ t, for an m of prec digits: it is c * 4 ^ (dropped - 1), where the parity of t - prec says whether c, the radicand, has 2 * prec + 2 digits or one less

abbrev pub radicand : Format → ℕ → ℕ → ℕ
radicand f m t = m * 2 ^ (prec f + 2 - (t + prec f) % 2)

-- how many digits of the root are dropped: its last one counts 2 ^ dropped least values
abbrev pub dropped : Format → ℕ → ℕ
dropped f t = (t + 1 - prec f) / 2

-- the root's digits
abbrev pub root_digits : Format → ℕ → ℕ → ℕ
root_digits f m t = (isqrt (radicand f m t) + 1) / 2

-- the exponents go so far down that the root of even the least value has digits to drop, more of them than it keeps
deep : (f : Format) → 3 * prec f + 8 ≤ emax f
deep binary32 = lit≤ tt
deep binary64 = lit≤ tt

under_square : (z : ℕ) → 0 < z → (z - 1) * (z * 4) < (2 * z - 1) * (2 * z - 1)
under_square zero h = absurd (lt_irrefl 0 h)
under_square (suc y) h =
    let a : suc y - 1 ≡ y = omega arith in
    let b : 2 * suc y - 1 ≡ suc (2 * y) = omega arith in
    let e : y * (suc y * 4) ≡ (y * y + y) * 4 = sym (mul_assoc y (suc y) 4) ∙ ap (λ (x : ℕ). x * 4) (mul-suc y y) in
    rw (a, b) (omega (arith, square_suc (2 * y), double y))

-- m and t are those of a value's `Shape`
module _ (f : Format) (m t : ℕ) (lo : hid f ≤ m) (hi : m < 2 ^ prec f) (L : raised f ≤ t) (H : t < low f + 2 * emax f) where
  abbrev c : ℕ
  c = radicand f m t

  abbrev half : ℕ
  half = dropped f t - 1

  pub radicand_even : c % 2 ≡ 0
  radicand_even = ap (λ (x : ℕ). m * 2 ^ x % 2) (one_less (prec f) t) ∙ shifted_even m (prec f + 1 - (t + prec f) % 2)
    where
      one_less : (p t : ℕ) → p + 2 - (t + p) % 2 ≡ suc (p + 1 - (t + p) % 2)
      one_less p t = omega arith

  pub radicand_ge : 2 ^ prec f * 2 ^ prec f ≤ c
  radicand_ge =
      let z = 2 ^ prec f in
      le_trans (le_of_eq (ap (λ (x : ℕ). x * z) (twice_hid f ∙ mul_comm 2 (hid f)) ∙ mul_assoc (hid f) 2 z ∙ ap (λ (x : ℕ). hid f * x) (mul_comm 2 z ∙ sym (pow-add 2 (prec f) 1))))
      (mul-le-mul lo (pow_mono {i = prec f + 1} {j = prec f + 2 - (t + prec f) % 2} (omega arith)))

  pub radicand_lt : c < (2 * 2 ^ prec f - 1) * (2 * 2 ^ prec f - 1)
  radicand_lt =
      lt_of_le_of_lt (mul-le-mul {n₂ = 2 ^ prec f - 1} (omega arith) (pow_mono {i = prec f + 2 - (t + prec f) % 2} {j = prec f + 2} (omega arith)))
      (subst (λ (x : ℕ). (2 ^ prec f - 1) * x < (2 * 2 ^ prec f - 1) * (2 * 2 ^ prec f - 1)) (sym (pow-add 2 (prec f) 2)) (under_square (2 ^ prec f) (pow_pos (prec f))))

  pub digits_lt : root_digits f m t < 2 ^ prec f
  digits_lt = go (isqrt c) (2 ^ prec f) (isqrt-lt c (2 * 2 ^ prec f - 1) radicand_lt)
    where
      go : (q z : ℕ) → q < 2 * z - 1 → (q + 1) / 2 < z
      go q z l = omega arith

  pub parts : c * 2 ^ half * 2 ^ half ≡ m * 2 ^ t
  parts =
      let i = prec f + 2 - (t + prec f) % 2 in
      ap (λ (x : ℕ). x * 2 ^ half) (join m i half) ∙ join m (i + half) half ∙ ap (λ (x : ℕ). m * 2 ^ x) (all (prec f) t (omega (arith, deep f)))
    where
      all : (p t : ℕ) → p + 3 ≤ t → p + 2 - (t + p) % 2 + ((t + 1 - p) / 2 - 1) + ((t + 1 - p) / 2 - 1) ≡ t
      all p t l = omega arith

  pub one_more : suc half ≡ dropped f t
  one_more = omega (arith, deep f)

  room : prec f + 2 ≤ half
  room = omega (arith, deep f)

  pub root-at : root_at f (m * 2 ^ t) ≡ units f false (root_digits f m t) (dropped f t)
  root-at = ap (root_at f) (sym parts) ∙ root_units f c half radicand_even radicand_ge radicand_lt room ∙ ap (units f false (root_digits f m t)) one_more

-- a root is no NaN
pub root_no_nan : (f : Format) (n : ℕ) → T (not (is_nan (root_at f n)))
unfolding root_at
root_no_nan f n = round_no_nan f false (isqrt n) (2 ^ low f)
