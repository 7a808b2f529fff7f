-- Signs: what is made of values that are not below zero, by squares, products and sums of either format and by roots of binary32, has its sign clear. A NaN's sign counts as clear. Assumes nothing.
use Rattle.std.proofs.Common.{◌≡◌, ℕ, zero, suc, ◌+◌, ◌-◌, ◌*◌, ◌^◌, ◌<◌, ◌≤◌, Bool, true, false, cond, ◌&&◌, eqb, ltb, ℤ, refl, ap, ◌∙◌, true≢false, lt_irrefl, zero-lt-suc, mul_comm, mul-pos, zero-mul, arith, pow_pos, ltb-false, le-ltb, lt-ltb}
use lib.Ieee.{Float, nan, inf, fin, Format, binary32, prec, emax, low, up, down, odd, units, round, sum, add, sub, mul, neg, lt, of_bits}
use lib.Ieee.Fits.{up_pos, down_pos, round_is}
use lib.Ieee.Order.{kept, drop}
use Rattle.float.specs.Arith.{0f, 1f}
use Rattle.float.specs.Root.{root_at, sqrt_at, sqrt_of}
use Rattle.float.specs.Whole.{sign_of}
use Rattle.float.proofs.Closest.{closest_zero}

-- ---- a rounded fraction

sign_units : (f : Format) (s : Bool) (q k : ℕ) → sign_of (units f s q k) ≡ s
unfolding units
sign_units f s q k = go (ltb (q * 2 ^ k) (2 ^ (low f + suc (emax f)))) q
  where
    go : (b : Bool) (q : ℕ) → sign_of (cond b (odd (suc (prec f)) s q k (low f)) (inf s)) ≡ s
    go true zero = unfold odd in refl
    go true (suc q) = unfold odd in refl
    go false q = refl

sign_round : (f : Format) (s : Bool) (n d : ℕ) → sign_of (round f s n d) ≡ s
sign_round f s n d = ap sign_of (round_is f s n d) ∙ sign_units f s (kept (prec f) (n * 2 ^ low f) d) (drop (prec f) (n * 2 ^ low f) d)

-- ---- products

pub square_sign : (f : Format) (x : Float) → sign_of (mul f x x) ≡ false
unfolding mul
square_sign f nan = refl
square_sign f (inf true) = refl
square_sign f (inf false) = refl
square_sign f (fin true m e) = sign_round f false (m * up e * (m * up e)) (down e * down e)
square_sign f (fin false m e) = sign_round f false (m * up e * (m * up e)) (down e * down e)

-- an infinity, or a NaN where the other factor is zero
either : (b : Bool) → sign_of (cond b nan (inf false)) ≡ false
either true = refl
either false = refl

pub mul_sign : (f : Format) (x y : Float) → sign_of x ≡ false → sign_of y ≡ false → sign_of (mul f x y) ≡ false
unfolding mul
mul_sign f nan y h k = refl
mul_sign f (inf true) y h k = absurd (true≢false h)
mul_sign f (fin true m e) y h k = absurd (true≢false h)
mul_sign f (inf false) nan h k = refl
mul_sign f (fin false m e) nan h k = refl
mul_sign f (inf false) (inf true) h k = absurd (true≢false k)
mul_sign f (inf false) (fin true n d) h k = absurd (true≢false k)
mul_sign f (fin false m e) (inf true) h k = absurd (true≢false k)
mul_sign f (fin false m e) (fin true n d) h k = absurd (true≢false k)
mul_sign f (inf false) (inf false) h k = refl
mul_sign f (inf false) (fin false n d) h k = either (eqb n 0)
mul_sign f (fin false m e) (inf false) h k = either (eqb m 0)
mul_sign f (fin false m e) (fin false n d) h k = sign_round f false (m * up e * (n * up d)) (down e * down d)

-- ---- not below zero: the sign is clear, or it is a zero

-- what has its sign set and is not below zero is a zero
nothing : (n : ℕ) (d : ℤ) → lt (fin true n d) 0f ≡ false → n ≡ 0
unfolding lt of_bits
nothing zero d h = refl
nothing (suc n) d h = absurd (lt_irrefl 0 (some (suc n * up d) (0 * 1 * down d) (mul-pos (zero-lt-suc n) (up_pos d)) (ltb-false 0 (suc n * up d * 1 + 0 * 1 * down d) h)))
  where
    some : (a b : ℕ) → 0 < a → a * 1 + b ≤ 0 → 0 < 0
    some a b l g = omega arith

pub add_sign : (f : Format) (x y : Float) → sign_of x ≡ false → lt y 0f ≡ false → sign_of (add f x y) ≡ false
unfolding add sum
add_sign f nan y h k = refl
add_sign f (inf true) y h k = absurd (true≢false h)
add_sign f (fin true m e) y h k = absurd (true≢false h)
add_sign f (inf false) nan h k = refl
add_sign f (inf false) (inf true) h k = refl
add_sign f (inf false) (inf false) h k = refl
add_sign f (inf false) (fin t n d) h k = refl
add_sign f (fin false m e) nan h k = refl
add_sign f (fin false m e) (inf true) h k = unfold lt of_bits in absurd (true≢false k)
add_sign f (fin false m e) (inf false) h k = refl
add_sign f (fin false m e) (fin false n d) h k = sign_round f false (m * up e * down d + n * up d * down e) (down e * down d)
add_sign f (fin false m e) (fin true n d) h k = go (m * up e * down d) (n * up d * down e) (down e * down d) (rw (nothing n d k, zero-mul (up d), zero-mul (down e)) refl)
  where
    go : (a b c : ℕ) → b ≡ 0 → sign_of (cond (ltb a b) (round f true (b - a) c) (round f (false && ltb b a) (a - b) c)) ≡ false
    go a b c e = rw (le-ltb a b (omega arith)) (sign_round f false (a - b) c)

-- what has its sign clear is not below zero
pub clear-not-below : (x : Float) → sign_of x ≡ false → lt x 0f ≡ false
unfolding lt of_bits
clear-not-below nan h = refl
clear-not-below (inf true) h = absurd (true≢false h)
clear-not-below (inf false) h = refl
clear-not-below (fin true m e) h = absurd (true≢false h)
clear-not-below (fin false m e) h = le-ltb (m * up e * 1) (0 * 1 * down e) (omega (arith, zero-mul (down e)))

-- a product of such values
pub mul-not-below : (f : Format) (x y : Float) → sign_of x ≡ false → lt y 0f ≡ false → lt (mul f x y) 0f ≡ false
mul-not-below f x nan h k = clear-not-below (mul f x nan) (mul_sign f x nan h refl)
mul-not-below f x (inf false) h k = clear-not-below (mul f x (inf false)) (mul_sign f x (inf false) h refl)
mul-not-below f x (fin false n d) h k = clear-not-below (mul f x (fin false n d)) (mul_sign f x (fin false n d) h refl)
mul-not-below f x (inf true) h k = unfold lt of_bits in absurd (true≢false k)
mul-not-below f x (fin true n d) h k = rw (nothing n d k) (none x h)
  where
    zero_round : (c : ℕ) → 0 < c → lt (round f true 0 c) 0f ≡ false
    zero_round c C = rw (round_is f true 0 c, zero-mul (2 ^ low f), ← closest_zero 0 (c * 2 ^ drop (prec f) 0 c) (rw (zero-mul 2) (mul-pos C (pow_pos (drop (prec f) 0 c))))) (zero_units (drop (prec f) 0 c))
      where
        zero_units : (k : ℕ) → lt (units f true 0 k) 0f ≡ false
        zero_units k = unfold units odd lt of_bits in rw (zero-mul (2 ^ k), lt-ltb 0 (2 ^ (low f + suc (emax f))) (pow_pos (low f + suc (emax f)))) refl

    none : (x : Float) → sign_of x ≡ false → lt (mul f x (fin true 0 d)) 0f ≡ false
    none nan h = unfold mul lt in refl
    none (inf true) h = absurd (true≢false h)
    none (inf false) h = unfold mul lt in refl
    none (fin true m e) h = absurd (true≢false h)
    none (fin false m e) h = unfold mul in rw (zero-mul (up d), mul_comm (m * up e) 0, zero-mul (m * up e)) (zero_round (down e * down d) (mul-pos (down_pos e) (down_pos d)))

-- ---- 1 - t, for a t that is not above 1

pub rest_sign : (f : Format) (t : Float) → lt 1f t ≡ false → sign_of (sub f 1f t) ≡ false
unfolding sub neg add sum of_bits
rest_sign f nan h = refl
rest_sign f (inf true) h = refl
rest_sign f (inf false) h = unfold lt in absurd (true≢false h)
rest_sign f (fin true n d) h = sign_round f false (1 * 1 * down d + n * up d * 1) (1 * down d)
rest_sign f (fin false n d) h = unfold lt in rw h (sign_round f false (1 * 1 * down d - n * up d * 1) (1 * down d))

-- ---- roots

pub sqrt_sign : (x : Float) → sign_of x ≡ false → sign_of (sqrt_of x) ≡ false
unfolding sqrt_of sqrt_at
sqrt_sign nan h = refl
sqrt_sign (inf true) h = refl
sqrt_sign (inf false) h = refl
sqrt_sign (fin true zero e) h = h
sqrt_sign (fin true (suc m) e) h = refl
sqrt_sign (fin false zero e) h = refl
sqrt_sign (fin false (suc m) e) h = unfold root_at in sign_round binary32 false _ _
