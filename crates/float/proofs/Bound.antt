-- Bounds, for either format: rounding keeps order, so the sizes of a product and of a sum grow with those of what they are made of. Assumes nothing.
-- A bound is a value too, and the bound of an operation is the same operation on the bounds, so that of constants computes.
use Rattle.std.proofs.Common.{◌≡◌, ℕ, zero, suc, ◌+◌, ◌-◌, ◌*◌, ◌^◌, ◌<◌, ◌≤◌, Bool, true, false, cond, ◌&&◌, ◌||◌, T, eqb, ltb, ◌⊎◌, ℤ, pos, sym, refl, ap, ◌∙◌, subst, inl, inr, true≢false, le_trans, le_of_eq, le_refl, lt_of_lt_of_le, lt_of_le_of_lt, le_of_lt, add-le-add, mul-le-mul_right, mul_assoc, mul_comm, add-mul, mul-le-mul, mul-lt-mul_of_pos_right, mul-pos, one-mul, lt_of_not-le, mul-one, not-le_of_lt, mul_left_comm, arith, lit<, pow_pos, pow_mono, shl_lt, ltb-true, le-ltb, lt-ltb, ne_eqb, eqb-true}
use mathlib.Core.Bool.{beq, false≢true}
use native.Mathlib.Nat.{mul-mul-mul_comm, mul-sub, sub-le-sub_left}
use native.Mathlib.Decide.{dec_le}
use lib.Pow.{pow-lt}
use lib.Ieee.{Float, nan, inf, fin, Format, binary32, binary64, prec, emax, low, up, down, odd, units, round, sum, add, sub, mul, div, lt, le, of_int}
use lib.Ieee.Digits.{back}
use lib.Ieee.Fits.{two, reach, down_pos, round_is}
use lib.Ieee.Bits.{is_true}
use lib.Ieee.Exact.{HasValue, round_exact}
use lib.Ieee.Back.{round_whole}
use lib.Ieee.Order.{transfer, le_of_values, round_mono}
use lib.Ieee.Scale.{round_same}
use lib.Ieee.Positive.{positive, first_pos, through, between}
use Rattle.float.specs.Basic.{abs_of}
use Rattle.float.proofs.Pattern.{join}

-- x is finite, and its sign is clear
pub data Plain : Float → Type 0 where
  plain : (m : ℕ) (e : ℤ) → Plain (fin false m e)

-- x is finite, and without its sign it is at most a, which is plain
pub data Most : Float → Float → Type 0 where
  most : (s : Bool) (m : ℕ) (e : ℤ) (n : ℕ) (d : ℤ) → m * up e * down d ≤ n * up d * down e → Most (fin s m e) (fin false n d)

-- ---- by a test

-- the test of two plain values
le_of_test : (a b : ℕ) → ltb a b || (eqb a b && true) ≡ true → a ≤ b
le_of_test a b h = go (ltb a b) (eqb a b) (ltb-true a b) (eqb-true a b) h
  where
    go : (p q : Bool) → (p ≡ true → a < b) → (q ≡ true → a ≡ b) → p || (q && true) ≡ true → a ≤ b
    go true q l e h = le_of_lt (l refl)
    go false true l e h = le_of_eq (e refl)
    go false false l e h = absurd (false≢true h)

pub most_of : (x : Float) {a : Float} → Plain a → le (abs_of x) a ≡ true → Most x a
unfolding le abs_of
most_of nan (plain n d) h = absurd (false≢true h)
most_of (inf s) (plain n d) h = absurd (false≢true h)
most_of (fin s m e) (plain n d) h = most s m e n d (le_of_test (m * up e * down d) (n * up d * down e) h)

pub of_most : {x a : Float} → Most x a → le (abs_of x) a ≡ true
unfolding abs_of
of_most (most s m e n d h) = is_true _ (le_of_values (fin false m e) (fin false n d) (m * up e) (down e) (n * up d) (down d) (down_pos e) (down_pos d) (refl, refl) (refl, refl) h)

-- the same for a plain x

abs_plain : {x : Float} → Plain x → abs_of x ≡ x
unfolding abs_of
abs_plain (plain m e) = refl

pub most-le : {x a : Float} → Plain x → Plain a → le x a ≡ true → Most x a
most-le {x} p q h = most_of x q (rw (abs_plain p) h)

pub le-most : {x a : Float} → Plain x → Most x a → le x a ≡ true
le-most p h = rw (abs_plain p) at (of_most h)

-- what lies between two values above zero
pub plain_between : (a x b : Float) → T (positive a) → T (positive b) → le a x ≡ true → le x b ≡ true → Plain x
plain_between a x b p q h g = go x (between a x b p q (subst T (sym h) tt) (subst T (sym g) tt))
  where
    go : (x : Float) → T (positive x) → Plain x
    go nan p = absurd p
    go (inf s) p = absurd p
    go (fin true m e) p = absurd p
    go (fin false m e) p = plain m e

-- ---- the order

pub most_self : {x : Float} → Plain x → Most x x
most_self (plain m e) = most false m e m e (le_refl _)

pub most_trans : {x a b : Float} → Most x a → Most a b → Most x b
most_trans (most s m e n d h) (most t i j k l g) = most s m e k l (through (m * up e) (i * up j) (k * up l) (down e) (down j) (down l) (down_pos j) h g)

pub either : {x y : Float} → Plain x → Plain y → Most x y ⊎ Most y x
either (plain m e) (plain n d) = elim (dec_le (m * up e * down d) (n * up d * down e)) [
  | yes h ↦ inl (most false m e n d h)
  | no h ↦ inr (most false n d m e (le_of_lt (lt_of_not-le h)))
]

pub zero-most : {x : Float} → Plain x → Most (fin false 0 (pos 0)) x
zero-most (plain m e) = most false 0 (pos 0) m e (omega arith)

-- ---- rounding

-- the sign does not matter for the size
abs_round : (f : Format) (s : Bool) (a c : ℕ) → abs_of (round f s a c) ≡ round f false a c
abs_round f s a c = ap abs_of (round_is f s a c) ∙ abs_units _ _ ∙ sym (round_is f false a c)
  where
    abs_units : (q k : ℕ) → abs_of (units f s q k) ≡ units f false q k
    abs_units q k = unfold units in go (ltb (q * 2 ^ k) (2 ^ (low f + suc (emax f)))) q
      where
        go : (b : Bool) (q : ℕ) → abs_of (cond b (odd (suc (prec f)) s q k (low f)) (inf s)) ≡ cond b (odd (suc (prec f)) false q k (low f)) (inf false)
        go true zero = unfold abs_of odd in refl
        go true (suc q) = unfold abs_of odd in refl
        go false q = unfold abs_of in refl

-- a / b ≤ c / d
round_le : (f : Format) (s : Bool) (a b c d : ℕ) → 0 < b → 0 < d → a * d ≤ c * b → le (abs_of (round f s a b)) (round f false c d) ≡ true
round_le f s a b c d B D h = rw abs_round (is_true _ (round_mono f a b c d B D h))

-- what has a bound is no infinity
round_plain : (f : Format) (a c : ℕ) {b : Float} → Most (round f false a c) b → Plain (round f false a c)
round_plain f a c h = subst Plain (abs_round f false a c) (go h)
  where
    go : {x b : Float} → Most x b → Plain (abs_of x)
    go (most s m e n d h) = unfold abs_of in plain m e

-- ---- products and sums, where that of the bounds does not overflow

-- X / E ≤ A / D and Y / F ≤ B / G
module _ (X E A D Y F B G : ℕ) (h : X * D ≤ A * E) (g : Y * G ≤ B * F) where
  product : X * Y * (D * G) ≤ A * B * (E * F)
  product = rw (mul-mul-mul_comm X Y D G, mul-mul-mul_comm A B E F) (mul-le-mul h g)

  total : (n : ℕ) → n ≤ X * F + Y * E → n * (D * G) ≤ (A * G + B * D) * (E * F)
  total n l =
      let p : X * F * (D * G) ≤ A * G * (E * F) = simp (mul_assoc, mul_comm, mul_left_comm) (simp (mul_assoc, mul_comm) at (mul-le-mul_right (F * G) h)) in
      let q : Y * E * (D * G) ≤ B * D * (E * F) = simp (mul_assoc, mul_comm, mul_left_comm) (simp (mul_assoc, mul_comm, mul_left_comm) at (mul-le-mul_right (E * D) g)) in
      le_trans (mul-le-mul_right (D * G) l) (rw (add-mul (X * F) (Y * E) (D * G), add-mul (A * G) (B * D) (E * F)) (add-le-add p q))

pub mul_most : (f : Format) {x y a b : Float} → Most x a → Most y b → Plain (mul f a b) → Most (mul f x y) (mul f a b)
unfolding mul
mul_most f (most s m e n d h) (most t i j k l g) p = most_of _ p (round_le f _ _ _ _ _ (mul-pos (down_pos e) (down_pos j)) (mul-pos (down_pos d) (down_pos l)) (product _ _ _ _ _ _ _ _ h g))

-- whatever the signs, the sum of a / c and b / c is at most (a + b) / c in size
sum-size : (f : Format) (s : Bool) (a : ℕ) (t : Bool) (b c : ℕ) → (n : ℕ) × (n ≤ a + b) × (r : Bool) × (sum f s a t b c ≡ round f r n c)
unfolding sum
sum-size f s a t b c = go (beq s t) (ltb a b)
  where
    go : (p q : Bool) → (n : ℕ) × (n ≤ a + b) × (r : Bool) × (cond p (round f s (a + b) c) (cond q (round f t (b - a) c) (round f (s && ltb b a) (a - b) c)) ≡ round f r n c)
    go true q = (a + b, le_refl (a + b), s, refl)
    go false true = (b - a, omega arith, t, refl)
    go false false = (a - b, omega arith, s && ltb b a, refl)

pub add_most : (f : Format) {x y a b : Float} → Most x a → Most y b → Plain (add f a b) → Most (add f x y) (add f a b)
unfolding add
add_most f (most s m e n d h) (most t i j k l g) p =
    let z = sum-size f s (m * up e * down j) t (i * up j * down e) (down e * down j) in
    most_of _ p (rw z.3 (round_le f z.2 _ _ _ _ (mul-pos (down_pos e) (down_pos j)) (mul-pos (down_pos d) (down_pos l)) (total _ _ _ _ _ _ _ _ h g z.0 z.1)))

-- x * u + y * v
pub weighted : (f : Format) {x u y v a b c d : Float} → Most x a → Most u b → Most y c → Most v d → Plain (mul f a b) → Plain (mul f c d) → Plain (add f (mul f a b) (mul f c d))
    → Most (add f (mul f x u) (mul f y v)) (add f (mul f a b) (mul f c d))
weighted f x u y v p q r = add_most f (mul_most f x u p) (mul_most f y v q) r

-- of plain values that of the two is plain, if it has a bound

pub mul_plain : (f : Format) {x y b : Float} → Plain x → Plain y → Most (mul f x y) b → Plain (mul f x y)
unfolding mul
mul_plain f (plain m e) (plain n d) h = round_plain f _ _ h

pub add_plain : (f : Format) {x y b : Float} → Plain x → Plain y → Most (add f x y) b → Plain (add f x y)
unfolding add
add_plain f (plain m e) (plain n d) h = round_plain f _ _ h

-- ---- weights: from 0 to 1

abbrev pub one : Float
one = fin false 1 (pos 0)

abbrev pub Weight : Float → Type 0
Weight t = Plain t × Most t one

fraction : (f : Format) (a c : ℕ) → 0 < c → a ≤ c → Weight (round f false a c)
fraction f a c C h = let g = most_of (round f false a c) (plain 1 (pos 0)) (rw (← one_round f) (round_le f false a c 1 1 C (lit< tt) (omega arith))) in (round_plain f a c g, g)
  where
    one_round : (f : Format) → round f false 1 1 ≡ one
    one_round binary32 = unfold round in refl
    one_round binary64 = unfold round in refl

-- 1 - t

rest_is : (f : Format) (n : ℕ) (d : ℤ) → n * up d ≤ down d → sub f one (fin false n d) ≡ round f false (down d - n * up d) (down d)
unfolding sub
rest_is f n d h = rw (one-mul (down d), mul-one (n * up d), le-ltb (down d) (n * up d) h)

under_one : {m : ℕ} {e : ℤ} → Most (fin false m e) one → m * up e ≤ down e
under_one (most s m e n d h) = omega arith

pub rest_weight : (f : Format) {t : Float} → Weight t → Weight (sub f one t)
rest_weight f (plain m e, h) = rw (rest_is f m e (under_one h)) (fraction f (down e - m * up e) (down e) (down_pos e) (omega arith))

-- it falls as t grows
pub rest_falls : (f : Format) {t u : Float} → Plain t → Most t u → Most u one → Most (sub f one u) (sub f one t)
rest_falls f (plain m e) (most s i j n d h) g =
    let z = most_trans (most false i j n d h) g in
    most_of _ (rest_weight f (plain i j, z)).0 (rw (rest_is f n d (under_one g), rest_is f i j (under_one z)) (round_le f false _ _ _ _ (down_pos d) (down_pos j) (falls _ _ _ _ h)))
  where
    falls : (N D M E : ℕ) → M * D ≤ N * E → (D - N) * E ≤ (E - M) * D
    falls N D M E h = rw (mul_comm (D - N) E, mul_comm (E - M) D, mul-sub E D N, mul-sub D E M, mul_comm D E) (sub-le-sub_left (rw (mul_comm M D, mul_comm N E) at h) (E * D))

-- ---- quotients of whole numbers that the format has

-- x is plain, and a / c
data Is : Float → ℕ → ℕ → Type 0 where
  is : (m : ℕ) (e : ℤ) (a c : ℕ) → m * up e * c ≡ a * down e → Is (fin false m e) a c

is_of : (x : Float) (a c : ℕ) → HasValue x false a c → Is x a c
is_of nan a c h = absurd h
is_of (inf s) a c h = absurd h
is_of (fin true m e) a c h = absurd (true≢false h.0)
is_of (fin false m e) a c h = is m e a c h.1

quotient_is : (f : Format) (a b : ℕ) → a ≤ 2 ^ prec f → 0 < b → b ≤ 2 ^ prec f → div f (of_int f (pos a)) (of_int f (pos b)) ≡ round f false a b
unfolding of_int
quotient_is f a b A B P = go (is_of _ a 1 (round_whole f false a A)) (is_of _ b 1 (round_whole f false b P))
  where
    same : (X D Y E : ℕ) → X * 1 ≡ a * D → Y * 1 ≡ b * E → X * E * b ≡ a * (Y * D)
    same X D Y E p q = rw (← mul-one X, p, ← mul-one Y, q) (simp (mul_assoc, mul_comm, mul_left_comm))

    go : {x y : Float} → Is x a 1 → Is y b 1 → div f x y ≡ round f false a b
    go (is m e a c p) (is n d b k q) =
        let z : 0 < n * up d = let w : 0 < b * down d = mul-pos B (down_pos d) in omega arith in
        unfold div in rw (ne_eqb n 0 (λ w. omega (arith, first_pos n (up d) z))) (round_same f false _ _ a b (mul-pos z (down_pos e)) B (same _ _ _ _ p q))

pub quotient_weight : (f : Format) (a b : ℕ) → a ≤ b → 0 < b → b ≤ 2 ^ prec f → Weight (div f (of_int f (pos a)) (of_int f (pos b)))
quotient_weight f a b h B P = rw (quotient_is f a b (le_trans h P) B P) (fraction f a b B h)

-- a quotient by a power of two is exact
exact : (f : Format) (k i : ℕ) → k < prec f → i ≤ 2 ^ k → Is (round f false i (2 ^ k)) i (2 ^ k)
exact f k i K h =
    let small : i < 2 ^ prec f = lt_of_le_of_lt h (pow-lt K) in
    is_of _ _ _
    (round_exact f false i (2 ^ k) i (low f - k) (pow_pos k) small
    (lt_of_lt_of_le (shl_lt (prec f) (low f - k) small) (pow_mono (omega (arith, reach f))))
    (sym (join i (low f - k) k ∙ ap (λ (x : ℕ). i * 2 ^ x) (back (low f) k (omega (arith, two f, reach f))))))

lt_of : {x y : Float} {i j c : ℕ} → 0 < c → i < j → Is x i c → Is y j c → lt x y ≡ true
unfolding lt
lt_of C l (is m e i c p) (is n d j b q) =
    lt-ltb _ _ (lt_of_not-le (λ z. not-le_of_lt (mul-lt-mul_of_pos_right l C) (transfer j i c c (n * up d) (m * up e) (down d) (down e) (down_pos d) (down_pos e) (sym q) (sym p) z)))

-- so neighbours are in order
pub quotient-lt : (f : Format) (k i : ℕ) → k < prec f → i < 2 ^ k → lt (div f (of_int f (pos i)) (of_int f (pos (2 ^ k)))) (div f (of_int f (pos (i + 1))) (of_int f (pos (2 ^ k)))) ≡ true
quotient-lt f k i K h =
    let P : 2 ^ k ≤ 2 ^ prec f = pow_mono (le_of_lt K) in
    rw (quotient_is f i (2 ^ k) (omega arith) (pow_pos k) P, quotient_is f (i + 1) (2 ^ k) (omega arith) (pow_pos k) P)
    (lt_of (pow_pos k) (omega arith) (exact f k i K (omega arith)) (exact f k (i + 1) K (omega arith)))
