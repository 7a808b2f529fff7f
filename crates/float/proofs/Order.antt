-- `<` puts the numbers among the floats in order, -0 and 0 at one place. Assumes nothing.
use Rattle.std.proofs.Common.{◌≡◌, ℕ, zero, suc, ◌+◌, ◌*◌, ◌<◌, ◌≤◌, Bool, true, false, ◌&&◌, ◌||◌, eqb, ℤ, sym, refl, ◌∙◌, true≢false, le_trans, le_refl, lt_of_lt_of_le, le_of_lt, lt_irrefl, mul-le-mul_right, zero-lt-suc, lt_of_mul-lt-mul_right, mul-lt-mul_of_pos_right, mul-pos, zero-mul, mul_right_comm, le_of_mul-le-mul_right, arith, ltb-false, ltb-true, le-ltb, lt-ltb, eq-eqb, eqb-true}
use mathlib.Core.Bool.{beq, and-eq-true_iff, false≢true}
use lib.Ieee.{Float, nan, inf, fin, up, down, below, is_nan, lt, eq, le}
use lib.Ieee.Fits.{down_pos}

-- ---- x / a, y / b and z / c, by their products across

chain_lt : (x y z a b c : ℕ) → 0 < c → x * b < y * a → y * c ≤ z * b → x * c < z * a
chain_lt x y z a b c C h k =
    let first : x * c * b < y * c * a = rw (mul_right_comm x c b, mul_right_comm y c a) (mul-lt-mul_of_pos_right h C) in
    let second : y * c * a ≤ z * a * b = rw (mul_right_comm z a b) (mul-le-mul_right a k) in
    lt_of_mul-lt-mul_right b (lt_of_lt_of_le first second)

chain_le : (x y z a b c : ℕ) → 0 < b → x * b ≤ y * a → y * c ≤ z * b → x * c ≤ z * a
chain_le x y z a b c B h k =
    let first : x * c * b ≤ y * c * a = rw (mul_right_comm x c b, mul_right_comm y c a) (mul-le-mul_right c h) in
    let second : y * c * a ≤ z * a * b = rw (mul_right_comm z a b) (mul-le-mul_right a k) in
    le_of_mul-le-mul_right (le_trans first second) B

-- zero over one denominator is zero over another
nonzero : (x b c : ℕ) → 0 < c → 0 < x * b → 0 < x * c
nonzero zero b c C h = absurd (lt_irrefl 0 (rw zero-mul at h))
nonzero (suc x) b c C h = mul-pos (zero-lt-suc x) C

none : (x b c : ℕ) → 0 < b → x * b ≤ 0 → x * c ≤ 0
none zero b c B h = rw zero-mul (le_refl 0)
none (suc x) b c B h = absurd (omega (arith, mul-pos (zero-lt-suc x) B))

module _ (x y z a b c : ℕ) (A : 0 < a) (B : 0 < b) (C : 0 < c) where
  below_trans : (s t u : Bool) → below s (x * b) t (y * a) ≡ true → below t (y * c) u (z * b) ≡ true → below s (x * c) u (z * a) ≡ true
  below_trans false false false h k = lt-ltb (x * c) (z * a) (chain_lt x y z a b c C (ltb-true _ _ h) (le_of_lt (ltb-true _ _ k)))
  below_trans true true true h k = lt-ltb (z * a) (x * c) (chain_lt z y x c b a A (ltb-true _ _ k) (le_of_lt (ltb-true _ _ h)))
  below_trans true false false h k = lt-ltb 0 (x * c + z * a) (omega (arith, nonzero z b a A (omega (arith, ltb-true (y * c) (z * b) k))))
  below_trans true true false h k = lt-ltb 0 (x * c + z * a) (omega (arith, nonzero x b c C (omega (arith, ltb-true (y * a) (x * b) h))))
  below_trans false true u h k = absurd (false≢true h)
  below_trans false false true h k = absurd (false≢true k)
  below_trans true false true h k = absurd (false≢true k)

  not_below_trans : (s t u : Bool) → below s (x * b) t (y * a) ≡ false → below t (y * c) u (z * b) ≡ false → below s (x * c) u (z * a) ≡ false
  not_below_trans false false false h k = le-ltb (x * c) (z * a) (chain_le z y x c b a B (ltb-false _ _ k) (ltb-false _ _ h))
  not_below_trans true true true h k = le-ltb (z * a) (x * c) (chain_le x y z a b c B (ltb-false _ _ h) (ltb-false _ _ k))
  not_below_trans false true false h k = le-ltb (x * c) (z * a) (omega (arith, none z b a B (omega (arith, ltb-false 0 (y * c + z * b) k))))
  not_below_trans true false true h k = le-ltb (z * a) (x * c) (omega (arith, none x b c B (omega (arith, ltb-false 0 (x * b + y * a) h))))
  not_below_trans true false false h k =
      let first = ltb-false 0 (x * b + y * a) h in
      let y-none = none y a c A (omega (arith, first)) in
      le-ltb 0 (x * c + z * a) (omega (arith, none x b c B (omega (arith, first)), none z b a B (omega (arith, y-none, ltb-false (y * c) (z * b) k))))
  not_below_trans true true false h k =
      let second = ltb-false 0 (y * c + z * b) k in
      let y-none = none y c a C (omega (arith, second)) in
      le-ltb 0 (x * c + z * a) (omega (arith, none x b c B (omega (arith, y-none, ltb-false (y * a) (x * b) h)), none z b a B (omega (arith, second))))
  not_below_trans false false true h k = refl
  not_below_trans false true true h k = refl

-- ----

-- what is in order is a number
pub number_before : (x y : Float) → lt x y ≡ true → is_nan x ≡ false
unfolding lt is_nan
number_before nan y h = absurd (false≢true h)
number_before (inf s) y h = refl
number_before (fin s m e) y h = refl

pub number_behind : (x y : Float) → lt y x ≡ true → is_nan x ≡ false
unfolding lt is_nan
number_behind nan nan h = absurd (false≢true h)
number_behind nan (inf s) h = absurd (false≢true h)
number_behind nan (fin s m e) h = absurd (false≢true h)
number_behind (inf s) y h = refl
number_behind (fin s m e) y h = refl

pub lt_trans : (x y z : Float) → lt x y ≡ true → lt y z ≡ true → lt x z ≡ true
unfolding lt
lt_trans nan y z h k = absurd (false≢true h)
lt_trans (inf s) nan z h k = absurd (false≢true h)
lt_trans (fin s m e) nan z h k = absurd (false≢true h)
lt_trans (inf true) (inf true) z h k = absurd (false≢true h)
lt_trans (inf false) (inf t) z h k = absurd (false≢true h)
lt_trans (inf false) (fin t n d) z h k = absurd (false≢true h)
lt_trans (inf true) (inf false) nan h k = absurd (false≢true k)
lt_trans (inf true) (inf false) (inf u) h k = absurd (false≢true k)
lt_trans (inf true) (inf false) (fin u p f) h k = absurd (false≢true k)
lt_trans (inf true) (fin t n d) nan h k = absurd (false≢true k)
lt_trans (inf true) (fin t n d) (inf u) h k = k
lt_trans (inf true) (fin t n d) (fin u p f) h k = refl
lt_trans (fin s m e) (inf true) z h k = absurd (false≢true h)
lt_trans (fin s m e) (inf false) nan h k = absurd (false≢true k)
lt_trans (fin s m e) (inf false) (inf u) h k = absurd (false≢true k)
lt_trans (fin s m e) (inf false) (fin u p f) h k = absurd (false≢true k)
lt_trans (fin s m e) (fin t n d) nan h k = absurd (false≢true k)
lt_trans (fin s m e) (fin t n d) (inf u) h k = k
lt_trans (fin s m e) (fin t n d) (fin u p f) h k = below_trans (m * up e) (n * up d) (p * up f) (down e) (down d) (down f) (down_pos e) (down_pos d) (down_pos f) s t u h k

-- where the one between is a number
pub not_lt_trans : (x y z : Float) → is_nan y ≡ false → lt x y ≡ false → lt y z ≡ false → lt x z ≡ false
unfolding lt is_nan
not_lt_trans nan y z n h k = refl
not_lt_trans (inf s) nan z n h k = absurd (true≢false n)
not_lt_trans (fin s m e) nan z n h k = absurd (true≢false n)
not_lt_trans (inf s) (inf t) nan n h k = refl
not_lt_trans (inf s) (fin t l d) nan n h k = refl
not_lt_trans (fin s m e) (inf t) nan n h k = refl
not_lt_trans (fin s m e) (fin t l d) nan n h k = refl
not_lt_trans (inf false) (inf t) (inf u) n h k = refl
not_lt_trans (inf true) (inf true) (inf u) n h k = k
not_lt_trans (inf true) (inf false) (inf u) n h k = absurd (true≢false h)
not_lt_trans (inf false) (inf t) (fin u p f) n h k = refl
not_lt_trans (inf true) (inf true) (fin u p f) n h k = absurd (true≢false k)
not_lt_trans (inf true) (inf false) (fin u p f) n h k = absurd (true≢false h)
not_lt_trans (inf true) (fin t l d) (inf u) n h k = absurd (true≢false h)
not_lt_trans (inf false) (fin t l d) (inf u) n h k = refl
not_lt_trans (inf s) (fin t l d) (fin u p f) n h k = h
not_lt_trans (fin s m e) (inf true) (inf u) n h k = k
not_lt_trans (fin s m e) (inf false) (inf u) n h k = absurd (true≢false h)
not_lt_trans (fin s m e) (inf true) (fin u p f) n h k = absurd (true≢false k)
not_lt_trans (fin s m e) (inf false) (fin u p f) n h k = absurd (true≢false h)
not_lt_trans (fin s m e) (fin t l d) (inf u) n h k = k
not_lt_trans (fin s m e) (fin t l d) (fin u p f) n h k = not_below_trans (m * up e) (l * up d) (p * up f) (down e) (down d) (down f) (down_pos e) (down_pos d) (down_pos f) s t u h k

pub lt_itself : (x : Float) → lt x x ≡ false
unfolding lt
lt_itself nan = refl
lt_itself (inf true) = refl
lt_itself (inf false) = refl
lt_itself (fin true m e) = le-ltb (m * up e * down e) (m * up e * down e) (le_refl _)
lt_itself (fin false m e) = le-ltb (m * up e * down e) (m * up e * down e) (le_refl _)

pub lt_asym : (x y : Float) → lt x y ≡ true → lt y x ≡ false
lt_asym x y h = go (lt y x) refl
  where
    go : (b : Bool) → lt y x ≡ b → b ≡ false
    go true k = sym (lt_trans x y x h k) ∙ lt_itself x
    go false k = refl

-- ---- equals

-- only numbers are equal
pub eq_numbers : (x y : Float) → eq x y ≡ true → (is_nan x ≡ false) × (is_nan y ≡ false)
unfolding eq is_nan
eq_numbers nan y h = absurd (false≢true h)
eq_numbers (inf s) nan h = absurd (false≢true h)
eq_numbers (fin s m e) nan h = absurd (false≢true h)
eq_numbers (inf s) (inf t) h = (refl, refl)
eq_numbers (inf s) (fin t n d) h = absurd (false≢true h)
eq_numbers (fin s m e) (inf t) h = absurd (false≢true h)
eq_numbers (fin s m e) (fin t n d) h = (refl, refl)

-- each equals itself, an infinity too
pub eq_itself : (x : Float) → is_nan x ≡ false → eq x x ≡ true
unfolding eq is_nan
eq_itself nan h = absurd (true≢false h)
eq_itself (inf true) h = refl
eq_itself (inf false) h = refl
eq_itself (fin s m e) h = rw (eq-eqb (m * up e * down e) _ refl, same s)
  where
    same : (s : Bool) → beq s s ≡ true
    same true = refl
    same false = refl

-- zeros equal each other, whatever their signs
pub eq-zeros : (s t : Bool) (e d : ℤ) → eq (fin s 0 e) (fin t 0 d) ≡ true
unfolding eq
eq-zeros s t e d = rw (zero-mul (up e), zero-mul (down d), zero-mul (up d), zero-mul (down e)) (or_true (beq s t))
  where
    or_true : (b : Bool) → b || true ≡ true
    or_true true = refl
    or_true false = refl

-- equals, and what is at most another, are not above it

pub eq-not-above : (x y : Float) → eq x y ≡ true → lt y x ≡ false
unfolding eq lt
eq-not-above nan y h = absurd (false≢true h)
eq-not-above (inf s) nan h = absurd (false≢true h)
eq-not-above (inf true) (inf t) h = and_false_right t
  where
    and_false_right : (t : Bool) → t && false ≡ false
    and_false_right true = refl
    and_false_right false = refl
eq-not-above (inf false) (inf true) h = absurd (false≢true h)
eq-not-above (inf false) (inf false) h = refl
eq-not-above (inf s) (fin t n d) h = absurd (false≢true h)
eq-not-above (fin s m e) nan h = absurd (false≢true h)
eq-not-above (fin s m e) (inf t) h = absurd (false≢true h)
eq-not-above (fin s m e) (fin t n d) h = go s t ((and-eq-true_iff _ _).0 h)
  where
    a : ℕ
    a = m * up e * down d

    b : ℕ
    b = n * up d * down e

    go : (s t : Bool) → (eqb a b ≡ true) × (beq s t || eqb a 0 ≡ true) → below t b s a ≡ false
    go false false (h, k) = le-ltb b a (omega (arith, eqb-true a b h))
    go true true (h, k) = le-ltb a b (omega (arith, eqb-true a b h))
    go true false (h, k) = refl
    go false true (h, k) = le-ltb 0 (b + a) (omega (arith, eqb-true a b h, eqb-true a 0 k))

pub le-not-above : (x y : Float) → le x y ≡ true → lt y x ≡ false
unfolding le
le-not-above x y h = go (lt x y) (eq x y) (lt_asym x y) (eq-not-above x y) h
  where
    go : (p q : Bool) → (p ≡ true → lt y x ≡ false) → (q ≡ true → lt y x ≡ false) → p || q ≡ true → lt y x ≡ false
    go true q f g h = f refl
    go false true f g h = g refl
    go false false f g h = absurd (false≢true h)
