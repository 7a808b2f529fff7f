-- What `whole_of` means, over the tie rule: the whole number nearest to the exact value of a float times a whole number. Assumes nothing.
-- A finite x is num x / den x in size.
use Rattle.std.proofs.Common.{◌≡◌, ℕ, zero, suc, ◌+◌, ◌-◌, ◌*◌, ◌/◌, ◌%◌, ◌<◌, ◌≤◌, Bool, true, false, cond, T, ℤ, pos, negsuc, neg_ℤ, nat_abs, ◌≤ℤ◌, sym, refl, ap, ◌∙◌, subst, zero-le, le_trans, le_of_eq, le_of_suc-le-suc, add-zero, mul-le-mul_right, mod-lt, zero-lt-suc, add-mul, le_antisymm, lt_of_mul-lt-mul_right, mul-pos, one-mul, div-add-mod', zero-mul, mul_right_comm, arith, le→leb, ltb-false}
use Rattle.std.specs.Prelude.{Option, Some, None}
use lib.Arith.{digits_div, digits_mod}
use lib.Signed.{le_z_yes}
use lib.Ieee.{Float, nan, inf, fin, binary32, up, down, lt, of_bits}
use lib.Ieee.Fits.{down_pos}
use lib.Ieee.Positive.{num, den, den_pos}
use lib.Ieee.Scale.{finite}
use Rattle.float.specs.declared.rounding.Ties.{Ties}
use Rattle.float.specs.declared.rounding.Ties.TheVariants.{Up, Even}
use Rattle.float.specs.Whole.{nearest_to, at_half, with_sign, whole_of, sign_of, NearestWhole}
use Rattle.float.proofs.Nearest.{Rule, half_rule, by_rest, nearest_mono, nearest_none}
use Rattle.float.proofs.Product.{size-signed}

-- ---- a fraction

module _ (tie : ℕ → ℕ) (R : Rule tie) (n d : ℕ) (D : 0 < d) where
  -- at most a half away; all sides are doubled
  within-half : (2 * n ≤ 2 * (nearest_to tie n d * d) + d) × (2 * (nearest_to tie n d * d) ≤ 2 * n + d)
  within-half =
      by_rest (λ (v : ℕ). (2 * n ≤ 2 * (v * d) + d) × (2 * (v * d) ≤ 2 * n + d)) tie n d
      (λ h. below (n / d * d) (n % d) (div-add-mod' n d) h)
      (λ h. half (n / d * d) (n % d) (tie (n / d) * d) ((n / d + tie (n / d)) * d) (div-add-mod' n d) (add-mul (n / d) (tie (n / d)) d) (le_trans (mul-le-mul_right d (R (n / d))) (le_of_eq (one-mul d))) h)
      (λ h. above (n / d * d) (n % d) ((n / d + 1) * d) (mod-lt n D) (div-add-mod' n d) (add-mul (n / d) 1 d ∙ ap (λ (x : ℕ). n / d * d + x) (one-mul d)) h)
    where
      below : (q r : ℕ) → q + r ≡ n → r * 2 < d → (2 * n ≤ 2 * q + d) × (2 * q ≤ 2 * n + d)
      below q r e h = omega arith

      half : (q r b v : ℕ) → q + r ≡ n → v ≡ q + b → b ≤ d → r * 2 ≡ d → (2 * n ≤ 2 * v + d) × (2 * v ≤ 2 * n + d)
      half q r b v e f l h = omega arith

      above : (q r v : ℕ) → r < d → q + r ≡ n → v ≡ q + d → d < r * 2 → (2 * n ≤ 2 * v + d) × (2 * v ≤ 2 * n + d)
      above q r v l e f h = omega arith

  -- at an exact half the rule decides
  at-half : (q : ℕ) → 2 * n ≡ 2 * (q * d) + d → nearest_to tie n d ≡ q + tie q
  at-half q h =
      let r = n - q * d in
      let e : n ≡ q * d + r = whole (q * d) h in
      let l : r < d = rest (q * d) h in
      let Q : n / d ≡ q = ap (λ (x : ℕ). x / d) e ∙ digits_div q l in
      let M : n % d ≡ r = ap (λ (x : ℕ). x % d) e ∙ digits_mod q l in
      by_rest (λ (v : ℕ). v ≡ q + tie q) tie n d
      (λ g. absurd (less (q * d) (n % d) h M g))
      (λ g. ap (λ (x : ℕ). x + tie x) Q)
      (λ g. absurd (more (q * d) (n % d) h M g))
    where
      whole : (x : ℕ) → 2 * n ≡ 2 * x + d → n ≡ x + (n - x)
      whole x e = omega arith

      rest : (x : ℕ) → 2 * n ≡ 2 * x + d → n - x < d
      rest x e = omega arith

      less : (x r : ℕ) → 2 * n ≡ 2 * x + d → r ≡ n - x → r * 2 < d → ⊥
      less x r e f g = omega arith

      more : (x r : ℕ) → 2 * n ≡ 2 * x + d → r ≡ n - x → d < r * 2 → ⊥
      more x r e f g = omega arith

  -- and nothing else is at most a half away, where the rule decides at an exact half
  nearest_unique : (v : ℕ) → 2 * n ≤ 2 * (v * d) + d → 2 * (v * d) ≤ 2 * n + d → ((q : ℕ) → 2 * n ≡ 2 * (q * d) + d → v ≡ q + tie q) → v ≡ nearest_to tie n d
  nearest_unique v a b h =
      let q = n / d in
      let e = div-add-mod' n d in
      by_rest (λ (w : ℕ). v ≡ w) tie n d
      (λ l. le_antisymm (upto v q (v * d) (q * d) refl refl (under (v * d) (q * d) (n % d) e b l)) (upto q v (q * d) (v * d) refl refl (over (v * d) (q * d) (n % d) e a)))
      (λ l. h q (exact (q * d) (n % d) e l))
      (λ l. le_antisymm (upto v (q + 1) (v * d) (q * d + d) refl (next q) (beyond (v * d) (q * d) (n % d) e (mod-lt n D) b)) (past q v (lt_of_mul-lt-mul_right d (behind (v * d) (q * d) (n % d) e a l))))
    where
      next : (x : ℕ) → (x + 1) * d ≡ x * d + d
      next x = add-mul x 1 d ∙ ap (λ (y : ℕ). x * d + y) (one-mul d)

      upto : (x y X Y : ℕ) → x * d ≡ X → y * d ≡ Y → X < Y + d → x ≤ y
      upto x y X Y p r l = less x y (lt_of_mul-lt-mul_right d (subst (λ (u : ℕ). u < (y + 1) * d) (sym p) (subst (λ (u : ℕ). X < u) (sym (next y ∙ ap (λ (u : ℕ). u + d) r)) l)))
        where
          less : (x y : ℕ) → x < y + 1 → x ≤ y
          less x y l = omega arith

      past : (x y : ℕ) → x < y → x + 1 ≤ y
      past x y l = omega arith

      under : (A Q r : ℕ) → Q + r ≡ n → 2 * A ≤ 2 * n + d → r * 2 < d → A < Q + d
      under A Q r e b l = omega arith

      over : (A Q r : ℕ) → Q + r ≡ n → 2 * n ≤ 2 * A + d → Q < A + d
      over A Q r e a = omega arith

      exact : (Q r : ℕ) → Q + r ≡ n → r * 2 ≡ d → 2 * n ≡ 2 * Q + d
      exact Q r e l = omega arith

      beyond : (A Q r : ℕ) → Q + r ≡ n → r < d → 2 * A ≤ 2 * n + d → A < Q + d + d
      beyond A Q r e m b = omega arith

      behind : (A Q r : ℕ) → Q + r ≡ n → 2 * n ≤ 2 * A + d → d < r * 2 → Q < A
      behind A Q r e a l = omega arith

-- ---- a float times a whole number

abbrev sized : Ties → ℕ → Float → ℕ
sized t k x = nearest_to (at_half t (sign_of x)) (num x * k) (den x)

never : {z : ℤ} → ◌≡◌ {A = Option ℤ} None (Some z) → ⊥
never e = let y : ◌≡◌ {A = ℕ} 0 1 = cc in omega arith

whole_is : (t : Ties) (k : ℕ) (x : Float) (z : ℤ) → whole_of t k x ≡ Some z → z ≡ with_sign (sign_of x) (sized t k x)
unfolding whole_of
whole_is t k nan z e = absurd (never e)
whole_is t k (inf s) z e = absurd (never e)
whole_is t k (fin s m e) z h = cc

-- It is within a half of the exact value, with its sign, and an exact half goes where the rule says.
pub whole_correct : (t : Ties) (k : ℕ) (x : Float) (z : ℤ) → whole_of t k x ≡ Some z → NearestWhole t (sign_of x) (num x * k) (den x) z
whole_correct t k x z e =
    let tie = at_half t (sign_of x) in
    let R = half_rule t (sign_of x) in
    let w = within-half tie R (num x * k) (den x) (den_pos x) in
    record { size = sized t k x; signed = whole_is t k x z e; above = w.0; below = w.1; half = at-half tie R (num x * k) (den x) (den_pos x) }

-- No other whole number is.
pub whole_unique : (t : Ties) (k : ℕ) (x : Float) (z y : ℤ) → whole_of t k x ≡ Some z → NearestWhole t (sign_of x) (num x * k) (den x) y → y ≡ z
whole_unique t k x z y e w =
    w.signed ∙ ap (with_sign (sign_of x)) (nearest_unique (at_half t (sign_of x)) (half_rule t (sign_of x)) (num x * k) (den x) (den_pos x) w.size w.above w.below w.half) ∙ sym (whole_is t k x z e)

-- Only an infinity and a NaN have none.
pub whole_exists : (t : Ties) (k : ℕ) (x : Float) → T (finite x) → (z : ℤ) × (whole_of t k x ≡ Some z)
unfolding whole_of
whole_exists t k nan h = absurd h
whole_exists t k (inf s) h = absurd h
whole_exists t k (fin s m e) h = (with_sign s (sized t k (fin s m e)), refl)

-- ---- an exact half, x * k = ±(q + 1 / 2)

-- upward: the greater of the two, whatever the sign
pub half_up : (k : ℕ) (x : Float) (z : ℤ) (q : ℕ) → whole_of Up k x ≡ Some z → 2 * (num x * k) ≡ 2 * (q * den x) + den x → z ≡ cond (sign_of x) (neg_ℤ (pos q)) (pos (q + 1))
half_up k x z q e h = let w = whole_correct Up k x z e in w.signed ∙ go (sign_of x) w.size (w.half q h)
  where
    go : (s : Bool) (n : ℕ) → n ≡ q + at_half Up s q → with_sign s n ≡ cond s (neg_ℤ (pos q)) (pos (q + 1))
    go true n l = ap (λ (y : ℕ). neg_ℤ (pos y)) (l ∙ add-zero q)
    go false n l = ap pos l

-- to the even one
pub half_even : (k : ℕ) (x : Float) (z : ℤ) (q : ℕ) → whole_of Even k x ≡ Some z → 2 * (num x * k) ≡ 2 * (q * den x) + den x → nat_abs z % 2 ≡ 0
half_even k x z q e h = let w = whole_correct Even k x z e in ap (λ (y : ℤ). nat_abs y % 2) w.signed ∙ ap (λ (n : ℕ). n % 2) (size-signed (sign_of x) w.size ∙ w.half q h) ∙ even q
  where
    even : (q : ℕ) → (q + q % 2) % 2 ≡ 0
    even q = omega arith

-- a hair off the half, and a half is for neither rule to decide: what is less than a half away is the one
pub nearer : (t : Ties) (k : ℕ) (x : Float) (w : ℕ) → T (finite x) → 2 * (num x * k) < 2 * (w * den x) + den x → 2 * (w * den x) < 2 * (num x * k) + den x → whole_of t k x ≡ Some (with_sign (sign_of x) w)
nearer t k x w f a b =
    let z = whole_exists t k x f in
    z.1 ∙ ap Some (sym (whole_unique t k x z.0 (with_sign (sign_of x) w) z.1 (record { size = w; signed = refl; above = omega arith; below = omega arith; half = λ q e. absurd (no q e) })))
  where
    no : (q : ℕ) → 2 * (num x * k) ≡ 2 * (q * den x) + den x → ⊥
    no q e = clash q w (lt_of_mul-lt-mul_right (den x) (first (num x * k) (q * den x) (w * den x) (den x) e a)) (lt_of_mul-lt-mul_right (den x) (subst (λ (u : ℕ). w * den x < u) (sym (add-mul q 1 (den x) ∙ ap (λ (y : ℕ). q * den x + y) (one-mul (den x)))) (second (num x * k) (q * den x) (w * den x) (den x) e b)))
      where
        clash : (q w : ℕ) → q < w → w < q + 1 → ⊥
        clash q w l g = omega arith

        first : (n Q W d : ℕ) → 2 * n ≡ 2 * Q + d → 2 * n < 2 * W + d → Q < W
        first n Q W d e a = omega arith

        second : (n Q W d : ℕ) → 2 * n ≡ 2 * Q + d → 2 * W < 2 * n + d → W < Q + d
        second n Q W d e b = omega arith

-- ---- the order: where y is not less than x, it has no less a whole number

signed_above : (a b : ℕ) → with_sign true a ≤ℤ pos b
signed_above zero b = le_z_yes (le→leb 0 b zero-le)
signed_above (suc a) b = le_z_yes tt

signed_falls : (a b : ℕ) → b ≤ a → with_sign true a ≤ℤ with_sign true b
signed_falls zero zero h = le_z_yes (le→leb 0 0 h)
signed_falls zero (suc b) h = absurd (omega (arith, h))
signed_falls (suc a) zero h = le_z_yes tt
signed_falls (suc a) (suc b) h = le_z_yes (le→leb b a (le_of_suc-le-suc h))

module _ (t : Ties) (k m : ℕ) (e : ℤ) (n : ℕ) (d : ℤ) where
  -- in size, by products across
  grows : (s : Bool) → m * up e * down d ≤ n * up d * down e → nearest_to (at_half t s) (m * up e * k) (down e) ≤ nearest_to (at_half t s) (n * up d * k) (down d)
  grows s h = nearest_mono (at_half t s) (half_rule t s) (m * up e * k) (down e) (n * up d * k) (down d) (down_pos e) (down_pos d) (rw (mul_right_comm (m * up e) k (down d), mul_right_comm (n * up d) k (down e)) (mul-le-mul_right k h))

  -- a zero has the whole number 0
  nothing : (s : Bool) → m * up e * down d ≤ 0 → nearest_to (at_half t s) (m * up e * k) (down e) ≡ 0
  nothing s h = nearest_none (at_half t s) (m * up e * k) (down e) (rw (zero_of (m * up e) (down d) (down_pos d) h, zero-mul k) (down_pos e))
    where
      zero_of : (x b : ℕ) → 0 < b → x * b ≤ 0 → x ≡ 0
      zero_of zero b B h = refl
      zero_of (suc x) b B h = absurd (omega (arith, mul-pos (zero-lt-suc x) B))

in_order : (t : Ties) (k : ℕ) (s : Bool) (m : ℕ) (e : ℤ) (u : Bool) (n : ℕ) (d : ℤ) → lt (fin u n d) (fin s m e) ≡ false → with_sign s (sized t k (fin s m e)) ≤ℤ with_sign u (sized t k (fin u n d))
unfolding lt
in_order t k false m e false n d h = le_z_yes (le→leb (sized t k (fin false m e)) (sized t k (fin false n d)) (grows t k m e n d false (ltb-false (n * up d * down e) (m * up e * down d) h)))
in_order t k true m e true n d h = signed_falls (sized t k (fin true m e)) (sized t k (fin true n d)) (grows t k n d m e true (ltb-false (m * up e * down d) (n * up d * down e) h))
in_order t k true m e false n d h = signed_above (sized t k (fin true m e)) (sized t k (fin false n d))
in_order t k false m e true n d h =
    let l = ltb-false 0 (n * up d * down e + m * up e * down d) h in
    rw (nothing t k m e n d false (omega arith), nothing t k n d m e true (omega arith)) (le_z_yes (le→leb 0 0 zero-le))

pub whole_monotone : (t : Ties) (k : ℕ) (x y : Float) (a b : ℤ) → whole_of t k x ≡ Some a → whole_of t k y ≡ Some b → lt y x ≡ false → a ≤ℤ b
whole_monotone t k x y a b p q h = rw (whole_is t k x a p, whole_is t k y b q) (go x y p q h)
  where
    go : (x y : Float) → whole_of t k x ≡ Some a → whole_of t k y ≡ Some b → lt y x ≡ false → with_sign (sign_of x) (sized t k x) ≤ℤ with_sign (sign_of y) (sized t k y)
    go nan y p q h = unfold whole_of in absurd (never p)
    go (inf s) y p q h = unfold whole_of in absurd (never p)
    go (fin s m e) nan p q h = unfold whole_of in absurd (never q)
    go (fin s m e) (inf u) p q h = unfold whole_of in absurd (never q)
    go (fin s m e) (fin u n d) p q h = in_order t k s m e u n d h

-- ---- examples

-- 0.7 is a hair below, times 5: 3 by either rule, where a product of floats would be 3.5
pub below_half : (whole_of Up 5 (of_bits binary32 0x3f33_3333) ≡ Some (pos 3)) × (whole_of Even 5 (of_bits binary32 0x3f33_3333) ≡ Some (pos 3))
unfolding whole_of nearest_to of_bits
below_half = (refl, refl)

-- 2.5, and -2.5; 3.5
pub at_halves :
    (whole_of Up 5 (of_bits binary32 0x3f00_0000) ≡ Some (pos 3)) × (whole_of Up 5 (of_bits binary32 0xbf00_0000) ≡ Some (negsuc 1)) × (whole_of Even 5 (of_bits binary32 0x3f00_0000) ≡ Some (pos 2))
    × (whole_of Even 5 (of_bits binary32 0xbf00_0000) ≡ Some (negsuc 1))
    × (whole_of Even 7 (of_bits binary32 0x3f00_0000) ≡ Some (pos 4))
unfolding whole_of nearest_to of_bits
at_halves = (refl, refl, refl, refl, refl)

-- the least float, times the largest u32; a zero below zero
pub small : (whole_of Up 4_294_967_295 (of_bits binary32 1) ≡ Some (pos 0)) × (whole_of Up 1 (of_bits binary32 0x8000_0000) ≡ Some (pos 0))
unfolding whole_of nearest_to of_bits
small = (refl, refl)
