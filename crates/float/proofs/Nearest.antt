-- `nearest_to` over whole numbers, for any tie rule: a larger fraction has none that is smaller, equal fractions have the same, and it is one quotient, with something added first.
-- All that is used of a rule is that it adds at most one. Assumes nothing.
use Rattle.std.proofs.Common.{◌≡◌, ℕ, zero, suc, ◌+◌, ◌-◌, ◌*◌, ◌/◌, ◌%◌, ◌<◌, ◌≤◌, Bool, true, false, not, T, eqb, sym, refl, ap, ◌∙◌, subst, inl, inr, zero-le, le_trans, le_of_eq, le_refl, lt_of_lt_of_le, lt_of_le_of_lt, add-zero, mul-le-mul_right, mod-lt, mod-eq_of_lt, zero-lt-suc, mul_comm, add-mul, le_antisymm, eq-or-lt_of_le, mul-lt-mul_of_pos_right, mul-pos, div-add-mod', mul_right_comm, mul-div_cancel, arith, eqb→eq, leb→le}
use Prim.Native.Nat.{compare, Ordering}
use native.Mathlib.Nat.{div-eq_of_lt, mul-mod_left}
use lib.Dec.{is_le, compare_is_eq, nleb→lt, eqb_refl}
use lib.Arith.{digits_div, lt_of_le-ne}
use lib.Ieee.{nearest}
use lib.Ieee.Nearest.{closest, div_mono}
use Rattle.float.specs.declared.rounding.Ties.{Ties}
use Rattle.float.specs.declared.rounding.Ties.TheVariants.{Up, Even}
use Rattle.float.specs.Whole.{settled, nearest_to, at_half}

-- ---- what `compare` says

abbrev Cmp : Ordering → ℕ → ℕ → Type 0
Cmp Ordering.lt a b = a < b
Cmp Ordering.eq a b = a ≡ b
Cmp Ordering.gt a b = b < a

cmp : (a b : ℕ) → Cmp (compare a b) a b
cmp a b = go (compare a b) (leb→le a b) (nleb→lt a b) (eqb→eq a b) (λ (e : a ≡ b). subst (λ (x : ℕ). T (eqb a x)) e (eqb_refl a))
  where
    go : (o : Ordering) → (T (is_le o) → a ≤ b) → (T (not (is_le o)) → b < a) → (T (compare_is_eq o) → a ≡ b) → (a ≡ b → T (compare_is_eq o)) → Cmp o a b
    go Ordering.lt h k e n = lt_of_le-ne (h tt) n
    go Ordering.eq h k e n = e tt
    go Ordering.gt h k e n = k tt

-- ---- rules

-- what an exact half adds is 0 or 1
abbrev pub Rule : (ℕ → ℕ) → Type 0
Rule tie = (q : ℕ) → tie q ≤ 1

pub half_rule : (t : Ties) (s : Bool) → Rule (at_half t s)
half_rule Up true q = zero-le
half_rule Up false q = le_refl 1
half_rule Even s q = omega arith

-- ---- by the three ways in which twice the rest can compare with the divisor

pub by_rest : (P : ℕ → Type 0) (tie : ℕ → ℕ) (n d : ℕ) → (n % d * 2 < d → P (n / d)) → (n % d * 2 ≡ d → P (n / d + tie (n / d))) → (d < n % d * 2 → P (n / d + 1)) → P (nearest_to tie n d)
unfolding nearest_to
by_rest P tie n d below half above = go (compare (n % d * 2) d) (cmp (n % d * 2) d)
  where
    go : (o : Ordering) → Cmp o (n % d * 2) d → P (settled (n / d) (tie (n / d)) o)
    go Ordering.lt h = below h
    go Ordering.eq h = half h
    go Ordering.gt h = above h

-- ---- the order

module _ (tie : ℕ → ℕ) (R : Rule tie) where
  settled-ge : (q : ℕ) (o : Ordering) → q ≤ settled q (tie q) o
  settled-ge q Ordering.lt = le_refl q
  settled-ge q Ordering.eq = omega arith
  settled-ge q Ordering.gt = omega arith

  settled-le : (q : ℕ) (o : Ordering) → settled q (tie q) o ≤ q + 1
  settled-le q Ordering.lt = omega arith
  settled-le q Ordering.eq = omega (arith, R q)
  settled-le q Ordering.gt = le_refl (q + 1)

  -- with r / b ≤ s / d: r / b is not a half or more while s / d is below a half, nor above a half while s / d is a half or less
  half_then_less : (r b s d : ℕ) → r * d ≤ s * b → 0 < b → b ≤ r * 2 → s * 2 < d → ⊥
  half_then_less r b s d h B x y =
      let p : b * d ≤ r * d * 2 = le_trans (mul-le-mul_right d x) (le_of_eq (mul_right_comm r 2 d)) in
      let q : s * b * 2 < d * b = lt_of_le_of_lt (le_of_eq (mul_right_comm s b 2)) (mul-lt-mul_of_pos_right y B) in
      let c : b * d ≡ d * b = mul_comm b d in
      omega arith

  more_then_half : (r b s d : ℕ) → r * d ≤ s * b → 0 < d → b < r * 2 → s * 2 ≤ d → ⊥
  more_then_half r b s d h D x y =
      let p : b * d < r * d * 2 = lt_of_lt_of_le (mul-lt-mul_of_pos_right x D) (le_of_eq (mul_right_comm r 2 d)) in
      let q : s * b * 2 ≤ d * b = le_trans (le_of_eq (mul_right_comm s b 2)) (mul-le-mul_right b y) in
      let c : b * d ≡ d * b = mul_comm b d in
      omega arith

  -- two fractions with the same whole part q, and rests r / b ≤ s / d
  same_whole : (q : ℕ) (o p : Ordering) (r b s d : ℕ) → Cmp o (r * 2) b → Cmp p (s * 2) d → r * d ≤ s * b → 0 < b → 0 < d → settled q (tie q) o ≤ settled q (tie q) p
  same_whole q Ordering.lt p r b s d x y h B D = settled-ge q p
  same_whole q Ordering.eq Ordering.lt r b s d x y h B D = absurd (half_then_less r b s d h B (le_of_eq (sym x)) y)
  same_whole q Ordering.eq Ordering.eq r b s d x y h B D = le_refl (q + tie q)
  same_whole q Ordering.eq Ordering.gt r b s d x y h B D = settled-le q Ordering.eq
  same_whole q Ordering.gt Ordering.lt r b s d x y h B D = absurd (more_then_half r b s d h D x (omega arith))
  same_whole q Ordering.gt Ordering.eq r b s d x y h B D = absurd (more_then_half r b s d h D x (le_of_eq y))
  same_whole q Ordering.gt Ordering.gt r b s d x y h B D = le_refl (q + 1)

  -- with the same whole part taken off both, the rests are in the fractions' order
  rests : (a b c d w : ℕ) → a / b ≡ w → c / d ≡ w → a * d ≤ c * b → a % b * d ≤ c % d * b
  rests a b c d w e f h =
      let x : w * b * d + a % b * d ≡ a * d = sym (add-mul (w * b) (a % b) d) ∙ ap (λ (z : ℕ). z * d) (ap (λ (z : ℕ). z * b + a % b) (sym e) ∙ div-add-mod' a b) in
      let y : w * d * b + c % d * b ≡ c * b = sym (add-mul (w * d) (c % d) b) ∙ ap (λ (z : ℕ). z * b) (ap (λ (z : ℕ). z * d + c % d) (sym f) ∙ div-add-mod' c d) in
      let s : w * b * d ≡ w * d * b = mul_right_comm w b d in
      omega arith

  -- a / b ≤ c / d
  pub nearest_mono : (a b c d : ℕ) → 0 < b → 0 < d → a * d ≤ c * b → nearest_to tie a b ≤ nearest_to tie c d
  unfolding nearest_to
  nearest_mono a b c d B D h =
      let o = compare (a % b * 2) b in
      let p = compare (c % d * 2) d in
      elim (eq-or-lt_of_le (div_mono a b c d B D h)) [
        | inl e ↦
            subst (λ (w : ℕ). settled w (tie w) o ≤ settled (c / d) (tie (c / d)) p) (sym e)
            (same_whole (c / d) o p (a % b) b (c % d) d (cmp (a % b * 2) b) (cmp (c % d * 2) d) (rests a b c d (c / d) e refl h) B D)
        | inr l ↦ le_trans (settled-le (a / b) o) (le_trans (next (a / b) (c / d) l) (settled-ge (c / d) p))
      ]
    where
      next : (x y : ℕ) → x < y → x + 1 ≤ y
      next x y l = omega arith

  pub nearest_same : (a b c d : ℕ) → 0 < b → 0 < d → a * d ≡ c * b → nearest_to tie a b ≡ nearest_to tie c d
  nearest_same a b c d B D e = le_antisymm (nearest_mono a b c d B D (le_of_eq e)) (nearest_mono c d a b D B (le_of_eq (sym e)))

-- ---- a whole number, and less than a half

module _ (tie : ℕ → ℕ) where
  pub nearest-whole : (w d : ℕ) → 0 < d → nearest_to tie (w * d) d ≡ w
  nearest-whole w d D =
      by_rest (λ (v : ℕ). v ≡ w) tie (w * d) d (λ h. mul-div_cancel w D)
      (λ h. absurd (no (w * d % d) (mul-mod_left w d) (le_of_eq (sym h))))
      (λ h. absurd (no (w * d % d) (mul-mod_left w d) (le_trans (omega arith) h)))
    where
      no : (r : ℕ) → r ≡ 0 → d ≤ r * 2 → ⊥
      no r e h = omega arith

  pub nearest_none : (n d : ℕ) → n * 2 < d → nearest_to tie n d ≡ 0
  nearest_none n d l =
      by_rest (λ (v : ℕ). v ≡ 0) tie n d (λ h. div-eq_of_lt less)
      (λ h. absurd (no (n % d) (mod-eq_of_lt less) (le_of_eq (sym h))))
      (λ h. absurd (no (n % d) (mod-eq_of_lt less) (le_trans (omega arith) h)))
    where
      less : n < d
      less = omega arith

      no : (r : ℕ) → r ≡ n → d ≤ r * 2 → ⊥
      no r e h = omega arith

-- ---- by one quotient: with h for half of the divisor and b for what a half adds, r + (h - 1) + b reaches the divisor where r is above h, or is h and b is one

module _ (q r h b : ℕ) (H : 0 < h) (R : r < 2 * h) (B : b ≤ 1) where
  abbrev z : ℕ
  z = r + (h - 1) + b

  stays : z < 2 * h → (q * (2 * h) + z) / (2 * h) ≡ q
  stays l = digits_div q l

  carries : 2 * h ≤ z → (q * (2 * h) + z) / (2 * h) ≡ q + 1
  carries l = ap (λ (x : ℕ). x / (2 * h)) (one (q * (2 * h)) ((q + 1) * (2 * h)) (add-mul q 1 (2 * h))) ∙ digits_div (q + 1) {m = 2 * h} {r = z - 2 * h} (omega arith)
    where
      one : (x y : ℕ) → y ≡ x + 1 * (2 * h) → x + z ≡ y + (z - 2 * h)
      one x y e = omega arith

  half : r * 2 ≡ 2 * h → (q * (2 * h) + z) / (2 * h) ≡ q + b
  half e = go b refl
    where
      go : (c : ℕ) → b ≡ c → (q * (2 * h) + z) / (2 * h) ≡ q + c
      go zero g = stays (omega arith) ∙ sym (add-zero q)
      go (suc zero) g = carries (omega arith)
      go (suc (suc c)) g = absurd (no c b g B)
        where
          no : (c b : ℕ) → b ≡ suc (suc c) → b ≤ 1 → ⊥
          no c b g l = omega arith

pub nearest-added : (tie n h : ℕ) → tie ≤ 1 → 0 < h → (n + (h - 1) + tie) / (2 * h) ≡ nearest_to (λ _. tie) n (2 * h)
nearest-added tie n h B H =
    let q = n / (2 * h) in
    let r = n % (2 * h) in
    let R : r < 2 * h = mod-lt n (mul-pos (zero-lt-suc 1) H) in
    let e : (n + (h - 1) + tie) / (2 * h) ≡ (q * (2 * h) + (r + (h - 1) + tie)) / (2 * h) =
    ap (λ (x : ℕ). x / (2 * h)) (ap (λ (x : ℕ). x + (h - 1) + tie) (sym (div-add-mod' n (2 * h))) ∙ regroup (q * (2 * h)) r (h - 1) tie) in
    by_rest (λ (v : ℕ). (n + (h - 1) + tie) / (2 * h) ≡ v) (λ _. tie) n (2 * h)
    (λ l. e ∙ stays q r h tie H R B (omega arith))
    (λ l. e ∙ half q r h tie H R B l)
    (λ l. e ∙ carries q r h tie H R B (omega arith))
  where
    regroup : (a b c d : ℕ) → a + b + c + d ≡ a + (b + c + d)
    regroup a b c d = omega arith

-- ---- to the even one it is the library's rounding

pub nearest_even : (n d : ℕ) → nearest_to (λ _. n / d % 2) n d ≡ closest n d
unfolding nearest_to
nearest_even n d = go (n / d) (compare (n % d * 2) d)
  where
    go : (q : ℕ) (o : Ordering) → settled q (q % 2) o ≡ nearest q o
    go q Ordering.lt = refl
    go q Ordering.eq = refl
    go q Ordering.gt = omega arith
