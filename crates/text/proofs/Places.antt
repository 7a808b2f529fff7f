-- What stands at a place of a text, and behind it. Assumes nothing.
use mathlib.Core.Bool.{Bool, true, false, ◌&&◌, and-true, and_assoc, and-eq-true_iff, false≢true}
use mathlib.Core.List.{List, [], ◌∷◌, ◌++◌}
use mathlib.Core.Path.{◌≡◌, refl, sym, ap, ◌∙◌, fun_ext}
use Prim.Native.Nat.{ℕ, zero, suc, ◌+◌, ◌-◌, ◌*◌, ◌<◌, ◌≤◌, min}
use native.Mathlib.Nat.{add-zero, add_assoc}
use native.Mathlib.Omega.{arith}
use borrow.Author.Tests.{lt-ltb, le-ltb, ltb-true, ltb-false, leb-true, leb-false, eq-eqb, ne_eqb, eqb-true, eqb-false}
use lib.Dec.{eqb, ltb, leb}
use lib.ListN.{length, get_or, take, drop, length-append, length-drop, get_or-append}
use lib.Seq.{get_or-drop, drop-drop, drop-append_seam, take_all}
use Rattle.std.specs.Cmp.Lexicographic.{pointwise}
use Rattle.std.specs.List.{starts_with}
use Rattle.std.specs.Prelude.{Option, Some, None, is_some}
use Rattle.limits.specs.Below.{all_below}
use Rattle.limits.proofs.Below.{all-each, all_fails}
use Rattle.text.specs.Bytes.{◌>>=◌, byte_is, stands_at, digit_of, digit_at, four_at, word_at, is_word}

-- ---- past the end

-- a byte that stands there is within the text
pub byte_within : (l : List ℕ) (i b : ℕ) → byte_is l i b ≡ true → i < length l
unfolding byte_is
byte_within l i b e = ltb-true i (length l) ((and-eq-true_iff (ltb i (length l)) (eqb (get_or l i 0) b)).0 e).0

-- ---- words

four_digits : (l : List ℕ) (at : ℕ) → is_some (four_at l at) ≡ true → (is_some (digit_at l at) ≡ true) × (is_some (digit_at l (at + 1)) ≡ true) × (is_some (digit_at l (at + 2)) ≡ true) × (is_some (digit_at l (at + 3)) ≡ true)
unfolding four_at
four_digits l at = go (digit_at l at) (digit_at l (at + 1)) (digit_at l (at + 2)) (digit_at l (at + 3))
  where
    go : (x y z u : Option ℕ) → is_some (x >>= (λ a. y >>= (λ b. z >>= (λ c. u >>= (λ d. Some (((a * 16 + b) * 16 + c) * 16 + d)))))) ≡ true → (is_some x ≡ true) × (is_some y ≡ true) × (is_some z ≡ true) × (is_some u ≡ true)
    go (Some a) (Some b) (Some c) (Some d) e = (refl, refl, refl, refl)
    go (Some a) (Some b) (Some c) None e = absurd (false≢true e)
    go (Some a) (Some b) None u e = absurd (false≢true e)
    go (Some a) None z u e = absurd (false≢true e)
    go None y z u e = absurd (false≢true e)

word_fours : (l : List ℕ) (at : ℕ) → is_word l at ≡ true → (is_some (four_at l at) ≡ true) × (is_some (four_at l (at + 4)) ≡ true)
unfolding is_word word_at
word_fours l at = go (four_at l at) (four_at l (at + 4))
  where
    go : (x y : Option ℕ) → is_some (x >>= (λ a. y >>= (λ b. Some (a * 65536 + b)))) ≡ true → (is_some x ≡ true) × (is_some y ≡ true)
    go (Some a) (Some b) e = (refl, refl)
    go (Some a) None e = absurd (false≢true e)
    go None y e = absurd (false≢true e)

-- each of its eight bytes is a digit
pub word_digits : (l : List ℕ) (at : ℕ) → is_word l at ≡ true → (k : ℕ) → k < 8 → is_some (digit_at l (at + k)) ≡ true
word_digits l at e = go
  where
    high : (is_some (digit_at l at) ≡ true) × (is_some (digit_at l (at + 1)) ≡ true) × (is_some (digit_at l (at + 2)) ≡ true) × (is_some (digit_at l (at + 3)) ≡ true)
    high = four_digits l at (word_fours l at e).0

    low : (is_some (digit_at l (at + 4)) ≡ true) × (is_some (digit_at l (at + 4 + 1)) ≡ true) × (is_some (digit_at l (at + 4 + 2)) ≡ true) × (is_some (digit_at l (at + 4 + 3)) ≡ true)
    low = four_digits l (at + 4) (word_fours l at e).1

    go : (k : ℕ) → k < 8 → is_some (digit_at l (at + k)) ≡ true
    go zero h = rw (add-zero at) high.0
    go (suc zero) h = high.1
    go (suc (suc zero)) h = high.2
    go (suc (suc (suc zero))) h = high.3
    go (suc (suc (suc (suc zero)))) h = low.0
    go (suc (suc (suc (suc (suc zero))))) h = rw (← add_assoc at 4 1) low.1
    go (suc (suc (suc (suc (suc (suc zero)))))) h = rw (← add_assoc at 4 2) low.2
    go (suc (suc (suc (suc (suc (suc (suc zero))))))) h = rw (← add_assoc at 4 3) low.3
    go (suc (suc (suc (suc (suc (suc (suc (suc k)))))))) h = absurd (omega arith)

-- ---- what comes from a place on

-- behind the place `at` of l comes r, up to the end
abbrev pub Reads : List ℕ → ℕ → List ℕ → Type 0
Reads l at r = (drop at l ≡ r) × (at + length r ≡ length l)

pub reads_start : (l : List ℕ) → Reads l 0 l
reads_start l = (refl, omega arith)

pub reads_next : (l : List ℕ) (at : ℕ) (w r : List ℕ) → Reads l at (w ++ r) → Reads l (at + length w) r
reads_next l at w r h = (
  sym (drop-drop (length w) at l) ∙ ap (drop (length w)) h.0 ∙ drop-append_seam w r,
  omega (arith, h.1, length-append w r),
)

pub digit_at_lem : (l : List ℕ) (at : ℕ) (r : List ℕ) (k : ℕ) → Reads l at r → k < length r → digit_at l (at + k) ≡ digit_of (get_or r k 0)
unfolding digit_at
digit_at_lem l at r k h s = rw (lt-ltb (at + k) (length l) (omega (arith, h.1)), ← get_or-drop at l k 0, h.0)

pub byte_at : (l : List ℕ) (at : ℕ) (r : List ℕ) (k b : ℕ) → Reads l at r → k < length r → byte_is l (at + k) b ≡ eqb (get_or r k 0) b
unfolding byte_is
byte_at l at r k b h s = rw (lt-ltb (at + k) (length l) (omega (arith, h.1)), ← get_or-drop at l k 0, h.0)

pub byte_here : (l : List ℕ) (at b : ℕ) (r : List ℕ) → Reads l at (b ∷ r) → byte_is l at b ≡ true
byte_here l at b r h = ap (λ (k : ℕ). byte_is l k b) (sym (add-zero at)) ∙ byte_at l at (b ∷ r) 0 b h (omega arith) ∙ eq-eqb b b refl

pub stands : (l : List ℕ) (at : ℕ) (w r : List ℕ) → Reads l at (w ++ r) → stands_at l at w ≡ true
unfolding stands_at
stands l at w r h =
    all-each (length w) _ λ k s. byte_at l at (w ++ r) k (get_or w k 0) h (omega (arith, length-append w r)) ∙ eq-eqb _ _ (get_or-append w r 0 k s)

-- where v stands, a word with another byte at a place in it does not
pub stands_not : (l : List ℕ) (at : ℕ) (v r w : List ℕ) (k : ℕ) → Reads l at (v ++ r) → k < length v → k < length w → eqb (get_or v k 0) (get_or w k 0) ≡ false → stands_at l at w ≡ false
unfolding stands_at
stands_not l at v r w k h s t e =
    all_fails (length w) _ k t (byte_at l at (v ++ r) k (get_or w k 0) h (omega (arith, length-append v r)) ∙ ap (λ (b : ℕ). eqb b (get_or w k 0)) (get_or-append v r 0 k s) ∙ e)

-- ---- std's `starts_with`

pub all_below-first : (n : ℕ) (P : ℕ → Bool) → all_below (suc n) P ≡ (P 0 && all_below n (λ k. P (suc k)))
unfolding all_below
all_below-first zero P = sym (and-true (P 0))
all_below-first (suc n) P = ap (λ (b : Bool). b && P (suc n)) (all_below-first n P) ∙ and_assoc (P 0) (all_below n (λ k. P (suc k))) (P (suc n))

ltb_same : (a b c d : ℕ) → (a < b → c < d) → (b ≤ a → d ≤ c) → ltb a b ≡ ltb c d
ltb_same a b c d f g = go (ltb a b) refl
  where
    go : (t : Bool) → ltb a b ≡ t → t ≡ ltb c d
    go true e = sym (lt-ltb c d (f (ltb-true a b e)))
    go false e = sym (le-ltb c d (g (ltb-false a b e)))

eqb_turned : (a b : ℕ) → eqb a b ≡ eqb b a
eqb_turned a b = go (eqb a b) refl
  where
    go : (t : Bool) → eqb a b ≡ t → t ≡ eqb b a
    go true e = sym (eq-eqb b a (sym (eqb-true a b e)))
    go false e = sym (ne_eqb b a (λ q. eqb-false a b e (sym q)))

-- at the start of a text
starts : (r w : List ℕ) → pointwise eqb w (take (length w) r) ≡ all_below (length w) (λ k. byte_is r k (get_or w k 0))
unfolding byte_is all_below
starts r [] = refl
starts [] (b ∷ w) = sym (all_fails (suc (length w)) _ 0 (omega arith) refl)
starts (a ∷ r) (b ∷ w) =
    ap (λ (c : Bool). c && pointwise eqb w (take (length w) r)) (eqb_turned b a)
    ∙ ap (λ (c : Bool). eqb a b && c)
    (starts r w ∙ ap (all_below (length w)) (fun_ext (λ k. ap (λ (c : Bool). c && eqb (get_or r k 0) (get_or w k 0)) (ltb_same k (length r) (suc k) (suc (length r)) (λ h. omega arith) (λ h. omega arith)))))
    ∙ sym (all_below-first (length w) (λ k. ltb k (suc (length r)) && eqb (get_or (a ∷ r) k 0) (get_or (b ∷ w) k 0)) ∙ rw (lt-ltb 0 (suc (length r)) (omega arith)))

-- at a place, where one past the end is taken for the end
pub starts_there : (l : List ℕ) (at m : ℕ) (w : List ℕ) → m ≡ min at (length l) → starts_with eqb (take (length l - m) (drop m l)) w ≡ stands_at l at w
unfolding stands_at byte_is
starts_there l at m w e =
    ap (λ (r : List ℕ). starts_with eqb r w) (take_all (length l - m) (drop m l) (omega (arith, length-drop m l)))
    ∙ ap (λ (i : ℕ). starts_with eqb (drop i l) w) e
    ∙ starts (drop (min at (length l)) l) w ∙ ap (all_below (length w)) (fun_ext there)
  where
    there : (k : ℕ) → (ltb k (length (drop (min at (length l)) l)) && eqb (get_or (drop (min at (length l)) l) k 0) (get_or w k 0)) ≡ (ltb (at + k) (length l) && eqb (get_or l (at + k) 0) (get_or w k 0))
    there k = go (leb at (length l)) refl
      where
        go : (b : Bool) → leb at (length l) ≡ b → (ltb k (length (drop (min at (length l)) l)) && eqb (get_or (drop (min at (length l)) l) k 0) (get_or w k 0)) ≡ (ltb (at + k) (length l) && eqb (get_or l (at + k) 0) (get_or w k 0))
        go true e =
            let h = leb-true at (length l) e in
            let here : min at (length l) ≡ at = omega arith in
            rw (here, length-drop at l, get_or-drop at l k 0) (ap (λ (c : Bool). c && eqb (get_or l (at + k) 0) (get_or w k 0)) (ltb_same k (length l - at) (at + k) (length l) (λ g. omega arith) (λ g. omega arith)))
        go false e =
            let h = leb-false at (length l) e in
            rw (le-ltb k (length (drop (min at (length l)) l)) (omega (arith, length-drop (min at (length l)) l)), le-ltb (at + k) (length l) (omega arith))
