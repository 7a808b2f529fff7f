-- Digits and words that are written are read back. Assumes nothing.
use mathlib.Core.Bool.{true, false, not}
use mathlib.Core.List.{List, ◌∷◌, ◌++◌, append_assoc}
use mathlib.Core.Path.{◌≡◌, refl, sym, ap, ◌∙◌}
use Prim.Native.Nat.{ℕ, ◌+◌, ◌/◌, ◌%◌, ◌*◌, ◌^◌, ◌<◌}
use native.Mathlib.Nat.{add-zero, add_assoc}
use native.Mathlib.Omega.{arith}
use borrow.Author.Tests.{eqb-true, not-true}
use lib.Dec.{eqb}
use lib.ListN.{length, get_or}
use Rattle.std.specs.Prelude.{Option, Some, None, unwrap_or}
use Rattle.limits.specs.Below.{all_below}
use Rattle.limits.proofs.Below.{all-at}
use Rattle.text.specs.Bytes.{digit_of, digit_at, four_at, is_word, word_at}
use Rattle.text.specs.Digits.{digit_char, four_text, hex_text}
use Rattle.text.proofs.Places.{Reads, reads_next, digit_at_lem}

digits : all_below 16 (λ d. eqb (unwrap_or (digit_of (digit_char d)) 16) d) ≡ true
unfolding all_below digit_of digit_char
digits = refl

digits_no_end : all_below 16 (λ d. not (eqb (digit_char d) 10)) ≡ true
unfolding all_below digit_char
digits_no_end = refl

digit-read : (d : ℕ) → d < 16 → digit_of (digit_char d) ≡ Some d
digit-read d l = go (digit_of (digit_char d)) (eqb-true _ _ (all-at 16 (λ d. eqb (unwrap_or (digit_of (digit_char d)) 16) d) digits d l))
  where
    go : (o : Option ℕ) → unwrap_or o 16 ≡ d → o ≡ Some d
    go (Some x) e = ap Some e
    go None e = absurd (omega (arith, e))

pub digit_no_end : (d : ℕ) → d < 16 → eqb (digit_char d) 10 ≡ false
digit_no_end d l = not-true _ (all-at 16 (λ d. not (eqb (digit_char d) 10)) digits_no_end d l)

-- a digit that was written k bytes behind a place
pub digit_back : (l : List ℕ) (at : ℕ) (r : List ℕ) (k d : ℕ) → Reads l at r → k < length r → get_or r k 0 ≡ digit_char d → d < 16 → digit_at l (at + k) ≡ Some d
digit_back l at r k d h s e b = digit_at_lem l at r k h s ∙ ap digit_of e ∙ digit-read d b

-- at the place itself
pub digit_here : (l : List ℕ) (at d : ℕ) (r : List ℕ) → Reads l at (digit_char d ∷ r) → d < 16 → digit_at l at ≡ Some d
digit_here l at d r h b = ap (digit_at l) (sym (add-zero at)) ∙ digit_back l at (digit_char d ∷ r) 0 d h (omega arith) refl b

four_back : (l : List ℕ) (at n : ℕ) (r : List ℕ) → Reads l at (four_text n ++ r) → n < 65536 → four_at l at ≡ Some n
unfolding four_at four_text
four_back l at n r h b =
    let x : n / 4096 % 16 < 16 = omega arith in
    let y : n / 256 % 16 < 16 = omega arith in
    let z : n / 16 % 16 < 16 = omega arith in
    let u : n % 16 < 16 = omega arith in
    let p : n / 256 ≡ n / 16 / 16 = omega arith in
    let q : n / 4096 ≡ n / 256 / 16 = omega arith in
    let m : n / 4096 < 16 = omega arith in
    let o : n / 4096 % 16 ≡ n / 4096 = omega arith in
    rw (
      digit_here l at (n / 4096 % 16) _ h x,
      digit_back l at (four_text n ++ r) 1 (n / 256 % 16) h (omega arith) refl y,
      digit_back l at (four_text n ++ r) 2 (n / 16 % 16) h (omega arith) refl z,
      digit_back l at (four_text n ++ r) 3 (n % 16) h (omega arith) refl u,
    )
    (ap Some (let whole : ((n / 4096 % 16 * 16 + n / 256 % 16) * 16 + n / 16 % 16) * 16 + n % 16 ≡ n = omega arith in whole))

four_next : (l : List ℕ) (at n : ℕ) (r : List ℕ) → Reads l at (four_text n ++ r) → Reads l (at + 4) r
unfolding four_text
four_next l at n r h = reads_next l at (four_text n) r h

pub word_back : (l : List ℕ) (at w : ℕ) (r : List ℕ) → Reads l at (hex_text w ++ r) → w < 2 ^ 32 → (is_word l at ≡ true) × (word_at l at ≡ Some w) × Reads l (at + 8) r
unfolding is_word word_at hex_text
word_back l at w r h b =
    let g : Reads l at (four_text (w / 65536) ++ (four_text (w % 65536) ++ r)) = rw append_assoc at h in
    let f = four_next l at (w / 65536) _ g in
    let x = four_back l at (w / 65536) _ g (omega (arith, b)) in
    let y = four_back l (at + 4) (w % 65536) r f (omega arith) in
    let z = four_next l (at + 4) (w % 65536) r f in
    let whole : w / 65536 * 65536 + w % 65536 ≡ w = omega arith in (
      rw (x, y),
      rw (x, y) (ap Some whole),
      rw (add_assoc at 4 4) at z,
    )
