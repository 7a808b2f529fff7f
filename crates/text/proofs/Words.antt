-- The number that the first digits at a place are. Assumes nothing.
use mathlib.Core.Logic.{⊎_elim}
use mathlib.Core.Path.{◌≡◌, refl, sym, ap, ◌∙◌}
use mathlib.Core.List.{List}
use Prim.Native.Nat.{ℕ, zero, suc, ◌+◌, ◌*◌, ◌^◌, ◌<◌}
use native.Mathlib.Nat.{add-zero, add_assoc, not-suc-le-zero, eq-or-lt_of_le, le_of_suc-le-suc}
use native.Mathlib.Omega.{arith}
use Rattle.std.specs.Prelude.{Option, Some, None}
use Rattle.text.specs.Bytes.{◌>>=◌, digit_at, four_at, word_at}

-- one more digit
abbrev pub with_digit : Option ℕ → Option ℕ → Option ℕ
with_digit o p = o >>= (λ w. p >>= (λ d. Some (w * 16 + d)))

-- by its first k digits
abbrev pub word_in : List ℕ → ℕ → ℕ → Option ℕ
word_in l at zero = Some 0
word_in l at (suc k) = with_digit (word_in l at k) (digit_at l (at + k))

abbrev four : Option ℕ → Option ℕ → Option ℕ → Option ℕ → Option ℕ
four x y z u = x >>= (λ a. y >>= (λ b. z >>= (λ c. u >>= (λ d. Some (((a * 16 + b) * 16 + c) * 16 + d)))))

-- eight are the word
pub word_whole : (l : List ℕ) (at : ℕ) → word_in l at 8 ≡ word_at l at
unfolding word_at four_at
word_whole l at = rw (add-zero at, add_assoc at 4 1, add_assoc at 4 2, add_assoc at 4 3) (go (digit_at l at) (digit_at l (at + 1)) (digit_at l (at + 2)) (digit_at l (at + 3)) (digit_at l (at + 4)) (digit_at l (at + 5)) (digit_at l (at + 6)) (digit_at l (at + 7)))
  where
    go : (a b c d e f g h : Option ℕ) → with_digit (with_digit (with_digit (with_digit (with_digit (with_digit (with_digit (with_digit (Some 0) a) b) c) d) e) f) g) h ≡ (four a b c d >>= (λ high. four e f g h >>= (λ low. Some (high * 65536 + low))))
    go (Some a) (Some b) (Some c) (Some d) (Some e) (Some f) (Some g) (Some h) = ap Some (omega arith)
    go (Some a) (Some b) (Some c) (Some d) (Some e) (Some f) (Some g) None = refl
    go (Some a) (Some b) (Some c) (Some d) (Some e) (Some f) None h = refl
    go (Some a) (Some b) (Some c) (Some d) (Some e) None g h = refl
    go (Some a) (Some b) (Some c) (Some d) None f g h = refl
    go (Some a) (Some b) (Some c) None e f g h = refl
    go (Some a) (Some b) None d e f g h = refl
    go (Some a) None c d e f g h = refl
    go None b c d e f g h = refl

-- one that is none ends it
pub word_stops : (l : List ℕ) (at i n : ℕ) → digit_at l (at + i) ≡ None → i < n → word_in l at n ≡ None
word_stops l at i zero e h = absurd (not-suc-le-zero h)
word_stops l at i (suc n) e h = ⊎_elim (λ q. here (word_in l at n) _ (ap (λ k. digit_at l (at + k)) (sym q) ∙ e)) (λ lt. before _ _ (word_stops l at i n e lt)) (eq-or-lt_of_le (le_of_suc-le-suc h))
  where
    here : (o p : Option ℕ) → p ≡ None → with_digit o p ≡ None
    here (Some w) p f = rw f
    here None p f = refl

    before : (o p : Option ℕ) → o ≡ None → with_digit o p ≡ None
    before o p f = rw f

-- another digit fits
pub word_fits : (w i d : ℕ) → w < 16 ^ i → i < 8 → d < 16 → w * 16 + d < 2 ^ 32
word_fits w zero d h g k = omega arith
word_fits w (suc zero) d h g k = omega arith
word_fits w (suc (suc zero)) d h g k = omega arith
word_fits w (suc (suc (suc zero))) d h g k = omega arith
word_fits w (suc (suc (suc (suc zero)))) d h g k = omega arith
word_fits w (suc (suc (suc (suc (suc zero))))) d h g k = omega arith
word_fits w (suc (suc (suc (suc (suc (suc zero)))))) d h g k = omega arith
word_fits w (suc (suc (suc (suc (suc (suc (suc zero))))))) d h g k = omega arith
word_fits w (suc (suc (suc (suc (suc (suc (suc (suc i)))))))) d h g k = absurd (omega arith)
