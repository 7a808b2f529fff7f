-- Bytes of a text, by place: words that stand there, and digits. Definitions only. A place past the end has no byte.
use Rattle.std.specs.Prelude.{ℕ, ◌+◌, ◌-◌, ◌*◌, Bool, cond, ◌&&◌, List, eqb, ltb, leb, length, get_or, Option, Some, None, is_some, option_and_then}
use Rattle.limits.specs.Below.{all_below}

-- a step that may give nothing
infixl 10 ◌>>=◌
abbrev pub ◌>>=◌ : {A B : Type 0} → Option A → (A → Option B) → Option B
o >>= f = option_and_then f o

-- the byte b stands at the place i
unfoldable pub byte_is : List ℕ → ℕ → ℕ → Bool
byte_is l i b = ltb i (length l) && eqb (get_or l i 0) b

-- the bytes w stand from the place `at` on
unfoldable pub stands_at : List ℕ → ℕ → List ℕ → Bool
stands_at l at w = all_below (length w) (λ k. byte_is l (at + k) (get_or w k 0))

-- the value of a hexadecimal digit 0 to 9 or a to f
unfoldable pub digit_of : ℕ → Option ℕ
digit_of b = cond (ltb b 48) None (cond (leb b 57) (Some (b - 48)) (cond (ltb b 97) None (cond (leb b 102) (Some (b - 87)) None)))

-- of the byte at a place
unfoldable pub digit_at : List ℕ → ℕ → Option ℕ
digit_at l i = cond (ltb i (length l)) (digit_of (get_or l i 0)) None

-- the number that four digits are
unfoldable pub four_at : List ℕ → ℕ → Option ℕ
four_at l at = do
  a ← digit_at l at
  b ← digit_at l (at + 1)
  c ← digit_at l (at + 2)
  d ← digit_at l (at + 3)
  Some (((a * 16 + b) * 16 + c) * 16 + d)

-- the number that eight digits at a place are
unfoldable pub word_at : List ℕ → ℕ → Option ℕ
word_at l at = do
  high ← four_at l at
  low ← four_at l (at + 4)
  Some (high * 65536 + low)

-- whether eight digits stand there
unfoldable pub is_word : List ℕ → ℕ → Bool
is_word l at = is_some (word_at l at)
