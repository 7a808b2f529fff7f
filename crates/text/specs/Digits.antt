-- Numbers as text: decimal and hexadecimal digits, in lower case. Definitions only.
use Rattle.std.specs.Prelude.{ℕ, zero, suc, ◌+◌, ◌/◌, ◌%◌, cond, List, [], ◌∷◌, ◌++◌, ltb, Float}
use Rattle.std.specs.Float.{binary32}
use Rattle.std.specs.Float.Ieee.{to_bits}

-- 0 to 9, a to f
unfoldable pub digit_char : ℕ → ℕ
digit_char d = cond (ltb d 10) (48 + d) (87 + d)

-- the decimal digits of an n that has at most k + 1 of them
unfoldable pub decimal_in : ℕ → ℕ → List ℕ
decimal_in zero n = digit_char n ∷ []
decimal_in (suc k) n = let more = decimal_in k (n / 10) ++ (digit_char (n % 10) ∷ []) in cond (ltb n 10) (digit_char n ∷ []) more

-- a number in decimal, without leading zeros: n has at most n + 1 digits
unfoldable pub decimal_text : ℕ → List ℕ
decimal_text n = decimal_in n n

-- four digits, and the eight of a number below 2 ^ 32
unfoldable pub four_text : ℕ → List ℕ
four_text h = digit_char (h / 4096 % 16) ∷ digit_char (h / 256 % 16) ∷ digit_char (h / 16 % 16) ∷ digit_char (h % 16) ∷ []

unfoldable pub hex_text : ℕ → List ℕ
hex_text w = four_text (w / 65536) ++ four_text (w % 65536)

-- the bits of a float, by eight hexadecimal digits in lower case: a NaN's are 7fc00000
unfoldable pub float_text : Float → List ℕ
float_text x = hex_text (to_bits binary32 x)
