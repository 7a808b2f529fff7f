-- Hexadecimal digits: one more of the eight, and all of them. Assumes nothing.
use mathlib.Core.List.{List, [], ◌∷◌, ◌++◌}
use mathlib.Core.Path.{◌≡◌, refl, sym, ap, ap₂, ◌∙◌}
use Prim.Native.Nat.{ℕ, zero, suc, ◌+◌, ◌-◌, ◌*◌, ◌/◌, ◌%◌, ◌^◌, ◌<◌, ◌≤◌}
use native.Mathlib.Omega.{arith}
use lib.ListN.{length, take, set}
use Rattle.std.proofs.lemmas.Grind.{take-set_at}
use Rattle.text.specs.Digits.{digit_char, four_text, hex_text}

-- digit i behind those above it
digit_behind : (w i : ℕ) → i < 8 → take (8 - i) (hex_text w) ≡ take (8 - (i + 1)) (hex_text w) ++ (digit_char (w / 2 ^ (4 * i) % 16) ∷ [])
unfolding hex_text four_text
digit_behind w zero h = let e : w % 65536 % 16 ≡ w / 1 % 16 = omega arith in rw e
digit_behind w (suc zero) h = let e : w % 65536 / 16 % 16 ≡ w / 16 % 16 = omega arith in rw e
digit_behind w (suc (suc zero)) h = let e : w % 65536 / 256 % 16 ≡ w / 256 % 16 = omega arith in rw e
digit_behind w (suc (suc (suc zero))) h = let e : w % 65536 / 4096 % 16 ≡ w / 4096 % 16 = omega arith in rw e
digit_behind w (suc (suc (suc (suc zero)))) h = let e : w / 65536 % 16 ≡ w / 65536 % 16 = omega arith in rw e
digit_behind w (suc (suc (suc (suc (suc zero))))) h = let e : w / 65536 / 16 % 16 ≡ w / 1048576 % 16 = omega arith in rw e
digit_behind w (suc (suc (suc (suc (suc (suc zero)))))) h = let e : w / 65536 / 256 % 16 ≡ w / 16777216 % 16 = omega arith in rw e
digit_behind w (suc (suc (suc (suc (suc (suc (suc zero))))))) h = let e : w / 65536 / 4096 % 16 ≡ w / 268435456 % 16 = omega arith in rw e
digit_behind w (suc (suc (suc (suc (suc (suc (suc (suc i)))))))) h = absurd (omega arith)

pub hex_next : (w i j : ℕ) → 0 < i → i ≤ 8 → j ≡ i - 1 → take (8 - i) (hex_text w) ++ (digit_char (w / 2 ^ (4 * j) % 16) ∷ []) ≡ take (8 - j) (hex_text w)
hex_next w i j h g e =
    let above : i ≡ j + 1 = omega arith in
    ap (λ (k : ℕ). take (8 - k) (hex_text w) ++ (digit_char (w / 2 ^ (4 * j) % 16) ∷ [])) above ∙ sym (digit_behind w j (omega arith))

-- the same in a list that is filled
pub hex_set : (w i j : ℕ) (d : List ℕ) (b : ℕ) → 0 < i → i ≤ 8 → j ≡ i - 1 → length d ≡ 8 → b ≡ digit_char (w / 2 ^ (4 * j) % 16) → take (8 - i) d ≡ take (8 - i) (hex_text w)
    → take (8 - j) (set d (7 - j) b) ≡ take (8 - j) (hex_text w)
hex_set w i j d b h g e long is above =
    let here : 7 - j ≡ 8 - i = omega arith in
    take-set_at d (7 - j) (8 - j) b (omega arith) (omega arith)
    ∙ ap₂ (λ (l : List ℕ) (c : ℕ). l ++ (c ∷ [])) (ap (λ (k : ℕ). take k d) here ∙ above) is
    ∙ hex_next w i j h g e

pub hex_all : (w i : ℕ) → i ≤ 0 → take (8 - i) (hex_text w) ≡ hex_text w
unfolding hex_text four_text
hex_all w zero h = refl
hex_all w (suc i) h = absurd (omega arith)
