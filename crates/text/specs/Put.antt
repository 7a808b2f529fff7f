-- Bytes put into a list, as many as fit. Definitions only.
use Rattle.std.specs.Prelude.{ℕ, ◌+◌, ◌-◌, List, ◌≡◌, length, take}
use Rattle.limits.specs.List.{over}
use Rattle.text.specs.declared.buffer.Buffer.{Buffer}

-- what of s there is room for in d, from `at` on
unfoldable pub fitting : List ℕ → ℕ → List ℕ → List ℕ
fitting d at s = take (length d - at) s

-- s is put into d from `at` on: then the list is x, and `next` the place behind what was put
pub record Put (d : List ℕ) (at : ℕ) (s x : List ℕ) (next : ℕ) : Type 0 where
  pub list : x ≡ over d at (fitting d at s)
  pub place : next ≡ at + length (fitting d at s)

-- s is put into a buffer behind what is there, and it stays the same buffer
pub record Puts (old new : Buffer) (s : List ℕ) : Type 0 where
  pub same_buffer : new.bytes.ghost_name ≡ old.bytes.ghost_name
  pub put : Put old.bytes.now old.end s new.bytes.now new.end
