-- The lines of a text, each ended by LF, numbered from 1. Definitions only.
use Rattle.std.specs.Prelude.{ℕ, zero, suc, ◌+◌, true, cond, List, ◌≡◌, ◌⊎◌}
use Rattle.text.specs.Bytes.{byte_is}
use Rattle.grammar.specs.Grammar.{line_feed}

-- how many LFs stand before a place
unfoldable pub feeds_before : List ℕ → ℕ → ℕ
feeds_before l zero = 0
feeds_before l (suc i) = feeds_before l i + cond (byte_is l i line_feed) 1 0

-- the number of the line that a place is in
unfoldable pub line_number : List ℕ → ℕ → ℕ
line_number l at = feeds_before l at + 1

-- a line starts at the place: the first, or one behind a LF
abbrev pub StartsLine : List ℕ → ℕ → Type 0
StartsLine l at = (at ≡ 0) ⊎ ((i : ℕ) × (at ≡ i + 1) × (byte_is l i line_feed ≡ true))
