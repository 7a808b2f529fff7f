-- How much of a text was written. Definitions only.
use Rattle.std.specs.Prelude.{ℕ, ◌+◌, ◌≤◌, Bool, true, not, ◌&&◌, is_ok, List, ◌≡◌, eqb, length}
use Rattle.blocks.specs.Blocks.{lines_left}
use Rattle.blocks.specs.declared.Rest.{Rest}
use Rattle.printer.specs.declared.print.Printed.{Printed}

-- no write failed, and lines are left
abbrev pub goes_on : Printed → Rest → Bool
goes_on p left = is_ok p.outcome && not (eqb (lines_left left) 0)

-- a block is handed over behind what was written: all of it is written, where no write failed
pub record Follows (before : Printed) (block : List ℕ) (after : Printed) : Type 0 where
  pub no_more : after.bytes ≤ before.bytes + length block
  pub whole : is_ok after.outcome ≡ true → after.bytes ≡ before.bytes + length block

-- a text is handed over from its start on
pub record Writes (text : List ℕ) (p : Printed) : Type 0 where
  pub at_most : p.bytes ≤ length text
  pub all : is_ok p.outcome ≡ true → p.bytes ≡ length text
