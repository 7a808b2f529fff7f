-- What is left of a report, and its blocks. Definitions only.
use Rattle.std.specs.Prelude.{ℕ, ◌-◌, ◌≤◌, List, ◌++◌, ◌≡◌, Float, length, take, drop, Result}
use Rattle.limits.specs.List.{over}
use Rattle.sheet.specs.declared.Sheet.{Sheet}
use Rattle.sheet.specs.declared.SheetRefusal.{SheetRefusal}
use Rattle.blocks.specs.declared.Block.{Block}
use Rattle.blocks.specs.declared.Rest.{Rest}
use Rattle.blocks.specs.Lines.{line_count, lines_text, Sound}

module _ (list : List Float) where
  -- the lines from one up to `next` are put into the list d from its start on: then it is x, and they end at `end`
  pub record LinesPut (sheet : Result Sheet SheetRefusal) (from : ℕ) (d x : List ℕ) (next end : ℕ) : Type 0 where
    pub not_back : from ≤ next
    pub none_past : next ≤ line_count sheet
    pub all-put : x ≡ over d 0 (lines_text list sheet from next)
    pub end_behind : end ≡ length (lines_text list sheet from next)
    pub end_inside : end ≤ length d

-- ---- blocks

unfoldable pub lines_left : Rest → ℕ
lines_left r = line_count r.sheet - r.next

module _ (list : List Float) where
  -- what is left to print
  unfoldable pub rest_of : Rest → List ℕ
  rest_of r = lines_text list r.sheet r.next (line_count r.sheet)

  -- a block is the start of what is left, and the rest is left behind it; the buffer d keeps the bytes behind its end
  pub record IsBlock (r : Rest) (d x : List ℕ) (b : Block) : Type 0 where
    pub sound : Sound b.rest
    pub inside : b.end ≤ length d
    pub whole : take b.end x ++ rest_of b.rest ≡ rest_of r
    pub kept : drop b.end x ≡ drop b.end d
