-- The blocks of a sheet's report, one behind the other, are the report. Assumes nothing.
use mathlib.Core.List.{List, [], ◌++◌}
use mathlib.Core.Logic.{inl, inr}
use mathlib.Core.Path.{◌≡◌, refl, sym, ap, ap₂, ◌∙◌}
use Prim.Native.Nat.{ℕ, ◌+◌, ◌-◌, ◌*◌, ◌≤◌, ◌<◌}
use native.Mathlib.Nat.{zero-add, eq-or-lt_of_le}
use native.Mathlib.Omega.{arith}
use lib.Ieee.{Float}
use lib.ListN.{length, take, drop, replicate, length-append}
use lib.Seq.{take_at, drop_at, take_all}
use Rattle.float.specs.Arith.{0f}
use Rattle.limits.specs.List.{over}
use Rattle.limits.proofs.Lists.{over_nil, over-append, length_over}
use Rattle.text.specs.Put.{fitting, Put}
use Rattle.curve.specs.Layout.{floats}
use Rattle.create.specs.Create.{most_curves}
use Rattle.sheet.specs.Sheet.{ReplyWithin, sheet_of, list_of}
use Rattle.std.specs.Prelude.{Result, Ok, Err}
use Rattle.sheet.specs.declared.SheetRefusal.{SheetRefusal}
use Rattle.sheet.specs.declared.Sheet.{Sheet}
use Rattle.sheet.proofs.ReplySmall.{curves_most, number-most}
use Rattle.sheet.proofs.ReplyWithin.{reply_within}
use Rattle.report.specs.Printed.{longest}
use Rattle.blocks.specs.declared.Block.{Block}
use Rattle.blocks.specs.declared.Rest.{Rest}
use Rattle.blocks.specs.Report.{reply_text, report_in, report_of}
use Rattle.blocks.specs.Lines.{Small, line_count, line_text, lines_text, Sound}
use Rattle.blocks.specs.Blocks.{LinesPut, lines_left, rest_of, IsBlock}
use Rattle.blocks.proofs.Lines.{line_most, no_lines, lines_next, lines_append, all_lines}

-- ---- a sheet that was read

-- the numbers of its reply are as small as the lines ask
pub reply_small : (l : List ℕ) (room : ℕ) → Small (sheet_of l room)
reply_small l room = go (sheet_of l room) refl (reply_within l room)
  where
    go : (r : Result Sheet SheetRefusal) → sheet_of l room ≡ r → ReplyWithin r → Small r
    go (Ok sheet) e few = (curves_most l room sheet e, few)
    go (Err refused) e few = (number-most l room refused e, few)

-- and all its lines are left
pub all_left : (bytes : List ℕ) (list list' : List Float) (read : Result Sheet SheetRefusal) → read ≡ sheet_of bytes (length list) → list' ≡ list_of bytes list
    → rest_of list' (record { sheet = read; next = 0 }) ≡ report_in bytes list
unfolding rest_of report_in
all_left bytes list list' read e f = all_lines list' read ∙ ap₂ (λ (x : Result Sheet SheetRefusal) (l : List Float). reply_text l x) e f

-- ---- a block

module _ (list : List Float) (sheet : Result Sheet SheetRefusal) (from : ℕ) (d x : List ℕ) (next end : ℕ) (put : LinesPut list sheet from d x next end) where
  abbrev before : Rest
  before = record { sheet = sheet; next = from }

  abbrev behind : Rest
  behind = record { sheet = sheet; next = next }

  -- lines that were put are one
  pub is_block : Small sheet → IsBlock list before d x (record { end = end; rest = behind })
  unfolding over rest_of
  is_block small =
      let s = lines_text list sheet from next in
      let here = sym put.end_behind in
      record {
        sound = (small, put.none_past);
        inside = put.end_inside;
        whole =
            ap (λ (l : List ℕ). take end l ++ lines_text list sheet next (line_count sheet)) put.all-put
            ∙ ap (λ (l : List ℕ). l ++ lines_text list sheet next (line_count sheet)) (take_at s (drop (0 + length s) d) end here)
            ∙ lines_append list sheet from next (line_count sheet) put.not_back put.none_past;
        kept =
            ap (drop end) put.all-put
            ∙ drop_at s (drop (0 + length s) d) end here
            ∙ ap (λ (k : ℕ). drop k d) (zero-add (length s) ∙ here);
      }

  -- and fewer are left
  pub fewer_left : (from < line_count sheet → longest ≤ length d → from < next) → 0 < lines_left before → longest ≤ length d → lines_left behind < lines_left before
  unfolding lines_left
  fewer_left moved more room = omega (arith, moved (omega arith) room)

-- ---- a block's loop

module _ (list : List Float) (sheet : Result Sheet SheetRefusal) (from : ℕ) (d : List ℕ) where
  pub no_block : (end : ℕ) → end ≡ 0 → from ≤ line_count sheet → LinesPut list sheet from d d from end
  no_block end e h = let none = no_lines list sheet from in record { not_back = omega arith; none_past = h; all-put = rw none (sym (over_nil d 0)); end_behind = e ∙ sym (ap length none); end_inside = omega arith }

  -- the list keeps its length
  long : (x : List ℕ) (next end : ℕ) → LinesPut list sheet from d x next end → length x ≡ length d
  long x next end held = ap length held.all-put ∙ length_over d 0 (lines_text list sheet from next) (omega (arith, held.end_behind, held.end_inside))

  -- one line more, where there is room
  pub longer : (x y : List ℕ) (next end end' : ℕ) → Small sheet → LinesPut list sheet from d x next end → next < line_count sheet → longest ≤ length x - end
      → Put x end (line_text list sheet next) y end' → LinesPut list sheet from d y (next + 1) end'
  unfolding fitting
  longer x y next end end' small held more room put =
      let same = long x next end held in
      let s = lines_text list sheet from next in
      let t = line_text list sheet next in
      let short = line_most list sheet next small more in
      let all : take (length x - end) t ≡ t = take_all (length x - end) t (omega arith) in
      let behind = lines_next list sheet from next held.not_back in
      let here : 0 + length s ≡ end = zero-add (length s) ∙ sym held.end_behind in
      let end_is : end' ≡ end + length t = put.place ∙ ap (λ (l : List ℕ). end + length l) all in
      record {
        not_back = omega (arith, held.not_back);
        none_past = omega arith;
        all-put =
            put.list
            ∙ ap (over x end) all
            ∙ ap (λ (l : List ℕ). over l end t) held.all-put
            ∙ ap (λ (k : ℕ). over (over d 0 s) k t) (sym here)
            ∙ over-append d 0 s t (omega (arith, held.end_inside))
            ∙ ap (over d 0) behind;
        end_behind = end_is ∙ ap (λ (k : ℕ). k + length t) held.end_behind ∙ sym (length-append s t) ∙ ap length behind;
        end_inside = omega (arith, held.end_inside);
      }

  -- where nothing was put there was no line or no room
  pub moved : (x : List ℕ) (next end : ℕ) → LinesPut list sheet from d x next end → (next < line_count sheet → longest ≤ length x - end → ⊥)
      → from < line_count sheet → longest ≤ length d → from < next
  moved x next end held stopped more room = let same = long x next end held in elim (eq-or-lt_of_le held.not_back) [
    | inl e ↦
        let start : end ≡ 0 = held.end_behind ∙ ap (λ (k : ℕ). length (lines_text list sheet from k)) (sym e) ∙ ap length (no_lines list sheet from) in
        absurd (stopped (omega arith) (omega arith))
    | inr l ↦ l
  ]

-- ---- all blocks

-- the bytes of blocks that follow each other until no line is left
pub data Blocks (list : List Float) : Rest → List ℕ → Type 0 where
  none : {r : Rest} → Sound r → lines_left r ≡ 0 → Blocks list r []
  one : {r : Rest} {d x : List ℕ} {b : Block} {text : List ℕ} → IsBlock list r d x b → Blocks list b.rest text → Blocks list r (take b.end x ++ text)

-- THE LAWS: they are what is left, and so the whole report where they start with it
pub blocks_left : {list : List Float} {r : Rest} {text : List ℕ} → Blocks list r text → text ≡ rest_of list r
unfolding rest_of lines_left
blocks_left {list} (none {r} s e) = let all : r.next ≡ line_count r.sheet = omega arith in sym (ap (λ (k : ℕ). lines_text list r.sheet k (line_count r.sheet)) all ∙ no_lines list r.sheet (line_count r.sheet))
blocks_left (one {x = x} {b = b} block rest) = ap (λ (l : List ℕ). take b.end x ++ l) (blocks_left rest) ∙ block.whole

pub blocks_report : (bytes text : List ℕ) (list : List Float) (r : Rest) → rest_of list r ≡ report_in bytes (replicate (most_curves * floats) 0f) → Blocks list r text → text ≡ report_of bytes
unfolding report_of
blocks_report bytes text list r e blocks = blocks_left blocks ∙ e
