-- Each arm puts its line.
use Rattle.std.proofs.Common.{◌≡◌, ℕ, ◌-◌, ◌/◌, ◌%◌, ◌<◌, List, Float, subst, arith}
use Rattle.std.specs.Prelude.{Result, Ok, Err}
use borrow.Author.Tests.{ne_eqb}
use Rattle.limits.specs.Refused.{number_of}
use Rattle.sheet.specs.declared.Sheet.{Sheet}
use Rattle.sheet.specs.declared.SheetRefusal.{SheetRefusal}
use Rattle.text.proofs.Puts.{puts_renamed}
use Rattle.report.specs.Printed.{pieces_text, refused_sheet_text}
use Rattle.blocks.specs.Report.{met_text}
use Rattle.blocks.specs.Lines.{Small, line_count, line_text}
use Rattle.blocks.proofs.Lines.{placed, lines_few}
use Rattle.blocks.proofs.Rest.put_line.Goals as goal

module _ (list : List Float) {read : Result Sheet SheetRefusal} where
  first : {k : ℕ} {sheet : Sheet} → read ≡ Ok sheet → k ≡ 0 → pieces_text sheet.pieces ≡ line_text list read k
  first e z = rw (e, z)

  later : {k : ℕ} {sheet : Sheet} → read ≡ Ok sheet → (k ≡ 0 → ⊥) → met_text sheet.rays list sheet.reverse ((k - 1) / sheet.pieces) ((k - 1) % sheet.pieces) ≡ line_text list read k
  later {k} e z = rw (e, ne_eqb k 0 z)

  only : (k : ℕ) {number : ℕ} {refused : SheetRefusal} → read ≡ Err refused → number ≡ number_of refused.refusal → refused_sheet_text number refused.line ≡ line_text list read k
  only k e f = rw (e, f)

-- which ray and which curve
at : {read : Result Sheet SheetRefusal} {next : ℕ} {sheet : Sheet} → read ≡ Ok sheet → (next ≡ 0 → ⊥) → next < line_count read → (0 < sheet.pieces) × ((next - 1) / sheet.pieces < sheet.ray_count) × ((next - 1) % sheet.pieces < sheet.pieces)
at {read} {next} {sheet} e z h = placed next sheet.ray_count sheet.pieces z (subst (λ (r : Result Sheet SheetRefusal). next < line_count r) e h)

pub nonzero_div-place : goal.nonzero_div-place
nonzero_div-place c = (at c.in-Ok.is c.if-line-eq0.false (rw (← c.self.view_is) at c.requires)).0

pub nonzero_rem-place : goal.nonzero_rem-place
nonzero_rem-place c = (at c.in-Ok.is c.if-line-eq0.false (rw (← c.self.view_is) at c.requires)).0

pub overflow_cast-k : goal.overflow_cast-k
overflow_cast-k c = omega (arith, lines_few _ c.self.invariant.0, rw (← c.self.view_is) at c.requires)

pub put_met-requires : goal.put_met-requires
put_met-requires c =
    let few = subst Small c.in-Ok.is c.self.invariant.0 in
    let here = at c.in-Ok.is c.if-line-eq0.false (rw (← c.self.view_is) at c.requires) in
    (omega (arith, here.1, few.1), omega (arith, here.2, few.0))

pub overflow_cast-refused : goal.overflow_cast-refused
overflow_cast-refused c = let few = subst Small c.in-Err.is c.self.invariant.0 in omega (arith, few.1)

pub returns-then-line-eq0 : goal.returns-then-line-eq0
returns-then-line-eq0 c = rw (← c.self.view_is) (puts_renamed (first _ c.in-Ok.is c.if-line-eq0.true) c.put_pieces.ensures)

pub returns-else-line-eq0 : goal.returns-else-line-eq0
returns-else-line-eq0 c = rw (← c.self.view_is) (puts_renamed (later _ c.in-Ok.is c.if-line-eq0.false) c.put_met.ensures)

pub returns-in-Err : goal.returns-in-Err
returns-in-Err c = rw (← c.self.view_is) (puts_renamed (only _ _ c.in-Err.is (omega arith)) c.put_refused_sheet.ensures)
