-- There are few lines.
use Rattle.std.proofs.Common.{◌≤◌, ap, sym, subst, arith}
use Rattle.std.specs.Prelude.{Result}
use Rattle.sheet.specs.declared.Sheet.{Sheet}
use Rattle.sheet.specs.declared.SheetRefusal.{SheetRefusal}
use Rattle.blocks.specs.Lines.{line_count}
use Rattle.blocks.proofs.Lines.{lines_few}
use Rattle.blocks.proofs.Rest.line_count.Goals as goal

pub overflow_mul-result : goal.overflow_mul-result
overflow_mul-result c = let few = subst (λ (r : Result Sheet SheetRefusal). line_count r ≤ 65537) c.in-Ok.is (lines_few _ c.self.invariant.0) in omega arith

pub overflow_add-result : goal.overflow_add-result
overflow_add-result c = let few = subst (λ (r : Result Sheet SheetRefusal). line_count r ≤ 65537) c.in-Ok.is (lines_few _ c.self.invariant.0) in omega arith

pub returns-in-Ok : goal.returns-in-Ok
returns-in-Ok c = record { value = rw (← c.self.view_is) (ap line_count (sym c.in-Ok.is)); few = subst (λ (r : Result Sheet SheetRefusal). line_count r ≤ 65537) c.in-Ok.is (lines_few _ c.self.invariant.0) }
