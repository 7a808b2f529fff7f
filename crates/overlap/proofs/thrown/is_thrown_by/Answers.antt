use Rattle.std.proofs.Common.{◌∙◌, sym, not, eqb}
use Rattle.std.proofs.lemmas.Bool.{false≢true}
use Rattle.overlap.proofs.ThrownBy.{thrown_by_y, thrown_by_x, thrown_by_z}
use Rattle.overlap.proofs.thrown.is_thrown_by.Goals as goal
use Rattle.overlap.proofs.thrown.is_thrown_by.Goals.{then-is_off, else-is_off}

pub returns-then-is_off-2 : goal.returns-then-is_off-2
returns-then-is_off-2 g c =
    let whole = not (eqb g.row.IS_WHOLE 0) in
    let a = c.args in
    elim c.if-is_off.branch [
      | then-is_off w ↦ thrown_by_y whole a.w a.zmax a.p.now _ c.if-is_off-2.true (rw c.axis_in.ensures at (sym c.is_off.ensures ∙ w.if-is_off.true))
      | else-is_off w ↦ thrown_by_x whole a.w a.zmax a.p.now _ c.if-is_off-2.true (rw c.axis_in.ensures at (sym c.is_off.ensures ∙ w.if-is_off.false)) (rw w.axis_in-else-is_off.ensures at (sym w.is_off-else-is_off.ensures ∙ sym w.value-is ∙ c.if-is_off-2.true))
    ]

pub returns-else-is_off-2 : goal.returns-else-is_off-2
returns-else-is_off-2 g c =
    let whole = not (eqb g.row.IS_WHOLE 0) in
    let a = c.args in
    elim c.if-is_off.branch [
      | then-is_off w ↦ absurd (false≢true (sym c.if-is_off-2.false ∙ w.value-is ∙ w.if-is_off.true))
      | else-is_off w ↦ thrown_by_z whole a.w a.zmax a.p.now _ (rw c.axis_in.ensures at (sym c.is_off.ensures ∙ w.if-is_off.false)) (rw w.axis_in-else-is_off.ensures at (sym w.is_off-else-is_off.ensures ∙ sym w.value-is ∙ c.if-is_off-2.false)) (rw c.axis_in-else-is_off-2.ensures at c.is_off-else-is_off-2.ensures)
    ]
