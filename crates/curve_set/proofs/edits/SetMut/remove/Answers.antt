use Rattle.std.proofs.Common.{◌∙◌, ap}
use Rattle.std.proofs.lemmas.Result.{err_from_is_err_and}
use Rattle.curve_set.specs.Lent.{lent_of, holding}
use Rattle.curve_set.proofs.Told.{found_by, missing_by, remove_done, remove-refused}
use Rattle.curve_set.proofs.edits.SetMut.remove.Goals as goal

pub returns-in_err-p-clause-value : goal.returns-in_err-p-clause-value
returns-in_err-p-clause-value c =
    let p = err_from_is_err_and c.from_residual.result c.from_residual.ensures.1 in
    let m = missing_by _ _ _ c.in_err-p.ensures.value in
    rw (p.1, p.2, m.0) (remove-refused c.args.number (lent_of c.args.self.now) (rw (← c.view.ensures.floats, ← c.view.ensures.words) (m.1 ∙ c.position.ensures))).0

pub returns-in_err-p-clause-after : goal.returns-in_err-p-clause-after
returns-in_err-p-clause-after c =
    let m = missing_by _ _ _ c.in_err-p.ensures.value in
    ap (holding c.args.self.now) (remove-refused c.args.number (lent_of c.args.self.now) (rw (← c.view.ensures.floats, ← c.view.ensures.words) (m.1 ∙ c.position.ensures))).1

pub take_row-requires : goal.take_row-requires
take_row-requires c =
    (remove_done c.args.number (lent_of c.args.self.now) c.in_ok-p.p (rw (← c.view.ensures.floats, ← c.view.ensures.words) (found_by _ _ _ c.in_ok-p.ensures.value ∙ c.position.ensures))).0

pub returns-clause-value : goal.returns-clause-value
returns-clause-value c =
    (remove_done c.args.number (lent_of c.args.self.now) c.in_ok-p.p (rw (← c.view.ensures.floats, ← c.view.ensures.words) (found_by _ _ _ c.in_ok-p.ensures.value ∙ c.position.ensures))).1.0

pub returns-clause-after : goal.returns-clause-after
returns-clause-after c =
    let left = (remove_done c.args.number (lent_of c.args.self.now) c.in_ok-p.p (rw (← c.view.ensures.floats, ← c.view.ensures.words) (found_by _ _ _ c.in_ok-p.ensures.value ∙ c.position.ensures))).1.1 in
    rw (c.choose.ensures, c.take_row.ensures) (ap (holding c.args.self.now) left)
