use Rattle.std.proofs.Common.{◌≡◌, ap, Ok, Err}
use Rattle.std.proofs.lemmas.Result.{err_from_is_err_and}
use Rattle.curve_set.specs.Layout.{head_of}
use Rattle.curve_set.specs.Set.{own_of}
use Rattle.curve_set.specs.Lent.{lent_of, holding}
use Rattle.curve_set.proofs.Told.{room, add_early, add-refused, add_done}
use Rattle.curve_set.proofs.edits.SetMut.add.Goals as goal

pub returns-in_err-check_add-clause-value : goal.returns-in_err-check_add-clause-value
returns-in_err-check_add-clause-value c =
    let p = err_from_is_err_and c.from_residual.result c.from_residual.ensures.1 in
    rw (p.1, p.2) (add_early c.args.number c.args.curve.now (lent_of c.args.self.now) c.in_err-check_add.field-0.0 c.in_err-check_add.ensures).0

pub returns-in_err-check_add-clause-after : goal.returns-in_err-check_add-clause-after
returns-in_err-check_add-clause-after c =
    ap (holding c.args.self.now) (add_early c.args.number c.args.curve.now (lent_of c.args.self.now) c.in_err-check_add.field-0.0 c.in_err-check_add.ensures).1

pub returns-in_err-hit-clause-value : goal.returns-in_err-hit-clause-value
returns-in_err-hit-clause-value c =
    let s = c.args.self.now in
    let p = err_from_is_err_and c.from_residual-in_err-hit.result c.from_residual-in_err-hit.ensures.1 in
    let own : Err c.in_err-hit.field-0.0 ≡ own_of (head_of s.floats.now s.words.now) c.args.curve.now = rw (← c.view.ensures.floats, ← c.view.ensures.words) c.in_err-hit.ensures in
    rw (p.1, p.2) (add-refused c.args.number c.args.curve.now (lent_of s) c.in_err-hit.field-0.0 c.in_ok-check_add.ensures own).0

pub returns-in_err-hit-clause-after : goal.returns-in_err-hit-clause-after
returns-in_err-hit-clause-after c =
    let s = c.args.self.now in
    let own : Err c.in_err-hit.field-0.0 ≡ own_of (head_of s.floats.now s.words.now) c.args.curve.now = rw (← c.view.ensures.floats, ← c.view.ensures.words) c.in_err-hit.ensures in
    ap (holding s) (add-refused c.args.number c.args.curve.now (lent_of s) c.in_err-hit.field-0.0 c.in_ok-check_add.ensures own).1

pub put_row-requires : goal.put_row-requires
put_row-requires c =
    let r = room c.args.number c.args.curve.now (lent_of c.args.self.now) c.in_ok-check_add.ensures in
    record { room = r.0; whole = r.1 }

pub returns-clause-value : goal.returns-clause-value
returns-clause-value c =
    let s = c.args.self.now in
    let own : Ok c.in_ok-hit.hit ≡ own_of (head_of s.floats.now s.words.now) c.args.curve.now = rw (← c.view.ensures.floats, ← c.view.ensures.words) c.in_ok-hit.ensures in
    (add_done c.args.number c.args.curve.now (lent_of s) c.in_ok-hit.hit c.in_ok-check_add.ensures own).0

pub returns-clause-after : goal.returns-clause-after
returns-clause-after c =
    let s = c.args.self.now in
    let own : Ok c.in_ok-hit.hit ≡ own_of (head_of s.floats.now s.words.now) c.args.curve.now = rw (← c.view.ensures.floats, ← c.view.ensures.words) c.in_ok-hit.ensures in
    rw (c.choose.ensures, c.put_row.ensures) (ap (holding s) (add_done c.args.number c.args.curve.now (lent_of s) c.in_ok-hit.hit c.in_ok-check_add.ensures own).1)
