-- What the walk comes to is the framed curve's reply. Assumes nothing.
use Rattle.std.proofs.Common.{rules}
use Rattle.intersect.proofs.Flat.{along_replied}
use Rattle.intersect.proofs.intersect_along.Goals as goal

pub returns-in_err-walk_aimed : goal.returns-in_err-walk_aimed
returns-in_err-walk_aimed c =
    let h = rw c.in_err-walk_aimed.was at (along_replied _ c.args.flip _ _ _ c.walk_aimed.ensures) in
    search (rules, h)

pub returns-in_default : goal.returns-in_default
returns-in_default c = rw (c.in_ok-walk_aimed.was, c.in_default.is) at (along_replied _ c.args.flip _ _ _ c.walk_aimed.ensures)

pub returns-in_err-met : goal.returns-in_err-met
returns-in_err-met c =
    let h = rw (c.in_ok-walk_aimed.was, c.in-Some.is, c.in_err-met.was) at (along_replied _ c.args.flip _ _ _ c.walk_aimed.ensures) in
    search (rules, h)

pub returns : goal.returns
returns c =
    rw (c.in_ok-walk_aimed.was, c.in-Some.is, c.in_ok-met.was, ← c.record_at-record.ensures) at (along_replied _ c.args.flip _ _ _ c.walk_aimed.ensures)
