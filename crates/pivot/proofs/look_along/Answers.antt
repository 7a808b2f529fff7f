use Rattle.std.proofs.Common.{◌≡◌, ◌+◌, ◌*◌, arith}
use Rattle.pivot.specs.Pivot.{at}
use Rattle.pivot.proofs.Looked.{looked_more, looked_all, taken_passed}
use Rattle.pivot.proofs.look_along.Goals as goal
use Rattle.pivot.proofs.look_along.Goals.{then-mark-eq0, else-mark-eq0}

pub loop-k-preserved : goal.loop-k-preserved
loop-k-preserved g c =
    let a = c.args in
    let k = c.loop-k.k in
    let next = looked_more a.p a.m.now a.ipiv.now a.row k in
    elim c.if-mark-eq0.branch [
      | then-mark-eq0 w ↦ cc (next, w.at.ensures.value)
      | else-mark-eq0 w ↦ cc (next, taken_passed c.loop-k.best c.mark.result a.row k (at a.m.now (4 * a.row + k)) w.if-mark-eq0.false)
    ]

pub returns : goal.returns
returns g c =
    let a = c.args in
    let end : c.loop-k.k ≡ 4 = omega arith in
    cc (looked_all a.p a.m.now a.ipiv.now a.row)
