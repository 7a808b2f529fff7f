use Rattle.std.proofs.Common.{◌≡◌, get_or, arith}
use Rattle.pivot.proofs.Looked.{rows_looked_more, rows_looked_all, row_passed, row_looked}
use Rattle.pivot.proofs.find_pivot.Goals as goal
use Rattle.pivot.proofs.find_pivot.Goals.{then-mark-ne1, else-mark-ne1}

pub loop-j-preserved : goal.loop-j-preserved
loop-j-preserved g c =
    let m = c.args.m.now in
    let ipiv = c.args.ipiv.now in
    let j = c.loop-j.j in
    let next = rows_looked_more m ipiv j in
    let marked : c.mark.result ≡ get_or ipiv j 0 = cc in
    elim c.if-mark-ne1.branch [
      | then-mark-ne1 w ↦ cc (next, row_looked c.loop-j.best m ipiv j (λ e. w.if-mark-ne1.true (cc)))
      | else-mark-ne1 w ↦ cc (next, row_passed c.loop-j.best m ipiv j (cc))
    ]

pub returns : goal.returns
returns g c =
    let end : c.loop-j.j ≡ 4 = omega arith in
    cc (rows_looked_all c.args.m.now c.args.ipiv.now)
