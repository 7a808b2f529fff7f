use Rattle.std.proofs.Common.{◌≡◌, arith}
use Rattle.inverse.proofs.Reduced.{rows_cleared_more, rows_cleared_all, pivot_row_kept, other_row_cleared}
use Rattle.inverse.proofs.reduce.Goals as goal
use Rattle.inverse.proofs.reduce.Goals.{then-j-at, else-j-at}

pub loop-j-preserved : goal.loop-j-preserved
loop-j-preserved c =
    let m = c.loop-j.m in
    let col = c.args.col in
    let j = c.loop-j.j in
    let next = rows_cleared_more c.scale_row.new.m col j in
    let col_is : c.at.result ≡ col = c.at.ensures.value in
    elim c.if-j-at.branch [
      | then-j-at w ↦ cc (next, other_row_cleared m col j (λ e. w.if-j-at.true (cc)))
      | else-j-at w ↦ cc (next, pivot_row_kept m col j (cc))
    ]

pub returns : goal.returns
returns c =
    let end : c.loop-j.j ≡ 4 = omega arith in
    cc (rows_cleared_all c.scale_row.new.m c.args.col)
