use Rattle.std.proofs.Common.{◌≡◌, ◌+◌, ◌*◌, cond, eqb, get_or, arith}
use lib.Ieee.{nan}
use Rattle.float.specs.Arith.{1f}
use Rattle.inverse.specs.Inverse.{but_at}
use Rattle.inverse.proofs.Rows.{divided, first_more, scaled}
use Rattle.inverse.proofs.scale_row.Goals as goal

pub loop-k-preserved : goal.loop-k-preserved
unfolding but_at
loop-k-preserved c =
    let m = c.args.m.now in
    let col = c.args.col in
    let k = c.loop-k.k in
    let entry : get_or c.row_with-row.result k nan ≡ cond (eqb k col) 1f (get_or m (4 * col + k) nan) = c.row_with-row.ensures k (omega arith) in
    cc (first_more nan 1f (divided m col) (4 * col) col m k, entry, c.at-c.ensures.value)

pub returns : goal.returns
returns c =
    let end : c.loop-k.k ≡ 4 = omega arith in
    cc (scaled c.args.m.now c.args.col (omega arith))
