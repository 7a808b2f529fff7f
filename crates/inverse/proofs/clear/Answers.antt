use Rattle.std.proofs.Common.{◌≡◌, ◌+◌, ◌*◌, cond, eqb, get_or, arith}
use lib.Ieee.{nan}
use Rattle.float.specs.Arith.{0f}
use Rattle.inverse.specs.Inverse.{but_at}
use Rattle.inverse.proofs.Rows.{lessened, first_more, without}
use Rattle.inverse.proofs.clear.Goals as goal

pub loop-k-preserved : goal.loop-k-preserved
unfolding but_at
loop-k-preserved c =
    let m = c.args.m.now in
    let col = c.args.col in
    let j = c.args.j in
    let k = c.loop-k.k in
    let entry : get_or c.row_with-row.result k nan ≡ cond (eqb k col) 0f (get_or m (4 * j + k) nan) = c.row_with-row.ensures k (omega arith) in
    cc (first_more nan 0f (lessened m col j) (4 * j) col m k, entry, c.at-c.ensures.value, c.at-r.ensures.value)

pub returns : goal.returns
returns c =
    let end : c.loop-k.k ≡ 4 = omega arith in
    cc (without c.args.m.now c.args.col c.args.j (omega arith) c.requires)
