use Rattle.std.proofs.Common.{arith}
use Rattle.arrays.proofs.Moved.{put_mid-over}
use Rattle.arrays.proofs.copy.Goals as goal

pub returns : goal.returns
returns g c =
    let list = c.args.list.now in
    rw (c.copy_from_slice.ensures.after) (put_mid-over list c.args.at _ c.args.row.now (omega arith))
