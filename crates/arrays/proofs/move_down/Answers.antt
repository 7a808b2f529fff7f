use Rattle.std.proofs.Common.{length-drop, arith}
use Rattle.arrays.proofs.Moved.{paste-over}
use Rattle.arrays.proofs.move_down.Goals as goal

pub returns : goal.returns
returns g c =
    let list = c.args.list.now in
    grind (arith, c.copy_within.ensures.after, length-drop c.args.from list, paste-over list c.args.at)
