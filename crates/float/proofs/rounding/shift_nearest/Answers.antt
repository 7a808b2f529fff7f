-- `float::rounding::shift_nearest` meets its contract. Assumes nothing.
use Rattle.std.proofs.Common.{◌^◌, ◌∙◌}
use Rattle.float.proofs.Nearest.{nearest_even}
use Rattle.float.proofs.rounding.shift_nearest.Goals as goal

pub returns : goal.returns
returns c = c.shift_with_tie.ensures ∙ nearest_even c.args.m (2 ^ c.args.s)
