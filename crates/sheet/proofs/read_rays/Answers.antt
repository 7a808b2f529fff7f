-- Where there is no point, no ray is read.
use Rattle.std.proofs.Common.{sym}
use borrow.Author.Tests.{le-ltb}
use Rattle.limits.specs.List.{up_to}
use Rattle.limits.proofs.Lists.{over_nil}
use Rattle.grammar.specs.Grammar.{floats_from}
use Rattle.sheet.specs.Sheet.{rays_from, rays_read}
use Rattle.sheet.proofs.read_rays.Goals as goal

pub returns-else-points-gt0-clause-out_after : goal.returns-else-points-gt0-clause-out_after
unfolding rays_read rays_from floats_from up_to
returns-else-points-gt0-clause-out_after c = rw (le-ltb _ _ c.if-points-gt0.false) (sym (over_nil _ 0))
