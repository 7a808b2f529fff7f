use Rattle.bezier.proofs.Transposed.{eval_by_axes}
use Rattle.bezier.proofs.points.eval_bezier.Goals as goal

pub returns : goal.returns
returns c = rw (eval_by_axes, ← c.axis_in.ensures, ← c.axis_in-2.ensures, ← c.axis_in-3.ensures, ← c.eval_at-x.ensures, ← c.eval_at-y.ensures, ← c.eval_at-z.ensures, c.derivative.ensures, c.derivative-2.ensures, c.derivative-3.ensures)
