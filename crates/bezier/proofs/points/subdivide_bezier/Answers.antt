use Rattle.bezier.proofs.Transposed.{low_by_axes, high_by_axes}
use Rattle.bezier.proofs.points.subdivide_bezier.Goals as goal

pub returns-clause-low : goal.returns-clause-low
returns-clause-low c = rw (c.points_by.ensures, c.subdivide-x.ensures, c.subdivide-y.ensures, c.subdivide-z.ensures, c.axis_in.ensures, c.axis_in-2.ensures, c.axis_in-3.ensures) (low_by_axes _)

pub returns-clause-high : goal.returns-clause-high
returns-clause-high c = rw (c.points_by-2.ensures, c.subdivide-x.ensures, c.subdivide-y.ensures, c.subdivide-z.ensures, c.axis_in.ensures, c.axis_in-2.ensures, c.axis_in-3.ensures) (high_by_axes _)
