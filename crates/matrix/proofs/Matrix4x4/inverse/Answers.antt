use Rattle.matrix.specs.Matrix.{inverse_of}
use Rattle.matrix.proofs.Matrix4x4.inverse.Goals as goal

pub returns : goal.returns
unfolding inverse_of
returns c = rw (c.from.ensures, c.invert.ensures, c.from-v.ensures)
