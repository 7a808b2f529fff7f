-- The first seg segments are written, and `from` is seg as a float.
use Rattle.std.proofs.Common.{◌≡◌}
use Rattle.std.specs.Prelude.{pos}
use Rattle.std.specs.Float.{binary32}
use Rattle.std.specs.Float.Ieee.{of_int}
use Rattle.limits.specs.List.{over, up_to}
use Rattle.create.specs.Create.{segment_floats}
use Rattle.create.specs.Shape.{params_in}
use Rattle.create.proofs.create.put_segments.Given as goal

abbrev pub invariant-loop-seg : goal.invariant-loop-seg
invariant-loop-seg l =
    (l.list ≡ over l.initial.list 0 (up_to (segment_floats l.points (params_in l.shape) l.n) l.seg))
    × (l.from ≡ of_int binary32 (pos l.seg))
