-- The first i parts are written, and `from` is i as a float.
use Rattle.std.proofs.Common.{◌≡◌}
use Rattle.std.specs.Prelude.{pos}
use Rattle.std.specs.Float.{binary32}
use Rattle.std.specs.Float.Ieee.{of_int}
use Rattle.limits.specs.List.{over, up_to}
use Rattle.curve.specs.Layout.{curve_floats}
use Rattle.create.specs.Create.{part_of}
use Rattle.create.proofs.create.create_curve.Given as goal

abbrev pub invariant-loop-i : goal.invariant-loop-i
invariant-loop-i l =
    (l.list ≡ over l.initial.list l.at (up_to (λ i. curve_floats (part_of l.s.cp l.s.width0 l.s.width1 l.s.parts i)) l.i))
    × (l.from ≡ of_int binary32 (pos l.i))
