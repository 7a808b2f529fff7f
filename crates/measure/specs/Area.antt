-- The area. Definitions only.
use Rattle.std.specs.Prelude.{List, Result, Ok, Float}
use Rattle.float.specs.Arith.{◌⊕◌, ◌⊗◌, half}
use Rattle.limits.specs.Refused.{first_of, told}
use Rattle.limits.specs.declared.refusal.Refusal.{Refusal}
use Rattle.bezier.specs.Cubic.{chords_of}
use Rattle.curve.specs.declared.curve.Curve.{Curve}
use Rattle.curve.specs.Layout.{curve_from}
use Rattle.curve.specs.Curve.{lent_refusals, control_points, width_at}

-- avg_width of `area`: the mean of the end widths
unfoldable pub mean_width : Curve → Float
mean_width c = (width_at c c.umin ⊕ width_at c c.umax) ⊗ half

-- area of a curve within the limits: three chords times the mean width
unfoldable pub area_of : Curve → Float
area_of c = chords_of (control_points c) ⊗ mean_width c

unfoldable pub area_in : List Float → Result Float Refusal
area_in l = told (first_of (lent_refusals l)) (Ok (area_of (curve_from l)))
