-- Parts of a curve in the ray's frame, the pieces of the walk, and their halves. Definitions only.
use Rattle.std.specs.Prelude.{List, Float}
use Rattle.float.specs.Arith.{◌⊕◌, ◌⊘◌, 2f}
use Rattle.bezier.specs.declared.cubic.Cubic.{Cubic}
use Rattle.bezier.specs.Cubic.{low_of, high_of}
use Rattle.bezier.specs.Points.{cubic_in}
use Rattle.curve.specs.declared.curve.Curve.{Curve}
use Rattle.overlap.specs.declared.subcurve.Subcurve.{Subcurve}

-- all of it, from umin to umax, with its control points in the ray's frame
unfoldable pub whole_of : Curve → Cubic → Subcurve
whole_of c cp = record { cp = cp; u0 = c.umin; u1 = c.umax }

-- (u0 + u1) / 2.0
unfoldable pub middle_of : Float → Float → Float
middle_of u0 u1 = (u0 ⊕ u1) ⊘ 2f

-- the half at umin, and the half at umax
unfoldable pub low_half : Subcurve → Subcurve
low_half s = record { cp = low_of s.cp; u0 = s.u0; u1 = middle_of s.u0 s.u1 }

unfoldable pub high_half : Subcurve → Subcurve
high_half s = record { cp = high_of s.cp; u0 = middle_of s.u0 s.u1; u1 = s.u1 }

-- from its control points as floats that are lent
unfoldable pub subcurve_in : List Float → Float → Float → Subcurve
subcurve_in l u0 u1 = record { cp = cubic_in l; u0 = u0; u1 = u1 }
