-- A subcurve whose points are lent as floats is the subcurve of the definitions. Assumes nothing.
use mathlib.Core.List.{List}
use mathlib.Core.Path.{◌≡◌}
use lib.Ieee.{Float}
use Rattle.bezier.specs.Cubic.{low_of, high_of}
use Rattle.bezier.specs.Points.{cubic_in}
use Rattle.overlap.specs.declared.subcurve.Subcurve.{Subcurve}
use Rattle.overlap.specs.Subcurve.{middle_of, low_half, high_half, subcurve_in}

pub subcurve_back : (s : Subcurve) (l : List Float) → cubic_in l ≡ s.cp → subcurve_in l s.u0 s.u1 ≡ s
unfolding subcurve_in
subcurve_back s l e = rw e

pub low-lent : (l h : List Float) (u0 u u1 : Float) → u ≡ middle_of u0 u1 → cubic_in h ≡ low_of (cubic_in l) → subcurve_in h u0 u ≡ low_half (subcurve_in l u0 u1)
unfolding subcurve_in low_half
low-lent l h u0 u u1 m e = rw (e, m)

pub high-lent : (l h : List Float) (u0 u u1 : Float) → u ≡ middle_of u0 u1 → cubic_in h ≡ high_of (cubic_in l) → subcurve_in h u u1 ≡ high_half (subcurve_in l u0 u1)
unfolding subcurve_in high_half
high-lent l h u0 u u1 m e = rw (e, m)
