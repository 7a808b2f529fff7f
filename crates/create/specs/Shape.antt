-- A curve shape's numbers, as create_curve_shape is given them. Definitions only.
use Rattle.std.specs.Prelude.{ℕ, Bool, ◌||◌, eqb}
use Rattle.create.specs.declared.create.Params.{Params}
use Rattle.create.specs.declared.shape.Degree.{Degree}
use Rattle.create.specs.declared.shape.Degree.TheVariants.{Quadratic, Cubic}
use Rattle.create.specs.declared.shape.Basis.{Basis}
use Rattle.create.specs.declared.shape.Basis.TheVariants.{Bezier, BSpline}
use Rattle.create.specs.declared.shape.Shape.{Shape}

abbrev pub degree_number : Degree → ℕ
degree_number Quadratic = 2
degree_number Cubic = 3

-- a number that is a degree's
abbrev pub is_degree : ℕ → Bool
is_degree n = eqb n 2 || eqb n 3

abbrev pub basis_number : Basis → ℕ
basis_number Bezier = 0
basis_number BSpline = 1

-- type 0 is flat
abbrev pub params_in : Shape → Params
params_in s = record { degree = degree_number s.degree; basis = basis_number s.basis; ty = 0; width0 = s.width0; width1 = s.width1; splitdepth = s.splitdepth }
