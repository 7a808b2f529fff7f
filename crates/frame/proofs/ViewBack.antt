-- Nothing is lost in a view as floats. Assumes nothing.
use mathlib.Core.Path.{◌≡◌, refl}
use Rattle.geometry.specs.Vector.{vector_from}
use Rattle.matrix.specs.Matrix.{flat, row_from, matrix_from}
use Rattle.frame.specs.declared.frame.View.{View}
use Rattle.frame.specs.Fixed.{view_from, view_floats}

pub view_back : (v : View) → view_from (view_floats v) ≡ v
unfolding view_from view_floats vector_from matrix_from row_from flat
view_back v = refl
