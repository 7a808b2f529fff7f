-- What the tests of the three coordinates come to, in the order y, x, z. Assumes nothing.
use Rattle.std.proofs.Common.{◌≡◌, List, Float, Bool, true, false, if◌then◌else◌, arith}
use Rattle.float.specs.Arith.{0f}
use Rattle.bezier.specs.Points.{axis_in, cubic_in}
use Rattle.bezier.proofs.Transposed.{axis_in_lem}
use Rattle.overlap.specs.Thrown.{is_off, is_off_z_whole, is_off_y, is_off_x, is_off_z, is_thrown_by, is_whole_thrown_by}

-- of the whole, or of a half
abbrev pub thrown : Bool → Float → Float → List Float → Bool
thrown whole w zmax l = if whole then is_whole_thrown_by w zmax (cubic_in l) else is_thrown_by w zmax (cubic_in l)

pub thrown_by_y : (whole : Bool) (w zmax : Float) (l : List Float) (v : Bool) → v ≡ true → is_off (axis_in l 1) w 0f ≡ true → v ≡ thrown whole w zmax l
unfolding is_whole_thrown_by is_thrown_by is_off_y is_off_x is_off_z
thrown_by_y true w zmax l v e y = rw (← axis_in_lem l 1 (omega arith), y) e
thrown_by_y false w zmax l v e y = rw (← axis_in_lem l 1 (omega arith), y) e

pub thrown_by_x : (whole : Bool) (w zmax : Float) (l : List Float) (v : Bool) → v ≡ true → is_off (axis_in l 1) w 0f ≡ false → is_off (axis_in l 0) w 0f ≡ true → v ≡ thrown whole w zmax l
unfolding is_whole_thrown_by is_thrown_by is_off_y is_off_x is_off_z
thrown_by_x true w zmax l v e y x = rw (← axis_in_lem l 1 (omega arith), y, ← axis_in_lem l 0 (omega arith), x) e
thrown_by_x false w zmax l v e y x = rw (← axis_in_lem l 1 (omega arith), y, ← axis_in_lem l 0 (omega arith), x) e

pub thrown_by_z : (whole : Bool) (w zmax : Float) (l : List Float) (v : Bool) → is_off (axis_in l 1) w 0f ≡ false → is_off (axis_in l 0) w 0f ≡ false → v ≡ (if whole then is_off_z_whole (axis_in l 2) w zmax else is_off (axis_in l 2) w zmax) → v ≡ thrown whole w zmax l
unfolding is_whole_thrown_by is_thrown_by is_off_y is_off_x is_off_z
thrown_by_z true w zmax l v y x e = rw (← axis_in_lem l 1 (omega arith), y, ← axis_in_lem l 0 (omega arith), x, ← axis_in_lem l 2 (omega arith)) e
thrown_by_z false w zmax l v y x e = rw (← axis_in_lem l 1 (omega arith), y, ← axis_in_lem l 0 (omega arith), x, ← axis_in_lem l 2 (omega arith)) e
