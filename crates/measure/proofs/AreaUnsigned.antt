-- An area has no sign: its sign bit is clear, or it is a NaN. Assumes nothing.
use mathlib.Core.Path.{◌≡◌, refl}
use mathlib.Core.Bool.{true, false, ◌&&◌, and-eq-true_iff}
use mathlib.Core.List.{List}
use lib.Dec.{eqb}
use lib.ListN.{length}
use lib.Ieee.{Float, binary32, le, lt, of_bits}
use Rattle.float.specs.Arith.{0f, 1f, half}
use Rattle.float.specs.Whole.{sign_of}
use Rattle.float.proofs.Bound.{Plain, plain, plain_between}
use Rattle.float.proofs.Order.{number_before, number_behind, not_lt_trans, lt_asym, le-not-above}
use Rattle.float.proofs.Signs.{square_sign, mul_sign, add_sign, clear-not-below, mul-not-below, rest_sign, sqrt_sign}
use Rattle.geometry.specs.declared.point.Point3f.{Point3f}
use Rattle.geometry.specs.Pbrt.{lerp_of}
use Rattle.geometry.specs.Point.{difference, distance_of}
use Rattle.geometry.specs.Vector.{length_squared, length_of}
use Rattle.limits.specs.Within.{width_within}
use Rattle.bezier.specs.declared.cubic.Cubic.{Cubic}
use Rattle.bezier.specs.Cubic.{chords_of}
use Rattle.curve.specs.declared.curve.Curve.{Curve}
use Rattle.curve.specs.Layout.{floats, curve_from}
use Rattle.curve.specs.Curve.{cubic_within, farthest, narrowest, widest, in_limits, is_curve, control_points, width_at}
use Rattle.measure.specs.Area.{mean_width, area_of}

-- ---- chords

distance_sign : (p q : Point3f) → sign_of (distance_of p q) ≡ false
unfolding distance_of length_of length_squared
distance_sign p q =
    let v = difference p q in
    sqrt_sign _ (add_sign binary32 _ _ (add_sign binary32 _ _ (square_sign binary32 v.x) (clear-not-below _ (square_sign binary32 v.y))) (clear-not-below _ (square_sign binary32 v.z)))

chords_sign : (p : Cubic) → sign_of (chords_of p) ≡ false
unfolding chords_of of_bits
chords_sign p = add_sign binary32 _ _ (add_sign binary32 _ _ (add_sign binary32 0f _ refl (chord p.p0 p.p1)) (chord p.p1 p.p2)) (chord p.p2 p.p3)
  where
    chord : (a b : Point3f) → lt (distance_of a b) 0f ≡ false
    chord a b = clear-not-below (distance_of a b) (distance_sign a b)

-- ---- widths, at a t from 0 to 1; a t of -0 is one

width_sign : (w : Float) → width_within w narrowest widest ≡ true → sign_of w ≡ false
unfolding width_within of_bits
width_sign w h = let z = (and-eq-true_iff _ _).0 h in clear (plain_between narrowest w widest tt tt z.0 z.1)
  where
    clear : {x : Float} → Plain x → sign_of x ≡ false
    clear (plain m e) = refl

lerp_sign : (t x y : Float) → sign_of x ≡ false → sign_of y ≡ false → lt t 0f ≡ false → lt 1f t ≡ false → sign_of (lerp_of t x y) ≡ false
unfolding lerp_of
lerp_sign t x y h k low high = add_sign binary32 _ _ (mul_sign binary32 x _ h (rest_sign binary32 t high)) (mul-not-below binary32 y t k low)

-- ---- the area

in_limits_sign : (c : Curve) → in_limits c ≡ true → sign_of (area_of c) ≡ false
unfolding in_limits area_of mean_width width_at
in_limits_sign c h =
    let near = cubic_within c.cp farthest in
    let wide0 = width_within c.width0 narrowest widest in
    let wide1 = width_within c.width1 narrowest widest in
    let least = le 0f c.umin in
    let less = lt c.umin c.umax in
    let f = (and-eq-true_iff (near && wide0 && wide1 && least && less) (le c.umax 1f)).0 h in
    let e = (and-eq-true_iff (near && wide0 && wide1 && least) less).0 f.0 in
    let d = (and-eq-true_iff (near && wide0 && wide1) least).0 e.0 in
    let b = (and-eq-true_iff (near && wide0) wide1).0 d.0 in
    let w0 = width_sign c.width0 ((and-eq-true_iff near wide0).0 b.0).1 in
    let w1 = width_sign c.width1 b.1 in
    let from : lt c.umin 0f ≡ false = le-not-above 0f c.umin d.1 in
    let to : lt 1f c.umax ≡ false = le-not-above c.umax 1f f.1 in
    let back : lt c.umax c.umin ≡ false = lt_asym c.umin c.umax e.1 in
    let min-most = not_lt_trans 1f c.umax c.umin (number_behind c.umax c.umin e.1) to back in
    let max_least = not_lt_trans c.umax c.umin 0f (number_before c.umin c.umax e.1) back from in
    let start = lerp_sign c.umin c.width0 c.width1 w0 w1 from min-most in
    let end = lerp_sign c.umax c.width0 c.width1 w0 w1 max_least to in
    mul_sign binary32 _ _ (chords_sign (control_points c)) (mul_sign binary32 _ half (add_sign binary32 _ _ start (clear-not-below _ end)) (unfold of_bits in refl))

pub area_unsigned : (l : List Float) → is_curve l ≡ true → sign_of (area_of (curve_from l)) ≡ false
unfolding is_curve
area_unsigned l h = in_limits_sign (curve_from l) ((and-eq-true_iff (eqb (length l) floats) (in_limits (curve_from l))).0 h).1
