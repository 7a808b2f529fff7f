-- What create_curve_shape makes of points and widths within its own limits is within the limits of refusal 9. Assumes nothing.
use mathlib.Core.Path.{◌≡◌, refl}
use mathlib.Core.Logic.{inl, inr}
use mathlib.Core.Bool.{Bool, true, false, cond, and-eq-true_iff}
use mathlib.Core.List.{List}
use Prim.Native.Nat.{ℕ, ◌+◌, ◌*◌, ◌^◌, ◌≤◌, ◌<◌}
use native.Mathlib.Omega.{arith}
use borrow.Author.Tests.{eqb-false}
use lib.Dec.{eqb}
use lib.Pow.{pow_pos, pow_mono}
use lib.ListN.{length, get_or}
use lib.Ieee.{Float, nan, binary32, of_bits, add, sub, mul, div, le, lt}
use Rattle.float.specs.Arith.{◌⊖◌, ◌⊗◌, ◌⊘◌, 0f, 1f, 2f, 3f, half}
use Rattle.float.proofs.Bound.{Plain, plain, Most, Weight, most_of, of_most, most-le, le-most, most_self, most_trans, either, zero-most, plain_between, mul_most, mul_plain, add_most, add_plain, weighted, rest_weight, rest_falls, quotient_weight, quotient-lt}
use Rattle.geometry.specs.declared.point.Point3f.{Point3f}
use Rattle.geometry.specs.Pbrt.{lerp_of}
use Rattle.geometry.specs.Point.{point_lerp}
use Rattle.bezier.specs.declared.cubic.Cubic.{Cubic}
use Rattle.limits.specs.Within.{largest, within, width_within}
use Rattle.limits.proofs.Below.{all-at}
use Rattle.curve.specs.Curve.{farthest, narrowest, widest, point_within, cubic_within}
use Rattle.geometry.specs.Point.{point_from}
use Rattle.create.specs.Basis.{elevated, bezier_segment, quadratic_spline, cubic_spline, spline_segment, segment_at}
use Rattle.create.specs.Create.{part_count, all_within, least_width, greatest_width, ratio}

-- ---- coordinates: the conversions keep the points' limit

-- with the weight t the lerp of the limit and the limit is the limit, and nothing overflows on the way
record Keeps (t : Float) : Type 0 where
  rest : Plain (1f ⊖ t)
  self : Plain t
  first : Plain (largest ⊗ (1f ⊖ t))
  second : Plain (largest ⊗ t)
  same : lerp_of t largest largest ≡ largest

two_thirds : Keeps (2f ⊘ 3f)
unfolding lerp_of of_bits sub mul div
two_thirds = record { rest = plain _ _; self = plain _ _; first = plain _ _; second = plain _ _; same = refl }

one_third : Keeps (1f ⊘ 3f)
unfolding lerp_of of_bits sub mul div
one_third = record { rest = plain _ _; self = plain _ _; first = plain _ _; second = plain _ _; same = refl }

one_half : Keeps half
unfolding lerp_of of_bits sub mul
one_half = record { rest = plain _ _; self = plain _ _; first = plain _ _; second = plain _ _; same = refl }

-- so the lerp of two coordinates within the limit is within it
lerp : {t x y : Float} → Keeps t → Most x largest → Most y largest → Most (lerp_of t x y) largest
unfolding lerp_of of_bits
lerp k h g = rw k.same at (weighted binary32 h (most_self k.rest) g (most_self k.self) k.first k.second (rw k.same (plain _ _)))

data Near : Point3f → Type 0 where
  near : {x y z : Float} → Most x largest → Most y largest → Most z largest → Near (record { x = x; y = y; z = z })

data NearAll : Cubic → Type 0 where
  four : {p0 p1 p2 p3 : Point3f} → Near p0 → Near p1 → Near p2 → Near p3 → NearAll (record { p0 = p0; p1 = p1; p2 = p2; p3 = p3 })

point-lerp : {t : Float} {p q : Point3f} → Keeps t → Near p → Near q → Near (point_lerp t p q)
unfolding point_lerp
point-lerp k (near a b c) (near d e f) = near (lerp k a d) (lerp k b e) (lerp k c f)

elevate : {p0 p1 p2 : Point3f} → Near p0 → Near p1 → Near p2 → NearAll (elevated p0 p1 p2)
unfolding elevated
elevate a b c = four a (point-lerp two_thirds a b) (point-lerp one_third b c) c

within-point : {p : Point3f} → Near p → point_within p farthest ≡ true
unfolding point_within
within-point (near a b c) = rw (far a, far b, far c)
  where
    far : {x : Float} → Most x largest → within x farthest ≡ true
    far h = unfold within of_bits le in of_most (most_trans h (most-le (plain _ _) (plain _ _) refl))

within_cubic : {c : Cubic} → NearAll c → cubic_within c farthest ≡ true
unfolding cubic_within
within_cubic (four a b c d) = rw (within-point a, within-point b, within-point c, within-point d)

module _ (l : List Float) (inside : all_within l ≡ true) where
  point : (at : ℕ) → at + 3 ≤ length l → Near (point_from l at)
  unfolding point_from
  point at h = near (coordinate at (omega arith)) (coordinate (at + 1) (omega arith)) (coordinate (at + 2) (omega arith))
    where
      coordinate : (i : ℕ) → i < length l → Most (get_or l i nan) largest
      coordinate i h = unfold all_within within of_bits in most_of _ (plain _ _) (all-at (length l) (λ j. within (get_or l j nan) largest) inside i h)

  pub segment-within : (degree basis at : ℕ) → 2 ≤ degree → degree ≤ 3 → at + (3 * degree + 3) ≤ length l → cubic_within (segment_at l degree basis at) farthest ≡ true
  unfolding segment_at bezier_segment spline_segment quadratic_spline cubic_spline
  segment-within degree basis at low high h = within_cubic (go (eqb basis 0))
    where
      p0 : Near (point_from l at)
      p0 = point at (omega arith)

      p1 : Near (point_from l (at + 3))
      p1 = point (at + 3) (omega arith)

      p2 : Near (point_from l (at + 6))
      p2 = point (at + 6) (omega arith)

      -- the fourth point is there in degree 3
      by_degree : (c d : Cubic) → NearAll c → (Near (point_from l (at + 9)) → NearAll d) → NearAll (cond (eqb degree 2) c d)
      by_degree c d x y = choose (eqb degree 2) (eqb-false degree 2)
        where
          choose : (b : Bool) → (b ≡ false → degree ≡ 2 → ⊥) → NearAll (cond b c d)
          choose true e = x
          choose false e = y (point (at + 9) (omega (arith, e refl)))

      go : (b : Bool) → NearAll (cond b (bezier_segment l degree at) (spline_segment l degree at))
      go true = by_degree _ _ (elevate p0 p1 p2) (λ p3. four p0 p1 p2 p3)
      go false =
          by_degree _ _ (elevate (point-lerp one_half p0 p1) p1 (point-lerp one_half p1 p2))
          (λ p3.
          let p223 = point-lerp one_third p1 p2 in
          let p233 = point-lerp two_thirds p1 p2 in
          four (point-lerp one_half (point-lerp two_thirds p0 p1) p223) p223 p233 (point-lerp one_half p233 (point-lerp one_third p2 p3)))

-- ---- widths

wide : (x : Float) → width_within x least_width greatest_width ≡ true → Plain x × Most least_width x × Most x greatest_width
unfolding width_within of_bits
wide x h =
    let z = (and-eq-true_iff _ _).0 h in
    let p = plain_between least_width x greatest_width tt tt z.0 z.1 in
    (p, most-le (plain _ _) p z.0, most-le p (plain _ _) z.1)

-- Each product is at most the greatest width, and the sum at most twice that. One of the weights t and 1 - t is at least a half, so one of the products is at least half of the least width.
pub width_lerp : {t : Float} (x y : Float) → Weight t → width_within x least_width greatest_width ≡ true → width_within y least_width greatest_width ≡ true → width_within (lerp_of t x y) narrowest widest ≡ true
unfolding width_within lerp_of of_bits add sub mul le
width_lerp {t} x y w h g =
    let v = rest_weight binary32 w in
    let X = wide x h in
    let Y = wide y g in
    let first = mul_most binary32 X.2 v.1 (plain _ _) in
    let second = mul_most binary32 Y.2 w.1 (plain _ _) in
    let top : Most (lerp_of t x y) widest = add_most binary32 first second (plain _ _) in
    let P = mul_plain binary32 X.0 v.0 first in
    let Q = mul_plain binary32 Y.0 w.0 second in
    let R = add_plain binary32 P Q top in
    let low : Most narrowest (lerp_of t x y) = elim (either {x = half} {y = t} (plain _ _) w.0) [
      | inl z ↦ weighted binary32 X.1 (zero-most v.0) Y.1 z P Q R
      | inr z ↦ weighted binary32 X.1 (rest_falls binary32 w.0 z (most-le (plain _ _) (plain _ _) refl)) Y.1 (zero-most w.0) P Q R
    ] in
    rw (le-most (plain _ _) low, le-most R top)

-- ---- umin and umax: i / n and (i + 1) / n, for an n that is a power of two

pub umin_umax : (k i : ℕ) → k ≤ 10 → i < part_count k → (le 0f (ratio i (part_count k)) ≡ true) × (lt (ratio i (part_count k)) (ratio (i + 1) (part_count k)) ≡ true) × (le (ratio (i + 1) (part_count k)) 1f ≡ true)
unfolding part_count ratio of_bits
umin_umax k i h l =
    let small : 2 ^ k ≤ 2 ^ 24 = pow_mono {i = k} {j = 24} (omega arith) in
    let first = quotient_weight binary32 i (2 ^ k) (omega arith) (pow_pos k) small in
    let second = quotient_weight binary32 (i + 1) (2 ^ k) (omega arith) (pow_pos k) small in
    (le-most (plain _ _) (zero-most first.0), quotient-lt binary32 k i (omega arith) l, le-most second.0 second.1)
