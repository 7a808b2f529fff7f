-- What is carried along is both passes, and where the first point has no NaN it is all numbers.
use Rattle.std.proofs.Common.{◌≡◌, ◌||◌, false}
use lib.Ieee.{is_nan}
use Rattle.bezier.specs.declared.corners.Corners.{Corners}
use Rattle.bezier.specs.declared.points.PaddedPoint.{PaddedPoint}
use Rattle.bezier.specs.Corners.{corners_at, AllNumbers}
use Rattle.bezier.specs.Extent.{extent_at}
use Rattle.bezier.proofs.Numbers.{none_of_four, all_numbers_with}
use Rattle.bezier.proofs.Passes.{carried}
use Rattle.bezier.proofs.corners.corners_of.Goals as goal

first_numbers : (f : Corners) (p : PaddedPoint) → f ≡ corners_at p → is_nan p.x || is_nan p.y || is_nan p.z || is_nan p.fourth ≡ false → AllNumbers f
unfolding corners_at extent_at
first_numbers f p e h =
    let n = none_of_four _ _ _ _ h in
    rw e ((n.0, n.0), (n.1, n.1), (n.2, n.2), (n.3, n.3))

pub union_point-requires-else-is_nan : goal.union_point-requires-else-is_nan
union_point-requires-else-is_nan c = λ _. first_numbers _ _ c.from-first.ensures (rw (c.is_nan.ensures.value, c.is_nan-2.ensures.value, c.is_nan-3.ensures.value, c.is_nan-4.ensures.value) at c.if-is_nan.false)

pub union_point-third-requires : goal.union_point-third-requires
union_point-third-requires c =
    let n = first_numbers _ _ c.from-first.ensures (rw (c.is_nan.ensures.value, c.is_nan-2.ensures.value, c.is_nan-3.ensures.value, c.is_nan-4.ensures.value) at c.if-is_nan.false) in
    λ _. rw c.union_point-else-is_nan.ensures (all_numbers_with _ _ n)

pub union_point-requires-else-is_nan-2 : goal.union_point-requires-else-is_nan-2
union_point-requires-else-is_nan-2 c =
    let n = first_numbers _ _ c.from-first.ensures (rw (c.is_nan.ensures.value, c.is_nan-2.ensures.value, c.is_nan-3.ensures.value, c.is_nan-4.ensures.value) at c.if-is_nan.false) in
    λ _. rw (c.union_point-third.ensures, c.union_point-else-is_nan.ensures) (all_numbers_with _ _ (all_numbers_with _ _ n))

pub returns-then-is_nan : goal.returns-then-is_nan
returns-then-is_nan c =
    let k = carried c.args.p.now c.padded_in-p0.ensures c.padded_in-p1.ensures c.padded_in-p2.ensures c.padded_in-p3.ensures c.from-first.ensures c.union_point.ensures c.union_point-then-is_nan.ensures c.union_point-then-is_nan-2.ensures in
    record { result_value = k.0; result_value_2 = k.1 }

pub returns-else-is_nan : goal.returns-else-is_nan
returns-else-is_nan c =
    let k = carried c.args.p.now c.padded_in-p0.ensures c.padded_in-p1.ensures c.padded_in-p2.ensures c.padded_in-p3.ensures c.from-first.ensures c.union_point-else-is_nan.ensures c.union_point-third.ensures c.union_point-else-is_nan-2.ensures in
    record { result_value = k.0; result_value_2 = k.1 }
