-- A pass finds what pairs find.
use Rattle.std.proofs.Common.{◌≡◌, false}
use lib.Ieee.{Float, is_nan}
use Rattle.bezier.specs.declared.extent.Extent.{Extent}
use Rattle.bezier.specs.Extent.{Numbers, extent_at, extent_with, extent_union}
use Rattle.bezier.proofs.Numbers.{neither, numbers_with}
use Rattle.bezier.proofs.Passes.{least_by_pass, greatest_by_pass}
use Rattle.bezier.proofs.extent.extent_of.Goals as goal

number_alone : (e : Extent) (v : Float) → e ≡ extent_at v → is_nan v ≡ false → Numbers e
unfolding extent_at
number_alone e v h n = rw h (n, n)

pub union_value-first-requires : goal.union_value-first-requires
union_value-first-requires c = λ _. number_alone _ _ c.from.ensures (neither _ _ (rw (c.is_nan.ensures.value, c.is_nan-2.ensures.value) at c.if-is_nan.false)).0

pub union_value-second-requires : goal.union_value-second-requires
union_value-second-requires c = λ _. number_alone _ _ c.from-else-is_nan.ensures (neither _ _ (rw (c.is_nan.ensures.value, c.is_nan-2.ensures.value) at c.if-is_nan.false)).1

pub union_extent-requires : goal.union_extent-requires
union_extent-requires c =
    let n = number_alone _ _ c.from.ensures (neither _ _ (rw (c.is_nan.ensures.value, c.is_nan-2.ensures.value) at c.if-is_nan.false)).0 in
    λ _. rw c.union_value-first.ensures (numbers_with _ _ n)

pub returns-then-is_nan : goal.returns-then-is_nan
unfolding extent_at extent_with extent_union
returns-then-is_nan c =
    record {
      least_value = rw (c.union_value-then-is_nan-2.ensures, c.union_value-then-is_nan.ensures, c.union_value.ensures, c.from-first.ensures) (least_by_pass _);
      greatest_value = rw (c.union_value-then-is_nan-2.ensures, c.union_value-then-is_nan.ensures, c.union_value.ensures, c.from-first.ensures) (greatest_by_pass _);
    }
