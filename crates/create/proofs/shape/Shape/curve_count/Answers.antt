use Rattle.std.proofs.Common.{ℕ, ◌≤◌, ◌^◌, sym, subst}
use native.Mathlib.Nat.{le_trans, lt_of_lt_of_le}
use lib.Dec.{lit≤}
use Rattle.create.proofs.Counts.{segment-count-le, part-count-le, product_lt}
use Rattle.create.proofs.shape.Shape.curve_count.Goals as goal

pub overflow_mul-result : goal.overflow_mul-result
overflow_mul-result c = record {
  fits = lt_of_lt_of_le
      (product_lt
      (subst (λ (x : ℕ). x ≤ 256) (sym c.segment_count.ensures) (le_trans (segment-count-le _ _ _) c.requires))
      (subst (λ (x : ℕ). x ≤ 2 ^ 10) (sym c.part_count.ensures) (part-count-le _ c.args.self.split)))
      (lit≤ tt);
}
