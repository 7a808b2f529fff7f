-- No bit is shifted out.
use Rattle.std.proofs.Common.{ap, ◌∙◌, ℕ, ◌%◌, ◌^◌}
use native.Mathlib.Nat.{one-mul, mod-eq_of_lt, lt_of_le_of_lt}
use lib.Dec.{lit<}
use lib.Pow.{pow_mono}
use Rattle.create.specs.Create.{part_count}
use Rattle.create.proofs.shape.Shape.part_count.Goals as goal

pub returns : goal.returns
unfolding part_count
returns c =
    let s = c.args.self in
    ap (λ (x : ℕ). x % 2 ^ 16) (one-mul (2 ^ s.splitdepth)) ∙ mod-eq_of_lt (lt_of_le_of_lt (pow_mono {i = s.splitdepth} {j = 10} s.split) (lit< tt))
