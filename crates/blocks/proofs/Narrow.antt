-- The numbers of an answer of `intersect` are below 2 ^ 32. Assumes nothing.
use mathlib.Core.Bool.{Bool}
use mathlib.Core.List.{List}
use mathlib.Core.Path.{◌≡◌, refl, ap}
use native.Mathlib.Omega.{arith}
use lib.Ieee.{Float}
use Rattle.geometry.specs.declared.ray.Ray.{Ray}
use Rattle.matrix.specs.declared.Matrix4x4.{Matrix4x4}
use Rattle.intersect.specs.Answer.{met_count}
use Rattle.intersect.specs.Intersect.{intersect_of}
use Rattle.intersect.specs.declared.Intersection.{Intersection}
use Rattle.intersect.specs.declared.Intersection.TheVariants.{Hit, Miss}
use Rattle.std.specs.Prelude.{Result, Ok, Err}
use Rattle.limits.specs.declared.refusal.Refusal.{Refusal}
use Rattle.limits.proofs.Told.{number-most}
use Rattle.intersect.proofs.IntersectCorrect.{count_few}
use Rattle.report.proofs.Longest.{Narrow}

pub narrow : (l : List Float) (o2w w2o : Matrix4x4) (reverse : Bool) (r : Ray) → Narrow (intersect_of l o2w w2o reverse r)
narrow l o2w w2o reverse r = go (intersect_of l o2w w2o reverse r) refl
  where
    go : (met : Result Intersection Refusal) → intersect_of l o2w w2o reverse r ≡ met → Narrow met
    go (Ok (Hit at n)) e = omega (arith, count_few l o2w w2o reverse r n (ap met_count e))
    go (Ok (Miss n)) e = omega (arith, count_few l o2w w2o reverse r n (ap met_count e))
    go (Err reason) e = omega (arith, number-most reason)
