-- The answer that is put is that of the ray and the curve.
use Rattle.std.proofs.Common.{◌≡◌, ℕ, ◌+◌, ◌-◌, ◌*◌, Bool, List, Float, take, drop, ap}
use Rattle.geometry.specs.Ray.{ray_floats, ray_from}
use Rattle.geometry.specs.declared.ray.Ray.{Ray}
use Rattle.matrix.specs.Matrix.{identity}
use Rattle.matrix.specs.declared.Matrix4x4.{Matrix4x4}
use Rattle.curve.specs.Layout.{floats}
use Rattle.curve.proofs.Records.{slice_curve}
use Rattle.intersect.specs.Intersect.{intersect_of}
use Rattle.intersect.specs.declared.Intersection.{Intersection}
use Rattle.std.specs.Prelude.{Result}
use Rattle.limits.specs.declared.refusal.Refusal.{Refusal}
use Rattle.text.proofs.Puts.{puts_renamed}
use Rattle.report.specs.Printed.{answer_text}
use Rattle.blocks.specs.Report.{met_at}
use Rattle.blocks.proofs.put_met.Goals as goal

met-is : (rays list : List Float) (i j : ℕ) (reverse : Bool) (o : Matrix4x4) (r : Ray) (met : Result Intersection Refusal) → o ≡ identity → r ≡ ray_from rays (i * ray_floats)
    → met ≡ intersect_of (take (j * floats + floats - j * floats) (drop (j * floats) list)) o o reverse r → met ≡ met_at rays list reverse i j
unfolding met_at
met-is rays list i j reverse o r met e f g = rw (← e, ← f) (rw slice_curve at g)

pub returns : goal.returns
returns c = puts_renamed (ap (answer_text _ _) (met-is _ _ _ _ _ _ _ _ c.default-identity.ensures c.ray_from.ensures c.intersect-met.ensures)) c.put_answer.ensures
