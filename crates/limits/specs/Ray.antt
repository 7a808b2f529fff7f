-- What a ray and the matrices of its curve are refused for. Definitions only.
use Rattle.std.specs.Prelude.{not, ◌&&◌, [], ◌∷◌}
use Rattle.geometry.specs.declared.ray.Ray.{Ray}
use Rattle.matrix.specs.declared.Matrix4x4.{Matrix4x4}
use Rattle.limits.specs.Refused.{Table}
use Rattle.limits.specs.Within.{matrix_within, ray_within}
use Rattle.limits.specs.declared.refusal.Refusal.TheVariants as refusal

-- both matrices, then the ray
unfoldable pub ray_refusals : Matrix4x4 → Matrix4x4 → Ray → Table
ray_refusals o2w w2o r = (not (matrix_within o2w && matrix_within w2o), refusal.Matrix) ∷ (not (ray_within r), refusal.Ray) ∷ []
