-- Normals. Definitions only.
use Rattle.std.specs.Prelude.{Float}
use Rattle.float.specs.Arith.{◌⊗◌}
use Rattle.geometry.specs.declared.normal.Normal3f.{Normal3f}
use Rattle.geometry.specs.declared.vector.Vector3f.{Vector3f}

-- a vector as a normal
unfoldable pub normal_of : Vector3f → Normal3f
normal_of v = record { x = v.x; y = v.y; z = v.z }

unfoldable pub normal_scaled : Normal3f → Float → Normal3f
normal_scaled n k = record { x = n.x ⊗ k; y = n.y ⊗ k; z = n.z ⊗ k }
