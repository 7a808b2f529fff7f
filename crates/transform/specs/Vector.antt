-- Vectors under a matrix: src/core/transform.rs. Definitions only.
use Rattle.float.specs.Arith.{◌⊗◌}
use Rattle.geometry.specs.declared.vector.Vector3f.{Vector3f}
use Rattle.geometry.specs.Pbrt.{gamma_of}
use Rattle.matrix.specs.declared.Matrix4x4.{Matrix4x4}
use Rattle.transform.specs.Row.{row_vector, row_vector_abs}
use Rattle.transform.specs.declared.vector.VectorWithError.{VectorWithError}

-- transform_vector
unfoldable pub transform_vector : Matrix4x4 → Vector3f → Vector3f
transform_vector m v = record { x = row_vector m.r0 v; y = row_vector m.r1 v; z = row_vector m.r2 v }

-- abs_error of transform_vector_error
unfoldable pub vector_error : Matrix4x4 → Vector3f → Vector3f
vector_error m v =
    record {
      x = gamma_of 3 ⊗ row_vector_abs m.r0 v;
      y = gamma_of 3 ⊗ row_vector_abs m.r1 v;
      z = gamma_of 3 ⊗ row_vector_abs m.r2 v;
    }

-- transform_vector_error
unfoldable pub transform_vector_error : Matrix4x4 → Vector3f → VectorWithError
transform_vector_error m v = record { v = transform_vector m v; error = vector_error m v }
