-- `Matrix4x4::inverse` of pbrt-rust, src/core/transform.rs: Gauss-Jordan elimination with full pivoting, each operation at binary32 and in
-- the order of the Rust. A matrix is a list of sixteen floats, with `m[j][k]` at 4 * j + k. `error!`, which only logs, has no part here.
use Rattle.std.specs.Prelude.{ℕ, ◌+◌, ◌*◌, ◌≤◌, Bool, cond, if◌then◌else◌, List, eqb, get_or, set, Float}
use Rattle.float.specs.Arith.{◌⊖◌, ◌⊗◌, ◌⊘◌, 0f, 1f}
use Rattle.pivot.specs.declared.Pivot.{Pivot}
use Rattle.pivot.specs.Pivot.{Matrix, at, none_taken, pivot_of}

-- For the proof of `invert`: no column was taken more than n times.
pub record AtMost (n : ℕ) (ipiv : List ℕ) : Type 0 where
  pub each : (k : ℕ) → get_or ipiv k 0 ≤ n

-- ipiv[k] += 1
unfoldable pub column_taken : List ℕ → ℕ → List ℕ
column_taken ipiv k = set ipiv k (get_or ipiv k 0 + 1)

-- let swap = m[i]; m[i] = m[j]; m[j] = swap
unfoldable pub swap_at : Matrix → ℕ → ℕ → Matrix
swap_at m i j = set (set m i (at m j)) j (at m i)

-- for k in 0..4 { swap minv[irow][k] and minv[icol][k] }
unfoldable pub exchange_rows : Matrix → ℕ → ℕ → Matrix
exchange_rows m i j =
    swap_at (swap_at (swap_at (swap_at m (4 * i) (4 * j)) (4 * i + 1) (4 * j + 1)) (4 * i + 2) (4 * j + 2)) (4 * i + 3) (4 * j + 3)

-- if irow != icol { .. }
unfoldable pub swap_rows : Matrix → ℕ → ℕ → Matrix
swap_rows m irow icol = cond (eqb irow icol) m (exchange_rows m irow icol)

-- For functions inside: where entry k of a line stands, of a row or of a column.
abbrev pub entry_at : Bool → ℕ → ℕ → ℕ
entry_at of_row line k = if of_row then 4 * line + k else 4 * k + line

-- m[i] *= v
abbrev pub times_at : Matrix → ℕ → Float → Matrix
times_at m i v = set m i (at m i ⊗ v)

-- pivinv = 1.0 / minv[icol][icol]; minv[icol][icol] = 1.0; for j in 0..4 { minv[icol][j] *= pivinv }
unfoldable pub scale_row : Matrix → ℕ → Matrix
scale_row m icol =
    let pivinv = 1f ⊘ at m (4 * icol + icol) in
    let m1 = set m (4 * icol + icol) 1f in
    times_at (times_at (times_at (times_at m1 (4 * icol) pivinv) (4 * icol + 1) pivinv) (4 * icol + 2) pivinv) (4 * icol + 3) pivinv

-- m[i] -= m[h] * save
abbrev pub less_at : Matrix → ℕ → ℕ → Float → Matrix
less_at m i h save = set m i (at m i ⊖ at m h ⊗ save)

-- save = minv[j][icol]; minv[j][icol] = 0.0; for k in 0..4 { minv[j][k] -= minv[icol][k] * save }
unfoldable pub cleared : Matrix → ℕ → ℕ → Matrix
cleared m icol j =
    let save = at m (4 * j + icol) in
    let z = set m (4 * j + icol) 0f in
    less_at (less_at (less_at (less_at z (4 * j) (4 * icol) save) (4 * j + 1) (4 * icol + 1) save) (4 * j + 2) (4 * icol + 2) save) (4 * j + 3) (4 * icol + 3) save

-- if j != icol { .. }
unfoldable pub clear_row : Matrix → ℕ → ℕ → Matrix
clear_row m icol j = cond (eqb j icol) m (cleared m icol j)

-- for j in 0..4 { .. }: subtract this row from the others
unfoldable pub eliminated : Matrix → ℕ → Matrix
eliminated m icol = clear_row (clear_row (clear_row (clear_row m icol 0) icol 1) icol 2) icol 3

-- both, after the exchange of rows
abbrev pub reduced : Matrix → ℕ → Matrix
reduced m icol = eliminated (scale_row m icol) icol

-- what the body of for i in 0..4 does to minv, with the pivot p
unfoldable pub turned : Matrix → Pivot → Matrix
turned m p = reduced (swap_rows m p.row p.col) p.col

-- for k in 0..4 { minv.m[k].swap(i, j) }
unfoldable pub exchange_columns : Matrix → ℕ → ℕ → Matrix
exchange_columns m i j = swap_at (swap_at (swap_at (swap_at m i j) (4 + i) (4 + j)) (8 + i) (8 + j)) (12 + i) (12 + j)

-- if indxr[j] != indxc[j] { .. }
unfoldable pub swap_columns : Matrix → ℕ → ℕ → Matrix
swap_columns m i j = cond (eqb i j) m (exchange_columns m i j)

-- the whole; indxr[i] and indxc[i] are the row and the col of the pivot of turn i, and the last loop goes through them from 3 to 0
unfoldable pub inverse_flat : Matrix → Matrix
inverse_flat m =
    let p0 = pivot_of m none_taken in
    let m1 = turned m p0 in
    let i1 = column_taken none_taken p0.col in
    let p1 = pivot_of m1 i1 in
    let m2 = turned m1 p1 in
    let i2 = column_taken i1 p1.col in
    let p2 = pivot_of m2 i2 in
    let m3 = turned m2 p2 in
    let i3 = column_taken i2 p2.col in
    let p3 = pivot_of m3 i3 in
    let m4 = turned m3 p3 in
    swap_columns (swap_columns (swap_columns (swap_columns m4 p3.row p3.col) p2.row p2.col) p1.row p1.col) p0.row p0.col

-- For functions inside: a row's entry x of column k, or what is put in its place where that is column c. The code reads a row whole before
-- it writes any of it.
unfoldable pub but_at : Float → ℕ → ℕ → Float → Float
but_at x k c other = cond (eqb k c) other x
