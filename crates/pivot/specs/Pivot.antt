-- The pivot of `Matrix4x4::inverse` of pbrt-rust, src/core/transform.rs: big, irow and icol of a turn. A matrix is a list of sixteen floats, with
-- `m[j][k]` at 4 * j + k. Definitions only.
use Rattle.std.specs.Prelude.{ℕ, ◌+◌, ◌*◌, cond, List, [], ◌∷◌, eqb, get_or, Float}
use Rattle.std.specs.Float.{nan}
use Rattle.std.specs.Float.Ieee.{le}
use Rattle.float.specs.Arith.{0f}
use Rattle.float.specs.Basic.{abs_of}
use Rattle.pivot.specs.declared.Pivot.{Pivot}

abbrev pub Matrix : Type 0
Matrix = List Float

abbrev pub at : Matrix → ℕ → Float
at m i = get_or m i nan

-- ipiv before the first turn
abbrev pub none_taken : List ℕ
none_taken = 0 ∷ 0 ∷ 0 ∷ 0 ∷ []

-- if ipiv[k] == 0 { let abs = minv[j][k].abs(); if abs >= big { big = abs; irow = j; icol = k } }, with mark = ipiv[k] and x = minv[j][k]
unfoldable pub look_entry : Pivot → ℕ → ℕ → ℕ → Float → Pivot
look_entry p mark j k x = cond (eqb mark 0) (cond (le p.big (abs_of x)) (record { big = abs_of x; row = j; col = k }) p) p

-- for k in 0..4 { .. }
unfoldable pub look_along : Pivot → Matrix → List ℕ → ℕ → Pivot
look_along p m ipiv j =
    let p0 = look_entry p (get_or ipiv 0 0) j 0 (at m (4 * j)) in
    let p1 = look_entry p0 (get_or ipiv 1 0) j 1 (at m (4 * j + 1)) in
    let p2 = look_entry p1 (get_or ipiv 2 0) j 2 (at m (4 * j + 2)) in
    look_entry p2 (get_or ipiv 3 0) j 3 (at m (4 * j + 3))

-- if ipiv[j] != 1 { for k in 0..4 { .. } }
unfoldable pub look_row : Pivot → Matrix → List ℕ → ℕ → Pivot
look_row p m ipiv j = cond (eqb (get_or ipiv j 0) 1) p (look_along p m ipiv j)

-- for j in 0..4 { .. }: big, irow and icol
unfoldable pub pivot_of : Matrix → List ℕ → Pivot
pivot_of m ipiv =
    let p0 = look_row (record { big = 0f; row = 0; col = 0 }) m ipiv 0 in
    let p1 = look_row p0 m ipiv 1 in
    let p2 = look_row p1 m ipiv 2 in
    look_row p2 m ipiv 3
