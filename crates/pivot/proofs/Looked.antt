-- The search for a pivot, entry by entry and row by row. Assumes nothing.
use Rattle.std.proofs.Common.{◌≡◌, ◌≢◌, ℕ, zero, suc, ◌+◌, ◌*◌, List, get_or, Float, refl, add-zero, add-one, eq-eqb, ne_eqb}
use Rattle.float.specs.Arith.{0f}
use Rattle.pivot.specs.declared.Pivot.{Pivot}
use Rattle.pivot.specs.Pivot.{Matrix, at, look_entry, look_along, look_row, pivot_of}

-- after the first k entries of row j
abbrev pub looked : Pivot → Matrix → List ℕ → ℕ → ℕ → Pivot
looked p m ipiv j zero = p
looked p m ipiv j (suc k) = look_entry (looked p m ipiv j k) (get_or ipiv k 0) j k (at m (4 * j + k))

pub looked_more : (p : Pivot) (m : Matrix) (ipiv : List ℕ) (j k : ℕ) → looked p m ipiv j (k + 1) ≡ look_entry (looked p m ipiv j k) (get_or ipiv k 0) j k (at m (4 * j + k))
looked_more p m ipiv j k = rw add-one

pub looked_all : (p : Pivot) (m : Matrix) (ipiv : List ℕ) (j : ℕ) → looked p m ipiv j 4 ≡ look_along p m ipiv j
unfolding look_along
looked_all p m ipiv j = rw (add-zero (4 * j))

-- a column that is taken
pub taken_passed : (p : Pivot) (mark j k : ℕ) (x : Float) → mark ≢ 0 → look_entry p mark j k x ≡ p
unfolding look_entry
taken_passed p mark j k x n = simp (ne_eqb _ _ n)

-- after the first j rows
abbrev pub rows_looked : Matrix → List ℕ → ℕ → Pivot
rows_looked m ipiv zero = record { big = 0f; row = 0; col = 0 }
rows_looked m ipiv (suc j) = look_row (rows_looked m ipiv j) m ipiv j

pub rows_looked_more : (m : Matrix) (ipiv : List ℕ) (j : ℕ) → rows_looked m ipiv (j + 1) ≡ look_row (rows_looked m ipiv j) m ipiv j
rows_looked_more m ipiv j = rw add-one

pub rows_looked_all : (m : Matrix) (ipiv : List ℕ) → rows_looked m ipiv 4 ≡ pivot_of m ipiv
unfolding pivot_of
rows_looked_all m ipiv = refl

-- a row that is taken once, and any other
pub row_passed : (p : Pivot) (m : Matrix) (ipiv : List ℕ) (j : ℕ) → get_or ipiv j 0 ≡ 1 → look_row p m ipiv j ≡ p
unfolding look_row
row_passed p m ipiv j e = simp (eq-eqb _ _ e)

pub row_looked : (p : Pivot) (m : Matrix) (ipiv : List ℕ) (j : ℕ) → get_or ipiv j 0 ≢ 1 → look_row p m ipiv j ≡ look_along p m ipiv j
unfolding look_row
row_looked p m ipiv j n = simp (ne_eqb _ _ n)
