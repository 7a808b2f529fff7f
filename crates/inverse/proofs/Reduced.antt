-- A column is taken from one row after another. Assumes nothing.
use Rattle.std.proofs.Common.{◌≡◌, ◌≢◌, ℕ, zero, suc, ◌+◌, refl, add-one, eq-eqb, ne_eqb}
use Rattle.pivot.specs.Pivot.{Matrix}
use Rattle.inverse.specs.Inverse.{cleared, clear_row, eliminated}

-- from the first j rows
abbrev pub rows_cleared : Matrix → ℕ → ℕ → Matrix
rows_cleared m c zero = m
rows_cleared m c (suc j) = clear_row (rows_cleared m c j) c j

pub rows_cleared_more : (m : Matrix) (c j : ℕ) → rows_cleared m c (j + 1) ≡ clear_row (rows_cleared m c j) c j
rows_cleared_more m c j = rw add-one

pub rows_cleared_all : (m : Matrix) (c : ℕ) → rows_cleared m c 4 ≡ eliminated m c
unfolding eliminated
rows_cleared_all m c = refl

pub pivot_row_kept : (m : Matrix) (c j : ℕ) → j ≡ c → clear_row m c j ≡ m
unfolding clear_row
pivot_row_kept m c j e = simp (eq-eqb _ _ e)

pub other_row_cleared : (m : Matrix) (c j : ℕ) → j ≢ c → clear_row m c j ≡ cleared m c j
unfolding clear_row
other_row_cleared m c j n = simp (ne_eqb _ _ n)
