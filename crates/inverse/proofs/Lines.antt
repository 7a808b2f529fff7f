-- Two lines of a matrix are exchanged entry by entry. Assumes nothing.
use Rattle.std.proofs.Common.{◌≡◌, ◌≢◌, ◌∙◌, ℕ, zero, suc, ◌+◌, Bool, eqb, true, false, if◌then◌else◌, sym, zero-add, add-zero, add-one, eq-eqb, ne_eqb}
use Rattle.std.proofs.lemmas.Bool.{false≢true}
use Rattle.pivot.specs.Pivot.{Matrix}
use Rattle.inverse.specs.Inverse.{entry_at, swap_at, exchange_rows, exchange_columns, swap_rows, swap_columns}

-- the first k entries of lines i and j
abbrev pub exchanged : Bool → Matrix → ℕ → ℕ → ℕ → Matrix
exchanged rows m i j zero = m
exchanged rows m i j (suc k) = swap_at (exchanged rows m i j k) (entry_at rows i k) (entry_at rows j k)

pub exchanged_more : (rows : Bool) (m : Matrix) (i j k : ℕ) → exchanged rows m i j (k + 1) ≡ swap_at (exchanged rows m i j k) (entry_at rows i k) (entry_at rows j k)
exchanged_more rows m i j k = rw add-one

-- what is done about rows or columns
abbrev pub lines_swapped : Bool → Matrix → ℕ → ℕ → Matrix
lines_swapped rows m i j = if rows then swap_rows m i j else swap_columns m i j

pub same_lines : (rows : Bool) (m : Matrix) (i j : ℕ) → i ≡ j → m ≡ lines_swapped rows m i j
unfolding swap_rows swap_columns
same_lines true m i j e = simp (eq-eqb _ _ e)
same_lines false m i j e = simp (eq-eqb _ _ e)

pub other_lines : (rows : Bool) (m : Matrix) (i j : ℕ) → i ≢ j → exchanged rows m i j 4 ≡ lines_swapped rows m i j
unfolding swap_rows swap_columns exchange_rows exchange_columns
other_lines true m i j n = simp (ne_eqb _ _ n, add-zero)
other_lines false m i j n = simp (ne_eqb _ _ n, zero-add)

-- once all four are exchanged
pub all_exchanged : (rows : Bool) (m m' : Matrix) (i j k : ℕ) → m' ≡ exchanged rows m i j k → k ≡ 4 → eqb i j ≡ false → m' ≡ lines_swapped rows m i j
all_exchanged rows m m' i j k e end n = cc (other_lines rows m i j (λ h. false≢true (sym n ∙ eq-eqb i j h)))
