-- Each turn takes one column, so before turn n no column was taken more than n times. Assumes nothing.
use Rattle.std.proofs.Common.{◌≡◌, sym, subst, List, [], ◌∷◌, ℕ, zero, suc, ◌+◌, ◌≤◌, get_or, set, arith}
use Rattle.pivot.specs.Pivot.{none_taken}
use Rattle.inverse.specs.Inverse.{AtMost, column_taken}

set-le : (l : List ℕ) (k v j n : ℕ) → get_or l j 0 ≤ n → v ≤ n → get_or (set l k v) j 0 ≤ n
set-le [] k v j n h g = h
set-le (x ∷ l) zero v zero n h g = g
set-le (x ∷ l) zero v (suc j) n h g = h
set-le (x ∷ l) (suc k) v zero n h g = h
set-le (x ∷ l) (suc k) v (suc j) n h g = set-le l k v j n h g

pub after_turn : (n : ℕ) (l l' : List ℕ) (k : ℕ) → l' ≡ column_taken l k → AtMost n l → AtMost (n + 1) l'
unfolding column_taken
after_turn n l l' k e h =
    record {
      each = λ j. subst (λ (r : List ℕ). get_or r j 0 ≤ n + 1) (sym e)
          (set-le l k (get_or l k 0 + 1) j (n + 1) (omega (arith, h.each j)) (omega (arith, h.each k)));
    }

none_at : (j : ℕ) → get_or none_taken j 0 ≤ 0
none_at zero = omega arith
none_at (suc zero) = omega arith
none_at (suc (suc zero)) = omega arith
none_at (suc (suc (suc zero))) = omega arith
none_at (suc (suc (suc (suc j)))) = omega arith

pub none : AtMost 0 none_taken
none = record { each = none_at }
