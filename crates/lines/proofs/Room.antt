-- Words with zeros behind them. Assumes nothing.
use Rattle.std.proofs.Common.{◌≡◌, ℕ, ◌+◌, ◌-◌, List, drop, set, replicate, sym, ap, ◌∙◌, arith}
use Rattle.std.proofs.lemmas.List.{drop-drop, drop-replicate, drop-set-lt}

-- one word more
pub zeros_behind : (n k : ℕ) (xs : List ℕ) (v : ℕ) → drop k xs ≡ replicate (n - k) 0 → drop (k + 1) (set xs k v) ≡ replicate (n - (k + 1)) 0
zeros_behind n k xs v rest = drop-set-lt (k + 1) xs k v (omega arith) ∙ sym (drop-drop 1 k xs) ∙ ap (drop 1) rest ∙ drop-replicate 1 (n - k) 0 ∙ ap (λ m. replicate m 0) (omega arith)
