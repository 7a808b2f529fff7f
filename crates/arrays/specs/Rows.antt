-- Rows cut from two lists, and a list without the first that passes a test. Definitions only.
use Rattle.std.specs.Prelude.{Bool, cond, List, [], ◌∷◌, ℕ, zero, suc, take, drop}

-- n rows, each of k of the one list and m of the other
unfoldable pub rows : {A B C : Type 0} → (List A → List B → C) → ℕ → ℕ → ℕ → List A → List B → List C
rows row k m zero f w = []
rows row k m (suc n) f w = row (take k f) (take m w) ∷ rows row k m n (drop k f) (drop m w)

-- all but the first that passes the test
unfoldable pub drop_first : {A : Type 0} → (A → Bool) → List A → List A
drop_first t [] = []
drop_first t (a ∷ l) = cond (t a) l (a ∷ drop_first t l)
