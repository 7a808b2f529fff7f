-- Lists. Definitions only.
use Rattle.std.specs.Prelude.{ℕ, zero, suc, ◌+◌, List, [], ◌++◌, length, take, drop}

-- d with s written over it, from `at` on
unfoldable pub over : {A : Type 0} → List A → ℕ → List A → List A
over d at s = take at d ++ s ++ drop (at + length s) d

-- f 0, f 1 and so on up to f (n - 1), one behind the other
unfoldable pub up_to : {A : Type 0} → (ℕ → List A) → ℕ → List A
up_to f zero = []
up_to f (suc n) = up_to f n ++ f n
