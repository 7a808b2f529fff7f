-- What is written of a failure, and of a transfer that ended before all bytes were moved. Definitions only.
use Rattle.std.specs.Prelude.{ℕ, List, [], ◌∷◌, ◌++◌, ◌≡◌, take, Option, codes}
use Rattle.std.specs.Io.KnownBytes.{Appends}
use Rattle.transfer.specs.declared.failure.Sentences.{Sentences}
use Rattle.transfer.specs.declared.Stop.{Stop}
use Rattle.transfer.specs.declared.Stop.TheVariants.{Nothing, Interrupted, Failed}

-- prefixes of these parts, one behind the other: of each part all bytes, or those before a write that failed
abbrev pub Prefixes : List (List ℕ) → List ℕ → Type 0
Prefixes [] bs = bs ≡ []
Prefixes (part ∷ parts) bs = (k : ℕ) × (rest : List ℕ) × (bs ≡ take k part ++ rest) × Prefixes parts rest

-- a writer got such prefixes, and nothing else
abbrev pub Says : List (List ℕ) → Option (List ℕ) → Option (List ℕ) → Type 0
Says parts old new = (bs : List ℕ) × Prefixes parts bs × Appends old new bs

-- a line: what failed, and why
abbrev pub line_of : List ℕ → List ℕ → List (List ℕ)
line_of what why = what ∷ codes ": " ∷ why ∷ codes "\n" ∷ []

-- the sentence for what ended a transfer, and behind that of a failure why
abbrev pub told_of : Sentences → Stop → List ℕ → List (List ℕ)
told_of s Nothing why = s.nothing.now ∷ []
told_of s Interrupted why = s.interrupted.now ∷ []
told_of s (Failed error) why = line_of s.failed.now why

-- what is not done, since a call failed, and why
abbrev pub failure_told : List ℕ → List ℕ → List ℕ → List (List ℕ)
failure_told what call why = what ∷ codes ", a " ∷ call ∷ line_of (codes " failed") why

-- what is not done, by which calls, and of a failure why
abbrev pub line_told : List ℕ → List ℕ → Stop → List ℕ → List (List ℕ)
line_told what call Nothing why = what ∷ codes ", a " ∷ call ∷ codes " took nothing\n" ∷ []
line_told what call Interrupted why = what ∷ codes ", 100 " ∷ call ∷ codes "s in a row were interrupted\n" ∷ []
line_told what call (Failed error) why = failure_told what call why
