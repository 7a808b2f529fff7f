-- The first row of a table that holds, and the answer that it decides. Assumes nothing.
use mathlib.Core.Path.{◌≡◌, refl}
use mathlib.Core.Bool.{Bool, true, false, cond, ◌&&◌, ◌||◌, and-false, and-eq-true_iff}
use mathlib.Core.List.{[], ◌∷◌}
use Prim.Native.Nat.{◌≤◌}
use native.Mathlib.Omega.{arith}
use borrow.Author.Tests.{eq-eqb}
use lib.Dec.{eqb}
use Rattle.std.specs.Prelude.{Option, Some, None, Ok, Err}
use Rattle.limits.specs.declared.refusal.Refusal.{Refusal}
use Rattle.limits.specs.declared.refusal.Refusal.TheVariants.{Degree}
use Rattle.limits.specs.Refused.{number_of, Table, first_of, told}

-- a row that does not hold, and the rows behind it
pub passed : (t : Bool) (r : Refusal) (rest : Table) → first_of ((t, r) ∷ rest) ≡ None → (t ≡ false) × (first_of rest ≡ None)
unfolding first_of
passed true r rest e = absurd (cc)
passed false r rest e = (refl, e)

-- every refusal of a table passes P
abbrev pub refusals_pass : (Refusal → Bool) → Table → Bool
refusals_pass P [] = true
refusals_pass P (row ∷ rest) = P row.1 && refusals_pass P rest

-- so the first that holds does
pub first_passes : (P : Refusal → Bool) (t : Table) → refusals_pass P t ≡ true → (r : Refusal) → first_of t ≡ Some r → P r ≡ true
unfolding first_of
first_passes P [] h r e = absurd (cc)
first_passes P (row ∷ rest) h r e = let both = (and-eq-true_iff (P row.1) (refusals_pass P rest)).0 h in go row.0 both.0 (first_passes P rest both.1 r) e
  where
    go : (b : Bool) → P row.1 ≡ true → (first_of rest ≡ Some r → P r ≡ true) → cond b (Some row.1) (first_of rest) ≡ Some r → P r ≡ true
    go true p q e = let same : row.1 ≡ r = cc in rw (← same) p
    go false p q e = q e

-- a row with this refusal holds
abbrev pub holds_with : Refusal → Table → Bool
holds_with r [] = false
holds_with r (row ∷ rest) = (eqb (number_of row.1) (number_of r) && row.0) || holds_with r rest

-- where it is told, one does
pub first_holds : (r : Refusal) (t : Table) → first_of t ≡ Some r → holds_with r t ≡ true
unfolding first_of
first_holds r [] e = absurd (cc)
first_holds r (row ∷ rest) e = go row.0 (first_holds r rest) e
  where
    go : (b : Bool) → (first_of rest ≡ Some r → holds_with r rest ≡ true) → cond b (Some row.1) (first_of rest) ≡ Some r → (eqb (number_of row.1) (number_of r) && b) || holds_with r rest ≡ true
    go true h e = let same : row.1 ≡ r = cc in rw (same, eq-eqb (number_of r) (number_of r) refl)
    go false h e = rw (and-false) (h e)

-- a refusal's number is no answer's
pub number-positive : (r : Refusal) → 1 ≤ number_of r
number-positive Degree = omega arith
number-positive _ = omega arith

pub number-most : (r : Refusal) → number_of r ≤ 25
number-most Degree = omega arith
number-most _ = omega arith

-- an answer is told where no row holds, and a refusal where its row is the first that does
pub told-ok : {A : Type 0} (reason : Option Refusal) (answer value : A) → told reason (Ok answer) ≡ Ok value → (reason ≡ None) × (answer ≡ value)
told-ok None answer value e = (refl, cc)
told-ok (Some r) answer value e = absurd (cc)

pub told-err : {A : Type 0} (reason : Option Refusal) (answer : A) (r : Refusal) → told reason (Ok answer) ≡ Err r → reason ≡ Some r
told-err None answer r e = absurd (cc)
told-err (Some s) answer r e = cc
