-- The curves of an accepted sheet are at most 1,024, and a refusal's number is at most 22. Assumes nothing.
use mathlib.Core.Bool.{Bool, true, false, cond, ◌||◌}
use mathlib.Core.List.{List}
use mathlib.Core.Path.{◌≡◌, refl, subst}
use Prim.Native.Nat.{ℕ, ◌/◌, ◌≤◌}
use native.Mathlib.Omega.{arith}
use borrow.Author.Tests.{leb-true, ltb-false}
use lib.Dec.{leb, ltb, lit≤}
use lib.Ieee.{Float}
use lib.ListN.{length}
use Rattle.limits.specs.List.{over}
use Rattle.limits.specs.Refused.{number_of, first_of, told}
use Rattle.limits.specs.declared.refusal.Refusal.{Refusal}
use Rattle.limits.proofs.Told.{passed, first_passes}
use Rattle.create.specs.Create.{most_points, most_curves, curve_count, limit_refusals, create_refusals, created_of}
use Rattle.create.specs.declared.create.Params.{Params}
use Rattle.grammar.specs.Grammar.{most_bytes}
use Rattle.grammar.specs.Head.{head_of}
use Rattle.std.specs.Prelude.{Option, Some, None, Result, Ok, Err}
use Rattle.grammar.specs.declared.head.Head.{Head}
use Rattle.grammar.specs.declared.head.WrongLine.{WrongLine}
use Rattle.sheet.specs.Sheet.{last_number, ray_count, is_whole, points_of, rays_of, no_rays, params_in, with_curves, sheet_behind, sheet_within, sheet_of}
use Rattle.sheet.specs.declared.SheetRefusal.{SheetRefusal}
use Rattle.sheet.specs.declared.Sheet.{Sheet}

-- ---- of create_curve_shape

abbrev CreatedBounded : Result ℕ Refusal → Type 0
CreatedBounded (Ok pieces) = pieces ≤ most_curves
CreatedBounded (Err reason) = number_of reason ≤ last_number

module _ (l : List Float) (p : Params) (room : ℕ) where
  told-most : (reason : Refusal) → first_of (create_refusals l p room) ≡ Some reason → number_of reason ≤ last_number
  told-most reason e = leb-true _ _ (first_passes (λ r. leb (number_of r) last_number) (create_refusals l p room) (unfold create_refusals limit_refusals in refl) reason e)

  either_false : (a b : Bool) → a || b ≡ false → b ≡ false
  either_false true b e = absurd (let z : ◌≡◌ {A = ℕ} 0 1 = cc in omega arith)
  either_false false b e = e

  made_most : first_of (create_refusals l p room) ≡ None → curve_count (length l / 3) p ≤ most_curves
  unfolding create_refusals limit_refusals
  made_most e =
      let r = (passed _ _ _ (passed _ _ _ (passed _ _ _ (passed _ _ _ (passed _ _ _ (passed _ _ _ e).1).1).1).1).1).1 in
      ltb-false _ _ (either_false (ltb most_points (length l / 3)) _ (passed _ _ _ r).0)

  created_bounded : CreatedBounded (created_of l p room)
  unfolding created_of
  created_bounded = go (first_of (create_refusals l p room)) refl
    where
      go : (x : Option Refusal) → first_of (create_refusals l p room) ≡ x → CreatedBounded (told x (Ok (curve_count (length l / 3) p)))
      go None e = made_most e
      go (Some reason) e = told-most reason e

-- ---- of a sheet

abbrev Bounded : Result Sheet SheetRefusal → Type 0
Bounded (Ok sheet) = sheet.pieces ≤ most_curves
Bounded (Err e) = number_of e.refusal ≤ last_number

bounded_either : (b : Bool) (x y : Result Sheet SheetRefusal) → Bounded x → Bounded y → Bounded (cond b x y)
bounded_either true x y p q = p
bounded_either false x y p q = q

bounded_made : (h : Head) (n : ℕ) (rays : List Float) (made : Result ℕ Refusal) → CreatedBounded made → Bounded (with_curves h n rays made)
bounded_made h n rays (Ok pieces) few = few
bounded_made h n rays (Err reason) few = few

bounded : (l : List ℕ) (room : ℕ) → Bounded (sheet_of l room)
unfolding sheet_of sheet_within
bounded l room = bounded_either (ltb most_bytes (length l)) _ _ (lit≤ tt) (behind (head_of l))
  where
    behind : (head : Result Head WrongLine) → Bounded (sheet_behind l room head)
    behind (Ok h) =
        bounded_either (is_whole l (Ok h)) _ _
        (bounded_made h (ray_count l (Ok h)) (over no_rays 0 (rays_of l (Ok h))) (created_of (points_of l (Ok h)) (params_in h) room) (created_bounded (points_of l (Ok h)) (params_in h) room)) (lit≤ tt)
    behind (Err w) = lit≤ tt

-- THE LAWS
pub curves_most : (l : List ℕ) (room : ℕ) (sheet : Sheet) → sheet_of l room ≡ Ok sheet → sheet.pieces ≤ most_curves
curves_most l room sheet e = subst Bounded e (bounded l room)

pub number-most : (l : List ℕ) (room : ℕ) (refused : SheetRefusal) → sheet_of l room ≡ Err refused → number_of refused.refusal ≤ last_number
number-most l room refused e = subst Bounded e (bounded l room)
