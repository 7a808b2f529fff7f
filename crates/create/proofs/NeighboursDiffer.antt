-- What refusal 22 says: `differ_at`, `equal_found`, `created_differ`, `equal_refused`, `refused_equal`. Assumes nothing.
use mathlib.Core.Path.{◌≡◌, refl, ap}
use mathlib.Core.Bool.{Bool, true, false, not, ◌||◌, false≢true}
use mathlib.Core.List.{List}
use Prim.Native.Nat.{ℕ, ◌+◌, ◌-◌, ◌/◌, ◌≤◌, ◌<◌}
use native.Mathlib.Omega.{arith}
use borrow.Author.Tests.{not-true, not-false, le-ltb}
use lib.Ieee.{Float}
use lib.ListN.{length}
use Rattle.limits.specs.Below.{all_below}
use Rattle.std.specs.Prelude.{Ok, Err}
use Rattle.limits.specs.Refused.{first_of}
use Rattle.limits.specs.declared.refusal.Refusal.TheVariants.{EqualNeighbours}
use Rattle.limits.proofs.Below.{all-at, all_fails, all_found}
use Rattle.limits.proofs.Told.{holds_with, first_holds, told-ok, told-err}
use Rattle.create.specs.Create.{count_wrong, curve_count, equals_next, neighbours_differ, limit_refusals, create_refusals, created_of, list_after}
use Rattle.create.specs.declared.create.Params.{Params}
use Rattle.create.proofs.Accepted.{accepted}
use Rattle.create.proofs.Counts.{degree_right}

module _ (l : List Float) (i : ℕ) (before_last : i + 1 < length l / 3) where
  -- where it passes, no point but the last equals the next one
  pub differ_at : neighbours_differ l ≡ true → equals_next l i ≡ false
  unfolding neighbours_differ
  differ_at h = not-true _ (all-at _ (λ j. not (equals_next l j)) h i (omega arith))

  -- and where one does, it fails
  pub equal_found : equals_next l i ≡ true → neighbours_differ l ≡ false
  unfolding neighbours_differ
  equal_found e = all_fails _ (λ j. not (equals_next l j)) i (omega arith) (ap not e)

  -- so of a curve that was laid no point equals the next one
  pub created_differ : (p : Params) (room n : ℕ) → created_of l p room ≡ Ok n → equals_next l i ≡ false
  unfolding created_of
  created_differ p room n a = differ_at (accepted l p room (told-ok (first_of (create_refusals l p room)) _ n a).0).apart

  -- and where 1, 2 and 3 do not hold, such a point is refused by 22 whatever else holds, and the list is left as it was
  pub equal_refused : (p : Params) (list : List Float) → 2 ≤ p.degree → p.degree ≤ 3 → p.basis ≤ 1 → count_wrong (length l) p.degree p.basis ≡ false → equals_next l i ≡ true
      → (created_of l p (length list) ≡ Err EqualNeighbours) × (list_after l p list ≡ list)
  unfolding first_of create_refusals created_of list_after
  equal_refused p list low high basis count e =
      let d = degree_right p.degree low high in
      let b = le-ltb 1 p.basis basis in
      (rw (d, b, count, equal_found e), rw (d, b, count, equal_found e))

-- And what is refused by 22 has such a point
pub refused_equal : (l : List Float) (p : Params) (room : ℕ) → created_of l p room ≡ Err EqualNeighbours → (i : ℕ) × (i + 1 < length l / 3) × (equals_next l i ≡ true)
refused_equal l p room a = let z = all_found _ (λ j. not (equals_next l j)) fails in (z.0, omega (arith, z.1), not-false _ z.2)
  where
    holds : holds_with EqualNeighbours (create_refusals l p room) ≡ true
    holds = first_holds EqualNeighbours (create_refusals l p room) (told-err _ (curve_count (length l / 3) p) EqualNeighbours (unfold created_of in a))

    only : (b : Bool) → not b || false ≡ true → b ≡ false
    only true e = absurd (false≢true e)
    only false e = refl

    fails : all_below (length l / 3 - 1) (λ j. not (equals_next l j)) ≡ false
    fails = unfold neighbours_differ in only _ (unfold create_refusals limit_refusals in holds)
