-- When a tally can grow, and when it cannot, in plain numbers. Assumes nothing.
use mathlib.Core.Path.{◌≡◌}
use mathlib.Core.Bool.{true, false, and-false, and-eq-true_iff}
use Prim.Native.Nat.{◌<◌, ◌≤◌}
use borrow.Author.Tests.{ltb-true, eqb-true, lt-ltb, le-ltb, eq-eqb, ne_eqb}
use Rattle.tally.specs.declared.Tally.{Tally}
use Rattle.tally.specs.Tally.{most_rays, sum_of, can_grow}

pub grows_means : (t : Tally) → can_grow t ≡ true → (t.rays < most_rays) × (t.rays ≡ sum_of t)
grows_means t h = let p = (and-eq-true_iff _ _).0 h in (ltb-true _ _ p.0, eqb-true _ _ p.1)

pub can_grow_lem : (t : Tally) → t.rays < most_rays → t.rays ≡ sum_of t → can_grow t ≡ true
can_grow_lem t l e = rw (lt-ltb t.rays most_rays l, eq-eqb t.rays (sum_of t) e)

pub stays_at_limit : (t : Tally) → most_rays ≤ t.rays → can_grow t ≡ false
stays_at_limit t l = rw (le-ltb t.rays most_rays l)

pub stays_off_sum : (t : Tally) → (t.rays ≡ sum_of t → ⊥) → can_grow t ≡ false
stays_off_sum t d = rw (ne_eqb t.rays (sum_of t) d, and-false)
