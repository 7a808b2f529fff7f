-- Past the test no row of the table holds, which gives each bound that a call or a cast asks.
use Rattle.std.proofs.Common.{◌≡◌, ℕ, ◌*◌, ◌/◌, ◌^◌, ◌≤◌, List, length, None, Ok, sym, subst, rules, arith}
use native.Mathlib.Nat.{lt_of_lt_of_le}
use lib.Dec.{lit≤}
use lib.Ieee.{Float}
use Rattle.limits.specs.List.{over}
use Rattle.limits.specs.Refused.{first_of}
use Rattle.create.specs.Create.{segment_count, part_count, curve_count, create_refusals, created_floats, created_of, list_after}
use Rattle.create.specs.Shape.{degree_number, basis_number, params_in}
use Rattle.create.specs.declared.create.Params.{Params}
use Rattle.create.specs.declared.shape.Shape.{Shape}
use Rattle.create.proofs.Accepted.{Accepted, accepted}
use Rattle.create.proofs.Counts.{part-count-le, product_lt}
use Rattle.create.proofs.create.create_curve_shape.Goals as goal

module _ (l : List Float) (s : Shape) (p : Params) (room : ℕ) (h : (params_in s ≡ p) × (first_of (create_refusals l p room) ≡ None)) where
  none : first_of (create_refusals l (params_in s) room) ≡ None
  none = subst (λ (q : Params). first_of (create_refusals l q room) ≡ None) (sym h.0) h.1

  taken : Accepted l (params_in s) room
  taken = accepted l (params_in s) room none

answered : (l : List Float) (s : Shape) (p : Params) (list after : List Float) (n parts : ℕ) → (params_in s ≡ p) × (first_of (create_refusals l p (length list)) ≡ None)
    → n ≡ segment_count (length l / 3) (degree_number s.degree) (basis_number s.basis) → parts ≡ part_count s.splitdepth → after ≡ over list 0 (created_floats l (params_in s) n)
    → (Ok (n * parts) ≡ created_of l p (length list)) × (after ≡ list_after l p list)
unfolding created_of list_after curve_count
answered l s p list after n parts h a b f =
    subst (λ (q : Params). (Ok (n * parts) ≡ created_of l q (length list)) × (after ≡ list_after l q list)) h.0
    (let e = none l s p (length list) h in (rw (e, a, b), rw (e, f, a)))

pub returns-in_err-shape-clause-value : goal.returns-in_err-shape-clause-value
unfolding created_of
returns-in_err-shape-clause-value c = rw c.in_err-shape.ensures.refused (search rules)

pub returns-in_err-shape-clause-list_after : goal.returns-in_err-shape-clause-list_after
unfolding list_after
returns-in_err-shape-clause-list_after c = rw c.in_err-shape.ensures.refused

pub overflow_cast-n : goal.overflow_cast-n
overflow_cast-n c = omega (arith, c.segment_count-n.ensures, (taken _ c.in_ok-shape.shape _ _ c.in_ok-shape.ensures.accepted).few)

pub put_segments-requires-clause-points : goal.put_segments-requires-clause-points
put_segments-requires-clause-points c = rw c.segment_count-n.ensures (omega (arith, (taken _ c.in_ok-shape.shape _ _ c.in_ok-shape.ensures.accepted).points))

pub put_segments-requires-clause-room : goal.put_segments-requires-clause-room
put_segments-requires-clause-room c = rw c.segment_count-n.ensures (taken _ c.in_ok-shape.shape _ _ c.in_ok-shape.ensures.accepted).list

pub overflow_cast-result : goal.overflow_cast-result
overflow_cast-result c = omega (arith, c.segment_count-n.ensures, (taken _ c.in_ok-shape.shape _ _ c.in_ok-shape.ensures.accepted).few)

pub overflow_mul-result : goal.overflow_mul-result
overflow_mul-result c =
    let a = taken _ c.in_ok-shape.shape _ _ c.in_ok-shape.ensures.accepted in
    record {
      fits = lt_of_lt_of_le (product_lt (subst (λ (x : ℕ). x ≤ 256) (sym c.segment_count-n.ensures) a.few) (subst (λ (x : ℕ). x ≤ 2 ^ 10) (sym c.part_count.ensures) (part-count-le _ a.split))) (lit≤ tt);
    }

pub returns-clause-value : goal.returns-clause-value
returns-clause-value c = (answered _ c.in_ok-shape.shape _ _ _ _ _ c.in_ok-shape.ensures.accepted c.segment_count-n.ensures c.part_count.ensures c.put_segments.ensures).0

pub returns-clause-list_after : goal.returns-clause-list_after
returns-clause-list_after c = (answered _ c.in_ok-shape.shape _ _ _ _ _ c.in_ok-shape.ensures.accepted c.segment_count-n.ensures c.part_count.ensures c.put_segments.ensures).1
