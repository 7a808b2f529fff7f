use Rattle.std.proofs.Common.{◌≡◌, ℕ, ◌+◌, ◌*◌, List, sym, ap, ◌∙◌, arith}
use native.Mathlib.Nat.{le_antisymm}
use lib.Ieee.{Float}
use Rattle.limits.specs.List.{over, up_to}
use Rattle.limits.proofs.Lists.{over_nil, over_next}
use Rattle.curve.specs.declared.curve.Curve.{Curve}
use Rattle.curve.specs.Layout.{floats, curve_floats}
use Rattle.curve.proofs.Records.{length-floats}
use Rattle.create.specs.Create.{ratio, part_of, part_floats}
use Rattle.create.specs.declared.create.Segment.{Segment}
use Rattle.create.proofs.create.create_curve.Goals as goal

abbrev written : Segment → ℕ → List Float
written s i = curve_floats (part_of s.cp s.width0 s.width1 s.parts i)

pub loop-i-init : goal.loop-i-init
unfolding up_to
loop-i-init c = (sym (over_nil c.args.list.now c.args.at), c.float_of-from.ensures)

pub loop-i-preserved : goal.loop-i-preserved
unfolding part_of ratio
loop-i-preserved c =
    let d = c.args.list.now in
    let at = c.args.at in
    let i = c.loop-i.i in
    let s = c.args.s in
    let f = written s in
    let next = c.float_of-to.ensures in
    let here : c.part.result ≡ part_of s.cp s.width0 s.width1 s.parts i = rw (c.part.ensures, c.quotient-umin.ensures, c.quotient-umax.ensures, c.loop-i.invariant.1, next, c.float_of-n.ensures) in (
      c.put_curve.ensures
          ∙ ap (λ (x : List Float). over x (at + i * floats) (curve_floats c.part.result)) c.loop-i.invariant.0
          ∙ ap (λ (x : Curve). over (over d at (up_to f i)) (at + i * floats) (curve_floats x)) here
          ∙ over_next d at f floats i (λ j. length-floats _) (omega arith),
      next,
    )

pub returns : goal.returns
unfolding part_floats
returns c = c.loop-i.invariant.0 ∙ ap (λ (x : ℕ). over c.args.list.now c.args.at (up_to (written c.args.s) x)) (le_antisymm c.loop-i.auto.i-end c.loop-i-test.false)
