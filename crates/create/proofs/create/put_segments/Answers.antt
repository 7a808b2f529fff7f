use Rattle.std.proofs.Common.{◌≡◌, ℕ, ◌+◌, ◌*◌, List, length, sym, ap, ◌∙◌, arith}
use native.Mathlib.Nat.{le_antisymm, zero-add, mul_comm}
use lib.Ieee.{Float}
use Rattle.limits.specs.List.{over, up_to}
use Rattle.limits.proofs.Lists.{over_nil, over_next}
use Rattle.curve.specs.Layout.{floats}
use Rattle.create.specs.Create.{ratio, part_count, part_floats, end_width, segment_floats, created_floats}
use Rattle.create.specs.Shape.{params_in}
use Rattle.create.proofs.Counts.{within-list}
use Rattle.create.proofs.Lengths.{length-segment}
use Rattle.create.proofs.create.put_segments.Goals as goal

pub loop-seg-init : goal.loop-seg-init
unfolding up_to
loop-seg-init c = (sym (over_nil c.args.list.now 0), c.float_of-from.ensures)

pub loop-seg-preserved : goal.loop-seg-preserved
unfolding segment_floats end_width ratio
loop-seg-preserved c =
    let d = c.args.list.now in
    let p = params_in c.args.shape in
    let n = c.args.n in
    let f = segment_floats c.args.points.now p n in
    let k = part_count p.splitdepth * floats in
    let seg = c.loop-seg.seg in
    let s = c.segment_of.result in
    let next = c.float_of-to.ensures in
    let place : seg * (16 * c.part_count.result) ≡ 0 + seg * k = ap (λ (x : ℕ). seg * (16 * x)) c.part_count.ensures ∙ ap (λ (x : ℕ). seg * x) (mul_comm 16 (part_count p.splitdepth)) ∙ sym (zero-add (seg * k)) in
    let here : part_floats s.cp s.width0 s.width1 s.parts ≡ f seg = rw (c.segment_of.ensures, c.end_width-width0.ensures, c.end_width-width1.ensures, c.loop-seg.invariant.1, next, c.float_of-count.ensures) in (
      c.create_curve.ensures
          ∙ ap (λ (x : List Float). over x (seg * (16 * c.part_count.result)) (part_floats s.cp s.width0 s.width1 s.parts)) c.loop-seg.invariant.0
          ∙ ap (λ (x : List Float). over (over d 0 (up_to f seg)) (seg * (16 * c.part_count.result)) x) here
          ∙ ap (λ (x : ℕ). over (over d 0 (up_to f seg)) x (f seg)) place
          ∙ over_next d 0 f k seg (λ j. length-segment c.args.points.now p n j) (omega (arith, within-list seg n (part_count p.splitdepth) (length d) c.loop-seg-test.true c.requires.room)),
      next,
    )

pub returns : goal.returns
unfolding created_floats
returns c = c.loop-seg.invariant.0 ∙ ap (λ (x : ℕ). over c.args.list.now 0 (up_to (segment_floats c.args.points.now (params_in c.args.shape) c.args.n) x)) (le_antisymm c.loop-seg.auto.seg-end c.loop-seg-test.false)
