use Rattle.std.proofs.Common.{arith}
use Rattle.inverse.proofs.Turns.{few, at_one, at_more, back_more, back_none, back_all}
use Rattle.inverse.proofs.invert.Goals as goal

pub loop-k-init : goal.loop-k-init
loop-k-init c = at_one _ _ _ _ _ c.none.ensures c.turn-first.ensures.pivot c.turn-first.ensures.left c.after-ipiv.ensures

pub take-requires : goal.take-requires
take-requires c =
    let i = c.loop-k.invariant.1 in
    let most = (few c.args.v.now c.loop-k.k).each c.turn-p.result.col in
    rw i (omega (arith, most))

pub loop-k-preserved : goal.loop-k-preserved
loop-k-preserved c =
    at_more c.args.v.now _ _ _ _ _ _ c.loop-k.k c.loop-k.invariant c.turn-p.ensures.pivot c.turn-p.ensures.left c.take.ensures

pub loop-p-init : goal.loop-p-init
loop-p-init c =
    let i = c.loop-k.invariant in
    let all = back_all c.args.v.now c.loop-k.v c.loop-k.pivots c.loop-k.k i.0 i.2 (omega arith) in
    cc (all, c.iter.ensures.rest, c.rev-p-items.ensures.source, c.into_iter-p-iterator.ensures.into_iter_gives)

pub loop-p-preserved : goal.loop-p-preserved
loop-p-preserved c =
    cc (back_more c.loop-p.v c.next.new.self.iter.rest.now c.in-Some.p.now, c.loop-p.invariant, c.in-Some.ensures.steps, c.swap_lines.ensures)

pub returns : goal.returns
returns c = cc (back_none c.loop-p.v c.loop-p.p-iterator.iter.rest.now c.in-None.ensures.steps.0, c.loop-p.invariant)
