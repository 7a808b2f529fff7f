-- Each call follows where it was due, and takes what is behind.
use Rattle.std.proofs.Common.{◌≤◌, ◌-◌, length, sym, ◌∙◌, arith, length-take}
use Rattle.transfer.specs.Transfer.{at-start, behind_call}
use Rattle.transfer.proofs.Bytes.{skips_none, skips_behind}
use Rattle.transfer.proofs.Calls.{kept, within, was_read, brought, at_most}
use Rattle.transfer.proofs.skip.Goals as goal

pub loop-room-init : goal.loop-room-init
loop-room-init g c = rw c.start-t.ensures (record { reached = at-start; bytes = skips_none _ })

pub after_call-t-requires-clause-not_often : goal.after_call-t-requires-clause-not_often
after_call-t-requires-clause-not_often g c = (within _ _ (sym c.is_due.ensures ∙ c.loop-room-test.true) (kept _ _ c.loop-room.invariant.reached)).not_often

pub loop-room-smaller : goal.loop-room-smaller
loop-room-smaller g c =
    let few : length c.read-answer.new.buf ≤ c.args.n - c.loop-room.t.done = omega (arith, c.read-answer.auto.buf, length-take c.min-room.result c.loop-room.buf, c.min-room.ensures) in
    (brought _ c.loop-room.t (sym c.is_due.ensures ∙ c.loop-room-test.true) _ (kept _ _ c.loop-room.invariant.reached) (was_read _ _ _ _ _ few c.read-answer.ensures.bound c.after_call-t.ensures)).1

pub loop-room-preserved : goal.loop-room-preserved
loop-room-preserved g c =
    let few : length c.read-answer.new.buf ≤ c.args.n - c.loop-room.t.done = omega (arith, c.read-answer.auto.buf, length-take c.min-room.result c.loop-room.buf, c.min-room.ensures) in
    record {
      reached = behind_call c.loop-room.invariant.reached (sym c.is_due.ensures ∙ c.loop-room-test.true) (was_read _ _ _ _ _ few c.read-answer.ensures.bound c.after_call-t.ensures);
      bytes = rw c.after_call-t.ensures (skips_behind _ _ _ c.loop-room.t _ _ c.loop-room.invariant.bytes c.read-answer.ensures.bound c.read-answer.ensures.bytes);
    }

pub returns-clause-within : goal.returns-clause-within
returns-clause-within g c = at_most _ _ (c.loop-room.invariant.reached, sym c.is_due.ensures ∙ c.loop-room-test.false)
