-- Each call follows where it was due, and hands over what is behind.
use Rattle.std.proofs.Common.{ℕ, ◌-◌, ◌≤◌, List, length, take, drop, sym, ◌∙◌, arith, length-take, length-drop}
use Rattle.std.proofs.lemmas.List.{take_all}
use Rattle.std.proofs.KnownBytes.{Appends-nil}
use Rattle.transfer.specs.Transfer.{at-start, behind_call}
use Rattle.transfer.proofs.Bytes.{appends_behind}
use Rattle.transfer.proofs.Calls.{kept, within, written, brought, at_most}
use Rattle.transfer.proofs.write.Goals as goal

taken_length : (n : ℕ) (xs : List ℕ) → length (take n xs) ≤ n
taken_length n xs = omega (arith, length-take n xs)

pub loop-out-init : goal.loop-out-init
loop-out-init g c = rw c.start-t.ensures (record { reached = at-start; bytes = Appends-nil _ })

pub after_call-t-requires-clause-not_often : goal.after_call-t-requires-clause-not_often
after_call-t-requires-clause-not_often g c = (within _ _ (sym c.is_due.ensures ∙ c.loop-out-test.true) (kept _ _ c.loop-out.invariant.reached)).not_often

pub loop-out-smaller : goal.loop-out-smaller
loop-out-smaller g c =
    let t = c.loop-out.t in
    let here = written _ t _ _ _ (taken_length _ _) c.write-answer.ensures.bound c.after_call-t.ensures in
    (brought _ t (sym c.is_due.ensures ∙ c.loop-out-test.true) _ (kept _ _ c.loop-out.invariant.reached) here).1

pub loop-out-preserved : goal.loop-out-preserved
loop-out-preserved g c =
    let t = c.loop-out.t in
    let here = written _ t _ _ _ (taken_length _ _) c.write-answer.ensures.bound c.after_call-t.ensures in
    let all = take_all (length c.args.buf.now - t.done) (drop t.done c.args.buf.now) (omega (arith, length-drop t.done c.args.buf.now)) in
    record {
      reached = behind_call c.loop-out.invariant.reached (sym c.is_due.ensures ∙ c.loop-out-test.true) here;
      bytes = rw c.after_call-t.ensures (appends_behind _ _ _ t _ _ _ all c.loop-out.invariant.bytes c.write-answer.ensures.bytes);
    }

pub returns-clause-within : goal.returns-clause-within
returns-clause-within g c = at_most _ _ (c.loop-out.invariant.reached, sym c.is_due.ensures ∙ c.loop-out-test.false)
