-- Each call follows where it was due, and takes what is behind.
use Rattle.std.proofs.Common.{◌≡◌, ℕ, ◌-◌, List, length, take, drop, true, false, sym, ◌∙◌, arith, length-take, length-drop}
use Rattle.std.proofs.KnownBytes.{Consumes-nil}
use Rattle.transfer.specs.Transfer.{is_due, at-start, behind_call}
use Rattle.transfer.proofs.Bytes.{consumes_behind, end_behind}
use Rattle.transfer.proofs.Calls.{kept, within, more, was_read, brought, at_most}
use Rattle.transfer.proofs.read.Goals as goal

-- of a slice of n elements the part behind d has n - d
part_length : (n d : ℕ) (xs ys : List ℕ) → length xs ≡ n → length ys ≡ length (take (length xs - d) (drop d xs)) → length ys ≡ n - d
part_length n d xs ys whole part = omega (arith, length-take (length xs - d) (drop d xs), length-drop d xs)

pub loop-input-init : goal.loop-input-init
loop-input-init g c = rw c.start-t.ensures (record { reached = at-start; bytes = Consumes-nil _; end = λ h. absurd (cc) })

pub after_call-t-requires-clause-not_often : goal.after_call-t-requires-clause-not_often
after_call-t-requires-clause-not_often g c =
    let due : is_due (length c.args.buf.now) c.loop-input.t ≡ true = rw c.loop-input.auto.buf at (sym c.is_due.ensures ∙ c.loop-input-test.true) in
    (within _ _ due (kept _ _ c.loop-input.invariant.reached)).not_often

pub loop-input-smaller : goal.loop-input-smaller
loop-input-smaller g c =
    let t = c.loop-input.t in
    let due : is_due (length c.args.buf.now) t ≡ true = rw c.loop-input.auto.buf at (sym c.is_due.ensures ∙ c.loop-input-test.true) in
    let here = was_read _ t _ _ _ (omega (arith, part_length _ t.done _ _ c.loop-input.auto.buf c.read-answer.auto.buf)) c.read-answer.ensures.bound c.after_call-t.ensures in
    (brought _ t due _ (kept _ _ c.loop-input.invariant.reached) here).1

pub loop-input-preserved : goal.loop-input-preserved
loop-input-preserved g c =
    let t = c.loop-input.t in
    let due : is_due (length c.args.buf.now) t ≡ true = rw c.loop-input.auto.buf at (sym c.is_due.ensures ∙ c.loop-input-test.true) in
    let part = part_length _ t.done _ _ c.loop-input.auto.buf c.read-answer.auto.buf in
    record {
      reached = behind_call c.loop-input.invariant.reached due (was_read _ t _ _ _ (omega (arith, part)) c.read-answer.ensures.bound c.after_call-t.ensures);
      bytes = rw c.after_call-t.ensures (consumes_behind _ _ _ t _ _ _ _ (omega (arith, more _ t due, c.loop-input.auto.buf)) c.read-answer.ensures.bound c.loop-input.invariant.bytes c.read-answer.ensures.bytes);
      end = rw c.after_call-t.ensures (end_behind _ _ t _ _ (omega (arith, more _ t due, part)) c.read-answer.ensures.bytes);
    }

pub returns-clause-within : goal.returns-clause-within
returns-clause-within g c =
    let undue : is_due (length c.args.buf.now) c.loop-input.t ≡ false = rw c.loop-input.auto.buf at (sym c.is_due.ensures ∙ c.loop-input-test.false) in
    rw c.loop-input.auto.buf (at_most _ _ (c.loop-input.invariant.reached, undue))
