-- One more digit, or none, and all eight.
use Rattle.std.proofs.Common.{◌≡◌, sym, ap, ◌∙◌, arith}
use Rattle.text.proofs.Words.{word_in, word_whole, word_stops, word_fits}
use Rattle.text.proofs.read.word_at.Goals as goal

pub overflow_mul-word : goal.overflow_mul-word
overflow_mul-word c = omega (arith, word_fits c.loop-i.word c.loop-i.i 0 c.loop-i.invariant.small c.loop-i-test.true (omega arith))

pub overflow_add-word : goal.overflow_add-word
overflow_add-word c = omega (arith, word_fits c.loop-i.word c.loop-i.i _ c.loop-i.invariant.small c.loop-i-test.true c.in_ok-word.ensures.small)

pub returns-in_err-word-clause-value : goal.returns-in_err-word-clause-value
returns-in_err-word-clause-value c =
    let whole = word_whole c.args.s.now c.args.at in
    let none = word_stops c.args.s.now c.args.at c.loop-i.i 8 (sym c.digit_at.ensures.value ∙ c.in_err-word.was) c.loop-i-test.true in
    cc

pub returns-clause-value : goal.returns-clause-value
returns-clause-value c =
    let full : c.loop-i.i ≡ 8 = omega arith in
    sym c.loop-i.invariant.value ∙ ap (word_in c.args.s.now c.args.at) full ∙ word_whole _ _
