use Rattle.std.proofs.Common.{◌≡◌, ◌-◌, ◌<◌, ◌∙◌, ap, length, slice_set, arith}
use mathlib.Core.Path.{ap₂}
use Rattle.curve_set.specs.Layout.{count_of, floats_without, words_without}
use Rattle.curve_set.specs.Lent.{lent, holding}
use Rattle.curve_set.proofs.Edit.{set-count}
use Rattle.curve_set.proofs.edits.SetMut.take_row.Goals as goal

pub returns : goal.returns
unfolding floats_without words_without
returns c =
    let s = c.args.self.now in
    let n : c.count-n.result ≡ count_of s.words.now = c.count-n.ensures.value ∙ ap count_of c.view.ensures.words in
    let floats : c.move_down.new.list ≡ floats_without s.floats.now c.args.p (count_of s.words.now) = rw (c.move_down.ensures, n) in
    let moved : 0 < length c.move_down-2.new.list = omega arith in
    let words : slice_set c.move_down-2.new.list 0 (c.count-n.result - 1) ≡ words_without s.words.now c.args.p (count_of s.words.now) = set-count c.move_down-2.new.list (c.count-n.result - 1) moved ∙ rw (c.move_down-2.ensures, n) in
    ap₂ (λ f w. holding s (lent f w)) floats words
