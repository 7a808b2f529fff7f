use Rattle.std.proofs.Common.{◌≡◌, ◌+◌, ◌*◌, ◌≤◌, ◌<◌, ◌∙◌, ap, length, slice_set, replicate, arith}
use mathlib.Core.Path.{ap₂}
use Rattle.float.specs.Arith.{0f}
use Rattle.curve_set.specs.Layout.{count_of, counted, kind_of, answer_floats, floats_put, words_put}
use Rattle.curve_set.specs.Lent.{lent, holding}
use Rattle.curve_set.proofs.Edit.{row_put_lem, kind_word, set-count}
use Rattle.curve_set.proofs.edits.SetMut.put_row.Goals as goal

pub returns : goal.returns
unfolding floats_put words_put
returns c =
    let s = c.args.self.now in
    let n : c.count-n.result ≡ count_of s.words.now = c.count-n.ensures.value ∙ ap count_of c.view.ensures.words in
    let at = 40 + count_of s.words.now * 41 in
    let room : at + 19 ≤ length s.floats.now = omega arith in
    let floats : c.copy-3.new.list ≡ floats_put s.floats.now (count_of s.words.now) c.args.curve.now (answer_floats c.args.hit) =
    rw (c.copy-3.ensures, c.copy-2.ensures, c.copy.ensures, c.floats_of.ensures, n) (row_put_lem s.floats.now c.args.curve.now (replicate 3 0f) _ at c.requires.whole (omega arith) room) in
    let long : 0 < length c.copy-4.new.list = omega arith in
    let words : slice_set c.copy-4.new.list 0 (c.count-n.result + 1) ≡ counted (words_put s.words.now (count_of s.words.now) c.args.number (kind_of c.args.hit)) (count_of s.words.now + 1) =
    set-count c.copy-4.new.list (c.count-n.result + 1) long ∙ rw (c.copy-4.ensures, c.from.ensures, c.is_some.ensures, kind_word c.args.hit, n) in
    ap₂ (λ f w. holding s (lent f w)) floats words
