use Rattle.std.proofs.Common.{◌≡◌, ◌≤◌, length, arith}
use mathlib.Core.Path.{ap₂}
use Rattle.curve_set.specs.Layout.{head_floats, floats_opened, words_opened}
use Rattle.curve_set.specs.Lent.{lent, holding}
use Rattle.curve_set.proofs.Edit.{head_put, flag_word}
use Rattle.curve_set.proofs.edits.SetMut.put_head.Goals as goal

pub returns : goal.returns
unfolding floats_opened words_opened
returns c =
    let s = c.args.self.now in
    let h = c.args.head in
    let room : head_floats ≤ length s.floats.now = omega arith in
    let floats : c.copy-3.new.list ≡ floats_opened s.floats.now h = rw (c.copy-3.ensures, c.copy-2.ensures, c.copy.ensures, c.into-object_to_world.ensures, c.into-world_to_object.ensures, c.into-ray.ensures) (head_put s.floats.now _ _ _ room) in
    let words : c.copy-4.new.list ≡ words_opened s.words.now h = rw (c.copy-4.ensures, c.from.ensures, flag_word h.reverse) in
    ap₂ (λ f w. holding s (lent f w)) floats words
