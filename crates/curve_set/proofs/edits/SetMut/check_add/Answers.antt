use Rattle.std.proofs.Common.{◌≡◌, ◌≤◌, ◌<◌, ◌∙◌, ap, sym, true, false, is_some, position, arith, rules}
use Rattle.curve.specs.Curve.{is_curve}
use Rattle.curve_set.specs.Kept.{named}
use Rattle.curve_set.specs.Layout.{size, count_of, set_of}
use Rattle.curve_set.specs.Lent.{lent_of}
use Rattle.curve_set.proofs.Told.{early_bad, early_there, early_full, early_none}
use Rattle.curve_set.proofs.edits.SetMut.check_add.Goals as goal

pub returns-then-not-is_curve : goal.returns-then-not-is_curve
returns-then-not-is_curve c =
    let bad : is_curve c.args.curve.now ≡ false = search rules in
    early_bad c.args.number c.args.curve.now (lent_of c.args.self.now) bad

pub returns-then-is_some : goal.returns-then-is_some
returns-then-is_some c =
    let good : is_curve c.args.curve.now ≡ true = search rules in
    let there : is_some (position (named c.args.number) (set_of c.args.self.now.floats.now c.args.self.now.words.now)) ≡ true = rw (← c.view.ensures.floats, ← c.view.ensures.words, ← c.position.ensures) (sym c.is_some.ensures ∙ c.if-is_some.true) in
    early_there c.args.number c.args.curve.now (lent_of c.args.self.now) good there

pub returns-then-count-ge-CURVES : goal.returns-then-count-ge-CURVES
returns-then-count-ge-CURVES c =
    let good : is_curve c.args.curve.now ≡ true = search rules in
    let new : is_some (position (named c.args.number) (set_of c.args.self.now.floats.now c.args.self.now.words.now)) ≡ false = rw (← c.view.ensures.floats, ← c.view.ensures.words, ← c.position.ensures) (sym c.is_some.ensures ∙ c.if-is_some.false) in
    let n = c.count.ensures.value ∙ ap count_of c.view-2.ensures.words in
    let full : size ≤ count_of c.args.self.now.words.now = omega (arith, n) in
    early_full c.args.number c.args.curve.now (lent_of c.args.self.now) good new full

pub returns : goal.returns
returns c =
    let good : is_curve c.args.curve.now ≡ true = search rules in
    let new : is_some (position (named c.args.number) (set_of c.args.self.now.floats.now c.args.self.now.words.now)) ≡ false = rw (← c.view.ensures.floats, ← c.view.ensures.words, ← c.position.ensures) (sym c.is_some.ensures ∙ c.if-is_some.false) in
    let n = c.count.ensures.value ∙ ap count_of c.view-2.ensures.words in
    let room : count_of c.args.self.now.words.now < size = omega (arith, n) in
    early_none c.args.number c.args.curve.now (lent_of c.args.self.now) good new room
