use Rattle.std.proofs.Common.{◌≡◌, ◌<◌, ◌≤◌, ◌∙◌, get_or, arith}
use Rattle.curve_set.specs.Layout.{count_of}
use Rattle.curve_set.proofs.Read.{nearest_none, nearest-shown, nearest_out}
use Rattle.curve_set.proofs.view.Set.nearest.Goals as goal

pub returns-in_err-p : goal.returns-in_err-p
returns-in_err-p c =
    let w = c.args.self.now.words.now in
    let none : get_or w 1 0 ≡ 0 = omega (arith, c.in_err-p.ensures) in
    rw c.from_residual.ensures (nearest_none c.args.self.now.floats.now w none)

pub returns-then-p-count : goal.returns-then-p-count
returns-then-p-count c =
    let w = c.args.self.now.words.now in
    let there : c.in_ok-p.p < count_of w = omega arith in
    c.shown.ensures ∙ nearest-shown c.args.self.now.floats.now w c.in_ok-p.p c.in_ok-p.ensures.0 c.in_ok-p.ensures.1 there

pub returns-else-p-count : goal.returns-else-p-count
returns-else-p-count c =
    let w = c.args.self.now.words.now in
    let out : count_of w ≤ c.in_ok-p.p = omega arith in
    nearest_out c.args.self.now.floats.now w c.in_ok-p.p c.in_ok-p.ensures.0 c.in_ok-p.ensures.1 out
