use Rattle.std.proofs.Common.{◌≡◌, ℕ, ◌+◌, List, length, get_or, sym, ap, ◌∙◌, add-one, arith}
use lib.Ieee.{Float, nan}
use lib.ListN.{set}
use lib.Seq.{paste, paste-suc}
use Rattle.limits.specs.List.{over}
use Rattle.limits.proofs.Lists.{paste_over}
use Rattle.curve.specs.declared.curve.Curve.{Curve}
use Rattle.curve.specs.Layout.{floats, curve_floats}
use Rattle.curve.proofs.Records.{length-floats}
use Rattle.create.proofs.create.put_curve.Goals as goal

long : (curve : Curve) (l : List Float) → l ≡ curve_floats curve → length l ≡ floats
long curve l e = ap length e ∙ length-floats curve

pub loop-i-preserved : goal.loop-i-preserved
loop-i-preserved c =
    let d = c.args.list.now in
    let at = c.args.at in
    let l = c.from-values.result in
    let i = c.loop-i.i in
    let size = long c.args.curve l c.from-values.ensures in
    ap (λ (x : List Float). set x (at + i) (get_or l i nan)) c.loop-i.invariant ∙ paste-suc d at l i nan (omega arith) (omega arith) ∙ ap (λ (k : ℕ). paste d at l k) (sym (add-one i))

pub returns : goal.returns
returns c =
    let d = c.args.list.now in
    let at = c.args.at in
    let l = c.from-values.result in
    let size = long c.args.curve l c.from-values.ensures in
    let all : c.loop-i.i ≡ length l = omega arith in
    c.loop-i.invariant ∙ ap (λ (k : ℕ). paste d at l k) all ∙ paste_over d at l ∙ ap (λ (x : List Float). over d at x) c.from-values.ensures
