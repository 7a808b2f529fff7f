-- A NaN is at least nothing.
use Rattle.std.proofs.Common.{◌≡◌, refl, sym, ap, ◌∙◌, true, false}
use lib.Ieee.{Float, nan, inf, fin, lt, eq, le, is_nan}
use Rattle.float.specs.Basic.{abs_of}
use Rattle.float.proofs.Compare.{is_none}
use Rattle.pivot.specs.Pivot.{look_entry}
use Rattle.pivot.proofs.look.Goals as goal

under-nan : (b : Float) → le b (abs_of nan) ≡ false
unfolding le lt eq abs_of
under-nan nan = refl
under-nan (inf true) = refl
under-nan (inf false) = refl
under-nan (fin s m e) = refl

passed-by : (b x : Float) → is_nan x ≡ true → le b (abs_of x) ≡ false
passed-by b x h = ap (λ (y : Float). le b (abs_of y)) (is_none x (sym h)) ∙ under-nan b

pub returns-then-is_nan : goal.returns-then-is_nan
unfolding look_entry
returns-then-is_nan c = simp (passed-by c.args.best.big c.args.x (cc))

pub returns-then-big-best : goal.returns-then-big-best
unfolding look_entry
returns-then-big-best c = unfold le in simp (← c.abs-big.ensures, c.if-big-best.true)

pub returns : goal.returns
unfolding look_entry
returns c = simp (← c.abs-big.ensures, c.if-big-best.false)
