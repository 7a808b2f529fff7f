use Rattle.std.proofs.Common.{◌≡◌, ℕ, ◌≤◌, true, false, List, length, Some, refl, sym, ◌∙◌, rules}
use borrow.Author.Tests.{le-ltb}
use lib.Dec.{ltb}
use lib.Ieee.{Float}
use Rattle.limits.specs.declared.refusal.Refusal.{Refusal}
use Rattle.limits.specs.Refused.{first_of}
use Rattle.limits.proofs.Told.{told-err}
use Rattle.create.specs.Create.{count_wrong, neighbours_differ, limit_refusals, create_refusals, params_of}
use Rattle.create.specs.Shape.{degree_number, basis_number, is_degree}
use Rattle.create.specs.declared.create.Params.{Params}
use Rattle.create.specs.declared.shape.Degree.{Degree}
use Rattle.create.specs.declared.shape.Degree.TheVariants.{Quadratic, Cubic}
use Rattle.create.specs.declared.shape.Basis.{Basis}
use Rattle.create.specs.declared.shape.Basis.TheVariants.{Bezier, BSpline}
use Rattle.create.proofs.refusal.check.Goals as goal

is_degree-number : (d : Degree) → is_degree (degree_number d) ≡ true
is_degree-number Quadratic = refl
is_degree-number Cubic = refl

basis-known : (b : Basis) → ltb 1 (basis_number b) ≡ false
basis-known Bezier = refl
basis-known BSpline = refl

-- where no row before them holds, the table's answer is that of the limits
last : (l : List Float) (d : Degree) (b : Basis) (p : Params) (room : ℕ) (r : Refusal) → p.degree ≡ degree_number d → p.basis ≡ basis_number b → p.ty ≡ 0 → p.splitdepth ≤ 10
    → count_wrong (length l) (degree_number d) (basis_number b) ≡ false → neighbours_differ l ≡ true
    → first_of (limit_refusals l (params_of (degree_number d) (basis_number b) 0 p.width0 p.width1 p.splitdepth) room) ≡ Some r → first_of (create_refusals l p room) ≡ Some r
unfolding create_refusals first_of
last l d b p room r e f g s count differ h =
    rw (e, is_degree-number d, f, basis-known b, count, differ, g, le-ltb 10 p.splitdepth s) h

pub returns-in_err-check_limits-clause-refused : goal.returns-in_err-check_limits-clause-refused
returns-in_err-check_limits-clause-refused c =
    let limits = told-err _ tt c.in_err-check_limits.field-0.0 (sym c.check_limits.ensures ∙ c.in_err-check_limits.was) in
    let told = last c.args.points.now c.in_ok-degree.degree c.in_ok-basis.basis c.args.p c.args.room _ c.in_ok-degree.ensures c.in_ok-basis.ensures c.if-p-ne0.false c.if-p-gt-MOST_SPLITDEPTH.false (sym c.is_count_wrong.ensures ∙ c.if-is_count_wrong.false) (sym c.neighbours_differ.ensures ∙ c.if-not-neighbours_differ.false) limits in
    search rules
