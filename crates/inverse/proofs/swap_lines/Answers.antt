use Rattle.std.proofs.Common.{◌≡◌, ◌∙◌, sym, not, eqb, arith, rules}
use Rattle.inverse.proofs.Lines.{same_lines, all_exchanged}
use Rattle.inverse.proofs.swap_lines.Goals as goal

pub returns-then-eq : goal.returns-then-eq
returns-then-eq g c = same_lines (not (eqb g.row.ARE_ROWS 0)) _ _ _ (search rules)

pub returns : goal.returns
returns g c =
    let end : c.loop-k.k ≡ 4 = omega arith in
    all_exchanged (not (eqb g.row.ARE_ROWS 0)) _ _ _ _ _ c.loop-k.invariant end (sym c.eq.ensures ∙ c.if-eq.false)
