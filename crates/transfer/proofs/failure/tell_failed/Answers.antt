-- Why stands behind the text, whether that is whole or not.
use Rattle.std.proofs.Common.{[], ◌∷◌}
use Rattle.std.specs.Prelude.{codes}
use Rattle.transfer.proofs.Told.{says_then, says_behind}
use Rattle.transfer.proofs.failure.tell_failed.Goals as goal

pub returns : goal.returns
returns g c =
    let text = c.args.what.now ∷ codes ", a " ∷ c.args.call.now ∷ codes " failed" ∷ [] in
    let rest = codes ": " ∷ c.args.why.now ∷ codes "\n" ∷ [] in
    says_then text rest _ _ _ c.write_text.ensures (says_behind rest _ _ c.write_line.ensures)
