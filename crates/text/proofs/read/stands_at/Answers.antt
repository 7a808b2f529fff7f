-- std's `starts_with`, from the place on.
use Rattle.std.proofs.Common.{◌∙◌}
use Rattle.text.proofs.Places.{starts_there}
use Rattle.text.proofs.read.stands_at.Goals as goal

pub returns-clause-value : goal.returns-clause-value
returns-clause-value c = c.starts_with.ensures.value ∙ starts_there _ _ _ _ c.min.ensures
