-- A head that is wrong.
use Rattle.std.proofs.Common.{rules}
use Rattle.std.proofs.lemmas.Result.{err_from_is_err_and}
use Rattle.sheet.proofs.Replies.{within_head}
use Rattle.sheet.proofs.read_within.Goals as goal

pub returns-in_err-head-clause-value : goal.returns-in_err-head-clause-value
returns-in_err-head-clause-value c =
    let p = err_from_is_err_and c.from_residual.result c.from_residual.ensures.1 in
    rw (p.1, p.2) (within_head _ _ _ _ _ _ c.read_head.ensures.value c.map_err.ensures.cases c.in_err-head.was (λ w x k. search rules))
