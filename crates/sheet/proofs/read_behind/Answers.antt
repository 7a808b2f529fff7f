-- A sheet is whole or wrong at a line, by how far its points and its rays are right.
use Rattle.std.proofs.Common.{◌≡◌, ◌<◌, ◌≤◌, Bool, ℕ, length, refl, ap, sym, ◌∙◌, Err}
use mathlib.Core.Bool.{◌&&◌}
use lib.Dec.{ltb, eqb}
use borrow.Author.Tests.{lt-ltb, le-ltb}
use Rattle.std.proofs.lemmas.Result.{err_from_is_err_and}
use Rattle.grammar.specs.declared.reader.Reader.{Reader}
use Rattle.sheet.specs.Sheet.{with_curves}
use Rattle.sheet.proofs.Replies.{points_taken, within-whole, within_wrong}
use Rattle.sheet.proofs.read_behind.Goals as goal
use Rattle.sheet.proofs.read_behind.Goals.{then-p-gt0, else-p-gt0}

-- the test is of both, whether or not there are points
points : {p : ℕ} {test end : Bool} → 0 < p → test ≡ end → test ≡ (ltb 0 p && end)
points {p} h e = rw (lt-ltb 0 p h) e

no-points : {p : ℕ} {test : Bool} (end : Bool) → p ≤ 0 → test ≡ ltb 0 p → test ≡ (ltb 0 p && end)
no-points {p} end h e = e ∙ rw (le-ltb 0 p h) refl

pub returns-then-not-is_whole : goal.returns-then-not-is_whole
returns-then-not-is_whole c =
    let e = c.read_rows-p.ensures in
    let r = c.read_rays-n.ensures in
    let test : c.if-p-gt0.is_whole ≡ (ltb 0 c.read_rows-p.result && eqb c.read_rays-n.new.reader.at (length c.args.s.now)) = elim c.if-p-gt0.branch [
      | then-p-gt0 w ↦ points w.if-p-gt0.true w.is_whole-is
      | else-p-gt0 w ↦ no-points _ w.if-p-gt0.false w.is_whole-is
    ] in
    let w = within_wrong _ _ _ _ c.read_rows-p.new.self c.read_rays-n.new.reader _ e.value (ap (λ (x : Reader). x.src.now) e.reader, ap (λ (x : Reader). x.at) e.reader) (r.value, r.out_after) (ap (λ (x : Reader). x.at) r.reader)
    _ _ _ (sym test ∙ c.if-not-is_whole.true) (ap Err c.wrong_line.ensures) in
    record { value = w.0; list_after = w.1 }

pub returns-in_err-pieces : goal.returns-in_err-pieces
returns-in_err-pieces c =
    let e = c.read_rows-p.ensures in
    let r = c.read_rays-n.ensures in
    let test : c.if-p-gt0.is_whole ≡ (ltb 0 c.read_rows-p.result && eqb c.read_rays-n.new.reader.at (length c.args.s.now)) = elim c.if-p-gt0.branch [
      | then-p-gt0 w ↦ points w.if-p-gt0.true w.is_whole-is
      | else-p-gt0 w ↦ no-points _ w.if-p-gt0.false w.is_whole-is
    ] in
    let w = within-whole _ _ _ _ c.read_rows-p.new.self c.read_rays-n.new.reader _ e.value (ap (λ (x : Reader). x.src.now) e.reader, ap (λ (x : Reader). x.at) e.reader) (r.value, r.out_after) (ap (λ (x : Reader). x.at) r.reader)
    _ _ _ _ _ (sym test ∙ c.if-not-is_whole.false) (points_taken _ _ _ _ _ e.value e.out_after) c.create.ensures.value c.create.ensures.list_after in
    let p = err_from_is_err_and c.from_residual.result c.from_residual.ensures.1 in
    record { value = rw (p.1, p.2) (ap (with_curves c.args.head _ _) (sym c.in_err-pieces.was) ∙ w.0); list_after = w.1 }

pub returns : goal.returns
returns c =
    let e = c.read_rows-p.ensures in
    let r = c.read_rays-n.ensures in
    let test : c.if-p-gt0.is_whole ≡ (ltb 0 c.read_rows-p.result && eqb c.read_rays-n.new.reader.at (length c.args.s.now)) = elim c.if-p-gt0.branch [
      | then-p-gt0 w ↦ points w.if-p-gt0.true w.is_whole-is
      | else-p-gt0 w ↦ no-points _ w.if-p-gt0.false w.is_whole-is
    ] in
    let w = within-whole _ _ _ _ c.read_rows-p.new.self c.read_rays-n.new.reader _ e.value (ap (λ (x : Reader). x.src.now) e.reader, ap (λ (x : Reader). x.at) e.reader) (r.value, r.out_after) (ap (λ (x : Reader). x.at) r.reader)
    _ _ _ _ _ (sym test ∙ c.if-not-is_whole.false) (points_taken _ _ _ _ _ e.value e.out_after) c.create.ensures.value c.create.ensures.list_after in
    record { value = ap (with_curves c.args.head _ _) (sym c.in_ok-pieces.was) ∙ w.0; list_after = w.1 }
