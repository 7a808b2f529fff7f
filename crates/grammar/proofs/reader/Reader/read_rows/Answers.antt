-- Each row is told by the line that was taken, and its floats are put behind those of the rows before it.
use Rattle.std.proofs.Common.{◌≡◌, ◌+◌, ◌*◌, ◌≤◌, length, true, false, le_refl, sym, refl, ◌∙◌, ap, arith}
use Rattle.limits.specs.Below.{all_below}
use Rattle.limits.specs.List.{up_to}
use Rattle.limits.proofs.Below.{all_next}
use Rattle.limits.proofs.Lists.{over_nil}
use Rattle.grammar.specs.declared.reader.Reader.{Reader}
use Rattle.grammar.specs.Grammar.{row_size, row_key, rows_from, floats_from}
use Rattle.grammar.proofs.Floats.{row_taken, row_wrong, row_told, reader_start, reader_next, next_in, row_put}
use Rattle.grammar.proofs.Runs.{run_is}
use Rattle.grammar.proofs.reader.Reader.read_rows.Goals as goal

pub loop-j-init : goal.loop-j-init
unfolding all_below up_to
loop-j-init c = record { reader = reader_start _ _; rows = refl; floats = sym (over_nil _ 0) }

pub returns-in_default : goal.returns-in_default
unfolding rows_from floats_from
returns-in_default c =
    let i = c.loop-j.invariant in
    let wrong = row_told _ _ _ _ _ false i.reader (row_wrong _ _ _ _ c.floats-n.ensures.value c.in_default.ensures.value) in
    rw (← c.floats-n.ensures.value) (record { value = sym (run_is _ _ _ c.loop-j.auto.j-end i.rows (λ _. wrong)); most = c.loop-j.auto.j-end; reader = c.in_default.ensures.reader ∙ i.reader; out_after = i.floats })

pub overflow_sub-line : goal.overflow_sub-line
unfolding row_size
overflow_sub-line c = omega (arith, (row_taken _ _ _ _ c.floats-n.ensures.value _ c.in-Some.ensures.value).1)

pub loop-j-preserved : goal.loop-j-preserved
loop-j-preserved c =
    let i = c.loop-j.invariant in
    let taken = row_taken _ _ _ _ c.floats-n.ensures.value _ c.in-Some.ensures.value in
    let next = reader_next _ _ _ _ _ _ i.reader c.in-Some.ensures.reader taken.1 in
    let room : c.loop-j.j * c.floats-n.result + c.floats-n.result ≤ length c.args.out.now = omega (arith, next_in c.loop-j.j c.args.most c.floats-n.result c.loop-j-test.true, ap (λ k. c.args.most * k) c.floats-n.ensures.value, c.requires) in
    record {
      reader = next;
      rows = all_next _ _ i.rows (row_told _ _ _ _ _ true i.reader taken.0);
      floats = row_put _ _ _ _ _ _ _ room i.floats _ _ _ (taken.1 ∙ ap (λ (r : Reader). r.at + row_size (row_key c.args.row) c.floats-n.result) i.reader) (ap (λ (r : Reader). r.src.now) next) c.put_floats.ensures;
    }

pub returns : goal.returns
unfolding rows_from floats_from
returns c =
    let i = c.loop-j.invariant in
    let full : c.loop-j.j ≡ c.args.most = omega arith in
    rw (← c.floats-n.ensures.value, ← full) (record { value = sym (run_is _ _ _ (le_refl _) i.rows (λ lt. absurd (omega (arith, lt)))); most = le_refl _; reader = i.reader; out_after = i.floats })
