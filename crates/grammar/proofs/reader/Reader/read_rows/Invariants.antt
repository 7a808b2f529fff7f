-- The first j rows are rows, their floats are put, and the next row starts behind them.
use Rattle.std.proofs.Common.{◌≡◌, ◌+◌, ◌*◌, true}
use Rattle.limits.specs.Below.{all_below}
use Rattle.limits.specs.List.{over, up_to}
use Rattle.grammar.specs.Grammar.{row_size, row_key, row_stands, floats_in}
use Rattle.grammar.proofs.reader.Reader.read_rows.Given as goal

abbrev pub invariant-loop-j : goal.invariant-loop-j
invariant-loop-j l = record {
  reader : l.self ≡ record l.initial.self { at = l.initial.self.at + l.j * row_size (row_key l.row) l.n };
  rows : all_below l.j (row_stands l.initial.self.src.now l.initial.self.at (row_key l.row) l.n) ≡ true;
  floats : l.out ≡ over l.initial.out 0 (up_to (floats_in l.initial.self.src.now l.initial.self.at (row_key l.row) l.n) l.j);
}
