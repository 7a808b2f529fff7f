-- What is put so far is a block.
use Rattle.std.proofs.Common.{◌≡◌}
use Rattle.blocks.specs.Lines.{line_count}
use Rattle.blocks.specs.Blocks.{LinesPut}
use Rattle.blocks.proofs.Rest.put_lines.Given as goal

abbrev pub invariant-loop-line : goal.invariant-loop-line
invariant-loop-line l = record {
  count : l.count ≡ line_count l.self.sheet;
  same_buffer : l.buffer.bytes.ghost_name ≡ l.initial.buffer.bytes.ghost_name;
  put : LinesPut l.list l.self.sheet l.self.next l.initial.buffer.bytes.now l.buffer.bytes.now l.line l.buffer.end;
}
