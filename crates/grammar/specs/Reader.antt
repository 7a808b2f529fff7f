-- Where a reader stands. Definitions only.
use Rattle.std.specs.Prelude.{ℕ, ◌+◌, cond, List, Option, Some, None, length}
use Rattle.text.specs.Bytes.{stands_at}
use Rattle.grammar.specs.declared.reader.Line.{Line}
use Rattle.grammar.specs.declared.reader.Reader.{Reader}

-- behind a word, where it stands at the reader's place
unfoldable pub reader_behind : Reader → List ℕ → Option Reader
reader_behind r w = cond (stands_at r.src.now r.at w) (Some (record r { at = r.at + length w })) None

-- behind a line, and before a wrong one it stays
abbrev pub reader_after : Reader → Option Line → Reader
reader_after r (Some line) = record r { at = line.next }
reader_after r None = r
