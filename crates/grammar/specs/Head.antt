-- The head of a belt sheet: its seven lines in their order. Definitions only.
use Rattle.std.specs.Prelude.{ℕ, List, Option, Some, None, Result, Ok, Err}
use Rattle.grammar.specs.Grammar.{line_at}
use Rattle.grammar.specs.declared.reader.Line.{Line}
use Rattle.grammar.specs.declared.reader.Field.{Field}
use Rattle.grammar.specs.declared.reader.Field.TheVariants as field
use Rattle.grammar.specs.declared.reader.Kind.TheVariants as kind
use Rattle.grammar.specs.declared.head.WrongLine.{WrongLine}
use Rattle.grammar.specs.declared.head.Head.{Head}

-- a step after a line that is right
infixl 10 ◌>>=◌
abbrev pub ◌>>=◌ : {A B : Type 0} → Result A WrongLine → (A → Result B WrongLine) → Result B WrongLine
◌>>=◌ (Ok a) f = f a
◌>>=◌ (Err e) f = Err e

-- a line, or where it is wrong, how many lines stand before it, and what they say
abbrev pub line_or_wrong : Option Line → ℕ → Head → ℕ → Result Line WrongLine
line_or_wrong (Some line) lines read at = Ok line
line_or_wrong None lines read at = Err (record { at = at; lines = lines; read = read })

-- how many lines stand before a line of the head
abbrev pub lines_before : Field → ℕ
lines_before field.Degree = 0
lines_before field.Basis = 1
lines_before field.«Type» = 2
lines_before field.Width0 = 3
lines_before field.Width1 = 4
lines_before field.SplitDepth = 5
lines_before field.Reverse = 6

-- a line of the head at a place, where those before it are right and say so much
unfoldable pub field_at : List ℕ → Field → Head → ℕ → Result Line WrongLine
field_at l field read at = line_or_wrong (line_at l (kind.Field field) at) (lines_before field) read at

-- what the lines say, in their order, and the place behind them
abbrev pub head_by : ℕ → ℕ → ℕ → ℕ → ℕ → ℕ → ℕ → ℕ → Head
head_by degree basis ty width0 width1 splitdepth reverse end = record {
  degree = degree;
  basis = basis;
  ty = ty;
  width0 = width0;
  width1 = width1;
  splitdepth = splitdepth;
  reverse = reverse;
  end = end;
}

-- the seven lines, each from where the one before it ends
unfoldable pub head_of : List ℕ → Result Head WrongLine
head_of l = do
  degree ← field_at l field.Degree (head_by 0 0 0 0 0 0 0 0) 0
  basis ← field_at l field.Basis (head_by degree.value 0 0 0 0 0 0 degree.next) degree.next
  ty ← field_at l field.«Type» (head_by degree.value basis.value 0 0 0 0 0 basis.next) basis.next
  width0 ← field_at l field.Width0 (head_by degree.value basis.value ty.value 0 0 0 0 ty.next) ty.next
  width1 ← field_at l field.Width1 (head_by degree.value basis.value ty.value width0.value 0 0 0 width0.next) width0.next
  splitdepth ← field_at l field.SplitDepth (head_by degree.value basis.value ty.value width0.value width1.value 0 0 width1.next) width1.next
  reverse ← field_at l field.Reverse (head_by degree.value basis.value ty.value width0.value width1.value splitdepth.value 0 splitdepth.next) splitdepth.next
  Ok (head_by degree.value basis.value ty.value width0.value width1.value splitdepth.value reverse.value reverse.next)

-- ---- how far the head is right

-- the place behind its lines that are right
abbrev pub head_end : Result Head WrongLine → ℕ
head_end (Ok h) = h.end
head_end (Err w) = w.at

-- how many they are
abbrev pub head_lines_right : Result Head WrongLine → ℕ
head_lines_right (Ok h) = 7
head_lines_right (Err w) = w.lines
