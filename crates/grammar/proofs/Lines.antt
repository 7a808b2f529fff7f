-- How far a line of the head reaches. Assumes nothing.
use mathlib.Core.Bool.{Bool, true, false, cond}
use mathlib.Core.List.{List}
use Prim.Native.Nat.{ℕ, ◌+◌, ◌*◌, ◌≤◌}
use native.Mathlib.Omega.{arith}
use lib.Dec.{lit≤}
use lib.ListN.{length}
use Rattle.std.specs.Prelude.{Option, Some, None, Result, Ok, Err}
use Rattle.text.specs.Ascii.{ascii}
use Rattle.text.specs.Bytes.{◌>>=◌, byte_is, stands_at, word_at}
use Rattle.grammar.specs.Grammar.{line_feed, right, decimal_digit_at, decimal_at, decimal_line, word_line_at, word_line, either_line, type_line, line_at}
use Rattle.grammar.specs.Head.{line_or_wrong, lines_before, field_at}
use Rattle.grammar.specs.declared.head.Head.{Head}
use Rattle.grammar.specs.declared.reader.Line.{Line}
use Rattle.grammar.specs.declared.reader.Field.{Field}
use Rattle.grammar.specs.declared.reader.Field.TheVariants as field
use Rattle.grammar.specs.declared.reader.Kind.TheVariants as kind
use Rattle.grammar.specs.declared.head.WrongLine.{WrongLine}

-- a line that is right ends at the latest at a place
abbrev pub By : ℕ → Option Line → Type 0
By most (Some line) = line.next ≤ most
By most None = Unit {0}

by_cond : (most : ℕ) (b : Bool) (x y : Option Line) → By most x → By most y → By most (cond b x y)
by_cond most true x y h g = h
by_cond most false x y h g = g

-- a line that ends there, or another
by_right : (most : ℕ) (b : Bool) (v next : ℕ) (rest : Option Line) → next ≤ most → By most rest → By most (cond b (right v next) rest)
by_right most b v next rest h g = by_cond most b (right v next) rest h g

by_step : {A : Type 0} (most : ℕ) (o : Option A) (f : A → Option Line) → ((a : A) → By most (f a)) → By most (o >>= f)
by_step most (Some a) f h = h a
by_step most None f h = tt

decimal_by : (l : List ℕ) (at most : ℕ) → at + 3 ≤ most → By most (decimal_at l at)
unfolding decimal_at
decimal_by l at most h =
    by_step most (decimal_digit_at l at) _
    (λ a. by_right most (byte_is l (at + 1) line_feed) a (at + 2) _ (omega arith)
    (by_step most (decimal_digit_at l (at + 1)) _ (λ b. by_right most (byte_is l (at + 2) line_feed) (a * 10 + b) (at + 3) None h tt)))

decimal_line_by : (l : List ℕ) (at : ℕ) (key : List ℕ) → length key ≤ 20 → By (at + 30) (decimal_line l at key)
unfolding decimal_line
decimal_line_by l at key h = by_cond (at + 30) (stands_at l at key) (decimal_at l (at + length key)) None (decimal_by l (at + length key) (at + 30) (omega arith)) tt

word_line_by : (l : List ℕ) (at : ℕ) (key : List ℕ) → length key ≤ 20 → By (at + 30) (word_line l at key)
unfolding word_line word_line_at
word_line_by l at key h =
    let from = at + length key in
    by_cond (at + 30) (stands_at l at key) (word_line_at l from) None
    (by_step (at + 30) (word_at l from) _ (λ w. by_right (at + 30) (byte_is l (from + 8) line_feed) w (from + 9) None (omega arith) tt)) tt

either_by : (l : List ℕ) (at : ℕ) (first second : List ℕ) → length first ≤ 20 → length second ≤ 20 → By (at + 30) (either_line l at first second)
unfolding either_line
either_by l at first second h g =
    by_right (at + 30) (stands_at l at first) 0 (at + length first) _ (omega arith) (by_right (at + 30) (stands_at l at second) 1 (at + length second) None (omega arith) tt)

type_by : (l : List ℕ) (at : ℕ) → By (at + 30) (type_line l at)
unfolding type_line ascii
type_by l at =
    by_right (at + 30) (stands_at l at (ascii "type=cylinder\n")) 2 (at + 14) _ (omega arith) (either_by l at (ascii "type=flat\n") (ascii "type=ribbon\n") (lit≤ tt) (lit≤ tt))

pub line_by : (l : List ℕ) (field : Field) (at : ℕ) → By (at + 30) (line_at l (kind.Field field) at)
unfolding ascii
line_by l field.Degree at = decimal_line_by l at (ascii "degree=") (lit≤ tt)
line_by l field.Basis at = either_by l at (ascii "basis=bezier\n") (ascii "basis=bspline\n") (lit≤ tt) (lit≤ tt)
line_by l field.«Type» at = type_by l at
line_by l field.Width0 at = word_line_by l at (ascii "width0=") (lit≤ tt)
line_by l field.Width1 at = word_line_by l at (ascii "width1=") (lit≤ tt)
line_by l field.SplitDepth at = decimal_line_by l at (ascii "splitdepth=") (lit≤ tt)
line_by l field.Reverse at = either_by l at (ascii "reverse=0\n") (ascii "reverse=1\n") (lit≤ tt) (lit≤ tt)

-- the place behind a line, or where it is wrong
abbrev pub line_end : Result Line WrongLine → ℕ
line_end (Ok line) = line.next
line_end (Err wrong) = wrong.at

-- a line of the head has at most 30 bytes
pub near : (l : List ℕ) (field : Field) (read : Head) (at : ℕ) → line_end (field_at l field read at) ≤ at + 30
unfolding field_at
near l field read at = go (line_at l (kind.Field field) at) (line_by l field at)
  where
    go : (x : Option Line) → By (at + 30) x → line_end (line_or_wrong x (lines_before field) read at) ≤ at + 30
    go (Some line) h = h
    go None h = omega arith
