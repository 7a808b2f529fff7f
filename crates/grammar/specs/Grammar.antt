-- The lines of a belt sheet, by the place at which they start. Definitions only.
use Rattle.std.specs.Prelude.{ℕ, zero, suc, ◌+◌, ◌*◌, Bool, cond, ◌&&◌, List, [], ◌∷◌, eqb, ltb, Float, length, Option, Some, None, unwrap_or}
use Rattle.std.specs.Float.{binary32}
use Rattle.std.specs.Float.Ieee.{of_bits}
use Rattle.geometry.specs.Point.{point_floats}
use Rattle.geometry.specs.Ray.{ray_floats}
use Rattle.limits.specs.Below.{all_below}
use Rattle.limits.specs.List.{up_to}
use Rattle.text.specs.Ascii.{ascii}
use Rattle.text.specs.Bytes.{◌>>=◌, byte_is, stands_at, digit_at, is_word, word_at}
use Rattle.grammar.specs.declared.reader.Line.{Line}
use Rattle.grammar.specs.declared.reader.Row.{Row}
use Rattle.grammar.specs.declared.reader.Row.TheVariants as row
use Rattle.grammar.specs.declared.reader.Field.{Field}
use Rattle.grammar.specs.declared.reader.Field.TheVariants as field
use Rattle.grammar.specs.declared.reader.Kind.{Kind}
use Rattle.grammar.specs.declared.reader.Kind.TheVariants as kind

abbrev pub line_feed : ℕ
line_feed = 10

abbrev pub comma : ℕ
comma = 44

-- the most bytes of a sheet
abbrev pub most_bytes : ℕ
most_bytes = 65536

-- more points than so many bytes hold (`points-fit` in sheet)
abbrev pub room_points : ℕ
room_points = 2048

-- ---- a line of the head

-- a line that is right: its value, and the place behind its LF
abbrev pub right : ℕ → ℕ → Option Line
right value next = Some (record { value = value; next = next })

unfoldable pub decimal_digit_at : List ℕ → ℕ → Option ℕ
decimal_digit_at l i = do
  d ← digit_at l i
  cond (ltb d 10) (Some d) None

-- one or two decimal digits and LF
unfoldable pub decimal_at : List ℕ → ℕ → Option Line
decimal_at l at = do
  a ← decimal_digit_at l at
  cond (byte_is l (at + 1) line_feed) (right a (at + 2)) (do
    b ← decimal_digit_at l (at + 1)
    cond (byte_is l (at + 2) line_feed) (right (a * 10 + b) (at + 3)) None)

-- a key, a decimal number and LF
unfoldable pub decimal_line : List ℕ → ℕ → List ℕ → Option Line
decimal_line l at key = cond (stands_at l at key) (decimal_at l (at + length key)) None

-- eight hexadecimal digits and LF
unfoldable pub word_line_at : List ℕ → ℕ → Option Line
word_line_at l at = do
  w ← word_at l at
  cond (byte_is l (at + 8) line_feed) (right w (at + 9)) None

-- a key, eight hexadecimal digits and LF
unfoldable pub word_line : List ℕ → ℕ → List ℕ → Option Line
word_line l at key = cond (stands_at l at key) (word_line_at l (at + length key)) None

-- one of two whole lines, which stand for 0 and 1
unfoldable pub either_line : List ℕ → ℕ → List ℕ → List ℕ → Option Line
either_line l at first second = cond (stands_at l at first) (right 0 (at + length first)) (cond (stands_at l at second) (right 1 (at + length second)) None)

-- type: flat, ribbon or cylinder
unfoldable pub type_line : List ℕ → ℕ → Option Line
type_line l at =
    cond (stands_at l at (ascii "type=cylinder\n")) (right 2 (at + 14)) (either_line l at (ascii "type=flat\n") (ascii "type=ribbon\n"))

-- ---- a row of floats: a key, and n times eight hexadecimal digits, with commas between and LF at the end

-- a float's digits, and what stands behind them
abbrev pub float_size : ℕ
float_size = 9

-- what stands behind float i of n
unfoldable pub separator : ℕ → ℕ → ℕ
separator n i = cond (eqb (i + 1) n) line_feed comma

-- float i of n from a place on, with what stands behind it
abbrev pub float_stands : List ℕ → ℕ → ℕ → ℕ → Bool
float_stands l at n i = is_word l (at + i * float_size) && byte_is l (at + i * float_size + 8) (separator n i)

unfoldable pub is_floats : List ℕ → ℕ → ℕ → Bool
is_floats l at n = all_below n (float_stands l at n)

unfoldable pub is_row : List ℕ → ℕ → List ℕ → ℕ → Bool
is_row l at key n = stands_at l at key && is_floats l (at + length key) n

-- how many bytes a row has
unfoldable pub row_size : List ℕ → ℕ → ℕ
row_size key n = length key + n * float_size

-- the float that stands at a place
unfoldable pub float_at : List ℕ → ℕ → Float
float_at l at = of_bits binary32 (unwrap_or (word_at l at) 0)

-- the n floats whose digits start at a place, with one byte between
unfoldable pub floats_at : List ℕ → ℕ → ℕ → List Float
floats_at l at zero = []
floats_at l at (suc n) = float_at l at ∷ floats_at l (at + float_size) n

-- a point's key, and a beam's
abbrev pub point_key : List ℕ
point_key = ascii "point="

abbrev pub ray_key : List ℕ
ray_key = ascii "beam="

-- the row as a line: its value is how many floats it has
unfoldable pub row_at : List ℕ → ℕ → List ℕ → ℕ → Option Line
row_at l at key n = cond (is_row l at key n) (right n (at + row_size key n)) None

abbrev pub row_key : Row → List ℕ
row_key row.Point = point_key
row_key row.Beam = ray_key

abbrev pub row_floats : Row → ℕ
row_floats row.Point = point_floats
row_floats row.Beam = ray_floats

unfoldable pub row_line : List ℕ → Row → ℕ → Option Line
row_line l row at = row_at l at (row_key row) (row_floats row)

-- ---- a line of any kind

-- a line of the head
abbrev pub field_line : List ℕ → Field → ℕ → Option Line
field_line l field.Degree at = decimal_line l at (ascii "degree=")
field_line l field.Basis at = either_line l at (ascii "basis=bezier\n") (ascii "basis=bspline\n")
field_line l field.«Type» at = type_line l at
field_line l field.Width0 at = word_line l at (ascii "width0=")
field_line l field.Width1 at = word_line l at (ascii "width1=")
field_line l field.SplitDepth at = decimal_line l at (ascii "splitdepth=")
field_line l field.Reverse at = either_line l at (ascii "reverse=0\n") (ascii "reverse=1\n")

-- the line that starts at a place: its value, and the place behind its LF
abbrev pub line_at : List ℕ → Kind → ℕ → Option Line
line_at l (kind.Field field) at = field_line l field at
line_at l (kind.Row row) at = row_line l row at

-- ---- rows, one behind the other

-- how many numbers from 0 on pass P one after the other, at most n
unfoldable pub run_below : ℕ → (ℕ → Bool) → ℕ
run_below zero P = 0
run_below (suc n) P = cond (eqb (run_below n P) n && P n) (suc n) (run_below n P)

-- row j of those that follow each other from a place on, and its floats
abbrev pub row_stands : List ℕ → ℕ → List ℕ → ℕ → ℕ → Bool
row_stands l at key n j = is_row l (at + j * row_size key n) key n

abbrev pub floats_in : List ℕ → ℕ → List ℕ → ℕ → ℕ → List Float
floats_in l at key n j = floats_at l (at + j * row_size key n + length key) n

-- how many rows follow each other from a place on, at most so many
unfoldable pub rows_from : List ℕ → ℕ → List ℕ → ℕ → ℕ → ℕ
rows_from l at key n most = run_below most (row_stands l at key n)

-- the floats of the first m of them
unfoldable pub floats_from : List ℕ → ℕ → List ℕ → ℕ → ℕ → List Float
floats_from l at key n m = up_to (floats_in l at key n) m
