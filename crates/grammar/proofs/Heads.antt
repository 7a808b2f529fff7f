-- The head, line by line. Assumes nothing.
use mathlib.Core.List.{List}
use mathlib.Core.Path.{◌≡◌, refl, subst}
use Prim.Native.Nat.{ℕ, ◌+◌, ◌≤◌}
use native.Mathlib.Omega.{arith}
use lib.Dec.{lit≤}
use Rattle.std.specs.Prelude.{Option, Some, None, Result, Err}
use Rattle.grammar.specs.Grammar.{line_at}
use Rattle.grammar.specs.Head.{◌>>=◌, line_or_wrong, lines_before, field_at, head_of, head_end, head_lines_right}
use Rattle.grammar.specs.declared.reader.Line.{Line}
use Rattle.grammar.specs.declared.reader.Field.{Field}
use Rattle.grammar.specs.declared.reader.Field.TheVariants as field
use Rattle.grammar.specs.declared.reader.Kind.TheVariants as kind
use Rattle.grammar.specs.declared.head.Head.{Head}
use Rattle.grammar.specs.declared.head.WrongLine.{WrongLine}
use Rattle.grammar.proofs.Lines.{By, line_by}

-- what holds of a head: it is wrong at a line, or holds behind it
pub field_either :
    {read : Head} (P : Result Head WrongLine → Type 0) (l : List ℕ) (field : Field) (at : ℕ) (f : Line → Result Head WrongLine)
    → ((line : Line) → line_at l (kind.Field field) at ≡ Some line → P (f line))
    → (line_at l (kind.Field field) at ≡ None → P (Err (record { at = at; lines = lines_before field; read = read })))
    → P (field_at l field read at >>= f)
unfolding field_at
field_either {read = read} P l field at f g h = go (line_at l (kind.Field field) at) refl
  where
    go : (x : Option Line) → line_at l (kind.Field field) at ≡ x → P (line_or_wrong x (lines_before field) read at >>= f)
    go (Some line) e = g line e
    go None e = h e

-- at most seven lines are right
abbrev Few : Result Head WrongLine → Type 0
Few c = head_lines_right c ≤ 7

pub head_few : (l : List ℕ) → head_lines_right (head_of l) ≤ 7
unfolding head_of
head_few l =
    field_either Few l field.Degree 0 _
    (λ degree _. field_either Few l field.Basis degree.next _
    (λ basis _. field_either Few l field.«Type» basis.next _
    (λ ty _. field_either Few l field.Width0 ty.next _
    (λ width0 _. field_either Few l field.Width1 width0.next _
    (λ width1 _. field_either Few l field.SplitDepth width1.next _
    (λ splitdepth _. field_either Few l field.Reverse splitdepth.next _ (λ reverse _. lit≤ tt) (λ _. lit≤ tt)) (λ _. lit≤ tt)) (λ _. lit≤ tt)) (λ _. lit≤ tt)) (λ _. lit≤ tt)) (λ _. lit≤ tt)) (λ _. lit≤ tt)

-- a head that is wrong at a line, or goes on behind it
step : (read : Head) (l : List ℕ) (field : Field) (at most : ℕ) (f : Line → Result Head WrongLine) → at ≤ most → most ≤ 210 → ((line : Line) → line.next ≤ most + 30 → head_end (f line) ≤ 210)
    → head_end (field_at l field read at >>= f) ≤ 210
step read l field at most f h g rest =
    field_either (λ head. head_end head ≤ 210) l field at f
    (λ line e. let by : line.next ≤ at + 30 = subst (By (at + 30)) e (line_by l field at) in rest line (omega arith))
    (λ _. omega arith)

-- the head has at most 210 bytes
pub head_short : (l : List ℕ) → head_end (head_of l) ≤ 210
unfolding head_of
head_short l =
    step _ l field.Degree 0 0 _ (lit≤ tt) (lit≤ tt)
    (λ degree h. step _ l field.Basis degree.next 30 _ h (lit≤ tt)
    (λ basis h. step _ l field.«Type» basis.next 60 _ h (lit≤ tt)
    (λ ty h. step _ l field.Width0 ty.next 90 _ h (lit≤ tt)
    (λ width0 h. step _ l field.Width1 width0.next 120 _ h (lit≤ tt)
    (λ width1 h. step _ l field.SplitDepth width1.next 150 _ h (lit≤ tt)
    (λ splitdepth h. step _ l field.Reverse splitdepth.next 180 _ h (lit≤ tt) (λ reverse h. h)))))))
