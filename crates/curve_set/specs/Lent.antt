-- The two lists that are lent, as one value, and what each step of a call makes of them. Definitions only.
use Rattle.std.specs.Prelude.{List, ℕ, ◌+◌, Float}
use Rattle.curve_set.specs.declared.edits.SetMut.{SetMut}
use Rattle.curve_set.specs.Layout.{Answer, floats_opened, words_opened, count_of, counted, kind_of, answer_floats, floats_put, words_put, floats_without, words_without}
use Rattle.curve_set.specs.declared.layout.Head.{Head}
use Rattle.curve_set.specs.Best.{refreshed}

pub record Lent : Type 0 where
  pub floats : List Float
  pub words : List ℕ

abbrev pub lent : List Float → List ℕ → Lent
lent f w = record { floats = f; words = w }

abbrev pub lent_of : SetMut → Lent
lent_of s = lent s.floats.now s.words.now

-- the same two references, to arrays that hold this
abbrev pub holding : SetMut → Lent → SetMut
holding s l = record { floats = record s.floats { now = l.floats }; words = record s.words { now = l.words } }

-- an empty set under that head
abbrev pub with_head : Head → Lent → Lent
with_head h l = lent (floats_opened l.floats h) (words_opened l.words h)

-- a curve behind those that are there
abbrev pub with_row : ℕ → List Float → Answer → Lent → Lent
with_row number c a l =
    lent (floats_put l.floats (count_of l.words) c (answer_floats a)) (counted (words_put l.words (count_of l.words) number (kind_of a)) (count_of l.words + 1))

-- the curve at p is gone
abbrev pub without_row : ℕ → Lent → Lent
without_row p l = lent (floats_without l.floats p (count_of l.words)) (words_without l.words p (count_of l.words))

-- the nearest is chosen anew
abbrev pub with_best : Lent → Lent
with_best l = lent l.floats (refreshed l.floats l.words)
