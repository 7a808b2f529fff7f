-- The two lists that a set is lent as: which of their elements is what, and the set that they hold, whatever they are. Definitions only.
use Rattle.std.specs.Prelude.{Bool, cond, List, [], ◌∷◌, ◌++◌, ℕ, ◌+◌, ◌-◌, ◌*◌, min, eqb, ltb, Float, get_or, take, drop, replicate, Option, Some, None}
use Rattle.float.specs.Arith.{0f}
use Rattle.geometry.specs.declared.ray.Ray.{Ray}
use Rattle.geometry.specs.Ray.{ray_from, flat_ray}
use Rattle.matrix.specs.declared.Matrix4x4.{Matrix4x4}
use Rattle.matrix.specs.Matrix.{matrix_from, flat}
use Rattle.limits.specs.List.{over}
use Rattle.curve.specs.Layout.{floats}
use Rattle.interaction.specs.declared.SurfaceInteraction.{SurfaceInteraction}
use Rattle.interaction.specs.Floats.{record_size, record_floats, record_from}
use Rattle.arrays.specs.Rows.{rows}
use Rattle.curve_set.specs.Kept.{Row, row_of, this_rule}
use Rattle.curve_set.specs.declared.layout.Head.{Head}

-- how many curves at most
abbrev pub size : ℕ
size = 64

-- how long the lists are
abbrev pub set_floats : ℕ
set_floats = 2664

abbrev pub set_words : ℕ
set_words = 195

-- ---- the head: both matrices and the ray; the count, the place of the nearest counted from 1, and the flag

abbrev pub head_floats : ℕ
head_floats = 40

abbrev pub head_words : ℕ
head_words = 3

abbrev pub head_by : Matrix4x4 → Matrix4x4 → Bool → Ray → Head
head_by o2w w2o reverse ray = record { object_to_world = o2w; world_to_object = w2o; reverse = reverse; ray = ray }

unfoldable pub head_from : List Float → ℕ → Head
head_from l reverse = head_by (matrix_from l 0) (matrix_from l 16) (ltb 0 reverse) (ray_from l 32)

unfoldable pub head_of : List Float → List ℕ → Head
head_of f w = head_from (take head_floats f) (get_or w 2 0)

-- it is written with a set that is empty
unfoldable pub floats_opened : List Float → Head → List Float
floats_opened f h = over f 0 ((flat h.object_to_world ++ flat h.world_to_object) ++ flat_ray h.ray)

unfoldable pub words_opened : List ℕ → Head → List ℕ
words_opened w h = over w 0 (0 ∷ 0 ∷ cond h.reverse 1 0 ∷ [])

-- a count above 64 reads as 64
unfoldable pub count_of : List ℕ → ℕ
count_of w = min (get_or w 0 0) size

unfoldable pub counted : List ℕ → ℕ → List ℕ
counted w n = over w 0 (n ∷ [])

-- ---- a row: a curve with room for 19 floats and its record; its number, its mark and its kind

abbrev pub curve_room : ℕ
curve_room = 19

abbrev pub row_floats : ℕ
row_floats = 41

abbrev pub row_words : ℕ
row_words = 3

-- a curve's nearest crossing, or none
abbrev pub Answer : Type 0
Answer = Option SurfaceInteraction

abbrev pub Kept : Type 0
Kept = Row (List Float) Answer

-- 1 is a hit
abbrev pub kind_of : Answer → ℕ
kind_of None = 0
kind_of (Some h) = 1

abbrev pub answer_floats : Answer → List Float
answer_floats None = replicate record_size 0f
answer_floats (Some h) = record_floats h

-- back: any other kind is a miss
abbrev pub answer_in : ℕ → List Float → Answer
answer_in k l = cond (eqb k 1) (Some (record_from l)) None

unfoldable pub row_in : List Float → List ℕ → Kept
row_in f w = row_of (get_or w 0 0) (get_or w 1 0) (take floats f) (answer_in (get_or w 2 0) (drop curve_room f))

-- the curves that the two lists hold
unfoldable pub set_of : List Float → List ℕ → List Kept
set_of f w = rows row_in row_floats row_words (count_of w) (drop head_floats f) (drop head_words w)

-- the number of the curve at i
abbrev pub number_at : List ℕ → ℕ → ℕ
number_at w i = get_or w (head_words + i * row_words) 0

-- ---- the lists with a row written at p, or taken out

-- the room behind a curve is 0
unfoldable pub floats_put : List Float → ℕ → List Float → List Float → List Float
floats_put f p c r = over f (head_floats + p * row_floats) ((c ++ replicate (curve_room - floats) 0f) ++ r)

unfoldable pub words_put : List ℕ → ℕ → ℕ → ℕ → List ℕ
words_put w p n kind = over w (head_words + p * row_words) (n ∷ this_rule ∷ kind ∷ [])

-- Of the first n rows the one at p goes, and those behind it move down. What lies behind them stays, the last of them too.
unfoldable pub floats_without : List Float → ℕ → ℕ → List Float
floats_without f p n = over f (head_floats + p * row_floats) (take ((n - (p + 1)) * row_floats) (drop (head_floats + (p + 1) * row_floats) f))

unfoldable pub words_without : List ℕ → ℕ → ℕ → List ℕ
words_without w p n = counted (over w (head_words + p * row_words) (take ((n - (p + 1)) * row_words) (drop (head_words + (p + 1) * row_words) w))) (n - 1)
