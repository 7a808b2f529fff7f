-- What each call of a set answers, and what it makes of the two lists, for every content. Definitions only.
use Rattle.std.specs.Prelude.{Bool, not, cond, List, ℕ, zero, suc, ◌+◌, ◌*◌, Float, get_or, take, drop, Option, Some, None, Result, Ok, Err, option_map}
use Rattle.std.specs.List.{position_or_len}
use Rattle.limits.specs.declared.refusal.Refusal.{Refusal}
use Rattle.limits.specs.declared.refusal.Refusal.TheVariants.{NumberMissing}
use Rattle.limits.specs.Refused.{first_of, told, told_by}
use Rattle.limits.specs.Ray.{ray_refusals}
use Rattle.curve.specs.Curve.{is_curve}
use Rattle.interaction.specs.declared.SurfaceInteraction.{SurfaceInteraction}
use Rattle.interaction.specs.Floats.{record_size, record_from}
use Rattle.nearest.specs.Nearest.{nearest_of}
use Rattle.curve_set.specs.Kept.{either, named, has, adding}
use Rattle.curve_set.specs.Layout.{size, head_floats, curve_room, row_floats, head_of, floats_opened, words_opened, count_of, counted, Answer, Kept, kind_of, answer_floats, set_of, number_at, floats_put, words_put, floats_without, words_without}
use Rattle.curve_set.specs.declared.layout.Head.{Head}
use Rattle.curve_set.specs.Best.{Nearest, no_row, refreshed, is_hit_at}

-- ---- open: `Matrix`, `Ray`, and else an empty set

abbrev pub open_refusal : Head → Option Refusal
open_refusal h = first_of (ray_refusals h.object_to_world h.world_to_object h.ray)

unfoldable pub open_answer : Head → Result (Unit {0}) Refusal
open_answer h = told (open_refusal h) (Ok tt)

unfoldable pub open_floats : List Float → Head → List Float
open_floats f h = told_by (λ _. f) (open_refusal h) (floats_opened f h)

unfoldable pub open_words : List ℕ → Head → List ℕ
open_words w h = told_by (λ _. w) (open_refusal h) (words_opened w h)

-- ---- add

-- `nearest` over one curve along the ray of a set
unfoldable pub nearest_along : Head → List Float → Nearest
nearest_along h c = nearest_of c h.object_to_world h.world_to_object h.reverse h.ray

abbrev pub own_answer_of : Nearest → Result Answer Refusal
own_answer_of (Ok hit) = Ok (option_map (λ x. x.0) hit)
own_answer_of (Err reason) = Err reason

-- a curve's own answer
abbrev pub own_of : Head → List Float → Result Answer Refusal
own_of h c = own_answer_of (nearest_along h c)

abbrev pub is_bad : List Float → Bool
is_bad c = not (is_curve c)

abbrev pub add_told : Result Answer Refusal → Result (Unit {0}) Refusal
add_told (Err reason) = Err reason
add_told (Ok a) = Ok tt

module _ (f : List Float) (w : List ℕ) (number : ℕ) (c : List Float) where
  -- `Curve`, `NumberPresent`, `SetFull`, and what `nearest` refuses: over lists that an open wrote `ZeroWeight` to `ZeroNormal`, over others `Matrix` and `Ray` too
  unfoldable pub add_result : Result Answer Refusal
  add_result = adding size is_bad (own_of (head_of f w)) (set_of f w) number c

  unfoldable pub add_answer : Result (Unit {0}) Refusal
  add_answer = add_told add_result

  unfoldable pub add_floats : List Float
  add_floats = either f (λ a. floats_put f (count_of w) c (answer_floats a)) add_result

  unfoldable pub add_words : List ℕ
  add_words = either w (λ a. refreshed (floats_put f (count_of w) c (answer_floats a)) (counted (words_put w (count_of w) number (kind_of a)) (count_of w + 1))) add_result

-- ---- remove

module _ (f : List Float) (w : List ℕ) (number : ℕ) where
  abbrev pub is_there : Bool
  is_there = has (named number) (set_of f w)

  abbrev pub remove_place : ℕ
  remove_place = position_or_len (named number) (set_of f w)

  unfoldable pub remove_answer : Result (Unit {0}) Refusal
  remove_answer = cond is_there (Ok tt) (Err NumberMissing)

  unfoldable pub remove_floats : List Float
  remove_floats = cond is_there (floats_without f remove_place (count_of w)) f

  unfoldable pub remove_words : List ℕ
  remove_words = cond is_there (refreshed (floats_without f remove_place (count_of w)) (words_without w remove_place (count_of w))) w

-- ---- nearest

-- a hit with its curve's number, or a miss
abbrev pub Shown : Type 0
Shown = Option (SurfaceInteraction × ℕ)

abbrev pub shown : ℕ → Answer → Shown
shown number None = None
shown number (Some h) = Some (h, number)

abbrev pub shown_by : Kept → Shown
shown_by r = shown r.number r.answer

-- what the kept place shows; one that is no row's shows a miss
abbrev pub shown_at : ℕ → List Kept → Shown
shown_at zero s = None
shown_at (suc k) s = shown_by (get_or s k no_row)

unfoldable pub nearest_in : List Float → List ℕ → Shown
nearest_in f w = shown_at (get_or w 1 0) (set_of f w)

-- the same by the place, as the code reads it
unfoldable pub shown_in : List Float → List ℕ → ℕ → Shown
shown_in f w i = cond (is_hit_at w i) (Some (record_from (take record_size (drop (head_floats + curve_room + i * row_floats) f)), number_at w i)) None
