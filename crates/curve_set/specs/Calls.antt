-- Lists of calls on the two lists of a set, what is present after them, and the nearest worked out afresh. Definitions only.
use Rattle.std.specs.Prelude.{Bool, true, false, cond, List, [], ◌∷◌, ◌++◌, ◌≡◌, ℕ, Float, length, get_or, Result, Ok, Err, option_map}
use Rattle.limits.specs.declared.refusal.Refusal.{Refusal}
use Rattle.nearest.specs.Nearest.{nearest_of}
use Rattle.curve_set.specs.Kept.{Change, add, remove, present}
use Rattle.curve_set.specs.Layout.{set_floats, set_words, Kept, set_of}
use Rattle.curve_set.specs.declared.layout.Head.{Head}
use Rattle.curve_set.specs.Best.{Nearest}
use Rattle.curve_set.specs.Set.{Shown, open_floats, open_words, add_answer, add_floats, add_words, remove_answer, remove_floats, remove_words}
use Rattle.curve_set.specs.Lent.{Lent, lent}

-- they are as long as their types say
pub record Sized (l : Lent) : Type 0 where
  pub floats : length l.floats ≡ set_floats
  pub words : length l.words ≡ set_words

abbrev pub view_of : Lent → List Kept
view_of l = set_of l.floats l.words

-- ---- the calls

abbrev pub opened : Head → Lent → Lent
opened h l = lent (open_floats l.floats h) (open_words l.words h)

abbrev pub answer_to : Change (List Float) → Lent → Result (Unit {0}) Refusal
answer_to (add n c) l = add_answer l.floats l.words n c
answer_to (remove n) l = remove_answer l.floats l.words n

abbrev pub changed_by : Change (List Float) → Lent → Lent
changed_by (add n c) l = lent (add_floats l.floats l.words n c) (add_words l.floats l.words n c)
changed_by (remove n) l = lent (remove_floats l.floats l.words n) (remove_words l.floats l.words n)

-- one call behind the other
unfoldable pub changes : List (Change (List Float)) → Lent → Lent
changes [] l = l
changes (c ∷ cs) l = changes cs (changed_by c l)

-- what each answers
unfoldable pub answers : List (Change (List Float)) → Lent → List (Result (Unit {0}) Refusal)
answers [] l = []
answers (c ∷ cs) l = answer_to c l ∷ answers cs (changed_by c l)

abbrev pub is_done : Result (Unit {0}) Refusal → Bool
is_done (Ok done) = true
is_done (Err reason) = false

-- those of them that are not refused
unfoldable pub accepted : List (Change (List Float)) → Lent → List (Change (List Float))
accepted [] l = []
accepted (c ∷ cs) l = cond (is_done (answer_to c l)) (c ∷ accepted cs (changed_by c l)) (accepted cs (changed_by c l))

-- the numbers and curves that are present then, in the order of adding
unfoldable pub present_after : List (Change (List Float)) → Lent → List (ℕ × List Float)
present_after cs l = present (accepted cs l) []

-- ---- afresh

-- the curves one behind the other, as `nearest` takes them
unfoldable pub list_of : List (ℕ × List Float) → List Float
list_of [] = []
list_of (x ∷ l) = x.1 ++ list_of l

-- a curve's number in place of its place in the list
abbrev pub numbered : List (ℕ × List Float) → Nearest → Nearest
numbered l (Ok hit) = Ok (option_map (λ x. (x.0, (get_or l x.1 (0, [])).0)) hit)
numbered l (Err reason) = Err reason

-- `nearest` over the curves that are present, each under its number
unfoldable pub nearest_afresh : Head → List (ℕ × List Float) → Nearest
nearest_afresh h l = numbered l (nearest_of (list_of l) h.object_to_world h.world_to_object h.reverse h.ray)

-- the answer of a set, as one of `nearest`: it is no refusal
abbrev pub as_nearest : Shown → Nearest
as_nearest shown = Ok shown
