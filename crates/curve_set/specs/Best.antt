-- Which row has the nearest crossing, and where that is kept. Definitions only.
use Rattle.std.specs.Prelude.{Bool, cond, List, [], ◌∷◌, ℕ, suc, ◌+◌, ◌*◌, eqb, Float, length, get_or, Option, Some, None, Result, Ok}
use Rattle.std.proofs.Math.Option as math
use Rattle.std.specs.Float.{nan}
use Rattle.std.specs.Float.Ieee.{lt}
use Rattle.bisection.specs.Below.{best_below}
use Rattle.limits.specs.List.{over}
use Rattle.limits.specs.declared.refusal.Refusal.{Refusal}
use Rattle.interaction.specs.declared.SurfaceInteraction.{SurfaceInteraction}
use Rattle.nearest.specs.Nearest.{is_hit, distance_in}
use Rattle.curve_set.specs.Kept.{row_of}
use Rattle.curve_set.specs.Layout.{head_floats, head_words, curve_room, row_floats, row_words, Answer, Kept, set_of}

-- an answer of `nearest`: a hit with its curve, a miss, or a refusal
abbrev pub Nearest : Type 0
Nearest = Result (Option (SurfaceInteraction × ℕ)) Refusal

-- a set's answer as that of the curve k of a list
abbrev pub as_curve : ℕ → Answer → Nearest
as_curve k None = Ok None
as_curve k (Some h) = Ok (Some (h, k))

-- beyond the last row there is a miss
abbrev pub no_row : Kept
no_row = row_of 0 0 [] None

unfoldable pub answer_at : List Kept → ℕ → Nearest
answer_at s k = as_curve k (get_or s k no_row).answer

-- the place of the nearest, the first of those as near: as `among` has it of a list of curves
unfoldable pub best_of : List Kept → math.Option ℕ
best_of s = best_below (λ j i. lt (distance_in (answer_at s j)) (distance_in (answer_at s i))) (length s) (λ k. is_hit (answer_at s k))

-- counted from 1; 0 is none
abbrev pub word_of : math.Option ℕ → ℕ
word_of math.none = 0
word_of (math.some k) = suc k

abbrev pub place_word : Option ℕ → ℕ
place_word None = 0
place_word (Some k) = suc k

unfoldable pub best_word : List Kept → ℕ
best_word s = word_of (best_of s)

-- it is kept
unfoldable pub refreshed : List Float → List ℕ → List ℕ
refreshed f w = over w 1 (best_word (set_of f w) ∷ [])

-- ---- how the code finds it

abbrev pub is_hit_at : List ℕ → ℕ → Bool
is_hit_at w i = eqb (get_or w (head_words + 2 + i * row_words) 0) 1

abbrev pub distance_at : List Float → ℕ → Float
distance_at f i = get_or f (head_floats + curve_room + i * row_floats) nan

-- the crossing at the place p, at the distance d, behind the best so far
abbrev pub nearer : Option (ℕ × Float) → ℕ → Float → Option (ℕ × Float)
nearer None p d = Some (p, d)
nearer (Some best) p d = cond (lt d best.1) (Some (p, d)) (Some best)
