-- The nearest over a list of curves, by curves, levels and numbers and not by the walk. Definitions only.
-- Which leaf decides in one curve is `leaf_by Nearest` of `walk`: the first open one that passes with no frame, or else the nearest, the first of those as near.
use Rattle.std.specs.Prelude.{ℕ, ◌/◌, ◌%◌, Bool, true, false, not, cond, List, ◌∷◌, eqb, Float, length, Option, Some, None, Result, Ok, Err}
use Rattle.std.specs.Float.{nan}
use Rattle.std.specs.Float.Ieee.{lt}
use Rattle.geometry.specs.declared.ray.Ray.{Ray}
use Rattle.matrix.specs.declared.Matrix4x4.{Matrix4x4}
use Rattle.limits.specs.declared.refusal.Refusal.{Refusal}
use Rattle.limits.specs.declared.refusal.Refusal.TheVariants as refusal
use Rattle.limits.specs.Refused.{Table, first_of, told}
use Rattle.limits.specs.Ray.{ray_refusals}
use Rattle.bisection.specs.Below.{or_else, at_or, first_below, best_below}
use Rattle.curve.specs.declared.curve.Curve.{Curve}
use Rattle.curve.specs.Layout.{floats, curve_from, curve_at}
use Rattle.curve.specs.Curve.{lent_refusals}
use Rattle.frame.specs.declared.frame.Aim.{Aim}
use Rattle.frame.specs.declared.frame.Framed.{Framed}
use Rattle.frame.specs.Frame.{aimed_of, with_aim}
use Rattle.overlap.specs.Depth.{depth_of}
use Rattle.overlap.specs.Subcurve.{whole_of}
use Rattle.leaf.specs.declared.leaf.Crossing.{Crossing}
use Rattle.leaf.specs.declared.leaf.Frame.{Frame}
use Rattle.leaf.specs.Leaf.{Leaf}
use Rattle.leaf.specs.Record.{flips_of, record_of}
use Rattle.interaction.specs.declared.SurfaceInteraction.{SurfaceInteraction}
use Rattle.walk.specs.declared.rule.Rule.TheVariants as rule
use Rattle.walk.specs.Walk.{leaf_by}

-- ---- an answer

-- a hit's record, and the number of its curve in the list
abbrev pub Hit : Type 0
Hit = SurfaceInteraction × ℕ

-- a hit, a miss, or a refusal
abbrev pub Nearest : Type 0
Nearest = Result (Option Hit) Refusal

abbrev pub is_hit : Nearest → Bool
is_hit (Ok (Some h)) = true
is_hit (Ok None) = false
is_hit (Err reason) = false

abbrev pub is_refused : Nearest → Bool
is_refused (Ok h) = false
is_refused (Err reason) = true

-- a hit's distance
abbrev pub distance_in : Nearest → Float
distance_in (Ok (Some h)) = h.0.t_hit
distance_in (Ok None) = nan
distance_in (Err reason) = nan

-- Of the answers 0 to n - 1: the first refusal; with none the nearest hit, the first of those as near; else a miss.
unfoldable pub among : (ℕ → Nearest) → ℕ → Nearest
among answer n =
    at_or answer (Ok None) (or_else (first_below n (λ k. is_refused (answer k))) (best_below (λ j i. lt (distance_in (answer j)) (distance_in (answer i))) n (λ k. is_hit (answer k))))

-- Of two hits, one behind the other: the first, as long as the second is not nearer.
unfoldable pub nearer_of : Option Hit → Option Hit → Option Hit
nearer_of None b = b
nearer_of (Some h) (Some g) = cond (lt g.0.t_hit h.0.t_hit) (Some g) (Some h)
nearer_of (Some h) None = Some h

-- Of two answers, one behind the other: a refusal stands, and a hit as long as the next is not nearer.
unfoldable pub joined : Nearest → Nearest → Nearest
joined (Err reason) b = Err reason
joined (Ok a) (Ok b) = Ok (nearer_of a b)
joined (Ok a) (Err reason) = Err reason

-- the answer of one curve, as number n of a list
abbrev pub as_number : ℕ → Nearest → Nearest
as_number n (Ok (Some h)) = Ok (Some (h.0, n))
as_number n (Ok None) = Ok None
as_number n (Err reason) = Err reason

-- ---- one curve, as number k

-- what a leaf that passes gives, for the ray in the object's frame: its record, or why there is none
abbrev pub hit_answer : Curve → Bool → ℕ → Ray → Crossing → Result Frame Refusal → Nearest
hit_answer c flip k ray at (Ok f) = Ok (Some (record_of c ray flip at f, k))
hit_answer c flip k ray at (Err reason) = Err reason

-- and any leaf
unfoldable pub leaf_answer : Curve → Bool → ℕ → Ray → Leaf → Nearest
leaf_answer c flip k ray (Some m) = hit_answer c flip k ray m.at m.frame
leaf_answer c flip k ray None = Ok None

unfoldable pub framed_answer : Curve → Bool → ℕ → Result Framed Refusal → Nearest
framed_answer c flip k (Ok f) = leaf_answer c flip k f.ray (leaf_by rule.Nearest c f.view (whole_of c f.cubic) (depth_of c f.cubic))
framed_answer c flip k (Err reason) = Err reason

module _ (flip : Bool) (aimed : Option Aim) where
  -- 9, then 12 and 13 as the Rust meets them, then its leaves: `with_aim c (aimed_of w2o r)` is `framed_curve c w2o r`
  unfoldable pub answer_of : ℕ → List Float → Nearest
  answer_of k l = told (first_of (lent_refusals l)) (framed_answer (curve_from l) flip k (with_aim (curve_from l) aimed))

  -- ---- the list

  unfoldable pub answer_at : List Float → ℕ → Nearest
  answer_at list k = answer_of k (curve_at list k)

  unfoldable pub nearest_aimed : List Float → Nearest
  nearest_aimed list = among (answer_at list) (length list / floats)

-- ---- the call

-- 19, 10, 11
unfoldable pub nearest_refusals : List Float → Matrix4x4 → Matrix4x4 → Ray → Table
nearest_refusals list o2w w2o r = (not (eqb (length list % floats) 0), refusal.ListLength) ∷ ray_refusals o2w w2o r

unfoldable pub nearest_of : List Float → Matrix4x4 → Matrix4x4 → Bool → Ray → Nearest
nearest_of list o2w w2o reverse r = told (first_of (nearest_refusals list o2w w2o r)) (nearest_aimed (flips_of reverse o2w) (aimed_of w2o r) list)
