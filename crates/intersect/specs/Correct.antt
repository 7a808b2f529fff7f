-- What is right of an answer of `intersect`, with a field for each of its sentences. Definitions only: `proofs/IntersectCorrect.antt` shows that every answer is.
-- To be read beside `Intersect.antt` and `Leaves.antt` of `walk`: `open_at`, `leaf_at`, `stop_of` and `last_of` say which subcurves are open, what a leaf, or sliver, answers, and which leaf decides.
use Rattle.std.specs.Prelude.{Bool, true, false, ◌&&◌, List, [], ◌∷◌, ◌++◌, ◌↔◌, ◌⊎◌, ◌≡◌, ℕ, suc, ◌+◌, ◌-◌, ◌*◌, ◌/◌, ◌^◌, ◌≤◌, ◌<◌, Some, None, Result, Ok, Err, Float}
use Rattle.std.proofs.Math.Option.{Option, none, some}
use Rattle.geometry.specs.declared.ray.Ray.{Ray}
use Rattle.matrix.specs.declared.Matrix4x4.{Matrix4x4}
use Rattle.limits.specs.declared.refusal.Refusal.{Refusal}
use Rattle.limits.specs.declared.refusal.Refusal.TheVariants.{ZeroWeight, NoFrame}
use Rattle.limits.specs.Refused.{number_of, Table, first_of}
use Rattle.bisection.specs.Below.{count_below, sum_below}
use Rattle.bisection.specs.Nodes.{not_after}
use Rattle.bezier.specs.declared.cubic.Cubic.{Cubic}
use Rattle.curve.specs.declared.curve.Curve.{Curve}
use Rattle.curve.specs.Layout.{curve_from}
use Rattle.frame.specs.declared.frame.View.{View}
use Rattle.frame.specs.declared.frame.Framed.{Framed}
use Rattle.frame.specs.Frame.{framed_curve}
use Rattle.overlap.specs.declared.subcurve.Subcurve.{Subcurve}
use Rattle.overlap.specs.Depth.{depth_of}
use Rattle.overlap.specs.Subcurve.{whole_of}
use Rattle.leaf.specs.declared.leaf.Crossing.{Crossing}
use Rattle.leaf.specs.declared.leaf.Frame.{Frame}
use Rattle.leaf.specs.Leaf.{Leaf, with_frame, without_frame}
use Rattle.leaf.specs.Record.{flips_of, record_of}
use Rattle.walk.specs.Leaves.{subcurve_at, thrown, whole_open, open_at, leaf_at}
use Rattle.walk.specs.Rule.{passes, stops}
use Rattle.interaction.specs.declared.SurfaceInteraction.{SurfaceInteraction}
use Rattle.intersect.specs.declared.Intersection.{Intersection}
use Rattle.intersect.specs.declared.Intersection.TheVariants.{Hit, Miss}
use Rattle.intersect.specs.Answer.{met_count}
use Rattle.intersect.specs.Intersect.{stop_of, last_of, intersect_refusals}

-- neither the subcurve j of level k nor any that holds it, the whole included, is thrown out: m levels up it is number j / 2 ^ m that holds it
abbrev pub NoneThrown : Curve → View → Subcurve → ℕ → ℕ → Type 0
NoneThrown c v s k j = (whole_open c v s ≡ true) × ((m : ℕ) → m < k → thrown c v (subcurve_at s (k - m) (j / 2 ^ m)) ≡ false)

-- ---- the leaves, after d cuts

module _ (c : Curve) (v : View) (s : Subcurve) (d : ℕ) where
  -- the leaf i is open and passes the test
  abbrev pub OpenAnd : (Leaf → Bool) → ℕ → Type 0
  OpenAnd test i = (i < 2 ^ d) × (open_at c v s d i ≡ true) × (test (leaf_at c v s d i) ≡ true)

  -- no open leaf from one number up to another passes the test
  abbrev pub NoneIn : (Leaf → Bool) → ℕ → ℕ → Type 0
  NoneIn test from to = (j : ℕ) → from ≤ j → j < to → open_at c v s d j ≡ true → test (leaf_at c v s d j) ≡ false

  -- the first open leaf that stops the walk
  abbrev pub FirstIs : Option ℕ → Type 0
  FirstIs none = NoneIn stops 0 (2 ^ d)
  FirstIs (some i) = OpenAnd stops i × NoneIn stops 0 i

  -- the last open leaf that passes
  abbrev pub LastIs : Option ℕ → Type 0
  LastIs none = NoneIn passes 0 (2 ^ d)
  LastIs (some i) = OpenAnd passes i × NoneIn passes (suc i) (2 ^ d)

  -- there is a stop, and it has no frame, for the reason k
  abbrev pub StopsWith : Refusal → Type 0
  StopsWith k = (i : ℕ) × (at : Crossing) × (stop_of c v s d ≡ some i) × (leaf_at c v s d i ≡ without_frame at k)

  abbrev pub SomePasses : Type 0
  SomePasses = (i : ℕ) × OpenAnd passes i

  abbrev pub NonePasses : Type 0
  NonePasses = NoneIn passes 0 (2 ^ d)

  -- i is the stop or, with no stop, the last open leaf that passes
  abbrev pub Decides : ℕ → Type 0
  Decides i = (stop_of c v s d ≡ some i) ⊎ ((stop_of c v s d ≡ none) × (last_of c v s d ≡ some i))

  -- how many subcurves of the levels 0 to d are open and start no later than the stop, or with no stop how many are open: (k, j) starts at the leaf j * 2 ^ (d - k)
  abbrev pub open_pieces : ℕ
  open_pieces = sum_below (suc d) (λ k. count_below (2 ^ k) (λ j. open_at c v s k j && not_after (stop_of c v s d) (j * 2 ^ (d - k))))

-- ---- what the answer says

abbrev pub IsHit : Result Intersection Refusal → Type 0
IsHit r = (at : SurfaceInteraction) × (n : ℕ) × (r ≡ Ok (Hit at n))

abbrev pub IsMiss : Result Intersection Refusal → Type 0
IsMiss r = (n : ℕ) × (r ≡ Ok (Miss n))

-- The answer is right for the slivers of `whole` after d cuts. `ray` is the ray in the object's frame, and `flip` says whether normals turn: only the record asks for them.
pub record Decided (c : Curve) (ray : Ray) (flip : Bool) (v : View) (whole : Subcurve) (d : ℕ) (answer : Result Intersection Refusal) : Type 0 where
  -- "A piece is open if neither it nor any piece holding it, the whole included, is thrown out."
  pub open_is : (k j : ℕ) → (open_at c v whole k j ≡ true) ↔ NoneThrown c v whole k j
  -- "The stop is the first open passing sliver with no frame or with distance equal to 0."
  pub stop_is : FirstIs c v whole d (stop_of c v whole d)
  -- "the last open sliver that passes"
  pub last_is : LastIs c v whole d (last_of c v whole d)
  -- "The call refuses exactly when there is a stop and it has no frame, by the number .." of why that sliver has none
  pub refuses : (k : Refusal) → (answer ≡ Err k) ↔ StopsWith c v whole d k
  -- "14, 15 or 16"
  pub number : (k : Refusal) → answer ≡ Err k → (14 ≤ number_of k) × (number_of k ≤ 16)
  -- "Otherwise it is a hit exactly when some open sliver passes,"
  pub hits : ((k : Refusal) → StopsWith c v whole d k → ⊥) → IsHit answer ↔ SomePasses c v whole d
  -- "and else a miss."
  pub misses : ((k : Refusal) → StopsWith c v whole d k → ⊥) → IsMiss answer ↔ NonePasses c v whole d
  -- "The hit's record equals .. the record of the stop or, with no stop, of the last open sliver that passes."
  pub recorded : (at : SurfaceInteraction) (n : ℕ) → answer ≡ Ok (Hit at n)
      → (i : ℕ) × (x : Crossing) × (f : Frame) × Decides c v whole d i × (leaf_at c v whole d i ≡ with_frame x f) × (at ≡ record_of c ray flip x f)
  -- "The count in a hit or a miss equals the number of open pieces of the walk, of all sizes, that start no later than the stop, all of them if there is none."
  pub counted : (n : ℕ) → met_count answer ≡ Some n → n ≡ open_pieces c v whole d
  -- "It is at most 2^(d+1) - 1."
  pub count_most : (n : ℕ) → met_count answer ≡ Some n → n ≤ 2 ^ (d + 1) - 1

-- ---- the call

abbrev pub is_zero_weight : Result Framed Refusal → Bool
is_zero_weight (Err ZeroWeight) = true
is_zero_weight _ = false

abbrev pub is_zero_length : Result Framed Refusal → Bool
is_zero_length (Err NoFrame) = true
is_zero_length _ = false

-- a weight or a length of zero: `framed_curve` tells the one that the Rust meets first
abbrev pub framing_refusals : Result Framed Refusal → Table
framing_refusals f = (is_zero_weight f, ZeroWeight) ∷ (is_zero_length f, NoFrame) ∷ []

-- 9 to 13
unfoldable pub refusals : List Float → Matrix4x4 → Matrix4x4 → Ray → Table
refusals l o2w w2o r = intersect_refusals l o2w w2o r ++ framing_refusals (framed_curve (curve_from l) w2o r)

module _ (l : List Float) (o2w w2o : Matrix4x4) (reverse : Bool) (r : Ray) (answer : Result Intersection Refusal) where
  -- it is refused by the first of 9 to 13 that applies
  pub record RefusedBefore : Type 0 where
    pub reason : Refusal
    pub first : first_of (refusals l o2w w2o r) ≡ Some reason
    pub least : 9 ≤ number_of reason
    pub most : number_of reason ≤ 13
    pub refused : answer ≡ Err reason

  pub record Answered : Type 0 where
    -- "For every piece, pair of matrices, reverse flag and ray that pass refusals 9 to 13:"
    pub passed : first_of (refusals l o2w w2o r) ≡ None
    -- "depth d, the 2^d slivers, which are open, which pass and which, if any, is the stop, follow from these alone": all are functions of the curve, `view`, `whole` and `d`
    pub ray : Ray
    pub view : View
    pub cp : Cubic
    pub whole : Subcurve
    pub d : ℕ
    pub framed_is : framed_curve (curve_from l) w2o r ≡ Ok (record { ray = ray; view = view; cubic = cp })
    pub whole_is : whole ≡ whole_of (curve_from l) cp
    pub depth_is : d ≡ depth_of (curve_from l) cp
    pub depth_most : d ≤ 10
    pub decided : Decided (curve_from l) ray (flips_of reverse o2w) view whole d answer
    -- so the count is at most 2,047
    pub looked_most : (n : ℕ) → met_count answer ≡ Some n → n ≤ 2047

  -- an answer of `intersect` to these is right
  abbrev pub Correct : Type 0
  Correct = RefusedBefore ⊎ Answered
