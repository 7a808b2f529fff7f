-- What is right of an answer of `nearest`. Definitions only: `proofs/NearestCorrect.antt` shows that every answer is.
-- To be read beside `Nearest.antt` and, of `walk`, `Leaves.antt` (`open_at`, `leaf_at`) and `Rule.antt`: by `counts Nearest` a leaf passes at a distance that is no NaN,
-- and by `ends Nearest` it has no frame then.
use Rattle.std.specs.Prelude.{ℕ, ◌/◌, ◌^◌, ◌<◌, Bool, true, false, ◌&&◌, List, [], ◌∷◌, ◌++◌, ◌↔◌, ◌⊎◌, ◌≡◌, Float, length, Some, None, Result, Ok, Err}
use Rattle.std.specs.Float.Ieee.{is_nan, lt}
use Rattle.geometry.specs.declared.ray.Ray.{Ray}
use Rattle.matrix.specs.declared.Matrix4x4.{Matrix4x4}
use Rattle.limits.specs.List.{up_to}
use Rattle.limits.specs.declared.refusal.Refusal.{Refusal}
use Rattle.limits.specs.Refused.{Table, first_of}
use Rattle.curve.specs.declared.curve.Curve.{Curve}
use Rattle.curve.specs.Curve.{lent_refusals}
use Rattle.curve.specs.Layout.{floats, curve_from, curve_at}
use Rattle.frame.specs.declared.frame.Framed.{Framed}
use Rattle.frame.specs.Frame.{framed_curve}
use Rattle.overlap.specs.Depth.{depth_of}
use Rattle.overlap.specs.Subcurve.{whole_of}
use Rattle.leaf.specs.declared.leaf.Crossing.{Crossing}
use Rattle.leaf.specs.declared.leaf.Frame.{Frame}
use Rattle.leaf.specs.Leaf.{Leaf, with_frame}
use Rattle.leaf.specs.Record.{flips_of, record_of}
use Rattle.interaction.specs.declared.SurfaceInteraction.{SurfaceInteraction}
use Rattle.walk.specs.declared.rule.Rule.TheVariants as rule
use Rattle.walk.specs.Leaves.{open_at, leaf_at}
use Rattle.walk.specs.Rule.{passes, distance_of, counts, ends}
use Rattle.intersect.specs.Correct.{framing_refusals}
use Rattle.nearest.specs.Nearest.{Nearest, nearest_refusals}

-- ---- the leaves

-- the leaf i of a framed curve is open, and answers l
abbrev pub OpenLeaf : Curve → Result Framed Refusal → ℕ → Leaf → Type 0
OpenLeaf c (Ok f) i l = (i < 2 ^ depth_of c f.cubic) × (open_at c f.view (whole_of c f.cubic) (depth_of c f.cubic) i ≡ true) × (leaf_at c f.view (whole_of c f.cubic) (depth_of c f.cubic) i ≡ l)
OpenLeaf c (Err reason) i l = ⊥

-- h is the record of a crossing with its frame
abbrev pub IsRecord : Curve → Bool → Result Framed Refusal → Crossing → Frame → SurfaceInteraction → Type 0
IsRecord c flip (Ok framed) x f h = h ≡ record_of c framed.ray flip x f
IsRecord c flip (Err reason) x f h = ⊥

-- the curve k and in it the leaf i come before the curve k' and in it the leaf i'
abbrev pub Before : ℕ → ℕ → ℕ → ℕ → Type 0
Before k i k' i' = (k < k') ⊎ ((k ≡ k') × (i < i'))

module _ (list : List Float) (w2o : Matrix4x4) (r : Ray) where
  abbrev pub framed_at : ℕ → Result Framed Refusal
  framed_at k = framed_curve (curve_from (curve_at list k)) w2o r

  -- the leaf i of the curve k of the list is open, and answers l
  abbrev pub LeafIn : ℕ → ℕ → Leaf → Type 0
  LeafIn k i l = (k < length list / floats) × OpenLeaf (curve_from (curve_at list k)) (framed_at k) i l

  -- a hit on the curve k with the record h is the nearest
  pub record NearestIs (flip : Bool) (h : SurfaceInteraction) (k : ℕ) : Type 0 where
    pub i : ℕ
    pub x : Crossing
    pub frame : Frame
    -- "A hit's sliver is open and passes,"
    pub leaf : LeafIn k i (with_frame x frame)
    pub record_is : IsRecord (curve_from (curve_at list k)) flip (framed_at k) x frame h
    -- "A NaN distance counts as not passing."
    pub is_number : is_nan x.t ≡ false
    -- "and no passing open sliver of any piece lies nearer,"
    pub none_nearer : (k' i' : ℕ) (l : Leaf) → LeafIn k' i' l → passes l ≡ true → lt (distance_of l) x.t ≡ false
    -- "none earlier lies as near": each that passes lies farther
    pub earlier_farther : (k' i' : ℕ) (l : Leaf) → LeafIn k' i' l → Before k' i' k i → counts rule.Nearest l ≡ true → lt x.t (distance_of l) ≡ true

-- ---- the refusals, all of them in their order

-- the refusal of a frame that is not there, where it applies
abbrev pub frame_row : Bool → Result Frame Refusal → Table
frame_row applies (Ok f) = []
frame_row applies (Err reason) = (applies, reason) ∷ []

-- a leaf's: 14, 15 or 16 where it is open, has no frame and lies at no NaN
abbrev pub leaf_row : Bool → Leaf → Table
leaf_row is_open (Some m) = frame_row (is_open && ends rule.Nearest (Some m)) m.frame
leaf_row is_open None = []

-- the leaves from 0 up
unfoldable pub leaf_refusals : Curve → Result Framed Refusal → Table
leaf_refusals c (Ok f) =
    let s = whole_of c f.cubic in
    let d = depth_of c f.cubic in
    up_to (λ i. leaf_row (open_at c f.view s d i) (leaf_at c f.view s d i)) (2 ^ d)
leaf_refusals c (Err reason) = []

-- 9, then 12 and 13 as the Rust meets them, then those of its leaves
unfoldable pub alone_refusals : Matrix4x4 → Ray → List Float → Table
alone_refusals w2o r l = let f = framed_curve (curve_from l) w2o r in lent_refusals l ++ framing_refusals f ++ leaf_refusals (curve_from l) f

-- 19, 10, 11, then curve by curve
unfoldable pub refusals : List Float → Matrix4x4 → Matrix4x4 → Ray → Table
refusals list o2w w2o r = nearest_refusals list o2w w2o r ++ up_to (λ k. alone_refusals w2o r (curve_at list k)) (length list / floats)

-- ---- the call

-- an answer of `nearest` to these is right
pub record Correct (list : List Float) (o2w w2o : Matrix4x4) (reverse : Bool) (r : Ray) (answer : Nearest) : Type 0 where
  -- "The first refusal met is the answer."
  pub refuses : (reason : Refusal) → (answer ≡ Err reason) ↔ (first_of (refusals list o2w w2o r) ≡ Some reason)
  pub hits : (h : SurfaceInteraction) (k : ℕ) → answer ≡ Ok (Some (h, k)) → NearestIs list w2o r (flips_of reverse o2w) h k
  -- "It is a miss exactly when nothing is refused and no open sliver passes."
  pub misses : (answer ≡ Ok None) ↔ ((first_of (refusals list o2w w2o r) ≡ None) × ((k i : ℕ) (l : Leaf) → LeafIn list w2o r k i l → counts rule.Nearest l ≡ false))
