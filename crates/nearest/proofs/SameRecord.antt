-- Where a curve has exactly one open leaf that passes, with a frame and at a distance that is no NaN, `nearest` of that curve alone and `intersect` have the same record. Assumes nothing.
use mathlib.Core.Bool.{Bool, true, false, not, true≢false}
use mathlib.Core.List.{List}
use mathlib.Core.Option.{Option, none, some}
use mathlib.Core.Path.{◌≡◌, refl, sym, ap, ◌∙◌}
use Prim.Native.Nat.{ℕ, ◌^◌, ◌<◌, zero-le}
use native.Mathlib.Omega.{arith}
use lib.Ieee.{Float, is_nan}
use Rattle.geometry.specs.declared.ray.Ray.{Ray}
use Rattle.matrix.specs.declared.Matrix4x4.{Matrix4x4}
use Rattle.std.specs.Prelude.{Some, None, Result, Ok, Err}
use Rattle.limits.specs.declared.refusal.Refusal.{Refusal}
use Rattle.limits.specs.declared.refusal.Refusal.TheVariants as refusal
use Rattle.limits.specs.Refused.{first_of}
use Rattle.limits.specs.Ray.{ray_refusals}
use Rattle.limits.proofs.Told.{passed}
use Rattle.bisection.specs.Below.{or_else}
use Rattle.curve.specs.declared.curve.Curve.{Curve}
use Rattle.curve.specs.Curve.{is_curve, lent_refusals}
use Rattle.curve.specs.Layout.{curve_from}
use Rattle.curve.proofs.Records.{curve_length}
use Rattle.frame.specs.declared.frame.Framed.{Framed}
use Rattle.frame.specs.declared.frame.View.{View}
use Rattle.frame.specs.Frame.{aimed_of, framed_curve}
use Rattle.overlap.specs.declared.subcurve.Subcurve.{Subcurve}
use Rattle.overlap.specs.Depth.{depth_of}
use Rattle.overlap.specs.Subcurve.{whole_of}
use Rattle.leaf.specs.declared.leaf.Crossing.{Crossing}
use Rattle.leaf.specs.declared.leaf.Frame.{Frame}
use Rattle.leaf.specs.Leaf.{Leaf, with_frame}
use Rattle.leaf.specs.Record.{flips_of, record_of}
use Rattle.interaction.specs.declared.SurfaceInteraction.{SurfaceInteraction}
use Rattle.walk.specs.declared.rule.Rule.TheVariants as rule
use Rattle.walk.specs.Leaves.{open_at, leaf_at}
use Rattle.walk.specs.Rule.{passes, counts}
use Rattle.walk.specs.Walk.{leaf_by}
use Rattle.intersect.specs.declared.Intersection.TheVariants as met
use Rattle.intersect.specs.Correct.{FirstIs, LastIs}
use Rattle.intersect.specs.Intersect.{stop_of, last_of, count_of, replied_at, intersect_whole, intersect_framed, intersect_refusals, intersect_of}
use Rattle.intersect.proofs.ReplySays.{stop_passes, decided}
use Rattle.nearest.specs.Correct.{OpenLeaf}
use Rattle.nearest.specs.Nearest.{leaf_answer, framed_answer, answer_of, nearest_of}
use Rattle.nearest.proofs.LeafSays.{MetSays, Says, leaf_says}
use Rattle.nearest.proofs.OneMore.{alone, whole-list}

-- ---- the leaves

module _ (c : Curve) (v : View) (s : Subcurve) (d : ℕ) (i : ℕ) (x : Crossing) (f : Frame)
    (below : i < 2 ^ d) (is_open_lem : open_at c v s d i ≡ true) (answers : leaf_at c v s d i ≡ with_frame x f)
    (only : (j : ℕ) → j < 2 ^ d → open_at c v s d j ≡ true → passes (leaf_at c v s d j) ≡ true → j ≡ i) where
  -- it is the stop, or there is none and it is the last
  decides : (o p : Option ℕ) → FirstIs c v s d o → LastIs c v s d p → or_else o p ≡ some i
  decides (some j) p h h' = ap some (only j h.0.0 h.0.1 (stop_passes (leaf_at c v s d j) h.0.2))
  decides none (some j) h h' = ap some (only j h'.0.0 h'.0.1 h'.0.2)
  decides none none h h' = absurd (true≢false (sym (ap passes answers) ∙ h' i zero-le below is_open_lem))

  replied : (ray : Ray) (flip : Bool) → replied_at c ray flip v s d ≡ Ok (met.Hit (record_of c ray flip x f) (count_of c v s d))
  unfolding replied_at
  replied ray flip = let says = decided c v s d ray flip in rw (decides (stop_of c v s d) (last_of c v s d) says.stop_is says.last_is, answers)

  -- and it is the nearest
  nearest-leaf : is_nan x.t ≡ false → leaf_by rule.Nearest c v s d ≡ with_frame x f
  unfolding counts
  nearest-leaf number = go (leaf_by rule.Nearest c v s d) (leaf_says c v s d)
    where
      this : (j : ℕ) (l : Leaf) → j < 2 ^ d → open_at c v s d j ≡ true → leaf_at c v s d j ≡ l → passes l ≡ true → l ≡ with_frame x f
      this j l less o e p = sym e ∙ ap (leaf_at c v s d) (only j less o (ap passes e ∙ p)) ∙ answers

      met : (x' : Crossing) (g : Result Frame Refusal) → MetSays c v s d x' g → Some (record { at = x'; frame = g }) ≡ with_frame x f
      met x' (Ok f') says = this says.0 _ says.2.0 says.2.1 says.1 refl
      met x' (Err reason) says = this says.0 _ says.1 says.2 says.3 refl

      go : (l : Leaf) → Says c v s d l → l ≡ with_frame x f
      go (Some m) says = met m.at m.frame says
      go None says = absurd (true≢false (sym (counted number) ∙ rw answers at (says i below is_open_lem)))
        where
          counted : is_nan x.t ≡ false → counts rule.Nearest (with_frame x f) ≡ true
          counted e = rw e

-- ---- the call

module _ (l : List Float) (o2w w2o : Matrix4x4) (reverse : Bool) (r : Ray) (i : ℕ) (x : Crossing) (f : Frame) where
  abbrev SameRecord : Type 0
  SameRecord = (h : SurfaceInteraction) × (n : ℕ) × (intersect_of l o2w w2o reverse r ≡ Ok (met.Hit h n)) × (nearest_of l o2w w2o reverse r ≡ Ok (Some (h, 0)))

  module _ (no-refusal : first_of (intersect_refusals l o2w w2o r) ≡ None) where
    is_curve_lem : is_curve l ≡ true
    unfolding intersect_refusals
    is_curve_lem = go (is_curve l) (passed (not (is_curve l)) refusal.Curve (ray_refusals o2w w2o r) no-refusal).0
      where
        go : (b : Bool) → not b ≡ false → b ≡ true
        go true e = refl
        go false e = absurd (true≢false e)

    rays_pass : first_of (ray_refusals o2w w2o r) ≡ None
    unfolding intersect_refusals
    rays_pass = (passed (not (is_curve l)) refusal.Curve (ray_refusals o2w w2o r) no-refusal).1

    intersect_is : (g : Result Framed Refusal) → framed_curve (curve_from l) w2o r ≡ g → intersect_of l o2w w2o reverse r ≡ intersect_framed (curve_from l) (flips_of reverse o2w) g
    unfolding intersect_of
    intersect_is g e = rw (no-refusal, e)

    nearest_is : (g : Result Framed Refusal) → framed_curve (curve_from l) w2o r ≡ g → nearest_of l o2w w2o reverse r ≡ framed_answer (curve_from l) (flips_of reverse o2w) 0 g
    unfolding nearest_of answer_of framed_curve lent_refusals first_of
    nearest_is g e =
        let one = curve_length l is_curve_lem in
        rw (whole-list l 1 o2w w2o r (omega arith), rays_pass, alone (flips_of reverse o2w) (aimed_of w2o r) l one, is_curve_lem, e)

    pub same_record : OpenLeaf (curve_from l) (framed_curve (curve_from l) w2o r) i (with_frame x f) → is_nan x.t ≡ false
        → ((j : ℕ) (leaf : Leaf) → OpenLeaf (curve_from l) (framed_curve (curve_from l) w2o r) j leaf → passes leaf ≡ true → j ≡ i) → SameRecord
    unfolding intersect_framed intersect_whole framed_answer leaf_answer whole_of
    same_record = go (framed_curve (curve_from l) w2o r) refl
      where
        go : (g : Result Framed Refusal) → framed_curve (curve_from l) w2o r ≡ g → OpenLeaf (curve_from l) g i (with_frame x f) → is_nan x.t ≡ false
            → ((j : ℕ) (leaf : Leaf) → OpenLeaf (curve_from l) g j leaf → passes leaf ≡ true → j ≡ i) → SameRecord
        go (Err reason) e at number only = absurd at
        go (Ok g) e at number only =
            let c = curve_from l in
            let s = whole_of c g.cubic in
            let d = depth_of c g.cubic in
            let flip = flips_of reverse o2w in
            let alone_here : (j : ℕ) → j < 2 ^ d → open_at c g.view s d j ≡ true → passes (leaf_at c g.view s d j) ≡ true → j ≡ i = λ j less o p. only j (leaf_at c g.view s d j) (less, o, refl) p in (
              record_of c g.ray flip x f,
              count_of c g.view s d,
              intersect_is (Ok g) e ∙ replied c g.view s d i x f at.0 at.1 at.2 alone_here g.ray flip,
              nearest_is (Ok g) e ∙ ap (leaf_answer c flip 0 g.ray) (nearest-leaf c g.view s d i x f at.0 at.1 at.2 alone_here number),
            )
