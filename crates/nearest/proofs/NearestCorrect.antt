-- Every answer of `nearest` is right (`Correct`, in `specs/Correct.antt`). Assumes nothing.
use mathlib.Core.Bool.{Bool, true, false, false≢true, true≢false}
use mathlib.Core.List.{List}
use mathlib.Core.Logic.{◌⊎◌, inl, inr, ⊎_elim}
use mathlib.Core.Option.{Option, none, some}
use mathlib.Core.Path.{◌≡◌, refl, sym, ap, subst, ◌∙◌}
use Prim.Native.Nat.{ℕ, ◌/◌, ◌<◌}
use lib.Ieee.{Float, is_nan, lt}
use lib.ListN.{length}
use Rattle.float.proofs.Order.{lt_trans, not_lt_trans, lt_asym, lt_itself}
use Rattle.geometry.specs.declared.ray.Ray.{Ray}
use Rattle.matrix.specs.declared.Matrix4x4.{Matrix4x4}
use Rattle.std.specs.Prelude.{Some, None, Result, Ok, Err}
use Rattle.std.specs.Prelude as std
use Rattle.limits.specs.declared.refusal.Refusal.{Refusal}
use Rattle.limits.specs.Refused.{first_of, told}
use Rattle.bisection.specs.Below.{or_else, at_or, first_below, best_below}
use Rattle.bisection.proofs.Below.{IsFirst, IsBest, cases, first_is, best_is}
use Rattle.curve.specs.declared.curve.Curve.{Curve}
use Rattle.curve.specs.Curve.{lent_refusals}
use Rattle.curve.specs.Layout.{floats, curve_from, curve_at}
use Rattle.frame.specs.declared.frame.Framed.{Framed}
use Rattle.frame.specs.Frame.{aimed_of, with_aim, framed_curve}
use Rattle.overlap.specs.Depth.{depth_of}
use Rattle.overlap.specs.Subcurve.{whole_of}
use Rattle.leaf.specs.declared.leaf.Crossing.{Crossing}
use Rattle.leaf.specs.declared.leaf.Frame.{Frame}
use Rattle.leaf.specs.Leaf.{Leaf, with_frame}
use Rattle.leaf.specs.Record.{flips_of, record_of}
use Rattle.interaction.specs.declared.SurfaceInteraction.{SurfaceInteraction}
use Rattle.walk.specs.declared.rule.Rule.TheVariants as rule
use Rattle.walk.specs.Leaves.{leaf_at}
use Rattle.walk.specs.Rule.{passes, distance_of, counts}
use Rattle.walk.specs.Walk.{leaf_by}
use Rattle.nearest.specs.Correct.{OpenLeaf, IsRecord, Before, framed_at, LeafIn, NearestIs, refusals, Correct}
use Rattle.nearest.specs.Nearest.{Nearest, is_hit, is_refused, distance_in, among, hit_answer, leaf_answer, framed_answer, answer_of, answer_at, nearest_aimed, nearest_refusals, nearest_of}
use Rattle.nearest.proofs.FirstRefusal.{refusal_in, refusal-first}
use Rattle.nearest.proofs.LeafSays.{counts-number, uncounted_not_below, MetSays, Says, leaf_says}

-- whether a leaf that passes counts
counted? : (l : Leaf) → (counts rule.Nearest l ≡ true) ⊎ (counts rule.Nearest l ≡ false)
counted? l = go (counts rule.Nearest l)
  where
    go : (b : Bool) → (b ≡ true) ⊎ (b ≡ false)
    go true = inl refl
    go false = inr refl

-- a lies before c, and b no nearer than a to .. c: b lies behind a
farther : (a b c : Float) → is_nan b ≡ false → lt a c ≡ true → lt b c ≡ false → lt a b ≡ true
farther a b c n h k = go (lt a b) refl
  where
    go : (t : Bool) → lt a b ≡ t → t ≡ true
    go true e = refl
    go false e = absurd (false≢true (sym (not_lt_trans a b c n e k) ∙ h))

-- ---- one curve

module _ (c : Curve) (flip : Bool) (k : ℕ) where
  -- a hit is on the leaf i: no other lies nearer, and each before it that counts lies farther
  pub record CurveHit (f : Result Framed Refusal) (h : SurfaceInteraction) : Type 0 where
    pub i : ℕ
    pub x : Crossing
    pub frame : Frame
    pub leaf : OpenLeaf c f i (with_frame x frame)
    pub record_is : IsRecord c flip f x frame h
    pub distance_is : h.t_hit ≡ x.t
    pub is_number : is_nan x.t ≡ false
    pub none_nearer : (j : ℕ) (l : Leaf) → OpenLeaf c f j l → counts rule.Nearest l ≡ true → lt (distance_of l) x.t ≡ false
    pub earlier_farther : (j : ℕ) (l : Leaf) → OpenLeaf c f j l → j < i → counts rule.Nearest l ≡ true → lt x.t (distance_of l) ≡ true

  abbrev CurveSays : Result Framed Refusal → Nearest → Type 0
  CurveSays f (Ok (Some h)) = (h.1 ≡ k) × CurveHit f h.0
  CurveSays f (Ok None) = (j : ℕ) (l : Leaf) → OpenLeaf c f j l → counts rule.Nearest l ≡ false
  CurveSays f (Err reason) = Unit {0}

  curve_says : (f : Result Framed Refusal) → CurveSays f (framed_answer c flip k f)
  unfolding framed_answer leaf_answer record_of
  curve_says (Err reason) = tt
  curve_says (Ok f) = go (leaf_by rule.Nearest c f.view (whole_of c f.cubic) (depth_of c f.cubic)) (leaf_says c f.view (whole_of c f.cubic) (depth_of c f.cubic))
    where
      met : (x : Crossing) (g : Result Frame Refusal) → MetSays c f.view (whole_of c f.cubic) (depth_of c f.cubic) x g → CurveSays (Ok f) (hit_answer c flip k f.ray x g)
      met x (Err reason) says = tt
      met x (Ok frame) says =
          let b = says.2 in
          let here = says.1 in (
            refl,
            record {
              i = says.0;
              x = x;
              frame = frame;
              leaf = (b.0, b.1, here);
              record_is = refl;
              distance_is = refl;
              is_number = rw here at (counts-number (leaf_at c f.view (whole_of c f.cubic) (depth_of c f.cubic) says.0) b.2);
              none_nearer = λ j l o e. rw (here, o.2) at (b.3 j o.0 o.1 (rw o.2 e));
              earlier_farther = λ j l o less e. rw (here, o.2) at (b.4 j less o.1 (rw o.2 e));
            },
          )

      go : (l : Leaf) → Says c f.view (whole_of c f.cubic) (depth_of c f.cubic) l → CurveSays (Ok f) (leaf_answer c flip k f.ray l)
      go (Some m) says = met m.at m.frame says
      go None says = λ j l o. rw o.2 at (says j o.0 o.1)

-- ---- the list

module _ (list : List Float) (w2o : Matrix4x4) (r : Ray) (flip : Bool) where
  abbrev answer : ℕ → Nearest
  answer = answer_at flip (aimed_of w2o r) list

  abbrev curve : ℕ → Curve
  curve k = curve_from (curve_at list k)

  abbrev n : ℕ
  n = length list / floats

  answer_says : (k : ℕ) → CurveSays (curve k) flip k (framed_at list w2o r k) (answer k)
  unfolding answer_at answer_of framed_curve
  answer_says k = go (first_of (lent_refusals (curve_at list k))) (curve_says (curve k) flip k (with_aim (curve k) (aimed_of w2o r)))
    where
      go : (o : std.Option Refusal) → CurveSays (curve k) flip k (with_aim (curve k) (aimed_of w2o r)) (framed_answer (curve k) flip k (with_aim (curve k) (aimed_of w2o r)))
          → CurveSays (curve k) flip k (with_aim (curve k) (aimed_of w2o r)) (told o (framed_answer (curve k) flip k (with_aim (curve k) (aimed_of w2o r))))
      go None says = says
      go (Some reason) says = tt

  abbrev nearer : ℕ → ℕ → Bool
  nearer j i = lt (distance_in (answer j)) (distance_in (answer i))

  hit_number : (k : ℕ) → is_hit (answer k) ≡ true → is_nan (distance_in (answer k)) ≡ false
  hit_number k = go (answer k) (answer_says k)
    where
      go : (a : Nearest) → CurveSays (curve k) flip k (framed_at list w2o r k) a → is_hit a ≡ true → is_nan (distance_in a) ≡ false
      go (Ok (Some h)) says e = rw says.1.distance_is says.1.is_number
      go (Ok None) says e = absurd (false≢true e)
      go (Err reason) says e = absurd (false≢true e)

  best : IsBest nearer (λ k. is_hit (answer k)) n (best_below nearer n (λ k. is_hit (answer k)))
  best = best_is nearer (λ k. is_hit (answer k)) (λ a b c p. lt_trans _ _ _) (λ a b c p. not_lt_trans _ _ _ (hit_number b p)) n

  -- ---- a list of which no curve is refused

  module _ (passed : (k : ℕ) → k < n → is_refused (answer k) ≡ false) where
    -- a curve with a leaf that counts is hit, no farther than that leaf
    counted_hit : (k j : ℕ) (l : Leaf) → k < n → OpenLeaf (curve k) (framed_at list w2o r k) j l → counts rule.Nearest l ≡ true → (is_hit (answer k) ≡ true) × (lt (distance_of l) (distance_in (answer k)) ≡ false)
    counted_hit k j l less o e = go (answer k) (answer_says k) (passed k less)
      where
        go : (a : Nearest) → CurveSays (curve k) flip k (framed_at list w2o r k) a → is_refused a ≡ false → (is_hit a ≡ true) × (lt (distance_of l) (distance_in a) ≡ false)
        go (Ok (Some h)) says p = (refl, rw says.1.distance_is (says.1.none_nearer j l o e))
        go (Ok None) says p = absurd (true≢false (sym e ∙ says j l o))
        go (Err reason) says p = absurd (true≢false p)

    module _ (k : ℕ) (h : SurfaceInteraction) (is-hit : answer k ≡ Ok (Some (h, k))) (chosen : IsBest nearer (λ k. is_hit (answer k)) n (some k)) (hit : CurveHit (curve k) flip k (framed_at list w2o r k) h) where
      at-distance : distance_in (answer k) ≡ hit.x.t
      at-distance = ap distance_in is-hit ∙ hit.distance_is

      -- a curve that is hit lies no nearer, and one before it farther
      no_nearer : (k' : ℕ) → k' < n → is_hit (answer k') ≡ true → nearer k' k ≡ false
      no_nearer k' less e = ⊎_elim (λ same. rw same (lt_itself _)) (⊎_elim (λ before. lt_asym _ _ (chosen.2 k' before e)) (λ behind. chosen.3 k' behind less e)) (cases k' k)

      none_nearer : (k' i' : ℕ) (l : Leaf) → LeafIn list w2o r k' i' l → passes l ≡ true → lt (distance_of l) hit.x.t ≡ false
      none_nearer k' i' l at p = ⊎_elim counts_so (uncounted_not_below l _ p) (counted? l)
        where
          counts_so : counts rule.Nearest l ≡ true → lt (distance_of l) hit.x.t ≡ false
          counts_so e =
              let there = counted_hit k' i' l at.0 at.1 e in
              rw (← at-distance) (not_lt_trans (distance_of l) (distance_in (answer k')) (distance_in (answer k)) (hit_number k' there.0) there.1 (no_nearer k' at.0 there.0))

      earlier_farther : (k' i' : ℕ) (l : Leaf) → LeafIn list w2o r k' i' l → Before k' i' k hit.i → counts rule.Nearest l ≡ true → lt hit.x.t (distance_of l) ≡ true
      earlier_farther k' i' l at (inl before) e =
          let there = counted_hit k' i' l at.0 at.1 e in
          rw (← at-distance) (farther (distance_in (answer k)) (distance_of l) (distance_in (answer k')) (counts-number l e) (chosen.2 k' before there.0) there.1)
      earlier_farther k' i' l at (inr (same, before)) e = hit.earlier_farther i' l (subst (λ m. OpenLeaf (curve m) (framed_at list w2o r m) i' l) same at.1) before e

      nearest_is : NearestIs list w2o r flip h k
      nearest_is = record {
        i = hit.i;
        x = hit.x;
        frame = hit.frame;
        leaf = (chosen.0, hit.leaf);
        record_is = hit.record_is;
        is_number = hit.is_number;
        none_nearer = none_nearer;
        earlier_farther = earlier_farther;
      }

  -- what the answer of the list says
  abbrev ListSays : Nearest → Type 0
  ListSays (Ok (Some h)) = NearestIs list w2o r flip h.0 h.1
  ListSays (Ok None) = (k i : ℕ) (l : Leaf) → LeafIn list w2o r k i l → counts rule.Nearest l ≡ false
  ListSays (Err reason) = Unit {0}

  list_says : ListSays (among answer n)
  unfolding among
  list_says = go (first_below n (λ k. is_refused (answer k))) (first_is n (λ k. is_refused (answer k))) (best_below nearer n (λ k. is_hit (answer k))) best
    where
      refusing : (a : Nearest) → is_refused a ≡ true → ListSays a
      refusing (Ok h) e = absurd (false≢true e)
      refusing (Err reason) e = tt

      hitting : (k : ℕ) → ((k : ℕ) → k < n → is_refused (answer k) ≡ false) → IsBest nearer (λ k. is_hit (answer k)) n (some k) → (a : Nearest) → answer k ≡ a → CurveSays (curve k) flip k (framed_at list w2o r k) a → is_hit a ≡ true → ListSays a
      hitting k passed chosen (Ok (Some h)) is says e = subst (λ m. NearestIs list w2o r flip h.0 m) (sym says.0) (nearest_is passed k h.0 (is ∙ ap (λ m. Ok (Some (h.0, m))) says.0) chosen says.1)
      hitting k passed chosen (Ok None) is says e = absurd (false≢true e)
      hitting k passed chosen (Err reason) is says e = absurd (false≢true e)

      go : (o : Option ℕ) → IsFirst n (λ k. is_refused (answer k)) o → (p : Option ℕ) → IsBest nearer (λ k. is_hit (answer k)) n p → ListSays (at_or answer (Ok None) (or_else o p))
      go (some k) h p h' = refusing (answer k) h.1
      go none h (some k) h' = hitting k h h' (answer k) refl (answer_says k) h'.1
      go none h none h' = λ k i l at. missing k i l at (counted? l)
        where
          missing : (k i : ℕ) (l : Leaf) → LeafIn list w2o r k i l → (counts rule.Nearest l ≡ true) ⊎ (counts rule.Nearest l ≡ false) → counts rule.Nearest l ≡ false
          missing k i l at (inl e) = absurd (true≢false (sym (counted_hit h k i l at.0 at.1 e).0 ∙ h' k at.0))
          missing k i l at (inr e) = e

-- ---- the call

module _ (list : List Float) (o2w w2o : Matrix4x4) (reverse : Bool) (r : Ray) where
  abbrev given : Nearest
  given = nearest_of list o2w w2o reverse r

  given_says : ListSays list w2o r (flips_of reverse o2w) given
  unfolding nearest_of nearest_aimed
  given_says = go (first_of (nearest_refusals list o2w w2o r)) (list_says list w2o r (flips_of reverse o2w))
    where
      go : (m : std.Option Refusal) → ListSays list w2o r (flips_of reverse o2w) (among (answer_at (flips_of reverse o2w) (aimed_of w2o r) list) (length list / floats))
          → ListSays list w2o r (flips_of reverse o2w) (told m (among (answer_at (flips_of reverse o2w) (aimed_of w2o r) list) (length list / floats)))
      go None says = says
      go (Some reason) says = tt

  refusal-told : (a : Nearest) → given ≡ a → first_of (refusals list o2w w2o r) ≡ refusal_in a
  refusal-told a e = sym (refusal-first list o2w w2o reverse r) ∙ ap refusal_in e

  pub nearest_correct : Correct list o2w w2o reverse r given
  unfolding counts
  nearest_correct = record {
    refuses = λ reason. ((λ e. refusal-told (Err reason) e), told-reason reason given refl);
    hits = λ h k e. subst (ListSays list w2o r (flips_of reverse o2w)) e given_says;
    misses = ((λ e. (refusal-told (Ok None) e, subst (ListSays list w2o r (flips_of reverse o2w)) e given_says)), λ h. missed given refl given_says h.0 h.1);
  }
    where
      told-reason : (reason : Refusal) (a : Nearest) → given ≡ a → first_of (refusals list o2w w2o r) ≡ Some reason → a ≡ Err reason
      told-reason reason (Ok h) e f = let none = refusal-told (Ok h) e in absurd (cc)
      told-reason reason (Err other) e f = let same : other ≡ reason = (let told = refusal-told (Err other) e in cc) in ap Err same

      missed : (a : Nearest) → given ≡ a → ListSays list w2o r (flips_of reverse o2w) a → first_of (refusals list o2w w2o r) ≡ None
          → ((k i : ℕ) (l : Leaf) → LeafIn list w2o r k i l → counts rule.Nearest l ≡ false) → a ≡ Ok None
      missed (Ok (Some h)) e says f uncounted = absurd (counted-not says.is_number (uncounted h.1 says.i (with_frame says.x says.frame) says.leaf))
        where
          counted-not : is_nan says.x.t ≡ false → counts rule.Nearest (with_frame says.x says.frame) ≡ false → ⊥
          counted-not number e = false≢true (sym e ∙ rw number)
      missed (Ok None) e says f uncounted = refl
      missed (Err reason) e says f uncounted = let some = refusal-told (Err reason) e in absurd (cc)
