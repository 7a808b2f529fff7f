-- The answer over a list with one curve more is made of the answer over the list and the answer of that curve alone. Assumes nothing.
use mathlib.Core.Bool.{Bool}
use mathlib.Core.List.{List, ◌++◌}
use mathlib.Core.Path.{◌≡◌, refl, sym, ap, ap₂, ◌∙◌}
use Prim.Native.Nat.{ℕ, zero, suc, ◌*◌, ◌/◌, ◌%◌, ◌≤◌, ◌<◌}
use native.Mathlib.Nat.{le_refl}
use native.Mathlib.Omega.{arith}
use borrow.Author.Tests.{eq-eqb}
use lib.Ieee.{Float}
use lib.ListN.{length, drop, length-append, length-drop}
use lib.Seq.{take_all, take-append-le, drop-append-le, drop-append_seam}
use Rattle.geometry.specs.declared.ray.Ray.{Ray}
use Rattle.matrix.specs.declared.Matrix4x4.{Matrix4x4}
use Rattle.std.specs.Prelude.{Option, Some, None, Result, Ok, Err}
use Rattle.limits.specs.declared.refusal.Refusal.{Refusal}
use Rattle.limits.specs.Refused.{first_of, told}
use Rattle.limits.specs.Ray.{ray_refusals}
use Rattle.curve.specs.Curve.{lent_refusals}
use Rattle.curve.specs.Layout.{floats, curve_from, curve_at}
use Rattle.frame.specs.declared.frame.Aim.{Aim}
use Rattle.frame.specs.declared.frame.Framed.{Framed}
use Rattle.frame.specs.Frame.{aimed_of, with_aim}
use Rattle.overlap.specs.Depth.{depth_of}
use Rattle.overlap.specs.Subcurve.{whole_of}
use Rattle.leaf.specs.declared.leaf.Crossing.{Crossing}
use Rattle.leaf.specs.declared.leaf.Frame.{Frame}
use Rattle.leaf.specs.Leaf.{Leaf}
use Rattle.leaf.specs.Record.{flips_of}
use Rattle.walk.specs.declared.rule.Rule.TheVariants as rule
use Rattle.walk.specs.Walk.{leaf_by}
use Rattle.nearest.specs.Nearest.{Nearest, among, nearer_of, joined, as_number, hit_answer, leaf_answer, framed_answer, answer_of, answer_at, nearest_aimed, nearest_refusals, nearest_of}
use Rattle.nearest.proofs.Among.{one_more, none_yet}

-- ---- the curves of a list with one more

module _ (l p : List Float) (n : ℕ) (long : length l ≡ n * floats) (one : length p ≡ floats) where
  curve_before : (k : ℕ) → k < n → curve_at (l ++ p) k ≡ curve_at l k
  unfolding curve_at
  curve_before k less =
      let start : k * floats ≤ length l = omega arith in
      let rest : floats ≤ length (drop (k * floats) l) = omega (arith, length-drop (k * floats) l) in
      rw (drop-append-le (k * floats) l p start) (take-append-le floats (drop (k * floats) l) p rest)

  curve_last : curve_at (l ++ p) n ≡ p
  unfolding curve_at
  curve_last = rw (← long, drop-append_seam l p) (take_all floats p (omega arith))

curve_alone : (p : List Float) → length p ≡ floats → curve_at p 0 ≡ p
unfolding curve_at
curve_alone p one = take_all floats p (omega arith)

-- ---- the answers

pub same_answers : (f g : ℕ → Nearest) (n : ℕ) → ((k : ℕ) → k < n → f k ≡ g k) → among f n ≡ among g n
same_answers f g zero h = none_yet f ∙ sym (none_yet g)
same_answers f g (suc n) h = one_more f n ∙ ap₂ joined (same_answers f g n (λ k l. h k (omega arith))) (h n (le_refl (suc n))) ∙ sym (one_more g n)

module _ (flip : Bool) (aimed : Option Aim) where
  pub renumbered : (k n : ℕ) (l : List Float) → as_number n (answer_of flip aimed k l) ≡ answer_of flip aimed n l
  unfolding answer_of framed_answer leaf_answer
  renumbered k n l = go (first_of (lent_refusals l)) (with_aim (curve_from l) aimed)
    where
      hit : (r : Ray) (x : Crossing) (f : Result Frame Refusal) → as_number n (hit_answer (curve_from l) flip k r x f) ≡ hit_answer (curve_from l) flip n r x f
      hit r x (Ok f) = refl
      hit r x (Err reason) = refl

      leaf : (r : Ray) (x : Leaf) → as_number n (leaf_answer (curve_from l) flip k r x) ≡ leaf_answer (curve_from l) flip n r x
      leaf r (Some m) = hit r m.at m.frame
      leaf r None = refl

      go : (o : Option Refusal) (f : Result Framed Refusal) → as_number n (told o (framed_answer (curve_from l) flip k f)) ≡ told o (framed_answer (curve_from l) flip n f)
      go (Some reason) f = refl
      go None (Err reason) = refl
      go None (Ok f) = leaf f.ray (leaf_by rule.Nearest (curve_from l) f.view (whole_of (curve_from l) f.cubic) (depth_of (curve_from l) f.cubic))

  behind_miss : (x : Nearest) → joined (Ok None) x ≡ x
  unfolding joined nearer_of
  behind_miss (Ok h) = refl
  behind_miss (Err reason) = refl

  -- a list of one
  pub alone : (p : List Float) → length p ≡ floats → nearest_aimed flip aimed p ≡ answer_of flip aimed 0 p
  unfolding nearest_aimed answer_at
  alone p one =
      let count : length p / floats ≡ 1 = omega arith in
      rw count (one_more _ 0 ∙ ap (λ x. joined x (answer_of flip aimed 0 (curve_at p 0))) (none_yet _) ∙ behind_miss _ ∙ ap (answer_of flip aimed 0) (curve_alone p one))

  more_aimed : (l p : List Float) (n : ℕ) → length l ≡ n * floats → length p ≡ floats → nearest_aimed flip aimed (l ++ p) ≡ joined (nearest_aimed flip aimed l) (as_number n (nearest_aimed flip aimed p))
  more_aimed l p n long one =
      let here : nearest_aimed flip aimed (l ++ p) ≡ among (answer_at flip aimed (l ++ p)) (suc n) = unfold nearest_aimed in ap (among (answer_at flip aimed (l ++ p))) (omega (arith, length-append l p)) in
      let before : nearest_aimed flip aimed l ≡ among (answer_at flip aimed l) n = unfold nearest_aimed in ap (among (answer_at flip aimed l)) (omega arith) in
      let last : answer_at flip aimed (l ++ p) n ≡ as_number n (nearest_aimed flip aimed p) = unfold answer_at in rw (curve_last l p n long one, alone p one) (sym (renumbered 0 n p)) in
      let same : (k : ℕ) → k < n → answer_at flip aimed (l ++ p) k ≡ answer_at flip aimed l k = λ k less. unfold answer_at in ap (answer_of flip aimed k) (curve_before l p n long one k less) in
      here ∙ one_more _ n ∙ ap₂ joined (same_answers _ _ n same ∙ sym before) last

-- ---- the call

-- a refusal stands
absorbed : (reason : Refusal) (x : Nearest) → Err reason ≡ joined (Err reason) x
unfolding joined
absorbed reason x = refl

-- a list of whole curves is not refused by 19
pub whole-list : (l : List Float) (n : ℕ) (o2w w2o : Matrix4x4) (r : Ray) → length l ≡ n * floats → first_of (nearest_refusals l o2w w2o r) ≡ first_of (ray_refusals o2w w2o r)
unfolding nearest_refusals first_of
whole-list l n o2w w2o r long =
    let even : length l % floats ≡ 0 = omega arith in
    rw (eq-eqb (length l % floats) 0 even)

pub one_curve_more : (l p : List Float) (n : ℕ) (o2w w2o : Matrix4x4) (reverse : Bool) (r : Ray) → length l ≡ n * floats → length p ≡ floats
    → nearest_of (l ++ p) o2w w2o reverse r ≡ joined (nearest_of l o2w w2o reverse r) (as_number n (nearest_of p o2w w2o reverse r))
unfolding nearest_of
one_curve_more l p n o2w w2o reverse r long one =
    rw (whole-list (l ++ p) (suc n) o2w w2o r (omega (arith, length-append l p)), whole-list l n o2w w2o r long, whole-list p 1 o2w w2o r (omega arith))
    (go (first_of (ray_refusals o2w w2o r)) _ _ _ (more_aimed (flips_of reverse o2w) (aimed_of w2o r) l p n long one))
  where
    go : (o : Option Refusal) (x a b : Nearest) → x ≡ joined a (as_number n b) → told o x ≡ joined (told o a) (as_number n (told o b))
    go None x a b e = e
    go (Some reason) x a b e = absorbed reason (Err reason)
