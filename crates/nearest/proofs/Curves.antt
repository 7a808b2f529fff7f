-- Curve by curve: what each return gives. Assumes nothing.
use mathlib.Core.Bool.{Bool, true, false}
use mathlib.Core.List.{List, []}
use mathlib.Core.Path.{◌≡◌, refl, sym, ap, ◌∙◌}
use Prim.Native.Nat.{ℕ, zero, suc, ◌+◌, ◌*◌, ◌/◌, ◌%◌, ◌<◌}
use native.Mathlib.Nat.{zero-mul, suc-mul, le_of_suc-le-suc, not-suc-le-zero}
use native.Mathlib.Numerals.{add-one}
use native.Mathlib.Omega.{arith}
use lib.Dec.{eqb}
use lib.Ieee.{Float}
use lib.ListN.{length, get_or, take, drop}
use lib.Seq.{drop-drop}
use Rattle.std.specs.Prelude.{Option, Some, None, Result, Ok, Err}
use Rattle.std.specs.Option.{ok_or}
use Rattle.std.specs.Simd.{first_chunks}
use Rattle.limits.specs.declared.refusal.Refusal.{Refusal}
use Rattle.limits.specs.declared.refusal.Refusal.TheVariants as refusal
use Rattle.limits.specs.Refused.{first_of, told}
use Rattle.limits.specs.Ray.{ray_refusals}
use Rattle.leaf.specs.Record.{flips_of}
use Rattle.geometry.specs.declared.ray.Ray.{Ray}
use Rattle.matrix.specs.declared.Matrix4x4.{Matrix4x4}
use Rattle.limits.proofs.Told.{told-ok, told-err}
use Rattle.curve.specs.declared.curve.Curve.{Curve}
use Rattle.curve.specs.Curve.{lent_refusals}
use Rattle.curve.specs.Layout.{floats, curve_from, curve_at}
use Rattle.frame.specs.declared.frame.Aim.{Aim}
use Rattle.frame.specs.declared.frame.Framed.{Framed}
use Rattle.frame.specs.Frame.{aimed_of, framed_along, with_aim}
use Rattle.frame.proofs.FramedRay.{framed-ray}
use Rattle.walk.specs.declared.rule.Rule.TheVariants as rule
use Rattle.walk.specs.declared.walk.Reached.{Reached}
use Rattle.walk.specs.Walk.{Walked}
use Rattle.nearest.specs.Nearest.{Nearest, Hit, among, nearer_of, joined, leaf_answer, framed_answer, answer_of, answer_at, nearest_aimed, nearest_refusals, nearest_of}
use Rattle.nearest.proofs.Among.{one_more, refusal_is}
use Rattle.nearest.proofs.OneMore.{same_answers}

-- ---- one curve

module _ (c : Curve) (flip : Bool) (k : ℕ) (a : Aim) where
  pub walk-refused : (reason : Refusal) (q : Reached) → Walked rule.Nearest c (framed_along c a) (Err reason) q → Err reason ≡ framed_answer c flip k (framed_along c a)
  unfolding framed_answer
  walk-refused reason q h = go (framed_along c a) h
    where
      go : (f : Result Framed Refusal) → Walked rule.Nearest c f (Err reason) q → Err reason ≡ framed_answer c flip k f
      go (Ok f) h = let same = h.0 in absurd (cc)
      go (Err other) h = let same = h in cc

  pub walked : (q : Reached) → Walked rule.Nearest c (framed_along c a) (Ok tt) q → leaf_answer c flip k a.ray q.leaf ≡ framed_answer c flip k (framed_along c a)
  unfolding framed_answer
  walked q h = go (framed_along c a) (framed-ray a c) h
    where
      go : (f : Result Framed Refusal) → ((x : Framed) → f ≡ Ok x → x.ray ≡ a.ray) → Walked rule.Nearest c f (Ok tt) q → leaf_answer c flip k a.ray q.leaf ≡ framed_answer c flip k f
      go (Ok f) e h = rw (e f refl, h.1) refl
      go (Err other) e h = absurd (cc)

module _ (l : List Float) (flip : Bool) (aim : Option Aim) (k : ℕ) where
  pub wrong-curve : (reason : Refusal) → told (first_of (lent_refusals l)) (Ok (curve_from l)) ≡ Err reason → Err reason ≡ answer_of flip aim k l
  unfolding answer_of
  wrong-curve reason e = rw (told-err (first_of (lent_refusals l)) (curve_from l) reason e) refl

  module _ (c : Curve) (passed : told (first_of (lent_refusals l)) (Ok (curve_from l)) ≡ Ok c) where
    both : (first_of (lent_refusals l) ≡ None) × (curve_from l ≡ c)
    both = told-ok (first_of (lent_refusals l)) (curve_from l) c passed

    pub no-aim : (reason : Refusal) → ok_or aim refusal.ZeroWeight ≡ Err reason → Err reason ≡ answer_of flip aim k l
    unfolding answer_of framed_answer
    no-aim reason e = rw both.0 (go aim e)
      where
        go : (o : Option Aim) → ok_or o refusal.ZeroWeight ≡ Err reason → Err reason ≡ framed_answer (curve_from l) flip k (with_aim (curve_from l) o)
        go None e = cc
        go (Some a) e = absurd (cc)

    pub met-along : (a : Aim) → ok_or aim refusal.ZeroWeight ≡ Ok a → framed_answer c flip k (framed_along c a) ≡ answer_of flip aim k l
    unfolding answer_of
    met-along a e = rw (both.0, both.1) (go aim e)
      where
        go : (o : Option Aim) → ok_or o refusal.ZeroWeight ≡ Ok a → framed_answer c flip k (framed_along c a) ≡ framed_answer c flip k (with_aim c o)
        go None e = absurd (cc)
        go (Some b) e = let same : b ≡ a = cc in rw same refl

-- ---- the loop

module _ (answer : ℕ → Nearest) (k : ℕ) (best : Option Hit) (so-far : Ok best ≡ among answer k) where
  pub goes_on_lem : (q next : Option Hit) → answer k ≡ Ok q → next ≡ nearer_of best q → Ok next ≡ among answer (k + 1)
  unfolding joined
  goes_on_lem q next e h = rw (add-one, one_more answer k, ← so-far, e, h) refl

  pub stops_lem : (n : ℕ) (reason : Refusal) → k < n → answer k ≡ Err reason → Err reason ≡ among answer n
  unfolding joined
  stops_lem n reason less e =
      let next : among answer (suc k) ≡ Err reason = rw (one_more answer k, ← so-far, e) refl in
      sym (refusal_is answer (suc k) n reason less next)

-- ---- the list

-- the arrays that a list is cut into are its curves
array_is : (m k : ℕ) (l : List Float) → k < m → get_or (first_chunks floats m l) k [] ≡ curve_at l k
unfolding curve_at
array_is zero k l less = absurd (not-suc-le-zero less)
array_is (suc m) zero l less = ap (λ n. take floats (drop n l)) (sym (zero-mul floats))
array_is (suc m) (suc k) l less = array_is m k (drop floats l) (le_of_suc-le-suc less) ∙ ap (take floats) (drop-drop (k * floats) floats l ∙ ap (λ n. drop n l) (omega (arith, suc-mul k floats)))

module _ (flip : Bool) (aim : Option Aim) (l : List Float) (curves : List (List Float)) (cut : curves ≡ first_chunks floats (length l / floats) l) (count : length curves ≡ length l / floats) where
  pub arrays-nearest : among (λ k. answer_of flip aim k (get_or curves k [])) (length curves) ≡ nearest_aimed flip aim l
  unfolding nearest_aimed answer_at
  arrays-nearest = rw (count, cut) (same_answers _ _ (length l / floats) (λ k less. ap (answer_of flip aim k) (array_is (length l / floats) k l less)))

-- ---- the call

module _ (l : List Float) (o2w w2o : Matrix4x4) (reverse : Bool) (r : Ray) where
  pub wrong-length : eqb (length l % floats) 0 ≡ false → Err refusal.ListLength ≡ nearest_of l o2w w2o reverse r
  unfolding nearest_of nearest_refusals first_of
  wrong-length e = rw e refl

  module _ (even : eqb (length l % floats) 0 ≡ true) where
    same_table : first_of (nearest_refusals l o2w w2o r) ≡ first_of (ray_refusals o2w w2o r)
    unfolding nearest_refusals first_of
    same_table = rw even refl

    pub wrong-ray : (reason : Refusal) → told {A = Unit {0}} (first_of (ray_refusals o2w w2o r)) (Ok tt) ≡ Err reason → Err reason ≡ nearest_of l o2w w2o reverse r
    unfolding nearest_of
    wrong-ray reason e = rw (same_table, told-err (first_of (ray_refusals o2w w2o r)) tt reason e) refl

    pub asked : told {A = Unit {0}} (first_of (ray_refusals o2w w2o r)) (Ok tt) ≡ Ok tt → nearest_aimed (flips_of reverse o2w) (aimed_of w2o r) l ≡ nearest_of l o2w w2o reverse r
    unfolding nearest_of
    asked e = rw (same_table, (told-ok (first_of (ray_refusals o2w w2o r)) tt tt e).0) refl
