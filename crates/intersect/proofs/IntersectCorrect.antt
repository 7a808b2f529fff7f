-- In one law: every answer of `intersect` is right (`Correct`, in `specs/Correct.antt`). Assumes nothing.
use mathlib.Core.Bool.{Bool, true, false, cond, not, ◌&&◌}
use mathlib.Core.List.{List, ◌++◌}
use mathlib.Core.Logic.{◌⊎◌, inl, inr, ⊎_elim}
use mathlib.Core.Path.{◌≡◌, refl, sym, ap, subst, ◌∙◌}
use Prim.Native.Nat.{ℕ, ◌+◌, ◌-◌, ◌^◌, ◌≤◌}
use native.Mathlib.Omega.{arith}
use lib.Ieee.{Float}
use Rattle.std.specs.Prelude.{Option, Some, None, Result, Ok, Err}
use lib.Pow.{pow_mono}
use Rattle.geometry.specs.declared.ray.Ray.{Ray}
use Rattle.matrix.specs.declared.Matrix4x4.{Matrix4x4}
use Rattle.limits.specs.declared.refusal.Refusal.{Refusal}
use Rattle.limits.specs.declared.refusal.Refusal.TheVariants as refusal
use Rattle.limits.specs.Ray.{ray_refusals}
use Rattle.limits.specs.Refused.{number_of, Table, first_of}
use Rattle.limits.specs.Within.{matrix_within, ray_within}
use Rattle.curve.specs.Curve.{is_curve}
use Rattle.curve.specs.Layout.{curve_from}
use Rattle.frame.specs.declared.frame.Framed.{Framed}
use Rattle.frame.specs.Frame.{framed_curve}
use Rattle.frame.proofs.Unframed.{unframed}
use Rattle.overlap.specs.Depth.{depth_of}
use Rattle.overlap.specs.Subcurve.{whole_of}
use Rattle.overlap.proofs.DepthMost.{depth_most}
use Rattle.leaf.specs.Record.{flips_of}
use Rattle.intersect.specs.Answer.{met_count}
use Rattle.intersect.specs.Correct.{Decided, framing_refusals, refusals, RefusedBefore, Correct}
use Rattle.intersect.specs.Intersect.{replied_at, intersect_whole, intersect_framed, intersect_refusals, intersect_of}
use Rattle.intersect.proofs.ReplySays.{decided}

-- the curve, the matrices and the ray: no refusal applies and those behind them are told, or the first of them is
abbrev Told : Option Refusal → Option Refusal → Option Refusal → Type 0
Told k all behind = ((k ≡ None) × (all ≡ behind)) ⊎ ((reason : Refusal) × (9 ≤ number_of reason) × (number_of reason ≤ 11) × (k ≡ Some reason) × (all ≡ Some reason))

first_of_three : (l : List Float) (o2w w2o : Matrix4x4) (r : Ray) (t : Table) → Told (first_of (intersect_refusals l o2w w2o r)) (first_of (intersect_refusals l o2w w2o r ++ t)) (first_of t)
unfolding intersect_refusals ray_refusals first_of
first_of_three l o2w w2o r t = go (is_curve l) (matrix_within o2w && matrix_within w2o) (ray_within r)
  where
    go : (a b c : Bool) → Told (cond (not a) (Some refusal.Curve) (cond (not b) (Some refusal.Matrix) (cond (not c) (Some refusal.Ray) None)))
        (cond (not a) (Some refusal.Curve) (cond (not b) (Some refusal.Matrix) (cond (not c) (Some refusal.Ray) (first_of t)))) (first_of t)
    go false b c = inr (refusal.Curve, omega arith, omega arith, refl, refl)
    go true false c = inr (refusal.Matrix, omega arith, omega arith, refl, refl)
    go true true false = inr (refusal.Ray, omega arith, omega arith, refl, refl)
    go true true true = inl (refl, refl)

-- the first of 9 to 13, of those that the frame is refused for
abbrev ToldByFrame : Refusal → Type 0
ToldByFrame k = (first_of (framing_refusals (Err k)) ≡ Some k) × (9 ≤ number_of k) × (number_of k ≤ 13)

told-weight : (k : Refusal) → k ≡ refusal.ZeroWeight → ToldByFrame k
unfolding first_of
told-weight k e = rw e (refl, omega arith, omega arith)

told-length : (k : Refusal) → k ≡ refusal.NoFrame → ToldByFrame k
unfolding first_of
told-length k e = rw e (refl, omega arith, omega arith)

-- 2 ^ (10 + 1) - 1
few : (n d : ℕ) → d ≤ 10 → n ≤ 2 ^ (d + 1) - 1 → n ≤ 2047
few n d l h = let small : d + 1 ≤ 11 = omega arith in omega (arith, pow_mono small)

module _ (l : List Float) (o2w w2o : Matrix4x4) (reverse : Bool) (r : Ray) where
  -- what is not refused before is answered by the leaves of the framed curve, cut as often as its depth says
  answered : (f : Framed) → first_of (intersect_refusals l o2w w2o r) ≡ None → framed_curve (curve_from l) w2o r ≡ Ok f
      → intersect_of l o2w w2o reverse r ≡ replied_at (curve_from l) f.ray (flips_of reverse o2w) f.view (whole_of (curve_from l) f.cubic) (depth_of (curve_from l) f.cubic)
  unfolding intersect_of intersect_framed intersect_whole whole_of
  answered f e k = rw (e, k)

  by_table : (reason : Refusal) → first_of (intersect_refusals l o2w w2o r) ≡ Some reason → 9 ≤ number_of reason → number_of reason ≤ 11 → first_of (refusals l o2w w2o r) ≡ Some reason
      → Correct l o2w w2o reverse r (intersect_of l o2w w2o reverse r)
  unfolding intersect_of
  by_table reason e least most all = inl (record { reason = reason; first = all; least = least; most = omega arith; refused = rw e })

  by_frame : first_of (intersect_refusals l o2w w2o r) ≡ None → (f : Result Framed Refusal) → framed_curve (curve_from l) w2o r ≡ f → first_of (refusals l o2w w2o r) ≡ first_of (framing_refusals f)
      → Correct l o2w w2o reverse r (intersect_of l o2w w2o reverse r)
  unfolding intersect_of intersect_framed first_of
  by_frame e (Err reason) k all =
      let h = ⊎_elim (told-weight reason) (told-length reason) (unframed (curve_from l) w2o r reason k) in
      inl (record { reason = reason; first = all ∙ h.0; least = h.1; most = h.2; refused = rw (e, k) })
  by_frame e (Ok f) k all =
      let c = curve_from l in
      let right = subst (Decided c f.ray (flips_of reverse o2w) f.view (whole_of c f.cubic) (depth_of c f.cubic)) (sym (answered f e k)) (decided c f.view (whole_of c f.cubic) (depth_of c f.cubic) f.ray (flips_of reverse o2w)) in
      inr (record {
        passed = all;
        ray = f.ray;
        view = f.view;
        cp = f.cubic;
        whole = whole_of c f.cubic;
        d = depth_of c f.cubic;
        framed_is = k;
        whole_is = refl;
        depth_is = refl;
        depth_most = depth_most c f.cubic;
        decided = right;
        looked_most = λ n h. few n (depth_of c f.cubic) (depth_most c f.cubic) (right.count_most n h);
      })

  pub intersect_correct : Correct l o2w w2o reverse r (intersect_of l o2w w2o reverse r)
  unfolding refusals
  intersect_correct =
      let f = framed_curve (curve_from l) w2o r in
      ⊎_elim (λ h. by_frame h.0 f refl h.1) (λ h. by_table h.0 h.3 h.1 h.2 h.4) (first_of_three l o2w w2o r (framing_refusals f))

  -- a refusal's number tells which it is: the first of 9 to 13 that applies, or with none of them 14, 15 or 16 of the stop
  pub refusal_tells : (k : Refusal) → intersect_of l o2w w2o reverse r ≡ Err k
      → ((9 ≤ number_of k) × (number_of k ≤ 13) × (first_of (refusals l o2w w2o r) ≡ Some k)) ⊎ ((14 ≤ number_of k) × (number_of k ≤ 16) × (first_of (refusals l o2w w2o r) ≡ None))
  refusal_tells k e = ⊎_elim (λ h. inl (let s = same h in rw (← s) (h.least, h.most, h.first))) (λ h. let n = h.decided.number k e in inr (n.0, n.1, h.passed)) intersect_correct
    where
      same : (h : RefusedBefore l o2w w2o reverse r (intersect_of l o2w w2o reverse r)) → h.reason ≡ k
      same h = let clash = sym h.refused ∙ e in cc

  -- whatever was asked, the count in a hit or a miss is at most 2,047
  pub count_few : (n : ℕ) → met_count (intersect_of l o2w w2o reverse r) ≡ Some n → n ≤ 2047
  count_few n e = ⊎_elim (λ h. let clash = sym (ap met_count h.refused) ∙ e in cc) (λ h. h.looked_most n e) intersect_correct
