-- The refusal of an answer is the first of all refusals, in their order, that applies. Assumes nothing.
use mathlib.Core.Bool.{Bool, true, false, not, cond, ◌&&◌, and-false, and-eq-true_iff, false≢true, true≢false}
use mathlib.Core.List.{List, [], ◌∷◌, ◌++◌}
use mathlib.Core.Logic.{◌⊎◌, inl, inr}
use mathlib.Core.Option as math
use mathlib.Core.Path.{◌≡◌, refl, sym, ap, ap₂, ◌∙◌}
use Prim.Native.Nat.{ℕ, zero, suc, ◌/◌, ◌^◌, ◌≤◌}
use native.Mathlib.Omega.{arith}
use borrow.Author.Tests.{leb-true}
use lib.Dec.{leb}
use lib.Ieee.{Float, is_nan, lt}
use lib.ListN.{length}
use Rattle.std.specs.Prelude.{Option, Some, None, is_err, Result, Ok, Err}
use Rattle.std.specs.Option.{option_or}
use Rattle.geometry.specs.declared.ray.Ray.{Ray}
use Rattle.matrix.specs.declared.Matrix4x4.{Matrix4x4}
use Rattle.limits.specs.declared.refusal.Refusal.{Refusal}
use Rattle.limits.specs.declared.refusal.Refusal.TheVariants as refusal
use Rattle.limits.specs.List.{up_to}
use Rattle.limits.specs.Refused.{number_of, Table, first_of, told}
use Rattle.limits.specs.Ray.{ray_refusals}
use Rattle.limits.proofs.Told.{refusals_pass, first_passes}
use Rattle.bisection.specs.Below.{only, or_else, at_or, first_below, best_below}
use Rattle.bisection.proofs.Below.{IsFirst, IsIn, first_is, best_in}
use Rattle.curve.specs.declared.curve.Curve.{Curve}
use Rattle.curve.specs.Curve.{lent_refusals}
use Rattle.curve.specs.Layout.{floats, curve_from, curve_at}
use Rattle.frame.specs.declared.frame.Framed.{Framed}
use Rattle.frame.specs.declared.frame.View.{View}
use Rattle.frame.specs.Frame.{aimed_of, with_aim, framed_curve}
use Rattle.frame.proofs.Unframed.{unframed}
use Rattle.overlap.specs.declared.subcurve.Subcurve.{Subcurve}
use Rattle.overlap.specs.Depth.{depth_of}
use Rattle.overlap.specs.Subcurve.{whole_of}
use Rattle.leaf.specs.declared.leaf.Crossing.{Crossing}
use Rattle.leaf.specs.declared.leaf.Frame.{Frame}
use Rattle.leaf.specs.Leaf.{Leaf, leaf_of}
use Rattle.leaf.specs.Record.{flips_of}
use Rattle.leaf.proofs.NoFrame.{no_frame}
use Rattle.walk.specs.declared.rule.Rule.TheVariants as rule
use Rattle.walk.specs.Leaves.{subcurve_at, open_at, leaf_at}
use Rattle.walk.specs.Rule.{counts, ends}
use Rattle.walk.specs.Walk.{end_by, best_by, leaf_by}
use Rattle.intersect.specs.Correct.{framing_refusals}
use Rattle.nearest.specs.Correct.{frame_row, leaf_row, leaf_refusals, alone_refusals, refusals}
use Rattle.nearest.specs.Nearest.{Nearest, is_hit, is_refused, distance_in, among, joined, hit_answer, leaf_answer, framed_answer, answer_of, answer_at, nearest_aimed, nearest_refusals, nearest_of}
use Rattle.nearest.proofs.Among.{one_more, none_yet}
use Rattle.nearest.proofs.LeafSays.{neither, end_first, best_below_lem}

-- ---- a table

first-append : (t u : Table) → first_of (t ++ u) ≡ option_or (first_of t) (first_of u)
unfolding first_of
first-append [] u = refl
first-append (row ∷ rest) u = go row.0 (first-append rest u)
  where
    go : (b : Bool) → first_of (rest ++ u) ≡ option_or (first_of rest) (first_of u) → cond b (Some row.1) (first_of (rest ++ u)) ≡ option_or (cond b (Some row.1) (first_of rest)) (first_of u)
    go true h = refl
    go false h = h

abbrev mapped : (ℕ → Refusal) → math.Option ℕ → Option Refusal
mapped g math.none = None
mapped g (math.some i) = Some (g i)

first_row : (rows : ℕ → Table) (test : ℕ → Bool) (reason : ℕ → Refusal) → ((i : ℕ) → first_of (rows i) ≡ cond (test i) (Some (reason i)) None)
    → (n : ℕ) → first_of (up_to rows n) ≡ mapped reason (first_below n test)
unfolding up_to first_below first_of
first_row rows test reason h zero = refl
first_row rows test reason h (suc n) = first-append (up_to rows n) (rows n) ∙ ap₂ option_or (first_row rows test reason h n) (h n) ∙ go (first_below n test) (test n)
  where
    go : (o : math.Option ℕ) (b : Bool) → option_or (mapped reason o) (cond b (Some (reason n)) None) ≡ mapped reason (or_else o (only b n))
    go (math.some i) b = refl
    go math.none true = refl
    go math.none false = refl

-- ---- an answer

abbrev pub refusal_in : Nearest → Option Refusal
refusal_in (Ok h) = None
refusal_in (Err reason) = Some reason

refusal-joined : (a b : Nearest) → refusal_in (joined a b) ≡ option_or (refusal_in a) (refusal_in b)
unfolding joined
refusal-joined (Err reason) b = refl
refusal-joined (Ok h) (Ok g) = refl
refusal-joined (Ok h) (Err reason) = refl

refusal-among : (answer : ℕ → Nearest) (rows : ℕ → Table) → ((k : ℕ) → refusal_in (answer k) ≡ first_of (rows k)) → (n : ℕ) → refusal_in (among answer n) ≡ first_of (up_to rows n)
unfolding up_to first_of
refusal-among answer rows h zero = ap refusal_in (none_yet answer)
refusal-among answer rows h (suc n) =
    ap refusal_in (one_more answer n) ∙ refusal-joined (among answer n) (answer n) ∙ ap₂ option_or (refusal-among answer rows h n) (h n) ∙ sym (first-append (up_to rows n) (rows n))

refusal-told : (o : Option Refusal) (x : Nearest) → refusal_in (told o x) ≡ option_or o (refusal_in x)
refusal-told None x = refl
refusal-told (Some reason) x = refl

-- ---- one curve

-- a leaf's refusal; one that has a frame or fails has none, and no test holds of it
abbrev reason_in : Result Frame Refusal → Refusal
reason_in (Ok f) = refusal.ZeroNormal
reason_in (Err reason) = reason

abbrev reason_of : Leaf → Refusal
reason_of (Some m) = reason_in m.frame
reason_of None = refusal.ZeroNormal

row_first : (is_open : Bool) (l : Leaf) → first_of (leaf_row is_open l) ≡ cond (is_open && ends rule.Nearest l) (Some (reason_of l)) None
unfolding first_of ends
row_first is_open (Some m) = go m.frame
  where
    go : (f : Result Frame Refusal) → first_of (frame_row (is_open && (is_err f && not (is_nan m.at.t))) f) ≡ cond (is_open && (is_err f && not (is_nan m.at.t))) (Some (reason_in f)) None
    go (Ok f) = rw and-false
    go (Err reason) = refl
row_first is_open None = rw and-false

module _ (c : Curve) (v : View) (s : Subcurve) (d : ℕ) (flip : Bool) (k : ℕ) (ray : Ray) where
  leaf-refusal : refusal_in (leaf_answer c flip k ray (leaf_by rule.Nearest c v s d))
      ≡ mapped (λ i. reason_of (leaf_at c v s d i)) (first_below (2 ^ d) (λ i. open_at c v s d i && ends rule.Nearest (leaf_at c v s d i)))
  unfolding leaf_by leaf_answer ends counts
  leaf-refusal = rw (end_first, best_below_lem) (go (first_below (2 ^ d) open_ends) (first_is (2 ^ d) open_ends) (best_below _ (2 ^ d) open_counts) (best_in _ open_counts (2 ^ d)))
    where
      open_ends : ℕ → Bool
      open_ends i = open_at c v s d i && ends rule.Nearest (leaf_at c v s d i)

      open_counts : ℕ → Bool
      open_counts i = open_at c v s d i && counts rule.Nearest (leaf_at c v s d i)

      ending : (l : Leaf) → ends rule.Nearest l ≡ true → refusal_in (leaf_answer c flip k ray l) ≡ Some (reason_of l)
      ending (Some m) e = go' m.frame e
        where
          go' : (f : Result Frame Refusal) → is_err f && not (is_nan m.at.t) ≡ true → refusal_in (hit_answer c flip k ray m.at f) ≡ Some (reason_in f)
          go' (Ok f) e = absurd (false≢true e)
          go' (Err reason) e = refl
      ending None e = absurd (false≢true e)

      framed : (l : Leaf) → counts rule.Nearest l ≡ true → ends rule.Nearest l ≡ false → refusal_in (leaf_answer c flip k ray l) ≡ None
      framed (Some m) e n = go' m.frame n
        where
          go' : (f : Result Frame Refusal) → is_err f && not (is_nan m.at.t) ≡ false → refusal_in (hit_answer c flip k ray m.at f) ≡ None
          go' (Ok f) n = refl
          go' (Err reason) n = absurd (true≢false (sym e ∙ n))
      framed None e n = refl

      go : (o : math.Option ℕ) → IsFirst (2 ^ d) open_ends o → (p : math.Option ℕ) → IsIn (2 ^ d) open_counts p
          → refusal_in (leaf_answer c flip k ray (at_or (leaf_at c v s d) None (or_else o p))) ≡ mapped (λ i. reason_of (leaf_at c v s d i)) o
      go (math.some i) h p h' = ending (leaf_at c v s d i) ((and-eq-true_iff (open_at c v s d i) (ends rule.Nearest (leaf_at c v s d i))).0 h.1).1
      go math.none h math.none h' = refl
      go math.none h (math.some i) h' =
          let here = (and-eq-true_iff (open_at c v s d i) (counts rule.Nearest (leaf_at c v s d i))).0 h'.1 in
          framed (leaf_at c v s d i) here.1 (neither (open_at c v s d i) (ends rule.Nearest (leaf_at c v s d i)) (h i h'.0) here.0)

module _ (c : Curve) (flip : Bool) (k : ℕ) where
  framed_refusal : (f : Result Framed Refusal) → ((reason : Refusal) → f ≡ Err reason → (reason ≡ refusal.ZeroWeight) ⊎ (reason ≡ refusal.NoFrame)) → refusal_in (framed_answer c flip k f) ≡ first_of (framing_refusals f ++ leaf_refusals c f)
  unfolding framed_answer leaf_refusals first_of
  framed_refusal (Err reason) h = go (h reason refl)
    where
      go : (reason ≡ refusal.ZeroWeight) ⊎ (reason ≡ refusal.NoFrame) → Some reason ≡ first_of (framing_refusals (Err reason) ++ [])
      go (inl e) = rw e refl
      go (inr e) = rw e refl
  framed_refusal (Ok f) h =
      let s = whole_of c f.cubic in
      let d = depth_of c f.cubic in
      leaf-refusal c f.view s d flip k f.ray ∙ sym (first_row _ _ _ (λ i. row_first (open_at c f.view s d i) (leaf_at c f.view s d i)) (2 ^ d))

module _ (w2o : Matrix4x4) (r : Ray) (flip : Bool) (k : ℕ) (l : List Float) where
  alone_refusal : refusal_in (answer_of flip (aimed_of w2o r) k l) ≡ first_of (alone_refusals w2o r l)
  unfolding answer_of alone_refusals framed_curve lent_refusals leaf_refusals aimed_of
  alone_refusal =
      let f = with_aim (curve_from l) (aimed_of w2o r) in
      refusal-told (first_of (lent_refusals l)) (framed_answer (curve_from l) flip k f)
      ∙ ap (option_or (first_of (lent_refusals l))) (framed_refusal (curve_from l) flip k f (unframed (curve_from l) w2o r))
      ∙ sym (first-append (lent_refusals l) (framing_refusals f ++ leaf_refusals (curve_from l) f))

-- ---- the call

module _ (list : List Float) (o2w w2o : Matrix4x4) (reverse : Bool) (r : Ray) where
  pub refusal-first : refusal_in (nearest_of list o2w w2o reverse r) ≡ first_of (refusals list o2w w2o r)
  unfolding nearest_of nearest_aimed refusals answer_at
  refusal-first =
      refusal-told (first_of (nearest_refusals list o2w w2o r)) _
      ∙ ap (option_or (first_of (nearest_refusals list o2w w2o r))) (refusal-among _ _ (λ k. alone_refusal w2o r (flips_of reverse o2w) k _) _)
      ∙ sym (first-append (nearest_refusals list o2w w2o r) _)

-- ---- the numbers

-- a refusal's is at least 9
abbrev pub Numbered : Nearest → Type 0
Numbered (Ok h) = Unit {0}
Numbered (Err reason) = 9 ≤ number_of reason

abbrev ReasonNumbered : Option Refusal → Type 0
ReasonNumbered None = Unit {0}
ReasonNumbered (Some reason) = 9 ≤ number_of reason

table-numbered : (t : Table) → refusals_pass (λ reason. leb 9 (number_of reason)) t ≡ true → ReasonNumbered (first_of t)
table-numbered t h = go (first_of t) refl
  where
    go : (o : Option Refusal) → first_of t ≡ o → ReasonNumbered o
    go None e = tt
    go (Some reason) e = leb-true 9 (number_of reason) (first_passes (λ reason. leb 9 (number_of reason)) t h reason e)

told-numbered : (o : Option Refusal) (x : Nearest) → ReasonNumbered o → Numbered x → Numbered (told o x)
told-numbered None x h n = n
told-numbered (Some reason) x h n = h

leaf-numbered : (c : Curve) (v : View) (s : Subcurve) (d : ℕ) (flip : Bool) (k : ℕ) (ray : Ray) (o : math.Option ℕ) → Numbered (leaf_answer c flip k ray (at_or (leaf_at c v s d) None o))
unfolding leaf_answer leaf_at
leaf-numbered c v s d flip k ray math.none = tt
leaf-numbered c v s d flip k ray (math.some i) = go (leaf_of c v (subcurve_at s d i)) refl
  where
    met : (x : Crossing) (f : Result Frame Refusal) → leaf_of c v (subcurve_at s d i) ≡ Some (record { at = x; frame = f }) → Numbered (hit_answer c flip k ray x f)
    met x (Ok f) e = tt
    met x (Err reason) e = omega (arith, (no_frame c v (subcurve_at s d i) x reason e).0)

    go : (l : Leaf) → leaf_of c v (subcurve_at s d i) ≡ l → Numbered (leaf_answer c flip k ray l)
    go (Some m) e = met m.at m.frame e
    go None e = tt

alone_numbered : (w2o : Matrix4x4) (r : Ray) (flip : Bool) (k : ℕ) (l : List Float) → Numbered (answer_of flip (aimed_of w2o r) k l)
unfolding answer_of framed_answer leaf_by lent_refusals framed_curve
alone_numbered w2o r flip k l =
    told-numbered (first_of (lent_refusals l)) _ (table-numbered (lent_refusals l) refl) (go (with_aim (curve_from l) (aimed_of w2o r)) (unframed (curve_from l) w2o r))
  where
    zero : (reason : Refusal) → (reason ≡ refusal.ZeroWeight) ⊎ (reason ≡ refusal.NoFrame) → 9 ≤ number_of reason
    zero reason (inl e) = let least : 9 ≤ number_of refusal.ZeroWeight = omega arith in rw e least
    zero reason (inr e) = let least : 9 ≤ number_of refusal.NoFrame = omega arith in rw e least

    go : (f : Result Framed Refusal) → ((reason : Refusal) → f ≡ Err reason → (reason ≡ refusal.ZeroWeight) ⊎ (reason ≡ refusal.NoFrame)) → Numbered (framed_answer (curve_from l) flip k f)
    go (Err reason) h = zero reason (h reason refl)
    go (Ok f) h =
        let c = curve_from l in
        let s = whole_of c f.cubic in
        let d = depth_of c f.cubic in
        leaf-numbered c f.view s d flip k f.ray (or_else (end_by rule.Nearest c f.view s d) (best_by rule.Nearest c f.view s d))

among-numbered : (answer : ℕ → Nearest) → ((k : ℕ) → Numbered (answer k)) → (n : ℕ) → Numbered (among answer n)
unfolding among
among-numbered answer h n = go (or_else (first_below n (λ k. is_refused (answer k))) (best_below (λ j i. lt (distance_in (answer j)) (distance_in (answer i))) n (λ k. is_hit (answer k))))
  where
    go : (o : math.Option ℕ) → Numbered (at_or answer (Ok None) o)
    go math.none = tt
    go (math.some i) = h i

pub nearest-numbered : (list : List Float) (o2w w2o : Matrix4x4) (reverse : Bool) (r : Ray) → Numbered (nearest_of list o2w w2o reverse r)
unfolding nearest_of nearest_aimed answer_at nearest_refusals ray_refusals
nearest-numbered list o2w w2o reverse r =
    told-numbered (first_of (nearest_refusals list o2w w2o r)) _ (table-numbered (nearest_refusals list o2w w2o r) refl) (among-numbered _ (λ k. alone_numbered w2o r (flips_of reverse o2w) k (curve_at list k)) (length list / floats))
