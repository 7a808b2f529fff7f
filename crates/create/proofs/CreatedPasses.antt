-- What the definitions of `specs/` mean: the laws that other crates and readers may rest on. Assumes nothing.
-- Every curve that create_curve_shape writes passes refusal 9, for every input that it accepts: `created_passes`, and `answered_passes` by its answer.
use mathlib.Core.Path.{◌≡◌, ap, ◌∙◌}
use mathlib.Core.Bool.{true}
use mathlib.Core.List.{List, ◌++◌}
use Prim.Native.Nat.{ℕ, ◌+◌, ◌*◌, ◌/◌, ◌%◌, ◌≤◌, ◌<◌}
use native.Mathlib.Nat.{le_trans, mul_comm, mul_assoc, add-mul, mod-lt, div-add-mod', div-lt_iff_lt-mul}
use native.Mathlib.Omega.{arith}
use lib.Dec.{lit≤}
use lib.Pow.{pow_pos}
use lib.ListN.{length, take, drop}
use lib.Seq.{take_at, drop-drop}
use lib.Ieee.{Float, binary32}
use Rattle.float.proofs.Bound.{quotient_weight}
use Rattle.curve.specs.declared.curve.Curve.{Curve}
use Rattle.create.specs.declared.create.Params.{Params}
use Rattle.limits.specs.List.{over, up_to}
use Rattle.std.specs.Prelude.{Ok, None}
use Rattle.limits.specs.Refused.{first_of}
use Rattle.curve.specs.Layout.{floats, curve_floats}
use Rattle.limits.specs.Within.{width_within}
use Rattle.curve.specs.Curve.{narrowest, widest, in_limits, is_curve}
use Rattle.create.specs.Basis.{stride_of, segment_at}
use Rattle.create.specs.Create.{segment_count, part_count, curve_count, create_refusals, ratio, part_of, end_width, part_floats, segment_floats, created_floats, created_of, list_after}
use Rattle.create.proofs.Accepted.{Accepted, accepted}
use Rattle.create.proofs.Counts.{within-points}
use Rattle.limits.proofs.Told.{told-ok}
use Rattle.curve.proofs.Records.{length-floats, is_curve_within}
use Rattle.create.proofs.Lengths.{length-segment}
use Rattle.create.proofs.Limits.{segment-within, width_lerp, umin_umax}
use Rattle.limits.proofs.Lists.{up_to-at}

-- ---- a curve by its segment and part

-- the segments of the points l
abbrev pub segments : List Float → Params → ℕ
segments l p = segment_count (length l / 3) p.degree p.basis

-- the parts of each
abbrev pub parts : Params → ℕ
parts p = part_count p.splitdepth

-- part i of segment seg
abbrev pub curve_of : List Float → Params → ℕ → ℕ → Curve
curve_of l p seg i =
    let cp = segment_at l p.degree p.basis (seg * stride_of p.degree p.basis) in
    part_of cp (end_width p (segments l p) seg) (end_width p (segments l p) (seg + 1)) (parts p) i

-- it is within 9's limits
pub curve_passes : (l : List Float) (p : Params) (room : ℕ) → first_of (create_refusals l p room) ≡ None → (seg i : ℕ) → seg < segments l p → i < parts p → in_limits (curve_of l p seg i) ≡ true
unfolding in_limits part_of
curve_passes l p room e seg i h g =
    let points = segment-within l known.inside p.degree p.basis (seg * stride_of p.degree p.basis) known.degree-low known.degree-high (within-points seg (segments l p) _ _ _ h known.points) in
    let u = umin_umax p.splitdepth i known.split g in
    rw (points, width seg (omega arith), width (seg + 1) (omega arith), u.0, u.1, u.2)
  where
    known : Accepted l p room
    known = accepted l p room e

    width : (s : ℕ) → s ≤ segments l p → width_within (end_width p (segments l p) s) narrowest widest ≡ true
    width s k = unfold end_width ratio in width_lerp p.width0 p.width1 (quotient_weight binary32 s (segments l p) k (omega arith) (le_trans known.few (lit≤ tt))) known.width0 known.width1

-- ---- the list afterwards

module _ (l : List Float) (p : Params) (list : List Float) (e : first_of (create_refusals l p (length list)) ≡ None) where
  after : list_after l p list ≡ up_to (segment_floats l p (segments l p)) (segments l p) ++ drop (0 + length (created_floats l p (segments l p))) list
  unfolding list_after over created_floats
  after = rw e

  -- the record of part i of segment seg holds that curve
  pub created_at : (seg i : ℕ) → seg < segments l p → i < parts p → take floats (drop (floats * (seg * parts p + i)) (list_after l p list)) ≡ curve_floats (curve_of l p seg i)
  unfolding segment_floats part_floats
  created_at seg i h g =
      let s = up_to-at (segment_floats l p (segments l p)) (parts p * floats) (segments l p) seg (drop (0 + length (created_floats l p (segments l p))) list) (length-segment l p (segments l p)) h in
      let c = up_to-at (λ j. curve_floats (curve_of l p seg j)) floats (parts p) i s.0 (λ j. length-floats (curve_of l p seg j)) g in
      rw (after, place seg (parts p) i, ← drop-drop (i * floats) (seg * (parts p * floats)), s.1, c.1) (take_at (curve_floats (curve_of l p seg i)) c.0 floats (length-floats (curve_of l p seg i)))
    where
      place : (seg parts i : ℕ) → floats * (seg * parts + i) ≡ seg * (parts * floats) + i * floats
      place seg parts i = mul_comm floats (seg * parts + i) ∙ add-mul (seg * parts) i floats ∙ ap (λ (x : ℕ). x + i * floats) (mul_assoc seg parts floats)

-- Where no row of the table holds, each of the records in the list afterwards passes refusal 9
pub created_passes : (l : List Float) (p : Params) (list : List Float) → first_of (create_refusals l p (length list)) ≡ None → (k : ℕ) → k < curve_count (length l / 3) p
    → is_curve (take floats (drop (floats * k) (list_after l p list))) ≡ true
unfolding curve_count
created_passes l p list e k h =
    let P : 0 < parts p = unfold part_count in pow_pos p.splitdepth in
    let s = (div-lt_iff_lt-mul P).1 h in
    let i = mod-lt k P in
    rw (← div-add-mod' k (parts p), created_at l p list e (k / parts p) (k % parts p) s i, is_curve_within) (curve_passes l p (length list) e (k / parts p) (k % parts p) s i)

-- the same for a caller: where it answers n curves, the first n records of the list pass
pub answered_passes : (l : List Float) (p : Params) (list : List Float) (n : ℕ) → created_of l p (length list) ≡ Ok n → (k : ℕ) → k < n → is_curve (take floats (drop (floats * k) (list_after l p list))) ≡ true
unfolding created_of
answered_passes l p list n a k h = let z = told-ok (first_of (create_refusals l p (length list))) (curve_count (length l / 3) p) n a in created_passes l p list z.0 k (rw z.1 h)
