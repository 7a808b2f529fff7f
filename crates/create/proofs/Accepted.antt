-- What is known where no row of create_curve_shape's table holds. Assumes nothing.
use mathlib.Core.Path.{◌≡◌, refl, sym, ap, ◌∙◌}
use mathlib.Core.Bool.{Bool, true, false, cond, not, ◌||◌, and-eq-true_iff}
use mathlib.Core.List.{List}
use Prim.Native.Nat.{ℕ, zero, suc, ◌+◌, ◌-◌, ◌*◌, ◌/◌, ◌%◌, ◌≤◌, ◌<◌}
use native.Mathlib.Nat.{le_trans, mul_comm, mul_left_comm, mul-div-le, mod-eq_of_lt}
use native.Mathlib.Omega.{arith}
use borrow.Author.Tests.{not-false, ltb-false, leb-false, eqb-true}
use lib.Dec.{eqb, leb}
use lib.IntN.{pos, ◌-ℤ◌}
use lib.Ieee.{Float}
use lib.ListN.{length}
use Rattle.create.specs.Basis.{stride_of}
use Rattle.curve.specs.Layout.{floats}
use Rattle.limits.specs.Within.{width_within}
use Rattle.create.specs.Create.{divisible, count_wrong, segment_count, part_count, curve_count, neighbours_differ, all_within, least_width, greatest_width, limit_wrong, limit_refusals, create_refusals}
use Rattle.std.specs.Prelude.{None}
use Rattle.limits.specs.Refused.{first_of}
use Rattle.limits.proofs.Told.{passed}
use Rattle.create.specs.declared.create.Params.{Params}
use Rattle.create.proofs.Counts.{segment-count-le}
use Rattle.create.proofs.Divisible.{unsigned}

neither : (a b : Bool) → a || b ≡ false → (a ≡ false) × (b ≡ false)
neither true b e = absurd (let z : ◌≡◌ {A = ℕ} 0 1 = cc in omega arith)
neither false b e = (refl, e)

degree_of : (d : ℕ) (a b : Bool) → eqb d 2 ≡ a → eqb d 3 ≡ b → a || b ≡ true → (2 ≤ d) × (d ≤ 3)
degree_of d true b e g h = let z = eqb-true d 2 e in (omega arith, omega arith)
degree_of d false true e g h = let z = eqb-true d 3 g in (omega arith, omega arith)
degree_of d false false e g h = absurd (let z : ◌≡◌ {A = ℕ} 0 1 = cc in omega arith)

-- ---- the points of the last segment

-- for n = (N - 1) / d of a Bezier curve, and n = N - d of a B-spline
spans : (len d b : ℕ) → 2 ≤ d → d ≤ 3 → count_wrong len d b ≡ false → segment_count (len / 3) d b * stride_of d b + (3 * d + 3) ≤ len + stride_of d b
unfolding count_wrong segment_count stride_of
spans len d b l h e = go (eqb b 0) (neither (not (eqb (len % 3) 0)) (cond (eqb b 0) (not (divisible (pos (len / 3) -ℤ pos 1 -ℤ pos d) d)) (leb (len / 3) d)) e).1
  where
    whole : (len : ℕ) → 3 * (len / 3) ≤ len
    whole len = omega arith

    some : (n d : ℕ) → 2 ≤ d → (n + d - 1) % d ≡ 0 → 1 ≤ n
    some zero d l z = absurd (last d l (sym (mod-eq_of_lt (less d l)) ∙ ap (λ (x : ℕ). (x - 1) % d) (sym (from_zero d)) ∙ z))
      where
        less : (d : ℕ) → 2 ≤ d → d - 1 < d
        less d l = omega arith

        from_zero : (d : ℕ) → 0 + d ≡ d
        from_zero d = omega arith

        last : (d : ℕ) → 2 ≤ d → d - 1 ≡ 0 → ⊥
        last d l z = omega arith
    some (suc n) d l z = omega arith

    times : (q d : ℕ) → q * (3 * d) ≡ 3 * (d * q)
    times q d = mul_left_comm q 3 d ∙ ap (λ (x : ℕ). 3 * x) (mul_comm q d)

    bezier : (n len d : ℕ) → 3 * n ≤ len → 1 ≤ n → (n - 1) / d * (3 * d) + (3 * d + 3) ≤ len + 3 * d
    bezier n len d w s = omega (arith, times ((n - 1) / d) d, mul-div-le (n - 1) d)

    spline : (n len d : ℕ) → 3 * n ≤ len → d < n → (n - d) * 3 + (3 * d + 3) ≤ len + 3
    spline n len d w s = omega arith

    go : (t : Bool) → cond t (not (divisible (pos (len / 3) -ℤ pos 1 -ℤ pos d) d)) (leb (len / 3) d) ≡ false → cond t ((len / 3 - 1) / d) (len / 3 - d) * cond t (3 * d) 3 + (3 * d + 3) ≤ len + cond t (3 * d) 3
    go true e = bezier (len / 3) len d (whole len) (some (len / 3) d l (eqb-true _ _ (sym (unsigned (len / 3) d l) ∙ not-false _ e)))
    go false e = spline (len / 3) len d (whole len) (leb-false (len / 3) d e)

-- ---- the table

pub record Accepted (l : List Float) (p : Params) (room : ℕ) : Type 0 where
  pub degree-low : 2 ≤ p.degree
  pub degree-high : p.degree ≤ 3
  pub apart : neighbours_differ l ≡ true
  pub split : p.splitdepth ≤ 10
  pub few : segment_count (length l / 3) p.degree p.basis ≤ 256
  pub points : segment_count (length l / 3) p.degree p.basis * stride_of p.degree p.basis + (3 * p.degree + 3) ≤ length l + stride_of p.degree p.basis
  pub inside : all_within l ≡ true
  pub width0 : width_within p.width0 least_width greatest_width ≡ true
  pub width1 : width_within p.width1 least_width greatest_width ≡ true
  pub list : floats * (segment_count (length l / 3) p.degree p.basis * part_count p.splitdepth) ≤ room

pub accepted : (l : List Float) (p : Params) (room : ℕ) → first_of (create_refusals l p room) ≡ None → Accepted l p room
unfolding create_refusals limit_refusals limit_wrong curve_count
accepted l p room e =
    let r1 = passed _ _ _ e in
    let r2 = passed _ _ _ r1.1 in
    let r3 = passed _ _ _ r2.1 in
    let r22 = passed _ _ _ r3.1 in
    let r4 = passed _ _ _ r22.1 in
    let r5 = passed _ _ _ r4.1 in
    let r6 = passed _ _ _ r5.1 in
    let r7 = passed _ _ _ r6.1 in
    let r8 = passed _ _ _ r7.1 in
    let widths = (and-eq-true_iff _ _).0 (not-false _ r7.0) in
    let coordinates = (and-eq-true_iff _ _).0 widths.0 in
    let d = degree_of p.degree _ _ refl refl (not-false _ r1.0) in
    record {
      degree-low = d.0;
      degree-high = d.1;
      apart = not-false _ r22.0;
      split = ltb-false _ _ r5.0;
      few = le_trans (segment-count-le _ _ _) (ltb-false _ _ (neither _ _ r6.0).0);
      points = spans _ _ _ d.0 d.1 r3.0;
      inside = coordinates.0;
      width0 = coordinates.1;
      width1 = widths.1;
      list = ltb-false _ _ r8.0;
    }
