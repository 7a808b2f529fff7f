-- What the functions that read a sheet return, and that their counts are small. Assumes nothing.
use mathlib.Core.Bool.{Bool, true, false, cond, ◌&&◌}
use mathlib.Core.Path.{◌≡◌, sym, ap, ap₂, ◌∙◌}
use mathlib.Core.List.{List}
use Prim.Native.Nat.{ℕ, ◌+◌, ◌*◌, ◌≤◌}
use native.Mathlib.Omega.{arith}
use lib.Dec.{ltb, eqb}
use lib.Ieee.{Float}
use lib.ListN.{length, take}
use lib.Seq.{take_at}
use Rattle.create.specs.Create.{created_of, list_after}
use Rattle.geometry.specs.Ray.{ray_floats}
use Rattle.limits.specs.List.{over}
use Rattle.limits.specs.declared.refusal.Refusal.{Refusal}
use Rattle.limits.specs.declared.refusal.Refusal.TheVariants as refusal
use Rattle.sheet.specs.declared.SheetRefusal.{SheetRefusal}
use Rattle.limits.proofs.Lists.{length-up_to}
use Rattle.grammar.specs.Grammar.{row_size, point_key, ray_key, rows_from, floats_from, room_points}
use Rattle.geometry.specs.Point.{point_floats}
use Rattle.sheet.specs.Sheet.{most_rays, rays_from, rays_read, point_count, points_of, rays_at, ray_count, rays_of, lines_right, right_end, is_whole, no_rays, refused_with, params_in, with_curves, sheet_behind, list_behind, sheet_within}
use Rattle.std.specs.Prelude.{Result, Ok, Err, is_ok}
use Rattle.std.specs.Result.{MatchResult, IsErrAnd}
use Rattle.grammar.specs.Head.{head_of}
use Rattle.grammar.specs.declared.head.WrongLine.{WrongLine}
use Rattle.grammar.specs.declared.reader.Reader.{Reader}
use Rattle.grammar.specs.declared.head.Head.{Head}
use Rattle.sheet.specs.declared.Sheet.{Sheet}
use Rattle.grammar.proofs.Floats.{length-floats}
use Rattle.grammar.proofs.Runs.{run-most}

-- ---- counts are small

cond-most : (b : Bool) (x most : ℕ) → x ≤ most → cond b x 0 ≤ most
cond-most true x most h = h
cond-most false x most h = omega arith

pub points-most : (l : List ℕ) (c : Result Head WrongLine) (p : ℕ) → p ≡ point_count l c → p ≤ room_points
unfolding point_count rows_from
points-most l c p e = rw e (cond-most (is_ok c) _ room_points (run-most room_points _))

pub rays-most : (l : List ℕ) (at points n : ℕ) → n ≡ rays_from l at points → n ≤ most_rays
unfolding rays_from rows_from
rays-most l at points n e = rw e (cond-most (ltb 0 points) _ most_rays (run-most most_rays _))

-- ---- the points that are lent

points-length : (l : List ℕ) (c : Result Head WrongLine) → length (points_of l c) ≡ point_count l c * point_floats
unfolding points_of floats_from
points-length l c = length-up_to _ point_floats (point_count l c) (λ j. length-floats l _ point_floats)

pub points-lent : (l : List ℕ) (c : Result Head WrongLine) (d : List Float) (p : ℕ) → p ≡ point_count l c → take (p * point_floats) (over d 0 (points_of l c)) ≡ points_of l c
unfolding over
points-lent l c d p e = take_at (points_of l c) _ (p * point_floats) (points-length l c ∙ ap (λ k. k * point_floats) (sym e))

-- of the room that they are read into
pub points_taken : (l : List ℕ) (h : Head) (d out : List Float) (p : ℕ) → p ≡ rows_from l h.end point_key point_floats room_points → out ≡ over d 0 (floats_from l h.end point_key point_floats p) → take (p * point_floats) out ≡ points_of l (Ok h)
unfolding points_of point_count
points_taken l h d out p e f =
    let lent = points-lent l (Ok h) d p (unfold point_count in e) in
    ap (take (p * point_floats)) (f ∙ ap (λ (k : ℕ). over d 0 (floats_from l h.end point_key point_floats k)) e) ∙ lent

-- ---- a sheet that is not too long

-- a head that is right, p points, and n rays behind them: first stands behind the points, and last behind the rays
module _ (l : List ℕ) (h : Head) (p n : ℕ) (first last : Reader) (rays : List Float)
    (f : p ≡ rows_from l h.end point_key point_floats room_points)
    (a : (first.src.now ≡ l) × (first.at ≡ h.end + p * row_size point_key point_floats))
    (g : (n ≡ rays_from first.src.now first.at p) × (rays ≡ over no_rays 0 (rays_read first.src.now first.at p)))
    (b : last.at ≡ first.at + n * row_size ray_key ray_floats) where
  pub points_are : p ≡ point_count l (Ok h)
  unfolding point_count
  points_are = f

  there : n ≡ rays_from l (h.end + p * row_size point_key point_floats) p
  there = g.0 ∙ ap₂ (λ s i. rays_from s i p) a.0 a.1

  floats : rays ≡ over no_rays 0 (rays_read l (h.end + p * row_size point_key point_floats) p)
  floats = g.1 ∙ ap₂ (λ s i. over no_rays 0 (rays_read s i p)) a.0 a.1

  -- the test
  whole_is : is_whole l (Ok h) ≡ (ltb 0 p && eqb last.at (length l))
  unfolding is_whole right_end rays_at ray_count
  whole_is = rw (← points_are, ← there, ← a.1, ← b)

  pub within-whole : (list list' points : List Float) (room : ℕ) (made : Result ℕ Refusal) → (ltb 0 p && eqb last.at (length l)) ≡ true → points ≡ points_of l (Ok h)
      → made ≡ created_of points (params_in h) room → list' ≡ list_after points (params_in h) list
      → (with_curves h n rays made ≡ sheet_behind l room (Ok h)) × (list' ≡ list_behind l list (Ok h))
  unfolding rays_at ray_count rays_of
  within-whole list list' points room made t q k m =
      (rw (whole_is, t, ← points_are, ← there, ← floats, ← q) (ap (with_curves h n rays) k), rw (whole_is, t, ← q) m)

  pub within_wrong : (list : List Float) (room : ℕ) (r : Result Sheet SheetRefusal) → (ltb 0 p && eqb last.at (length l)) ≡ false
      → r ≡ refused_with refusal.WrongLine (7 + p + n + 1) → (r ≡ sheet_behind l room (Ok h)) × (list ≡ list_behind l list (Ok h))
  unfolding lines_right rays_at ray_count
  within_wrong list room r t k = (rw (whole_is, t, ← points_are, ← there) k, rw (whole_is, t))

-- a head that is wrong, as `map_err` tells it
pub within_head :
    (l : List ℕ) (room : ℕ) (head : Result Head WrongLine) (told : Result Head SheetRefusal) (e : SheetRefusal) (P : WrongLine → SheetRefusal → Type 0)
    → head ≡ head_of l → MatchResult head (λ h. told ≡ Ok h) (λ w. IsErrAnd told (P w)) → told ≡ Err e
    → ((w : WrongLine) (x : SheetRefusal) → P w x → x ≡ record { refusal = refusal.WrongLine; line = w.lines + 1 })
    → Err e ≡ sheet_within l room
unfolding sheet_within lines_right ray_count rays_from point_count
within_head l room (Ok h) told e P q m f g = cc (m, f)
within_head l room (Err w) (Err x) e P q m f g =
    let line : w.lines + 1 ≡ w.lines + 0 + 0 + 1 = omega arith in
    let same : e ≡ x = cc f in
    rw (← q) (ap Err (same ∙ g w x m ∙ ap (λ n. record { refusal = refusal.WrongLine; line = n }) line))
within_head l room (Err w) (Ok h) e P q m f g = cc f
