-- The belt sheet: its head, then one or more points, then up to 64 rays, and its reply. Definitions only.
use Rattle.std.specs.Prelude.{ℕ, ◌+◌, ◌*◌, ◌≤◌, Bool, cond, ◌&&◌, List, eqb, ltb, Float, length, replicate, Result, Ok, Err, is_ok}
use Rattle.std.specs.Float.{binary32}
use Rattle.std.specs.Float.Ieee.{of_bits}
use Rattle.float.specs.Arith.{0f}
use Rattle.create.specs.Create.{params_of, created_of, list_after}
use Rattle.geometry.specs.Point.{point_floats}
use Rattle.geometry.specs.Ray.{ray_floats}
use Rattle.limits.specs.List.{over}
use Rattle.create.specs.declared.create.Params.{Params}
use Rattle.grammar.specs.Grammar.{most_bytes, room_points, row_size, point_key, ray_key, rows_from, floats_from}
use Rattle.grammar.specs.Head.{head_of, head_end, head_lines_right}
use Rattle.grammar.specs.declared.head.WrongLine.{WrongLine}
use Rattle.grammar.specs.declared.head.Head.{Head}
use Rattle.limits.specs.declared.refusal.Refusal.{Refusal}
use Rattle.limits.specs.declared.refusal.Refusal.TheVariants as refusal
use Rattle.sheet.specs.declared.Sheet.{Sheet}
use Rattle.sheet.specs.declared.SheetRefusal.{SheetRefusal}

-- ---- points and rays

-- as many rays as a sheet may have
abbrev pub most_rays : ℕ
most_rays = 64

-- the rays that start at a place behind so many points, and there is none where there is no point
unfoldable pub rays_from : List ℕ → ℕ → ℕ → ℕ
rays_from l at points = cond (ltb 0 points) (rows_from l at ray_key ray_floats most_rays) 0

unfoldable pub rays_read : List ℕ → ℕ → ℕ → List Float
rays_read l at points = floats_from l at ray_key ray_floats (rays_from l at points)

module _ (l : List ℕ) (head : Result Head WrongLine) where
  -- the points start behind the head, and there is none where the head is wrong
  unfoldable pub point_count : ℕ
  point_count = cond (is_ok head) (rows_from l (head_end head) point_key point_floats room_points) 0

  unfoldable pub points_of : List Float
  points_of = floats_from l (head_end head) point_key point_floats point_count

  -- the rays start behind the points
  unfoldable pub rays_at : ℕ
  rays_at = head_end head + point_count * row_size point_key point_floats

  unfoldable pub ray_count : ℕ
  ray_count = rays_from l rays_at point_count

  unfoldable pub rays_of : List Float
  rays_of = rays_read l rays_at point_count

  -- how many lines are right, from the first on
  unfoldable pub lines_right : ℕ
  lines_right = head_lines_right head + point_count + ray_count

  -- the place behind them, where the next line starts
  unfoldable pub right_end : ℕ
  right_end = rays_at + ray_count * row_size ray_key ray_floats

  -- nothing is missing, and nothing follows
  unfoldable pub is_whole : Bool
  is_whole = ltb 0 point_count && eqb right_end (length l)

-- ---- the reply

-- room for the rays, all 0
abbrev pub no_rays : List Float
no_rays = replicate (most_rays * ray_floats) 0f

-- a refusal with its line
abbrev pub refused_with : Refusal → ℕ → Result Sheet SheetRefusal
refused_with reason line = Err (record { refusal = reason; line = line })

unfoldable pub params_in : Head → Params
params_in h = params_of h.degree h.basis h.ty (of_bits binary32 h.width0) (of_bits binary32 h.width1) h.splitdepth

-- what create_curve_shape makes of it
abbrev pub with_curves : Head → ℕ → List Float → Result ℕ Refusal → Result Sheet SheetRefusal
with_curves h n rays (Ok pieces) = Ok (record { pieces = pieces; reverse = eqb h.reverse 1; ray_count = n; rays = rays })
with_curves h n rays (Err reason) = refused_with reason 0

-- behind the head: the first wrong line, then the refusals of create_curve_shape
abbrev pub sheet_behind : List ℕ → ℕ → Result Head WrongLine → Result Sheet SheetRefusal
sheet_behind l room (Ok h) = cond (is_whole l (Ok h)) (with_curves h (ray_count l (Ok h)) (over no_rays 0 (rays_of l (Ok h))) (created_of (points_of l (Ok h)) (params_in h) room)) (refused_with refusal.WrongLine (lines_right l (Ok h) + 1))
sheet_behind l room (Err w) = refused_with refusal.WrongLine (lines_right l (Err w) + 1)

unfoldable pub sheet_within : List ℕ → ℕ → Result Sheet SheetRefusal
sheet_within l room = sheet_behind l room (head_of l)

-- a refusal leaves the list as it was
abbrev pub list_behind : List ℕ → List Float → Result Head WrongLine → List Float
list_behind l list (Ok h) = cond (is_whole l (Ok h)) (list_after (points_of l (Ok h)) (params_in h) list) list
list_behind l list (Err w) = list

unfoldable pub list_within : List ℕ → List Float → List Float
list_within l list = list_behind l list (head_of l)

-- the whole answer: first, that there are too many bytes
unfoldable pub sheet_of : List ℕ → ℕ → Result Sheet SheetRefusal
sheet_of l room = cond (ltb most_bytes (length l)) (refused_with refusal.SheetTooLong 0) (sheet_within l room)

-- the list afterwards
unfoldable pub list_of : List ℕ → List Float → List Float
list_of l list = cond (ltb most_bytes (length l)) list (list_within l list)

-- ---- for callers

-- the largest number by which a sheet is refused
abbrev pub last_number : ℕ
last_number = 22

-- the last line that can be wrong: before it come the seven lines of the head, the points and the rays
abbrev pub last_line : ℕ
last_line = 7 + room_points + most_rays + 1

-- how large the numbers of a reply are
abbrev pub ReplyWithin : Result Sheet SheetRefusal → Type 0
ReplyWithin (Ok sheet) = sheet.ray_count ≤ most_rays
ReplyWithin (Err e) = e.line ≤ last_line
