-- The points of a sheet of at most 65,536 bytes are fewer than the room for them, so that the room cuts none off. Assumes nothing.
use mathlib.Core.Bool.{Bool, true, false, cond}
use mathlib.Core.List.{List}
use mathlib.Core.Path.{◌≡◌, refl, ap}
use Prim.Native.Nat.{ℕ, zero, suc, ◌+◌, ◌*◌, ◌<◌, ◌≤◌}
use native.Mathlib.Nat.{le_refl, suc-mul, zero-mul}
use native.Mathlib.Omega.{arith}
use lib.Dec.{lit<}
use lib.ListN.{length}
use Rattle.geometry.specs.Point.{point_floats}
use Rattle.limits.specs.Below.{all_below}
use Rattle.limits.proofs.Below.{all-at}
use Rattle.text.specs.Ascii.{ascii}
use Rattle.text.proofs.Places.{byte_within}
use Rattle.grammar.specs.Grammar.{most_bytes, room_points, is_row, row_size, point_key, run_below, rows_from}
use Rattle.std.specs.Prelude.{Result, is_ok}
use Rattle.grammar.specs.Head.{head_end}
use Rattle.grammar.specs.declared.head.Head.{Head}
use Rattle.grammar.specs.declared.head.WrongLine.{WrongLine}
use Rattle.grammar.proofs.Runs.{run-passes, run_longer}
use Rattle.sheet.specs.Sheet.{point_count}
use Rattle.sheet.proofs.OneLine.{IsLine, NoFeed, row_line_lem}

-- a line ends within the text
line_within : (l : List ℕ) (at next : ℕ) → IsLine l at next → next ≤ length l
line_within l at next h = omega (arith, h.1, byte_within l (at + h.0) 10 h.3)

-- rows, one behind the other, are within the text
rows-within : (l : List ℕ) (at : ℕ) (key : List ℕ) (n m : ℕ) → NoFeed key (length key) → 0 < n → all_below m (λ j. is_row l (at + j * row_size key n) key n) ≡ true → m * row_size key n ≤ length l
rows-within l at key n zero f p a = omega (arith, zero-mul (row_size key n))
rows-within l at key n (suc m) f p a =
    omega (arith, suc-mul m (row_size key n), line_within l (at + m * row_size key n) _ (row_line_lem l (at + m * row_size key n) key n f p (all-at (suc m) _ a m (le_refl (suc m)))))

-- a point has 33 bytes
rows_fit : (l : List ℕ) (at most : ℕ) → length l ≤ most_bytes → rows_from l at point_key point_floats most < room_points
unfolding rows_from row_size ascii all_below
rows_fit l at most h = omega (arith, rows-within l at point_key point_floats (run_below most (λ j. is_row l (at + j * row_size point_key point_floats) point_key point_floats)) refl (lit< tt) (run-passes most _))

-- THE POINTS FIT
pub points-fit : (l : List ℕ) (c : Result Head WrongLine) → length l ≤ most_bytes → point_count l c < room_points
unfolding point_count
points-fit l c h = go (is_ok c)
  where
    go : (b : Bool) → cond b (rows_from l (head_end c) point_key point_floats room_points) 0 < room_points
    go true = rows_fit l (head_end c) room_points h
    go false = lit< tt

-- NONE IS CUT OFF: with room for any more, there are as many
pub points_uncapped : (l : List ℕ) (c : Result Head WrongLine) (most : ℕ) → length l ≤ most_bytes → room_points ≤ most → cond (is_ok c) (rows_from l (head_end c) point_key point_floats most) 0 ≡ point_count l c
unfolding point_count rows_from
points_uncapped l c most h m = ap (λ (k : ℕ). cond (is_ok c) k 0) (run_longer room_points most _ m (rows_fit l (head_end c) room_points h))
