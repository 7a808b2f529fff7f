-- The numbers of a reply are small. Assumes nothing.
use mathlib.Core.Bool.{Bool, true, false, cond}
use mathlib.Core.List.{List}
use mathlib.Core.Path.{refl}
use Prim.Native.Nat.{ℕ, ◌+◌, ◌≤◌}
use native.Mathlib.Omega.{arith}
use lib.Dec.{ltb, lit≤}
use lib.Ieee.{Float}
use lib.ListN.{length}
use Rattle.create.specs.Create.{created_of}
use Rattle.limits.specs.declared.refusal.Refusal.{Refusal}
use Rattle.sheet.specs.declared.SheetRefusal.{SheetRefusal}
use Rattle.limits.specs.List.{over}
use Rattle.grammar.specs.Head.{head_of, head_lines_right}
use Rattle.sheet.specs.Sheet.{most_rays, last_line, point_count, rays_from, rays_at, ray_count, is_whole, points_of, rays_of, no_rays, lines_right, ReplyWithin, params_in, with_curves, sheet_behind, sheet_within, sheet_of}
use Rattle.grammar.specs.Grammar.{most_bytes}
use Rattle.std.specs.Prelude.{Result, Ok, Err}
use Rattle.grammar.specs.declared.head.Head.{Head}
use Rattle.grammar.specs.declared.head.WrongLine.{WrongLine}
use Rattle.sheet.specs.declared.Sheet.{Sheet}
use Rattle.grammar.proofs.Heads.{head_few}
use Rattle.sheet.proofs.Replies.{points-most, rays-most}

within-either : (b : Bool) (x y : Result Sheet SheetRefusal) → ReplyWithin x → ReplyWithin y → ReplyWithin (cond b x y)
within-either true x y p q = p
within-either false x y p q = q

within_made : (h : Head) (n : ℕ) (rays : List Float) (made : Result ℕ Refusal) → n ≤ most_rays → ReplyWithin (with_curves h n rays made)
within_made h n rays (Ok pieces) few = few
within_made h n rays (Err reason) few = lit≤ tt

pub reply_within : (l : List ℕ) (room : ℕ) → ReplyWithin (sheet_of l room)
unfolding sheet_of sheet_within lines_right ray_count
reply_within l room = within-either (ltb most_bytes (length l)) _ _ (lit≤ tt) (behind (head_of l) (head_few l))
  where
    rays : (head : Result Head WrongLine) → rays_from l (rays_at l head) (point_count l head) ≤ most_rays
    rays head = rays-most l (rays_at l head) (point_count l head) _ refl

    wrong : (head : Result Head WrongLine) → head_lines_right head ≤ 7 → head_lines_right head + point_count l head + rays_from l (rays_at l head) (point_count l head) + 1 ≤ last_line
    wrong head few = omega (arith, points-most l head _ refl, rays head)

    behind : (head : Result Head WrongLine) → head_lines_right head ≤ 7 → ReplyWithin (sheet_behind l room head)
    behind (Ok h) few =
        within-either (is_whole l (Ok h)) _ _ (within_made h _ (over no_rays 0 (rays_of l (Ok h))) (created_of (points_of l (Ok h)) (params_in h) room) (rays (Ok h))) (wrong (Ok h) few)
    behind (Err w) few = wrong (Err w) few
