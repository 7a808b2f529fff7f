-- The number of a wrong line is its number in the sheet: it starts behind the lines that are right, and before it stand as many LFs as there are such lines. Assumes nothing.
use mathlib.Core.Logic.{inl, inr}
use mathlib.Core.Bool.{Bool, true, false, cond, not, and-eq-true_iff}
use mathlib.Core.List.{List}
use mathlib.Core.Path.{◌≡◌, refl, sym, ap, subst, ◌∙◌}
use Prim.Native.Nat.{ℕ, zero, suc, ◌+◌, ◌*◌, ◌/◌, ◌<◌}
use native.Mathlib.Nat.{le_refl, add-zero, zero-mul, suc-mul}
use native.Mathlib.Omega.{arith}
use borrow.Author.Tests.{not-true, eqb-false}
use lib.Dec.{ltb, eqb, lit<}
use lib.Ieee.{Float}
use lib.ListN.{length}
use Rattle.geometry.specs.Point.{point_floats}
use Rattle.geometry.specs.Ray.{ray_floats}
use Rattle.limits.specs.Below.{all_below}
use Rattle.limits.specs.List.{over}
use Rattle.limits.specs.Refused.{number_of, first_of, told}
use Rattle.limits.specs.declared.refusal.Refusal.{Refusal}
use Rattle.limits.specs.declared.refusal.Refusal.TheVariants as refusal
use Rattle.limits.proofs.Told.{first_passes}
use Rattle.text.specs.Ascii.{ascii}
use Rattle.text.specs.Bytes.{byte_is}
use Rattle.create.specs.Create.{limit_refusals, create_refusals, curve_count, created_of}
use Rattle.create.specs.declared.create.Params.{Params}
use Rattle.std.specs.Prelude.{Option, Some, None, Result, Ok, Err, is_ok}
use Rattle.grammar.specs.Grammar.{most_bytes, line_feed, is_row, row_size, point_key, ray_key, run_below, rows_from}
use Rattle.grammar.specs.Head.{◌>>=◌, lines_before, field_at, head_of, head_end, head_lines_right}
use Rattle.grammar.specs.declared.head.Head.{Head}
use Rattle.grammar.specs.declared.head.WrongLine.{WrongLine}
use Rattle.grammar.specs.declared.reader.Line.{Line}
use Rattle.grammar.specs.declared.reader.Field.{Field}
use Rattle.grammar.specs.declared.reader.Field.TheVariants as field
use Rattle.grammar.specs.declared.reader.Kind.TheVariants as kind
use Rattle.grammar.proofs.Heads.{field_either}
use Rattle.grammar.proofs.Runs.{run-passes}
use Rattle.sheet.specs.Answer.{reply_number, reply_line}
use Rattle.sheet.specs.Lines.{feeds_before, line_number, StartsLine}
use Rattle.sheet.specs.Sheet.{no_rays, refused_with, params_in, with_curves, point_count, points_of, rays_from, rays_at, ray_count, rays_of, lines_right, right_end, is_whole, sheet_behind, sheet_within, sheet_of}
use Rattle.sheet.specs.declared.SheetRefusal.{SheetRefusal}
use Rattle.sheet.specs.declared.Sheet.{Sheet}
use Rattle.sheet.proofs.OneLine.{Plain, IsLine, NoFeed, Ends, row_line_lem, line_ends}

-- ---- LFs

no_feed : (l : List ℕ) (i : ℕ) → byte_is l i line_feed ≡ false → feeds_before l (suc i) ≡ feeds_before l i
unfolding feeds_before
no_feed l i e = rw e (add-zero (feeds_before l i))

one_feed : (l : List ℕ) (i : ℕ) → byte_is l i line_feed ≡ true → feeds_before l (suc i) ≡ feeds_before l i + 1
unfolding feeds_before
one_feed l i e = rw e

feeds_plain : (l : List ℕ) (at n : ℕ) → Plain l at n → feeds_before l (at + n) ≡ feeds_before l at
feeds_plain l at zero p = ap (feeds_before l) (add-zero at)
feeds_plain l at (suc n) p =
    let e : at + suc n ≡ suc (at + n) = omega arith in
    ap (feeds_before l) e ∙ no_feed l (at + n) (p n (le_refl (suc n))) ∙ feeds_plain l at n (λ i h. p i (omega arith))

feeds_line : (l : List ℕ) (at next : ℕ) → IsLine l at next → feeds_before l next ≡ feeds_before l at + 1
feeds_line l at next h =
    let e : next ≡ suc (at + h.0) = omega (arith, h.1) in
    ap (feeds_before l) e ∙ one_feed l (at + h.0) h.3 ∙ ap (λ (k : ℕ). k + 1) (feeds_plain l at h.0 h.2)

-- ---- lines

-- n lines stand before a place, and the next starts there
abbrev Behind : List ℕ → ℕ → ℕ → Type 0
Behind l n at = (feeds_before l at ≡ n) × StartsLine l at

-- behind a line there is one more
line_behind : (l : List ℕ) (n at next : ℕ) → IsLine l at next → Behind l n at → Behind l (n + 1) next
line_behind l n at next h b = (feeds_line l at next h ∙ ap (λ (k : ℕ). k + 1) b.0, inr (at + h.0, h.1, h.3))

-- ---- the head

-- the lines that are right stand before the place behind them
abbrev Counted : List ℕ → Result Head WrongLine → Type 0
Counted l head = Behind l (head_lines_right head) (head_end head)

field_counted : (read : Head) (l : List ℕ) (field : Field) (at : ℕ) (f : Line → Result Head WrongLine) → Behind l (lines_before field) at → ((line : Line) → Behind l (lines_before field + 1) line.next → Counted l (f line)) → Counted l (field_at l field read at >>= f)
field_counted read l field at f b g =
    field_either (Counted l) l field at f (λ line e. g line (line_behind l (lines_before field) at line.next (subst (Ends l at) e (line_ends l (kind.Field field) at)) b)) (λ _. b)

head_counted : (l : List ℕ) → Counted l (head_of l)
unfolding head_of feeds_before
head_counted l =
    field_counted _ l field.Degree 0 _ (refl, inl refl)
    (λ degree a. field_counted _ l field.Basis degree.next _ a
    (λ basis b. field_counted _ l field.«Type» basis.next _ b
    (λ ty c. field_counted _ l field.Width0 ty.next _ c
    (λ width0 d. field_counted _ l field.Width1 width0.next _ d
    (λ width1 e. field_counted _ l field.SplitDepth width1.next _ e
    (λ splitdepth f. field_counted _ l field.Reverse splitdepth.next _ f
    (λ reverse g. g)))))))

-- ---- rows

module _ (l : List ℕ) (key : List ℕ) (n : ℕ) (f : NoFeed key (length key)) (p : 0 < n) where
  rows-counted : (k at m : ℕ) → Behind l k at → all_below m (λ j. is_row l (at + j * row_size key n) key n) ≡ true → Behind l (k + m) (at + m * row_size key n)
  unfolding all_below
  rows-counted k at zero b a =
      let place : at + 0 * row_size key n ≡ at = ap (λ (i : ℕ). at + i) (zero-mul (row_size key n)) ∙ add-zero at in
      subst (λ (i : ℕ). Behind l i (at + 0 * row_size key n)) (sym (add-zero k)) (subst (Behind l k) (sym place) b)
  rows-counted k at (suc m) b a =
      let h = (and-eq-true_iff (all_below m (λ j. is_row l (at + j * row_size key n) key n)) (is_row l (at + m * row_size key n) key n)).0 a in
      let place : at + m * row_size key n + row_size key n ≡ at + suc m * row_size key n = omega (arith, suc-mul m (row_size key n)) in
      let count : k + m + 1 ≡ k + suc m = omega arith in
      let next = line_behind l (k + m) _ _ (row_line_lem l (at + m * row_size key n) key n f p h.1) (rows-counted k at m b h.0) in
      subst (λ (i : ℕ). Behind l i (at + suc m * row_size key n)) count (subst (Behind l (k + m + 1)) place next)

  -- the rows that there are, or none
  rows-from : (k at most : ℕ) (b : Bool) → Behind l k at → Behind l (k + cond b (rows_from l at key n most) 0) (at + cond b (rows_from l at key n most) 0 * row_size key n)
  unfolding rows_from all_below
  rows-from k at most true b = rows-counted k at (run_below most (λ j. is_row l (at + j * row_size key n) key n)) b (run-passes most _)
  rows-from k at most false b = rows-counted k at 0 b refl

-- ---- the lines that are right

lines_counted : (l : List ℕ) → Behind l (lines_right l (head_of l)) (right_end l (head_of l))
unfolding right_end lines_right ray_count rays_from rays_at point_count ascii all_below
lines_counted l =
    let c = head_of l in
    rows-from l ray_key ray_floats refl (lit< tt) _ (rays_at l c) _ (ltb 0 (point_count l c)) (rows-from l point_key point_floats refl (lit< tt) (head_lines_right c) (head_end c) _ (is_ok c) (head_counted l))

-- the wrong line starts behind them
pub right_end_starts : (l : List ℕ) → StartsLine l (right_end l (head_of l))
right_end_starts l = (lines_counted l).1

-- ---- the reply

-- laying tells no wrong line
made_other : (l : List Float) (p : Params) (room : ℕ) (reason : Refusal) → first_of (create_refusals l p room) ≡ Some reason → number_of reason ≡ 17 → ⊥
made_other l p room reason e = eqb-false _ 17 (not-true _ (first_passes (λ r. not (eqb (number_of r) 17)) (create_refusals l p room) (unfold create_refusals limit_refusals in refl) reason e))

created_other : (h : Head) (n : ℕ) (rays l : List Float) (p : Params) (room : ℕ) → reply_number (with_curves h n rays (created_of l p room)) ≡ 17 → ⊥
unfolding created_of
created_other h n rays l p room = go (first_of (create_refusals l p room)) refl
  where
    go : (x : Option Refusal) → first_of (create_refusals l p room) ≡ x → reply_number (with_curves h n rays (told x (Ok (curve_count (length l / 3) p)))) ≡ 17 → ⊥
    go None e f = omega (arith, f)
    go (Some reason) e f = made_other l p room reason e f

-- THE LAW: the wrong line is the one that starts behind the lines that are right
pub wrong_line : (l : List ℕ) (room k : ℕ) → sheet_of l room ≡ refused_with refusal.WrongLine k → k ≡ line_number l (right_end l (head_of l))
unfolding sheet_of sheet_within line_number
wrong_line l room k = go (ltb most_bytes (length l)) (head_of l) (sym (lines_counted l).0)
  where
    go : (b : Bool) (head : Result Head WrongLine) → lines_right l head ≡ feeds_before l (right_end l head) → cond b (refused_with refusal.SheetTooLong 0) (sheet_behind l room head) ≡ refused_with refusal.WrongLine k → k ≡ feeds_before l (right_end l head) + 1
    go true head n e = absurd (omega (arith, ap reply_number e))
    go false (Ok h) n e = either (is_whole l (Ok h)) e
      where
        laid : Result Sheet SheetRefusal
        laid = with_curves h (ray_count l (Ok h)) (over no_rays 0 (rays_of l (Ok h))) (created_of (points_of l (Ok h)) (params_in h) room)

        either : (d : Bool) → cond d laid (refused_with refusal.WrongLine (lines_right l (Ok h) + 1)) ≡ refused_with refusal.WrongLine k → k ≡ feeds_before l (right_end l (Ok h)) + 1
        either true e = absurd (created_other h (ray_count l (Ok h)) (over no_rays 0 (rays_of l (Ok h))) (points_of l (Ok h)) (params_in h) room (ap reply_number e))
        either false e = sym (ap reply_line e) ∙ ap (λ (n : ℕ). n + 1) n
    go false (Err w) n e = sym (ap reply_line e) ∙ ap (λ (n : ℕ). n + 1) n
