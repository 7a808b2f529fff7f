-- The numbered lines: what follows which, where a line's ray and curve are, and that all of them are the report. Assumes nothing.
use mathlib.Core.Bool.{Bool, true, false, cond}
use mathlib.Core.List.{List, [], ◌++◌, append_assoc, append-nil}
use mathlib.Core.Path.{◌≡◌, refl, sym, ap, ap₂, ◌∙◌}
use Prim.Native.Nat.{ℕ, zero, suc, ◌+◌, ◌-◌, ◌*◌, ◌/◌, ◌%◌, ◌≤◌, ◌<◌}
use native.Mathlib.Nat.{add-suc, add-zero, mul-zero, mul-le-mul, zero-mul, suc-mul, sub_self, sub-zero, mod-lt, mod-eq_of_lt, div-eq_of_lt, div-lt_iff_lt-mul, mul-add-div_right, mul-add-mod_self_right}
use native.Mathlib.Omega.{arith}
use borrow.Author.Tests.{eqb-true, eqb-false}
use lib.Dec.{eqb, lit≤}
use lib.Ieee.{Float}
use lib.ListN.{length}
use Rattle.limits.specs.List.{up_to}
use Rattle.std.specs.Prelude.{Result, Ok, Err}
use Rattle.limits.specs.Refused.{number_of}
use Rattle.sheet.specs.declared.Sheet.{Sheet}
use Rattle.sheet.specs.declared.SheetRefusal.{SheetRefusal}
use Rattle.report.specs.Printed.{pieces_text, longest}
use Rattle.blocks.specs.Report.{met_at, met_text, reply_text}
use Rattle.blocks.specs.Lines.{Small, line_count, line_text, lines_text}
use Rattle.blocks.proofs.Narrow.{narrow}
use Rattle.report.proofs.Longest.{pieces_most, refused_sheet_most, answer-most}

-- ---- lists in a row

module _ {A : Type 0} where
  up_to_same : (f g : ℕ → List A) (n : ℕ) → ((i : ℕ) → i < n → f i ≡ g i) → up_to f n ≡ up_to g n
  unfolding up_to
  up_to_same f g zero h = refl
  up_to_same f g (suc n) h = ap₂ ◌++◌ (up_to_same f g n (λ i l. h i (omega arith))) (h n (omega arith))

  up_to-append : (f : ℕ → List A) (m n : ℕ) → up_to f (m + n) ≡ up_to f m ++ up_to (λ i. f (m + i)) n
  unfolding up_to
  up_to-append f m zero = ap (up_to f) (add-zero m) ∙ sym (append-nil (up_to f m))
  up_to-append f m (suc n) =
      ap (up_to f) (add-suc m n) ∙ ap (λ (l : List A). l ++ f (m + n)) (up_to-append f m n) ∙ append_assoc (up_to f m) (up_to (λ i. f (m + i)) n) (f (m + n))

  -- n rows of m, and the n * m in one row
  up_to-rows : (f : ℕ → ℕ → List A) (m n : ℕ) → up_to (λ k. f (k / m) (k % m)) (n * m) ≡ up_to (λ i. up_to (f i) m) n
  unfolding up_to
  up_to-rows f m zero = ap (up_to (λ k. f (k / m) (k % m))) (zero-mul m)
  up_to-rows f m (suc n) =
      ap (up_to (λ k. f (k / m) (k % m))) (suc-mul n m)
      ∙ up_to-append (λ k. f (k / m) (k % m)) (n * m) m
      ∙ ap₂ ◌++◌ (up_to-rows f m n) (up_to_same _ (f n) m (λ j l. ap₂ f (mul-add-div_right (omega arith) n j ∙ ap (λ (x : ℕ). n + x) (div-eq_of_lt l) ∙ add-zero n) (mul-add-mod_self_right n m j ∙ mod-eq_of_lt l)))

-- ---- which ray and which curve a line is of

pub placed : (k n pieces : ℕ) → (k ≡ 0 → ⊥) → k < 1 + n * pieces → (0 < pieces) × ((k - 1) / pieces < n) × ((k - 1) % pieces < pieces)
placed k n zero h l = absurd (h (omega (arith, mul-zero n)))
placed k n (suc m) h l = let p : 0 < suc m = omega arith in (p, (div-lt_iff_lt-mul p).1 (omega arith), mod-lt (k - 1) p)

pub lines_few : (sheet : Result Sheet SheetRefusal) → Small sheet → line_count sheet ≤ 65537
lines_few (Ok sheet) s = omega (arith, mul-le-mul s.1 s.0)
lines_few (Err e) s = lit≤ tt

module _ (list : List Float) where
  -- ---- no line has over 90 bytes

  pub line_most : (sheet : Result Sheet SheetRefusal) (k : ℕ) → Small sheet → k < line_count sheet → length (line_text list sheet k) ≤ longest
  line_most (Ok sheet) k s l = go (eqb k 0) (eqb-false k 0)
    where
      go : (b : Bool) → (b ≡ false → k ≡ 0 → ⊥) → length (cond b (pieces_text sheet.pieces) (met_text sheet.rays list sheet.reverse ((k - 1) / sheet.pieces) ((k - 1) % sheet.pieces))) ≤ longest
      go true e = pieces_most sheet.pieces (omega arith)
      go false e = let at = placed k sheet.ray_count sheet.pieces (e refl) l in answer-most _ _ (omega arith) (omega arith) (met_at sheet.rays list sheet.reverse _ _) (unfold met_at in narrow _ _ _ sheet.reverse _)
  line_most (Err e) k s l = refused_sheet_most (number_of e.refusal) e.line (omega arith) (omega arith)

  -- ---- one behind the other

  module _ (sheet : Result Sheet SheetRefusal) where
    pub no_lines : (k : ℕ) → lines_text list sheet k k ≡ []
    unfolding lines_text up_to
    no_lines k = ap (up_to (λ i. line_text list sheet (k + i))) (sub_self k)

    pub lines_next : (from k : ℕ) → from ≤ k → lines_text list sheet from k ++ line_text list sheet k ≡ lines_text list sheet from (k + 1)
    unfolding lines_text up_to
    lines_next from k l =
        let one_more : k + 1 - from ≡ suc (k - from) = omega arith in
        let here : from + (k - from) ≡ k = omega arith in
        sym (ap (up_to (λ i. line_text list sheet (from + i))) one_more ∙ ap (λ (x : ℕ). up_to (λ i. line_text list sheet (from + i)) (k - from) ++ line_text list sheet x) here)

    pub lines_append : (a b c : ℕ) → a ≤ b → b ≤ c → lines_text list sheet a b ++ lines_text list sheet b c ≡ lines_text list sheet a c
    unfolding lines_text
    lines_append a b c l h =
        let f : ℕ → List ℕ = λ i. line_text list sheet (a + i) in
        let parts : c - a ≡ (b - a) + (c - b) = omega arith in
        sym (ap (up_to f) parts ∙ up_to-append f (b - a) (c - b) ∙ ap (λ (t : List ℕ). up_to f (b - a) ++ t) (up_to_same _ _ (c - b) (λ i _. ap (line_text list sheet) (shift a b i l))))
      where
        shift : (a b i : ℕ) → a ≤ b → a + ((b - a) + i) ≡ b + i
        shift a b i l = omega arith

  -- ---- all of them are the report

  -- the line behind k others
  behind : (sheet : Sheet) (k i : ℕ) → i ≡ suc k → line_text list (Ok sheet) i ≡ met_text sheet.rays list sheet.reverse (k / sheet.pieces) (k % sheet.pieces)
  behind sheet k i e = go (eqb i 0) (eqb-true i 0)
    where
      go : (b : Bool) → (b ≡ true → i ≡ 0) → cond b (pieces_text sheet.pieces) (met_text sheet.rays list sheet.reverse ((i - 1) / sheet.pieces) ((i - 1) % sheet.pieces)) ≡ met_text sheet.rays list sheet.reverse (k / sheet.pieces) (k % sheet.pieces)
      go true h = absurd (let z = h refl in omega arith)
      go false h = let less : i - 1 ≡ k = omega arith in rw less

  pub all_lines : (sheet : Result Sheet SheetRefusal) → lines_text list sheet 0 (line_count sheet) ≡ reply_text list sheet
  unfolding lines_text up_to
  all_lines (Ok sheet) =
      let g : ℕ → List ℕ = λ i. line_text list (Ok sheet) (0 + i) in
      ap (up_to g) (sub-zero (1 + sheet.ray_count * sheet.pieces))
      ∙ up_to-append g 1 (sheet.ray_count * sheet.pieces)
      ∙ ap (λ (t : List ℕ). pieces_text sheet.pieces ++ t)
      (up_to_same _ _ (sheet.ray_count * sheet.pieces) (λ k _. behind sheet k (0 + (1 + k)) (omega arith)) ∙ up_to-rows (met_text sheet.rays list sheet.reverse) sheet.pieces sheet.ray_count)
  all_lines (Err e) = refl
