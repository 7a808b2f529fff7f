-- A report that is handed over block by block: what was written, and what is left. Assumes nothing.
use Rattle.std.proofs.Common.{◌≡◌, ℕ, ◌+◌, ◌-◌, ◌*◌, ◌≤◌, ◌<◌, true, false, not, List, ◌++◌, length, take, drop, eqb, sym, ap, ◌∙◌, arith, length-append, length-drop, refl, subst, drop-drop}
use Rattle.std.specs.Prelude.{Float, Option, Ok, is_ok}
use Rattle.std.specs.Io.KnownBytes.{Appends}
use Rattle.std.proofs.Math.Seq.{drop-append_seam, length-take-le, take-add}
use Rattle.std.proofs.lemmas.List.{take-append-le}
use mathlib.Core.Bool.{and-eq-true_iff}
use borrow.Author.Tests.{not-true, not-false, eqb-true, eqb-false}
use Rattle.std.proofs.KnownBytes.{Appends-trans}
use Rattle.blocks.specs.Lines.{line_count, lines_text, Sound}
use Rattle.blocks.specs.Blocks.{lines_left, rest_of, IsBlock}
use Rattle.blocks.specs.declared.Block.{Block}
use Rattle.blocks.specs.declared.Rest.{Rest}
use Rattle.blocks.proofs.Lines.{lines_few, no_lines}
use Rattle.printer.specs.declared.print.Printed.{Printed}
use Rattle.printer.specs.Printed.{goes_on, Follows, Writes}

-- of the report that was left first, so much is written and so much is still left
pub record Handed (list : List Float) (first left : Rest) (p : Printed) : Type 0 where
  pub sound : Sound left
  pub small : p.bytes + 65536 * lines_left left ≤ 65536 * 65537
  pub at_most : p.bytes + length (rest_of list left) ≤ length (rest_of list first)
  pub behind : is_ok p.outcome ≡ true → drop p.bytes (rest_of list first) ≡ rest_of list left

-- what a test says
module _ (p : Printed) (left : Rest) where
  pub going : goes_on p left ≡ true → (is_ok p.outcome ≡ true) × (0 < lines_left left)
  going h =
      let both = (and-eq-true_iff (is_ok p.outcome) (not (eqb (lines_left left) 0))).0 h in
      let more = eqb-false (lines_left left) 0 (not-true _ both.1) in
      (both.0, omega arith)

  over : goes_on p left ≡ false → is_ok p.outcome ≡ true → lines_left left ≡ 0
  over h o = eqb-true (lines_left left) 0 (not-false _ (rw o at h))

module _ (list : List Float) (first : Rest) where
  pub none_yet : Sound first → Handed list first first (record { bytes = 0; outcome = Ok tt })
  unfolding lines_left
  none_yet s = record { sound = s; small = omega (arith, lines_few first.sheet s.0); at_most = omega arith; behind = λ _. refl }

  -- one block more
  pub next : (left : Rest) (p q : Printed) (d x : List ℕ) (b : Block) → Handed list first left p → goes_on p left ≡ true → length d ≡ 65536 → length x ≡ length d
      → IsBlock list left d x b → lines_left b.rest < lines_left left → Follows p (take b.end x) q → Handed list first b.rest q
  next left p q d x b h Going-on long same block fewer wrote =
      let o = (going p left Going-on).0 in
      let size : length (take b.end x) ≡ b.end = length-take-le b.end x (omega (arith, block.inside)) in
      let parts : length (take b.end x) + length (rest_of list b.rest) ≡ length (rest_of list left) = sym (length-append (take b.end x) (rest_of list b.rest)) ∙ ap length block.whole in
      let here : drop p.bytes (rest_of list first) ≡ take b.end x ++ rest_of list b.rest = h.behind o ∙ sym block.whole in
      record {
        sound = block.sound;
        small = omega (arith, h.small, wrote.no_more, block.inside);
        at_most = omega (arith, h.at_most, wrote.no_more);
        behind = λ o'. rw (wrote.whole o', ← drop-drop (length (take b.end x)) p.bytes (rest_of list first), here) (drop-append_seam (take b.end x) (rest_of list b.rest));
      }

  -- and its bytes
  pub more_bytes : (left : Rest) (p q : Printed) (d x : List ℕ) (b : Block) (was now new : Option (List ℕ)) → Handed list first left p → goes_on p left ≡ true → IsBlock list left d x b
      → Follows p (take b.end x) q → p.bytes ≤ q.bytes → Appends was now (take p.bytes (rest_of list first)) → Appends now new (take (q.bytes - p.bytes) (take b.end x))
      → Appends was new (take q.bytes (rest_of list first))
  more_bytes left p q d x b was now new h Going-on block wrote more before here =
      let o = (going p left Going-on).0 in
      let few : q.bytes - p.bytes ≤ length (take b.end x) = omega (arith, wrote.no_more) in
      let at : drop p.bytes (rest_of list first) ≡ take b.end x ++ rest_of list b.rest = h.behind o ∙ sym block.whole in
      let same : take (q.bytes - p.bytes) (drop p.bytes (rest_of list first)) ≡ take (q.bytes - p.bytes) (take b.end x) = ap (take (q.bytes - p.bytes)) at ∙ take-append-le (q.bytes - p.bytes) (take b.end x) (rest_of list b.rest) few in
      let end : p.bytes + (q.bytes - p.bytes) ≡ q.bytes = omega arith in
      let joined : take p.bytes (rest_of list first) ++ take (q.bytes - p.bytes) (take b.end x) ≡ take q.bytes (rest_of list first) =
      ap (λ zs. take p.bytes (rest_of list first) ++ zs) (sym same) ∙ sym (take-add p.bytes (q.bytes - p.bytes) (rest_of list first)) ∙ ap (λ k. take k (rest_of list first)) end in
      subst (λ zs. Appends was new zs) joined (Appends-trans was now new _ _ before here)

  -- nothing is left
  left_none : (left : Rest) → Sound left → lines_left left ≡ 0 → length (rest_of list left) ≡ 0
  unfolding lines_left rest_of
  left_none left s z =
      let end : line_count left.sheet ≡ left.next = omega (arith, s.1) in
      ap length (ap (lines_text list left.sheet left.next) end ∙ no_lines list left.sheet left.next)

  pub written : (left : Rest) (p : Printed) → Handed list first left p → goes_on p left ≡ false → Writes (rest_of list first) p
  written left p h stop = record {
    at_most = omega (arith, h.at_most);
    all = λ o. omega (arith, h.at_most, length-drop p.bytes (rest_of list first), ap length (h.behind o), left_none left h.sound (over p left stop o));
  }
