-- A list that is copied over another, and a part of a list that is moved down. Assumes nothing.
use mathlib.Core.Path.{◌≡◌, refl, sym, ap, ◌∙◌, subst}
use mathlib.Core.List.{List, ◌++◌}
use Prim.Native.Nat.{ℕ, ◌+◌, ◌≤◌}
use native.Mathlib.Omega.{arith}
use borrow.Rule.Slice.PartMut.{put_mid}
use lib.ListN.{length, take, drop, length-drop}
use lib.Seq.{length-take-le, paste}
use Rattle.std.proofs.lemmas.Slice.{put_mid-paste}
use Rattle.limits.specs.List.{over}
use Rattle.limits.proofs.Lists.{paste_over}

-- the part that moves down
abbrev pub part : {A : Type 0} → List A → ℕ → ℕ → List A
part l from n = take n (drop from l)

pub length_part : {A : Type 0} (l : List A) (from n : ℕ) → from + n ≤ length l → length (part l from n) ≡ n
length_part l from n h = length-take-le n (drop from l) (subst (λ (k : ℕ). n ≤ k) (sym (length-drop from l)) (omega arith))

module _ {A : Type 0} (d : List A) (at : ℕ) where
  -- a part of d is written over, and it is as long as s
  pub put_mid-over : (k : ℕ) (s : List A) → length s ≡ k → put_mid at k d s ≡ over d at s
  put_mid-over k s h = put_mid-paste at k d s s (length s) refl h refl ∙ paste_over d at s

  -- the first n of a longer list are written over d
  pub paste-over : (s : List A) (n : ℕ) → n ≤ length s → paste d at s n ≡ over d at (take n s)
  unfolding over
  paste-over s n h = ap (λ (k : ℕ). (take at d ++ take n s) ++ drop (at + k) d) (sym (length-take-le n s h))
