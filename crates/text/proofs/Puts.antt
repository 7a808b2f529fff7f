-- Texts put one behind the other. Assumes nothing.
use mathlib.Core.Bool.{Bool, true, false}
use mathlib.Core.Logic.{◌⊎◌, inl, inr, ⊎_elim}
use mathlib.Core.Path.{◌≡◌, refl, sym, ap, ◌∙◌}
use mathlib.Core.List.{List, [], ◌∷◌, ◌++◌, append_assoc}
use Prim.Native.Nat.{ℕ, zero, suc, ◌+◌, ◌-◌, ◌≤◌, ◌<◌, min}
use native.Mathlib.Numerals.{add-one}
use native.Mathlib.Nat.{add-zero, add_assoc, sub-zero, suc-sub-suc, min-le_left}
use native.Mathlib.Omega.{arith}
use borrow.Author.Tests.{leb-true, leb-false}
use lib.Dec.{leb}
use lib.ListN.{length, take, drop, set, length-append, length-take}
use lib.Seq.{take-nil, take_all, set_split, paste}
use borrow.Rule.Slice.PartMut.{put_mid}
use Rattle.std.proofs.lemmas.Slice.{put_mid-paste}
use Rattle.limits.specs.List.{over}
use Rattle.limits.proofs.Lists.{over_nil, over-append, length_over, paste_over}
use Rattle.text.specs.Put.{fitting, Put, Puts}
use Rattle.text.specs.declared.buffer.Buffer.{Buffer}

-- the first n of s, and of t behind it
take_two : (n : ℕ) (s t : List ℕ) → take n s ++ take (n - length (take n s)) t ≡ take n (s ++ t)
take_two zero s t = refl
take_two (suc n) [] t = ap (λ (k : ℕ). take k t) (sub-zero (suc n))
take_two (suc n) (b ∷ s) t = ap (λ (k : ℕ). b ∷ take n s ++ take k t) (suc-sub-suc n (length (take n s))) ∙ ap (λ (r : List ℕ). b ∷ r) (take_two n s t)

module _ (d : List ℕ) (at : ℕ) (s : List ℕ) where
  -- what is put ends within the list, or there is no room at all
  within : (at + length (take (length d - at) s) ≤ length d) ⊎ (length d - at ≡ 0)
  within = go (leb at (length d)) refl
    where
      go : (b : Bool) → leb at (length d) ≡ b → (at + length (take (length d - at) s) ≤ length d) ⊎ (length d - at ≡ 0)
      go true e = inl (omega (arith, leb-true at (length d) e, length-take (length d - at) s, min-le_left (length d - at) (length s)))
      go false e = inr (omega (arith, leb-false at (length d) e))

  -- a list keeps its length
  length-put : length (over d at (take (length d - at) s)) ≡ length d
  length-put = ⊎_elim (length_over d at (take (length d - at) s)) (λ z. ap length (ap (λ (k : ℕ). over d at (take k s)) z ∙ over_nil d at)) within

  over_two : (t : List ℕ) (k : ℕ) → (at + length (take k s) ≤ length d) ⊎ (k ≡ 0) → over (over d at (take k s)) (at + length (take k s)) (take (k - length (take k s)) t) ≡ over d at (take k (s ++ t))
  over_two t k = ⊎_elim (λ h. over-append d at (take k s) (take (k - length (take k s)) t) h ∙ ap (over d at) (take_two k s t)) (λ z. rw z (over_nil (over d at []) (at + 0)))

-- THE LAW: s, and then t from the place behind it, is s ++ t
pub then : {d : List ℕ} {at : ℕ} {s x : List ℕ} {next : ℕ} {t y : List ℕ} {end : ℕ} → Put d at s x next → Put x next t y end → Put d at (s ++ t) y end
unfolding fitting
then {d} {at} {s} {x} {next} {t} {y} {end} p q =
    let k = length d - at in
    let f = take k s in
    let room : length x - next ≡ k - length f = omega (arith, ap length p.list ∙ length-put d at s, p.place) in
    record {
      list =
          q.list
          ∙ ap (λ (n : ℕ). over x next (take n t)) room
          ∙ ap (λ (z : List ℕ). over z next (take (k - length f) t)) p.list
          ∙ ap (λ (n : ℕ). over (over d at f) n (take (k - length f) t)) p.place
          ∙ over_two d at s t k (within d at s);
      place =
          q.place
          ∙ ap (λ (n : ℕ). next + length (take n t)) room
          ∙ ap (λ (n : ℕ). n + length (take (k - length f) t)) p.place
          ∙ add_assoc at (length f) (length (take (k - length f) t))
          ∙ ap (λ (n : ℕ). at + n) (sym (length-append f (take (k - length f) t)) ∙ ap length (take_two k s t));
    }

-- one byte, where there is room, and where there is none
pub put_one : (d : List ℕ) (at b : ℕ) → at < length d → Put d at (b ∷ []) (set d at b) (at + 1)
unfolding fitting over
put_one d at b h =
    let all : take (length d - at) (b ∷ []) ≡ b ∷ [] = take_all (length d - at) (b ∷ []) (omega arith) in
    record {
      list = rw all (set_split d at b h ∙ ap (λ n. take at d ++ (b ∷ drop n d)) (sym (add-one at)) ∙ sym (append_assoc (take at d) (b ∷ []) (drop (at + 1) d)));
      place = rw all;
    }

pub put_none : (d : List ℕ) (at : ℕ) (s : List ℕ) → length d ≤ at → Put d at s d at
unfolding fitting
put_none d at s h =
    let none : length d - at ≡ 0 = omega arith in
    record { list = rw none (sym (over_nil d at)); place = rw none (sym (add-zero at)) }

-- a copy of as many bytes as there is room for, where k is their number by a range's ends
module _ (d s : List ℕ) (at : ℕ) where
  copied : (n : ℕ) → n ≡ min (length s) (length d - min at (length d)) → over d (min at (length d)) (take n s) ≡ over d at (take (length d - at) s)
  copied n e = go (leb at (length d)) (leb (length d - at) (length s)) refl refl
    where
      go : (b c : Bool) → leb at (length d) ≡ b → leb (length d - at) (length s) ≡ c → over d (min at (length d)) (take n s) ≡ over d at (take (length d - at) s)
      go true true f g =
          let h = leb-true at (length d) f in
          let r = leb-true (length d - at) (length s) g in
          let here : min at (length d) ≡ at = omega arith in
          let all : n ≡ length d - at = omega arith in
          rw (here, all)
      go true false f g =
          let h = leb-true at (length d) f in
          let r = leb-false (length d - at) (length s) g in
          let here : min at (length d) ≡ at = omega arith in
          ap (λ (i : ℕ). over d i (take n s)) here ∙ ap (over d at) (take_all n s (omega arith) ∙ sym (take_all (length d - at) s (omega arith)))
      go false c f g =
          let h = leb-false at (length d) f in
          let none : n ≡ 0 = omega arith in
          let full : length d - at ≡ 0 = omega arith in
          ap (λ (m : ℕ). over d (min at (length d)) (take m s)) none ∙ over_nil d (min at (length d)) ∙ sym (ap (λ (m : ℕ). over d at (take m s)) full ∙ over_nil d at)

  pub put_copy : (x : List ℕ) (i n k : ℕ) → i ≡ min at (length d) → n ≡ min (length s) (length d - i) → k ≡ n → x ≡ take n s → Put d at s (put_mid i k d x) (at + n)
  unfolding fitting
  put_copy x i n k e f g h =
      let long : n ≡ length (take n s) = omega (arith, length-take n s) in
      record {
        list =
            put_mid-paste i k d x (take n s) n h (sym g) long
            ∙ ap (paste d i (take n s)) long
            ∙ paste_over d i (take n s)
            ∙ ap (λ (j : ℕ). over d j (take n s)) e
            ∙ copied n (rw (← e) f);
        place = omega (arith, length-take (length d - at) s);
      }

-- the same text by another name
pub renamed : {d : List ℕ} {at : ℕ} {s t x : List ℕ} {next : ℕ} → s ≡ t → Put d at s x next → Put d at t x next
renamed e p = rw (← e) p

-- where the place behind is before the end, nothing was cut
pub whole : {d : List ℕ} {at : ℕ} {s x : List ℕ} {next : ℕ} → Put d at s x next → next < length d → (x ≡ over d at s) × (next ≡ at + length s)
unfolding fitting
whole {d} {at} {s} {x} {next} p h =
    let k = length d - at in
    let all : take k s ≡ s = take_all k s (omega (arith, p.place, length-take k s)) in
    (p.list ∙ ap (over d at) all, p.place ∙ ap (λ (r : List ℕ). at + length r) all)

-- ---- of a buffer

-- nothing
pub puts_none : (b : Buffer) → Puts b b []
unfolding fitting
puts_none b =
    let none = take-nil (length b.bytes.now - b.end) in record {
      same_buffer = refl;
      put = record { list = sym (ap (over b.bytes.now b.end) none ∙ over_nil _ _); place = omega (arith, ap length none) };
    }

-- s, and then t behind it
pub then_puts : {a b c : Buffer} {s t : List ℕ} → Puts a b s → Puts b c t → Puts a c (s ++ t)
then_puts p q = record { same_buffer = q.same_buffer ∙ p.same_buffer; put = then p.put q.put }

pub puts_renamed : {a b : Buffer} {s t : List ℕ} → s ≡ t → Puts a b s → Puts a b t
puts_renamed e p = rw (← e) p
