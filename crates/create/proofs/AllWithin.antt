-- A test of every coordinate, and of every number below a bound, by number and along the list. Assumes nothing.
use mathlib.Core.Path.{◌≡◌, refl, sym, ap, ◌∙◌}
use mathlib.Core.Bool.{Bool, true, false, ◌&&◌}
use mathlib.Core.List.{List, [], ◌∷◌}
use Prim.Native.Nat.{ℕ, zero, suc, ◌+◌}
use native.Mathlib.Nat.{zero-add, add-zero}
use native.Mathlib.Omega.{arith}
use lib.Ieee.{Float, nan}
use lib.ListN.{length, get_or}
use Rattle.std.specs.List.{fold, list_all, range_with_len}
use Rattle.limits.specs.Below.{all_below}
use Rattle.limits.specs.Within.{largest, within}
use Rattle.create.specs.Create.{all_within}

and-true : (a : Bool) → a && true ≡ a
and-true true = refl
and-true false = refl

and_assoc : (a b c : Bool) → (a && b) && c ≡ a && (b && c)
and_assoc true b c = refl
and_assoc false b c = refl

-- the first, and the others
all_below-first : (n : ℕ) (P : ℕ → Bool) → all_below (suc n) P ≡ P 0 && all_below n (λ k. P (suc k))
unfolding all_below
all_below-first zero P = sym (and-true (P 0))
all_below-first (suc n) P = ap (λ b. b && P (suc n)) (all_below-first n P) ∙ and_assoc (P 0) (all_below n (λ k. P (suc k))) (P (suc n))

each : (p : Float → Bool) (l : List Float) → all_below (length l) (λ i. p (get_or l i nan)) ≡ list_all p l
each p [] = unfold all_below in refl
each p (x ∷ l) = all_below-first (length l) (λ i. p (get_or (x ∷ l) i nan)) ∙ ap (λ b. p x && b) (each p l)

alike : (n : ℕ) (P Q : ℕ → Bool) → ((k : ℕ) → P k ≡ Q k) → all_below n P ≡ all_below n Q
unfolding all_below
alike zero P Q h = refl
alike (suc n) P Q h = rw (alike n P Q h, h n) refl

behind : (n a : ℕ) (P : ℕ → Bool) → list_all P (range_with_len a n) ≡ all_below n (λ k. P (a + k))
behind zero a P = unfold all_below in refl
behind (suc n) a P =
    ap (λ b. P a && b) (behind n (a + 1) P ∙ alike n (λ k. P (a + 1 + k)) (λ k. P (a + suc k)) (λ k. ap P (omega arith)))
    ∙ ap (λ x. P x && all_below n (λ k. P (a + suc k))) (sym (add-zero a))
    ∙ sym (all_below-first n (λ k. P (a + k)))

pub all_below-list : (n : ℕ) (P : ℕ → Bool) → list_all P (range_with_len 0 n) ≡ all_below n P
all_below-list n P = behind n 0 P ∙ alike n (λ k. P (0 + k)) P (λ k. ap P (zero-add k))

fold-all : (p : Float → Bool) (a : Bool) (l : List Float) → fold (λ b x. b && p x) a l ≡ a && list_all p l
fold-all p a [] = sym (and-true a)
fold-all p a (x ∷ l) = fold-all p (a && p x) l ∙ and_assoc a (p x) (list_all p l)

pub all_within-list : (l : List Float) → all_within l ≡ list_all (λ x. within x largest) l
unfolding all_within
all_within-list l = each (λ x. within x largest) l

pub all_within-fold : (l : List Float) → all_within l ≡ fold (λ b x. b && within x largest) true l
all_within-fold l = all_within-list l ∙ sym (fold-all (λ x. within x largest) true l)
