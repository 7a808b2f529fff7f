-- The laws of `first_below`, `last_below`, `count_below`, `sum_below` and `fold_below`: by the tests below n alone, and split at a number. Assumes nothing.
use mathlib.Core.Bool.{Bool, true, false, true≢false}
use mathlib.Core.Option.{Option, none, some}
use mathlib.Core.Path.{◌≡◌, refl, sym, ap, ap₂, ◌∙◌}
use mathlib.Core.Logic.{⊎_elim, ◌⊎◌, inl, inr}
use Prim.Native.Nat.{ℕ, zero, suc, ◌+◌, ◌≤◌, ◌<◌}
use native.Mathlib.Nat.{le_refl, add-zero, add-suc, zero-add, add_assoc, eq-or-lt_of_le, le_of_suc-le-suc, not-suc-le-zero}
use native.Mathlib.Omega.{arith}
use lib.Dec.{leb}
use borrow.Author.Tests.{leb-true, leb-false}
use Rattle.bisection.specs.Below.{only, or_else, one_if, at_or, choose, better, first_below, last_below, best_below, count_below, sum_below}

-- f (n - 1) (… (f 1 (f 0 r)))
unfoldable pub fold_below : {A : Type 0} → ℕ → (ℕ → A → A) → A → A
fold_below zero f r = r
fold_below (suc n) f r = f n (fold_below n f r)

abbrev pub shift : ℕ → Option ℕ → Option ℕ
shift m none = none
shift m (some i) = some (m + i)

-- ---- only the tests below n count

pub first_ext : (n : ℕ) (P Q : ℕ → Bool) → ((j : ℕ) → j < n → P j ≡ Q j) → first_below n P ≡ first_below n Q
unfolding first_below
first_ext zero P Q h = refl
first_ext (suc n) P Q h = ap₂ (λ o t. or_else o (only t n)) (first_ext n P Q (λ j l. h j (omega arith))) (h n (le_refl (suc n)))

pub last_ext : (n : ℕ) (P Q : ℕ → Bool) → ((j : ℕ) → j < n → P j ≡ Q j) → last_below n P ≡ last_below n Q
unfolding last_below
last_ext zero P Q h = refl
last_ext (suc n) P Q h = ap₂ (λ t o. or_else (only t n) o) (h n (le_refl (suc n))) (last_ext n P Q (λ j l. h j (omega arith)))

pub count_ext : (n : ℕ) (P Q : ℕ → Bool) → ((j : ℕ) → j < n → P j ≡ Q j) → count_below n P ≡ count_below n Q
unfolding count_below
count_ext zero P Q h = refl
count_ext (suc n) P Q h = ap₂ (λ k t. k + one_if t) (count_ext n P Q (λ j l. h j (omega arith))) (h n (le_refl (suc n)))

pub sum_ext : (n : ℕ) (f g : ℕ → ℕ) → ((j : ℕ) → j < n → f j ≡ g j) → sum_below n f ≡ sum_below n g
unfolding sum_below
sum_ext zero f g h = refl
sum_ext (suc n) f g h = ap₂ (λ a b. a + b) (sum_ext n f g (λ j l. h j (omega arith))) (h n (le_refl (suc n)))

pub fold_ext : {A : Type 0} (n : ℕ) (f g : ℕ → A → A) (r : A) → ((j : ℕ) → j < n → (q : A) → f j q ≡ g j q) → fold_below n f r ≡ fold_below n g r
unfolding fold_below
fold_ext zero f g r h = refl
fold_ext (suc n) f g r h = ap (f n) (fold_ext n f g r (λ j l. h j (omega arith))) ∙ h n (le_refl (suc n)) _

-- ---- below m + n: below m, and then n more

or_else_none : (o : Option ℕ) → or_else o none ≡ o
or_else_none none = refl
or_else_none (some i) = refl

or_else_assoc : (a b c : Option ℕ) → or_else (or_else a b) c ≡ or_else a (or_else b c)
or_else_assoc none b c = refl
or_else_assoc (some i) b c = refl

shift_only : (m : ℕ) (t : Bool) (n : ℕ) → shift m (only t n) ≡ only t (m + n)
shift_only m true n = refl
shift_only m false n = refl

shift_or_else : (m : ℕ) (a b : Option ℕ) → shift m (or_else a b) ≡ or_else (shift m a) (shift m b)
shift_or_else m none b = refl
shift_or_else m (some i) b = refl

pub first_split : (m n : ℕ) (P : ℕ → Bool) → first_below (m + n) P ≡ or_else (first_below m P) (shift m (first_below n (λ j. P (m + j))))
unfolding first_below
first_split m zero P = rw add-zero (sym (or_else_none _))
first_split m (suc n) P =
    rw (add-suc, first_split m n P, shift_or_else, shift_only, or_else_assoc)

pub count_split : (m n : ℕ) (P : ℕ → Bool) → count_below (m + n) P ≡ count_below m P + count_below n (λ j. P (m + j))
unfolding count_below
count_split m zero P = rw (add-zero m) (sym (add-zero (count_below m P)))
count_split m (suc n) P = rw (add-suc, count_split m n P) (add_assoc _ _ _)

pub fold_split : {A : Type 0} (m n : ℕ) (f : ℕ → A → A) (r : A) → fold_below (m + n) f r ≡ fold_below n (λ j. f (m + j)) (fold_below m f r)
unfolding fold_below
fold_split m zero f r = rw add-zero
fold_split m (suc n) f r = rw (add-suc, fold_split m n f r)

pub sum_first : (n : ℕ) (f : ℕ → ℕ) → sum_below (suc n) f ≡ f 0 + sum_below n (λ k. f (suc k))
unfolding sum_below
sum_first zero f = rw (add-zero, zero-add)
sum_first (suc n) f = rw (sum_first n f) (add_assoc _ _ _)

pub sum-add : (n : ℕ) (f g : ℕ → ℕ) → sum_below n (λ k. f k + g k) ≡ sum_below n f + sum_below n g
unfolding sum_below
sum-add zero f g = refl
sum-add (suc n) f g = rw (sum-add n f g) (omega arith)

-- ---- what the two searches find

-- o is the first number below n that passes P
abbrev pub IsFirst : ℕ → (ℕ → Bool) → Option ℕ → Type 0
IsFirst n P none = (j : ℕ) → j < n → P j ≡ false
IsFirst n P (some i) = (i < n) × (P i ≡ true) × ((j : ℕ) → j < i → P j ≡ false)

-- o is the last number below n that passes P
abbrev pub IsLast : ℕ → (ℕ → Bool) → Option ℕ → Type 0
IsLast n P none = (j : ℕ) → j < n → P j ≡ false
IsLast n P (some i) = (i < n) × (P i ≡ true) × ((j : ℕ) → i < j → j < n → P j ≡ false)

below_suc : (n : ℕ) (P : ℕ → Bool) → ((j : ℕ) → j < n → P j ≡ false) → P n ≡ false → (j : ℕ) → j < suc n → P j ≡ false
below_suc n P h e j l = ⊎_elim (λ q. rw q e) (λ lt. h j lt) (eq-or-lt_of_le (le_of_suc-le-suc l))

pub first_is : (n : ℕ) (P : ℕ → Bool) → IsFirst n P (first_below n P)
unfolding first_below
first_is zero P = λ j l. absurd (not-suc-le-zero l)
first_is (suc n) P = go (first_below n P) (P n) refl (first_is n P)
  where
    go : (o : Option ℕ) (t : Bool) → P n ≡ t → IsFirst n P o → IsFirst (suc n) P (or_else o (only t n))
    go none true e h = (le_refl (suc n), e, h)
    go none false e h = below_suc n P h e
    go (some i) t e h = (omega arith, h.1, h.2)

pub last_is : (n : ℕ) (P : ℕ → Bool) → IsLast n P (last_below n P)
unfolding last_below
last_is zero P = λ j l. absurd (not-suc-le-zero l)
last_is (suc n) P = go (last_below n P) (P n) refl (last_is n P)
  where
    go : (o : Option ℕ) (t : Bool) → P n ≡ t → IsLast n P o → IsLast (suc n) P (or_else (only t n) o)
    go o true e h = (le_refl (suc n), e, λ j a b. absurd (omega arith))
    go none false e h = below_suc n P h e
    go (some i) false e h = (omega arith, h.1, λ j a l. ⊎_elim (λ q. rw q e) (λ lt. h.2 j a lt) (eq-or-lt_of_le (le_of_suc-le-suc l)))

pub first_none : (n : ℕ) (P : ℕ → Bool) → ((j : ℕ) → j < n → P j ≡ false) → first_below n P ≡ none
unfolding first_below
first_none zero P h = refl
first_none (suc n) P h = rw (first_none n P (λ j l. h j (omega arith)), h n (le_refl (suc n)))

pub best_none : (beats : ℕ → ℕ → Bool) (n : ℕ) (P : ℕ → Bool) → ((j : ℕ) → j < n → P j ≡ false) → best_below beats n P ≡ none
unfolding best_below
best_none beats zero P h = refl
best_none beats (suc n) P h = rw (best_none beats n P (λ j l. h j (omega arith)), h n (le_refl (suc n)))

-- ---- bounds

one_if-le : (t : Bool) → one_if t ≤ 1
one_if-le true = le_refl 1
one_if-le false = omega arith

pub count-le : (n : ℕ) (P : ℕ → Bool) → count_below n P ≤ n
unfolding count_below
count-le zero P = le_refl 0
count-le (suc n) P = omega (arith, count-le n P, one_if-le (P n))

pub count_none : (n : ℕ) (P : ℕ → Bool) → ((j : ℕ) → j < n → P j ≡ false) → count_below n P ≡ 0
unfolding count_below
count_none zero P h = refl
count_none (suc n) P h = rw (count_none n P (λ j l. h j (omega arith)), h n (le_refl (suc n)))

pub sum-le : (n : ℕ) (f g : ℕ → ℕ) → ((j : ℕ) → j < n → f j ≤ g j) → sum_below n f ≤ sum_below n g
unfolding sum_below
sum-le zero f g h = le_refl 0
sum-le (suc n) f g h = omega (arith, sum-le n f g (λ j l. h j (omega arith)), h n (le_refl (suc n)))

pub sum_none : (n : ℕ) (f : ℕ → ℕ) → ((j : ℕ) → j < n → f j ≡ 0) → sum_below n f ≡ 0
unfolding sum_below
sum_none zero f h = refl
sum_none (suc n) f h = rw (sum_none n f (λ j l. h j (omega arith)), h n (le_refl (suc n)))

-- ---- folds

-- a fold of steps that change nothing
pub fold_skips : {A : Type 0} (n : ℕ) (f : ℕ → A → A) (r : A) → ((j : ℕ) (q : A) → f j q ≡ q) → fold_below n f r ≡ r
unfolding fold_below
fold_skips zero f r h = refl
fold_skips (suc n) f r h = h n (fold_below n f r) ∙ fold_skips n f r h

-- what goes past each step goes past the fold
pub fold_past : {A : Type 0} (n : ℕ) (f : A → A) (g : ℕ → A → A) → ((j : ℕ) (r : A) → g j (f r) ≡ f (g j r)) → (r : A) → fold_below n g (f r) ≡ f (fold_below n g r)
unfolding fold_below
fold_past zero f g h r = refl
fold_past (suc n) f g h r = ap (g n) (fold_past n f g h r) ∙ h n (fold_below n g r)

-- what each step keeps, the fold keeps
pub fold_keeps : {A : Type 0} (Ok : A → Type 0) (n : ℕ) (f : ℕ → A → A) (r : A) → ((j : ℕ) → j < n → (q : A) → Ok q → Ok (f j q)) → Ok r → Ok (fold_below n f r)
unfolding fold_below
fold_keeps Ok zero f r h o = o
fold_keeps Ok (suc n) f r h o = h n (le_refl (suc n)) _ (fold_keeps Ok n f r (λ j l. h j (omega arith)) o)

-- ---- the best number, and the fold that finds it

-- the last number is the best where each beats the earlier ones
pub best_last : (n : ℕ) (P : ℕ → Bool) → best_below (λ j i. true) n P ≡ last_below n P
unfolding best_below last_below
best_last zero P = refl
best_last (suc n) P = ap (better (λ j i. true) (P n) n) (best_last n P) ∙ go (P n) (last_below n P)
  where
    go : (t : Bool) (o : Option ℕ) → better (λ j i. true) t n o ≡ or_else (only t n) o
    go true none = refl
    go true (some i) = refl
    go false o = refl

-- only the numbers that pass are put in order
pub best_ext : (n : ℕ) (P : ℕ → Bool) (b c : ℕ → ℕ → Bool) → ((j i : ℕ) → j < n → P j ≡ true → b j i ≡ c j i) → best_below b n P ≡ best_below c n P
unfolding best_below
best_ext zero P b c h = refl
best_ext (suc n) P b c h = ap (better b (P n) n) (best_ext n P b c (λ j i l. h j i (omega arith))) ∙ go (P n) refl (best_below c n P)
  where
    go : (t : Bool) → P n ≡ t → (o : Option ℕ) → better b t n o ≡ better c t n o
    go false e o = refl
    go true e none = refl
    go true e (some i) = ap (λ x. some (choose x n i)) (h n i (le_refl (suc n)) e)

-- a number that was found is below n, and passes
abbrev pub IsIn : ℕ → (ℕ → Bool) → Option ℕ → Type 0
IsIn n P none = Unit {0}
IsIn n P (some i) = (i < n) × (P i ≡ true)

pub cases : (j i : ℕ) → (j ≡ i) ⊎ ((j < i) ⊎ (i < j))
cases j i = go (leb j i) refl
  where
    go : (t : Bool) → leb j i ≡ t → (j ≡ i) ⊎ ((j < i) ⊎ (i < j))
    go true e = ⊎_elim (λ s. inl s) (λ l. inr (inl l)) (eq-or-lt_of_le (leb-true j i e))
    go false e = inr (inr (leb-false j i e))

module _ (beats : ℕ → ℕ → Bool) (P : ℕ → Bool) where
  pub best_in : (n : ℕ) → IsIn n P (best_below beats n P)
  unfolding best_below
  best_in zero = tt
  best_in (suc n) = go (P n) refl (best_below beats n P) (best_in n)
    where
      chosen : (b : Bool) (i : ℕ) → P n ≡ true → (i < n) × (P i ≡ true) → IsIn (suc n) P (some (choose b n i))
      chosen true i e h = (le_refl (suc n), e)
      chosen false i e h = (omega (arith, h.0), h.1)

      go : (t : Bool) → P n ≡ t → (o : Option ℕ) → IsIn n P o → IsIn (suc n) P (better beats t n o)
      go false e none h = tt
      go false e (some i) h = (omega (arith, h.0), h.1)
      go true e none h = (le_refl (suc n), e)
      go true e (some i) h = chosen (beats n i) i e h

  -- j is the best number below j + 1 where it passes and beats each one that passes below it
  pub best_top : (j : ℕ) → P j ≡ true → ((i : ℕ) → i < j → P i ≡ true → beats j i ≡ true) → best_below beats (suc j) P ≡ some j
  unfolding best_below
  best_top j e h = rw e (go (best_below beats j P) (best_in j))
    where
      go : (o : Option ℕ) → IsIn j P o → better beats true j o ≡ some j
      go none l = refl
      go (some i) l = rw (h i l.0 l.1)

  -- what the best is, where `beats` orders the numbers that pass: it beats each one before it, and none after it beats it
  abbrev pub IsBest : ℕ → Option ℕ → Type 0
  IsBest n none = (j : ℕ) → j < n → P j ≡ false
  IsBest n (some i) =
      (i < n) × (P i ≡ true) × ((j : ℕ) → j < i → P j ≡ true → beats i j ≡ true) × ((j : ℕ) → i < j → j < n → P j ≡ true → beats j i ≡ false)

  module _ (trans : (a b c : ℕ) → P b ≡ true → beats a b ≡ true → beats b c ≡ true → beats a c ≡ true) (ntrans : (a b c : ℕ) → P b ≡ true → beats a b ≡ false → beats b c ≡ false → beats a c ≡ false) where
    -- a beats c, which b does not beat, so a beats b
    over_b : (a b c : ℕ) → P b ≡ true → beats a c ≡ true → beats b c ≡ false → beats a b ≡ true
    over_b a b c p e e' = go (beats a b) refl
      where
        go : (t : Bool) → beats a b ≡ t → t ≡ true
        go true q = refl
        go false q = absurd (true≢false (sym e ∙ ntrans a b c p q e'))

    pub best_is : (n : ℕ) → IsBest n (best_below beats n P)
    unfolding best_below
    best_is zero = λ j l. absurd (not-suc-le-zero l)
    best_is (suc n) = go (P n) refl (best_below beats n P) (best_is n)
      where
        chosen : (b : Bool) (i : ℕ) → beats n i ≡ b → P n ≡ true → IsBest n (some i) → IsBest (suc n) (some (choose b n i))
        chosen true i q e h = (
          le_refl (suc n),
          e,
          (λ j l p. ⊎_elim (λ s. rw s q) (⊎_elim (λ lt. trans n i j h.1 q (h.2 j lt p)) (λ lt. over_b n j i p q (h.3 j lt l p))) (cases j i)),
          λ j a b p. absurd (omega arith),
        )
        chosen false i q e h = (omega (arith, h.0), h.1, h.2, λ j a l p. ⊎_elim (λ s. rw s q) (λ lt. h.3 j a lt p) (eq-or-lt_of_le (le_of_suc-le-suc l)))

        go : (t : Bool) → P n ≡ t → (o : Option ℕ) → IsBest n o → IsBest (suc n) (better beats t n o)
        go false e none h = below_suc n P h e
        go false e (some i) h = (omega (arith, h.0), h.1, h.2, λ j a l p. ⊎_elim (λ s. absurd (true≢false (sym p ∙ ap P s ∙ e))) (λ lt. h.3 j a lt p) (eq-or-lt_of_le (le_of_suc-le-suc l)))
        go true e none h = (le_refl (suc n), e, (λ j l p. absurd (true≢false (sym p ∙ h j l))), λ j a b p. absurd (omega arith))
        go true e (some i) h = chosen (beats n i) i refl e h

  -- a fold in which each number that passes replaces the value where it beats the one whose value stands there. `Ok` is asked of each number that is overwritten.
  module _ {A : Type 0} (f : ℕ → A → A) (v : ℕ → A) (r : A) (Ok : ℕ → Type 0)
      (skips : (j : ℕ) (q : A) → P j ≡ false → f j q ≡ q)
      (takes : (j : ℕ) → P j ≡ true → f j r ≡ v j)
      (chooses : (j i : ℕ) → Ok i → P i ≡ true → P j ≡ true → f j (v i) ≡ v (choose (beats j i) j i)) where
    pub fold_best : (n : ℕ) → ((j : ℕ) → suc j < n → P j ≡ true → Ok j) → fold_below n f r ≡ at_or v r (best_below beats n P)
    unfolding fold_below best_below
    fold_best zero ok = refl
    fold_best (suc n) ok = ap (f n) (fold_best n (λ j l. ok j (omega arith))) ∙ go (P n) refl (best_below beats n P) (best_in n)
      where
        go : (t : Bool) → P n ≡ t → (o : Option ℕ) → IsIn n P o → f n (at_or v r o) ≡ at_or v r (better beats t n o)
        go false e none h = skips n r e
        go false e (some i) h = skips n (v i) e
        go true e none h = takes n e
        go true e (some i) h = chooses n i (ok i (omega (arith, h.0)) h.1) h.1 e
