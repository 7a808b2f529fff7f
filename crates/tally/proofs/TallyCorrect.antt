-- From zeros, after every list of at most 4,000,000,000 answers: the rays are the length of the list, each other counter is how many answers were of its kind, and the rays are the sum of the three. Each of these calls says yes.
-- A yes adds one to the rays and to the counter of the answer's kind alone. A tally at the limit, or whose rays are not the sum, says no and stays as it is. The same of the counters in an array.
-- Assumes nothing.
use mathlib.Core.Path.{◌≡◌, refl, ◌∙◌, ap}
use mathlib.Core.Bool.{true, false}
use mathlib.Core.List.{List, [], ◌∷◌, map}
use Prim.Native.Nat.{ℕ, ◌+◌, ◌≤◌, ◌<◌}
use native.Mathlib.Nat.{add-zero, zero-add}
use native.Mathlib.Omega.{arith}
use borrow.Author.Tests.{eq-eqb, ne_eqb}
use lib.ListN.{length, length-map}
use Rattle.tally.specs.declared.Tally.{Tally}
use Rattle.tally.specs.declared.Kind.{Kind}
use Rattle.tally.specs.declared.Kind.TheVariants.{Hit, Miss, Refusal}
use Rattle.tally.specs.Tally.{kind_of, number_of, one_if, most_rays, sum_of, can_grow, after, counters_of, tally_of, counters_after, tallied, counters_tallied, zeros, counter_of, count_of}
use Rattle.tally.proofs.Grows.{can_grow_lem, stays_at_limit, stays_off_sum}

-- a yes

pub yes_rays : (k : Kind) (t : Tally) → can_grow t ≡ true → (after k t).rays ≡ t.rays + 1
yes_rays k t h = rw h

yes_counter : (j k : Kind) (t : Tally) → can_grow t ≡ true → counter_of j (after k t) ≡ counter_of j t + one_if j k
unfolding counter_of
yes_counter Hit k t h = rw h
yes_counter Miss k t h = rw h
yes_counter Refusal k t h = rw h

pub yes_own_counter : (k : Kind) (t : Tally) → can_grow t ≡ true → counter_of k (after k t) ≡ counter_of k t + 1
yes_own_counter k t h = yes_counter k k t h ∙ rw (eq-eqb (number_of k) (number_of k) refl)

kind_of_number : (k : Kind) → kind_of (number_of k) ≡ k
kind_of_number Hit = refl
kind_of_number Miss = refl
kind_of_number Refusal = refl

pub yes_other_counter : (j k : Kind) (t : Tally) → can_grow t ≡ true → (j ≡ k → ⊥) → counter_of j (after k t) ≡ counter_of j t
yes_other_counter j k t h differ = yes_counter j k t h ∙ rw (ne_eqb (number_of j) (number_of k) (λ e. differ (cc (ap kind_of e, kind_of_number j, kind_of_number k))), add-zero)

-- a no

pub no_stays : (k : Kind) (t : Tally) → can_grow t ≡ false → after k t ≡ t
no_stays k t h = rw h

pub no_at_limit : (k : Kind) (t : Tally) → most_rays ≤ t.rays → (can_grow t ≡ false) × (after k t ≡ t)
no_at_limit k t l = let h = stays_at_limit t l in (h, no_stays k t h)

pub no_off_sum : (k : Kind) (t : Tally) → (t.rays ≡ sum_of t → ⊥) → (can_grow t ≡ false) × (after k t ≡ t)
no_off_sum k t d = let h = stays_off_sum t d in (h, no_stays k t h)

-- the rays, each counter and the sum after a list of answers that a tally has room for
record After (t : Tally) (ks : List Kind) : Type 0 where
  rays_are : (tallied ks t).rays ≡ t.rays + length ks
  counter_is : (j : Kind) → counter_of j (tallied ks t) ≡ counter_of j t + count_of j ks
  sum_is : (tallied ks t).rays ≡ sum_of (tallied ks t)

one_in_all : (k : Kind) → one_if Hit k + one_if Miss k + one_if Refusal k ≡ 1
one_in_all Hit = refl
one_in_all Miss = refl
one_in_all Refusal = refl

sum-after : (k : Kind) (t : Tally) → can_grow t ≡ true → sum_of (after k t) ≡ sum_of t + 1
sum-after k t h = rw h (omega (arith, one_in_all k))

after_list : (ks : List Kind) (t : Tally) → t.rays ≡ sum_of t → t.rays + length ks ≤ most_rays → After t ks
unfolding tallied count_of
after_list [] t e l = record { rays_are = omega arith; counter_is = λ j. omega arith; sum_is = e }
after_list (k ∷ ks) t e l =
    let h = can_grow_lem t (omega arith) e in
    let r = yes_rays k t h in
    let s = sum-after k t h in
    let rest = after_list ks (after k t) (omega arith) (omega arith) in
    record {
      rays_are = omega (arith, rest.rays_are);
      counter_is = λ j. omega (arith, rest.counter_is j, yes_counter j k t h);
      sum_is = rest.sum_is;
    }

from-zeros : (ks : List Kind) → length ks ≤ most_rays → After zeros ks
from-zeros ks l = after_list ks zeros refl (rw zero-add l)

-- from zeros

pub rays_are_length : (ks : List Kind) → length ks ≤ most_rays → (tallied ks zeros).rays ≡ length ks
rays_are_length ks l = omega (arith, (from-zeros ks l).rays_are)

pub counter_is_count : (j : Kind) (ks : List Kind) → length ks ≤ most_rays → counter_of j (tallied ks zeros) ≡ count_of j ks
unfolding counter_of
counter_is_count Hit ks l = (from-zeros ks l).counter_is Hit ∙ zero-add _
counter_is_count Miss ks l = (from-zeros ks l).counter_is Miss ∙ zero-add _
counter_is_count Refusal ks l = (from-zeros ks l).counter_is Refusal ∙ zero-add _

pub rays_are_sum : (ks : List Kind) → length ks ≤ most_rays → (tallied ks zeros).rays ≡ sum_of (tallied ks zeros)
rays_are_sum ks l = (from-zeros ks l).sum_is

-- after fewer answers than the limit the next call says yes
pub each_says_yes : (ks : List Kind) → length ks < most_rays → can_grow (tallied ks zeros) ≡ true
each_says_yes ks l = can_grow_lem _ (omega (arith, rays_are_length ks (omega arith))) (rays_are_sum ks (omega arith))

-- the same of the counters in an array

tallied_counters : (ss : List ℕ) (t : Tally) → counters_tallied ss (counters_of t) ≡ counters_of (tallied (map kind_of ss) t)
unfolding counters_tallied tallied
tallied_counters [] t = refl
tallied_counters (s ∷ ss) t = tallied_counters ss (after (kind_of s) t)

pub counters_are_counts :
    (ss : List ℕ) → length ss ≤ most_rays
    → let ks = map kind_of ss in counters_tallied ss (counters_of zeros) ≡ length ss ∷ count_of Hit ks ∷ count_of Miss ks ∷ count_of Refusal ks ∷ []
unfolding counter_of
counters_are_counts ss l =
    let ks = map kind_of ss in
    let m : length ks ≡ length ss = length-map ss kind_of in
    let fits : length ks ≤ most_rays = omega arith in
    cc (tallied_counters ss zeros, m, rays_are_length ks fits, counter_is_count Hit ks fits, counter_is_count Miss ks fits, counter_is_count Refusal ks fits)

four : (l : List ℕ) → length l ≡ 4 → counters_of (tally_of l) ≡ l
four [] n = absurd (omega arith)
four (a ∷ []) n = absurd (omega arith)
four (a ∷ b ∷ []) n = absurd (omega arith)
four (a ∷ b ∷ c ∷ []) n = absurd (omega arith)
four (a ∷ b ∷ c ∷ d ∷ []) n = refl
four (a ∷ b ∷ c ∷ d ∷ e ∷ l) n = absurd (omega arith)

pub no_leaves_counters : (status : ℕ) (l : List ℕ) → length l ≡ 4 → can_grow (tally_of l) ≡ false → counters_after status l ≡ l
no_leaves_counters status l n h = ap counters_of (no_stays (kind_of status) (tally_of l) h) ∙ four l n
