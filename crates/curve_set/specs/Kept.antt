-- A kept set, for any piece and answer: what a call makes of its rows. Definitions only.
use Rattle.std.specs.Prelude.{Bool, true, false, List, [], ◌∷◌, ◌++◌, ℕ, eqb, leb, ltb, length, Option, Result, Ok, Err}
use Rattle.limits.specs.declared.refusal.Refusal.{Refusal}
use Rattle.limits.specs.declared.refusal.Refusal.TheVariants.{Curve, NumberPresent, SetFull}
use Rattle.limits.specs.Refused.{Table, first_of, told}
use Rattle.std.specs.List.{position_or_len}
use Rattle.arrays.specs.Rows.{drop_first}

-- what is kept of a piece. The mark is that of the depth rule by which its answer was found.
pub record Row (P A : Type 0) : Type 0 where
  pub number : ℕ
  pub mark : ℕ
  pub piece : P
  pub answer : A

abbrev pub row_of : {P A : Type 0} → ℕ → ℕ → P → A → Row P A
row_of n m p a = record { number = n; mark = m; piece = p; answer = a }

-- the mark of this rule
abbrev pub this_rule : ℕ
this_rule = 0

-- what an answer makes, or b where there is a refusal in its place
abbrev pub either : {A B : Type 0} → B → (A → B) → Result A Refusal → B
either b f (Err reason) = b
either b f (Ok a) = f a

-- no piece within the limits, its number is present, the set is full
unfoldable pub add_refusals : Bool → Bool → Bool → Table
add_refusals bad there full =
    (bad, Curve) ∷ (there, NumberPresent) ∷ (full, SetFull) ∷ []

abbrev pub named : {P A : Type 0} → ℕ → Row P A → Bool
named n r = eqb r.number n

-- one of them passes the test
abbrev pub has : {A : Type 0} → (A → Bool) → List A → Bool
has t s = ltb (position_or_len t s) (length s)

-- what an add is refused for, whatever the piece's own answer is; `bad p` holds where p is no piece within the limits
abbrev pub early : {P A : Type 0} → ℕ → (P → Bool) → List (Row P A) → ℕ → P → Option Refusal
early size bad s n p = first_of (add_refusals (bad p) (has (named n) s) (leb size (length s)))

-- ---- a change: a piece is added under a number, or the one with a number is removed

pub data Change (P : Type 0) : Type 0 where
  add : ℕ → P → Change P
  remove : ℕ → Change P

-- At most `size` pieces. `own p` is the answer of p alone.
module _ {P A : Type 0} (size : ℕ) (bad : P → Bool) (own : P → Result A Refusal) where
  -- what an add comes to: the piece's own answer, or a refusal
  unfoldable pub adding : List (Row P A) → ℕ → P → Result A Refusal
  adding s n p = told (early size bad s n p) (own p)

  -- the rows afterwards
  unfoldable pub after : Change P → List (Row P A) → List (Row P A)
  after (add n p) s = either s (λ a. s ++ row_of n this_rule p a ∷ []) (adding s n p)
  after (remove n) s = drop_first (named n) s

  -- whether the change is accepted
  unfoldable pub is_taken : Change P → List (Row P A) → Bool
  is_taken (add n p) s = either false (λ a. true) (adding s n p)
  is_taken (remove n) s = has (named n) s

-- ---- what is present, by the accepted changes alone, in the order of adding

unfoldable pub changed : {P : Type 0} → Change P → List (ℕ × P) → List (ℕ × P)
changed (add n p) l = l ++ (n, p) ∷ []
changed (remove n) l = drop_first (λ x. eqb x.0 n) l

unfoldable pub present : {P : Type 0} → List (Change P) → List (ℕ × P) → List (ℕ × P)
present [] l = l
present (c ∷ cs) l = present cs (changed c l)
