-- The tally of rays by how each was answered. Definitions only.
use Rattle.std.specs.Prelude.{ℕ, ◌+◌, Bool, ◌&&◌, cond, List, [], ◌∷◌, eqb, ltb, get_or}
use Rattle.tally.specs.declared.Kind.{Kind}
use Rattle.tally.specs.declared.Kind.TheVariants.{Hit, Miss, Refusal}
use Rattle.tally.specs.declared.Tally.{Tally}

-- 0 is a hit, 1 a miss, all else a refusal
abbrev pub kind_of : ℕ → Kind
kind_of status = cond (eqb status 0) Hit (cond (eqb status 1) Miss Refusal)

-- the same the other way: a number for each kind
abbrev pub number_of : Kind → ℕ
number_of Hit = 0
number_of Miss = 1
number_of Refusal = 2

-- 1 where the two kinds are one, else 0
abbrev pub one_if : Kind → Kind → ℕ
one_if j k = cond (eqb (number_of j) (number_of k)) 1 0

-- with as many rays it counts no more
abbrev pub most_rays : ℕ
most_rays = 4_000_000_000

-- the sum of the other three counters, as whole numbers: it does not wrap
abbrev pub sum_of : Tally → ℕ
sum_of t = t.hits + t.misses + t.refusals

-- The rays are below the limit and equal the sum of the other three: it says yes to an answer of any kind then, and else no.
abbrev pub can_grow : Tally → Bool
can_grow t = ltb t.rays most_rays && eqb t.rays (sum_of t)

-- the rays and the counter of the answer's kind grow by one
abbrev pub grown : Kind → Tally → Tally
grown k t = record { rays = t.rays + 1; hits = t.hits + one_if Hit k; misses = t.misses + one_if Miss k; refusals = t.refusals + one_if Refusal k }

-- where it says no, nothing moves
abbrev pub after : Kind → Tally → Tally
after k t = cond (can_grow t) (grown k t) t

-- the counters in their order, as a caller has them in an array, and back
abbrev pub counters_of : Tally → List ℕ
counters_of t = t.rays ∷ t.hits ∷ t.misses ∷ t.refusals ∷ []

abbrev pub tally_of : List ℕ → Tally
tally_of l = record { rays = get_or l 0 0; hits = get_or l 1 0; misses = get_or l 2 0; refusals = get_or l 3 0 }

-- the same in an array, by the number that curve_intersect returned
abbrev pub counters_after : ℕ → List ℕ → List ℕ
counters_after status l = counters_of (after (kind_of status) (tally_of l))

-- after a list of answers, of kinds and of numbers, in their order
unfoldable pub tallied : List Kind → Tally → Tally
tallied [] t = t
tallied (k ∷ ks) t = tallied ks (after k t)

unfoldable pub counters_tallied : List ℕ → List ℕ → List ℕ
counters_tallied [] l = l
counters_tallied (s ∷ ss) l = counters_tallied ss (counters_after s l)

-- no ray yet
abbrev pub zeros : Tally
zeros = record { rays = 0; hits = 0; misses = 0; refusals = 0 }

-- the counter of a kind
unfoldable pub counter_of : Kind → Tally → ℕ
counter_of Hit t = t.hits
counter_of Miss t = t.misses
counter_of Refusal t = t.refusals

-- how many of a list are of a kind
unfoldable pub count_of : Kind → List Kind → ℕ
count_of j [] = 0
count_of j (k ∷ ks) = one_if j k + count_of j ks
