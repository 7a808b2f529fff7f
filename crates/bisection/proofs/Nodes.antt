-- The nodes of the two halves are nodes of the whole: level k + 1 is the low half's level k, and then the high half's. Assumes nothing.
use mathlib.Core.Bool.{Bool, true, false, not, ◌&&◌, and-false, and-true, and-eq-true_iff}
use mathlib.Core.Logic.{◌↔◌}
use mathlib.Core.Option.{Option, none, some}
use mathlib.Core.Path.{◌≡◌, refl, sym, ap, ap₂, ◌∙◌}
use Prim.Native.Nat.{ℕ, zero, suc, ◌+◌, ◌-◌, ◌*◌, ◌/◌, ◌%◌, ◌^◌, ◌≤◌, ◌<◌, min}
use native.Mathlib.Nat.{le_of_eq, lt_of_le_of_lt, pow-suc, add-suc, zero-mul, zero-add, add-mul, mul-lt-mul_of_pos_right, div-one, le_of_suc-le-suc, not-suc-le-zero}
use native.Mathlib.Omega.{arith}
use lib.Dec.{ltb, eqb, leb-suc-suc}
use lib.Pow.{pow_pos, pow-add, shr-shr}
use borrow.Author.Tests.{not-true, ltb-true, ltb-false, lt-ltb, le-ltb}
use Rattle.bisection.specs.Below.{one_if, or_else, count_below, sum_below}
use Rattle.bisection.specs.Nodes.{not_after, child_of, node, is_open, open_up_to, passes_at, first_open, best_open}
use Rattle.bisection.proofs.Below.{shift, first_ext, first_none, best_none, first_split, count_ext, count_split, count-le, count_none, sum_ext, sum_first, sum-add, sum-le, sum_none}

-- ---- numbers

pub pow_two : (k : ℕ) → 2 ^ suc k ≡ 2 ^ k + 2 ^ k
pow_two k = omega (arith, pow-suc 2 k)

half_lt : (k j : ℕ) → j < 2 ^ suc k → j / 2 < 2 ^ k
half_lt k j l = omega (arith, pow_two k)

half_up : (k j : ℕ) → (2 ^ suc k + j) / 2 ≡ 2 ^ k + j / 2
half_up k j = omega (arith, pow_two k)

mod_up : (k j : ℕ) → (2 ^ suc k + j) % 2 ≡ j % 2
mod_up k j = omega (arith, pow_two k)

-- two tests of an order that hold together
ltb_same : (a b c d : ℕ) → (a < b → c < d) → (c < d → a < b) → ltb a b ≡ ltb c d
ltb_same a b c d f g = go (ltb a b) refl
  where
    go : (t : Bool) → ltb a b ≡ t → t ≡ ltb c d
    go true e = sym (lt-ltb c d (f (ltb-true a b e)))
    go false e = go' (ltb c d) refl
      where
        go' : (t : Bool) → ltb c d ≡ t → false ≡ t
        go' true e' = absurd (let h = g (ltb-true c d e') in let l = ltb-false a b e in omega arith)
        go' false e' = refl

pow_split : (d k : ℕ) → k ≤ d → 2 ^ k * 2 ^ (d - k) ≡ 2 ^ d
pow_split d k h = let e : k + (d - k) ≡ d = omega arith in sym (pow-add 2 k (d - k)) ∙ ap (λ n. 2 ^ n) e

-- where the node (k, j) starts, of d levels
start-lt : (d k j : ℕ) → k ≤ d → j < 2 ^ k → j * 2 ^ (d - k) < 2 ^ d
start-lt d k j h l = rw (← pow_split d k h) (mul-lt-mul_of_pos_right l (pow_pos (d - k)))

-- that start, in the half that holds the node
low-start : (d k j m : ℕ) → k < suc d → j < 2 ^ k → ltb (j * 2 ^ (suc d - suc k)) m ≡ ltb (j * 2 ^ (d - k)) (min m (2 ^ d))
low-start d k j m h l =
    let e : suc d - suc k ≡ d - k = omega arith in
    let b = start-lt d k j (omega arith) l in
    rw e (ltb_same _ m _ (min m (2 ^ d)) (λ a. omega arith) (λ a. omega arith))

high-start : (d k j m : ℕ) → k < suc d → ltb ((2 ^ k + j) * 2 ^ (suc d - suc k)) m ≡ ltb (j * 2 ^ (d - k)) (m - 2 ^ d)
high-start d k j m h =
    let e : suc d - suc k ≡ d - k = omega arith in
    rw (e, add-mul (2 ^ k) j (2 ^ (d - k)), pow_split d k (omega arith)) (ltb_same _ m _ (m - 2 ^ d) (λ a. omega arith) (λ a. omega arith))

sum-pow : (n : ℕ) → suc (sum_below n (λ k. 2 ^ k)) ≡ 2 ^ n
unfolding sum_below
sum-pow zero = refl
sum-pow (suc n) = omega (arith, sum-pow n, pow_two n)

abbrev pub reach : ℕ → Option ℕ → ℕ
reach n none = n
reach n (some i) = suc i

pub reach_shift : (n : ℕ) (o : Option ℕ) → reach (n + n) (shift n o) ≡ n + reach n o
reach_shift n none = refl
reach_shift n (some i) = sym (add-suc n i)

not_after-ltb : (n : ℕ) (stop : Option ℕ) (x : ℕ) → x < n → not_after stop x ≡ ltb x (reach n stop)
not_after-ltb n none x l = sym (lt-ltb x n l)
not_after-ltb n (some i) x l = sym (leb-suc-suc x i)

-- ---- the nodes

module _ {Node : Type 0} (low high : Node → Node) where
  pub node-zero : (s : Node) (j : ℕ) → node low high s 0 j ≡ s
  unfolding node
  node-zero s j = refl

  pub node-low : (s : Node) (k j : ℕ) → j < 2 ^ k → node low high s (suc k) j ≡ node low high (low s) k j
  unfolding node
  node-low s zero j l = let e : j ≡ 0 = omega arith in rw e
  node-low s (suc k) j l = ap (child_of low high (eqb (j % 2) 0)) (node-low s k (j / 2) (half_lt k j l))

  pub node-high : (s : Node) (k j : ℕ) → j < 2 ^ k → node low high s (suc k) (2 ^ k + j) ≡ node low high (high s) k j
  unfolding node
  node-high s zero j l = let e : j ≡ 0 = omega arith in rw e
  node-high s (suc k) j l = rw (mod_up, half_up) (ap (child_of low high (eqb (j % 2) 0)) (node-high s k (j / 2) (half_lt k j l)))

  module _ (thrown : Node → Bool) where
    pub open_shut : (s : Node) (k j : ℕ) → is_open low high thrown false s k j ≡ false
    unfolding is_open
    open_shut s zero j = refl
    open_shut s (suc k) j = rw (open_shut s k (j / 2))

    pub open-low : (w : Bool) (s : Node) (k j : ℕ) → j < 2 ^ k → is_open low high thrown w s (suc k) j ≡ is_open low high thrown (w && not (thrown (low s))) (low s) k j
    unfolding is_open
    open-low w s zero j l = rw (node-low s 0 j l, node-zero)
    open-low w s (suc k) j l = rw (open-low w s k (j / 2) (half_lt k j l), node-low s (suc k) j l)

    pub open-high : (w : Bool) (s : Node) (k j : ℕ) → j < 2 ^ k → is_open low high thrown w s (suc k) (2 ^ k + j) ≡ is_open low high thrown (w && not (thrown (high s))) (high s) k j
    unfolding is_open
    open-high w s zero j l = rw (node-high s 0 j l, node-zero)
    open-high w s (suc k) j l = rw (node-high s (suc k) j l, half_up, open-high w s k (j / 2) (half_lt k j l))

    -- A node is open exactly when neither it nor a node that holds it is thrown out: m levels up that is number j / 2 ^ m.
    abbrev NoneThrown : Bool → Node → ℕ → ℕ → Type 0
    NoneThrown w s k j = (w ≡ true) × ((m : ℕ) → m < k → thrown (node low high s (k - m) (j / 2 ^ m)) ≡ false)

    above : (s : Node) (k j m : ℕ) → node low high s (suc k - suc m) (j / 2 ^ suc m) ≡ node low high s (k - m) (j / 2 / 2 ^ m)
    above s k j m =
        let e : suc k - suc m ≡ k - m = omega arith in
        let p : 1 + m ≡ suc m = omega arith in
        rw (e, ← p) (ap (node low high s (k - m)) (sym (shr-shr j 1 m)))

    -- a node below the whole, and those that hold it
    none_thrown : (w : Bool) (s : Node) (k j : ℕ) → (NoneThrown w s k (j / 2) × (not (thrown (node low high s (suc k) j)) ≡ true)) ↔ NoneThrown w s (suc k) j
    none_thrown w s k j = (λ h. (h.0.0, each h.1 h.0.1), back)
      where
        self : node low high s (suc k - 0) (j / 2 ^ 0) ≡ node low high s (suc k) j
        self = let e : suc k - 0 ≡ suc k = omega arith in rw (e, div-one)

        each : not (thrown (node low high s (suc k) j)) ≡ true → ((m : ℕ) → m < k → thrown (node low high s (k - m) (j / 2 / 2 ^ m)) ≡ false) → (m : ℕ) → m < suc k → thrown (node low high s (suc k - m) (j / 2 ^ m)) ≡ false
        each e h zero l = rw self (not-true _ e)
        each e h (suc m) l = rw (above s k j m) (h m (le_of_suc-le-suc l))

        back : NoneThrown w s (suc k) j → NoneThrown w s k (j / 2) × (not (thrown (node low high s (suc k) j)) ≡ true)
        back h = ((h.0, λ m l. ap thrown (sym (above s k j m)) ∙ h.1 (suc m) (omega arith)), ap not (ap thrown (sym self) ∙ h.1 0 (omega arith)))

    pub open_iff : (w : Bool) (s : Node) (k j : ℕ) → (is_open low high thrown w s k j ≡ true) ↔ NoneThrown w s k j
    unfolding is_open
    open_iff w s zero j = (λ e. (e, λ m l. absurd (not-suc-le-zero l)), λ h. h.0)
    open_iff w s (suc k) j =
        let held = open_iff w s k (j / 2) in
        let step = none_thrown w s k j in
        let both = and-eq-true_iff _ _ in
        (λ e. let b = both.0 e in step.0 (held.0 b.0, b.1), λ h. let b = step.1 h in both.1 (held.1 b.0, b.1))

    -- ---- the open nodes that start before m

    pub open_before : Bool → Node → ℕ → ℕ → ℕ
    open_before w s d m = sum_below (suc d) (λ k. count_below (2 ^ k) (λ j. is_open low high thrown w s k j && ltb (j * 2 ^ (d - k)) m))

    pub before_none : (w : Bool) (s : Node) (d : ℕ) → open_before w s d 0 ≡ 0
    unfolding open_before
    before_none w s d = sum_none (suc d) _ (λ k l. count_none (2 ^ k) _ (λ j l'. rw (le-ltb (j * 2 ^ (d - k)) 0 (omega arith), and-false)))

    pub before_leaf : (s : Node) → open_before true s 0 1 ≡ 1
    unfolding open_before sum_below count_below is_open
    before_leaf s = refl

    pub before_shut : (s : Node) (d m : ℕ) → open_before false s d m ≡ 0
    unfolding open_before
    before_shut s d m = sum_none (suc d) _ (λ k l. count_none (2 ^ k) _ (λ j l'. rw (open_shut s k j)))

    whole-count : (w : Bool) (s : Node) (d m : ℕ) → 0 < m → count_below (2 ^ 0) (λ j. is_open low high thrown w s 0 j && ltb (j * 2 ^ (suc d - 0)) m) ≡ one_if w
    unfolding count_below is_open
    whole-count w s d m pos = rw (zero-mul, lt-ltb 0 m pos, and-true, zero-add)

    level_split : (w : Bool) (s : Node) (d m k : ℕ) → k < suc d →
        count_below (2 ^ suc k) (λ j. is_open low high thrown w s (suc k) j && ltb (j * 2 ^ (suc d - suc k)) m)
        ≡ count_below (2 ^ k) (λ j. is_open low high thrown (w && not (thrown (low s))) (low s) k j && ltb (j * 2 ^ (d - k)) (min m (2 ^ d)))
        + count_below (2 ^ k) (λ j. is_open low high thrown (w && not (thrown (high s))) (high s) k j && ltb (j * 2 ^ (d - k)) (m - 2 ^ d))
    level_split w s d m k h =
        rw (pow_two k, count_split)
        (ap₂ (λ a b. a + b)
        (count_ext (2 ^ k) _ _ (λ j l. ap₂ (λ a b. a && b) (open-low w s k j l) (low-start d k j m h l)))
        (count_ext (2 ^ k) _ _ (λ j l. ap₂ (λ a b. a && b) (open-high w s k j l) (high-start d k j m h))))

    pub before_split : (w : Bool) (s : Node) (d m : ℕ) → 0 < m →
        open_before w s (suc d) m
        ≡ one_if w + (open_before (w && not (thrown (low s))) (low s) d (min m (2 ^ d)) + open_before (w && not (thrown (high s))) (high s) d (m - 2 ^ d))
    unfolding open_before
    before_split w s d m pos =
        sum_first (suc d) _ ∙ ap₂ (λ a b. a + b) (whole-count w s d m pos) (sum_ext (suc d) _ _ (level_split w s d m) ∙ sum-add (suc d) _ _)

    -- there are 2 ^ k nodes at level k, so fewer than 2 ^ (d + 1) in all
    pub open_bound : (w : Bool) (s : Node) (d : ℕ) (stop : Option ℕ) → open_up_to low high thrown w s d stop < 2 ^ suc d
    unfolding open_up_to
    open_bound w s d stop = lt_of_le_of_lt (sum-le (suc d) _ (λ k. 2 ^ k) (λ k l. count-le (2 ^ k) _)) (le_of_eq (sum-pow (suc d)))

    -- ---- how many leaves are reached: all, or those up to the stop

    pub before_up_to : (w : Bool) (s : Node) (d : ℕ) (stop : Option ℕ) → open_up_to low high thrown w s d stop ≡ open_before w s d (reach (2 ^ d) stop)
    unfolding open_up_to open_before
    before_up_to w s d stop =
        sum_ext (suc d) _ _ (λ k h. count_ext (2 ^ k) _ _ (λ j l. ap (λ b. is_open low high thrown w s k j && b) (not_after-ltb (2 ^ d) stop (j * 2 ^ (d - k)) (start-lt d k j (omega arith) l))))

    module _ (test : Node → Bool) where
      pub first-low-high : (w : Bool) (s : Node) (d : ℕ) →
          first_open low high thrown test w s (suc d)
          ≡ or_else (first_open low high thrown test (w && not (thrown (low s))) (low s) d) (shift (2 ^ d) (first_open low high thrown test (w && not (thrown (high s))) (high s) d))
      unfolding first_open passes_at
      first-low-high w s d =
          rw (pow_two d, first_split)
          (ap₂ (λ a b. or_else a (shift (2 ^ d) b))
          (first_ext (2 ^ d) _ _ (λ j l. ap₂ (λ a p. a && test p) (open-low w s d j l) (node-low s d j l)))
          (first_ext (2 ^ d) _ _ (λ j l. ap₂ (λ a p. a && test p) (open-high w s d j l) (node-high s d j l))))

      pub first_shut : (s : Node) (d : ℕ) → first_open low high thrown test false s d ≡ none
      unfolding first_open passes_at
      first_shut s d = first_none (2 ^ d) _ (λ j l. rw (open_shut s d j))

      pub best_shut : (beats : Node → Node → Bool) (s : Node) (d : ℕ) → best_open low high thrown test beats false s d ≡ none
      unfolding best_open passes_at
      best_shut beats s d = best_none _ (2 ^ d) _ (λ j l. rw (open_shut s d j))
