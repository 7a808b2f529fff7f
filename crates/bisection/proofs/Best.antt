-- A walk that keeps the best leaf so far: its reply is that of the stop, or of the best open leaf that passes. Where each leaf takes the place of the one before, that is the last. Assumes nothing.
use mathlib.Core.Bool.{Bool, true, false, cond, ◌&&◌, ◌||◌, false≢true}
use mathlib.Core.Option.{Option, none, some}
use mathlib.Core.Path.{◌≡◌, refl, sym, ap, ap₂, ◌∙◌}
use Prim.Native.Nat.{ℕ, zero, suc, ◌^◌, ◌<◌}
use native.Mathlib.Nat.{le_of_suc-le-suc}
use native.Mathlib.Omega.{arith}
use Rattle.bisection.specs.Below.{or_else, at_or, choose, best_below}
use Rattle.bisection.specs.Nodes.{node, is_open, passes_at, first_open, last_open, best_open, open_up_to}
use Rattle.bisection.specs.Walk.{walk_of}
use Rattle.bisection.proofs.Below.{best_last, best_ext, best_top, fold_best}
use Rattle.bisection.proofs.Nodes.{reach, before_up_to}
use Rattle.bisection.proofs.Walked.{times, only_if, leaf_node, walked_up_to, Laws, IsStop, stop_is, walk_is}

-- What is asked of the leaf's step. `reply n p` is the reply of the leaf p with n nodes counted, `miss n` the one with none, and `beats p q` says that the later p takes the place of q.
module _ {Node St : Type 0} (step : Node → St → St) (enter : St → St) (stops passes : Node → Bool) (beats : Node → Node → Bool) (reply : ℕ → Node → St) (miss : ℕ → St) (Live : St → Type 0) where
  pub record Keeps : Type 0 where
    pub live_miss : Live (miss 0)
    pub skips : (p : Node) (q : St) → passes p ≡ false → step p q ≡ q
    pub takes : (p : Node) → passes p ≡ true → step p (miss 0) ≡ reply 0 p
    pub chooses : (p q : Node) → passes q ≡ true → stops q ≡ false → passes p ≡ true → step p (reply 0 q) ≡ reply 0 (cond (stops p || beats p q) p q)
    pub stop_passes : (p : Node) → stops p ≡ true → passes p ≡ true
    pub enter_miss : (n : ℕ) → enter (miss n) ≡ miss (suc n)
    pub enter_reply : (n : ℕ) (p : Node) → enter (reply n p) ≡ reply (suc n) p

module _ {Node St : Type 0} (low high : Node → Node) (thrown : Node → Bool) (enter : St → St) (step : Node → St → St) (over : St → Bool)
    (stops passes : Node → Bool) (beats : Node → Node → Bool) (reply : ℕ → Node → St) (miss : ℕ → St) (Live : St → Type 0)
    (L : Laws enter step over stops Live) (K : Keeps step enter stops passes beats reply miss Live) where
  module _ (s : Node) (d : ℕ) where
    abbrev at : ℕ → Node
    at = node low high s d

    abbrev pass : ℕ → Bool
    pass = passes_at low high thrown passes true s d

    abbrev stop : ℕ → Bool
    stop = passes_at low high thrown stops true s d

    -- a stop takes the place of every leaf before it
    abbrev sooner : ℕ → ℕ → Bool
    sooner j i = stops (at j) || beats (at j) (at i)

    abbrev value : ℕ → ℕ → St
    value n j = reply n (at j)

    abbrev leaf : ℕ → St → St
    leaf = leaf_node low high thrown enter step true s d

    abbrev Stop : Option ℕ → Type 0
    Stop = IsStop low high thrown enter step over stops Live L true s d

    -- a leaf that passes is open, and passes the test
    open_pass : (test : Node → Bool) (j : ℕ) → passes_at low high thrown test true s d j ≡ true → (is_open low high thrown true s d j ≡ true) × (test (at j) ≡ true)
    unfolding passes_at
    open_pass test j e = go (is_open low high thrown true s d j) e
      where
        go : (b : Bool) → b && test (at j) ≡ true → (b ≡ true) × (test (at j) ≡ true)
        go true e = (refl, e)
        go false e = absurd (false≢true e)

    -- an open leaf passes where the test does
    open_test_lem : (test : Node → Bool) (j : ℕ) (b : Bool) → is_open low high thrown true s d j ≡ true → passes_at low high thrown test true s d j ≡ b → test (at j) ≡ b
    unfolding passes_at
    open_test_lem test j b o e = rw o at e

    is_pass : (j : ℕ) → is_open low high thrown true s d j ≡ true → passes (at j) ≡ true → pass j ≡ true
    unfolding passes_at
    is_pass j o e = rw (o, e)

    leaf_skips : (j : ℕ) (q : St) → pass j ≡ false → leaf j q ≡ q
    unfolding passes_at
    leaf_skips j q e = go (is_open low high thrown true s d j) e
      where
        go : (b : Bool) → b && passes (at j) ≡ false → only_if b (step (at j)) q ≡ q
        go true e = K.skips _ q e
        go false e = refl

    leaf-takes : (j : ℕ) → pass j ≡ true → leaf j (miss 0) ≡ value 0 j
    leaf-takes j e = let h = open_pass passes j e in rw h.0 (K.takes _ h.1)

    leaf_chooses : (j i : ℕ) → stop i ≡ false → pass i ≡ true → pass j ≡ true → leaf j (value 0 i) ≡ value 0 (choose (sooner j i) j i)
    leaf_chooses j i n e e' =
        let h = open_pass passes i e in
        let h' = open_pass passes j e' in
        rw h'.0 (K.chooses (at j) (at i) h.1 (open_test_lem stops i false h.0 n) h'.1 ∙ go (sooner j i))
      where
        go : (b : Bool) → reply 0 (cond b (at j) (at i)) ≡ value 0 (choose b j i)
        go true = refl
        go false = refl

    -- no leaf below the last that was reached stops the walk
    before_stop : (o : Option ℕ) → Stop o → (j : ℕ) → suc j < reach (2 ^ d) o → pass j ≡ true → stop j ≡ false
    before_stop none h j l e = h j (omega arith)
    before_stop (some i) h j l e = h.2 j (le_of_suc-le-suc l)

    -- of the leaves that were reached the best is the stop, and with no stop it is the best of all
    best_reached : (o : Option ℕ) → Stop o → best_below sooner (reach (2 ^ d) o) pass ≡ or_else o (best_open low high thrown passes beats true s d)
    unfolding best_open
    best_reached none h = best_ext (2 ^ d) pass sooner (λ j i. beats (at j) (at i)) (λ j i l e. rw (open_test_lem stops j false (open_pass passes j e).0 (h j l)))
    best_reached (some i) h = let a = open_pass stops i h.1 in best_top sooner pass i (is_pass i a.0 (K.stop_passes _ a.1)) (λ j l e. rw a.1)

    entries : (n : ℕ) (o : Option ℕ) → times n enter (at_or (value 0) (miss 0) o) ≡ at_or (value n) (miss n) o
    unfolding times
    entries zero o = refl
    entries (suc n) o = ap enter (entries n o) ∙ go o
      where
        go : (o : Option ℕ) → enter (at_or (value n) (miss n) o) ≡ at_or (value (suc n)) (miss (suc n)) o
        go none = K.enter_miss n
        go (some i) = K.enter_reply n _

    pub walk_best :
        let stop = first_open low high thrown stops true s d in
        let n = open_up_to low high thrown true s d stop in
        walk_of low high thrown enter step over d s (miss 0) ≡ at_or (λ i. reply n (node low high s d i)) (miss n) (or_else stop (best_open low high thrown passes beats true s d))
    unfolding walked_up_to
    walk_best =
        let o = first_open low high thrown stops true s d in
        let is = stop_is low high thrown enter step over stops Live L true s d in
        walk_is low high thrown enter step over stops Live L d s (miss 0) K.live_miss
        ∙ ap₂ (λ n r. times n enter r) (sym (before_up_to low high thrown true s d o))
        (fold_best sooner pass leaf (value 0) (miss 0) (λ i. stop i ≡ false) leaf_skips leaf-takes leaf_chooses (reach (2 ^ d) o) (before_stop o is)
        ∙ ap (λ b. at_or (value 0) (miss 0) b) (best_reached o is))
        ∙ entries (open_up_to low high thrown true s d o) (or_else o (best_open low high thrown passes beats true s d))

-- the best is the last where each leaf beats the ones before it
module _ {Node : Type 0} (low high : Node → Node) (thrown passes : Node → Bool) where
  pub best_open_last : (w : Bool) (s : Node) (d : ℕ) → best_open low high thrown passes (λ p q. true) w s d ≡ last_open low high thrown passes w s d
  unfolding best_open last_open
  best_open_last w s d = best_last (2 ^ d) _
