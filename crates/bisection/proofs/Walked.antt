-- The walk, by the leaves and the count. Where nothing stops it, it enters every open node and takes the step of every open leaf, in order; where a leaf stops it, up to there. Assumes nothing.
use mathlib.Core.Bool.{Bool, true, false, not, ◌&&◌, false≢true}
use mathlib.Core.Option.{Option, none, some}
use mathlib.Core.Path.{◌≡◌, refl, sym, ap, ◌∙◌}
use Prim.Native.Nat.{ℕ, zero, suc, ◌+◌, ◌-◌, ◌^◌, ◌≤◌, ◌<◌, min}
use native.Mathlib.Nat.{le_refl, zero-add, suc-add}
use native.Mathlib.Omega.{arith}
use lib.Pow.{pow_pos}
use Rattle.bisection.specs.Below.{only, or_else, first_below}
use Rattle.bisection.specs.Nodes.{node, is_open, passes_at, first_open}
use Rattle.bisection.specs.Walk.{unless, onward, walk_of, half_step_of}
use Rattle.bisection.proofs.Below.{fold_below, fold_ext, fold_split, fold_skips, fold_past, fold_keeps, shift, IsFirst, first_is}
use Rattle.bisection.proofs.Nodes.{pow_two, reach, reach_shift, node-low, node-high, open_shut, open-low, open-high, open_before, before_none, before_leaf, before_shut, before_split, first-low-high}

-- ---- a function, n times over

unfoldable pub times : {A : Type 0} → ℕ → (A → A) → A → A
times zero f r = r
times (suc n) f r = f (times n f r)

times_add : {A : Type 0} (m n : ℕ) (f : A → A) (r : A) → times (m + n) f r ≡ times m f (times n f r)
unfolding times
times_add zero n f r = rw zero-add
times_add (suc m) n f r = rw suc-add (ap f (times_add m n f r))

times_joined : {A : Type 0} (a b : ℕ) (f : A → A) (r : A) → times (1 + (a + b)) f r ≡ times b f (times a f (f r))
unfolding times
times_joined a b f r =
    let e : 1 + (a + b) ≡ b + (a + 1) = omega arith in
    rw (e, times_add b (a + 1) f r, times_add a 1 f r)

-- g goes past f
times_past : {A : Type 0} (n : ℕ) (f g : A → A) → ((r : A) → g (f r) ≡ f (g r)) → (r : A) → g (times n f r) ≡ times n f (g r)
unfolding times
times_past zero f g h r = refl
times_past (suc n) f g h r = h (times n f r) ∙ ap f (times_past n f g h r)

abbrev pub only_if : {A : Type 0} → Bool → (A → A) → A → A
only_if true f r = f r
only_if false f r = r

-- ---- what is asked of a walk: `Live` says of a reply that the walk goes on from it, and `stops` of a leaf that its step ends the walk

module _ {Node St : Type 0} (enter : St → St) (step : Node → St → St) (over : St → Bool) (stops : Node → Bool) (Live : St → Type 0) where
  pub record Laws : Type 0 where
    pub live_on : (r : St) → Live r → over r ≡ false
    pub live_enter : (r : St) → Live r → Live (enter r)
    pub live_step : (p : Node) (r : St) → Live r → stops p ≡ false → Live (step p r)
    pub over-step : (p : Node) (r : St) → Live r → stops p ≡ true → over (step p r) ≡ true
    pub over_enter : (r : St) → over (enter r) ≡ over r
    pub step_enter : (p : Node) (r : St) → step p (enter r) ≡ enter (step p r)

module _ {Node St : Type 0} (low high : Node → Node) (thrown : Node → Bool) (enter : St → St) (step : Node → St → St) where
  -- the step of the leaf j, where it is open
  abbrev pub leaf_node : Bool → Node → ℕ → ℕ → St → St
  leaf_node w s d j r = only_if (is_open low high thrown w s d j) (step (node low high s d j)) r

  -- the steps of the open leaves below m, and an entry for each open node that starts there
  unfoldable pub walked_up_to : Bool → Node → ℕ → ℕ → St → St
  walked_up_to w s d m r = times (open_before low high thrown w s d m) enter (fold_below m (leaf_node w s d) r)

  walked_up_to_none : (w : Bool) (s : Node) (d : ℕ) (r : St) → walked_up_to w s d 0 r ≡ r
  unfolding walked_up_to times fold_below
  walked_up_to_none w s d r = rw before_none

  walked_up_to_one : (s : Node) (r : St) → walked_up_to true s 0 1 r ≡ enter (step s r)
  unfolding walked_up_to times fold_below is_open node
  walked_up_to_one s r = rw before_leaf

  walked_up_to_shut : (s : Node) (d m : ℕ) (r : St) → walked_up_to false s d m r ≡ r
  unfolding walked_up_to times
  walked_up_to_shut s d m r = rw before_shut (fold_skips m (leaf_node false s d) r (λ j q. rw (open_shut low high thrown s d j)))

  leaf_node_low : (w : Bool) (s : Node) (d j : ℕ) (q : St) → j < 2 ^ d → leaf_node w s (suc d) j q ≡ leaf_node (w && not (thrown (low s))) (low s) d j q
  leaf_node_low w s d j q l = rw (open-low low high thrown w s d j l, node-low low high s d j l)

  leaf_node_high : (w : Bool) (s : Node) (d i j : ℕ) (q : St) → i ≡ 2 ^ d → j < 2 ^ d → leaf_node w s (suc d) (i + j) q ≡ leaf_node (w && not (thrown (high s))) (high s) d j q
  leaf_node_high w s d i j q e l = rw (e, open-high low high thrown w s d j l, node-high low high s d j l)

  leaves_split : (w : Bool) (s : Node) (d m : ℕ) (r : St) → m ≤ 2 ^ suc d →
      fold_below m (leaf_node w s (suc d)) r
      ≡ fold_below (m - 2 ^ d) (leaf_node (w && not (thrown (high s))) (high s) d) (fold_below (min m (2 ^ d)) (leaf_node (w && not (thrown (low s))) (low s) d) r)
  leaves_split w s d m r le =
      let e : m ≡ min m (2 ^ d) + (m - 2 ^ d) = omega arith in
      let two = pow_two d in
      ap (λ n. fold_below n (leaf_node w s (suc d)) r) e ∙ fold_split (min m (2 ^ d)) (m - 2 ^ d) (leaf_node w s (suc d)) r
      ∙ fold_ext (m - 2 ^ d) _ (leaf_node (w && not (thrown (high s))) (high s) d) _ (λ j l q. leaf_node_high w s d (min m (2 ^ d)) j q (omega arith) (omega arith))
      ∙ ap (fold_below (m - 2 ^ d) _) (fold_ext (min m (2 ^ d)) _ _ r (λ j l q. leaf_node_low w s d j q (omega arith)))

  module _ (step_enter : (p : Node) (r : St) → step p (enter r) ≡ enter (step p r)) where
    leaf_node_enter : (w : Bool) (s : Node) (d j : ℕ) (r : St) → leaf_node w s d j (enter r) ≡ enter (leaf_node w s d j r)
    leaf_node_enter w s d j r = go (is_open low high thrown w s d j)
      where
        go : (b : Bool) → only_if b (step (node low high s d j)) (enter r) ≡ enter (only_if b (step (node low high s d j)) r)
        go true = step_enter _ r
        go false = refl

    -- the steps of the leaves below m go past n entries
    leaves_past : (w : Bool) (s : Node) (d m n : ℕ) (r : St) → fold_below m (leaf_node w s d) (times n enter r) ≡ times n enter (fold_below m (leaf_node w s d) r)
    leaves_past w s d m n r = times_past n enter (fold_below m (leaf_node w s d)) (fold_past m enter (leaf_node w s d) (leaf_node_enter w s d)) r

    walked_up_to_split : (s : Node) (d m : ℕ) (r : St) → 0 < m → m ≤ 2 ^ suc d →
        walked_up_to true s (suc d) m r ≡ walked_up_to (not (thrown (high s))) (high s) d (m - 2 ^ d) (walked_up_to (not (thrown (low s))) (low s) d (min m (2 ^ d)) (enter r))
    unfolding walked_up_to
    walked_up_to_split s d m r pos le =
        rw (
          before_split low high thrown true s d m pos,
          leaves_split true s d m r le,
          fold_past (min m (2 ^ d)) enter (leaf_node (not (thrown (low s))) (low s) d) (leaf_node_enter (not (thrown (low s))) (low s) d) r,
          leaves_past (not (thrown (high s))) (high s) d (m - 2 ^ d),
          fold_past (m - 2 ^ d) enter (leaf_node (not (thrown (high s))) (high s) d) (leaf_node_enter (not (thrown (high s))) (high s) d),
        )
        (times_joined _ _ enter _)

    -- the leaves below m are the low half's
    walked_up_to_low : (s : Node) (d m : ℕ) (r : St) → 0 < m → m ≤ 2 ^ d → walked_up_to true s (suc d) m r ≡ walked_up_to (not (thrown (low s))) (low s) d m (enter r)
    walked_up_to_low s d m r pos le =
        let two = pow_two d in
        let e : m - 2 ^ d ≡ 0 = omega arith in
        let e' : min m (2 ^ d) ≡ m = omega arith in
        walked_up_to_split s d m r pos (omega arith) ∙ rw (e, e') (walked_up_to_none _ _ _ _)

    -- they are the low half's, all of them, and m of the high half's
    walked_up_to_high : (s : Node) (d m : ℕ) (r : St) → m ≤ 2 ^ d →
        walked_up_to true s (suc d) (2 ^ d + m) r ≡ walked_up_to (not (thrown (high s))) (high s) d m (walked_up_to (not (thrown (low s))) (low s) d (2 ^ d) (enter r))
    walked_up_to_high s d m r le =
        let two = pow_two d in
        let pos = pow_pos d in
        let e : 2 ^ d + m - 2 ^ d ≡ m = omega arith in
        let e' : min (2 ^ d + m) (2 ^ d) ≡ 2 ^ d = omega arith in
        walked_up_to_split s d (2 ^ d + m) r (omega arith) (omega arith) ∙ rw (e, e')

  -- ---- the walk
  module _ (over : St → Bool) (stops : Node → Bool) (Live : St → Type 0) (L : Laws enter step over stops Live) where
    abbrev pub stop_of : Bool → Node → ℕ → Option ℕ
    stop_of w s d = first_open low high thrown stops w s d

    abbrev pub IsStop : Bool → Node → ℕ → Option ℕ → Type 0
    IsStop w s d o = IsFirst (2 ^ d) (passes_at low high thrown stops w s d) o

    pub stop_is : (w : Bool) (s : Node) (d : ℕ) → IsStop w s d (stop_of w s d)
    unfolding first_open
    stop_is w s d = first_is (2 ^ d) (passes_at low high thrown stops w s d)

    entries_live : (n : ℕ) (r : St) → Live r → Live (times n enter r)
    unfolding times
    entries_live zero r l = l
    entries_live (suc n) r l = L.live_enter _ (entries_live n r l)

    entries_over : (n : ℕ) (r : St) → over (times n enter r) ≡ over r
    unfolding times
    entries_over zero r = refl
    entries_over (suc n) r = L.over_enter _ ∙ entries_over n r

    leaf_node_live : (w : Bool) (s : Node) (d j : ℕ) (q : St) → passes_at low high thrown stops w s d j ≡ false → Live q → Live (leaf_node w s d j q)
    unfolding passes_at
    leaf_node_live w s d j q e l = go (is_open low high thrown w s d j) e
      where
        go : (b : Bool) → b && stops (node low high s d j) ≡ false → Live (only_if b (step (node low high s d j)) q)
        go true e = L.live_step _ q l e
        go false e = l

    leaf_node_over : (w : Bool) (s : Node) (d j : ℕ) (q : St) → passes_at low high thrown stops w s d j ≡ true → Live q → over (leaf_node w s d j q) ≡ true
    unfolding passes_at
    leaf_node_over w s d j q e l = go (is_open low high thrown w s d j) e
      where
        go : (b : Bool) → b && stops (node low high s d j) ≡ true → over (only_if b (step (node low high s d j)) q) ≡ true
        go true e = L.over-step _ q l e
        go false e = absurd (false≢true e)

    -- the reply where the leaves have been walked: live where none of them stops, and over where the last does
    walked_up_to_live : (w : Bool) (s : Node) (d : ℕ) (r : St) → IsStop w s d none → Live r → Live (walked_up_to w s d (2 ^ d) r)
    unfolding walked_up_to
    walked_up_to_live w s d r h l = entries_live _ _ (fold_keeps Live (2 ^ d) (leaf_node w s d) r (λ j lt q lq. leaf_node_live w s d j q (h j lt) lq) l)

    walked_up_to_over : (w : Bool) (s : Node) (d i : ℕ) (r : St) → IsStop w s d (some i) → Live r → over (walked_up_to w s d (suc i) r) ≡ true
    unfolding walked_up_to fold_below
    walked_up_to_over w s d i r h l =
        entries_over _ _ ∙ leaf_node_over w s d i _ h.1 (fold_keeps Live i (leaf_node w s d) r (λ j lt q lq. leaf_node_live w s d j q (h.2 j lt) lq) l)

    reach_le : (w : Bool) (s : Node) (d : ℕ) → reach (2 ^ d) (stop_of w s d) ≤ 2 ^ d
    reach_le w s d = go (stop_of w s d) (stop_is w s d)
      where
        go : (o : Option ℕ) → IsStop w s d o → reach (2 ^ d) o ≤ 2 ^ d
        go none h = le_refl (2 ^ d)
        go (some i) h = h.0

    -- of one leaf, that one is reached
    reach_one : (s : Node) → reach (2 ^ 0) (stop_of true s 0) ≡ 1
    unfolding first_open first_below
    reach_one s = go (passes_at low high thrown stops true s 0 0)
      where
        go : (t : Bool) → reach 1 (only t 0) ≡ 1
        go true = refl
        go false = refl

    -- what is to be shown of a walk, and of a half step
    abbrev pub WalkIs : ℕ → Node → Type 0
    WalkIs d s = (r : St) → Live r → walk_of low high thrown enter step over d s r ≡ walked_up_to true s d (reach (2 ^ d) (stop_of true s d)) r

    abbrev pub HalfIs : ℕ → Node → Type 0
    HalfIs d s = (r : St) → Live r → half_step_of low high thrown enter step over d s r ≡ walked_up_to (not (thrown s)) s d (reach (2 ^ d) (stop_of (not (thrown s)) s d)) r

    half_is : (d : ℕ) (s : Node) → WalkIs d s → HalfIs d s
    half_is d s h r l = go (thrown s)
      where
        go : (b : Bool) → unless b (walk_of low high thrown enter step over d s) r ≡ walked_up_to (not b) s d (reach (2 ^ d) (stop_of (not b) s d)) r
        go true = sym (walked_up_to_shut s d _ r)
        go false = h r l

    -- the low half has been walked, and stopped or not
    after-low : (d : ℕ) (s : Node) (r : St) → Live r → HalfIs d (high s) → (o : Option ℕ) → IsStop (not (thrown (low s))) (low s) d o →
        onward over (half_step_of low high thrown enter step over d (high s)) (walked_up_to (not (thrown (low s))) (low s) d (reach (2 ^ d) o) (enter r))
        ≡ walked_up_to true s (suc d) (reach (2 ^ suc d) (or_else o (shift (2 ^ d) (stop_of (not (thrown (high s))) (high s) d)))) r
    after-low d s r l high_is none h =
        let on = walked_up_to_live (not (thrown (low s))) (low s) d (enter r) h (L.live_enter r l) in
        rw (L.live_on _ on, pow_two d, reach_shift)
        (high_is _ on ∙ sym (walked_up_to_high L.step_enter s d _ r (reach_le (not (thrown (high s))) (high s) d)))
    after-low d s r l high_is (some i) h =
        rw (walked_up_to_over (not (thrown (low s))) (low s) d i (enter r) h (L.live_enter r l)) (sym (walked_up_to_low L.step_enter s d (suc i) r (omega arith) h.0))

    pub walk_is : (d : ℕ) (s : Node) → WalkIs d s
    unfolding walk_of
    walk_is zero s r l = rw reach_one (L.step_enter s r ∙ sym (walked_up_to_one s r))
    walk_is (suc d) s r l =
        rw (half_is d (low s) (walk_is d (low s)) (enter r) (L.live_enter r l), first-low-high low high thrown stops true s d)
        (after-low d s r l (half_is d (high s) (walk_is d (high s))) (stop_of (not (thrown (low s))) (low s) d) (stop_is (not (thrown (low s))) (low s) d))

-- ---- how much a walk of d cuts can add to a count: less than 2 ^ (d + 1)

module _ {Node St : Type 0} (low high : Node → Node) (thrown : Node → Bool) (enter : St → St) (step : Node → St → St) (over : St → Bool) (size : St → ℕ)
    (enter-size : (r : St) → size (enter r) ≤ size r + 1) (step-size : (p : Node) (r : St) → size (step p r) ≤ size r) where
  unless_size : (b : Bool) (f : St → St) (r : St) (n : ℕ) → size (f r) < size r + n → 0 < n → size (unless b f r) < size r + n
  unless_size true f r n h pos = omega arith
  unless_size false f r n h pos = h

  pub walk_size : (d : ℕ) (s : Node) (r : St) → size (walk_of low high thrown enter step over d s r) < size r + 2 ^ suc d
  unfolding walk_of
  walk_size zero s r = omega (arith, step-size s (enter r), enter-size r)
  walk_size (suc d) s r =
      let q = half_step_of low high thrown enter step over d (low s) (enter r) in
      let lows = unless_size (thrown (low s)) (walk_of low high thrown enter step over d (low s)) (enter r) (2 ^ suc d) (walk_size d (low s) (enter r)) (pow_pos (suc d)) in
      let highs = unless_size (thrown (high s)) (walk_of low high thrown enter step over d (high s)) q (2 ^ suc d) (walk_size d (high s) q) (pow_pos (suc d)) in
      let both = unless_size (over q) (half_step_of low high thrown enter step over d (high s)) q (2 ^ suc d) highs (pow_pos (suc d)) in
      omega (arith, lows, both, enter-size r, pow_two (suc d))

  pub half-size : (d : ℕ) (s : Node) (r : St) → size (half_step_of low high thrown enter step over d s r) < size r + 2 ^ suc d
  half-size d s r = unless_size (thrown s) (walk_of low high thrown enter step over d s) r (2 ^ suc d) (walk_size d s r) (pow_pos (suc d))
