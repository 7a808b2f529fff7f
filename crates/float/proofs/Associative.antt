-- `min` and `max` are associative, bit by bit: of equals the first stays, and a NaN is passed over. Assumes nothing.
use Rattle.std.proofs.Common.{◌≡◌, Bool, true, false, cond, ◌||◌, sym, refl, ap, ◌∙◌, true≢false}
use lib.Ieee.{Float, lt, is_nan}
use Rattle.float.specs.Basic.{max_of, min_of}
use Rattle.float.proofs.Order.{number_before, number_behind, lt_trans, not_lt_trans}

-- both at once: b where a is a NaN or b goes before a, and a otherwise
module _
    (before : Float → Float → Bool)
    (number : (x y : Float) → before x y ≡ true → is_nan x ≡ false)
    (before-trans : (x y z : Float) → before x y ≡ true → before y z ≡ true → before x z ≡ true)
    (not-before-trans : (x y z : Float) → is_nan y ≡ false → before x y ≡ false → before y z ≡ false → before x z ≡ false)
  where
    abbrev takes : Float → Float → Bool
    takes a b = is_nan a || before b a

    pick : Float → Float → Float
    pick a b = cond (takes a b) b a

    -- c is taken after b, and b after a: then c is taken after a
    taken : (a b c : Float) → takes a b ≡ true → takes b c ≡ true → takes a c ≡ true
    taken a b c h k = go (is_nan a) (is_nan b) refl refl h k
      where
        go : (m n : Bool) → is_nan a ≡ m → is_nan b ≡ n → m || before b a ≡ true → n || before c b ≡ true → m || before c a ≡ true
        go true n M N h k = refl
        go false true M N h k = absurd (true≢false (sym N ∙ number b a h))
        go false false M N h k = before-trans c b a k h

    -- and left so
    left : (a b c : Float) → takes a b ≡ false → takes b c ≡ false → takes a c ≡ false
    left a b c h k = go (is_nan a) (is_nan b) refl refl h k
      where
        go : (m n : Bool) → is_nan a ≡ m → is_nan b ≡ n → m || before b a ≡ false → n || before c b ≡ false → m || before c a ≡ false
        go true n M N h k = absurd (true≢false h)
        go false true M N h k = absurd (true≢false k)
        go false false M N h k = not-before-trans c b a N k h

    is : {t : Bool} (a b : Float) → takes a b ≡ t → pick a b ≡ cond t b a
    unfolding pick
    is a b h = ap (λ (t : Bool). cond t b a) h

    -- by which of a and b is taken, and which of b and c
    associative : (a b c : Float) → pick (pick a b) c ≡ pick a (pick b c)
    associative a b c = go (takes a b) (takes b c) refl refl
      where
        go : (s t : Bool) → takes a b ≡ s → takes b c ≡ t → pick (pick a b) c ≡ pick a (pick b c)
        go true true h k = rw (is a b h, is b c k, is a c (taken a b c h k))
        go true false h k = rw (is a b h, is b c k, is a b h)
        go false true h k = rw (is a b h, is b c k)
        go false false h k = rw (is a b h, is b c k, is a c (left a b c h k), is a b h)

pub min_assoc : (a b c : Float) → min_of (min_of a b) c ≡ min_of a (min_of b c)
unfolding min_of pick
min_assoc = associative lt number_before lt_trans not_lt_trans

pub max_assoc : (a b c : Float) → max_of (max_of a b) c ≡ max_of a (max_of b c)
unfolding max_of pick
max_assoc =
    associative
    (λ (x y : Float). lt y x)
    number_behind
    (λ (x y z : Float) (h : lt y x ≡ true) (k : lt z y ≡ true). lt_trans z y x k h)
    (λ (x y z : Float) (n : is_nan y ≡ false) (h : lt y x ≡ false) (k : lt z y ≡ false). not_lt_trans z y x n k h)
