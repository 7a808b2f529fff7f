-- Where one of two values is a NaN, `max` and `min` give the other. Assumes nothing.
use Rattle.std.proofs.Common.{◌≡◌, Bool, false, cond, ◌||◌, refl, ap, ◌∙◌}
use lib.Ieee.{Float, nan, inf, fin, lt, is_nan}
use Rattle.float.specs.Basic.{max_of, min_of}

-- b where a is a NaN, whatever the test says; and a where the test says no
first-nan : (t : Bool) (b : Float) → cond (is_nan nan || t) b nan ≡ b
unfolding is_nan
first-nan t b = refl

second_nan : (a : Float) (t : Bool) → t ≡ false → cond (is_nan a || t) nan a ≡ a
second_nan a t h = ap (λ (u : Bool). cond (is_nan a || u) nan a) h ∙ go a
  where
    go : (a : Float) → cond (is_nan a || false) nan a ≡ a
    go nan = unfold is_nan in refl
    go (inf s) = unfold is_nan in refl
    go (fin s m e) = unfold is_nan in refl

nan-above : (a : Float) → lt a nan ≡ false
unfolding lt
nan-above nan = refl
nan-above (inf s) = refl
nan-above (fin s m e) = refl

nan-below : (a : Float) → lt nan a ≡ false
unfolding lt
nan-below a = refl

pub max-first-nan : (b : Float) → max_of nan b ≡ b
unfolding max_of
max-first-nan b = first-nan (lt nan b) b

pub max_second_nan : (a : Float) → max_of a nan ≡ a
unfolding max_of
max_second_nan a = second_nan a (lt a nan) (nan-above a)

pub min-first-nan : (b : Float) → min_of nan b ≡ b
unfolding min_of
min-first-nan b = first-nan (lt b nan) b

pub min_second_nan : (a : Float) → min_of a nan ≡ a
unfolding min_of
min_second_nan a = second_nan a (lt nan a) (nan-below a)
