-- NaNs: `x != x` is the test for one. Assumes nothing.
use Rattle.std.proofs.Common.{◌≡◌, ◌*◌, Bool, true, false, not, ◌&&◌, T, sym, refl, ap, ◌∙◌, subst, true≢false, eq-eqb}
use lib.Ieee.{Float, nan, inf, fin, up, down, eq, ne, level, is_nan}

-- there is one NaN
pub is_none : (x : Float) → true ≡ is_nan x → x ≡ nan
unfolding is_nan
is_none nan h = refl
is_none (inf s) h = absurd (true≢false h)
is_none (fin s m e) h = absurd (true≢false h)

-- `x != x` is `is_nan x`
pub itself : (x : Float) → is_nan x ≡ ne x x
unfolding is_nan ne
itself nan = refl
itself (inf true) = refl
itself (inf false) = refl
itself (fin s m e) = sym (ap not (same s))
  where
    same : (t : Bool) → level t (m * up e * down e) t (m * up e * down e) ≡ true
    same true = ap (λ (b : Bool). b && true) (eq-eqb (m * up e * down e) (m * up e * down e) refl)
    same false = ap (λ (b : Bool). b && true) (eq-eqb (m * up e * down e) (m * up e * down e) refl)

-- and `x == x` the test for a number
pub same_is : (x : Float) → eq x x ≡ not (is_nan x)
unfolding ne
same_is x = sym (ap not (itself x) ∙ twice (eq x x))
  where
    twice : (b : Bool) → not (not b) ≡ b
    twice true = refl
    twice false = refl

pub not-nan : (x : Float) → ne x x ≡ false → T (not (is_nan x))
not-nan x h = subst (λ (b : Bool). T (not b)) (sym (itself x ∙ h)) tt
