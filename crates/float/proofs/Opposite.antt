-- 0.0 - x: that or x, whichever is greater, is x without its sign. Assumes nothing.
use Rattle.std.proofs.Common.{◌≡◌, ℕ, zero, suc, ◌+◌, ◌-◌, ◌*◌, ◌<◌, Bool, true, false, T, ℤ, sym, refl, ap, ◌∙◌, true≢false, zero-lt-suc, mul-pos, arith, le-ltb, lt-ltb}
use mathlib.Core.Bool.{false≢true}
use lib.Ieee.{Float, nan, inf, fin, binary32, up, down, round, sub, lt, fits, of_bits}
use lib.Ieee.Fits.{up_pos, down_pos}
use Rattle.float.specs.Arith.{0f}
use Rattle.float.specs.Basic.{abs_of}
use Rattle.float.specs.Narrow.{narrow_at}
use Rattle.float.proofs.Narrowing.{narrow-kept}

-- the sign has no part in whether a value fits
any_sign : (s t : Bool) (m : ℕ) (e : ℤ) → T (fits binary32 (fin s m e)) → T (fits binary32 (fin t m e))
unfolding fits
any_sign s t zero e h = h
any_sign s t (suc m) e h = h

-- a value's own fraction is rounded to the value
own : (s t : Bool) (m : ℕ) (e : ℤ) (a c : ℕ) → T (fits binary32 (fin s m e)) → a ≡ m * up e → c ≡ down e → round binary32 t a c ≡ fin t m e
unfolding narrow_at
own s t m e a c f h k = ap (λ (n : ℕ). round binary32 t n c) h ∙ ap (round binary32 t (m * up e)) k ∙ narrow-kept binary32 (fin t m e) (any_sign s t m e f)

of_negative : (m : ℕ) (e : ℤ) → T (fits binary32 (fin true m e)) → sub binary32 0f (fin true m e) ≡ fin false m e
unfolding sub of_bits
of_negative m e f = own true false m e (0 * down e + m * up e * 1) (1 * down e) f (omega arith) (omega arith)

of_zero : (e : ℤ) → T (fits binary32 (fin false 0 e)) → sub binary32 0f (fin false 0 e) ≡ fin false 0 e
unfolding sub of_bits
of_zero e f = rw (le-ltb (0 * down e) (0 * up e * 1) (omega arith)) (own false false 0 e (0 * down e - 0 * up e * 1) (1 * down e) f (omega arith) (omega arith))

of_positive : (m : ℕ) (e : ℤ) → T (fits binary32 (fin false (suc m) e)) → sub binary32 0f (fin false (suc m) e) ≡ fin true (suc m) e
unfolding sub of_bits
of_positive m e f =
    let l : 0 < suc m * up e = mul-pos (zero-lt-suc m) (up_pos e) in
    rw (lt-ltb (0 * down e) (suc m * up e * 1) (omega arith)) (own false true (suc m) e (suc m * up e * 1 - 0 * down e) (1 * down e) f (omega arith) (omega arith))

-- where x is greater it is plain
pub greater : (x : Float) → T (fits binary32 x) → lt (sub binary32 0f x) x ≡ true → x ≡ abs_of x
unfolding lt sub of_bits abs_of
greater nan f h = refl
greater (inf true) f h = absurd (false≢true h)
greater (inf false) f h = refl
greater (fin true m e) f h = absurd (false≢true (sym (ap (λ (y : Float). lt y (fin true m e)) (of_negative m e f)) ∙ h))
greater (fin false m e) f h = refl

pub not_greater : (x : Float) → T (fits binary32 x) → lt (sub binary32 0f x) x ≡ false → sub binary32 0f x ≡ abs_of x
unfolding lt sub of_bits abs_of
not_greater nan f h = refl
not_greater (inf true) f h = refl
not_greater (inf false) f h = absurd (true≢false h)
not_greater (fin true m e) f h = of_negative m e f
not_greater (fin false zero e) f h = of_zero e f
not_greater (fin false (suc m) e) f h =
    let a = suc m * up e * down e in
    let l : 0 < a = mul-pos (mul-pos (zero-lt-suc m) (up_pos e)) (down_pos e) in
    absurd (true≢false (sym (ap (λ (y : Float). lt y (fin false (suc m) e)) (of_positive m e f) ∙ lt-ltb 0 (a + a) (omega arith)) ∙ h))
