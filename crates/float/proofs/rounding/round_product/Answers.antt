-- `float::rounding::round_product` meets its contract: `Product.antt` says what each arm gives. Assumes nothing.
use Rattle.std.proofs.Common.{◌≡◌, ℕ, ◌+◌, ◌-◌, ◌*◌, ◌/◌, ◌%◌, ◌^◌, ◌<◌, Bool, true, Option, T, leb, sym, ap, ◌∙◌, subst, le_antisymm, arith, lit≤, shl_exact, rules}
use lib.Ieee.{Float, binary32, top, hid, fits, to_bits}
use Rattle.float.specs.declared.rounding.Ties.{Ties}
use Rattle.float.specs.declared.rounding.Ties.TheVariants.{Up}
use Rattle.float.specs.Whole.{nearest_to, size_held, product_of}
use Rattle.float.proofs.Fields.{at, read, digits_in, field_in}
use Rattle.float.proofs.Product.{product_small, arm_none, arm_cut, arm_whole, arm_zero, arm_large, arm_last}
use Rattle.float.proofs.rounding.round_product.Goals as goal

-- ---- the sign, the exponent's field and the digits of the pattern b

abbrev s : ℕ → Bool
s b = leb (top binary32) b

abbrev E : ℕ → ℕ
E b = b % top binary32 / hid binary32

abbrev d : ℕ → ℕ
d b = b % hid binary32

-- what an arm gives for the fields, it gives for x
of_fields : (t : Ties) (k : ℕ) (x : Float) (b : ℕ) → fits binary32 x ≡ true → b ≡ to_bits binary32 x → (r : Option ℕ) → r ≡ product_of t k (at binary32 b) → r ≡ product_of t k x
of_fields t k x b f e r h = h ∙ ap (product_of t k) (ap (at binary32) e ∙ read binary32 x (subst T (sym f) tt))

small : (k b : ℕ) → k < 2 ^ 32 → (d b + hid binary32) * k < 2 ^ 56
small k b K = product_small binary32 32 Up k (s b) (E b) (d b) K (digits_in binary32 b)

pub returns-in-0-to-93 : goal.returns-in-0-to-93
returns-in-0-to-93 c =
    let t = c.args.ties in
    let k = c.args.k in
    let b = c.to_bits-bits.result in
    of_fields t k c.args.x b c.well_formed.0.1 c.to_bits-bits.ensures _ (arm_none binary32 32 t k (s b) (E b) (d b) (search rules) (digits_in binary32 b) (omega (arith, c.in-0-to-93)) (omega (arith, c.in-0-to-93)))

pub returns-in-94-to-149 : goal.returns-in-94-to-149
unfolding nearest_to
returns-in-94-to-149 c =
    let t = c.args.ties in
    let k = c.args.k in
    let b = c.to_bits-bits.result in
    let p = (d b + hid binary32) * k in
    c.hold.ensures
    ∙ ap size_held (c.shift_with_tie.ensures ∙ ap (λ (y : ℕ). nearest_to (λ _. y) p (2 ^ (150 - E b))) c.at_half-tie.ensures)
    ∙ of_fields t k c.args.x b c.well_formed.0.1 c.to_bits-bits.ensures _ (arm_cut binary32 32 t k (s b) (E b) (d b) (search rules) (digits_in binary32 b) (omega (arith, c.in-94-to-149)) (omega (arith, c.in-94-to-149)) (omega (arith, c.in-94-to-149)))

pub returns-in-150-to-158 : goal.returns-in-150-to-158
returns-in-150-to-158 c =
    let t = c.args.ties in
    let k = c.args.k in
    let b = c.to_bits-bits.result in
    c.hold-in-150-to-158.ensures
    ∙ ap size_held (shl_exact 56 (E b - 150) 64 (small k b (search rules)) (omega (arith, c.in-150-to-158)))
    ∙ of_fields t k c.args.x b c.well_formed.0.1 c.to_bits-bits.ensures _ (arm_whole binary32 32 t k (s b) (E b) (d b) (search rules) (digits_in binary32 b) (omega (arith, c.in-150-to-158)) (omega (arith, c.in-150-to-158)))

pub returns-in-159-to-254 : goal.returns-in-159-to-254
returns-in-159-to-254 c =
    let t = c.args.ties in
    let k = c.args.k in
    let b = c.to_bits-bits.result in
    of_fields t k c.args.x b c.well_formed.0.1 c.to_bits-bits.ensures _ (arm_zero binary32 32 t k (s b) (E b) (d b) (search rules) (digits_in binary32 b) (omega (arith, c.in-159-to-254)) (omega (arith, c.in-159-to-254)) c.if-product-eq0.true)

-- the digits alone are more than a u32 holds
pub returns-in_default : goal.returns-in_default
returns-in_default c =
    let t = c.args.ties in
    let k = c.args.k in
    let b = c.to_bits-bits.result in
    of_fields t k c.args.x b c.well_formed.0.1 c.to_bits-bits.ensures _ (arm_large binary32 32 t k (s b) (E b) (d b) (search rules) (digits_in binary32 b) (omega (arith, c.in-159-to-254)) (omega (arith, c.in-159-to-254)) 9 (omega (arith, c.in-159-to-254)) (lit≤ tt) c.if-product-eq0.false)

-- an infinity or a NaN
pub returns-in_default-2 : goal.returns-in_default-2
returns-in_default-2 c =
    let t = c.args.ties in
    let k = c.args.k in
    let b = c.to_bits-bits.result in
    of_fields t k c.args.x b c.well_formed.0.1 c.to_bits-bits.ensures _ (arm_last binary32 t k (s b) (E b) (d b) (le_antisymm (field_in binary32 b) (omega (arith, c.in_default))))
