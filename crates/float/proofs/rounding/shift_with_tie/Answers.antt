-- `float::rounding::shift_with_tie` meets its contract. Assumes nothing.
use Rattle.std.proofs.Common.{◌≡◌, ℕ, ◌+◌, ◌-◌, ◌*◌, ◌/◌, ◌%◌, ◌^◌, ◌<◌, ◌≤◌, sym, ap, ◌∙◌, subst, one-mul, arith, lit<, pow_pos, pow_mono, shl_exact}
use Rattle.float.specs.Narrow.{spare}
use Rattle.float.specs.Whole.{nearest_to}
use Rattle.float.proofs.Nearest.{nearest-added}
use Rattle.float.proofs.Pattern.{twice}
use Rattle.float.proofs.rounding.shift_with_tie.Goals as goal

-- `1 << (s - 1)`, as the machine has it
abbrev half : ℕ → ℕ
half s = 1 * 2 ^ (s - 1) % 2 ^ 64

half_is : (s : ℕ) → s < spare → half s ≡ 2 ^ (s - 1)
half_is s h = shl_exact {a = 1} 1 (s - 1) 64 (lit< tt) (omega arith) ∙ one-mul (2 ^ (s - 1))

half_pos : (s : ℕ) → s < spare → 1 ≤ half s
half_pos s h = subst (λ (x : ℕ). 1 ≤ x) (sym (half_is s h)) (pow_pos (s - 1))

half_le : (s : ℕ) → s < spare → half s ≤ 2 ^ (spare - 1)
half_le s h = subst (λ (x : ℕ). x ≤ 2 ^ (spare - 1)) (sym (half_is s h)) (pow_mono {i = s - 1} {j = spare - 1} (omega arith))

pub returns : goal.returns
returns c =
    let m = c.args.m in
    let s = c.args.s in
    let t = c.args.tie in
    ap (λ (x : ℕ). (m + (x - 1) + t) / 2 ^ s) (half_is s c.requires.s_lt_spare)
    ∙ subst (λ (x : ℕ). (m + (2 ^ (s - 1) - 1) + t) / x ≡ nearest_to (λ _. t) m x) (sym (twice s c.requires.le_s)) (nearest-added t m (2 ^ (s - 1)) c.requires.tie_bound (pow_pos (s - 1)))
