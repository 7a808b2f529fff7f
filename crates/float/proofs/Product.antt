-- The arms of `round_product`, for either format: of a value by its fields, the sign s, the exponent's field E and the digits d, and of a factor k of at most w binary digits. Assumes nothing.
use Rattle.std.proofs.Common.{◌≡◌, ℕ, zero, suc, ◌+◌, ◌-◌, ◌*◌, ◌^◌, ◌<◌, ◌≤◌, Bool, true, false, cond, not, T, nat_abs, sym, refl, ap, ◌∙◌, subst, le_trans, lt_of_lt_of_le, lt_irrefl, zero-lt-suc, mul_comm, mul-le-mul, add_comm, mul-le-mul_left, zero-mul, mul-one, mul_right_comm, le-add_left, arith, pow_pos, pow_mono, shl_lt, le-ltb}
use lib.Ieee.{Float, nan, inf, fin, Format, prec, low, hid, ones, of_fields, up, down, is_nan}
use lib.Ieee.Fits.{down_pos}
use lib.Ieee.Exact.{HasValue}
use Rattle.std.specs.Prelude.{Some, None}
use Rattle.float.specs.declared.rounding.Ties.{Ties}
use Rattle.float.specs.Whole.{nearest_to, at_half, with_sign, whole_of, size_held, held, product_of}
use Rattle.float.proofs.Fields.{significand, significand_lt, finite_at, infinite_at}
use Rattle.float.proofs.Nearest.{half_rule, nearest_same, nearest-whole, nearest_none}
use Rattle.float.proofs.Pattern.{join, product_lt, twice, twice_hid}

-- by any fraction that the value equals
whole-value : (t : Ties) (k : ℕ) (v : Float) (s : Bool) (a c : ℕ) → 0 < c → HasValue v s a c → whole_of t k v ≡ Some (with_sign s (nearest_to (at_half t s) (a * k) c))
unfolding whole_of
whole-value t k nan s a c C h = absurd h
whole-value t k (inf z) s a c C h = absurd h
whole-value t k (fin z m e) s a c C (p, q) =
    ap (λ (b : Bool). Some (with_sign b (nearest_to (at_half t b) (m * up e * k) (down e)))) p
    ∙ ap (λ (n : ℕ). Some (with_sign s n))
    (nearest_same (at_half t s) (half_rule t s) (m * up e * k) (down e) (a * k) c (down_pos e) C (mul_right_comm (m * up e) k c ∙ ap (λ (x : ℕ). x * k) q ∙ mul_right_comm a (down e) k))

pub size-signed : (s : Bool) (n : ℕ) → nat_abs (with_sign s n) ≡ n
size-signed false n = refl
size-signed true zero = refl
size-signed true (suc n) = refl

normal : (f : Format) (E d : ℕ) → 1 ≤ E → significand f E d ≡ d + hid f
normal f zero d h = absurd (lt_irrefl 0 h)
normal f (suc E) d h = add_comm (hid f) d

module _ (f : Format) (w : ℕ) (t : Ties) (k : ℕ) (s : Bool) (E d : ℕ) (K : k < 2 ^ w) (D : d < hid f) where
  abbrev v : Float
  v = of_fields f s E d

  abbrev m : ℕ
  m = significand f E d

  -- in units of the format's least value
  is_nearest : E < ones f → product_of t k v ≡ size_held (nearest_to (at_half t s) (m * 2 ^ (E - 1) * k) (2 ^ low f))
  unfolding product_of
  is_nearest h = ap held (whole-value t k v s (m * 2 ^ (E - 1)) (2 ^ low f) (pow_pos (low f)) (finite_at f s E d h)) ∙ ap size_held (size-signed s (nearest_to (at_half t s) (m * 2 ^ (E - 1) * k) (2 ^ low f)))

  -- the digits times k, as the code has them
  abbrev p : ℕ
  p = (d + hid f) * k

  pub product_small : p < 2 ^ (prec f + w)
  product_small = product_lt (prec f) w (go (hid f) (2 ^ prec f) (twice_hid f) D) K
    where
      go : (a z : ℕ) → z ≡ 2 * a → d < a → d + a < z
      go a z e l = omega arith

  -- the units times k are the product shifted
  shifted : 1 ≤ E → m * 2 ^ (E - 1) * k ≡ p * 2 ^ (E - 1)
  shifted l = mul_right_comm m (2 ^ (E - 1)) k ∙ ap (λ (x : ℕ). x * k * 2 ^ (E - 1)) (normal f E d l)

  -- less than a half
  pub arm_none : E < ones f → prec f + (E - 1) + w < low f → Some 0 ≡ product_of t k v
  arm_none h l = sym (is_nearest h ∙ ap size_held (nearest_none (at_half t s) (m * 2 ^ (E - 1) * k) (2 ^ low f) (double (low f) (m * 2 ^ (E - 1) * k) (prec f + (E - 1) + w) l (product_lt (prec f + (E - 1)) w (shl_lt (prec f) (E - 1) (significand_lt f E d D)) K))))
    where
      double : (n x i : ℕ) → i < n → x < 2 ^ i → x * 2 < 2 ^ n
      double n x i l h = go (2 ^ n) (2 ^ (n - 1)) (twice n (omega arith)) (lt_of_lt_of_le h (pow_mono {i = i} {j = n - 1} (omega arith)))
        where
          go : (a b : ℕ) → a ≡ 2 * b → x < b → x * 2 < a
          go a b e l = omega arith

  pub arm_cut : E < ones f → 1 ≤ E → E ≤ low f → size_held (nearest_to (at_half t s) p (2 ^ (suc (low f) - E))) ≡ product_of t k v
  arm_cut h l g =
      sym
      (is_nearest h
      ∙ ap size_held
      (ap (λ (x : ℕ). nearest_to (at_half t s) x (2 ^ low f)) (shifted l)
      ∙ nearest_same (at_half t s) (half_rule t s) (p * 2 ^ (E - 1)) (2 ^ low f) p (2 ^ (suc (low f) - E)) (pow_pos (low f)) (pow_pos (suc (low f) - E)) (join p (E - 1) (suc (low f) - E) ∙ ap (λ (x : ℕ). p * 2 ^ x) (all E (low f) l g))))
    where
      all : (E n : ℕ) → 1 ≤ E → E ≤ n → E - 1 + (suc n - E) ≡ n
      all E n a b = omega arith

  -- the value is a whole number
  pub arm_whole : E < ones f → low f < E → size_held (p * 2 ^ (E - suc (low f))) ≡ product_of t k v
  arm_whole h l =
      sym
      (is_nearest h
      ∙ ap size_held
      (ap (λ (x : ℕ). nearest_to (at_half t s) x (2 ^ low f)) (shifted (some_field E (low f) l) ∙ sym (join p (E - suc (low f)) (low f) ∙ ap (λ (x : ℕ). p * 2 ^ x) (all E (low f) l)))
      ∙ nearest-whole (at_half t s) (p * 2 ^ (E - suc (low f))) (2 ^ low f) (pow_pos (low f))))
    where
      some_field : (E n : ℕ) → n < E → 1 ≤ E
      some_field E n l = omega arith

      all : (E n : ℕ) → n < E → E - suc n + n ≡ E - 1
      all E n a = omega arith

  pub arm_zero : E < ones f → low f < E → p ≡ 0 → Some 0 ≡ product_of t k v
  arm_zero h l e = ap size_held (sym (ap (λ (x : ℕ). x * 2 ^ (E - suc (low f))) e ∙ zero-mul (2 ^ (E - suc (low f))))) ∙ arm_whole h l

  -- the digits alone, shifted by j, are more than a u32 holds
  pub arm_large : E < ones f → low f < E → (j : ℕ) → j ≤ E - suc (low f) → 2 ^ 32 ≤ hid f * 2 ^ j → (p ≡ 0 → ⊥) → None ≡ product_of t k v
  arm_large h l j g big n =
      let x = p * 2 ^ (E - suc (low f)) in
      ap (λ (b : Bool). cond b (Some x) None) (sym (le-ltb x (2 ^ 32) (le_trans big (mul-le-mul (one k n) (pow_mono {i = j} {j = E - suc (low f)} g))))) ∙ arm_whole h l
    where
      one : (k : ℕ) → ((d + hid f) * k ≡ 0 → ⊥) → hid f ≤ (d + hid f) * k
      one zero n = absurd (n (mul_comm (d + hid f) 0 ∙ zero-mul (d + hid f)))
      one (suc k) n = le_trans (le-add_left (hid f) d) (subst (λ (x : ℕ). x ≤ (d + hid f) * suc k) (mul-one (d + hid f)) (mul-le-mul_left (d + hid f) (zero-lt-suc k)))

-- the last field is an infinity's or a NaN's
pub arm_last : (f : Format) (t : Ties) (k : ℕ) (s : Bool) (E d : ℕ) → E ≡ ones f → None ≡ product_of t k (of_fields f s E d)
arm_last f t k s E d e = go (of_fields f s E d) (infinite_at f s E d e)
  where
    go : (v : Float) → (T (not (is_nan v)) → v ≡ inf s) → None ≡ product_of t k v
    go nan h = unfold product_of whole_of in refl
    go (inf z) h = unfold product_of whole_of in refl
    go (fin z m e) h = absurd (never (h (unfold is_nan in tt)))
      where
        never : fin z m e ≡ inf s → ⊥
        never e = let z : ◌≡◌ {A = ℕ} 0 1 = cc in omega arith
