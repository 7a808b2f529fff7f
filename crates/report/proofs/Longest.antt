-- No line has over 90 bytes, where its numbers are below 2 ^ 32. Assumes nothing.
use mathlib.Core.Bool.{Bool, true, false}
use mathlib.Core.List.{List}
use mathlib.Core.Path.{◌≡◌, refl}
use Prim.Native.Nat.{ℕ, zero, suc, ◌+◌, ◌/◌, ◌^◌, ◌≤◌, ◌<◌}
use native.Mathlib.Nat.{div-lt_iff_lt-mul, pow-suc, lt_of_lt_of_le}
use native.Mathlib.Omega.{arith}
use borrow.Author.Tests.{ltb-true, ltb-false}
use lib.Dec.{ltb, lit<, lit≤}
use lib.Ieee.{Float}
use lib.ListN.{length, length-append}
use Rattle.text.specs.Ascii.{ascii}
use Rattle.text.specs.Digits.{decimal_text, four_text, hex_text, float_text}
use Rattle.text.proofs.Decimal.{decimal_one, decimal_more}
use Rattle.intersect.specs.declared.Intersection.{Intersection}
use Rattle.intersect.specs.declared.Intersection.TheVariants.{Hit, Miss}
use Rattle.std.specs.Prelude.{Result, Ok, Err}
use Rattle.limits.specs.Refused.{number_of}
use Rattle.limits.specs.declared.refusal.Refusal.{Refusal}
use Rattle.report.specs.Printed.{number_text, bits_text, pieces_text, place_text, found_text, hit_text, miss_text, refused_text, answer_text, refused_sheet_text, longest}

-- a number below 10 ^ (k + 1) has at most k + 1 digits
digits-most : (k n : ℕ) → n < 10 ^ suc k → length (decimal_text n) ≤ suc k
digits-most zero n h = rw (decimal_one n h) (omega arith)
digits-most (suc k) n h = go (ltb n 10) refl (digits-most k (n / 10) ((div-lt_iff_lt-mul {k = 10} (lit< tt)).1 (rw (pow-suc 10 (suc k)) at h)))
  where
    go : (b : Bool) → ltb n 10 ≡ b → length (decimal_text (n / 10)) ≤ suc k → length (decimal_text n) ≤ suc (suc k)
    go true e r = rw (decimal_one n (ltb-true n 10 e)) (omega arith)
    go false e r = rw (decimal_more n (ltb-false n 10 e), length-append) (omega arith)

number-most : (key : List ℕ) (n : ℕ) → n < 2 ^ 32 → length (number_text key n) ≤ length key + 10
unfolding number_text
number-most key n h = rw length-append (omega (arith, digits-most 9 n (lt_of_lt_of_le h (lit≤ tt))))

bits_long : (key : List ℕ) (x : Float) → length (bits_text key x) ≡ length key + 8
unfolding bits_text float_text hex_text four_text
bits_long key x = length-append key (float_text x)

-- the numbers of an answer are below 2 ^ 32
abbrev pub Narrow : Result Intersection Refusal → Type 0
Narrow (Ok (Hit h n)) = n < 2 ^ 32
Narrow (Ok (Miss n)) = n < 2 ^ 32
Narrow (Err reason) = number_of reason < 2 ^ 32

pub pieces_most : (n : ℕ) → n < 2 ^ 32 → length (pieces_text n) ≤ longest
unfolding pieces_text ascii
pieces_most n h = rw length-append (omega (arith, number-most (ascii "pieces=") n h))

pub refused_sheet_most : (number line : ℕ) → number < 2 ^ 32 → line < 2 ^ 32 → length (refused_sheet_text number line) ≤ longest
unfolding refused_sheet_text ascii
refused_sheet_most number line h g = simp length-append (omega (arith, number-most (ascii "refused=") number h, number-most (ascii " line=") line g))

module _ (ray piece : ℕ) (r : ray < 2 ^ 32) (p : piece < 2 ^ 32) where
  place-most : length (place_text ray piece) ≤ 32
  unfolding place_text ascii
  place-most = rw length-append (omega (arith, number-most (ascii "beam=") ray r, number-most (ascii " piece=") piece p))

  pub answer-most : (met : Result Intersection Refusal) → Narrow met → length (answer_text ray piece met) ≤ longest
  unfolding hit_text miss_text refused_text found_text ascii
  answer-most (Ok (Hit h n)) l =
      simp length-append (omega (arith, place-most, number-most (ascii " looked=") n l, bits_long (ascii " t=") h.t_hit, bits_long (ascii " u=") h.u, bits_long (ascii " v=") h.v))
  answer-most (Ok (Miss n)) l = simp length-append (omega (arith, place-most, number-most (ascii " looked=") n l))
  answer-most (Err reason) l = simp length-append (omega (arith, place-most, number-most (ascii " refused=") (number_of reason) l))
