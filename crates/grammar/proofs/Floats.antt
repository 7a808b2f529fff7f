-- The floats of a row, and how far rows reach. Assumes nothing.
use mathlib.Core.Bool.{Bool, true, false, cond, ◌&&◌}
use mathlib.Core.Path.{◌≡◌, refl, sym, ap, ◌∙◌, fun_ext}
use mathlib.Core.List.{List, ◌++◌, append-nil}
use Prim.Native.Nat.{ℕ, zero, suc, ◌+◌, ◌-◌, ◌*◌, ◌<◌, ◌≤◌}
use native.Mathlib.Nat.{add-zero, not-suc-le-zero, le_of_suc-le-suc, le_refl, le_trans, le_of_eq, zero-add, suc-mul, mul-le-mul}
use native.Mathlib.Numerals.{add-one}
use native.Mathlib.Omega.{arith}
use lib.Ieee.{Float, nan}
use lib.Dec.{lit≤}
use lib.ListN.{length, get_or, set, take, drop, length-take, length-drop}
use lib.Seq.{paste, paste-suc, take_all}
use borrow.Rule.Slice.PartMut.{put_mid}
use Rattle.std.proofs.lemmas.List.{drop_all}
use Rattle.std.proofs.lemmas.Slice.{put_mid-paste}
use Rattle.std.specs.List.{list_all, range_with_len}
use Rattle.std.specs.Prelude.{Some, None}
use Rattle.geometry.specs.Ray.{ray_floats}
use Rattle.limits.specs.Below.{all_below}
use Rattle.limits.specs.List.{over, up_to}
use Rattle.limits.proofs.Lists.{over_next, over-length, paste_over}
use Rattle.text.specs.Ascii.{ascii}
use Rattle.text.proofs.Places.{all_below-first}
use Rattle.grammar.specs.Grammar.{right, float_size, is_row, row_size, float_at, floats_at, row_at, row_key, row_floats, row_line, row_stands, floats_in}
use Rattle.grammar.specs.declared.reader.Line.{Line}
use Rattle.grammar.specs.declared.reader.Reader.{Reader}
use Rattle.grammar.specs.declared.reader.Row.{Row}
use Rattle.grammar.specs.declared.reader.Row.TheVariants as row

pub length-floats : (l : List ℕ) (at n : ℕ) → length (floats_at l at n) ≡ n
unfolding floats_at
length-floats l at zero = refl
length-floats l at (suc n) = ap suc (length-floats l (at + float_size) n)

floats_at_lem : (l : List ℕ) (at n i : ℕ) → i < n → get_or (floats_at l at n) i nan ≡ float_at l (at + i * float_size)
unfolding floats_at
floats_at_lem l at zero i h = absurd (not-suc-le-zero h)
floats_at_lem l at (suc n) zero h = ap (float_at l) (let e : at ≡ at + 0 * float_size = omega arith in e)
floats_at_lem l at (suc n) (suc i) h = floats_at_lem l (at + float_size) n i (le_of_suc-le-suc h) ∙ ap (float_at l) (let e : at + float_size + i * float_size ≡ at + suc i * float_size = omega arith in e)

-- ---- floats that are put

-- one more
pub float_put : (l : List ℕ) (at n : ℕ) (d x : List Float) (i : ℕ) (v : Float) → i < n → n ≤ length d → x ≡ paste d 0 (floats_at l at n) i → v ≡ float_at l (at + i * float_size)
    → set x i v ≡ paste d 0 (floats_at l at n) (i + 1)
float_put l at n d x i v h room e f =
    ap (λ (y : List Float). set y i v) e
    ∙ ap (λ (y : Float). set (paste d 0 (floats_at l at n) i) i y) (f ∙ sym (floats_at_lem l at n i h))
    ∙ ap (λ (k : ℕ). set (paste d 0 (floats_at l at n) i) k (get_or (floats_at l at n) i nan)) (sym (zero-add i))
    ∙ paste-suc d 0 (floats_at l at n) i nan (omega arith) (rw (length-floats l at n) h)
    ∙ ap (λ (k : ℕ). paste d 0 (floats_at l at n) k) (sym (add-one i))

-- all of them
pub floats_put : (l : List ℕ) (at : ℕ) (d x : List Float) (n i : ℕ) → n ≡ length d → i ≡ n → x ≡ paste d 0 (floats_at l at n) i → x ≡ floats_at l at n
floats_put l at d x n i e f h =
    h
    ∙ ap (λ (k : ℕ). take k (floats_at l at n) ++ drop (0 + k) d) f
    ∙ ap (λ (s : List Float). s ++ drop (0 + n) d) (take_all n (floats_at l at n) (le_of_eq (length-floats l at n)))
    ∙ ap (λ (s : List Float). floats_at l at n ++ s) (drop_all (0 + n) d (omega arith))
    ∙ append-nil (floats_at l at n)

-- ---- the floats of a row that are looked at

-- each number from a on, and each below n
all_from : (P : ℕ → Bool) (a n : ℕ) → list_all P (range_with_len a n) ≡ all_below n (λ k. P (a + k))
unfolding all_below
all_from P a zero = refl
all_from P a (suc n) =
    ap (λ (b : Bool). P a && b) (all_from P (a + 1) n ∙ ap (all_below n) (fun_ext (λ k. ap P (let e : a + 1 + k ≡ a + suc k = omega arith in e))))
    ∙ ap (λ (i : ℕ). P i && all_below n (λ k. P (a + suc k))) (sym (add-zero a))
    ∙ sym (all_below-first n (λ k. P (a + k)))

pub all_in_range : (P : ℕ → Bool) (n : ℕ) → list_all P (range_with_len 0 n) ≡ all_below n P
all_in_range P n = all_from P 0 n ∙ ap (all_below n) (fun_ext (λ k. ap P (zero-add k)))

-- a row has few floats, and a short key
pub row_small : (row : Row) → (row_floats row ≤ ray_floats) × (length (row_key row) ≤ 20)
unfolding ascii
row_small row.Point = (lit≤ tt, lit≤ tt)
row_small row.Beam = (lit≤ tt, lit≤ tt)

-- ---- a row that was taken

module _ (l : List ℕ) (row : Row) (at n : ℕ) (e : n ≡ row_floats row) where
  pub row_taken : (line : Line) → Some line ≡ row_line l row at → (is_row l at (row_key row) n ≡ true) × (line.next ≡ at + row_size (row_key row) n)
  unfolding row_line row_at
  row_taken line h = go (is_row l at (row_key row) n) (rw (← e) at h)
    where
      go : (b : Bool) → Some line ≡ (cond b (right n (at + row_size (row_key row) n)) None) → (b ≡ true) × (line.next ≡ at + row_size (row_key row) n)
      go true h = (refl, (let same : line ≡ record { value = n; next = at + row_size (row_key row) n } = cc in ap (λ (x : Line). x.next) same))
      go false h = cc

  pub row_wrong : None ≡ row_line l row at → is_row l at (row_key row) n ≡ false
  unfolding row_line row_at
  row_wrong h = go (is_row l at (row_key row) n) (rw (← e) at h)
    where
      go : (b : Bool) → None ≡ (cond b (right n (at + row_size (row_key row) n)) None) → b ≡ false
      go true h = cc
      go false h = refl

-- ---- rows, one behind the other

-- row j of m rows of n floats
pub next_in : (j m n : ℕ) → j < m → j * n + n ≤ m * n
next_in j m n h = le_trans (le_of_eq (sym (suc-mul j n))) (mul-le-mul h (le_refl n))

-- the reader at row j
pub reader_start : (r : Reader) (size : ℕ) → r ≡ record r { at = r.at + 0 * size }
reader_start r size = ap (λ (n : ℕ). record r { at = n }) (let e : r.at ≡ r.at + 0 * size = omega arith in e)

pub reader_next : (r old new : Reader) (j size next : ℕ) → old ≡ record r { at = r.at + j * size } → new ≡ record old { at = next } → next ≡ old.at + size → new ≡ record r { at = r.at + (j + 1) * size }
reader_next r old new j size next e f g =
    f
    ∙ ap (λ (x : Reader). record x { at = next }) e
    ∙ ap (λ (n : ℕ). record r { at = n })
    (let place : old.at ≡ r.at + j * size = ap (λ (x : Reader). x.at) e in
    let more : next ≡ r.at + (j + 1) * size = omega arith in more)

-- row j is one, or is none, as the line that was taken tells
pub row_told : (r old : Reader) (key : List ℕ) (n j : ℕ) (b : Bool) → old ≡ record r { at = r.at + j * row_size key n } → is_row old.src.now old.at key n ≡ b → row_stands r.src.now r.at key n j ≡ b
row_told r old key n j b e f = ap (λ (x : Reader). is_row x.src.now x.at key n) (sym e) ∙ f

module _ (l : List ℕ) (at : ℕ) (key : List ℕ) (n j : ℕ) (d x : List Float) (room : j * n + n ≤ length d) (held : x ≡ over d 0 (up_to (floats_in l at key n) j)) where
  pub length-held : length x ≡ length d
  length-held = ap length held ∙ over-length d 0 (floats_in l at key n) n j (λ i. length-floats l _ n) (omega arith)

  -- its floats are put
  pub row_put : (next : ℕ) (s : List ℕ) (z : List Float) → next ≡ at + j * row_size key n + row_size key n → s ≡ l → z ≡ floats_at s (next - n * float_size) (length (take (j * n + n - j * n) (drop (j * n) x)))
      → put_mid (j * n) (j * n + n - j * n) x z ≡ over d 0 (up_to (floats_in l at key n) (j + 1))
  unfolding row_size
  row_put next s z e g f =
      let part : length (take (j * n + n - j * n) (drop (j * n) x)) ≡ n = omega (arith, length-take (j * n + n - j * n) (drop (j * n) x), length-drop (j * n) x, length-held) in
      let start : next - n * float_size ≡ at + j * (length key + n * float_size) + length key = omega arith in
      let same : z ≡ floats_in l at key n j = f ∙ ap (λ (b : List ℕ). floats_at b (next - n * float_size) (length (take (j * n + n - j * n) (drop (j * n) x)))) g ∙ ap (floats_at l (next - n * float_size)) part ∙ ap (λ (i : ℕ). floats_at l i n) start in
      put_mid-paste (j * n) (j * n + n - j * n) x z (floats_in l at key n j) n same (omega arith) (sym (length-floats l _ n))
      ∙ ap (paste x (j * n) (floats_in l at key n j)) (sym (length-floats l _ n))
      ∙ paste_over x (j * n) (floats_in l at key n j)
      ∙ ap (λ (y : List Float). over y (j * n) (floats_in l at key n j)) held
      ∙ ap (λ (m : ℕ). over (over d 0 (up_to (floats_in l at key n) j)) m (floats_in l at key n j)) (sym (zero-add (j * n)))
      ∙ over_next d 0 (floats_in l at key n) n j (λ i. length-floats l _ n) (omega arith)
