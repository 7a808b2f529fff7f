-- The rows of a belt sheet that are written are read back. Assumes nothing.
use mathlib.Core.Bool.{true, false, ◌&&◌}
use mathlib.Core.List.{List, [], ◌∷◌, ◌++◌, map, append_assoc, append-nil}
use mathlib.Core.Path.{◌≡◌, refl, sym, ap, ap₂, subst, fun_ext, ◌∙◌}
use Prim.Native.Nat.{ℕ, zero, suc, ◌+◌, ◌*◌, ◌<◌, ◌≤◌}
use native.Mathlib.Nat.{add-zero, add_assoc, suc-add, zero-mul, suc-mul}
use native.Mathlib.Omega.{arith}
use borrow.Author.Tests.{le-ltb, ne_eqb}
use lib.Dec.{eqb-suc-suc, lit<}
use lib.Ieee.{Float, binary32, of_bits}
use lib.ListN.{length, get_or}
use Rattle.std.specs.Prelude.{unwrap_or}
use Rattle.limits.specs.Below.{all_below}
use Rattle.limits.specs.List.{up_to}
use Rattle.limits.proofs.Below.{all_first, all_fails}
use Rattle.text.specs.Ascii.{ascii}
use Rattle.text.specs.Bytes.{byte_is, stands_at, is_word}
use Rattle.text.specs.Digits.{hex_text}
use Rattle.text.proofs.DigitsBack.{word_back}
use Rattle.text.proofs.Places.{Reads, reads_next, byte_here, stands_not}
use Rattle.grammar.specs.Grammar.{separator, float_size, is_floats, is_row, row_size, float_at, floats_at, point_key, ray_key, rows_from, floats_from}
use Rattle.geometry.specs.Point.{point_floats}
use Rattle.sheet.specs.Written.{AllOf, IsWord, IsRowOf, line_of, commas, rows_text, rows_floats}
use Rattle.sheet.proofs.HeadBack.{line_key}
use Rattle.grammar.proofs.Runs.{run_is}

-- a word, what stands behind it, and the other words
floats-first : (l : List ℕ) (at w n : ℕ) (r : List ℕ) → Reads l at (hex_text w ++ separator (suc n) 0 ∷ r) → IsWord w → is_floats l (at + float_size) n ≡ true → is_floats l at (suc n) ≡ true
unfolding is_floats separator
floats-first l at w n r h b a = all_first n _ _ first (λ i. ap₂ (λ x y. x && y) (ap (is_word l) (place i)) (ap₂ (byte_is l) (ap (λ (k : ℕ). k + 8) (place i)) (behind i))) a
  where
    place : (i : ℕ) → at + suc i * float_size ≡ at + float_size + i * float_size
    place i = omega arith

    behind : (i : ℕ) → separator (suc n) (suc i) ≡ separator n i
    behind i = rw (suc-add i 1, eqb-suc-suc (i + 1) n)

    first : is_word l (at + 0 * float_size) && byte_is l (at + 0 * float_size + 8) (separator (suc n) 0) ≡ true
    first = let f = word_back l at w _ h b in rw (add-zero at, f.0) (byte_here l (at + 8) (separator (suc n) 0) r f.2)

-- words with commas between, and LF: they stand there, and are the floats of the words
abbrev Floats : List ℕ → ℕ → List ℕ → List ℕ → Type 0
Floats l at ws r = (is_floats l at (length ws) ≡ true) × (floats_at l at (length ws) ≡ map (of_bits binary32) ws) × Reads l (at + length ws * float_size) r

floats_next : (l : List ℕ) (at w : ℕ) (ws r s : List ℕ) → Reads l at (hex_text w ++ separator (suc (length ws)) 0 ∷ s) → IsWord w → (Reads l (at + float_size) s → Floats l (at + float_size) ws r) → Floats l at (w ∷ ws) r
unfolding floats_at float_at
floats_next l at w ws r s h b f =
    let x = word_back l at w _ h b in
    let y = reads_next l (at + 8) (separator (suc (length ws)) 0 ∷ []) s x.2 in
    let z = f (rw (add_assoc at 8 1) at y) in
    let p : at + float_size + length ws * float_size ≡ at + suc (length ws) * float_size = omega arith in
    (floats-first l at w (length ws) s h b z.0, ap₂ (λ c cs. of_bits binary32 (unwrap_or c 0) ∷ cs) x.1 z.1, subst (λ (k : ℕ). Reads l k r) p z.2)

floats_back : (l : List ℕ) (at : ℕ) (w : ℕ) (ws r : List ℕ) → Reads l at (commas (w ∷ ws) ++ 10 ∷ r) → AllOf IsWord (w ∷ ws) → Floats l at (w ∷ ws) r
unfolding commas is_floats floats_at all_below ascii separator
floats_back l at w [] r h a = floats_next l at w [] r r h a.0 (λ g. (refl, refl, rw (← add-zero (at + float_size)) at g))
floats_back l at w (v ∷ ws) r h a =
    floats_next l at w (v ∷ ws) r (commas (v ∷ ws) ++ 10 ∷ r) (rw (ne_eqb 1 (suc (suc (length ws))) (λ e. omega arith)) (simp append_assoc at h)) a.0 (λ g. floats_back l (at + float_size) v ws r g a.1)

-- a row of n words, at least one
row_back :
    (l : List ℕ) (at : ℕ) (key : List ℕ) (n : ℕ) (ws r : List ℕ)
    → Reads l at (line_of key (commas ws) ++ r)
    → IsRowOf n ws
    → 0 < n
    → (is_row l at key n ≡ true) × (floats_at l (at + length key) n ≡ map (of_bits binary32) ws) × Reads l (at + row_size key n) r
unfolding is_row row_size
row_back l at key n [] r h a p = absurd (omega (arith, a.0))
row_back l at key n (w ∷ ws) r h a p =
    let g = line_key l at key (commas (w ∷ ws)) r h in
    let f = floats_back l (at + length key) w ws r g.1 a.1 in
    rw (← a.0) (rw g.0 f.0, f.1, (rw (add_assoc at (length key) (length (w ∷ ws) * float_size)) at f).2)

up_to-first : {A : Type 0} (f : ℕ → List A) (n : ℕ) → up_to f (suc n) ≡ f 0 ++ up_to (λ k. f (suc k)) n
unfolding up_to
up_to-first f zero = sym (append-nil (f 0))
up_to-first f (suc n) = ap (λ s. s ++ f (suc n)) (up_to-first f n) ∙ append_assoc (f 0) (up_to (λ k. f (suc k)) n) (f (suc n))

-- row j + 1 from here is row j from behind the first
row_place : (at j size : ℕ) → at + suc j * size ≡ at + size + j * size
row_place at j size = rw (suc-mul j size) (omega arith)

here : (at size : ℕ) → at + 0 * size ≡ at
here at size = rw (zero-mul size) (add-zero at)

-- ROWS, one behind the other: each stands there, and their floats are those of the words
pub rows_back :
    (l : List ℕ) (at : ℕ) (key : List ℕ) (n : ℕ) (rows : List (List ℕ)) (r : List ℕ)
    → Reads l at (rows_text key rows ++ r)
    → AllOf (IsRowOf n) rows
    → 0 < n
    → (all_below (length rows) (λ j. is_row l (at + j * row_size key n) key n) ≡ true) × (floats_from l at key n (length rows) ≡ rows_floats rows) × Reads l (at + length rows * row_size key n) r
unfolding rows_text rows_floats floats_from up_to all_below
rows_back l at key n [] r h a p = (refl, refl, rw (zero-mul, add-zero) h)
rows_back l at key n (ws ∷ rows) r h a p =
    let x = row_back l at key n ws (rows_text key rows ++ r) (rw append_assoc at h) a.0 p in
    let y = rows_back l (at + row_size key n) key n rows r x.2 a.1 p in
    let place : (j : ℕ) → at + suc j * row_size key n ≡ at + row_size key n + j * row_size key n = λ j. row_place at j (row_size key n) in
    let start : at + 0 * row_size key n ≡ at = here at (row_size key n) in (
      all_first (length rows) _ _ (rw start x.0) (λ j. ap (λ (k : ℕ). is_row l k key n) (place j)) y.0,
      up_to-first _ (length rows)
          ∙ ap₂ (λ (c cs : List Float). c ++ cs) (ap (λ (k : ℕ). floats_at l (k + length key) n) start ∙ x.1)
          (ap (λ (f : ℕ → List Float). up_to f (length rows)) (fun_ext (λ j. ap (λ (k : ℕ). floats_at l (k + length key) n) (place j))) ∙ y.1),
      subst (λ (k : ℕ). Reads l k r) (sym (place (length rows))) y.2,
    )

-- where the text ends there is no row, and where a ray stands or the text ends there is no point
pub end_no_row : (l : List ℕ) (at : ℕ) (key : List ℕ) (n : ℕ) → Reads l at [] → 0 < length key → is_row l at key n ≡ false
unfolding is_row stands_at byte_is
end_no_row l at key n h p = rw (all_fails (length key) (λ k. byte_is l (at + k) (get_or key k 0)) 0 p (rw (le-ltb (at + 0) (length l) (omega (arith, h.1)))))

pub ray_no_point : (l : List ℕ) (at : ℕ) (rays : List (List ℕ)) → Reads l at (rows_text ray_key rays) → is_row l at point_key point_floats ≡ false
unfolding rows_text line_of ascii is_row
ray_no_point l at [] h = end_no_row l at point_key point_floats h (lit< tt)
ray_no_point l at (ws ∷ rows) h = rw (stands_not l at (98 ∷ []) _ point_key 0 h (lit< tt) (lit< tt) refl)

-- how many rows there are
pub rows-count :
    (l : List ℕ) (at : ℕ) (key : List ℕ) (n : ℕ) (rows : List (List ℕ)) (most : ℕ)
    → all_below (length rows) (λ j. is_row l (at + j * row_size key n) key n) ≡ true
    → length rows ≤ most
    → is_row l (at + length rows * row_size key n) key n ≡ false
    → rows_from l at key n most ≡ length rows
unfolding rows_from
rows-count l at key n rows most a m e = run_is most _ (length rows) m a (λ _. e)
