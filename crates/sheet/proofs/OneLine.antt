-- A line that is right is one line of the sheet: no LF stands in it but the last of its bytes. Assumes nothing.
use mathlib.Core.Bool.{Bool, true, false, cond, not, ◌&&◌, and-false, and-eq-true_iff, false≢true}
use mathlib.Core.List.{List}
use mathlib.Core.Path.{◌≡◌, refl, sym, ap, subst, ◌∙◌}
use Prim.Native.Nat.{ℕ, zero, suc, ◌+◌, ◌*◌, ◌-◌, ◌<◌}
use native.Mathlib.Nat.{add-zero, add_assoc, not-suc-le-zero}
use native.Mathlib.Omega.{arith}
use borrow.Author.Tests.{ltb-true, ltb-false, eqb-true, eq-eqb, ne_eqb, not-true}
use lib.Dec.{eqb, ltb, lit<}
use lib.ListN.{length, get_or}
use Rattle.geometry.specs.Point.{point_floats}
use Rattle.geometry.specs.Ray.{ray_floats}
use Rattle.limits.specs.Below.{all_below}
use Rattle.limits.proofs.Below.{all-at}
use Rattle.text.specs.Ascii.{ascii}
use Rattle.text.specs.Bytes.{◌>>=◌, byte_is, stands_at, digit_of, digit_at, is_word, word_at}
use Rattle.text.proofs.Places.{word_digits}
use Rattle.grammar.specs.Grammar.{line_feed, comma, right, decimal_digit_at, decimal_at, decimal_line, word_line_at, word_line, either_line, type_line, float_size, separator, is_floats, is_row, row_size, point_key, ray_key, row_at, row_line, line_at}
use Rattle.std.specs.Prelude.{Option, Some, None, is_some}
use Rattle.grammar.specs.declared.reader.Line.{Line}
use Rattle.grammar.specs.declared.reader.Field.TheVariants as field
use Rattle.grammar.specs.declared.reader.Kind.{Kind}
use Rattle.grammar.specs.declared.reader.Kind.TheVariants as kind
use Rattle.grammar.specs.declared.reader.Row.TheVariants as row

-- no LF among the n bytes from a place on
abbrev pub Plain : List ℕ → ℕ → ℕ → Type 0
Plain l at n = (i : ℕ) → i < n → byte_is l (at + i) line_feed ≡ false

-- one line stands from a place to another: n bytes, and LF
abbrev pub IsLine : List ℕ → ℕ → ℕ → Type 0
IsLine l at next = (n : ℕ) × (next ≡ at + n + 1) × Plain l at n × (byte_is l (at + n) line_feed ≡ true)

plain_one : (l : List ℕ) (at : ℕ) → byte_is l at line_feed ≡ false → Plain l at 1
plain_one l at e zero h = ap (λ (k : ℕ). byte_is l k line_feed) (add-zero at) ∙ e
plain_one l at e (suc i) h = absurd (omega arith)

plain_append : (l : List ℕ) (at m n : ℕ) → Plain l at m → Plain l (at + m) n → Plain l at (m + n)
plain_append l at m n p q i h = go (ltb i m) refl
  where
    go : (b : Bool) → ltb i m ≡ b → byte_is l (at + i) line_feed ≡ false
    go true e = p i (ltb-true i m e)
    go false e =
        let k : (j : ℕ) × (i ≡ m + j) = (i - m, omega (arith, ltb-false i m e)) in
        let place : at + m + k.0 ≡ at + i = omega (arith, k.1) in
        ap (λ (x : ℕ). byte_is l x line_feed) (sym place) ∙ q k.0 (omega (arith, k.1))

line_append : (l : List ℕ) (at m next : ℕ) → Plain l at m → IsLine l (at + m) next → IsLine l at next
line_append l at m next p h = (
  m + h.0,
  omega (arith, h.1),
  plain_append l at m h.0 p h.2,
  ap (λ (x : ℕ). byte_is l x line_feed) (sym (add_assoc at m h.0)) ∙ h.3,
)

-- ---- bytes that are no LF

byte_other : (l : List ℕ) (i b : ℕ) → byte_is l i b ≡ true → eqb b line_feed ≡ false → byte_is l i line_feed ≡ false
unfolding byte_is
byte_other l i b e f = rw (eqb-true (get_or l i 0) b ((and-eq-true_iff (ltb i (length l)) (eqb (get_or l i 0) b)).0 e).1, f) (and-false (ltb i (length l)))

no_digit : (b : ℕ) → b ≡ line_feed → digit_of b ≡ None
unfolding digit_of
no_digit b e = rw e

digit_plain : (l : List ℕ) (i : ℕ) → is_some (digit_at l i) ≡ true → byte_is l i line_feed ≡ false
unfolding digit_at byte_is
digit_plain l i h = go (ltb i (length l)) (eqb (get_or l i 0) line_feed) refl h
  where
    go : (b d : Bool) → eqb (get_or l i 0) line_feed ≡ d → is_some (cond b (digit_of (get_or l i 0)) None) ≡ true → b && d ≡ false
    go true true e h = absurd (false≢true (sym (ap is_some (no_digit (get_or l i 0) (eqb-true _ _ e))) ∙ h))
    go true false e h = refl
    go false d e h = refl

word_plain : (l : List ℕ) (at : ℕ) → is_word l at ≡ true → Plain l at 8
word_plain l at e i h = digit_plain l (at + i) (word_digits l at e i h)

decimal_plain : (l : List ℕ) (i d : ℕ) → decimal_digit_at l i ≡ Some d → byte_is l i line_feed ≡ false
unfolding decimal_digit_at
decimal_plain l i d = go (digit_at l i) refl
  where
    go : (x : Option ℕ) → digit_at l i ≡ x → x >>= (λ d. cond (ltb d 10) (Some d) None) ≡ Some d → byte_is l i line_feed ≡ false
    go (Some n) e h = digit_plain l i (ap is_some e)
    go None e h = cc

-- ---- keys and whole lines

-- no LF among the first n bytes of a word
abbrev pub NoFeed : List ℕ → ℕ → Type 0
NoFeed w n = all_below n (λ i. not (eqb (get_or w i 0) line_feed)) ≡ true

stands_plain : (l : List ℕ) (at : ℕ) (w : List ℕ) (n : ℕ) → n < length w + 1 → stands_at l at w ≡ true → NoFeed w n → Plain l at n
unfolding stands_at
stands_plain l at w n h e f i s = byte_other l (at + i) (get_or w i 0) (all-at (length w) _ e i (omega arith)) (not-true _ (all-at n _ f i s))

stands_line : (l : List ℕ) (at : ℕ) (w : List ℕ) (n : ℕ) → length w ≡ n + 1 → get_or w n 0 ≡ line_feed → NoFeed w n → stands_at l at w ≡ true → IsLine l at (at + length w)
unfolding stands_at
stands_line l at w n q z f e = (
  n,
  omega arith,
  stands_plain l at w n (omega arith) e f,
  ap (λ (b : ℕ). byte_is l (at + n) b) (sym z) ∙ all-at (length w) _ e n (omega arith),
)

-- ---- the lines

-- a line that is right is one
abbrev pub Ends : List ℕ → ℕ → Option Line → Type 0
Ends l at (Some line) = IsLine l at line.next
Ends l at None = Unit {0}

ends-cond : (l : List ℕ) (at : ℕ) (b : Bool) (x y : Option Line) → (b ≡ true → Ends l at x) → Ends l at y → Ends l at (cond b x y)
ends-cond l at true x y h g = h refl
ends-cond l at false x y h g = g

ends-behind : (l : List ℕ) (at m : ℕ) (x : Option Line) → Plain l at m → Ends l (at + m) x → Ends l at x
ends-behind l at m (Some line) p h = line_append l at m line.next p h
ends-behind l at m None p h = tt

decimal_ends : (l : List ℕ) (at : ℕ) → Ends l at (decimal_at l at)
unfolding decimal_at
decimal_ends l at = go (decimal_digit_at l at) (decimal_digit_at l (at + 1)) refl refl
  where
    go : (x y : Option ℕ) → decimal_digit_at l at ≡ x → decimal_digit_at l (at + 1) ≡ y
        → Ends l at (x >>= (λ a. cond (byte_is l (at + 1) line_feed) (right a (at + 2)) (y >>= (λ b. cond (byte_is l (at + 2) line_feed) (right (a * 10 + b) (at + 3)) None))))
    go (Some a) (Some b) e f =
        ends-cond l at (byte_is l (at + 1) line_feed) (right a (at + 2)) _ (λ h. (1, omega arith, plain_one l at (decimal_plain l at a e), h))
        (ends-cond l at (byte_is l (at + 2) line_feed) (right (a * 10 + b) (at + 3)) None
        (λ h. (2, omega arith, plain_append l at 1 1 (plain_one l at (decimal_plain l at a e)) (plain_one l (at + 1) (decimal_plain l (at + 1) b f)), h)) tt)
    go (Some a) None e f = ends-cond l at (byte_is l (at + 1) line_feed) (right a (at + 2)) None (λ h. (1, omega arith, plain_one l at (decimal_plain l at a e), h)) tt
    go None y e f = tt

decimal_line_ends : (l : List ℕ) (at : ℕ) (key : List ℕ) → NoFeed key (length key) → Ends l at (decimal_line l at key)
unfolding decimal_line
decimal_line_ends l at key f = ends-cond l at (stands_at l at key) (decimal_at l (at + length key)) None (λ e. ends-behind l at (length key) (decimal_at l (at + length key)) (stands_plain l at key (length key) (omega arith) e f) (decimal_ends l (at + length key))) tt

word_line_ends : (l : List ℕ) (at : ℕ) (key : List ℕ) → NoFeed key (length key) → Ends l at (word_line l at key)
unfolding word_line word_line_at
word_line_ends l at key f = ends-cond l at (stands_at l at key) (word_line_at l (at + length key)) None (λ e. ends-behind l at (length key) (word_line_at l (at + length key)) (stands_plain l at key (length key) (omega arith) e f) (word (at + length key))) tt
  where
    word : (from : ℕ) → Ends l from (word_at l from >>= (λ w. cond (byte_is l (from + 8) line_feed) (right w (from + 9)) None))
    word from = go (word_at l from) refl
      where
        go : (x : Option ℕ) → word_at l from ≡ x → Ends l from (x >>= (λ w. cond (byte_is l (from + 8) line_feed) (right w (from + 9)) None))
        go (Some w) e = ends-cond l from (byte_is l (from + 8) line_feed) (right w (from + 9)) None (λ h. (8, omega arith, word_plain l from (unfold is_word in ap is_some e), h)) tt
        go None e = tt

-- a word that is a whole line
abbrev IsWhole : List ℕ → ℕ → Type 0
IsWhole w n = (length w ≡ n + 1) × (get_or w n 0 ≡ line_feed) × NoFeed w n

either-ends : (l : List ℕ) (at : ℕ) (v w : List ℕ) (m n : ℕ) → IsWhole v m → IsWhole w n → Ends l at (either_line l at v w)
unfolding either_line
either-ends l at v w m n f g =
    ends-cond l at (stands_at l at v) _ _ (stands_line l at v m f.0 f.1 f.2) (ends-cond l at (stands_at l at w) _ None (stands_line l at w n g.0 g.1 g.2) tt)

type_ends : (l : List ℕ) (at : ℕ) → Ends l at (type_line l at)
unfolding type_line ascii all_below
type_ends l at =
    ends-cond l at (stands_at l at (ascii "type=cylinder\n")) _ _ (stands_line l at (ascii "type=cylinder\n") 13 refl refl refl)
    (either-ends l at (ascii "type=flat\n") (ascii "type=ribbon\n") 9 11 (refl, refl, refl) (refl, refl, refl))

-- ---- rows

-- LF stands behind the last float, and a comma behind the others
last_separator : (n : ℕ) → separator (suc n) n ≡ line_feed
unfolding separator
last_separator n = ap (λ (b : Bool). cond b line_feed comma) (eq-eqb (n + 1) (suc n) (omega arith))

inner_separator : (n i : ℕ) → i + 1 < n → separator n i ≡ comma
unfolding separator
inner_separator n i h = ap (λ (b : Bool). cond b line_feed comma) (ne_eqb (i + 1) n (λ q. omega arith))

module _ (l : List ℕ) (at n : ℕ) (e : is_floats l at n ≡ true) where
  -- float i, and what stands behind it
  float_is : (i : ℕ) → i < n → (is_word l (at + i * float_size) ≡ true) × (byte_is l (at + i * float_size + 8) (separator n i) ≡ true)
  unfolding is_floats
  float_is i h = (and-eq-true_iff (is_word l (at + i * float_size)) (byte_is l (at + i * float_size + 8) (separator n i))).0 (all-at n _ e i h)

  floats_plain : (i : ℕ) → i < n → Plain l at (i * float_size + 8)
  floats_plain zero h = subst (λ (k : ℕ). Plain l k 8) (let p : at + 0 * float_size ≡ at = omega arith in p) (word_plain l _ (float_is 0 h).0)
  floats_plain (suc i) h =
      let behind = subst (λ (b : ℕ). byte_is l (at + i * float_size + 8) b ≡ true) (inner_separator n i (omega arith)) (float_is i (omega arith)).1 in
      let comma_there : byte_is l (at + (i * float_size + 8)) comma ≡ true = subst (λ (k : ℕ). byte_is l k comma ≡ true) (add_assoc at (i * float_size) 8) behind in
      let place : at + suc i * float_size ≡ at + (i * float_size + 8 + 1) = omega arith in
      let size : i * float_size + 8 + 1 + 8 ≡ suc i * float_size + 8 = omega arith in
      subst (Plain l at) size
      (plain_append l at (i * float_size + 8 + 1) 8 (plain_append l at (i * float_size + 8) 1 (floats_plain i (omega arith)) (plain_one l _ (byte_other l _ comma comma_there refl)))
      (subst (λ (k : ℕ). Plain l k 8) place (word_plain l _ (float_is (suc i) h).0)))

floats_line : (l : List ℕ) (at n : ℕ) → 0 < n → is_floats l at n ≡ true → IsLine l at (at + n * float_size)
floats_line l at zero h e = absurd (not-suc-le-zero h)
floats_line l at (suc n) h e =
    let last = subst (λ (b : ℕ). byte_is l (at + n * float_size + 8) b ≡ true) (last_separator n) (float_is l at (suc n) e n (omega arith)).1 in
    (n * float_size + 8, omega arith, floats_plain l at (suc n) e n (omega arith), subst (λ (k : ℕ). byte_is l k line_feed ≡ true) (add_assoc at (n * float_size) 8) last)

-- a row is one line
pub row_line_lem : (l : List ℕ) (at : ℕ) (key : List ℕ) (n : ℕ) → NoFeed key (length key) → 0 < n → is_row l at key n ≡ true → IsLine l at (at + row_size key n)
unfolding is_row row_size
row_line_lem l at key n f h e =
    let g = (and-eq-true_iff (stands_at l at key) (is_floats l (at + length key) n)).0 e in
    subst (IsLine l at) (add_assoc at (length key) (n * float_size)) (line_append l at (length key) _ (stands_plain l at key (length key) (omega arith) g.0 f) (floats_line l (at + length key) n h g.1))

row_ends : (l : List ℕ) (at : ℕ) (key : List ℕ) (n : ℕ) → NoFeed key (length key) → 0 < n → Ends l at (row_at l at key n)
unfolding row_at
row_ends l at key n f p = ends-cond l at (is_row l at key n) (right n (at + row_size key n)) None (row_line_lem l at key n f p) tt

-- THE LAW: a line of any kind that is right is one line
pub line_ends : (l : List ℕ) (kind : Kind) (at : ℕ) → Ends l at (line_at l kind at)
unfolding row_line ascii all_below
line_ends l (kind.Field field.Degree) at = decimal_line_ends l at (ascii "degree=") refl
line_ends l (kind.Field field.Basis) at = either-ends l at (ascii "basis=bezier\n") (ascii "basis=bspline\n") 12 13 (refl, refl, refl) (refl, refl, refl)
line_ends l (kind.Field field.«Type») at = type_ends l at
line_ends l (kind.Field field.Width0) at = word_line_ends l at (ascii "width0=") refl
line_ends l (kind.Field field.Width1) at = word_line_ends l at (ascii "width1=") refl
line_ends l (kind.Field field.SplitDepth) at = decimal_line_ends l at (ascii "splitdepth=") refl
line_ends l (kind.Field field.Reverse) at = either-ends l at (ascii "reverse=0\n") (ascii "reverse=1\n") 9 9 (refl, refl, refl) (refl, refl, refl)
line_ends l (kind.Row row.Point) at = row_ends l at point_key point_floats refl (lit< tt)
line_ends l (kind.Row row.Beam) at = row_ends l at ray_key ray_floats refl (lit< tt)
