-- The head of a belt sheet that is written is read back. Assumes nothing.
use mathlib.Core.Bool.{Bool, true, false, cond}
use mathlib.Core.List.{List, [], ◌∷◌, ◌++◌, append_assoc}
use mathlib.Core.Path.{◌≡◌, refl, ap, subst, ◌∙◌}
use Prim.Native.Nat.{ℕ, zero, suc, ◌+◌, ◌*◌, ◌/◌, ◌%◌, ◌<◌, ◌≤◌}
use native.Mathlib.Nat.{add_assoc}
use native.Mathlib.Omega.{arith}
use borrow.Author.Tests.{lt-ltb, ltb-true, ltb-false}
use lib.Dec.{eqb, ltb, lit<}
use lib.ListN.{length, get_or, length-append}
use Rattle.text.specs.Ascii.{ascii}
use Rattle.text.specs.Bytes.{stands_at}
use Rattle.text.specs.Digits.{digit_char, decimal_in, decimal_text, hex_text}
use Rattle.text.proofs.Decimal.{decimal_one, decimal_more}
use Rattle.text.proofs.DigitsBack.{digit_no_end, digit_back, digit_here, word_back}
use Rattle.text.proofs.Places.{Reads, reads_next, byte_at, byte_here, stands, stands_not}
use Rattle.grammar.specs.Grammar.{right, decimal_digit_at, decimal_at, decimal_line, word_line_at, word_line, either_line, type_line, line_at}
use Rattle.grammar.specs.Head.{field_at, head_of}
use Rattle.sheet.specs.Written.{Text, IsText, IsWord, basis_of, type_of, line_of, head_text, head_at, head_written}
use Rattle.std.specs.Prelude.{Option, Ok}
use Rattle.grammar.specs.declared.reader.Line.{Line}
use Rattle.grammar.specs.declared.reader.Field.TheVariants as field
use Rattle.grammar.specs.declared.reader.Kind.TheVariants as kind

-- ---- its lines

-- a line that holds v, with r behind it
abbrev Holds : List ℕ → Option Line → ℕ → List ℕ → Type 0
Holds l line v r = (next : ℕ) × (line ≡ right v next) × Reads l next r

-- one or two digits
decimal_two : (n : ℕ) → n < 100 → decimal_text n ≡ cond (ltb n 10) (digit_char n ∷ []) (digit_char (n / 10) ∷ digit_char (n % 10) ∷ [])
decimal_two n h = go (ltb n 10) (ltb-true n 10) (ltb-false n 10)
  where
    go : (b : Bool) → (b ≡ true → n < 10) → (b ≡ false → 10 ≤ n) → decimal_text n ≡ cond b (digit_char n ∷ []) (digit_char (n / 10) ∷ digit_char (n % 10) ∷ [])
    go true f g = decimal_one n (f refl)
    go false f g = decimal_more n (g refl) ∙ ap (λ (s : List ℕ). s ++ (digit_char (n % 10) ∷ [])) (decimal_one (n / 10) (omega arith))

decimal_at_lem : (l : List ℕ) (at n : ℕ) (r : List ℕ) → Reads l at (decimal_text n ++ 10 ∷ r) → n < 100 → Holds l (decimal_at l at) n r
unfolding decimal_at decimal_digit_at
decimal_at_lem l at n r h b = go (ltb n 10) refl (rw (decimal_two n b) at h)
  where
    go : (t : Bool) → ltb n 10 ≡ t → Reads l at (cond t (digit_char n ∷ []) (digit_char (n / 10) ∷ digit_char (n % 10) ∷ []) ++ 10 ∷ r) → Holds l (decimal_at l at) n r
    go true e g = (
      at + 2,
      let x = digit_here l at n (10 ∷ r) g (omega (arith, ltb-true n 10 e)) in
          rw (x, e, byte_at l at (digit_char n ∷ 10 ∷ r) 1 10 g (omega arith)),
      reads_next l at (digit_char n ∷ 10 ∷ []) r g,
    )
    go false e g =
        let w = digit_char (n / 10) ∷ digit_char (n % 10) ∷ 10 ∷ r in
        let x = digit_here l at (n / 10) (digit_char (n % 10) ∷ 10 ∷ r) g (omega arith) in
        let y = digit_back l at w 1 (n % 10) g (omega arith) refl (omega arith) in
        let z = byte_at l at w 1 10 g (omega arith) ∙ digit_no_end (n % 10) (omega arith) in
        let v : n / 10 * 10 + n % 10 ≡ n = omega arith in (
          at + 3,
          rw (x, lt-ltb (n / 10) 10 (omega arith), z, y, lt-ltb (n % 10) 10 (omega arith), byte_at l at w 2 10 g (omega arith), v),
          reads_next l at (digit_char (n / 10) ∷ digit_char (n % 10) ∷ 10 ∷ []) r g,
        )

-- a key, and behind it a value
pub line_key : (l : List ℕ) (at : ℕ) (key value r : List ℕ) → Reads l at (line_of key value ++ r) → (stands_at l at key ≡ true) × Reads l (at + length key) (value ++ 10 ∷ r)
unfolding line_of ascii
line_key l at key value r h =
    let g : Reads l at (key ++ (value ++ 10 ∷ r)) = simp append_assoc at h in
    (stands l at key _ g, reads_next l at key _ g)

decimal_line_lem : (l : List ℕ) (at : ℕ) (key : List ℕ) (n : ℕ) (r : List ℕ) → Reads l at (line_of key (decimal_text n) ++ r) → n < 100 → Holds l (decimal_line l at key) n r
unfolding decimal_line
decimal_line_lem l at key n r h b = let g = line_key l at key (decimal_text n) r h in rw g.0 (decimal_at_lem l (at + length key) n r g.1 b)

word_line_lem : (l : List ℕ) (at : ℕ) (key : List ℕ) (w : ℕ) (r : List ℕ) → Reads l at (line_of key (hex_text w) ++ r) → IsWord w → Holds l (word_line l at key) w r
unfolding word_line word_line_at
word_line_lem l at key w r h b =
    let g = line_key l at key (hex_text w) r h in
    let f = word_back l (at + length key) w (10 ∷ r) g.1 b in
    let n = reads_next l (at + length key + 8) (10 ∷ []) r f.2 in (
      at + length key + 9,
      rw (g.0, f.1, byte_here l (at + length key + 8) 10 r f.2),
      rw (add_assoc (at + length key) 8 1) at n,
    )

either_first : (l : List ℕ) (at : ℕ) (v w r : List ℕ) → Reads l at (v ++ r) → Holds l (either_line l at v w) 0 r
unfolding either_line
either_first l at v w r h = (at + length v, rw (stands l at v r h), reads_next l at v r h)

either_second : (l : List ℕ) (at : ℕ) (v w r : List ℕ) (k : ℕ) → Reads l at (w ++ r) → k < length w → k < length v → eqb (get_or w k 0) (get_or v k 0) ≡ false → Holds l (either_line l at v w) 1 r
unfolding either_line
either_second l at v w r k h s t e = (at + length w, rw (stands_not l at w r v k h s t e, stands l at w r h), reads_next l at w r h)

basis_line : (l : List ℕ) (at b : ℕ) (r : List ℕ) → Reads l at (line_of (ascii "basis=") (basis_of b) ++ r) → b ≤ 1 → Holds l (either_line l at (ascii "basis=bezier\n") (ascii "basis=bspline\n")) b r
unfolding line_of basis_of ascii
basis_line l at zero r h b = either_first l at (ascii "basis=bezier\n") _ r h
basis_line l at (suc zero) r h b = either_second l at (ascii "basis=bezier\n") (ascii "basis=bspline\n") r 7 h (lit< tt) (lit< tt) refl
basis_line l at (suc (suc n)) r h b = absurd (omega arith)

reverse_line : (l : List ℕ) (at b : ℕ) (r : List ℕ) → Reads l at (line_of (ascii "reverse=") (decimal_text b) ++ r) → b ≤ 1 → Holds l (either_line l at (ascii "reverse=0\n") (ascii "reverse=1\n")) b r
unfolding line_of decimal_text decimal_in digit_char ascii
reverse_line l at zero r h b = either_first l at (ascii "reverse=0\n") _ r h
reverse_line l at (suc zero) r h b = either_second l at (ascii "reverse=0\n") (ascii "reverse=1\n") r 8 h (lit< tt) (lit< tt) refl
reverse_line l at (suc (suc n)) r h b = absurd (omega arith)

type_line_lem : (l : List ℕ) (at k : ℕ) (r : List ℕ) → Reads l at (line_of (ascii "type=") (type_of k) ++ r) → k ≤ 2 → Holds l (type_line l at) k r
unfolding type_line line_of type_of ascii
type_line_lem l at zero r h b = rw (stands_not l at (ascii "type=flat\n") r (ascii "type=cylinder\n") 5 h (lit< tt) (lit< tt) refl) (either_first l at (ascii "type=flat\n") _ r h)
type_line_lem l at (suc zero) r h b =
    rw (stands_not l at (ascii "type=ribbon\n") r (ascii "type=cylinder\n") 5 h (lit< tt) (lit< tt) refl) (either_second l at (ascii "type=flat\n") (ascii "type=ribbon\n") r 5 h (lit< tt) (lit< tt) refl)
type_line_lem l at (suc (suc zero)) r h b = (at + 14, rw (stands l at (ascii "type=cylinder\n") r h), reads_next l at (ascii "type=cylinder\n") r h)
type_line_lem l at (suc (suc (suc n))) r h b = absurd (omega arith)

-- ---- the whole of it

-- the seven lines, each from where the one before it ends
head_is :
    (l : List ℕ) (t : Text) (a b c d e f g : ℕ)
    → line_at l (kind.Field field.Degree) 0 ≡ right t.degree a
    → line_at l (kind.Field field.Basis) a ≡ right t.basis b
    → line_at l (kind.Field field.«Type») b ≡ right t.ty c
    → line_at l (kind.Field field.Width0) c ≡ right t.width0 d
    → line_at l (kind.Field field.Width1) d ≡ right t.width1 e
    → line_at l (kind.Field field.SplitDepth) e ≡ right t.splitdepth f
    → line_at l (kind.Field field.Reverse) f ≡ right t.reverse g
    → head_of l ≡ Ok (head_at t g)
unfolding head_of field_at
head_is l t a b c d e f g p q r s u v w = rw (p, q, r, s, u, v, w)

head_at_lem : (l : List ℕ) (t : Text) (r : List ℕ) → IsText t → Reads l 0 (head_text t ++ r) → (next : ℕ) × (head_of l ≡ Ok (head_at t next)) × Reads l next r
unfolding head_text
head_at_lem l t r i h =
    let a = decimal_line_lem l 0 (ascii "degree=") t.degree _ (simp append_assoc at h) i.degree in
    let b = basis_line l a.0 t.basis _ a.2 i.basis in
    let c = type_line_lem l b.0 t.ty _ b.2 i.ty in
    let d = word_line_lem l c.0 (ascii "width0=") t.width0 _ c.2 i.width0 in
    let e = word_line_lem l d.0 (ascii "width1=") t.width1 _ d.2 i.width1 in
    let f = decimal_line_lem l e.0 (ascii "splitdepth=") t.splitdepth _ e.2 i.splitdepth in
    let g = reverse_line l f.0 t.reverse r f.2 i.reverse in (
      g.0,
      head_is l t a.0 b.0 c.0 d.0 e.0 f.0 g.0 a.1 b.1 c.1 d.1 e.1 f.1 g.1,
      g.2,
    )

-- THE HEAD: its fields are those that were written, and the place behind it is behind its text
pub head_back : (l : List ℕ) (t : Text) (r : List ℕ) → IsText t → Reads l 0 (head_text t ++ r) → (head_of l ≡ Ok (head_written t)) × Reads l (length (head_text t)) r
head_back l t r i h =
    let a = head_at_lem l t r i h in
    let e : a.0 ≡ length (head_text t) = omega (arith, h.1, a.2.1, length-append (head_text t) r) in
    (a.1 ∙ ap (λ (k : ℕ). Ok (head_at t k)) e, subst (λ (k : ℕ). Reads l k r) e a.2)
