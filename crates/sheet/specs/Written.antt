-- The text of a belt sheet as one who writes it down puts it: its numbers, and the bytes for them. Definitions only.
use Rattle.std.specs.Prelude.{ℕ, ◌^◌, ◌<◌, ◌≤◌, cond, List, [], ◌∷◌, ◌++◌, map, ◌≡◌, eqb, Float, length}
use Rattle.std.specs.Float.{binary32}
use Rattle.std.specs.Float.Ieee.{of_bits}
use Rattle.text.specs.Ascii.{ascii}
use Rattle.text.specs.Digits.{decimal_text, hex_text}
use Rattle.geometry.specs.Ray.{ray_floats}
use Rattle.geometry.specs.Point.{point_floats}
use Rattle.sheet.specs.Sheet.{most_rays}
use Rattle.grammar.specs.Grammar.{room_points, point_key, ray_key}
use Rattle.grammar.specs.declared.head.Head.{Head}

-- ---- what is written

-- The numbers of a sheet: basis 0 bezier, 1 bspline; ty 0 flat, 1 ribbon, 2 cylinder; a width, a point's coordinates and a ray's eight
-- floats by their bits.
pub record Text : Type 0 where
  pub degree : ℕ
  pub basis : ℕ
  pub ty : ℕ
  pub width0 : ℕ
  pub width1 : ℕ
  pub splitdepth : ℕ
  pub reverse : ℕ
  pub points : List (List ℕ)
  pub rays : List (List ℕ)

abbrev pub AllOf : {A : Type 0} → (A → Type 0) → List A → Type 0
AllOf P [] = Unit {0}
AllOf P (x ∷ xs) = P x × AllOf P xs

abbrev pub IsWord : ℕ → Type 0
IsWord w = w < 2 ^ 32

-- n words
abbrev pub IsRowOf : ℕ → List ℕ → Type 0
IsRowOf n ws = (length ws ≡ n) × AllOf IsWord ws

-- each number is one that can be written, there is a point, and there are not too many points and rays
pub record IsText (t : Text) : Type 0 where
  pub degree : t.degree < 100
  pub basis : t.basis ≤ 1
  pub ty : t.ty ≤ 2
  pub width0 : IsWord t.width0
  pub width1 : IsWord t.width1
  pub splitdepth : t.splitdepth < 100
  pub reverse : t.reverse ≤ 1
  pub some_point : 0 < length t.points
  pub most-points : length t.points ≤ room_points
  pub most-rays : length t.rays ≤ most_rays
  pub points : AllOf (IsRowOf point_floats) t.points
  pub rays : AllOf (IsRowOf ray_floats) t.rays

-- ---- lines

unfoldable pub basis_of : ℕ → List ℕ
basis_of b = cond (eqb b 0) (ascii "bezier") (ascii "bspline")

unfoldable pub type_of : ℕ → List ℕ
type_of k = cond (eqb k 0) (ascii "flat") (cond (eqb k 1) (ascii "ribbon") (ascii "cylinder"))

unfoldable pub line_of : List ℕ → List ℕ → List ℕ
line_of key value = key ++ value ++ ascii "\n"

-- the seven lines of the head
unfoldable pub head_text : Text → List ℕ
head_text t =
    line_of (ascii "degree=") (decimal_text t.degree)
    ++ line_of (ascii "basis=") (basis_of t.basis)
    ++ line_of (ascii "type=") (type_of t.ty)
    ++ line_of (ascii "width0=") (hex_text t.width0)
    ++ line_of (ascii "width1=") (hex_text t.width1)
    ++ line_of (ascii "splitdepth=") (decimal_text t.splitdepth)
    ++ line_of (ascii "reverse=") (decimal_text t.reverse)

-- words with commas between
unfoldable pub commas : List ℕ → List ℕ
commas [] = []
commas (w ∷ []) = hex_text w
commas (w ∷ v ∷ ws) = hex_text w ++ ascii "," ++ commas (v ∷ ws)

-- a line for each row
unfoldable pub rows_text : List ℕ → List (List ℕ) → List ℕ
rows_text key [] = []
rows_text key (ws ∷ rows) = line_of key (commas ws) ++ rows_text key rows

unfoldable pub text_of : Text → List ℕ
text_of t = head_text t ++ rows_text point_key t.points ++ rows_text ray_key t.rays

-- ---- what it says

-- the floats of all rows, in order
unfoldable pub rows_floats : List (List ℕ) → List Float
rows_floats [] = []
rows_floats (ws ∷ rows) = map (of_bits binary32) ws ++ rows_floats rows

-- its head, which ends at a place
abbrev pub head_at : Text → ℕ → Head
head_at t at = record {
  degree = t.degree;
  basis = t.basis;
  ty = t.ty;
  width0 = t.width0;
  width1 = t.width1;
  splitdepth = t.splitdepth;
  reverse = t.reverse;
  end = at;
}

abbrev pub head_written : Text → Head
head_written t = head_at t (length (head_text t))
