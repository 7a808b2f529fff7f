-- What is written is read back: the round trip of a belt sheet's text. Assumes nothing.
use mathlib.Core.Bool.{true}
use mathlib.Core.List.{List, [], ◌∷◌, ◌++◌, append_assoc, append-nil}
use mathlib.Core.Path.{◌≡◌, refl, subst}
use Prim.Native.Nat.{ℕ, ◌+◌, ◌*◌, ◌≤◌}
use native.Mathlib.Omega.{arith}
use borrow.Author.Tests.{lt-ltb, le-ltb, eq-eqb}
use lib.Dec.{lit<, lit≤}
use lib.Ieee.{Float, binary32, of_bits}
use lib.ListN.{length}
use Rattle.create.specs.Create.{params_of, created_of, list_after}
use Rattle.create.specs.declared.create.Params.{Params}
use Rattle.geometry.specs.Ray.{ray_floats}
use Rattle.limits.specs.List.{over}
use Rattle.text.specs.Ascii.{ascii}
use Rattle.text.specs.Digits.{digit_char, decimal_in, decimal_text, four_text, hex_text}
use Rattle.text.proofs.Places.{Reads, reads_start}
use Rattle.grammar.specs.Grammar.{row_size, point_key, ray_key, room_points, most_bytes}
use Rattle.geometry.specs.Point.{point_floats}
use Rattle.grammar.specs.Head.{head_of}
use Rattle.sheet.specs.Sheet.{most_rays, rays_from, rays_read, point_count, rays_at, ray_count, right_end, is_whole, points_of, rays_of, no_rays, params_in, with_curves, sheet_within, sheet_of, list_within, list_of}
use Rattle.sheet.specs.Written.{Text, IsText, IsWord, IsRowOf, basis_of, type_of, line_of, head_text, commas, rows_text, text_of, rows_floats, head_at, head_written}
use Rattle.std.specs.Prelude.{Result, Ok}
use Rattle.grammar.specs.declared.head.WrongLine.{WrongLine}
use Rattle.grammar.specs.declared.head.Head.{Head}
use Rattle.sheet.proofs.HeadBack.{head_back}
use Rattle.sheet.proofs.RowsBack.{rows_back, end_no_row, ray_no_point, rows-count}

-- What is read of a text l with the numbers t: all that was written.
pub record ReadBack (t : Text) (l : List ℕ) : Type 0 where
  pub head : head_of l ≡ Ok (head_written t)
  pub point-count : point_count l (head_of l) ≡ length t.points
  pub ray-count : ray_count l (head_of l) ≡ length t.rays
  pub whole : is_whole l (head_of l) ≡ true
  pub points : points_of l (head_of l) ≡ rows_floats t.points
  pub rays : rays_of l (head_of l) ≡ rows_floats t.rays

-- points and rays behind a head that ends at a place
rows_whole :
    (l : List ℕ) (at : ℕ) (t : Text)
    → IsText t
    → Reads l at (rows_text point_key t.points ++ rows_text ray_key t.rays)
    → (c : Result Head WrongLine)
    → c ≡ Ok (head_at t at)
    → (point_count l c ≡ length t.points) × (ray_count l c ≡ length t.rays) × (is_whole l c ≡ true) × (points_of l c ≡ rows_floats t.points) × (rays_of l c ≡ rows_floats t.rays)
unfolding point_count rays_at rays_from ray_count right_end is_whole points_of rays_read rays_of row_size ascii
rows_whole l at t i h c q =
    let x = rows_back l at point_key point_floats t.points (rows_text ray_key t.rays) h i.points (lit< tt) in
    let p = rows-count l at point_key point_floats t.points room_points x.0 i.most-points (ray_no_point l _ t.rays x.2) in
    let y = rows_back l (at + length t.points * row_size point_key point_floats) ray_key ray_floats t.rays [] (rw (append-nil (rows_text ray_key t.rays)) x.2) i.rays (lit< tt) in
    let r = rows-count l (at + length t.points * row_size point_key point_floats) ray_key ray_floats t.rays most_rays y.0 i.most-rays (end_no_row l _ ray_key ray_floats y.2 (lit< tt)) in
    let s = lt-ltb 0 (length t.points) i.some_point in
    rw (q, p, s, r) (
      refl,
      refl,
      eq-eqb (at + length t.points * row_size point_key point_floats + length t.rays * row_size ray_key ray_floats) (length l) (omega (arith, y.2.1)),
      x.1,
      y.1,
    )

-- WHAT WAS WRITTEN IS READ BACK
pub read_back : (t : Text) → IsText t → ReadBack t (text_of t)
unfolding text_of
read_back t i =
    let l = text_of t in
    let h = head_back l t _ i (subst (Reads l 0) (append_assoc (head_text t) (rows_text point_key t.points) (rows_text ray_key t.rays)) (reads_start l)) in
    let r = rows_whole l (length (head_text t)) t i h.1 (head_of l) h.0 in
    record { head = h.0; point-count = r.0; ray-count = r.1; whole = r.2; points = r.3; rays = r.4 }

-- the parameters that were written
abbrev pub params_written : Text → Params
params_written t = params_of t.degree t.basis t.ty (of_bits binary32 t.width0) (of_bits binary32 t.width1) t.splitdepth

-- the reply to a text that is not too long, and the list afterwards: those of the curves with what was written
pub sheet_back :
    (t : Text)
    → IsText t
    → length (text_of t) ≤ most_bytes
    → (room : ℕ)
    → sheet_of (text_of t) room ≡ with_curves (head_written t) (length t.rays) (over no_rays 0 (rows_floats t.rays)) (created_of (rows_floats t.points) (params_written t) room)
unfolding sheet_of sheet_within params_in
sheet_back t i s room =
    let b = read_back t i in
    let whole = rw b.head at b.whole in
    let rays = rw b.head at b.ray-count in
    let points = rw b.head at b.points in
    let floats = rw b.head at b.rays in
    rw (le-ltb most_bytes (length (text_of t)) s, b.head, whole, rays, points, floats)

pub list_back : (t : Text) → IsText t → length (text_of t) ≤ most_bytes → (list : List Float) → list_of (text_of t) list ≡ list_after (rows_floats t.points) (params_written t) list
unfolding list_of list_within params_in
list_back t i s list =
    let b = read_back t i in
    let whole = rw b.head at b.whole in
    let points = rw b.head at b.points in
    rw (le-ltb most_bytes (length (text_of t)) s, b.head, whole, points)

-- ---- an example: it can be written, and these are its bytes

abbrev example : Text
example = record {
  degree = 3;
  basis = 0;
  ty = 0;
  width0 = 0x3f800000;
  width1 = 0x3f800000;
  splitdepth = 0;
  reverse = 0;
  points = (0xc0400000 ∷ 0 ∷ 0x40800000 ∷ []) ∷ (0xbf800000 ∷ 0 ∷ 0x40800000 ∷ []) ∷ (0x3f800000 ∷ 0 ∷ 0x40800000 ∷ []) ∷ (0x40400000 ∷ 0 ∷ 0x40800000 ∷ []) ∷ [];
  rays = (0 ∷ 0 ∷ 0 ∷ 0 ∷ 0 ∷ 0x3f800000 ∷ 0x7f800000 ∷ 0 ∷ []) ∷ [];
}

three : {a b c : ℕ} → IsWord a → IsWord b → IsWord c → IsRowOf 3 (a ∷ b ∷ c ∷ [])
three x y z = (refl, (x, (y, (z, tt))))

example_is : IsText example
example_is =
    record {
      degree = lit< tt;
      basis = lit≤ tt;
      ty = lit≤ tt;
      width0 = lit< tt;
      width1 = lit< tt;
      splitdepth = lit< tt;
      reverse = lit≤ tt;
      some_point = lit< tt;
      most-points = lit≤ tt;
      most-rays = lit≤ tt;
      points = (three (lit< tt) (lit< tt) (lit< tt), (three (lit< tt) (lit< tt) (lit< tt), (three (lit< tt) (lit< tt) (lit< tt), (three (lit< tt) (lit< tt) (lit< tt), tt))));
      rays = ((refl, (lit< tt, (lit< tt, (lit< tt, (lit< tt, (lit< tt, (lit< tt, (lit< tt, (lit< tt, tt))))))))), tt);
    }

example_text :
    text_of example
    ≡ ascii
    "degree=3\nbasis=bezier\ntype=flat\nwidth0=3f800000\nwidth1=3f800000\nsplitdepth=0\nreverse=0\npoint=c0400000,00000000,40800000\npoint=bf800000,00000000,40800000\npoint=3f800000,00000000,40800000\npoint=40400000,00000000,40800000\nbeam=00000000,00000000,00000000,00000000,00000000,3f800000,7f800000,00000000\n"
unfolding text_of head_text rows_text commas line_of basis_of type_of decimal_text decimal_in hex_text four_text digit_char ascii
example_text = refl
