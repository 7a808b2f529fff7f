-- The lines that the program `beltbeam` prints, as bytes. Definitions only.
use Rattle.std.specs.Prelude.{ℕ, List, ◌++◌, Float, Result, Ok, Err}
use Rattle.intersect.specs.declared.Intersection.{Intersection}
use Rattle.intersect.specs.declared.Intersection.TheVariants.{Hit, Miss}
use Rattle.limits.specs.Refused.{number_of}
use Rattle.limits.specs.declared.refusal.Refusal.{Refusal}
use Rattle.text.specs.Ascii.{ascii}
use Rattle.text.specs.Digits.{decimal_text, float_text}

-- a key, and behind it a number or a float's bits
unfoldable pub number_text : List ℕ → ℕ → List ℕ
number_text key n = key ++ decimal_text n

unfoldable pub bits_text : List ℕ → Float → List ℕ
bits_text key x = key ++ float_text x

-- ---- the lines

unfoldable pub pieces_text : ℕ → List ℕ
pieces_text n = number_text (ascii "pieces=") n ++ ascii "\n"

-- beam=0 piece=0
unfoldable pub place_text : ℕ → ℕ → List ℕ
place_text ray piece = number_text (ascii "beam=") ray ++ number_text (ascii " piece=") piece

-- t=40800000 u=3f000000 v=3f000000
unfoldable pub found_text : Float → Float → Float → List ℕ
found_text t u v = bits_text (ascii " t=") t ++ bits_text (ascii " u=") u ++ bits_text (ascii " v=") v

unfoldable pub hit_text : ℕ → ℕ → ℕ → Float → Float → Float → List ℕ
hit_text ray piece looked t u v = place_text ray piece ++ number_text (ascii " looked=") looked ++ ascii " hit=1" ++ found_text t u v ++ ascii "\n"

unfoldable pub miss_text : ℕ → ℕ → ℕ → List ℕ
miss_text ray piece looked = place_text ray piece ++ number_text (ascii " looked=") looked ++ ascii " hit=0\n"

unfoldable pub refused_text : ℕ → ℕ → ℕ → List ℕ
refused_text ray piece number = place_text ray piece ++ number_text (ascii " refused=") number ++ ascii "\n"

-- the line of an answer
abbrev pub answer_text : ℕ → ℕ → Result Intersection Refusal → List ℕ
answer_text ray piece (Ok (Hit h looked)) = hit_text ray piece looked h.t_hit h.u h.v
answer_text ray piece (Ok (Miss looked)) = miss_text ray piece looked
answer_text ray piece (Err reason) = refused_text ray piece (number_of reason)

-- a refused sheet
unfoldable pub refused_sheet_text : ℕ → ℕ → List ℕ
refused_sheet_text number line = number_text (ascii "refused=") number ++ number_text (ascii " line=") line ++ ascii "\n"

-- no line has more bytes: its keys and line feed have 36 bytes, three numbers up to ten digits each, and three floats eight
abbrev pub longest : ℕ
longest = 90
