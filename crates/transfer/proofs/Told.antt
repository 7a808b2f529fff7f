-- What is written of a failure, a part behind another. Assumes nothing.
use Rattle.std.proofs.Common.{ℕ, ◌≤◌, List, [], ◌∷◌, ◌++◌, length, take, length-take, refl, sym, ap, subst, ◌∙◌, arith}
use Rattle.std.specs.Prelude.{Option, codes}
use Rattle.std.specs.Io.KnownBytes.{Appends}
use Rattle.std.proofs.KnownBytes.{Appends-nil, Appends-trans}
use Rattle.std.proofs.Math.Seq.{take-nil}
use mathlib.Core.List.{append_assoc}
use Rattle.transfer.specs.Told.{Prefixes, Says, line_of}

-- the system's text, of the bytes where it was put
pub length-why : (n : ℕ) (printed : List ℕ) → n ≤ 256 → length (take n printed) ≤ 256
length-why n printed h = omega (arith, length-take n printed)

says_more : (a b c : Option (List ℕ)) (k : ℕ) (part : List ℕ) (parts : List (List ℕ)) → Appends a b (take k part) → Says parts b c → Says (part ∷ parts) a c
says_more a b c k part parts p (bs, prefixes, q) = (take k part ++ bs, (k, bs, refl, prefixes), Appends-trans a b c (take k part) bs p q)

pub says_one : (a b : Option (List ℕ)) (k : ℕ) (part : List ℕ) → Appends a b (take k part) → Says (part ∷ []) a b
says_one a b k part p = says_more a b b k part [] p ([], refl, Appends-nil b)

pub says_four : (a b c d e : Option (List ℕ)) (i j k l : ℕ) (s t u v : List ℕ) → Appends a b (take i s) → Appends b c (take j t) → Appends c d (take k u) → Appends d e (take l v) → Says (s ∷ t ∷ u ∷ v ∷ []) a e
says_four a b c d e i j k l s t u v p q r end =
    says_more a b e i s (t ∷ u ∷ v ∷ []) p (says_more b c e j t (u ∷ v ∷ []) q (says_more c d e k u (v ∷ []) r (says_one d e l v end)))

pub says_line : (a b c d e : Option (List ℕ)) (i j k l : ℕ) (what why : List ℕ) → Appends a b (take i what) → Appends b c (take j (codes ": ")) → Appends c d (take k why) → Appends d e (take l (codes "\n"))
    → Says (line_of what why) a e
says_line a b c d e i j k l what why p q r s = says_four a b c d e i j k l what (codes ": ") why (codes "\n") p q r s

prefixes_then : (xs ys : List (List ℕ)) (s t : List ℕ) → Prefixes xs s → Prefixes ys t → Prefixes (xs ++ ys) (s ++ t)
prefixes_then [] ys s t p q = subst (λ (r : List ℕ). Prefixes ys (r ++ t)) (sym p) q
prefixes_then (part ∷ xs) ys s t (k, rest, is, p) q = (k, rest ++ t, ap (λ (r : List ℕ). r ++ t) is ∙ append_assoc (take k part) rest t, prefixes_then xs ys rest t p q)

-- parts behind others
pub says_then : (xs ys : List (List ℕ)) (a b c : Option (List ℕ)) → Says xs a b → Says ys b c → Says (xs ++ ys) a c
says_then xs ys a b c (s, p, u) (t, q, v) = (s ++ t, prefixes_then xs ys s t p q, Appends-trans a b c s t u v)

-- an empty part adds nothing
pub says_behind : (parts : List (List ℕ)) (a b : Option (List ℕ)) → Says ([] ∷ parts) a b → Says parts a b
says_behind parts a b (bs, (k, rest, is, p), q) = (rest, p, subst (λ (r : List ℕ). Appends a b r) (is ∙ ap (λ (t : List ℕ). t ++ rest) (take-nil k)) q)
