-- Refusals: a table of tests, each with its reason, in the order in which they are told. Definitions only.
use Rattle.std.specs.Prelude.{ℕ, Bool, cond, List, [], ◌∷◌, Option, Some, None, Result, Ok, Err}
use Rattle.limits.specs.declared.refusal.Refusal.{Refusal}
use Rattle.limits.specs.declared.refusal.Refusal.TheVariants.{Degree, Basis, PointCount, «Type», SplitDepth, TooMany, PointsOrWidths, ListTooShort, Curve, Matrix, Ray, ZeroWeight, NoFrame, ZeroDerivative, ZeroAcross, ZeroNormal, WrongLine, SheetTooLong, ListLength, Rate, Price, EqualNeighbours, SetFull, NumberPresent, NumberMissing}

-- the number of a refusal
abbrev pub number_of : Refusal → ℕ
number_of Degree = 1
number_of Basis = 2
number_of PointCount = 3
number_of «Type» = 4
number_of SplitDepth = 5
number_of TooMany = 6
number_of PointsOrWidths = 7
number_of ListTooShort = 8
number_of Curve = 9
number_of Matrix = 10
number_of Ray = 11
number_of ZeroWeight = 12
number_of NoFrame = 13
number_of ZeroDerivative = 14
number_of ZeroAcross = 15
number_of ZeroNormal = 16
number_of WrongLine = 17
number_of SheetTooLong = 18
number_of ListLength = 19
number_of Rate = 20
number_of Price = 21
number_of EqualNeighbours = 22
number_of SetFull = 23
number_of NumberPresent = 24
number_of NumberMissing = 25

abbrev pub Table : Type 0
Table = List (Bool × Refusal)

-- the reason of the first test that holds, if one does
unfoldable pub first_of : Table → Option Refusal
first_of [] = None
first_of (row ∷ rest) = cond row.0 (Some row.1) (first_of rest)

-- the answer, or what a refusal makes
abbrev pub told_by : {A : Type 0} → (Refusal → A) → Option Refusal → A → A
told_by refused None answer = answer
told_by refused (Some reason) answer = refused reason

-- the answer, or the refusal
abbrev pub told : {A : Type 0} → Option Refusal → Result A Refusal → Result A Refusal
told reason answer = told_by Err reason answer

-- 0, or the refusal's number
abbrev pub status_of : {A : Type 0} → Result A Refusal → ℕ
status_of (Ok value) = 0
status_of (Err reason) = number_of reason
