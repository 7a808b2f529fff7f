-- The marked examples M1 to M13, as one list of instances: what a definition gives, and what it should. Definitions only.
use Rattle.std.specs.Prelude.{ℕ, ◌*◌, List, [], ◌∷◌, Option, Some, None, Result, pos, Float, get_or, replicate}
use Rattle.std.specs.Result.{result_ok}
use Rattle.std.specs.Float.{nan, binary32}
use Rattle.std.specs.Float.Ieee.{of_int, of_bits, to_bits}
use Rattle.float.specs.Arith.{0f, 1f, 3f, 6f}
use Rattle.limits.specs.List.{up_to}
use Rattle.limits.specs.Refused.{status_of}
use Rattle.limits.specs.declared.refusal.Refusal.{Refusal}
use Rattle.curve.specs.Layout.{floats, p1_at, p2_at}
use Rattle.create.specs.Create.{most_curves, params_of, created_of, list_after}
use Rattle.overlap.specs.Depth.{depth_at}

-- ---- M1 to M7

-- an answer in numbers: 0 and how many curves, or the refusal
abbrev pub listed : Option ℕ → List ℕ
listed (Some n) = n ∷ []
listed None = []

abbrev pub numbers_of : Result ℕ Refusal → List ℕ
numbers_of a = status_of a ∷ listed (result_ok a)

-- the points (0, 0, 0), (1, 0, 0), .. up to (n - 1, 0, 0): no two neighbours are equal
abbrev pub row_of_points : ℕ → List Float
row_of_points n = up_to (λ i. of_int binary32 (pos i) ∷ 0f ∷ 0f ∷ []) n

-- what n such points are answered, in a list with room for the most curves
abbrev pub reply_to : ℕ → ℕ → ℕ → ℕ → List ℕ
reply_to n degree basis splitdepth = numbers_of (created_of (row_of_points n) (params_of degree basis 0 1f 1f splitdepth) (most_curves * floats))

-- ---- M8

-- the quadratic Bezier curve x = 0, 3, 6, in a list for one curve
abbrev pub quadratic : List Float
quadratic = list_after (0f ∷ 0f ∷ 0f ∷ 3f ∷ 0f ∷ 0f ∷ 6f ∷ 0f ∷ 0f ∷ []) (params_of 2 0 0 1f 1f 0) (replicate floats 0f)

-- the x of its inner points
abbrev pub inner_x : List ℕ
inner_x = to_bits binary32 (get_or quadratic p1_at nan) ∷ to_bits binary32 (get_or quadratic p2_at nan) ∷ []

-- ---- M9 to M13

-- the depth for v's bits
abbrev pub depth_for : ℕ → List ℕ
depth_for bits = depth_at (of_bits binary32 bits) ∷ []

-- ---- the list

abbrev pub instances : List (List ℕ × List ℕ)
instances =
    (reply_to 1 3 0 0, 0 ∷ 0 ∷ [])  -- M1
    ∷ (reply_to 5 3 0 0, 3 ∷ [])  -- M2
    ∷ (reply_to 7 3 0 0, 0 ∷ 2 ∷ [])  -- M3
    ∷ (reply_to 0 2 0 0, 3 ∷ [])  -- M4
    ∷ (reply_to 3 3 1 0, 3 ∷ [])  -- M5
    ∷ (reply_to 4 3 1 0, 0 ∷ 1 ∷ [])  -- M6
    ∷ (reply_to 7 3 0 10, 6 ∷ [])  -- M7
    ∷ (inner_x, 0x4000_0000 ∷ 0x4080_0000 ∷ [])  -- M8
    ∷ (depth_for 0x4100_0000, 1 ∷ [])  -- M9
    ∷ (depth_for 0x4100_0001, 2 ∷ [])  -- M10
    ∷ (depth_for 0x4140_0000, 1 ∷ [])  -- M11
    ∷ (depth_for 0x4980_0000, 10 ∷ [])  -- M12
    ∷ (depth_for 0x3f7f_ffff, 0 ∷ [])  -- M13
    ∷ []
