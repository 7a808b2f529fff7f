-- The words of the contracts of `abs`, `max` and `min`. Definitions only.
use Rattle.std.specs.Prelude.{false, cond, ◌||◌, is_nan, Float}
use Rattle.std.specs.Float.{nan, inf, fin}
use Rattle.std.specs.Float.Ieee.{lt}

-- x without its sign: Rust's `abs`
unfoldable pub abs_of : Float → Float
abs_of nan = nan
abs_of (inf s) = inf false
abs_of (fin s m e) = fin false m e

-- The larger of the two: Rust's `max`. It is b where a is a NaN or b is larger, and a otherwise: so a where b is a NaN, and a where the two are equal.
unfoldable pub max_of : Float → Float → Float
max_of a b = cond (is_nan a || lt a b) b a

-- The smaller of the two: Rust's `min`. It is b where a is a NaN or b is smaller, and a otherwise.
unfoldable pub min_of : Float → Float → Float
min_of a b = cond (is_nan a || lt b a) b a
