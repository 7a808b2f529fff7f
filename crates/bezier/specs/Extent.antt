-- The least and the greatest of some values, carried along together. Definitions only.
use Rattle.std.specs.Prelude.{false, ◌≡◌, Float}
use Rattle.std.specs.Float.Ieee.{is_nan}
use Rattle.float.specs.Basic.{max_of, min_of}
use Rattle.bezier.specs.declared.extent.Extent.{Extent}

-- of one value
unfoldable pub extent_at : Float → Extent
extent_at v = record { least = v; greatest = v }

-- of two together
unfoldable pub extent_union : Extent → Extent → Extent
extent_union e f = record { least = min_of e.least f.least; greatest = max_of e.greatest f.greatest }

-- of one value more
unfoldable pub extent_with : Extent → Float → Extent
extent_with e v = extent_union e (extent_at v)

-- both are numbers
abbrev pub Numbers : Extent → Type 0
Numbers e = (is_nan e.least ≡ false) × (is_nan e.greatest ≡ false)
