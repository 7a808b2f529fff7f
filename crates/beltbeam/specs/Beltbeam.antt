-- What the program prints of its input. Definitions only.
use Rattle.std.specs.Prelude.{ℕ, List, Option, take}
use Rattle.std.specs.Io.KnownBytes.{Appends}
use Rattle.blocks.specs.Report.{report_of}

-- so many bytes are read: one more than a sheet may have
abbrev pub most_read : ℕ
most_read = 65537

-- where the input's and the output's bytes are known: the output grows by a start of the report of what is read
abbrev pub Prints : List ℕ → Option (List ℕ) → Option (List ℕ) → Type 0
Prints sheet old new = (k : ℕ) × Appends old new (take k (report_of (take most_read sheet)))
