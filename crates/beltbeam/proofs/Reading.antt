-- The bytes that were read are the start of the input. Assumes nothing.
use Rattle.std.proofs.Common.{◌≡◌, ℕ, ◌≤◌, List, ◌++◌, length, take, ap, ◌∙◌, arith, append-nil}
use Rattle.std.specs.Prelude.{Option, None, Some, IfSome}
use Rattle.std.specs.Io.KnownBytes.{Appends, Consumes, IsAtEnd}
use Rattle.std.proofs.Math.Seq.{length-take-le}
use Rattle.std.proofs.lemmas.List.{take_all, take-append-le}
use Rattle.blocks.specs.Report.{report_of}
use Rattle.beltbeam.specs.Beltbeam.{most_read, Prints}

module _ (bytes : List ℕ) (long : length bytes ≡ most_read) (old new : Option (List ℕ)) (k : ℕ) where
  -- the input has ended
  pub whole : (d : ℕ) (was now : Option (List ℕ)) → d ≤ most_read → Consumes was now (take d bytes) → IsAtEnd now
      → Appends old new (take k (report_of (take d bytes))) → IfSome was (λ sheet. Prints sheet old new)
  whole d None now l c e a = tt
  whole d (Some xs) None l c e a = absurd c
  whole d (Some xs) (Some ys) l c e a =
      let same : xs ≡ take d bytes = c ∙ (ap (λ zs. take d bytes ++ zs) e ∙ append-nil (take d bytes)) in
      let short : length (take d bytes) ≤ most_read = omega (arith, length-take-le d bytes (omega (arith, long, l)), l) in
      let all : take most_read xs ≡ take d bytes = ap (take most_read) same ∙ take_all most_read (take d bytes) short in (k, rw all a)

  -- the bytes are full
  pub full : (was now : Option (List ℕ)) → Consumes was now (take most_read bytes)
      → Appends old new (take k (report_of (take most_read bytes))) → IfSome was (λ sheet. Prints sheet old new)
  full None now c a = tt
  full (Some xs) None c a = absurd c
  full (Some xs) (Some ys) c a =
      let long_all : take most_read bytes ≡ bytes = take_all most_read bytes (omega (arith, long)) in
      let all : take most_read xs ≡ take most_read bytes = ap (take most_read) c ∙ (take-append-le most_read (take most_read bytes) ys (omega (arith, ap length long_all, long)) ∙ ap (take most_read) long_all) in (k, rw all a)
