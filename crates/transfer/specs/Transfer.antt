-- How a transfer goes on by what a reader's read or a writer's write answers, and where it stops. Definitions only.
use Rattle.std.specs.Prelude.{ℕ, zero, suc, ◌+◌, ◌-◌, ◌≤◌, ◌<◌, Bool, true, false, ◌&&◌, cond, ◌≡◌, eqb, ltb, ℤ, pos, negsuc, Option, unwrap_or, Result, Ok, Err, is_ok, IfOk, List, length}
use Rattle.std.specs.declared.io.Error.{Error}
use Rattle.std.specs.IoError.{raw_os_error}
use Rattle.std.specs.Io.KnownBytes.{Consumes}
use Rattle.transfer.specs.declared.Stop.{Stop}
use Rattle.transfer.specs.declared.Stop.TheVariants.{Nothing, Interrupted, Failed}
use Rattle.transfer.specs.declared.Transfer.{Transfer}

-- so many interruptions in a row end a transfer
abbrev pub most_interruptions : ℕ
most_interruptions = 100

-- the number of an error: 0 where it is not the system's
abbrev pub number_of : Error → ℤ
number_of error = unwrap_or (raw_os_error error) (pos 0)

-- EINTR
abbrev pub is_interruption : ℤ → Bool
is_interruption (pos k) = eqb k 4
is_interruption (negsuc k) = false

abbrev pub stopped_at : ℕ → Result (Unit {0}) Stop → Transfer
stopped_at done outcome = record { done = done; interrupted = 0; outcome = outcome }

-- one interruption more
unfoldable pub interrupted_again : ℕ → ℕ → Transfer
interrupted_again done n = record { done = done; interrupted = n; outcome = cond (ltb n most_interruptions) (Ok tt) (Err Interrupted) }

unfoldable pub after_failure : Transfer → Error → Transfer
after_failure t error = cond (is_interruption (number_of error)) (interrupted_again t.done (t.interrupted + 1)) (stopped_at t.done (Err (Failed error)))

-- the transfer behind a call, by its answer
unfoldable pub after_call : Transfer → Result ℕ Error → Transfer
after_call t (Err error) = after_failure t error
after_call t (Ok zero) = stopped_at t.done (Err Nothing)
after_call t (Ok (suc k)) = stopped_at (t.done + suc k) (Ok tt)

abbrev pub start : Transfer
start = stopped_at 0 (Ok tt)

-- a transfer of n bytes, which can be called for
pub record Within (n : ℕ) (t : Transfer) : Type 0 where
  pub done_within : t.done ≤ n
  pub not_often : t.interrupted < most_interruptions

-- what a call that is handed the rest of n bytes makes of a transfer: by some answer of those that the call may give, which
-- are a failure, or how many bytes it moved
pub record Answered (n : ℕ) (t r : Transfer) : Type 0 where
  pub answer : Result ℕ Error
  pub moved : IfOk answer (λ k. k ≤ n - t.done)
  pub behind : r ≡ after_call t answer

-- whether a call is due: nothing ended the transfer, and bytes are left
abbrev pub is_due : ℕ → Transfer → Bool
is_due n t = is_ok t.outcome && ltb t.done n

-- the transfers of n bytes that calls lead to, each made where it was due
pub data Reached (n : ℕ) : Transfer → Type 0 where
  at-start : Reached n start
  behind_call : {t r : Transfer} → Reached n t → is_due n t ≡ true → Answered n t r → Reached n r

-- such a transfer that is at its end
abbrev pub Ended : ℕ → Transfer → Type 0
Ended n r = Reached n r × (is_due n r ≡ false)

-- so many bytes are read off, where they are known
abbrev pub Skips : Option (List ℕ) → Option (List ℕ) → ℕ → Type 0
Skips old new n = (bs : List ℕ) × (length bs ≡ n) × Consumes old new bs
