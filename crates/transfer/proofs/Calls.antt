-- What a call does to a transfer: it stays within its bytes, and where it can go on it comes nearer to its end. Assumes nothing.
use Rattle.std.proofs.Common.{◌≡◌, ℕ, zero, suc, ◌+◌, ◌-◌, ◌*◌, ◌≤◌, ◌<◌, Bool, true, false, not, ◌&&◌, cond, ltb, eqb, List, [], ◌∷◌, length, drop, ℤ, pos, negsuc, refl, sym, ap, ◌∙◌, arith}
use Rattle.std.specs.Prelude.{Result, Ok, Err, IfOk, is_ok}
use Rattle.std.specs.declared.io.Error.{Error}
use Rattle.std.specs.declared.io.ErrorKind.{ErrorKind}
use Rattle.std.specs.Io.{ReadsAtMost, WritesAtMost}
use Rattle.std.specs.IoError.{kind_in, os_error_kinds, os_error_kind}
use mathlib.Core.Bool.{and-eq-true_iff, true≢false}
use mir.Syntax.{w32}
use mir.Val.{of_z}
use borrow.Author.Tests.{ltb-true, ltb-false, le-ltb, eqb-true, ne_eqb, not-true}
use Rattle.transfer.specs.declared.Stop.TheVariants.{Interrupted, Failed}
use Rattle.transfer.specs.declared.Transfer.{Transfer}
use Rattle.transfer.specs.Transfer.{most_interruptions, number_of, is_interruption, stopped_at, interrupted_again, after_failure, after_call, start, Within, Answered, is_due, Reached, at-start, behind_call, Ended}

-- a transfer that is reached: within its bytes, and not interrupted too often where nothing ended it
pub record Kept (n : ℕ) (t : Transfer) : Type 0 where
  pub done_kept : t.done ≤ n
  pub open_kept : is_ok t.outcome ≡ true → t.interrupted < most_interruptions

-- how many calls can follow at most
unfoldable pub calls_left : ℕ → Transfer → ℕ
calls_left n t = cond (is_ok t.outcome) (1 + ((n - t.done) * most_interruptions + (most_interruptions - t.interrupted))) 0

kept-start : (n : ℕ) → Kept n start
kept-start n = record { done_kept = omega arith; open_kept = λ h. omega arith }

-- a call brings a transfer on
abbrev Brought : ℕ → Transfer → Transfer → Type 0
Brought n t r = Kept n r × (calls_left n r < calls_left n t)

module _ (n : ℕ) (t : Transfer) (due : is_due n t ≡ true) where
  well : is_ok t.outcome ≡ true
  well = ((and-eq-true_iff (is_ok t.outcome) (ltb t.done n)).0 due).0

  pub more : t.done < n
  more = ltb-true t.done n ((and-eq-true_iff (is_ok t.outcome) (ltb t.done n)).0 due).1

  pub within : Kept n t → Within n t
  within k = record { done_within = k.done_kept; not_often = k.open_kept well }

  left_now : calls_left n t ≡ 1 + ((n - t.done) * most_interruptions + (most_interruptions - t.interrupted))
  unfolding calls_left
  left_now = rw well

  module _ (w : Within n t) where
    stops : (r : Transfer) → is_ok r.outcome ≡ false → r.done ≡ t.done → Brought n t r
    unfolding calls_left
    stops r shut same = (record { done_kept = omega (arith, more); open_kept = λ h. absurd (true≢false (sym h ∙ shut)) }, rw shut (omega (arith, left_now)))

    again : (b : Bool) → ltb (t.interrupted + 1) most_interruptions ≡ b → Brought n t (record { done = t.done; interrupted = t.interrupted + 1; outcome = cond b (Ok tt) (Err Interrupted) })
    unfolding calls_left
    again true h = (record { done_kept = w.done_within; open_kept = λ _. ltb-true _ _ h }, omega (arith, left_now, ltb-true (t.interrupted + 1) most_interruptions h))
    again false h = stops _ refl refl

    failure : (error : Error) (b : Bool) → Brought n t (cond b (interrupted_again t.done (t.interrupted + 1)) (stopped_at t.done (Err (Failed error))))
    unfolding interrupted_again
    failure error true = again _ refl
    failure error false = stops _ refl refl

    pub brought_by : (answer : Result ℕ Error) → IfOk answer (λ k. k ≤ n - t.done) → Brought n t (after_call t answer)
    unfolding after_call after_failure calls_left
    brought_by (Err error) m = failure error (is_interruption (number_of error))
    brought_by (Ok zero) m = stops _ refl refl
    brought_by (Ok (suc k)) m = (record { done_kept = omega (arith, more); open_kept = λ _. omega arith }, omega (arith, left_now, more, w.not_often))

  pub brought : (r : Transfer) → Kept n t → Answered n t r → Brought n t r
  brought r k a = rw a.behind (brought_by (within k) a.answer a.moved)

pub kept : (n : ℕ) (t : Transfer) → Reached n t → Kept n t
kept n _ at-start = kept-start n
kept n r (behind_call {t} before due call) = (brought n t due r (kept n t before) call).0

-- what a call that is handed the rest of n bytes, or some of them, makes of a transfer
pub written : (n : ℕ) (t r : Transfer) (answer : Result ℕ Error) (xs : List ℕ) → length xs ≤ n - t.done → WritesAtMost answer xs → r ≡ after_call t answer → Answered n t r
written n t r (Ok k) xs l most e = record { answer = Ok k; moved = omega (arith, l, most); behind = e }
written n t r (Err error) xs l most e = record { answer = Err error; moved = tt; behind = e }

pub was_read : (n : ℕ) (t r : Transfer) (answer : Result ℕ Error) (xs : List ℕ) → length xs ≤ n - t.done → ReadsAtMost answer xs → r ≡ after_call t answer → Answered n t r
was_read n t r (Ok k) xs l most e = written n t r (Ok k) xs l most.0 e
was_read n t r (Err error) xs l most e = written n t r (Err error) xs l tt e

-- ---- the end

-- a transfer that ended with no failure moved all bytes
pub all_moved : (n : ℕ) (t : Transfer) → Ended n t → is_ok t.outcome ≡ true → t.done ≡ n
all_moved n t (reached, undue) well =
    let none_left : ltb t.done n ≡ false = rw well at undue in
    omega (arith, ltb-false t.done n none_left, (kept n t reached).done_kept)

pub at_most : (n : ℕ) (t : Transfer) → Ended n t → t.done ≤ n
at_most n t ended = (kept n t ended.0).done_kept

-- ---- the system's interruption

-- an error of any other number than EINTR, 4, is none
pub no_interruption : (e : ℤ) → (of_z w32 e ≡ 4 → ⊥) → is_interruption e ≡ false
no_interruption (pos k) h = ne_eqb k 4 h
no_interruption (negsuc k) h = refl

-- the kind of such an error, which errors of a writer's or a reader's own may have too
abbrev pub is_interrupted : ErrorKind → Bool
is_interrupted ErrorKind.Interrupted = true
is_interrupted _ = false

-- in none of these rows
abbrev none_interrupted : List (ℕ × ErrorKind) → Bool
none_interrupted [] = true
none_interrupted (row ∷ rows) = not (is_interrupted row.1) && none_interrupted rows

by_row : (b : Bool) (k m : ErrorKind) → is_interrupted k ≡ false → is_interrupted m ≡ false → is_interrupted (cond b k m) ≡ false
by_row true k m p q = p
by_row false k m p q = q

none_of : (rows : List (ℕ × ErrorKind)) (code : ℕ) → none_interrupted rows ≡ true → is_interrupted (kind_in rows code) ≡ false
none_of [] code h = refl
none_of (row ∷ rows) code h =
    let both = (and-eq-true_iff (not (is_interrupted row.1)) (none_interrupted rows)).0 h in
    by_row _ _ _ (not-true _ both.0) (none_of rows code both.1)

by_first : (code : ℕ) (a b c : Bool) (k : ErrorKind) → eqb code 1 ≡ a → eqb code 2 ≡ b → eqb code 4 ≡ c → is_interrupted k ≡ false
    → is_interrupted (cond a ErrorKind.PermissionDenied (cond b ErrorKind.NotFound (cond c ErrorKind.Interrupted k))) ≡ c
by_first code true b true k p q r h = absurd (omega (arith, eqb-true code 1 p, eqb-true code 4 r))
by_first code true b false k p q r h = refl
by_first code false true true k p q r h = absurd (omega (arith, eqb-true code 2 q, eqb-true code 4 r))
by_first code false true false k p q r h = refl
by_first code false false true k p q r h = refl
by_first code false false false k p q r h = h

-- of the system's errors the kind tells the same as the number
pub is_interruption-os_error_kind : (code : ℤ) → is_interrupted (os_error_kind code) ≡ is_interruption code
unfolding os_error_kind
is_interruption-os_error_kind (pos code) = rw (le-ltb code 0 (omega arith)) (by_first code _ _ _ _ refl refl refl (none_of (drop 3 os_error_kinds) code refl))
is_interruption-os_error_kind (negsuc code) = refl

-- and one of any other number has another kind
pub no_interruption-os_error_kind : (code : ℤ) → (code ≡ pos 4 → ⊥) → is_interrupted (os_error_kind code) ≡ false
no_interruption-os_error_kind (pos code) other = is_interruption-os_error_kind (pos code) ∙ ne_eqb code 4 (λ e. other (ap pos e))
no_interruption-os_error_kind (negsuc code) other = is_interruption-os_error_kind (negsuc code)
