-- What a number means that an open, an add or a remove of a set returns: 0 is never a refusal. Assumes nothing.
use mathlib.Core.List.{List}
use mathlib.Core.Path.{◌≡◌}
use Prim.Native.Nat.{ℕ}
use lib.Ieee.{Float}
use Rattle.std.specs.Prelude.{Result, Ok}
use Rattle.limits.specs.declared.refusal.Refusal.{Refusal}
use Rattle.limits.specs.Refused.{status_of}
use Rattle.curve_set.specs.declared.layout.Head.{Head}
use Rattle.curve_set.specs.Set.{open_answer, add_answer, remove_answer}
use Rattle.curve_c.proofs.Answers.{answered}

-- a call that is done
abbrev done : Result (Unit {0}) Refusal
done = Ok tt

done_is : (r : Result (Unit {0}) Refusal) → status_of r ≡ 0 → r ≡ done
done_is r e = (answered r e).1

pub set-open-answers : (h : Head) → status_of (open_answer h) ≡ 0 → open_answer h ≡ done
set-open-answers h = done_is (open_answer h)

pub set-add-answers : (f : List Float) (w : List ℕ) (number : ℕ) (c : List Float) → status_of (add_answer f w number c) ≡ 0 → add_answer f w number c ≡ done
set-add-answers f w number c = done_is (add_answer f w number c)

pub set-remove-answers : (f : List Float) (w : List ℕ) (number : ℕ) → status_of (remove_answer f w number) ≡ 0 → remove_answer f w number ≡ done
set-remove-answers f w number = done_is (remove_answer f w number)
