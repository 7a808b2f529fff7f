-- What a transfer's calls do to the bytes that a writer holds and a reader has left. Assumes nothing.
use Rattle.std.proofs.Common.{◌≡◌, ℕ, zero, suc, ◌+◌, ◌<◌, ◌≤◌, Bool, true, false, cond, List, [], ◌++◌, length, take, drop, refl, ap, sym, subst, ◌∙◌, arith, length-append}
use Rattle.std.proofs.Math.Seq.{take-add, take-append-add, length-take-le}
use Rattle.std.proofs.lemmas.List.{take-append-le}
use Rattle.std.proofs.lemmas.Slice.{take-put_mid_below}
use Rattle.std.proofs.KnownBytes.{Appends-trans, Appends-kept, Consumes-nil, Consumes-trans, Consumes-kept}
use Rattle.std.specs.Prelude.{Option, Result, Ok, Err}
use Rattle.std.specs.Result.{result_unwrap_or}
use Rattle.std.specs.declared.io.Error.{Error}
use Rattle.std.specs.Io.{ReadsAtMost}
use Rattle.std.specs.Io.KnownBytes.{Appends, Consumes, IsAtEnd, WriteAppends, ReadConsumes}
use borrow.Rule.Slice.PartMut.{post_of, put_mid}
use Rattle.transfer.specs.declared.Stop.TheVariants.{Nothing, Failed}
use Rattle.transfer.specs.declared.Transfer.{Transfer}
use Rattle.transfer.specs.Transfer.{Skips, number_of, is_interruption, stopped_at, interrupted_again, after_failure, after_call}

-- how many bytes a call moved
abbrev pub moved_by : Result ℕ Error → ℕ
moved_by answer = result_unwrap_or answer 0

done-failure : (t : Transfer) (error : Error) (b : Bool) → (cond b (interrupted_again t.done (t.interrupted + 1)) (stopped_at t.done (Err (Failed error)))).done ≡ t.done
unfolding interrupted_again
done-failure t error true = refl
done-failure t error false = refl

pub done-after_call : (t : Transfer) (answer : Result ℕ Error) → (after_call t answer).done ≡ t.done + moved_by answer
unfolding after_call after_failure
done-after_call t (Ok zero) = omega arith
done-after_call t (Ok (suc k)) = refl
done-after_call t (Err error) = done-failure t error (is_interruption (number_of error)) ∙ omega arith

-- ---- the bytes of one call behind those of others

pub appends_behind : (a b c : Option (List ℕ)) (t : Transfer) (answer : Result ℕ Error) (xs ys : List ℕ) → ys ≡ drop t.done xs → Appends a b (take t.done xs) → WriteAppends b c answer ys
    → Appends a c (take (after_call t answer).done xs)
appends_behind a b c t (Ok k) xs ys e p q =
    let joined : take t.done xs ++ take k ys ≡ take (after_call t (Ok k)).done xs =
    ap (λ zs. take t.done xs ++ take k zs) e ∙ sym (take-add t.done k xs) ∙ ap (λ d. take d xs) (sym (done-after_call t (Ok k))) in
    subst (λ zs. Appends a c zs) joined (Appends-trans a b c _ _ p q)
appends_behind a b c t (Err error) xs ys e p q = subst (λ d. Appends a c (take d xs)) (omega (arith, done-after_call t (Err error))) (Appends-kept a b c _ p q)

-- the bytes of a slice behind those that a read put into its part from d on, m elements long
put_front : (xs ys : List ℕ) (d m k : ℕ) → d ≤ length xs → k ≤ length ys → take (d + k) (put_mid d m xs ys) ≡ take d xs ++ take k ys
put_front xs ys d m k l few =
    let size : length (take d xs) ≡ d = length-take-le d xs l in
    ap (λ n. take (n + k) (put_mid d m xs ys)) (sym size) ∙ take-append-add (take d xs) (ys ++ post_of d m xs) k ∙ ap (λ zs. take d xs ++ zs) (take-append-le k ys (post_of d m xs) few)

pub consumes_behind : (a b c : Option (List ℕ)) (t : Transfer) (answer : Result ℕ Error) (xs ys : List ℕ) (m : ℕ) → t.done ≤ length xs → ReadsAtMost answer ys → Consumes a b (take t.done xs) → ReadConsumes b c answer ys
    → Consumes a c (take (after_call t answer).done (put_mid t.done m xs ys))
consumes_behind a b c t (Ok k) xs ys m l few p q =
    let joined : take t.done xs ++ take k ys ≡ take (after_call t (Ok k)).done (put_mid t.done m xs ys) =
    sym (put_front xs ys t.done m k l few.0) ∙ ap (λ d. take d (put_mid t.done m xs ys)) (sym (done-after_call t (Ok k))) in
    subst (λ zs. Consumes a c zs) joined (Consumes-trans a b c _ _ p q.0)
consumes_behind a b c t (Err error) xs ys m l few p q =
    let same : take t.done xs ≡ take (after_call t (Err error)).done (put_mid t.done m xs ys) =
    sym (take-put_mid_below t.done m xs ys t.done (omega arith) l) ∙ ap (λ d. take d (put_mid t.done m xs ys)) (omega (arith, done-after_call t (Err error))) in
    subst (λ zs. Consumes a c zs) same (Consumes-kept a b c _ p q)

shut : (t : Transfer) (error : Error) (b : Bool) → (cond b (interrupted_again t.done (t.interrupted + 1)) (stopped_at t.done (Err (Failed error)))).outcome ≡ Err Nothing → ⊥
unfolding interrupted_again
shut t error true h = grind arith
shut t error false h = cc

-- a call that gave nothing, with room, was at the end
pub end_behind : (b c : Option (List ℕ)) (t : Transfer) (answer : Result ℕ Error) (xs : List ℕ) → 0 < length xs → ReadConsumes b c answer xs → (after_call t answer).outcome ≡ Err Nothing → IsAtEnd c
unfolding after_call after_failure
end_behind b c t (Ok zero) xs l q h = q.1 refl l
end_behind b c t (Ok (suc k)) xs l q h = absurd (cc)
end_behind b c t (Err e) xs l q h = absurd (shut t e (is_interruption (number_of e)) h)

-- ---- bytes that are read off

skips_both : (a b c : Option (List ℕ)) (d k : ℕ) → Skips a b d → Skips b c k → Skips a c (d + k)
skips_both a b c d k (xs, n, p) (ys, m, q) = (xs ++ ys, omega (arith, length-append xs ys, n, m), Consumes-trans a b c xs ys p q)

pub skips_behind : (a b c : Option (List ℕ)) (t : Transfer) (answer : Result ℕ Error) (xs : List ℕ) → Skips a b t.done → ReadsAtMost answer xs → ReadConsumes b c answer xs → Skips a c (after_call t answer).done
skips_behind a b c t (Ok k) xs p l q = subst (λ d. Skips a c d) (sym (done-after_call t (Ok k))) (skips_both a b c t.done k p (take k xs, length-take-le k xs l.0, q.0))
skips_behind a b c t (Err e) xs (bs, n, p) l q = (bs, omega (arith, n, done-after_call t (Err e)), Consumes-kept a b c bs p q)

pub skips_none : (a : Option (List ℕ)) → Skips a a 0
skips_none a = ([], refl, Consumes-nil a)
