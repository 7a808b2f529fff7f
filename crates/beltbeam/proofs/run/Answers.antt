-- What was read is all of the input, or as many bytes as are read.
use Rattle.std.proofs.Common.{◌≡◌, ◌≤◌, length, ap, ◌∙◌, arith}
use Rattle.std.specs.Prelude.{Result, Err, is_ok}
use Rattle.transfer.specs.declared.Stop.{Stop}
use Rattle.transfer.specs.declared.Stop.TheVariants.{Nothing}
use Rattle.transfer.proofs.Calls.{all_moved}
use Rattle.beltbeam.specs.Beltbeam.{most_read}
use Rattle.beltbeam.proofs.Reading.{whole, full}
use Rattle.beltbeam.proofs.run.Goals as goal

ended : (outcome : Result (Unit {0}) Stop) (stop : Stop) → outcome ≡ Err stop → stop ≡ Nothing → outcome ≡ Err Nothing
ended outcome stop p q = p ∙ ap Err q

pub returns-in-Err-Nothing : goal.returns-in-Err-Nothing
returns-in-Err-Nothing g c =
    let long : length c.read-t.new.buf ≡ most_read = c.read-t.auto.buf in
    let few : c.read-t.result.done ≤ most_read = omega (arith, c.read-t.ensures.within, long) in
    whole _ long _ _ _ _ _ _ few c.read-t.ensures.bytes (c.read-t.ensures.end (ended _ _ c.in-Err-Nothing.is (let e = c.in-Err-Nothing.field-0-is in grind arith))) c.print_sheet-in-Err-Nothing.ensures.bytes

pub returns-in-Ok : goal.returns-in-Ok
returns-in-Ok g c =
    let long : length c.read-t.new.buf ≡ most_read = c.read-t.auto.buf in
    let all : c.read-t.result.done ≡ most_read = all_moved _ _ c.read-t.ensures.ended (ap is_ok c.in-Ok.is) in
    full _ long _ _ _ _ _ (rw all at c.read-t.ensures.bytes) (rw all at c.print_sheet.ensures.bytes)
