-- `file_writer::write_table` meets its contract, where it is refused and where the table is written.
use Rattle.std.proofs.Common.{refl}
use Rattle.std.proofs.lemmas.Result.{err_from_is_err_and}
use Rattle.file_writer.proofs.Ways.{call_stop, call_ready, call_on}
use Rattle.file_writer.proofs.write_table.Goals as goal

pub returns-in_err-check_written : goal.returns-in_err-check_written
returns-in_err-check_written c =
    let p = err_from_is_err_and c.from_residual.result c.from_residual.ensures.1 in
    rw (p.1, p.2) (call_stop (record { clear = c.fill.ensures.after (λ y h. h); said = c.in_err-check_written.ensures }) refl)

pub put_table-requires : goal.put_table-requires
put_table-requires c = call_ready (record { clear = c.fill.ensures.after (λ y h. h); said = c.in_ok-check_written.ensures }) refl

pub returns : goal.returns
returns c =
    call_on (record { clear = c.fill.ensures.after (λ y h. h); said = c.in_ok-check_written.ensures }) refl
    (c.put_table.ensures.value, c.put_table.ensures.file_after)
