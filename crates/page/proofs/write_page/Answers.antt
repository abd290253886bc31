-- `page::write_page` meets its contract, where its buffer is refused and where the page is written.
use Rattle.std.proofs.Common.{refl}
use Rattle.std.proofs.lemmas.Result.{err_from_is_err_and}
use Rattle.page.proofs.Buffers.{call_stop, call_ready, call_on}
use Rattle.page.proofs.write_page.Goals as goal

pub returns-in_err-ask : goal.returns-in_err-ask
returns-in_err-ask c =
    let p = err_from_is_err_and c.from_residual.result c.from_residual.ensures.1 in
    rw (p.1, p.2) (call_stop c.args.file.now (record { clear = c.fill.ensures.after (λ y h. h); said = c.in_err-ask.ensures.answer }) refl)

pub file_page-requires : goal.file_page-requires
file_page-requires c = call_ready c.args.file.now (record { clear = c.fill.ensures.after (λ y h. h); said = c.in_ok-ask.ensures.answer }) refl

pub returns : goal.returns
returns c =
    call_on c.args.file.now (record { clear = c.fill.ensures.after (λ y h. h); said = c.in_ok-ask.ensures.answer }) refl
    (c.file_page.ensures.value, c.file_page.ensures.out_after)
