-- `page_text::put_rest` meets its contract: one more field is written.
use Rattle.std.proofs.Common.{◌∷◌, ◌+◌, ap, drop, get_or, map}
use Rattle.model.specs.Text.{decimal, rest}
use Rattle.theory.proofs.Stores.{go_on, drop-first}
use Rattle.page_text.proofs.put_rest.Goals as goal

pub loop-amount-preserved : goal.loop-amount-preserved
loop-amount-preserved c =
    let cells = c.args.cells.now in
    let i = c.loop-amount.amount-index in
    go_on (32 ∷ decimal (get_or cells i 0)) (rest (map decimal (drop (i + 1) cells))) (ap (λ x. rest (map decimal x)) (drop-first cells i c.loop-amount-test.true))
    c.loop-amount.invariant (c.put_field-next.ensures.value, c.put_field-next.ensures.out_after)
