-- `page_text::put_fields` meets its contract: after the first amount the rest of the line is left.
use Rattle.std.proofs.Common.{ap, map}
use Rattle.model.specs.Text.{decimal, rest, line}
use Rattle.theory.proofs.Stores.{begin, go_on, done}
use Rattle.page_text.proofs.put_fields.Goals as goal

pub returns-clause-out_after : goal.returns-clause-out_after
returns-clause-out_after c =
    let part = c.in-Some in
    let first = c.put_decimal-next.ensures in
    let others = c.put_rest.ensures in
    let whole = begin (line (map decimal c.args.cells.now)) c.args.at c.args.out.now in
    let left = go_on (decimal part.first.now) (rest (map decimal part.others.now)) (ap (λ x. line (map decimal x)) part.ensures.cases.0) whole (first.value, first.out_after) in
    (done left (others.value, others.out_after)).1
