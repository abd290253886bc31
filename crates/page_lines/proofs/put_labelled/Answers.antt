-- `page_lines::put_labelled` meets its contract: after the word the rest of the line is left.
use Rattle.std.proofs.Common.{◌++◌, map, refl}
use Rattle.model.specs.Text.{decimal, rest}
use Rattle.theory.proofs.Stores.{begin, go_on, done}
use Rattle.page_lines.proofs.put_labelled.Goals as goal

pub returns-clause-out_after : goal.returns-clause-out_after
returns-clause-out_after c =
    let word = c.put_bytes-next.ensures in
    let others = c.put_rest.ensures in
    let fields = rest (map decimal c.args.cells.now) in
    let left = go_on c.args.word.now fields refl (begin (c.args.word.now ++ fields) c.args.at c.args.out.now) (word.value, word.out_after) in
    (done left (others.value, others.out_after)).1
