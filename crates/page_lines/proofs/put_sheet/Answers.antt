-- `page_lines::put_sheet` meets its contract: headings, then the sectors, then the rounds are written.
use Rattle.std.proofs.Common.{List, ℕ, ◌++◌, refl}
use Rattle.model.specs.Text.{line}
use Rattle.model.specs.Page.{headings, lines_to, rounds_line, sheet}
use Rattle.theory.proofs.Stores.{begin, go_on, done}
use Rattle.page_lines.specs.Lent.{line_lent}
use Rattle.page_lines.proofs.put_sheet.Goals as goal

pub returns-clause-out_after : goal.returns-clause-out_after
unfolding sheet
returns-clause-out_after c =
    let first = c.put_headings-first.ensures in
    let sectors = c.put_sectors-last.ensures in
    let last = c.put_rounds.ensures in
    let lines : List ℕ = lines_to c.args.n (line_lent c.args.figures.now) in
    let ending : List ℕ = rounds_line c.args.rounds in
    let whole = begin (line headings ++ (lines ++ ending)) 0 c.args.out.now in
    let headed = go_on (line headings) (lines ++ ending) refl whole (first.value, first.out_after) in
    (done (go_on lines ending refl headed (sectors.value, sectors.out_after)) (last.value, last.out_after)).1
