-- The buffer has the length that the page call asks for: so the call refuses nothing, and what it answers is the length of the page, which fits.
use Rattle.std.proofs.Common.{◌≡◌, ℕ, ◌≤◌, List, ◌∷◌, [], arith, sym, ap, ◌∙◌}
use mathlib.Core.Bool.{false≢true}
use lib.Seq.{length-take-le}
use Rattle.model.specs.Numbers.{cell}
use Rattle.model.specs.Checks.{Report, report_page, accepts, refuses}
use Rattle.model.specs.Page.{page_limit, page_report}
use Rattle.theory_pages.proofs.Pages.{page-fits, written}
use Rattle.program.proofs.print_page.Goals as goal

never_refused : (file : List ℕ) (number place : ℕ) → refuses 1 number place ≡ page_report page_limit file → ⊥
never_refused file number place e = false≢true (ap (λ (r : Report). r.accepted) (e ∙ (written file).0))

fits : (file : List ℕ) (k : ℕ) → accepts (k ∷ []) ≡ page_report page_limit file → k ≤ page_limit
fits file k e = omega (arith, ap (λ (r : Report). cell r.counts 0) (e ∙ (written file).0), page-fits file)

pub unreachable-requires : goal.unreachable-requires
unreachable-requires g c = never_refused c.args.file.now _ _ (sym (ap report_page c.in_default.is) ∙ c.write_page.ensures.answer)

pub slice_bounds-out-end : goal.slice_bounds-out-end
slice_bounds-out-end g c =
    let short = fits c.args.file.now c.in-Ok.length (sym (ap report_page c.in-Ok.is) ∙ c.write_page.ensures.answer) in
    omega (arith, short, c.write_page.auto.out)

pub slice_bounds-print-end : goal.slice_bounds-print-end
slice_bounds-print-end g c =
    let short = fits c.args.file.now c.in-Ok.length (sym (ap report_page c.in-Ok.is) ∙ c.write_page.ensures.answer) in
    sym (length-take-le c.in-Ok.length c.write_page.new.out (omega (arith, short, c.write_page.auto.out)))
