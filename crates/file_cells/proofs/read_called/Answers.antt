-- Where the slices fit the call reads the file, and else it is refused by question 2. Assumes nothing.
use Rattle.std.proofs.Common.{ℕ, ◌≡◌, true, length, replicate, sym, ap, ◌∙◌, subst}
use Rattle.model.specs.File.{Reading, fits, answer_of}
use Rattle.file_walk.specs.Steps.{Held}
use Rattle.file_walk.proofs.CellLaws.{held_refused}
use Rattle.file_cells.proofs.Sizes.{fit, called_fit, called_unfit}
use Rattle.file_cells.proofs.read_called.Goals as goal

pub returns-then-not-is_fit : goal.returns-then-not-is_fit
returns-then-not-is_fit c =
    let a = c.args in
    let e = called_unfit a.x a.columns.now (length a.marks.now) a.file.now (sym c.is_fit.ensures ∙ c.if-not-is_fit.true) in
    record {
      answer = rw c.at.ensures (ap answer_of e);
      held = subst (λ (o : Reading). Held o a.cells.now) e (held_refused a.cells.now c.requires 2 0);
      cleared = c.fill.ensures.after (λ y e. e);
    }

pub returns : goal.returns
returns c =
    let a = c.args in
    let read = c.read_flat.ensures in
    let passes : fits a.x a.columns.now (length a.marks.now) ≡ true = sym c.is_fit.ensures ∙ c.if-not-is_fit.false in
    let e = called_fit a.x a.columns.now (length a.marks.now) a.file.now passes in
    let words = (fit a.x a.columns.now (length a.marks.now) passes).1 in
    record {
      answer = read.0 ∙ ap answer_of e;
      held = subst (λ (o : Reading). Held o c.read_flat.new.cells) e read.1;
      cleared = read.2 ∙ ap (λ (k : ℕ). replicate k 0) (sym words);
    }
