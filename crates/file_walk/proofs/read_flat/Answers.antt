-- The answer to the walk, by its marks; the marks are 0 before it and after it. Assumes nothing.
use Rattle.std.proofs.Common.{ℕ, ◌≡◌, length, replicate, ap, ◌∙◌}
use Rattle.std.proofs.lemmas.List.{length-replicate}
use Rattle.model.specs.File.{reading, cell_limit, word_limit}
use Rattle.file_walk.proofs.Loops.{cleared_refused, counted}
use Rattle.file_walk.proofs.read_flat.Goals as goal

pub walk_file-walked-requires-clause-marks : goal.walk_file-walked-requires-clause-marks
walk_file-walked-requires-clause-marks c = c.fill.ensures.after (λ y e. e) ∙ ap (λ (k : ℕ). replicate k 0) c.requires.marks

pub returns-in-Ok : goal.returns-in-Ok
returns-in-Ok c =
    let walked = c.walk_file-walked in
    let told = c.take_total-named.ensures in
    let words : length walked.new.marks ≡ word_limit = walked.auto.marks ∙ c.fill.auto.self ∙ c.requires.marks in
    let answered = counted c.args.file.now c.in-Ok.sectors _ walked.new.cells walked.new.marks c.in-Ok.ensures told.0 in
    (answered.0, answered.1, told.1 ∙ ap (λ (k : ℕ). replicate k 0) words)

pub returns-in-Err : goal.returns-in-Err
returns-in-Err c =
    let walked = c.walk_file-walked in
    let words : length walked.new.marks ≡ word_limit = walked.auto.marks ∙ c.fill.auto.self ∙ c.requires.marks in
    let long : length walked.new.cells ≡ cell_limit = walked.auto.cells ∙ ap length c.requires.cells ∙ length-replicate {A = ℕ} cell_limit 0 in
    let answered =
    cleared_refused (reading c.args.file.now) c.in-Err.refusal c.fill-in-Err.new.self c.in-Err.ensures
    (c.fill-in-Err.ensures.after (λ y e. e) ∙ ap (λ (k : ℕ). replicate k 0) long) in
    (answered.0, answered.1, c.take_total-named.ensures.1 ∙ ap (λ (k : ℕ). replicate k 0) words)
