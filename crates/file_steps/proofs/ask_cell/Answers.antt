-- A record that names a cell has its bytes, and names a cell that the table has. Assumes nothing.
use Rattle.std.proofs.Common.{arith}
use Rattle.std.proofs.lemmas.Bool.Decides.{nat_tests}
use Rattle.model.specs.File.{walk_with}
use Rattle.file_records.specs.Bodies.{entry_of}
use Rattle.file_steps.proofs.NameLaws.{bodied, names_of}
use Rattle.file_steps.proofs.ask_cell.Goals as goal

pub step_at-requires-clause-body : goal.step_at-requires-clause-body
step_at-requires-clause-body c = bodied c.args.file.now c.args.at c.requires.whole c.requires.naming

pub returns : goal.returns
unfolding walk_with
returns c =
    let a = c.args in
    let step = c.in_ok-step.step in
    let named = c.in_ok-step.ensures in (
      λ fuel es agrees. grind (arith, nat_tests),
      names_of a.file.now a.at c.requires.whole c.requires.naming a.n c.requires.few named.0 (entry_of step.cell) named.1 step.next named.3,
    )
