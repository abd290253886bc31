-- `out` has the amounts after `done` rounds, each of which changed a sector.
use Rattle.std.proofs.Common.{true, ◌≡◌, ◌+◌}
use Rattle.model.specs.Rounds.{rounds, changes}
use Rattle.theory.proofs.Lists.{All}
use Rattle.theory_rounds.specs.Bounds.{Narrow}
use Rattle.cells.specs.Sheets.{sheet_of}
use Rattle.settle_sums.specs.Sums.{Carried}
use Rattle.settle_loop.proofs.run_turns.Given as goal

abbrev pub invariant-loop-done : goal.invariant-loop-done
invariant-loop-done l =
    record {
      amounts : l.out ≡ rounds l.d.sectors (sheet_of l.d) l.start l.done;
      changed : All (changes l.d.sectors (sheet_of l.d) l.start) (l.done + 1);
      carried : Carried l.d l.increments l.sums l.out;
      told : l.narrow ≡ true → Narrow l.increments;
    }
