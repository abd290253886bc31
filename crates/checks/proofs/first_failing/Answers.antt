use Rattle.std.proofs.Common.{rules, sym, arith}
use mathlib.Core.Path.{◌∙◌}
use Rattle.theory.proofs.Verdicts.{scan_failed, scan_passed, scan_more}
use Rattle.checks.proofs.first_failing.Goals as goal

pub returns-then-not-passes : goal.returns-then-not-passes
returns-then-not-passes g c q p same =
    let e = same c.loop-i.i c.passes.result (omega arith) c.passes.ensures in
    (scan_failed (c.loop-i.invariant q p same) (omega arith) (sym e ∙ search rules))

pub loop-i-preserved : goal.loop-i-preserved
loop-i-preserved g c q p same =
    let e = same c.loop-i.i c.passes.result (omega arith) c.passes.ensures in
    scan_more (c.loop-i.invariant q p same) (omega arith) (sym e ∙ search rules)

pub returns : goal.returns
returns g c q p same = scan_passed (c.loop-i.invariant q p same) (omega arith)
