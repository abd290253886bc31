-- The total fits, and is not 0.
use Rattle.std.proofs.Common.{ℕ, ◌*◌, ◌/◌, arith, ap₂, ◌∙◌, le_refl}
use Rattle.model.specs.Numbers.{one}
use Rattle.theory.proofs.Lists.{over_set, tabulated}
use Rattle.inverse_ratios.proofs.Dispersion.{total_is, total_small}
use Rattle.inverse_ratios.proofs.fill_ratios.Goals as goal

pub total-total-requires : goal.total-total-requires
total-total-requires c = omega (arith, total_small c.requires)

pub loop-sum-preserved : goal.loop-sum-preserved
loop-sum-preserved c =
    let a = c.args in
    let l = c.loop-sum in
    let ratio = ap₂ (λ (s t : ℕ). s * a.n * one / t) (l.invariant.1 l.sum-index (le_refl _)) (c.total-total.ensures ∙ total_is c.requires) in
    over_set l.sums l.sum-index _ a.sums.now _ (omega arith) ratio l.invariant

pub returns : goal.returns
returns c = tabulated c.args.n c.loop-sum.sum-index _ c.loop-sum.sums (omega arith) (omega arith) c.loop-sum.invariant.0
