-- The ratios of the sums.
use Rattle.std.proofs.Common.{◌∙◌, arith}
use Rattle.inverse_ratios.proofs.Dispersion.{ratios_of}
use Rattle.inverse_ratios.proofs.fill_dispersion.Goals as goal

pub returns : goal.returns
returns g c sheet same =
    c.fill_ratios.ensures ∙ ratios_of c.args.n c.loop-i.out sheet (λ k h. same k _ h (c.loop-i.invariant k (omega arith)))
