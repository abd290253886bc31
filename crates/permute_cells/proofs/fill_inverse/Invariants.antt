-- The cells below s are the places of their sectors.
use Rattle.model.specs.Permutation.{place_of}
use Rattle.theory.proofs.Lists.{Front}
use Rattle.permute_cells.proofs.fill_inverse.Given as goal

abbrev pub invariant-loop-s : goal.invariant-loop-s
invariant-loop-s l = Front l.n (place_of l.n l.order) l.inverse l.s
