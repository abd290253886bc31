use Rattle.std.proofs.Common.{List, ℕ, ◌≡◌, ◌+◌, ◌^◌, ◌<◌, length, sum_by, map, drop}
use Rattle.model.specs.Checks.{verdict, bounded, counted_on}
use Rattle.checks.proofs.parts_within.Given as goal

-- the places of the parts that are left fit, and what is left to ask is asked of these, counted on from the offset
abbrev pub invariant-loop-part : goal.invariant-loop-part
invariant-loop-part l = record {
  fits : l.offset + sum_by (λ p. length p.cells.now) (drop l.part-index l.parts) < 2 ^ 64;
  asked : (ks : List ℕ) → verdict (counted_on l.first (map (λ p. bounded 3 0 p.limit p.cells.now) l.parts)) ks
      ≡ verdict (counted_on l.offset (map (λ p. bounded 3 0 p.limit p.cells.now) (drop l.part-index l.parts))) ks;
}
