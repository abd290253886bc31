-- The sums are those of the amounts, so what follows of them and the start is the round.
use Rattle.std.proofs.Common.{List, ℕ, ◌≡◌, ◌+◌, ◌-◌, ◌<◌, sym, ap, ◌∙◌, arith, le_refl}
use Rattle.model.specs.Numbers.{cell, tabulate}
use Rattle.model.specs.Rounds.{round}
use Rattle.theory.proofs.Lists.{tabulated, tabulate_cong}
use Rattle.theory_rounds.proofs.Rounds.{intermediate-within, round_cell, length_round}
use Rattle.cells.specs.Sheets.{sheet_of}
use Rattle.cells.specs.declared.matrix.Matrix.{Matrix}
use Rattle.settle_sums.specs.Sums.{SumsOf}
use Rattle.settle_sums.proofs.Carrying.{carried_on, has_sum, taken_is}
use Rattle.settle_round.specs.Advance.{advanced}
use Rattle.settle_round.proofs.turn.Goals as goal

module _ {d : Matrix} {sums y : List ℕ} (σ : SumsOf d sums y) (start : List ℕ) where
  cell_made : (i : ℕ) → i < d.sectors → advanced start sums i ≡ cell (round d.sectors (sheet_of d) start y) i
  cell_made i h = ap (λ (x : ℕ). cell start i + x) (taken_is σ i h) ∙ sym (round_cell d.sectors (sheet_of d) start y i h)

  made : tabulate d.sectors (advanced start sums) ≡ round d.sectors (sheet_of d) start y
  made = sym (tabulated d.sectors d.sectors (advanced start sums) (round d.sectors (sheet_of d) start y) (length_round d.sectors (sheet_of d) start y) (le_refl _) (λ i h. sym (cell_made i h)))

pub advance-requires-clause-taken : goal.advance-requires-clause-taken
advance-requires-clause-taken c =
    let a = c.args in
    let σ = c.add_increments.ensures a.out.now c.requires.carried in
    λ i h.
    (has_sum σ i h, omega (arith, taken_is σ i h, intermediate-within a.d.now.sectors (sheet_of a.d.now) (cell a.out.now) i, c.requires.sums i h))

pub advance-requires-clause-rising : goal.advance-requires-clause-rising
advance-requires-clause-rising c =
    let σ = c.add_increments.ensures c.args.out.now c.requires.carried in
    λ i h. (c.requires.starts i h, rw (cell_made σ c.args.start.now i h) (c.requires.rising i h))

pub returns-clause-moved : goal.returns-clause-moved
returns-clause-moved c =
    let σ = c.add_increments.ensures c.args.out.now c.requires.carried in
    rw (made σ c.args.start.now) at c.advance.ensures.moved

pub returns-clause-amounts : goal.returns-clause-amounts
returns-clause-amounts c =
    let σ = c.add_increments.ensures c.args.out.now c.requires.carried in
    c.advance.ensures.amounts ∙ made σ c.args.start.now

pub returns-clause-carried : goal.returns-clause-carried
returns-clause-carried c =
    let a = c.args in
    let σ = c.add_increments.ensures a.out.now c.requires.carried in
    let rose = tabulate_cong a.d.now.sectors (λ i h. ap (λ (x : ℕ). x - cell a.out.now i) (cell_made σ a.start.now i h)) in
    rw (c.advance.ensures.amounts, made σ a.start.now) (carried_on σ _ _ c.requires.rising (c.advance.ensures.increments ∙ rose))
