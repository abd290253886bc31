-- The ones of the mark words count the named cells. Assumes nothing.
use mathlib.Core.List.{List, [], ◌∷◌}
use mathlib.Core.Path.{◌≡◌, refl, sym, ap, ◌∙◌, subst}
use Prim.Native.Nat.{ℕ, suc, ◌≤◌, ◌<◌}
use native.Mathlib.Nat.{one-mul}
use native.Mathlib.Numerals.{add-one}
use native.Mathlib.Omega.{arith}
use lib.Dec.{eqb}
use lib.ListN.{length}
use Rattle.model.specs.Numbers.{cell, bit, word_positions, set_positions}
use Rattle.model.specs.Table.{sector_limit}
use Rattle.model.specs.File.{Entry, named_before, marked, mark_total, word_limit, Reading, reading}
use Rattle.theory.proofs.Sums.{sum_cong}
use Rattle.theory.proofs.Bits.{bit_lt, each-bit}
use Rattle.theory_files.specs.Files.{input_limit}
use Rattle.theory_files.proofs.Counts.{indicator, place, count, tally, tally_more}
use Rattle.theory_files.proofs.Readings.{AllWithin, Distinct, Answered, reading_answered}

-- a bit that is set is 1, and one that is not is 0
bit_indicator : (b : ℕ) → b < 2 → b ≡ indicator (eqb b 1)
bit_indicator = each-bit (λ b. b ≡ indicator (eqb b 1)) refl refl

-- each named cell counts once
tally_ones : (n : ℕ) → n ≤ sector_limit → (es : List Entry) → AllWithin n es → Distinct es → tally word_positions (λ _. 1) es ≡ length es
unfolding tally
tally_ones n few [] w d = refl
tally_ones n few (e ∷ es) w d =
    let p = w.0.place in
    tally_more e es d.0 word_positions (omega arith) (λ _. 1) w.0.known ∙ add-one _ ∙ ap suc (tally_ones n few es w.1 d.1)

-- Theorem, for the reader: where the marks are those of the cells that an accepted file names, their ones are as many as these cells
pub named_total : (s : List ℕ) (n : ℕ) (es : List Entry) → reading s ≡ Reading.table n es
    → (marks : List ℕ) → ((e : Entry) → marked marks e.word e.position ≡ named_before es e) → mark_total marks ≡ length es
unfolding mark_total set_positions marked tally
named_total s n es r marks same =
    let a : Answered input_limit (Reading.table n es) = subst (Answered input_limit) r (reading_answered s) in
    sum_cong word_limit (λ w _.
    sum_cong word_positions (λ p _.
    bit_indicator (bit (cell marks w) p) (bit_lt (cell marks w) p) ∙ ap indicator (same (place w p)))
    ∙ sym (one-mul (count word_positions es w)))
    ∙ tally_ones n a.1 es a.2 a.3
