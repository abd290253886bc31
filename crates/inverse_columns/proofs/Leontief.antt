-- The Leontief inverse, written column by column. Assumes nothing.
use mathlib.Core.Bool.{Bool, true, false, cond}
use mathlib.Core.List.{List, [], ◌∷◌, ◌++◌}
use mathlib.Core.Path.{◌≡◌, refl, sym, ap, ◌∙◌}
use Prim.Native.Nat.{ℕ, ◌+◌, ◌*◌, ◌≤◌, ◌<◌, max}
use native.Mathlib.Nat.{le_refl, le_antisymm, lt_of_lt_of_le}
use native.Mathlib.Numerals.{add-one}
use native.Mathlib.Omega.{arith}
use borrow.Author.Count.{below_more, below_none}
use borrow.Author.Tests.{eqb-true, eqb-false}
use lib.Dec.{eqb}
use lib.ListN.{length, set, replicate, take, length-set, get_or-replicate}
use lib.Seq.{length-take-le, get_or-take, get_or-set_same, get_or-set_other}
use Rattle.std.specs.Prelude.{Result, Ok, Err}
use Rattle.model.specs.Numbers.{one, largest, cell, at}
use Rattle.model.specs.Table.{sector_limit}
use Rattle.model.specs.Rounds.{settling, settled, unit, inverse, inverse_rounds}
use Rattle.model.specs.Checks.{accepts, refuses, report_rounds, verdict, output, settles, columns_settle}
use Rattle.model.specs.Calls.{matrix_checks, inverse_report}
use Rattle.model.specs.Promises.{AcceptedMatrix}
use Rattle.model.specs.Questions.{number}
use Rattle.model.specs.declared.Refusal.{Refusal}
use Rattle.theory.specs.Slices.{Each}
use Rattle.inverse_columns.specs.Filling.{ColumnFilled}
use Rattle.theory.proofs.Lists.{All, all_none, all_more, length-tabulate, tabulated}
use Rattle.theory.proofs.Matrices.{matrix-cell, matrix_made}
use Rattle.theory.proofs.Verdicts.{passed, failed_each, single_accepted, single_refused, accepted_all, all_pass_parts, accepted_matrix}

-- ---- the demand of one in sector j
module _ (n j : ℕ) where
  -- as the first n cells of an array
  pub unit_made : n ≤ sector_limit → j < n → take n (set (replicate sector_limit 0) j one) ≡ unit n j
  unfolding unit
  unit_made few h =
      tabulated n n (λ i. cond (eqb i j) one 0) (take n array) (length-take-le n array (omega (arith, whole))) (le_refl n)
      (λ k l. get_or-take n array k 0 l ∙ split k (lt_of_lt_of_le l few) (eqb k j) refl)
    where
      array : List ℕ
      array = set (replicate sector_limit 0) j one

      whole : length array ≡ sector_limit
      whole = length-set (replicate sector_limit 0) j one

      split : (k : ℕ) → k < sector_limit → (b : Bool) → eqb k j ≡ b → cell array k ≡ cond b one 0
      split k l true e = rw (eqb-true k j e) (get_or-set_same (replicate sector_limit 0) j one 0 (lt_of_lt_of_le h few))
      split k l false e = get_or-set_other (replicate sector_limit 0) j k one 0 (eqb-false k j e) ∙ get_or-replicate sector_limit k 0 0 l

module _ (n : ℕ) (d : List ℕ) (budget : ℕ) where
  -- column j of the inverse, and its count of rounds
  abbrev column : ℕ → List ℕ
  column j = settled n (at n d) (unit n j) budget

  abbrev count : ℕ → ℕ
  count j = settling n (at n d) (unit n j) budget

  pub inverse-cell : (i j : ℕ) → i < n → j < n → at n (inverse n d budget) i j ≡ cell (column j) i
  unfolding inverse
  inverse-cell i j h l = matrix-cell n (λ i j. cell (column j) i) i j h l

  pub length-inverse : length (inverse n d budget) ≡ n * n
  unfolding inverse
  length-inverse = length-tabulate (n * n) _

  -- the columns before j stand in the sheet, and `most` is the largest of their counts
  pub record Filled (j : ℕ) (sheet : List ℕ) (most : ℕ) : Type 0 where
    pub cells : length sheet ≡ n * n
    pub counts : most ≡ largest j count
    pub settle : All (columns_settle n d budget).passes j
    pub columns : (k : ℕ) → k < j → (i : ℕ) → i < n → at n sheet i k ≡ cell (column k) i

  pub filled_none : (sheet : List ℕ) → length sheet ≡ n * n → Filled 0 sheet 0
  filled_none sheet e =
      record { cells = e; counts = refl; settle = all_none (columns_settle n d budget).passes; columns = below_none _ }

  module _ {j : ℕ} {sheet : List ℕ} {most : ℕ} (F : Filled j sheet most) {r : Result ℕ Refusal} {after : List ℕ} (C : ColumnFilled n d budget j sheet (report_rounds r) after) where
    -- one column more
    pub filled_more : {k m : ℕ} → r ≡ Ok k → m ≡ max most k → length after ≡ length sheet → Filled (j + 1) after m
    filled_more {k} e g l =
        let p = single_accepted 9 (count j) k (settles n (at n d) (unit n j) budget) (sym (ap report_rounds e) ∙ C.answer) in
        record {
          cells = l ∙ F.cells;
          counts = g ∙ rw (add-one, F.counts, p.1);
          settle = all_more (columns_settle n d budget).passes j F.settle p.0;
          columns = below_more (λ k. (i : ℕ) → i < n → at n after i k ≡ cell (column k) i) j
              (λ k h i m. C.kept i k h ∙ F.columns k h i m)
              (λ i m. C.column i m ∙ ap (λ (o : Result ℕ Refusal). cell (output (report_rounds o) n (column j)) i) e);
        }

    -- the first that does not settle
    pub filled_stop : {q : Refusal} → j < n → r ≡ Err q → refuses 1 9 j ≡ verdict (columns_settle n d budget ∷ []) (inverse_rounds n d budget ∷ [])
    filled_stop {q} h e =
        sym (failed_each 9 n (columns_settle n d budget).passes [] (inverse_rounds n d budget ∷ []) j h F.settle
        (single_refused 9 (count j) (number q.question) q.place (settles n (at n d) (unit n j) budget) (sym (ap report_rounds e) ∙ C.answer)))

  -- all of them
  pub filled_all : {j : ℕ} {sheet : List ℕ} {most : ℕ} → Filled j sheet most → 1 ≤ n → j ≤ n → n ≤ j
      → (accepts (most ∷ []) ≡ verdict (columns_settle n d budget ∷ []) (inverse_rounds n d budget ∷ [])) × (sheet ≡ inverse n d budget)
  unfolding inverse inverse_rounds
  filled_all {j} {sheet} {most} F some h l = (
    ap (λ (k : ℕ). accepts (k ∷ [])) (F.counts ∙ ap (λ (k : ℕ). largest k count) (le_antisymm h l))
        ∙ sym (passed (columns_settle n d budget) [] (inverse_rounds n d budget ∷ []) j l F.settle),
    matrix_made n (λ i j. cell (column j) i) sheet some F.cells (λ i k g m. F.columns k (lt_of_lt_of_le m l) i g),
  )

  -- an accepted call: the matrix is accepted, and the ratios have their lengths
  pub accepted_inverse : (matrices lent : List ℕ) → (inverse_report n d budget matrices lent).accepted ≡ true
      → AcceptedMatrix n d × Each n lent
  unfolding inverse_report
  accepted_inverse matrices lent a =
      let ninth = columns_settle n d budget ∷ [] in
      accepted_matrix n d matrices lent
      (all_pass_parts (matrix_checks n d matrices lent) ninth (accepted_all (matrix_checks n d matrices lent ++ ninth) (inverse_rounds n d budget ∷ []) a)).0
