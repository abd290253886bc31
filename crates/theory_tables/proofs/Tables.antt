-- What the checks of a table say of it. Assumes nothing.
use mathlib.Core.Path.{◌≡◌, refl, ap, ap₂, subst, ◌∙◌}
use mathlib.Core.Bool.{Bool, true, false}
use mathlib.Core.List.{List, [], ◌∷◌, ◌++◌, map}
use Prim.Native.Nat.{ℕ, zero, suc, ◌+◌, ◌*◌, ◌-◌, ◌/◌, ◌%◌, ◌≤◌, ◌<◌, zero-le, suc-le-suc}
use native.Mathlib.Nat.{not-suc-le-zero, le_of_suc-le-suc, zero-lt-suc}
use native.Mathlib.Omega.{arith}
use borrow.Author.Tests.{leb-true, eqb-true, ltb-true, ltb-false, le-leb, eq-eqb}
use lib.Dec.{ltb}
use lib.ListN.{length, get_or, get_or-eq_default}
use Rattle.model.specs.Numbers.{one, sum, cell, at, matrix, transposed}
use Rattle.model.specs.Table.{Table, final_demand, exports, imports, value_added, production, adjustment, adjusted_exports, flow, need, portion, input_coefficient, value_added_coefficient, import_coefficient, domestic_coefficient}
use Rattle.model.specs.Checks.{size, lengths, bounded, counted_on, amount_limit, demand_limit, table_amounts, balance_checks}
use Rattle.model.specs.Calls.{table_checks, input_coefficients, value_added_coefficients, import_coefficients, domestic_coefficients, table_demand}
use Rattle.model.specs.Promises.{NearestShares}
use Rattle.theory.specs.Slices.{Each, Columns}
use Rattle.theory_tables.specs.Tables.{TableSizes, TableAmounts}
use Rattle.theory.proofs.Lists.{cell-tabulate, tabulate_cong, equal_each}
use Rattle.theory.proofs.Sums.{sum-cell}
use Rattle.theory.proofs.Matrices.{place_row, place_column, place_cell, matrix-cell}
use Rattle.theory.proofs.Shares.{share-nearest}
use Rattle.theory_tables.proofs.Demands.{demand_small}
use Rattle.theory.proofs.Verdicts.{Passes, AllPass, all_pass_parts, all_pass_both, sized, size_passes, lengths_pass}

-- every length of a list of slices, and of what follows them
pub slice_lengths : (n : ℕ) (ss : List (List ℕ)) (lent : List ℕ) → Each n (map length ss ++ lent) → Columns n ss × Each n lent
slice_lengths n [] lent e = (λ c h. absurd (not-suc-le-zero h), e)
slice_lengths n (s ∷ ss) lent (e, es) = let p = slice_lengths n ss lent es in (one_more e p.0, p.1)
  where
    one_more : length s ≡ n → Columns n ss → (c : ℕ) → c < suc (length ss) → length (get_or (s ∷ ss) c []) ≡ n
    one_more e more zero h = e
    one_more e more (suc c) h = more c (le_of_suc-le-suc h)

-- and the other way round
pub lengths-each : (n : ℕ) (ss : List (List ℕ)) (lent : List ℕ) → Columns n ss → Each n lent → Each n (map length ss ++ lent)
lengths-each n [] lent c e = e
lengths-each n (s ∷ ss) lent c e = (c 0 (zero-lt-suc (length ss)), lengths-each n ss lent (λ k h. c (suc k) (suc-le-suc h)) e)

pub table_sizes : (t : Table) (matrices lent : List ℕ) → Passes (size t.sectors)
    → Passes (lengths t.sectors (length t.flows ∷ matrices) (map length t.columns ++ lent))
    → TableSizes t × Each (t.sectors * t.sectors) matrices × Each t.sectors lent
table_sizes t matrices lent p q =
    let n = t.sectors in
    let s = sized n (length t.flows ∷ matrices) (map length t.columns ++ lent) p q in
    let l = slice_lengths n t.columns lent s.slices in
    (record { some = s.some; few = s.few; flows = s.squares.0; columns = l.0 }, s.squares.1, l.1)

-- and the other way round
pub sizes_pass : (t : Table) (matrices lent : List ℕ) → TableSizes t → Each (t.sectors * t.sectors) matrices → Each t.sectors lent
    → Passes (size t.sectors) × Passes (lengths t.sectors (length t.flows ∷ matrices) (map length t.columns ++ lent))
sizes_pass t matrices lent z is-squares is-slices =
    let n = t.sectors in
    let squares = length t.flows ∷ matrices in
    let slices = map length t.columns ++ lent in (
      size_passes n squares slices z.some z.few,
      lengths_pass n squares slices (equal_each (n * n) squares (z.flows, is-squares)) (equal_each n slices (lengths-each n t.columns lent z.columns is-slices)),
    )

-- a cell of a bounded slice, and of any of slices with one limit
pub bounded-cell : (place limit : ℕ) (s : List ℕ) → Passes (bounded 3 place limit s) → (k : ℕ) → cell s k ≤ limit
bounded-cell place limit s p k = split (ltb k (length s)) refl
  where
    split : (b : Bool) → ltb k (length s) ≡ b → cell s k ≤ limit
    split true e = leb-true (cell s k) limit (p k (ltb-true k (length s) e))
    split false e = rw (get_or-eq_default s 0 (ltb-false k (length s) e)) zero-le

counted_cell : (place limit : ℕ) (ss : List (List ℕ)) → AllPass (counted_on place (map (bounded 3 0 limit) ss)) → (c k : ℕ) → cell (get_or ss c []) k ≤ limit
counted_cell place limit [] p c k = zero-le
counted_cell place limit (s ∷ ss) p zero k = bounded-cell place limit s p.0 k
counted_cell place limit (s ∷ ss) p (suc c) k = counted_cell (place + length s) limit ss p.1 c k

pub table_amounts_lem : (t : Table) → AllPass (table_amounts t) → TableAmounts t
table_amounts_lem t p =
    let small = counted_cell 0 amount_limit (t.flows ∷ t.columns) p in
    record { flows = small 0; columns = λ c. small (suc c) }

-- and the other way round: amounts that are within the limit pass
counted_passes : (place limit : ℕ) (ss : List (List ℕ)) → ((c k : ℕ) → cell (get_or ss c []) k ≤ limit) → AllPass (counted_on place (map (bounded 3 0 limit) ss))
counted_passes place limit [] small = tt
counted_passes place limit (s ∷ ss) small =
    (λ k h. le-leb (cell s k) limit (small 0 k), counted_passes (place + length s) limit ss (λ c. small (suc c)))

pub amounts_pass : (t : Table) → TableAmounts t → AllPass (table_amounts t)
amounts_pass t a = counted_passes 0 amount_limit (t.flows ∷ t.columns) small
  where
    small : (c k : ℕ) → cell (get_or (t.flows ∷ t.columns) c []) k ≤ amount_limit
    small zero k = a.flows k
    small (suc c) k = a.columns c k

-- questions 16, 4, 5 and 6 pass
pub record Balanced (t : Table) : Type 0 where
  pub abroad : (i : ℕ) → i < t.sectors → adjusted_exports (exports t) (adjustment t) i ≤ amount_limit
  pub columns : (j : ℕ) → j < t.sectors → sum t.sectors (transposed (flow t) j) + cell (value_added t) j ≡ cell (production t) j
  pub rows : (i : ℕ) → i < t.sectors → need t i + adjusted_exports (exports t) (adjustment t) i ≡ cell (production t) i + cell (imports t) i
  pub covered : (i : ℕ) → i < t.sectors → cell (imports t) i ≤ need t i

pub balanced : (t : Table) → AllPass (balance_checks t) → Balanced t
balanced t (e, (c, (r, (m, _)))) =
    record {
      abroad = λ i h. leb-true _ _ (e i h);
      columns = λ j h. eqb-true _ _ (c j h);
      rows = λ i h. eqb-true _ _ (r i h);
      covered = λ i h. leb-true _ _ (m i h);
    }

balance_passes : (t : Table) → Balanced t → AllPass (balance_checks t)
balance_passes t b = (
  λ i h. le-leb _ _ (b.abroad i h),
  (λ j h. eq-eqb _ _ (b.columns j h), (λ i h. eq-eqb _ _ (b.rows i h), (λ i h. le-leb _ _ (b.covered i h), tt))),
)

-- Theorem, for the reader: with 3, 5 and 6 answered yes, so is 16. It refuses no table that would be accepted without it
pub exports_follow : (t : Table) → TableAmounts t → (i : ℕ) → need t i + adjusted_exports (exports t) (adjustment t) i ≡ cell (production t) i + cell (imports t) i → cell (imports t) i ≤ need t i
    → adjusted_exports (exports t) (adjustment t) i ≤ amount_limit
exports_follow t a i row covered = omega (arith, a.columns 4 i, row, covered)

-- a table that passes questions 1 to 6 and 16, and the slices that are lent beside it
pub record Accepted (t : Table) (matrices lent : List ℕ) : Type 0 where
  pub sizes : TableSizes t
  pub small : TableAmounts t
  pub balance : Balanced t
  pub squares : Each (t.sectors * t.sectors) matrices
  pub slices : Each t.sectors lent

pub accepted_table : (t : Table) (matrices lent : List ℕ) → AllPass (table_checks t matrices lent) → Accepted t matrices lent
accepted_table t matrices lent (p, (q, rest)) =
    let z = table_sizes t matrices lent p q in
    let r = all_pass_parts (table_amounts t) (balance_checks t) rest in
    record {
      sizes = z.0;
      small = table_amounts_lem t r.0;
      balance = balanced t r.1;
      squares = z.1;
      slices = z.2;
    }

pub table_passes : (t : Table) (matrices lent : List ℕ) → Accepted t matrices lent → AllPass (table_checks t matrices lent)
table_passes t matrices lent A =
    let s = sizes_pass t matrices lent A.sizes A.squares A.slices in
    (s.0, (s.1, all_pass_both (table_amounts t) (balance_checks t) (amounts_pass t A.small) (balance_passes t A.balance)))

-- ---- an accepted table's shares are to the nearest millionth, and its demands within their limit
module _ (t : Table) (b : Balanced t) where
  pub nearest_shares : NearestShares t (input_coefficients t) (value_added_coefficients t) (import_coefficients t)
  unfolding input_coefficients input_coefficient value_added_coefficients value_added_coefficient import_coefficients import_coefficient
  nearest_shares =
      let n = t.sectors in
      record {
        inputs = λ i j h l.
            rw (matrix-cell n (input_coefficient t) i j h l)
            (share-nearest (flow t i j) (cell (production t) j) (omega (arith, sum-cell n (transposed (flow t) j) i h, b.columns j l)));
        values = λ j l. rw (cell-tabulate n (value_added_coefficient t) j l) (share-nearest (cell (value_added t) j) (cell (production t) j) (omega (arith, b.columns j l)));
        imported = λ i h. rw (cell-tabulate n (import_coefficient t) i h) (share-nearest (cell (imports t) i) (need t i) (b.covered i h));
      }

  -- with G in it too f is within the limit of question 8
  pub demands_small : TableAmounts t → (i : ℕ) → i < t.sectors → cell (table_demand t) i ≤ demand_limit
  demands_small a i h = demand_small t.sectors (import_coefficients t) (final_demand t) (exports t) (adjustment t) i h (a.columns 0 i) (b.abroad i h)

-- ---- the sheets, as they are worked out one from the other
module _ (t : Table) where
  pub input_cell : (k : ℕ) → k < t.sectors * t.sectors → cell (input_coefficients t) k ≡ input_coefficient t (k / t.sectors) (k % t.sectors)
  unfolding input_coefficients
  input_cell k h = cell-tabulate (t.sectors * t.sectors) (λ k. input_coefficient t (k / t.sectors) (k % t.sectors)) k h

  pub import_cell : (i : ℕ) → i < t.sectors → cell (import_coefficients t) i ≡ import_coefficient t i
  unfolding import_coefficients
  import_cell i h = cell-tabulate t.sectors (import_coefficient t) i h

  domestic_is : 1 ≤ t.sectors
      → matrix t.sectors (λ i j. portion (one - cell (import_coefficients t) i) (at t.sectors (input_coefficients t) i j)) ≡ domestic_coefficients t
  unfolding domestic_coefficients domestic_coefficient
  domestic_is some =
      let n = t.sectors in
      tabulate_cong (n * n)
      (λ k h.
      ap₂ portion (ap (λ (m : ℕ). one - m) (import_cell (k / n) (place_row n k some h)))
      (place_cell n (input_coefficients t) k ∙ input_cell k h))

pub domestic_from : (t : Table) {a m : List ℕ} → 1 ≤ t.sectors → a ≡ input_coefficients t → m ≡ import_coefficients t
    → matrix t.sectors (λ i j. portion (one - cell m i) (at t.sectors a i j)) ≡ domestic_coefficients t
domestic_from t some e f = rw (e, f) (domestic_is t some)

-- the cells of a, in their places, are within one
pub inputs_small : (t : Table) → 1 ≤ t.sectors → Balanced t → (k : ℕ) → k < t.sectors * t.sectors → cell (input_coefficients t) k ≤ one
inputs_small t some b k h =
    let n = t.sectors in
    subst (λ (a : ℕ). a ≤ one) (place_cell n (input_coefficients t) k)
    ((nearest_shares t b).inputs (k / n) (k % n) (place_row n k some h) (place_column n k some)).within_one
