-- What the checks of `domestic_demand` say of its slices, and what the call promises of its answer and of what it leaves in its output. Assumes nothing.
use mathlib.Core.Bool.{true}
use mathlib.Core.List.{List, [], ◌∷◌, ◌++◌}
use mathlib.Core.Path.{◌≡◌, refl, sym, ap, ◌∙◌, subst⁻¹}
use Prim.Native.Nat.{ℕ, ◌+◌, ◌≤◌, ◌<◌}
use native.Mathlib.Nat.{le_refl, le_trans}
use borrow.Author.Tests.{le-leb, leb-true}
use lib.Dec.{leb, lit<}
use lib.ListN.{length}
use Rattle.model.specs.Numbers.{one, cell, at}
use Rattle.model.specs.Table.{table_by, adjusted_exports, domestic_demand}
use Rattle.model.specs.Rounds.{settling, impact_rounds}
use Rattle.model.specs.Checks.{Report, accepts, verdict, output, size, lengths, amount_limit, demand_limit, demand_amounts, exports_within, demand_checks, both_settle, production_budget}
use Rattle.model.specs.Calls.{coefficients_report, import_coefficients, domestic_demand_checks, domestic_demand_report, matrix_checks, impact_report}
use Rattle.model.specs.Promises.{AcceptedMatrix, NowhereBelow, added, OrderedInside}
use Rattle.model.specs.CallContracts.{Demanded}
use Rattle.theory.specs.Slices.{Each}
use Rattle.theory.proofs.Lists.{equal_each}
use Rattle.theory.proofs.Verdicts.{Passes, AllPass, accepted_all, all_accepted, all_pass_both, all_pass_parts, output_given, sized, size_passes, lengths_pass, matrix_accepted}
use Rattle.theory_budgets.proofs.Budgets.{production_settles}
use Rattle.theory_tables.proofs.Demands.{length_demand, demand_small, demand_rises, demand_parts}
use Rattle.theory_tables.proofs.Tables.{bounded-cell, nearest_shares}
use Rattle.theory_tables.proofs.Prepared.{length_imports, table_accepted}

-- questions 1 and 2 pass
pub record DemandSizes (n : ℕ) (m F E G lent : List ℕ) : Type 0 where
  pub shares : length m ≡ n
  pub demand : length F ≡ n
  pub exports : length E ≡ n
  pub adjustment : length G ≡ n
  pub slices : Each n lent

-- question 3 passes; past the end of a slice a cell is 0
pub record DemandAmounts (m F E G : List ℕ) : Type 0 where
  pub shares : (k : ℕ) → cell m k ≤ one
  pub amounts : (k : ℕ) → (cell F k ≤ amount_limit) × (cell E k ≤ amount_limit) × (cell G k ≤ amount_limit)

module _ (n : ℕ) (m F E G lent : List ℕ) where
  abbrev columns : List ℕ
  columns = length m ∷ length F ∷ length E ∷ length G ∷ lent

  pub demand_sizes : Passes (size n) → Passes (lengths n [] columns) → DemandSizes n m F E G lent
  demand_sizes p q =
      let (m', (F', (E', (G', rest)))) = (sized n [] columns p q).slices in
      record { shares = m'; demand = F'; exports = E'; adjustment = G'; slices = rest }

  pub demand_amounts_lem : AllPass (demand_amounts m F E G) → DemandAmounts m F E G
  demand_amounts_lem (m', (F', (E', (G', _)))) =
      record {
        shares = bounded-cell 0 one m m';
        amounts = λ k.
            (bounded-cell (length m) amount_limit F F' k, bounded-cell (length m + length F) amount_limit E E' k, bounded-cell (length m + length F + length E) amount_limit G G' k);
      }

  -- and 16
  pub record DemandGiven : Type 0 where
    pub sizes : DemandSizes n m F E G lent
    pub small : DemandAmounts m F E G
    pub abroad : (i : ℕ) → i < n → adjusted_exports E G i ≤ amount_limit

  pub accepted_demand : {r : Report} → r ≡ domestic_demand_report n m F E G lent → r.accepted ≡ true → DemandGiven
  unfolding domestic_demand_report
  accepted_demand answer ok =
      let p = accepted_all (domestic_demand_checks n m F E G lent) [] (sym (ap (λ (q : Report). q.accepted) answer) ∙ ok) in
      let q = all_pass_parts (demand_amounts m F E G) (exports_within n E G ∷ []) p.1.1 in
      record {
        sizes = demand_sizes p.0 p.1.0;
        small = demand_amounts_lem q.0;
        abroad = λ i h. leb-true _ _ (q.1.0 i h);
      }

-- and the demands of two final demands, the second nowhere below the first: within the limit of question 8, and not falling
module _ (n : ℕ) (m before F E G lent : List ℕ) (g : DemandGiven n m F E G lent) where
  demand_within : (H : List ℕ) → NowhereBelow n H F → (i : ℕ) → i < n → cell (domestic_demand n m H E G) i ≤ demand_limit
  demand_within H below i h = demand_small n m H E G i h (le_trans (below i h) (g.small.amounts i).0) (g.abroad i h)

  own_within : (i : ℕ) → i < n → cell (domestic_demand n m F E G) i ≤ demand_limit
  own_within = demand_within F (λ i h. le_refl (cell F i))

  demands_pass : NowhereBelow n before F → AllPass (demand_checks n (domestic_demand n m before E G) (domestic_demand n m F E G))
  demands_pass grows = (
    λ i h. le-leb _ _ (demand_within before grows i (rw (length_demand n m before E G) at h)),
    (
      λ i h. le-leb _ _ (own_within i (rw (length_demand n m F E G) at h)),
      (λ i h. le-leb _ _ (demand_rises n m before F E G grows i h), tt),
    ),
  )

  -- Theorem, for the reader: so what a scheme adds is never refused. On an accepted sheet, with a budget that settles every production, `impact` accepts
  -- the two
  pub scheme_accepted : {d : List ℕ} → AcceptedMatrix n d → NowhereBelow n before F → (budget : ℕ) → production_budget ≤ budget
      → (impact_report n d (domestic_demand n m before E G) (domestic_demand n m F E G) budget (n ∷ n ∷ [])).accepted ≡ true
  unfolding impact_report
  scheme_accepted {d} A grows budget enough =
      let s = domestic_demand n m before E G in
      let t = domestic_demand n m F E G in
      let slices = length s ∷ length t ∷ n ∷ n ∷ [] in
      let each : Each n slices = (length_demand n m before E G, (length_demand n m F E G, (refl, (refl, tt)))) in
      let asked = matrix_checks n d [] slices ++ demand_checks n s t in
      let k = impact_rounds n (at n d) s t budget ∷ [] in
      ap (λ (r : Report). r.accepted)
      (all_accepted (asked ++ both_settle n (at n d) s t budget) k
      (all_pass_both asked (both_settle n (at n d) s t budget)
      (all_pass_both (matrix_checks n d [] slices) (demand_checks n s t) (matrix_accepted n d [] slices A refl (equal_each n slices each)) (demands_pass grows))
      (λ _ _. settles s (demand_within before grows), (λ _ _. settles t own_within, tt))))
    where
      settles : (f : List ℕ) → ((i : ℕ) → i < n → cell f i ≤ demand_limit) → leb (settling n (at n d) f budget) budget ≡ true
      settles f small = le-leb _ _ (production_settles A f small budget enough)

-- with what a table has, all of them pass
table_passes : (n : ℕ) (x F E imports value_added production G : List ℕ) (matrices others lent : List ℕ)
    → let t = table_by n x F E imports value_added production G in
    (coefficients_report t matrices others).accepted ≡ true → Each n lent → domestic_demand_report n (import_coefficients t) F E G lent ≡ accepts []
unfolding domestic_demand_report
table_passes n x F E imports value_added production G matrices others lent ok are =
    let t = table_by n x F E imports value_added production G in
    let m = import_coefficients t in
    let A = table_accepted t matrices others ok in
    let slices = columns n m F E G lent in
    let each : Each n slices = (length_imports t, (A.sizes.columns 0 (lit< tt), (A.sizes.columns 1 (lit< tt), (A.sizes.columns 5 (lit< tt), are)))) in
    all_accepted (domestic_demand_checks n m F E G lent) [] (
      size_passes n [] slices A.sizes.some A.sizes.few,
      (
        lengths_pass n [] slices refl (equal_each n slices each),
        (
          λ i h. le-leb (cell m i) one ((nearest_shares t A.balance).imported i (rw (length_imports t) at h)).within_one,
          (
            λ i h. le-leb (cell F i) amount_limit (A.small.columns 0 i),
            (
              λ i h. le-leb (cell E i) amount_limit (A.small.columns 1 i),
              (λ i h. le-leb (cell G i) amount_limit (A.small.columns 5 i), (λ i h. le-leb _ _ (A.balance.abroad i h), tt)),
            ),
          ),
        ),
      ),
    )

module _ {n : ℕ} {m F E G out₀ : List ℕ} {r : Report} {out : List ℕ} where
  pub demanded : r ≡ domestic_demand_report n m F E G (length out₀ ∷ []) → out ≡ output r (length out₀) (domestic_demand n m F E G) → Demanded n m F E G out₀ r out
  demanded answer result =
      record {
        answer = answer;
        outputs = result;
        of_table = λ x imports value_added production matrices others ok e l.
            let t = table_by n x F E imports value_added production G in
            let yes : r ≡ accepts [] =
            answer ∙ ap (λ (s : List ℕ). domestic_demand_report n s F E G lent) e
            ∙ table_passes n x F E imports value_added production G matrices others lent ok (l, tt) in
            (yes, is (ap (λ (q : Report). q.accepted) yes) ∙ ap (λ (s : List ℕ). domestic_demand n s F E G) e);
        within_limit = λ ok. subst⁻¹ (λ (l : List ℕ). (i : ℕ) → i < n → cell l i ≤ demand_limit) (is ok) (own_within n m F F E G lent (given ok));
        rises = λ ok before grows. subst⁻¹ (NowhereBelow n (domestic_demand n m before E G)) (is ok) (demand_rises n m before F E G grows);
        comparable = λ ok before grows.
            let s = domestic_demand n m before E G in
            subst⁻¹ (λ (l : List ℕ). verdict (demand_checks n s l) [] ≡ accepts []) (is ok)
            (all_accepted (demand_checks n s (domestic_demand n m F E G)) [] (demands_pass n m before F E G lent (given ok) grows));
        parts = λ ok before grows.
            subst⁻¹ (λ (l : List ℕ). OrderedInside n m (added before F) (added (domestic_demand n m before E G) l)) (is ok) (demand_parts n m before F E G grows);
      }
    where
      lent : List ℕ
      lent = length out₀ ∷ []

      given : r.accepted ≡ true → DemandGiven n m F E G lent
      given = accepted_demand n m F E G lent answer

      is : r.accepted ≡ true → out ≡ domestic_demand n m F E G
      is ok = result ∙ output_given r (length out₀) (domestic_demand n m F E G) ok
