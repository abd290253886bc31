-- What the papers promise of an accepted domestic matrix. Production goes along its rows, by the total; prices down its columns, by the
-- largest; each is an instance of one law over a gauge. Assumes nothing.
use mathlib.Core.Path.{◌≡◌, refl, sym, ap, ◌∙◌}
use mathlib.Core.Bool.{Bool, true, false}
use mathlib.Core.List.{List, [], ◌∷◌, ◌++◌}
use Prim.Native.Nat.{ℕ, suc, ◌+◌, ◌*◌, ◌-◌, ◌≤◌, ◌<◌}
use native.Mathlib.Omega.{arith}
use native.Mathlib.Nat.{le_refl, le_trans, le_of_eq}
use borrow.Author.Tests.{le-leb, leb-true, eq-eqb}
use lib.Dec.{lit≤}
use lib.IntN.{ℤ, pos}
use lib.ListN.{length}
use Rattle.model.specs.Numbers.{signed, one, sum, largest, at, cell, transposed, oriented}
use Rattle.model.specs.Table.{sector_limit}
use Rattle.model.specs.Rounds.{weighted, intermediate, rounds, Settles, shortfall, settling, settled, implied_demand}
use Rattle.model.specs.Checks.{Report, accepts, signed_output, column_limit, demand_limit, production_limit, production_total}
use Rattle.model.specs.Calls.{matrix_checks, production_report, implied_checks, implied_report}
use Rattle.model.specs.Promises.{AcceptedMatrix, Distinguishes, Accurate, AccuratePrices, Returns, NotAbove}
use Rattle.model.specs.CallContracts.{Implied}
use Rattle.model.specs.Unsigned.{demand_left, unsigned_report, unsigned_demand}
use Rattle.theory_rounds.specs.Bounds.{sum_limit}
use Rattle.theory.proofs.Sums.{sum_mono, sum_add, sum_const, sum_scale, sum_most, sum_part, sum-cell, largest_le, largest-cell}
use Rattle.theory_rounds.proofs.Gauge.{total_gauge, largest_gauge}
use Rattle.theory_rounds.proofs.Rounds.{intermediate-within, equal_starts, settles-length, lowest, implied_fixed, forward_back, unsigned_implied}
use Rattle.theory_rounds.proofs.Accuracy.{not_above, lacks_less, rounds_bounded, weighted-bounded}
use Rattle.theory.proofs.Verdicts.{accepted_all, all_accepted, all_pass_parts, all_pass_both, not_told, output_given_of, matrix_accepted, unless_told}
use Rattle.theory_rounds.proofs.Answers.{Started, accepted_settled}

module _ {n : ℕ} {d : List ℕ} (A : AcceptedMatrix n d) where
  -- Demand 3, first half: equal productions exactly from equal demands, whatever the demands
  pub distinguishes : {f y : List ℕ} {k : ℕ} → Settles n (at n d) f k y → Distinguishes n d f y
  distinguishes σ g z m τ = equal_starts n (at n d) σ τ

  -- Demand 3, second half: nowhere too high, and together less than 20 × n short
  pub accurate : {f y : List ℕ} {k : ℕ} → Settles n (at n d) f k y → Accurate n d f y
  accurate σ q b β =
      record {
        nowhere_too_high = not_above n (at n d) β σ;
        together = lacks_less n (at n d) (sum n) n (total_gauge n (at n d) A.low) A.some β σ;
      }

  -- Prices: nowhere above, and in each sector less than 20 millionths short
  pub accurate_prices : {w r : List ℕ} {k : ℕ} → Settles n (transposed (at n d)) w k r → AccuratePrices n d w r
  accurate_prices {w} {r} σ q b β =
      let lack = lacks_less n (transposed (at n d)) (largest n) 1 (largest_gauge n (at n d) A.low) (le_refl 1) β σ in
      record {
        nowhere_above = not_above n (transposed (at n d)) β σ;
        each = λ i h. omega (arith, largest-cell n (shortfall q b r) i h);
      }

  -- ---- no sum of a round leaves 64 bits
  module _ (s : List ℕ) (small : (i : ℕ) → i < n → cell s i ≤ demand_limit) where
    total_small : sum n (cell s) ≤ sector_limit * demand_limit
    total_small = let few = A.few in omega (arith, sum_most n demand_limit small)

    production_fits : (k i : ℕ) → i < n → weighted n (at n d) (cell (rounds n (at n d) s k)) i ≤ sum_limit
    production_fits k i h =
        let t = total_small in
        omega (arith, weighted-bounded n (at n d) (sum n) n (total_gauge n (at n d) A.low) s k i h)

    price_fits : (k i : ℕ) → i < n → weighted n (transposed (at n d)) (cell (rounds n (transposed (at n d)) s k)) i ≤ sum_limit
    price_fits k i h =
        omega (
          arith,
          weighted-bounded n (transposed (at n d)) (largest n) 1 (largest_gauge n (at n d) A.low) s k i h,
          largest_le n small,
        )

    pub rounds_fit : (t : Bool) (k i : ℕ) → i < n
        → weighted n (oriented t (at n d)) (cell (rounds n (oriented t (at n d)) s k)) i ≤ sum_limit
    rounds_fit true = price_fits
    rounds_fit false = production_fits

    -- and the total of a round is one that question 8 lets pass
    total_fits : (k : ℕ) → sum n (cell (rounds n (at n d) s k)) ≤ production_limit
    total_fits k =
        let t = total_small in
        omega (arith, rounds_bounded n (at n d) (sum n) n (total_gauge n (at n d) A.low) s k)

    pub settled_total : (budget : ℕ) → sum n (cell (settled n (at n d) s budget)) ≤ production_limit
    unfolding settled
    settled_total budget = total_fits (settling n (at n d) s budget)

  pub implied_fits : (y : List ℕ) → sum n (cell y) ≤ production_limit → (i : ℕ) → i < n → weighted n (at n d) (cell y) i ≤ sum_limit
  implied_fits y h i l =
      omega (arith, sum-cell n (weighted n (at n d) (cell y)) i l, (total_gauge n (at n d) A.low).shrinks (cell y))

  -- ---- shortages: industry takes at most 95 of 100 units of all production together
  industry_takes : (y : List ℕ) → one * sum n (intermediate n (at n d) (cell y)) ≤ column_limit * sum n (cell y)
  industry_takes y =
      le_trans (le_of_eq (sym (sum_scale n one (intermediate n (at n d) (cell y)))))
      (le_trans (sum_mono n (λ i h. intermediate-within n (at n d) (cell y) i)) ((total_gauge n (at n d) A.low).shrinks (cell y)))

  -- Theorem, for the reader: no sector is short by more than 95 of 100 units of the largest total, which are 1,520,000,000,000
  pub largest_shortage : (y : List ℕ) → sum n (cell y) ≤ production_limit → (i : ℕ) → i < n
      → one * (intermediate n (at n d) (cell y) i - cell y i) ≤ column_limit * production_limit
  largest_shortage y h i l = omega (arith, industry_takes y, sum-cell n (intermediate n (at n d) (cell y)) i l)

  -- Theorem, for the reader: sectors are never all short
  pub not_all_short : (y : List ℕ) → ((i : ℕ) → i < n → cell y i < intermediate n (at n d) (cell y) i) → ⊥
  not_all_short y p =
      let some = A.some in
      let more = sum_mono n {f = λ i. cell y i + 1} {g = intermediate n (at n d) (cell y)} (λ i h. omega (arith, p i h)) in
      omega (arith, industry_takes y, more, sum_add n (cell y) (λ _. 1), sum_const n 1)

-- Demand 2: a demand behind a production is that of every start that settles there
pub returns : (n : ℕ) (d y : List ℕ) → Returns n d y (implied_demand n (at n d) y)
returns n d y g k e σ = forward_back n (at n d) e σ

-- and what it settles at, where no sector is short, is nowhere above the production
pub not_above_given : (n : ℕ) (d y : List ℕ) → NotAbove n d y (implied_demand n (at n d) y)
not_above_given n d y g z k e σ = lowest n (at n d) σ (cell y) (λ i h. omega (arith, implied_fixed n (at n d) y g e i h))

-- Demand 2: where production is accepted, going back from what it gives is accepted too, and returns the demand
pub forward_then_back : (n : ℕ) (d f : List ℕ) (budget : ℕ) (lent : List ℕ) → (production_report n d f budget lent).accepted ≡ true
    → (implied_report n d (settled n (at n d) f budget) (n ∷ []) ≡ accepts []) × (implied_demand n (at n d) (settled n (at n d) f budget) ≡ signed f)
unfolding production_report implied_report
forward_then_back n d f budget lent a = (
  all_accepted (implied_checks n d y (n ∷ [])) []
      (all_pass_both (matrix_checks n d [] (length y ∷ n ∷ [])) (production_total n y ∷ [])
      (matrix_accepted n d [] (length y ∷ n ∷ []) s.matrix refl (rw (eq-eqb n (length y) (sym (settles-length n (at n d) s.start σ)), eq-eqb n n refl)))
      (λ i h. le-leb _ _ (le_trans (sum_part (suc i) n (cell y) h) total), tt)),
  returns n d y f (settling n (at n d) f budget) s.start σ,
)
  where
    y : List ℕ
    y = settled n (at n d) f budget

    s : Started n d demand_limit f lent
    s = (accepted_settled n d (at n d) demand_limit f budget lent a).0

    σ : Settles n (at n d) f (settling n (at n d) f budget) y
    σ = (accepted_settled n d (at n d) demand_limit f budget lent a).1

    total : sum n (cell y) ≤ production_limit
    total = settled_total s.matrix f s.small budget

-- Document 02, ticket 8: a production that document 01's call accepts is accepted, with the demand that it gave
pub accepted_before : (n : ℕ) (d y lent : List ℕ) → (unsigned_report n d y lent).accepted ≡ true
    → (implied_report n d y lent ≡ accepts []) × (implied_demand n (at n d) y ≡ signed (unsigned_demand n (at n d) y))
unfolding unsigned_report implied_report
accepted_before n d y lent a =
    let asked = implied_checks n d y lent in
    let tenth = demand_left n (at n d) y ∷ [] in
    let p = all_pass_parts asked tenth (accepted_all (asked ++ tenth) [] a) in (
      all_accepted asked [] p.0,
      unsigned_implied n (at n d) y (λ i h. leb-true (intermediate n (at n d) (cell y) i) (cell y i) (p.1.0 i h)),
    )

-- unless that call says 10 the answers are the same
pub same_answer : (n : ℕ) (d y lent : List ℕ) → ((unsigned_report n d y lent).number ≡ 10 → ⊥) → implied_report n d y lent ≡ unsigned_report n d y lent
unfolding unsigned_report implied_report
same_answer n d y lent = unless_told (implied_checks n d y lent) (demand_left n (at n d) y) []

-- and 10 does not occur
pub never_ten : (n : ℕ) (d y lent : List ℕ) → (implied_report n d y lent).number ≡ 10 → ⊥
unfolding implied_report
never_ten n d y lent = not_told 10 (implied_checks n d y lent) [] [] refl (lit≤ tt) (λ _. tt)

-- a call of implied demand that answers and leaves what the definitions say keeps these promises
pub implied : (n : ℕ) (d y : List ℕ) (out₀ : List ℤ) {r : Report} {out : List ℤ}
    → r ≡ implied_report n d y (length out₀ ∷ []) → out ≡ signed_output r (length out₀) (implied_demand n (at n d) y) → Implied n d y out₀ r out
implied n d y out₀ {r} {out} e o =
    record {
      answer = e;
      outputs = o;
      returns = λ a. rw (result a) (returns n d y);
      back = λ a. rw (result a) (not_above_given n d y);
      inverse = λ f budget lent a h l. let p = forward_then_back n d f budget lent a in gives f (rw (h, l) p.0) (rw h p.1);
      as_before = λ a. let p = accepted_before n d y (length out₀ ∷ []) a in gives (unsigned_demand n (at n d) y) p.0 p.1;
      same_answer = λ other. e ∙ same_answer n d y (length out₀ ∷ []) other;
      reserved = λ ten. never_ten n d y (length out₀ ∷ []) (ap (λ (r : Report). r.number) (sym e) ∙ ten);
    }
  where
    result : r.accepted ≡ true → out ≡ implied_demand n (at n d) y
    result a = o ∙ output_given_of (pos 0) r (length out₀) (implied_demand n (at n d) y) a

    gives : (f : List ℕ) → implied_report n d y (length out₀ ∷ []) ≡ accepts [] → implied_demand n (at n d) y ≡ signed f → (r ≡ accepts []) × (out ≡ signed f)
    gives f said is = (e ∙ said, result (ap (λ (r : Report). r.accepted) (e ∙ said)) ∙ is)
