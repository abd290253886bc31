-- "Number 9 then never comes from a budget of 1,400 or more", of the calls over one start and of the inverse; and what `production` and `price`
-- promise. Assumes nothing.
use mathlib.Core.Path.{◌≡◌, refl, sym, ap, ◌∙◌}
use mathlib.Core.Bool.{true, not}
use mathlib.Core.List.{List, [], ◌∷◌, ◌++◌}
use Prim.Native.Nat.{ℕ, ◌≤◌, ◌<◌}
use native.Mathlib.Nat.{lt_of_not-le}
use borrow.Author.Tests.{le-leb}
use lib.Dec.{eqb, lit≤}
use lib.ListN.{length, replicate}
use Rattle.model.specs.Numbers.{at, transposed}
use Rattle.model.specs.Rounds.{settling, settled, Settles, inverse_rounds}
use Rattle.model.specs.Checks.{Report, Check, rounds_of, verdict, output, bounded, single, settles, columns_settle, demand_limit, rise_limit, production_budget, price_budget}
use Rattle.model.specs.Calls.{matrix_checks, settling_report, production_report, price_report, inverse_report}
use Rattle.model.specs.CallContracts.{Produced, Priced}
use Rattle.theory.proofs.Verdicts.{AllPass, accepted_matrix, numbers_pass, not_told}
use Rattle.theory_rounds.proofs.Answers.{Started, started, call_settles}
use Rattle.theory_rounds.proofs.Promises.{distinguishes, accurate, accurate_prices}
use Rattle.theory_budgets.proofs.Budgets.{production_settles, price_settles, column_settles}

-- where the questions before 9 have passed, and those with number 9 pass from the budget `most` on: it comes from lower budgets alone
pub nine_below : (ps qs : List Check) (ks : List ℕ) (budget most : ℕ) → numbers_pass (λ q. not (eqb q 9)) ps ≡ true → (most ≤ budget → AllPass ps → AllPass qs)
    → (verdict (ps ++ qs) ks).number ≡ 9 → budget < most
nine_below ps qs ks budget most others passes nine = lt_of_not-le (λ h. not_told 9 ps qs ks others (lit≤ tt) (passes h) nine)

-- of one start
settling_nine : (n : ℕ) (d : List ℕ) (c : ℕ → ℕ → ℕ) (limit : ℕ) (s : List ℕ) (budget : ℕ) (lent : List ℕ) (most : ℕ)
    → (Started n d limit s lent → most ≤ budget → settling n c s budget ≤ budget) → (settling_report n d c limit s budget lent).number ≡ 9 → budget < most
settling_nine n d c limit s budget lent most settle =
    nine_below (matrix_checks n d [] (length s ∷ lent) ++ (bounded 8 0 limit s ∷ [])) (single 9 (settles n c s budget) ∷ []) (settling n c s budget ∷ []) budget most refl
    (λ h p. (λ _ _. le-leb (settling n c s budget) budget (settle (started n d limit s lent p) h), tt))

module _ (n : ℕ) (d : List ℕ) where
  production_nine : (f : List ℕ) (budget : ℕ) (lent : List ℕ) → (production_report n d f budget lent).number ≡ 9 → budget < production_budget
  unfolding production_report
  production_nine f budget lent = settling_nine n d (at n d) demand_limit f budget lent production_budget (λ s. production_settles s.matrix f s.small budget)

  price_nine : (w : List ℕ) (budget : ℕ) (lent : List ℕ) → (price_report n d w budget lent).number ≡ 9 → budget < price_budget
  unfolding price_report
  price_nine w budget lent = settling_nine n d (transposed (at n d)) rise_limit w budget lent price_budget (λ s. price_settles s.matrix w s.small budget)

  pub inverse_nine : (budget : ℕ) (matrices lent : List ℕ) → (inverse_report n d budget matrices lent).number ≡ 9 → budget < price_budget
  unfolding inverse_report
  inverse_nine budget matrices lent =
      nine_below (matrix_checks n d matrices lent) (columns_settle n d budget ∷ []) (inverse_rounds n d budget ∷ []) budget price_budget refl
      (λ h p. (λ j _. le-leb _ budget (column_settles (accepted_matrix n d matrices lent p).0 j budget h), tt))

-- ---- at the calls: a call that answers and leaves what the definitions say keeps every promise
pub produced : (n : ℕ) (d f : List ℕ) (budget : ℕ) (out₀ work₀ : List ℕ) {r : Report} {out work : List ℕ}
    → r ≡ production_report n d f budget (length out₀ ∷ length work₀ ∷ []) → out ≡ output r (length out₀) (settled n (at n d) f budget)
    → work ≡ replicate (length work₀) 0 → Produced n d f budget out₀ work₀ r out work
unfolding production_report
produced n d f budget out₀ work₀ {r} {out} e o z =
    record {
      answer = e;
      outputs = o;
      cleared = z;
      settles = λ a. (kept a).1;
      distinct = λ a. distinguishes (kept a).0.matrix (kept a).1;
      accurate = λ a. accurate (kept a).0.matrix (kept a).1;
      enough = λ nine. production_nine n d f budget lent (ap (λ (r : Report). r.number) (sym e) ∙ nine);
    }
  where
    lent : List ℕ
    lent = length out₀ ∷ length work₀ ∷ []

    kept : r.accepted ≡ true → Started n d demand_limit f lent × Settles n (at n d) f (rounds_of r) out
    kept a = call_settles n d (at n d) demand_limit f budget lent (length out₀) e o a

pub priced : (n : ℕ) (d w : List ℕ) (budget : ℕ) (out₀ work₀ : List ℕ) {r : Report} {out work : List ℕ}
    → r ≡ price_report n d w budget (length out₀ ∷ length work₀ ∷ []) → out ≡ output r (length out₀) (settled n (transposed (at n d)) w budget)
    → work ≡ replicate (length work₀) 0 → Priced n d w budget out₀ work₀ r out work
unfolding price_report
priced n d w budget out₀ work₀ {r} {out} e o z =
    record {
      answer = e;
      outputs = o;
      cleared = z;
      settles = λ a. (kept a).1;
      accurate = λ a. accurate_prices (kept a).0.matrix (kept a).1;
      enough = λ nine. price_nine n d w budget lent (ap (λ (r : Report). r.number) (sym e) ∙ nine);
    }
  where
    lent : List ℕ
    lent = length out₀ ∷ length work₀ ∷ []

    kept : r.accepted ≡ true → Started n d rise_limit w lent × Settles n (transposed (at n d)) w (rounds_of r) out
    kept a = call_settles n d (transposed (at n d)) rise_limit w budget lent (length out₀) e o a
