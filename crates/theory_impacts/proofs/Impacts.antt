-- What the checks of two demands say, and what is promised of the rise from the one to the other. Assumes nothing.
use mathlib.Core.Path.{◌≡◌, refl, sym, ap, ◌∙◌}
use mathlib.Core.Logic.{◌↔◌}
use mathlib.Core.Bool.{Bool, true, false, ◌&&◌, cond}
use mathlib.Core.List.{List, [], ◌∷◌, ◌++◌}
use Prim.Native.Nat.{ℕ, ◌*◌, ◌≤◌, ◌<◌}
use native.Mathlib.Omega.{arith}
use native.Mathlib.Nat.{le_refl}
use borrow.Author.Tests.{le-leb, leb-true}
use lib.Dec.{eqb}
use lib.ListN.{length, replicate}
use Rattle.model.specs.Numbers.{all, sum, cell, at}
use Rattle.model.specs.Rounds.{settling, settled, Settles, impact, impact_rounds}
use Rattle.model.specs.Checks.{Report, Check, verdict, output, single, settles, lengths, demand_checks, both_settle, demand_limit, production_budget}
use Rattle.model.specs.Calls.{matrix_checks, settling_checks, production_report, impact_report}
use Rattle.model.specs.Promises.{AcceptedMatrix, Equal, NowhereBelow, added, Rises}
use Rattle.model.specs.CallContracts.{Compared}
use Rattle.theory.specs.Slices.{Each}
use Rattle.theory.proofs.Sums.{sum_cong}
use Rattle.theory.proofs.Lists.{length-tabulate, cell-tabulate, zeroed, and_true}
use Rattle.theory.proofs.Verdicts.{Passes, AllPass, accepted_all, all_accepted, output_given, output_from}
use Rattle.theory_rounds.proofs.Gauge.{total_gauge}
use Rattle.theory_rounds.proofs.Rounds.{equal_starts}
use Rattle.theory_rounds.proofs.Answers.{Started, started, accepted_settled}
use Rattle.theory_budgets.proofs.Budgets.{production_settles}
use Rattle.theory_budgets.proofs.Calls.{nine_below}
use Rattle.theory_impacts.proofs.Rises.{none_falls, rises_most, rises_less}

-- ---- the rise
module _ (n : ℕ) (c : ℕ → ℕ → ℕ) (s t : List ℕ) (budget : ℕ) where
  pub impact-cell : (i : ℕ) → i < n → cell (impact n c s t budget) i ≡ added (settled n c s budget) (settled n c t budget) i
  unfolding impact
  impact-cell i h = cell-tabulate n (added (settled n c s budget) (settled n c t budget)) i h

  pub length-impact : length (impact n c s t budget) ≡ n
  unfolding impact
  length-impact = length-tabulate n (added (settled n c s budget) (settled n c t budget))

-- document 02, ticket 4, of the rise between what two demands settle at
pub rises : {n : ℕ} {d : List ℕ} → AcceptedMatrix n d → {s y t z r : List ℕ} {k m : ℕ} → NowhereBelow n s t → Settles n (at n d) s k y → Settles n (at n d) t m z
    → ((i : ℕ) → i < n → cell r i ≡ added y z i) → Rises n s t y z r
rises {n} {d} A {s} {y} {t} {z} {r} p σ τ e =
    record {
      exact = λ i h. omega (arith, e i h, none_falls n (at n d) p σ τ i h);
      each = λ i h. omega (arith, e i h, rises_most n (at n d) p σ τ i h);
      total = omega (arith, sum_cong n e, rises_less n (at n d) p σ τ (sum n) n (total_gauge n (at n d) A.low) A.some);
    }

-- ---- the checks of both demands are those of production for each of them, and 17
-- question 2 with both lengths, and with each of them
module _ (n : ℕ) (matrices : List ℕ) (a b : ℕ) (lent : List ℕ) where
  each_long : Passes (lengths n matrices (a ∷ b ∷ lent)) → Passes (lengths n matrices (a ∷ lent)) × Passes (lengths n matrices (b ∷ lent))
  each_long p =
      let q = and_true (all (eqb (n * n)) matrices) (eqb n a && (eqb n b && all (eqb n) lent)) (p 0 (le_refl 1)) in
      let r = and_true (eqb n a) (eqb n b && all (eqb n) lent) q.1 in
      let s = and_true (eqb n b) (all (eqb n) lent) r.1 in
      (λ _ _. rw (q.0, r.0) s.1, λ _ _. rw (q.0, s.0) s.1)

  both_long : Passes (lengths n matrices (a ∷ lent)) → Passes (lengths n matrices (b ∷ lent)) → Passes (lengths n matrices (a ∷ b ∷ lent))
  both_long p q =
      let s = and_true (all (eqb (n * n)) matrices) (eqb n a && all (eqb n) lent) (p 0 (le_refl 1)) in
      let t = and_true (eqb n a) (all (eqb n) lent) s.1 in
      λ _ _. rw (s.0, t.0) (and_true (all (eqb (n * n)) matrices) (eqb n b && all (eqb n) lent) (q 0 (le_refl 1))).1

-- questions 1, 2, 7, 8 of both and 17 pass
pub record BothStarted (n : ℕ) (d before after lent : List ℕ) : Type 0 where
  pub first : Started n d demand_limit before lent
  pub second : Started n d demand_limit after lent
  pub below : NowhereBelow n before after

-- and both demands settle: an accepted call
pub record BothAccepted (n : ℕ) (d before after : List ℕ) (budget : ℕ) (lent : List ℕ) : Type 0 where
  pub matrix : AcceptedMatrix n d
  pub slices : Each n lent
  pub first : Settles n (at n d) before (settling n (at n d) before budget) (settled n (at n d) before budget)
  pub second : Settles n (at n d) after (settling n (at n d) after budget) (settled n (at n d) after budget)
  pub below : NowhereBelow n before after

module _ (n : ℕ) (d before after lent : List ℕ) where
  pub both_started : AllPass (matrix_checks n d [] (length before ∷ length after ∷ lent) ++ demand_checks n before after) → BothStarted n d before after lent
  both_started (s, (l, (c, (p, (q, (o, _)))))) =
      let e = each_long n (length d ∷ []) (length before) (length after) lent l in
      record {
        first = started n d demand_limit before lent (s, (e.0, (c, (p, tt))));
        second = started n d demand_limit after lent (s, (e.1, (c, (q, tt))));
        below = λ i h. leb-true (cell before i) (cell after i) (o i h);
      }

  module _ (budget : ℕ) where
    abbrev both_checks : List Check
    both_checks = matrix_checks n d [] (length before ∷ length after ∷ lent) ++ demand_checks n before after ++ both_settle n (at n d) before after budget

    abbrev checks_of : List ℕ → List Check
    checks_of f = settling_checks n d (at n d) demand_limit f budget lent

    -- what production accepts of a demand, and its counts
    abbrev Accepts : List ℕ → Type 0
    Accepts f = (production_report n d f budget lent).accepted ≡ true

    abbrev counts : List ℕ → List ℕ
    counts f = settling n (at n d) f budget ∷ []

    abbrev larger : List ℕ
    larger = impact_rounds n (at n d) before after budget ∷ []

    each_passes : AllPass both_checks → AllPass (checks_of before) × AllPass (checks_of after) × NowhereBelow n before after
    each_passes (s, (l, (c, (p, (q, (o, (u, (v, _)))))))) =
        let e = each_long n (length d ∷ []) (length before) (length after) lent l in
        ((s, (e.0, (c, (p, (u, tt))))), (s, (e.1, (c, (q, (v, tt))))), λ i h. leb-true (cell before i) (cell after i) (o i h))

    both_pass : AllPass (checks_of before) → AllPass (checks_of after) → NowhereBelow n before after → AllPass both_checks
    both_pass (s, (l, (c, (p, (u, _))))) (_, (m, (_, (q, (v, _))))) o =
        let e = both_long n (length d ∷ []) (length before) (length after) lent l m in
        (s, (e, (c, (p, (q, (λ i h. le-leb (cell before i) (cell after i) (o i h), (u, (v, tt))))))))

    pub asks : (impact_report n d before after budget lent).accepted ≡ true ↔ (Accepts before × Accepts after × NowhereBelow n before after)
    unfolding impact_report production_report
    asks = (apart, together)
      where
        said : (qs : List Check) (ks : List ℕ) → AllPass qs → (verdict qs ks).accepted ≡ true
        said qs ks p = ap (λ (r : Report). r.accepted) (all_accepted qs ks p)

        apart : (impact_report n d before after budget lent).accepted ≡ true → Accepts before × Accepts after × NowhereBelow n before after
        apart a =
            let p = each_passes (accepted_all both_checks larger a) in
            (said (checks_of before) (counts before) p.0, said (checks_of after) (counts after) p.1, p.2)

        together : Accepts before × Accepts after × NowhereBelow n before after → (impact_report n d before after budget lent).accepted ≡ true
        together (a, b, o) =
            said both_checks larger (both_pass (accepted_all (checks_of before) (counts before) a) (accepted_all (checks_of after) (counts after) b) o)

    -- so where the call is accepted both demands settle
    pub accepted_both : (impact_report n d before after budget lent).accepted ≡ true → BothAccepted n d before after budget lent
    unfolding production_report
    accepted_both a =
        let p = asks.0 a in
        let s = accepted_settled n d (at n d) demand_limit before budget lent p.0 in
        let t = accepted_settled n d (at n d) demand_limit after budget lent p.1 in
        record { matrix = s.0.matrix; slices = s.0.slices; first = s.1; second = t.1; below = p.2 }

    -- and 9 comes from lower budgets alone
    impact_nine : (impact_report n d before after budget lent).number ≡ 9 → budget < production_budget
    unfolding impact_report
    impact_nine =
        nine_below (matrix_checks n d [] (length before ∷ length after ∷ lent) ++ demand_checks n before after) (both_settle n (at n d) before after budget) larger budget production_budget refl
        (λ h p.
        let s = both_started p in
        (settling_within s.first h, (settling_within s.second h, tt)))
      where
        settling_within : {f : List ℕ} → Started n d demand_limit f lent → production_budget ≤ budget → Passes (single 9 (settles n (at n d) f budget))
        settling_within {f} s h = λ _ _. le-leb (settling n (at n d) f budget) budget (production_settles s.matrix f s.small budget h)

-- ---- at the call: what answers and leaves what the definitions say keeps every promise
pub compared : (n : ℕ) (d before after : List ℕ) (budget : ℕ) (out₀ work₀ : List ℕ) {r : Report} {out work : List ℕ}
    → r ≡ impact_report n d before after budget (length out₀ ∷ length work₀ ∷ []) → out ≡ output r (length out₀) (impact n (at n d) before after budget)
    → work ≡ replicate (length work₀) 0 → Compared n d before after budget out₀ work₀ r out work
compared n d before after budget out₀ work₀ {r} {out} e o z =
    record {
      answer = e;
      outputs = o;
      cleared = z;
      asks = rw e (asks n d before after lent budget);
      settles = λ a. ((known a).first, (known a).second);
      rises = λ a.
          rises (known a).matrix (known a).below (known a).first (known a).second
          (λ i h. ap (λ (l : List ℕ). cell l i) (o ∙ output_given r (length out₀) risen a) ∙ impact-cell n (at n d) before after budget i h);
      equal = λ q. o ∙ output_from r {len = length out₀} refl (nothing q) ∙ either (replicate (length out₀) 0) r.accepted;
      enough = λ nine. impact_nine n d before after lent budget (ap (λ (r : Report). r.number) (sym e) ∙ nine);
    }
  where
    lent : List ℕ
    lent = length out₀ ∷ length work₀ ∷ []

    risen : List ℕ
    risen = impact n (at n d) before after budget

    known : r.accepted ≡ true → BothAccepted n d before after budget lent
    known a = accepted_both n d before after lent budget (ap (λ (r : Report). r.accepted) (sym e) ∙ a)

    -- equal demands settle at equal productions
    nothing : Equal n before after → r.accepted ≡ true → risen ≡ replicate (length out₀) 0
    nothing q a =
        zeroed n n risen (length-impact n (at n d) before after budget) (le_refl n)
        (λ i h. impact-cell n (at n d) before after budget i h ∙ omega (arith, (equal_starts n (at n d) (known a).first (known a).second).1 q i h))
        ∙ ap (λ (k : ℕ). replicate k 0) (sym (known a).slices.0)

    either : (l : List ℕ) (b : Bool) → cond b l l ≡ l
    either l true = refl
    either l false = refl
