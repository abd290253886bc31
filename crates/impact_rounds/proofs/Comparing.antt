-- Two starts, settled one after the other: what is answered and left where both settle. Assumes nothing.
use mathlib.Core.List.{List, [], ◌∷◌}
use mathlib.Core.Path.{◌≡◌, sym, ap, ap₂, subst⁻¹, ◌∙◌}
use mathlib.Core.Bool.{true}
use Prim.Native.Nat.{ℕ, max}
use borrow.Author.Tests.{leb-true}
use Rattle.std.specs.Prelude.{Result, Ok}
use Rattle.model.specs.Numbers.{tabulate}
use Rattle.model.specs.Rounds.{settling, settled, Settles, impact, impact_rounds}
use Rattle.model.specs.Checks.{accepts, report_rounds, output, single, settles}
use Rattle.model.specs.Promises.{NowhereBelow, added}
use Rattle.model.specs.declared.Refusal.{Refusal}
use Rattle.theory.proofs.Verdicts.{single_passed, single_accepted}
use Rattle.theory_rounds.specs.Search.{Settlement}
use Rattle.theory_rounds.proofs.Settling.{counted}
use Rattle.theory_impacts.proofs.Rises.{none_falls}
use Rattle.impact_rounds.specs.Comparing.{BothSettled}

-- a start that settles: question 9 passes with its count, and the amounts are settled
module _ (n : ℕ) (c : ℕ → ℕ → ℕ) (s : List ℕ) (budget : ℕ) {r : Result ℕ Refusal} {k : ℕ} {out work : List ℕ} (σ : Settlement n c s budget (report_rounds r) out work) (e : r ≡ Ok k) where
  nine_told : (settles n c s budget ≡ true) × (k ≡ settling n c s budget)
  nine_told = single_accepted 9 (settling n c s budget) k (settles n c s budget) (sym (ap report_rounds e) ∙ σ.answer)

  settled_out : out ≡ settled n c s budget
  settled_out = σ.outputs ∙ ap (λ (o : Result ℕ Refusal). output (report_rounds o) n (settled n c s budget)) e

  settled_start : Settles n c s (settling n c s budget) out
  settled_start =
      subst⁻¹ (λ (y : List ℕ). Settles n c s (settling n c s budget) y) settled_out
      (counted n c s budget (leb-true (settling n c s budget) budget nine_told.0))

module _ (n : ℕ) (c : ℕ → ℕ → ℕ) (s t : List ℕ) (budget : ℕ) {r u : Result ℕ Refusal} {k m : ℕ} {out work later work₂ : List ℕ}
    (σ : Settlement n c s budget (report_rounds r) out work) (e : r ≡ Ok k) (τ : Settlement n c t budget (report_rounds u) later work₂) (f : u ≡ Ok m) where
  -- both starts settle: no sector falls
  pub both_ordered : NowhereBelow n s t → NowhereBelow n out later
  both_ordered p = none_falls n c p (settled_start n c s budget σ e) (settled_start n c t budget τ f)

  -- and the rise is left
  pub both_settled : {count : ℕ} {rise : List ℕ} → count ≡ max k m → rise ≡ tabulate n (added out later)
      → BothSettled n c s t budget (accepts (count ∷ [])) rise work₂
  unfolding impact impact_rounds
  both_settled g h =
      record {
        answer = ap (λ (j : ℕ). accepts (j ∷ [])) (g ∙ ap₂ max (nine_told n c s budget σ e).1 (nine_told n c t budget τ f).1)
            ∙ sym (single_passed 9 (single 9 (settles n c t budget) ∷ []) (impact_rounds n c s t budget ∷ []) (nine_told n c s budget σ e).0
            ∙ single_passed 9 [] (impact_rounds n c s t budget ∷ []) (nine_told n c t budget τ f).0);
        outputs = h ∙ ap₂ (λ (y z : List ℕ). tabulate n (added y z)) (settled_out n c s budget σ e) (settled_out n c t budget τ f);
        cleared = τ.cleared;
      }
