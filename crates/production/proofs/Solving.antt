-- A call that asks 1, 2, 7 and 8 of a start and then settles, in either direction c of a matrix: what it answers and leaves. Assumes nothing.
use mathlib.Core.List.{List, [], ◌∷◌, ◌++◌}
use mathlib.Core.Path.{◌≡◌, refl}
use Prim.Native.Nat.{ℕ}
use lib.ListN.{length}
use Rattle.std.specs.Prelude.{Result, Ok, Err}
use Rattle.model.specs.Rounds.{settling, settled}
use Rattle.model.specs.Checks.{Report, Check, report_rounds, bounded, single, settles}
use Rattle.model.specs.Calls.{matrix_checks, settling_checks}
use Rattle.model.specs.declared.Refusal.{Refusal}
use Rattle.theory.proofs.Verdicts.{answered_pass}
use Rattle.theory_rounds.specs.Search.{Solved, Settlement}
use Rattle.theory_rounds.proofs.Answers.{Started, started, solved_stop, solved_on}
use Rattle.production.specs.Solving.{Checked}

-- what such a call answers and leaves
abbrev pub Called : (n : ℕ) (d : List ℕ) (c : ℕ → ℕ → ℕ) (limit : ℕ) (s : List ℕ) (budget outs works : ℕ) (r : Report) (out work : List ℕ) → Type 0
Called n d c limit s budget outs works = Solved (settling_checks n d c limit s budget (outs ∷ works ∷ [])) (settling n c s budget) (settled n c s budget) outs works

-- questions 1, 2, 7 and 8
abbrev asked : (n : ℕ) (d : List ℕ) (limit : ℕ) (s : List ℕ) (outs works : ℕ) → List Check
asked n d limit s outs works = matrix_checks n d [] (length s ∷ outs ∷ works ∷ []) ++ (bounded 8 0 limit s ∷ [])

module _ {n : ℕ} {d : List ℕ} {limit : ℕ} {s : List ℕ} {outs works : ℕ} {a : Result Unit Refusal} {out work : List ℕ} (χ : Checked n d limit s outs works a out work) where
  -- where one of them fails
  pub called_stop : (c : ℕ → ℕ → ℕ) (budget : ℕ) {e : Refusal} → a ≡ Err e → Called n d c limit s budget outs works (report_rounds (Err e)) out work
  called_stop c budget f =
      solved_stop (asked n d limit s outs works) χ.answer (single 9 (settles n c s budget) ∷ []) f (record { answer = refl; outputs = χ.outputs; cleared = χ.cleared })

  module _ {u : Unit} (f : a ≡ Ok u) where
    -- where none does: what is known of the slices, and what the rounds then leave
    pub passed : Started n d limit s (outs ∷ works ∷ [])
    passed = started n d limit s (outs ∷ works ∷ []) (answered_pass (asked n d limit s outs works) χ.answer f)

    pub called_on : (c : ℕ → ℕ → ℕ) (budget : ℕ) {r : Report} {y z : List ℕ} → Settlement n c s budget r y z → Called n d c limit s budget outs works r y z
    called_on c budget σ =
        let l = passed.slices in
        solved_on (asked n d limit s outs works) χ.answer (single 9 (settles n c s budget) ∷ []) f l.0 l.1.0 σ
