-- The call, by the length of its buffer. Assumes nothing.
use Rattle.std.proofs.Common.{Result, Ok, Err}
use mathlib.Core.Path.{◌≡◌, refl, sym, ap, ◌∙◌}
use mathlib.Core.List.{List, [], ◌∷◌}
use Prim.Native.Nat.{ℕ, ◌≤◌}
use native.Mathlib.Omega.{arith}
use mathlib.Core.Bool.{Bool, true, false}
use borrow.Author.Tests.{eqb-true, eqb-false, eq-eqb, ne_eqb}
use lib.Dec.{eqb, lit<}
use lib.ListN.{length, replicate, length-replicate}
use lib.Seq.{sets}
use Rattle.model.specs.Questions.{number}
use Rattle.model.specs.Checks.{Check, accepts, refuses, report, single, verdict}
use Rattle.model.specs.CallContracts.{PagePrinted}
use Rattle.model.specs.Page.{page, page_limit, page_report}
use Rattle.model.specs.declared.Refusal.{Refusal}
use Rattle.theory.proofs.Verdicts.{answered_pass, answered_stop}
use Rattle.theory_pages.proofs.Pages.{page-fits, written, never_nine}
use Rattle.theory_pages.proofs.Unadjusted.{bytes_unadjusted}

turned : (a b : ℕ) → eqb a b ≡ eqb b a
turned a b = split (eqb b a) refl
  where
    split : (t : Bool) → eqb b a ≡ t → eqb a b ≡ t
    split true e = eq-eqb a b (sym (eqb-true b a e))
    split false e = ne_eqb a b (λ h. eqb-false b a e (sym h))

-- the call of the file s has set the lent bytes l to 0, which then are z, and its check was answered a
pub record Asked (l z : List ℕ) (a : Result Unit Refusal) : Type 0 where
  pub clear : z ≡ replicate (length l) 0
  pub said : report a ≡ verdict (single 2 (eqb (length z) page_limit) ∷ []) []

module _ (s : List ℕ) {l z : List ℕ} {a : Result Unit Refusal} (k : Asked l z a) where
  abbrev checks : List Check
  checks = single 2 (eqb page_limit (length z)) ∷ []

  said : report a ≡ verdict checks []
  said = k.said ∙ ap (λ (t : Bool). verdict (single 2 t ∷ []) []) (turned (length z) page_limit)

  same : length z ≡ length l
  same = ap length k.clear ∙ length-replicate {A = ℕ} (length l) 0

  long : {u : Unit} → a ≡ Ok u → page_limit ≡ length z
  long e = eqb-true page_limit (length z) ((answered_pass checks said e).0 0 (lit< tt))

  pub call_stop : {e : Refusal} → a ≡ Err e → PagePrinted s l (refuses 1 (number e.question) e.place) z
  unfolding page_report
  call_stop e =
      record {
        answer = answered_stop checks said [] (length (page s) ∷ []) e ∙ ap (λ (n : ℕ). page_report n s) same;
        outputs = k.clear;
        unadjusted = bytes_unadjusted s;
        enough = never_nine s;
      }

  pub call_ready : {u : Unit} → a ≡ Ok u → length (page s) ≤ length z
  call_ready e = omega (arith, page-fits s, long e)

  pub call_on : {m : List ℕ} {j : ℕ} {u : Unit} → a ≡ Ok u → (j ≡ length (page s)) × (m ≡ sets z 0 (page s)) → PagePrinted s l (accepts (j ∷ [])) m
  call_on e p =
      let w = written s in
      let h : length l ≡ page_limit = sym same ∙ sym (long e) in
      record {
        answer = ap (λ (k : ℕ). accepts (k ∷ [])) p.0 ∙ sym w.0 ∙ ap (λ (k : ℕ). page_report k s) (sym h);
        outputs = p.1 ∙ ap (λ (x : List ℕ). sets x 0 (page s)) (k.clear ∙ ap (λ (k : ℕ). replicate k 0) h) ∙ sym w.1;
        unadjusted = bytes_unadjusted s;
        enough = never_nine s;
      }
