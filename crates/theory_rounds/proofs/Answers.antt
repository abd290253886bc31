-- What the checks of production and price say of their slices, what question 9 says of the rounds, and what a call over them answers and leaves.
-- Assumes nothing.
use mathlib.Core.Path.{◌≡◌, refl, sym, ap, subst⁻¹, ◌∙◌}
use mathlib.Core.Bool.{true, false}
use mathlib.Core.List.{List, [], ◌∷◌, ◌++◌}
use Prim.Native.Nat.{ℕ, zero, suc, ◌*◌, ◌≤◌, ◌<◌}
use native.Mathlib.Omega.{arith}
use native.Mathlib.Nat.{le_refl, lt-suc_self}
use borrow.Author.Tests.{le-leb, lt-leb, leb-true}
use lib.Dec.{leb}
use lib.ListN.{length, replicate}
use Rattle.std.specs.Prelude.{Result, Ok, Err}
use Rattle.model.specs.Numbers.{one, sum, cell}
use Rattle.model.specs.Table.{sector_limit}
use Rattle.model.specs.Rounds.{changes, settling, settled, Settles}
use Rattle.model.specs.Checks.{Report, Check, accepts, refuses, report, rounds_of, output, verdict, size, lengths, amount_limit, induced_amounts, bounded, production_limit, production_total, single, settles}
use Rattle.model.specs.Calls.{matrix_checks, settling_checks, settling_report, implied_checks, implied_report, induced_report}
use Rattle.model.specs.Promises.{AcceptedMatrix}
use Rattle.model.specs.Questions.{number}
use Rattle.model.specs.declared.Refusal.{Refusal}
use Rattle.theory.specs.Slices.{Each}
use Rattle.theory_rounds.specs.Search.{Solved, Cleared}
use Rattle.theory.proofs.Lists.{All, equal_each}
use Rattle.theory_rounds.proofs.Settling.{counted, found, not_found}
use Rattle.theory.proofs.Verdicts.{Passes, AllPass, accepted_all, accepted_counts, all_pass_parts, output_given, pass_on, sized, accepted_matrix, matrix_accepted, single_passed, single_failed, answered_on, answered_stop}

-- ---- a call that has asked some checks and then settles, with the checks that follow: where one of the first fails, and where none does
module _ (asked : List Check) {a : Result Unit Refusal} (said : report a ≡ verdict asked []) (last : List Check) {count : ℕ} {result : List ℕ} {outs works : ℕ} {r : Report} {out work : List ℕ} where
  pub solved_stop : {e : Refusal} → a ≡ Err e → Cleared (number e.question) e.place outs works r out work
      → Solved (asked ++ last) count result outs works r out work
  solved_stop e κ =
      record {
        answer = κ.answer ∙ answered_stop asked said last (count ∷ []) e;
        outputs = κ.outputs ∙ sym (ap (λ (r : Report). output r outs result) κ.answer);
        cleared = κ.cleared;
      }

  pub solved_on : {n : ℕ} {u : Unit} → a ≡ Ok u → outs ≡ n → works ≡ n → Solved last count result n n r out work
      → Solved (asked ++ last) count result outs works r out work
  solved_on e o w σ =
      record {
        answer = σ.answer ∙ answered_on asked said last (count ∷ []) e;
        outputs = σ.outputs ∙ ap (λ (k : ℕ). output r k result) (sym o);
        cleared = σ.cleared ∙ ap (λ (k : ℕ). replicate k 0) (sym w);
      }

-- questions 1, 2, 7 and 8 pass
pub record Started (n : ℕ) (d : List ℕ) (limit : ℕ) (s lent : List ℕ) : Type 0 where
  pub matrix : AcceptedMatrix n d
  pub start : length s ≡ n
  pub slices : Each n lent
  pub small : (i : ℕ) → i < n → cell s i ≤ limit

module _ (n : ℕ) (d : List ℕ) (limit : ℕ) (s lent : List ℕ) where
  pub started : AllPass (matrix_checks n d [] (length s ∷ lent) ++ (bounded 8 0 limit s ∷ [])) → Started n d limit s lent
  started p =
      let r = all_pass_parts (matrix_checks n d [] (length s ∷ lent)) (bounded 8 0 limit s ∷ []) p in
      let m = accepted_matrix n d [] (length s ∷ lent) r.0 in
      record { matrix = m.0; start = m.1.0; slices = m.1.1; small = λ i h. leb-true (cell s i) limit (r.1.0 i (rw m.1.0 h)) }

-- the last running total is the whole
whole_total : (n : ℕ) (y : List ℕ) → All (λ i. leb (sum (suc i) (cell y)) production_limit) n → sum n (cell y) ≤ production_limit
whole_total zero y t = omega arith
whole_total (suc n) y t = leb-true (sum (suc n) (cell y)) production_limit (t n (lt-suc_self n))

-- questions 1, 2, 7 and 8 of a given production pass
pub record Given (n : ℕ) (d y lent : List ℕ) : Type 0 where
  pub matrix : AcceptedMatrix n d
  pub cells : length y ≡ n
  pub slices : Each n lent
  pub total : sum n (cell y) ≤ production_limit

-- that is, of an accepted call of implied demand
pub accepted_implied : (n : ℕ) (d y lent : List ℕ) → (implied_report n d y lent).accepted ≡ true → Given n d y lent
unfolding implied_report
accepted_implied n d y lent a =
    let r = all_pass_parts (matrix_checks n d [] (length y ∷ lent)) (production_total n y ∷ []) (accepted_all (implied_checks n d y lent) [] a) in
    let m = accepted_matrix n d [] (length y ∷ lent) r.0 in
    record { matrix = m.0; cells = m.1.0; slices = m.1.1; total = whole_total n y r.1.0 }

module _ (n : ℕ) (d : List ℕ) (c : ℕ → ℕ → ℕ) (limit : ℕ) (s : List ℕ) (budget : ℕ) where
  -- where questions 1, 2, 7 and 8 pass, 9 alone decides
  pub nine_decides : (lent : List ℕ) → Started n d limit s lent
      → settling_report n d c limit s budget lent ≡ verdict (single 9 (settles n c s budget) ∷ []) (settling n c s budget ∷ [])
  nine_decides lent σ =
      let ninth = single 9 (settles n c s budget) ∷ [] in
      let k = settling n c s budget ∷ [] in
      let slices = length s ∷ lent in
      pass_on (matrix_checks n d [] slices) (bounded 8 0 limit s ∷ ninth) k
      (matrix_accepted n d [] slices σ.matrix refl (equal_each n slices (σ.start, σ.slices)))
      ∙ pass_on (bounded 8 0 limit s ∷ []) ninth k (λ i h. le-leb (cell s i) limit (σ.small i (rw σ.start at h)), tt)

  -- an accepted call: what its checks say, and that the rounds settle at what it gives
  pub accepted_settled : (lent : List ℕ) → (settling_report n d c limit s budget lent).accepted ≡ true
      → Started n d limit s lent × Settles n c s (settling n c s budget) (settled n c s budget)
  accepted_settled lent a =
      let before = matrix_checks n d [] (length s ∷ lent) ++ (bounded 8 0 limit s ∷ []) in
      let ninth = single 9 (settles n c s budget) ∷ [] in
      let r = all_pass_parts before ninth (accepted_all (before ++ ninth) (settling n c s budget ∷ []) a) in
      (started n d limit s lent r.0, counted n c s budget (leb-true (settling n c s budget) budget (r.1.0 0 (le_refl 1))))

  -- so does the call's own answer r, with its count of rounds and its outputs y
  pub call_settles : (lent : List ℕ) {r : Report} (len : ℕ) {y : List ℕ} → r ≡ settling_report n d c limit s budget lent → y ≡ output r len (settled n c s budget)
      → r.accepted ≡ true → Started n d limit s lent × Settles n c s (rounds_of r) y
  call_settles lent {r} len {y} e o a =
      let said = ap (λ (r : Report). r.accepted) (sym e) ∙ a in
      let p = accepted_settled lent said in
      let counts = ap (λ (r : Report). r.counts) e ∙ accepted_counts (settling_checks n d c limit s budget lent) (settling n c s budget ∷ []) said in
      let k : rounds_of r ≡ settling n c s budget = ap (λ (ks : List ℕ). cell ks 0) counts in
      let z : y ≡ settled n c s budget = o ∙ output_given r len (settled n c s budget) a in
      (p.0, subst⁻¹ (λ (j : ℕ). Settles n c s j y) k (subst⁻¹ (λ (x : List ℕ). Settles n c s (settling n c s budget) x) z p.1))

module _ (n : ℕ) (c : ℕ → ℕ → ℕ) (s : List ℕ) (budget : ℕ) where
  -- question 9 at a round that settles within the budget, and where none does
  pub nine_passed : {k : ℕ} {y : List ℕ} → Settles n c s k y → k ≤ budget
      → accepts (k ∷ []) ≡ verdict (single 9 (settles n c s budget) ∷ []) (settling n c s budget ∷ [])
  nine_passed {k} σ h =
      let e = (found n c s budget σ h).0 in
      let t : settles n c s budget ≡ true = rw e (le-leb k budget h) in
      sym (single_passed 9 [] (settling n c s budget ∷ []) t ∙ ap (λ (k : ℕ). accepts (k ∷ [])) e)

  pub nine_failed : All (changes n c s) (suc budget) → refuses 1 9 0 ≡ verdict (single 9 (settles n c s budget) ∷ []) (settling n c s budget ∷ [])
  nine_failed p =
      let t : settles n c s budget ≡ false = rw (not_found n c s budget p) (lt-leb (suc budget) budget (le_refl (suc budget))) in
      sym (single_failed 9 [] (settling n c s budget ∷ []) t)

-- ---- induced amounts: questions 1 and 2, and an accepted call. The production comes by its length ly
pub record InducedSizes (n : ℕ) (a m v F : List ℕ) (ly : ℕ) (lent : List ℕ) : Type 0 where
  pub few : n ≤ sector_limit
  pub inputs : length a ≡ n * n
  pub imports : length m ≡ n
  pub values : length v ≡ n
  pub demand : length F ≡ n
  pub production : ly ≡ n
  pub slices : Each n lent

module _ (n : ℕ) (a m v F : List ℕ) (ly : ℕ) (lent : List ℕ) where
  pub induced_sizes : Passes (size n) → Passes (lengths n (length a ∷ []) (length m ∷ length v ∷ length F ∷ ly ∷ lent)) → InducedSizes n a m v F ly lent
  induced_sizes p q =
      let s = sized n (length a ∷ []) (length m ∷ length v ∷ length F ∷ ly ∷ lent) p q in
      let (m', (v', (F', (y', rest)))) = s.slices in
      record { few = s.few; inputs = s.squares.0; imports = m'; values = v'; demand = F'; production = y'; slices = rest }

pub record InducedGiven (n : ℕ) (a m v F y lent : List ℕ) : Type 0 where
  pub sizes : InducedSizes n a m v F (length y) lent
  pub inputs_small : (i : ℕ) → i < n * n → cell a i ≤ one
  pub imports_small : (i : ℕ) → i < n → cell m i ≤ one
  pub values_small : (i : ℕ) → i < n → cell v i ≤ one
  pub demand_small : (i : ℕ) → i < n → cell F i ≤ amount_limit
  pub total : sum n (cell y) ≤ production_limit

pub accepted_induced : (n : ℕ) (a m v F y lent : List ℕ) → (induced_report n a m v F y lent).accepted ≡ true → InducedGiven n a m v F y lent
unfolding induced_report
accepted_induced n a m v F y lent accepted =
    let columns = length m ∷ length v ∷ length F ∷ length y ∷ lent in
    let qs = size n ∷ lengths n (length a ∷ []) columns ∷ induced_amounts a m v F ++ (production_total n y ∷ []) in
    let p = accepted_all qs [] accepted in
    let s = induced_sizes n a m v F (length y) lent p.0 p.1.0 in
    let b = p.1.1 in
    record {
      sizes = s;
      inputs_small = λ i h. leb-true (cell a i) one (b.0 i (rw s.inputs h));
      imports_small = λ i h. leb-true (cell m i) one (b.1.0 i (rw s.imports h));
      values_small = λ i h. leb-true (cell v i) one (b.1.1.0 i (rw s.values h));
      demand_small = λ i h. leb-true (cell F i) amount_limit (b.1.1.1.0 i (rw s.demand h));
      total = whole_total n y b.1.1.1.1.0;
    }
