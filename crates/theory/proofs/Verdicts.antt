-- What a list of checks says, check by check. Assumes nothing.
use mathlib.Core.Path.{◌≡◌, refl, sym, ◌∙◌, ap, ap₂}
use mathlib.Core.Bool.{Bool, true, false, not, ◌&&◌, cond, false≢true, true≢false}
use mathlib.Core.List.{List, [], ◌∷◌, ◌++◌, map, append-nil}
use Prim.Native.Nat.{ℕ, ◌+◌, ◌*◌, ◌≤◌, ◌<◌, zero-le}
use native.Mathlib.Nat.{le_refl, lt_of_lt_of_le, zero-add}
use native.Mathlib.Omega.{arith}
use native.Mathlib.Numerals.{add-one}
use borrow.Author.Tests.{lt-ltb, le-ltb, ltb-true, ltb-false, le-leb, leb-true, eq-eqb, ne_eqb}
use lib.Dec.{ltb, eqb}
use lib.ListN.{length, replicate}
use Rattle.std.specs.Prelude.{Result, Ok, Err}
use Rattle.model.specs.Numbers.{sum, first, all, at, transposed}
use Rattle.model.specs.Table.{sector_limit}
use Rattle.model.specs.Checks.{Report, Check, accepts, refuses, report, rounds_of, verdict, output, output_of, each, single, size, lengths, bounded, counted_on, column_limit}
use Rattle.model.specs.Calls.{matrix_checks}
use Rattle.model.specs.Questions.{number}
use Rattle.model.specs.declared.Refusal.{Refusal}
use Rattle.model.specs.Promises.{AcceptedMatrix}
use Rattle.theory.specs.Slices.{Each}
use Rattle.theory.proofs.Lists.{All, all_none, all_more, first_here, first_none, first_before, and_true, from_one, each_equal}

-- a check passes at all its places, and all checks of a list do
abbrev pub Passes : Check → Type 0
Passes q = All q.passes q.places

abbrev pub AllPass : List Check → Type 0
AllPass [] = Unit {0}
AllPass (q ∷ qs) = Passes q × AllPass qs

module _ (q : Check) (qs : List Check) (ks : List ℕ) where
  -- a check that passes is passed over
  pub passed : (i : ℕ) → q.places ≤ i → All q.passes i → verdict (q ∷ qs) ks ≡ verdict qs ks
  passed i h p = rw (first_none q.places i q.passes h p, le-ltb q.places q.places (le_refl q.places))

  -- one that fails gives its number and its first failing place
  pub failed : (i : ℕ) → i < q.places → All q.passes i → q.passes i ≡ false → verdict (q ∷ qs) ks ≡ refuses (length ks) q.number (q.offset + i)
  failed i h before here = rw (first_here q.places q.passes i h before here, lt-ltb i q.places h)

-- a check whose places count from 0
pub failed_each : (number n : ℕ) (p : ℕ → Bool) (qs : List Check) (ks : List ℕ) (i : ℕ) → i < n → All p i → p i ≡ false
    → verdict (each number n p ∷ qs) ks ≡ refuses (length ks) number i
failed_each number n p qs ks i h before here = failed (each number n p) qs ks i h before here ∙ ap (refuses (length ks) number) (zero-add i)

-- a check with one place
module _ (number : ℕ) {b : Bool} (qs : List Check) (ks : List ℕ) where
  pub single_passed : b ≡ true → verdict (single number b ∷ qs) ks ≡ verdict qs ks
  single_passed e = passed (single number b) qs ks 1 (le_refl 1) (λ _ _. e)

  pub single_failed : b ≡ false → verdict (single number b ∷ qs) ks ≡ refuses (length ks) number 0
  single_failed e = failed (single number b) qs ks 0 (le_refl 1) (all_none (λ _. b)) e

-- such a check alone, with a count: what its answer says
pub single_accepted : (number m k : ℕ) (b : Bool) → accepts (k ∷ []) ≡ verdict (single number b ∷ []) (m ∷ []) → (b ≡ true) × (k ≡ m)
single_accepted number m k true e = (refl, ap (λ (r : Report). rounds_of r) e)
single_accepted number m k false e = absurd (false≢true (ap (λ (r : Report). r.accepted) (sym e)))

pub single_refused : (number m a p : ℕ) (b : Bool) → refuses 1 a p ≡ verdict (single number b ∷ []) (m ∷ []) → b ≡ false
single_refused number m a p true e = absurd (false≢true (ap (λ (r : Report). r.accepted) e))
single_refused number m a p false e = refl

-- ---- a loop that asks a check place by place, from i = 0: nothing asked yet, one place more, and the ways out
pub record Scan (q : Check) (i : ℕ) : Type 0 where
  pub within : i ≤ q.places
  pub before : All q.passes i

pub scan_none : {q : Check} → Scan q 0
scan_none {q} = record { within = zero-le; before = all_none q.passes }

module _ {q : Check} {i : ℕ} (s : Scan q i) where
  pub scan_more : i < q.places → q.passes i ≡ true → Scan q (i + 1)
  scan_more h e = record { within = rw add-one h; before = all_more q.passes i s.before e }

  pub scan_failed : i < q.places → q.passes i ≡ false → refuses 0 q.number (q.offset + i) ≡ verdict (q ∷ []) []
  scan_failed h e = sym (failed q [] [] i h s.before e)

  pub scan_passed : q.places ≤ i → accepts [] ≡ verdict (q ∷ []) []
  scan_passed h = sym (passed q [] [] i h s.before)

-- and one whose places count from 0
pub scan_failed_each : {number n : ℕ} {p : ℕ → Bool} {i : ℕ} → Scan (each number n p) i → i < n → p i ≡ false → refuses 0 number i ≡ verdict (each number n p ∷ []) []
scan_failed_each {number} {n} {p} {i} s h e = sym (failed_each number n p [] [] i h s.before e)

-- slices that are counted on from 0: the second begins at the length of the first
pub counted_first : (limit : ℕ) (s : List ℕ) (qs : List Check) → bounded 3 0 limit s ∷ counted_on (length s) qs ≡ counted_on 0 (bounded 3 0 limit s ∷ qs)
counted_first limit s qs = ap (λ (place : ℕ). bounded 3 0 limit s ∷ counted_on place qs) (sym (zero-add (length s)))

-- an accepted call's output is its result
pub output_given_of : {A : Type 0} (none : A) (r : Report) (len : ℕ) (y : List A) → r.accepted ≡ true → output_of none r len y ≡ y
output_given_of none r len y e = rw e

pub output_given : (r : Report) (len : ℕ) (y : List ℕ) → r.accepted ≡ true → output r len y ≡ y
output_given = output_given_of 0

-- what is left in an output slice, by its length and by the result where the call accepts: where it refuses, no result matters
pub output_from : (r : Report) {len lent : ℕ} {y z : List ℕ} → len ≡ lent → (r.accepted ≡ true → y ≡ z) → output r len y ≡ output r lent z
output_from r {len} {lent} {y} {z} e h = split r.accepted h
  where
    split : (b : Bool) → (b ≡ true → y ≡ z) → cond b y (replicate len 0) ≡ cond b z (replicate lent 0)
    split true h = h refl
    split false h = ap (λ (l : ℕ). replicate l 0) e

-- Two lists that ask the same check first: what holds of both refusals, and of what follows where it passes, holds of both
module _ (R : Report → Report → Type 0) (q : Check) where
  abbrev place : ℕ
  place = first q.places q.passes

  pub asked_both : (ps qs : List Check) (js ks : List ℕ)
      → (place < q.places → R (refuses (length js) q.number (q.offset + place)) (refuses (length ks) q.number (q.offset + place)))
      → (Passes q → R (verdict ps js) (verdict qs ks)) → R (verdict (q ∷ ps) js) (verdict (q ∷ qs) ks)
  asked_both ps qs js ks stop on = split (ltb place q.places) refl
    where
      split : (t : Bool) → ltb place q.places ≡ t
          → R (cond t (refuses (length js) q.number (q.offset + place)) (verdict ps js)) (cond t (refuses (length ks) q.number (q.offset + place)) (verdict qs ks))
      split true e = stop (ltb-true place q.places e)
      split false e = on (λ i h. first_before q.places q.passes i (lt_of_lt_of_le h (ltb-false place q.places e)))

-- and one list
pub asked : (P : Report → Type 0) (q : Check) (qs : List Check) (ks : List ℕ)
    → (first q.places q.passes < q.places → P (refuses (length ks) q.number (q.offset + first q.places q.passes))) → (Passes q → P (verdict qs ks))
    → P (verdict (q ∷ qs) ks)
asked P q qs ks stop on = asked_both (λ r _. P r) q qs qs ks ks stop on

-- where a list of checks accepts, all of them pass, and the report has the call's counts
pub accepted_all : (qs : List Check) (ks : List ℕ) → (verdict qs ks).accepted ≡ true → AllPass qs
accepted_all [] ks a = tt
accepted_all (q ∷ qs) ks a =
    asked (λ r. r.accepted ≡ true → AllPass (q ∷ qs)) q qs ks (λ _ a. absurd (false≢true a)) (λ p a. (p, accepted_all qs ks a)) a

-- where checks and those after them all pass, each part does
pub all_pass_parts : (ps qs : List Check) → AllPass (ps ++ qs) → AllPass ps × AllPass qs
all_pass_parts [] qs p = (tt, p)
all_pass_parts (q ∷ ps) qs (p, ps-pass) = let r = all_pass_parts ps qs ps-pass in ((p, r.0), r.1)

pub all_pass_both : (ps qs : List Check) → AllPass ps → AllPass qs → AllPass (ps ++ qs)
all_pass_both [] qs p q = q
all_pass_both (r ∷ ps) qs (p, more) q = (p, all_pass_both ps qs more q)

-- checks that all pass hand on to what follows
pub pass_on : (ps qs : List Check) (ks : List ℕ) → AllPass ps → verdict (ps ++ qs) ks ≡ verdict qs ks
pass_on [] qs ks p = refl
pass_on (q ∷ ps) qs ks p =
    passed q (ps ++ qs) ks q.places (le_refl q.places) p.0 ∙ pass_on ps qs ks p.1

-- checks that pass wherever those before them pass need not be asked
pub unasked : (ps rs qs : List Check) (ks : List ℕ) → (AllPass ps → AllPass rs) → verdict (ps ++ (rs ++ qs)) ks ≡ verdict (ps ++ qs) ks
unasked [] rs qs ks h = pass_on rs qs ks (h tt)
unasked (p ∷ ps) rs qs ks h = asked_both ◌≡◌ p (ps ++ (rs ++ qs)) (ps ++ qs) ks ks (λ _. refl) (λ a. unasked ps rs qs ks (λ b. h (a, b)))

-- and where all pass the call is accepted
pub all_accepted : (qs : List Check) (ks : List ℕ) → AllPass qs → verdict qs ks ≡ accepts ks
all_accepted [] ks p = refl
all_accepted (q ∷ qs) ks p = passed q qs ks q.places (le_refl q.places) p.0 ∙ all_accepted qs ks p.1

pub accepted_counts : (qs : List Check) (ks : List ℕ) → (verdict qs ks).accepted ≡ true → (verdict qs ks).counts ≡ ks
accepted_counts [] ks a = refl
accepted_counts (q ∷ qs) ks a =
    asked (λ r. r.accepted ≡ true → r.counts ≡ ks) q qs ks (λ _ a. absurd (false≢true a)) (λ _. accepted_counts qs ks) a

-- checks that refuse refuse whatever follows, with as many counts as the call has
pub refuse_on : (ps qs : List Check) (js ks : List ℕ) (a p : ℕ) → verdict ps js ≡ refuses (length js) a p → verdict (ps ++ qs) ks ≡ refuses (length ks) a p
refuse_on [] qs js ks a p e = absurd (false≢true (sym (ap (λ (r : Report). r.accepted) e)))
refuse_on (q ∷ ps) qs js ks a p e =
    asked_both (λ r s. r ≡ refuses (length js) a p → s ≡ refuses (length ks) a p) q ps (ps ++ qs) js ks
    (λ _ e. ap₂ (refuses (length ks)) (ap (λ (r : Report). r.number) e) (ap (λ (r : Report). r.place) e)) (λ _. refuse_on ps qs js ks a p) e

-- ---- numbers
-- every check of a list has a number that passes a test
abbrev pub numbers_pass : (ℕ → Bool) → List Check → Bool
numbers_pass t [] = true
numbers_pass t (q ∷ qs) = t q.number && numbers_pass t qs

-- so does the number of its answer, if 0 does
pub number_passes : (t : ℕ → Bool) (qs : List Check) (ks : List ℕ) → numbers_pass t qs ≡ true → t 0 ≡ true → t (verdict qs ks).number ≡ true
number_passes t [] ks e z = z
number_passes t (q ∷ qs) ks e z =
    let p = and_true (t q.number) (numbers_pass t qs) e in
    asked (λ r. t r.number ≡ true) q qs ks (λ _. p.0) (λ _. number_passes t qs ks p.1 z)

-- of checks and those after them, and of slices that are counted on
pub numbers_both : (t : ℕ → Bool) (ps qs : List Check) → numbers_pass t ps ≡ true → numbers_pass t qs ≡ true → numbers_pass t (ps ++ qs) ≡ true
numbers_both t [] qs e f = f
numbers_both t (p ∷ ps) qs e f = let r = and_true (t p.number) (numbers_pass t ps) e in rw r.0 (numbers_both t ps qs r.1 f)

pub counted_numbers : (t : ℕ → Bool) (place limit : ℕ) (ss : List (List ℕ)) → t 3 ≡ true → numbers_pass t (counted_on place (map (bounded 3 0 limit) ss)) ≡ true
counted_numbers t place limit [] three = refl
counted_numbers t place limit (s ∷ ss) three = rw three (counted_numbers t (place + length s) limit ss three)

-- slices that are counted on, before checks whose numbers pass
pub counted_pass : (t : ℕ → Bool) (place limit : ℕ) (ss : List (List ℕ)) (qs rs : List Check) → t 3 ≡ true → numbers_pass t (qs ++ rs) ≡ true
    → numbers_pass t (counted_on place (map (bounded 3 0 limit) ss) ++ qs ++ rs) ≡ true
counted_pass t place limit [] qs rs three e = e
counted_pass t place limit (s ∷ ss) qs rs three e = rw three (counted_pass t (place + length s) limit ss qs rs three e)

-- a number that none of the first checks has comes only if a later one can fail
pub not_told : (k : ℕ) (ps qs : List Check) (ks : List ℕ) → numbers_pass (λ q. not (eqb q k)) ps ≡ true → 1 ≤ k → (AllPass ps → AllPass qs)
    → (verdict (ps ++ qs) ks).number ≡ k → ⊥
not_told k ps qs ks e some h z =
    let n = (verdict ps ks).number in
    let same : verdict (ps ++ qs) ks ≡ verdict ps ks =
    ap (λ (l : List Check). verdict (ps ++ l) ks) (sym (append-nil qs)) ∙ unasked ps qs [] ks h ∙ ap (λ (l : List Check). verdict l ks) (append-nil ps) in
    let other = number_passes (λ q. not (eqb q k)) ps ks e (ap not (ne_eqb 0 k (λ z. omega arith))) in
    true≢false (sym other ∙ ap not (eq-eqb n k (sym (ap (λ (r : Report). r.number) same) ∙ z)))

-- a last check, unless its number is told, need not be asked
pub unless_told : (ps : List Check) (q : Check) (ks : List ℕ) → ((verdict (ps ++ (q ∷ [])) ks).number ≡ q.number → ⊥) → verdict ps ks ≡ verdict (ps ++ (q ∷ [])) ks
unless_told [] q ks = asked (λ r. (r.number ≡ q.number → ⊥) → accepts ks ≡ r) q [] ks (λ _ other. absurd (other refl)) (λ _ _. refl)
unless_told (p ∷ ps) q ks =
    asked_both (λ r s. (s.number ≡ q.number → ⊥) → r ≡ s) p ps (ps ++ (q ∷ [])) ks ks (λ _ _. refl) (λ _. unless_told ps q ks)

-- a call that has asked some checks and was answered a: where they refuse it is done, where they accept it goes on with the others
module _ (ps : List Check) {a : Result Unit Refusal} (said : report a ≡ verdict ps []) where
  pub answered_pass : {u : Unit} → a ≡ Ok u → AllPass ps
  answered_pass e = accepted_all ps [] (ap (λ (r : Report). r.accepted) (sym said ∙ ap report e))

  pub answered_on : (qs : List Check) (ks : List ℕ) {u : Unit} → a ≡ Ok u → verdict qs ks ≡ verdict (ps ++ qs) ks
  answered_on qs ks e = sym (pass_on ps qs ks (answered_pass e))

  pub answered_stop : (qs : List Check) (ks : List ℕ) {e : Refusal} → a ≡ Err e → refuses (length ks) (number e.question) e.place ≡ verdict (ps ++ qs) ks
  answered_stop qs ks e = sym (refuse_on ps qs [] ks _ _ (sym said ∙ ap report e))

  -- a refusal that is returned as it was answered
  pub answered_end : (qs : List Check) {e : Refusal} → a ≡ Err e → report a ≡ verdict (ps ++ qs) []
  answered_end qs e = ap report e ∙ answered_stop qs [] e

-- ---- checks 1 and 2: where they pass n is from 1 to 40 and the slices have their lengths, and the other way round
pub record Sized (n : ℕ) (matrices lent : List ℕ) : Type 0 where
  pub some : 1 ≤ n
  pub few : n ≤ sector_limit
  pub squares : Each (n * n) matrices
  pub slices : Each n lent

module _ (n : ℕ) (matrices lent : List ℕ) where
  pub sized : Passes (size n) → Passes (lengths n matrices lent) → Sized n matrices lent
  sized p q =
      let s = from_one n sector_limit (p 0 (le_refl 1)) in
      let l = and_true (all (eqb (n * n)) matrices) (all (eqb n) lent) (q 0 (le_refl 1)) in
      record { some = s.0; few = s.1; squares = each_equal (n * n) matrices l.0; slices = each_equal n lent l.1 }

  pub size_passes : 1 ≤ n → n ≤ sector_limit → Passes (size n)
  size_passes h l = λ _ _. rw (le-leb 1 n h) (le-leb n sector_limit l)

  pub lengths_pass : all (eqb (n * n)) matrices ≡ true → all (eqb n) lent ≡ true → Passes (lengths n matrices lent)
  lengths_pass e f = λ _ _. rw e f

-- ---- checks 1, 2 and 7: where they pass the domestic matrix is accepted too, and the other way round
module _ (n : ℕ) (d matrices lent : List ℕ) where
  pub accepted_matrix : AllPass (matrix_checks n d matrices lent) → AcceptedMatrix n d × Each n lent
  accepted_matrix (p, (q, (r, _))) =
      let s = sized n (length d ∷ matrices) lent p q in (
        record {
          some = s.some;
          few = s.few;
          cells = s.squares.0;
          low = λ j h. leb-true (sum n (transposed (at n d) j)) column_limit (r j h);
        },
        s.slices,
      )

  -- the first of the slices of n cells
  pub first-length : (x : ℕ) → AllPass (matrix_checks n d matrices (x ∷ lent)) → x ≡ n
  first-length x (p, (q, _)) = (sized n (length d ∷ matrices) (x ∷ lent) p q).slices.0

  pub matrix_accepted : AcceptedMatrix n d → all (eqb (n * n)) matrices ≡ true → all (eqb n) lent ≡ true → AllPass (matrix_checks n d matrices lent)
  matrix_accepted A e f = (
    size_passes n (length d ∷ matrices) lent A.some A.few,
    (
      lengths_pass n (length d ∷ matrices) lent (rw (eq-eqb (n * n) (length d) (sym A.cells)) e) f,
      (λ j h. le-leb (sum n (transposed (at n d) j)) column_limit (A.low j h), tt),
    ),
  )
