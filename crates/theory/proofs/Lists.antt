-- Lists written from the front, lists made by a rule, searches, and the test for sameness. Assumes nothing.
use mathlib.Core.Bool.{Bool, true, false, ◌&&◌, false≢true}
use mathlib.Core.List.{List, [], ◌∷◌, map}
use mathlib.Core.Path.{◌≡◌, refl, sym, ap, ap₂, ◌∙◌, subst⁻¹}
use Prim.Native.Nat.{ℕ, zero, suc, ◌+◌, ◌<◌, ◌≤◌, suc-le-suc, zero-le}
use native.Mathlib.Nat.{not-suc-le-zero, le_of_suc-le-suc, zero-lt-suc, ne_of_lt, lt_of_lt_of_le, le_refl, le_step, lt-suc_self}
use native.Mathlib.Decide.{dec_lt}
use native.Mathlib.Numerals.{add-one}
use native.Mathlib.Omega.{arith}
use borrow.Author.Count.{below_more}
use borrow.Author.Tests.{leb-true, eqb-true, eq-eqb}
use lib.Dec.{eqb, leb}
use lib.ListN.{length, get_or, set, take, drop, replicate, length-set, length-replicate, get_or-replicate, get_or-eq_default}
use lib.Seq.{ext_get_or, get_or-set_same, get_or-set_other}
use Rattle.std.specs.List.{list_all}
use Rattle.model.specs.Numbers.{first, all, tabulate, cell, same}
use Rattle.model.specs.Promises.{Equal}
use Rattle.theory.specs.Slices.{Each, Columns}
use Rattle.theory.proofs.Sums.{upto}

-- ---- lists of cells of any type: those that are made by a rule, and those that are written from the front
pub length-tabulate : {A : Type 0} (n : ℕ) (f : ℕ → A) → length (tabulate n f) ≡ n
length-tabulate zero f = refl
length-tabulate (suc n) f = ap suc (length-tabulate n (λ k. f (suc k)))

pub tabulate_cong : {A : Type 0} (n : ℕ) {f g : ℕ → A} → ((k : ℕ) → k < n → f k ≡ g k) → tabulate n f ≡ tabulate n g
tabulate_cong zero p = refl
tabulate_cong (suc n) p = ap₂ ◌∷◌ (p 0 (zero-lt-suc n)) (tabulate_cong n (λ k h. p (suc k) (suc-le-suc h)))

-- `none` is what is read past the end of a list
module _ {A : Type 0} (none : A) where
  pub made_tabulate : (n : ℕ) (f : ℕ → A) (k : ℕ) → k < n → get_or (tabulate n f) k none ≡ f k
  made_tabulate zero f k h = absurd (not-suc-le-zero h)
  made_tabulate (suc n) f zero h = refl
  made_tabulate (suc n) f (suc k) h = made_tabulate n (λ j. f (suc j)) k (le_of_suc-le-suc h)

  -- l has f k at each k below i
  abbrev pub AgreeOf : List A → ℕ → (ℕ → A) → Type 0
  AgreeOf l i f = (k : ℕ) → k < i → get_or l k none ≡ f k

  pub agree_none_of : (l : List A) (f : ℕ → A) → AgreeOf l 0 f
  agree_none_of l f k h = absurd (not-suc-le-zero h)

  pub agree_set_of : (l : List A) (i : ℕ) (f : ℕ → A) (v : A) → i < length l → v ≡ f i → AgreeOf l i f → AgreeOf (set l i v) (i + 1) f
  agree_set_of l i f v h e before =
      below_more (λ k. get_or (set l i v) k none ≡ f k) i
      (λ k lt. get_or-set_other l i k v none (ne_of_lt lt) ∙ before k lt)
      (get_or-set_same l i v none h ∙ e)

  -- a list of n cells that agrees with another list of n cells at all of them is that list
  pub agreed_of : (n i : ℕ) (l m : List A) → length l ≡ n → length m ≡ n → n ≤ i → AgreeOf l i (λ k. get_or m k none) → l ≡ m
  agreed_of n i l m e f h p = ext_get_or none l m (e ∙ sym f) (λ k lt. p k (omega arith))

  pub tabulated_of : (n i : ℕ) (f : ℕ → A) (l : List A) → length l ≡ n → n ≤ i → AgreeOf l i f → l ≡ tabulate n f
  tabulated_of n i f l e h p =
      agreed_of n n l (tabulate n f) e (length-tabulate n f) (le_refl n)
      (λ k lt. p k (lt_of_lt_of_le lt h) ∙ sym (made_tabulate n f k lt))

  pub filled_of : (n i : ℕ) (l : List A) → length l ≡ n → n ≤ i → AgreeOf l i (λ _. none) → l ≡ replicate n none
  filled_of n i l e h p =
      agreed_of n n l (replicate n none) e (length-replicate n none) (le_refl n)
      (λ k lt. p k (lt_of_lt_of_le lt h) ∙ sym (get_or-replicate n k none none lt))

  -- a loop that fills a list of n cells from the front with f, from i = 0
  pub record FrontOf (n : ℕ) (f : ℕ → A) (l : List A) (i : ℕ) : Type 0 where
    pub within : i ≤ n
    pub whole : length l ≡ n
    pub agree : AgreeOf l i f

-- nothing yet, one cell more, and the end: of any f, and of one that is `none` everywhere
module _ {A : Type 0} {none : A} {n : ℕ} {f : ℕ → A} {l : List A} where
  pub front_none : length l ≡ n → FrontOf none n f l 0
  front_none e = record { within = zero-le; whole = e; agree = agree_none_of none l f }

  pub front_set : {i : ℕ} {v : A} → FrontOf none n f l i → i < n → v ≡ f i → FrontOf none n f (set l i v) (i + 1)
  front_set {i} {v} p h e =
      let w = p.whole in
      record { within = omega arith; whole = simp length-set w; agree = agree_set_of none l i f v (omega arith) e p.agree }

  pub front_done : {i : ℕ} → FrontOf none n f l i → n ≤ i → l ≡ tabulate n f
  front_done {i} p h = tabulated_of none n i f l p.whole h p.agree

pub front_filled : {A : Type 0} {none : A} {n : ℕ} {l : List A} {i : ℕ} → FrontOf none n (λ _. none) l i → n ≤ i → l ≡ replicate n none
front_filled {none = none} {n} {l} {i} p h = filled_of none n i l p.whole h p.agree

-- ---- the same of numbers, which are 0 past the end
abbrev pub Agree : List ℕ → ℕ → (ℕ → ℕ) → Type 0
Agree = AgreeOf 0

abbrev pub Front : (n : ℕ) (f : ℕ → ℕ) (l : List ℕ) (i : ℕ) → Type 0
Front = FrontOf 0

pub agree_none : (l : List ℕ) (f : ℕ → ℕ) → Agree l 0 f
agree_none = agree_none_of 0

pub agree_set : (l : List ℕ) (i : ℕ) (f : ℕ → ℕ) (v : ℕ) → i < length l → v ≡ f i → Agree l i f → Agree (set l i v) (i + 1) f
agree_set = agree_set_of 0

pub cell-tabulate : (n : ℕ) (f : ℕ → ℕ) (k : ℕ) → k < n → cell (tabulate n f) k ≡ f k
cell-tabulate = made_tabulate 0

pub agreed : (n i : ℕ) (l m : List ℕ) → length l ≡ n → length m ≡ n → n ≤ i → Agree l i (cell m) → l ≡ m
agreed = agreed_of 0

pub tabulated : (n i : ℕ) (f : ℕ → ℕ) (l : List ℕ) → length l ≡ n → n ≤ i → Agree l i f → l ≡ tabulate n f
tabulated = tabulated_of 0

pub zeroed : (n i : ℕ) (l : List ℕ) → length l ≡ n → n ≤ i → Agree l i (λ _. 0) → l ≡ replicate n 0
zeroed = filled_of 0

-- ---- columns of g cells, each made of another by one rule: their lengths, their cells, and 0 past these
module _ (g : ℕ) (rule : List ℕ → ℕ → ℕ) where
  abbrev pub made_columns : List (List ℕ) → List (List ℕ)
  made_columns = map (λ (s : List ℕ). tabulate g (rule s))

  pub made_columns_lem : (ss : List (List ℕ)) → Columns g (made_columns ss)
  made_columns_lem [] c h = absurd (not-suc-le-zero h)
  made_columns_lem (s ∷ ss) zero h = length-tabulate g (rule s)
  made_columns_lem (s ∷ ss) (suc c) h = made_columns_lem ss c (le_of_suc-le-suc h)

  -- where there is no column, the rule makes 0 of no cell
  pub made_cell : ((k : ℕ) → rule [] k ≡ 0) → (ss : List (List ℕ)) (c k : ℕ) → k < g → cell (get_or (made_columns ss) c []) k ≡ rule (get_or ss c []) k
  made_cell none [] c k h = sym (none k)
  made_cell none (s ∷ ss) zero k h = cell-tabulate g (rule s) k h
  made_cell none (s ∷ ss) (suc c) k h = made_cell none ss c k h

  pub made_past : (ss : List (List ℕ)) (c k : ℕ) → g ≤ k → cell (get_or (made_columns ss) c []) k ≡ 0
  made_past [] c k h = refl
  made_past (s ∷ ss) zero k h = get_or-eq_default (tabulate g (rule s)) 0 (subst⁻¹ (λ (l : ℕ). l ≤ k) (length-tabulate g (rule s)) h)
  made_past (s ∷ ss) (suc c) k h = made_past ss c k h

-- ---- a list that is written over from the front
-- the first i cells are those of f, the others still those of m
abbrev pub Over : List ℕ → ℕ → (ℕ → ℕ) → List ℕ → Type 0
Over l i f m = Agree l i f × ((k : ℕ) → i ≤ k → cell l k ≡ cell m k)

pub over_none : (l : List ℕ) (f : ℕ → ℕ) → Over l 0 f l
over_none l f = (agree_none l f, λ k h. refl)

pub over_set : (l : List ℕ) (i : ℕ) (f : ℕ → ℕ) (m : List ℕ) (v : ℕ) → i < length l → v ≡ f i → Over l i f m → Over (set l i v) (i + 1) f m
over_set l i f m v h e (before, rest) =
    (agree_set l i f v h e before, λ k g. let lt : i < k = omega arith in get_or-set_other l i k v 0 (λ p. ne_of_lt lt (sym p)) ∙ rest k (omega arith))

-- ---- the first place below n at which a test fails
-- the test passes at every place below i
abbrev pub All : (ℕ → Bool) → ℕ → Type 0
All p i = (k : ℕ) → k < i → p k ≡ true

pub all_none : (p : ℕ → Bool) → All p 0
all_none p k h = absurd (not-suc-le-zero h)

pub all_more : (p : ℕ → Bool) (i : ℕ) → All p i → p i ≡ true → All p (i + 1)
all_more p i before here = below_more (λ k. p k ≡ true) i before here

pub first_here : (n : ℕ) (p : ℕ → Bool) (i : ℕ) → i < n → All p i → p i ≡ false → first n p ≡ i
first_here zero p i h before here = absurd (not-suc-le-zero h)
first_here (suc n) p zero h before here = rw (first, here)
first_here (suc n) p (suc i) h before here =
    rw (first, before 0 (zero-lt-suc i))
    (ap suc (first_here n (λ k. p (suc k)) i (le_of_suc-le-suc h) (λ k lt. before (suc k) (suc-le-suc lt)) here))

pub first_none : (n i : ℕ) (p : ℕ → Bool) → n ≤ i → All p i → first n p ≡ n
first_none zero i p h before = refl
first_none (suc n) zero p h before = absurd (not-suc-le-zero h)
first_none (suc n) (suc i) p h before =
    rw (first, before 0 (zero-lt-suc i))
    (ap suc (first_none n i (λ k. p (suc k)) (le_of_suc-le-suc h) (λ k lt. before (suc k) (suc-le-suc lt))))

-- and back: before the first the test passes, and at it the test fails
pub first_before : (n : ℕ) (p : ℕ → Bool) → All p (first n p)
first_before zero p k h = absurd (not-suc-le-zero h)
first_before (suc n) p k h = split (p 0) refl k h (first_before n (λ i. p (suc i)))
  where
    split : (t : Bool) → p 0 ≡ t → (k : ℕ) → k < elim t [ true ↦ suc (first n (λ i. p (suc i))) | false ↦ 0 ]
        → All (λ i. p (suc i)) (first n (λ i. p (suc i))) → p k ≡ true
    split false e k h more = absurd (not-suc-le-zero h)
    split true e zero h more = e
    split true e (suc k) h more = more k (le_of_suc-le-suc h)

pub first_fails : (n : ℕ) (p : ℕ → Bool) → first n p < n → p (first n p) ≡ false
first_fails zero p h = absurd (not-suc-le-zero h)
first_fails (suc n) p h = split (p 0) refl h (first_fails n (λ i. p (suc i)))
  where
    split : (t : Bool) → p 0 ≡ t → elim t [ true ↦ suc (first n (λ i. p (suc i))) | false ↦ 0 ] < suc n
        → (first n (λ i. p (suc i)) < n → p (suc (first n (λ i. p (suc i)))) ≡ false)
        → p (elim t [ true ↦ suc (first n (λ i. p (suc i))) | false ↦ 0 ]) ≡ false
    split false e h more = e
    split true e h more = more (le_of_suc-le-suc h)

-- ---- tests
pub and_true : (a b : Bool) → a && b ≡ true → (a ≡ true) × (b ≡ true)
and_true true b e = (refl, e)
and_true false b e = absurd (false≢true e)

-- a number that is from 1 to n
pub from_one : (k n : ℕ) → leb 1 k && leb k n ≡ true → (1 ≤ k) × (k ≤ n)
from_one k n e = let p = and_true (leb 1 k) (leb k n) e in (leb-true 1 k p.0, leb-true k n p.1)

-- two tests that pass together are the same
pub both_ways : (a b : Bool) → (a ≡ true → b ≡ true) → (b ≡ true → a ≡ true) → a ≡ b
both_ways true b h k = sym (h refl)
both_ways false true h k = k refl
both_ways false false h k = refl

pub and_last_false : (b : Bool) → b && false ≡ false
and_last_false true = refl
and_last_false false = refl

-- every length of a list is n
all_equal : (n x : ℕ) (xs : List ℕ) → all (eqb n) (x ∷ xs) ≡ true → (x ≡ n) × (all (eqb n) xs ≡ true)
all_equal n x xs e = let p = and_true (eqb n x) (all (eqb n) xs) e in (sym (eqb-true n x p.0), p.1)

-- and each of them
pub each_equal : (n : ℕ) (xs : List ℕ) → all (eqb n) xs ≡ true → Each n xs
each_equal n [] e = tt
each_equal n (x ∷ xs) e = let p = all_equal n x xs e in (p.0, each_equal n xs p.1)

-- and the other way round
pub equal_each : (n : ℕ) (xs : List ℕ) → Each n xs → all (eqb n) xs ≡ true
equal_each n [] e = refl
equal_each n (x ∷ xs) (e, es) = rw (eq-eqb n x (sym e)) (equal_each n xs es)

-- std's word for a test of every element
pub all_list : (p : ℕ → Bool) (xs : List ℕ) → list_all p xs ≡ all p xs
all_list p [] = refl
all_list p (x ∷ xs) = ap (λ (b : Bool). p x && b) (all_list p xs)

-- by a scan: where every number of a list passes, and where one does not
pub all_passed : (p : ℕ → Bool) (xs : List ℕ) → ((k : ℕ) → k < length xs → p (cell xs k) ≡ true) → all p xs ≡ true
all_passed p [] h = refl
all_passed p (x ∷ xs) h = rw (h 0 (zero-lt-suc (length xs))) (all_passed p xs (λ k lt. h (suc k) (suc-le-suc lt)))

pub all_failed : (p : ℕ → Bool) (xs : List ℕ) (k : ℕ) → k < length xs → p (cell xs k) ≡ false → all p xs ≡ false
all_failed p [] k h e = absurd (not-suc-le-zero h)
all_failed p (x ∷ xs) zero h e = rw e
all_failed p (x ∷ xs) (suc k) h e = rw (all_failed p xs k (le_of_suc-le-suc h) e) (and_last_false (p x))

-- the same of numbers made by a rule
pub made_passed : (p : ℕ → Bool) (n : ℕ) (f : ℕ → ℕ) → ((k : ℕ) → k < n → p (f k) ≡ true) → all p (tabulate n f) ≡ true
made_passed p n f h =
    all_passed p (tabulate n f) (λ k lt. let l : k < n = rw (length-tabulate n f) at lt in rw (cell-tabulate n f k l) (h k l))

pub made_failed : (p : ℕ → Bool) (n : ℕ) (f : ℕ → ℕ) (k : ℕ) → k < n → p (f k) ≡ false → all p (tabulate n f) ≡ false
made_failed p n f k h e = all_failed p (tabulate n f) k (rw (length-tabulate n f) h) (rw (cell-tabulate n f k h) e)

-- and back: where all pass, each does
pub all-cell : (p : ℕ → Bool) (xs : List ℕ) → all p xs ≡ true → (k : ℕ) → k < length xs → p (cell xs k) ≡ true
all-cell p [] e k h = absurd (not-suc-le-zero h)
all-cell p (x ∷ xs) e zero h = (and_true (p x) (all p xs) e).0
all-cell p (x ∷ xs) e (suc k) h = all-cell p xs (and_true (p x) (all p xs) e).1 k (le_of_suc-le-suc h)

pub same_equal : (n : ℕ) (a b : List ℕ) → same n a b ≡ true → Equal n a b
same_equal zero a b e = λ i h. absurd (not-suc-le-zero h)
same_equal (suc n) a b e =
    let p = and_true (same n a b) (eqb (cell a n) (cell b n)) e in
    upto (same_equal n a b p.0) (eqb-true (cell a n) (cell b n) p.1)

pub equal_same : (n : ℕ) (a b : List ℕ) → Equal n a b → same n a b ≡ true
equal_same zero a b p = refl
equal_same (suc n) a b p = rw (equal_same n a b (λ i h. p i (le_step h)), eq-eqb (cell a n) (cell b n) (p n (lt-suc_self n)))

-- one sector more, whose amount in a is v
pub same_more : (i : ℕ) (a b : List ℕ) {t : Bool} {v : ℕ} → t ≡ same i a b → v ≡ cell a i → t && eqb v (cell b i) ≡ same (i + 1) a b
same_more i a b e f = rw (add-one, e, f)

-- a cell of zeros is 0, also past their end
pub cell_zeros : (len k : ℕ) → cell (replicate len 0) k ≡ 0
cell_zeros len k = split (dec_lt k len)
  where
    split : Dec (k < len) → cell (replicate len 0) k ≡ 0
    split (yes h) = get_or-replicate len k 0 0 h
    split (no h) = get_or-eq_default (replicate len 0) 0 (omega (arith, length-replicate {A = ℕ} len 0))

-- a part of zeros is zeros
pub zeros_part : (from count len : ℕ) → from + count ≤ len → take {A = ℕ} count (drop from (replicate len 0)) ≡ replicate count 0
zeros_part zero zero len h = refl
zeros_part zero (suc count) zero h = absurd (omega arith)
zeros_part zero (suc count) (suc len) h = ap (λ (l : List ℕ). 0 ∷ l) (zeros_part zero count len (omega arith))
zeros_part (suc from) count zero h = absurd (omega arith)
zeros_part (suc from) count (suc len) h = zeros_part from count len (omega arith)
