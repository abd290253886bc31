-- Sums and largest terms. Assumes nothing.
use mathlib.Core.Path.{◌≡◌, refl, sym, ◌∙◌, ap, ap₂, subst, subst⁻¹}
use mathlib.Core.Logic.{◌⊎◌, inl, inr}
use mathlib.Core.Bool.{true, false}
use Prim.Native.Nat.{ℕ, zero, suc, ◌+◌, ◌*◌, ◌-◌, ◌≤◌, ◌<◌, zero-le}
use native.Mathlib.Omega.{arith}
use native.Mathlib.Decide.{le_ind}
use native.Mathlib.Nat.{le_refl, le_trans, le_step, le_antisymm, lt-suc_self, le_of_suc-le-suc, not-suc-le-zero, eq-or-lt_of_le, le-add_left, le-add_right, zero-mul, mul-zero, max-le, le-max_left, le-max_right}
use native.Mathlib.Numerals.{add-one}
use borrow.Author.Tests.{le-leb, lt-leb}
use lib.Arith.{digits_lt}
use lib.Dec.{leb}
use Rattle.model.specs.Numbers.{one, sum, largest}

-- what holds below n and at n holds below n + 1
pub upto : {P : ℕ → Type 0} {n : ℕ} → ((i : ℕ) → i < n → P i) → P n → (i : ℕ) → i < suc n → P i
upto {P} {n} p q i h = pick (eq-or-lt_of_le (le_of_suc-le-suc h))
  where
    pick : (i ≡ n) ⊎ (i < n) → P i
    pick (inl e) = subst⁻¹ P e q
    pick (inr l) = p i l

pub sum_mono : (n : ℕ) {f g : ℕ → ℕ} → ((i : ℕ) → i < n → f i ≤ g i) → sum n f ≤ sum n g
sum_mono zero p = le_refl 0
sum_mono (suc n) p =
    let a = sum_mono n (λ i h. p i (le_step h)) in
    let b = p n (lt-suc_self n) in
    omega arith

pub sum_cong : (n : ℕ) {f g : ℕ → ℕ} → ((i : ℕ) → i < n → f i ≡ g i) → sum n f ≡ sum n g
sum_cong zero p = refl
sum_cong (suc n) p = ap₂ ◌+◌ (sum_cong n (λ i h. p i (le_step h))) (p n (lt-suc_self n))

pub sum_add : (n : ℕ) (f g : ℕ → ℕ) → sum n (λ i. f i + g i) ≡ sum n f + sum n g
sum_add zero f g = refl
sum_add (suc n) f g = let a = sum_add n f g in omega arith

pub sum_const : (n a : ℕ) → sum n (λ i. a) ≡ n * a
sum_const zero a = sym (zero-mul a)
sum_const (suc n) a = let e = sum_const n a in omega arith

-- terms of at most b
pub sum_most : (n b : ℕ) {f : ℕ → ℕ} → ((i : ℕ) → i < n → f i ≤ b) → sum n f ≤ n * b
sum_most n b {f} p = subst (λ (k : ℕ). sum n f ≤ k) (sum_const n b) (sum_mono n {f = f} {g = λ i. b} p)

-- terms that are nowhere lower, and not higher together, are the same
pub sum_tight : (n : ℕ) {f g : ℕ → ℕ} → ((i : ℕ) → i < n → f i ≤ g i) → sum n g ≤ sum n f → (i : ℕ) → i < n → g i ≡ f i
sum_tight zero p h = λ i l. absurd (not-suc-le-zero l)
sum_tight (suc n) {f} {g} p h =
    let below = sum_mono n {f = f} {g = g} (λ i l. p i (le_step l)) in
    let last = p n (lt-suc_self n) in
    upto (sum_tight n {f = f} {g = g} (λ i l. p i (le_step l)) (omega arith)) (omega arith)

pub sum_scale : (n a : ℕ) (f : ℕ → ℕ) → sum n (λ i. a * f i) ≡ a * sum n f
sum_scale zero a f = omega arith
sum_scale (suc n) a f = let e = sum_scale n a f in omega arith

pub sum-cell : (n : ℕ) (f : ℕ → ℕ) (i : ℕ) → i < n → f i ≤ sum n f
sum-cell zero f = λ i h. absurd (not-suc-le-zero h)
sum-cell (suc n) f =
    upto (λ i h. le_trans (sum-cell n f i h) (le-add_right (sum n f) (f n))) (le-add_left (f n) (sum n f))

-- a part of a sum
pub sum_part : (m n : ℕ) (f : ℕ → ℕ) → m ≤ n → sum m f ≤ sum n f
sum_part m n f = le_ind (λ (k : ℕ). sum m f ≤ sum k f) (le_refl (sum m f)) (λ k h l. le_trans l (le-add_right (sum k f) (f k))) n

-- and where the rest of it is 0, the whole
pub sum-rest : (m n : ℕ) (f : ℕ → ℕ) → m ≤ n → ((i : ℕ) → m ≤ i → f i ≡ 0) → sum n f ≡ sum m f
sum-rest m n f h rest = le_ind (λ (k : ℕ). sum k f ≡ sum m f) refl (λ k l e. omega (arith, e, rest k l)) n h

-- a sum with one larger term
pub sum-raised : (n : ℕ) {f g : ℕ → ℕ} (i d : ℕ) → i < n → ((k : ℕ) → k < n → (i ≡ k → ⊥) → g k ≡ f k) → g i ≡ f i + d → sum n g ≡ sum n f + d
sum-raised zero i d h others here = absurd (not-suc-le-zero h)
sum-raised (suc n) {f} {g} i d h others here =
    pick (eq-or-lt_of_le (le_of_suc-le-suc h)) (λ l. sum-raised n {f = f} {g = g} i d l (λ k m. others k (le_step m)) here)
  where
    pick : (i ≡ n) ⊎ (i < n) → (i < n → sum n g ≡ sum n f + d) → sum n g + g n ≡ sum n f + f n + d
    pick (inl e) _ =
        let before = sum_cong n {f = g} {g = f} (λ k l. others k (le_step l) (λ q. omega arith)) in
        let last : g n ≡ f n + d = subst (λ (k : ℕ). g k ≡ f k + d) e here in
        omega arith
    pick (inr l) raised =
        let before = raised l in
        let last = others n (lt-suc_self n) (λ q. omega arith) in
        omega arith

-- a sum of which one term alone is not 0
pub sum_only : (n : ℕ) (f : ℕ → ℕ) (i : ℕ) → i < n → ((k : ℕ) → k < n → (i ≡ k → ⊥) → f k ≡ 0) → sum n f ≡ f i
sum_only n f i h others =
    sum-raised n {f = λ _. 0} {g = f} i (f i) h others (omega arith) ∙ (let z = sum_const n 0 in omega arith)

-- a sum of sums may be taken in either order
pub sum_swap : (m n : ℕ) (f : ℕ → ℕ → ℕ) → sum m (λ i. sum n (f i)) ≡ sum n (λ j. sum m (λ i. f i j))
sum_swap zero n f = sym (sum_const n 0 ∙ mul-zero n)
sum_swap (suc m) n f =
    ap (λ (x : ℕ). x + sum n (f m)) (sum_swap m n f) ∙ sym (sum_add n (λ j. sum m (λ i. f i j)) (f m))

-- ---- a loop that adds f j to s, from j = 0 up to n: one more term, the room that is left, and the end
pub sum_more : (f : ℕ → ℕ) (j s : ℕ) → s ≡ sum j f → s + f j ≡ sum (j + 1) f
sum_more f j s e = rw (add-one, e)

pub sum_room : (f : ℕ → ℕ) (j n s : ℕ) → s ≡ sum j f → j < n → s + f j ≤ sum n f
sum_room f j n s e h = rw e (sum_part (suc j) n f h)

pub sum_done : (f : ℕ → ℕ) (j n s : ℕ) → s ≡ sum j f → j ≤ n → n ≤ j → s ≡ sum n f
sum_done f j n s e h g = e ∙ ap (λ (k : ℕ). sum k f) (le_antisymm h g)

-- where the next term leaves no room below a limit the whole is over it; where all of it has room it is not
pub sum_over : (f : ℕ → ℕ) (j n s limit : ℕ) → s ≡ sum j f → j < n → limit - s < f j → leb (sum n f) limit ≡ false
sum_over f j n s limit e h g = lt-leb (sum n f) limit (omega (arith, sum_room f j n s e h))

pub sum_under : (f : ℕ → ℕ) (j n s limit : ℕ) → s ≡ sum j f → j ≤ n → n ≤ j → s ≤ limit → leb (sum n f) limit ≡ true
sum_under f j n s limit e h h' g = le-leb (sum n f) limit (omega (arith, sum_done f j n s e h h'))

-- ---- the largest
pub largest_le : (n : ℕ) {f : ℕ → ℕ} {b : ℕ} → ((i : ℕ) → i < n → f i ≤ b) → largest n f ≤ b
largest_le zero p = zero-le
largest_le (suc n) p = max-le (largest_le n (λ i h. p i (le_step h))) (p n (lt-suc_self n))

pub largest-cell : (n : ℕ) (f : ℕ → ℕ) (i : ℕ) → i < n → f i ≤ largest n f
largest-cell zero f = λ i h. absurd (not-suc-le-zero h)
largest-cell (suc n) f =
    upto (λ i h. le_trans (largest-cell n f i h) (le-max_left (largest n f) (f n))) (le-max_right (largest n f) (f n))

pub largest_scale : (n : ℕ) (f : ℕ → ℕ) → largest n (λ i. one * f i) ≡ one * largest n f
largest_scale zero f = refl
largest_scale (suc n) f = let e = largest_scale n f in omega arith

-- cell (i, j) lies in a matrix of n rows and n columns
pub cell_in : (n i j : ℕ) → i < n → j < n → i * n + j < n * n
cell_in n i j h l = digits_lt h l
