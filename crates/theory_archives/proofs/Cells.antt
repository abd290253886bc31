-- The cells of a table and its named cells: what the writer takes of a table, and what the reader stores. Assumes nothing.
use mathlib.Core.Bool.{Bool, true, false, cond, false≢true}
use mathlib.Core.List.{List, [], ◌∷◌, ◌++◌, append_assoc}
use mathlib.Core.Path.{◌≡◌, refl, sym, ap, ap₂, ◌∙◌, subst}
use Prim.Native.Nat.{ℕ, zero, suc, ◌+◌, ◌*◌, ◌≤◌, ◌<◌, suc-le-suc}
use native.Mathlib.Omega.{arith}
use native.Mathlib.Nat.{le_refl, le_trans, le_of_eq, suc-mul, mul-le-mul_right, zero-add, add-zero, zero-lt-suc}
use borrow.Author.Tests.{eq-eqb, ne_eqb, eqb-true, eqb-false}
use lib.Dec.{eqb}
use lib.ListN.{length, get_or, set, take, drop, replicate, length-drop, length-set, length-replicate}
use lib.Seq.{length-take-le, get_or-take, get_or-drop, get_or-set_same, get_or-set_other}
use Rattle.model.specs.Numbers.{cell, at}
use Rattle.model.specs.Table.{sector_limit}
use Rattle.model.specs.File.{Entry, Within, word_limit}
use Rattle.model.specs.Writer.{word_entries, words_entries, rows, order, Ascending}
use Rattle.theory.specs.Slices.{Columns}
use Rattle.theory.proofs.Lists.{length-tabulate, made_tabulate, cell_zeros}
use Rattle.theory_files.proofs.Encoding.{made}
use Rattle.theory_files.proofs.Readings.{AllWithin, Distinct}
use Rattle.theory_archives.proofs.Ascending.{amount_at, amount_append, amount_here, amount_other, order_once, from_lower, unnamed}

-- ---- the named cells of words
-- a word that a table of n sectors has
abbrev pub Known : ℕ → ℕ → Type 0
Known n word = (word < word_limit) × (word < sector_limit → word < n)

others : (n : ℕ) (s : List ℕ) (ss : List (List ℕ)) → Columns n (s ∷ ss) → Columns n ss
others n s ss cs c h = cs (suc c) (suc-le-suc h)

module _ (n : ℕ) (few : n ≤ sector_limit) where
  word_ascending : (word p : ℕ) (s : List ℕ) → Known n word → p + length s ≤ n
      → (rest : List Entry) → Ascending n (word * sector_limit + sector_limit) rest → Ascending n (word * sector_limit + p) (word_entries word p s ++ rest)
  word_ascending word p [] k h rest a = from_lower n few (word * sector_limit + p) (word * sector_limit + sector_limit) rest (omega arith) a
  word_ascending word p (a ∷ s) k h rest after = go (eqb a 0) refl (word_ascending word (p + 1) s k (omega arith) rest after)
    where
      go : (b : Bool) → eqb a 0 ≡ b → Ascending n (word * sector_limit + (p + 1)) (word_entries word (p + 1) s ++ rest)
          → Ascending n (word * sector_limit + p) (word_entries word p (a ∷ s) ++ rest)
      go true e later = rw e (from_lower n few (word * sector_limit + p) (word * sector_limit + (p + 1)) (word_entries word (p + 1) s ++ rest) (omega arith) later)
      go false e later =
          rw e (
            record { known = k.0; row = k.1; place = omega arith },
            le_refl (word * sector_limit + p),
            (let z = eqb-false a 0 e in omega arith),
            from_lower n few (suc (word * sector_limit + p)) (word * sector_limit + (p + 1)) (word_entries word (p + 1) s ++ rest) (omega arith) later,
          )

  pub words_ascending : (word : ℕ) (ss : List (List ℕ)) → Columns n ss → ((w : ℕ) → word ≤ w → w < word + length ss → Known n w)
      → (rest : List Entry) → Ascending n ((word + length ss) * sector_limit) rest → Ascending n (word * sector_limit) (words_entries word ss ++ rest)
  words_ascending word [] cs k rest a = from_lower n few (word * sector_limit) ((word + 0) * sector_limit) rest (omega arith) a
  words_ascending word (s ∷ ss) cs k rest a =
      let later = words_entries (word + 1) ss ++ rest in
      let after = words_ascending (word + 1) ss (others n s ss cs) (λ w h l. k w (omega arith) (omega arith)) rest (from_lower n few _ _ rest (omega arith) a) in
      subst (Ascending n (word * sector_limit)) (sym (append_assoc (word_entries word 0 s) (words_entries (word + 1) ss) rest))
      (from_lower n few (word * sector_limit) (word * sector_limit + 0) (word_entries word 0 s ++ later) (omega arith)
      (word_ascending word 0 s (k word (le_refl word) (omega arith)) (omega (arith, cs 0 (zero-lt-suc (length ss)))) later
      (from_lower n few (word * sector_limit + sector_limit) ((word + 1) * sector_limit) later (omega arith) after)))

-- the amounts of a word's cells are those of its first cell, 0 or not, and of the others
word_first : (word p a : ℕ) (s : List ℕ) (r : ℕ) → amount_at (word_entries word p (a ∷ s)) r ≡ amount_at (made word p a ∷ word_entries word (p + 1) s) r
word_first word p a s r = go (eqb a 0) (eqb (word * sector_limit + p) r) refl refl
  where
    go : (b t : Bool) → eqb a 0 ≡ b → eqb (word * sector_limit + p) r ≡ t → amount_at (word_entries word p (a ∷ s)) r ≡ amount_at (made word p a ∷ word_entries word (p + 1) s) r
    go true true e f = rw (e, f, eqb-true a 0 e) (sym (zero-add (amount_at (word_entries word (p + 1) s) r)))
    go true false e f = rw (e, f) (sym (zero-add (amount_at (word_entries word (p + 1) s) r)))
    go false t e f = rw e refl

-- at a place that is none of a word's positions
word_away : (word p : ℕ) (s : List ℕ) → p + length s ≤ sector_limit → (r : ℕ) → ((k : ℕ) → p ≤ k → k < sector_limit → word * sector_limit + k ≡ r → ⊥) → amount_at (word_entries word p s) r ≡ 0
word_away word p [] h r away = refl
word_away word p (a ∷ s) h r away =
    word_first word p a s r
    ∙ amount_other (made word p a) (word_entries word (p + 1) s) r (ne_eqb (word * sector_limit + p) r (away p (le_refl p) (omega arith)))
    ∙ word_away word (p + 1) s (omega arith) r (λ k g. away k (omega arith))

-- at one of them
word_amount : (word p : ℕ) (s : List ℕ) → p + length s ≤ sector_limit → (k r : ℕ) → r ≡ word * sector_limit + (p + k) → amount_at (word_entries word p s) r ≡ cell s k
word_amount word p [] h k r e = refl
word_amount word p (a ∷ s) h zero r e =
    let here : r ≡ word * sector_limit + p = omega arith in
    word_first word p a s r ∙ ap (amount_at (made word p a ∷ word_entries word (p + 1) s)) here
    ∙ amount_here (made word p a) (word_entries word (p + 1) s) (word_away word (p + 1) s (omega arith) (word * sector_limit + p) (λ k g l z. omega arith))
word_amount word p (a ∷ s) h (suc k) r e =
    word_first word p a s r
    ∙ amount_other (made word p a) (word_entries word (p + 1) s) r (ne_eqb (word * sector_limit + p) r (λ z. omega arith))
    ∙ word_amount word (p + 1) s (omega arith) k r (omega arith)

module _ (n : ℕ) (few : n ≤ sector_limit) where
  -- at a place that is in none of some words
  pub words_away : (word : ℕ) (ss : List (List ℕ)) → Columns n ss → (r : ℕ)
      → ((w k : ℕ) → word ≤ w → w < word + length ss → k < sector_limit → w * sector_limit + k ≡ r → ⊥) → amount_at (words_entries word ss) r ≡ 0
  words_away word [] cs r away = refl
  words_away word (s ∷ ss) cs r away =
      let here = word_away word 0 s (omega (arith, cs 0 (zero-lt-suc (length ss)))) r (λ k _. away word k (le_refl word) (omega arith)) in
      let later = words_away (word + 1) ss (others n s ss cs) r (λ w k h l. away w k (omega arith) (omega arith)) in
      omega (arith, amount_append (word_entries word 0 s) (words_entries (word + 1) ss) r)

  -- at position j of the c-th of them
  pub words_amount : (word : ℕ) (ss : List (List ℕ)) → Columns n ss → (c j : ℕ) → j < sector_limit
      → amount_at (words_entries word ss) ((word + c) * sector_limit + j) ≡ cell (get_or ss c []) j
  words_amount word [] cs c j h = refl
  words_amount word (s ∷ ss) cs zero j h =
      let r = (word + 0) * sector_limit + j in
      let fits : 0 + length s ≤ sector_limit = omega (arith, cs 0 (zero-lt-suc (length ss))) in
      let here = word_amount word 0 s fits j r (omega arith) in
      let later = words_away (word + 1) ss (others n s ss cs) r (λ w k l g m e. omega arith) in
      amount_append (word_entries word 0 s) (words_entries (word + 1) ss) r ∙ ap₂ ◌+◌ here later ∙ add-zero (cell s j)
  words_amount word (s ∷ ss) cs (suc c) j h =
      let r = (word + suc c) * sector_limit + j in
      let q : r ≡ (word + 1 + c) * sector_limit + j = omega arith in
      let fits : 0 + length s ≤ sector_limit = omega (arith, cs 0 (zero-lt-suc (length ss))) in
      let here = word_away word 0 s fits r (λ k _ l e. omega arith) in
      let later : amount_at (words_entries (word + 1) ss) r ≡ cell (get_or ss c []) j = ap (amount_at (words_entries (word + 1) ss)) q ∙ words_amount (word + 1) ss (others n s ss cs) c j h in
      amount_append (word_entries word 0 s) (words_entries (word + 1) ss) r ∙ ap₂ ◌+◌ here later ∙ zero-add (cell (get_or ss c []) j)

-- ---- the rows of x
module _ (n : ℕ) (x : List ℕ) where
  pub rows_count : length (rows n x) ≡ n
  rows_count = length-tabulate n (λ i. take n (drop (i * n) x))

  pub row_is : (i : ℕ) → i < n → get_or (rows n x) i [] ≡ take n (drop (i * n) x)
  row_is i h = made_tabulate [] n (λ i. take n (drop (i * n) x)) i h

  pub rows_columns : length x ≡ n * n → Columns n (rows n x)
  rows_columns e i h =
      let lt = subst (λ (m : ℕ). i < m) rows_count h in
      let long : i * n + n ≤ n * n = le_trans (le_of_eq (sym (suc-mul i n))) (mul-le-mul_right n lt) in
      ap length (row_is i lt) ∙ length-take-le n (drop (i * n) x) (omega (arith, length-drop (i * n) x))

  pub rows-cell : (i j : ℕ) → i < n → j < n → cell (get_or (rows n x) i []) j ≡ at n x i j
  rows-cell i j h l = ap (λ (s : List ℕ). cell s j) (row_is i h) ∙ get_or-take n (drop (i * n) x) j 0 l ∙ get_or-drop (i * n) x j 0

-- ---- what a reader stores of named cells in a slice: the cells of some words, each in its own place
module _ (n : ℕ) (few : n ≤ sector_limit) (slice : List Entry → List ℕ) (belongs : ℕ → Bool) (index : ℕ → ℕ → ℕ) (size : ℕ)
    (none : slice [] ≡ replicate size 0)
    (one_more : (e : Entry) (es : List Entry) → slice (e ∷ es) ≡ cond (belongs e.word) (set (slice es) (index e.word e.position) e.amount) (slice es))
    (inside : (e : Entry) → Within n e → belongs e.word ≡ true → index e.word e.position < size)
    (once : (e f : Entry) → Within n e → Within n f → belongs e.word ≡ true → belongs f.word ≡ true → index e.word e.position ≡ index f.word f.position → order e ≡ order f)
  where
    pub slice_length : (es : List Entry) → length (slice es) ≡ size
    slice_length [] = ap length none ∙ length-replicate size 0
    slice_length (e ∷ es) = ap length (one_more e es) ∙ split (belongs e.word) (slice_length es)
      where
        split : (b : Bool) → length (slice es) ≡ size → length (cond b (set (slice es) (index e.word e.position) e.amount) (slice es)) ≡ size
        split true h = length-set (slice es) (index e.word e.position) e.amount ∙ h
        split false h = h

    pub slice_cell : (es : List Entry) → Distinct es → AllWithin n es → (e : Entry) → Within n e → belongs e.word ≡ true
        → cell (slice es) (index e.word e.position) ≡ amount_at es (order e)
    slice_cell [] d a e w h = ap (λ (l : List ℕ). cell l (index e.word e.position)) none ∙ cell_zeros size (index e.word e.position)
    slice_cell (f ∷ es) d a e w h =
        ap (λ (l : List ℕ). cell l here) (one_more f es) ∙ go (belongs f.word) (eqb (order f) (order e)) refl refl (slice_cell es d.1 a.1 e w h)
      where
        here : ℕ
        here = index e.word e.position

        same : order f ≡ order e → (f.word ≡ e.word) × (f.position ≡ e.position)
        same q = let p = a.0.place in let p2 = w.place in order_once f e (omega arith) (omega arith) q

        go : (b t : Bool) → belongs f.word ≡ b → eqb (order f) (order e) ≡ t → cell (slice es) here ≡ amount_at es (order e)
            → cell (cond b (set (slice es) (index f.word f.position) f.amount) (slice es)) here ≡ amount_at (f ∷ es) (order e)
        go true true x y later =
            let q = eqb-true (order f) (order e) y in
            let s = same q in
            let at_here : index f.word f.position ≡ here = ap₂ index s.0 s.1 in
            ap (λ (i : ℕ). cell (set (slice es) i f.amount) here) at_here
            ∙ get_or-set_same (slice es) here f.amount 0 (subst (λ (m : ℕ). here < m) (sym (slice_length es)) (inside e w h))
            ∙ sym (ap (amount_at (f ∷ es)) (sym q) ∙ amount_here f es (unnamed n few es f a.1 a.0 d.0))
        go true false x y later =
            get_or-set_other (slice es) (index f.word f.position) here f.amount 0
            (λ q. false≢true (sym y ∙ eq-eqb (order f) (order e) (once f e a.0 w x h (sym q))))
            ∙ later ∙ sym (amount_other f es (order e) y)
        go false true x y later = absurd (false≢true (sym x ∙ ap belongs (same (eqb-true (order f) (order e) y)).0 ∙ h))
        go false false x y later = later ∙ sym (amount_other f es (order e) y)
