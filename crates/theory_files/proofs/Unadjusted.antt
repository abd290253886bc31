-- "A file without kind 10 means G = 0 and keeps its results": it is read as document 01's reader reads it, and no named cell is one of G. Assumes nothing.
use mathlib.Core.Bool.{Bool, true, false, ◌&&◌, ◌||◌, cond, false≢true}
use mathlib.Core.List.{List, [], ◌∷◌, map}
use mathlib.Core.Path.{◌≡◌, refl, sym, ap, subst, ◌∙◌}
use Prim.Native.Nat.{ℕ, zero, suc, ◌+◌, ◌-◌, ◌≤◌, ◌<◌}
use native.Mathlib.Omega.{arith}
use borrow.Author.Tests.{ltb-true, ltb-false, lt-leb, eqb-true, eqb-false, ne_eqb}
use lib.Dec.{eqb, leb, ltb}
use lib.ListN.{length, replicate}
use Rattle.model.specs.Numbers.{cell, all}
use Rattle.model.specs.Table.{sector_limit, sheet_limit, few_sectors}
use Rattle.model.specs.File.{Entry, record_lengths, column_word, column_words, amount_from, kind_at, is_flow, next_at, whole_at, inside_at, entry_at, named_before, Reading, walk, walk_with, reading, reading_with, column_of, column_read, fits, called, word_limit}
use Rattle.model.specs.Unadjusted.{unadjusted_whole, unadjusted_reading, WithoutKind10}
use Rattle.model.specs.CallContracts.{Slices, columns_of, reading_into, Delivered}
use Rattle.theory.proofs.Lists.{first_before, and_true, and_last_false, from_one, each_equal}
use Rattle.theory_files.proofs.Encoding.{made, unlike}
use Rattle.theory_files.proofs.RecordKinds.{no_kind, known_kind, body}
use Rattle.theory_files.proofs.Questions.{both_unless, both_provided, both_either}

-- named cells none of which is of G, and a reading with such cells
abbrev pub NoItem : List Entry → Type 0
NoItem [] = Unit {0}
NoItem (e ∷ es) = (e.word ≡ column_word 5 → ⊥) × NoItem es

abbrev pub Plain : Reading → Type 0
Plain (Reading.refused number place) = Unit {0}
Plain (Reading.table n es) = NoItem es

-- they leave its column 0
pub item_zero : (es : List Entry) → NoItem es → column_of (column_word 5) es ≡ replicate sector_limit 0
item_zero [] none = refl
item_zero (e ∷ es) none = rw (ne_eqb e.word (column_word 5) none.0) (item_zero es none.1)

-- ---- kinds other than 10: computed for each
alike : (a b : Bool) → cond a b (cond b false true) ≡ true → a ≡ b
alike true true e = refl
alike false false e = refl
alike true false e = absurd (false≢true e)
alike false true e = absurd (false≢true e)

-- question 11 of both readers, and whether the word is that of G
abbrev eleventh : ℕ → Bool
eleventh k = cond (leb 1 (cell record_lengths k)) (leb 1 k && leb k 9) (cond (leb 1 k && leb k 9) false true)

abbrev other_word : ℕ → Bool
other_word k = cond (eqb (cell column_words k) (column_word 5)) false true

-- each kind but 10
each_other : (k : ℕ) → (k ≡ 10 → ⊥) → k < length record_lengths → (eleventh k ≡ true) × (other_word k ≡ true)
each_other k other h =
    let found = first_before (length record_lengths) (λ i. eqb i 10 || (eleventh i && other_word i)) k h in
    and_true _ _ (sym (ap (λ (b : Bool). b || (eleventh k && other_word k)) (ne_eqb k 10 other)) ∙ found)

kinds_alike : (k : ℕ) → (k ≡ 10 → ⊥) → leb 1 (cell record_lengths k) ≡ (leb 1 k && leb k 9)
kinds_alike k other = go (ltb k (length record_lengths)) refl
  where
    go : (b : Bool) → ltb k (length record_lengths) ≡ b → leb 1 (cell record_lengths k) ≡ (leb 1 k && leb k 9)
    go true h = alike _ _ (each_other k other (ltb-true k (length record_lengths) h)).0
    go false h =
        let high = ltb-false k (length record_lengths) h in
        ap (leb 1) (no_kind k high) ∙ sym (ap (λ (b : Bool). leb 1 k && b) (lt-leb k 9 (omega arith)) ∙ and_last_false (leb 1 k))

module _ (s : List ℕ) (at : ℕ) where
  whole_same : (kind_at s at ≡ 10 → ⊥) → whole_at s at ≡ unadjusted_whole s at
  unfolding whole_at
  whole_same other = ap (λ (b : Bool). b && leb (next_at s at) (length s)) (kinds_alike (kind_at s at) other)

  whole_none : kind_at s at ≡ 10 → unadjusted_whole s at ≡ false
  whole_none e = rw e refl

  -- the cell that a record of another kind names is not one of G
  other_word_lem : (n : ℕ) → n ≤ sector_limit → (kind_at s at ≡ 10 → ⊥) → whole_at s at ≡ true → inside_at s at n ≡ true → (entry_at s at).word ≡ column_word 5 → ⊥
  unfolding inside_at entry_at
  other_word_lem n few other whole inside = go (is_flow s at)
    where
      first : (1 ≤ cell s (at + 1)) × (cell s (at + 1) ≤ n)
      first = from_one (cell s (at + 1)) n (and_true _ _ inside).0

      go : (b : Bool)
          → (cond b (made (cell s (at + 1) - 1) (cell s (at + 2) - 1) (amount_from s (at + 3))) (made (cell column_words (kind_at s at)) (cell s (at + 1) - 1) (amount_from s (at + 2)))).word ≡ column_word 5
          → ⊥
      go true e = let f = first in omega arith
      go false e = eqb-false _ _ (unlike _ (each_other (kind_at s at) other (known_kind (kind_at s at) (body s at whole).0)).1) e

-- ---- both readers, record by record: what document 01's comes to, v, ours comes to, unless v is refused with 11 at a byte of 10
module _ (s : List ℕ) where
  abbrev Same : Reading → Reading → Type 0
  Same w v = ((place : ℕ) → v ≡ Reading.refused 11 place → kind_at s place ≡ 10 → ⊥) → (w ≡ v) × Plain v

  stop : {number place : ℕ} → Same (Reading.refused number place) (Reading.refused number place)
  stop = λ _. (refl, tt)

  -- through question 11
  whole : (at : ℕ) (x y : Reading) → (whole_at s at ≡ true → (kind_at s at ≡ 10 → ⊥) → Same x y)
      → Same (cond (whole_at s at) x (Reading.refused 11 at)) (cond (unadjusted_whole s at) y (Reading.refused 11 at))
  whole at x y go = split (eqb (kind_at s at) 10) refl
    where
      split : (b : Bool) → eqb (kind_at s at) 10 ≡ b → Same (cond (whole_at s at) x (Reading.refused 11 at)) (cond (unadjusted_whole s at) y (Reading.refused 11 at))
      split true e = let kind = eqb-true (kind_at s at) 10 e in λ none. absurd (none at (rw (whole_none s at kind) refl) kind)
      split false e =
          let other = eqb-false (kind_at s at) 10 e in
          rw (sym (whole_same s at other)) (both_provided Same (whole_at s at) x y 11 at stop (λ w. go w other))

  walk_same : (n : ℕ) → n ≤ sector_limit → (fuel : ℕ) (es : List Entry) (at : ℕ) → NoItem es → Same (walk fuel s n es at) (walk_with unadjusted_whole fuel s n es at)
  unfolding walk_with
  walk_same n few zero es at none = λ _. (refl, tt)
  walk_same n few (suc fuel) es at none =
      both_unless Same (leb (length s) at) _ _ 15 (length s) stop (λ _.
      whole at _ _ (λ w other.
      both_unless Same (eqb (kind_at s at) 1) _ _ 12 at stop (λ _.
      both_either Same (eqb (kind_at s at) 8) _ _ _ _
      (λ _. both_provided Same (eqb (at + 1) (length s)) _ _ 15 (at + 1) stop (λ _ _. (refl, none)))
      (λ _.
      both_provided Same (inside_at s at n) _ _ 13 at stop (λ inside.
      both_unless Same (named_before es (entry_at s at)) _ _ 14 at stop (λ _.
      walk_same n few fuel (entry_at s at ∷ es) (next_at s at) (other_word_lem s at n few other w inside, none)))))))

  -- Theorem, for the reader: a file without kind 10 is read as document 01's reader reads it, and names no cell of G
  pub reading-same : WithoutKind10 s → (reading s ≡ unadjusted_reading s) × Plain (unadjusted_reading s)
  unfolding reading_with
  reading-same =
      both_unless Same (eqb (length s) 0) _ _ 15 0 stop (λ _.
      whole 0 _ _ (λ _ _.
      both_provided Same (eqb (kind_at s 0) 1 && few_sectors (cell s 1)) _ _ 12 0 stop (λ sized.
      walk_same (cell s 1) (from_one (cell s 1) sector_limit (and_true (eqb (kind_at s 0) 1) (few_sectors (cell s 1)) sized).1).1 (length s) [] 2 tt)))

-- ---- so the reader leaves 0 in the column of G
read_zero : (len : ℕ) (o : Reading) → Plain o → len ≡ sector_limit → column_read (column_word 5) len o ≡ replicate len 0
read_zero len (Reading.refused number place) plain e = refl
read_zero len (Reading.table n es) plain e = item_zero es plain ∙ ap (λ (k : ℕ). replicate k 0) (sym e)

pub no_item : (file : List ℕ) (s₀ : Slices) (marks₀ : List ℕ) (s : Slices) → Delivered (reading_into file s₀ marks₀) s₀ s
    → WithoutKind10 file → (s.adjustment ≡ replicate (length s₀.adjustment) 0) × (reading file ≡ unadjusted_reading file)
unfolding called
no_item file s₀ marks₀ s d without =
    let same = reading-same file without in
    (d.adjustment ∙ split (fits (length s₀.flows) columns (length marks₀)) refl (subst Plain (sym same.0) same.1), same.0)
  where
    columns : List ℕ
    columns = map length (columns_of s₀)

    len : ℕ
    len = length s₀.adjustment

    split : (b : Bool) → fits (length s₀.flows) columns (length marks₀) ≡ b → Plain (reading file)
        → column_read (column_word 5) len (cond b (reading file) (Reading.refused 2 0)) ≡ replicate len 0
    split true e plain =
        let asked = and_true (eqb sheet_limit (length s₀.flows) && all (eqb sector_limit) columns) (eqb word_limit (length marks₀)) e in
        let lengths = each_equal sector_limit columns (and_true (eqb sheet_limit (length s₀.flows)) (all (eqb sector_limit) columns) asked.0).1 in
        read_zero len (reading file) plain lengths.1.1.1.1.1.0
    split false e plain = refl
