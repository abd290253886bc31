-- What a reader finds where `encode` wrote a named cell: one step of its walk. Assumes nothing.
use mathlib.Core.Bool.{Bool, true, false, ◌&&◌, cond, false≢true}
use mathlib.Core.List.{List, [], ◌∷◌, ◌++◌, append_assoc}
use mathlib.Core.Path.{◌≡◌, refl, sym, ap, subst, ◌∙◌}
use Prim.Native.Nat.{ℕ, suc, ◌+◌, ◌*◌, ◌-◌, ◌/◌, ◌%◌, ◌<◌}
use native.Mathlib.Nat.{div-add-mod', div-div-eq-div-mul, suc-add, add-sub_cancel}
use native.Mathlib.Omega.{arith}
use native.Mathlib.Numerals.{unary_clauses}
use borrow.Author.Tests.{lt-leb, le-leb, leb-true, leb-false, eqb-true, ltb-true, ltb-false}
use lib.Dec.{eqb, leb, ltb}
use lib.ListN.{length}
use Rattle.model.specs.Numbers.{first, cell}
use Rattle.model.specs.Table.{sector_limit}
use Rattle.model.specs.File.{Entry, Within, record_lengths, column_words, column_kinds, amount_bytes, encode, encode_all, amount_from, kind_at, whole_at, inside_at, entry_at, named_before, Reading, walk, walk_with}
use Rattle.theory.proofs.Lists.{first_before, and_true}

-- two neighbouring bytes of an amount make one number
joined : (a k : ℕ) → a / (k * 256) * 256 + a / k % 256 ≡ a / k
joined a k = ap (λ (q : ℕ). q * 256 + a / k % 256) (sym (div-div-eq-div-mul a k 256)) ∙ div-add-mod' (a / k) 256

amount_back : (a : ℕ) → ((a / 16777216 * 256 + a / 65536 % 256) * 256 + a / 256 % 256) * 256 + a % 256 ≡ a
amount_back a =
    ap (λ (h : ℕ). (h * 256 + a / 256 % 256) * 256 + a % 256) (joined a 65536)
    ∙ ap (λ (h : ℕ). h * 256 + a % 256) (joined a 256)
    ∙ div-add-mod' a 256

-- a reader finds e whole at this offset, in a record of `size` bytes
pub record Stands (n : ℕ) (s : List ℕ) (at : ℕ) (e : Entry) (size : ℕ) : Type 0 where
  pub whole : whole_at s at ≡ true
  pub later : eqb (kind_at s at) 1 ≡ false
  pub going : eqb (kind_at s at) 8 ≡ false
  pub inside : inside_at s at n ≡ true
  pub entry : entry_at s at ≡ e
  pub sized : cell record_lengths (kind_at s at) ≡ size

leb_suc : (x y : ℕ) → leb (suc x) (suc y) ≡ leb x y
leb_suc x y = go (leb x y) refl
  where
    go : (b : Bool) → leb x y ≡ b → leb (suc x) (suc y) ≡ leb x y
    go true e = le-leb (suc x) (suc y) (let z = leb-true x y e in omega arith) ∙ sym e
    go false e = lt-leb (suc x) (suc y) (let z = leb-false x y e in omega arith) ∙ sym e

-- a byte before it moves the offset by one
stands_after : (n b : ℕ) (s : List ℕ) (at : ℕ) (e : Entry) (size : ℕ) → Stands n s at e size → Stands n (b ∷ s) (suc at) e size
unfolding whole_at inside_at entry_at amount_from
stands_after n b s at e _ h =
    let k = cell record_lengths (kind_at s at) in
    record {
      whole = ap (λ (b : Bool). leb 1 k && b) (ap (λ (next : ℕ). leb next (suc (length s))) (suc-add at k) ∙ leb_suc (at + k) (length s)) ∙ h.whole;
      later = h.later;
      going = h.going;
      inside = simp unary_clauses (simp unary_clauses at h.inside);
      entry = simp unary_clauses (simp unary_clauses at h.entry);
      sized = h.sized;
    }

stands_at : (n : ℕ) (before s : List ℕ) (e : Entry) (size : ℕ) → Stands n s 0 e size → Stands n (before ++ s) (length before) e size
stands_at n [] s e size h = h
stands_at n (b ∷ before) s e size h = stands_after n b (before ++ s) (length before) e size (stands_at n before s e size h)

-- a named cell by its parts; equal parts, equal cells
abbrev pub made : ℕ → ℕ → ℕ → Entry
made l p a = record { word = l; position = p; amount = a }

pub made_same : {l p a i j c : ℕ} → l ≡ i → p ≡ j → a ≡ c → made l p a ≡ made i j c
made_same {l} {p} {a} {i} {j} {c} e f g = ap (λ (x : ℕ). made x p a) e ∙ ap (λ (x : ℕ). made i x a) f ∙ ap (made i j) g

both : {a b : Bool} → a ≡ true → b ≡ true → a && b ≡ true
both {a} {b} e f = ap (λ (x : Bool). x && b) e ∙ f

-- sector byte i + 1 is from 1 to n
sector_in : (n i : ℕ) → i < n → leb 1 (i + 1) && leb (i + 1) n ≡ true
sector_in n i h = both (le-leb 1 (i + 1) (omega arith)) (le-leb (i + 1) n (omega arith))

flow_stands : (n i j a : ℕ) (rest : List ℕ) → i < n → j < n → Stands n (2 ∷ (i + 1) ∷ (j + 1) ∷ (amount_bytes a ++ rest)) 0 (made i j a) 7
unfolding whole_at inside_at entry_at amount_from
flow_stands n i j a rest hi hj =
    record {
      whole = le-leb 7 (suc (suc (suc (suc (suc (suc (suc (length rest)))))))) (omega arith);
      later = refl;
      going = refl;
      inside = both (sector_in n i hi) (sector_in n j hj);
      entry = made_same (add-sub_cancel i 1) (add-sub_cancel j 1) (amount_back a);
      sized = refl;
    }

-- the kinds of columns: 6 bytes each, none of them 1, 2 or 8, and the word comes back
column_size : (k : ℕ) → k < length column_kinds → cell record_lengths (cell column_kinds k) ≡ 6
column_size k h = eqb-true _ _ (first_before (length column_kinds) (λ i. eqb (cell record_lengths (cell column_kinds i)) 6) k h)

column_word_lem : (k : ℕ) → k < length column_kinds → cell column_words (cell column_kinds k) ≡ sector_limit + k
column_word_lem k h = eqb-true _ _ (first_before (length column_kinds) (λ i. eqb (cell column_words (cell column_kinds i)) (sector_limit + i)) k h)

pub unlike : (b : Bool) → cond b false true ≡ true → b ≡ false
unlike false e = refl
unlike true e = absurd (false≢true e)

column_unlike : (q k : ℕ) → first (length column_kinds) (λ i. cond (eqb (cell column_kinds i) q) false true) ≡ length column_kinds → k < length column_kinds → eqb (cell column_kinds k) q ≡ false
column_unlike q k e h = unlike _ (first_before (length column_kinds) (λ i. cond (eqb (cell column_kinds i) q) false true) k (subst (λ (m : ℕ). k < m) (sym e) h))

column_stands : (n k j a : ℕ) (rest : List ℕ) → k < length column_kinds → j < n → Stands n (cell column_kinds k ∷ (j + 1) ∷ (amount_bytes a ++ rest)) 0 (made (sector_limit + k) j a) 6
unfolding whole_at inside_at entry_at amount_from
column_stands n k j a rest hk hj =
    let long = suc (suc (suc (suc (suc (suc (length rest)))))) in
    record {
      whole = ap (λ (x : ℕ). leb 1 x && leb (0 + x) long) (column_size k hk) ∙ le-leb 6 long (omega arith);
      later = column_unlike 1 k refl hk;
      going = column_unlike 8 k refl hk;
      inside = both (sector_in n j hj) (rw (column_unlike 2 k refl hk) refl);
      entry = rw (column_unlike 2 k refl hk) (made_same (column_word_lem k hk) (add-sub_cancel j 1) (amount_back a));
      sized = column_size k hk;
    }

-- the bytes of a record: of a cell of x, and of a column's
pub encode_flow : (e : Entry) → ltb e.word sector_limit ≡ true → encode e ≡ 2 ∷ (e.word + 1) ∷ (e.position + 1) ∷ amount_bytes e.amount
unfolding encode
encode_flow e h = rw h refl

pub encode_column : (e : Entry) → ltb e.word sector_limit ≡ false → encode e ≡ cell column_kinds (e.word - sector_limit) ∷ (e.position + 1) ∷ amount_bytes e.amount
unfolding encode
encode_column e h = rw h refl

-- and of records one after another
pub encode-append : (es fs : List Entry) → encode_all (es ++ fs) ≡ encode_all es ++ encode_all fs
encode-append [] fs = refl
encode-append (e ∷ es) fs = ap (λ (s : List ℕ). encode e ++ s) (encode-append es fs) ∙ sym (append_assoc (encode e) (encode_all es) (encode_all fs))

-- The one lemma of a record: what `encode` wrote of a cell of the table, a reader finds
pub stands : (n : ℕ) (e : Entry) → Within n e → (before rest : List ℕ) → Stands n (before ++ (encode e ++ rest)) (length before) e (length (encode e))
unfolding encode
stands n e f before rest = stands_at n before (encode e ++ rest) e (length (encode e)) (go (ltb e.word sector_limit) refl)
  where
    go : (b : Bool) → ltb e.word sector_limit ≡ b → Stands n (encode e ++ rest) 0 e (length (encode e))
    go true h = rw h (flow_stands n e.word e.position e.amount rest (f.row (ltb-true e.word sector_limit h)) f.place)
    go false h =
        let low = ltb-false e.word sector_limit h in
        let high = f.known in
        let k = e.word - sector_limit in
        let same : sector_limit + k ≡ e.word = omega arith in
        let at-40 = column_stands n k e.position e.amount rest (omega arith) f.place in
        rw h (subst (λ (l : ℕ). Stands n (cell column_kinds k ∷ (e.position + 1) ∷ (amount_bytes e.amount ++ rest)) 0 (made l e.position e.amount) 6) same at-40)

-- it stands before the end of the file
stands_inside : (n : ℕ) (s : List ℕ) (at : ℕ) (e : Entry) (size : ℕ) → Stands n s at e size → leb (length s) at ≡ false
unfolding whole_at
stands_inside n s at e size h =
    let k = cell record_lengths (kind_at s at) in
    let parts = and_true (leb 1 k) (leb (at + k) (length s)) h.whole in
    let some = leb-true 1 k parts.0 in
    let ends = leb-true (at + k) (length s) parts.1 in
    lt-leb (length s) at (omega arith)

-- the reader's step over it
pub step : (n : ℕ) (s : List ℕ) (at : ℕ) (e : Entry) (size fuel : ℕ) (es : List Entry) → Stands n s at e size
    → walk (suc fuel) s n es at ≡ cond (named_before es e) (Reading.refused 14 at) (walk fuel s n (e ∷ es) (at + size))
unfolding walk_with
step n s at e size fuel es h =
    rw (stands_inside n s at e size h, h.whole, h.later, h.going, h.inside, h.entry, h.sized) refl
