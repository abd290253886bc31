-- The file of a table, part by part: slices word by word, the rows of x, and the whole. Assumes nothing.
use mathlib.Core.List.{List, [], ◌∷◌, ◌++◌, append_assoc, map}
use mathlib.Core.Path.{◌≡◌, refl, sym, ap, ap₂, subst, ◌∙◌}
use Prim.Native.Nat.{ℕ, zero, suc, ◌+◌, ◌*◌, ◌-◌, ◌≤◌, ◌<◌, zero-le}
use native.Mathlib.Nat.{add-zero, zero-add}
use native.Mathlib.Numerals.{add-one}
use native.Mathlib.Omega.{arith}
use lib.ListN.{length, get_or, take, drop, drop_of_length-le, length-append}
use lib.Seq.{sets, get_or-drop, drop-cons}
use Rattle.std.proofs.Common.{Bor}
use lib.ListN.{get_or-map}
use Rattle.model.specs.Numbers.{cell}
use Rattle.model.specs.Table.{Table, sector_limit}
use Rattle.model.specs.File.{encode_all, file_of}
use Rattle.model.specs.Writer.{word_entries, words_entries, rows, columns_by_kind, table_entries, written}
use Rattle.theory.proofs.Stores.{Wrote, Begun, begin, go_on, leaves, done, ended, room_first}
use Rattle.theory_files.proofs.Encoding.{encode-append}
use Rattle.theory_archives.proofs.Cells.{row_is}

-- the bytes of a slice by its word, and of slices by that word and those after it
abbrev pub word_encoded : (word : ℕ) → List ℕ → List ℕ
word_encoded word s = encode_all (word_entries word 0 s)

abbrev pub words_encoded : (word : ℕ) → List (List ℕ) → List ℕ
words_encoded word ss = encode_all (words_entries word ss)

-- ---- slices written one after the other: the bytes of the first k stand in m, which was l, and j is the next place
pub record Words (word : ℕ) (ss : List (List ℕ)) (at : ℕ) (l : List ℕ) (k : ℕ) (m : List ℕ) (j : ℕ) : Type 0 where
  pub begun : Begun (words_encoded word ss) at l m j (words_encoded (word + k) (drop k ss))

pub words_none : (word : ℕ) (ss : List (List ℕ)) (at : ℕ) (l : List ℕ) → Words word ss at l 0 l at
words_none word ss at l =
    record { begun = leaves (words_encoded (word + 0) ss) (ap (λ (w : ℕ). words_encoded w ss) (sym (add-zero word))) (begin (words_encoded word ss) at l) }

-- the slice that is next, and those after it
words_first : (word : ℕ) (ss : List (List ℕ)) (k : ℕ) → k < length ss
    → words_encoded (word + k) (drop k ss) ≡ word_encoded (word + k) (get_or ss k []) ++ words_encoded (word + (k + 1)) (drop (k + 1) ss)
words_first word ss k h =
    let later = drop (k + 1) ss in
    let next : word + k + 1 ≡ word + (k + 1) = omega arith in
    ap (words_encoded (word + k)) (drop-cons ss k [] h ∙ ap (λ (i : ℕ). get_or ss k [] ∷ drop i ss) (sym (add-one k)))
    ∙ encode-append (word_entries (word + k) 0 (get_or ss k [])) (words_entries (word + k + 1) later)
    ∙ ap (λ (w : ℕ). word_encoded (word + k) (get_or ss k []) ++ words_encoded w later) next

module _ {word at k j : ℕ} {ss : List (List ℕ)} {l m : List ℕ} (p : Words word ss at l k m j) where
  -- a text that is the bytes of the slice that is next
  pub words_room : {text : List ℕ} → k < length ss → text ≡ word_encoded (word + k) (get_or ss k [])
      → at + length (words_encoded word ss) ≤ length l → j + length text ≤ length m
  words_room {text} h e r =
      subst (λ (s : List ℕ). j + length s ≤ length m) (sym e)
      (room_first (word_encoded (word + k) (get_or ss k [])) (words_encoded (word + (k + 1)) (drop (k + 1) ss)) (words_first word ss k h) r p.begun)

  pub words_more : {text o : List ℕ} {i : ℕ} → k < length ss → text ≡ word_encoded (word + k) (get_or ss k []) → Wrote text j m o i → Words word ss at l (k + 1) o i
  words_more {text} {o} {i} h e w =
      let later = words_encoded (word + (k + 1)) (drop (k + 1) ss) in
      record { begun = go_on text later (words_first word ss k h ∙ ap (λ (s : List ℕ). s ++ later) (sym e)) p.begun w }

  pub words_done : length ss ≤ k → Wrote (words_encoded word ss) at l m j
  words_done h = ended (ap (words_encoded (word + k)) (drop_of_length-le ss {i = k} h)) p.begun

-- ---- the rows of x
take_small : (limit m : ℕ) (l : List ℕ) → ((k : ℕ) → cell l k ≤ limit) → (k : ℕ) → cell (take m l) k ≤ limit
take_small limit zero l h k = zero-le
take_small limit (suc m) [] h k = zero-le
take_small limit (suc m) (a ∷ l) h zero = h 0
take_small limit (suc m) (a ∷ l) h (suc k) = take_small limit m l (λ j. h (suc j)) k

-- row i, as it is lent
abbrev pub row : (n : ℕ) → List ℕ → ℕ → List ℕ
row n x i = take ((i + 1) * n - i * n) (drop (i * n) x)

module _ (n : ℕ) (x : List ℕ) (i : ℕ) where
  pub row_small : (limit : ℕ) → ((k : ℕ) → cell x k ≤ limit) → (k : ℕ) → cell (row n x i) k ≤ limit
  row_small limit h =
      take_small limit ((i + 1) * n - i * n) (drop (i * n) x)
      (λ k. subst (λ (a : ℕ). a ≤ limit) (sym (get_or-drop (i * n) x k 0)) (h (i * n + k)))

  pub row_bytes : i < n → word_encoded i (row n x i) ≡ word_encoded (0 + i) (get_or (rows n x) i [])
  row_bytes h =
      let long : (i + 1) * n - i * n ≡ n = omega arith in
      ap₂ word_encoded (sym (zero-add i)) (ap (λ (m : ℕ). take m (drop (i * n) x)) long ∙ sym (row_is n x i h))

-- ---- a column of those that are lent
pub column_is : (columns : List (Bor (List ℕ))) (c : ℕ) → (get_or columns c (record { ref_ptr = (0, 0); now = [] })).now ≡ get_or (map (λ s. s.now) columns) c []
column_is columns c = sym (get_or-map (λ (s : Bor (List ℕ)). s.now) columns c (record { ref_ptr = (0, 0); now = [] }))

-- ---- the whole: kind 1, the rows, the columns, kind 8
module _ (t : Table) where
  abbrev opening : List ℕ
  opening = 1 ∷ t.sectors ∷ []

  abbrev flows : List ℕ
  flows = words_encoded 0 (rows t.sectors t.flows)

  abbrev columns : List ℕ
  columns = words_encoded sector_limit (columns_by_kind t)

  table_parts : written t ≡ opening ++ (flows ++ (columns ++ (8 ∷ [])))
  unfolding written table_entries file_of
  table_parts =
      let rows_named = words_entries 0 (rows t.sectors t.flows) in
      let columns_named = words_entries sector_limit (columns_by_kind t) in
      ap (λ (s : List ℕ). 1 ∷ t.sectors ∷ (s ++ (8 ∷ []))) (encode-append rows_named columns_named)
      ∙ ap (λ (s : List ℕ). 1 ∷ t.sectors ∷ s) (append_assoc flows columns (8 ∷ []))

  pub table_length : length (written t) ≡ 2 + length flows + length columns + 1
  table_length = omega (arith, simp length-append at (ap length table_parts))

  pub table_written : (l : List ℕ) {m o p q : List ℕ} {i j k h : ℕ} → Wrote opening 0 l m i → Wrote flows i m o j → Wrote columns j o p k → Wrote (8 ∷ []) k p q h
      → q ≡ sets l 0 (written t)
  table_written l a b c d =
      let opened = go_on opening (flows ++ (columns ++ (8 ∷ []))) table_parts (begin (written t) 0 l) a in
      let listed = go_on flows (columns ++ (8 ∷ [])) refl opened b in
      (done (go_on columns (8 ∷ []) refl listed c) d).1
