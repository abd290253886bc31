-- The bytes of a record, and of the cells of a word from a position on. Assumes nothing.
use mathlib.Core.Bool.{cond}
use mathlib.Core.List.{List, [], ◌∷◌, ◌++◌}
use mathlib.Core.Path.{◌≡◌, refl, sym, ap, ◌∙◌}
use Prim.Native.Nat.{ℕ, suc, ◌+◌, ◌-◌, ◌≤◌, ◌<◌}
use native.Mathlib.Nat.{add-zero, add-suc, suc-add}
use native.Mathlib.Omega.{arith}
use borrow.Author.Tests.{lt-ltb, le-ltb, eq-eqb, ne_eqb}
use lib.Dec.{eqb}
use lib.ListN.{length, set, drop}
use lib.Seq.{sets, set_comm}
use Rattle.model.specs.Numbers.{cell}
use Rattle.model.specs.Table.{sector_limit}
use Rattle.model.specs.File.{Entry, amount_bytes, column_kinds, encode, encode_all}
use Rattle.model.specs.Writer.{word_entries}
use Rattle.theory.proofs.Stores.{drop-first}
use Rattle.theory_files.proofs.Encoding.{made, encode_flow, encode_column}

-- a text whose end was written first
late : (x : ℕ) (b l : List ℕ) (i k : ℕ) → i < k → set (sets l k b) i x ≡ sets (set l i x) k b
late x [] l i k h = refl
late x (y ∷ b) l i k h = late x b (set l k y) i (suc k) (omega arith) ∙ ap (λ (m : List ℕ). sets m (suc k) b) (set_comm l k i y x (λ e. omega (arith, e)))

pub sets_back : (a b l : List ℕ) (i : ℕ) → sets (sets l (i + length a) b) i a ≡ sets l i (a ++ b)
sets_back [] b l i = ap (λ (k : ℕ). sets l k b) (add-zero i)
sets_back (x ∷ a) b l i =
    ap (λ (m : List ℕ). sets m (suc i) a) (late x b l i (i + length (x ∷ a)) (omega arith))
    ∙ ap (λ (k : ℕ). sets (sets (set l i x) k b) (suc i) a) (add-suc i (length a) ∙ sym (suc-add i (length a)))
    ∙ sets_back a b (set l i x) (suc i)

-- a record begins with its kind and its sectors, and ends with its amount
module _ (word position amount : ℕ) where
  pub flow_record : word < sector_limit → encode (made word position amount) ≡ (2 ∷ (word + 1) ∷ (position + 1) ∷ []) ++ amount_bytes amount
  flow_record h = encode_flow (made word position amount) (lt-ltb word sector_limit h)

  pub column_record : {kind : ℕ} → kind ≡ cell column_kinds (word - sector_limit) → sector_limit ≤ word
      → encode (made word position amount) ≡ (kind ∷ (position + 1) ∷ []) ++ amount_bytes amount
  column_record e h = rw e (encode_column (made word position amount) (le-ltb word sector_limit h))

-- the bytes of a word's cells from position p on
abbrev pub word_from : (word : ℕ) (cells : List ℕ) (p : ℕ) → List ℕ
word_from word cells p = encode_all (word_entries word p (drop p cells))

module _ (word : ℕ) (cells : List ℕ) (p : ℕ) where
  abbrev later : List Entry
  later = word_entries word (p + 1) (drop (p + 1) cells)

  here : p < length cells → word_from word cells p ≡ encode_all (cond (eqb (cell cells p) 0) later (made word p (cell cells p) ∷ later))
  here h = ap (λ (s : List ℕ). encode_all (word_entries word p s)) (drop-first cells p h)

  pub word_zero : p < length cells → cell cells p ≡ 0 → word_from word cells p ≡ word_from word cells (p + 1)
  word_zero h e = here h ∙ rw (eq-eqb (cell cells p) 0 e) refl

  pub word_more : p < length cells → (cell cells p ≡ 0 → ⊥) → word_from word cells p ≡ encode (made word p (cell cells p)) ++ word_from word cells (p + 1)
  word_more h e = here h ∙ rw (ne_eqb (cell cells p) 0 e) refl
