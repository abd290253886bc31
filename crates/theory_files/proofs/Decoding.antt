-- An accepted file holds nothing but n and its named cells: it is the file that is written of them, in its own order. Assumes nothing.
use mathlib.Core.Bool.{Bool, true, false, cond}
use mathlib.Core.List.{List, [], ◌∷◌, ◌++◌, reverse, reverse-cons, append_assoc, append-nil}
use mathlib.Core.Path.{◌≡◌, refl, sym, ap, ap₂, ◌∙◌, subst}
use Prim.Native.Nat.{ℕ, zero, suc, ◌+◌, ◌*◌, ◌-◌, ◌/◌, ◌%◌, ◌≤◌, ◌<◌}
use native.Mathlib.Nat.{add-zero, add_assoc, sub-add_cancel, div-div-eq-div-mul}
use native.Mathlib.Omega.{arith}
use borrow.Author.Tests.{eqb-true}
use lib.Arith.{digits_div, digits_mod}
use lib.ListN.{length, drop, drop_of_length-le}
use lib.Seq.{drop-cons}
use Rattle.model.specs.Numbers.{tabulate, cell}
use Rattle.model.specs.File.{Entry, record_lengths, amount_bytes, amount_from, encode, encode_all, file_of, kind_at, is_flow, next_at, entry_at, Reading, reading}
use Rattle.theory.proofs.Lists.{tabulate_cong}
use Rattle.theory_files.proofs.Encoding.{encode_flow, encode_column, encode-append}
use Rattle.theory_files.proofs.Walks.{Next, accepted_holds}
use Rattle.theory_files.proofs.RecordKinds.{body, record_size, column_kind, Taken}

-- every number of a list is a byte
abbrev pub Octets : List ℕ → Type 0
Octets s = (k : ℕ) → cell s k < 256

-- four bytes make an amount whose bytes they are
amount_bytes_lem : (a b c d : ℕ) → b < 256 → c < 256 → d < 256 → amount_bytes (((a * 256 + b) * 256 + c) * 256 + d) ≡ a ∷ b ∷ c ∷ d ∷ []
amount_bytes_lem a b c d hb hc hd = ap₂ ◌∷◌ first (ap₂ ◌∷◌ second (ap₂ ◌∷◌ third (ap (λ (x : ℕ). x ∷ []) (digits_mod ((a * 256 + b) * 256 + c) hd))))
  where
    n : ℕ
    n = ((a * 256 + b) * 256 + c) * 256 + d

    by_256 : n / 256 ≡ (a * 256 + b) * 256 + c
    by_256 = digits_div ((a * 256 + b) * 256 + c) hd

    by_65536 : n / 65536 ≡ a * 256 + b
    by_65536 = sym (div-div-eq-div-mul n 256 256) ∙ ap (λ (x : ℕ). x / 256) by_256 ∙ digits_div (a * 256 + b) hc

    first : n / 16777216 ≡ a
    first = sym (div-div-eq-div-mul n 65536 256) ∙ ap (λ (x : ℕ). x / 256) by_65536 ∙ digits_div a hb

    second : n / 65536 % 256 ≡ b
    second = ap (λ (x : ℕ). x % 256) by_65536 ∙ digits_mod a hb

    third : n / 256 % 256 ≡ c
    third = ap (λ (x : ℕ). x % 256) by_256 ∙ digits_mod (a * 256 + b) hc

-- k bytes from an offset on, and what follows them
bytes_from : (s : List ℕ) (k at : ℕ) → at + k ≤ length s → drop at s ≡ tabulate k (λ i. cell s (at + i)) ++ drop (at + k) s
bytes_from s zero at h = ap (λ (j : ℕ). drop j s) (sym (add-zero at))
bytes_from s (suc k) at h =
    drop-cons s at 0 (omega arith)
    ∙ ap₂ ◌∷◌ (ap (cell s) (sym (add-zero at)))
    (bytes_from s k (suc at) (omega arith)
    ∙ ap₂ ◌++◌ (tabulate_cong k (λ i _. ap (cell s) (moved i))) (ap (λ (j : ℕ). drop j s) (moved k)))
  where
    moved : (i : ℕ) → suc at + i ≡ at + suc i
    moved i = omega arith

-- ---- a record that the reader takes is the one that is written of its cell
-- a record's length tells whether it is of x
by_size : (a b : Bool) → ◌≡◌ {A = ℕ} (cond a 7 6) (cond b 7 6) → a ≡ b
by_size true true e = refl
by_size false false e = refl
by_size true false e = absurd (omega arith)
by_size false true e = absurd (omega arith)

module _ (s : List ℕ) (small : Octets s) (at : ℕ) where
  amount_at_lem : (j : ℕ) → amount_bytes (amount_from s (at + j)) ≡ cell s (at + j) ∷ cell s (at + (j + 1)) ∷ cell s (at + (j + 2)) ∷ cell s (at + (j + 3)) ∷ []
  unfolding amount_from
  amount_at_lem j =
      amount_bytes_lem (cell s (at + j)) (cell s (at + j + 1)) (cell s (at + j + 2)) (cell s (at + j + 3)) (small (at + j + 1)) (small (at + j + 2)) (small (at + j + 3))
      ∙ ap (λ (l : List ℕ). cell s (at + j) ∷ l)
      (ap₂ ◌∷◌ (ap (cell s) (add_assoc at j 1)) (ap₂ ◌∷◌ (ap (cell s) (add_assoc at j 2)) (ap (λ (k : ℕ). cell s k ∷ []) (add_assoc at j 3))))

  sector_back : (k : ℕ) → 1 ≤ cell s k → cell s k - 1 + 1 ≡ cell s k
  sector_back k h = sub-add_cancel h

  module _ (n : ℕ) (es : List Entry) (here : Next s n es at) where
    abbrev t : Taken n s at
    t = here.taken

    size : (b : Bool) → is_flow s at ≡ b → ◌≡◌ {A = ℕ} (cell record_lengths (kind_at s at)) (cond b 7 6)
    size b e = record_size s at here.whole here.not_first here.not_end ∙ ap (λ (x : Bool). cond x 7 6) e

    flow_bytes : is_flow s at ≡ true → encode (entry_at s at) ≡ tabulate 7 (λ i. cell s (at + i))
    unfolding entry_at
    flow_bytes e =
        encode_flow (entry_at s at) (by_size _ true (t.bytes ∙ size true e))
        ∙ rw e
        (ap₂ ◌∷◌ (sym (eqb-true (kind_at s at) 2 e) ∙ ap (cell s) (sym (add-zero at)))
        (ap₂ ◌∷◌ (sector_back (at + 1) t.sectors.0) (ap₂ ◌∷◌ (sector_back (at + 2) (t.sectors.1 e)) (amount_at_lem 3))))

    column_bytes : is_flow s at ≡ false → encode (entry_at s at) ≡ tabulate 6 (λ i. cell s (at + i))
    unfolding entry_at
    column_bytes e =
        encode_column (entry_at s at) (by_size _ false (t.bytes ∙ size false e))
        ∙ rw e
        (ap₂ ◌∷◌ (column_kind s at here.whole here.not_first here.not_end e ∙ ap (cell s) (sym (add-zero at)))
        (ap₂ ◌∷◌ (sector_back (at + 1) t.sectors.0) (amount_at_lem 2)))

    record_bytes : drop at s ≡ encode (entry_at s at) ++ drop (next_at s at) s
    record_bytes = go (is_flow s at) refl
      where
        ends : next_at s at ≤ length s
        ends = (body s at here.whole).1

        by : (k : ℕ) → cell record_lengths (kind_at s at) ≡ k → encode (entry_at s at) ≡ tabulate k (λ i. cell s (at + i)) → drop at s ≡ encode (entry_at s at) ++ drop (next_at s at) s
        by k e f =
            bytes_from s k at (subst (λ (m : ℕ). at + m ≤ length s) e ends)
            ∙ ap₂ ◌++◌ (sym f) (ap (λ (m : ℕ). drop (at + m) s) (sym e))

        go : (b : Bool) → is_flow s at ≡ b → drop at s ≡ encode (entry_at s at) ++ drop (next_at s at) s
        go true e = by 7 (size true e) (flow_bytes e)
        go false e = by 6 (size false e) (column_bytes e)

-- ---- the walk: n and the cells named so far are the bytes before its offset
encode_more : (e : Entry) (es : List Entry) (r : List ℕ) → encode_all (reverse (e ∷ es)) ++ r ≡ encode_all (reverse es) ++ (encode e ++ r)
encode_more e es r =
    ap (λ (l : List ℕ). l ++ r) (ap encode_all (reverse-cons e es) ∙ encode-append (reverse es) (e ∷ []))
    ∙ append_assoc (encode_all (reverse es)) (encode e ++ []) r ∙ ap (λ (l : List ℕ). encode_all (reverse es) ++ (l ++ r)) (append-nil (encode e))

-- and the others follow
abbrev Read : List ℕ → List Entry → ℕ → Type 0
Read s es at = s ≡ 1 ∷ cell s 1 ∷ (encode_all (reverse es) ++ drop at s)

-- Theorem, for the reader: an accepted file is that of its named cells, in the order in which it names them
pub decoded : (s : List ℕ) → Octets s → (n : ℕ) (es : List Entry) → reading s ≡ Reading.table n es → s ≡ file_of n (reverse es)
unfolding file_of
decoded s small =
    let n = cell s 1 in
    accepted_holds s (λ n es. s ≡ file_of n (reverse es)) (Read s)
    (λ es at i last.
    i
    ∙ ap (λ (l : List ℕ). 1 ∷ n ∷ (encode_all (reverse es) ++ l))
    (drop-cons s at 0 (omega (arith, last.end)) ∙ ap₂ ◌∷◌ last.kind (drop_of_length-le s {i = suc at} (omega (arith, last.end)))))
    (λ es at i next.
    i
    ∙ ap (λ (l : List ℕ). 1 ∷ n ∷ (encode_all (reverse es) ++ l)) (record_bytes s small at n es next)
    ∙ ap (λ (l : List ℕ). 1 ∷ n ∷ l) (sym (encode_more (entry_at s at) es (drop (next_at s at) s))))
    (λ first.
    let long : 0 + 2 ≤ length s = subst (λ (k : ℕ). 0 + cell record_lengths k ≤ length s) first.kind (body s 0 first.whole).1 in
    bytes_from s 2 0 long ∙ ap (λ (k : ℕ). k ∷ n ∷ drop 2 s) first.kind)
