-- A file written from named cells is read back as those cells, the last one first. Assumes nothing.
use mathlib.Core.Bool.{Bool, true, false}
use mathlib.Core.List.{List, [], ◌∷◌, ◌++◌, reverse, reverse_aux, append_assoc}
use mathlib.Core.Path.{◌≡◌, refl, sym, ap, ap₂, ◌∙◌}
use Prim.Native.Nat.{ℕ, zero, suc, ◌+◌, ◌≤◌, ◌<◌}
use native.Mathlib.Nat.{not-suc-le-zero, zero-lt-suc, le_refl, add-zero}
use native.Mathlib.Omega.{arith}
use borrow.Author.Tests.{lt-leb, le-leb, eq-eqb, ne_eqb}
use lib.Dec.{ltb}
use lib.ListN.{length, length-append}
use Rattle.model.specs.Numbers.{cell}
use Rattle.model.specs.Table.{sector_limit}
use Rattle.model.specs.File.{Entry, Within, encode, encode_all, file_of, whole_at, named_before, Reading, walk, walk_with, reading, reading_with}
use Rattle.theory_files.proofs.Encoding.{stands, step}

-- each of a list of cells is one that a table of n sectors has, and none is one of `es` or one before it
abbrev pub Fresh : ℕ → List Entry → List Entry → Type 0
Fresh n es [] = Unit {0}
Fresh n es (e ∷ later) = Within n e × (named_before es e ≡ false) × Fresh n (e ∷ es) later

kind_here : (before : List ℕ) (b : ℕ) (rest : List ℕ) → cell (before ++ (b ∷ rest)) (length before) ≡ b
kind_here [] b rest = refl
kind_here (_ ∷ before) b rest = kind_here before b rest

-- what the reader answers after kind 8, which ends at this offset: the table, or that bytes follow
abbrev pub ended : ℕ → List Entry → ℕ → List ℕ → Reading
ended n es end [] = Reading.table n es
ended n es end (_ ∷ _) = Reading.refused 15 end

walk_end : (n : ℕ) (es : List Entry) (before rest : List ℕ) (fuel : ℕ)
    → walk (suc fuel) (before ++ (8 ∷ rest)) n es (length before) ≡ ended n es (length before + 1) rest
unfolding walk_with whole_at
walk_end n es before [] fuel =
    let at = length before in
    rw (kind_here before 8 [], length-append before (8 ∷ []), lt-leb (at + 1) at (omega arith), le-leb (at + 1) (at + 1) (le_refl (at + 1)), eq-eqb (at + 1) (at + 1) refl)
    refl
walk_end n es before (b ∷ rest) fuel =
    let at = length before in
    let long = at + suc (suc (length rest)) in
    rw (kind_here before 8 (b ∷ rest), length-append before (8 ∷ b ∷ rest), lt-leb long at (omega arith), le-leb (at + 1) long (omega arith), ne_eqb (at + 1) long (λ e. omega arith))
    refl

-- over the cells to come
walk_on : (n : ℕ) (es later : List Entry) (before rest : List ℕ) (fuel : ℕ) → length later < fuel → Fresh n es later
    → walk fuel (before ++ (encode_all later ++ (8 ∷ rest))) n es (length before) ≡ ended n (reverse_aux later es) (length before + length (encode_all later) + 1) rest
walk_on n es later before rest zero h f = absurd (not-suc-le-zero h)
walk_on n es [] before rest (suc fuel) h f =
    walk_end n es before rest fuel ∙ ap (λ (k : ℕ). ended n es (k + 1) rest) (sym (add-zero (length before)))
walk_on n es (e ∷ later) before rest (suc fuel) h f =
    let onward = encode_all later ++ (8 ∷ rest) in
    let here = step n (before ++ (encode e ++ onward)) (length before) e (length (encode e)) fuel es (stands n e f.0 before onward) in
    let there = walk_on n (e ∷ es) later (before ++ encode e) rest fuel (omega arith) f.2 in
    ap (λ (s : List ℕ). walk (suc fuel) (before ++ s) n es (length before)) (append_assoc (encode e) (encode_all later) (8 ∷ rest))
    ∙ here
    ∙ rw f.1 (ap₂ (λ (s : List ℕ) (at : ℕ). walk fuel s n (e ∷ es) at) (sym (append_assoc before (encode e) onward)) (sym (length-append before (encode e))))
    ∙ there
    ∙ ap (λ (k : ℕ). ended n (reverse_aux later (e ∷ es)) (k + 1) rest) (omega (arith, length-append before (encode e), length-append (encode e) (encode_all later)))

-- a record has a byte, so the file's length is steps enough
encode_long : (e : Entry) → 1 ≤ length (encode e)
unfolding encode
encode_long e = go (ltb e.word sector_limit) refl
  where
    go : (b : Bool) → ltb e.word sector_limit ≡ b → 1 ≤ length (encode e)
    go true h = rw h (zero-lt-suc 6)
    go false h = rw h (zero-lt-suc 5)

bytes_enough : (es : List Entry) → length es ≤ length (encode_all es)
bytes_enough [] = le_refl 0
bytes_enough (e ∷ es) =
    let long = encode_long e in
    let more = bytes_enough es in
    let parts = length-append (encode e) (encode_all es) in
    omega arith

-- a file written of cells that the table has, none of them twice, and bytes after it
pub read_then : (n : ℕ) (es : List Entry) (rest : List ℕ) → 1 ≤ n → n ≤ sector_limit → Fresh n [] es
    → reading (1 ∷ n ∷ (encode_all es ++ (8 ∷ rest))) ≡ ended n (reverse es) (2 + length (encode_all es) + 1) rest
unfolding reading_with whole_at
read_then n es rest some most f =
    let body = encode_all es ++ (8 ∷ rest) in
    let bytes = length body in
    let enough : length es < suc (suc bytes) =
    let parts = length-append (encode_all es) (8 ∷ rest) in
    let more = bytes_enough es in
    omega arith
    in
    rw (ne_eqb (suc (suc bytes)) 0 (λ e. omega arith), le-leb 1 n some, le-leb n sector_limit most, le-leb 2 (suc (suc bytes)) (omega arith))
    (walk_on n [] es (1 ∷ n ∷ []) rest (suc (suc bytes)) enough f)

-- Theorem, for the reader: such a file is read back, the last cell first
pub read_back : (n : ℕ) (es : List Entry) → 1 ≤ n → n ≤ sector_limit → Fresh n [] es → reading (file_of n es) ≡ Reading.table n (reverse es)
unfolding file_of
read_back n es some most f = read_then n es [] some most f
