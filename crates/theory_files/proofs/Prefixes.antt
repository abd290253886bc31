-- A longer input is answered as its first 12,889 bytes are: the walk never gets further. Assumes nothing.
use mathlib.Core.Bool.{Bool, true, false, ◌&&◌}
use mathlib.Core.List.{List, [], ◌∷◌}
use mathlib.Core.Path.{◌≡◌, refl, ap}
use Prim.Native.Nat.{ℕ, zero, suc, ◌+◌, ◌-◌, ◌≤◌, ◌<◌}
use native.Mathlib.Nat.{not-suc-le-zero, le_of_suc-le-suc}
use native.Mathlib.Omega.{arith}
use borrow.Author.Tests.{lt-leb, le-leb, leb-true, ltb-true, ltb-false, ne_eqb}
use lib.Dec.{eqb, leb, ltb}
use lib.ListN.{length, take}
use lib.Seq.{length-take-le}
use Rattle.model.specs.Numbers.{cell}
use Rattle.model.specs.Table.{sector_limit, few_sectors}
use Rattle.model.specs.File.{Entry, record_lengths, amount_from, kind_at, next_at, whole_at, inside_at, entry_at, named_before, walk, walk_with, reading, reading_with, file_limit}
use Rattle.model.specs.Page.{reading_page, page}
use Rattle.theory_files.specs.Files.{input_limit}
use Rattle.theory.proofs.Lists.{first_before, and_true, from_one}
use Rattle.theory_files.proofs.Questions.{both_unless, both_provided, both_either}
use Rattle.theory_files.proofs.RecordKinds.{no_kind, body, taken}
use Rattle.theory_files.proofs.Lengths.{weight, weight_most, offset_on}

cell-take : (k : ℕ) (s : List ℕ) (i : ℕ) → i < k → cell (take k s) i ≡ cell s i
cell-take zero s i h = absurd (not-suc-le-zero h)
cell-take (suc k) [] i h = refl
cell-take (suc k) (b ∷ s) zero h = refl
cell-take (suc k) (b ∷ s) (suc i) h = cell-take k s i (le_of_suc-le-suc h)

record_most : (k : ℕ) → cell record_lengths k ≤ 7
record_most k = go (ltb k kinds) refl
  where
    kinds : ℕ
    kinds = length record_lengths

    go : (b : Bool) → ltb k kinds ≡ b → cell record_lengths k ≤ 7
    go true e = leb-true _ _ (first_before kinds (λ i. leb (cell record_lengths i) 7) k (ltb-true k kinds e))
    go false e = rw (no_kind k (ltb-false k kinds e)) (omega arith)

-- two inputs that agree below 12,889, and are at least as long
module _ (s t : List ℕ) (same : (i : ℕ) → i < input_limit → cell t i ≡ cell s i) (long : input_limit ≤ length s) (long' : input_limit ≤ length t) where
  amount_same : (k : ℕ) → k < input_limit - 3 → amount_from t k ≡ amount_from s k
  unfolding amount_from
  amount_same k h = rw (same k (omega arith), same (k + 1) (omega arith), same (k + 2) (omega arith), same (k + 3) (omega arith)) refl

  module _ (at : ℕ) (low : at ≤ file_limit - 1) where
    inside_same : (n : ℕ) → inside_at t at n ≡ inside_at s at n
    unfolding inside_at
    inside_same n = rw (same at (omega arith), same (at + 1) (omega arith), same (at + 2) (omega arith)) refl

    entry_same : entry_at t at ≡ entry_at s at
    unfolding entry_at
    entry_same =
        rw (amount_same (at + 3) (omega arith), amount_same (at + 2) (omega arith), same at (omega arith), same (at + 1) (omega arith), same (at + 2) (omega arith)) refl

    -- a record has at most 7 bytes, so it is whole in both or in neither
    room : (u : List ℕ) → input_limit ≤ length u → leb (at + cell record_lengths (kind_at s at)) (length u) ≡ true
    room u h = le-leb (at + cell record_lengths (kind_at s at)) (length u) (let most = record_most (kind_at s at) in omega arith)

    whole_same : whole_at t at ≡ whole_at s at
    unfolding whole_at
    whole_same = rw (same at (omega arith), room t long', room s long) refl

  walk_same : (fuel fuel' n : ℕ) (es : List Entry) (at : ℕ) → n ≤ sector_limit → at ≤ 2 + weight es → file_limit ≤ fuel + at → file_limit ≤ fuel' + at
      → walk fuel t n es at ≡ walk fuel' s n es at
  unfolding walk_with
  walk_same zero fuel' n es at most h f f' = absurd (let limit = weight_most es in omega arith)
  walk_same (suc fuel) zero n es at most h f f' = absurd (let limit = weight_most es in omega arith)
  walk_same (suc fuel) (suc fuel') n es at most h f f' =
      let limit = weight_most es in
      let low : at ≤ file_limit - 1 = omega arith in
      rw (
        whole_same at low,
        inside_same at low n,
        entry_same at low,
        same at (omega arith),
        lt-leb (length t) at (omega arith),
        lt-leb (length s) at (omega arith),
        ne_eqb (at + 1) (length t) (λ e. omega arith),
        ne_eqb (at + 1) (length s) (λ e. omega arith),
      )
      (both_provided ◌≡◌ (whole_at s at) _ _ 11 at refl (λ whole.
      both_unless ◌≡◌ (eqb (kind_at s at) 1) _ _ 12 at refl (λ no-1.
      both_either ◌≡◌ (eqb (kind_at s at) 8) _ _ _ _ (λ _. refl) (λ no-8.
      both_provided ◌≡◌ (inside_at s at n) _ _ 13 at refl (λ inside.
      both_unless ◌≡◌ (named_before es (entry_at s at)) _ _ 14 at refl (λ fresh.
      let here = taken s at whole no-1 no-8 n most inside in
      let some = (body s at whole).0 in
      walk_same fuel fuel' n (entry_at s at ∷ es) (next_at s at) most (offset_on s es at most here fresh h) (omega arith) (omega arith)))))))

  pub reading-same : reading t ≡ reading s
  unfolding reading_with
  reading-same =
      let n = cell s 1 in
      rw (
        whole_same 0 (omega arith),
        same 0 (omega arith),
        same 1 (omega arith),
        ne_eqb (length t) 0 (λ e. omega arith),
        ne_eqb (length s) 0 (λ e. omega arith),
      )
      (both_provided ◌≡◌ (whole_at s 0) _ _ 11 0 refl (λ _.
      both_provided ◌≡◌ (eqb (kind_at s 0) 1 && few_sectors n) _ _ 12 0 refl (λ sized.
      let few = from_one n sector_limit (and_true (eqb (kind_at s 0) 1) (few_sectors n) sized).1 in
      walk_same (length t) (length s) n [] 2 few.1 (omega arith) (omega arith) (omega arith))))

-- A program that reads its input into 12,889 bytes or more answers as if it had read everything
pub prefix_answers : (k : ℕ) (s : List ℕ) → input_limit ≤ k → k ≤ length s → reading (take k s) ≡ reading s
prefix_answers k s enough h =
    let size = length-take-le k s h in
    reading-same s (take k s) (λ i low. cell-take k s i (omega arith)) (omega arith) (omega arith)

-- Theorem, for the reader: and it prints the same page
pub prefix_prints : (k : ℕ) (s : List ℕ) → input_limit ≤ k → k ≤ length s → page (take k s) ≡ page s
unfolding page
prefix_prints k s enough h = ap reading_page (prefix_answers k s enough h)
