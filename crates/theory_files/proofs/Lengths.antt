-- No accepted file exceeds 12,883 bytes: each record names a cell of its own. Assumes nothing.
use mathlib.Core.Bool.{false}
use mathlib.Core.List.{List, ◌∷◌}
use mathlib.Core.Path.{◌≡◌}
use Prim.Native.Nat.{ℕ, ◌+◌, ◌*◌, ◌≤◌}
use native.Mathlib.Nat.{mul-le-mul_left}
use native.Mathlib.Omega.{arith}
use lib.ListN.{length}
use Rattle.model.specs.Numbers.{sum, cell}
use Rattle.model.specs.Table.{sector_limit}
use Rattle.model.specs.File.{Entry, next_at, entry_at, named_before, Reading, reading, file_limit, word_limit}
use Rattle.theory.proofs.Sums.{sum_mono, sum_most}
use Rattle.theory_files.proofs.RecordKinds.{word_bytes, Taken}
use Rattle.theory_files.proofs.Walks.{accepted_holds}
use Rattle.theory_files.proofs.Counts.{indicator_most, place, tally, tally_more}

-- ---- the bytes that the named cells take
abbrev pub weight : List Entry → ℕ
weight = tally sector_limit word_bytes

pub weight_most : (es : List Entry) → weight es ≤ sum word_limit (λ w. word_bytes w * sector_limit)
unfolding tally
weight_most es =
    sum_mono word_limit (λ w _.
    mul-le-mul_left (word_bytes w)
    (sum_most sector_limit 1 (λ p _. indicator_most (named_before es (place w p)))))

-- ---- the walk: its offset is at most the bytes of the cells named so far, and 2
pub offset_on : (s : List ℕ) (es : List Entry) (at : ℕ) {n : ℕ} → n ≤ sector_limit → Taken n s at → named_before es (entry_at s at) ≡ false → at ≤ 2 + weight es → next_at s at ≤ 2 + weight (entry_at s at ∷ es)
offset_on s es at most t fresh h =
    let place = t.within.place in
    let more = tally_more (entry_at s at) es fresh sector_limit (omega arith) word_bytes t.within.known in
    let same = t.bytes in
    omega arith

-- Theorem, for the reader: no accepted file exceeds 12,883 bytes
pub accepted_length : (s : List ℕ) (n : ℕ) (es : List Entry) → reading s ≡ Reading.table n es → length s ≤ file_limit
accepted_length s =
    accepted_holds s (λ _ _. length s ≤ file_limit) (λ es at. (cell s 1 ≤ sector_limit) × (at ≤ 2 + weight es))
    (λ es at i last. omega (arith, last.end, weight_most es, i.1))
    (λ es at i next. (i.0, offset_on s es at i.0 next.taken next.new i.1))
    (λ first. (first.few, omega arith))
