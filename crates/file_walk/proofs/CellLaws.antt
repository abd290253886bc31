-- A store into the reader's cells is a store into the part that it falls in, and into no other. Assumes nothing.
use mathlib.Core.Bool.{Bool, cond}
use mathlib.Core.List.{List, [], ◌∷◌}
use mathlib.Core.Logic.{◌⊎◌, inl, inr}
use mathlib.Core.Path.{◌≡◌, sym, ap, ◌∙◌}
use Prim.Native.Nat.{ℕ, ◌+◌, ◌-◌, ◌*◌, ◌≤◌, ◌<◌}
use native.Mathlib.Decide.{dec_lt, ℕ_discrete}
use native.Mathlib.Nat.{mul-le-mul}
use native.Mathlib.Omega.{arith}
use borrow.Author.Tests.{lt-ltb, le-ltb, eq-eqb, ne_eqb}
use lib.Dec.{lit≤}
use lib.ListN.{length, set, take, drop, replicate, length-set, length-replicate}
use lib.Seq.{take-set-lt, take-set-le, drop-set-lt, drop-set-add}
use Rattle.model.specs.Table.{sector_limit, sheet_limit}
use Rattle.model.specs.File.{Entry, Within, Reading, flows_of, column_of, cell_limit, word_limit}
use Rattle.theory.proofs.Lists.{zeros_part}
use Rattle.file_walk.specs.Steps.{Held}

-- a row starts at most 1,560 cells in
row_start : (n word : ℕ) → n ≤ sector_limit → word < n → word * n ≤ 1560
row_start n word a b = mul-le-mul (let h : word ≤ 39 = omega arith in h) a

-- a store outside the part of a column
away : (l : List ℕ) (c i a : ℕ) → (i < c * sector_limit) ⊎ (c * sector_limit + sector_limit ≤ i) → take sector_limit (drop (c * sector_limit) (set l i a)) ≡ take sector_limit (drop (c * sector_limit) l)
away l c i a (inl h) = ap (take sector_limit) (drop-set-lt (c * sector_limit) l i a h)
away l c i a (inr h) =
    let d = i - c * sector_limit in
    let q : i ≡ c * sector_limit + d = omega arith in
    ap (λ (k : ℕ). take sector_limit (drop (c * sector_limit) (set l k a))) q ∙ ap (take sector_limit) (drop-set-add (c * sector_limit) l d a) ∙ take-set-le sector_limit (drop (c * sector_limit) l) d a (omega arith)

module _ (n : ℕ) (small : n ≤ sector_limit) (e : Entry) (w : Within n e) (es : List Entry) (l : List ℕ) (h : Held (Reading.table n es) l) where
  abbrev after : Reading
  after = Reading.table n (e ∷ es)

  pub store_flow : e.word < sector_limit → Held after (set l (e.word * n + e.position) e.amount)
  store_flow r =
      let p = w.place in
      let q = row_start n e.word small (w.row r) in
      record {
        flows =
            take-set-lt sheet_limit l (e.word * n + e.position) e.amount (omega arith)
            ∙ ap (λ (k : List ℕ). set k (e.word * n + e.position) e.amount) h.flows
            ∙ sym (ap (λ (b : Bool). cond b (set (flows_of n es) (e.word * n + e.position) e.amount) (flows_of n es)) (lt-ltb e.word sector_limit r));
        columns = λ c lo hi.
            away l c (e.word * n + e.position) e.amount (inl (omega arith)) ∙ h.columns c lo hi
            ∙ sym (ap (λ (b : Bool). cond b (set (column_of c es) e.position e.amount) (column_of c es)) (ne_eqb e.word c (λ z. omega arith)));
        long = length-set l (e.word * n + e.position) e.amount ∙ h.long;
      }

  column_part : sector_limit ≤ e.word → (c : ℕ) → Dec (e.word ≡ c) → Dec (e.word < c) → take sector_limit (drop (c * sector_limit) l) ≡ column_of c es
      → take sector_limit (drop (c * sector_limit) (set l (e.word * sector_limit + e.position) e.amount)) ≡ column_of c (e ∷ es)
  column_part r c (yes q) d ih =
      let p = w.place in
      ap (λ (k : ℕ). take sector_limit (drop (c * sector_limit) (set l (k * sector_limit + e.position) e.amount))) q
      ∙ ap (take sector_limit) (drop-set-add (c * sector_limit) l e.position e.amount)
      ∙ take-set-lt sector_limit (drop (c * sector_limit) l) e.position e.amount (omega arith)
      ∙ ap (λ (k : List ℕ). set k e.position e.amount) ih
      ∙ sym (ap (λ (b : Bool). cond b (set (column_of c es) e.position e.amount) (column_of c es)) (eq-eqb e.word c q))
  column_part r c (no q) d ih =
      away l c (e.word * sector_limit + e.position) e.amount (side d) ∙ ih
      ∙ sym (ap (λ (b : Bool). cond b (set (column_of c es) e.position e.amount) (column_of c es)) (ne_eqb e.word c q))
    where
      more_than : (a b : ℕ) → (a ≡ b → ⊥) → b ≤ a → b < a
      more_than a b f k = omega arith

      side : Dec (e.word < c) → (e.word * sector_limit + e.position < c * sector_limit) ⊎ (c * sector_limit + sector_limit ≤ e.word * sector_limit + e.position)
      side (yes z) = inl (let p = w.place in omega arith)
      side (no z) = inr (let y : c < e.word = more_than e.word c q (omega arith) in omega arith)

  pub store_column : sector_limit ≤ e.word → Held after (set l (e.word * sector_limit + e.position) e.amount)
  store_column r = record {
    flows =
        take-set-le sheet_limit l (e.word * sector_limit + e.position) e.amount (omega arith) ∙ h.flows
        ∙ sym (ap (λ (b : Bool). cond b (set (flows_of n es) (e.word * n + e.position) e.amount) (flows_of n es)) (le-ltb e.word sector_limit r));
    columns = λ c lo hi. column_part r c (ℕ_discrete e.word c) (dec_lt e.word c) (h.columns c lo hi);
    long = length-set l (e.word * sector_limit + e.position) e.amount ∙ h.long;
  }

-- cells of 0
module _ (l : List ℕ) (q : l ≡ replicate cell_limit 0) where
  zero_flows : take sheet_limit l ≡ replicate sheet_limit 0
  zero_flows = ap (take sheet_limit) q ∙ zeros_part 0 sheet_limit cell_limit (lit≤ tt)

  zero_columns : (c : ℕ) → sector_limit ≤ c → c < word_limit → take sector_limit (drop (c * sector_limit) l) ≡ replicate sector_limit 0
  zero_columns c lo hi =
      ap (λ (k : List ℕ). take sector_limit (drop (c * sector_limit) k)) q ∙ zeros_part (c * sector_limit) sector_limit cell_limit (omega arith)

  zero_long : length l ≡ cell_limit
  zero_long = ap length q ∙ length-replicate {A = ℕ} cell_limit 0

  pub held_none : (n : ℕ) → Held (Reading.table n []) l
  held_none n = record { flows = zero_flows; columns = zero_columns; long = zero_long }

  pub held_refused : (number place : ℕ) → Held (Reading.refused number place) l
  held_refused number place = record { flows = zero_flows; columns = zero_columns; long = zero_long }
