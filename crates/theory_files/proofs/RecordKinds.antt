-- Records by their kinds: their bytes, and what is known of one that names a cell and is inside. Assumes nothing.
use mathlib.Core.Bool.{Bool, true, false, ◌&&◌, ◌||◌, cond, false≢true}
use mathlib.Core.List.{List}
use mathlib.Core.Path.{◌≡◌, refl, sym, ap, ◌∙◌}
use Prim.Native.Nat.{ℕ, ◌+◌, ◌-◌, ◌≤◌, ◌<◌}
use native.Mathlib.Omega.{arith}
use borrow.Author.Tests.{ltb-true, ltb-false, lt-ltb, le-ltb, leb-true, eqb-true, ne_eqb}
use lib.Dec.{eqb, leb, ltb}
use lib.ListN.{length, get_or-eq_default}
use Rattle.model.specs.Numbers.{cell}
use Rattle.model.specs.Table.{sector_limit}
use Rattle.model.specs.File.{Within, record_lengths, column_kinds, kind_place, column_words, kind_at, is_flow, next_at, whole_at, inside_at, entry_at, word_limit}
use Rattle.theory.proofs.Lists.{first_before, and_true, from_one}

-- past the last kind there is no body
pub no_kind : (k : ℕ) → length record_lengths ≤ k → cell record_lengths k ≡ 0
no_kind k h = get_or-eq_default record_lengths 0 h

-- so a kind with a body is one of them
pub known_kind : (k : ℕ) → 1 ≤ cell record_lengths k → k < length record_lengths
known_kind k some = go (ltb k (length record_lengths)) refl
  where
    go : (b : Bool) → ltb k (length record_lengths) ≡ b → k < length record_lengths
    go true e = ltb-true k (length record_lengths) e
    go false e = absurd (let none = no_kind k (ltb-false k (length record_lengths) e) in omega arith)

-- what is known of the kind of a column
record Column (k : ℕ) : Type 0 where
  size : cell record_lengths k ≡ 6
  low : sector_limit ≤ cell column_words k
  high : cell column_words k < word_limit
  back : cell column_kinds (cell column_words k - sector_limit) ≡ k

-- a kind with a body, other than 1, 2 and 8, is a column's: computed for each kind
abbrev is_column : ℕ → Bool
is_column k =
    eqb (cell record_lengths k) 6
    && (leb sector_limit (cell column_words k) && (ltb (cell column_words k) word_limit && eqb (cell column_kinds (cell column_words k - sector_limit)) k))

abbrev is_other : ℕ → Bool
is_other k = eqb (cell record_lengths k) 0 || (eqb k 1 || (eqb k 2 || eqb k 8))

column : (k : ℕ) → 1 ≤ cell record_lengths k → eqb k 1 ≡ false → eqb k 2 ≡ false → eqb k 8 ≡ false → Column k
column k some no-1 no-2 no-8 = known (first_before (length record_lengths) (λ i. is_other i || is_column i) k (known_kind k some))
  where
    other : is_other k ≡ false
    other = rw (ne_eqb (cell record_lengths k) 0 (λ e. omega (arith, some)), no-1, no-2, no-8) refl

    known : is_other k || is_column k ≡ true → Column k
    known e =
        let parts = and_true _ _ (sym (ap (λ (b : Bool). b || is_column k) other) ∙ e) in
        let words = and_true _ _ parts.1 in
        let last = and_true _ _ words.1 in
        record { size = eqb-true _ _ parts.0; low = leb-true _ _ words.0; high = ltb-true _ _ last.0; back = eqb-true _ _ last.1 }

-- a column's place among the kinds, and from there the column again
pub place_back : (c : ℕ) → c < length column_kinds → (kind_place c < length column_kinds) × (kind_place (kind_place c) ≡ c)
place_back c h =
    let both = first_before (length column_kinds) (λ i. ltb (kind_place i) (length column_kinds) && eqb (kind_place (kind_place i)) i) c h in
    let parts = and_true _ _ both in
    (ltb-true _ _ parts.0, eqb-true _ _ parts.1)

-- bytes of a record by the word of the cell that it names
abbrev pub word_bytes : ℕ → ℕ
word_bytes word = cond (ltb word sector_limit) 7 6

-- the reader takes a record: it names a cell that a table of n sectors has
pub record Taken (n : ℕ) (s : List ℕ) (at : ℕ) : Type 0 where
  pub bytes : word_bytes (entry_at s at).word ≡ cell record_lengths (kind_at s at)
  pub within : Within n (entry_at s at)
  pub sectors : (1 ≤ cell s (at + 1)) × (is_flow s at ≡ true → 1 ≤ cell s (at + 2))

module _ (s : List ℕ) (at : ℕ) (whole : whole_at s at ≡ true) where
  pub body : (1 ≤ cell record_lengths (kind_at s at)) × (next_at s at ≤ length s)
  unfolding whole_at
  body = let parts = and_true _ _ whole in (leb-true _ _ parts.0, leb-true _ _ parts.1)

  module _ (no-1 : eqb (kind_at s at) 1 ≡ false) (no-8 : eqb (kind_at s at) 8 ≡ false) where
    column_of_lem : is_flow s at ≡ false → Column (kind_at s at)
    column_of_lem no-2 = column (kind_at s at) body.0 no-1 no-2 no-8

    -- a record that names a cell of x has 7 bytes, one that names a cell of a column 6
    pub record_size : cell record_lengths (kind_at s at) ≡ cond (is_flow s at) 7 6
    record_size = go (is_flow s at) refl
      where
        go : (b : Bool) → is_flow s at ≡ b → cell record_lengths (kind_at s at) ≡ cond b 7 6
        go true e = ap (cell record_lengths) (eqb-true (kind_at s at) 2 e)
        go false e = (column_of_lem e).size

    -- the word of a column has its kind
    pub column_kind : is_flow s at ≡ false → cell column_kinds (cell column_words (kind_at s at) - sector_limit) ≡ kind_at s at
    column_kind e = (column_of_lem e).back

    pub taken : (n : ℕ) → n ≤ sector_limit → inside_at s at n ≡ true → Taken n s at
    unfolding inside_at entry_at
    taken n most inside = go (is_flow s at) refl
      where
        parts : (leb 1 (cell s (at + 1)) && leb (cell s (at + 1)) n ≡ true) × (cond (is_flow s at) (leb 1 (cell s (at + 2)) && leb (cell s (at + 2)) n) true ≡ true)
        parts = and_true _ _ inside

        first : (1 ≤ cell s (at + 1)) × (cell s (at + 1) ≤ n)
        first = from_one (cell s (at + 1)) n parts.0

        go : (b : Bool) → is_flow s at ≡ b → Taken n s at
        go true e =
            let f = first in
            let second = from_one (cell s (at + 2)) n (rw e at parts.1) in
            let low : cell s (at + 1) - 1 < n = omega arith in
            record {
              bytes = rw (e, lt-ltb (cell s (at + 1) - 1) sector_limit (omega arith), eqb-true (kind_at s at) 2 e) refl;
              within = rw e (record { known = omega arith; row = λ _. low; place = omega arith });
              sectors = (f.0, λ _. second.0);
            }
        go false e =
            let f = first in
            let c = column_of_lem e in
            let low = c.low in
            record {
              bytes = rw (e, le-ltb (cell column_words (kind_at s at)) sector_limit low) (sym c.size);
              within = rw e (record { known = c.high; row = λ h. omega arith; place = omega arith });
              sectors = (f.0, λ flow. absurd (false≢true (sym e ∙ flow)));
            }
