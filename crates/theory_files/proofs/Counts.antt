-- The named cells, counted word by word and position by position: a cell that is named for the first time adds one in its word. Assumes nothing.
use mathlib.Core.Bool.{Bool, true, false, ◌&&◌, ◌||◌}
use mathlib.Core.List.{List, [], ◌∷◌}
use mathlib.Core.Path.{◌≡◌, refl, ap, ◌∙◌}
use Prim.Native.Nat.{ℕ, ◌+◌, ◌*◌, ◌≤◌, ◌<◌}
use native.Mathlib.Nat.{le_refl, mul-add, mul-one}
use native.Mathlib.Omega.{arith}
use borrow.Author.Tests.{eq-eqb, ne_eqb}
use lib.Dec.{eqb}
use Rattle.model.specs.Numbers.{sum}
use Rattle.model.specs.File.{Entry, named_before, word_limit}
use Rattle.theory.proofs.Sums.{sum_cong, sum-raised}

-- 1 where a test passes, 0 where it fails
abbrev pub indicator : Bool → ℕ
indicator true = 1
indicator false = 0

pub indicator_most : (b : Bool) → indicator b ≤ 1
indicator_most true = le_refl 1
indicator_most false = omega arith

-- a cell by its word and its position
abbrev pub place : ℕ → ℕ → Entry
place w p = record { word = w; position = p; amount = 0 }

-- the amount of a cell does not matter
named_place : (es : List Entry) (e : Entry) → named_before es (place e.word e.position) ≡ named_before es e
named_place [] e = refl
named_place (f ∷ es) e = ap (λ (b : Bool). eqb f.word e.word && eqb f.position e.position || b) (named_place es e)

-- the named positions of a word, among its first m
abbrev pub count : ℕ → List Entry → ℕ → ℕ
count m es w = sum m (λ p. indicator (named_before es (place w p)))

-- and of all words, each position with the weight of its word
unfoldable pub tally : (m : ℕ) (weight : ℕ → ℕ) → List Entry → ℕ
tally m weight es = sum word_limit (λ w. weight w * count m es w)

-- one cell more
module _ (e : Entry) (es : List Entry) where
  other_position : (w p : ℕ) → (e.position ≡ p → ⊥) → named_before (e ∷ es) (place w p) ≡ named_before es (place w p)
  other_position w p h = go (eqb e.word w)
    where
      go : (b : Bool) → (b && eqb e.position p || named_before es (place w p)) ≡ named_before es (place w p)
      go true = rw (ne_eqb e.position p h) refl
      go false = refl

  other_word_lem : (m w : ℕ) → (e.word ≡ w → ⊥) → count m (e ∷ es) w ≡ count m es w
  other_word_lem m w h = sum_cong m (λ p _. rw (ne_eqb e.word w h) refl)

  module _ (new : named_before es e ≡ false) (m : ℕ) (h : e.position < m) where
    its_word : count m (e ∷ es) e.word ≡ count m es e.word + 1
    its_word =
        sum-raised m e.position 1 h (λ p _ q. ap indicator (other_position e.word p q))
        (rw (named_place es e, new, eq-eqb e.word e.word refl, eq-eqb e.position e.position refl) refl)

    pub tally_more : (weight : ℕ → ℕ) → e.word < word_limit → tally m weight (e ∷ es) ≡ tally m weight es + weight e.word
    unfolding tally
    tally_more weight l =
        let b = weight e.word in
        sum-raised word_limit e.word b l (λ w _ q. ap (λ (k : ℕ). weight w * k) (other_word_lem m w q))
        (ap (λ (k : ℕ). b * k) its_word ∙ mul-add b (count m es e.word) 1 ∙ ap (λ (k : ℕ). b * count m es e.word + k) (mul-one b))
