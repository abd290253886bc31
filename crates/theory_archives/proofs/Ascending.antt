-- Named cells in ascending order: none comes twice, and they are told by their amounts alone. Assumes nothing.
use mathlib.Core.Bool.{Bool, true, false, ◌&&◌, ◌||◌, cond, false≢true}
use mathlib.Core.List.{List, [], ◌∷◌, ◌++◌, reverse_aux}
use mathlib.Core.Path.{◌≡◌, refl, sym, ap, ap₂, ◌∙◌, subst}
use Prim.Native.Nat.{ℕ, suc, ◌+◌, ◌≤◌, ◌<◌}
use native.Mathlib.Omega.{arith}
use native.Mathlib.Nat.{le_refl, zero-add, add-zero}
use borrow.Author.Tests.{eq-eqb, ne_eqb, eqb-true, eqb-false, ltb-true, ltb-false}
use lib.Dec.{eqb, ltb}
use Rattle.model.specs.Table.{sector_limit}
use Rattle.model.specs.File.{Entry, Within, named_before}
use Rattle.model.specs.Writer.{order, Ascending}
use Rattle.theory_files.proofs.Encoding.{made_same}
use Rattle.theory_files.proofs.Files.{Fresh}
use Rattle.theory_files.proofs.Readings.{AllWithin, Distinct}

-- The amount that named cells have at a place of the order: of all that are there together, and so of the one
abbrev pub amount_at : List Entry → ℕ → ℕ
amount_at [] r = 0
amount_at (e ∷ es) r = cond (eqb (order e) r) e.amount 0 + amount_at es r

pub amount_append : (es fs : List Entry) (r : ℕ) → amount_at (es ++ fs) r ≡ amount_at es r + amount_at fs r
amount_append [] fs r = sym (zero-add (amount_at fs r))
amount_append (e ∷ es) fs r = let more = amount_append es fs r in omega arith

pub amount_reversed : (es fs : List Entry) (r : ℕ) → amount_at (reverse_aux es fs) r ≡ amount_at es r + amount_at fs r
amount_reversed [] fs r = sym (zero-add (amount_at fs r))
amount_reversed (e ∷ es) fs r = let more = amount_reversed es (e ∷ fs) r in omega arith

-- the head's own place, and any other
pub amount_here : (e : Entry) (es : List Entry) → amount_at es (order e) ≡ 0 → amount_at (e ∷ es) (order e) ≡ e.amount
amount_here e es none = rw (eq-eqb (order e) (order e) refl, none) (add-zero e.amount)

pub amount_other : (e : Entry) (es : List Entry) (r : ℕ) → eqb (order e) r ≡ false → amount_at (e ∷ es) r ≡ amount_at es r
amount_other e es r h = rw h (zero-add (amount_at es r))

-- a place has one word and one position
pub order_once : (e f : Entry) → e.position < sector_limit → f.position < sector_limit → order e ≡ order f → (e.word ≡ f.word) × (e.position ≡ f.position)
order_once e f h l r = (omega arith, omega arith)

module _ (n : ℕ) (few : n ≤ sector_limit) where
  -- a position that a table has
  low : (e : Entry) → Within n e → e.position < sector_limit
  low e w = let p = w.place in omega arith

  -- two cells are named alike where they have one place
  named_alike : (e f : Entry) → Within n e → Within n f → eqb e.word f.word && eqb e.position f.position ≡ eqb (order e) (order f)
  named_alike e f w v = go (eqb e.word f.word) (eqb e.position f.position) refl refl
    where
      differ : (order e ≡ order f → ⊥) → false ≡ eqb (order e) (order f)
      differ h = sym (ne_eqb (order e) (order f) h)

      go : (s t : Bool) → eqb e.word f.word ≡ s → eqb e.position f.position ≡ t → s && t ≡ eqb (order e) (order f)
      go true true x y =
          let p = eqb-true e.word f.word x in
          let q = eqb-true e.position f.position y in
          sym (eq-eqb (order e) (order f) (omega arith))
      go true false x y = differ (λ r. eqb-false e.position f.position y (order_once e f (low e w) (low f v) r).1)
      go false t x y = differ (λ r. eqb-false e.word f.word x (order_once e f (low e w) (low f v) r).0)

  pub from_lower : (j k : ℕ) (es : List Entry) → j ≤ k → Ascending n k es → Ascending n j es
  from_lower j k [] h a = tt
  from_lower j k (e ∷ es) h a = (a.0, let l = a.1 in omega arith, a.2, a.3)

  -- before the first place there is nothing
  pub nothing_before : (k : ℕ) (es : List Entry) → Ascending n k es → (r : ℕ) → r < k → amount_at es r ≡ 0
  nothing_before k [] a r h = refl
  nothing_before k (e ∷ es) a r h =
      amount_other e es r (ne_eqb (order e) r (λ f. let l = a.1 in omega arith))
      ∙ nothing_before (suc (order e)) es a.3 r (let l = a.1 in omega arith)

  first_amount : (k : ℕ) (e : Entry) (es : List Entry) → Ascending n k (e ∷ es) → amount_at (e ∷ es) (order e) ≡ e.amount
  first_amount k e es a = amount_here e es (nothing_before (suc (order e)) es a.3 (order e) (le_refl (suc (order e))))

  -- the same amounts at every cell that a table has
  abbrev pub Same : List Entry → List Entry → Type 0
  Same es fs = (e : Entry) → Within n e → amount_at es (order e) ≡ amount_at fs (order e)

  -- a first cell cannot come before the other list's first
  none_earlier : (k : ℕ) (e : Entry) (es : List Entry) (j : ℕ) (fs : List Entry) → Ascending n k (e ∷ es) → Ascending n j fs → order e < j → Same (e ∷ es) fs → ⊥
  none_earlier k e es j fs a b h same =
      let here = first_amount k e es a in
      let there = nothing_before j fs b (order e) h in
      let both = same e a.0 in
      let some = a.2 in
      omega arith

  -- Two ascending lists with the same amounts are one list
  pub told : (k : ℕ) (es fs : List Entry) → Ascending n k es → Ascending n k fs → Same es fs → es ≡ fs
  told k [] [] a b same = refl
  told k [] (f ∷ fs) a b same = absurd (none_earlier k f fs (suc (order f)) [] b tt (le_refl (suc (order f))) (λ e w. sym (same e w)))
  told k (e ∷ es) [] a b same = absurd (none_earlier k e es (suc (order e)) [] a tt (le_refl (suc (order e))) same)
  told k (e ∷ es) (f ∷ fs) a b same = go (ltb (order e) (order f)) (ltb (order f) (order e)) refl refl (told (suc (order e)) es fs a.3)
    where
      go : (s t : Bool) → ltb (order e) (order f) ≡ s → ltb (order f) (order e) ≡ t
          → (Ascending n (suc (order e)) fs → Same es fs → es ≡ fs) → e ∷ es ≡ f ∷ fs
      go true t x y more =
          absurd (none_earlier k e es (order f) (f ∷ fs) a (b.0, le_refl (order f), b.2, b.3) (ltb-true (order e) (order f) x) same)
      go false true x y more =
          absurd
          (none_earlier k f fs (order e) (e ∷ es) b (a.0, le_refl (order e), a.2, a.3) (ltb-true (order f) (order e) y) (λ g w. sym (same g w)))
      go false false x y more =
          let l = ltb-false (order e) (order f) x in
          let g = ltb-false (order f) (order e) y in
          let r : order e ≡ order f = omega arith in
          let place = order_once e f (low e a.0) (low f b.0) r in
          let amount : e.amount ≡ f.amount = sym (first_amount k e es a) ∙ same e a.0 ∙ ap (amount_at (f ∷ fs)) r ∙ first_amount k f fs b in
          ap₂ ◌∷◌ (made_same place.0 place.1 amount)
          (more (subst (λ (m : ℕ). Ascending n (suc m) fs) (sym r) b.3) (λ g w. tails g w r))
        where
          tails : (g : Entry) → Within n g → order e ≡ order f → amount_at es (order g) ≡ amount_at fs (order g)
          tails g w r = split (eqb (order e) (order g)) refl
            where
              split : (t : Bool) → eqb (order e) (order g) ≡ t → amount_at es (order g) ≡ amount_at fs (order g)
              split true s =
                  let z = eqb-true (order e) (order g) s in
                  nothing_before (suc (order e)) es a.3 (order g) (omega arith)
                  ∙ sym (nothing_before (suc (order f)) fs b.3 (order g) (omega arith))
              split false s =
                  let z : eqb (order f) (order g) ≡ false = ap (λ (m : ℕ). eqb m (order g)) (sym r) ∙ s in
                  sym (amount_other e es (order g) s) ∙ same g w ∙ amount_other f fs (order g) z

  -- ---- none comes twice: what the reader asks
  -- all of a list before a place
  abbrev Before : ℕ → List Entry → Type 0
  Before k [] = Unit {0}
  Before k (e ∷ es) = Within n e × (order e < k) × Before k es

  before_more : (j k : ℕ) (es : List Entry) → j ≤ k → Before j es → Before k es
  before_more j k [] h b = tt
  before_more j k (e ∷ es) h b = (b.0, let l = b.1 in omega arith, before_more j k es h b.2)

  not_named : (k : ℕ) (es : List Entry) (e : Entry) → Before k es → Within n e → k ≤ order e → named_before es e ≡ false
  not_named k [] e b w h = refl
  not_named k (f ∷ es) e b w h =
      let l = b.1 in
      rw (named_alike f e b.0 w, ne_eqb (order f) (order e) (λ r. omega arith)) (not_named k es e b.2 w h)

  pub fresh : (k : ℕ) (before es : List Entry) → Before k before → Ascending n k es → Fresh n before es
  fresh k before [] b a = tt
  fresh k before (e ∷ es) b a = (
    a.0,
    not_named k before e b a.0 a.1,
    fresh (suc (order e)) (e ∷ before) es (a.0, le_refl (suc (order e)), before_more k (suc (order e)) before (let l = a.1 in omega arith) b) a.3,
  )

-- ---- cells that are named once each
pub distinct_reversed : (n : ℕ) (es fs : List Entry) → Fresh n fs es → Distinct fs × AllWithin n fs → Distinct (reverse_aux es fs) × AllWithin n (reverse_aux es fs)
distinct_reversed n [] fs f d = d
distinct_reversed n (e ∷ es) fs f d = distinct_reversed n es (e ∷ fs) f.2 ((f.1, d.0), (f.0, d.1))

-- a cell that was not named has no amount
neither : (s t : Bool) → s || t ≡ false → (s ≡ false) × (t ≡ false)
neither true t e = absurd (false≢true (sym e))
neither false t e = (refl, e)

pub unnamed : (n : ℕ) → n ≤ sector_limit → (es : List Entry) (e : Entry) → AllWithin n es → Within n e → named_before es e ≡ false → amount_at es (order e) ≡ 0
unnamed n few [] e w h none = refl
unnamed n few (f ∷ es) e w h none =
    let p = neither _ _ none in
    amount_other f es (order e) (sym (named_alike n few f e w.0 h) ∙ p.0) ∙ unnamed n few es e w.1 h p.1
