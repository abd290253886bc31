-- Texts written piece by piece into a list of bytes: `begin`, then `go_on` with what each call ensures, then `done`; `room` and `room_first`
-- give what each call requires. Assumes nothing.
use mathlib.Core.Path.{◌≡◌, refl, sym, ap, ◌∙◌}
use mathlib.Core.List.{List, [], ◌∷◌, ◌++◌}
use Prim.Native.Nat.{ℕ, zero, suc, ◌+◌, ◌-◌, ◌≤◌, ◌<◌}
use native.Mathlib.Nat.{add-zero, add-suc, suc-add, not-suc-le-zero}
use native.Mathlib.Numerals.{add-one}
use native.Mathlib.Omega.{arith}
use lib.ListN.{length, set, get_or, drop, replicate, length-append, length-replicate}
use lib.Seq.{sets, sets-eq, length-sets, drop-cons}
use Rattle.model.specs.Bytes.{padded}

sets_append : (a b l : List ℕ) (i : ℕ) → sets l i (a ++ b) ≡ sets (sets l i a) (i + length a) b
sets_append [] b l i = ap (λ (k : ℕ). sets l k b) (sym (add-zero i))
sets_append (x ∷ a) b l i =
    sets_append a b (set l i x) (suc i)
    ∙ ap (λ (k : ℕ). sets (sets (set l i x) (suc i) a) k b) (suc-add i (length a) ∙ sym (add-suc i (length a)))

-- what a function that writes a text ensures: it wrote the text at i into l, which then is m, and returns j
abbrev pub Wrote : List ℕ → ℕ → List ℕ → List ℕ → ℕ → Type 0
Wrote text i l m j = (j ≡ i + length text) × (m ≡ sets l i text)

-- of a text to be written at i into l, the bytes `left` remain, to be written at j into m
pub record Begun (text : List ℕ) (i : ℕ) (l m : List ℕ) (j : ℕ) (left : List ℕ) : Type 0 where
  pub place : j + length left ≡ i + length text
  pub bytes : sets m j left ≡ sets l i text

pub begin : (text : List ℕ) (i : ℕ) (l : List ℕ) → Begun text i l l i text
begin text i l = record { place = refl; bytes = refl }

pub go_on : {text l m o left : List ℕ} {i j k : ℕ} (a b : List ℕ) → left ≡ a ++ b
    → Begun text i l m j left → Wrote a j m o k → Begun text i l o k b
go_on {text} {l} {m} {o} {left} {i} {j} {k} a b e p w = record {
  place = omega (arith, ap length e, length-append a b, p.place, w.0);
  bytes =
      ap (λ (x : List ℕ). sets x k b) w.1
      ∙ ap (λ (x : ℕ). sets (sets m j a) x b) w.0
      ∙ sym (sets_append a b m j)
      ∙ ap (λ (x : List ℕ). sets m j x) (sym e)
      ∙ p.bytes;
}

-- the same bytes left, told otherwise
pub leaves : {text l m left : List ℕ} {i j : ℕ} (b : List ℕ) → left ≡ b → Begun text i l m j left → Begun text i l m j b
leaves {j = j} b e p = go_on [] b e p (sym (add-zero j), refl)

pub done : {text l m o left : List ℕ} {i j k : ℕ} → Begun text i l m j left → Wrote left j m o k → Wrote text i l o k
done p w = (w.0 ∙ p.place, w.1 ∙ p.bytes)

-- where nothing is left, the text is written
pub ended : {text l m left : List ℕ} {i j : ℕ} → left ≡ [] → Begun text i l m j left → Wrote text i l m j
ended {j = j} e p = done (leaves [] e p) (sym (add-zero j), refl)

pub kept : {text l m left : List ℕ} {i j : ℕ} → Begun text i l m j left → length m ≡ length l
kept {text} {l} {m} {left} {i} {j} p = sym (length-sets m j left) ∙ ap length p.bytes ∙ length-sets l i text

-- where the text fits, so does what is left of it
pub room : {text l m left : List ℕ} {i j : ℕ} → i + length text ≤ length l → Begun text i l m j left → j + length left ≤ length m
room h p = omega (arith, p.place, kept p)

pub room_first : {text l m left : List ℕ} {i j : ℕ} (a b : List ℕ) → left ≡ a ++ b
    → i + length text ≤ length l → Begun text i l m j left → j + length a ≤ length m
room_first a b e h p = omega (arith, ap length e, length-append a b, room h p)

-- the first of what remains of a list from i on
pub drop-first : (l : List ℕ) (i : ℕ) → i < length l → drop i l ≡ get_or l i 0 ∷ drop (i + 1) l
drop-first l i h = drop-cons l i 0 h ∙ ap (λ (n : ℕ). get_or l i 0 ∷ drop n l) (sym (add-one i))

-- ---- a text at the start of zeros
drop_zeros : (k n : ℕ) → k ≤ n → drop {A = ℕ} k (replicate n 0) ≡ replicate (n - k) 0
drop_zeros zero n h = let e : n - 0 ≡ n = omega arith in rw e refl
drop_zeros (suc k) zero h = absurd (not-suc-le-zero h)
drop_zeros (suc k) (suc n) h =
    let e : suc n - suc k ≡ n - k = omega arith in
    drop_zeros k n (omega arith) ∙ ap (λ (j : ℕ). replicate j 0) (sym e)

pub over_zeros : (n : ℕ) (text : List ℕ) → length text ≤ n → sets (replicate n 0) 0 text ≡ padded n text
over_zeros n text h =
    let size = length-replicate {A = ℕ} n 0 in
    let start : 0 + length text ≡ length text = omega arith in
    sets-eq text (replicate n 0) 0 (omega arith)
    ∙ ap (λ (k : ℕ). text ++ drop {A = ℕ} k (replicate n 0)) start ∙ ap (λ (l : List ℕ). text ++ l) (drop_zeros (length text) n h)
