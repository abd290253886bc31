-- A whole record that names a cell has its bytes, and names a cell that the table has if its sector bytes are inside. Assumes nothing.
use mathlib.Core.Bool.{Bool, true, false, cond, false≢true}
use mathlib.Core.List.{List}
use mathlib.Core.Path.{◌≡◌, sym, subst}
use Prim.Native.Nat.{ℕ, ◌+◌, ◌≤◌}
use native.Mathlib.Omega.{arith}
use borrow.Author.Tests.{ne_eqb}
use lib.ListN.{length}
use Rattle.model.specs.Numbers.{cell}
use Rattle.model.specs.Table.{sector_limit}
use Rattle.model.specs.File.{Entry, Within, record_lengths, kind_at, is_flow, next_at, inside_at, entry_at}
use Rattle.theory_files.proofs.RecordKinds.{body, record_size, taken}
use Rattle.file_records.specs.Bodies.{Body}
use Rattle.file_steps.specs.Steps.{Begun, Naming, Names}

module _ (s : List ℕ) (at : ℕ) (b : Begun s at) (m : Naming s at) where
  pub bodied : Body s at
  bodied = go (is_flow s at) (record_size s at b.whole (ne_eqb _ 1 m.not_first) (ne_eqb _ 8 m.not_end))
    where
      go :
          (t : Bool) → cell record_lengths (kind_at s at) ≡ cond t 7 6
          → (at + 6 ≤ length s) × (t ≡ true → at + 7 ≤ length s) × (cell record_lengths (kind_at s at) ≡ cond t 7 6)
      go true e = let p = (body s at b.whole).1 in (omega arith, λ _. omega arith, e)
      go false e = let p = (body s at b.whole).1 in (omega arith, λ f. absurd (false≢true f), e)

  pub names_of : (n : ℕ) → n ≤ sector_limit → inside_at s at n ≡ true → (e : Entry) → e ≡ entry_at s at → (next : ℕ) → next ≡ next_at s at → Names s n at e next
  names_of n small i e same next past =
      let p = body s at b.whole in
      let named = taken s at b.whole (ne_eqb _ 1 m.not_first) (ne_eqb _ 8 m.not_end) n small i in
      record { within = subst (Within n) (sym same) named.within; onward = omega (arith, p.0); inside = omega (arith, p.1) }
