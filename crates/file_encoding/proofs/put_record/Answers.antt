-- `file_encoding::put_record` meets its contract: the amount, and then before it the kind and the sectors.
use Rattle.std.proofs.Common.{List, [], ◌∷◌, ◌++◌, ◌≡◌, ℕ, ◌+◌, length, refl, sym, ap, arith, ◌∙◌}
use lib.Seq.{sets, length-sets}
use Rattle.model.specs.File.{amount_bytes}
use Rattle.file_encoding.proofs.WordLaws.{sets_back, flow_record, column_record}
use Rattle.file_encoding.proofs.put_record.Goals as goal

-- the amount b was written into l after room for a, which then was m; and a before it, which then is o
both : (a b l : List ℕ) (i : ℕ) {m o record_bytes : List ℕ} → record_bytes ≡ a ++ b → m ≡ sets l (i + length a) b → o ≡ sets m i a → o ≡ sets l i record_bytes
both a b l i p e f = f ∙ ap (λ (m : List ℕ). sets m i a) e ∙ sets_back a b l i ∙ ap (λ (x : List ℕ). sets l i x) (sym p)

-- a cell of x
pub put_amount-next-requires-clause-room : goal.put_amount-next-requires-clause-room
put_amount-next-requires-clause-room c =
    let a = c.args in
    omega (arith, c.requires.room, ap (length {A = ℕ}) (flow_record a.word a.position a.amount c.if-word-lt-SECTORS.true))

pub put_bytes-requires : goal.put_bytes-requires
put_bytes-requires c =
    let a = c.args in
    let k = ap (length {A = ℕ}) c.put_amount-next.ensures.file_after ∙ length-sets a.file.now (a.at + 3) (amount_bytes a.amount) in
    omega (arith, c.requires.room, ap (length {A = ℕ}) (flow_record a.word a.position a.amount c.if-word-lt-SECTORS.true), k)

pub returns-then-word-lt-SECTORS-clause-value : goal.returns-then-word-lt-SECTORS-clause-value
returns-then-word-lt-SECTORS-clause-value c =
    let a = c.args in
    omega (arith, c.put_amount-next.ensures.value, ap (length {A = ℕ}) (flow_record a.word a.position a.amount c.if-word-lt-SECTORS.true))

pub returns-then-word-lt-SECTORS-clause-file_after :
    goal.returns-then-word-lt-SECTORS-clause-file_after
returns-then-word-lt-SECTORS-clause-file_after c =
    let a = c.args in
    both (2 ∷ (a.word + 1) ∷ (a.position + 1) ∷ []) (amount_bytes a.amount) a.file.now a.at
    (flow_record a.word a.position a.amount c.if-word-lt-SECTORS.true) c.put_amount-next.ensures.file_after c.put_bytes.ensures.out_after

-- a cell of a column
pub put_amount-next-requires-else-word-lt-SECTORS-clause-room :
    goal.put_amount-next-requires-else-word-lt-SECTORS-clause-room
put_amount-next-requires-else-word-lt-SECTORS-clause-room c =
    let a = c.args in
    omega (arith, c.requires.room, ap (length {A = ℕ}) (column_record a.word a.position a.amount refl c.if-word-lt-SECTORS.false))

pub put_bytes-requires-else-word-lt-SECTORS : goal.put_bytes-requires-else-word-lt-SECTORS
put_bytes-requires-else-word-lt-SECTORS c =
    let a = c.args in
    let k = ap (length {A = ℕ}) c.put_amount-next-else-word-lt-SECTORS.ensures.file_after ∙ length-sets a.file.now (a.at + 2) (amount_bytes a.amount) in
    omega (arith, c.requires.room, ap (length {A = ℕ}) (column_record a.word a.position a.amount refl c.if-word-lt-SECTORS.false), k)

pub returns-else-word-lt-SECTORS-clause-value : goal.returns-else-word-lt-SECTORS-clause-value
returns-else-word-lt-SECTORS-clause-value c =
    let a = c.args in
    omega (arith, c.put_amount-next-else-word-lt-SECTORS.ensures.value, ap (length {A = ℕ}) (column_record a.word a.position a.amount refl c.if-word-lt-SECTORS.false))

pub returns-else-word-lt-SECTORS-clause-file_after :
    goal.returns-else-word-lt-SECTORS-clause-file_after
returns-else-word-lt-SECTORS-clause-file_after c =
    let a = c.args in
    both (_ ∷ (a.position + 1) ∷ []) (amount_bytes a.amount) a.file.now a.at
    (column_record a.word a.position a.amount refl c.if-word-lt-SECTORS.false) c.put_amount-next-else-word-lt-SECTORS.ensures.file_after
    c.put_bytes-else-word-lt-SECTORS.ensures.out_after
