-- The bytes before, those of the slice, and the bytes after it. Assumes nothing.
use Rattle.std.proofs.Common.{◌≡◌, refl, ◌+◌, ◌-◌, length, arith, append_assoc, drop-drop}
use Rattle.std.proofs.lemmas.List.Edits.{sets-eq}
use Rattle.byte_slices.proofs.put_bytes.Goals as goal

pub returns-clause-out_after : goal.returns-clause-out_after
returns-clause-out_after c =
    let a = c.args in
    let room : (a.at + length a.src.now) - a.at ≡ length a.src.now = omega arith in
    rw (sets-eq a.src.now a.out.now a.at c.requires, room, c.copy_from_slice.ensures.after, append_assoc, drop-drop) refl
