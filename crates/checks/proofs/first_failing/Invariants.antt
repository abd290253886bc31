use Rattle.std.proofs.Common.{ℕ, Bool, ◌≡◌, ◌<◌}
use Rattle.theory.proofs.Verdicts.{Scan}
use Rattle.checks.proofs.first_failing.Given as goal

-- no place so far fails
abbrev pub invariant-loop-i : goal.invariant-loop-i
invariant-loop-i g l =
    (q : ℕ) (p : ℕ → Bool) → ((i : ℕ) (b : Bool) → i < l.places → goal.F-post g l.passes i b → b ≡ p i)
    → Scan (record { number = q; offset = l.offset; places = l.places; passes = p }) l.i
