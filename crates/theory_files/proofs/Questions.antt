-- Through a question of a reading: what holds of a refusal and of what follows holds of the question. Assumes nothing.
use mathlib.Core.Bool.{Bool, true, false, cond}
use mathlib.Core.Path.{◌≡◌, refl}
use Prim.Native.Nat.{ℕ}
use Rattle.model.specs.File.{Reading}

-- Of two readings that ask it both: of a question that refuses where its test passes, of one that refuses where it fails, and of one that chooses
module _ (R : Reading → Reading → Type 0) where
  pub both_unless : (b : Bool) (x y : Reading) (number place : ℕ) → R (Reading.refused number place) (Reading.refused number place) → (b ≡ false → R x y)
      → R (cond b (Reading.refused number place) x) (cond b (Reading.refused number place) y)
  both_unless true x y number place r go = r
  both_unless false x y number place r go = go refl

  pub both_provided : (b : Bool) (x y : Reading) (number place : ℕ) → R (Reading.refused number place) (Reading.refused number place) → (b ≡ true → R x y)
      → R (cond b x (Reading.refused number place)) (cond b y (Reading.refused number place))
  both_provided true x y number place r go = go refl
  both_provided false x y number place r go = r

  pub both_either : (b : Bool) (x y u v : Reading) → (b ≡ true → R x u) → (b ≡ false → R y v) → R (cond b x y) (cond b u v)
  both_either true x y u v p q = p refl
  both_either false x y u v p q = q refl

-- Of one reading
module _ (P : Reading → Type 0) where
  abbrev Alone : Reading → Reading → Type 0
  Alone r _ = P r

  pub unless : (b : Bool) (x : Reading) (number place : ℕ) → P (Reading.refused number place) → (b ≡ false → P x) → P (cond b (Reading.refused number place) x)
  unless b x number place r go = both_unless Alone b x x number place r go

  pub provided : (b : Bool) (x : Reading) (number place : ℕ) → P (Reading.refused number place) → (b ≡ true → P x) → P (cond b x (Reading.refused number place))
  provided b x number place r go = both_provided Alone b x x number place r go

  pub either : (b : Bool) (x y : Reading) → (b ≡ true → P x) → (b ≡ false → P y) → P (cond b x y)
  either b x y p q = both_either Alone b x y x y p q
