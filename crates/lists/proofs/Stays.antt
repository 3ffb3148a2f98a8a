-- What a move that stops leaves as it was, for any chip.
use Prim.Native.Nat.{ℕ}
use mathlib.Core.Path.{◌≡◌, refl}
use Rattle.outcomes.specs.Numbers.{Outcome}
use Rattle.lists.specs.Moves.{World, world}

module _ {C : Type 0} where
  -- the chip, its answers and the book are the same
  pub record Same (v w : World C) : Type 0 where
    pub run : v.run ≡ w.run
    pub answers : v.answers ≡ w.answers
    pub places : v.places ≡ w.places

  abbrev pub stamp_in : World C → ℕ
  stamp_in w = w.run.stamp

  pub stays : (w : World C) (o : Outcome) → Same (world w.run w.answers w.places o) w
  stays w o = record { run = refl; answers = refl; places = refl }
