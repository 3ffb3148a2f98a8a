-- What the crates above cite of what a call comes to.
use mathlib.Core.Path.{◌≡◌, refl}
use mathlib.Core.Bool.{true, false, false≢true}
use Rattle.std.specs.Prelude.{Ok, Err}
use Rattle.outcomes.specs.declared.Refusal.{Refusal}
use Rattle.outcomes.specs.declared.Refusal.TheVariants.{BadRom, BadList, FewPlaces, BadEvent, MustWait, BookFull, BadBoard}
use Rattle.outcomes.specs.Numbers.{Outcome, Done, returned, refusal_number, number_of, goes}

pub goes_done : goes Done ≡ true
unfolding goes
goes_done = refl

-- whatever is refused stops
pub refusal_stops : (r : Refusal) → goes (Err r) ≡ false
unfolding goes
refusal_stops r = refl

pub done-number : number_of Done ≡ 0
unfolding returned
done-number = refl

pub rom-number : number_of (Err BadRom) ≡ 2
unfolding returned refusal_number
rom-number = refl

pub list-number : number_of (Err BadList) ≡ 3
unfolding returned refusal_number
list-number = refl

pub places-number : number_of (Err FewPlaces) ≡ 4
unfolding returned refusal_number
places-number = refl

pub bad-number : number_of (Err BadEvent) ≡ 5
unfolding returned refusal_number
bad-number = refl

pub wait-number : number_of (Err MustWait) ≡ 6
unfolding returned refusal_number
wait-number = refl

pub full-number : number_of (Err BookFull) ≡ 7
unfolding returned refusal_number
full-number = refl

pub board-number : number_of (Err BadBoard) ≡ 9
unfolding returned refusal_number
board-number = refl

-- a move that goes on is done so far
pub going_done : (o : Outcome) → goes o ≡ true → o ≡ Done
unfolding goes
going_done (Ok tt) e = refl
going_done (Err r) e = absurd (false≢true e)
