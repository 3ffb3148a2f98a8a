-- The waiting changes as a list of the cycles that made them, oldest first.
use Rattle.std.specs.Prelude.{ℕ, ◌+◌, ◌^◌, Bool, true, cond, not, ◌&&◌, List, [], ◌∷◌, ◌==◌, nat_le, nat_lt}
use Rattle.wire.specs.Stamp.{gap}

-- a change of cycle c leaves when the listener has done cycle c+1: of rising cycles only the oldest can be of its stamp
unfoldable pub later_than : ℕ → List ℕ → List ℕ
later_than stamp [] = []
later_than stamp (e ∷ es) = cond (e == stamp) es (e ∷ es)

-- a level turned once for each change
unfoldable pub turned : List ℕ → Bool → Bool
turned [] level = level
turned (e ∷ es) level = not (turned es level)

-- what the listener sees in its next cycle: the level now, turned once for each waiting change of a later cycle
unfoldable pub heard_of : ℕ → List ℕ → Bool → Bool
heard_of stamp es level = turned (later_than stamp es) level

-- how many cycles there are from the listener's stamp to the driver's: none where the listener leads
unfoldable pub span_of : ℕ → ℕ → ℕ
span_of listener driver = cond (nat_lt (gap listener driver) (2 ^ 31)) (gap listener driver + 1) 0

-- cycles rising from `low` past the listener's stamp, and each less than `span` past it
unfoldable pub rising : ℕ → ℕ → ℕ → List ℕ → Bool
rising listener low span [] = true
rising listener low span (e ∷ es) =
    nat_le low (gap listener e) && (nat_lt (gap listener e) span && rising listener (gap listener e + 1) span es)

-- their cycles rising and each from the listener's stamp to the driver's
unfoldable pub in_order : ℕ → ℕ → List ℕ → Bool
in_order listener driver es = rising listener 0 (span_of listener driver) es

-- the waiting changes of a later cycle: each is from the stamp on, so those that are not of it
unfoldable pub later : ℕ → List ℕ → List ℕ
later stamp [] = []
later stamp (e ∷ es) = cond (e == stamp) (later stamp es) (e ∷ later stamp es)
