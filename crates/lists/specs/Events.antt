-- The section "Event lists and answers in memory" of document 01: the next event of a list, for either chip.
use Rattle.std.specs.Prelude.{ℕ, ◌+◌, ◌*◌, ◌/◌, Bool, cond, ◌||◌, List, length, get_or, set, ltb, eqb, Option, Some, None}
use Rattle.wire.specs.Stamp.{gap}
use Rattle.lists.specs.declared.Words.{Words}
use Rattle.lists.specs.declared.Cycle.{Cycle}

-- A list of 32-bit words, three an event: stamp, levels, access.
unfoldable pub words_at : List ℕ → ℕ → Words
words_at es n = record { stamp = get_or es (n * 3) 0; levels = get_or es (n * 3 + 1) 0; access = get_or es (n * 3 + 2) 0 }

-- An event is bad if its stamp is not 1 to 2,147,483,647 ahead of the chip's.
abbrev pub bad_stamp : ℕ → Bool
bad_stamp far = eqb far 0 || ltb 2147483647 far

-- Between events levels stay and there is no access: its word is 0.
abbrev pub idle_with : ℕ → ℕ → Cycle
idle_with held done = record { levels = held; access = 0; done = done }

-- what the next cycle has; none where the next event is bad
abbrev pub Next : Type 0
Next = Option Cycle

-- Each cycle is named by the stamp it gives and holds that stamp's event.
unfoldable pub taken_by : Words → Bool → ℕ → ℕ → ℕ → Next
taken_by e bad done stamp held =
    cond (bad_stamp (gap stamp e.stamp) || bad) None
    (cond (eqb (gap stamp e.stamp) 1) (Some (record { levels = e.levels; access = e.access; done = done + 1 }))
    (Some (idle_with held done)))

-- The next event, with what makes its other words bad; past the last there is none.
unfoldable pub next_of : (ℕ → ℕ → Bool) → List ℕ → ℕ → ℕ → ℕ → Next
next_of bad es done stamp held =
    let e = words_at es done in
    cond (ltb done (length es / 3)) (taken_by e (bad e.levels e.access) done stamp held) (Some (idle_with held done))

-- Each event has one answer place. Every place whose event is not yet done keeps its content, as do those of earlier calls.
unfoldable pub answered : List ℕ → ℕ → ℕ → ℕ → List ℕ
answered places before after answer = cond (eqb before after) places (set places before answer)
