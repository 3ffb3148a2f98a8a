-- The book: a ring of 64 places and its two ends.
use Rattle.std.specs.Prelude.{ℕ, zero, suc, ◌+◌, ◌-◌, ◌%◌, Bool, cond, ◌&&◌, List, [], ◌∷◌, ◌==◌, nat_le, slice_index, slice_set}
use Rattle.wire.specs.declared.book.Ends.{Ends}
use Rattle.wire.specs.Order.{heard_of, in_order}

-- the places that are lent, and the two ends
pub record Book : Type 0 where
  pub places : List ℕ
  pub ends : Ends

abbrev pub book_of : List ℕ → Ends → Book
book_of places ends = record { places = places; ends = ends }

-- so many entries, from a place on round the ring
unfoldable pub entries : List ℕ → ℕ → ℕ → List ℕ
entries places at zero = []
entries places at (suc n) = slice_index places (at % 64) ∷ entries places (suc at) n

-- the waiting changes, oldest first
abbrev pub waiting_of : List ℕ → Ends → List ℕ
waiting_of places ends = entries places ends.first ends.waiting

-- a change is noted at the end, if fewer than 64 wait
unfoldable pub noted_of : List ℕ → Ends → ℕ → Book
noted_of places ends stamp =
    cond (nat_le 64 ends.waiting) (book_of places ends)
    (book_of (slice_set places ((ends.first + ends.waiting) % 64) stamp) (record { first = ends.first; waiting = ends.waiting + 1 }))

-- the oldest change leaves if it is of the listener's stamp
unfoldable pub left_of : List ℕ → Ends → ℕ → Ends
left_of places ends stamp =
    cond (ends.waiting == 0) ends
    (cond (slice_index places (ends.first % 64) == stamp) (record { first = (ends.first + 1) % 64; waiting = ends.waiting - 1 }) ends)

-- what the listener sees in its next cycle
abbrev pub heard_at : List ℕ → Ends → ℕ → Bool → Bool
heard_at places ends stamp level = heard_of stamp (waiting_of places ends) level

-- waiting changes 0 to 64, their cycles rising and each from the listener's stamp to the driver's
unfoldable pub in_order_at : List ℕ → Ends → ℕ → ℕ → Bool
in_order_at places ends listener driver = nat_le ends.waiting 64 && in_order listener driver (waiting_of places ends)
