-- The stamps of two chips, a listener's and a driver's, and what may lie between them.
use Rattle.std.specs.Prelude.{ℕ, suc, ◌+◌, ◌-◌, ◌%◌, ◌^◌, Bool, cond, ◌&&◌, ℤ, pos, negsuc, neg_ℤ, int_le, nat_lt}

-- each cycle adds one to a chip's stamp; the stamp goes round from 4,294,967,295 to 0
abbrev pub next_stamp : ℕ → ℕ
next_stamp s = (s + 1) % 2 ^ 32

-- how far the stamp `to` lies past the stamp `from`, round the wrap
unfoldable pub gap : ℕ → ℕ → ℕ
gap from to = (to + (2 ^ 32 - from)) % 2 ^ 32

-- a wrapped difference as a signed number
unfoldable pub signed : ℕ → ℤ
signed g = cond (nat_lt g (2 ^ 31)) (pos g) (negsuc (2 ^ 32 - suc g))

-- the lead is the signed distance from the listener's stamp to the driver's
unfoldable pub lead_of : ℕ → ℕ → ℤ
lead_of listener driver = signed (gap listener driver)

-- by how much the driver may lead
abbrev pub driver_limit : ℕ
driver_limit = 65536

-- by how much the listener may lead: 65,536, and 1 with a wire
unfoldable pub listener_limit : Bool → ℕ
listener_limit wired = cond wired 1 65536

-- lead -65,536 to 65,536, and -1 to 65,536 with a wire
unfoldable pub in_reach : ℕ → ℕ → Bool → Bool
in_reach listener driver wired =
    int_le (neg_ℤ (pos (listener_limit wired))) (lead_of listener driver) && int_le (lead_of listener driver) (pos driver_limit)

-- the driver waits if it already leads by 65,536
unfoldable pub driver_waits : ℕ → ℕ → Bool
driver_waits listener driver = int_le (pos driver_limit) (lead_of listener driver)

-- the listener waits if it already leads by 65,536, with a wire also if it leads by 1
unfoldable pub listener_waits : ℕ → ℕ → Bool → Bool
listener_waits listener driver wired = int_le (lead_of listener driver) (neg_ℤ (pos (listener_limit wired)))
