-- Parts of what is lent.
use Rattle.std.specs.Prelude.{ℕ, ◌+◌, ◌-◌, ◌*◌, ◌/◌, cond, List, [], length, take, drop, nat_le, nat_lt}

-- the bytes from a place to another; none where they are not all there
unfoldable pub between : List ℕ → ℕ → ℕ → List ℕ
between text from to = cond (nat_lt to from) [] (cond (nat_lt (length text) to) [] (take (to - from) (drop from text)))

-- n bytes on, and no further than an end
unfoldable pub on_from : ℕ → ℕ → ℕ → ℕ
on_from from n end = cond (nat_le from end) (cond (nat_le n (end - from)) (from + n) end) end

-- the words of the first n events of a list, or all that there are
unfoldable pub in_use : List ℕ → ℕ → List ℕ
in_use events n = cond (nat_le n (length events / 3)) (take (3 * n) events) events
