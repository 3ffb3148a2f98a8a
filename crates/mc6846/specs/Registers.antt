-- The section "Registers" of document 01, for the 6846.
use Rattle.std.specs.Prelude.{ℕ, ◌+◌, ◌*◌, ◌/◌, ◌%◌, Bool, true, false, not, cond, ◌&&◌, ◌||◌, eqb}
use Rattle.timer.specs.Fields.{bit, msb, lsb}
use Rattle.timer.specs.Rules.{settled, latch_written, control_written, armed_by, msb_read, asks}
use Rattle.timer.specs.declared.Timer.{Timer}
use Rattle.timer.specs.declared.Setting.{Setting}
use Rattle.mc6846.specs.declared.Combo.{Combo}
use Rattle.signals.specs.declared.m6846.Access.{Access}
use Rattle.mc6846.specs.declared.Select.{Select}
use Rattle.mc6846.specs.Fields.{with_timer, with_msb, with_lsb, with_pcr, with_ddr, with_arms}
use Rattle.mc6846.specs.Port.{pdr_byte, released, touched_by, pdr_written, port_settled, port_asks}

-- TCR: 0 internal reset, 2 divide by 8. The 6846 has no dual mode; its mode 001 is cascaded.
unfoldable pub setting_of : Timer → Setting
setting_of t = record { held = bit 0 t.control; divided = bit 2 t.control; dual = false; cascades = true }

-- ROM needs its code.
abbrev pub rom_chosen : Select → Access → Bool
rom_chosen s a = eqb a.code s.rom

-- A6 option 0, 1 or 2 (either).
unfoldable pub a6_fits : ℕ → ℕ → Bool
a6_fits option address =
    cond (eqb option 0) (not (bit 6 address)) (cond (eqb option 1) (bit 6 address) (eqb option 2))

-- The extra line at 1: 0 (none) or 7 to 10.
unfoldable pub extra_fits : ℕ → ℕ → Bool
extra_fits line address =
    cond (eqb line 0) true
    (cond (eqb line 7) (bit 7 address)
    (cond (eqb line 8) (bit 8 address)
    (cond (eqb line 9) (bit 9 address)
    (cond (eqb line 10) (bit 10 address) false))))

-- I/O needs its code, A3-A5 zero, A6 by option, the extra line at 1.
unfoldable pub io_chosen : Select → Access → Bool
io_chosen s a =
    eqb a.code s.io && eqb (a.address / 8 % 8) 0 && a6_fits s.a6 a.address && extra_fits s.extra a.address

-- Any enabled flag.
unfoldable pub composite_of : Combo → Bool
composite_of c = asks c.timer || port_asks c

-- A set bit's value.
unfoldable pub weight : Bool → ℕ → ℕ
weight b v = cond b v 0

-- Status: bit 0 timer, 1 CP1, 2 CP2, 7 any enabled flag.
unfoldable pub status_of : Combo → ℕ
status_of c = weight c.timer.flag 1 + weight c.flag1 2 + weight c.flag2 4 + weight (composite_of c) 128

-- A2A1A0: 0 and 4 status, 1 PCR, 2 DDR, 3 PDR, 5 TCR; read 6 counter MSB, 7 LSB buffer.
unfoldable pub register_byte : ℕ → Combo → ℕ
register_byte r c =
    cond (eqb r 0) (status_of c)
    (cond (eqb r 1) c.pcr
    (cond (eqb r 2) c.ddr
    (cond (eqb r 3) (pdr_byte c)
    (cond (eqb r 4) (status_of c)
    (cond (eqb r 5) c.timer.control
    (cond (eqb r 6) (msb c.timer.counter) c.lsb))))))

-- A status read arms every set flag.
unfoldable pub status_read : Combo → Combo
status_read c = with_timer (armed_by c.timer) (with_arms (c.armed1 || c.flag1) (c.armed2 || c.flag2) c)

-- Reading the counter's MSB copies its LSB to the buffer and clears an armed flag.
unfoldable pub counter_read : Combo → Combo
counter_read c = with_timer (msb_read c.timer) (with_lsb (lsb c.timer.counter) c)

-- What a read leaves.
unfoldable pub after_read : ℕ → Combo → Combo
after_read r c =
    cond (eqb r 0) (status_read c)
    (cond (eqb r 3) (touched_by (released c))
    (cond (eqb r 4) (status_read c)
    (cond (eqb r 6) (counter_read c) c)))

-- PCR6 stores 0.
unfoldable pub pcr_written : ℕ → Combo → Combo
pcr_written v c = with_pcr (v / 128 * 128 + v % 64) c

-- TCR takes the byte whole.
unfoldable pub tcr_written : ℕ → Combo → Combo
tcr_written v c = with_timer (control_written v c.timer) c

-- W is a latch write: the LSB write takes the MSB buffer with it.
unfoldable pub lsb_written : ℕ → Combo → Combo
lsb_written v c = with_timer (latch_written (setting_of c.timer) (c.msb * 256 + v) c.timer) c

-- A2A1A0: status is read only, 1 PCR, 2 DDR, 3 PDR, 5 TCR; write 6 MSB buffer, 7 W.
unfoldable pub stored : ℕ → ℕ → Combo → Combo
stored r v c =
    cond (eqb r 1) (pcr_written v c)
    (cond (eqb r 2) (with_ddr v c)
    (cond (eqb r 3) (touched_by (pdr_written v c))
    (cond (eqb r 5) (tcr_written v c)
    (cond (eqb r 6) (with_msb v c)
    (cond (eqb r 7) (lsb_written v c) c)))))

-- Internal reset holds the timer, a divider that is off stands at 0.
unfoldable pub timer_settled : Combo → Combo
timer_settled c = with_timer (settled (setting_of c.timer) c.timer) c

-- What a write leaves: what is held clear is clear.
unfoldable pub after_write : ℕ → ℕ → Combo → Combo
after_write r v c = timer_settled (port_settled (stored r v c))
