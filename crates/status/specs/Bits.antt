-- status.rs: a node's status as three bits, of which at most one is set. Inner: the shape of the code; nobody need believe it.
use Rattle.std.specs.Prelude.{false}
use Rattle.wire.specs.declared.Form.{Form}
use Rattle.builder.specs.Bits.{bit_form}
use Rattle.builder_table.specs.Work.{Standing, Mem, Ended}
use Rattle.builder_table.specs.Steps.{plus_in}
use Rattle.status.specs.declared.Status.{Status}
use Rattle.status.specs.declared.StatusBits.{StatusBits}

abbrev pub bits : Form → Form → Form → StatusBits
bits s f r = record { success = record { 0 = s }; failure = record { 0 = f }; running = record { 0 = r } }

-- "not ticked" is all three bits 0
abbrev pub unticked_bits : StatusBits
unticked_bits = bits (bit_form false) (bit_form false) (bit_form false)

-- `bit_mut`: one of the three replaced
unfoldable pub with_bit : StatusBits → Status → Form → StatusBits
with_bit b Status.Success f = record { success = record { 0 = f }; failure = b.failure; running = b.running }
with_bit b Status.Failure f = record { success = b.success; failure = record { 0 = f }; running = b.running }
with_bit b Status.Running f = record { success = b.success; failure = b.failure; running = record { 0 = f } }

-- "Inverter exchanges success and failure"
abbrev pub inverted_bits : StatusBits → StatusBits
inverted_bits b = record { success = b.failure; failure = b.success; running = b.running }

-- what `forced` leaves: the two finished bits as one
unfoldable pub finished_in : Mem → Standing → StatusBits → Ended
finished_in m b x = plus_in m b x.success.0 x.failure.0

-- "Force turns both into its own; running passes"
unfoldable pub forced_bits : StatusBits → Status → Form → StatusBits
forced_bits x own finished =
    with_bit (record { success = record { 0 = bit_form false }; failure = record { 0 = bit_form false }; running = x.running }) own finished
