-- The three statuses, their codes, and what a decorator makes of one. A Bool stands for a finished status: true is success.
use Rattle.std.specs.Prelude.{ℕ, zero, suc, Bool, true, false}

pub data Status : Type 0 where
  Success Failure Running : Status

-- "Status codes: 0 success, 1 failure, 2 running; 3 not ticked."
abbrev pub code_of : Status → ℕ
code_of Success = 0
code_of Failure = 1
code_of Running = 2

abbrev pub not_ticked : ℕ
not_ticked = 3

-- a given code; a row with one above 2 is refused
abbrev pub status_of : ℕ → Status
status_of zero = Success
status_of (suc zero) = Failure
status_of (suc (suc n)) = Running

abbrev pub is_success : Status → Bool
is_success Success = true
is_success Failure = false
is_success Running = false

abbrev pub is_failure : Status → Bool
is_failure Success = false
is_failure Failure = true
is_failure Running = false

abbrev pub is_running_status : Status → Bool
is_running_status Success = false
is_running_status Failure = false
is_running_status Running = true

abbrev pub done : Bool → Status
done true = Success
done false = Failure

-- "Inverter exchanges success and failure; .. running passes."
abbrev pub exchanged : Status → Status
exchanged Success = Failure
exchanged Failure = Success
exchanged Running = Running

-- "Force turns both into its own; running passes."
abbrev pub forced_to : Bool → Status → Status
forced_to own Success = done own
forced_to own Failure = done own
forced_to own Running = Running

-- whether a composite that advances on this status goes on past a child
abbrev pub advances : Bool → Status → Bool
advances true s = is_success s
advances false s = is_failure s
