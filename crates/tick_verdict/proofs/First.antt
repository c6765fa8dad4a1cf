-- The first verdict that is not sound, as a loop finds it.
use Rattle.std.proofs.Common.{◌≡◌, ℕ, zero, suc, ◌<◌, Ok, Err, arith}
use Rattle.std.proofs.Math.Logic.{⊎_elim}
use Rattle.std.proofs.Math.Nat.{eq-or-lt_of_le, le_of_suc-le-suc}
use Rattle.tick_verdict.specs.declared.InvariantError.{InvariantError}
use Rattle.tick_verdict.specs.Verdict.{Verdict, first_of}

-- what is broken first stays so, however many follow
pub first_stop : (f : ℕ → Verdict) (i n : ℕ) {e : InvariantError} → i < n → first_of f i ≡ Ok tt → f i ≡ Err e → first_of f n ≡ Err e
first_stop f i zero l h b = absurd (omega arith)
first_stop f i (suc n) {e} l h b =
    ⊎_elim
    (λ q. let s : first_of f n ≡ Ok tt = rw q at h in let t : f n ≡ Err e = rw q at b in rw (s, t))
    (λ m. let s : first_of f n ≡ Err e = first_stop f i n m h b in rw s)
    (eq-or-lt_of_le (le_of_suc-le-suc l))
