-- "Each public function's contract determines its answer and the final contents of all it was lent, for every input and refusal; that any two
-- permitted answers coincide is itself proved." A contract is named as the toolchain reads it: FN.Reads.Post is what the `ensures` of FN say, and
-- FN.ended its signature, with what can be said at exit.
--
-- The tables of proofs/ give each exported function, by crate, with the definition that its contract equals. One marked * asks something of its
-- caller, and is for other crates alone; the others ask nothing. The statements need nothing of what is asked.
use Rattle.std.specs.Prelude.{◌≡◌}
use contract.Lifetimes.{Lfts}
use denote.Triple.Entry.{Args, Res}
use denote.Triple.Clauses.{Ended, AtExit, Lasts, at_exit}

abbrev pub Lifetimes : Ended → Type 0
Lifetimes T = Lfts T.signature.lifetimes

-- what is said of the arguments, the answer, and the arguments as they are at exit
abbrev pub Contract : Ended → Type 1
Contract T = (κs : Lifetimes T) → Args T.signature κs → Res T.signature κs → AtExit T κs → Type 0

-- Any two outcomes that a contract permits for the same arguments coincide: what is seen of the answers x and y; and what is seen of u and v, the
-- last contents of all that is lent as `&mut`. Nothing can change what is lent as `&` or passed by value.
abbrev pub OneOf : (T : Ended) → Contract T → (S : Lifetimes T → Type 0) → ((κs : Lifetimes T) → Res T.signature κs → S κs)
    → (L : (κs : Lifetimes T) → Args T.signature κs → Type 0) → ((κs : Lifetimes T) (a : Args T.signature κs) → Lasts T κs a → L κs a) → Type 0
OneOf T Post S see L left =
    (κs : Lifetimes T) (a : Args T.signature κs) (x y : Res T.signature κs) (u v : Lasts T κs a)
    → Post κs a x (at_exit T κs a u) → Post κs a y (at_exit T κs a v) → (see κs x ≡ see κs y) × (left κs a u ≡ left κs a v)

-- the last contents whole
abbrev pub OneSeen : (T : Ended) → Contract T → (S : Lifetimes T → Type 0) → ((κs : Lifetimes T) → Res T.signature κs → S κs) → Type 0
OneSeen T Post S see = OneOf T Post S see (Lasts T) (λ κs a u. u)

-- the answers whole too. Floats are those of lib.Ieee, which has one NaN: there is nothing to except.
abbrev pub One : (T : Ended) → Contract T → Type 0
One T Post = OneSeen T Post (Res T.signature) (λ κs x. x)

-- The same where a struct of lent slices is lent: specs/Left has what is seen of its last value, which slices they are and what each holds. The
-- address of a slice, which its name determines, is not seen.
abbrev pub OneLeft : (T : Ended) → Contract T → (L : Type 0) → ((κs : Lifetimes T) (a : Args T.signature κs) → Lasts T κs a → L) → Type 0
OneLeft T Post L left = OneOf T Post (Res T.signature) (λ κs x. x) (λ κs a. L) left
