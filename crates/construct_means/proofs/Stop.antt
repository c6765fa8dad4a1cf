-- The stop of a composite, as the direct walk has it, is what the walk over lists finds on children turned to advance on success.
use Prim.Native.Nat.{◌*◌, ◌<◌, ◌≤◌, suc, zero, ℕ}
use native.Mathlib.Omega.{arith}
use mathlib.Core.Bool.{Bool, not-not, ◌&&◌, ◌||◌, cond, false, not, true}
use mathlib.Core.List.{List, [], ◌∷◌}
use mathlib.Core.Path.{◌≡◌, ap, refl}
use lib.Dec.{T, leb, leb→le, ltb, ltb→lt, lt→ltb, nleb→lt}
use lib.ListN.{length}
use Rattle.construct.proofs.Bits.{is_false, is_true}
use Rattle.construct.proofs.ListWalk.{blk, calls, flips, marks, resumed, turn, turned, walked}
use Rattle.walk.specs.Kind.{bit}
use Rattle.walk.specs.Status.{Failure, Running, Status, Success, advances, exchanged, is_running_status, is_success}
use Rattle.walk.specs.Walk.{At, Call, Stop, past_stop, resume_at, stop_from, stop_status}

exchange_twice : (s : Status) → exchanged (exchanged s) ≡ s
exchange_twice Success = refl
exchange_twice Failure = refl
exchange_twice Running = refl

leb_flip : (start k : ℕ) → leb (suc k) start ≡ not (leb start k)
leb_flip start k = go (leb (suc k) start) (leb start k) (leb→le (suc k) start) (nleb→lt (suc k) start) (leb→le start k) (nleb→lt start k)
  where
    go : (a b : Bool) → (T a → suc k ≤ start) → (T (not a) → start < suc k) → (T b → start ≤ k) → (T (not b) → k < start) → a ≡ not b
    go true true p q r s = absurd (omega (arith, p tt, r tt))
    go true false p q r s = refl
    go false true p q r s = refl
    go false false p q r s = absurd (omega (arith, q tt, s tt))

not_or : (a b : Bool) → not (not a || b) ≡ a && not b
not_or true b = refl
not_or false b = refl

-- the children's statuses, turned one by one
abbrev turn_s : Bool → Status → Status
turn_s true s = s
turn_s false s = exchanged s

turned_cons : (q : Bool) (s : Status) (ss : List Status) → turned q (s ∷ ss) ≡ turn_s q s ∷ turned q ss
unfolding flips
turned_cons true s ss = refl
turned_cons false s ss = refl

blk_is : (q : Bool) (start k : ℕ) (s : Status) → blk start k (turn_s q s) ≡ leb start k && not (advances q s)
blk_is true start k s = rw (leb_flip start k, not_or (leb start k) (is_success s)) refl
blk_is false start k Success = rw (leb_flip start k, not_or (leb start k) false) refl
blk_is false start k Failure = rw (leb_flip start k, not_or (leb start k) true) refl
blk_is false start k Running = rw (leb_flip start k, not_or (leb start k) false) refl

turn_turn : (q : Bool) (s : Status) → turn q (turn_s q s) ≡ s
turn_turn true s = refl
turn_turn false s = exchange_twice s

turn_cond : (q b : Bool) (x y : Status) → turn q (cond b x y) ≡ cond b (turn q x) (turn q y)
turn_cond q true x y = refl
turn_cond q false x y = refl

status_cond : (q b : Bool) (p : ℕ) (x : Status) (r : Stop) → stop_status q (cond b (At p x) r) ≡ cond b x (stop_status q r)
status_cond q true p x r = refl
status_cond q false p x r = refl

resume_cond : (b : Bool) (p : ℕ) (x : Status) (r : Stop) → resume_at (cond b (At p x) r) ≡ cond b (cond (is_running_status x) p 0) (resume_at r)
resume_cond true p x r = refl
resume_cond false p x r = refl

pub walked_is : (q : Bool) (start k : ℕ) (ss : List Status) → turn q (walked start k (turned q ss)) ≡ stop_status q (stop_from q start k ss)
unfolding walked stop_from flips
walked_is true start k [] = refl
walked_is false start k [] = refl
walked_is q start k (s ∷ ss) =
    rw (
      turned_cons q s ss,
      blk_is q start k s,
      turn_cond q (leb start k && not (advances q s)) (turn_s q s) (walked start (suc k) (turned q ss)),
      turn_turn q s,
      walked_is q start (suc k) ss,
      status_cond q (leb start k && not (advances q s)) k s (stop_from q start (suc k) ss),
    ) refl

times_bit : (k : ℕ) (b : Bool) → k * bit b ≡ cond b k 0
times_bit k true = omega arith
times_bit k false = omega arith

running_turned : (q : Bool) (s : Status) → is_running_status (turn_s q s) ≡ is_running_status s
running_turned true s = refl
running_turned false Success = refl
running_turned false Failure = refl
running_turned false Running = refl

pub resume_is : (q : Bool) (start k : ℕ) (ss : List Status) → resumed start k (turned q ss) ≡ resume_at (stop_from q start k ss)
unfolding resumed stop_from flips
resume_is true start k [] = refl
resume_is false start k [] = refl
resume_is q start k (s ∷ ss) =
    rw (
      turned_cons q s ss,
      blk_is q start k s,
      running_turned q s,
      times_bit k (is_running_status s),
      resume_is q start (suc k) ss,
      resume_cond (leb start k && not (advances q s)) k s (stop_from q start (suc k) ss),
    ) refl

-- what is told at each place
abbrev pub tab : (ℕ → Call) → ℕ → ℕ → List Call
tab call k zero = []
tab call k (suc n) = call k ∷ tab call (suc k) n

pub tab_length : (call : ℕ → Call) (k n : ℕ) → length (tab call k n) ≡ n
tab_length call k zero = refl
tab_length call k (suc n) = ap suc (tab_length call (suc k) n)

abbrev pub at_place : ℕ → Stop → Bool → Bool → ℕ → Call
at_place start stop t h place = record { ticked = t && (leb start place && not (past_stop stop place)); called = h || (t && past_stop stop place) }

not_after : (q : Bool) (start k p : ℕ) (ss : List Status) → p ≤ k → past_stop (stop_from q start k ss) p ≡ false
unfolding stop_from
not_after q start k p [] l = refl
not_after q start k p (s ∷ ss) l = go (leb start k && not (advances q s)) (not_after q start (suc k) p ss (omega arith))
  where
    go : (b : Bool) → past_stop (stop_from q start (suc k) ss) p ≡ false → past_stop (cond b (At k s) (stop_from q start (suc k) ss)) p ≡ false
    go true h = is_false (ltb k p) (λ t. omega (arith, ltb→lt k p t))
    go false h = h

-- g says that the stop is not behind place k
data Where (q : Bool) (start : ℕ) : ℕ → Bool → List Status → Stop → Type 0 where
  ahead : {k : ℕ} {ss : List Status} {x : Stop} → x ≡ stop_from q start k ss → Where q start k true ss x
  behind : {k : ℕ} {ss : List Status} {x : Stop} → ((p : ℕ) → k ≤ p → past_stop x p ≡ true) → Where q start k false ss x

where_next : (q : Bool) (start k : ℕ) (g : Bool) (s : Status) (ss : List Status) (x : Stop) → Where q start k g (s ∷ ss) x
    → Where q start (suc k) (g && not (leb start k && not (advances q s))) ss x
unfolding stop_from
where_next q start k true s ss x (ahead e) = go (leb start k && not (advances q s)) e
  where
    go : (b : Bool) → x ≡ cond b (At k s) (stop_from q start (suc k) ss) → Where q start (suc k) (true && not b) ss x
    go true e = behind {x = x} (λ (p : ℕ) (l : suc k ≤ p). rw e (is_true (ltb k p) (lt→ltb k p l)))
    go false e = ahead e
where_next q start k false s ss x (behind h) = behind (λ (p : ℕ) (l : suc k ≤ p). h p (omega arith))

where_now : (q : Bool) (start k : ℕ) (g : Bool) (ss : List Status) (x : Stop) → Where q start k g ss x → past_stop x k ≡ not g
where_now q start k true ss x (ahead e) = rw e (not_after q start k k ss (omega arith))
where_now q start k false ss x (behind h) = h k (omega arith)

mark_call : (a g t h : Bool) → ◌≡◌ {A = Call} (record { ticked = t && (g && a); called = h || (t && not g) }) (record { ticked = t && (a && not (not g)); called = h || (t && not g) })
mark_call true true t h = refl
mark_call true false t h = refl
mark_call false true t h = refl
mark_call false false t h = refl

marks_tab : (q : Bool) (start k : ℕ) (g t h : Bool) (ss : List Status) (x : Stop) → Where q start k g ss x
    → calls t h (marks start k g (turned q ss)) ≡ tab (at_place start x t h) k (length ss)
unfolding calls marks flips
marks_tab true start k g t h [] x w = refl
marks_tab false start k g t h [] x w = refl
marks_tab q start k g t h (s ∷ ss) x w =
    rw (
      turned_cons q s ss,
      blk_is q start k s,
      leb_flip start k,
      not-not (leb start k),
      where_now q start k g (s ∷ ss) x w,
      mark_call (leb start k) g t h,
      marks_tab q start (suc k) (g && not (leb start k && not (advances q s))) t h ss x (where_next q start k g s ss x w),
    ) refl

pub calls_are : (q : Bool) (start : ℕ) (t h : Bool) (ss : List Status)
    → calls t h (marks start 0 true (turned q ss)) ≡ tab (at_place start (stop_from q start 0 ss) t h) 0 (length ss)
calls_are q start t h ss = marks_tab q start 0 true t h ss (stop_from q start 0 ss) (ahead refl)
