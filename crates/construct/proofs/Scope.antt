-- Scope: every op reads wires before its own, in rising order and with coefficients other than zero; so the evaluated table satisfies
-- every op.
use Prim.Native.Nat.{Ordering, ◌*◌, ◌+◌, ◌<◌, ◌≤◌, compare, suc, zero, ℕ}
use native.Mathlib.Nat.{mul-le-mul_left}
use native.Mathlib.Omega.{arith}
use mathlib.Core.Bool.{Bool, cond, false, not, true}
use mathlib.Core.List.{List, [], ◌∷◌}
use mathlib.Core.Logic.{◌≢◌}
use mathlib.Core.Path.{◌∙◌, ◌≡◌, refl, sym}
use lib.Dec.{T, T_not, eqb, eqb_refl, eqb→eq, leb, leb→le, nleb→lt}
use lib.ListN.{length}
use Rattle.construct.proofs.Bits.{eq→eqb, is_false, is_true}
use Rattle.construct.proofs.Builds.{Grows, Sat, and_grows, more, relu_grows, same}
use Rattle.construct.specs.Builder.{and, and_at, at_least, at_least_at, is_zero, is_zero_at, minus, not', or, or_at, push, relu, step}
use Rattle.construct.specs.Forms.{Known, No, Open, Yes}
use Rattle.construct.specs.Pairs.{Form, Op, Out, Term, constant, flip, insert, insert_at, keep, known, merge, negate, offset, pairs, plus, scaled, summed, times, wire'}
use Rattle.construct.specs.Scope.{Reads, Within}
use Rattle.construct.specs.Value.{N, P, op_val, sum_n, sum_p}
use Rattle.walk.specs.Kind.{bit}

within_up : (b c n m : ℕ) (ts : List Term) → c ≤ b → n ≤ m → Within b n ts → Within c m ts
within_up b c n m [] h k w = tt
within_up b c n m (t ∷ ts) h k w = (omega arith, omega arith, w.2, within_up (suc t.wire) (suc t.wire) n m ts (omega arith) k w.3)

is_lt : (m n : ℕ) → compare m n ≡ Ordering.lt → m < n
is_lt m n e =
    let h : m ≤ n = leb→le m n (rw e tt) in
    let k : m ≢ n = λ i. not_eq m n e (rw i (eqb_refl n)) in
    omega arith
  where
    not_eq : (m n : ℕ) → compare m n ≡ Ordering.lt → T (eqb m n) → ⊥
    not_eq m n e t = rw e at t

is_gt : (m n : ℕ) → compare m n ≡ Ordering.gt → n < m
is_gt m n e = nleb→lt m n (rw e tt)

within_keep : (b n : ℕ) (z : Bool) (t : Term) (ts : List Term) → b ≤ t.wire → t.wire < n → (T (not z) → t.cp ≢ t.cn) → Within (suc t.wire) n ts → Within b n (keep z t ts)
unfolding keep
within_keep b n true t ts h k e w = within_up (suc t.wire) b n n ts (omega arith) (omega arith) w
within_keep b n false t ts h k e w = (h, k, e tt, w)

within_insert_at : (b n : ℕ) (o : Ordering) (t u : Term) (us r : List Term) → b ≤ t.wire → t.wire < n → t.cp ≢ t.cn → Within b n (u ∷ us)
    → (o ≡ Ordering.lt → t.wire < u.wire) → (o ≡ Ordering.gt → u.wire < t.wire) → (u.wire < t.wire → Within (suc u.wire) n r) → Within b n (insert_at o t u us r)
unfolding insert_at
within_insert_at b n Ordering.lt t u us r h k e w l g i = (h, k, e, (l refl, w.1, w.2, w.3))
within_insert_at b n Ordering.eq t u us r h k e w l g i =
    within_keep b n (eqb (t.cp + u.cp) (t.cn + u.cn)) (summed t u) us w.0 w.1 (λ z q. T_not (eqb (t.cp + u.cp) (t.cn + u.cn)) z (eq→eqb (t.cp + u.cp) (t.cn + u.cn) q)) w.3
within_insert_at b n Ordering.gt t u us r h k e w l g i = (w.0, w.1, w.2, i (g refl))

within_insert : (b n : ℕ) (t : Term) (us : List Term) → b ≤ t.wire → t.wire < n → t.cp ≢ t.cn → Within b n us → Within b n (insert t us)
unfolding insert
within_insert b n t [] h k e w = (h, k, e, tt)
within_insert b n t (u ∷ us) h k e w = within_insert_at b n (compare t.wire u.wire) t u us (insert t us) h k e w (is_lt t.wire u.wire) (is_gt t.wire u.wire)
    (λ l. within_insert (suc u.wire) n t us l k e w.3)

within_merge : (b n : ℕ) (ts us : List Term) → Within b n ts → Within b n us → Within b n (merge ts us)
unfolding merge
within_merge b n [] us w v = v
within_merge b n (t ∷ ts) us w v = within_insert b n t (merge ts us) w.0 w.1 w.2 (within_merge b n ts us (within_up (suc t.wire) b n n ts (omega arith) (omega arith) w.3) v)

within_flip : (b n : ℕ) (ts : List Term) → Within b n ts → Within b n (flip ts)
unfolding flip
within_flip b n [] w = tt
within_flip b n (t ∷ ts) w = (w.0, w.1, (λ e. w.2 (sym e)), within_flip (suc t.wire) n ts w.3)

pub times_ne : (k p q : ℕ) → p ≢ q → suc k * p ≢ suc k * q
times_ne k p q h e = go (leb p q) (leb→le p q) (nleb→lt p q)
  where
    go : (b : Bool) → (T b → p ≤ q) → (T (not b) → q < p) → ⊥
    go true f g = let l : suc p ≤ q = omega (arith, f tt) in omega (arith, mul-le-mul_left (suc k) l)
    go false f g = omega (arith, mul-le-mul_left (suc k) (g tt))

within_times : (b n k : ℕ) (ts : List Term) → Within b n ts → Within b n (times (suc k) ts)
unfolding times
within_times b n k [] w = tt
within_times b n k (t ∷ ts) w = (w.0, w.1, times_ne k t.cp t.cn w.2, within_times (suc t.wire) n k ts w.3)

below_up : (n m : ℕ) (ts : List Term) → n ≤ m → Within 0 n ts → Within 0 m ts
below_up n m ts h w = within_up 0 0 n m ts (omega arith) h w

module _ (n : ℕ) where
  pub constant_reads : (b : ℕ) → Reads n (constant b)
  unfolding constant
  constant_reads b = tt

  pub wire_reads : (w : ℕ) → w < n → Reads n (wire' w)
  unfolding wire'
  wire_reads w h = (omega arith, h, omega arith, tt)

  pub offset_reads : (p q : ℕ) (f : Form) → Reads n f → Reads n (offset p q f)
  unfolding offset
  offset_reads p q f h = h

  pub negate_reads : (f : Form) → Reads n f → Reads n (negate f)
  unfolding negate
  negate_reads f h = within_flip 0 n f.terms h

  pub plus_reads : (f g : Form) → Reads n f → Reads n g → Reads n (plus f g)
  unfolding plus
  plus_reads f g h k = within_merge 0 n f.terms g.terms h k

  pub minus_reads : (f g : Form) → Reads n f → Reads n g → Reads n (minus pairs f g)
  unfolding minus
  minus_reads f g h k = plus_reads f (negate g) h (negate_reads g k)

  pub scaled_reads : (k : ℕ) (f : Form) → Reads n f → Reads n (scaled k f)
  unfolding scaled constant
  scaled_reads zero f h = tt
  scaled_reads (suc k) f h = within_times 0 n k f.terms h

  pub not_reads : (f : Form) → Reads n f → Reads n (not' pairs f)
  unfolding not'
  not_reads f h = offset_reads 1 0 (negate f) (negate_reads f h)

pub reads_up : (n m : ℕ) (f : Form) → n ≤ m → Reads n f → Reads m f
reads_up n m f h b = below_up n m f.terms h b

-- every op reads wires before its own
abbrev pub Wf : ℕ → List Op → Type 0
Wf opsAt [] = Unit {0}
Wf opsAt (o ∷ os) = Reads (opsAt + length os) o.left × Reads (opsAt + length os) o.gate × Wf opsAt os

pub grows_length : {a b : List Op} → Grows a b → length a ≤ length b
grows_length same = omega arith
grows_length (more p) = omega (arith, grows_length p)

-- what a builder function gives: a well-formed list, and a form that reads what the list has made
pub record Made (opsAt : ℕ) (o : Out) : Type 0 where
  pub wf : Wf opsAt o.ops
  pub reads : Reads (opsAt + length o.ops) o.form

module _ (opsAt : ℕ) where
  abbrev pub In : List Op → Form → Type 0
  In os f = Reads (opsAt + length os) f

  pub in_up : {a b : List Op} (f : Form) → Grows a b → In a f → In b f
  in_up {a} {b} f p h = reads_up (opsAt + length a) (opsAt + length b) f (omega (arith, grows_length p)) h

  pub push_made : (f g : Form) (os : List Op) → Wf opsAt os → In os f → In os g → Made opsAt (push pairs opsAt f g os)
  unfolding push
  push_made f g os w h k = record { wf = (h, k, w); reads = wire_reads (opsAt + suc (length os)) (opsAt + length os) (omega arith) }

  pub relu_made : (f : Form) (os : List Op) → Wf opsAt os → In os f → Made opsAt (relu pairs opsAt f os)
  unfolding relu
  relu_made f os w h = push_made (constant 1) f os w (constant_reads (opsAt + length os) 1) h

  is_zero_made_at : (t : Known) (c : Form) (os : List Op) → Wf opsAt os → In os c → Made opsAt (is_zero_at pairs opsAt t c os)
  unfolding is_zero_at
  is_zero_made_at No c os w h = record { wf = w; reads = constant_reads (opsAt + length os) 1 }
  is_zero_made_at Yes c os w h = record { wf = w; reads = constant_reads (opsAt + length os) 0 }
  is_zero_made_at Open c os w h = relu_made (offset 1 0 (negate c)) os w (offset_reads (opsAt + length os) 1 0 (negate c) (negate_reads (opsAt + length os) c h))

  pub is_zero_made : (c : Form) (os : List Op) → Wf opsAt os → In os c → Made opsAt (is_zero pairs opsAt c os)
  unfolding is_zero
  is_zero_made c os w h = is_zero_made_at (known c) c os w h

  step_made : (c : Form) (k : ℕ) (os : List Op) → Wf opsAt os → In os c → Made opsAt (step pairs opsAt c k os)
  unfolding step
  step_made c k os w h =
      let f : Form = offset 1 k c in
      let g : Form = offset 0 1 f in
      let hf : In os f = offset_reads (opsAt + length os) 1 k c h in
      let a : Made opsAt (relu pairs opsAt f os) = relu_made f os w hf in
      let hg : In os g = offset_reads (opsAt + length os) 0 1 f hf in
      let b : Made opsAt (relu pairs opsAt g (relu pairs opsAt f os).ops) = relu_made g (relu pairs opsAt f os).ops a.wf (in_up g (relu_grows opsAt f os) hg) in
      record {
        wf = b.wf;
        reads = minus_reads (opsAt + length (relu pairs opsAt g (relu pairs opsAt f os).ops).ops) (relu pairs opsAt f os).form (relu pairs opsAt g (relu pairs opsAt f os).ops).form
            (in_up (relu pairs opsAt f os).form (relu_grows opsAt g (relu pairs opsAt f os).ops) a.reads) b.reads;
      }

  at_least_made_at : (t : Known) (c : Form) (k : ℕ) (os : List Op) → Wf opsAt os → In os c → Made opsAt (at_least_at pairs opsAt t c k os)
  unfolding at_least_at
  at_least_made_at No c k os w h = record { wf = w; reads = constant_reads (opsAt + length os) (bit (leb (c.bn + k) c.bp)) }
  at_least_made_at Yes c k os w h = record { wf = w; reads = constant_reads (opsAt + length os) (bit (leb (c.bn + k) c.bp)) }
  at_least_made_at Open c k os w h = step_made c k os w h

  pub at_least_made : (c : Form) (k : ℕ) (os : List Op) → Wf opsAt os → In os c → Made opsAt (at_least pairs opsAt c k os)
  unfolding at_least
  at_least_made c k os w h = at_least_made_at (known c) c k os w h

  and_made_at : (t u : Known) (f g : Form) (os : List Op) → Wf opsAt os → In os f → In os g → Made opsAt (and_at pairs opsAt t u f g os)
  unfolding and_at
  and_made_at Yes u f g os w h k = record { wf = w; reads = k }
  and_made_at No Yes f g os w h k = record { wf = w; reads = h }
  and_made_at No No f g os w h k = record { wf = w; reads = constant_reads (opsAt + length os) 0 }
  and_made_at No Open f g os w h k = record { wf = w; reads = constant_reads (opsAt + length os) 0 }
  and_made_at Open Yes f g os w h k = record { wf = w; reads = h }
  and_made_at Open No f g os w h k = record { wf = w; reads = constant_reads (opsAt + length os) 0 }
  and_made_at Open Open f g os w h k = push_made f g os w h k

  pub and_made : (f g : Form) (os : List Op) → Wf opsAt os → In os f → In os g → Made opsAt (and pairs opsAt f g os)
  unfolding and
  and_made f g os w h k = and_made_at (known f) (known g) f g os w h k

  or_made_at : (t u : Known) (f g : Form) (os : List Op) → Wf opsAt os → In os f → In os g → Made opsAt (or_at pairs opsAt t u f g os)
  unfolding or_at
  or_made_at Yes u f g os w h k = record { wf = w; reads = constant_reads (opsAt + length os) 1 }
  or_made_at No Yes f g os w h k = record { wf = w; reads = constant_reads (opsAt + length os) 1 }
  or_made_at No No f g os w h k = record { wf = w; reads = k }
  or_made_at No Open f g os w h k = record { wf = w; reads = k }
  or_made_at Open Yes f g os w h k = record { wf = w; reads = constant_reads (opsAt + length os) 1 }
  or_made_at Open No f g os w h k = record { wf = w; reads = h }
  or_made_at Open Open f g os w h k =
      let met = and pairs opsAt f g os in
      let a = and_made f g os w h k in
      let m : ℕ = opsAt + length met.ops in
      record {
        wf = a.wf;
        reads = minus_reads m (plus f g) met.form
            (in_up (plus f g) (and_grows opsAt f g os) (plus_reads (opsAt + length os) f g h k)) a.reads;
      }

  pub or_made : (f g : Form) (os : List Op) → Wf opsAt os → In os f → In os g → Made opsAt (or pairs opsAt f g os)
  unfolding or
  or_made f g os w h k = or_made_at (known f) (known g) f g os w h k

-- evaluation as a function of the wire, ops newest first: the inputs below opsAt, then a value for each op
unfoldable pub eval : ℕ → (ℕ → ℕ) → List Op → ℕ → ℕ
eval opsAt ι [] w = ι w
eval opsAt ι (o ∷ os) w = cond (eqb w (opsAt + length os)) (op_val (eval opsAt ι os) o) (eval opsAt ι os w)

pub eval_input : (opsAt : ℕ) (ι : ℕ → ℕ) (w : ℕ) → eval opsAt ι [] w ≡ ι w
unfolding eval
eval_input opsAt ι w = refl

pub eval_old : (opsAt : ℕ) (ι : ℕ → ℕ) (o : Op) (os : List Op) (w : ℕ) → w < opsAt + length os → eval opsAt ι (o ∷ os) w ≡ eval opsAt ι os w
unfolding eval
eval_old opsAt ι o os w h = rw (is_false (eqb w (opsAt + length os)) λ t. let e : w ≡ opsAt + length os = eqb→eq w (opsAt + length os) t in omega arith)

pub eval_new : (opsAt : ℕ) (ι : ℕ → ℕ) (o : Op) (os : List Op) → eval opsAt ι (o ∷ os) (opsAt + length os) ≡ op_val (eval opsAt ι os) o
unfolding eval
eval_new opsAt ι o os = rw (is_true (eqb (opsAt + length os) (opsAt + length os)) (eqb_refl (opsAt + length os)))

abbrev pub Agree : ℕ → (ℕ → ℕ) → (ℕ → ℕ) → Type 0
Agree n ρ τ = (w : ℕ) → w < n → τ w ≡ ρ w

agree_p : (n : ℕ) (ρ τ : ℕ → ℕ) → Agree n ρ τ → (b : ℕ) (ts : List Term) → Within b n ts → sum_p τ ts ≡ sum_p ρ ts
unfolding sum_p
agree_p n ρ τ a b [] w = refl
agree_p n ρ τ a b (t ∷ ts) w = rw (a t.wire w.1, agree_p n ρ τ a (suc t.wire) ts w.3)

agree_n : (n : ℕ) (ρ τ : ℕ → ℕ) → Agree n ρ τ → (b : ℕ) (ts : List Term) → Within b n ts → sum_n τ ts ≡ sum_n ρ ts
unfolding sum_n
agree_n n ρ τ a b [] w = refl
agree_n n ρ τ a b (t ∷ ts) w = rw (a t.wire w.1, agree_n n ρ τ a (suc t.wire) ts w.3)

pub agree_op : (n : ℕ) (ρ τ : ℕ → ℕ) → Agree n ρ τ → (o : Op) → Reads n o.left → Reads n o.gate → op_val τ o ≡ op_val ρ o
unfolding op_val P N
agree_op n ρ τ a o l g = rw (agree_p n ρ τ a 0 o.left.terms l, agree_n n ρ τ a 0 o.left.terms l, agree_p n ρ τ a 0 o.gate.terms g, agree_n n ρ τ a 0 o.gate.terms g)

pub agree_sat : (opsAt : ℕ) (ρ τ : ℕ → ℕ) (os : List Op) → Agree (opsAt + length os) ρ τ → Wf opsAt os → Sat opsAt ρ os → Sat opsAt τ os
agree_sat opsAt ρ τ [] a w s = tt
agree_sat opsAt ρ τ (o ∷ os) a w s =
    let b : Agree (opsAt + length os) ρ τ = λ x h. a x (omega arith) in
    (a (opsAt + length os) (omega arith) ∙ s.0 ∙ sym (agree_op (opsAt + length os) ρ τ b o w.0 w.1), agree_sat opsAt ρ τ os b w.2 s.1)

-- the evaluated table satisfies every op
pub eval_sat : (opsAt : ℕ) (ι : ℕ → ℕ) (os : List Op) → Wf opsAt os → Sat opsAt (eval opsAt ι os) os
eval_sat opsAt ι [] w = tt
eval_sat opsAt ι (o ∷ os) w =
    let a : Agree (opsAt + length os) (eval opsAt ι os) (eval opsAt ι (o ∷ os)) = eval_old opsAt ι o os in (
      eval_new opsAt ι o os ∙ sym (agree_op (opsAt + length os) (eval opsAt ι os) (eval opsAt ι (o ∷ os)) a o w.0 w.1),
      agree_sat opsAt (eval opsAt ι os) (eval opsAt ι (o ∷ os)) os a w.2 (eval_sat opsAt ι os w.2),
    )

-- earlier values stay
pub eval_stays : (opsAt : ℕ) (ι : ℕ → ℕ) {a b : List Op} → Grows a b → (w : ℕ) → w < opsAt + length a → eval opsAt ι b w ≡ eval opsAt ι a w
eval_stays opsAt ι same w h = refl
eval_stays opsAt ι (more {os' = os'} {o = o} p) w h = eval_old opsAt ι o os' w (omega (arith, grows_length p)) ∙ eval_stays opsAt ι p w h
