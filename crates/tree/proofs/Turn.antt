-- The loop of `read_tree`: what holds at its head, and that each way through a turn keeps it.
use Rattle.std.proofs.Common.{Result, Ok, Err, ◌≡◌, refl, sym, ◌∙◌, ap, List, [], ◌∷◌, ◌++◌, ℕ, zero, suc, ◌+◌, ◌-◌, ◌≤◌, ◌<◌, add-one, arith, Bool, true}
use Rattle.std.proofs.Common.{false, cond, le-ltb, lt-ltb, ltb-false, leb-false, ltb, leb, length, get_or, take, drop, set, replicate, length-set}
use Rattle.std.proofs.Common.{take-append-drop, take-suc-set, drop-set-lt, length-take-le, drop-drop}
use Rattle.tree.proofs.Stack.{stack_of, stack_length, stack_top, stack_push}
use Rattle.tree_record.specs.declared.record.Node.{Node}
use Rattle.tree_record.specs.declared.refusal.Cause.{Cause}
use Rattle.tree_record.specs.declared.refusal.Cause.TheVariants.{TooDeep, TooManyNodes, Trailing}
use Rattle.tree_record.specs.declared.refusal.Refusal.{Refusal}
use Rattle.tree_record.specs.Record.{Found, record_at}
use Rattle.tree.specs.Tree.{Parsed, accepted, refused_at, limited, settle, ending, parse, tree_of, answer_of, padded, Written}

-- an entry that is not 0 stays
pub settle_more : (p : ℕ) (ps : List ℕ) → (p ≡ 0 → ⊥) → settle (p ∷ ps) ≡ p ∷ ps
settle_more zero ps h = absurd (h refl)
settle_more (suc p) ps h = refl

pub parse_stop : (fuel : ℕ) (bytes : List ℕ) (at n p : ℕ) (ps ks cs : List ℕ) (cause : Cause)
    → limited (record_at bytes at) n (length (p ∷ ps)) ≡ Err cause → parse (suc fuel) bytes at n (p ∷ ps) ks cs ≡ refused_at cause n
unfolding parse
parse_stop fuel bytes at n p ps ks cs cause e = rw (e, parse)

pub parse_node : (fuel : ℕ) (bytes : List ℕ) (at n p : ℕ) (ps ks cs : List ℕ) (node : Node)
    → limited (record_at bytes at) n (length (p ∷ ps)) ≡ Ok node
    → parse (suc fuel) bytes at n (p ∷ ps) ks cs
    ≡ parse fuel bytes node.next (n + 1) (settle (node.count ∷ (p - 1) ∷ ps)) (ks ++ node.kind ∷ []) (cs ++ node.count ∷ [])
unfolding parse
parse_node fuel bytes at n p ps ks cs node e = rw (e, parse)

pub parse_end : (fuel : ℕ) (bytes : List ℕ) (at n : ℕ) (ks cs : List ℕ) → parse (suc fuel) bytes at n [] ks cs ≡ ending bytes at n ks cs
unfolding parse
parse_end fuel bytes at n ks cs = refl

-- a node that is taken is within the limits, and is what the record holds
pub record Taken (r : Found) (n level : ℕ) (node : Node) : Type 0 where
  pub shallow : level ≤ 16
  pub few : n < 128
  pub read : r ≡ Ok node

pub within_limits : (r : Found) (n level : ℕ) (node : Node) → limited r n level ≡ Ok node → Taken r n level node
within_limits (Err cause) n level node e = absurd (cc)
within_limits (Ok found) n level node e = go (ltb 16 level) (leb 128 n) refl refl e
  where
    go : (a b : Bool) → ltb 16 level ≡ a → leb 128 n ≡ b → cond a (Err TooDeep) (cond b (Err TooManyNodes) (Ok found)) ≡ Ok node
        → Taken (Ok found) n level node
    go true b ea eb h = absurd (cc)
    go false true ea eb h = absurd (cc)
    go false false ea eb h = record { shallow = ltb-false 16 level ea; few = leb-false 128 n eb; read = h }

-- the slots from i on are 0
abbrev pub Clear : ℕ → List ℕ → Type 0
Clear i xs = drop i xs ≡ replicate (length xs - i) 0

clear_more : (i v : ℕ) (xs : List ℕ) → i < length xs → Clear i xs → Clear (i + 1) (set xs i v)
clear_more i v xs h e =
    let m : length xs - i ≡ suc (length xs - (i + 1)) = omega arith in
    rw length-set
    (drop-set-lt (i + 1) xs i v (omega arith)
    ∙ sym (drop-drop 1 i xs)
    ∙ ap (λ (t : List ℕ). drop 1 t) (e ∙ ap (λ (k : ℕ). replicate k 0) m))

taken_more : (i v : ℕ) (xs : List ℕ) → i < length xs → take (i + 1) (set xs i v) ≡ take i xs ++ v ∷ []
taken_more i v xs h = rw (add-one i) (take-suc-set xs i v h)

pub clear_padded : (i : ℕ) (xs : List ℕ) → i ≤ length xs → Clear i xs → xs ≡ padded (length xs) (take i xs)
clear_padded i xs h e =
    let l : length (take i xs) ≡ i = length-take-le i xs h in
    rw l (sym (take-append-drop i xs) ∙ ap (λ (t : List ℕ). take i xs ++ t) e)

-- the answer t, and what is written with it
pub record Answered (t : Parsed) (r : Result ℕ Refusal) (ks cs : List ℕ) : Type 0 where
  pub value : r ≡ answer_of t
  pub written : Written t ks cs

-- a refusal is answered as it is, and nothing is asked of the slots
pub told : (t : Parsed) (cause : Cause) (n : ℕ) (ks cs : List ℕ) → t ≡ refused_at cause n
    → Answered t (Err (record { cause = cause; place = n })) ks cs
told t cause n ks cs e = rw e (record { value = refl; written = tt })

-- what holds at the loop's head: what is left of the parse is what starts at this node
pub record At (s ks₀ cs₀ ks cs pend : List ℕ) (depth at n : ℕ) : Type 0 where
  pub deep : depth ≤ 17
  pub few : n ≤ 128
  pub stack : length pend ≡ 17
  pub kinds_room : 128 ≤ length ks₀
  pub counts_room : 128 ≤ length cs₀
  pub kinds_long : length ks ≡ length ks₀
  pub counts_long : length cs ≡ length cs₀
  pub kinds_clear : Clear n ks
  pub counts_clear : Clear n cs
  pub same : tree_of s ≡ parse (129 - n) s at n (settle (stack_of pend depth)) (take n ks) (take n cs)

clear_all : (xs : List ℕ) → xs ≡ replicate (length xs) 0 → Clear 0 xs
clear_all xs e = let z : length xs - 0 ≡ length xs = omega arith in rw z e

pub start : (s ks cs : List ℕ) → 128 ≤ length ks → 128 ≤ length cs → ks ≡ replicate (length ks) 0 → cs ≡ replicate (length cs) 0
    → At s ks cs ks cs (set (replicate 17 0) 0 1) 1 0 0
unfolding tree_of
start s ks cs rk rc hk hc = record {
  deep = omega arith;
  few = omega arith;
  stack = refl;
  kinds_room = rk;
  counts_room = rc;
  kinds_long = refl;
  counts_long = refl;
  kinds_clear = clear_all ks hk;
  counts_clear = clear_all cs hc;
  same = refl;
}

module _ {s ks₀ cs₀ ks cs pend : List ℕ} {depth at n : ℕ} (a : At s ks₀ cs₀ ks cs pend depth at n) where
  -- a record is due
  due : 0 < depth → (get_or pend (depth - 1) 0 ≡ 0 → ⊥)
      → tree_of s ≡ parse (suc (128 - n)) s at n (get_or pend (depth - 1) 0 ∷ stack_of pend (depth - 1)) (take n ks) (take n cs)
  due h z =
      let f : 129 - n ≡ suc (128 - n) = omega arith in
      a.same ∙ rw (f, stack_top pend depth h, settle_more _ (stack_of pend (depth - 1)) z)

  level : 0 < depth → length (get_or pend (depth - 1) 0 ∷ stack_of pend (depth - 1)) ≡ depth
  level h = let e = stack_length pend (depth - 1) in omega arith

  -- and its refusal is the tree's
  pub stopped : 0 < depth → (get_or pend (depth - 1) 0 ≡ 0 → ⊥) → (cause : Cause) → limited (record_at s at) n depth ≡ Err cause
      → Answered (tree_of s) (Err (record { cause = cause; place = n })) ks cs
  stopped h z cause e =
      told (tree_of s) cause n ks cs
      (due h z ∙ parse_stop (128 - n) s at n _ (stack_of pend (depth - 1)) _ _ cause (rw (level h) e))

  -- and its node is the next one
  pub placed : 0 < depth → (get_or pend (depth - 1) 0 ≡ 0 → ⊥) → (node : Node) → limited (record_at s at) n depth ≡ Ok node
      → At s ks₀ cs₀ (set ks n node.kind) (set cs n node.count)
      (set (set pend (depth - 1) (get_or pend (depth - 1) 0 - 1)) depth node.count) (depth + 1) node.next (n + 1)
  placed h z node e =
      let w = within_limits (record_at s at) n depth node e in
      record {
        deep = omega (arith, w.shallow);
        few = omega (arith, w.few);
        stack = simp length-set a.stack;
        kinds_room = a.kinds_room;
        counts_room = a.counts_room;
        kinds_long = simp length-set a.kinds_long;
        counts_long = simp length-set a.counts_long;
        kinds_clear = clear_more n node.kind ks (omega arith) a.kinds_clear;
        counts_clear = clear_more n node.count cs (omega arith) a.counts_clear;
        same =
            let f : 129 - (n + 1) ≡ 128 - n = omega arith in
            due h z
            ∙ parse_node (128 - n) s at n _ (stack_of pend (depth - 1)) _ _ node (rw (level h) e)
            ∙ rw (
              f,
              stack_push pend depth (get_or pend (depth - 1) 0 - 1) node.count h (omega arith),
              taken_more n node.kind ks (omega arith),
              taken_more n node.count cs (omega arith),
            );
      }

  -- no ancestor is left: the tree is whole
  pub ended : depth ≤ 0 → tree_of s ≡ ending s at n (take n ks) (take n cs)
  ended h =
      let z : depth ≡ 0 = omega arith in
      let f : 129 - n ≡ suc (128 - n) = omega arith in
      a.same ∙ rw (f, z) (parse_end (128 - n) s at n (take n ks) (take n cs))

  -- the answer at the end of a tree
  pub trailing : depth ≤ 0 → at < length s → Answered (tree_of s) (Err (record { cause = Trailing; place = n })) ks cs
  trailing h l = told (tree_of s) Trailing n ks cs (ended h ∙ rw (lt-ltb at (length s) l))

  pub whole : depth ≤ 0 → length s ≤ at → Answered (tree_of s) (Ok n) ks cs
  whole h l =
      let e : tree_of s ≡ accepted (take n ks) (take n cs) = ended h ∙ rw (le-ltb at (length s) l) in
      let nk : n ≤ length ks = omega arith in
      let nc : n ≤ length cs = omega arith in
      rw e (record {
        value = ap Ok (sym (length-take-le n ks nk));
        written = (clear_padded n ks nk a.kinds_clear, clear_padded n cs nc a.counts_clear);
      })
