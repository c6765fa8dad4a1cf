-- The accepted bytes are exactly the bytes of the trees within the limits: `accepts` says that each such tree's bytes are accepted, as its
-- pre-order, and `tree_bytes` that they are bytes; `accepted_tree` that accepted bytes are those of such a tree, whose pre-order was read;
-- and `one_tree` that it is the only one.
use Rattle.std.proofs.Common.{Option, None, Some, Ok, Err, IsSomeAnd, ◌≡◌, refl, sym, ◌∙◌, ap, Bool, true, false, cond, List, [], ◌∷◌, ◌++◌, append_assoc}
use Rattle.std.proofs.Common.{append-nil, ℕ, zero, suc, ◌+◌, ◌-◌, ◌≤◌, ◌<◌, add-zero, zero-add, arith, le-ltb, ltb-false, ltb, length, drop, length-append}
use Rattle.std.proofs.Common.{drop_of_length-le, drop-drop, drop_at}
use Rattle.std.proofs.Math.Nat.{le-max_left, le-max_right, max-le}
use borrow.Author.Tests.{lt-leb}
use Rattle.tree_kinds.specs.declared.Family.{Family}
use Rattle.tree_kinds.specs.declared.Family.TheVariants.{Leaf, Composite, Decorator, Never}
use Rattle.tree_kinds.specs.Kinds.{Entry, row_of, length_by}
use Rattle.tree_kinds.proofs.Rows.{follows, known}
use Rattle.tree_record.specs.declared.record.Node.{Node}
use Rattle.tree_record.specs.declared.refusal.Cause.TheVariants.{Trailing}
use Rattle.tree_record.specs.declared.refusal.Refusal.{Refusal}
use Rattle.tree.specs.Bytes.{Bytes, u16, payload, record_by, record_bytes, bytes_of, Children, KindChildren, Lowered, Within}
use Rattle.tree.specs.Forest.{Forest, none, node, width, size, levels, preorder, counts}
use Rattle.tree_record.specs.Record.{Found, record_at}
use Rattle.tree_record.specs.Record.{node as found_node}
use Rattle.tree.specs.Tree.{accepted, refused, refused_at, limited, settle, parse, tree_of, flat_of}
use Rattle.tree.proofs.Answer.{room}
use Rattle.tree.proofs.Lengths.{preorder_length}
use Rattle.tree_laws.proofs.Local.{moved, record_local, node_record, record_node}
use Rattle.tree_laws.proofs.Only.{only}
use Rattle.tree.proofs.Turn.{parse_node, parse_end, parse_stop, within_limits}

-- a node's record is taken where the limits allow it
taken : (bytes tail : List ℕ) (at n level kind count : ℕ) → drop at bytes ≡ record_bytes kind count ++ tail
    → KindChildren kind count → level ≤ 16 → n < 128
    → limited (record_at bytes at) n level ≡ found_node kind count (at + length (record_bytes kind count))
taken bytes tail at n level kind count e ok l h =
    let r : record_at bytes at ≡ found_node kind count (at + length (record_bytes kind count))
    = record_local bytes at ∙ ap (λ (b : List ℕ). moved at (record_at b 0)) e ∙ ap (moved at) (node_record kind count tail ok) in
    rw (r, le-ltb 16 level l, lt-leb 128 n h)

-- what stands after a part
after : (bytes part tail : List ℕ) (at : ℕ) → drop at bytes ≡ part ++ tail → drop (at + length part) bytes ≡ tail
after bytes part tail at e =
    sym (drop-drop (length part) at bytes) ∙ ap (drop (length part)) e ∙ drop_at part tail (length part) refl

-- a forest's bytes are read as the forest, whatever is still to be read after it
reads : (f : Forest ℕ) (fuel : ℕ) (bytes tail : List ℕ) (at n q : ℕ) (ps ks cs : List ℕ)
    → Lowered f → n + size f ≤ 128 → length ps + levels f ≤ 16 → drop at bytes ≡ bytes_of f ++ tail
    → parse (size f + fuel) bytes at n (settle ((width f + q) ∷ ps)) ks cs
    ≡ parse fuel bytes (at + length (bytes_of f)) (n + size f) (settle (q ∷ ps)) (ks ++ preorder f) (cs ++ counts f)
reads none fuel bytes tail at n q ps ks cs ok few deep e =
    λ i. parse (zero-add fuel i) bytes (sym (add-zero at) i) (sym (add-zero n) i) (settle (zero-add q i ∷ ps)) (sym (append-nil ks) i) (sym (append-nil cs) i)
reads (node k kids rest) fuel bytes tail at n q ps ks cs ok few deep e =
    let count = width kids in
    let own = record_bytes k count in
    let inner = bytes_of kids in
    let outer = bytes_of rest in
    let e₁ : drop at bytes ≡ own ++ (inner ++ (outer ++ tail))
    = e ∙ simp append_assoc in
    let e₂ = after bytes own (inner ++ (outer ++ tail)) at e₁ in
    let e₃ = after bytes inner (outer ++ tail) (at + length own) e₂ in
    let l₁ = le-max_left (suc (levels kids)) (levels rest) in
    let l₂ = le-max_right (suc (levels kids)) (levels rest) in
    let fuels : suc (size kids + size rest) + fuel ≡ suc (size kids + (size rest + fuel)) = omega arith in
    let pends : suc (width rest) + q ≡ suc (width rest + q) = omega arith in
    let one : count ≡ count + 0 = omega arith in
    let less : suc (width rest + q) - 1 ≡ width rest + q = omega arith in
    let place : at + length own + length inner + length outer ≡ at + length (bytes_of (node k kids rest))
    = simp length-append (omega arith) in
    let number : n + 1 + size kids + size rest ≡ n + suc (size kids + size rest) = omega arith in
    let listed : (xs ys zs : List ℕ) (x : ℕ) → ((xs ++ x ∷ []) ++ ys) ++ zs ≡ xs ++ x ∷ (ys ++ zs) = λ xs ys zs x. simp append_assoc in
    (λ i. parse (fuels i) bytes at n (settle (pends i ∷ ps)) ks cs)
    ∙ parse_node (size kids + (size rest + fuel)) bytes at n (suc (width rest + q)) ps ks cs (record { kind = k; count = count; next = at + length own })
    (taken bytes (inner ++ (outer ++ tail)) at n _ k count e₁ ok.0 (omega arith) (omega arith))
    ∙ (λ i. parse (size kids + (size rest + fuel)) bytes (at + length own) (n + 1) (settle (one i ∷ less i ∷ ps)) (ks ++ k ∷ []) (cs ++ count ∷ []))
    ∙ reads kids (size rest + fuel) bytes (outer ++ tail) (at + length own) (n + 1) 0 ((width rest + q) ∷ ps) (ks ++ k ∷ []) (cs ++ count ∷ [])
    ok.1 (omega arith) (omega arith) e₂
    ∙ reads rest fuel bytes tail (at + length own + length inner) (n + 1 + size kids) q ps ((ks ++ k ∷ []) ++ preorder kids) ((cs ++ count ∷ []) ++ counts kids)
    ok.2 (omega arith) (omega arith) e₃
    ∙ (λ i. parse fuel bytes (place i) (number i) (settle (q ∷ ps))
    (listed ks (preorder kids) (preorder rest) k i) (listed cs (counts kids) (counts rest) count i))

-- every tree within the limits is accepted, and its bytes are read as it
pub accepts : (tree : Forest ℕ) → Within tree → tree_of (bytes_of tree) ≡ accepted (preorder tree) (counts tree)
unfolding tree_of
accepts tree w =
    let bytes = bytes_of tree in
    let ok = w.lowered in
    let few = w.few in
    let deep = w.shallow in
    let fuel = 128 - size tree in
    let fuels : 129 ≡ size tree + suc fuel = omega arith in
    let one : 1 ≡ width tree + 0 = omega (arith, w.one) in
    (λ i. parse (fuels i) bytes 0 0 (settle (one i ∷ [])) [] [])
    ∙ reads tree (suc fuel) bytes [] 0 0 0 [] [] [] ok (omega arith) (omega arith) (sym (append-nil bytes))
    ∙ parse_end fuel bytes (0 + length bytes) (0 + size tree) (preorder tree) (counts tree)
    ∙ rw (le-ltb (0 + length bytes) (length bytes) (omega arith))

-- the same of what `flatten` promises, with room for 128 nodes
pub flat_accepts : (kindSlots countSlots : ℕ) (tree : Forest ℕ) → 128 ≤ kindSlots → 128 ≤ countSlots → Within tree
    → flat_of kindSlots countSlots (bytes_of tree) ≡ accepted (preorder tree) (counts tree)
flat_accepts kindSlots countSlots tree h l w = room kindSlots countSlots (bytes_of tree) h l ∙ accepts tree w

-- The bytes of such a tree are bytes: every number in them is below 256.
bytes_append : (xs ys : List ℕ) → Bytes xs → Bytes ys → Bytes (xs ++ ys)
bytes_append [] ys h l = l
bytes_append (x ∷ xs) ys h l = (h.0, bytes_append xs ys h.1 l)

u16_bytes : (n : ℕ) → n < 65536 → Bytes (u16 n)
u16_bytes n h = (omega arith, (omega arith, tt))

record_bytes_lem : (kind count : ℕ) → KindChildren kind count → count < 65536 → Bytes (record_bytes kind count)
record_bytes_lem kind count = go (row_of kind) refl
  where
    by_family : (family : Family) (want : ℕ) → kind ≤ 18 → want ≡ length_by family → Children family count → count < 65536
        → Bytes (u16 want ++ u16 kind ++ payload family count)
    by_family Leaf want k l ok h = bytes_append (u16 want) (u16 kind) (u16_bytes want (omega arith)) (u16_bytes kind (omega arith))
    by_family Decorator want k l ok h = bytes_append (u16 want) (u16 kind) (u16_bytes want (omega arith)) (u16_bytes kind (omega arith))
    by_family Composite want k l ok h =
        bytes_append (u16 want ++ u16 kind) (u16 count)
        (bytes_append (u16 want) (u16 kind) (u16_bytes want (omega arith)) (u16_bytes kind (omega arith))) (u16_bytes count h)
    by_family Never want k l ok h = absurd ok

    go : (row : Option Entry) → row_of kind ≡ row → IsSomeAnd row (λ (r : Entry). Children r.family count) → count < 65536 → Bytes (record_by row kind count)
    go None e ok h = absurd ok
    go (Some row) e ok h = by_family row.family row.size (known kind row e) (follows kind row e).1 ok h

width_size : (f : Forest ℕ) → width f ≤ size f
width_size none = omega arith
width_size (node k kids rest) = omega (arith, width_size rest)

forest_bytes : (f : Forest ℕ) → Lowered f → size f ≤ 128 → Bytes (bytes_of f)
forest_bytes none ok few = tt
forest_bytes (node k kids rest) ok few =
    bytes_append (record_bytes k (width kids) ++ bytes_of kids) (bytes_of rest)
    (bytes_append (record_bytes k (width kids)) (bytes_of kids)
    (record_bytes_lem k (width kids) ok.0 (omega (arith, width_size kids))) (forest_bytes kids ok.1 (omega arith)))
    (forest_bytes rest ok.2 (omega arith))

pub tree_bytes : (tree : Forest ℕ) → Within tree → Bytes (bytes_of tree)
tree_bytes tree w = forest_bytes tree w.lowered w.few

-- What is left to be read, level by level: a forest for each open ancestor, as wide as the children that are due.
pub record Grows (p : ℕ) (deeper : ℕ) (bytes ks cs : List ℕ) (Rest : List ℕ → List ℕ → List ℕ → Type 0) : Type 0 where
  pub forest : Forest ℕ
  pub bytes_after : List ℕ
  pub kinds_after : List ℕ
  pub counts_after : List ℕ
  pub wide : width forest ≡ p
  pub lowered : Lowered forest
  pub shallow : deeper + levels forest ≤ 16
  pub bytes_here : bytes ≡ bytes_of forest ++ bytes_after
  pub kinds_here : ks ≡ preorder forest ++ kinds_after
  pub counts_here : cs ≡ counts forest ++ counts_after
  pub rest : Rest bytes_after kinds_after counts_after

abbrev pub Grown : List ℕ → List ℕ → List ℕ → List ℕ → Type 0
Grown [] bytes ks cs = (bytes ≡ []) × (ks ≡ []) × (cs ≡ [])
Grown (p ∷ ps) bytes ks cs = Grows p (length ps) bytes ks cs (Grown ps)

-- an ancestor whose children have all been read has an empty forest left
unsettled : (ps bytes ks cs : List ℕ) → length ps ≤ 17 → Grown (settle ps) bytes ks cs → Grown ps bytes ks cs
unsettled [] bytes ks cs l g = g
unsettled (zero ∷ ps) bytes ks cs l g = record {
  forest = none;
  bytes_after = bytes;
  kinds_after = ks;
  counts_after = cs;
  wide = refl;
  lowered = tt;
  shallow = omega arith;
  bytes_here = refl;
  kinds_here = refl;
  counts_here = refl;
  rest = unsettled ps bytes ks cs (omega arith) g;
}
unsettled (suc p ∷ ps) bytes ks cs l g = g

regroup : (a b c d : List ℕ) → a ++ (b ++ (c ++ d)) ≡ ((a ++ b) ++ c) ++ d
regroup a b c d = simp append_assoc

-- a node with its children and the trees after it
noded : (k c p : ℕ) (ps bytes ks cs : List ℕ) → 0 < p → length ps < 16 → KindChildren k c
    → Grown (c ∷ (p - 1) ∷ ps) bytes ks cs → Grown (p ∷ ps) (record_bytes k c ++ bytes) (k ∷ ks) (c ∷ cs)
noded k c p ps bytes ks cs h l ok g =
    let kids = g.forest in
    let r = g.rest in
    let rest = r.forest in
    let w = g.wide in
    let v = r.wide in
    let deep = max-le {a = suc (levels kids)} {b = levels rest} {k = 16 - length ps} (omega (arith, g.shallow)) (omega (arith, r.shallow)) in
    record {
      forest = node k kids rest;
      bytes_after = r.bytes_after;
      kinds_after = r.kinds_after;
      counts_after = r.counts_after;
      wide = omega arith;
      lowered = (rw w ok, g.lowered, r.lowered);
      shallow = omega arith;
      bytes_here = rw (g.bytes_here, r.bytes_here, w) (regroup (record_bytes k c) (bytes_of kids) (bytes_of rest) r.bytes_after);
      kinds_here = rw (g.kinds_here, r.kinds_here) (simp append_assoc);
      counts_here = rw (g.counts_here, r.counts_here, w) (simp append_assoc);
      rest = r.rest;
    }

-- a record that is read at a position is read there at 0
unmoved : (at : ℕ) (r : Found) (taken : Node) → moved at r ≡ Ok taken
    → (next : ℕ) × (r ≡ found_node taken.kind taken.count next) × (taken.next ≡ at + next)
unmoved at (Err cause) taken e = absurd (cc)
unmoved at (Ok n) taken e =
    let same : record { kind = n.kind; count = n.count; next = at + n.next } ≡ taken = cc in
    (n.next, (λ i. found_node (same i).kind (same i).count n.next), sym (ap (λ (t : Node). t.next) same))

bytes_drop : (n : ℕ) (bytes : List ℕ) → Bytes bytes → Bytes (drop n bytes)
bytes_drop zero bytes h = h
bytes_drop (suc n) [] h = tt
bytes_drop (suc n) (b ∷ bytes) h = bytes_drop n bytes h.1

-- what an accepted parse adds to the lists that it started with
pub record Added (pend bytes ks cs ks' cs' : List ℕ) (n : ℕ) : Type 0 where
  pub kinds : List ℕ
  pub counted : List ℕ
  pub kinds_all : ks' ≡ ks ++ kinds
  pub counts_all : cs' ≡ cs ++ counted
  pub few : n + length kinds ≤ 128
  pub grown : Grown pend bytes kinds counted

-- a record that is taken, with what was added after it
added_node : (bytes ks cs ks' cs' ps : List ℕ) (at n p : ℕ) (taken : Node) → Bytes bytes → 0 < p
    → limited (record_at bytes at) n (length (p ∷ ps)) ≡ Ok taken
    → Added (settle (taken.count ∷ (p - 1) ∷ ps)) (drop taken.next bytes) (ks ++ taken.kind ∷ []) (cs ++ taken.count ∷ []) ks' cs' (n + 1)
    → Added (p ∷ ps) (drop at bytes) ks cs ks' cs' n
added_node bytes ks cs ks' cs' ps at n p taken ok h e a =
    let k = taken.kind in
    let c = taken.count in
    let x = taken.next in
    let w = within_limits (record_at bytes at) n (length (p ∷ ps)) taken e in
    let u = unmoved at (record_at (drop at bytes) 0) taken (sym (record_local bytes at) ∙ w.read) in
    let r = record_node (drop at bytes) k c u.0 (bytes_drop at bytes ok) u.1 in
    let here : drop at bytes ≡ record_bytes k c ++ drop x bytes
    = r.these ∙ ap (λ (b : List ℕ). record_bytes k c ++ b) (drop-drop u.0 at bytes ∙ ap (λ (i : ℕ). drop i bytes) (sym u.2)) in
    let few = a.few in
    record {
      kinds = k ∷ a.kinds;
      counted = c ∷ a.counted;
      kinds_all = a.kinds_all ∙ append_assoc ks (k ∷ []) a.kinds;
      counts_all = a.counts_all ∙ append_assoc cs (c ∷ []) a.counted;
      few = omega arith;
      grown =
          rw here
          (noded k c p ps (drop x bytes) a.kinds a.counted h (omega (arith, w.shallow)) r.children
          (unsettled (c ∷ (p - 1) ∷ ps) (drop x bytes) a.kinds a.counted (omega arith) a.grown));
    }

-- a refusal is no acceptance
apart : {A : Type 0} (refusal : Refusal) (ks cs : List ℕ) → refused refusal ≡ accepted ks cs → A
apart refusal ks cs e = absurd (cc)

-- the innermost open ancestor still has a child to come
abbrev Settled : List ℕ → Type 0
Settled [] = Unit {0}
Settled (p ∷ ps) = 0 < p

settled : (ps : List ℕ) → Settled (settle ps)
settled [] = tt
settled (zero ∷ ps) = settled ps
settled (suc p ∷ ps) = omega arith

adds : (fuel : ℕ) (bytes : List ℕ) (at n : ℕ) (pend ks cs ks' cs' : List ℕ) → Bytes bytes → Settled pend → n ≤ 128
    → parse fuel bytes at n pend ks cs ≡ accepted ks' cs' → Added pend (drop at bytes) ks cs ks' cs' n
unfolding parse
adds zero bytes at n pend ks cs ks' cs' ok h few e = apart _ ks' cs' e
adds (suc fuel) bytes at n [] ks cs ks' cs' ok h few e = go (ltb at (length bytes)) refl e
  where
    go : (t : Bool) → ltb at (length bytes) ≡ t → cond t (refused_at Trailing n) (accepted ks cs) ≡ accepted ks' cs'
        → Added [] (drop at bytes) ks cs ks' cs' n
    go true l d = apart _ ks' cs' d
    go false l d =
        let a : ks' ≡ ks = cc in
        let b : cs' ≡ cs = cc in
        record {
          kinds = [];
          counted = [];
          kinds_all = a ∙ sym (append-nil ks);
          counts_all = b ∙ sym (append-nil cs);
          few = omega arith;
          grown = (drop_of_length-le bytes (ltb-false at (length bytes) l), refl, refl);
        }
adds (suc fuel) bytes at n (p ∷ ps) ks cs ks' cs' ok h few e =
    go (limited (record_at bytes at) n (length (p ∷ ps))) refl
    (λ t. adds fuel bytes t.next (n + 1) (settle (t.count ∷ (p - 1) ∷ ps)) (ks ++ t.kind ∷ []) (cs ++ t.count ∷ []) ks' cs' ok
    (settled (t.count ∷ (p - 1) ∷ ps)))
  where
    go : (r : Found) → limited (record_at bytes at) n (length (p ∷ ps)) ≡ r
        → ((t : Node) → n + 1 ≤ 128
        → parse fuel bytes t.next (n + 1) (settle (t.count ∷ (p - 1) ∷ ps)) (ks ++ t.kind ∷ []) (cs ++ t.count ∷ []) ≡ accepted ks' cs'
        → Added (settle (t.count ∷ (p - 1) ∷ ps)) (drop t.next bytes) (ks ++ t.kind ∷ []) (cs ++ t.count ∷ []) ks' cs' (n + 1))
        → Added (p ∷ ps) (drop at bytes) ks cs ks' cs' n
    go (Err cause) l ih = apart _ ks' cs' (sym (parse_stop fuel bytes at n p ps ks cs cause l) ∙ e)
    go (Ok taken) l ih =
        let w = within_limits (record_at bytes at) n (length (p ∷ ps)) taken l in
        added_node bytes ks cs ks' cs' ps at n p taken ok h l
        (ih taken (omega (arith, w.few)) (sym (parse_node fuel bytes at n p ps ks cs taken l) ∙ e))

-- a tree whose bytes and pre-order these are
pub record Tree (bytes ks cs : List ℕ) : Type 0 where
  pub tree : Forest ℕ
  pub within : Within tree
  pub bytes_are : bytes ≡ bytes_of tree
  pub kinds_are : ks ≡ preorder tree
  pub counts_are : cs ≡ counts tree

-- accepted bytes are the bytes of a tree within the limits, and what was read is its pre-order
pub accepted_tree : (bytes ks cs : List ℕ) → Bytes bytes → tree_of bytes ≡ accepted ks cs → Tree bytes ks cs
unfolding tree_of
accepted_tree bytes ks cs ok e =
    let a = adds 129 bytes 0 0 (1 ∷ []) [] [] ks cs ok (omega arith) (omega arith) e in
    let g = a.grown in
    let t = g.forest in
    let bytes_are : bytes ≡ bytes_of t = g.bytes_here ∙ ap (λ (b : List ℕ). bytes_of t ++ b) g.rest.0 ∙ append-nil (bytes_of t) in
    let kinds_are : ks ≡ preorder t
    = a.kinds_all ∙ g.kinds_here ∙ ap (λ (b : List ℕ). preorder t ++ b) g.rest.1 ∙ append-nil (preorder t) in
    let counts_are : cs ≡ counts t
    = a.counts_all ∙ g.counts_here ∙ ap (λ (b : List ℕ). counts t ++ b) g.rest.2 ∙ append-nil (counts t) in
    let few = a.few in
    let long : length ks ≡ size t = ap length kinds_are ∙ preorder_length t in
    let same : length ks ≡ length a.kinds = ap length a.kinds_all in
    record {
      tree = t;
      within = record { one = g.wide; lowered = g.lowered; few = omega arith; shallow = omega (arith, g.shallow) };
      bytes_are = bytes_are;
      kinds_are = kinds_are;
      counts_are = counts_are;
    }

-- and of no other tree
pub one_tree : (bytes ks cs : List ℕ) (a b : Tree bytes ks cs) → a.tree ≡ b.tree
one_tree bytes ks cs a b = only a.tree b.tree (sym a.kinds_are ∙ b.kinds_are) (sym a.counts_are ∙ b.counts_are)
