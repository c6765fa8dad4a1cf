-- status.rs and lower.rs. Nodes stand in pre-order with their child counts, so that neither pass needs links: arbitrating is a fold from the
-- right with a stack of statuses, from which a node takes its children's; reaching is a fold from the left with a stack of what the nodes to
-- come are told.
use Rattle.std.specs.Prelude.{ℕ, suc, ◌+◌, ◌*◌, Bool, true, false, not, List, [], ◌∷◌, ◌++◌, take, drop}
use Rattle.walk.specs.Kind.{Kind, Leaf, Constant, Composite, Inverter, Force, bit}
use Rattle.construct.specs.Forms.{Forms}
use Rattle.construct.specs.Builder.{Op, not', push, is_zero, at_least, and, or}

-- lower.rs's `Flat`: a node's family, and its child count where it may have any; true stands for success
pub data Flat : Type 0 where
  leaf : Flat
  fixed : Bool → Flat
  invert : Flat
  force : Bool → Flat
  -- has a cursor; the status that it advances on; child count
  ordered : Bool → Bool → ℕ → Flat

abbrev pub flat_of : Kind → ℕ → Flat
flat_of Leaf n = leaf
flat_of (Constant own) n = fixed own
flat_of (Composite memory on) n = ordered memory on n
flat_of Inverter n = invert
flat_of (Force own) n = force own

-- the leaf slots, and the cursor cells, once this node has its own
abbrev pub slot_after : Flat → ℕ → ℕ
slot_after leaf s = suc s
slot_after (fixed b) s = s
slot_after invert s = s
slot_after (force b) s = s
slot_after (ordered m q n) s = s

abbrev pub cell_after : Flat → ℕ → ℕ
cell_after leaf c = c
cell_after (fixed b) c = c
cell_after invert c = c
cell_after (force b) c = c
cell_after (ordered true q n) c = suc c
cell_after (ordered false q n) c = c

-- `StatusBits`: at most one of three bits
pub record StatusBits (F : Type 0) : Type 0 where
  pub success : F
  pub failure : F
  pub running : F

-- a child of an ordered composite, as the three loops of lower_ordered leave it
pub record GatedChild (F : Type 0) : Type 0 where
  pub status : StatusBits F
  pub before : F
  pub blocked : F

pub record ClearedChild (F : Type 0) : Type 0 where
  pub child : GatedChild F
  pub clear : F

pub record ArbitratedChild (F : Type 0) : Type 0 where
  pub status : StatusBits F
  pub reach : F
  pub stop : F
  pub after_stop : F

-- things made one by one, and the ops once they are made
pub record Many (F X : Type 0) : Type 0 where
  pub items : List X
  pub ops : List (Op F)

pub record Picked (F : Type 0) : Type 0 where
  pub other : F
  pub run : F
  pub cursor : F
  pub ops : List (Op F)

-- a status, and `Arbitration`
pub record Ordered (F : Type 0) : Type 0 where
  pub status : StatusBits F
  pub kids : List (ArbitratedChild F)
  pub cursor : F
  pub ops : List (Op F)

-- what is kept of a node for the top-down pass
pub record Arbitration (F : Type 0) : Type 0 where
  pub node : Flat
  pub raw : StatusBits F
  pub kids : List (ArbitratedChild F)
  pub cursor : F

pub record Up (F : Type 0) : Type 0 where
  pub stack : List (StatusBits F)
  pub arbitrations : List (Arbitration F)
  pub ops : List (Op F)

-- what a node is told by its parent
pub record Entry (F : Type 0) : Type 0 where
  pub reached : F
  pub called : F

pub record NodeReach (F : Type 0) : Type 0 where
  pub raw : StatusBits F
  pub reached : F
  pub halted : F
  pub was : F
  pub untouched : F

pub record Down (F : Type 0) : Type 0 where
  pub outs : List (NodeReach F)
  pub cursors : List F
  pub ops : List (Op F)

abbrev pub top : {A : Type 0} → A → List A → A
top d [] = d
top d (x ∷ xs) = x

-- ---- status.rs

unfoldable pub inverted : {F : Type 0} → StatusBits F → StatusBits F
inverted t = record { success = t.failure; failure = t.success; running = t.running }

unfoldable pub inverteds : {F : Type 0} → List (StatusBits F) → List (StatusBits F)
inverteds [] = []
inverteds (t ∷ ts) = inverted t ∷ inverteds ts

module _ {F : Type 0} (A : Forms F) where
  unfoldable pub forced : Bool → StatusBits F → StatusBits F
  forced true t = record { success = A.plus t.success t.failure; failure = A.constant 0; running = t.running }
  forced false t = record { success = A.constant 0; failure = A.plus t.success t.failure; running = t.running }

  unfoldable pub fixed_t : Bool → StatusBits F
  fixed_t b = record { success = A.constant (bit b); failure = A.constant (bit (not b)); running = A.constant 0 }

  -- ---- lower_ordered, for a composite that advances on success

  module _ (opsAt : ℕ) where
    -- before_k = [k < cursor]; blocked_k = NOT (before_k OR advance_k)
    unfoldable pub gates : F → ℕ → List (StatusBits F) → List (Op F) → Many F (GatedChild F)
    gates c k [] os = record { items = []; ops = os }
    gates c k (t ∷ ts) os =
        let later = at_least A opsAt c (suc k) os in
        let pass = or A opsAt later.form t.success later.ops in
        let rest = gates c (suc k) ts pass.ops in
        record { items = record { status = t; before = later.form; blocked = not' A pass.form } ∷ rest.items; ops = rest.ops }

    -- none_earlier: clear_k = [the sum of the earlier blocked bits is 0]; that sum is carried
    unfoldable pub clears : F → List (GatedChild F) → List (Op F) → Many F (ClearedChild F)
    clears pre [] os = record { items = []; ops = os }
    clears pre (x ∷ xs) os =
        let z = is_zero A opsAt pre os in
        let rest = clears (A.plus pre x.blocked) xs z.ops in
        record { items = record { child = x; clear = z.form } ∷ rest.items; ops = rest.ops }

    -- reach_k = clear_k AND NOT before_k; stop_k = clear_k AND blocked_k; after_stop_k is the sum of the earlier stops
    unfoldable pub stops : F → List (ClearedChild F) → List (Op F) → Many F (ArbitratedChild F)
    stops acc [] os = record { items = []; ops = os }
    stops acc (x ∷ xs) os =
        let r = and A opsAt x.clear (not' A x.child.before) os in
        let s = and A opsAt x.clear x.child.blocked r.ops in
        let rest = stops (A.plus acc s.form) xs s.ops in
        record { items = record { status = x.child.status; reach = r.form; stop = s.form; after_stop = acc } ∷ rest.items; ops = rest.ops }

    -- the stop's status, bit by bit, and its position if it is running
    unfoldable pub picks : ℕ → F → F → F → List (ArbitratedChild F) → List (Op F) → Picked F
    picks k o r c [] os = record { other = o; run = r; cursor = c; ops = os }
    picks k o r c (x ∷ xs) os =
        let a = and A opsAt x.stop x.status.failure os in
        let b = and A opsAt x.stop x.status.running a.ops in
        picks (suc k) (A.plus o a.form) (A.plus r b.form) (A.plus c (A.scaled k b.form)) xs b.ops

  unfoldable pub total : F → List (ArbitratedChild F) → F
  total acc [] = acc
  total acc (x ∷ xs) = total (A.plus acc x.stop) xs

  module _ (opsAt : ℕ) where
    unfoldable pub lower_seq : F → List (StatusBits F) → List (Op F) → Ordered F
    lower_seq c ts os =
        let z = A.constant 0 in
        let a = gates opsAt c 0 ts os in
        let b = clears opsAt z a.items a.ops in
        let d = stops opsAt z b.items b.ops in
        let e = picks opsAt 0 z z z d.items d.ops in
        record { status = record { success = not' A (total z d.items); failure = e.other; running = e.run }; kids = d.items; cursor = e.cursor; ops = e.ops }

    -- one that advances on failure is the same with each child and the result inverted, op for op
    unfoldable pub lower : Bool → F → List (StatusBits F) → List (Op F) → Ordered F
    lower true c ts os = lower_seq c ts os
    lower false c ts os =
        let o = lower_seq c (inverteds ts) os in
        record { status = inverted o.status; kids = o.kids; cursor = o.cursor; ops = o.ops }

  -- ---- arbitrate, bottom-up

  -- a node without ops
  abbrev pub plain : Flat → StatusBits F → List (StatusBits F) → Up F → Up F
  plain n t ts u = record { stack = t ∷ ts; arbitrations = record { node = n; raw = t; kids = []; cursor = A.constant 0 } ∷ u.arbitrations; ops = u.ops }

  -- the cursors' cells begin at cursorsAt, the leaves' at leaves_at; slot s has three
  module _ (opsAt cursorsAt leaves_at : ℕ) where
    abbrev pub leaf_t : ℕ → StatusBits F
    leaf_t s = record { success = A.wire (leaves_at + 3 * s); failure = A.wire (leaves_at + 3 * s + 1); running = A.wire (leaves_at + 3 * s + 2) }

    abbrev pub cursor_f : Bool → ℕ → F
    cursor_f true c = A.wire (cursorsAt + c)
    cursor_f false c = A.constant 0

    unfoldable pub up_step : Flat → ℕ → ℕ → Up F → Up F
    up_step leaf s c u = plain leaf (leaf_t s) u.stack u
    up_step (fixed b) s c u = plain (fixed b) (fixed_t b) u.stack u
    up_step invert s c u = plain invert (inverted (top (fixed_t true) u.stack)) (drop 1 u.stack) u
    up_step (force b) s c u = plain (force b) (forced b (top (fixed_t true) u.stack)) (drop 1 u.stack) u
    up_step (ordered m q n) s c u =
        let o = lower opsAt q (cursor_f m c) (take n u.stack) u.ops in
        record { stack = o.status ∷ drop n u.stack; arbitrations = record { node = ordered m q n; raw = o.status; kids = o.kids; cursor = o.cursor } ∷ u.arbitrations; ops = o.ops }

    -- from the last node to the first; the leaf slots from s on, the cursor cells from c on
    unfoldable pub up : ℕ → ℕ → List Flat → Up F
    up s c [] = record { stack = []; arbitrations = []; ops = [] }
    up s c (n ∷ ns) = up_step n s c (up (slot_after n s) (cell_after n c) ns)

  -- ---- reach, top-down

  module _ (opsAt cursorsAt : ℕ) where
    -- a composite's children: reached AND reach_k, halted OR (reached AND after_stop_k)
    unfoldable pub spread : F → F → List (ArbitratedChild F) → List (Op F) → Many F (Entry F)
    spread r h [] os = record { items = []; ops = os }
    spread r h (x ∷ xs) os =
        let a = and A opsAt r x.reach os in
        let b = and A opsAt r x.after_stop a.ops in
        let d = or A opsAt h b.form b.ops in
        let rest = spread r h xs d.ops in
        record { items = record { reached = a.form; called = d.form } ∷ rest.items; ops = rest.ops }

    unfoldable pub children : Flat → F → F → List (ArbitratedChild F) → List (Op F) → Many F (Entry F)
    children leaf r h ks os = record { items = []; ops = os }
    children (fixed b) r h ks os = record { items = []; ops = os }
    children invert r h ks os = record { items = record { reached = r; called = h } ∷ []; ops = os }
    children (force b) r h ks os = record { items = record { reached = r; called = h } ∷ []; ops = os }
    children (ordered m q n) r h ks os = spread r h ks os

    -- a cursor's next value: the arbitrated one if reached, the current one if untouched
    unfoldable pub next_cur : Flat → ℕ → F → F → F → List (Op F) → Many F F
    next_cur leaf c r u x os = record { items = []; ops = os }
    next_cur (fixed b) c r u x os = record { items = []; ops = os }
    next_cur invert c r u x os = record { items = []; ops = os }
    next_cur (force b) c r u x os = record { items = []; ops = os }
    next_cur (ordered true q n) c r u x os =
        let a = push A opsAt x r os in
        let b = push A opsAt (A.wire (cursorsAt + c)) u a.ops in
        record { items = A.plus a.form b.form ∷ []; ops = b.ops }
    next_cur (ordered false q n) c r u x os = record { items = []; ops = os }

    abbrev pub lost : Entry F
    lost = record { reached = A.constant 0; called = A.constant 0 }

    -- halted = called AND the flag; untouched = NOT reached AND NOT halted
    unfoldable pub down : ℕ → ℕ → List (Arbitration F) → List (Entry F) → List (Op F) → Down F
    down i c [] st os = record { outs = []; cursors = []; ops = os }
    down i c (x ∷ xs) st os =
        let e = top lost st in
        let h = and A opsAt e.called (A.wire i) os in
        let u = and A opsAt (not' A e.reached) (not' A h.form) h.ops in
        let k = next_cur x.node c e.reached u.form x.cursor u.ops in
        let s = children x.node e.reached h.form x.kids k.ops in
        let rest = down (suc i) (cell_after x.node c) xs (s.items ++ drop 1 st) s.ops in
        record {
          outs = record { raw = x.raw; reached = e.reached; halted = h.form; was = A.wire i; untouched = u.form } ∷ rest.outs;
          cursors = k.items ++ rest.cursors;
          ops = rest.ops;
        }

    -- next running: reached AND running, or untouched AND the flag
    unfoldable pub flags : List (NodeReach F) → List (Op F) → Many F F
    flags [] os = record { items = []; ops = os }
    flags (x ∷ xs) os =
        let a = and A opsAt x.reached x.raw.running os in
        let b = and A opsAt x.untouched x.was a.ops in
        let rest = flags xs b.ops in
        record { items = A.plus a.form b.form ∷ rest.items; ops = rest.ops }
