-- The loops that list the nodes in report order: what holds at their heads, and that each way through a turn keeps it.
use Rattle.std.proofs.Common.{◌≡◌, refl, sym, ◌∙◌, ap, ◌⊎◌, inl, inr, List, [], ◌∷◌, ◌++◌, map, ℕ, zero, suc, ◌+◌, ◌-◌, ◌≤◌, ◌<◌, not-suc-le-zero, add-one}
use Rattle.std.proofs.Common.{arith, length, get_or, set, drop, replicate, length-set, drop_of_length-le, drop-cons, get_or-set_same, get_or-set_other}
use Rattle.std.proofs.Math.Seq.{sets}
use Rattle.plan.specs.declared.lists.Open.{Open as Slot}
use Rattle.plan.specs.Plan.{Open, pending, number_of, closed, still, one_less, report_from}
use Rattle.plan.proofs.Said.{Said, said_none, said_more, said_as, said_all}

-- what is still to be reported: the nodes that are closed now, and what follows
abbrev pub rest_of : List ℕ → ℕ → List Open → List ℕ
rest_of counts n outer = closed outer ++ report_from counts n (still outer)

-- all that is open is reported where no node is left
pub all_open : (outer : List Open) → closed outer ++ map number_of (still outer) ≡ map number_of outer
all_open [] = refl
all_open (pending n zero ∷ outer) = ap (λ (r : List ℕ). n ∷ r) (all_open outer)
all_open (pending n (suc due) ∷ outer) = refl

last_closed : (n m due : ℕ) (outer : List Open) → rest_of [] n (pending m due ∷ outer) ≡ m ∷ rest_of [] n outer
last_closed n m zero outer = refl
last_closed n m (suc due) outer = ap (λ (r : List ℕ). m ∷ r) (sym (all_open outer))

-- the open nodes in an array, from slot 1 on
abbrev pub empty : Slot
empty = record { node = 0; due = 0 }

abbrev pub slot : List Slot → ℕ → Slot
slot stack d = get_or stack d empty

abbrev pub stack_of : List Slot → ℕ → List Open
stack_of stack zero = []
stack_of stack (suc d) = pending (slot stack (suc d)).node (slot stack (suc d)).due ∷ stack_of stack d

stack_top : (stack : List Slot) (d : ℕ) → 0 < d → stack_of stack d ≡ pending (slot stack d).node (slot stack d).due ∷ stack_of stack (d - 1)
stack_top stack zero h = absurd (not-suc-le-zero h)
stack_top stack (suc d) h = let e : suc d - 1 ≡ d = omega arith in rw e

-- a store above the top is not seen
stack_above : (stack : List Slot) (i : ℕ) (s : Slot) (d : ℕ) → d < i → stack_of (set stack i s) d ≡ stack_of stack d
stack_above stack i s zero h = refl
stack_above stack i s (suc d) h = rw (get_or-set_other stack i (suc d) s empty (omega arith), stack_above stack i s d (omega arith))

-- one child less to come
abbrev pub less : Slot → Slot
less s = record { node = s.node; due = s.due - 1 }

-- of the innermost node
stack_less : (stack : List Slot) (d : ℕ) → d < length stack → stack_of (set stack d (less (slot stack d))) d ≡ one_less (stack_of stack d)
stack_less stack zero h = refl
stack_less stack (suc d) h =
    rw (get_or-set_same stack (suc d) _ empty h, stack_above stack (suc d) (less (slot stack (suc d))) d (omega arith))

-- a node is opened
pushed : (stack : List Slot) (d n c : ℕ) → suc d < length stack
    → stack_of (set (set stack d (less (slot stack d))) (d + 1) (record { node = n; due = c })) (d + 1) ≡ pending n c ∷ one_less (stack_of stack d)
pushed stack d n c h =
    let stack₁ = set stack d (less (slot stack d)) in
    let h₁ : suc d < length stack₁ = rw length-set h in
    rw (
      add-one d,
      get_or-set_same stack₁ (suc d) (record { node = n; due = c }) empty h₁,
      stack_above stack₁ (suc d) (record { node = n; due = c }) d (omega arith),
      stack_less stack d (omega arith),
    )

-- a node is opened where the innermost open one, if there is one, has a child to come
opened : (counts : List ℕ) (n c : ℕ) (stack : List Slot) (d : ℕ) → 0 < (slot stack d).due
    → rest_of (c ∷ counts) n (stack_of stack d) ≡ rest_of counts (suc n) (pending n c ∷ one_less (stack_of stack d))
opened counts n c stack zero h = refl
opened counts n c stack (suc d) h = go (slot stack (suc d)).due h
  where
    go : (t : ℕ) → 0 < t
        → rest_of (c ∷ counts) n (pending (slot stack (suc d)).node t ∷ stack_of stack d)
        ≡ rest_of counts (suc n) (pending n c ∷ one_less (pending (slot stack (suc d)).node t ∷ stack_of stack d))
    go zero k = absurd (not-suc-le-zero k)
    go (suc t) k = refl

-- the roots that may still come are more than the nodes that are left
rooted : (stack : List Slot) (depth : ℕ) (s : Slot) (node : ℕ) → depth < length stack → 0 < (slot stack depth).due → 129 ≤ (slot stack 0).due + node
    → 129 ≤ (slot (set (set stack depth (less (slot stack depth))) (depth + 1) s) 0).due + (node + 1)
rooted stack zero s node l h r =
    rw (get_or-set_other (set stack 0 (less (slot stack 0))) 1 0 s empty (omega arith), get_or-set_same stack 0 (less (slot stack 0)) empty l)
    (omega arith)
rooted stack (suc d) s node l h r =
    let stack₁ = set stack (suc d) (less (slot stack (suc d))) in
    rw (get_or-set_other stack₁ (suc d + 1) 0 s empty (omega arith), get_or-set_other stack (suc d) 0 (less (slot stack (suc d))) empty (omega arith))
    (omega arith)

-- the nodes before `node` are read, those before `done` are reported, and the others stand in the slots up to `depth`
pub record At (nodes entry now : List ℕ) (stack : List Slot) (depth node done : ℕ) : Type 0 where
  pub few : length nodes ≤ 128
  pub read : node ≤ length nodes
  pub parts : done + depth ≡ node
  pub long : length stack ≡ 129
  pub roots : 129 ≤ (slot stack 0).due + node
  pub said : Said (report_from nodes 0 []) entry now done (rest_of (drop node nodes) node (stack_of stack depth))

pub start : (nodes entry : List ℕ) → length nodes ≤ 128
    → At nodes entry entry (set (replicate 129 empty) 0 (record { node = 0; due = 129 })) 0 0 0
start nodes entry h = record {
  few = h;
  read = omega arith;
  parts = refl;
  long = refl;
  roots = omega arith;
  said = said_none _ entry;
}

module _ {nodes entry now : List ℕ} {stack : List Slot} {depth node done : ℕ} (a : At nodes entry now stack depth node done) where
  popped : 0 < depth
      → rest_of (drop node nodes) node (stack_of stack depth) ≡ (slot stack depth).node ∷ rest_of (drop node nodes) node (stack_of stack (depth - 1))
      → At nodes entry (set now done (slot stack depth).node) stack (depth - 1) node (done + 1)
  popped h e = record {
    few = a.few;
    read = a.read;
    parts = omega (arith, a.parts);
    long = a.long;
    roots = a.roots;
    said = said_more (slot stack depth).node _ (said_as _ _ e a.said);
  }

  -- a node is closed: it has no child to come, or none is left to read
  pub closes : done < length nodes → ((slot stack depth).due ≤ 0) ⊎ (length nodes ≤ node)
      → (0 < depth) × At nodes entry (set now done (slot stack depth).node) stack (depth - 1) node (done + 1)
  closes h (inl e) =
      let inside : 0 < depth = within depth e in
      let none : (slot stack depth).due ≡ 0 = omega arith in
      (inside, popped inside (rw (stack_top stack depth inside, none)))
    where
      within : (d : ℕ) → (slot stack d).due ≤ 0 → 0 < d
      within zero z = absurd (omega (arith, a.roots, a.read, a.few))
      within (suc d) z = omega arith
  closes h (inr m) =
      let inside : 0 < depth = omega (arith, a.parts) in
      (inside, popped inside (rw (stack_top stack depth inside, drop_of_length-le nodes {i = node} m) (last_closed node _ _ (stack_of stack (depth - 1)))))

  -- a node is opened
  pub opens : 0 < (slot stack depth).due → node < length nodes
      → At nodes entry now (set (set stack depth (less (slot stack depth))) (depth + 1) (record { node = node; due = get_or nodes node 0 }))
      (depth + 1) (node + 1) done
  opens t h =
      let p = a.parts in
      let l = a.long in
      let f = a.few in
      let next : drop node nodes ≡ get_or nodes node 0 ∷ drop (node + 1) nodes = rw (add-one node) (drop-cons nodes node 0 h) in
      record {
        few = f;
        read = omega arith;
        parts = omega arith;
        long = simp length-set l;
        roots = rooted stack depth _ node (omega arith) t a.roots;
        said = said_as _ _
            (ap (λ (r : List ℕ). rest_of r node (stack_of stack depth)) next
            ∙ opened (drop (node + 1) nodes) node (get_or nodes node 0) stack depth t
            ∙ (λ i. rest_of (drop (node + 1) nodes) (sym (add-one node) i) (sym (pushed stack depth node (get_or nodes node 0) (omega arith)) i)))
            a.said;
      }

  pub ended : length nodes ≤ done → (done ≡ length (report_from nodes 0 [])) × (now ≡ sets entry 0 (report_from nodes 0 []))
  ended h =
      let p = a.parts in
      let r = a.read in
      let z : depth ≡ 0 = omega arith in
      said_all (said_as _ [] (rw (z, drop_of_length-le nodes {i = node} (omega arith))) a.said)
