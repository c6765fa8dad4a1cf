-- A record hangs on the bytes from its position on, and a whole record is its node's bytes.
use Rattle.std.proofs.Common.{Option, None, Some, Ok, Err, IsSomeAnd, ◌≡◌, refl, sym, ◌∙◌, ap, subst, Bool, true, false, cond, List, [], ◌∷◌, ◌++◌, ℕ, zero}
use Rattle.std.proofs.Common.{suc, ◌+◌, ◌*◌, ◌-◌, ◌/◌, ◌%◌, ◌≤◌, ◌<◌, add-zero, arith, le-ltb, eq-eqb, ne_eqb, ltb-false, eqb-true, ltb, eqb, length, drop}
use Rattle.std.proofs.Common.{length-drop, get_or-drop}
use Rattle.tree_kinds.specs.declared.Family.{Family}
use Rattle.tree_kinds.specs.declared.Family.TheVariants.{Leaf, Composite, Decorator, Never}
use Rattle.tree_kinds.specs.Kinds.{Entry, row_of, length_by}
use Rattle.tree_kinds.proofs.Rows.{follows}
use Rattle.tree_record.specs.declared.refusal.Cause.TheVariants.{Truncated, BadLength, EmptyComposite}
use Rattle.tree_record.specs.Record.{Found, node, u16_at, record_at, row_record, family_record, fitting_record, counted_record}
use Rattle.tree.specs.Bytes.{Bytes, u16, payload, record_by, record_bytes, Children, KindChildren}

-- a record that is read at a position, said of one that is read at 0
abbrev pub moved : ℕ → Found → Found
moved at (Ok n) = node n.kind n.count (at + n.next)
moved at (Err cause) = Err cause

moved_cond : (at : ℕ) (b : Bool) (r s : Found) → moved at (cond b r s) ≡ cond b (moved at r) (moved at s)
moved_cond at true r s = refl
moved_cond at false r s = refl

u16_local : (bytes : List ℕ) (at i : ℕ) → u16_at bytes (at + i) ≡ u16_at (drop at bytes) i
u16_local bytes at i =
    let a : at + i + 1 ≡ at + (i + 1) = omega arith in
    rw (a, get_or-drop at bytes i 0, get_or-drop at bytes (i + 1) 0)

family_local : (family : Family) (want : ℕ) (bytes : List ℕ) (at size kind : ℕ)
    → family_record family want bytes at size kind ≡ moved at (family_record family want (drop at bytes) 0 size kind)
family_local Leaf want bytes at size kind =
    let e : at + 2 + size ≡ at + (2 + size) = omega arith in
    rw (moved_cond at (eqb size want) (node kind 0 (2 + size)) (Err BadLength), e)
family_local Composite want bytes at size kind =
    let e : at + 2 + size ≡ at + (2 + size) = omega arith in
    let count = u16_at (drop at bytes) 4 in
    rw (
      moved_cond at (eqb size want) (counted_record kind count (2 + size)) (Err BadLength),
      moved_cond at (eqb count 0) (Err EmptyComposite) (node kind count (2 + size)),
      u16_local bytes at 4,
      e,
    )
family_local Decorator want bytes at size kind =
    let e : at + 2 + size ≡ at + (2 + size) = omega arith in
    rw (moved_cond at (eqb size want) (node kind 1 (2 + size)) (Err BadLength), e)
family_local Never want bytes at size kind = refl

row_local : (row : Option Entry) (bytes : List ℕ) (at size kind : ℕ)
    → row_record row bytes at size kind ≡ moved at (row_record row (drop at bytes) 0 size kind)
row_local None bytes at size kind = refl
row_local (Some row) bytes at size kind = family_local row.family row.size bytes at size kind

-- the tests on the length, by the bytes that are left
abbrev staged : ℕ → ℕ → Found → Found
staged left size found =
    cond (ltb left 2) (Err Truncated)
    (cond (ltb size 2) (Err BadLength)
    (cond (ltb (left - 2) size) (Err Truncated) found))

staged_moved : (at left size : ℕ) (found here : Found) → found ≡ moved at here → staged left size found ≡ moved at (staged left size here)
staged_moved at left size found here e = go (ltb left 2) (ltb size 2) (ltb (left - 2) size)
  where
    go : (a b c : Bool)
        → cond a (Err Truncated) (cond b (Err BadLength) (cond c (Err Truncated) found))
        ≡ moved at (cond a (Err Truncated) (cond b (Err BadLength) (cond c (Err Truncated) here)))
    go true b c = refl
    go false true c = refl
    go false false true = refl
    go false false false = e

pub record_local : (bytes : List ℕ) (at : ℕ) → record_at bytes at ≡ moved at (record_at (drop at bytes) 0)
unfolding record_at
record_local bytes at =
    let here = drop at bytes in
    let size : u16_at bytes at ≡ u16_at here 0 = ap (u16_at bytes) (sym (add-zero at)) ∙ u16_local bytes at 0 in
    let kind : u16_at bytes (at + 2) ≡ u16_at here 2 = u16_local bytes at 2 in
    let left : length here - 0 ≡ length bytes - at = omega (arith, length-drop at bytes) in
    (λ i. staged (length bytes - at) (size i) (row_record (row_of (kind i)) bytes at (size i) (kind i)))
    ∙ staged_moved at (length bytes - at) (u16_at here 0) _ _ (row_local (row_of (u16_at here 2)) bytes at (u16_at here 0) (u16_at here 2))
    ∙ (λ i. moved at (staged (sym left i) (u16_at here 0) (row_record (row_of (u16_at here 2)) here 0 (u16_at here 0) (u16_at here 2))))

-- two bytes and the number that they stand for
u16_number : (n : ℕ) → n % 256 + 256 * (n / 256) ≡ n
u16_number n = omega arith

u16_low : (a b : ℕ) → a < 256 → (a + 256 * b) % 256 ≡ a
u16_low a b h = omega arith

u16_high : (a b : ℕ) → a < 256 → (a + 256 * b) / 256 ≡ b
u16_high a b h = omega arith

-- a record that is all there is what its row says
whole : (bytes : List ℕ) (size kind : ℕ) → u16_at bytes 0 ≡ size → u16_at bytes 2 ≡ kind → 2 ≤ size → 2 + size ≤ length bytes
    → record_at bytes 0 ≡ row_record (row_of kind) bytes 0 size kind
unfolding record_at
whole bytes size kind s k h l =
    let a = le-ltb (length bytes - 0) 2 (omega arith) in
    let b = le-ltb size 2 h in
    let c = le-ltb (length bytes - 0 - 2) size (omega arith) in
    rw (s, k, a, b, c)

-- the bytes of a node are read as that node
pub node_record : (kind count : ℕ) (tail : List ℕ) → KindChildren kind count
    → record_at (record_bytes kind count ++ tail) 0 ≡ node kind count (length (record_bytes kind count))
node_record kind count tail = by_row (row_of kind) refl
  where
    by_family : (name : List ℕ) (want : ℕ) (family : Family) → row_of kind ≡ Some (record { name = name; size = want; family = family })
        → want ≡ length_by family → Children family count
        → record_at ((u16 want ++ u16 kind ++ payload family count) ++ tail) 0 ≡ node kind count (length (u16 want ++ u16 kind ++ payload family count))
    by_family name want Leaf f l h =
        let next : 2 + want ≡ 4 = omega arith in
        whole _ want kind (u16_number want) (u16_number kind) (omega arith) (omega arith)
        ∙ rw (f, eq-eqb want want refl, next, h)
    by_family name want Composite f l h =
        let next : 2 + want ≡ 6 = omega arith in
        whole _ want kind (u16_number want) (u16_number kind) (omega arith) (omega arith)
        ∙ rw (f, eq-eqb want want refl, next, u16_number count, ne_eqb count 0 (λ z. omega arith))
    by_family name want Decorator f l h =
        let next : 2 + want ≡ 4 = omega arith in
        whole _ want kind (u16_number want) (u16_number kind) (omega arith) (omega arith)
        ∙ rw (f, eq-eqb want want refl, next, h)
    by_family name want Never f l h = absurd h

    by_row : (row : Option Entry) → row_of kind ≡ row → IsSomeAnd row (λ (r : Entry). Children r.family count)
        → record_at (record_by row kind count ++ tail) 0 ≡ node kind count (length (record_by row kind count))
    by_row None e h = absurd h
    by_row (Some row) e h = by_family row.name row.size row.family e (follows kind row e).1 h

-- where a node is read, the tests on its length passed
passed : (bytes : List ℕ) (kind count next : ℕ) → record_at bytes 0 ≡ node kind count next
    → (2 ≤ u16_at bytes 0) × (2 + u16_at bytes 0 ≤ length bytes)
    × (row_record (row_of (u16_at bytes 2)) bytes 0 (u16_at bytes 0) (u16_at bytes 2) ≡ node kind count next)
unfolding record_at
passed bytes kind count next = go (ltb left 2) (ltb size 2) (ltb (left - 2) size) refl refl refl
  where
    left : ℕ
    left = length bytes - 0

    size : ℕ
    size = u16_at bytes 0

    found : Found
    found = row_record (row_of (u16_at bytes 2)) bytes 0 (u16_at bytes 0) (u16_at bytes 2)

    go : (a b c : Bool) → ltb left 2 ≡ a → ltb size 2 ≡ b → ltb (left - 2) size ≡ c
        → cond a (Err Truncated) (cond b (Err BadLength) (cond c (Err Truncated) found)) ≡ node kind count next
        → (2 ≤ size) × (2 + size ≤ length bytes) × (found ≡ node kind count next)
    go true b c ea eb ec e = absurd (cc)
    go false true c ea eb ec e = absurd (cc)
    go false false true ea eb ec e = absurd (cc)
    go false false false ea eb ec e =
        let a = ltb-false left 2 ea in
        let b = ltb-false size 2 eb in
        let c = ltb-false (left - 2) size ec in
        (b, omega arith, e)

-- a node's bytes, how many children its kind may have, and what follows
pub record Read (bytes : List ℕ) (kind count next : ℕ) : Type 0 where
  pub children : KindChildren kind count
  pub these : bytes ≡ record_bytes kind count ++ drop next bytes

-- the same of whatever was found
abbrev ReadAs : List ℕ → Found → Type 0
ReadAs bytes (Ok n) = Read bytes n.kind n.count n.next
ReadAs bytes (Err cause) = Unit {0}

fitting : (bytes : List ℕ) (size want : ℕ) (found : Found) → (size ≡ want → ReadAs bytes found) → ReadAs bytes (fitting_record size want found)
fitting bytes size want found h = go (eqb size want) refl
  where
    go : (t : Bool) → eqb size want ≡ t → ReadAs bytes (cond t found (Err BadLength))
    go true e = h (eqb-true size want e)
    go false e = tt

counted : (bytes : List ℕ) (kind count next : ℕ) → (0 < count → Read bytes kind count next) → ReadAs bytes (counted_record kind count next)
counted bytes kind zero next h = tt
counted bytes kind (suc count) next h = rw (ne_eqb (suc count) 0 (λ e. omega arith)) (h (omega arith))

-- by the row of a kind, which follows the table
family_found : (a b c d : ℕ) (more name : List ℕ) (want : ℕ) → a < 256 → c < 256 → Bytes more → 2 + (a + 256 * b) ≤ 4 + length more
    → (family : Family) → row_of (c + 256 * d) ≡ Some (record { name = name; size = want; family = family }) → want ≡ length_by family
    → ReadAs (a ∷ b ∷ c ∷ d ∷ more) (family_record family want (a ∷ b ∷ c ∷ d ∷ more) 0 (a + 256 * b) (c + 256 * d))
family_found a b c d more name want ha hc hm l Leaf f w = fitting _ (a + 256 * b) want _ (λ e.
    let s : want ≡ a + 256 * b = sym e in
    let n : 2 + (a + 256 * b) ≡ 4 = omega arith in
    record { children = rw f refl; these = rw (f, s, u16_low a b ha, u16_high a b ha, u16_low c d hc, u16_high c d hc, n) })
family_found a b c d more name want ha hc hm l Decorator f w = fitting _ (a + 256 * b) want _ (λ e.
    let s : want ≡ a + 256 * b = sym e in
    let n : 2 + (a + 256 * b) ≡ 4 = omega arith in
    record { children = rw f refl; these = rw (f, s, u16_low a b ha, u16_high a b ha, u16_low c d hc, u16_high c d hc, n) })
family_found a b c d [] name want ha hc hm l Composite f w = fitting _ (a + 256 * b) want _ (λ e. absurd (omega arith))
family_found a b c d (y ∷ []) name want ha hc hm l Composite f w = fitting _ (a + 256 * b) want _ (λ e. absurd (omega arith))
family_found a b c d (y ∷ z ∷ more) name want ha hc hm l Composite f w = fitting _ (a + 256 * b) want _ (λ e.
    counted _ (c + 256 * d) (y + 256 * z) _ (λ p.
    let s : want ≡ a + 256 * b = sym e in
    let n : 2 + (a + 256 * b) ≡ 6 = omega arith in
    record {
      children = rw f p;
      these = rw (f, s, u16_low a b ha, u16_high a b ha, u16_low c d hc, u16_high c d hc, u16_low y z hm.0, u16_high y z hm.0, n);
    }))
family_found a b c d more name want ha hc hm l Never f w = tt

row_found : (a b c d : ℕ) (more : List ℕ) → a < 256 → c < 256 → Bytes more → 2 + (a + 256 * b) ≤ 4 + length more
    → (row : Option Entry) → row_of (c + 256 * d) ≡ row
    → ReadAs (a ∷ b ∷ c ∷ d ∷ more) (row_record row (a ∷ b ∷ c ∷ d ∷ more) 0 (a + 256 * b) (c + 256 * d))
row_found a b c d more ha hc hm l None f = tt
row_found a b c d more ha hc hm l (Some row) f =
    family_found a b c d more row.name row.size ha hc hm l row.family f (follows (c + 256 * d) row f).1

-- what is read as a node is that node's bytes
pub record_node : (bytes : List ℕ) (kind count next : ℕ) → Bytes bytes → record_at bytes 0 ≡ node kind count next
    → Read bytes kind count next
record_node [] kind count next h e = absurd (omega (arith, (passed [] kind count next e).1))
record_node (a ∷ []) kind count next h e = absurd (omega (arith, (passed (a ∷ []) kind count next e).1))
record_node (a ∷ b ∷ []) kind count next h e =
    let p = passed (a ∷ b ∷ []) kind count next e in absurd (omega arith)
record_node (a ∷ b ∷ c ∷ []) kind count next h e =
    let p = passed (a ∷ b ∷ c ∷ []) kind count next e in absurd (omega arith)
record_node (a ∷ b ∷ c ∷ d ∷ more) kind count next h e =
    let p = passed (a ∷ b ∷ c ∷ d ∷ more) kind count next e in
    subst (ReadAs (a ∷ b ∷ c ∷ d ∷ more)) p.2
    (row_found a b c d more h.0 h.1.1.0 h.1.1.1.1 (omega arith) (row_of (c + 256 * d)) refl)
