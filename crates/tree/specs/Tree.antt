-- What reading a tree's records in pre-order finds: the kinds and child counts of all nodes, or the first refusal.
use Rattle.std.specs.Prelude.{◌≡◌, ℕ, zero, suc, ◌+◌, ◌-◌, cond, List, [], ◌∷◌, ◌++◌, length, replicate, leb, ltb, Result, Ok, Err}
use Rattle.tree_record.specs.declared.refusal.Cause.{Cause}
use Rattle.tree_record.specs.declared.refusal.Cause.TheVariants.{TooDeep, TooManyNodes, Trailing, ShortRoom}
use Rattle.tree_record.specs.declared.refusal.Refusal.{Refusal}
use Rattle.tree_record.specs.Record.{Found, record_at}

-- the nodes' kinds and child counts, in pre-order; or a refusal
pub data Parsed : Type 0 where
  accepted : List ℕ → List ℕ → Parsed
  refused : Refusal → Parsed

-- refused for a cause at a place
abbrev pub refused_at : Cause → ℕ → Parsed
refused_at cause place = refused (record { cause = cause; place = place })

-- a record as node n at a level: after 1 to 5, level 17 gives 6, and node 128 gives 7
abbrev pub limited : Found → ℕ → ℕ → Found
limited (Err cause) n level = Err cause
limited (Ok node) n level = cond (ltb 16 level) (Err TooDeep) (cond (leb 128 n) (Err TooManyNodes) (Ok node))

-- the open ancestors that are left: those whose children have all been read are closed
abbrev pub settle : List ℕ → List ℕ
settle [] = []
settle (zero ∷ pend) = settle pend
settle (suc p ∷ pend) = suc p ∷ pend

-- the root's subtree is whole: bytes after it give 8
abbrev pub ending : List ℕ → ℕ → ℕ → List ℕ → List ℕ → Parsed
ending bytes at n kinds counts = cond (ltb at (length bytes)) (refused_at Trailing n) (accepted kinds counts)

-- "The first node in pre-order decides." Node n is due at position `at`; `pend` has, innermost first, how many children of each open
-- ancestor are still to be read, so that its length is the node's level; kinds and counts are those of the nodes before it. The fuel is more
-- than the nodes that may still come, since node 128 is refused.
unfoldable pub parse : ℕ → List ℕ → ℕ → ℕ → List ℕ → List ℕ → List ℕ → Parsed
parse zero bytes at n pend kinds counts = refused_at TooManyNodes n
parse (suc fuel) bytes at n [] kinds counts = ending bytes at n kinds counts
parse (suc fuel) bytes at n (p ∷ pend) kinds counts =
    elim (limited (record_at bytes at) n (length (p ∷ pend))) [
      | Err cause ↦ refused_at cause n
      | Ok node ↦ parse fuel bytes node.next (n + 1) (settle (node.count ∷ (p - 1) ∷ pend)) (kinds ++ node.kind ∷ []) (counts ++ node.count ∷ [])
    ]

-- the root is node 0, at position 0, the one child of nothing
unfoldable pub tree_of : List ℕ → Parsed
tree_of bytes = parse 129 bytes 0 0 (1 ∷ []) [] []

-- With so many slots lent for kinds and for counts: fewer than 128 of either give 14 at 0, "before any record is read".
unfoldable pub flat_of : ℕ → ℕ → List ℕ → Parsed
flat_of kindSlots countSlots bytes =
    cond (ltb kindSlots 128) (refused_at ShortRoom 0)
    (cond (ltb countSlots 128) (refused_at ShortRoom 0) (tree_of bytes))

-- the answer, and what the slots hold: a refusal leaves them all zero, an acceptance leaves the unused ones zero
abbrev pub answer_of : Parsed → Result ℕ Refusal
answer_of (accepted kinds counts) = Ok (length kinds)
answer_of (refused refusal) = Err refusal

abbrev pub padded : ℕ → List ℕ → List ℕ
padded slots xs = xs ++ replicate (slots - length xs) 0

abbrev pub kinds_in : ℕ → Parsed → List ℕ
kinds_in slots (accepted kinds counts) = padded slots kinds
kinds_in slots (refused refusal) = replicate slots 0

abbrev pub counts_in : ℕ → Parsed → List ℕ
counts_in slots (accepted kinds counts) = padded slots counts
counts_in slots (refused refusal) = replicate slots 0

-- what the reading of the records leaves in slots that were zero: where it refuses, nothing is asked of them yet
abbrev pub Written : Parsed → List ℕ → List ℕ → Type 0
Written (accepted kinds counts) ks cs = (ks ≡ padded (length ks) kinds) × (cs ≡ padded (length cs) counts)
Written (refused refusal) ks cs = Unit {0}
