-- What the lists of a plan are: for a tree the report order is its post-order (`report_tree`); whatever the lists, it holds each node once
-- (`report_once`, `report_length`), and the leaf and cursor lists strictly rise below the number of nodes (`places_rise`, `places_few`).
use Rattle.std.proofs.Common.{◌≡◌, refl, sym, ◌∙◌, ap, Bool, true, false, List, [], ◌∷◌, ◌++◌, map, append_assoc, append-nil, ℕ, zero, suc, ◌+◌, ◌-◌, ◌≤◌}
use Rattle.std.proofs.Common.{◌<◌, min, arith, eqb-true, ne_eqb, eqb, length, length-append, length-take, take_all}
use borrow.Author.Tests.{eqb-false}
use Rattle.tree.proofs.Lengths.{counts_length}
use Rattle.tree.specs.Forest.{Forest, none, node, width, size, counts}
use Rattle.plan.specs.Plan.{nodes_in, listed, places_from, numbered, postorder, report_in, Open, pending, number_of, closed, still, one_less, report_of}
use Rattle.plan.specs.Plan.{times, Rising}
use Rattle.plan.proofs.Reports.{rest_of, all_open}

-- a forest below an open node is reported in post-order, before what is open
below : {X : Type 0} (f : Forest X) (cs : List ℕ) (n m q : ℕ) (outer : List Open)
    → rest_of (counts f ++ cs) n (pending m (width f + q) ∷ outer) ≡ postorder (numbered n f) ++ rest_of cs (n + size f) (pending m q ∷ outer)
below none cs n m q outer =
    let e : 0 + q ≡ q = omega arith in
    let d : n + 0 ≡ n = omega arith in
    rw (e, d)
below (node x kids rest) cs n m q outer =
    let w : suc (width rest) + q ≡ suc (width rest + q) = omega arith in
    let z : width kids ≡ width kids + 0 = omega arith in
    let less : suc (width rest + q) - 1 ≡ width rest + q = omega arith in
    let s : suc n + size kids + size rest ≡ n + suc (size kids + size rest) = omega arith in
    let inner = postorder (numbered (suc n) kids) in
    let after = postorder (numbered (suc n + size kids) rest) in
    (λ i. rest_of (width kids ∷ append_assoc (counts kids) (counts rest) cs i) n (pending m (w i) ∷ outer))
    ∙ (λ i. rest_of (counts kids ++ (counts rest ++ cs)) (suc n) (pending n (z i) ∷ pending m (less i) ∷ outer))
    ∙ below kids (counts rest ++ cs) (suc n) n 0 (pending m (width rest + q) ∷ outer)
    ∙ ap (λ (r : List ℕ). inner ++ n ∷ r) (below rest cs (suc n + size kids) m q outer)
    ∙ ap (λ (k : ℕ). inner ++ n ∷ (after ++ rest_of cs k (pending m q ∷ outer))) s
    ∙ sym (append_assoc inner (n ∷ after) (rest_of cs (n + suc (size kids + size rest)) (pending m q ∷ outer)))

-- and so is a forest below nothing
above : {X : Type 0} (f : Forest X) (cs : List ℕ) (n : ℕ) → rest_of (counts f ++ cs) n [] ≡ postorder (numbered n f) ++ rest_of cs (n + size f) []
above none cs n = let d : n + 0 ≡ n = omega arith in rw d
above (node x kids rest) cs n =
    let z : width kids ≡ width kids + 0 = omega arith in
    let s : suc n + size kids + size rest ≡ n + suc (size kids + size rest) = omega arith in
    let inner = postorder (numbered (suc n) kids) in
    let after = postorder (numbered (suc n + size kids) rest) in
    (λ i. rest_of (width kids ∷ append_assoc (counts kids) (counts rest) cs i) n [])
    ∙ (λ i. rest_of (counts kids ++ (counts rest ++ cs)) (suc n) (pending n (z i) ∷ []))
    ∙ below kids (counts rest ++ cs) (suc n) n 0 []
    ∙ ap (λ (r : List ℕ). inner ++ n ∷ r) (above rest cs (suc n + size kids))
    ∙ ap (λ (k : ℕ). inner ++ n ∷ (after ++ rest_of cs k [])) s
    ∙ sym (append_assoc inner (n ∷ after) (rest_of cs (n + suc (size kids + size rest)) []))

-- "Report order: post-order"
pub report_tree : {X : Type 0} (tree : Forest X) → size tree ≤ 128 → report_of (counts tree) ≡ report_in tree
unfolding report_of
report_tree tree h =
    let l = counts_length tree in
    let all : nodes_in (counts tree) ≡ counts tree ++ [] = take_all 128 (counts tree) (omega arith) ∙ sym (append-nil (counts tree)) in
    ap (λ (cs : List ℕ). rest_of cs 0 []) all ∙ above tree [] 0 ∙ append-nil (report_in tree)

same_numbers : (outer : List Open) → map number_of (one_less outer) ≡ map number_of outer
same_numbers [] = refl
same_numbers (pending n due ∷ outer) = refl

-- each number that is open or is still to be read is reported as often as it stands there
rest_length : (cs : List ℕ) (n : ℕ) (outer : List Open) → length (rest_of cs n outer) ≡ length cs + length (map number_of outer)
rest_length [] n outer = ap length (all_open outer) ∙ omega arith
rest_length (c ∷ cs) n outer =
    let a = sym (length-append (closed outer) (map number_of (still outer))) ∙ ap length (all_open outer) in
    let b = ap length (same_numbers (still outer)) in
    length-append (closed outer) (rest_of cs (suc n) (pending n c ∷ one_less (still outer)))
    ∙ omega (arith, rest_length cs (suc n) (pending n c ∷ one_less (still outer)))

pub report_length : (cs : List ℕ) → length (report_of cs) ≡ min (length cs) 128
unfolding report_of
report_length cs = rest_length (nodes_in cs) 0 [] ∙ omega (arith, length-take 128 cs)

times_append : (v : ℕ) (xs ys : List ℕ) → times v (xs ++ ys) ≡ times v xs + times v ys
times_append v [] ys = omega arith
times_append v (x ∷ xs) ys = omega (arith, times_append v xs ys)

-- the numbers from n on, so many of them
abbrev from : ℕ → ℕ → List ℕ
from n zero = []
from n (suc k) = n ∷ from (suc n) k

rest_times : (v : ℕ) (cs : List ℕ) (n : ℕ) (outer : List Open)
    → times v (rest_of cs n outer) ≡ times v (from n (length cs)) + times v (map number_of outer)
rest_times v [] n outer = ap (times v) (all_open outer) ∙ omega arith
rest_times v (c ∷ cs) n outer =
    let a = sym (times_append v (closed outer) (map number_of (still outer))) ∙ ap (times v) (all_open outer) in
    let b = ap (times v) (same_numbers (still outer)) in
    times_append v (closed outer) (rest_of cs (suc n) (pending n c ∷ one_less (still outer)))
    ∙ omega (arith, rest_times v cs (suc n) (pending n c ∷ one_less (still outer)))

from_before : (v n k : ℕ) → v < n → times v (from n k) ≡ 0
from_before v n zero h = refl
from_before v n (suc k) h = rw (ne_eqb n v (λ e. omega arith)) (omega (arith, from_before v (suc n) k (omega arith)))

from_once : (v n k : ℕ) → n ≤ v → v < n + k → times v (from n k) ≡ 1
from_once v n zero h l = absurd (omega arith)
from_once v n (suc k) h l = go (eqb n v) refl (λ m. from_once v (suc n) k m (omega arith))
  where
    go : (b : Bool) → eqb n v ≡ b → (suc n ≤ v → times v (from (suc n) k) ≡ 1) → times v (from n (suc k)) ≡ 1
    go true e ih =
        let s : n ≡ v = eqb-true n v e in
        rw e (omega (arith, from_before v (suc n) k (omega arith)))
    go false e ih = rw e (omega (arith, ih (later (eqb-false n v e))))
      where
        later : (n ≡ v → ⊥) → suc n ≤ v
        later d = omega arith

-- the report list holds each node once
pub report_once : (cs : List ℕ) (v : ℕ) → v < min (length cs) 128 → times v (report_of cs) ≡ 1
unfolding report_of
report_once cs v h =
    let l = length-take 128 cs in
    rest_times v (nodes_in cs) 0 []
    ∙ omega (arith, from_once v 0 (length (nodes_in cs)) (omega arith) (omega arith))

looser : (least less limit : ℕ) (xs : List ℕ) → least ≤ less → Rising less limit xs → Rising least limit xs
looser least less limit [] h r = tt
looser least less limit (x ∷ xs) h r = (omega (arith, r.0), r.1, r.2)

-- the leaf and the cursor list strictly rise below the number of nodes
pub places_rise : (test : ℕ → Bool) (n : ℕ) (kinds : List ℕ) → Rising n (n + length kinds) (places_from test n kinds)
places_rise test n [] = tt
places_rise test n (k ∷ kinds) =
    let e : suc n + length kinds ≡ n + suc (length kinds) = omega arith in
    go (test k) (rw e at (places_rise test (suc n) kinds))
  where
    go : (b : Bool) → Rising (suc n) (n + suc (length kinds)) (places_from test (suc n) kinds)
        → Rising n (n + suc (length kinds)) (listed b n (places_from test (suc n) kinds))
    go true more = (omega arith, omega arith, more)
    go false more = looser n (suc n) (n + suc (length kinds)) (places_from test (suc n) kinds) (omega arith) more

pub places_few : (test : ℕ → Bool) (n : ℕ) (kinds : List ℕ) → length (places_from test n kinds) ≤ length kinds
places_few test n [] = omega arith
places_few test n (k ∷ kinds) = go (test k) (places_few test (suc n) kinds)
  where
    go : (b : Bool) → length (places_from test (suc n) kinds) ≤ length kinds → length (listed b n (places_from test (suc n) kinds)) ≤ suc (length kinds)
    go true h = omega arith
    go false h = omega arith
