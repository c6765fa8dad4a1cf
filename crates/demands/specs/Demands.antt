-- What the demands speak of: valid rows, states and room, what a tick leaves that answers as the direct walk, many ticks in turn, and the
-- clauses on what each tick computes. Definitions only.
use Rattle.std.specs.Prelude.{ℕ, ◌+◌, ◌-◌, ◌*◌, ◌≤◌, ◌<◌, ◌≡◌, cond, ◌⊎◌, List, [], ◌∷◌, ◌++◌, map, eqb, length, get_or, drop, Ok, Float}
use Rattle.std.specs.Float.{nan, binary32}
use Rattle.std.specs.Float.Ieee.{add, mul}
use Rattle.exact.specs.Whole.{diff, Within}
use Rattle.tree.specs.Forest.{Forest, size}
use Rattle.wire.specs.declared.Counts.{Counts}
use Rattle.wire.specs.declared.Term.{Term}
use Rattle.wire.specs.Terms.{Affine, value_in}
use Rattle.wire.specs.Storage.{Op, affine, reglu, neither, op_at, output_at, output_count}
use Rattle.lists.specs.Every.{All}
use Rattle.walk.specs.Status.{Success, is_success, is_failure, is_running_status, not_ticked}
use Rattle.walk.specs.Walk.{Fate, fates_of, cells_in, slots_in, walk}
use Rattle.tick_check.specs.Check.{Stored}
use Rattle.tick_lane.specs.Evaluate.{bit, table_of, out_value}
use Rattle.tick_lane.specs.Lane.{Ticked, number_of, Lent, Outcome, lent, outcome, computed}
use Rattle.demands.specs.Contracts.{TickPermits}

-- ---- what is given

-- a row of the right shape and range: a status for each leaf
pub record ValidRow (f : Forest ℕ) (row : List ℕ) : Type 0 where
  pub long : length row ≡ slots_in f
  pub low : All (λ (status : ℕ). status ≤ 2) row

-- "any flags of 0 or 1 and any cursors, as many as the tree has"
pub record ValidState (f : Forest ℕ) (flags cursors : List ℕ) : Type 0 where
  pub flags_long : length flags ≡ size f
  pub flags_low : All (λ (flag : ℕ). flag ≤ 1) flags
  pub cursors_long : length cursors ≡ cells_in f

-- "enough room"
pub record Room (f : Forest ℕ) (n : Counts) (l : Lent) : Type 0 where
  pub values : n.cells + n.ops ≤ length l.values
  pub statuses : size f ≤ length l.statuses
  pub halts : size f ≤ length l.halts
  pub edges : slots_in f ≤ length l.edges

pub record Ready (f : Forest ℕ) (n : Counts) (l : Lent) : Type 0 where
  pub state : ValidState f l.flags l.cursors
  pub room : Room f n l

-- ---- the direct walk, in what is lent

-- "An accepted tick writes the needed prefix of each output and nothing past it."
abbrev pub over : List ℕ → List ℕ → List ℕ
over new old = new ++ drop (length new) old

-- the walk's statuses (3 where a node is not ticked), halts and edges in the outputs, its next flags and cursors as the state, and the value
-- table computed
unfoldable pub walked : Stored → Forest ℕ → List ℕ → Lent → Lent
walked s f row l =
    let a = walk f l.flags l.cursors row in
    lent a.flags a.cursors (table_of s row l.flags l.cursors l.values)
    (over a.statuses l.statuses) (over a.halts l.halts) (over a.edges l.edges)

-- ---- what a refused tick leaves

-- "Ticking refusals write nothing, except that 18 leaves the value table computed."
abbrev pub unwritten : Stored → List ℕ → Lent → Ticked → Lent
unwritten s row l t = cond (eqb (number_of t) 18) (computed l (table_of s row l.flags l.cursors l.values)) l

-- ---- many ticks

-- one of them: its row, all that is lent to it, and what comes of it
pub record Tick : Type 0 where
  pub row : List ℕ
  pub lent : Lent
  pub out : Outcome

-- on the circuit s, from these flags and cursors: any outcome that tick's contract permits, on a valid row, with enough room of any contents
pub record Step (s : Stored) (f : Forest ℕ) (flags cursors : List ℕ) (t : Tick) : Type 0 where
  pub from_flags : t.lent.flags ≡ flags
  pub from_cursors : t.lent.cursors ≡ cursors
  pub valid : ValidRow f t.row
  pub room : Room f s.counts t.lent
  pub permitted : TickPermits s t.row t.lent t.out

-- "any number of valid rows": each tick starts from the flags and cursors that the one before it left; all else is its own
abbrev pub Run : Stored → Forest ℕ → List ℕ → List ℕ → List Tick → Type 0
Run s f flags cursors [] = Unit {0}
Run s f flags cursors (t ∷ ts) = Step s f flags cursors t × Run s f t.out.left.flags t.out.left.cursors ts

-- ---- what a tick computes

-- "each would-be status exactly one of three": of a node's three values that of its would-be status in the walk is 1 and the others are 0,
-- ticked or not
abbrev pub OneOfThree : Stored → List Float → List Fate → Type 0
OneOfThree s table xs = (i : ℕ) → i < s.counts.nodes
    → let would = get_or (map (λ (x : Fate). x.would) xs) i Success in
    (out_value s table (6 * i) ≡ bit (is_success would))
    × (out_value s table (6 * i + 1) ≡ bit (is_failure would)) × (out_value s table (6 * i + 2) ≡ bit (is_running_status would))

-- "no node is both ticked and halted"
abbrev pub NeverBoth : Stored → Lent → Type 0
NeverBoth s l = (i : ℕ) → i < s.counts.nodes → (get_or l.statuses i not_ticked ≡ not_ticked) ⊎ (get_or l.halts i 0 ≡ 0)

-- ---- "every running sum whole and below 2^24 in size, so f32 drops nothing"

-- the float is the whole number p - q, exactly: up to 2^24 in size f32 has every whole number
abbrev pub Is : Float → ℕ → ℕ → Type 0
Is x p q = (x ≡ diff binary32 p q) × Within binary32 p q

-- a running sum: below 2^24
abbrev pub IsBelow : Float → ℕ → ℕ → Type 0
IsBelow x p q = (x ≡ diff binary32 p q) × (p < q + 16777216) × (q < p + 16777216)

-- from the running sum x on, which is p - q: the next term's coefficient is a - b, its wire's value v, and the running sum that f32 makes of
-- them is exactly p - q and (a - b) v; and so on
unfoldable pub Adds : List Float → Float → ℕ → ℕ → List Term → Type 0
Adds table x p q [] = IsBelow x p q
Adds table x p q (t ∷ ts) =
    let value = get_or table t.wire.0 nan in
    IsBelow x p q
    × ((a : ℕ) × (b : ℕ) × (v : ℕ) × Is t.coef a b × Is value v 0 × Within binary32 (a * v) (b * v)
    × Adds table (add binary32 x (mul binary32 t.coef value)) (p + a * v) (q + b * v) ts)

-- a form's: "the bias, then coefficient times value added in wire order"
abbrev pub Exact : List Float → Affine → Type 0
Exact table form = (p : ℕ) × (q : ℕ) × Adds table form.bias p q form.terms

-- an op of the value x: "a form, or left times max(0, gate)"
abbrev pub OpExact : List Float → Float → Op → Type 0
OpExact table x (affine form) = Exact table form × (x ≡ value_in table form)
OpExact table x (reglu left gate) = Exact table left × Exact table gate
    × ((l : ℕ) × (p : ℕ) × (q : ℕ) × Is (value_in table left) l 0 × Is (value_in table gate) p q × Is x (l * (p - q)) 0)
OpExact table x neither = ⊥

-- "of every form": those of each op, whose value stands past the cells, and the output forms
pub record DropsNothing (s : Stored) (table : List Float) : Type 0 where
  pub ops : (k : ℕ) → k < s.counts.ops
      → OpExact table (get_or table (s.counts.cells + k) nan) (op_at s.nums s.biases s.wires s.coefs k)
  pub outputs : (k : ℕ) → k < output_count s.counts → Exact table (output_at s.nums s.biases s.wires s.coefs k)

-- the clauses together, of the circuit s of a tree and of a tick: "no tick is refused", "each tick's answers and the state it leaves are those of
-- the direct walk", and the others
pub record Sure (s : Stored) (f : Forest ℕ) (t : Tick) : Type 0 where
  pub walks : t.out ≡ outcome (Ok tt) (walked s f t.row t.lent)
  pub one_of_three : OneOfThree s t.out.left.values (fates_of f t.lent.flags t.lent.cursors t.row)
  pub apart : NeverBoth s t.out.left
  pub exact : DropsNothing s t.out.left.values
