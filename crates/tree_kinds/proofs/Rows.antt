-- The table of kinds follows document 01's ranges, and what that says of a row.
use Rattle.std.proofs.Common.{◌≡◌, refl, ap, sym, ◌∙◌, Bool, true, false, Option, Some, None, option_map, ℕ, zero, suc, ◌≤◌, ◌<◌, arith, length}
use Rattle.std.proofs.Common.{rules, le-ltb, ltb, ltb-true, ltb-false, leb, leb-true, IfSome}
use Rattle.std.proofs.lemmas.Option.{slice_get_past, same_Some, none-some, MatchOption-at_some}
use Rattle.tree_kinds.specs.declared.Family.{Family}
use Rattle.tree_kinds.specs.declared.Family.TheVariants.{Composite}
use Rattle.tree_kinds.specs.Kinds.{Entry, rows, row_of, family_by, length_by}
use Rattle.tree_kinds.proofs.Table.{at}

abbrev family : Entry → Family
family row = row.family

abbrev size : Entry → ℕ
size row = row.size

abbrev Right : ℕ → Option Entry → Type 0
Right kind row = (option_map family row ≡ family_by kind) × (option_map size row ≡ option_map length_by (family_by kind))

beyond : (kind : ℕ) → 18 < kind → row_of kind ≡ None
unfolding row_of rows
beyond zero h = absurd (omega arith)
beyond (suc i) h = slice_get_past rows i (omega arith)

-- each kind's family and length are those of its range
pub table_rule : (kind : ℕ) → Right kind (row_of kind)
unfolding row_of rows
table_rule zero = (refl, refl)
table_rule (suc i) = go (ltb i 18) refl
  where
    go : (b : Bool) → ltb i 18 ≡ b → Right (suc i) (row_of (suc i))
    go true e = at (λ k. Right (suc k)) rows (search rules depth 40) i (ltb-true i 18 e)
    go false e =
        let h = ltb-false i 18 e in
        rw (beyond (suc i) (omega arith), le-ltb (suc i) 1 (omega arith), le-ltb (suc i) 4 (omega arith), le-ltb (suc i) 8 (omega arith), le-ltb (suc i) 11 (omega arith), le-ltb (suc i) 19 (omega arith))
        (refl, refl)

-- what the table says of a row that it has
pub follows : (kind : ℕ) (row : Entry) → row_of kind ≡ Some row → (family_by kind ≡ Some row.family) × (row.size ≡ length_by row.family)
follows kind row e =
    let family_is : family_by kind ≡ Some row.family = sym (table_rule kind).0 ∙ ap (option_map family) e in
    let size_is : Some row.size ≡ Some (length_by row.family)
    = sym (ap (option_map size) e) ∙ (table_rule kind).1 ∙ ap (option_map length_by) family_is in
    (family_is, same_Some _ _ size_is)

-- a kind that has a row is at most 18
pub known : (kind : ℕ) (row : Entry) → row_of kind ≡ Some row → kind ≤ 18
known kind row e = go (ltb 18 kind) refl
  where
    go : (b : Bool) → ltb 18 kind ≡ b → kind ≤ 18
    go true t = absurd (none-some row (sym (beyond kind (ltb-true 18 kind t)) ∙ e))
    go false t = ltb-false 18 kind t

-- a composite's record has four bytes after its length
pub composite_length : (kind : ℕ) (row : Entry) → row_of kind ≡ Some row → row.family ≡ Composite → row.size ≡ 4
composite_length kind row e f = (follows kind row e).1 ∙ ap length_by f

-- the longest name has 23 bytes
abbrev Short : ℕ → Option Entry → Type 0
Short kind row = IfSome row (λ r. leb (length r.name) 23 ≡ true)

short : (kind : ℕ) → Short kind (row_of kind)
unfolding row_of rows
short zero = tt
short (suc i) = go (ltb i 18) refl
  where
    go : (b : Bool) → ltb i 18 ≡ b → Short (suc i) (row_of (suc i))
    go true e = at Short rows (search rules depth 40) i (ltb-true i 18 e)
    go false e = rw (beyond (suc i) (omega (arith, ltb-false i 18 e))) tt

pub name_fits : (kind : ℕ) (row : Entry) → row_of kind ≡ Some row → length row.name ≤ 23
name_fits kind row e = leb-true (length row.name) 23 (MatchOption-at_some _ _ row e (short kind))
