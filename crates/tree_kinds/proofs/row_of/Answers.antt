-- `tree_kinds::row_of` meets its contract: inside the table the row is that of the definition, and outside it there is none.
use Rattle.std.proofs.Common.{rules, refl, ◌≡◌, option_map, option_copied, slice_get, ℕ, suc, sym, length, map, Option, None, Some, List, arith, Bor}
use Rattle.std.proofs.lemmas.Option.{slice_get-map, slice_get_past, slice_get_read}
use Rattle.std.specs.Slice.{IsItemAt}
use Rattle.tree_kinds.specs.declared.Row.{Row}
use Rattle.tree_kinds.specs.Kinds.{shown, row_of, rows}
use Rattle.tree_kinds.proofs.row_of.Goals as goal

none : (kind : ℕ) (r : Option Row) → kind ≡ 0 → r ≡ None → option_map shown r ≡ row_of kind
unfolding row_of
none kind r e n = rw (e, n)

lent : (xs : List Row) (i : ℕ) (r : Option (Bor Row)) → IsItemAt xs i r → option_copied r ≡ slice_get xs i
lent xs i None it = sym (slice_get_past xs i it.3)
lent xs i (Some x) it = sym (slice_get_read xs (length xs) i x.now refl it.3.0 it.1)

some : (kind i : ℕ) (xs : List Row) (r : Option (Bor Row)) (o : Option Row) → IsItemAt xs i r → o ≡ option_copied r → kind ≡ suc i → map shown xs ≡ rows
    → option_map shown o ≡ row_of kind
unfolding row_of
some kind i xs r o it e k t = rw (k, e, lent xs i r it, ← slice_get-map shown xs i, t) refl

pub returns-in_err-i : goal.returns-in_err-i
returns-in_err-i c = none _ _ (omega (arith, c.in_err-i.ensures)) c.from_residual.ensures

pub returns : goal.returns
unfolding rows
returns c =
    let k : c.args.kind ≡ suc c.in_ok-i.i = omega (arith, c.in_ok-i.ensures) in
    search (rules, some)
