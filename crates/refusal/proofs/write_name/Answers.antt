-- `refusal::write_name` meets its contract: the name out of the table, which has at most 23 bytes.
use Rattle.std.proofs.Common.{sym, ap, length, arith, ◌≤◌, rules}
use Rattle.tree_kinds.proofs.Rows.{name_fits}
use Rattle.refusal.proofs.write_name.Goals as goal

pub append-requires : goal.append-requires
append-requires c =
    let short : length c.in-Some.row.name.now ≤ 23 = name_fits _ _ (sym c.in-Some.ensures) in
    omega (arith, ap length c.as_bytes.ensures.value)

pub returns-in-Some : goal.returns-in-Some
returns-in-Some c =
    let short : length c.in-Some.row.name.now ≤ 23 = name_fits _ _ (sym c.in-Some.ensures) in
    search rules
