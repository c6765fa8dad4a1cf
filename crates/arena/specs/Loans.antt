-- That an operation leaves an arena lent what it was lent. Inner: what callers learn of the slices behind it; nobody need believe it.
use Rattle.std.specs.Prelude.{◌≡◌, length}
use Rattle.arena.specs.declared.Arena.{Arena}

abbrev pub LentAs : Arena → Arena → Type 0
LentAs a b =
    (b.wires.ghost_name ≡ a.wires.ghost_name) × (b.coefs.ghost_name ≡ a.coefs.ghost_name)
    × (length b.wires.now ≡ length a.wires.now) × (length b.coefs.now ≡ length a.coefs.now)
