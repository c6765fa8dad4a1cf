-- The code's `Flat` as the construction's: a node's family, and its child count where it may have any.
-- Inner: the shape of the code; nobody need believe it.
use Rattle.construct.specs.Lower as L
use Rattle.lower_passes.specs.declared.Flat.{Flat}

abbrev pub flat_of : Flat → L.Flat
flat_of Flat.Leaf = L.leaf
flat_of (Flat.Fixed own) = L.fixed own
flat_of Flat.Invert = L.invert
flat_of (Flat.Force own) = L.force own
flat_of (Flat.Ordered memory on n) = L.ordered memory on n
