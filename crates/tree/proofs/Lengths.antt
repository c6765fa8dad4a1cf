-- A forest's pre-order lists are as long as it has nodes.
use Rattle.std.proofs.Common.{◌≡◌, refl, ◌∙◌, ap, suc, arith, length, length-append}
use Rattle.tree.specs.Forest.{Forest, none, node, size, preorder, counts}

pub preorder_length : {X : Type 0} (f : Forest X) → length (preorder f) ≡ size f
preorder_length none = refl
preorder_length (node x kids rest) = ap suc (length-append (preorder kids) (preorder rest) ∙ omega (arith, preorder_length kids, preorder_length rest))

pub counts_length : {X : Type 0} (f : Forest X) → length (counts f) ≡ size f
counts_length none = refl
counts_length (node x kids rest) = ap suc (length-append (counts kids) (counts rest) ∙ omega (arith, counts_length kids, counts_length rest))
