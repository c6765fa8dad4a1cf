-- What a form means: a bias and a list of terms, read off the two pools. Document 01, "Cells and forms".
use Rattle.std.specs.Prelude.{ℕ, ◌+◌, List, [], ◌∷◌, cond, length, get_or, take, drop, leb, Float}
use Rattle.std.specs.Float.{nan, binary32}
use Rattle.std.specs.Float.Ieee.{add, mul}
use Rattle.wire.specs.declared.Form.{Form}
use Rattle.wire.specs.declared.Term.{Term}
use Rattle.lists.specs.Each.{each}

-- the term at an index of the pools
abbrev pub term_at : List ℕ → List Float → ℕ → Term
term_at wires coefs i = record { wire = record { 0 = get_or wires i 0 }; coef = get_or coefs i nan }

-- the n terms from index i on
unfoldable pub part : List ℕ → List Float → ℕ → ℕ → List Term
unfolding each
part wires coefs i n = each (term_at wires coefs) i n

-- the terms of a form that lies in the pools
abbrev pub terms_of : List ℕ → List Float → Form → List Term
terms_of wires coefs f = part wires coefs f.first f.len

-- "A form is a bias and weighted wires"
pub record Affine : Type 0 where
  pub bias : Float
  pub terms : List Term

abbrev pub meaning : List ℕ → List Float → Form → Affine
meaning wires coefs f = record { bias = f.bias; terms = terms_of wires coefs f }

-- a form with no terms
abbrev pub constant_form : Float → Form
constant_form bias = record { bias = bias; first = 0; len = 0 }

-- "A caller who asks for a form's terms gets that part of the lent pool itself, or an empty part if the form points past the pool."
unfoldable pub look_up : {A : Type 0} → Form → List A → List A
look_up f pool = cond (leb (f.first + f.len) (length pool)) (take f.len (drop f.first pool)) []

-- coefficient times value of each term, added to a total in the list's order, each product and each sum rounded once
unfoldable pub added : List Float → List Term → Float → Float
added table [] total = total
added table (t ∷ ts) total = added table ts (add binary32 total (mul binary32 t.coef (get_or table t.wire.0 nan)))

-- "Its value is the bias, then coefficient times value added in wire order."
abbrev pub value_in : List Float → Affine → Float
value_in table a = added table a.terms a.bias
