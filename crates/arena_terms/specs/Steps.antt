-- What writing terms to the two pools does: terms put at an index, and one step of a merge. Inner: the shape of the code; nobody need believe it.
use Rattle.std.specs.Prelude.{ℕ, ◌+◌, ◌<◌, ◌≡◌, List, ◌∷◌, map, length, Float}
use Rattle.std.proofs.lemmas.List.Edits.{sets}
use Rattle.wire.specs.declared.Form.{Form}
use Rattle.wire.specs.declared.Term.{Term}
use Rattle.wire.specs.Terms.{terms_of}
use Rattle.arena_terms.specs.declared.terms.Next.{Next}
use Rattle.arena_terms.specs.Sums.{merge}

-- the two pools of a list of terms
abbrev pub wires_in : List Term → List ℕ
wires_in ts = map (λ (t : Term). t.wire.0) ts

abbrev pub coefs_in : List Term → List Float
coefs_in ts = map (λ (t : Term). t.coef) ts

-- the pools ws and cs become ws' and cs' by writing the terms ts from index at on, and nothing else; next is the index past them
pub record Put (ws : List ℕ) (cs : List Float) (at : ℕ) (ts : List Term) (ws' : List ℕ) (cs' : List Float) (next : ℕ) : Type 0 where
  pub wires : ws' ≡ sets ws at (wires_in ts)
  pub coefs : cs' ≡ sets cs at (coefs_in ts)
  pub used : next ≡ at + length ts

-- one term taken off one form or one off each
pub record Stepped (ws : List ℕ) (cs : List Float) (a b : Form) (r : Next) : Type 0 where
  pub merged : merge (terms_of ws cs a) (terms_of ws cs b) ≡ r.term ∷ merge (terms_of ws cs r.a) (terms_of ws cs r.b)
  pub a_end : r.a.first + r.a.len ≡ a.first + a.len
  pub b_end : r.b.first + r.b.len ≡ b.first + b.len
  pub fewer : r.a.len + r.b.len < a.len + b.len
