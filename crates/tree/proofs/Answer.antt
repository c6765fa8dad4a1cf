-- What `flatten` answers and leaves, from what `read_tree` answers and leaves.
use Rattle.std.proofs.Common.{◌≡◌, refl, ◌∙◌, ap, ◌⊎◌, inl, inr, true, false, List, Result, Err, is_err, ℕ, ◌≤◌, ◌<◌, arith, le-ltb, lt-ltb, length}
use Rattle.std.proofs.Common.{replicate}
use Rattle.std.proofs.Math.ListN.{length-replicate}
use Rattle.tree_record.specs.declared.refusal.Cause.TheVariants.{ShortRoom}
use Rattle.tree_record.specs.declared.refusal.Refusal.{Refusal}
use Rattle.tree.specs.Tree.{Parsed, accepted, refused, refused_at, tree_of, flat_of, answer_of, kinds_in, counts_in, padded, Written}

-- what `flatten` promises, by the parse t
pub record Flat (t : Parsed) (nk nc : ℕ) (r : Result ℕ Refusal) (ks cs : List ℕ) : Type 0 where
  pub value : r ≡ answer_of t
  pub kinds_after : ks ≡ kinds_in nk t
  pub counts_after : cs ≡ counts_in nc t

pub room : (nk nc : ℕ) (s : List ℕ) → 128 ≤ nk → 128 ≤ nc → flat_of nk nc s ≡ tree_of s
unfolding flat_of
room nk nc s h l = rw (le-ltb nk 128 h, le-ltb nc 128 l)

-- too few slots of either, which are zeroed all the same
pub flat_short : (nk nc : ℕ) (s ks cs : List ℕ) → (length ks < 128) ⊎ ((128 ≤ length ks) × (length cs < 128)) → ks ≡ replicate nk 0 → cs ≡ replicate nc 0
    → Flat (flat_of nk nc s) nk nc (Err (record { cause = ShortRoom; place = 0 })) ks cs
unfolding flat_of
flat_short nk nc s ks cs e k c = rw (short e) (record { value = refl; kinds_after = k; counts_after = c })
  where
    lk : length ks ≡ nk
    lk = ap length k ∙ length-replicate nk 0

    lc : length cs ≡ nc
    lc = ap length c ∙ length-replicate nc 0

    short : (length ks < 128) ⊎ ((128 ≤ length ks) × (length cs < 128)) → flat_of nk nc s ≡ refused_at ShortRoom 0
    short (inl h) = rw (lt-ltb nk 128 (omega (arith, lk)))
    short (inr h) = rw (le-ltb nk 128 (omega (arith, lk)), lt-ltb nc 128 (omega (arith, lc)))

-- refused: the slots were zeroed again
refused_left : (t : Parsed) (nk nc : ℕ) (r : Result ℕ Refusal) (ks cs : List ℕ) → r ≡ answer_of t → is_err r ≡ true → ks ≡ replicate nk 0 → cs ≡ replicate nc 0
    → Flat t nk nc r ks cs
refused_left (accepted kinds counts) nk nc r ks cs e h k c = absurd (cc)
refused_left (refused refusal) nk nc r ks cs e h k c = record { value = e; kinds_after = k; counts_after = c }

-- accepted: the slots are as `read_tree` left them
accepted_left : (t : Parsed) (nk nc : ℕ) (r : Result ℕ Refusal) (ks cs : List ℕ) → r ≡ answer_of t → is_err r ≡ false → Written t ks cs
    → length ks ≡ nk → length cs ≡ nc → Flat t nk nc r ks cs
accepted_left (accepted kinds counts) nk nc r ks cs e h w k c = record {
  value = e;
  kinds_after = w.0 ∙ ap (λ (n : ℕ). padded n kinds) k;
  counts_after = w.1 ∙ ap (λ (n : ℕ). padded n counts) c;
}
accepted_left (refused refusal) nk nc r ks cs e h w k c = absurd (cc)

module _ (nk nc : ℕ) (s : List ℕ) (r : Result ℕ Refusal) (ks cs : List ℕ) (rk : 128 ≤ nk) (rc : 128 ≤ nc) (e : r ≡ answer_of (tree_of s)) where
  pub flat_refused : is_err r ≡ true → ks ≡ replicate nk 0 → cs ≡ replicate nc 0 → Flat (flat_of nk nc s) nk nc r ks cs
  flat_refused h k c = rw (room nk nc s rk rc) (refused_left (tree_of s) nk nc r ks cs e h k c)

  pub flat_accepted : is_err r ≡ false → Written (tree_of s) ks cs → length ks ≡ nk → length cs ≡ nc → Flat (flat_of nk nc s) nk nc r ks cs
  flat_accepted h w k c = rw (room nk nc s rk rc) (accepted_left (tree_of s) nk nc r ks cs e h w k c)
