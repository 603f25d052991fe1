-- The nodes of which something is said, and the others.
use Rattle.std.specs.Prelude.{◌≡◌, ◌<◌, ◌+◌, ◌++◌, ℕ, zero, suc, Bool, true, false, not, cond, List, [], ◌∷◌, drop, length, slice_index, slice_index_or}
use Rattle.std.specs.Bool.{beq}
use Rattle.std.specs.List.Sorted.{IsStrictlyIncreasing}
use Rattle.std.proofs.Common.{refl, sym, ap, subst, ◌∙◌, inl, inr, arith, true≢false, add-one}
use Rattle.gain_graphs.specs.Arcs.{IsIn}
use Rattle.gain_graphs.proofs.Lists.{in_map, in_map_of}
use Rattle.np_basis.proofs.Ascending.{Ascends, ascends, rises}
use Rattle.np_frac.specs.Ratio.{Ratio}
use Rattle.np_model.specs.declared.arc.Ends.{Ends}
use Rattle.np_model.specs.declared.log.Mark.{Mark}
use Rattle.np_model.specs.Basis.Pieces.{PieceLists}
use Rattle.tree_search.specs.Places.{numbers_of_nodes, ends_of_arcs}
use Rattle.piece_lists.specs.Parts.{nodes_where, IsReached, AreFound, piece_at, pieces_at}

other : (b : Bool) → not b ≡ true → b ≡ false
other true h = absurd (true≢false (sym h))
other false h = refl

-- a node of which it is not said is left out
left_out : (said : Bool) (nodes : List (ℕ × Ratio)) (seen : List Bool) (i : ℕ) → length seen ≡ length nodes → i < length nodes → beq (slice_index_or seen i false) said ≡ false
    → nodes_where said (drop (suc i) nodes) (drop (suc i) seen) ≡ nodes_where said (drop i nodes) (drop i seen)
left_out said [] seen i h l e = absurd (omega arith)
left_out said (n ∷ nodes) [] i h l e = absurd (omega arith)
left_out said (n ∷ nodes) (s ∷ seen) zero h l e = sym (ap (λ b. cond b (n ∷ nodes_where said nodes seen) (nodes_where said nodes seen)) e)
left_out said (n ∷ nodes) (s ∷ seen) (suc i) h l e = left_out said nodes seen i (omega arith) (omega arith) e

pub goes_on : (said : Bool) (nodes list whole : List (ℕ × Ratio)) (seen : List Bool) (i : ℕ) → length seen ≡ length nodes → i < length nodes → not (beq (slice_index_or seen i false) said) ≡ true
    → list ++ nodes_where said (drop i nodes) (drop i seen) ≡ whole → list ++ nodes_where said (drop (i + 1) nodes) (drop (i + 1) seen) ≡ whole
goes_on said nodes list whole seen i h l e w =
    subst (λ t. list ++ nodes_where said (drop t nodes) (drop t seen) ≡ whole) (sym (add-one i)) (ap (λ t. list ++ t) (left_out said nodes seen i h l (other (beq (slice_index_or seen i false) said) e)) ∙ w)

-- ---- which nodes stand there

-- a node of the list is one of which it is said
pub where_to : (said : Bool) (nodes : List (ℕ × Ratio)) (seen : List Bool) (n : ℕ × Ratio) → IsIn n (nodes_where said nodes seen)
    → IsIn n nodes × ((p : ℕ) × (p < length (numbers_of_nodes nodes)) × (slice_index (numbers_of_nodes nodes) p ≡ n.0) × (beq (slice_index_or seen p false) said ≡ true))
where_to said [] seen n i = absurd i
where_to said (m ∷ nodes) [] n i = absurd i
where_to said (m ∷ nodes) (s ∷ seen) n i = go (where_to said nodes seen n) (beq s said) refl i
  where
    Stands : List (ℕ × Ratio) → List Bool → Type 0
    Stands nodes seen = IsIn n nodes × ((p : ℕ) × (p < length (numbers_of_nodes nodes)) × (slice_index (numbers_of_nodes nodes) p ≡ n.0) × (beq (slice_index_or seen p false) said ≡ true))

    later : Stands nodes seen → Stands (m ∷ nodes) (s ∷ seen)
    later r = (inr r.0, (suc r.1.0, omega (arith, r.1.1), r.1.2, r.1.3))

    go : (IsIn n (nodes_where said nodes seen) → Stands nodes seen) → (b : Bool) → beq s said ≡ b → IsIn n (cond b (m ∷ nodes_where said nodes seen) (nodes_where said nodes seen)) → Stands (m ∷ nodes) (s ∷ seen)
    go rest true e (inl f) = (inl f, (0, omega arith, ap (λ (t : ℕ × Ratio). t.0) (sym f), e))
    go rest true e (inr k) = later (rest k)
    go rest false e k = later (rest k)

-- and each of which it is said stands there
pub where_from : (said : Bool) (nodes : List (ℕ × Ratio)) (seen : List Bool) (p : ℕ) → length seen ≡ length (numbers_of_nodes nodes) → p < length (numbers_of_nodes nodes) → beq (slice_index_or seen p false) said ≡ true
    → IsIn (slice_index (numbers_of_nodes nodes) p) (numbers_of_nodes (nodes_where said nodes seen))
where_from said [] seen p h l e = absurd (omega arith)
where_from said (m ∷ nodes) [] p h l e = absurd (omega arith)
where_from said (m ∷ nodes) (s ∷ seen) zero h l e = subst (λ b. IsIn m.0 (numbers_of_nodes (cond b (m ∷ nodes_where said nodes seen) (nodes_where said nodes seen)))) (sym e) (inl refl)
where_from said (m ∷ nodes) (s ∷ seen) (suc p) h l e = go (where_from said nodes seen p (omega arith) (omega arith) e) (beq s said)
  where
    go : IsIn (slice_index (numbers_of_nodes nodes) p) (numbers_of_nodes (nodes_where said nodes seen)) → (b : Bool)
        → IsIn (slice_index (numbers_of_nodes nodes) p) (numbers_of_nodes (cond b (m ∷ nodes_where said nodes seen) (nodes_where said nodes seen)))
    go i true = inr i
    go i false = i

where_ascends : (said : Bool) (nodes : List (ℕ × Ratio)) (seen : List Bool) → Ascends (numbers_of_nodes nodes) → Ascends (numbers_of_nodes (nodes_where said nodes seen))
where_ascends said [] seen a = record {}
where_ascends said (m ∷ nodes) [] a = record {}
where_ascends said (m ∷ nodes) (s ∷ seen) a = go (where_ascends said nodes seen a.1) (beq s said)
  where
    go : Ascends (numbers_of_nodes (nodes_where said nodes seen)) → (b : Bool) → Ascends (numbers_of_nodes (cond b (m ∷ nodes_where said nodes seen) (nodes_where said nodes seen)))
    go rest true = (
      (λ u i. let r = in_map_of (λ (n : ℕ × Ratio). n.0) u (nodes_where said nodes seen) i in
          a.0 u (subst (λ t. IsIn t (numbers_of_nodes nodes)) (sym r.2) (in_map (λ (n : ℕ × Ratio). n.0) r.0 nodes (where_to said nodes seen r.0 r.1).0))),
      rest,
    )
    go rest false = rest

pub where_rises : (said : Bool) (nodes : List (ℕ × Ratio)) (seen : List Bool) → IsStrictlyIncreasing (numbers_of_nodes nodes) → IsStrictlyIncreasing (numbers_of_nodes (nodes_where said nodes seen))
where_rises said nodes seen h = rises (numbers_of_nodes (nodes_where said nodes seen)) (where_ascends said nodes seen (ascends (numbers_of_nodes nodes) h))

-- ---- what the code has made

two_at : (ends : ℕ → Ends) (one others : List (ℕ × Ratio)) (basics : List (ℕ × Ends × Ratio)) (marks : List (ℕ × Mark)) → (¬ (length others ≡ 0)) → pieces_at ends one others basics marks ≡ piece_at ends one basics marks ∷ piece_at ends others basics marks ∷ []
two_at ends one [] basics marks n = absurd (n refl)
two_at ends one (o ∷ others) basics marks n = refl

pub found_two : (ends : ℕ → Ends) (nodes : List (ℕ × Ratio)) (basics : List (ℕ × Ends × Ratio)) (marks : List (ℕ × Mark)) (seen : List Bool) (one others : List (ℕ × Ratio)) (p q : PieceLists)
    → IsReached (numbers_of_nodes nodes) (ends_of_arcs basics) seen → one ≡ nodes_where true nodes seen → others ≡ nodes_where false nodes seen → (¬ (length others ≡ 0)) → p ≡ piece_at ends one basics marks
    → q ≡ piece_at ends others basics marks → AreFound ends nodes basics marks (p ∷ q ∷ [])
found_two ends nodes basics marks seen one others p q r a b n e f = record {
  seen = seen;
  reached = r;
  are = ap (λ x. x ∷ q ∷ []) e ∙ ap (λ x. piece_at ends one basics marks ∷ x ∷ []) f ∙ sym (two_at ends one others basics marks n)
      ∙ ap (λ x. pieces_at ends x others basics marks) a ∙ ap (λ x. pieces_at ends (nodes_where true nodes seen) x basics marks) b;
}
