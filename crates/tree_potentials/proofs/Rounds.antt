-- The potential of the least node of a cycle: what the rows give there is that of the piece.
use Rattle.std.specs.Prelude.{◌≡◌, ◌≢◌, ◌<◌, ℕ, List, [], ◌∷◌, length, slice_index, Ok, Err}
use Rattle.std.proofs.Common.{refl, sym, ap, ap₂, subst, ◌∙◌, inl, inr}
use Rattle.gain_graphs.specs.Arcs.{IsIn}
use Rattle.gain_graphs.specs.Cycles.{Joins, IsWay}
use Rattle.np_frac.specs.Ratio.{Ratio, zero_ratio, one_ratio, negated, inverse, ◌+ᵣ◌, ◌*ᵣ◌}
use Rattle.np_frac.specs.Exact.{minus_of, over_of, ◌▷◌}
use Rattle.np_frac.specs.declared.frac.Past.{Past}
use Rattle.np_frac.proofs.Exactness.{minus_exact, over_exact, found_by}
use Rattle.np_frac.proofs.RatioLaws.{+ᵣ_assoc, +ᵣ-zero, zero-+ᵣ, *ᵣ_comm, *ᵣ-+ᵣ, one-*ᵣ}
use Rattle.np_frac.proofs.Field.{+ᵣ-negated, *ᵣ-one}
use Rattle.gain_graphs.proofs.Algebra as algebra
use Rattle.np_model.specs.declared.arc.Ends.{Ends}
use Rattle.np_model.specs.declared.rows.Row.{Row}
use Rattle.np_model.specs.declared.rows.Row.TheVariants.{A3, A7}
use Rattle.np_model.specs.declared.rows.Overflow.{Overflow}
use Rattle.np_model.specs.declared.rows.Place.TheVariants.{Turn}
use Rattle.np_model.specs.Network.Flows.{at}
use Rattle.np_model.specs.Basis.Graphs.{ratios, graph_of}
use Rattle.np_model.specs.Rows.Extra.{Round}
use Rattle.np_model.specs.Rows.Potentials as rows
use Rattle.np_model.specs.Rows.Potentials.{across, scaled_across}
use Rattle.tree_search.specs.declared.piece.Step.{Step}
use Rattle.tree_search.specs.Places.{numbers_of_nodes, number_by_place, ends_by_place}
use Rattle.tree_search.specs.Finding.{Follows, way_of}
use Rattle.tree_potentials.specs.Along.{IsWithin, overflow_at_turn, in_row, product_of, over_step, potential_of, divisor_of, root_of}
use Rattle.tree_potentials.proofs.Links.{Crosses, parts_across, over_times}
use Rattle.np_frac.proofs.Results.{same_then, refused_by}
use Rattle.tree_potentials.proofs.Results.{row_ok, row_err, next_ok, next_err}

module _ (ends : ℕ → Ends) (cost : ℕ → Ratio) (nodes own : List ℕ) (p : ℕ → Ratio)
    (crosses : (a u v : ℕ) → IsIn a own → Joins (graph_of ends a) u v → Crosses nodes (ends a) (cost a) p u v) where
  -- behind a way the potential is still one part and another times q
  pub parts_along : (way : List (ℕ × ℕ)) (u v : ℕ) (q a b r s : Ratio) → IsWay (graph_of ends) own u way v → p u ≡ a +ᵣ b *ᵣ q
      → rows.potential_along ends cost u way a ≡ Ok r → rows.product_along ends cost u way b ≡ Ok s → p v ≡ r +ᵣ s *ᵣ q
  parts_along [] u v q a b r s w is e f = ap p (sym w) ∙ is ∙ (let g : a ≡ r = cc in let h : b ≡ s = cc in ap₂ (λ y z. y +ᵣ z *ᵣ q) g h)
  parts_along (x ∷ way) u v q a b r s w is e f =
      let m = found_by (across (ends x.0) (cost x.0) u a) (rows.potential_along ends cost x.1 way) r e in
      let n = found_by (scaled_across (ends x.0) u b) (rows.product_along ends cost x.1 way) s f in
      parts_along way x.1 v q m.0 n.0 r s w.2 (parts_across nodes (ends x.0) (cost x.0) p u x.1 q a b m.0 n.0 (crosses x.0 u x.1 w.0 w.1) is m.1 n.1) m.2 n.2

  -- q = sum + product q
  closes : (q sum product last r : Ratio) → q ≡ sum +ᵣ product *ᵣ q → last ≡ one_ratio +ᵣ negated product → last ≢ zero_ratio → r ≡ sum *ᵣ inverse last → r ≡ q
  closes q sum product last r is l n e =
      let f : q *ᵣ last ≡ sum =
      ap (λ t. q *ᵣ t) l ∙ *ᵣ-+ᵣ q one_ratio (negated product) ∙ ap₂ (λ y z. y +ᵣ z) (*ᵣ-one q) (algebra.times_negated ratios q product ∙ ap negated (*ᵣ_comm q product))
      ∙ ap (λ t. t +ᵣ negated (product *ᵣ q)) is ∙ +ᵣ_assoc sum (product *ᵣ q) (negated (product *ᵣ q)) ∙ ap (λ t. sum +ᵣ t) (+ᵣ-negated (product *ᵣ q)) ∙ +ᵣ-zero sum in
      e ∙ ap (λ t. t *ᵣ inverse last) (sym f) ∙ over_times q last n

  -- so the quotient is the potential of the least node
  pub root_is : (k : ℕ) (way : List (ℕ × ℕ)) (r : Ratio) → IsWay (graph_of ends) own k way k → ((last : Ratio) → rows.divisor ends cost k way ≡ Ok last → last ≢ zero_ratio)
      → rows.root_potential ends cost (Round k way) ≡ Ok r → r ≡ p k
  root_is k way r w apart e =
      let m = found_by (rows.potential_along ends cost k way zero_ratio) (λ sum. rows.divisor ends cost k way ▷ over_of sum) r e in
      let n = found_by (rows.divisor ends cost k way) (over_of m.0) r m.2 in
      let b = found_by (rows.product_along ends cost k way one_ratio) (minus_of one_ratio) n.0 n.1 in
      closes (p k) m.0 b.0 n.0 r
      (parts_along way k k (p k) zero_ratio one_ratio m.0 b.0 w (sym (zero-+ᵣ (one_ratio *ᵣ p k) ∙ one-*ᵣ (p k))) m.1 b.1)
      (minus_exact one_ratio b.0 n.0 b.2) (apart n.0 n.1) (over_exact m.0 n.0 r n.2)

-- ---- by places

module _ (ends : ℕ → Ends) (cost : ℕ → Ratio) (nodes : List (ℕ × Ratio)) (basics : List (ℕ × Ends × Ratio)) (costs : List Ratio)
    (of : (a : ℕ) → a < length basics → (ends (number_by_place basics a) ≡ ends_by_place basics a) × (cost (number_by_place basics a) ≡ at costs a)) where
  abbrev way : List Step → List (ℕ × ℕ)
  way cycle = way_of (numbers_of_nodes nodes) basics cycle

  -- the operation over a step is that over its arc
  pub step_is : (s : Step) (u : ℕ) (q : Ratio) → IsWithin nodes basics s → slice_index (numbers_of_nodes nodes) s.near ≡ u
      → over_step nodes basics costs s q ≡ across (ends (number_by_place basics s.arc)) (cost (number_by_place basics s.arc)) u q
  step_is s u q within is =
      let o = of s.arc within.0 in
      ap (λ e. across e (at costs s.arc) (slice_index (numbers_of_nodes nodes) s.near) q) (sym o.0) ∙ ap₂ (λ c w. across (ends (number_by_place basics s.arc)) c w q) (sym o.1) is

  product_is : (u : ℕ) (cycle : List Step) (b : Ratio) → Follows (numbers_of_nodes nodes) u cycle → ((s : Step) → IsIn s cycle → IsWithin nodes basics s)
      → product_of nodes basics cycle b ≡ rows.product_along ends cost u (way cycle) b
  product_is u [] b f within = refl
  product_is u (s ∷ cycle) b f within =
      ap (λ t. t ▷ product_of nodes basics cycle) (ap₂ (λ e w. scaled_across e w b) (sym (of s.arc (within s (inl refl)).0).0) f.0)
      ∙ same_then (scaled_across (ends (number_by_place basics s.arc)) u b) (product_of nodes basics cycle) (rows.product_along ends cost (slice_index (numbers_of_nodes nodes) s.far) (way cycle))
      (λ x. product_is (slice_index (numbers_of_nodes nodes) s.far) cycle x f.1 (λ t i. within t (inr i)))

  potential_is : (u : ℕ) (cycle : List Step) (q : Ratio) → Follows (numbers_of_nodes nodes) u cycle → ((s : Step) → IsIn s cycle → IsWithin nodes basics s)
      → potential_of nodes basics costs cycle q ≡ rows.potential_along ends cost u (way cycle) q
  potential_is u [] q f within = refl
  potential_is u (s ∷ cycle) q f within =
      ap (λ t. t ▷ potential_of nodes basics costs cycle) (step_is s u q (within s (inl refl)) f.0)
      ∙ same_then (across (ends (number_by_place basics s.arc)) (cost (number_by_place basics s.arc)) u q) (potential_of nodes basics costs cycle) (rows.potential_along ends cost (slice_index (numbers_of_nodes nodes) s.far) (way cycle))
      (λ x. potential_is (slice_index (numbers_of_nodes nodes) s.far) cycle x f.1 (λ t i. within t (inr i)))

  module _ (k : ℕ) (cycle : List Step) (f : Follows (numbers_of_nodes nodes) k cycle) (within : (s : Step) → IsIn s cycle → IsWithin nodes basics s) where
    pub divisor_is : divisor_of nodes basics cycle ≡ rows.divisor ends cost k (way cycle)
    divisor_is = ap (λ t. t ▷ minus_of one_ratio) (product_is k cycle one_ratio f within)

    -- what the code finds is what the rows give
    pub root_found : (r : Ratio) → root_of nodes basics costs cycle ≡ Ok r → rows.root_potential ends cost (Round k (way cycle)) ≡ Ok r
    root_found r e =
        let m = next_ok (in_row A3 (divisor_of nodes basics cycle)) (λ last. in_row A7 (potential_of nodes basics costs cycle zero_ratio ▷ λ sum. over_of sum last)) r e in
        let n = found_by (potential_of nodes basics costs cycle zero_ratio) (λ sum. over_of sum m.0) r (row_ok A7 (potential_of nodes basics costs cycle zero_ratio ▷ λ sum. over_of sum m.0) r m.2) in
        ap (λ t. t ▷ λ sum. rows.divisor ends cost k (way cycle) ▷ over_of sum) (sym (potential_is k cycle zero_ratio f within) ∙ n.1)
        ∙ ap (λ t. t ▷ over_of n.0) (sym divisor_is ∙ row_ok A3 (divisor_of nodes basics cycle) m.0 m.1) ∙ n.2

    -- and what it refuses overflows there
    pub root_refused : (own : List ℕ) (p : ℕ → Ratio) (o : Overflow) → root_of nodes basics costs cycle ≡ Err o
        → (o.place ≡ Turn) × rows.Gives ends cost own (Round k (way cycle)) p o.row o.past
    root_refused own p o e = elim (next_err (in_row A3 (divisor_of nodes basics cycle)) (λ last. in_row A7 (potential_of nodes basics costs cycle zero_ratio ▷ λ sum. over_of sum last)) o e) [
      | inl l ↦ (let m = row_err A3 (divisor_of nodes basics cycle) o l in told A3 m.0 o m.2 (rows.product k (way cycle) m.0 refl (sym divisor_is ∙ m.1)))
      | inr r ↦ (let m = row_err A7 (potential_of nodes basics costs cycle zero_ratio ▷ λ sum. over_of sum r.0) o r.2 in
          told A7 m.0 o m.2 (elim (refused_by (potential_of nodes basics costs cycle zero_ratio) (λ sum. over_of sum r.0) m.0 m.1) [
            | inl s ↦ rows.sum k (way cycle) m.0 refl (sym (potential_is k cycle zero_ratio f within) ∙ s)
            | inr s ↦ rows.quotient k (way cycle) m.0 s.0 r.0 refl (sym (potential_is k cycle zero_ratio f within) ∙ s.1) (sym divisor_is ∙ row_ok A3 (divisor_of nodes basics cycle) r.0 r.1) s.2
          ]))
    ]
      where
        told : (row : Row) (past : Past) (o : Overflow) → o ≡ overflow_at_turn row past → rows.Gives ends cost own (Round k (way cycle)) p row past
            → (o.place ≡ Turn) × rows.Gives ends cost own (Round k (way cycle)) p o.row o.past
        told row past o e g = (ap (λ t. t.place) e, subst (λ (t : Overflow). rows.Gives ends cost own (Round k (way cycle)) p t.row t.past) (sym e) g)
