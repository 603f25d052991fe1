-- The steps of the cycle but its last, and those of a search, in order outwards.
use Rattle.std.proofs.Common.{◌≡◌, ◌⊎◌, inl, inr, sym, ap, refl, ◌∙◌, subst, ℕ, suc, ◌-◌, List, [], ◌∷◌, ◌++◌, length, take, slice_index, arith}
use Rattle.gain_graphs.specs.Arcs.{IsIn}
use Rattle.gain_graphs.specs.Cycles.{nodes_along, IsWay}
use Rattle.gain_graphs.proofs.Lists.{in_front, in_back}
use Rattle.np_frac.specs.Ratio.{Ratio}
use Rattle.np_model.specs.declared.arc.Ends.{Ends}
use Rattle.np_model.specs.Basis.Graphs.{graph_of}
use Rattle.np_model.specs.Rows.Extra.{Extra, root, extra_nodes, IsOnRound, Leads}
use Rattle.tree_search.specs.declared.piece.Step.{Step}
use Rattle.tree_search.specs.declared.piece.ExtraArc.TheVariants as found
use Rattle.tree_search.specs.Places.{numbers_of_arcs, number_by_place}
use Rattle.tree_search.specs.Finding.{Follows, first_node, way_of, as_extra}
use Rattle.tree_search.specs.Outwards.{IsStepOver, LeadOn, AreInOrder, SearchesAreInOrder}
use Rattle.tree_search.proofs.Placed.{hops_of}
use Rattle.tree_search.proofs.Hanging
use Rattle.tree_search.proofs.Hops.{HopsOn}

-- all but the last
abbrev front : List Step → List Step
front [] = []
front (s ∷ []) = []
front (s ∷ t ∷ steps) = s ∷ front (t ∷ steps)

front_is : (steps : List Step) → take (length steps - 1) steps ≡ front steps
front_is [] = refl
front_is (s ∷ []) = refl
front_is (s ∷ t ∷ steps) =
    let e : length (s ∷ t ∷ steps) - 1 ≡ suc (length (t ∷ steps) - 1) = omega arith in
    ap (λ n. take n (s ∷ t ∷ steps)) e ∙ ap (λ l. s ∷ l) (front_is (t ∷ steps))

in_later : (nodes : List ℕ) (arcs : List (ℕ × Ends × Ratio)) (steps more : List Step) (a u v : ℕ) → IsStepOver nodes arcs more a u v → IsStepOver nodes arcs (steps ++ more) a u v
in_later nodes arcs steps more a u v o = record { step = o.step; is_in = in_back o.step steps more o.is_in; arc = o.arc; near = o.near; far = o.far }

in_earlier : (nodes : List ℕ) (arcs : List (ℕ × Ends × Ratio)) (steps more : List Step) (a u v : ℕ) → IsStepOver nodes arcs steps a u v → IsStepOver nodes arcs (steps ++ more) a u v
in_earlier nodes arcs steps more a u v o = record { step = o.step; is_in = in_front o.step steps more o.is_in; arc = o.arc; near = o.near; far = o.far }

module _ (ends : ℕ → Ends) (nodes : List ℕ) (arcs : List (ℕ × Ends × Ratio)) (x : Extra) where
  abbrev own : List ℕ
  own = numbers_of_arcs arcs

  lead_more : (steps : List Step) (seen more : List ℕ) → ((v : ℕ) → IsIn v seen → IsIn v more) → LeadOn ends nodes arcs x seen steps → LeadOn ends nodes arcs x more steps
  lead_more [] seen more sub g = record {}
  lead_more (s ∷ steps) seen more sub g = (
    sub (slice_index nodes s.near) g.0,
    g.1,
    lead_more steps (slice_index nodes s.far ∷ seen) (slice_index nodes s.far ∷ more) (λ v. elim [ inl e ↦ inl e | inr i ↦ inr (sub v i) ]) g.2,
  )

  -- the steps of a search
  lead_of : (steps : List Step) (seen : List ℕ) → HopsOn ends own seen (hops_of nodes arcs steps)
      → ((s : Step) → IsIn s steps → Leads ends own x (number_by_place arcs s.arc) (slice_index nodes s.near) (slice_index nodes s.far)) → LeadOn ends nodes arcs x seen steps
  lead_of [] seen g l = record {}
  lead_of (s ∷ steps) seen g l = (g.0, l s (inl refl), lead_of steps (slice_index nodes s.far ∷ seen) g.4 (λ t i. l t (inr i)))

  -- round the cycle
  on_step : (u : ℕ) (cycle : List Step) → Follows nodes u cycle → (a p q : ℕ) → IsOnRound u (way_of nodes arcs cycle) a p q → IsStepOver nodes arcs (front cycle) a p q
  on_step u [] f a p q o = absurd o
  on_step u (s ∷ []) f a p q o = absurd o
  on_step u (s ∷ t ∷ cycle) f a p q (inl m) = record { step = s; is_in = inl refl; arc = sym m.0; near = f.0 ∙ sym m.1; far = sym m.2 }
  on_step u (s ∷ t ∷ cycle) f a p q (inr m) =
      let r = on_step (slice_index nodes s.far) (t ∷ cycle) f.1 a p q m in
      record { step = r.step; is_in = inr r.is_in; arc = r.arc; near = r.near; far = r.far }

  far_or : (u k : ℕ) (cycle : List Step) → IsWay (graph_of ends) own u (way_of nodes arcs cycle) k → (v : ℕ) → IsIn v (nodes_along (way_of nodes arcs cycle))
      → (v ≡ k) ⊎ ((s : Step) × IsIn s (front cycle) × (v ≡ slice_index nodes s.far))
  far_or u k [] c v i = absurd i
  far_or u k (s ∷ []) c v i = elim i [ inl e ↦ inl (e ∙ c.2) | inr z ↦ absurd z ]
  far_or u k (s ∷ t ∷ cycle) c v (inl e) = inr (s, inl refl, e)
  far_or u k (s ∷ t ∷ cycle) c v (inr i) = elim (far_or (slice_index nodes s.far) k (t ∷ cycle) c.2 v i) [ inl e ↦ inl e | inr r ↦ inr (r.0, inr r.1, r.2) ]

  lead_round : (steps : List Step) (list : List ℕ) → LeadOn ends nodes arcs x list steps → (k u : ℕ) (cycle : List Step) (seen : List ℕ) → Follows nodes u cycle → IsWay (graph_of ends) own u (way_of nodes arcs cycle) k → IsIn k seen → IsIn u seen
      → ((a p q : ℕ) → IsOnRound u (way_of nodes arcs cycle) a p q → Leads ends own x a p q) → ((v : ℕ) → IsIn v list → IsIn v seen ⊎ IsIn v (nodes_along (way_of nodes arcs cycle)))
      → LeadOn ends nodes arcs x seen (front cycle ++ steps)
  lead_round steps list g k u [] seen f c ik iu on sub = lead_more steps list seen (λ v i. elim (sub v i) [ inl j ↦ j | inr z ↦ absurd z ]) g
  lead_round steps list g k u (s ∷ []) seen f c ik iu on sub =
      lead_more steps list seen (λ v i. elim (sub v i) [ inl j ↦ j | inr j ↦ elim j [ inl e ↦ subst (λ t. IsIn t seen) (sym (e ∙ c.2)) ik | inr z ↦ absurd z ] ]) g
  lead_round steps list g k u (s ∷ t ∷ cycle) seen f c ik iu on sub = (
    subst (λ z. IsIn z seen) (sym f.0) iu,
    on (number_by_place arcs s.arc) (slice_index nodes s.near) (slice_index nodes s.far) (inl (refl, f.0, refl)),
    lead_round steps list g k (slice_index nodes s.far) (t ∷ cycle) (slice_index nodes s.far ∷ seen) f.1 c.2 (inr ik) (inl refl) (λ a p q o. on a p q (inr o))
        (λ v i. elim (sub v i) [ inl j ↦ inl (inr j) | inr j ↦ elim j [ inl e ↦ inl (inl e) | inr m ↦ inr m ] ]),
  )

pub searches_are_in_order : SearchesAreInOrder
searches_are_in_order nodes arcs joints (found.OneEnd arc) n search tree are is_found is_search closed ends of =
    let x = as_extra nodes arcs joints (found.OneEnd arc) in
    let o = Hanging.outwards nodes arcs joints (found.OneEnd arc) n search tree are is_found is_search closed ends of in
    record {
      lead = lead_of ends nodes arcs x search.steps.items (root x ∷ []) (Hanging.goes nodes arcs joints (found.OneEnd arc) n search tree are is_found is_search closed ends of) o.hang;
      all = o.all;
      reach = λ v i. elim (Hanging.all nodes arcs joints (found.OneEnd arc) n search tree are is_found is_search closed ends of v i) [
        | inl j ↦ elim j [ inl e ↦ inl e | inr z ↦ absurd z ]
        | inr j ↦ inr (Hanging.of_far nodes arcs joints (found.OneEnd arc) n search tree are is_found is_search closed ends of search.steps.items v j)
      ];
    }
searches_are_in_order nodes arcs joints (found.Round cycle) n search tree are is_found is_search closed ends of =
    let x = as_extra nodes arcs joints (found.Round cycle) in
    let k = first_node nodes cycle.items in
    let o = Hanging.outwards nodes arcs joints (found.Round cycle) n search tree are is_found is_search closed ends of in
    let f = is_found.laid_out.3 in
    let w = (is_found.is_extra ends of).cycle.closes in
    subst (AreInOrder ends nodes arcs x) (ap (λ l. l ++ search.steps.items) (sym (front_is cycle.items))) (record {
      lead = lead_round ends nodes arcs x search.steps.items (extra_nodes x)
          (lead_of ends nodes arcs x search.steps.items (extra_nodes x) (Hanging.goes nodes arcs joints (found.Round cycle) n search tree are is_found is_search closed ends of) (λ s i. inl (o.hang s i)))
          k k cycle.items (k ∷ []) f w (inl refl) (inl refl) (λ a p q m. inr m) (λ v i. inr i);
      all = λ a u v. elim [
        | inl h ↦ in_later nodes arcs (front cycle.items) search.steps.items a u v (o.all a u v h)
        | inr m ↦ in_earlier nodes arcs (front cycle.items) search.steps.items a u v (on_step ends nodes arcs x k cycle.items f a u v m)
      ];
      reach = λ v i. elim (Hanging.all nodes arcs joints (found.Round cycle) n search tree are is_found is_search closed ends of v i) [
        | inl j ↦ elim (far_or ends nodes arcs x k k cycle.items w v j) [ inl e ↦ inl e | inr r ↦ inr (r.0, in_front r.0 (front cycle.items) search.steps.items r.1, r.2) ]
        | inr j ↦ let r = Hanging.of_far nodes arcs joints (found.Round cycle) n search tree are is_found is_search closed ends of search.steps.items v j in inr (r.0, in_back r.0 (front cycle.items) search.steps.items r.1, r.2)
      ];
    })
