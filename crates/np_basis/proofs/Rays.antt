-- Where no bound stands ahead of any arc, the direction of an eligible arc is a ray.
use Rattle.std.specs.Prelude.{◌≡◌, ℕ, ◌<◌, List, ◌∷◌, map, length}
use Rattle.std.specs.List.{zip}
use Rattle.std.proofs.Common.{refl, sym, ap, subst, ◌∙◌, inl, inr, arith}
use Rattle.std.proofs.lemmas.List.FromFn.{get_or-map-range_with_len, length-map-range_with_len}
use Rattle.std.proofs.lemmas.Slice.Zip.{length-zip}
use Rattle.gain_graphs.specs.Arcs as graph
use Rattle.gain_graphs.specs.Arcs.{IsIn}
use Rattle.gain_graphs.specs.Field as field
use Rattle.gain_graphs.specs.QuasiTrees.{LiesIn}
use Rattle.gain_graphs.proofs.Bases as graph_bases
use Rattle.gain_graphs.proofs.Pieces as graph_pieces
use Rattle.gain_graphs.proofs.Selected.{upto, upto_below}
use Rattle.gain_graphs.proofs.Sums as graph_sums
use Rattle.np_frac.specs.Ratio.{Ratio, zero_ratio, ◌≤ᵣ◌, ◌<ᵣ◌, ◌*ᵣ◌}
use Rattle.np_frac.proofs.Field.{*ᵣ-one, negated_one_below}
use Rattle.np_frac.proofs.RatioLaws.{*ᵣ-zero, below_or}
use Rattle.np_model.specs.declared.arc.Upper.{Upper}
use Rattle.np_model.specs.declared.arc.Upper.TheVariants.{Finite, Infinite}
use Rattle.np_model.specs.declared.arc.NetArc.{NetArc}
use Rattle.np_model.specs.declared.log.Mark.{Mark}
use Rattle.np_model.specs.declared.log.Mark.TheVariants as marked
use Rattle.np_model.specs.Network.Arcs.{IsFinite}
use Rattle.np_model.specs.Network.Duality.{Ray}
use Rattle.np_model.specs.Network.Flows.{Network, at, balance, plan_cost}
use Rattle.np_model.specs.Basis.Graphs.{ratios, graph_of, arc_at, ends_at, cost_at}
use Rattle.np_model.specs.Basis.Moves.{sign, Gains, IsEligible}
use Rattle.np_model.specs.Basis.Pivots.{node_numbers, arc_numbers}
use Rattle.np_model.specs.Basis.States.{State, values_of, price, basics, IsState}
use Rattle.np_basis.specs.PivotLaws.{HasRealArcs, IsDirectionIn, HasBoundAhead, DirectionIsRay}
use Rattle.np_basis.proofs.Balanced.{balance_of, by_number, total_map}
use Rattle.np_basis.proofs.Basics.{zipped}
use Rattle.np_basis.proofs.Costs as costs
use Rattle.np_basis.proofs.Directions as directions
use Rattle.np_basis.proofs.Held.{arc_below, node_number}
use Rattle.np_basis.proofs.Pivoting.{not_gaining}
use Rattle.np_basis.proofs.Trees.{total_is}

-- an upper bound that is not there
no_bound : (u : Upper) → (¬ IsFinite u) → u ≡ Infinite
no_bound (Finite u) h = absurd (h (record {}))
no_bound Infinite h = refl

module _ (net : Network) (real : ℕ) (ground : HasRealArcs net real) (s : State) (st : IsState net s) (enter : ℕ) (eligible : IsEligible net real (values_of s) enter)
    (d : ℕ → Ratio) (h : IsDirectionIn net (values_of s) enter (sign ((values_of s).mark enter)) d) (no_end : (a : ℕ) → a < length net.arcs → ¬ HasBoundAhead (arc_at net.arcs a) (d a)) where
  below : enter < length net.arcs
  below = omega (arith, eligible.is_open.0, ground.few)

  given : directions.Enters net ground.sound (node_numbers net) (arc_numbers net) (basics net.arcs (values_of s).mark) enter
  given = directions.of_whole net ground.sound (values_of s) enter st.forest below (not_gaining ((values_of s).mark enter) _ eligible.gains)

  -- the flows of the ray
  ray : List Ratio
  ray = map d (arc_numbers net)

  one_each : length ray ≡ length net.arcs
  unfolding ray
  one_each = length-map-range_with_len d 0 (length net.arcs)

  ray_at : (a : ℕ) → a < length net.arcs → at ray a ≡ d a
  unfolding ray
  ray_at a l = get_or-map-range_with_len d 0 (length net.arcs) a a zero_ratio l (omega arith)

  rises : (a : ℕ) → a < length net.arcs → zero_ratio ≤ᵣ d a
  rises a l = elim (below_or (d a) zero_ratio) [ inl k ↦ absurd (no_end a l (inl k)) | inr k ↦ k ]

  balanced : (v : ℕ) → v < length net.supply → balance net.arcs ray v ≡ zero_ratio
  balanced v l =
      balance_of net ground.sound ray one_each v
      ∙ graph_sums.total_same ratios (λ a. graph.coefficient ratios (graph_of (ends_at net.arcs) a) v *ᵣ at ray a) (λ a. graph.coefficient ratios (graph_of (ends_at net.arcs) a) v *ᵣ d a) (arc_numbers net)
      (λ a i. ap (λ t. graph.coefficient ratios (graph_of (ends_at net.arcs) a) v *ᵣ t) (ray_at a (arc_below net a i)))
      ∙ sym (directions.balance_is net ground.sound (arc_numbers net) d v (arc_below net)) ∙ h.balanced v (node_number net v l)

  -- ---- its cost

  enter_lies : LiesIn ratios (node_numbers net) (graph_of (ends_at net.arcs) enter)
  enter_lies = graph_pieces.wider ratios (length net.supply) (graph_of (ends_at net.arcs)) (upto (length net.supply)) (node_numbers net) (λ v i. node_number net v (upto_below (length net.supply) v i))
      (graph_of (ends_at net.arcs) enter) (graph_bases.lies_in_all ratios (length net.supply) (graph_of (ends_at net.arcs)) (graph_of (ends_at net.arcs) enter) (directions.ends_valid net ground.sound enter below))

  cost_is : plan_cost net.arcs ray ≡ price (values_of s).potential (arc_at net.arcs enter) *ᵣ d enter
  cost_is =
      total_is (λ (p : NetArc × Ratio). p.0.cost *ᵣ p.1) (zip net.arcs ray)
      ∙ ap (field.total ratios (λ (p : NetArc × Ratio). p.0.cost *ᵣ p.1)) (by_number net.arcs ray one_each)
      ∙ total_map (λ (p : NetArc × Ratio). p.0.cost *ᵣ p.1) (λ a. (arc_at net.arcs a, at ray a)) (arc_numbers net)
      ∙ graph_sums.total_same ratios (λ a. cost_at net.arcs a *ᵣ at ray a) (λ a. cost_at net.arcs a *ᵣ d a) (arc_numbers net) (λ a i. ap (λ t. cost_at net.arcs a *ᵣ t) (ray_at a (arc_below net a i)))
      ∙ graph_pieces.total_only ratios (length net.supply) (graph_of (ends_at net.arcs)) (λ a. cost_at net.arcs a *ᵣ d a) (enter ∷ basics net.arcs (values_of s).mark) (arc_numbers net)
      (given.new, given.basis.arcs_once) given.once given.holds
      (λ a i k. ap (λ t. cost_at net.arcs a *ᵣ t) (directions.still net ground.sound (node_numbers net) (arc_numbers net) (basics net.arcs (values_of s).mark) enter given (sign ((values_of s).mark enter)) d h a i k) ∙ *ᵣ-zero (cost_at net.arcs a))
      ∙ costs.cost_of net ground.sound (node_numbers net) (arc_numbers net) (basics net.arcs (values_of s).mark) enter given enter_lies (sign ((values_of s).mark enter)) d h (values_of s).potential st.priced

  falls : plan_cost net.arcs ray <ᵣ zero_ratio
  falls = subst (λ t. t <ᵣ zero_ratio) (sym cost_is) (go ((values_of s).mark enter) refl eligible.gains)
    where
      go : (m : Mark) → (values_of s).mark enter ≡ m → Gains ((values_of s).mark enter) (price (values_of s).potential (arc_at net.arcs enter))
          → price (values_of s).potential (arc_at net.arcs enter) *ᵣ d enter <ᵣ zero_ratio
      go marked.Lower e k = subst (λ t. t <ᵣ zero_ratio)
          (sym (ap (λ t. price (values_of s).potential (arc_at net.arcs enter) *ᵣ t) (h.enters ∙ ap sign e) ∙ *ᵣ-one (price (values_of s).potential (arc_at net.arcs enter))))
          (subst (λ m. Gains m (price (values_of s).potential (arc_at net.arcs enter))) e k)
      go marked.Upper e k = absurd (no_end enter below (inl (subst (λ t. t <ᵣ zero_ratio) (sym (h.enters ∙ ap sign e)) negated_one_below)))
      go marked.Basic e k = absurd (not_gaining ((values_of s).mark enter) _ k e)

  is_ray : Ray net s.flows (map d (arc_numbers net))
  unfolding ray
  is_ray = record {
    feasible = st.feasible;
    one_each = one_each;
    not_negative = λ k z l. subst (λ t. zero_ratio ≤ᵣ t) (sym (get_or-map-range_with_len d 0 (length net.arcs) k k z (omega (arith, one_each)) (omega arith))) (rises k (omega (arith, one_each)));
    unbounded = λ k z l. let l' : k < length net.arcs = omega (arith, length-zip net.arcs ray) in
        subst (λ (y : NetArc × Ratio). zero_ratio <ᵣ y.1 → y.0.upper ≡ Infinite) (sym (zipped net.arcs ray one_each k l' z))
        (λ r. no_bound (arc_at net.arcs k).upper (λ f. no_end k l' (inr (subst (λ t. zero_ratio <ᵣ t) (ray_at k l') r, f))));
    balanced = balanced;
    falls = falls;
  }

pub direction_is_ray : DirectionIsRay
direction_is_ray net real s enter d ground st eligible h no_end = is_ray net real ground s st enter eligible d h no_end
