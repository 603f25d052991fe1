-- Pieces of a state: their basic arcs are those of the state that touch them, and its directions stay in them.
use Rattle.std.specs.Prelude.{◌≡◌, ◌≢◌, ◌⊎◌, ℕ, ◌<◌, List, [], ◌∷◌, length}
use Rattle.std.proofs.Common.{refl, sym, ap, subst, ◌∙◌, inl, inr, arith}
use Rattle.gain_graphs.specs.Arcs as graph
use Rattle.gain_graphs.specs.Arcs.{IsIn, Touches}
use Rattle.gain_graphs.specs.Forests.{IsValid}
use Rattle.gain_graphs.specs.QuasiTrees.{LiesIn}
use Rattle.gain_graphs.proofs.Algebra as algebra
use Rattle.gain_graphs.proofs.Lists.{decide_in}
use Rattle.gain_graphs.proofs.Pieces as graph_pieces
use Rattle.gain_graphs.proofs.Sums as graph_sums
use Rattle.np_frac.specs.Ratio.{Ratio, zero_ratio, ◌*ᵣ◌}
use Rattle.np_frac.proofs.RatioLaws.{zero-*ᵣ}
use Rattle.np_model.specs.declared.log.Mark.TheVariants as marked
use Rattle.np_model.specs.Network.Flows.{Network}
use Rattle.np_model.specs.Basis.Graphs.{ratios, graph_of, ends_at}
use Rattle.np_model.specs.Basis.Moves.{balance_on}
use Rattle.np_model.specs.Basis.Pieces.{PieceLists, nodes_in, basics_in, nodes_of, basics_of}
use Rattle.np_model.specs.Basis.Pivots.{node_numbers, arc_numbers}
use Rattle.np_model.specs.Basis.States.{State, Values, values_of, basics, IsState}
use Rattle.np_basis.specs.Laws.{HasSoundArcs}
use Rattle.np_basis.specs.PivotLaws.{AreInNet, MayEnter, IsDirectionIn, ArePiecesOf, IsLocal, DirectionIsLocal}
use Rattle.np_model.specs.Basis.Needed.{IsDirectionOf}
use Rattle.np_basis.proofs.Ascending.{ascends_once}
use Rattle.gain_graphs.proofs.Lists.{range_holds, range_within}
use Rattle.np_basis.proofs.Basics.{range_ascends, basics_hold}
use Rattle.np_basis.proofs.Directions as directions
use Rattle.np_basis.proofs.Directions.{only_on, only_on_in, only_on_out}
use Rattle.np_basis.proofs.Reading.{in_flat, in_flat_of, touches_flat, pieces_are_sound}
use Rattle.np_basis.proofs.Sound.{lies_touch}

pub arc_number : (net : Network) (a : ℕ) → a < length net.arcs → IsIn a (arc_numbers net)
arc_number net a l = range_holds 0 (length net.arcs) a (omega arith) (omega (arith, l))

pub arc_below : (net : Network) (a : ℕ) → IsIn a (arc_numbers net) → a < length net.arcs
arc_below net a i = let r = range_within 0 (length net.arcs) a i in omega (arith, r.1)

pub node_number : (net : Network) (v : ℕ) → v < length net.supply → IsIn v (node_numbers net)
node_number net v l = range_holds 0 (length net.supply) v (omega arith) (omega (arith, l))

pub node_below : (net : Network) (v : ℕ) → IsIn v (node_numbers net) → v < length net.supply
node_below net v i = let r = range_within 0 (length net.supply) v i in omega (arith, r.1)

-- ---- basic arcs of the pieces

module _ (net : Network) (sound : HasSoundArcs net) (s : Values) (ps : List PieceLists) (pieces : ArePiecesOf net s ps) where
  valid : (a : ℕ) → IsIn a (basics net.arcs s.mark) → IsValid ratios (length net.supply) (graph_of (ends_at net.arcs) a)
  valid a i = directions.ends_valid net sound a ((basics_hold net.arcs s.mark a).0 i).0

  -- a basic arc of one of them
  pub of_piece : (p : PieceLists) (a : ℕ) → IsIn p ps → IsIn a (basics_in p) → (a < length net.arcs) × (s.mark a ≡ marked.Basic) × LiesIn ratios (nodes_in p) (graph_of (ends_at net.arcs) a)
  of_piece p a i j =
      let h = pieces.each p i in
      let k = (basics_hold net.arcs s.mark a).0 ((h.part.is_piece.touched a).0 j).0 in (
        k.0,
        k.1,
        graph_pieces.arcs_lie ratios (length net.supply) (graph_of (ends_at net.arcs)) (basics net.arcs s.mark) h.part.least (nodes_in p) (basics_in p) h.part.is_piece valid a j,
      )

  pub of_pieces : (a : ℕ) → IsIn a (basics_of ps) → (a < length net.arcs) × (s.mark a ≡ marked.Basic) × LiesIn ratios (nodes_of ps) (graph_of (ends_at net.arcs) a)
  of_pieces a i =
      let r = in_flat_of basics_in ps a i in
      let k = of_piece r.0 a r.1 r.2 in
      (k.0, k.1, graph_pieces.wider ratios (length net.supply) (graph_of (ends_at net.arcs)) (nodes_in r.0) (nodes_of ps) (λ v j. in_flat nodes_in ps r.0 v r.1 j) (graph_of (ends_at net.arcs) a) k.2)

  -- what is basic and touches them
  pub basic_here : (a : ℕ) → a < length net.arcs → s.mark a ≡ marked.Basic → Touches (nodes_of ps) (graph_of (ends_at net.arcs) a) → IsIn a (basics_of ps)
  basic_here a l e t =
      let r = touches_flat ps (graph_of (ends_at net.arcs) a) t in
      in_flat basics_in ps r.0 a r.1 (((pieces.each r.0 r.1).part.is_piece.touched a).1 ((basics_hold net.arcs s.mark a).1 (l, e), r.2))

  pub node_in_net : (v : ℕ) → IsIn v (nodes_of ps) → v < length net.supply
  node_in_net v i = let r = in_flat_of nodes_in ps v i in (((pieces.each r.0 r.1).part.is_piece.joined v).0 r.2).0

-- ---- arcs that an arc brings together with those of the pieces

module _ (net : Network) (ps : List PieceLists) (enter : ℕ) (may : MayEnter net ps enter)
    (own : (a : ℕ) → IsIn a (basics_of ps) → (a < length net.arcs) × LiesIn ratios (nodes_of ps) (graph_of (ends_at net.arcs) a)) where
  pub hand_below : (a : ℕ) → IsIn a (enter ∷ basics_of ps) → a < length net.arcs
  hand_below a = elim [ inl e ↦ subst (λ t. t < length net.arcs) (sym e) may.below | inr i ↦ (own a i).0 ]

  pub hand_lies : (a : ℕ) → IsIn a (enter ∷ basics_of ps) → LiesIn ratios (nodes_of ps) (graph_of (ends_at net.arcs) a)
  hand_lies a = elim [ inl e ↦ subst (λ t. LiesIn ratios (nodes_of ps) (graph_of (ends_at net.arcs) t)) (sym e) may.ends | inr i ↦ (own a i).1 ]

  pub hand_touches : (a : ℕ) → IsIn a (enter ∷ basics_of ps) → Touches (nodes_of ps) (graph_of (ends_at net.arcs) a)
  hand_touches a i = lies_touch (nodes_of ps) (graph_of (ends_at net.arcs) a) (hand_lies a i)

  -- they have no coefficient at any other node
  pub coefficient_off : (v : ℕ) → (¬ IsIn v (nodes_of ps)) → (a : ℕ) → IsIn a (enter ∷ basics_of ps) → graph.coefficient ratios (graph_of (ends_at net.arcs) a) v ≡ zero_ratio
  coefficient_off v h a i = graph_pieces.untouched_coefficient ratios (length net.supply) (graph_of (ends_at net.arcs)) (v ∷ []) (graph_of (ends_at net.arcs) a) v (inl refl) (λ t.
      let w = graph_pieces.both ratios (length net.supply) (graph_of (ends_at net.arcs)) (nodes_of ps) (v ∷ []) (graph_of (ends_at net.arcs) a) (hand_lies a i) t in
      elim w.2 [ inl e ↦ h (subst (λ x. IsIn x (nodes_of ps)) e w.1) | inr x ↦ x ])

-- ---- directions

module _ (net : Network) (sound : HasSoundArcs net) (s : State) (st : IsState net s) (ps : List PieceLists) (pieces : ArePiecesOf net (values_of s) ps) (enter : ℕ) (may : MayEnter net ps enter) where
  pub in_net : AreInNet net ps
  in_net = let r = pieces_are_sound net s ps st pieces.each pieces.apart in record { each = λ p i. (r.each p i).in_net; apart = pieces.apart }

  pub own_arcs : (a : ℕ) → IsIn a (basics_of ps) → (a < length net.arcs) × LiesIn ratios (nodes_of ps) (graph_of (ends_at net.arcs) a)
  own_arcs a i = let r = of_pieces net sound (values_of s) ps pieces a i in (r.0, r.2)

  pub not_basic : (values_of s).mark enter ≢ marked.Basic
  not_basic e = may.not_basic (basic_here net sound (values_of s) ps pieces enter may.below e (lies_touch (nodes_of ps) (graph_of (ends_at net.arcs) enter) may.ends))

  entering : directions.Enters net sound (nodes_of ps) (enter ∷ basics_of ps) (basics_of ps) enter
  entering = directions.of_entering net sound ps enter in_net may

  -- a direction of the pieces, and 0 elsewhere, is one of the state
  pub extends : (by : Ratio) (e : ℕ → Ratio) → IsDirectionOf net ps enter by e → IsDirectionIn net (values_of s) enter by (only_on (enter ∷ basics_of ps) e)
  extends by e h = record {
    enters = only_on_in (enter ∷ basics_of ps) e enter (inl refl) ∙ h.enters;
    only = only;
    balanced = λ v i. few v ∙ go v (decide_in v (nodes_of ps));
  }
    where
      d : ℕ → Ratio
      d = only_on (enter ∷ basics_of ps) e

      only : (a : ℕ) → IsIn a (arc_numbers net) → d a ≢ zero_ratio → (a ≡ enter) ⊎ IsIn a (basics net.arcs (values_of s).mark)
      only a i n = elim (decide_in a (enter ∷ basics_of ps)) [
        | yes j ↦ elim j [ inl q ↦ inl q | inr k ↦ (let r = of_pieces net sound (values_of s) ps pieces a k in inr ((basics_hold net.arcs (values_of s).mark a).1 (r.0, r.1))) ]
        | no k ↦ absurd (n (only_on_out (enter ∷ basics_of ps) e a k))
      ]

      term : ℕ → ℕ → Ratio
      term v a = graph.coefficient ratios (graph_of (ends_at net.arcs) a) v *ᵣ d a

      few : (v : ℕ) → balance_on net (arc_numbers net) d v ≡ graph.balance ratios (graph_of (ends_at net.arcs)) d (enter ∷ basics_of ps) v
      few v = directions.balance_is net sound (arc_numbers net) d v (arc_below net)
          ∙ graph_pieces.total_only ratios (length net.supply) (graph_of (ends_at net.arcs)) (term v) (enter ∷ basics_of ps) (arc_numbers net) entering.once (ascends_once (arc_numbers net) (range_ascends 0 (length net.arcs)))
          (λ a i. arc_number net a (hand_below net ps enter may own_arcs a i))
          (λ a i k. ap (λ t. graph.coefficient ratios (graph_of (ends_at net.arcs) a) v *ᵣ t) (only_on_out (enter ∷ basics_of ps) e a k) ∙ zero_right (graph.coefficient ratios (graph_of (ends_at net.arcs) a) v))
        where
          zero_right : (x : Ratio) → x *ᵣ zero_ratio ≡ zero_ratio
          zero_right x = algebra.times_zero ratios x

      go : (v : ℕ) → Dec (IsIn v (nodes_of ps)) → graph.balance ratios (graph_of (ends_at net.arcs)) d (enter ∷ basics_of ps) v ≡ zero_ratio
      go v (yes j) =
          graph_sums.total_same ratios (term v) (λ a. graph.coefficient ratios (graph_of (ends_at net.arcs) a) v *ᵣ e a) (enter ∷ basics_of ps)
          (λ a i. ap (λ t. graph.coefficient ratios (graph_of (ends_at net.arcs) a) v *ᵣ t) (only_on_in (enter ∷ basics_of ps) e a i))
          ∙ sym (directions.balance_is net sound (enter ∷ basics_of ps) e v entering.inside) ∙ h.balanced v j
      go v (no k) = graph_sums.total_zero ratios (term v) (enter ∷ basics_of ps) (λ a i. ap (λ t. t *ᵣ d a) (coefficient_off net ps enter may own_arcs v k a i) ∙ zero-*ᵣ (d a))

  pub local : (by : Ratio) (d : ℕ → Ratio) → IsDirectionIn net (values_of s) enter by d → IsLocal net ps enter by d
  local by d h = record {
    there = record {
      enters = h.enters;
      only = λ a i n. i;
      balanced = λ v i.
          directions.balance_is net sound (enter ∷ basics_of ps) d v entering.inside
          ∙ graph_sums.total_same ratios (λ a. graph.coefficient ratios (graph_of (ends_at net.arcs) a) v *ᵣ d a) (λ a. graph.coefficient ratios (graph_of (ends_at net.arcs) a) v *ᵣ e.0 a) (enter ∷ basics_of ps)
          (λ a j. ap (λ t. graph.coefficient ratios (graph_of (ends_at net.arcs) a) v *ᵣ t) (same a (entering.inside a j) ∙ only_on_in (enter ∷ basics_of ps) e.0 a j))
          ∙ sym (directions.balance_is net sound (enter ∷ basics_of ps) e.0 v entering.inside) ∙ e.1.balanced v i;
    };
    off = λ a l k. same a l ∙ only_on_out (enter ∷ basics_of ps) e.0 a k;
  }
    where
      e : (e : ℕ → Ratio) × IsDirectionOf net ps enter by e
      e = directions.direction_exists net ps enter by sound in_net may

      same : (a : ℕ) → a < length net.arcs → d a ≡ only_on (enter ∷ basics_of ps) e.0 a
      same = directions.whole_direction_is_unique net (values_of s) enter by d (only_on (enter ∷ basics_of ps) e.0) sound st.forest may.below not_basic h (extends by e.0 e.1)

pub direction_is_local : DirectionIsLocal
direction_is_local net s ps enter by d sound st pieces may h = local net sound s st ps pieces enter may by d h
