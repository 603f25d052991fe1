-- A pivot of pieces of a state is a pivot of the state.
use Rattle.std.specs.Prelude.{◌≡◌, ◌⊎◌, ◌↔◌, ℕ, ◌<◌, ◌≤◌, List, [], ◌∷◌, map, length}
use Rattle.std.proofs.Common.{sym, ap, ap₂, subst, ◌∙◌, inl, inr}
use Rattle.gain_graphs.specs.Arcs as graph
use Rattle.gain_graphs.specs.Arcs.{IsIn, Touches, AreJoined}
use Rattle.gain_graphs.specs.QuasiTrees.{LiesIn, IsQuasiTree}
use Rattle.gain_graphs.proofs.Lists.{in_map, in_map_of, decide_in}
use Rattle.gain_graphs.proofs.Pieces as graph_pieces
use Rattle.gain_graphs.proofs.Search.{decide_touches}
use Rattle.gain_graphs.proofs.Selected.{least_of}
use Rattle.gain_graphs.proofs.Theorems as theorems
use Rattle.gain_graphs.proofs.Walks as walks
use Rattle.np_frac.specs.Ratio.{Ratio, zero_ratio, ◌+ᵣ◌, ◌*ᵣ◌}
use Rattle.np_frac.specs.Fits.{Fits}
use Rattle.np_model.specs.declared.arc.Ends.{Ends}
use Rattle.np_model.specs.declared.arc.Ends.TheVariants.{Link, Drain, Feed}
use Rattle.np_model.specs.declared.log.Mark.{Mark}
use Rattle.np_model.specs.declared.log.Entry.{Entry}
use Rattle.np_model.specs.Network.Arcs.{AreNodes, reduced_cost, tail_of, head_of}
use Rattle.np_model.specs.Network.Flows.{Network, at}
use Rattle.np_model.specs.Basis.Graphs.{ratios, graph_of, graph_ends, no_arc, arc_at, ends_at, cost_at}
use Rattle.np_model.specs.Basis.Pieces.{PieceLists, nodes_in, basics_in, nodes_of, basics_of}
use Rattle.np_model.specs.Basis.Pivots.{IsPivot}
use Rattle.np_model.specs.Basis.Sound.{values_in, IsSound, IsAfter}
use Rattle.np_model.specs.Basis.States.{State, values_of, price, basics, IsPart, IsPieceOf, IsState}
use Rattle.np_model.specs.Rows.Potentials.{PotentialsFit}
use Rattle.np_basis.specs.PivotLaws.{ArePiecesAfter, AfterIsExactly}
use Rattle.np_basis.proofs.Ascending.{ascends, ascends_once, same_rising}
use Rattle.np_basis.proofs.Basics.{basics_hold}
use Rattle.np_basis.proofs.Cutting as cutting
use Rattle.np_basis.proofs.Held as held
use Rattle.np_basis.proofs.Made as made
use Rattle.np_basis.proofs.Pivoting as pivoting
use Rattle.np_basis.proofs.Pivoting.{Given}
use Rattle.np_basis.proofs.Reading.{in_flat, in_flat_of, touches_flat, price_same, rows_same}
use Rattle.np_basis.proofs.Roots.{joined_more}
use Rattle.np_basis.proofs.Sound as said
use Rattle.np_basis.proofs.Sound.{lies_touch, touch_wider, touch_more}
use Rattle.np_basis.proofs.ToPieces as to_pieces
use Rattle.np_basis.proofs.Trees as trees

-- the ends of an arc that touches none of the nodes
ends_off : (n : ℕ) (ns : List ℕ) (e : Ends) → AreNodes n e → (¬ Touches ns (graph_ends e)) → ((¬ IsIn (tail_of e) ns) × (tail_of e < n)) × ((¬ IsIn (head_of e) ns) × (head_of e < n))
ends_off n ns (Link i j g) l h = (((λ k. h (inl k)), l.0), ((λ k. h (inr k)), l.1))
ends_off n ns (Drain v) l h = ((h, l), (h, l))
ends_off n ns (Feed v) l h = ((h, l), (h, l))

module _ (net : Network) (real : ℕ) (s : State) (ps : List PieceLists) (entry : Entry) (g : Given net real s ps entry) (others : List PieceLists) (h : IsAfter net real ps entry others) where
  after : State
  after = made.made net real s ps entry g others h

  forth : (v : ℕ) → IsIn v (nodes_of ps) → IsIn v (nodes_of others)
  forth v = (h.same_nodes v).0

  back : (v : ℕ) → IsIn v (nodes_of others) → IsIn v (nodes_of ps)
  back v = (h.same_nodes v).1

  node_below : (v : ℕ) → IsIn v (nodes_of ps) → v < length net.supply
  node_below v i = held.node_in_net net g.ground.sound (values_of s) ps g.pieces v i

  outside : (a : ℕ) → (¬ Touches (nodes_of ps) (graph_of (ends_at net.arcs) a)) → ¬ IsIn a (entry.enter ∷ basics_of ps)
  outside a n i = n (pivoting.hand_touches net real s ps entry g a i)

  -- ---- the pieces after, in the state

  own_mark : (p : PieceLists) → IsIn p others → (a : ℕ) → a < length net.arcs → Touches (nodes_in p) (graph_of (ends_at net.arcs) a) → (values_of after).mark a ≡ (values_in net others).mark a
  unfolding after
  own_mark p i a l t = made.mark_there net real s ps entry g others h a l (touch_wider (nodes_of others) (nodes_of ps) (graph_of (ends_at net.arcs) a) back (touch_more others p (graph_of (ends_at net.arcs) a) i t))

  own_touch : (p : PieceLists) → IsIn p others → (a : ℕ) → IsIn a (basics_in p) → Touches (nodes_in p) (graph_of (ends_at net.arcs) a)
  own_touch p i a j = lies_touch (nodes_in p) (graph_of (ends_at net.arcs) a) (said.inside net others h.sound_after p a i j)

  -- its basic arcs are those of the state that touch it
  own_basic : (p : PieceLists) → IsIn p others → (a : ℕ) → IsIn a (basics_in p) → IsIn a (basics net.arcs (values_of after).mark)
  own_basic p i a j =
      let l : a < length net.arcs = said.below net others h.sound_after p a i j in
      (basics_hold net.arcs (values_of after).mark a).1 (l, own_mark p i a l (own_touch p i a j) ∙ said.mark_basic net others h.sound_after p a i j)

  basic_own : (p : PieceLists) → IsIn p others → (a : ℕ) → IsIn a (basics net.arcs (values_of after).mark) → Touches (nodes_in p) (graph_of (ends_at net.arcs) a) → IsIn a (basics_in p)
  basic_own p i a j t =
      let k = (basics_hold net.arcs (values_of after).mark a).0 j in
      said.basic_of net others h.sound_after p a i k.0 t (sym (own_mark p i a k.0 t) ∙ k.1)

  crossing : (p : PieceLists) → IsIn p others → (x y : ℕ) (k : Ratio) → IsIn (graph.Link x y k) (map (graph_of (ends_at net.arcs)) (basics net.arcs (values_of after).mark))
      → IsIn x (nodes_in p) ⊎ IsIn y (nodes_in p) → IsIn (graph.Link x y k) (map (graph_of (ends_at net.arcs)) (basics net.arcs (values_of after).mark)) × IsIn x (nodes_in p) × IsIn y (nodes_in p)
  crossing p i x y k w t =
      let r = in_map_of (graph_of (ends_at net.arcs)) (graph.Link x y k) (basics net.arcs (values_of after).mark) w in
      let b = basic_own p i r.0 r.1 (subst (Touches (nodes_in p)) r.2 t) in
      let l : LiesIn ratios (nodes_in p) (graph.Link x y k) = subst (LiesIn ratios (nodes_in p)) (sym r.2) (said.inside net others h.sound_after p r.0 i b) in
      (w, l.0, l.1)

  own_part : (p : PieceLists) → IsIn p others → IsPart net (values_of after).mark (nodes_in p) (basics_in p)
  own_part p i = record {
    nodes_ascend = c.in_net.shape.nodes_ascend;
    arcs_ascend = c.in_net.shape.basics_ascend;
    least = l.0;
    is_piece = record {
      nodes_once = ascends_once (nodes_in p) (ascends (nodes_in p) c.in_net.shape.nodes_ascend);
      arcs_once = ascends_once (basics_in p) (ascends (basics_in p) c.in_net.shape.basics_ascend);
      has_least = l.1;
      is_least = l.2;
      joined = λ v. (
        (λ j. (
          c.in_net.nodes v j,
          joined_more (graph_of (ends_at net.arcs)) (basics_in p) (basics net.arcs (values_of after).mark) (own_basic p i) l.0 v (tree.joined l.0 v l.1 j),
        )),
        (λ r. (walks.within (λ x. IsIn x (nodes_in p)) (map (graph_of (ends_at net.arcs)) (basics net.arcs (values_of after).mark)) (map (graph_of (ends_at net.arcs)) (basics net.arcs (values_of after).mark))
            (crossing p i) r.1.0 l.0 v l.1 r.1.1).1),
      );
      touched = λ a. ((λ j. (own_basic p i a j, own_touch p i a j)), (λ r. basic_own p i a r.0 r.1));
    };
  }
    where
      c : IsSound net p
      c = h.sound_after.each p i

      tree : IsQuasiTree ratios (nodes_in p) (map (graph_of (ends_at net.arcs)) (basics_in p))
      tree = trees.tree net p c.in_net

      l : (least : ℕ) × IsIn least (nodes_in p) × ((v : ℕ) → IsIn v (nodes_in p) → least ≤ v)
      l = go (nodes_in p) tree.some_node
        where
          go : (ns : List ℕ) → (v : ℕ) × IsIn v ns → (least : ℕ) × IsIn least ns × ((v : ℕ) → IsIn v ns → least ≤ v)
          go [] w = absurd w.1
          go (n ∷ ns) w = least_of n ns

  own_potential : (p : PieceLists) → IsIn p others → (v : ℕ) → IsIn v (nodes_in p) → at after.potentials v ≡ (values_in net (p ∷ [])).potential v
  unfolding after
  own_potential p i v j = made.potential_in net real s ps entry g others h v ((h.sound_after.each p i).in_net.nodes v j) (back v (in_flat nodes_in others p v i j)) ∙ said.alone net others h.sound_after p i v j

  own_flow : (p : PieceLists) → IsIn p others → (b : ℕ × Ends × Ratio) → IsIn b p.basics → at after.flows b.0 ≡ b.2
  unfolding after
  own_flow p i b j =
      made.made_flow net real s ps entry g others h b.0 l ∙ ap (λ t. at s.flows b.0 +ᵣ h.step *ᵣ t) (made.whole_in net real s ps entry g others h b.0 hand)
      ∙ ap (λ t. t +ᵣ h.step *ᵣ h.direction b.0) (sym ((made.here net real s ps entry g others h).flows b.0 l touch)) ∙ sym (h.flows b.0 (in_flat basics_in others p b.0 i key))
      ∙ said.flow_said net others h.sound_after p b i j
    where
      key : IsIn b.0 (basics_in p)
      key = in_map (λ (x : ℕ × Ends × Ratio). x.0) b p.basics j

      l : b.0 < length net.arcs
      l = said.below net others h.sound_after p b.0 i key

      touch : Touches (nodes_of ps) (graph_of (ends_at net.arcs) b.0)
      touch = touch_wider (nodes_of others) (nodes_of ps) (graph_of (ends_at net.arcs) b.0) back (touch_more others p (graph_of (ends_at net.arcs) b.0) i (own_touch p i b.0 key))

      hand : IsIn b.0 (entry.enter ∷ basics_of ps)
      hand = (made.was_hand net real s ps entry g others h b.0 l touch (own_mark p i b.0 l (own_touch p i b.0 key) ∙ said.mark_basic net others h.sound_after p b.0 i key)).0

  own_piece : (p : PieceLists) → IsIn p others → IsPieceOf net (values_of after) p
  own_piece p i = record {
    part = own_part p i;
    read_off = record {
      marks_ascend = c.in_net.shape.marks_ascend;
      potentials = λ n j.
          let k : IsIn n.0 (nodes_in p) = in_map (λ (x : ℕ × Ratio). x.0) n p.nodes j in
          sym (own_potential p i n.0 k ∙ sym (said.alone net others h.sound_after p i n.0 k) ∙ said.potential_of net others h.sound_after p n i j);
      basic = λ b j. ((c.in_net.basic b j).1, sym (own_flow p i b j));
      marked = λ a. (
        (λ j. let k = (c.in_net.marked a).0 j in (k.0, (λ e. k.1 (basic_own p i a ((basics_hold net.arcs (values_of after).mark a).1 (k.0, e)) k.2)), k.2)),
        (λ k. (c.in_net.marked a).1 (k.0, (λ j. k.1 ((basics_hold net.arcs (values_of after).mark a).0 (own_basic p i a j)).1), k.2)),
      );
      marks = λ m j.
          let k = (c.in_net.marked m.0).0 (in_map (λ (x : ℕ × Mark). x.0) m p.marks j) in
          sym (own_mark p i m.0 k.0 k.2 ∙ said.mark_said net others h.sound_after p m i j);
    };
  }
    where
      c : IsSound net p
      c = h.sound_after.each p i

  -- ---- the state

  -- an arc that is basic afterwards: in a piece after, or off them and basic before
  basic_off : (a : ℕ) → IsIn a (basics net.arcs (values_of after).mark) → (¬ Touches (nodes_of ps) (graph_of (ends_at net.arcs) a)) → IsIn a (basics net.arcs (values_of s).mark)
  unfolding after
  basic_off a i n =
      let k = (basics_hold net.arcs (values_of after).mark a).0 i in
      (basics_hold net.arcs (values_of s).mark a).1 (k.0, sym (made.mark_out net real s ps entry g others h a k.0 (outside a n)) ∙ k.1)

  off_basic : (a : ℕ) → IsIn a (basics net.arcs (values_of s).mark) → (¬ Touches (nodes_of ps) (graph_of (ends_at net.arcs) a)) → IsIn a (basics net.arcs (values_of after).mark)
  unfolding after
  off_basic a i n =
      let k = (basics_hold net.arcs (values_of s).mark a).0 i in
      (basics_hold net.arcs (values_of after).mark a).1 (k.0, made.mark_out net real s ps entry g others h a k.0 (outside a n) ∙ k.1)

  basic_on : (a : ℕ) → IsIn a (basics net.arcs (values_of after).mark) → Touches (nodes_of ps) (graph_of (ends_at net.arcs) a) → (p : PieceLists) × IsIn p others × IsIn a (basics_in p)
  basic_on a i t =
      let r = touches_flat others (graph_of (ends_at net.arcs) a) (touch_wider (nodes_of ps) (nodes_of others) (graph_of (ends_at net.arcs) a) forth t) in
      (r.0, r.1, basic_own r.0 r.1 a i r.2)

  touch : (a : ℕ) → Dec (Touches (nodes_of ps) (graph_of (ends_at net.arcs) a))
  touch a = decide_touches ratios (length net.supply) (graph_of (ends_at net.arcs)) (nodes_of ps) (graph_of (ends_at net.arcs) a)

  priced : (a : ℕ) → IsIn a (basics net.arcs (values_of after).mark) → price (values_of after).potential (arc_at net.arcs a) ≡ zero_ratio
  unfolding after
  priced a i = elim (touch a) [
    | yes t ↦ (let r = basic_on a i t in
        price_same (at after.potentials) (values_in net (r.0 ∷ [])).potential (nodes_in r.0) (arc_at net.arcs a) (said.inside net others h.sound_after r.0 a r.1 r.2) (own_potential r.0 r.1)
        ∙ (h.sound_after.each r.0 r.1).priced a r.2)
    | no n ↦ (let b = basic_off a i n in
        let l = ((basics_hold net.arcs (values_of s).mark a).0 b).0 in
        let e = ends_off (length net.supply) (nodes_of ps) (ends_at net.arcs a) (g.ground.sound a no_arc l).joins n in
        ap₂ (λ x y. reduced_cost (ends_at net.arcs a) (cost_at net.arcs a) x y)
        (made.potential_out net real s ps entry g others h (tail_of (ends_at net.arcs a)) e.0.1 e.0.0) (made.potential_out net real s ps entry g others h (head_of (ends_at net.arcs a)) e.1.1 e.1.0)
        ∙ g.state.priced a b)
  ]

  flows_fit : (a : ℕ) → IsIn a (basics net.arcs (values_of after).mark) → Fits (at after.flows a)
  unfolding after
  flows_fit a i = elim (touch a) [
    | yes t ↦ (let r = basic_on a i t in
        let b = in_map_of (λ (x : ℕ × Ends × Ratio). x.0) a r.0.basics r.2 in
        subst Fits (sym (ap (at after.flows) b.2 ∙ own_flow r.0 r.1 b.0 b.1)) ((h.sound_after.each r.0 r.1).flows_fit b.0 b.1))
    | no n ↦ (let l = ((basics_hold net.arcs (values_of after).mark a).0 i).0 in
        subst Fits (sym (made.flow_out net real s ps entry g others h a l (outside a n))) (g.state.flows_fit a (basic_off a i n)))
  ]

  potentials_fit : (v : ℕ) → v < length net.supply → Fits (at after.potentials v)
  unfolding after
  potentials_fit v l = elim (decide_in v (nodes_of ps)) [
    | yes i ↦ (let r = in_flat_of nodes_in others v (forth v i) in
        let n = in_map_of (λ (x : ℕ × Ratio). x.0) v r.0.nodes r.2 in
        subst Fits (sym (made.potential_in net real s ps entry g others h v l i ∙ ap (values_in net others).potential n.2 ∙ said.potential_of net others h.sound_after r.0 n.0 r.1 n.1))
        ((h.sound_after.each r.0 r.1).potentials_fit n.0 n.1))
    | no k ↦ subst Fits (sym (made.potential_out net real s ps entry g others h v l k)) (g.state.potentials_fit v l)
  ]

  -- a part with a node of the pieces is one of the pieces after
  is_own : (nodes numbers : List ℕ) → IsPart net (values_of after).mark nodes numbers → (v : ℕ) → IsIn v nodes → IsIn v (nodes_of ps)
      → (p : PieceLists) × IsIn p others × (nodes ≡ nodes_in p) × (numbers ≡ basics_in p)
  is_own nodes numbers part v i j = (
    r.0,
    r.1,
    same_rising nodes (nodes_in r.0) part.nodes_ascend own.nodes_ascend (λ u. (same.1 u).0) (λ u. (same.1 u).1),
    same_rising numbers (basics_in r.0) part.arcs_ascend own.arcs_ascend (λ a. (same.2 a).0) (λ a. (same.2 a).1),
  )
    where
      r : (p : PieceLists) × IsIn p others × IsIn v (nodes_in p)
      r = in_flat_of nodes_in others v (forth v j)

      own : IsPart net (values_of after).mark (nodes_in r.0) (basics_in r.0)
      own = own_part r.0 r.1

      same : (part.least ≡ own.least) × ((u : ℕ) → IsIn u nodes ↔ IsIn u (nodes_in r.0)) × ((a : ℕ) → IsIn a numbers ↔ IsIn a (basics_in r.0))
      same = theorems.piece_is_unique ratios (length net.supply) (graph_of (ends_at net.arcs)) (basics net.arcs (values_of after).mark) part.least nodes numbers part.is_piece
          own.least (nodes_in r.0) (basics_in r.0) own.is_piece v i r.2

  own_rows : (p : PieceLists) → IsIn p others → PotentialsFit (ends_at net.arcs) (cost_at net.arcs) (basics_in p) (at after.potentials)
  own_rows p i = rows_same (ends_at net.arcs) (cost_at net.arcs) (nodes_in p) (basics_in p) (λ a j. said.inside net others h.sound_after p a i j) (values_in net (p ∷ [])).potential (at after.potentials)
      (λ v j. sym (own_potential p i v j)) (h.sound_after.each p i).rows_fit

  rows_fit : (nodes numbers : List ℕ) → IsPart net (values_of after).mark nodes numbers → PotentialsFit (ends_at net.arcs) (cost_at net.arcs) numbers (values_of after).potential
  unfolding after
  rows_fit nodes numbers part = elim (decide_in part.least (nodes_of ps)) [
    | yes j ↦ (let p = is_own nodes numbers part part.least part.is_piece.has_least j in
        subst (λ t. PotentialsFit (ends_at net.arcs) (cost_at net.arcs) t (at after.potentials)) (sym p.3) (own_rows p.0 p.1))
    | no k ↦ off k
  ]
    where
      off : (¬ IsIn part.least (nodes_of ps)) → PotentialsFit (ends_at net.arcs) (cost_at net.arcs) numbers (at after.potentials)
      off k = rows_same (ends_at net.arcs) (cost_at net.arcs) nodes numbers lies (at s.potentials) (at after.potentials)
          (λ v i. sym (made.potential_out net real s ps entry g others h v ((part.is_piece.joined v).0 i).0 (away v i))) (g.state.rows_fit nodes numbers before)
        where
          away : (v : ℕ) → IsIn v nodes → ¬ IsIn v (nodes_of ps)
          away v i j =
              let p = is_own nodes numbers part v i j in
              k (back part.least (in_flat nodes_in others p.0 part.least p.1 (subst (IsIn part.least) p.2 part.is_piece.has_least)))

          lies : (a : ℕ) → IsIn a numbers → LiesIn ratios nodes (graph_of (ends_at net.arcs) a)
          lies = graph_pieces.arcs_lie ratios (length net.supply) (graph_of (ends_at net.arcs)) (basics net.arcs (values_of after).mark) part.least nodes numbers part.is_piece (cutting.valid net (values_of after) g.ground.sound)

          untouched : (a : ℕ) → Touches nodes (graph_of (ends_at net.arcs) a) → ¬ IsIn a (entry.enter ∷ basics_of ps)
          untouched = pivoting.away net real s ps entry g nodes away

          before : IsPart net (values_of s).mark nodes numbers
          before = record {
            nodes_ascend = part.nodes_ascend;
            arcs_ascend = part.arcs_ascend;
            least = part.least;
            is_piece = graph_pieces.kept ratios (length net.supply) (graph_of (ends_at net.arcs)) (basics net.arcs (values_of after).mark) (basics net.arcs (values_of s).mark) part.least nodes numbers part.is_piece
                (cutting.valid net (values_of after) g.ground.sound) (λ a t. (
                  (λ i. let l = (basics_hold net.arcs (values_of after).mark a).0 i in
                      (basics_hold net.arcs (values_of s).mark a).1 (l.0, sym (made.mark_out net real s ps entry g others h a l.0 (untouched a t)) ∙ l.1)),
                  (λ i. let l = (basics_hold net.arcs (values_of s).mark a).0 i in
                      (basics_hold net.arcs (values_of after).mark a).1 (l.0, made.mark_out net real s ps entry g others h a l.0 (untouched a t) ∙ l.1)),
                ));
          }

  is_state : IsState net after
  unfolding after
  is_state = record {
    one_mark_each = made.length_marks net real s ps entry g others h;
    one_potential_each = made.length_potentials net real s ps entry g others h;
    feasible = made.is_feasible net real s ps entry g others h;
    at_bounds = made.stands net real s ps entry g others h;
    priced = priced;
    flows_fit = flows_fit;
    potentials_fit = potentials_fit;
    forest = made.is_forest net real s ps entry g others h;
    rows_fit = rows_fit;
  }

  pub pivot : (after : State) × IsPivot net real s entry after × ArePiecesAfter net ps after others
  unfolding after
  pivot = (
    after,
    record {
      eligible = g.eligible;
      direction = made.whole net real s ps entry g others h;
      step = h.step;
      move = made.move net real s ps entry g others h;
      is_state = is_state;
      flows = made.made_flow net real s ps entry g others h;
      marks = made.made_mark net real s ps entry g others h;
    },
    record { pieces_of = record { each = own_piece; apart = h.sound_after.apart }; same_nodes = h.same_nodes },
  )

pub after_is_exactly : AfterIsExactly
after_is_exactly net real s entry ps others ground st pieces few in_order into = (
  (λ h. pivot net real s ps entry (made.given net real s ps entry others ground st pieces h) others h),
  (λ r. to_pieces.is_after net real s ps entry (pivoting.given net real s ps entry r.0 ground st pieces into r.1) r.0 r.1 others r.2 few in_order),
)
