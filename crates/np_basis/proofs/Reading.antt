-- What pieces say of their nodes and arcs is what the state says; and each piece of a state is sound.
use Rattle.std.specs.Prelude.{◌≡◌, ◌≢◌, ℕ, ◌<◌, nat_eq, if◌then◌else◌, Bool, true, false, List, [], ◌∷◌, ◌++◌, map, length}
use Rattle.std.specs.List.{flat_map}
use Rattle.std.specs.Result.{IsOk}
use Rattle.std.proofs.Common.{refl, sym, ap, ap₂, subst, ◌∙◌, inl, inr, arith, eqb-true}
use Rattle.std.proofs.lemmas.Bool.{eqb-false}
use Rattle.std.proofs.lemmas.Slice.Zip.{length-zip}
use Rattle.gain_graphs.specs.Arcs as graph
use Rattle.gain_graphs.specs.Arcs.{IsIn, Touches}
use Rattle.gain_graphs.specs.Cycles.{Joins, IsWay}
use Rattle.gain_graphs.specs.QuasiTrees.{LiesIn, IsQuasiTree}
use Rattle.gain_graphs.proofs.Lists.{in_front, in_back, in_append, in_map, in_map_of, map_append, decide_in}
use Rattle.gain_graphs.proofs.Theorems as theorems
use Rattle.np_frac.specs.Ratio.{Ratio, zero_ratio}
use Rattle.np_frac.specs.Fits.{Fits}
use Rattle.np_model.specs.declared.arc.Ends.{Ends}
use Rattle.np_model.specs.declared.arc.Ends.TheVariants.{Link, Drain, Feed}
use Rattle.np_model.specs.declared.arc.Upper.{Upper}
use Rattle.np_model.specs.declared.arc.Upper.TheVariants.{Finite, Infinite}
use Rattle.np_model.specs.declared.arc.NetArc.{NetArc}
use Rattle.np_model.specs.declared.log.Mark.{Mark}
use Rattle.np_model.specs.declared.log.Mark.TheVariants as marked
use Rattle.np_model.specs.Network.Arcs.{IsWithin, IsFull, bound_of, tail_of, head_of, reduced_cost}
use Rattle.np_model.specs.Network.Flows.{Network, at}
use Rattle.np_model.specs.Basis.Graphs.{ratios, graph_ends, graph_of, no_arc, arc_at, ends_at, cost_at}
use Rattle.np_model.specs.Basis.Pieces.{PieceLists, nodes_in, basics_in, marked_in, beside, marks_of, flows_of, nodes_of}
use Rattle.np_model.specs.Basis.States.{State, Values, values_of, price, StandsAt, IsPieceOf, IsState}
use Rattle.np_model.specs.Basis.Sound.{bound_at, values_in, IsSound}
use Rattle.np_model.specs.Rows.Extra.{Extra, OneEnd, Round, IsExtra, IsOnRound, Hangs, Leads}
use Rattle.np_model.specs.Rows.Potentials.{across, PotentialsFit, FitsRows}
use Rattle.np_basis.specs.Laws.{PiecesAreSound, AgreeWith, PiecesAgree, RowsAreLocal}
use Rattle.np_basis.proofs.Basics.{basics_hold, decide_basic, zipped}
use Rattle.np_basis.proofs.Trees.{same_ends}

-- ---- what stands beside a number

pub record Found {A : Type 0} (other : A) (xs : List (ℕ × A)) (v : ℕ) : Type 0 where
  pub entry : ℕ × A
  pub is_in : IsIn entry xs
  pub key : entry.0 ≡ v
  pub is : beside other xs v ≡ entry.1

found_next : {A : Type 0} (other : A) (x : ℕ × A) (xs : List (ℕ × A)) (v : ℕ) (b : Bool) → nat_eq v x.0 ≡ b → (v ≢ x.0 → Found other xs v) → Found other (x ∷ xs) v
found_next other x xs v true e next = record { entry = x; is_in = inl refl; key = sym (eqb-true v x.0 e); is = ap (λ (t : Bool). if t then x.1 else beside other xs v) e }
found_next other x xs v false e next =
    let r : Found other xs v = next (eqb-false v x.0 e) in
    record { entry = r.entry; is_in = inr r.is_in; key = r.key; is = ap (λ (t : Bool). if t then x.1 else beside other xs v) e ∙ r.is }

pub beside_in : {A : Type 0} (other : A) (xs : List (ℕ × A)) (v : ℕ) → IsIn v (map (λ x. x.0) xs) → Found other xs v
beside_in other [] v i = absurd i
beside_in other (x ∷ xs) v i = found_next other x xs v (nat_eq v x.0) refl (λ h. beside_in other xs v (elim i [ inl p ↦ absurd (h p) | inr j ↦ j ]))

other_next : {A : Type 0} (other : A) (x : ℕ × A) (xs : List (ℕ × A)) (v : ℕ) (b : Bool) → nat_eq v x.0 ≡ b → v ≢ x.0 → beside other xs v ≡ other → beside other (x ∷ xs) v ≡ other
other_next other x xs v true e h next = absurd (h (eqb-true v x.0 e))
other_next other x xs v false e h next = ap (λ (t : Bool). if t then x.1 else beside other xs v) e ∙ next

pub beside_out : {A : Type 0} (other : A) (xs : List (ℕ × A)) (v : ℕ) → (¬ IsIn v (map (λ x. x.0) xs)) → beside other xs v ≡ other
beside_out other [] v h = refl
beside_out other (x ∷ xs) v h = other_next other x xs v (nat_eq v x.0) refl (λ e. h (inl e)) (beside_out other xs v (λ i. h (inr i)))

-- ---- lists of several pieces, joined

pub in_flat : {A B : Type 0} (f : A → List B) (ps : List A) (p : A) (x : B) → IsIn p ps → IsIn x (f p) → IsIn x (flat_map f ps)
in_flat f [] p x i j = absurd i
in_flat f (r ∷ ps) p x (inl e) j = in_front x (f r) (flat_map f ps) (subst (λ t. IsIn x (f t)) e j)
in_flat f (r ∷ ps) p x (inr i) j = in_back x (f r) (flat_map f ps) (in_flat f ps p x i j)

pub in_flat_of : {A B : Type 0} (f : A → List B) (ps : List A) (x : B) → IsIn x (flat_map f ps) → (p : A) × IsIn p ps × IsIn x (f p)
in_flat_of f [] x i = absurd i
in_flat_of f (r ∷ ps) x i = elim (in_append x (f r) (flat_map f ps) i) [
  | inl j ↦ (r, inl refl, j)
  | inr j ↦ (let w = in_flat_of f ps x j in (w.0, inr w.1, w.2))
]

-- a number of a list of one of the pieces is one of the joined list
pub in_keys : {A B : Type 0} (key : A → ℕ) (f : B → List A) (ps : List B) (p : B) (v : ℕ) → IsIn p ps → IsIn v (map key (f p)) → IsIn v (map key (flat_map f ps))
in_keys key f ps p v i j =
    let r = in_map_of key v (f p) j in
    subst (λ t. IsIn t (map key (flat_map f ps))) (sym r.2) (in_map key r.0 (flat_map f ps) (in_flat f ps p r.0 i r.1))

pub touches_flat : (ps : List PieceLists) (e : graph.Ends Ratio) → Touches (nodes_of ps) e → (p : PieceLists) × IsIn p ps × Touches (nodes_in p) e
touches_flat ps (graph.Link i j g) t = elim t [
  | inl x ↦ (let r = in_flat_of nodes_in ps i x in (r.0, r.1, inl r.2))
  | inr x ↦ (let r = in_flat_of nodes_in ps j x in (r.0, r.1, inr r.2))
]
touches_flat ps (graph.Drain v) t = in_flat_of nodes_in ps v t
touches_flat ps (graph.Feed v) t = in_flat_of nodes_in ps v t

-- ---- bounds

full_bound : (amount : Ratio) (u : Upper) → IsFull amount u → bound_of u ≡ amount
full_bound amount (Finite u) h = sym h
full_bound amount Infinite h = absurd h

pub stands_bound : (a : NetArc) (m : Mark) (amount : Ratio) → m ≢ marked.Basic → StandsAt a m amount → bound_at a m ≡ amount
stands_bound a marked.Lower amount h s = sym s
stands_bound a marked.Upper amount h s = full_bound amount a.upper s
stands_bound a marked.Basic amount h s = absurd (h refl)

bound_full : (amount : Ratio) (u : Upper) → IsFull amount u → IsFull (bound_of u) u
bound_full amount (Finite u) h = refl
bound_full amount Infinite h = absurd h

pub bound_stands : (a : NetArc) (m : Mark) (amount : Ratio) → StandsAt a m amount → StandsAt a m (bound_at a m)
bound_stands a marked.Lower amount s = refl
bound_stands a marked.Upper amount s = bound_full amount a.upper s
bound_stands a marked.Basic amount s = record {}

-- ---- pieces of a state agree with it

pub map_map : {A B C : Type 0} (f : A → B) (g : B → C) (xs : List A) → map g (map f xs) ≡ map (λ x. g (f x)) xs
map_map f g [] = refl
map_map f g (x ∷ xs) = ap (λ t. g (f x) ∷ t) (map_map f g xs)

module _ (net : Network) (s : Values) (stands : (a : ℕ) → a < length net.arcs → StandsAt (arc_at net.arcs a) (s.mark a) (s.flow a)) (ps : List PieceLists) (pieces : (p : PieceLists) → IsIn p ps → IsPieceOf net s p) where
  -- the marks of a piece: those of its basic arcs, and the others
  marked_split : (p : PieceLists) → map (λ (m : ℕ × Mark). m.0) (marks_of p) ≡ map (λ (b : ℕ × Ends × Ratio). b.0) p.basics ++ map (λ (m : ℕ × Mark). m.0) p.marks
  marked_split p = map_append (λ (m : ℕ × Mark). m.0) (map (λ (b : ℕ × Ends × Ratio). (b.0, marked.Basic)) p.basics) p.marks
      ∙ ap (λ t. t ++ map (λ (m : ℕ × Mark). m.0) p.marks) (map_map (λ (b : ℕ × Ends × Ratio). (b.0, marked.Basic)) (λ (m : ℕ × Mark). m.0) p.basics)

  in_marks : (a : ℕ) → a < length net.arcs → Touches (nodes_of ps) (graph_of (ends_at net.arcs) a) → IsIn a (map (λ (m : ℕ × Mark). m.0) (flat_map marks_of ps))
  in_marks a l t = in_keys (λ (m : ℕ × Mark). m.0) marks_of ps r.0 a r.1 (subst (IsIn a) (sym (marked_split r.0)) (go (decide_basic (s.mark a))))
    where
      r : (p : PieceLists) × IsIn p ps × Touches (nodes_in p) (graph_of (ends_at net.arcs) a)
      r = touches_flat ps (graph_of (ends_at net.arcs) a) t

      go : Dec (s.mark a ≡ marked.Basic) → IsIn a (basics_in r.0 ++ marked_in r.0)
      go (yes e) = in_front a (basics_in r.0) (marked_in r.0) (((pieces r.0 r.1).part.is_piece.touched a).1 ((basics_hold net.arcs s.mark a).1 (l, e), r.2))
      go (no h) = in_back a (basics_in r.0) (marked_in r.0) (((pieces r.0 r.1).read_off.marked a).1 (l, h, r.2))

  mark_is : (p : PieceLists) → IsIn p ps → (m : ℕ × Mark) → IsIn m (marks_of p) → m.1 ≡ s.mark m.0
  mark_is p k m i = elim (in_append m (map (λ (b : ℕ × Ends × Ratio). (b.0, marked.Basic)) p.basics) p.marks i) [
    | inl j ↦ (
        let r = in_map_of (λ (b : ℕ × Ends × Ratio). (b.0, marked.Basic)) m p.basics j in
        let t = ((pieces p k).part.is_piece.touched r.0.0).0 (in_map (λ (b : ℕ × Ends × Ratio). b.0) r.0 p.basics r.1) in
        ap (λ (x : ℕ × Mark). x.1) r.2 ∙ sym ((basics_hold net.arcs s.mark r.0.0).0 t.0).1 ∙ ap (λ (x : ℕ × Mark). s.mark x.0) (sym r.2))
    | inr j ↦ (pieces p k).read_off.marks m j
  ]

  agree_mark : (a : ℕ) → a < length net.arcs → Touches (nodes_of ps) (graph_of (ends_at net.arcs) a) → (values_in net ps).mark a ≡ s.mark a
  agree_mark a l t =
      let f : Found marked.Lower (flat_map marks_of ps) a = beside_in marked.Lower (flat_map marks_of ps) a (in_marks a l t) in
      let r = in_flat_of marks_of ps f.entry f.is_in in
      f.is ∙ mark_is r.0 r.1 f.entry r.2 ∙ ap s.mark f.key

  flow_keys : (p : PieceLists) → map (λ (x : ℕ × Ratio). x.0) (flows_of p) ≡ basics_in p
  flow_keys p = map_map (λ (b : ℕ × Ends × Ratio). (b.0, b.2)) (λ (x : ℕ × Ratio). x.0) p.basics

  agree_flow : (a : ℕ) → a < length net.arcs → Touches (nodes_of ps) (graph_of (ends_at net.arcs) a) → (values_in net ps).flow a ≡ s.flow a
  agree_flow a l t = go (decide_in a (map (λ (x : ℕ × Ratio). x.0) (flat_map flows_of ps)))
    where
      bound : Ratio
      bound = bound_at (arc_at net.arcs a) ((values_in net ps).mark a)

      go : Dec (IsIn a (map (λ (x : ℕ × Ratio). x.0) (flat_map flows_of ps))) → (values_in net ps).flow a ≡ s.flow a
      go (yes i) =
          let f : Found bound (flat_map flows_of ps) a = beside_in bound (flat_map flows_of ps) a i in
          let k = in_flat_of flows_of ps f.entry f.is_in in
          let r = in_map_of (λ (b : ℕ × Ends × Ratio). (b.0, b.2)) f.entry k.0.basics k.2 in
          f.is ∙ ap (λ (x : ℕ × Ratio). x.1) r.2 ∙ ((pieces k.0 k.1).read_off.basic r.0 r.1).1 ∙ ap (λ (x : ℕ × Ratio). s.flow x.0) (sym r.2) ∙ ap s.flow f.key
      go (no h) =
          beside_out bound (flat_map flows_of ps) a h ∙ ap (bound_at (arc_at net.arcs a)) (agree_mark a l t)
          ∙ stands_bound (arc_at net.arcs a) (s.mark a) (s.flow a) not_basic (stands a l)
        where
          not_basic : s.mark a ≢ marked.Basic
          not_basic e =
              let r = touches_flat ps (graph_of (ends_at net.arcs) a) t in
              h (in_keys (λ (x : ℕ × Ratio). x.0) flows_of ps r.0 a r.1 (subst (IsIn a) (sym (flow_keys r.0))
              (((pieces r.0 r.1).part.is_piece.touched a).1 ((basics_hold net.arcs s.mark a).1 (l, e), r.2))))

  agree_potential : (v : ℕ) → IsIn v (nodes_of ps) → (values_in net ps).potential v ≡ s.potential v
  agree_potential v i =
      let r = in_flat_of nodes_in ps v i in
      let f : Found zero_ratio (flat_map (λ (p : PieceLists). p.nodes) ps) v = beside_in zero_ratio (flat_map (λ (p : PieceLists). p.nodes) ps) v
      (in_keys (λ (x : ℕ × Ratio). x.0) (λ (p : PieceLists). p.nodes) ps r.0 v r.1 r.2) in
      let k = in_flat_of (λ (p : PieceLists). p.nodes) ps f.entry f.is_in in
      f.is ∙ (pieces k.0 k.1).read_off.potentials f.entry k.2 ∙ ap s.potential f.key

  pub agrees : AgreeWith net s ps
  agrees = record { marks = agree_mark; flows = agree_flow; potentials = agree_potential }

-- ---- prices and rows by the potentials of the nodes alone

pub price_same : (p q : ℕ → Ratio) (nodes : List ℕ) (a : NetArc) → LiesIn ratios nodes (graph_ends a.ends) → ((v : ℕ) → IsIn v nodes → p v ≡ q v) → price p a ≡ price q a
price_same p q nodes a inside same = go a.ends inside
  where
    go : (e : Ends) → LiesIn ratios nodes (graph_ends e) → reduced_cost e a.cost (p (tail_of e)) (p (head_of e)) ≡ reduced_cost e a.cost (q (tail_of e)) (q (head_of e))
    go (Link i j g) l = ap₂ (reduced_cost (Link i j g) a.cost) (same i l.0) (same j l.1)
    go (Drain v) l = ap (λ t. reduced_cost (Drain v) a.cost t t) (same v l)
    go (Feed v) l = ap (λ t. reduced_cost (Feed v) a.cost t t) (same v l)

joins_inside : (nodes : List ℕ) (e : graph.Ends Ratio) (u v : ℕ) → LiesIn ratios nodes e → Joins e u v → IsIn u nodes
joins_inside nodes (graph.Link i j g) u v l joins = elim joins [ inl k ↦ subst (λ t. IsIn t nodes) (sym k.0) l.0 | inr k ↦ subst (λ t. IsIn t nodes) (sym k.0) l.1 ]
joins_inside nodes (graph.Drain i) u v l joins = absurd joins
joins_inside nodes (graph.Feed i) u v l joins = absurd joins

module _ (ends : ℕ → Ends) (cost : ℕ → Ratio) (nodes arcs : List ℕ) (lie : (a : ℕ) → IsIn a arcs → LiesIn ratios nodes (graph_of ends a)) where
  -- an arc leads outwards from a node of the piece
  on_round : (k : ℕ) (way : List (ℕ × ℕ)) (end a u v : ℕ) → IsWay (graph_of ends) arcs k way end → IsOnRound k way a u v → IsIn u nodes
  on_round k [] end a u v w on = absurd on
  on_round k (x ∷ []) end a u v w on = absurd on
  on_round k (x ∷ y ∷ way) end a u v w on = elim on [
    | inl e ↦ subst (λ t. IsIn t nodes) (sym e.1) (joins_inside nodes (graph_of ends x.0) k x.1 (lie x.0 w.0) w.1)
    | inr r ↦ on_round x.1 (y ∷ way) end a u v w.2 r
  ]

  hangs_inside : (x : Extra) (a u v : ℕ) → Hangs ends arcs x a u v → IsIn u nodes
  hangs_inside x a u v h = joins_inside nodes (graph_of ends a) u v (lie a (subst (IsIn a) h.split (in_back a h.before (a ∷ h.after) (inl refl)))) h.joins

  leads_inside : (x : Extra) (a u v : ℕ) → IsExtra ends arcs x → Leads ends arcs x a u v → IsIn u nodes
  leads_inside (OneEnd b k) a u v extra leads = hangs_inside (OneEnd b k) a u v leads
  leads_inside (Round k way) a u v extra leads = elim leads [ inl h ↦ hangs_inside (Round k way) a u v h | inr r ↦ on_round k way k a u v extra.cycle.closes r ]

  pub rows_same : (p q : ℕ → Ratio) → ((v : ℕ) → IsIn v nodes → p v ≡ q v) → PotentialsFit ends cost arcs p → PotentialsFit ends cost arcs q
  rows_same p q same fit x extra =
      let f : FitsRows ends cost arcs x p = fit x extra in
      record { at_root = f.at_root; links = λ a u v leads. subst (λ t. IsOk (across (ends a) (cost a) u t)) (same u (leads_inside x a u v extra leads)) (f.links a u v leads) }

-- ---- pieces of a state are sound

pub within_at : (net : Network) (s : State) → IsState net s → (a : ℕ) → a < length net.arcs → IsWithin (arc_at net.arcs a) (at s.flows a)
within_at net s st a l = subst (λ (z : NetArc × Ratio). IsWithin z.0 z.1) (zipped net.arcs s.flows st.feasible.one_each a l (no_arc, zero_ratio))
    (st.feasible.within a (no_arc, zero_ratio) (omega (arith, length-zip net.arcs s.flows, st.feasible.one_each)))

pub piece_is_sound : (net : Network) (s : State) (p : PieceLists) → IsState net s → IsPieceOf net (values_of s) p → IsSound net p
piece_is_sound net s p st h = record {
  in_net = record {
    shape = record {
      nodes_ascend = h.part.nodes_ascend;
      basics_ascend = h.part.arcs_ascend;
      marks_ascend = h.read_off.marks_ascend;
      quasi_tree = subst (IsQuasiTree ratios (nodes_in p)) (sym (same_ends (ends_at net.arcs) p.basics (λ b i. (h.read_off.basic b i).0))) own;
      others = λ a i j. ((h.read_off.marked a).0 i).1 (basic_of a j).1;
      at_bounds = λ m i f. ((h.read_off.marked m.0).0 (in_map (λ (x : ℕ × Mark). x.0) m p.marks i)).1 (sym (h.read_off.marks m i) ∙ f);
    };
    nodes = λ v i. ((h.part.is_piece.joined v).0 i).0;
    basic = λ b i. ((basic_of b.0 (in_map (λ (x : ℕ × Ends × Ratio). x.0) b p.basics i)).0, (h.read_off.basic b i).0);
    marked = λ a. (
      (λ i. let k = (h.read_off.marked a).0 i in (k.0, (λ j. k.1 (basic_of a j).1), k.2)),
      (λ k. (h.read_off.marked a).1 (k.0, (λ e. k.1 ((h.part.is_piece.touched a).1 ((basics_hold net.arcs (values_of s).mark a).1 (k.0, e), k.2))), k.2)),
    );
  };
  within = λ b i. subst (IsWithin (arc_at net.arcs b.0)) (sym (h.read_off.basic b i).1) (within_at net s st b.0 (basic_of b.0 (in_map (λ (x : ℕ × Ends × Ratio). x.0) b p.basics i)).0);
  allowed = λ m i. let k = (h.read_off.marked m.0).0 (in_map (λ (x : ℕ × Mark). x.0) m p.marks i) in
      bound_stands (arc_at net.arcs m.0) m.1 (at s.flows m.0) (subst (λ t. StandsAt (arc_at net.arcs m.0) t (at s.flows m.0)) (sym (h.read_off.marks m i)) (st.at_bounds m.0 k.0));
  priced = λ a i. price_same (values_in net (p ∷ [])).potential (values_of s).potential (nodes_in p) (arc_at net.arcs a) (lies a i) same ∙ st.priced a ((h.part.is_piece.touched a).0 i).0;
  flows_fit = λ b i. let j = in_map (λ (x : ℕ × Ends × Ratio). x.0) b p.basics i in subst Fits (sym (h.read_off.basic b i).1) (st.flows_fit b.0 ((h.part.is_piece.touched b.0).0 j).0);
  potentials_fit = λ n i. let j = in_map (λ (x : ℕ × Ratio). x.0) n p.nodes i in subst Fits (sym (h.read_off.potentials n i)) (st.potentials_fit n.0 ((h.part.is_piece.joined n.0).0 j).0);
  rows_fit = rows_same (ends_at net.arcs) (cost_at net.arcs) (nodes_in p) (basics_in p) lies (values_of s).potential (values_in net (p ∷ [])).potential (λ v i. sym (same v i))
      (st.rows_fit (nodes_in p) (basics_in p) h.part);
}
  where
    basic_of : (a : ℕ) → IsIn a (basics_in p) → (a < length net.arcs) × ((values_of s).mark a ≡ marked.Basic)
    basic_of a i = (basics_hold net.arcs (values_of s).mark a).0 ((h.part.is_piece.touched a).0 i).0

    own : IsQuasiTree ratios (nodes_in p) (map (graph_of (ends_at net.arcs)) (basics_in p))
    own = st.forest h.part.least (nodes_in p) (basics_in p) h.part.is_piece

    lies : (a : ℕ) → IsIn a (basics_in p) → LiesIn ratios (nodes_in p) (graph_of (ends_at net.arcs) a)
    lies a i = theorems.lies ratios (graph_of (ends_at net.arcs)) (nodes_in p) (basics_in p) own a i

    same : (v : ℕ) → IsIn v (nodes_in p) → (values_in net (p ∷ [])).potential v ≡ (values_of s).potential v
    same v i = (agrees net (values_of s) st.at_bounds (p ∷ []) (λ r. elim [ inl e ↦ subst (IsPieceOf net (values_of s)) (sym e) h | inr k ↦ absurd k ])).potentials v
        (in_front v (nodes_in p) [] i)

pub pieces_are_sound : PiecesAreSound
pieces_are_sound net s pieces st each apart = record {
  each = λ p i. piece_is_sound net s p st (each p i);
  apart = apart;
  one_mark = λ p q m k i j x y e. (each p i).read_off.marks m x ∙ ap (values_of s).mark e ∙ sym ((each q j).read_off.marks k y);
}

pub pieces_agree : PiecesAgree
pieces_agree net s ps stands pieces = agrees net s stands ps pieces

pub rows_are_local : RowsAreLocal
rows_are_local ends cost nodes arcs p q lie same fit = rows_same ends cost nodes arcs lie p q same fit
