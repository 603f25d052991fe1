-- The potentials of a piece once they stand in it; and that the rows cannot give an overflow too.
use Rattle.std.specs.Prelude.{◌≡◌, ◌≢◌, ◌<◌, ℕ, zero, suc, nat_eq, cond, Bool, true, false, List, [], ◌∷◌, map, length, slice_index, slice_index_or, Result, Ok, Err, MatchResult, pos}
use Rattle.std.specs.List.{zip}
use Rattle.std.specs.Result.{IsOk}
use Rattle.std.proofs.Common.{refl, sym, ap, ap₂, subst, ◌∙◌, inl, inr, arith, eqb-true, eq-eqb, true≢false}
use Rattle.gain_graphs.specs.Arcs.{IsIn}
use Rattle.gain_graphs.specs.Cycles.{Joins}
use Rattle.gain_graphs.specs.QuasiTrees.{LiesIn}
use Rattle.gain_graphs.proofs.Lists.{in_map, length_map, in_list}
use Rattle.np_frac.specs.Ratio as ratio
use Rattle.np_frac.specs.Ratio.{Ratio, zero_ratio}
use Rattle.np_frac.specs.Fits.{Fits}
use Rattle.np_frac.specs.Exact.{over_of, ◌▷◌}
use Rattle.np_frac.specs.declared.frac.Past.{Past}
use Rattle.np_frac.proofs.Exactness.{found_by}
use Rattle.np_frac.proofs.Parts.{num_apart}
use Rattle.np_model.specs.declared.arc.Ends.{Ends}
use Rattle.np_model.specs.declared.arc.Ends.TheVariants.{Link, Drain, Feed}
use Rattle.np_model.specs.declared.rows.Row.{Row}
use Rattle.np_model.specs.Network.Arcs.{reduced_cost, tail_of, head_of}
use Rattle.np_model.specs.Network.Flows.{Network, at}
use Rattle.np_model.specs.Basis.Graphs.{ratios, graph_ends, ends_at, cost_at}
use Rattle.np_model.specs.Basis.Pieces.{PieceLists, nodes_in, basics_in, beside}
use Rattle.np_model.specs.Basis.Sound.{IsInNet}
use Rattle.np_model.specs.Rows.Extra.{Extra, Round, IsExtra, Leads}
use Rattle.np_model.specs.Rows.Potentials as rows
use Rattle.np_model.specs.Rows.Potentials.{across, FitsRows, Gives}
use Rattle.np_basis.proofs.Trees.{lies, potentials_are_unique}
use Rattle.np_basis.proofs.Fulls.{length_full, full_net_is_sound}
use Rattle.np_basis.specs.Laws.{HasSoundArcs}
use Rattle.np_model.specs.declared.network.FullNet.{FullNet}
use Rattle.np_model.specs.declared.phase.Phase.{Phase}
use Rattle.np_model.specs.declared.log.Mark.{Mark}
use Rattle.np_model.specs.Basis.Phases.{phase_net, all_arcs}
use Rattle.tree_search.specs.declared.piece.Step.{Step}
use Rattle.tree_search.specs.declared.piece.Joint.{Joint}
use Rattle.tree_search.specs.declared.piece.ExtraArc.{ExtraArc}
use Rattle.tree_search.specs.declared.piece.ExtraArc.TheVariants as found
use Rattle.tree_search.specs.declared.search.Search.{Search}
use Rattle.tree_search.specs.Places.{loose, HasPlace, EndsHavePlaces, AreJoints, IsTree, HasGain}
use Rattle.tree_search.specs.Search.{IsSearch, IsClosed}
use Rattle.tree_search.specs.Finding.{first_node, way_of, starts_of, IsFound}
use Rattle.tree_search.proofs.Placed.{joints_below, placed}
use Rattle.tree_search.proofs.Searches.{at_of}
use Rattle.quasi_tree.specs.Store.{with_potentials}
use Rattle.tree_potentials.specs.Along.{costs_in, AreWalkable, IsWithin, CanWalkOff, EndFits, walk_off}
use Rattle.tree_potentials.specs.Answers.{piece_of, ArePotentials, HasPotentials, GivesPast, IsOverflow}
use Rattle.tree_potentials.proofs.Rounds.{divisor_is}
use Rattle.np_frac.proofs.Results.{ok_is, is_ok_of, err_not_ok, same_ok}
use Rattle.tree_potentials.proofs.Whole.{leads_joins, of_ends, of, tree, apart, steps_within, walked}

-- ---- values beside their nodes

pub zip_nodes : (ns : List ℕ) (vs : List Ratio) → length vs ≡ length ns → map (λ n. n.0) (zip ns vs) ≡ ns
zip_nodes [] vs e = refl
zip_nodes (n ∷ ns) [] e = absurd (omega (arith, e))
zip_nodes (n ∷ ns) (v ∷ vs) e = ap (λ l. n ∷ l) (zip_nodes ns vs (omega (arith, e)))

abbrev Stand : List ℕ → List Ratio → (ℕ → Ratio) → Type 0
Stand ns vs p = (i : ℕ) → i < length ns → at vs i ≡ p (slice_index ns i)

rest_stand : (n : ℕ) (ns : List ℕ) (w : Ratio) (vs : List Ratio) (p : ℕ → Ratio) → Stand (n ∷ ns) (w ∷ vs) p → Stand ns vs p
rest_stand n ns w vs p s i l = s (suc i) (omega arith)

differ : (v n : ℕ) → nat_eq v n ≡ false → v ≡ n → ⊥
differ v n m k = true≢false (sym (eq-eqb v n k) ∙ m)

beside_zip : (ns : List ℕ) (vs : List Ratio) (p : ℕ → Ratio) → length vs ≡ length ns → Stand ns vs p → (v : ℕ) → IsIn v ns → beside zero_ratio (zip ns vs) v ≡ p v
beside_zip [] vs p e s v i = absurd i
beside_zip (n ∷ ns) [] p e s v i = absurd (omega (arith, e))
beside_zip (n ∷ ns) (w ∷ vs) p e s v i = go (nat_eq v n) refl (λ k. beside_zip ns vs p (omega (arith, e)) (rest_stand n ns w vs p s) v k)
  where
    go : (b : Bool) → nat_eq v n ≡ b → (IsIn v ns → beside zero_ratio (zip ns vs) v ≡ p v) → cond b w (beside zero_ratio (zip ns vs) v) ≡ p v
    go true m rest = s zero (omega arith) ∙ ap p (sym (eqb-true v n m))
    go false m rest = elim i [ inl k ↦ absurd (differ v n m k) | inr k ↦ rest k ]

in_zip : (ns : List ℕ) (vs : List Ratio) (p : ℕ → Ratio) → Stand ns vs p → (n : ℕ × Ratio) → IsIn n (zip ns vs) → (n.1 ≡ p n.0) × IsIn n.0 ns
in_zip [] vs p s n i = absurd i
in_zip (m ∷ ns) [] p s n i = absurd i
in_zip (m ∷ ns) (w ∷ vs) p s n (inl e) = (ap (λ (t : ℕ × Ratio). t.1) e ∙ s zero (omega arith) ∙ ap p (sym (ap (λ (t : ℕ × Ratio). t.0) e)), inl (ap (λ (t : ℕ × Ratio). t.0) e))
in_zip (m ∷ ns) (w ∷ vs) p s n (inr i) = let r = in_zip ns vs p (rest_stand m ns w vs p s) n i in (r.0, inr r.1)

-- ---- ends among the nodes

ends_inside : (ns : List ℕ) (e : Ends) → LiesIn ratios ns (graph_ends e) → IsIn (tail_of e) ns × IsIn (head_of e) ns
ends_inside ns (Link i j g) l = (l.0, l.1)
ends_inside ns (Drain i) l = (l, l)
ends_inside ns (Feed i) l = (l, l)

near_inside : (ns : List ℕ) (e : Ends) (u v : ℕ) → LiesIn ratios ns (graph_ends e) → Joins (graph_ends e) u v → IsIn u ns
near_inside ns (Link i j g) u v l (inl m) = subst (λ t. IsIn t ns) (sym m.0) l.0
near_inside ns (Link i j g) u v l (inr m) = subst (λ t. IsIn t ns) (sym m.0) l.1
near_inside ns (Drain i) u v l m = absurd m
near_inside ns (Feed i) u v l m = absurd m

module _ (net : Network) (piece : PieceLists) (h : IsInNet net piece) where
  near : (x : Extra) → IsExtra (ends_at net.arcs) (basics_in piece) x → (a u v : ℕ) → Leads (ends_at net.arcs) (basics_in piece) x a u v → IsIn u (nodes_in piece)
  near x e a u v l =
      let j = leads_joins (ends_at net.arcs) (basics_in piece) x e a u v l in
      near_inside (nodes_in piece) (ends_at net.arcs a) u v (lies net piece h a j.0) j.1

  -- where they stand in the piece, they are its potentials
  pub has_potentials : (values : List Ratio) → ArePotentials net piece values → HasPotentials net (with_potentials piece values)
  has_potentials values are = record {
    priced = λ a i.
        let l = ends_inside (nodes_in piece) (ends_at net.arcs a) (lies net piece h a i) in
        ap₂ (λ s t. reduced_cost (ends_at net.arcs a) (cost_at net.arcs a) s t) (agree (tail_of (ends_at net.arcs a)) l.0) (agree (head_of (ends_at net.arcs a)) l.1) ∙ are.priced a i;
    fit = λ n i. let r = in_zip (nodes_in piece) values are.potential stand n i in subst Fits (sym r.0) (are.fit n.0 r.1);
    rows_fit = λ x e. record {
      at_root = (are.rows_fit x e).at_root;
      links = λ a u v l. subst (λ t. IsOk (across (ends_at net.arcs a) (cost_at net.arcs a) u t)) (sym (agree u (near x e a u v l))) ((are.rows_fit x e).links a u v l);
    };
  }
    where
      stand : Stand (nodes_in piece) values are.potential
      stand i l = are.stand i (subst (λ n. i < n) (length_map (λ (n : ℕ × Ratio). n.0) piece.nodes) l)

      agree : (v : ℕ) → IsIn v (nodes_in piece) → beside zero_ratio (zip (nodes_in piece) values) v ≡ are.potential v
      agree = beside_zip (nodes_in piece) values are.potential (are.one_each ∙ sym (length_map (λ (n : ℕ × Ratio). n.0) piece.nodes)) stand

  root_round : (x : Extra) (k : ℕ) (way : List (ℕ × ℕ)) → x ≡ Round k way → IsOk (rows.root_potential (ends_at net.arcs) (cost_at net.arcs) x)
      → (total : Ratio) × (rows.potential_along (ends_at net.arcs) (cost_at net.arcs) k way zero_ratio ≡ Ok total) × (last : Ratio) × (rows.divisor (ends_at net.arcs) (cost_at net.arcs) k way ≡ Ok last) × IsOk (over_of total last)
  root_round x k way e ok =
      let r = ok_is (rows.root_potential (ends_at net.arcs) (cost_at net.arcs) (Round k way)) (subst (λ t. IsOk (rows.root_potential (ends_at net.arcs) (cost_at net.arcs) t)) e ok) in
      let m = found_by (rows.potential_along (ends_at net.arcs) (cost_at net.arcs) k way zero_ratio) (λ sum. rows.divisor (ends_at net.arcs) (cost_at net.arcs) k way ▷ over_of sum) r.0 r.1 in
      let l = found_by (rows.divisor (ends_at net.arcs) (cost_at net.arcs) k way) (over_of m.0) r.0 m.2 in
      (m.0, m.1, l.0, l.1, is_ok_of (over_of m.0 l.0) r.0 l.2)

  -- an operation that is reached overflows, or none does
  pub clash : (x : Extra) (p q : ℕ → Ratio) → IsExtra (ends_at net.arcs) (basics_in piece) x → ((v : ℕ) → IsIn v (nodes_in piece) → p v ≡ q v) → (row : Row) (past : Past)
      → Gives (ends_at net.arcs) (cost_at net.arcs) (basics_in piece) x p row past → FitsRows (ends_at net.arcs) (cost_at net.arcs) (basics_in piece) x q → ⊥
  clash x p q is same row past (rows.product k way other e d) f =
      let r = root_round x k way e f.at_root in
      err_not_ok (rows.divisor (ends_at net.arcs) (cost_at net.arcs) k way) other d (is_ok_of (rows.divisor (ends_at net.arcs) (cost_at net.arcs) k way) r.2 r.3)
  clash x p q is same row past (rows.sum k way other e d) f =
      let r = root_round x k way e f.at_root in
      err_not_ok (rows.potential_along (ends_at net.arcs) (cost_at net.arcs) k way zero_ratio) other d (is_ok_of (rows.potential_along (ends_at net.arcs) (cost_at net.arcs) k way zero_ratio) r.0 r.1)
  clash x p q is same row past (rows.quotient k way other total last e d d' o) f =
      let r = root_round x k way e f.at_root in
      err_not_ok (over_of total last) other o
      (subst (λ t. IsOk (over_of t last)) (same_ok (rows.potential_along (ends_at net.arcs) (cost_at net.arcs) k way zero_ratio) r.0 total r.1 d)
      (subst (λ t. IsOk (over_of r.0 t)) (same_ok (rows.divisor (ends_at net.arcs) (cost_at net.arcs) k way) r.2 last r.3 d') r.4))
  clash x p q is same row past (rows.link a u v other l reached e) f =
      err_not_ok (across (ends_at net.arcs a) (cost_at net.arcs a) u (q u)) other (ap (λ t. across (ends_at net.arcs a) (cost_at net.arcs a) u t) (sym (same u (near x is a u v l))) ∙ e) (f.links a u v l)

  pub not_both : (values : List Ratio) (row : Row) (past : Past) → ArePotentials net piece values → GivesPast net piece row past → ⊥
  not_both values row past are given =
      clash given.gives.0 given.potential are.potential given.gives.1 (potentials_are_unique net piece (cost_at net.arcs) given.potential are.potential h given.priced are.priced) row past given.gives.2
      (are.rows_fit given.gives.0 given.gives.1)

-- ---- what the calls need

module _ (full : FullNet) (phase : Phase) (nodes : List (ℕ × Ratio)) (basics : List (ℕ × Ends × Ratio)) (marks : List (ℕ × Mark)) (h : IsInNet (phase_net phase full) (piece_of nodes basics marks)) where
  abbrev net : Network
  net = phase_net phase full

  abbrev piece : PieceLists
  piece = piece_of nodes basics marks

  sound : HasSoundArcs net
  sound = full_net_is_sound phase full

  pub inside : (k : ℕ) (d : ℕ × Ends × Ratio) → k < length basics → (slice_index_or basics k d).0 < all_arcs full
  inside k d l = subst (λ n. (slice_index_or basics k d).0 < n) (length_full phase full.net.arcs full.artificial) (h.basic (slice_index_or basics k d) (in_list basics k d l)).0

  lies_at : (k : ℕ) (d : ℕ × Ends × Ratio) → k < length basics → LiesIn ratios (nodes_in piece) (graph_ends (slice_index_or basics k d).1)
  lies_at k d l =
      let i = in_list basics k d l in
      subst (λ e. LiesIn ratios (nodes_in piece) (graph_ends e)) (sym (h.basic (slice_index_or basics k d) i).1)
      (lies net piece h (slice_index_or basics k d).0 (in_map (λ (b : ℕ × Ends × Ratio). b.0) (slice_index_or basics k d) basics i))

  pub stand_at : (k : ℕ) (d : ℕ × Ends × Ratio) → k < length basics → EndsHavePlaces (nodes_in piece) (slice_index_or basics k d).1
  stand_at k d l = go (slice_index_or basics k d).1 (lies_at k d l)
    where
      stands : (v : ℕ) → IsIn v (nodes_in piece) → HasPlace (nodes_in piece) v
      stands v i = let r = at_of v (nodes_in piece) i in (r.0, (r.1, r.2))

      go : (e : Ends) → LiesIn ratios (nodes_in piece) (graph_ends e) → EndsHavePlaces (nodes_in piece) e
      go (Link i j g) l = (stands i l.0, stands j l.1)
      go (Drain i) l = stands i l
      go (Feed i) l = stands i l

  pub is_tree : IsTree (nodes_in piece) basics
  is_tree = tree net piece sound h

  pub walkable : (costs : List Ratio) → costs ≡ costs_in (cost_at net.arcs) basics → AreWalkable basics costs
  walkable costs e = record {
    one_each = ap length e ∙ length_map (λ (b : ℕ × Ends × Ratio). cost_at net.arcs b.0) basics;
    gains = λ k d l. go (slice_index_or basics k d).1 (lies_at k d l);
  }
    where
      go : (e : Ends) → LiesIn ratios (nodes_in piece) (graph_ends e) → HasGain e
      go (Link i j g) l = num_apart g l.2
      go (Drain i) l = record {}
      go (Feed i) l = record {}

  pub begins : (joints : List Joint) → AreJoints (nodes_in piece) basics joints → (extra : ExtraArc) → IsFound (nodes_in piece) basics joints extra → CanWalkOff nodes basics joints extra
  begins joints are (found.OneEnd arc) is =
      let l : arc < length joints = subst (λ n. arc < n) (sym are.long) is.laid_out.0 in
      (is.laid_out.0, l, subst (λ n. (slice_index_or joints arc loose).from < n) (length_map (λ (n : ℕ × Ratio). n.0) nodes) (joints_below (nodes_in piece) basics joints are arc loose l).0)
  begins joints are (found.Round cycle) is = (
    is.laid_out.0,
    λ k d l. in_lists (slice_index_or cycle.items k d) (in_list cycle.items k d l),
    λ last e. num_apart last (apart net piece sound h (first_node (nodes_in piece) cycle.items) (way_of (nodes_in piece) basics cycle.items) (is.is_extra (ends_at net.arcs) (of_ends net piece sound h)) last
        (sym (divisor_is (ends_at net.arcs) (cost_at net.arcs) nodes basics (costs_in (cost_at net.arcs) basics) (of net piece sound h) (first_node (nodes_in piece) cycle.items) cycle.items is.laid_out.3 in_lists) ∙ e)),
  )
    where
      in_lists : (s : Step) → IsIn s cycle.items → IsWithin nodes basics s
      in_lists = steps_within net piece sound h cycle.items is.laid_out.1

  pub steps_inside : (joints : List Joint) → AreJoints (nodes_in piece) basics joints → (extra : ExtraArc) (n : ℕ) (search : Search) → IsSearch joints n (starts_of joints extra) search
      → (k : ℕ) (d : Step) → k < length search.steps.items → IsWithin nodes basics (slice_index_or search.steps.items k d)
  steps_inside joints are extra n search is k d l =
      let w = placed (nodes_in piece) basics joints are search.steps.items (starts_of joints extra) is.goes (slice_index_or search.steps.items k d) (in_list search.steps.items k d l) in
      let e = length_map (λ (n : ℕ × Ratio). n.0) nodes in
      (w.0, subst (λ n. (slice_index_or search.steps.items k d).near < n) e w.1, subst (λ n. (slice_index_or search.steps.items k d).far < n) e w.2)

  -- ---- the answer

  pub answered : (joints : List Joint) (costs : List Ratio) (steps : List Step) (extra : ExtraArc) (n : ℕ) (search : Search) (zeros : List Ratio) → costs ≡ costs_in (cost_at net.arcs) basics → steps ≡ search.steps.items
      → AreJoints (nodes_in piece) basics joints → IsFound (nodes_in piece) basics joints extra → IsSearch joints n (starts_of joints extra) search → IsClosed joints search.queue.items → length zeros ≡ length nodes → EndFits basics costs extra
      → MatchResult (walk_off nodes basics costs joints extra steps zeros) (ArePotentials net piece) (IsOverflow net piece)
  answered joints costs steps extra n search zeros costs_are steps_are are is is_search closed long fits =
      subst (λ c. MatchResult (walk_off nodes basics c joints extra steps zeros) (ArePotentials net piece) (IsOverflow net piece)) (sym costs_are)
      (subst (λ l. MatchResult (walk_off nodes basics (costs_in (cost_at net.arcs) basics) joints extra l zeros) (ArePotentials net piece) (IsOverflow net piece)) (sym steps_are)
      (walked net piece sound h joints are n search closed extra is is_search zeros long (subst (λ c. EndFits basics c extra) costs_are fits)))

pub on_ok : {A E : Type 0} (P : A → Type 0) (Q : E → Type 0) (r : Result A E) (x : A) → MatchResult r P Q → r ≡ Ok x → P x
on_ok P Q (Ok y) x m e = subst P (let f : y ≡ x = cc in f) m
on_ok P Q (Err o) x m e = absurd (let f : ⊥ = cc in f)

pub on_err : {A E : Type 0} (P : A → Type 0) (Q : E → Type 0) (r : Result A E) (o : E) → MatchResult r P Q → r ≡ Err o → Q o
on_err P Q (Ok y) o m e = absurd (let f : ⊥ = cc in f)
on_err P Q (Err p) o m e = subst Q (let f : p ≡ o = cc in f) m

-- what is told of the piece with these lists, whatever its marks, holds of the piece that has them
pub of_lists : (P : PieceLists → Type 0) (net : Network) (nodes : List (ℕ × Ratio)) (basics : List (ℕ × Ends × Ratio)) (marks : List (ℕ × Mark)) (held : PieceLists) → piece_of nodes basics marks ≡ held
    → IsInNet net held → ((marks : List (ℕ × Mark)) → IsInNet net (piece_of nodes basics marks) → P (piece_of nodes basics marks)) → P held
of_lists P net nodes basics marks held e h told = subst P e (told marks (subst (IsInNet net) (sym e) h))

pub same_piece : (nodes ns : List (ℕ × Ratio)) (basics bs : List (ℕ × Ends × Ratio)) (marks : List (ℕ × Mark)) (held : PieceLists) → nodes ≡ ns → basics ≡ bs → piece_of ns bs marks ≡ held → piece_of nodes basics marks ≡ held
same_piece nodes ns basics bs marks held e f g = ap₂ (λ n b. piece_of n b marks) e f ∙ g
