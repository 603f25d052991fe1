-- The walk off the extra arc of a piece gives its potentials, or an operation that is reached overflows.
use Rattle.std.specs.Prelude.{Vec, ◌≡◌, ◌≢◌, ◌<◌, ℕ, zero, suc, List, [], ◌∷◌, ◌++◌, length, slice_index, slice_index_or, slice_set, Result, Ok, Err, MatchResult}
use Rattle.std.specs.Global.{Global}
use Rattle.std.specs.Result.{IsOk}
use Rattle.std.proofs.Common.{refl, sym, ap, ap₂, subst, ◌∙◌, inl, inr, arith}
use Rattle.std.proofs.lemmas.List.{get_or-map, length-set}
use Rattle.gain_graphs.specs.Arcs as graph
use Rattle.gain_graphs.specs.Arcs.{IsIn}
use Rattle.gain_graphs.specs.Cycles.{nodes_along, Joins, IsNoLoop, IsWay}
use Rattle.gain_graphs.proofs.Lists.{in_map, length_map}
use Rattle.np_frac.specs.Ratio.{Ratio, zero_ratio}
use Rattle.np_frac.specs.Fits.{Fits}
use Rattle.np_frac.specs.Exact.{over_of, ◌▷◌}
use Rattle.np_frac.specs.declared.frac.Past.{Past}
use Rattle.np_frac.proofs.Exactness.{found_by}
use Rattle.np_frac.proofs.Fitting.{over_fits}
use Rattle.np_model.specs.declared.arc.Ends.{Ends}
use Rattle.np_model.specs.declared.rows.Row.TheVariants.{A7}
use Rattle.np_model.specs.declared.rows.Overflow.{Overflow}
use Rattle.np_model.specs.Network.Flows.{Network, at}
use Rattle.np_model.specs.Basis.Graphs as graphs
use Rattle.np_model.specs.Basis.Graphs.{ratios, graph_ends, graph_of, cost_at}
use Rattle.np_model.specs.Basis.Pieces.{PieceLists, nodes_in, basics_in}
use Rattle.np_model.specs.Basis.Sound.{IsInNet}
use Rattle.np_model.specs.Rows.Extra.{Extra, OneEnd, Round, extra_nodes, IsOnRound, IsExtra, Hangs, Leads}
use Rattle.np_model.specs.Rows.Potentials as rows
use Rattle.np_model.specs.Rows.Potentials.{across, FitsRows, ArePriced}
use Rattle.np_basis.specs.Laws.{HasSoundArcs}
use Rattle.np_basis.proofs.Trees.{lies, potentials_exist}
use Rattle.np_basis.proofs.Extras.{no_loops, extra_is_unique}
use Rattle.np_basis.proofs.Divisors.{potentials_divisor}
use Rattle.tree_search.specs.declared.piece.Step.{Step}
use Rattle.tree_search.specs.declared.piece.Joint.{Joint}
use Rattle.tree_search.specs.declared.piece.ExtraArc.{ExtraArc}
use Rattle.tree_search.specs.declared.piece.ExtraArc.TheVariants as found
use Rattle.tree_search.specs.declared.search.Search.{Search}
use Rattle.tree_search.specs.Places.{number_by_place, ends_by_place, blank, loose, AreEndsOf, AreJoints, IsTree}
use Rattle.tree_search.specs.Search.{fars, IsSearch, IsClosed}
use Rattle.tree_search.specs.Finding.{first_node, way_of, as_extra, starts_of, IsFound, IsPlaced}
use Rattle.tree_search.specs.Outwards.{AreOutwards}
use Rattle.tree_search.proofs.Hanging.{searches_go_outwards}
use Rattle.tree_search.proofs.Placed as placed
use Rattle.tree_search.proofs.Searches.{at_in}
use Rattle.tree_search.proofs.Trees.{one_place, ends_is}
use Rattle.tree_potentials.specs.Along.{costs_in, IsWithin, overflow_at_turn, in_row, ◌▸◌, spread, root_of, first_place, but_last, walk_off_end, walk_off_cycle, walk_off, EndFits}
use Rattle.tree_potentials.specs.Answers.{ArePotentials, IsOverflow}
use Rattle.tree_potentials.proofs.Links.{Crosses, pull_is, end_is}
use Rattle.np_frac.proofs.Results.{is_ok_of}
use Rattle.tree_potentials.proofs.Rounds.{root_is, root_found, root_refused}
use Rattle.tree_potentials.proofs.Carried as carried

on_round_joins : (ends : ℕ → Ends) (own : List ℕ) (k l : ℕ) (way : List (ℕ × ℕ)) (a u v : ℕ) → IsWay (graph_of ends) own k way l → IsOnRound k way a u v → IsIn a own × Joins (graph_of ends a) u v
on_round_joins ends own k l [] a u v c o = absurd o
on_round_joins ends own k l (y ∷ []) a u v c o = absurd o
on_round_joins ends own k l (y ∷ z ∷ way) a u v c (inl m) = (
  subst (λ t. IsIn t own) (sym m.0) c.0,
  subst (λ t. Joins (graph_of ends t) u v) (sym m.0) (subst (λ t. Joins (graph_of ends y.0) t v) (sym m.1) (subst (λ t. Joins (graph_of ends y.0) k t) (sym m.2) c.1)),
)
on_round_joins ends own k l (y ∷ z ∷ way) a u v c (inr m) = on_round_joins ends own y.1 l (z ∷ way) a u v c.2 m

marked_in : (before : List ℕ) (a : ℕ) (after : List ℕ) → IsIn a (before ++ a ∷ after)
marked_in [] a after = inl refl
marked_in (b ∷ before) a after = inr (marked_in before a after)

-- an arc that leads outwards is a link of the piece
pub leads_joins : (ends : ℕ → Ends) (own : List ℕ) (x : Extra) → IsExtra ends own x → (a u v : ℕ) → Leads ends own x a u v → IsIn a own × Joins (graph_of ends a) u v
leads_joins ends own (OneEnd b k) e a u v l = (subst (λ t. IsIn a t) l.split (marked_in l.before a l.after), l.joins)
leads_joins ends own (Round k way) e a u v (inl l) = (subst (λ t. IsIn a t) l.split (marked_in l.before a l.after), l.joins)
leads_joins ends own (Round k way) e a u v (inr o) = on_round_joins ends own k k way a u v e.cycle.closes o

-- ---- a piece in a network

module _ (net : Network) (piece : PieceLists) (sound : HasSoundArcs net) (h : IsInNet net piece) where
  abbrev ends : ℕ → Ends
  ends = graphs.ends_at net.arcs

  abbrev cost : ℕ → Ratio
  cost = cost_at net.arcs

  abbrev own : List ℕ
  own = basics_in piece

  abbrev node : ℕ → ℕ
  node i = slice_index (nodes_in piece) i

  pub of_ends : AreEndsOf ends piece.basics
  of_ends b i = sym (h.basic b i).1

  pub tree : IsTree (nodes_in piece) piece.basics
  tree = record {
    nodes_ascend = h.shape.nodes_ascend;
    basics_ascend = h.shape.basics_ascend;
    quasi_tree = h.shape.quasi_tree;
    no_loops = λ b i. subst (λ e. IsNoLoop (graph_ends e)) (sym (h.basic b i).1) (no_loops net piece sound h b.0 (in_map (λ (b : ℕ × Ends × Ratio). b.0) b piece.basics i));
  }

  pub once : (i j : ℕ) → i < length piece.nodes → j < length piece.nodes → node i ≡ node j → i ≡ j
  once i j l m = one_place (nodes_in piece) h.shape.nodes_ascend i j (subst (λ n. i < n) (sym (length_map (λ (n : ℕ × Ratio). n.0) piece.nodes)) l) (subst (λ n. j < n) (sym (length_map (λ (n : ℕ × Ratio). n.0) piece.nodes)) m)

  pub of : (a : ℕ) → a < length piece.basics → (ends (number_by_place piece.basics a) ≡ ends_by_place piece.basics a) × (cost (number_by_place piece.basics a) ≡ at (costs_in cost piece.basics) a)
  of a l = (ends_is ends piece.basics of_ends a l, sym (get_or-map (λ (b : ℕ × Ends × Ratio). cost b.0) piece.basics a blank zero_ratio l))

  -- its potentials
  abbrev pub potential : ℕ → Ratio
  potential = (potentials_exist net piece cost h).0

  pub priced : ArePriced ends cost own potential
  priced = (potentials_exist net piece cost h).1

  pull : (a : ℕ) → IsIn a own → graph.pull ratios (graph_of ends a) potential ≡ cost a
  pull a i = pull_is (ends a) (cost a) potential (priced a i)

  crosses : (a u v : ℕ) → IsIn a own → Joins (graph_of ends a) u v → Crosses (nodes_in piece) (ends a) (cost a) potential u v
  crosses a u v i j = record { lies = lies net piece h a i; no_loop = no_loops net piece sound h a i; joins = j; pull = pull a i }

  -- the divisor of its cycle
  pub apart : (k : ℕ) (way : List (ℕ × ℕ)) → IsExtra ends own (Round k way) → (last : Ratio) → rows.divisor ends cost k way ≡ Ok last → last ≢ zero_ratio
  apart k way x last e = potentials_divisor net piece cost k way last sound h x e

  module _ (joints : List Joint) (are : AreJoints (nodes_in piece) piece.basics joints) (extra : ExtraArc) (is : IsFound (nodes_in piece) piece.basics joints extra)
      (n : ℕ) (search : Search) (is_search : IsSearch joints n (starts_of joints extra) search) (closed : IsClosed joints search.queue.items) where
    abbrev x : Extra
    x = as_extra (nodes_in piece) piece.basics joints extra

    is_extra : IsExtra ends own x
    is_extra = is.is_extra ends of_ends

    out : AreOutwards ends (nodes_in piece) piece.basics x search.steps.items
    out = searches_go_outwards (nodes_in piece) piece.basics joints extra n search tree are is is_search closed ends of_ends

    abbrev Known : List Ratio → ℕ → Type 0
    Known = carried.IsKnown ends cost piece.nodes piece.basics (costs_in cost piece.basics) x potential of once (leads_joins ends own x is_extra) crosses

    abbrev Carried : List ℕ → List Step → List Ratio → Type 0
    Carried = carried.AreCarried ends cost piece.nodes piece.basics (costs_in cost piece.basics) x potential of once (leads_joins ends own x is_extra) crosses

    abbrev far_nodes : List Step → List ℕ
    far_nodes = carried.far_nodes ends cost piece.nodes piece.basics (costs_in cost piece.basics) x potential of once (leads_joins ends own x is_extra) crosses

    far_in : (steps : List Step) (s : Step) → IsIn s steps → IsIn (node s.far) (far_nodes steps)
    far_in [] s i = absurd i
    far_in (t ∷ steps) s (inl e) = inl (ap (λ (y : Step). node y.far) e)
    far_in (t ∷ steps) s (inr i) = inr (far_in steps s i)

    pub within : (s : Step) → IsIn s search.steps.items → IsWithin piece.nodes piece.basics s
    within s i =
        let w = placed.placed (nodes_in piece) piece.basics joints are search.steps.items (starts_of joints extra) is_search.goes s i in
        (w.0, subst (λ n. s.near < n) (length_map (λ (n : ℕ × Ratio). n.0) piece.nodes) w.1, subst (λ n. s.far < n) (length_map (λ (n : ℕ × Ratio). n.0) piece.nodes) w.2)

    -- what hangs off the extra arc does not overflow
    made : (values : List Ratio) → Carried (extra_nodes x) search.steps.items values → (a u v : ℕ) → Hangs ends own x a u v → IsOk (across (ends a) (cost a) u (potential u))
    made values c a u v l =
        let s = out.all a u v l in
        subst (λ t. IsOk (across (ends a) (cost a) t (potential t))) s.near
        (subst (λ t. IsOk (across (ends t) (cost t) (node s.step.near) (potential (node s.step.near)))) s.arc (c.made s.step s.is_in))

    -- so all potentials are found
    finished : (values : List Ratio) → Carried (extra_nodes x) search.steps.items values → FitsRows ends cost own x potential → ArePotentials net piece values
    finished values c fits = record {
      one_each = c.long;
      potential = potential;
      priced = priced;
      stand = λ i l. (known (node i) (at_in (nodes_in piece) i (subst (λ n. i < n) (sym (length_map (λ (n : ℕ × Ratio). n.0) piece.nodes)) l))).stands i l refl;
      fit = λ v i. (known v i).fits;
      rows_fit = λ y e. subst (λ t. FitsRows ends cost own t potential) (extra_is_unique net piece x y h is_extra e) fits;
    }
      where
        known : (v : ℕ) → IsIn v (nodes_in piece) → Known values v
        known v i = elim (out.reach v i) [
          | inl j ↦ c.known v (inl j)
          | inr r ↦ (let s = out.all r.0 r.1 v r.2 in c.known v (inr (subst (λ t. IsIn t (far_nodes search.steps.items)) s.far (far_in search.steps.items s.step s.is_in))))
        ]

    told : (past : Past) → rows.Gives ends cost own x potential A7 past → IsOverflow net piece (overflow_at_turn A7 past)
    told past g = (refl, record { potential = potential; priced = priced; gives = (x, is_extra, g) })

  -- steps of a cycle by places
  pub steps_within : (steps : List Step) → ((i : ℕ) (d : Step) → i < length steps → IsPlaced (nodes_in piece) piece.basics (slice_index_or steps i d)) → (s : Step) → IsIn s steps → IsWithin piece.nodes piece.basics s
  steps_within steps all s i =
      let w = each steps all s i in
      (w.0, subst (λ n. s.near < n) (length_map (λ (n : ℕ × Ratio). n.0) piece.nodes) w.1, subst (λ n. s.far < n) (length_map (λ (n : ℕ × Ratio). n.0) piece.nodes) w.2)
    where
      each : (steps : List Step) → ((i : ℕ) (d : Step) → i < length steps → IsPlaced (nodes_in piece) piece.basics (slice_index_or steps i d)) → (s : Step) → IsIn s steps → IsPlaced (nodes_in piece) piece.basics s
      each [] all s i = absurd i
      each (t ∷ steps) all s (inl e) = subst (IsPlaced (nodes_in piece) piece.basics) (sym e) (all zero t (omega arith))
      each (t ∷ steps) all s (inr i) = each steps (λ j d l. all (suc j) d (omega arith)) s i

  first_of : (cycle : List Step) → 0 < length cycle → ((s : Step) → IsIn s cycle → IsWithin piece.nodes piece.basics s) → (first_place cycle < length piece.nodes) × (node (first_place cycle) ≡ first_node (nodes_in piece) cycle)
  first_of [] l within = absurd (omega arith)
  first_of (s ∷ cycle) l within = ((within s (inl refl)).1, refl)

  fars_nodes : (cycle : List Step) (q : ℕ) → IsIn q (fars cycle) → IsIn (node q) (nodes_along (way_of (nodes_in piece) piece.basics cycle))
  fars_nodes [] q i = absurd i
  fars_nodes (s ∷ cycle) q (inl e) = inl (ap (λ t. node t) e)
  fars_nodes (s ∷ cycle) q (inr i) = inr (fars_nodes cycle q i)

  module _ (joints : List Joint) (are : AreJoints (nodes_in piece) piece.basics joints) (n : ℕ) (search : Search) (closed : IsClosed joints search.queue.items) where
    abbrev costs : List Ratio
    costs = costs_in cost piece.basics

    in_row_told : (r : Result (List Ratio) Past) → MatchResult r (ArePotentials net piece) (λ past. IsOverflow net piece (overflow_at_turn A7 past)) → MatchResult (in_row A7 r) (ArePotentials net piece) (IsOverflow net piece)
    in_row_told (Ok values) m = m
    in_row_told (Err past) m = m

    -- off the node of an arc with one end
    walked_end : (arc : ℕ) → IsFound (nodes_in piece) piece.basics joints (found.OneEnd arc) → IsSearch joints n (starts_of joints (found.OneEnd arc)) search → (zeros : List Ratio) → length zeros ≡ length piece.nodes
        → EndFits piece.basics costs (found.OneEnd arc) → MatchResult (walk_off_end piece.nodes piece.basics costs joints arc search.steps.items zeros) (ArePotentials net piece) (IsOverflow net piece)
    walked_end arc is is_search zeros long fits =
        in_row_told (spread piece.nodes piece.basics costs search.steps.items start)
        (answer (spread piece.nodes piece.basics costs search.steps.items start)
        (carried.carried ends cost piece.nodes piece.basics costs x' potential of once joins crosses search.steps.items start (node place ∷ []) (length-set zeros place value ∙ long) goes
        (carried.set_known ends cost piece.nodes piece.basics costs x' potential of once joins crosses zeros [] place value long below value_is fits (rows.at_root refl) (λ v i. absurd i))))
      where
        place : ℕ
        place = (slice_index_or joints arc loose).from

        value : Ratio
        value = rows.end_potential (ends_by_place piece.basics arc) (at costs arc)

        start : List Ratio
        start = slice_set zeros place value

        x' : Extra
        x' = OneEnd (number_by_place piece.basics arc) (node place)

        extra_is : IsExtra ends own x'
        extra_is = is_extra joints are (found.OneEnd arc) is n search is_search closed

        joins : (a u v : ℕ) → Leads ends own x' a u v → IsIn a own × Joins (graph_of ends a) u v
        joins = leads_joins ends own x' extra_is

        below : place < length piece.nodes
        below = subst (λ m. place < m) (length_map (λ (m : ℕ × Ratio). m.0) piece.nodes) (placed.joints_below (nodes_in piece) piece.basics joints are arc loose (subst (λ m. arc < m) (sym are.long) is.laid_out.0)).0

        value_is : value ≡ potential (node place)
        value_is =
            let o = of arc is.laid_out.0 in
            ap₂ (λ e c. rows.end_potential e c) (sym o.0) (sym o.1)
            ∙ end_is (ends (number_by_place piece.basics arc)) (cost (number_by_place piece.basics arc)) potential (node place) extra_is.1 (pull (number_by_place piece.basics arc) extra_is.0)

        goes : carried.GoesOut ends cost piece.nodes piece.basics costs x' potential of once joins crosses (node place ∷ []) search.steps.items
        goes = carried.search_goes ends cost piece.nodes piece.basics costs x' potential of once joins crosses joints search.steps.items (place ∷ []) (node place ∷ [])
            (λ q. elim [ inl e ↦ inl (ap (λ t. node t) e) | inr i ↦ absurd i ]) is_search.goes
            (within joints are (found.OneEnd arc) is n search is_search closed) (out joints are (found.OneEnd arc) is n search is_search closed).hang

        answer : (r : Result (List Ratio) Past) → carried.IsCarried ends cost piece.nodes piece.basics costs x' potential of once joins crosses (node place ∷ []) search.steps.items r
            → MatchResult r (ArePotentials net piece) (λ past. IsOverflow net piece (overflow_at_turn A7 past))
        answer (Ok values) c = finished joints are (found.OneEnd arc) is n search is_search closed values c (record { at_root = refl; links = λ a u v l. made joints are (found.OneEnd arc) is n search is_search closed values c a u v l })
        answer (Err past) g = told joints are (found.OneEnd arc) is n search is_search closed past g

    -- round a cycle, and then off it
    walked_cycle : (cycle : Vec Step Global) → (is : IsFound (nodes_in piece) piece.basics joints (found.Round cycle)) → IsSearch joints n (starts_of joints (found.Round cycle)) search → (zeros : List Ratio)
        → length zeros ≡ length piece.nodes → MatchResult (walk_off_cycle piece.nodes piece.basics costs cycle.items search.steps.items zeros) (ArePotentials net piece) (IsOverflow net piece)
    walked_cycle cycle is is_search zeros long = rooted (root_of piece.nodes piece.basics costs cycle.items) refl
      where
        steps : List Step
        steps = cycle.items

        k : ℕ
        k = first_node (nodes_in piece) cycle.items

        way : List (ℕ × ℕ)
        way = way_of (nodes_in piece) piece.basics cycle.items

        x' : Extra
        x' = Round k way

        extra_is : IsExtra ends own x'
        extra_is = is_extra joints are (found.Round cycle) is n search is_search closed

        joins : (a u v : ℕ) → Leads ends own x' a u v → IsIn a own × Joins (graph_of ends a) u v
        joins = leads_joins ends own x' extra_is

        in_lists : (s : Step) → IsIn s cycle.items → IsWithin piece.nodes piece.basics s
        in_lists = steps_within cycle.items is.laid_out.1

        place : ℕ
        place = first_place cycle.items

        first : (place < length piece.nodes) × (node place ≡ k)
        first = first_of cycle.items is.laid_out.0 in_lists

        round : List Step
        round = carried.around ends cost piece.nodes piece.basics costs x' potential of once joins crosses cycle.items

        rooted : (r : Result Ratio Overflow) → root_of piece.nodes piece.basics costs cycle.items ≡ r
            → MatchResult (r ▸ λ root. in_row A7 (spread piece.nodes piece.basics costs (but_last cycle.items) (slice_set zeros place root) ▷ spread piece.nodes piece.basics costs search.steps.items))
            (ArePotentials net piece) (IsOverflow net piece)
        rooted (Err overflow) e =
            let m = root_refused ends cost piece.nodes piece.basics costs of k cycle.items is.laid_out.3 in_lists own potential overflow e in
            (m.0, record { potential = potential; priced = priced; gives = (x', extra_is, m.1) })
        rooted (Ok root) e = in_row_told (spread piece.nodes piece.basics costs (but_last cycle.items) start ▷ spread piece.nodes piece.basics costs search.steps.items)
            (subst (λ l. MatchResult (spread piece.nodes piece.basics costs l start ▷ spread piece.nodes piece.basics costs search.steps.items) (ArePotentials net piece) (λ past. IsOverflow net piece (overflow_at_turn A7 past)))
            (sym (carried.around_is ends cost piece.nodes piece.basics costs x' potential of once joins crosses cycle.items))
            (beyond (spread piece.nodes piece.basics costs round start)
            (carried.carried ends cost piece.nodes piece.basics costs x' potential of once joins crosses round start (k ∷ []) (length-set zeros place root ∙ long) goes_round
            (subst (λ t. (v : ℕ) → IsIn v (t ∷ []) → carried.IsKnown ends cost piece.nodes piece.basics costs x' potential of once joins crosses start v) first.1
            (carried.set_known ends cost piece.nodes piece.basics costs x' potential of once joins crosses zeros [] place root long first.0 root_there fits
            (subst (rows.Reached ends cost own x' potential) (sym first.1) (rows.at_root root_ok)) (λ v i. absurd i))))))
          where
            start : List Ratio
            start = slice_set zeros place root

            found_root : rows.root_potential ends cost x' ≡ Ok root
            found_root = root_found ends cost piece.nodes piece.basics costs of k cycle.items is.laid_out.3 in_lists root e

            root_ok : IsOk (rows.root_potential ends cost x')
            root_ok = is_ok_of (rows.root_potential ends cost x') root found_root

            root_there : root ≡ potential (node place)
            root_there = root_is ends cost (nodes_in piece) own potential crosses k way root extra_is.cycle.closes (apart k way extra_is) found_root ∙ ap potential (sym first.1)

            fits : Fits root
            fits =
                let m = found_by (rows.potential_along ends cost k way zero_ratio) (λ sum. rows.divisor ends cost k way ▷ over_of sum) root found_root in
                let l = found_by (rows.divisor ends cost k way) (over_of m.0) root m.2 in
                over_fits m.0 l.0 root l.2

            goes_round : carried.GoesOut ends cost piece.nodes piece.basics costs x' potential of once joins crosses (k ∷ []) round
            goes_round = carried.round_goes ends cost piece.nodes piece.basics costs x' potential of once joins crosses (k ∷ []) k cycle.items (inl refl) is.laid_out.3 in_lists (λ a w v o. inr o)

            goes_off : carried.GoesOut ends cost piece.nodes piece.basics costs x' potential of once joins crosses (nodes_along way) search.steps.items
            goes_off = carried.search_goes ends cost piece.nodes piece.basics costs x' potential of once joins crosses joints search.steps.items (fars cycle.items) (nodes_along way)
                (fars_nodes cycle.items) is_search.goes
                (within joints are (found.Round cycle) is n search is_search closed) (λ s i. inl ((out joints are (found.Round cycle) is n search is_search closed).hang s i))

            answer : (values : List Ratio) → carried.AreCarried ends cost piece.nodes piece.basics costs x' potential of once joins crosses (k ∷ []) round values
                → (r : Result (List Ratio) Past) → carried.IsCarried ends cost piece.nodes piece.basics costs x' potential of once joins crosses (nodes_along way) search.steps.items r
                → MatchResult r (ArePotentials net piece) (λ past. IsOverflow net piece (overflow_at_turn A7 past))
            answer before b (Ok values) c = finished joints are (found.Round cycle) is n search is_search closed values c (record {
              at_root = root_ok;
              links = λ a u v. elim [
                | inl l ↦ made joints are (found.Round cycle) is n search is_search closed values c a u v l
                | inr o ↦ (let r = carried.round_of ends cost piece.nodes piece.basics costs x' potential of once joins crosses k cycle.items a u v is.laid_out.3 o in
                    subst (λ t. IsOk (across (ends a) (cost a) t (potential t))) r.3
                    (subst (λ t. IsOk (across (ends t) (cost t) (node r.0.near) (potential (node r.0.near)))) r.2 (b.made r.0 r.1)))
              ];
            })
            answer before b (Err past) g = told joints are (found.Round cycle) is n search is_search closed past g

            beyond : (r : Result (List Ratio) Past) → carried.IsCarried ends cost piece.nodes piece.basics costs x' potential of once joins crosses (k ∷ []) round r
                → MatchResult (r ▷ spread piece.nodes piece.basics costs search.steps.items) (ArePotentials net piece) (λ past. IsOverflow net piece (overflow_at_turn A7 past))
            beyond (Err past) g = told joints are (found.Round cycle) is n search is_search closed past g
            beyond (Ok values) b = answer values b (spread piece.nodes piece.basics costs search.steps.items values)
                (carried.carried ends cost piece.nodes piece.basics costs x' potential of once joins crosses search.steps.items values (nodes_along way) b.long goes_off
                (λ v i. elim (carried.round_nodes ends cost piece.nodes piece.basics costs x' potential of once joins crosses cycle.items k k v extra_is.cycle.closes i) [
                  | inl e ↦ b.known v (inl (inl e))
                  | inr j ↦ b.known v (inr j)
                ]))

    -- off either
    pub walked : (extra : ExtraArc) → IsFound (nodes_in piece) piece.basics joints extra → IsSearch joints n (starts_of joints extra) search → (zeros : List Ratio) → length zeros ≡ length piece.nodes
        → EndFits piece.basics costs extra → MatchResult (walk_off piece.nodes piece.basics costs joints extra search.steps.items zeros) (ArePotentials net piece) (IsOverflow net piece)
    walked (found.OneEnd arc) is is_search zeros long fits = walked_end arc is is_search zeros long fits
    walked (found.Round cycle) is is_search zeros long fits = walked_cycle cycle is is_search zeros long
