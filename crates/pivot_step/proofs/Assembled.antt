-- Pieces over the lists after a pivot are the pieces after that pivot.
use Rattle.std.specs.Prelude.{◌≡◌, ◌≢◌, ◌↔◌, ◌<◌, ℕ, List, ◌∷◌, map, length}
use Rattle.std.proofs.Common.{refl, sym, ap, subst, ◌∙◌, inl, inr, arith}
use native.Mathlib.Decide.{ℕ_discrete}
use Rattle.std.specs.List.Sorted.{IsStrictlyIncreasing}
use Rattle.gain_graphs.specs.Arcs as graph
use Rattle.gain_graphs.specs.Arcs.{IsIn, Touches}
use Rattle.gain_graphs.specs.QuasiTrees.{IsQuasiTree}
use Rattle.gain_graphs.proofs.Lists.{in_map, in_map_of, decide_in}
use Rattle.np_frac.specs.Ratio.{Ratio, ◌+ᵣ◌, ◌*ᵣ◌}
use Rattle.np_model.specs.declared.arc.Ends.{Ends}
use Rattle.np_model.specs.declared.log.Mark.{Mark}
use Rattle.np_model.specs.declared.log.Mark.TheVariants as marked
use Rattle.np_model.specs.declared.log.Entry.{Entry}
use Rattle.np_model.specs.Network.Arcs.{IsWithin}
use Rattle.np_model.specs.Network.Flows.{Network}
use Rattle.np_model.specs.Basis.Graphs.{ratios, graph_of, arc_at, ends_at}
use Rattle.np_model.specs.Basis.Moves.{IsEligible, mark_after}
use Rattle.np_model.specs.Basis.Pieces.{PieceLists, nodes_in, basics_in, marked_in, nodes_of, basics_of}
use Rattle.np_model.specs.Basis.Sound.{bound_at, values_in, HoldEnds, IsInNet, IsSound, AreSound, AreOneOrTwo, IsAfter}
use Rattle.np_model.specs.Basis.States.{StandsAt}
use Rattle.np_basis.specs.PivotLaws.{HasRealArcs, AreInNet, MayEnter}
use Rattle.np_model.specs.Basis.Needed.{IsMoveOf}
use Rattle.np_basis.proofs.Ascending.{ascends}
use Rattle.np_basis.proofs.Pivoting.{mark_leave, mark_enter, mark_other, not_towards, not_gaining}
use Rattle.np_basis.proofs.Reading.{in_flat, in_flat_of, touches_flat, bound_stands}
use Rattle.np_basis.proofs.Roots.{trees_after}
use Rattle.np_basis.proofs.Sound as sounds
use Rattle.np_basis.proofs.Trees.{same_ends}
use Rattle.tree_search.specs.Places.{numbers_of_arcs}
use Rattle.piece_lists.specs.Joining.{all_marks, AreMarksAfter}
use Rattle.piece_lists.specs.Parts.{touch}
use Rattle.gain_graphs.proofs.Lists.{filter_holds}
use Rattle.piece_lists.proofs.Joined.{filter_rises}
use Rattle.piece_lists.proofs.Testing.{touch_in, in_touch}
use Rattle.pivot_step.specs.After.{HasRightPotentials, AreBasicsAfter, AreListsAfter, ArePiecesOver}

module _ (net : Network) (real : ℕ) (ground : HasRealArcs net real) (ps : List PieceLists) (sound : AreSound net ps) (entry : Entry) (ends : HoldEnds ps (ends_at net.arcs entry.enter))
    (eligible : IsEligible net real (values_in net ps) entry.enter) where
  pub in_net : AreInNet net ps
  in_net = record { each = λ p i. (sound.each p i).in_net; apart = sound.apart }

  pub may : MayEnter net ps entry.enter
  may = record {
    below = omega (arith, eligible.is_open.0, ground.few);
    ends = ends;
    not_basic = λ i. let r = in_flat_of basics_in ps entry.enter i in not_gaining ((values_in net ps).mark entry.enter) _ eligible.gains (sounds.mark_basic net ps sound r.0 entry.enter r.1 r.2);
  }

  pub below_hand : (a : ℕ) → IsIn a (entry.enter ∷ basics_of ps) → a < length net.arcs
  below_hand a = elim [
    | inl e ↦ subst (λ x. x < length net.arcs) (sym e) may.below
    | inr i ↦ (let r = in_flat_of basics_in ps a i in sounds.below net ps sound r.0 a r.1 r.2)
  ]

  pub mark_below : (m : ℕ × Mark) → IsIn m (all_marks ps) → m.0 < length net.arcs
  mark_below m i = let w = in_flat_of (λ (p : PieceLists). p.marks) ps m i in (((sound.each w.0 w.1).in_net.marked m.0).0 (in_map (λ (x : ℕ × Mark). x.0) m w.0.marks w.2)).0

  -- no mark is that of a basic arc
  pub mark_not_basic : (m : ℕ × Mark) → IsIn m (all_marks ps) → ¬ IsIn m.0 (basics_of ps)
  mark_not_basic m i j =
      let p = in_flat_of basics_in ps m.0 j in
      let w = in_flat_of (λ (x : PieceLists). x.marks) ps m i in
      (sound.each w.0 w.1).in_net.shape.at_bounds m w.2 (sym (sounds.mark_said net ps sound w.0 m w.1 w.2) ∙ sounds.mark_basic net ps sound p.0 m.0 p.1 p.2)

  module _ (d : ℕ → Ratio) (t : Ratio) (move : IsMoveOf net ps entry d t) (basics : List (ℕ × Ends × Ratio)) (marks : List (ℕ × Mark)) (lists : AreListsAfter net ps entry d t basics marks) (qs : List PieceLists)
      (over : ArePiecesOver net ps basics marks qs) where
    after : AreBasicsAfter net ps entry.enter entry.leave d t basics
    after = lists.basics_after

    marks_after : AreMarksAfter (all_marks ps) entry.enter entry.leave entry.leave_at marks
    marks_after = lists.marks_after

    below_now : (a : ℕ) → IsIn a (numbers_of_arcs basics) → a < length net.arcs
    below_now a i = below_hand a ((after.basic.are a).0 i).0

    -- a basic arc of a new piece, by its number
    now_in : (q : PieceLists) → IsIn q qs → (a : ℕ) → IsIn a (basics_in q) → IsIn a (numbers_of_arcs basics)
    now_in q k a i = (((over.each q k).part.is_piece.touched a).0 i).0

    own_number : (q : PieceLists) → IsIn q qs → (b : ℕ × Ends × Ratio) → IsIn b q.basics → IsIn b.0 (basics_in q)
    own_number q k b i = in_map (λ (x : ℕ × Ends × Ratio). x.0) b q.basics i

    new_not_basic : (m : ℕ × Mark) → IsIn m marks → ¬ IsIn m.0 (numbers_of_arcs basics)
    new_not_basic m i k =
        let s = (after.basic.are m.0).0 k in
        elim ((marks_after.are m).0 i) [
          | inl r ↦ s.1 r.0
          | inr r ↦ elim s.0 [ inl e ↦ r.1 e | inr j ↦ mark_not_basic m r.0 j ]
        ]

    new_below : (m : ℕ × Mark) → IsIn m marks → m.0 < length net.arcs
    new_below m i = elim ((marks_after.are m).0 i) [
      | inl r ↦ subst (λ x. x < length net.arcs) (sym r.0) (below_hand entry.leave move.leaves)
      | inr r ↦ mark_below m r.0
    ]

    leave_at_bound : entry.leave_at ≢ marked.Basic
    leave_at_bound = not_towards (d entry.leave) entry.leave_at move.stops.towards

    -- an arc that is not basic now has a mark, where it touches the pieces
    has_mark : (a : ℕ) → a < length net.arcs → Touches (nodes_of ps) (graph_of (ends_at net.arcs) a) → (¬ IsIn a (numbers_of_arcs basics)) → (m : ℕ × Mark) × IsIn m marks × (a ≡ m.0)
    has_mark a l k n = elim (ℕ_discrete a entry.leave) [
      | yes e ↦ ((entry.leave, entry.leave_at), (marks_after.are (entry.leave, entry.leave_at)).1 (inl (refl, refl)), e)
      | no ne ↦ (let p = touches_flat ps (graph_of (ends_at net.arcs) a) k in
          let nb : (¬ IsIn a (basics_in p.0)) = λ i. n ((after.basic.are a).1 (inr (in_flat basics_in ps p.0 a p.1 i), ne)) in
          let r = in_map_of (λ (m : ℕ × Mark). m.0) a p.0.marks (((sound.each p.0 p.1).in_net.marked a).1 (l, nb, p.2)) in
          (r.0, (marks_after.are r.0).1 (inr (in_flat (λ (x : PieceLists). x.marks) ps p.0 r.0 p.1 r.1, (λ e. n ((after.basic.are a).1 (inl (r.2 ∙ e), ne))), (λ e. ne (r.2 ∙ e)))), r.2))
    ]

    mark_in : (q : PieceLists) → IsIn q qs → (m : ℕ × Mark) → IsIn m q.marks ↔ (IsIn m marks × Touches (nodes_in q) (graph_of (ends_at net.arcs) m.0))
    mark_in q k m = (
      (λ i. let r = (filter_holds (λ (m : ℕ × Mark). touch (nodes_in q) (ends_at net.arcs m.0)) marks m).0 (subst (λ x. IsIn m x) (over.each q k).marked i) in (r.0, touch_in (nodes_in q) (ends_at net.arcs m.0) r.1)),
      (λ r. subst (λ x. IsIn m x) (sym (over.each q k).marked) ((filter_holds (λ (m : ℕ × Mark). touch (nodes_in q) (ends_at net.arcs m.0)) marks m).1 (r.0, in_touch (nodes_in q) (ends_at net.arcs m.0) r.1))),
    )

    up : (q : PieceLists) → IsIn q qs → (e : graph.Ends Ratio) → Touches (nodes_in q) e → Touches (nodes_of ps) e
    up q k e i = sounds.touch_wider (nodes_in q) (nodes_of ps) e (λ v j. (over.same_nodes v).1 (in_flat nodes_in qs q v k j)) i

    pub new_in_net : (q : PieceLists) → IsIn q qs → IsInNet net q
    new_in_net q k = record {
      shape = record {
        nodes_ascend = (over.each q k).part.nodes_ascend;
        basics_ascend = (over.each q k).part.arcs_ascend;
        marks_ascend = subst (λ (x : List (ℕ × Mark)). IsStrictlyIncreasing (map (λ (m : ℕ × Mark). m.0) x)) (sym (over.each q k).marked)
            (filter_rises (λ (m : ℕ × Mark). m.0) (λ (m : ℕ × Mark). touch (nodes_in q) (ends_at net.arcs m.0)) marks marks_after.ascend);
        quasi_tree = subst (IsQuasiTree ratios (nodes_in q)) (sym (same_ends (ends_at net.arcs) q.basics (λ b i. after.ends b ((over.each q k).own b i))))
            (trees_after net ps entry.enter entry.leave _ d (numbers_of_arcs basics) (nodes_in q) (basics_in q) (over.each q k).part.least ground.sound in_net may move.direction move.leaves move.stops.moves after.basic (over.each q k).part
            (over.each q k).part.is_piece.has_least ((over.same_nodes (over.each q k).part.least).1 (in_flat nodes_in qs q (over.each q k).part.least k (over.each q k).part.is_piece.has_least)));
        others = λ a i j. let r = in_map_of (λ (m : ℕ × Mark). m.0) a q.marks i in new_not_basic r.0 ((mark_in q k r.0).0 r.1).0 (subst (λ x. IsIn x (numbers_of_arcs basics)) r.2 (now_in q k a j));
        at_bounds = λ m i. let r = (mark_in q k m).0 i in elim ((marks_after.are m).0 r.0) [
          | inl s ↦ (λ e. leave_at_bound (sym s.1 ∙ e))
          | inr s ↦ (let w = in_flat_of (λ (x : PieceLists). x.marks) ps m s.0 in (sound.each w.0 w.1).in_net.shape.at_bounds m w.2)
        ];
      };
      nodes = λ v i. (((over.each q k).part.is_piece.joined v).0 i).0;
      basic = λ b i. (below_now b.0 (now_in q k b.0 (own_number q k b i)), after.ends b ((over.each q k).own b i));
      marked = λ a. (
        (λ i.
            let r = in_map_of (λ (m : ℕ × Mark). m.0) a q.marks i in
            let m = (mark_in q k r.0).0 r.1 in (
              subst (λ x. x < length net.arcs) (sym r.2) (new_below r.0 m.0),
              (λ j. new_not_basic r.0 m.0 (subst (λ x. IsIn x (numbers_of_arcs basics)) r.2 (now_in q k a j))),
              subst (λ x. Touches (nodes_in q) (graph_of (ends_at net.arcs) x)) (sym r.2) m.1,
            )),
        (λ r.
            let m = has_mark a r.0 (up q k (graph_of (ends_at net.arcs) a) r.2) (λ j. r.1 (((over.each q k).part.is_piece.touched a).1 (j, r.2))) in
            subst (λ x. IsIn x (marked_in q)) (sym m.2) (in_map (λ (m : ℕ × Mark). m.0) m.0 q.marks ((mark_in q k m.0).1 (m.1, subst (λ x. Touches (nodes_in q) (graph_of (ends_at net.arcs) x)) m.2 r.2)))),
      );
    }

    module _ (priced : (q : PieceLists) → IsIn q qs → HasRightPotentials net q) where
      stands : (m : ℕ × Mark) → (m.0 ≡ entry.leave) × (m.1 ≡ entry.leave_at) → StandsAt (arc_at net.arcs m.0) m.1 (bound_at (arc_at net.arcs m.0) m.1)
      stands m s =
          let at_leave : StandsAt (arc_at net.arcs entry.leave) entry.leave_at (bound_at (arc_at net.arcs entry.leave) entry.leave_at) = bound_stands (arc_at net.arcs entry.leave) entry.leave_at _ move.stops.rests in
          subst (λ x. StandsAt (arc_at net.arcs x) m.1 (bound_at (arc_at net.arcs x) m.1)) (sym s.0) (subst (λ x. StandsAt (arc_at net.arcs entry.leave) x (bound_at (arc_at net.arcs entry.leave) x)) (sym s.1) at_leave)

      new_sound : (q : PieceLists) → IsIn q qs → IsSound net q
      new_sound q k = record {
        in_net = new_in_net q k;
        within = λ b i. subst (IsWithin (arc_at net.arcs b.0)) (sym (after.flows b ((over.each q k).own b i))) (move.within b.0 ((after.basic.are b.0).0 (now_in q k b.0 (own_number q k b i))).0);
        allowed = λ m i. let r = (mark_in q k m).0 i in elim ((marks_after.are m).0 r.0) [
          | inl s ↦ stands m s
          | inr s ↦ (let w = in_flat_of (λ (x : PieceLists). x.marks) ps m s.0 in (sound.each w.0 w.1).allowed m w.2)
        ];
        priced = (priced q k).priced;
        flows_fit = λ b i. after.fit b ((over.each q k).own b i);
        potentials_fit = (priced q k).fit;
        rows_fit = (priced q k).rows_fit;
      }

      sound_after : AreSound net qs
      sound_after = record {
        each = new_sound;
        apart = over.apart;
        one_mark = λ p r m l i j u v e. ap (λ (x : ℕ × Mark). x.1)
            (sounds.one_entry (λ (x : ℕ × Mark). x.0) marks (ascends (map (λ (x : ℕ × Mark). x.0) marks) marks_after.ascend) m l ((mark_in p i m).0 u).0 ((mark_in r j l).0 v).0 e);
      }

      -- where an arc touches the old pieces, it touches a new one
      new_touch : (a : ℕ) → Touches (nodes_of ps) (graph_of (ends_at net.arcs) a) → (q : PieceLists) × IsIn q qs × Touches (nodes_in q) (graph_of (ends_at net.arcs) a)
      new_touch a k = touches_flat qs (graph_of (ends_at net.arcs) a) (sounds.touch_wider (nodes_of ps) (nodes_of qs) (graph_of (ends_at net.arcs) a) (λ v i. (over.same_nodes v).0 i) k)

      basic_mark : (a : ℕ) → Touches (nodes_of ps) (graph_of (ends_at net.arcs) a) → IsIn a (numbers_of_arcs basics) → (values_in net qs).mark a ≡ marked.Basic
      basic_mark a k i = let q = new_touch a k in sounds.mark_basic net qs sound_after q.0 a q.1 (((over.each q.0 q.1).part.is_piece.touched a).1 (i, q.2))

      other_mark : (a : ℕ) (m : ℕ × Mark) → Touches (nodes_of ps) (graph_of (ends_at net.arcs) a) → IsIn m marks → a ≡ m.0 → (values_in net qs).mark a ≡ m.1
      other_mark a m k i e =
          let q = new_touch a k in
          ap (values_in net qs).mark e ∙ sounds.mark_said net qs sound_after q.0 m q.1 ((mark_in q.0 q.1 m).1 (i, subst (λ x. Touches (nodes_in q.0) (graph_of (ends_at net.arcs) x)) e q.2))

      pub assembled : AreOneOrTwo ps → IsAfter net real ps entry qs
      assembled few = record {
        sound = sound;
        sound_after = sound_after;
        few = few;
        in_order = over.in_order;
        same_nodes = over.same_nodes;
        ends = ends;
        eligible = eligible;
        direction = d;
        step = t;
        move = move;
        flows = λ a i.
            let r = in_flat_of basics_in qs a i in
            let b = in_map_of (λ (x : ℕ × Ends × Ratio). x.0) a r.0.basics r.2 in
            ap (values_in net qs).flow b.2 ∙ sounds.flow_said net qs sound_after r.0 b.0 r.1 b.1 ∙ after.flows b.0 ((over.each r.0 r.1).own b.0 b.1)
            ∙ ap (λ x. (values_in net ps).flow x +ᵣ t *ᵣ d x) (sym b.2);
        marks = λ a l k. go a l k (ℕ_discrete a entry.leave) (ℕ_discrete a entry.enter);
      }
        where
          go : (a : ℕ) → a < length net.arcs → Touches (nodes_of ps) (graph_of (ends_at net.arcs) a) → Dec (a ≡ entry.leave) → Dec (a ≡ entry.enter) → (values_in net qs).mark a ≡ mark_after entry (values_in net ps).mark a
          go a l k (yes e) _ = other_mark a (entry.leave, entry.leave_at) k ((marks_after.are (entry.leave, entry.leave_at)).1 (inl (refl, refl))) e
              ∙ sym (ap (mark_after entry (values_in net ps).mark) e ∙ mark_leave entry (values_in net ps).mark)
          go a l k (no n) (yes e) = basic_mark a k ((after.basic.are a).1 (inl e, n)) ∙ sym (ap (mark_after entry (values_in net ps).mark) e ∙ mark_enter entry (values_in net ps).mark (λ f. n (e ∙ f)))
          go a l k (no n) (no m) =
              let p = touches_flat ps (graph_of (ends_at net.arcs) a) k in
              elim (decide_in a (basics_in p.0)) [
                | yes i ↦ basic_mark a k ((after.basic.are a).1 (inr (in_flat basics_in ps p.0 a p.1 i), n)) ∙ sym (sounds.mark_basic net ps sound p.0 a p.1 i) ∙ sym (mark_other entry (values_in net ps).mark a m n)
                | no h ↦ (let r = in_map_of (λ (x : ℕ × Mark). x.0) a p.0.marks (((sound.each p.0 p.1).in_net.marked a).1 (l, h, p.2)) in
                    other_mark a r.0 k ((marks_after.are r.0).1 (inr (in_flat (λ (x : PieceLists). x.marks) ps p.0 r.0 p.1 r.1, (λ e. m (r.2 ∙ e)), (λ e. n (r.2 ∙ e))))) r.2
                    ∙ sym (sounds.mark_said net ps sound p.0 r.0 p.1 r.1) ∙ ap (values_in net ps).mark (sym r.2) ∙ sym (mark_other entry (values_in net ps).mark a m n))
              ]
