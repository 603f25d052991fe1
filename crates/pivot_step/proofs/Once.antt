-- The pieces before a pivot and its entry determine the pieces after it, with no state at hand.
use Rattle.std.specs.Prelude.{◌≡◌, ◌≢◌, ◌↔◌, ◌<◌, ℕ, List, [], ◌∷◌, map, length}
use Rattle.std.proofs.Common.{refl, sym, ap, ap₂, subst, ◌∙◌, inl, inr}
use native.Mathlib.Decide.{ℕ_discrete}
use Rattle.gain_graphs.specs.Arcs.{IsIn, Touches}
use Rattle.gain_graphs.proofs.Lists.{in_map, in_map_of}
use Rattle.np_frac.specs.Ratio.{Ratio, ◌+ᵣ◌, ◌*ᵣ◌}
use Rattle.np_model.specs.declared.arc.Ends.{Ends}
use Rattle.np_model.specs.declared.log.Mark.{Mark}
use Rattle.np_model.specs.declared.log.Mark.TheVariants as marked
use Rattle.np_model.specs.declared.log.Entry.{Entry}
use Rattle.np_model.specs.Network.Flows.{Network}
use Rattle.np_model.specs.Basis.Graphs.{graph_of, ends_at, cost_at}
use Rattle.np_model.specs.Basis.Moves.{sign, mark_after}
use Rattle.np_model.specs.Basis.Pieces.{PieceLists, nodes_in, basics_in, marked_in, least_node, nodes_of, basics_of}
use Rattle.np_model.specs.Basis.Sound.{values_in, AreSound, AreInOrder, IsAfter}
use Rattle.np_model.specs.Basis.States.{IsPartOf}
use Rattle.np_basis.specs.PivotLaws.{HasRealArcs, AreInNet, MayEnter}
use Rattle.np_basis.proofs.Ascending.{Ascends, ascends, same_list, same_rising}
use Rattle.np_basis.proofs.Directions.{direction_is_unique}
use Rattle.np_basis.proofs.Pivoting.{mark_leave, mark_enter, mark_other, not_towards}
use Rattle.np_basis.proofs.RatioTest.{move_is_unique}
use Rattle.np_basis.proofs.Reading.{in_flat, in_flat_of, touches_flat}
use Rattle.np_basis.proofs.Sound as sounds
use Rattle.np_basis.proofs.Trees as trees
use Rattle.np_basis.proofs.Trees.{potentials_are_unique}
use Rattle.pivot_step.proofs.Assembled as assembling
use Rattle.pivot_step.proofs.Entries.{same_entries}
use Rattle.pivot_step.proofs.Flipping.{same_part, old_part}

-- a basic arc of sound pieces touches them
own_touches : (net : Network) (ps : List PieceLists) → AreSound net ps → (a : ℕ) → IsIn a (basics_of ps) → Touches (nodes_of ps) (graph_of (ends_at net.arcs) a)
own_touches net ps sound a i =
    let r = in_flat_of basics_in ps a i in
    sounds.touch_more ps r.0 (graph_of (ends_at net.arcs) a) r.1 (sounds.lies_touch (nodes_in r.0) (graph_of (ends_at net.arcs) a) (sounds.inside net ps sound r.0 a r.1 r.2))

own_basic : (net : Network) (ps : List PieceLists) → AreSound net ps → (a : ℕ) → IsIn a (basics_of ps) → (values_in net ps).mark a ≡ marked.Basic
own_basic net ps sound a i = let r = in_flat_of basics_in ps a i in sounds.mark_basic net ps sound r.0 a r.1 r.2

module _ (net : Network) (real : ℕ) (ground : HasRealArcs net real) (ps : List PieceLists) (entry : Entry) (qs : List PieceLists) (h : IsAfter net real ps entry qs) where
  pub in_net : AreInNet net ps
  in_net = assembling.in_net net real ground ps h.sound entry h.ends h.eligible

  pub may : MayEnter net ps entry.enter
  may = assembling.may net real ground ps h.sound entry h.ends h.eligible

  hand_touches : (a : ℕ) → IsIn a (entry.enter ∷ basics_of ps) → Touches (nodes_of ps) (graph_of (ends_at net.arcs) a)
  hand_touches a (inl e) = subst (λ x. Touches (nodes_of ps) (graph_of (ends_at net.arcs) x)) (sym e) (sounds.lies_touch (nodes_of ps) (graph_of (ends_at net.arcs) entry.enter) h.ends)
  hand_touches a (inr i) = own_touches net ps h.sound a i

  -- what is basic after the pivot
  pub was : (a : ℕ) → IsIn a (basics_of qs) → IsIn a (entry.enter ∷ basics_of ps) × (a ≢ entry.leave)
  was a i = (go (ℕ_discrete a entry.enter), not_left)
    where
      q : (q : PieceLists) × IsIn q qs × IsIn a (basics_in q)
      q = in_flat_of basics_in qs a i

      below : a < length net.arcs
      below = sounds.below net qs h.sound_after q.0 a q.1 q.2

      touches : Touches (nodes_of ps) (graph_of (ends_at net.arcs) a)
      touches = sounds.touch_wider (nodes_of qs) (nodes_of ps) (graph_of (ends_at net.arcs) a) (λ v j. (h.same_nodes v).1 j) (own_touches net qs h.sound_after a i)

      basic : mark_after entry (values_in net ps).mark a ≡ marked.Basic
      basic = sym (h.marks a below touches) ∙ own_basic net qs h.sound_after a i

      not_left : a ≢ entry.leave
      not_left e = not_towards (h.direction entry.leave) entry.leave_at h.move.stops.towards (sym (ap (mark_after entry (values_in net ps).mark) e ∙ mark_leave entry (values_in net ps).mark) ∙ basic)

      go : Dec (a ≡ entry.enter) → IsIn a (entry.enter ∷ basics_of ps)
      go (yes e) = inl e
      go (no n) =
          let p = touches_flat ps (graph_of (ends_at net.arcs) a) touches in
          inr (in_flat basics_in ps p.0 a p.1 (sounds.basic_of net ps h.sound p.0 a p.1 below p.2 (sym (mark_other entry (values_in net ps).mark a n not_left) ∙ basic)))

  pub now : (a : ℕ) → IsIn a (entry.enter ∷ basics_of ps) → a ≢ entry.leave → IsIn a (basics_of qs)
  now a i n =
      let below = assembling.below_hand net real ground ps h.sound entry h.ends h.eligible a i in
      let q = touches_flat qs (graph_of (ends_at net.arcs) a) (sounds.touch_wider (nodes_of ps) (nodes_of qs) (graph_of (ends_at net.arcs) a) (λ v j. (h.same_nodes v).0 j) (hand_touches a i)) in
      in_flat basics_in qs q.0 a q.1 (sounds.basic_of net qs h.sound_after q.0 a q.1 below q.2 (h.marks a below (hand_touches a i) ∙ basic (ℕ_discrete a entry.enter) i))
    where
      basic : Dec (a ≡ entry.enter) → IsIn a (entry.enter ∷ basics_of ps) → mark_after entry (values_in net ps).mark a ≡ marked.Basic
      basic (yes e) j = ap (mark_after entry (values_in net ps).mark) e ∙ mark_enter entry (values_in net ps).mark (λ f. n (e ∙ f))
      basic (no m) (inl e) = absurd (m e)
      basic (no m) (inr j) = mark_other entry (values_in net ps).mark a m n ∙ own_basic net ps h.sound a j

  -- each piece after it is a part of what is basic then
  pub part_after : (basic : List ℕ) → ((a : ℕ) → IsIn a basic ↔ (IsIn a (entry.enter ∷ basics_of ps) × (a ≢ entry.leave))) → (q : PieceLists) → IsIn q qs → IsPartOf net basic (nodes_in q) (basics_in q)
  part_after basic are = old_part net qs h.sound_after basic (λ a. ((λ i. let r = (are a).0 i in now a r.0 r.1), (λ i. (are a).1 (was a i))))

-- ---- two lists of pieces after one pivot

in_order_ascends : (qs : List PieceLists) → AreInOrder qs → Ascends (map least_node qs)
in_order_ascends [] h = absurd h
in_order_ascends (p ∷ []) h = ((λ v i. absurd i), record {})
in_order_ascends (p ∷ q ∷ []) h = ((λ v i. elim i [ inl e ↦ subst (λ t. least_node p < t) (sym e) h | inr z ↦ absurd z ]), ((λ v i. absurd i), record {}))
in_order_ascends (p ∷ q ∷ r ∷ rest) h = absurd h

same_piece_lists : (p q : PieceLists) → p.nodes ≡ q.nodes → p.basics ≡ q.basics → p.marks ≡ q.marks → p ≡ q
same_piece_lists p q e f g =
    ap (λ n. let z : PieceLists = record { nodes = n; basics = p.basics; marks = p.marks } in z) e
    ∙ ap (λ n. let z : PieceLists = record { nodes = q.nodes; basics = n; marks = p.marks } in z) f
    ∙ ap (λ n. let z : PieceLists = record { nodes = q.nodes; basics = q.basics; marks = n } in z) g

same_basic : (b c : ℕ × Ends × Ratio) → b.0 ≡ c.0 → b.1 ≡ c.1 → b.2 ≡ c.2 → b ≡ c
same_basic b c e f g =
    ap (λ n. let z : ℕ × Ends × Ratio = (n, b.1, b.2) in z) e
    ∙ ap (λ n. let z : ℕ × Ends × Ratio = (c.0, n, b.2) in z) f
    ∙ ap (λ n. let z : ℕ × Ends × Ratio = (c.0, c.1, n) in z) g

module _ (net : Network) (real : ℕ) (ground : HasRealArcs net real) (ps : List PieceLists) (entry : Entry) (xs ys : List PieceLists) (h : IsAfter net real ps entry xs) (k : IsAfter net real ps entry ys) where
  same_flow : (a : ℕ) → IsIn a (basics_of xs) → IsIn a (basics_of ys) → (values_in net xs).flow a ≡ (values_in net ys).flow a
  same_flow a i j =
      let step = (move_is_unique net ps entry entry h.direction k.direction h.step k.step ground.sound (in_net net real ground ps entry xs h) (may net real ground ps entry xs h) refl h.move k.move).1 in
      let amount = direction_is_unique net ps entry.enter (sign ((values_in net ps).mark entry.enter)) h.direction k.direction ground.sound (in_net net real ground ps entry xs h) (may net real ground ps entry xs h) h.move.direction k.move.direction a
      (was net real ground ps entry xs h a i).0 in
      h.flows a i ∙ ap₂ (λ t d. (values_in net ps).flow a +ᵣ t *ᵣ d) step amount ∙ sym (k.flows a j)

  module _ (p : PieceLists) (i : IsIn p xs) (r : PieceLists) (j : IsIn r ys) (nodes : nodes_in p ≡ nodes_in r) (basics : basics_in p ≡ basics_in r) where
    same_potential : (v : ℕ) → IsIn v (nodes_in p) → (values_in net (p ∷ [])).potential v ≡ (values_in net (r ∷ [])).potential v
    same_potential = potentials_are_unique net p (cost_at net.arcs) (values_in net (p ∷ [])).potential (values_in net (r ∷ [])).potential (h.sound_after.each p i).in_net (h.sound_after.each p i).priced
        (λ a l. (k.sound_after.each r j).priced a (subst (IsIn a) basics l))

    node_entry : (n : ℕ × Ratio) → IsIn n p.nodes → IsIn n r.nodes
    node_entry n l =
        let own : IsIn n.0 (nodes_in p) = in_map (λ (x : ℕ × Ratio). x.0) n p.nodes l in
        let m = in_map_of (λ (x : ℕ × Ratio). x.0) n.0 r.nodes (subst (IsIn n.0) nodes own) in
        let value : n.1 ≡ m.0.1 = sym (sounds.potential_of net xs h.sound_after p n i l) ∙ sounds.alone net xs h.sound_after p i n.0 own ∙ same_potential n.0 own
        ∙ sym (sounds.alone net ys k.sound_after r j n.0 (subst (IsIn n.0) nodes own)) ∙ ap (values_in net ys).potential m.2 ∙ sounds.potential_of net ys k.sound_after r m.0 j m.1 in
        subst (λ (x : ℕ × Ratio). IsIn x r.nodes) (sym (ap₂ (λ (a : ℕ) (b : Ratio). (a, b)) m.2 value)) m.1

    basic_entry : (b : ℕ × Ends × Ratio) → IsIn b p.basics → IsIn b r.basics
    basic_entry b l =
        let own : IsIn b.0 (basics_in p) = in_map (λ (x : ℕ × Ends × Ratio). x.0) b p.basics l in
        let m = in_map_of (λ (x : ℕ × Ends × Ratio). x.0) b.0 r.basics (subst (IsIn b.0) basics own) in
        let ends : b.1 ≡ m.0.1 = ((h.sound_after.each p i).in_net.basic b l).1 ∙ ap (ends_at net.arcs) m.2 ∙ sym ((k.sound_after.each r j).in_net.basic m.0 m.1).1 in
        let flow : b.2 ≡ m.0.2 = sym (sounds.flow_said net xs h.sound_after p b i l) ∙ same_flow b.0 (in_flat basics_in xs p b.0 i own) (in_flat basics_in ys r b.0 j (subst (IsIn b.0) basics own))
        ∙ ap (values_in net ys).flow m.2 ∙ sounds.flow_said net ys k.sound_after r m.0 j m.1 in
        subst (λ (x : ℕ × Ends × Ratio). IsIn x r.basics) (sym (same_basic b m.0 m.2 ends flow)) m.1

    marked_same : marked_in p ≡ marked_in r
    marked_same = same_rising (marked_in p) (marked_in r) (h.sound_after.each p i).in_net.shape.marks_ascend (k.sound_after.each r j).in_net.shape.marks_ascend
        (λ a l. let m = ((h.sound_after.each p i).in_net.marked a).0 l in
        ((k.sound_after.each r j).in_net.marked a).1 (m.0, (λ t. m.1 (subst (IsIn a) (sym basics) t)), subst (λ ns. Touches ns (graph_of (ends_at net.arcs) a)) nodes m.2))
        (λ a l. let m = ((k.sound_after.each r j).in_net.marked a).0 l in
        ((h.sound_after.each p i).in_net.marked a).1 (m.0, (λ t. m.1 (subst (IsIn a) basics t)), subst (λ ns. Touches ns (graph_of (ends_at net.arcs) a)) (sym nodes) m.2))

    mark_entry : (m : ℕ × Mark) → IsIn m p.marks → IsIn m r.marks
    mark_entry m l =
        let own : IsIn m.0 (marked_in p) = in_map (λ (x : ℕ × Mark). x.0) m p.marks l in
        let n = in_map_of (λ (x : ℕ × Mark). x.0) m.0 r.marks (subst (IsIn m.0) marked_same own) in
        let at = ((h.sound_after.each p i).in_net.marked m.0).0 own in
        let touches = sounds.touch_wider (nodes_of xs) (nodes_of ps) (graph_of (ends_at net.arcs) m.0) (λ v t. (h.same_nodes v).1 t) (sounds.touch_more xs p (graph_of (ends_at net.arcs) m.0) i at.2) in
        let value : m.1 ≡ n.0.1 = sym (sounds.mark_said net xs h.sound_after p m i l) ∙ h.marks m.0 at.0 touches ∙ sym (k.marks m.0 at.0 touches) ∙ ap (values_in net ys).mark n.2 ∙ sounds.mark_said net ys k.sound_after r n.0 j n.1 in
        subst (λ (x : ℕ × Mark). IsIn x r.marks) (sym (ap₂ (λ (a : ℕ) (b : Mark). (a, b)) n.2 value)) n.1

    same_lists : p ≡ r
    same_lists = same_piece_lists p r
        (same_entries (λ (n : ℕ × Ratio). n.0) p.nodes r.nodes nodes (ascends (nodes_in r) (k.sound_after.each r j).in_net.shape.nodes_ascend) node_entry)
        (same_entries (λ (b : ℕ × Ends × Ratio). b.0) p.basics r.basics basics (ascends (basics_in r) (k.sound_after.each r j).in_net.shape.basics_ascend) basic_entry)
        (same_entries (λ (m : ℕ × Mark). m.0) p.marks r.marks marked_same (ascends (marked_in r) (k.sound_after.each r j).in_net.shape.marks_ascend) mark_entry)

  -- each piece of the one list is one of the other
  twin : (p : PieceLists) → IsIn p xs → IsIn p ys
  twin p i =
      let some = (trees.tree net p (h.sound_after.each p i).in_net).some_node in
      let r = in_flat_of nodes_in ys some.0 ((k.same_nodes some.0).0 ((h.same_nodes some.0).1 (in_flat nodes_in xs p some.0 i some.1))) in
      let same = same_part net (basics_of xs) (nodes_in p) (basics_in p) (nodes_in r.0) (basics_in r.0)
      (part_after net real ground ps entry xs h (basics_of xs) are p i) (part_after net real ground ps entry ys k (basics_of xs) are r.0 r.1) some.0 some.1 r.2 in
      subst (λ x. IsIn x ys) (sym (same_lists p i r.0 r.1 same.0 same.1)) r.1
    where
      are : (a : ℕ) → IsIn a (basics_of xs) ↔ (IsIn a (entry.enter ∷ basics_of ps) × (a ≢ entry.leave))
      are a = ((λ i. was net real ground ps entry xs h a i), (λ r. now net real ground ps entry xs h a r.0 r.1))

pub one_after : (net : Network) (real : ℕ) → HasRealArcs net real → (ps : List PieceLists) (entry : Entry) (xs ys : List PieceLists) → IsAfter net real ps entry xs → IsAfter net real ps entry ys → xs ≡ ys
one_after net real ground ps entry xs ys h k =
    same_entries least_node xs ys
    (same_list (map least_node xs) (map least_node ys) (in_order_ascends xs h.in_order) (in_order_ascends ys k.in_order) (λ v i. goes xs ys h k v i) (λ v i. goes ys xs k h v i))
    (in_order_ascends ys k.in_order) (twin net real ground ps entry xs ys h k)
  where
    goes : (xs ys : List PieceLists) → IsAfter net real ps entry xs → IsAfter net real ps entry ys → (v : ℕ) → IsIn v (map least_node xs) → IsIn v (map least_node ys)
    goes xs ys h k v i =
        let r = in_map_of least_node v xs i in
        subst (λ t. IsIn t (map least_node ys)) (sym r.2) (in_map least_node r.0 ys (twin net real ground ps entry xs ys h k r.0 r.1))
