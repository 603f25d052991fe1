-- Pieces that are brought home, one behind the other.
use Rattle.std.specs.Prelude.{◌≡◌, ℕ, ◌<◌, List, [], ◌∷◌, ◌++◌, length, map, slice_set, slice_index_or, Option, Some}
use Rattle.std.specs.List.{All, flat_map}
use Rattle.std.proofs.Common.{sym, ap, subst, ◌∙◌, arith}
use Rattle.std.proofs.lemmas.List.{map-append, map-id, flat_map_more}
use Rattle.gain_graphs.specs.Arcs.{IsIn}
use Rattle.gain_graphs.proofs.Lists.{in_map}
use Rattle.np_frac.specs.Ratio.{Ratio}
use Rattle.np_model.specs.declared.arc.Ends.{Ends}
use Rattle.np_model.specs.declared.log.Mark.{Mark}
use Rattle.np_model.specs.Network.Flows.{Network}
use Rattle.np_model.specs.Basis.Pieces.{PieceLists, least_node, marks_of}
use Rattle.np_model.specs.Basis.Sound.{IsInNet}
use Rattle.np_basis.proofs.Reading.{piece_is_sound}
use Rattle.pivot_workers.specs.Forests.{AreForest}
use Rattle.quasi_tree.specs.Store.{Store}
use Rattle.simplex_driver.specs.declared.forest.Forest.{Forest}
use Rattle.simplex_driver.specs.Rounds.{IsSized, all_flows}
use Rattle.simplex_driver.specs.Store.{lists_all, written, filled, potentials_of, LiesWithin}
use Rattle.simplex_driver.proofs.Attempts.{place_in, some_node}
use Rattle.simplex_driver.proofs.Stepped.{has_least}
use Rattle.simplex_driver.proofs.Tables.{length_written, written_append}

-- what the tables are after these pieces are brought home
pub record IsBrought (net : Network) (f : Forest) (ps : List Store) (g : Forest) : Type 0 where
  pub slots : g.slots.items ≡ written (filled ps) f.slots.items
  pub potentials : g.potentials.items ≡ written (flat_map potentials_of (lists_all ps)) f.potentials.items
  pub flows : g.flows.items ≡ written (flat_map (all_flows net) (lists_all ps)) f.flows.items
  pub marks : g.marks.items ≡ written (flat_map marks_of (lists_all ps)) f.marks.items

table_more : {A : Type 0} (of : PieceLists → List (ℕ × A)) (ps : List Store) (p : Store) (f g h : List A) → g ≡ written (flat_map of (lists_all ps)) f → h ≡ written (of p.lists) g
    → h ≡ written (flat_map of (lists_all (ps ++ p ∷ []))) f
table_more of ps p f g h so_far step =
    step ∙ ap (written (of p.lists)) so_far ∙ sym (written_append (flat_map of (lists_all ps)) (of p.lists) f)
    ∙ ap (λ es. written es f) (flat_map_more of [] (lists_all ps) p.lists ∙ ap (flat_map of) (sym (map-append (λ (x : Store). x.lists) ps (p ∷ []))))

slots_more : (ps : List Store) (p : Store) (f g h : List (Option Store)) → g ≡ written (filled ps) f → h ≡ slice_set g (least_node p.lists) (Some p) → h ≡ written (filled (ps ++ p ∷ [])) f
slots_more ps p f g h so_far step =
    step ∙ ap (λ xs. slice_set xs (least_node p.lists) (Some p)) so_far ∙ sym (written_append (filled ps) ((least_node p.lists, Some p) ∷ []) f)
    ∙ ap (λ es. written es f) (sym (map-append (λ (x : Store). (least_node x.lists, Some x)) ps (p ∷ [])))

pub one_brought : (net : Network) (f : Forest) (ps : List Store) (g : Forest) (p : Store) (h : Forest) → IsBrought net f ps g → h.slots.items ≡ slice_set g.slots.items (least_node p.lists) (Some p)
    → h.potentials.items ≡ written (potentials_of p.lists) g.potentials.items
    → h.flows.items ≡ written (all_flows net p.lists) g.flows.items → h.marks.items ≡ written (marks_of p.lists) g.marks.items → IsBrought net f (ps ++ p ∷ []) h
one_brought net f ps g p h b slots potentials flows marks = record {
  slots = slots_more ps p f.slots.items g.slots.items h.slots.items b.slots slots;
  potentials = table_more potentials_of ps p f.potentials.items g.potentials.items h.potentials.items b.potentials potentials;
  flows = table_more (all_flows net) ps p f.flows.items g.flows.items h.flows.items b.flows flows;
  marks = table_more marks_of ps p f.marks.items g.marks.items h.marks.items b.marks marks;
}

-- tables with other flows and marks, as many as before
pub sized_so : (net : Network) (f g : Forest) → IsSized net f → g.slots.items ≡ f.slots.items → g.potentials.items ≡ f.potentials.items
    → length g.flows.items ≡ length f.flows.items → length g.marks.items ≡ length f.marks.items → IsSized net g
sized_so net f g s slots potentials flows marks = record {
  slot_each = ap length slots ∙ s.slot_each;
  potential_each = ap length potentials ∙ s.potential_each;
  flow_each = flows ∙ s.flow_each;
  mark_each = marks ∙ s.mark_each;
}

-- the tables keep their sizes
pub sized_still : (net : Network) (f : Forest) (ps : List Store) (g : Forest) → IsSized net f → IsBrought net f ps g → IsSized net g
sized_still net f ps g s b = record {
  slot_each = ap length b.slots ∙ length_written (filled ps) f.slots.items ∙ s.slot_each;
  potential_each = ap length b.potentials ∙ length_written (flat_map potentials_of (lists_all ps)) f.potentials.items ∙ s.potential_each;
  flow_each = ap length b.flows ∙ length_written (flat_map (all_flows net) (lists_all ps)) f.flows.items ∙ s.flow_each;
  mark_each = ap length b.marks ∙ length_written (flat_map marks_of (lists_all ps)) f.marks.items ∙ s.mark_each;
}

-- all of them
pub all_brought : (net : Network) (f : Forest) (yielded ps : List Store) (g : Forest) → map (λ (p : Store). p) yielded ≡ ps → IsBrought net f yielded g → IsBrought net f ps g
all_brought net f yielded ps g e b = subst (λ (qs : List Store). IsBrought net f qs g) (sym (map-id yielded) ∙ e) b

pub at_place : (ps : List Store) (k : ℕ) (p : Store) → k < length ps → p ≡ slice_index_or ps k p → IsIn p ps
at_place ps k p l e = subst (λ (q : Store). IsIn q ps) (sym e) (place_in ps p k l)

-- a piece of the forest is one of the network
pub in_net : (net : Network) (ps : List Store) → AreForest net (lists_all ps) → (p : Store) → IsIn p ps → IsInNet net p.lists
in_net net ps forest p i = (piece_is_sound net forest.state p.lists forest.is_state (forest.pieces_of.each p.lists (in_map (λ (x : Store). x.lists) p ps i))).in_net

-- ---- what a piece of the network fits into

module _ (net : Network) (p : PieceLists) (h : IsInNet net p) where
  node_below : (n : ℕ × Ratio) → IsIn n p.nodes → n.0 < length net.supply
  node_below n i = h.nodes n.0 (in_map (λ (x : ℕ × Ratio). x.0) n p.nodes i)

  pub basics_within : (count : ℕ) → count ≡ length net.arcs → All (λ (b : ℕ × Ends × Ratio). b.0 < count) p.basics
  basics_within count e k x l = let r = (h.basic _ (place_in p.basics x k l)).0 in omega (arith, r, e)

  pub marks_within : (count : ℕ) → count ≡ length net.arcs → All (λ (m : ℕ × Mark). m.0 < count) p.marks
  marks_within count e k x l = let r = ((h.marked _).0 (in_map (λ (m : ℕ × Mark). m.0) _ p.marks (place_in p.marks x k l))).0 in omega (arith, r, e)

  pub lies_in : (f : Forest) → IsSized net f → LiesWithin f p
  lies_in f s = record {
    some = let r = h.shape.quasi_tree.some_node in some_node p r.0 r.1;
    slot = let r = h.shape.quasi_tree.some_node in let l = h.nodes (least_node p) (has_least p r.0 r.1) in omega (arith, l, s.slot_each);
    potentials = λ k x l. let r = node_below _ (place_in p.nodes x k l) in omega (arith, r, s.potential_each);
    flows = basics_within (length f.flows.items) s.flow_each;
  }
