-- The pieces of a state stand in slots.
use Rattle.std.proofs.Common.{inl, ℕ, ◌<◌, List, [], ◌∷◌, map, length, arith, refl}
use Rattle.gain_graphs.specs.Arcs.{IsIn}
use Rattle.np_model.specs.Network.Flows.{Network}
use Rattle.np_model.specs.Basis.Pieces.{PieceLists, least_node}
use Rattle.tree_table.specs.Slots.{HasSlot}
use Rattle.pivot_workers.specs.Forests.{AreForest}

first_in : (ns : List (ℕ × Rattle.np_frac.specs.Ratio.Ratio)) (v : ℕ) → IsIn v (map (λ n. n.0) ns) → (0 < length ns) × IsIn (Rattle.std.specs.Prelude.slice_index (map (λ n. n.0) ns) 0) (map (λ n. n.0) ns)
first_in [] v i = absurd i
first_in (n ∷ ns) v i = (omega arith, inl refl)

pub has_slot : (net : Network) (forest : List PieceLists) → AreForest net forest → (piece : PieceLists) → IsIn piece forest → HasSlot (length net.supply) piece
has_slot net forest f piece i =
    let part = (f.pieces_of.each piece i).part in
    let first = first_in piece.nodes part.least part.is_piece.has_least in
    (first.0, ((part.is_piece.joined (least_node piece)).0 first.1).0)
