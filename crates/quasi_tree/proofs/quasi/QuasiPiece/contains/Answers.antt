use Rattle.np_frac.specs.Ratio.{zero_ratio}
use Rattle.quasi_tree.proofs.Stores.{found_is}
use Rattle.quasi_tree.proofs.quasi.QuasiPiece.contains.Goals as goal

pub returns : goal.returns
returns c =
    rw (c.is_some.ensures, ← c.self.view_is, ← c.self-inside.view_is, ← c.as_slice.ensures.value)
    (found_is (λ n. n.0) c.as_slice.result.now c.args.node c.node_place.result (0, zero_ratio) c.node_place.ensures)
