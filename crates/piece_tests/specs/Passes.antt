-- What the tests ask of a pass. (This project's own.)
use Rattle.std.specs.Prelude.{◌≡◌, ℕ, ◌<◌, [], ◌∷◌}
use Rattle.np_frac.specs.Ratio.{Ratio, zero_ratio, one_ratio}
use Rattle.np_model.specs.Basis.Pieces.{PieceLists}
use Rattle.np_model.specs.declared.arc.Ends.TheVariants.{Drain}
use Rattle.np_model.specs.declared.log.Mark.TheVariants.{Lower}
use Rattle.np_model.specs.declared.network.FullNet.{FullNet}
use Rattle.np_model.specs.declared.phase.Phase.TheVariants.{One}
use Rattle.np_basis.specs.PivotLaws.{drain_of}
use Rattle.tree_table.specs.declared.table.TreeTable.{TreeTable}
use Rattle.tree_table.specs.Passes.{Opening, PassState, IsIdle, slot_count}
use Rattle.tree_table.specs.Calls.{IsOf}

-- a pass of the table, with nothing in hand and no entry, where there is a slot of this number
abbrev pub IsVisitor : {T : Type 0} → TreeTable T → ℕ → PassState → Type 0
IsVisitor table slot pass = IsOf table pass × (slot < slot_count pass.view) × IsIdle pass.view × (pass.view.entries ≡ [])

-- ---- a node of supply 1 with a drain and an artificial drain

-- the node as a piece by one of its drains, with this potential
abbrev pub drained_by : Ratio → ℕ → ℕ → PieceLists
drained_by potential arc other = record { nodes = (0, potential) ∷ []; basics = (arc, Drain 0, one_ratio) ∷ []; marks = (other, Lower) ∷ [] }

-- in stage one, where the artificial drain takes the supply
abbrev pub artificial_opening : Opening
artificial_opening = record {
  net = record { supply = one_ratio ∷ []; arcs = drain_of zero_ratio ∷ [] };
  artificial = Drain 0 ∷ [];
  phase = One;
  pieces = drained_by one_ratio 1 0 ∷ [];
}

-- the full network has these lists
pub record HasDrain (full : FullNet) : Type 0 where
  pub supply : full.net.supply ≡ one_ratio ∷ []
  pub arcs : full.net.arcs ≡ drain_of zero_ratio ∷ []
  pub artificial : full.artificial ≡ Drain 0 ∷ []
