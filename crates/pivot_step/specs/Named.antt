-- What a prepared pivot is a pivot of.
use Rattle.std.specs.Prelude.{ℕ, List, Option}
use Rattle.np_model.specs.declared.log.Entry.{Entry}
use Rattle.np_model.specs.declared.network.FullNet.{FullNet}
use Rattle.np_model.specs.declared.phase.Phase.{Phase}
use Rattle.np_model.specs.declared.piece.Hands.{Hands}
use Rattle.np_model.specs.Network.Flows.{Network}
use Rattle.np_model.specs.Basis.Attempts.{IsPivoted}
use Rattle.np_model.specs.Basis.Needed.{lists_of}
use Rattle.np_model.specs.Basis.Phases.{phase_net, real_arcs}
use Rattle.np_model.specs.Basis.Pieces.{PieceLists}
use Rattle.quasi_tree.specs.Store.{Store}
use Rattle.piece_lists.specs.Parts.{lists_in}

-- some arc can enter these pieces, by some entry, and they then become the others
pub record BecomeBySomePivot (net : Network) (real : ℕ) (pieces after : List PieceLists) : Type 0 where
  pub arc : ℕ
  pub entry : Entry
  pub pivoted : IsPivoted net real pieces arc entry after

-- the change is a pivot of these pieces as they stand
abbrev pub IsPivotOf : Hands Store → FullNet → Phase → Store → Option Store → Type 0
IsPivotOf change full phase first second =
    BecomeBySomePivot (phase_net phase full) (real_arcs full) (lists_of (λ (s : Store). s.lists) first.lists second) (lists_in change)
