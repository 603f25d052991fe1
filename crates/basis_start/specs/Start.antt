-- What the start answers. (This project's own.)
use Rattle.std.specs.Prelude.{◌≡◌, ℕ, ◌<◌, List, length, Result, Ok, Err, ⊤}
use Rattle.std.specs.Result.{IsOk}
use Rattle.np_frac.specs.Ratio.{Ratio}
use Rattle.np_model.specs.declared.arc.Ends.{Ends}
use Rattle.np_model.specs.declared.network.StartBasis.{StartBasis}
use Rattle.np_model.specs.declared.rows.Row.TheVariants.{A1}
use Rattle.np_model.specs.declared.rows.Place.TheVariants.{Node}
use Rattle.np_model.specs.declared.rows.Overflow.{Overflow}
use Rattle.np_model.specs.Network.Flows.{Network, at}
use Rattle.np_model.specs.Basis.Phases.{network_of}
use Rattle.np_model.specs.Basis.Starts.{artificial_ends, start_flows}
use Rattle.np_model.specs.Rows.Arcs.{residual_of}
use Rattle.basis_start.specs.declared.refusal.StartRefusal.{StartRefusal}
use Rattle.basis_start.specs.declared.refusal.StartRefusal.TheVariants.{Past, Memory}

-- the operations of the node's residual fit
abbrev pub ResidualFits : Network → ℕ → Type 0
ResidualFits net v = IsOk (residual_of net.arcs v (at net.supply v))

-- the artificial arcs and the flows of the start, where the operations of each residual fit
pub record AreOfStart (net : Network) (artificial : List Ends) (flows : List Ratio) : Type 0 where
  pub artificial_are : artificial ≡ artificial_ends net
  pub flows_are : flows ≡ start_flows net
  pub residuals_fit : (v : ℕ) → v < length net.supply → ResidualFits net v

-- the first operation of row A1 that overflows, at the first node where one does
pub record OverflowsAt (net : Network) (overflow : Overflow) : Type 0 where
  pub node : ℕ
  pub below : node < length net.supply
  pub row : overflow.row ≡ A1
  pub place : overflow.place ≡ Node node
  pub past : residual_of net.arcs node (at net.supply node) ≡ Err overflow.past
  pub first : (v : ℕ) → v < node → ResidualFits net v

-- the cause of a refusal; want of memory has none
abbrev pub IsCause : Network → StartRefusal → Type 0
IsCause net (Past overflow) = OverflowsAt net overflow
IsCause net Memory = ⊤

-- the answer: the start on this network, or the cause of a refusal
pub record IsStart (net : Network) (basis : StartBasis) : Type 0 where
  pub same : network_of basis.full.net ≡ net
  pub start : AreOfStart net basis.full.artificial basis.flows

abbrev pub IsAnswer : Network → Result StartBasis StartRefusal → Type 0
IsAnswer net (Ok basis) = IsStart net basis
IsAnswer net (Err refusal) = IsCause net refusal
