-- Pivots of a state. (Ahuja, Magnanti and Orlin, Network Flows, chapter 15.)
use Rattle.std.specs.Prelude.{◌≡◌, ℕ, ◌<◌, List, length}
use Rattle.std.specs.List.{range_with_len}
use Rattle.np_frac.specs.Ratio.{Ratio, ◌+ᵣ◌, ◌*ᵣ◌}
use Rattle.np_model.specs.declared.log.Entry.{Entry}
use Rattle.np_model.specs.Network.Flows.{Network, at}
use Rattle.np_model.specs.Basis.States.{State, values_of, basics, IsState}
use Rattle.np_model.specs.Basis.Moves.{IsEligible, IsMove, mark_after}

-- the numbers of all nodes, and of all arcs
abbrev pub node_numbers : Network → List ℕ
node_numbers net = range_with_len 0 (length net.supply)

abbrev pub arc_numbers : Network → List ℕ
arc_numbers net = range_with_len 0 (length net.arcs)

-- the state becomes another by the pivot of this entry
pub record IsPivot (net : Network) (real : ℕ) (s : State) (entry : Entry) (after : State) : Type 0 where
  pub eligible : IsEligible net real (values_of s) entry.enter
  pub direction : ℕ → Ratio
  pub step : Ratio
  pub move : IsMove net (values_of s) (node_numbers net) (arc_numbers net) (basics net.arcs (values_of s).mark) entry direction step
  pub is_state : IsState net after
  pub flows : (a : ℕ) → a < length net.arcs → at after.flows a ≡ at s.flows a +ᵣ step *ᵣ direction a
  pub marks : (a : ℕ) → a < length net.arcs → (values_of after).mark a ≡ mark_after entry (values_of s).mark a
