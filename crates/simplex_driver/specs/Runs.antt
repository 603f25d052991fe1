-- What the driver keeps from step to step.
use Rattle.std.specs.Prelude.{◌≡◌, ℕ, ◌<◌, List, Bool, true, false, Option, Some, None, ⊤}
use Rattle.np_model.specs.declared.log.Entry.{Entry}
use Rattle.np_frac.specs.Ratio.{Ratio}
use Rattle.np_model.specs.declared.network.FullNet.{FullNet}
use Rattle.np_model.specs.declared.outcome.Outcome.{Outcome}
use Rattle.np_model.specs.declared.outcome.Outcome.TheVariants as outcome
use Rattle.np_model.specs.declared.phase.Phase.TheVariants.{One, Two}
use Rattle.np_model.specs.declared.rows.Overflow.{Overflow}
use Rattle.np_model.specs.Basis.Phases.{network_of, phase_net}
use Rattle.np_model.specs.Basis.Pieces.{PieceLists}
use Rattle.np_model.specs.Basis.Starts.{artificial_ends}
use Rattle.np_model.specs.Basis.States.{State, values_of, IsPieceOf, IsState}
use Rattle.np_runs.specs.Ended.{StartFits}
use Rattle.np_runs.specs.Runs.{HasNoArtificialFlow, IsFirstStage, RunLeads, IsLiveIn, stage_of}
use Rattle.tree_potentials.specs.Answers as potentials
use Rattle.simplex_driver.specs.declared.driver.Due.{Due}
use Rattle.simplex_driver.specs.declared.driver.Due.TheVariants as due
use Rattle.simplex_driver.specs.declared.forest.Forest.{Forest}
use Rattle.simplex_driver.specs.Store.{state_of, IsKept}

-- the artificial arcs are those of the start, and no residual overflows
pub record IsGood (full : FullNet) : Type 0 where
  pub artificial : full.artificial ≡ artificial_ends (network_of full.net)
  pub start_fits : StartFits (network_of full.net)

-- a run by these entries leads to the state at hand, and the pieces at hand are those of that state
pub record Goes (full : FullNet) (turned : Option ℕ) (entries : List Entry) (f : Forest) : Type 0 where
  pub run : RunLeads (network_of full.net) turned entries (state_of f)
  pub is_state : IsState (phase_net (stage_of turned) full) (state_of f)
  pub kept : IsKept (phase_net (stage_of turned) full) f

-- the turn is due after these entries of stage one, and an operation of the potentials of some piece overflows
pub record IsStopped (full : FullNet) (entries : List Entry) (overflow : Overflow) : Type 0 where
  pub last : State
  pub run : IsFirstStage (network_of full.net) entries last
  pub none : HasNoArtificialFlow (network_of full.net) last
  pub piece : PieceLists
  pub is_piece : IsPieceOf (phase_net One full) (values_of last) piece
  pub past : potentials.IsOverflow (phase_net Two full) piece overflow

-- the run goes on in a live state, or the turn is due and stops it
abbrev pub IsDue : FullNet → List Entry → Forest → Due → Type 0
IsDue full entries g (due.Live turned) = Goes full turned entries g × IsLiveIn (network_of full.net) turned (state_of g)
IsDue full entries g (due.Past overflow) = IsStopped full entries overflow
IsDue full entries g due.Memory = ⊤

-- whether as many pivots are made as the budget allows
abbrev pub IsSpent : Bool → ℕ → ℕ → Type 0
IsSpent true made budget = made ≡ budget
IsSpent false made budget = made < budget

-- the outcome of a run that has turned or not, where no arc may enter
abbrev pub settled_outcome : Option ℕ → List Ratio → List Ratio → List Entry → Outcome
settled_outcome None flows potentials entries = outcome.Infeasible potentials (record { turned = None; entries = entries })
settled_outcome (Some number) flows potentials entries = outcome.Optimal flows potentials (record { turned = Some number; entries = entries })
