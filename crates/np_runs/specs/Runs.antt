-- Runs of pivots: from the start state in stage one, and on from the turn in stage two. (The two stages are those of the simplex method with
-- artificial arcs: Ahuja, Magnanti and Orlin, Network Flows, chapters 11 and 15.)
use Rattle.std.specs.Prelude.{◌≡◌, ◌≢◌, ℕ, ◌<◌, ◌≤◌, List, [], ◌∷◌, ◌++◌, length, take, drop, Option, Some, None, ⊤}
use Rattle.np_frac.specs.Ratio.{Ratio, zero_ratio}
use Rattle.np_frac.specs.Fits.{Fits}
use Rattle.np_model.specs.declared.arc.Ends.{Ends}
use Rattle.np_model.specs.declared.log.Entry.{Entry}
use Rattle.np_model.specs.declared.log.Log.{Log}
use Rattle.np_model.specs.declared.log.Mark.TheVariants.{Basic}
use Rattle.np_model.specs.declared.phase.Phase.{Phase}
use Rattle.np_model.specs.declared.phase.Phase.TheVariants.{One, Two}
use Rattle.np_model.specs.Network.Flows.{Network, at}
use Rattle.np_model.specs.Basis.Graphs.{ends_at, cost_at}
use Rattle.np_model.specs.Basis.Moves.{IsOpen}
use Rattle.np_model.specs.Basis.Phases.{with_artificial}
use Rattle.np_model.specs.Basis.Pieces.{PieceLists}
use Rattle.np_model.specs.Basis.Pivots.{IsPivot}
use Rattle.np_model.specs.Basis.Starts.{start_state, start_net, ResidualsFit}
use Rattle.np_model.specs.Basis.States.{State, Values, values_of, basics, IsPart, IsPieceOf, IsState}
use Rattle.np_model.specs.Rows.Potentials.{ArePriced, PotentialsFit}
use Rattle.np_basis.specs.Laws.{HasSoundArcs}

-- ---- pivots in order

-- the pivots of these entries, each on the state that the one before it left, lead from a state to another
abbrev pub PivotsLead : Phase → Network → State → List Entry → State → Type 0
PivotsLead phase net s [] last = s ≡ last
PivotsLead phase net s (entry ∷ entries) last =
    (next : State) × IsPivot (start_net phase net) (length net.arcs) s entry next × PivotsLead phase net next entries last

-- ---- the turn

-- the number of an artificial arc: they stand behind the real ones
abbrev pub IsArtificial : Network → ℕ → Type 0
IsArtificial net a = (length net.arcs ≤ a) × (a < length (start_net One net).arcs)

-- no artificial arc carries anything
abbrev pub HasNoArtificialFlow : Network → State → Type 0
HasNoArtificialFlow net s = (a : ℕ) → IsArtificial net a → at s.flows a ≡ zero_ratio

-- some artificial arc carries something
abbrev pub HasArtificialFlow : Network → State → Type 0
HasArtificialFlow net s = (a : ℕ) × IsArtificial net a × (at s.flows a ≢ zero_ratio)

-- a state of stage one in which no artificial arc carries anything becomes one of stage two, with the same marks and flows: so its potentials
-- are those of the same basis at the costs of stage two
pub record IsTurn (net : Network) (s after : State) : Type 0 where
  pub no_artificial : HasNoArtificialFlow net s
  pub marks : after.marks ≡ s.marks
  pub flows : after.flows ≡ s.flows
  pub is_state : IsState (start_net Two net) after

-- ---- runs

-- a run of stage one from the start state
abbrev pub IsFirstStage : Network → List Entry → State → Type 0
IsFirstStage net entries last = PivotsLead One net (start_state net) entries last

-- a run that turns behind its first k entries, and makes the others in stage two
pub record IsTurned (net : Network) (k : ℕ) (entries : List Entry) (last : State) : Type 0 where
  pub few : k ≤ length entries
  pub before : State
  pub first : IsFirstStage net (take k entries) before
  pub after : State
  pub turn : IsTurn net before after
  pub second : PivotsLead Two net after (drop k entries) last

-- a run by these entries, which turns behind so many of them or never, leads from the start state to this one
abbrev pub RunLeads : Network → Option ℕ → List Entry → State → Type 0
RunLeads net None entries last = IsFirstStage net entries last
RunLeads net (Some k) entries last = IsTurned net k entries last

-- the run of a log
abbrev pub IsRun : Network → Log → State → Type 0
IsRun net log last = RunLeads net log.turned log.entries last

-- ---- its last state

-- stage two begins with the turn
abbrev pub stage_of : Option ℕ → Phase
stage_of None = One
stage_of (Some k) = Two

-- the network of the stage that a log has come to
abbrev pub stage_net : Network → Log → Network
stage_net net log = start_net (stage_of log.turned) net

-- in stage one the state is live where an artificial arc carries something, and in stage two always
abbrev pub IsLiveIn : Network → Option ℕ → State → Type 0
IsLiveIn net None s = HasArtificialFlow net s
IsLiveIn net (Some k) s = ⊤

abbrev pub IsLive : Network → Log → State → Type 0
IsLive net log s = IsLiveIn net log.turned s

-- an open arc outside the basis, whose price is asked for
abbrev pub IsOpenOutside : Network → ℕ → Values → ℕ → Type 0
IsOpenOutside net real s a = IsOpen net real a × (s.mark a ≢ Basic)

-- ---- the laws

-- a run goes on by pivots of the stage that it has come to
abbrev pub RunGoesOn : Type 0
RunGoesOn = (net : Network) (turned : Option ℕ) (entries more : List Entry) (s last : State) → RunLeads net turned entries s
    → PivotsLead (stage_of turned) net s more last → RunLeads net turned (entries ++ more) last

-- and turns behind all entries so far
abbrev pub RunTurns : Type 0
RunTurns = (net : Network) (entries : List Entry) (s after : State) → RunLeads net None entries s → IsTurn net s after
    → RunLeads net (Some (length entries)) entries after

-- the network and the log determine the state
abbrev pub RunIsUnique : Type 0
RunIsUnique = (net : Network) (log : Log) (s t : State) → HasSoundArcs net → ResidualsFit net → IsRun net log s → IsRun net log t → s ≡ t

-- and it is one of the stage that the log has come to
abbrev pub RunGivesState : Type 0
RunGivesState = (net : Network) (log : Log) (s : State) → HasSoundArcs net → ResidualsFit net → IsRun net log s → IsState (stage_net net log) s

-- a piece of what these values say in one stage is one in the other, as the ends of the arcs are the same
abbrev pub PiecesStay : Type 0
PiecesStay = (net : Network) (artificial : List Ends) (s : Values) (piece : PieceLists) (from to : Phase)
    → IsPieceOf (with_artificial from net artificial) s piece → IsPieceOf (with_artificial to net artificial) s piece

-- potentials for the costs of stage two on the basis of a state of stage one, with no operation of their rows that overflows
pub record AreOfTurn (net : Network) (s : State) (potentials : List Ratio) : Type 0 where
  pub one_each : length potentials ≡ length net.supply
  pub priced : ArePriced (ends_at (start_net Two net).arcs) (cost_at (start_net Two net).arcs) (basics (start_net Two net).arcs (values_of s).mark) (at potentials)
  pub fit : (v : ℕ) → v < length net.supply → Fits (at potentials v)
  pub rows_fit : (nodes numbers : List ℕ) → IsPart (start_net Two net) (values_of s).mark nodes numbers
      → PotentialsFit (ends_at (start_net Two net).arcs) (cost_at (start_net Two net).arcs) numbers (at potentials)

-- where no artificial arc carries anything, such potentials make the turn
abbrev pub TurnIs : Type 0
TurnIs = (net : Network) (s : State) (potentials : List Ratio) → IsState (start_net One net) s → HasNoArtificialFlow net s → AreOfTurn net s potentials
    → IsTurn net s (record { marks = s.marks; flows = s.flows; potentials = potentials })
