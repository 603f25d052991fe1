-- What the steps without a pivot say of the run.
use Rattle.std.specs.Prelude.{◌≡◌, ℕ, ◌<◌, ◌≤◌, List, length, Bool, false, Option, None}
use Rattle.std.proofs.Common.{sym, ap, subst, ◌∙◌}
use Rattle.np_model.specs.declared.log.Entry.{Entry}
use Rattle.np_model.specs.declared.log.Log.{Log}
use Rattle.np_model.specs.declared.network.FullNet.{FullNet}
use Rattle.np_model.specs.declared.phase.Phase.{Phase}
use Rattle.np_model.specs.declared.phase.Phase.TheVariants.{One}
use Rattle.np_model.specs.declared.piece.Direction.{Direction}
use Rattle.np_model.specs.declared.rows.Overflow.{Overflow}
use Rattle.np_model.specs.Network.Flows.{Network}
use Rattle.np_model.specs.Basis.Phases.{network_of, phase_net, with_artificial, real_arcs}
use Rattle.np_model.specs.Basis.Starts.{start_net}
use Rattle.np_model.specs.Basis.States.{State, values_of, IsState}
use Rattle.np_runs.specs.Ended.{HasRun, EndsOverflow, at_attempts, AttemptFindsRay}
use Rattle.np_runs.specs.Runs.{IsLiveIn, stage_of}
use Rattle.np_runs.specs.Verdicts.{NoneFindsRayInStageOne}
use Rattle.simplex_driver.specs.declared.forest.Forest.{Forest}
use Rattle.simplex_driver.specs.Store.{state_of}
use Rattle.simplex_driver.specs.Found.{AllPricesFit, EachOverflows}
use Rattle.simplex_driver.specs.Runs.{IsGood, Goes, IsSpent}

-- the full network is that of the start
pub net_is : (full : FullNet) → IsGood full → (phase : Phase) → phase_net phase full ≡ start_net phase (network_of full.net)
net_is full good phase = ap (with_artificial phase (network_of full.net)) good.artificial

unspent : (spent : Bool) (made budget : ℕ) → spent ≡ false → IsSpent spent made budget → made < budget
unspent spent made budget e h = subst (λ b. IsSpent b made budget) e h

pub no_ray : NoneFindsRayInStageOne → (full : FullNet) → IsGood full → (turned : Option ℕ) (s : State) (arc : ℕ) (direction : Direction) → turned ≡ None
    → IsState (phase_net (stage_of turned) full) s → AttemptFindsRay (phase_net (stage_of turned) full) (real_arcs full) (values_of s) arc direction → ⊥
no_ray none full good turned s arc direction e st h =
    let st' = subst (λ n. IsState n s) (net_is full good One) (subst (λ t. IsState (phase_net (stage_of t) full) s) e st) in
    let h' = subst (λ n. AttemptFindsRay n (real_arcs full) (values_of s) arc direction) (net_is full good One) (subst (λ t. AttemptFindsRay (phase_net (stage_of t) full) (real_arcs full) (values_of s) arc direction) e h) in
    none (network_of full.net) s arc direction full.net.valid.sound st' h'

module _ (full : FullNet) (good : IsGood full) (budget : ℕ) (turned : Option ℕ) (entries : List Entry) (f : Forest) (goes : Goes full turned entries f) (few : length entries ≤ budget)
    (live : IsLiveIn (network_of full.net) turned (state_of f)) (spent : Bool) (counted : IsSpent spent (length entries) budget) (log : Log) (log_is : log ≡ record { turned = turned; entries = entries }) where
  log_here : Log
  log_here = record { turned = turned; entries = entries }

  has_run : HasRun (network_of full.net) budget (record { turned = turned; entries = entries }) (state_of f)
  has_run = record { start_fits = good.start_fits; few = few; run = goes.run }

  to_start : (P : Network → Type 0) → P (phase_net (stage_of turned) full) → P (start_net (stage_of turned) (network_of full.net))
  to_start P h = subst P (net_is full good (stage_of turned)) h

  pub attempts_overflow : (overflow : Overflow) → spent ≡ false → AllPricesFit (phase_net (stage_of turned) full) (real_arcs full) (values_of (state_of f))
      → EachOverflows (phase_net (stage_of turned) full) (real_arcs full) (values_of (state_of f)) overflow → EndsOverflow (network_of full.net) budget overflow log
  attempts_overflow overflow s prices h =
      let k = to_start (λ n. EachOverflows n (real_arcs full) (values_of (state_of f)) overflow) h in
      subst (EndsOverflow (network_of full.net) budget overflow) (sym log_is) (at_attempts (record {
        last = state_of f;
        has_run = has_run;
        live = live;
        spare = unspent spent (length entries) budget s counted;
        prices_fit = to_start (λ n. AllPricesFit n (real_arcs full) (values_of (state_of f))) prices;
        arc = k.arc;
        may_enter = k.eligible;
        past = k.past;
        all = k.all;
      }))

pub log_of_parts : (log : Log) (turned : Option ℕ) (entries : List Entry) → log.turned ≡ turned → log.entries ≡ entries → log ≡ record { turned = turned; entries = entries }
log_of_parts log turned entries e f =
    ap (λ t. let l : Log = record { turned = t; entries = log.entries } in l) e ∙ ap (λ es. let l : Log = record { turned = turned; entries = es } in l) f
