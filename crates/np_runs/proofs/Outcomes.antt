-- What an outcome certifies.
use Rattle.std.specs.Prelude.{◌≡◌, ℕ, ◌<◌, map, length, Option, None, Some}
use Rattle.std.proofs.Common.{sym, ap, subst, ◌∙◌, arith}
use Rattle.std.specs.List.{range_with_len}
use Rattle.std.proofs.lemmas.List.FromFn.{fill_by_all, get_or-map-range_with_len, length-map-range_with_len}
use Rattle.np_frac.specs.Ratio.{Ratio, zero_ratio, total}
use Rattle.np_model.specs.declared.log.Log.{Log}
use Rattle.np_model.specs.declared.phase.Phase.{Phase}
use Rattle.np_model.specs.declared.phase.Phase.TheVariants.{One, Two}
use Rattle.np_model.specs.Network.Duality.{Shows, Impossible, Ray, gap}
use Rattle.np_model.specs.Network.Flows.{Network, Feasible, Least}
use Rattle.np_model.specs.Basis.Pieces.{beside}
use Rattle.np_model.specs.Basis.Starts.{artificial_ends, start_net}
use Rattle.np_model.specs.Basis.States.{State, values_of, IsState}
use Rattle.np_basis.specs.Laws.{HasSoundArcs, FullIsSound, StartIsArtificial}
use Rattle.np_basis.specs.PivotLaws.{HasRealArcs}
use Rattle.np_basis.proofs.Fulls.{length_full}
use Rattle.np_runs.specs.Runs.{HasArtificialFlow, stage_of, IsLiveIn, RunGivesState}
use Rattle.np_runs.specs.Certified.{real_amounts, NoneIsEligible, real_flows, artificial_flows, OptimalIsShown, InfeasibleIsShown, UnboundedIsShown}
use Rattle.np_runs.specs.Ended.{HasRun, AttemptFindsRay}
use Rattle.np_runs.specs.Verdicts.{SuppliesFit, StartGivesResiduals, RayIsEndless, OptimalCertifies, InfeasibleCertifies, UnboundedCertifies}

same_amounts : (net : Network) (d e : ℕ → Ratio) → ((a : ℕ) → a < length net.arcs → d a ≡ e a) → real_amounts net d ≡ real_amounts net e
same_amounts net d e h =
    fill_by_all e (map d (range_with_len 0 (length net.arcs))) (length net.arcs) zero_ratio (length-map-range_with_len d 0 (length net.arcs))
    (λ k l. get_or-map-range_with_len d 0 (length net.arcs) k k zero_ratio l (omega arith) ∙ h k l)

live_in_one : (net : Network) (turned : Option ℕ) (s : State) → turned ≡ None → IsLiveIn net turned s → HasArtificialFlow net s
live_in_one net None s e h = h
live_in_one net (Some k) s e h = absurd cc

module _ (started : StartGivesResiduals) (run_state : RunGivesState) where
  -- the last state of a run, in its stage
  last_in : (net : Network) (budget : ℕ) (log : Log) (last : State) (phase : Phase) → HasSoundArcs net → SuppliesFit net → HasRun net budget log last
      → stage_of log.turned ≡ phase → IsState (start_net phase net) last
  last_in net budget log last phase sound supplies h e =
      subst (λ p. IsState (start_net p net) last) e (run_state net log last sound (started net supplies h.start_fits) h.run)

  pub optimal_certifies : OptimalIsShown → OptimalCertifies
  optimal_certifies shown net budget flows potentials log sound supplies h =
      let two = ap stage_of h.turned in
      let r = shown net h.last sound (last_in net budget log h.last Two sound supplies h.has_run two)
      (subst (λ p. NoneIsEligible (start_net p net) (length net.arcs) h.last) two h.none) in (
        subst (Feasible net) (sym h.flows_are) r.0,
        subst (λ p. Shows net p flows) (sym h.potentials_are) (subst (Shows net h.last.potentials) (sym h.flows_are) r.1),
        subst (Least net) (sym h.flows_are) r.2,
      )

  pub infeasible_certifies : InfeasibleIsShown → InfeasibleCertifies
  infeasible_certifies shown net budget potentials log sound supplies h =
      let one = ap stage_of h.not_turned in
      let r = shown net h.last sound (last_in net budget log h.last One sound supplies h.has_run one) (live_in_one net log.turned h.last h.not_turned h.live)
      (subst (λ p. NoneIsEligible (start_net p net) (length net.arcs) h.last) one h.none) in
      subst (λ p. Impossible net p × (gap net p ≡ total (λ flow. flow) (artificial_flows net h.last))) (sym h.potentials_are) r

  pub unbounded_certifies : RayIsEndless → FullIsSound → StartIsArtificial → UnboundedIsShown → UnboundedCertifies
  unbounded_certifies rays full artificial shown net budget flows ray log sound supplies h =
      let two = ap stage_of h.turned in
      let st = last_in net budget log h.last Two sound supplies h.has_run two in
      let ground : HasRealArcs (start_net Two net) (length net.arcs) = record {
        sound = full Two net (artificial_ends net) sound (artificial net);
        few = omega (arith, length_full Two net.arcs (artificial_ends net));
      } in
      let r = rays (start_net Two net) (length net.arcs) h.last h.arc h.direction ground st
      (subst (λ p. AttemptFindsRay (start_net p net) (length net.arcs) (values_of h.last) h.arc h.direction) two h.finds_ray) in
      subst (λ f. Ray net f ray) (sym h.flows_are)
      (subst (Ray net (real_flows net h.last))
      (same_amounts net r.0 (beside zero_ratio h.direction.steps) (λ a l. r.2 a (let few = ground.few in omega (arith, l, few))) ∙ sym h.ray_is)
      (shown net h.last h.arc r.0 sound st r.1))
