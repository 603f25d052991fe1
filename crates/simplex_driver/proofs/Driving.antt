-- The run of the driver goes on.
use Rattle.std.specs.Prelude.{◌≡◌, ℕ, ◌<◌, ◌≤◌, ◌==◌, ◌-◌, List, [], ◌∷◌, ◌++◌, length, Bool, false, Option, Some, None}
use Rattle.std.proofs.Common.{refl, sym, ap, subst, ◌∙◌, arith}
use Rattle.std.proofs.lemmas.List.{length-append}
use Rattle.np_frac.specs.Ratio.{Ratio}
use Rattle.np_frac.specs.Fits.{Fits}
use Rattle.np_model.specs.declared.log.Entry.{Entry}
use Rattle.np_model.specs.declared.log.Log.{Log}
use Rattle.np_model.specs.declared.network.FullNet.{FullNet}
use Rattle.np_model.specs.declared.phase.Phase.TheVariants.{One, Two}
use Rattle.np_model.specs.declared.rows.Overflow.{Overflow}
use Rattle.np_model.specs.Network.Flows.{Network, at}
use Rattle.np_model.specs.Basis.Phases.{network_of, phase_net, real_arcs}
use Rattle.np_model.specs.Basis.Pivots.{IsPivot}
use Rattle.np_model.specs.Basis.Starts.{artificial_ends, start_state, start_net}
use Rattle.np_model.specs.Basis.Graphs.{ends_at, cost_at}
use Rattle.np_model.specs.Basis.Pieces.{basics_in}
use Rattle.np_model.specs.Basis.States.{State, values_of, IsPieceOf, IsState}
use Rattle.np_model.specs.Rows.Potentials.{ArePriced, PotentialsGive}
use Rattle.np_runs.specs.Ended.{StartFits, EndsOverflow, at_turn}
use Rattle.np_runs.specs.Runs.{HasNoArtificialFlow, PivotsLead, stage_of}
use Rattle.np_runs.specs.Verdicts.{SuppliesFit, StartGivesResiduals}
use Rattle.np_basis.proofs.Starting.{start_is_state}
use Rattle.np_runs.proofs.Following.{run_goes_on}
use Rattle.simplex_driver.specs.declared.forest.Forest.{Forest}
use Rattle.simplex_driver.specs.Store.{state_of, IsKept}
use Rattle.simplex_driver.specs.Turns.{CarriesFrom, PieceOverflows}
use Rattle.simplex_driver.specs.Runs.{IsGood, Goes, IsStopped}
use Rattle.simplex_driver.proofs.Ending.{net_is, log_of_parts}

-- no artificial arc carries anything, as the flows behind the real ones are 0
pub none_carries : (full : FullNet) (s : State) → CarriesFrom s.flows (real_arcs full) false → IsState (phase_net One full) s → IsGood full → HasNoArtificialFlow (network_of full.net) s
none_carries full s h st good a artificial =
    h a artificial.0 (omega (arith, artificial.1, st.feasible.one_each, ap (λ (n : Network). length n.arcs) (net_is full good One)))

pub stopped : (full : FullNet) (entries : List Entry) (turned : Option ℕ) (f : Forest) (overflow : Overflow) → IsGood full → turned ≡ None → Goes full turned entries f → CarriesFrom f.flows.items (real_arcs full) false
    → PieceOverflows (phase_net Two full) f.slots.items overflow → IsStopped full entries overflow
stopped full entries turned f overflow good e goes carries h =
    let g = subst (λ t. Goes full t entries f) e goes in
    record {
      last = state_of f;
      run = g.run;
      none = none_carries full (state_of f) carries g.is_state good;
      piece = h.piece.lists;
      is_piece = (g.kept.pieces h.slot h.piece h.there).0;
      past = h.past;
    }

-- one pivot more
pub goes_on : (full : FullNet) → IsGood full → (turned : Option ℕ) (entries : List Entry) (entry : Entry) (f g : Forest) → Goes full turned entries f
    → IsPivot (phase_net (stage_of turned) full) (real_arcs full) (state_of f) entry (state_of g) → IsKept (phase_net (stage_of turned) full) g → Goes full turned (entries ++ entry ∷ []) g
goes_on full good turned entries entry f g goes pivot kept = record {
  run = run_goes_on (network_of full.net) turned entries (entry ∷ []) (state_of f) (state_of g) goes.run
      (state_of g, subst (λ n. IsPivot n (real_arcs full) (state_of f) entry (state_of g)) (net_is full good (stage_of turned)) pivot, refl);
  is_state = pivot.is_state;
  kept = kept;
}

-- and several more
pub goes_far : (full : FullNet) → IsGood full → (turned : Option ℕ) (entries made : List Entry) (f g : Forest) → Goes full turned entries f
    → PivotsLead (stage_of turned) (network_of full.net) (state_of f) made (state_of g) → IsState (phase_net (stage_of turned) full) (state_of g)
    → IsKept (phase_net (stage_of turned) full) g → Goes full turned (entries ++ made) g
goes_far full good turned entries made f g goes leads st kept = record {
  run = run_goes_on (network_of full.net) turned entries made (state_of f) (state_of g) goes.run leads;
  is_state = st;
  kept = kept;
}

pub carries_here : (read flows : List Ratio) (count real : ℕ) → read ≡ flows → count ≡ real → (said : Bool) → said ≡ false → CarriesFrom read count said → CarriesFrom flows real false
carries_here read flows count real e f said is h = subst (λ n. CarriesFrom flows n false) f (subst (λ xs. CarriesFrom xs count false) e (subst (CarriesFrom read count) is h))

pub turn_stops : (full : FullNet) → IsGood full → (budget : ℕ) (entries : List Entry) (overflow : Overflow) (log : Log) → length entries ≤ budget → log.turned ≡ Some (length entries) → log.entries ≡ entries
    → IsStopped full entries overflow → EndsOverflow (network_of full.net) budget overflow log
turn_stops full good budget entries overflow log few turned is h =
    subst (EndsOverflow (network_of full.net) budget overflow) (sym (log_of_parts log (Some (length entries)) entries turned is))
    (at_turn (record {
      last = h.last;
      start_fits = good.start_fits;
      few = few;
      leads = h.run;
      no_artificial = h.none;
      turned = refl;
      place = h.past.0;
      piece = h.piece;
      is_piece = subst (λ n. IsPieceOf n (values_of h.last) h.piece) (net_is full good One) h.is_piece;
      potential = h.past.1.potential;
      priced = subst (λ n. ArePriced (ends_at n.arcs) (cost_at n.arcs) (basics_in h.piece) h.past.1.potential) (net_is full good Two) h.past.1.priced;
      gives = subst (λ n. PotentialsGive (ends_at n.arcs) (cost_at n.arcs) (basics_in h.piece) h.past.1.potential overflow.row overflow.past) (net_is full good Two) h.past.1.gives;
    }))

-- the next step of the loop: there is a pivot more, within the budget
pub unspent : (read budget : ℕ) (entries : List Entry) → read ≡ length entries → length entries ≤ budget → (read == budget) ≡ false → length entries < budget
unspent read budget entries n few spent = grind (arith, n, few, spent)

pub few_more : (entries now : List Entry) (entry : Entry) (budget : ℕ) → now ≡ entries ++ entry ∷ [] → length entries < budget → length now ≤ budget
few_more entries now entry budget e l = omega (arith, ap length e, length-append entries (entry ∷ []), l)

-- and so there is with the pivots of a round behind it
pub few_all : (pushed now made : List Entry) (count budget : ℕ) → now ≡ pushed ++ made → count ≡ length pushed → length pushed ≤ budget → length made ≤ budget - count → length now ≤ budget
few_all pushed now made count budget e n l k = omega (arith, ap length e, length-append pushed made, n, l, k)

pub smaller_by : (entries pushed now made : List Entry) (entry : Entry) (budget : ℕ) → pushed ≡ entries ++ entry ∷ [] → now ≡ pushed ++ made → length entries < budget
    → budget - length now < budget - length entries
smaller_by entries pushed now made entry budget e f l = omega (arith, ap length e, ap length f, length-append entries (entry ∷ []), length-append pushed made, l)

-- the start, where no residual overflows
pub opened : (full : FullNet) (f : Forest) → StartGivesResiduals → SuppliesFit (network_of full.net) → IsGood full → state_of f ≡ start_state (network_of full.net)
    → IsKept (start_net One (network_of full.net)) f → Goes full None [] f
opened full f started supplies good is kept =
    let net = network_of full.net in
    let st = start_is_state net full.net.valid.sound (started net supplies good.start_fits) in
    record {
      run = sym is;
      is_state = subst (λ n. IsState n (state_of f)) (sym (net_is full good One)) (subst (IsState (start_net One net)) (sym is) st);
      kept = subst (λ n. IsKept n f) (sym (net_is full good One)) kept;
    }

pub good_start : (full : FullNet) (net : Network) → network_of full.net ≡ net → full.artificial ≡ artificial_ends net → StartFits net → IsGood full
good_start full net same artificial fits = record {
  artificial = artificial ∙ ap artificial_ends (sym same);
  start_fits = subst StartFits (sym same) fits;
}

pub supplies_fit : (net full : Network) (read : List Ratio) → full ≡ net → read ≡ net.supply → ((i : ℕ) → i < length read → Fits (at read i)) → SuppliesFit full
supplies_fit net full read same is h = subst SuppliesFit (sym same) (subst (λ xs. (i : ℕ) → i < length xs → Fits (at xs i)) is h)
