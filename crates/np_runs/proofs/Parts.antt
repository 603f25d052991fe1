-- The parts of an outcome fit a text.
use Rattle.std.specs.Prelude.{◌≡◌, ◌≢◌, ◌⊎◌, ℕ, zero, suc, ◌<◌, ◌≤◌, List, [], ◌∷◌, length, take, drop, Option, Some, None, IfSome, Result, Ok, Err}
use Rattle.std.specs.List.{All}
use Rattle.std.proofs.Common.{refl, sym, ap, subst, ◌∙◌, inl, inr, arith, get_or}
use Rattle.std.proofs.lemmas.List.{take-append-drop}
use Rattle.std.proofs.lemmas.List.FromFn.{length-map-range_with_len}
use Rattle.gain_graphs.specs.Arcs.{IsIn}
use Rattle.gain_graphs.proofs.Lists.{in_append}
use Rattle.np_frac.specs.Ratio.{Ratio}
use Rattle.np_frac.specs.declared.frac.Past.{Past}
use Rattle.np_model.specs.declared.arc.Ends.{Ends}
use Rattle.np_model.specs.declared.log.Entry.{Entry}
use Rattle.np_model.specs.declared.log.Log.{Log}
use Rattle.np_model.specs.declared.log.Mark.TheVariants.{Basic}
use Rattle.np_model.specs.declared.outcome.Outcome.TheVariants as outcome
use Rattle.np_model.specs.declared.phase.Phase.{Phase}
use Rattle.np_model.specs.declared.phase.Phase.TheVariants.{One, Two}
use Rattle.np_model.specs.declared.rows.Overflow.{Overflow}
use Rattle.np_model.specs.declared.rows.Place.{Place}
use Rattle.np_model.specs.declared.rows.Place.TheVariants.{Node, Arc, Turn}
use Rattle.np_model.specs.declared.rows.Row.{Row}
use Rattle.np_model.specs.declared.rows.Row.TheVariants.{A1, A2, A3, A4, A5, A6, A7}
use Rattle.np_model.specs.Network.Flows.{Network}
use Rattle.np_model.specs.Network.Nets.{IsNet}
use Rattle.np_model.specs.Basis.Attempts as attempt
use Rattle.np_model.specs.Basis.Pieces.{PieceLists}
use Rattle.np_model.specs.Basis.Sound.{values_in}
use Rattle.np_model.specs.Basis.Starts.{artificial_end, artificial_ends, start_state, start_net}
use Rattle.np_model.specs.Basis.States.{State, values_of}
use Rattle.np_model.specs.Rows.Directions as directions
use Rattle.np_model.specs.Rows.Extra.{Extra}
use Rattle.np_model.specs.Rows.Potentials as potentials
use Rattle.np_model.specs.Rows.Prices.{told_at, price_of}
use Rattle.np_model.specs.Scheme.Fits.{IsShortNumber, LogFits, PlaceFits}
use Rattle.np_basis.proofs.Fulls.{length_full}
use Rattle.np_basis.proofs.Held.{arc_below}
use Rattle.np_basis.proofs.Pivoting.{not_towards}
use Rattle.np_runs.specs.Runs.{PivotsLead, RunLeads, stage_net}
use Rattle.np_runs.specs.Ended.{HasRun, EndsOverflow, at_start, at_price, at_attempts, at_turn}
use Rattle.np_runs.specs.Verdicts.{OptimalCertifies, InfeasibleCertifies, UnboundedCertifies, EndedFits}

-- ---- lists

place_in : {A : Type 0} (xs : List A) (k : ℕ) (d : A) → k < length xs → IsIn (get_or xs k d) xs
place_in [] k d l = absurd (omega arith)
place_in (x ∷ xs) zero d l = inl refl
place_in (x ∷ xs) (suc k) d l = inr (place_in xs k d (omega arith))

each_in : {A : Type 0} (P : A → Type 0) (xs : List A) → ((x : A) → IsIn x xs → P x) → All P xs
each_in P xs h k d l = h (get_or xs k d) (place_in xs k d l)

-- ---- logs

-- the numbers of an entry are short, and it names a bound
record IsWritten (entry : Entry) : Type 0 where
  enter : IsShortNumber entry.enter
  leave : IsShortNumber entry.leave
  at_bound : entry.leave_at ≢ Basic

module _ (net : Network) (is_net : IsNet net.supply net.arcs) where
  few_arcs : (phase : Phase) → length (start_net phase net).arcs ≤ 120000
  few_arcs phase = omega (arith, length_full phase net.arcs (artificial_ends net), length-map-range_with_len (artificial_end net) 0 (length net.supply), is_net.few_nodes, is_net.few_arcs)

  led : (phase : Phase) (s : State) (entries : List Entry) (last : State) → PivotsLead phase net s entries last → (entry : Entry) → IsIn entry entries → IsWritten entry
  led phase s [] last l entry i = absurd i
  led phase s (x ∷ entries) last l entry (inl e) = subst IsWritten (sym e) (record {
    enter = let h = l.1.eligible.is_open.0 in omega (arith, h, is_net.few_arcs);
    leave = let h = arc_below (start_net phase net) x.leave l.1.move.leaves in omega (arith, h, few_arcs phase);
    at_bound = not_towards (l.1.direction x.leave) x.leave_at l.1.move.stops.towards;
  })
  led phase s (x ∷ entries) last l entry (inr i) = led phase l.0 entries last l.2 entry i

  written : (turned : Option ℕ) (entries : List Entry) (last : State) → RunLeads net turned entries last → (entry : Entry) → IsIn entry entries → IsWritten entry
  written None entries last h entry i = led One (start_state net) entries last h entry i
  written (Some k) entries last h entry i = elim (in_append entry (take k entries) (drop k entries) (subst (IsIn entry) (sym (take-append-drop k entries)) i)) [
    | inl j ↦ led One (start_state net) (take k entries) h.before h.first entry j
    | inr j ↦ led Two h.after (drop k entries) last h.second entry j
  ]

  turn_short : (turned : Option ℕ) (entries : List Entry) (last : State) → length entries ≤ 1000000 → RunLeads net turned entries last → IfSome turned IsShortNumber
  turn_short None entries last few h = record {}
  turn_short (Some k) entries last few h = let l = h.few in omega (arith, l, few)

  fits_text : (log : Log) → length log.entries ≤ 1000000 → IfSome log.turned IsShortNumber → ((entry : Entry) → IsIn entry log.entries → IsWritten entry) → LogFits log
  fits_text log few turned h = record {
    turned = turned;
    few = few;
    numbers = each_in (λ entry. IsShortNumber entry.enter × IsShortNumber entry.leave) log.entries (λ entry i. let w : IsWritten entry = h entry i in (w.enter, w.leave));
    at_bounds = each_in (λ entry. entry.leave_at ≢ Basic) log.entries (λ entry i. let w : IsWritten entry = h entry i in w.at_bound);
  }

  run_fits : (budget : ℕ) (log : Log) (last : State) → budget ≤ 1000000 → HasRun net budget log last → LogFits log
  run_fits budget log last small h =
      let few : length log.entries ≤ 1000000 = omega (arith, h.few) in
      fits_text log few (turn_short log.turned log.entries last few h.run) (written log.turned log.entries last h.run)

  -- ---- places

  place_is : (o : Overflow) (row : Row) (place : Place) → o.row ≡ row → o.place ≡ place → PlaceFits row place → PlaceFits o.row o.place
  place_is o row place e f h = subst (λ p. PlaceFits o.row p) (sym f) (subst (λ r. PlaceFits r place) (sym e) h)

  short : (a : ℕ) → a < length net.arcs → IsShortNumber a
  short a l = omega (arith, is_net.few_arcs)

  told : (a : ℕ) (r : Result Ratio Past) (o : Overflow) → told_at a r ≡ Err o → (o.row ≡ A2) × (o.place ≡ Arc a)
  told a (Ok x) o e = absurd (let h : ⊥ = cc in h)
  told a (Err past) o e = let same : o ≡ record { row = A2; place = Arc a; past = past } = cc in (ap (λ (x : Overflow). x.row) same, ap (λ (x : Overflow). x.place) same)

  price_place : (full : Network) (potential : ℕ → Ratio) (a : ℕ) (o : Overflow) → a < length net.arcs → price_of full potential a ≡ Err o → PlaceFits o.row o.place
  price_place full potential a o l e = let r = told a _ o e in place_is o A2 (Arc a) r.0 r.1 (short a l)

  direction_row : (ends : ℕ → Ends) (d : ℕ → Ratio) (arcs : List ℕ) (x : Extra) (enter : ℕ) (row : Row) (past : Past) → directions.Gives ends d arcs x enter row past → (row ≡ A3) ⊎ (row ≡ A4)
  direction_row ends d arcs x enter row past (directions.a_term v a p node added settled err) = inr refl
  direction_row ends d arcs x enter row past (directions.a_sum v before after p node added settled err) = inr refl
  direction_row ends d arcs x enter row past (directions.a_link a u v sum p hangs has err) = inr refl
  direction_row ends d arcs x enter row past (directions.a_product k first way sum p t err) = inl refl
  direction_row ends d arcs x enter row past (directions.a_closing k first way sum p t err) = inr refl
  direction_row ends d arcs x enter row past (directions.a_first k first way sum whole last p t c q err) = inr refl
  direction_row ends d arcs x enter row past (directions.a_mix k first way before after sum amount p t fa split err) = inr refl

  potential_row : (ends : ℕ → Ends) (cost : ℕ → Ratio) (arcs : List ℕ) (x : Extra) (p : ℕ → Ratio) (row : Row) (past : Past) → potentials.Gives ends cost arcs x p row past → (row ≡ A3) ⊎ (row ≡ A7)
  potential_row ends cost arcs x p row past (potentials.product k way other e d) = inl refl
  potential_row ends cost arcs x p row past (potentials.sum k way other e d) = inr refl
  potential_row ends cost arcs x p row past (potentials.quotient k way other total last e c d o) = inr refl
  potential_row ends cost arcs x p row past (potentials.link a u v other leads reached err) = inr refl

  two_rows : (o : Overflow) (row other : Row) (place : Place) → (o.row ≡ row) ⊎ (o.row ≡ other) → o.place ≡ place → PlaceFits row place → PlaceFits other place → PlaceFits o.row o.place
  two_rows o row other place (inl e) f h k = place_is o row place e f h
  two_rows o row other place (inr e) f h k = place_is o other place e f k

  attempt_place : (full : Network) (pieces : List PieceLists) (a : ℕ) (o : Overflow) → a < length net.arcs → attempt.FirstOverflow full (length net.arcs) pieces a o → PlaceFits o.row o.place
  attempt_place full pieces a o l (attempt.of_price e) = price_place full (values_in full pieces).potential a o l e
  attempt_place full pieces a o l (attempt.of_direction price eligible h) =
      two_rows o A3 A4 (Arc a) (direction_row _ _ _ h.gives.0 a o.row o.past h.gives.2) h.place (short a l) (short a l)
  attempt_place full pieces a o l (attempt.of_ratio d aimed h) = place_is o A5 (Arc a) h.row (h.place ∙ ap Arc aimed.has_direction.enters) (short a l)
  attempt_place full pieces a o l (attempt.of_move d entry t followed (inl h)) = place_is o A6 (Arc a) h.row (h.place ∙ ap Arc followed.enters) (short a l)
  attempt_place full pieces a o l (attempt.of_move d entry t followed (inr h)) =
      two_rows o A3 A7 (Arc a) (potential_row _ _ _ h.1.gives.0 _ o.row o.past h.1.gives.2) (h.1.place ∙ ap Arc followed.enters) (short a l) (short a l)

  overflow_fits : (budget : ℕ) (o : Overflow) (log : Log) → EndsOverflow net budget o log → PlaceFits o.row o.place × (budget ≤ 1000000 → LogFits log)
  overflow_fits budget o log (at_start h) = (
    place_is o A1 (Node h.node) h.row h.place (let l = h.is_node in omega (arith, l, is_net.few_nodes)),
    λ small. fits_text log (subst (λ es. length es ≤ 1000000) (sym h.no_entries) (omega arith)) (subst (λ t. IfSome t IsShortNumber) (sym h.not_turned) (record {}))
        (λ entry i. absurd (let none : IsIn entry [] = subst (IsIn entry) h.no_entries i in none)),
  )
  overflow_fits budget o log (at_price h) = (price_place (stage_net net log) (values_of h.last).potential h.arc o h.is_open.0.0 h.past, λ small. run_fits budget log h.last small h.has_run)
  overflow_fits budget o log (at_attempts h) = (attempt_place _ h.past.pieces h.arc o h.may_enter.is_open.0 h.past.first, λ small. run_fits budget log h.last small h.has_run)
  overflow_fits budget o log (at_turn h) = (
    two_rows o A3 A7 Turn (potential_row _ _ _ h.gives.0 _ o.row o.past h.gives.2) h.place (record {}) (record {}),
    λ small.
        let few : length log.entries ≤ 1000000 = omega (arith, h.few, small) in
        fits_text log few (subst (λ t. IfSome t IsShortNumber) (sym h.turned) (omega (arith, few))) (led One (start_state net) log.entries h.last h.leads),
  )

pub ended_fits : OptimalCertifies → InfeasibleCertifies → UnboundedCertifies → EndedFits
ended_fits optimal infeasible unbounded net budget (outcome.Optimal flows p log) is_net supplies h =
    let r = optimal net budget flows p log is_net.sound supplies h in
    ((r.0.one_each, r.1.one_each), λ small. run_fits net is_net budget log h.last small h.has_run)
ended_fits optimal infeasible unbounded net budget (outcome.Infeasible p log) is_net supplies h =
    let r = infeasible net budget p log is_net.sound supplies h in
    (r.0.one_each, λ small. run_fits net is_net budget log h.last small h.has_run)
ended_fits optimal infeasible unbounded net budget (outcome.Unbounded flows ray log) is_net supplies h =
    let r = unbounded net budget flows ray log is_net.sound supplies h in
    ((r.feasible.one_each, r.one_each), λ small. run_fits net is_net budget log h.last small h.has_run)
ended_fits optimal infeasible unbounded net budget (outcome.Budget arc log) is_net supplies h =
    (short net is_net arc h.may_enter.is_open.0, λ small. run_fits net is_net budget log h.last small h.has_run)
ended_fits optimal infeasible unbounded net budget (outcome.Overflow o log) is_net supplies h = overflow_fits net is_net budget o log h
