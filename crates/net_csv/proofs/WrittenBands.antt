-- The records of a flow and of its bands are taken, and add the whole flow.
use Rattle.std.specs.Prelude.{◌≡◌, ℕ, suc, ◌+◌, ◌*◌, ◌-◌, ◌≤◌, ◌&&◌, nat_le, true, Some, None, List, [], ◌∷◌, ◌++◌, length, map, slice_get}
use Rattle.std.specs.List.{IsDistinct, AllByRecursion, list_all, flat_map}
use Rattle.std.specs.Option.{option_map_or}
use Rattle.std.specs.Str.{bytes_eq}
use Rattle.std.proofs.Common.{refl, ap, ◌∙◌, arith, append_assoc, subst}
use Rattle.std.proofs.lemmas.Bool.Decides.{nat_tests}
use Rattle.std.proofs.lemmas.List.{append-nil, length_push, length-map, set_at, map_push, map-append}
use Rattle.std.proofs.lemmas.List.Sums.{sum_by_push, sum_by-append, sum_by-cons}
use Rattle.np_frac.specs.Ratio.{zero_ratio, ◌≤ᵣ◌}
use Rattle.np_frac.specs.Amount.{is_amount}
use Rattle.np_records.specs.Names.{place_of}
use Rattle.np_model.specs.declared.arc.Upper.{Upper}
use Rattle.np_model.specs.declared.arc.Upper.TheVariants.{Finite, Infinite}
use Rattle.np_model.specs.declared.scheme.Band.{Band}
use Rattle.np_model.specs.declared.scheme.Flow.{Flow}
use Rattle.np_model.specs.Network.Arcs.{IsUnder, is_finite}
use Rattle.np_model.specs.Scheme.Segments.{IsConvexFrom, AreReached}
use Rattle.np_model.specs.Scheme.Valid.{IsSound, is_amount_or_infinite, expanded_arcs}
use Rattle.np_model.specs.Scheme.Names.{is_name}
use Rattle.np_model.specs.Scheme.Names.{flow_names}
use Rattle.np_model.specs.Scheme.Kinds.{periods_of}
use Rattle.net_csv.specs.Faults.{arcs_fault, band_fault, piece_fault, has_finite_end, present_slope, last_band}
use Rattle.net_csv.specs.declared.given.Given.{Given}
use Rattle.net_csv.specs.Steps.Tables.{Tables, with_record, flow_added, banded}
use Rattle.net_csv.specs.Writing.{piece_row, flow_rows}
use Rattle.net_csv.proofs.AmountTexts.{amount_text-value}
use Rattle.np_records.proofs.Places.{place-new, place-last}
use Rattle.net_csv.proofs.WrittenFields.{amount-fine, upper-fine, upper-value, new-fine, used-fine, wide, not_below}
use Rattle.net_csv.proofs.WrittenFlows.{and-true, bare, flow-step, amounts-each}
use Rattle.net_csv.proofs.LastSlopes.{last_slope-push}
use Rattle.net_csv.proofs.Runs.{IsStep, Runs, runs-step, runs-append}

abbrev pub with_flows : Tables → List Flow → ℕ → Tables
with_flows t flows arcs = record t { flows = flows; arcs = arcs }

last-at : {X : Type 0} (xs : List X) (x : X) → slice_get (xs ++ x ∷ []) (length xs) ≡ Some x
last-at [] x = refl
last-at (y ∷ ys) x = last-at ys x

last-pushed : (flow : Flow) (band : Band) → last_band (banded flow band) ≡ Some band
last-pushed flow band =
    let size = length_push flow.bands band in
    let place : length (flow.bands ++ band ∷ []) - 1 ≡ length flow.bands = omega arith in
    rw place (last-at flow.bands band)

pub room : (arcs : ℕ) → arcs ≤ 100000 → arcs_fault arcs ≡ None
room arcs h = let few : nat_le arcs 100000 ≡ true = grind (arith, nat_tests) in rw few refl

-- ---- a band

-- what is asked of a band behind a flow
record IsBandOf (flow : Flow) (band : Band) : Type 0 where
  width : is_amount_or_infinite band.width ≡ true
  slope : is_amount band.slope ≡ true
  reached : has_finite_end flow ≡ true
  wide : IsUnder zero_ratio band.width
  convex : present_slope flow ≤ᵣ band.slope

band-fine : (periods arcs : ℕ) (flow : Flow) (band : Band) → IsBandOf flow band → arcs + periods_of periods flow.kind ≤ 100000 → band_fault periods arcs band flow ≡ None
band-fine periods arcs flow band h few = rw (h.reached, wide band.width h.wide, not_below (present_slope flow) band.slope h.convex, room (arcs + periods_of periods flow.kind) few) refl

piece-fine : (periods arcs : ℕ) (names : List (List ℕ)) (before : List Flow) (flow : Flow) (band : Band) → place_of names flow.name ≡ Some (length before) → IsBandOf flow band
    → arcs + periods_of periods flow.kind ≤ 100000 → piece_fault periods names arcs (before ++ flow ∷ []) (piece_row flow.name band) ≡ None
piece-fine periods arcs names before flow band place h few =
    rw (used-fine names flow.name (length before) place, upper-fine band.width h.width, amount-fine band.slope h.slope, place, last-at before flow, upper-value band.width h.width, amount_text-value band.slope h.slope, band-fine periods arcs flow band h few) refl

band-step : (t : Tables) (arcs : ℕ) (before : List Flow) (flow : Flow) (band : Band) → place_of t.names flow.name ≡ Some (length before) → IsBandOf flow band
    → arcs + periods_of t.periods flow.kind ≤ 100000
    → IsStep (with_flows t (before ++ flow ∷ []) arcs) (piece_row flow.name band)
    × (with_record (with_flows t (before ++ flow ∷ []) arcs) (piece_row flow.name band) ≡ with_flows t (before ++ banded flow band ∷ []) (arcs + periods_of t.periods flow.kind))
band-step t arcs before flow band place h few = (
  record { goes = refl; right = piece-fine t.periods arcs t.names before flow band place h few },
  rw (place, last-at before flow, upper-value band.width h.width, amount_text-value band.slope h.slope, set_at before flow [] (banded flow band) (length before) refl) refl,
)

-- ---- the bands of a flow

reached-first : (e : Upper) (band : Band) (bands : List Band) → AreReached e (band ∷ bands) → (is_finite e ≡ true) × AreReached band.width bands
reached-first (Finite u) band bands h = (refl, h)
reached-first Infinite band bands h = absurd h

more : (arcs k n : ℕ) → arcs + k + n * k ≡ arcs + suc n * k
more arcs k n = omega arith

runs-bands : (t : Tables) (bands : List Band) (arcs : ℕ) (before : List Flow) (flow : Flow) → place_of t.names flow.name ≡ Some (length before)
    → AreReached (option_map_or (λ band. band.width) (last_band flow) flow.upper) bands → IsConvexFrom (present_slope flow) bands
    → list_all (λ band. is_amount_or_infinite band.width && is_amount band.slope) bands ≡ true
    → arcs + length bands * periods_of t.periods flow.kind ≤ 100000
    → Runs (with_flows t (before ++ flow ∷ []) arcs) (map (piece_row flow.name) bands)
    (with_flows t (before ++ record flow { bands = flow.bands ++ bands } ∷ []) (arcs + length bands * periods_of t.periods flow.kind))
runs-bands t [] arcs before flow place reached convex amounts few =
    let z : arcs + 0 * periods_of t.periods flow.kind ≡ arcs = omega arith in
    rw (append-nil flow.bands, z) refl
runs-bands t (b ∷ bs) arcs before flow place reached convex amounts few =
    let k = periods_of t.periods flow.kind in
    let end = reached-first _ b bs reached in
    let each = and-true _ _ amounts in
    let numbers = and-true _ _ each.0 in
    let count : arcs + k + length bs * k ≡ arcs + suc (length bs) * k = more arcs k (length bs) in
    let here : IsBandOf flow b = record { width = numbers.0; slope = numbers.1; reached = end.0; wide = convex.1; convex = convex.0 } in
    let step = band-step t arcs before flow b place here (omega arith) in
    let last = last-pushed flow b in
    let rest = runs-bands t bs (arcs + k) before (banded flow b) place (rw last end.1) (rw (last_slope-push flow.cost flow.bands b) convex.2) each.1 (omega arith) in
    runs-step _ _ _ _ _ step.0 step.1 (rw (append_assoc flow.bands (b ∷ []) bs, count) at rest)

-- ---- all flows

-- the tables of these flows
abbrev pub flow_tables : ℕ → List (List ℕ) → List Given → List Flow → Tables
flow_tables periods nodes supplies flows =
    record { periods = periods; nodes = nodes; names = flow_names flows; supplies = supplies; flows = flows; arcs = expanded_arcs periods flows }

-- the arcs of one flow
abbrev arcs_of : ℕ → Flow → ℕ
arcs_of periods flow = (1 + length flow.bands) * periods_of periods flow.kind

few-first : (periods : ℕ) (done left : List Flow) (flow : Flow) → expanded_arcs periods (done ++ flow ∷ left) ≤ 100000 → expanded_arcs periods done + arcs_of periods flow ≤ 100000
few-first periods done left flow few =
    let split = sum_by-append (arcs_of periods) done (flow ∷ left) in
    let first = sum_by-cons (arcs_of periods) flow left in
    omega arith

-- the name of a flow among those before it
name-new : (done left : List Flow) (flow : Flow) → IsDistinct bytes_eq (flow_names (done ++ flow ∷ left)) → place_of (flow_names done) flow.name ≡ None
name-new done left flow d = place-new (flow_names done) (flow_names left) flow.name (rw (map-append (λ (f : Flow). f.name) done (flow ∷ left)) at d)

name-last : (done left : List Flow) (flow : Flow) → IsDistinct bytes_eq (flow_names (done ++ flow ∷ left)) → place_of (flow_names done ++ flow.name ∷ []) flow.name ≡ Some (length done)
name-last done left flow d =
    place-last (flow_names done) (flow_names left) flow.name (rw (map-append (λ (f : Flow). f.name) done (flow ∷ left)) at d)
    ∙ ap (λ (k : ℕ). Some k) (length-map done (λ (f : Flow). f.name))

runs-flow : (periods : ℕ) (nodes : List (List ℕ)) (supplies : List Given) (done left : List Flow) (flow : Flow) → IsDistinct bytes_eq nodes → IsSound (length nodes) flow
    → is_name flow.name ≡ true → IsDistinct bytes_eq (flow_names (done ++ flow ∷ left)) → expanded_arcs periods (done ++ flow ∷ left) ≤ 100000
    → Runs (flow_tables periods nodes supplies done) (flow_rows nodes flow) (flow_tables periods nodes supplies (done ++ flow ∷ []))
runs-flow periods nodes supplies done left flow d sound name distinct few =
    let t = flow_tables periods nodes supplies done in
    let k = periods_of periods flow.kind in
    let total = few-first periods done left flow few in
    let each : arcs_of periods flow ≡ k + length flow.bands * k = omega arith in
    let head = flow-step t flow d sound (new-fine _ flow.name name (name-new done left flow distinct)) (room (t.arcs + k) (omega arith)) in
    let named = name-last done left flow distinct in
    let bands = runs-bands (record t { names = flow_names done ++ flow.name ∷ [] }) flow.bands (t.arcs + k) done (bare flow) named sound.reached sound.convex (amounts-each flow sound.amounts).bands (omega arith) in
    let arcs : t.arcs + k + length flow.bands * k ≡ expanded_arcs periods (done ++ flow ∷ []) = omega (arith, sum_by_push (arcs_of periods) done flow) in
    let names = map_push (λ (f : Flow). f.name) done flow in
    let end : with_flows (record t { names = flow_names done ++ flow.name ∷ [] }) (done ++ flow ∷ []) (t.arcs + k + length flow.bands * k) ≡ flow_tables periods nodes supplies (done ++ flow ∷ []) =
    rw (arcs, names) refl in
    runs-step _ _ _ _ _ head.0 head.1 (subst (λ (u : Tables). Runs (flow_added t (bare flow)) (map (piece_row flow.name) flow.bands) u) end bands)

pub runs-flows : (periods : ℕ) (nodes : List (List ℕ)) (supplies : List Given) (left done : List Flow) → IsDistinct bytes_eq nodes → AllByRecursion (IsSound (length nodes)) left
    → AllByRecursion (λ flow. is_name flow.name ≡ true) left → IsDistinct bytes_eq (flow_names (done ++ left)) → expanded_arcs periods (done ++ left) ≤ 100000
    → Runs (flow_tables periods nodes supplies done) (flat_map (flow_rows nodes) left) (flow_tables periods nodes supplies (done ++ left))
runs-flows periods nodes supplies [] done d sound names distinct few = rw (append-nil done) refl
runs-flows periods nodes supplies (f ∷ fs) done d sound names distinct few =
    let next : done ++ f ∷ [] ++ fs ≡ done ++ f ∷ fs = append_assoc done (f ∷ []) fs in
    let rest = runs-flows periods nodes supplies fs (done ++ f ∷ []) d sound.1 names.1 (rw next distinct) (rw next few) in
    runs-append (flow_rows nodes f) (flat_map (flow_rows nodes) fs) _ _ _ (runs-flow periods nodes supplies done fs f d sound.0 names.0 distinct few) (rw next at rest)
