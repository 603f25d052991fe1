-- What the arc that stops first says of all flows.
use Rattle.std.specs.Prelude.{◌≡◌, ◌≢◌, ◌⊎◌, ℕ, ◌≤◌, ◌==◌, if◌then◌else◌, Bool, true, false, List, ◌∷◌, Option, Some, None, Result, Ok, Err}
use Rattle.std.specs.Result.{IsOk}
use Rattle.std.proofs.Common.{refl, sym, ap, ◌∙◌, subst, inl, inr}
use Rattle.std.proofs.lemmas.Bool.Decides.{eqb_tells}
use Rattle.gain_graphs.specs.Arcs.{IsIn}
use Rattle.np_frac.specs.Ratio.{Ratio, zero_ratio, negated, whole, ◌+ᵣ◌, ◌*ᵣ◌}
use Rattle.np_frac.specs.declared.frac.Past.{Past}
use Rattle.np_frac.proofs.RatioLaws.{+ᵣ-zero, *ᵣ-zero}
use Rattle.np_model.specs.declared.log.Mark.{Mark}
use Rattle.np_model.specs.declared.network.FullNet.{FullNet}
use Rattle.np_model.specs.declared.phase.Phase.{Phase}
use Rattle.np_model.specs.declared.piece.Direction.{Direction}
use Rattle.np_model.specs.Network.Arcs.{IsWithin}
use Rattle.np_model.specs.Network.Flows.{Network}
use Rattle.np_model.specs.Basis.Graphs.{arc_at}
use Rattle.np_model.specs.Basis.Moves.{Stops, IsTowards}
use Rattle.np_model.specs.Basis.Phases.{phase_net}
use Rattle.np_model.specs.Basis.Pieces.{PieceLists, basics_of, beside}
use Rattle.np_model.specs.Basis.Sound.{values_in}
use Rattle.np_model.specs.Basis.States.{Values, StandsAt}
use Rattle.np_model.specs.Rows.Arcs.{limit_of}
use Rattle.ratio_test.specs.Answers.{IsGreatest, IsRatio}
use Rattle.np_model.specs.Basis.Attempts.{IsUnbounded}
use Rattle.ratio_test.specs.Asked.{AreWithin, IsOutside, IsAlong, far_bound}
use Rattle.np_basis.specs.PivotLaws.{unit_of}
use Rattle.ratio_test.specs.Limits.{bound_ahead, IsLimited, IsLimit}
use Rattle.np_model.specs.Rows.Moving.{numbers_of_steps}
use Rattle.ratio_test.specs.Steps.Soonest.{IsSoonest, IsSoonestOf, answer_of}
use Rattle.ratio_test.specs.declared.stop.Stop.{Stop}
use Rattle.ratio_test.specs.declared.answer.RatioAnswer.TheVariants.{Flip, Leave}
use Rattle.ratio_test.proofs.Bounds.{limit_found}
use Rattle.ratio_test.proofs.Members.{stands_or, beside_entry, beside_absent}
use Rattle.ratio_test.proofs.Held.{basic_within, enter_within}

-- the arcs of which flows are asked, those that move, and what row A5 finds for these
module _ (net : Network) (s : Values) (all moves : List ℕ) (enter : ℕ) (d : ℕ → Ratio)
    (within : (a : ℕ) → IsIn a all → IsWithin (arc_at net.arcs a) (s.flow a))
    (among : (a : ℕ) → IsIn a moves → IsIn a all)
    (move : (a : ℕ) → IsIn a moves → d a ≢ zero_ratio)
    (or_rests : (a : ℕ) → IsIn a moves ⊎ (d a ≡ zero_ratio)) where
  abbrev limit : ℕ → Result (Option Ratio) Past
  limit a = limit_of (arc_at net.arcs a) (s.flow a) (d a)

  found : (a : ℕ) (m : Option Ratio) → IsIn a moves → limit a ≡ Ok m → IsLimit (arc_at net.arcs a) (s.flow a) (d a) m
  found a m i e = limit_found (arc_at net.arcs a) (s.flow a) (d a) (within a (among a i)) m (move a i) e

  rests_within : (a : ℕ) (z : Ratio) → IsIn a all → d a ≡ zero_ratio → IsWithin (arc_at net.arcs a) (s.flow a +ᵣ z *ᵣ d a)
  rests_within a z i e =
      let same : s.flow a ≡ s.flow a +ᵣ z *ᵣ d a = sym (rw (e, *ᵣ-zero z) (+ᵣ-zero (s.flow a))) in
      subst (λ (r : Ratio). IsWithin (arc_at net.arcs a) r) same (within a i)

  -- nothing has a limit
  unbounded : IsSoonestOf limit d enter moves None → IsUnbounded net s all d
  unbounded h = record {
    within = λ z above a i. elim (or_rests a) [
      | inl k ↦ (found a None k (h a k)).keeps z above
      | inr k ↦ rests_within a z i k
    ];
    none_stops = λ z a bound i stops. elim (or_rests a) [
      | inl k ↦ (found a None k (h a k)).none_rests z bound stops.towards stops.rests
      | inr k ↦ stops.moves k
    ];
  }

  module _ (each : (a : ℕ) → IsIn a moves → IsOk (limit a)) (stop : Stop) (h : IsSoonest limit d enter moves stop) where
    own : IsLimited (arc_at net.arcs stop.arc) (s.flow stop.arc) (d stop.arc) stop.step
    own = found stop.arc (Some stop.step) h.stands h.limited

    within_at : (a : ℕ) (r : Result (Option Ratio) Past) → IsIn a moves → limit a ≡ r → IsOk r → IsWithin (arc_at net.arcs a) (s.flow a +ᵣ stop.step *ᵣ d a)
    within_at a (Ok None) i e k = (found a None i e).keeps stop.step own.not_negative
    within_at a (Ok (Some t)) i e k = (found a (Some t) i e).up_to stop.step own.not_negative (h.none_sooner a t i e)
    within_at a (Err past) i e k = absurd (cc k)

    first_at : (a : ℕ) (bound : Mark) (r : Result (Option Ratio) Past) → IsIn a moves → limit a ≡ r → IsOk r → Stops net s d stop.step a bound
        → (stop.arc ≡ enter) ⊎ ((a ≢ enter) × (stop.arc ≤ a))
    first_at a bound (Ok None) i e k stops = absurd ((found a None i e).none_rests stop.step bound stops.towards stops.rests)
    first_at a bound (Ok (Some t)) i e k stops =
        let same : stop.step ≡ t = (found a (Some t) i e).only stop.step bound stops.towards stops.rests in
        h.first a i (e ∙ ap (λ (r : Ratio). Ok (Some r)) (sym same))
    first_at a bound (Err past) i e k stops = absurd (cc k)

    greatest : IsGreatest net s all enter d stop.step stop.arc stop.bound
    greatest = record {
      within = λ a i. elim (or_rests a) [ inl k ↦ within_at a (limit a) k refl (each a k) | inr k ↦ rests_within a stop.step i k ];
      greatest = λ z keeps. own.no_further z (keeps stop.arc (among stop.arc h.stands));
      leaves = among stop.arc h.stands;
      stops = record {
        moves = move stop.arc h.stands;
        towards = subst (λ (b : Mark). IsTowards (d stop.arc) b) (sym h.bound) own.towards;
        rests = subst (λ (b : Mark). StandsAt (arc_at net.arcs stop.arc) b (s.flow stop.arc +ᵣ stop.step *ᵣ d stop.arc)) (sym h.bound) own.rests;
      };
      first = λ a bound i stops. elim (or_rests a) [ inl k ↦ first_at a bound (limit a) k refl (each a k) stops | inr k ↦ absurd (stops.moves k) ];
    }

-- ---- over pieces

ahead_unit : (up : Bool) → bound_ahead (unit_of up) ≡ far_bound up
unfolding whole negated
ahead_unit true = refl
ahead_unit false = refl

stopped : (net : Network) (pieces : List PieceLists) (direction : Direction) (stop : Stop)
    → let s = values_in net pieces in let d = beside zero_ratio direction.steps in
    d direction.enter ≡ unit_of direction.up → stop.bound ≡ bound_ahead (d stop.arc)
    → IsGreatest net s (direction.enter ∷ basics_of pieces) direction.enter d stop.step stop.arc stop.bound
    → IsRatio net pieces direction (answer_of direction.enter (Some stop))
stopped net pieces direction stop unit bound h = by (stop.arc == direction.enter) (eqb_tells stop.arc direction.enter)
  where
    goes : stop.arc ≡ direction.enter → stop.bound ≡ far_bound direction.up
    goes e = bound ∙ ap (λ (n : ℕ). bound_ahead (beside zero_ratio direction.steps n)) e ∙ ap bound_ahead unit ∙ ahead_unit direction.up

    by : (b : Bool) → ((b ≡ true) × (stop.arc ≡ direction.enter)) ⊎ ((b ≡ false) × (stop.arc ≢ direction.enter))
        → IsRatio net pieces direction (if b then Flip stop.step else Leave stop.arc stop.bound stop.step)
    by b (inl t) =
        let moved = subst (λ (n : ℕ). IsGreatest net (values_in net pieces) (direction.enter ∷ basics_of pieces) direction.enter (beside zero_ratio direction.steps) stop.step n stop.bound) t.1 h in
        rw t.0 (subst (λ (m : Mark). IsGreatest net (values_in net pieces) (direction.enter ∷ basics_of pieces) direction.enter (beside zero_ratio direction.steps) stop.step direction.enter m) (goes t.1) moved)
    by b (inr n) = rw n.0 (n.1, h)

pub ratio_is : (phase : Phase) (full : FullNet) (pieces : List PieceLists) (direction : Direction) (best : Option Stop)
    → let net = phase_net phase full in let s = values_in net pieces in let d = beside zero_ratio direction.steps in
    AreWithin net pieces → IsOutside net pieces direction.enter → IsAlong pieces direction
    → ((a : ℕ) → IsIn a (numbers_of_steps direction.steps) → IsOk (limit_of (arc_at net.arcs a) (s.flow a) (d a)))
    → IsSoonestOf (λ a. limit_of (arc_at net.arcs a) (s.flow a) (d a)) d direction.enter (numbers_of_steps direction.steps) best
    → IsRatio net pieces direction (answer_of direction.enter best)
ratio_is phase full pieces direction best w out along each h = by best h
  where
    within : (a : ℕ) → IsIn a (direction.enter ∷ basics_of pieces) → IsWithin (arc_at (phase_net phase full).arcs a) ((values_in (phase_net phase full) pieces).flow a)
    within a (inl e) = rw e (enter_within phase full pieces direction.enter w out)
    within a (inr i) = basic_within (phase_net phase full) pieces w a i

    move : (a : ℕ) → IsIn a (numbers_of_steps direction.steps) → beside zero_ratio direction.steps a ≢ zero_ratio
    move a i e = let x = beside_entry zero_ratio direction.steps a i in along.not_zero x.entry x.stands (sym x.value ∙ e)

    or_rests : (a : ℕ) → IsIn a (numbers_of_steps direction.steps) ⊎ (beside zero_ratio direction.steps a ≡ zero_ratio)
    or_rests a = elim (stands_or direction.steps a) [ inl i ↦ inl i | inr n ↦ inr (beside_absent zero_ratio direction.steps a n) ]

    by : (best : Option Stop)
        → IsSoonestOf (λ a. limit_of (arc_at (phase_net phase full).arcs a) ((values_in (phase_net phase full) pieces).flow a) (beside zero_ratio direction.steps a)) (beside zero_ratio direction.steps) direction.enter (numbers_of_steps direction.steps) best
        → IsRatio (phase_net phase full) pieces direction (answer_of direction.enter best)
    by None h = unbounded (phase_net phase full) (values_in (phase_net phase full) pieces) (direction.enter ∷ basics_of pieces) (numbers_of_steps direction.steps) direction.enter (beside zero_ratio direction.steps) within along.on_arcs move or_rests h
    by (Some stop) h = stopped (phase_net phase full) pieces direction stop along.enters h.bound
        (greatest (phase_net phase full) (values_in (phase_net phase full) pieces) (direction.enter ∷ basics_of pieces) (numbers_of_steps direction.steps) direction.enter (beside zero_ratio direction.steps) within along.on_arcs move or_rests each stop h)
