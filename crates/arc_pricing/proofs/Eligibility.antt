-- Prices and the tests of eligible arcs.
use Rattle.std.specs.Prelude.{◌≡◌, ◌≢◌, ◌↔◌, ℕ, ◌<◌, nat_lt, Bool, true, false, IsTrue, length, Result, Ok, Err}
use Rattle.std.proofs.Common.{refl, sym, ◌∙◌, subst, arith}
use Rattle.std.proofs.lemmas.Bool.{and_parts}
use Rattle.std.proofs.lemmas.Bool.Decides.{nat_tests}
use Rattle.np_frac.specs.Ratio.{Ratio, zero_ratio, is_below, ◌<ᵣ◌}
use Rattle.np_frac.specs.declared.frac.Past.{Past}
use Rattle.np_frac.proofs.RatioLaws.{is_below_true, is_below_false, clash}
use Rattle.np_model.specs.declared.arc.Ends.{Ends}
use Rattle.np_model.specs.declared.arc.Ends.TheVariants.{Link, Drain, Feed}
use Rattle.np_model.specs.declared.arc.NetArc.{NetArc}
use Rattle.np_model.specs.declared.log.Mark.{Mark}
use Rattle.np_model.specs.declared.network.FullNet.{FullNet}
use Rattle.np_model.specs.declared.phase.Phase.{Phase}
use Rattle.np_model.specs.declared.phase.Phase.TheVariants.{One, Two}
use Rattle.np_model.specs.declared.log.Mark.TheVariants.{Lower, Upper, Basic}
use Rattle.np_model.specs.declared.rows.Overflow.{Overflow}
use Rattle.np_model.specs.Network.Arcs.{AreNodes, is_under, reduced_cost, tail_of, head_of}
use Rattle.np_model.specs.Network.Flows.{Network}
use Rattle.np_model.specs.Network.Nets.{IsSoundArc}
use Rattle.np_model.specs.Basis.Graphs.{arc_at, ends_at, cost_at, no_arc}
use Rattle.np_model.specs.Basis.Moves.{IsOpen, Gains, IsEligible}
use Rattle.np_model.specs.Basis.Phases.{phase_net, real_arc}
use Rattle.np_model.specs.Basis.States.{Values, price}
use Rattle.np_model.proofs.FullNets.{real_at}
use Rattle.np_model.proofs.Pull.{reduced_exactly}
use Rattle.np_model.proofs.Tested.{under-is, under-so}
use Rattle.arc_pricing.specs.Prices.{gains, is_open, is_eligible}
use Rattle.np_model.specs.Rows.Prices.{told_at, price_at, price_of}
use Rattle.arc_pricing.specs.Candidates.{IsTested}

-- ---- row A2

told_is : (a : ℕ) (found : Result Ratio Past) (r : Ratio) → told_at a found ≡ Ok r → found ≡ Ok r
told_is a (Ok x) r e = cc e
told_is a (Err past) r e = cc e

pub at_exact : (net : Network) (a : ℕ) (first second r : Ratio) → price_at net a first second ≡ Ok r → r ≡ reduced_cost (ends_at net.arcs a) (cost_at net.arcs a) first second
at_exact net a first second r e = reduced_exactly (ends_at net.arcs a) (cost_at net.arcs a) first second r (told_is a _ r e)

pub price_exact : (net : Network) (potential : ℕ → Ratio) (a : ℕ) (r : Ratio) → price_of net potential a ≡ Ok r → r ≡ price potential (arc_at net.arcs a)
price_exact net potential a r e = at_exact net a _ _ r e

-- ---- tests

pub open_so : (net : Network) (real a : ℕ) → is_open net real a ≡ true → IsOpen net real a
open_so net real a e =
    let both = and_parts (nat_lt a real) (is_under (arc_at net.arcs a).lower (arc_at net.arcs a).upper) e in
    let below : nat_lt a real ≡ true = both.0 in
    (grind (arith, nat_tests), under-so (arc_at net.arcs a).lower (arc_at net.arcs a).upper both.1)

pub gains_so : (mark : Mark) (r : Ratio) → gains mark r ≡ true → Gains mark r
gains_so Lower r e = is_below_true r zero_ratio e
gains_so Upper r e = is_below_true zero_ratio r e
gains_so Basic r e = cc e

open_is : (net : Network) (real a : ℕ) → IsOpen net real a → is_open net real a ≡ true
open_is net real a h =
    let under = under-is (arc_at net.arcs a).lower (arc_at net.arcs a).upper h.1 in
    let below = h.0 in
    grind (arith, nat_tests, under)

below_is : (a b : Ratio) → a <ᵣ b → is_below a b ≡ true
below_is a b k = elim (is_below a b) as (λ t. is_below a b ≡ t → t ≡ true) [ true ↦ λ e. refl | false ↦ λ e. absurd (clash k (is_below_false a b e)) ] refl

gains_is : (mark : Mark) (r : Ratio) → Gains mark r → gains mark r ≡ true
gains_is Lower r h = below_is r zero_ratio h
gains_is Upper r h = below_is zero_ratio r h
gains_is Basic r h = absurd h

pub may : (net : Network) (real a : ℕ) (mark : Mark) (r : Ratio) (b c : Bool) → b ≡ is_open net real a → c ≡ gains mark r → b ≡ true
    → IsTrue c ↔ (IsOpen net real a × Gains mark r)
may net real a mark r b c e f is =
    ((λ t. (open_so net real a (sym e ∙ is), gains_so mark r (sym f ∙ t))), (λ p. f ∙ gains_is mark r p.1))

pub eligible_so : (net : Network) (real : ℕ) (s : Values) (a : ℕ) → is_eligible net real s a ≡ true → IsEligible net real s a
eligible_so net real s a e =
    let both = and_parts (is_open net real a) (gains (s.mark a) (price s.potential (arc_at net.arcs a))) e in
    record { is_open = open_so net real a both.0; gains = gains_so (s.mark a) (price s.potential (arc_at net.arcs a)) both.1 }

pub eligible_is : (net : Network) (real : ℕ) (s : Values) (a : ℕ) → IsEligible net real s a → is_eligible net real s a ≡ true
eligible_is net real s a h = rw (open_is net real a h.is_open) (gains_is (s.mark a) (price s.potential (arc_at net.arcs a)) h.gains)

-- ---- one arc

pub tail_below : (n : ℕ) (ends : Ends) → AreNodes n ends → tail_of ends < n
tail_below n (Link from to gain) h = h.0
tail_below n (Drain at) h = h
tail_below n (Feed at) h = h

pub head_below : (n : ℕ) (ends : Ends) → AreNodes n ends → head_of ends < n
head_below n (Link from to gain) h = h.1
head_below n (Drain at) h = h
head_below n (Feed at) h = h

-- the ends of a real arc are nodes
pub ends_below : (phase : Phase) (full : FullNet) (a : ℕ) → a < length full.net.arcs → AreNodes (length full.net.supply) (ends_at (phase_net phase full).arcs a)
ends_below phase full a h =
    let sound : IsSoundArc (length full.net.supply) (arc_at full.net.arcs a) = full.net.valid.sound a no_arc h in
    let real = real_at phase full.net.arcs full.artificial a h in
    subst (λ (arc : NetArc). AreNodes (length full.net.supply) arc.ends) (sym real) (own phase (arc_at full.net.arcs a) sound)
  where
    own : (phase : Phase) (arc : NetArc) → IsSoundArc (length full.net.supply) arc → AreNodes (length full.net.supply) (real_arc phase arc).ends
    own One arc s = s.joins
    own Two arc s = s.joins

-- the price is found
pub is_found : (net : Network) (real : ℕ) (s : Values) (a : ℕ) (first second r : Ratio) (b : Bool) → first ≡ s.potential (tail_of (ends_at net.arcs a))
    → second ≡ s.potential (head_of (ends_at net.arcs a)) → Ok r ≡ price_at net a first second → is_open net real a ≡ true → b ≡ gains (s.mark a) r
    → IsTested net real s a (Ok b)
is_found net real s a first second r b p q e o g =
    let found : price_of net s.potential a ≡ Ok r = rw (← p, ← q) (sym e) in
    (rw (o, ← price_exact net s.potential a r found) g, λ _. rw found refl)

-- the price overflows
pub is_past : (net : Network) (real : ℕ) (s : Values) (a : ℕ) (first second : Ratio) (o : Overflow) → first ≡ s.potential (tail_of (ends_at net.arcs a))
    → second ≡ s.potential (head_of (ends_at net.arcs a)) → Err o ≡ price_at net a first second → is_open net real a ≡ true → s.mark a ≢ Basic
    → IsTested net real s a (Err o)
is_past net real s a first second o p q e is n = ((open_so net real a is, n), rw (← p, ← q) (sym e))
