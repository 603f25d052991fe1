-- Where no arc costs less than 0, as in stage one, the direction of an eligible arc comes to a bound.
use Rattle.std.specs.Prelude.{◌≡◌, ◌⊎◌, ℕ, ◌<◌, ◌≤◌, List, [], ◌∷◌, length}
use Rattle.std.proofs.Common.{refl, sym, ap, subst, ◌∙◌, inl, inr, arith}
use Rattle.gain_graphs.specs.Arcs.{IsIn}
use Rattle.gain_graphs.specs.Field as field
use Rattle.np_frac.specs.Ratio.{Ratio, zero_ratio, one_ratio, negated, whole, ◌≤ᵣ◌, ◌<ᵣ◌, ◌+ᵣ◌, ◌*ᵣ◌}
use Rattle.np_frac.proofs.Field.{*ᵣ-one, one_above, negated_one_below}
use Rattle.np_frac.proofs.RatioLaws.{+ᵣ-zero, *ᵣ-zero, ≤ᵣ_refl, ≤ᵣ_same, <ᵣ_is_≤ᵣ, below_or, clash, enough, +ᵣ_at_most, *ᵣ_at_most}
use Rattle.np_model.specs.declared.arc.NetArc.{NetArc}
use Rattle.np_model.specs.declared.log.Mark.{Mark}
use Rattle.np_model.specs.declared.log.Mark.TheVariants as marked
use Rattle.np_model.specs.declared.network.FullNet.{FullNet}
use Rattle.np_model.specs.declared.phase.Phase.TheVariants.{One}
use Rattle.np_model.specs.Network.Flows.{Network}
use Rattle.np_model.specs.Basis.Graphs.{ratios, arc_at, ends_at, cost_at}
use Rattle.np_model.specs.Basis.Moves.{sign, Gains, IsEligible}
use Rattle.np_model.specs.Basis.Phases.{phase_net, real_arcs}
use Rattle.np_model.specs.Basis.Pieces.{PieceLists, nodes_in, basics_in, nodes_of, basics_of}
use Rattle.np_model.specs.Basis.Sound.{values_in, AreSound, HoldEnds}
use Rattle.np_model.specs.Basis.States.{price}
use Rattle.np_model.proofs.FullNets.{real_at, artificial_at}
use Rattle.np_basis.specs.PivotLaws.{HasRealArcs, AreInNet, MayEnter, ComesToBound, NoRayAtNonnegativeCosts, NoRayInStageOne, MoveInStageOne}
use Rattle.np_model.specs.Basis.Needed.{IsDirectionOf}
use Rattle.np_basis.proofs.Costs as costs
use Rattle.np_basis.proofs.Directions as directions
use Rattle.np_basis.proofs.Fulls.{length_full, full_net_is_sound}
use Rattle.np_basis.proofs.Pivoting.{not_gaining}
use Rattle.np_basis.proofs.RatioTest.{move_exists}
use Rattle.np_basis.proofs.Reading.{in_flat_of, price_same}
use Rattle.np_basis.proofs.Sound as said

-- an arc of the list on which the direction falls, or it falls on none
search : (d : ℕ → Ratio) (numbers : List ℕ) → ((a : ℕ) × IsIn a numbers × (d a <ᵣ zero_ratio)) ⊎ ((a : ℕ) → IsIn a numbers → zero_ratio ≤ᵣ d a)
search d [] = inr (λ a i. absurd i)
search d (b ∷ numbers) = go (below_or (d b) zero_ratio) (search d numbers)
  where
    go : (d b <ᵣ zero_ratio) ⊎ (zero_ratio ≤ᵣ d b) → ((a : ℕ) × IsIn a numbers × (d a <ᵣ zero_ratio)) ⊎ ((a : ℕ) → IsIn a numbers → zero_ratio ≤ᵣ d a)
        → ((a : ℕ) × IsIn a (b ∷ numbers) × (d a <ᵣ zero_ratio)) ⊎ ((a : ℕ) → IsIn a (b ∷ numbers) → zero_ratio ≤ᵣ d a)
    go (inl h) _ = inl (b, inl refl, h)
    go (inr l) (inl r) = inl (r.0, inr r.1, r.2)
    go (inr l) (inr f) = inr (λ a. elim [ inl e ↦ subst (λ t. zero_ratio ≤ᵣ d t) (sym e) l | inr i ↦ f a i ])

-- ---- costs along a direction

not_negative : (f : ℕ → Ratio) (xs : List ℕ) → ((x : ℕ) → IsIn x xs → zero_ratio ≤ᵣ f x) → zero_ratio ≤ᵣ field.total ratios f xs
not_negative f [] h = ≤ᵣ_refl zero_ratio
not_negative f (x ∷ xs) h = subst (λ t. t ≤ᵣ f x +ᵣ field.total ratios f xs) (+ᵣ-zero zero_ratio) (+ᵣ_at_most (h x (inl refl)) (not_negative f xs (λ y i. h y (inr i))))

all : (net : Network) (ps : List PieceLists) → AreSound net ps → AreInNet net ps
all net ps sound = record { each = λ o i. (sound.each o i).in_net; apart = sound.apart }

-- an eligible arc whose ends the pieces hold may enter
may : (net : Network) (real : ℕ) (ps : List PieceLists) (enter : ℕ) → HasRealArcs net real → AreSound net ps → HoldEnds ps (ends_at net.arcs enter)
    → IsEligible net real (values_in net ps) enter → MayEnter net ps enter
may net real ps enter ground sound into eligible = record {
  below = omega (arith, eligible.is_open.0, ground.few);
  ends = into;
  not_basic = λ i. let r = in_flat_of basics_in ps enter i in not_gaining ((values_in net ps).mark enter) _ eligible.gains (said.mark_basic net ps sound r.0 enter r.1 r.2);
}

module _ (net : Network) (real : ℕ) (ps : List PieceLists) (enter : ℕ) (d : ℕ → Ratio) (ground : HasRealArcs net real)
    (cheap : (a : ℕ) → a < length net.arcs → zero_ratio ≤ᵣ cost_at net.arcs a) (sound : AreSound net ps) (into : HoldEnds ps (ends_at net.arcs enter))
    (eligible : IsEligible net real (values_in net ps) enter) (h : IsDirectionOf net ps enter (sign ((values_in net ps).mark enter)) d) where
  entering : directions.Enters net ground.sound (nodes_of ps) (enter ∷ basics_of ps) (basics_of ps) enter
  entering = directions.of_entering net ground.sound ps enter (all net ps sound) (may net real ps enter ground sound into eligible)

  -- the price of the entering arc
  worth : Ratio
  worth = price (values_in net ps).potential (arc_at net.arcs enter)

  priced : (a : ℕ) → IsIn a (basics_of ps) → price (values_in net ps).potential (arc_at net.arcs a) ≡ zero_ratio
  priced a i =
      let r = in_flat_of basics_in ps a i in
      price_same (values_in net ps).potential (values_in net (r.0 ∷ [])).potential (nodes_in r.0) (arc_at net.arcs a) (said.inside net ps sound r.0 a r.1 r.2) (said.alone net ps sound r.0 r.1)
      ∙ (sound.each r.0 r.1).priced a r.2

  -- what the direction costs is not below 0, if it falls nowhere
  not_cheap : ((a : ℕ) → IsIn a (enter ∷ basics_of ps) → zero_ratio ≤ᵣ d a) → zero_ratio ≤ᵣ worth *ᵣ d enter
  unfolding worth
  not_cheap rises = subst (λ t. zero_ratio ≤ᵣ t)
      (costs.cost_of net ground.sound (nodes_of ps) (enter ∷ basics_of ps) (basics_of ps) enter entering into (sign ((values_in net ps).mark enter)) d h (values_in net ps).potential priced)
      (not_negative (λ a. cost_at net.arcs a *ᵣ d a) (enter ∷ basics_of ps)
      (λ a i. subst (λ t. t ≤ᵣ cost_at net.arcs a *ᵣ d a) (*ᵣ-zero (cost_at net.arcs a)) (*ᵣ_at_most (cheap a (entering.inside a i)) (rises a i))))

  none : ((a : ℕ) → IsIn a (enter ∷ basics_of ps) → zero_ratio ≤ᵣ d a) → ⊥
  unfolding worth
  none rises = go ((values_in net ps).mark enter) refl eligible.gains
    where
      -- what the entering arc gains
      go : (m : Mark) → (values_in net ps).mark enter ≡ m → Gains ((values_in net ps).mark enter) (price (values_in net ps).potential (arc_at net.arcs enter)) → ⊥
      go marked.Lower e k = clash (subst (λ t. t <ᵣ zero_ratio) same (subst (λ m. Gains m (price (values_in net ps).potential (arc_at net.arcs enter))) e k)) (not_cheap rises)
        where
          same : worth ≡ worth *ᵣ d enter
          same = sym (ap (λ t. worth *ᵣ t) (h.enters ∙ ap sign e) ∙ *ᵣ-one worth)
      go marked.Upper e k = clash negated_one_below (subst (λ t. zero_ratio ≤ᵣ t) (h.enters ∙ ap sign e) (rises enter (inl refl)))
      go marked.Basic e k = not_gaining ((values_in net ps).mark enter) _ k e

  comes : ComesToBound net (values_in net ps) (enter ∷ basics_of ps) d
  comes = elim (search d (enter ∷ basics_of ps)) [ inl r ↦ stop r | inr f ↦ absurd (none f) ]
    where
      stop : (a : ℕ) × IsIn a (enter ∷ basics_of ps) × (d a <ᵣ zero_ratio) → ComesToBound net (values_in net ps) (enter ∷ basics_of ps) d
      stop r =
          let t = enough ((values_in net ps).flow r.0) (d r.0) (arc_at net.arcs r.0).lower r.2 in
          record { arc = r.0; is_one = r.1; falls = r.2; step = t.0; forwards = t.1; too_far = λ k. clash t.2 (k r.0 r.1).0 }

pub no_ray_at_nonnegative_costs : NoRayAtNonnegativeCosts
no_ray_at_nonnegative_costs net real ps enter d ground cheap sound into eligible h = comes net real ps enter d ground cheap sound into eligible h

-- ---- stage one

cheap_in_one : (full : FullNet) (a : ℕ) → a < length (phase_net One full).arcs → zero_ratio ≤ᵣ cost_at (phase_net One full).arcs a
cheap_in_one full a l = elim (cases a (length full.net.arcs)) [
  | inl k ↦ ≤ᵣ_same (sym (ap (λ (t : NetArc). t.cost) (real_at One full.net.arcs full.artificial a k)))
  | inr k ↦ subst (λ t. zero_ratio ≤ᵣ t) (sym (ap (λ (t : NetArc). t.cost) (artificial_at One full.net.arcs full.artificial a k (omega (arith, length_full One full.net.arcs full.artificial))))) (<ᵣ_is_≤ᵣ one_above)
]
  where
    cases : (x y : ℕ) → (x < y) ⊎ (y ≤ x)
    cases x y = grind arith

full_real : (full : FullNet) → HasRealArcs (phase_net One full) (real_arcs full)
full_real full = record { sound = full_net_is_sound One full; few = omega (arith, length_full One full.net.arcs full.artificial) }

pub no_ray_in_stage_one : NoRayInStageOne
no_ray_in_stage_one full ps enter d sound into eligible h =
    no_ray_at_nonnegative_costs (phase_net One full) (real_arcs full) ps enter d (full_real full) (cheap_in_one full) sound into eligible h

pub move_in_stage_one : MoveInStageOne
move_in_stage_one full ps enter sound into eligible =
    let given = may (phase_net One full) (real_arcs full) ps enter (full_real full) sound into eligible in
    let d = directions.direction_exists (phase_net One full) ps enter (sign ((values_in (phase_net One full) ps).mark enter)) (full_net_is_sound One full) (all (phase_net One full) ps sound) given in
    let c = no_ray_in_stage_one full ps enter d.0 sound into eligible d.1 in
    let m = move_exists (phase_net One full) ps enter d.0 c.arc (full_net_is_sound One full) sound given d.1 c.is_one (inl c.falls) in
    (m.0, m.1, d.0, m.2, m.3)
