-- A full network is valid in each phase; and the price of an arc is its reduced cost.
use Rattle.std.specs.Prelude.{◌≡◌, ◌⊎◌, ℕ, zero, suc, ◌+◌, ◌-◌, ◌<◌, ◌≤◌, List, [], ◌∷◌, map, length, slice_index_or}
use Rattle.std.proofs.Common.{refl, sym, ap₂, subst, ◌∙◌, inl, inr, arith}
use Rattle.std.proofs.lemmas.List.{length-append, get_or_default, length-map}
use Rattle.np_frac.specs.Ratio.{zero_ratio}
use Rattle.np_frac.proofs.RatioLaws.{≤ᵣ_refl}
use Rattle.np_model.specs.declared.arc.Ends.{Ends}
use Rattle.np_model.specs.declared.arc.Ends.TheVariants.{Link, Drain, Feed}
use Rattle.np_model.specs.declared.arc.NetArc.{NetArc}
use Rattle.np_model.specs.declared.network.FullNet.{FullNet}
use Rattle.np_model.specs.declared.phase.Phase.{Phase}
use Rattle.np_model.specs.declared.phase.Phase.TheVariants.{One, Two}
use Rattle.np_model.specs.Network.Arcs.{AreNodes}
use Rattle.np_model.specs.Network.Nets.{IsSoundArc}
use Rattle.np_model.specs.Basis.Artificial.{IsOneEndAt}
use Rattle.np_model.specs.Basis.Graphs.{no_arc, arc_at, ends_at, cost_at}
use Rattle.np_model.specs.Basis.Phases.{real_arc, artificial_arc, phase_arcs, phase_net}
use Rattle.np_model.proofs.FullNets.{real_at, artificial_at}
use Rattle.np_model.proofs.Pull.{reduced_by_ends}
use Rattle.np_basis.specs.Laws.{FullIsSound, FullNetIsSound, PriceIsReduced}

pub length_full : (phase : Phase) (arcs : List NetArc) (artificial : List Ends) → length (phase_arcs phase arcs artificial) ≡ length arcs + length artificial
length_full phase arcs artificial =
    length-append (map (real_arc phase) arcs) (map (artificial_arc phase) artificial) ∙ ap₂ (λ x y. x + y) (length-map arcs (real_arc phase)) (length-map artificial (artificial_arc phase))

-- ---- the ends of an arc are the same in both phases

real_ends : (phase : Phase) (a : NetArc) → (real_arc One a).ends ≡ (real_arc phase a).ends
real_ends One a = refl
real_ends Two a = refl

artificial_ends : (phase : Phase) (e : Ends) → (artificial_arc One e).ends ≡ (artificial_arc phase e).ends
artificial_ends One e = refl
artificial_ends Two e = refl

same_artificial : (phase : Phase) (es : List Ends) (a : ℕ) → ends_at (map (artificial_arc One) es) a ≡ ends_at (map (artificial_arc phase) es) a
same_artificial phase [] a = refl
same_artificial phase (e ∷ es) zero = artificial_ends phase e
same_artificial phase (e ∷ es) (suc a) = same_artificial phase es a

same_arcs : (phase : Phase) (arcs : List NetArc) (es : List Ends) (a : ℕ) → ends_at (phase_arcs One arcs es) a ≡ ends_at (phase_arcs phase arcs es) a
same_arcs phase [] es a = same_artificial phase es a
same_arcs phase (x ∷ arcs) es zero = real_ends phase x
same_arcs phase (x ∷ arcs) es (suc a) = same_arcs phase arcs es a

pub ends_same : (phase : Phase) (full : FullNet) (a : ℕ) → ends_at (phase_net One full).arcs a ≡ ends_at (phase_net phase full).arcs a
ends_same phase full a = same_arcs phase full.net.arcs full.artificial a

-- ---- each arc is sound

real_sound : (n : ℕ) (phase : Phase) (a : NetArc) → IsSoundArc n a → IsSoundArc n (real_arc phase a)
real_sound n One a h = record { joins = h.joins; gain = h.gain; bounds = h.bounds }
real_sound n Two a h = h

artificial_sound : (n v : ℕ) (phase : Phase) (e : Ends) → v < n → IsOneEndAt v e → IsSoundArc n (artificial_arc phase e)
artificial_sound n v phase (Link i j g) below h = absurd h
artificial_sound n v One (Drain u) below h = record { joins = subst (λ t. t < n) (sym h) below; gain = record {}; bounds = record {} }
artificial_sound n v Two (Drain u) below h = record { joins = subst (λ t. t < n) (sym h) below; gain = record {}; bounds = ≤ᵣ_refl zero_ratio }
artificial_sound n v One (Feed u) below h = record { joins = subst (λ t. t < n) (sym h) below; gain = record {}; bounds = record {} }
artificial_sound n v Two (Feed u) below h = record { joins = subst (λ t. t < n) (sym h) below; gain = record {}; bounds = ≤ᵣ_refl zero_ratio }

below_or_not : (x y : ℕ) → (x < y) ⊎ (y ≤ x)
below_or_not x y = grind arith

pub full_is_sound : FullIsSound
full_is_sound phase net artificial sound h a other l = subst (IsSoundArc (length net.supply)) (get_or_default (phase_arcs phase net.arcs artificial) a no_arc other l) (elim (below_or_not a (length net.arcs)) [
  | inl k ↦ subst (IsSoundArc (length net.supply)) (sym (real_at phase net.arcs artificial a k)) (real_sound (length net.supply) phase (arc_at net.arcs a) (sound a no_arc k))
  | inr k ↦ (
      let below : a < length net.arcs + length artificial = omega (arith, length_full phase net.arcs artificial) in
      let node : a - length net.arcs < length net.supply = omega (arith, h.one_each) in
      subst (IsSoundArc (length net.supply)) (sym (artificial_at phase net.arcs artificial a k below))
      (artificial_sound (length net.supply) (a - length net.arcs) phase (slice_index_or artificial (a - length net.arcs) (Drain 0)) node (h.at_nodes (a - length net.arcs) (Drain 0) node)))
])

pub full_net_is_sound : FullNetIsSound
full_net_is_sound phase full = full_is_sound phase (record { supply = full.net.supply; arcs = full.net.arcs }) full.artificial full.net.valid.sound full.valid

pub price_is_reduced : PriceIsReduced
price_is_reduced net p a sound e below =
    sym (reduced_by_ends p (ends_at net.arcs a) (cost_at net.arcs a) (subst (λ n. AreNodes n (ends_at net.arcs a)) (sym e) (sound a no_arc below).joins))
