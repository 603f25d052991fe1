-- The slots that are named for the ends of an arc.
use Rattle.std.proofs.Common.{◌≡◌, ℕ, zero, suc, ◌<◌, List, [], ◌∷◌, length, sym, subst, arith}
use Rattle.std.specs.Prelude.{Some}
use Rattle.std.specs.List.{All}
use Rattle.np_model.specs.declared.arc.Ends.{Ends}
use Rattle.np_model.specs.declared.arc.Ends.TheVariants.{Link, Drain, Feed}
use Rattle.np_model.specs.declared.network.FullNet.{FullNet}
use Rattle.np_model.specs.declared.phase.Phase.{Phase}
use Rattle.np_model.specs.Network.Flows.{Network}
use Rattle.np_model.specs.Network.Arcs.{AreNodes}
use Rattle.np_model.specs.Basis.Graphs.{ends_at}
use Rattle.np_model.specs.Basis.Phases.{phase_net, real_arcs}
use Rattle.tree_table.specs.Passes.{PassState, IsIdle}
use Rattle.tree_table.specs.Calls.{Stays}
use Rattle.pivot_workers.specs.declared.attempting.Attempted.{Attempted}
use Rattle.pivot_workers.specs.declared.seeing.Seen.{Seen}
use Rattle.pivot_workers.specs.Attempts.{IsAttempted}
use Rattle.pivot_workers.specs.Openings.{named_for, NameSlots}
use Rattle.pivot_workers.specs.Takes.{seen_at, slots_of, in_order}
use Rattle.pivot_workers.specs.Work.{IsReady}
use Rattle.pivot_workers.specs.Steps.Visits.{visit_of, IsVisited}
use Rattle.pivot_workers.proofs.Forest.{same_net, same_real, real_ground, ends_near}
use Rattle.pivot_workers.proofs.Places.{by_order}
use Rattle.pivot_workers.proofs.Tries.{visited}

near_one : (n a : ℕ) → a < n → All (λ k. k < n) (a ∷ [])
near_one n a h zero d below = h
near_one n a h (suc k) d below = absurd (omega arith)

near_two : (n a b : ℕ) → a < n → b < n → All (λ k. k < n) (a ∷ b ∷ [])
near_two n a b h j zero d below = h
near_two n a b h j (suc zero) d below = j
near_two n a b h j (suc (suc k)) d below = absurd (omega arith)

near_both : (n a b : ℕ) → a < n → b < n → All (λ k. k < n) (in_order a (Some b))
near_both n a b h j = by_order (All (λ k. k < n)) a b (λ e. near_one n a h) (λ lt. near_two n a b h j) (λ lt. near_two n b a j h)

near_ends : (n : ℕ) (openings : List ℕ) (ends : Ends) → NameSlots n openings → AreNodes n ends → All (λ k. k < n) (slots_of (seen_at openings ends))
near_ends n openings (Link from to gain) named nodes = near_both n (named_for openings from) (named_for openings to) (named.near from nodes.0) (named.near to nodes.1)
near_ends n openings (Drain at) named nodes = near_one n (named_for openings at) (named.near at nodes)
near_ends n openings (Feed at) named nodes = near_one n (named_for openings at) (named.near at nodes)

module _ (full : FullNet) (phase : Phase) (openings : List ℕ) (arc : ℕ) (below : arc < real_arcs full) (named : NameSlots (length full.net.supply) openings)
    (seen : Seen) (is : seen ≡ seen_at openings (ends_at (phase_net phase full).arcs arc)) where
  pub near_seen : All (λ k. k < length full.net.supply) (slots_of seen)
  near_seen = subst (λ (s : Seen). All (λ k. k < length full.net.supply) (slots_of s)) (sym is) (near_ends (length full.net.supply) openings (ends_at (phase_net phase full).arcs arc) named (ends_near full phase arc below))

  pub tried_at : (p q : PassState) → IsReady full phase p → Stays p q × IsIdle q.view → (q.view.shares ≡ p.view.shares) × (q.view.opening ≡ p.view.opening) → (r : Attempted)
      → IsAttempted (phase_net phase full) (real_arcs full) p q seen arc r → IsVisited openings p q arc (visit_of r)
  tried_at p q ready same told r h =
      let net = same_net full phase p.view.opening ready.0 in
      let real = same_real full phase p.view.opening ready.0 in
      let h' : IsAttempted (phase_net phase full) (real_arcs full) p q (seen_at openings (ends_at (phase_net phase full).arcs arc)) arc r =
      subst (λ (s : Seen). IsAttempted (phase_net phase full) (real_arcs full) p q s arc r) is h in
      visited openings p q arc same.0 same.1 told (real_ground full phase p.view.opening ready.0) ready.1 r
      (subst (λ (z : Network × ℕ). IsAttempted z.0 z.1 p q (seen_at openings (ends_at z.0.arcs arc)) arc r) (λ i. (sym net i, sym real i)) h')
