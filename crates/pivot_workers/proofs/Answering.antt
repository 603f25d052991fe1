-- What an attempt tells, from what its parts tell.
use Rattle.std.proofs.Common.{◌≡◌, ℕ, ◌<◌, List, [], ◌∷◌, ◌++◌, length, sym, ap, ◌∙◌, subst}
use Rattle.np_model.specs.declared.network.FullNet.{FullNet}
use Rattle.np_model.specs.declared.phase.Phase.{Phase}
use Rattle.np_model.specs.Network.Flows.{Network}
use Rattle.np_model.specs.Basis.Graphs.{ends_at}
use Rattle.np_model.specs.Basis.Needed.{AreNeededFor}
use Rattle.np_model.specs.Basis.Phases.{phase_net, real_arcs}
use Rattle.np_model.specs.Basis.Pieces.{PieceLists}
use Rattle.np_model.specs.Basis.Sound.{AreSound, AreInOrder}
use Rattle.np_basis.proofs.Fulls.{full_net_is_sound}
use Rattle.tree_table.specs.Passes.{PassState, View}
use Rattle.tree_table.specs.Replay.{HasSeen, AreBelow}
use Rattle.tree_table.specs.Weights.{AreAmong}
use Rattle.pivot_workers.specs.declared.attempting.Attempted.{Attempted}
use Rattle.pivot_workers.specs.declared.attempting.Attempted.TheVariants as attempted
use Rattle.pivot_workers.specs.declared.seeing.Seen.{Seen}
use Rattle.pivot_workers.specs.Attempts.{HasNoMore, HasPivoted, HasReached, IsAttempted}
use Rattle.pivot_workers.specs.Forests.{AreForest}
use Rattle.pivot_workers.specs.Stale.{IsStale, IsFresh}
use Rattle.pivot_workers.specs.Takes.{HasSecond, slots_of, LieAt, IsRight, HasTaken}
use Rattle.pivot_workers.specs.Work.{IsReady}
use Rattle.pivot_workers.specs.Steps.Grabs.{HasGrabbed}
use Rattle.pivot_workers.specs.Steps.Held.{IsTriedOn}
use Rattle.pivot_workers.proofs.Forest.{forest_now, part_sound, same_net, real_ground, real_below}
use Rattle.pivot_workers.proofs.Needs.{fresh_needed}
use Rattle.pivot_workers.proofs.Right.{stale_not_right}

module _ (full : FullNet) (phase : Phase) (p : PassState) (ready : IsReady full phase p) where
  forest : (now : List PieceLists) → HasSeen p.view now → AreForest (phase_net phase full) now
  forest now seen =
      subst (λ (net : Network). AreForest net now) (same_net full phase p.view.opening ready.0) (forest_now p.view now (real_ground full phase p.view.opening ready.0) ready.1 seen)

  module _ (w : View) (slots : List ℕ) (pieces : List PieceLists) (g : HasGrabbed p.view w slots pieces) where
    pub grabbed_sound : AreSound (phase_net phase full) pieces
    unfolding forest
    grabbed_sound = subst (λ z. AreSound (phase_net phase full) z) g.got (part_sound (phase_net phase full) g.taken.now (forest g.taken.now g.taken.seen) w.got g.taken.there)

  module _ (arc : ℕ) (seen : Seen) (below : arc < real_arcs full) (fits : HasSecond (ends_at (phase_net phase full).arcs arc) seen.second) (w : View) (pieces : List PieceLists)
      (g : HasGrabbed p.view w (slots_of seen) pieces) where
    pub needed : IsFresh (ends_at (phase_net phase full).arcs arc) seen pieces → AreInOrder pieces × AreNeededFor pieces (ends_at (phase_net phase full).arcs arc)
    needed fresh =
        fresh_needed (phase_net phase full) arc seen pieces (full_net_is_sound phase full) (real_below full phase arc below) fits
        (subst (λ z. LieAt (slots_of seen) z) g.got g.taken.lie) fresh

    -- what was taken is told of the pass after too, where that shows the same looks and pieces
    pub taken_after : (x : View) → x.got ≡ w.got → x.looks ≡ w.looks → HasTaken p.view x (slots_of seen)
    taken_after x got looks = record {
      looks = looks ∙ g.taken.looks;
      lie = subst (λ z. LieAt (slots_of seen) z) (sym got) g.taken.lie;
      now = g.taken.now;
      seen = g.taken.seen;
      there = subst (λ z. AreAmong z g.taken.now) (sym got) g.taken.there;
    }

    pub reached : (q : PassState) → q.view.got ≡ w.got → q.view.looks ≡ w.looks → IsFresh (ends_at (phase_net phase full).arcs arc) seen pieces
        → HasReached (phase_net phase full) (real_arcs full) p q seen arc
    unfolding taken_after needed
    reached q got looks fresh =
        let n = needed fresh in
        let is : pieces ≡ q.view.got = sym (got ∙ g.got) in record {
          taken = taken_after q.view got looks;
          fresh = subst (λ z. IsFresh (ends_at (phase_net phase full).arcs arc) seen z) is fresh;
          in_order = subst AreInOrder is n.0;
          needed = subst (λ z. AreNeededFor z (ends_at (phase_net phase full).arcs arc)) is n.1;
        }

    pub not_right : (node slot : ℕ) (now : List PieceLists) → IsStale (ends_at (phase_net phase full).arcs arc) seen node slot pieces → p.view.shares ≡ 64 → HasSeen p.view now
        → IsRight now (ends_at (phase_net phase full).arcs arc) seen → ⊥
    unfolding forest
    not_right node slot now st all s r =
        stale_not_right (phase_net phase full) p.view w (ends_at (phase_net phase full).arcs arc) seen node slot now (forest now s) g.taken
        (subst (λ z. IsStale (ends_at (phase_net phase full).arcs arc) seen node slot z) (sym g.got) st) all s r

-- an answer on pieces in hand, at a pass that had been so before they were taken
module _ (net : Network) (real : ℕ) (p m q : PassState) (seen : Seen) (arc : ℕ) (spare : m.spare ≡ p.spare) (shares : m.view.shares ≡ p.view.shares) (entries : m.view.entries ≡ p.view.entries) where
  none_more : HasNoMore m q → HasNoMore p q
  none_more h = record { spare = h.spare ∙ spare; entries = h.entries ∙ entries }

  pivot_more : (pieces : List PieceLists) (ticket : ℕ) → HasPivoted net real m q pieces arc ticket → HasPivoted net real p q pieces arc ticket
  pivot_more pieces ticket h = record {
    spare = h.spare ∙ spare;
    entry = h.entry;
    after = h.after;
    is_pivoted = h.is_pivoted;
    entries = h.entries ∙ ap (λ z. z ++ (ticket, record { entry = h.entry; before = pieces; after = h.after }) ∷ []) entries;
    rises = subst (λ z. AreBelow ticket z) entries h.rises;
    all = λ e. h.all (shares ∙ e) ∙ ap length entries;
  }

  tried : (r : Attempted) → HasReached net real p q seen arc → IsTriedOn net real m q q.view.got arc r → IsAttempted net real p q seen arc r
  tried (attempted.Pivoted ticket) reach h = (reach, pivot_more q.view.got ticket h)
  tried (attempted.Busy slot word) reach h = absurd h
  tried (attempted.Stale node slot) reach h = absurd h
  tried attempted.NotEligible reach h = (none_more h.0, reach, h.1, h.2)
  tried attempted.Ray reach h = (none_more h.0, reach, h.1)
  tried (attempted.Past overflow) reach h = (none_more h.0, reach, h.1)
  tried attempted.Memory reach h = (none_more h.0, reach, h.1, h.2)

  pub attempted_on : (r : Attempted) (pieces got : List PieceLists) → q.view.got ≡ got → got ≡ pieces → HasReached net real p q seen arc → IsTriedOn net real m q pieces arc r → IsAttempted net real p q seen arc r
  unfolding tried
  attempted_on r pieces got is are reach h = tried r reach (subst (λ z. IsTriedOn net real m q z arc r) (sym (is ∙ are)) h)
