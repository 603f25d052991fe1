-- Pieces that have the ends of an arc at the slots where they were seen are those that the arc needs.
use Rattle.std.proofs.Common.{◌≢◌, inl, inr, ⊎_elim, ℕ, ◌<◌, List, [], ◌∷◌, sym, ◌∙◌, subst, arith}
use Rattle.std.specs.Prelude.{Option, Some, None, length}
use Rattle.gain_graphs.specs.Arcs.{IsIn}
use Rattle.gain_graphs.proofs.Lists.{in_front}
use Rattle.np_frac.specs.Ratio.{Ratio, zero_ratio}
use Rattle.np_model.specs.declared.arc.Ends.{Ends}
use Rattle.np_model.specs.declared.arc.Ends.TheVariants.{Link, Drain, Feed}
use Rattle.np_model.specs.Network.Arcs.{AreNodes, IsGaining}
use Rattle.np_model.specs.Network.Flows.{Network}
use Rattle.np_model.specs.Basis.Graphs.{no_arc, ends_at}
use Rattle.np_model.specs.Basis.Needed.{AreNeededFor}
use Rattle.np_model.specs.Basis.Pieces.{PieceLists, nodes_in}
use Rattle.np_model.specs.Basis.Sound.{AreInOrder}
use Rattle.np_basis.specs.Laws.{HasSoundArcs}
use Rattle.np_basis.proofs.Trees.{is_valid}
use Rattle.tree_table.specs.Slots.{LiesAt}
use Rattle.pivot_workers.specs.declared.seeing.Seen.{Seen}
use Rattle.pivot_workers.specs.Takes.{HasSecond, LieAt, in_order, slots_of}
use Rattle.pivot_workers.specs.Stale.{HasAt, AreFresh, IsFresh}
use Rattle.pivot_workers.proofs.Places.{by_order}

has_one : (a v : ℕ) (p : PieceLists) → HasAt a v (p ∷ []) → IsIn v (nodes_in p)
has_one a v p h = ⊎_elim (λ (x : LiesAt a p × IsIn v (nodes_in p)). x.1) (λ (x : ⊥). absurd x) h

has_first : (a c v : ℕ) (p q : PieceLists) → LiesAt c q → c ≢ a → HasAt a v (p ∷ q ∷ []) → IsIn v (nodes_in p)
has_first a c v p q lies n h =
    ⊎_elim
    (λ (x : LiesAt a p × IsIn v (nodes_in p)). x.1)
    (λ (x : HasAt a v (q ∷ [])). ⊎_elim (λ (y : LiesAt a q × IsIn v (nodes_in q)). absurd (n (sym lies.0 ∙ y.0.0))) (λ (y : ⊥). absurd y) x)
    h

has_second : (a c v : ℕ) (p q : PieceLists) → LiesAt c p → c ≢ a → HasAt a v (p ∷ q ∷ []) → IsIn v (nodes_in q)
has_second a c v p q lies n h =
    ⊎_elim
    (λ (x : LiesAt a p × IsIn v (nodes_in p)). absurd (n (sym lies.0 ∙ x.0.0)))
    (λ (x : HasAt a v (q ∷ [])). has_one a v q x)
    h

needs_drain : (a v : ℕ) (ps : List PieceLists) → LieAt (a ∷ []) ps → HasAt a v ps → AreInOrder ps × AreNeededFor ps (Drain v)
needs_drain a v [] lie h = absurd h
needs_drain a v (p ∷ []) lie h = (record {}, in_front v (nodes_in p) [] (has_one a v p h))
needs_drain a v (p ∷ q ∷ ps) lie h = absurd lie.1

needs_feed : (a v : ℕ) (ps : List PieceLists) → LieAt (a ∷ []) ps → HasAt a v ps → AreInOrder ps × AreNeededFor ps (Feed v)
needs_feed a v [] lie h = absurd h
needs_feed a v (p ∷ []) lie h = (record {}, in_front v (nodes_in p) [] (has_one a v p h))
needs_feed a v (p ∷ q ∷ ps) lie h = absurd lie.1

module _ (from to : ℕ) (gain : Ratio) (gains : gain ≢ zero_ratio) where
  needs_same : (a : ℕ) (ps : List PieceLists) → LieAt (a ∷ []) ps → HasAt a from ps → HasAt a to ps → AreInOrder ps × AreNeededFor ps (Link from to gain)
  needs_same a [] lie h k = absurd h
  needs_same a (p ∷ []) lie h k = (record {}, (in_front from (nodes_in p) [] (has_one a from p h), in_front to (nodes_in p) [] (has_one a to p k), gains))
  needs_same a (p ∷ q ∷ ps) lie h k = absurd lie.1

  needs_up : (a b : ℕ) (ps : List PieceLists) → a < b → LieAt (a ∷ b ∷ []) ps → HasAt a from ps → HasAt b to ps → AreInOrder ps × AreNeededFor ps (Link from to gain)
  needs_up a b [] up lie h k = absurd h
  needs_up a b (p ∷ []) up lie h k = absurd lie.1
  needs_up a b (p ∷ q ∷ []) up lie h k =
      ((let x = lie.0.0 in let y = lie.1.0.0 in omega arith), inl (has_first a b from p q lie.1.0 (λ e. omega arith) h, has_second b a to p q lie.0 (λ e. omega arith) k))
  needs_up a b (p ∷ q ∷ r ∷ ps) up lie h k = absurd lie.1.1

  needs_down : (a b : ℕ) (ps : List PieceLists) → b < a → LieAt (b ∷ a ∷ []) ps → HasAt a from ps → HasAt b to ps → AreInOrder ps × AreNeededFor ps (Link from to gain)
  needs_down a b [] up lie h k = absurd h
  needs_down a b (p ∷ []) up lie h k = absurd lie.1
  needs_down a b (p ∷ q ∷ []) up lie h k =
      ((let x = lie.0.0 in let y = lie.1.0.0 in omega arith), inr (has_second a b from p q lie.0 (λ e. omega arith) h, has_first b a to p q lie.1.0 (λ e. omega arith) k))
  needs_down a b (p ∷ q ∷ r ∷ ps) up lie h k = absurd lie.1.1

  needs_link : (a b : ℕ) (ps : List PieceLists) → LieAt (in_order a (Some b)) ps → HasAt a from ps → HasAt b to ps → AreInOrder ps × AreNeededFor ps (Link from to gain)
  needs_link a b ps =
      by_order (λ z. LieAt z ps → HasAt a from ps → HasAt b to ps → AreInOrder ps × AreNeededFor ps (Link from to gain)) a b
      (λ e lie h k. needs_same a ps lie h (subst (λ (z : ℕ). HasAt z to ps) e k))
      (λ lt lie h k. needs_up a b ps lt lie h k)
      (λ lt lie h k. needs_down a b ps lt lie h k)

needs_ends : (n : ℕ) (ends : Ends) → AreNodes n ends → IsGaining ends → (a : ℕ) (b : Option ℕ) → HasSecond ends b → (ps : List PieceLists) → LieAt (in_order a b) ps → AreFresh ends a b ps
    → AreInOrder ps × AreNeededFor ps ends
needs_ends n (Link from to gain) nodes gains a None fits ps lie h = absurd h
needs_ends n (Link from to gain) nodes gains a (Some b) fits ps lie h = needs_link from to gain (is_valid n (Link from to gain) nodes gains).2 a b ps lie h.0 h.1
needs_ends n (Drain v) nodes gains a None fits ps lie h = needs_drain a v ps lie h
needs_ends n (Drain v) nodes gains a (Some b) fits ps lie h = absurd fits
needs_ends n (Feed v) nodes gains a None fits ps lie h = needs_feed a v ps lie h
needs_ends n (Feed v) nodes gains a (Some b) fits ps lie h = absurd fits

pub fresh_needed : (net : Network) (arc : ℕ) (seen : Seen) (ps : List PieceLists) → HasSoundArcs net → arc < length net.arcs → HasSecond (ends_at net.arcs arc) seen.second
    → LieAt (slots_of seen) ps → IsFresh (ends_at net.arcs arc) seen ps → AreInOrder ps × AreNeededFor ps (ends_at net.arcs arc)
fresh_needed net arc seen ps sound below fits lie fresh =
    let h = sound arc no_arc below in needs_ends (length net.supply) (ends_at net.arcs arc) h.joins h.gain seen.first seen.second fits ps lie fresh
