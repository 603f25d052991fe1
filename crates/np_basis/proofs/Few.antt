-- An arc needs one or two pieces, and a pivot on them gives one or two pieces on their nodes.
use Rattle.std.specs.Prelude.{◌≡◌, ◌⊎◌, ℕ, ◌<◌, List, [], ◌∷◌, ◌++◌, map, length, slice_index}
use Rattle.std.proofs.Common.{refl, sym, subst, ◌∙◌, inl, inr, arith}
use Rattle.gain_graphs.specs.Arcs as graph
use Rattle.gain_graphs.specs.Arcs.{IsIn, AreDistinct, AreJoined}
use Rattle.gain_graphs.specs.QuasiTrees.{LiesIn}
use Rattle.gain_graphs.proofs.Lists.{in_front, in_back, in_append, in_map_of, in_others, in_with, split_at, others_once, distinct_append, decide_in}
use Rattle.gain_graphs.proofs.Walks as walks
use Rattle.np_frac.specs.Ratio.{Ratio}
use Rattle.np_model.specs.declared.arc.Ends.{Ends}
use Rattle.np_model.specs.declared.arc.Ends.TheVariants.{Link, Drain, Feed}
use Rattle.np_model.specs.declared.log.Entry.{Entry}
use Rattle.np_model.specs.Network.Arcs.{AreNodes, IsGaining}
use Rattle.np_model.specs.Network.Flows.{Network}
use Rattle.np_model.specs.Basis.Graphs.{ratios, graph_of, no_arc, ends_at}
use Rattle.np_model.specs.Basis.Pieces.{PieceLists, nodes_in, nodes_of, basics_of, least_node}
use Rattle.np_model.specs.Basis.Pivots.{IsPivot}
use Rattle.np_model.specs.Basis.Sound.{AreInOrder}
use Rattle.np_model.specs.Basis.States.{State, Values, values_of, basics, IsPieceOf}
use Rattle.np_basis.specs.Laws.{HasSoundArcs}
use Rattle.np_basis.specs.PivotLaws.{ArePiecesOf, Needed, PiecesHold, ArePiecesAfter, AtMostTwo}
use Rattle.np_model.specs.Basis.Needed.{AreNeededFor, AreBasicAfter}
use Rattle.np_basis.proofs.Ascending.{ascends, ascends_once}
use Rattle.np_basis.proofs.Basics.{basics_hold}
use Rattle.np_basis.proofs.Cutting as cutting
use Rattle.np_basis.proofs.Held as held
use Rattle.np_basis.proofs.Pivoting as pivoting
use Rattle.np_basis.proofs.Pivoting.{Given}
use Rattle.np_basis.proofs.Roots.{joined_more, needed_hold, only_one, two_roots}
use Rattle.np_basis.proofs.Sound.{alone_apart}
use Rattle.np_basis.proofs.Trees.{is_valid}

-- ---- one piece, or two

nodes_once : (net : Network) (s : Values) (p : PieceLists) → IsPieceOf net s p → AreDistinct (nodes_in p)
nodes_once net s p h = ascends_once (nodes_in p) (ascends (nodes_in p) h.part.nodes_ascend)

one_piece : (net : Network) (s : Values) (p : PieceLists) → IsPieceOf net s p → ArePiecesOf net s (p ∷ [])
one_piece net s p h = record {
  each = λ o. elim [ inl e ↦ subst (IsPieceOf net s) (sym e) h | inr i ↦ absurd i ];
  apart = alone_apart (nodes_in p) (nodes_once net s p h);
}

two_pieces : (net : Network) (s : Values) (p q : PieceLists) → IsPieceOf net s p → IsPieceOf net s q → ((u : ℕ) → IsIn u (nodes_in p) → ¬ IsIn u (nodes_in q)) → ArePiecesOf net s (p ∷ q ∷ [])
two_pieces net s p q h k apart = record {
  each = λ o. elim [ inl e ↦ subst (IsPieceOf net s) (sym e) h | inr i ↦ elim i [ inl e ↦ subst (IsPieceOf net s) (sym e) k | inr j ↦ absurd j ] ];
  apart = distinct_append (nodes_in p) (nodes_of (q ∷ [])) (nodes_once net s p h) (alone_apart (nodes_in q) (nodes_once net s q k)) (λ u i j. apart u i (only_one q u j));
}

-- ---- the pieces that an arc needs

module _ (net : Network) (s : Values) (sound : HasSoundArcs net) where
  needs : (e : Ends) → AreNodes (length net.supply) e → IsGaining e → Needed net s e
  needs (Drain v) nodes gain = let p = cutting.piece_exists net s v sound nodes in
      record { pieces = p.0 ∷ []; pieces_of = one_piece net s p.0 p.1; few = record {}; needed = in_front v (nodes_in p.0) [] p.2; hold = in_front v (nodes_in p.0) [] p.2 }
  needs (Feed v) nodes gain = let p = cutting.piece_exists net s v sound nodes in
      record { pieces = p.0 ∷ []; pieces_of = one_piece net s p.0 p.1; few = record {}; needed = in_front v (nodes_in p.0) [] p.2; hold = in_front v (nodes_in p.0) [] p.2 }
  needs (Link i j g) nodes gain = go (cutting.piece_exists net s i sound nodes.0) (cutting.piece_exists net s j sound nodes.1)
    where
      go : (p : PieceLists) × IsPieceOf net s p × IsIn i (nodes_in p) → (q : PieceLists) × IsPieceOf net s q × IsIn j (nodes_in q) → Needed net s (Link i j g)
      go p q = elim (decide_in j (nodes_in p.0)) [
        | yes l ↦ (let held : LiesIn ratios (nodes_of (p.0 ∷ [])) (graph.Link i j g) = (in_front i (nodes_in p.0) [] p.2, in_front j (nodes_in p.0) [] l, (is_valid (length net.supply) (Link i j g) nodes gain).2) in
            record { pieces = p.0 ∷ []; pieces_of = one_piece net s p.0 p.1; few = record {}; needed = held; hold = held })
        | no n ↦ record {
          pieces = p.0 ∷ q.0 ∷ [];
          pieces_of = two_pieces net s p.0 q.0 p.1 q.1 (λ u x y. n (subst (λ o. IsIn j (nodes_in o)) (sym (cutting.piece_is_unique net s p.0 q.0 u p.1 q.1 x y)) q.2));
          few = record {};
          needed = inl (p.2, q.2);
          hold = needed_hold (p.0 ∷ q.0 ∷ []) (Link i j g) (length net.supply) (is_valid (length net.supply) (Link i j g) nodes gain) (inl (p.2, q.2));
        }
      ]

pub pieces_hold : PiecesHold
pieces_hold net s a sound below = let h = sound a no_arc below in needs net s sound (ends_at net.arcs a) h.joins h.gain

-- ---- the pieces after a pivot

-- the least node is one of the nodes
least_in : (p : PieceLists) (v : ℕ) → IsIn v (nodes_in p) → IsIn (least_node p) (nodes_in p)
least_in p v i = go (nodes_in p) i
  where
    go : (ns : List ℕ) → IsIn v ns → IsIn (slice_index ns 0) ns
    go [] j = absurd j
    go (n ∷ ns) j = inl refl

module _ (net : Network) (real : ℕ) (s : State) (ps : List PieceLists) (entry : Entry) (g : Given net real s ps entry) (after : State) (v : IsPivot net real s entry after)
    (needed : AreNeededFor ps (ends_at net.arcs entry.enter)) where
  abbrev Joined : ℕ → ℕ → Type 0
  Joined u w = AreJoined (map (graph_of (ends_at net.arcs)) (basics net.arcs (values_of after).mark)) u w

  leave_in : IsIn entry.leave (entry.enter ∷ basics_of ps)
  leave_in = pivoting.leave_in net real s ps entry g after v

  -- what was theirs and does not leave
  now : (before : List ℕ) × (rest : List ℕ) × (before ++ entry.leave ∷ rest ≡ entry.enter ∷ basics_of ps)
  now = split_at entry.leave (entry.enter ∷ basics_of ps) leave_in

  now_basic : AreBasicAfter ps entry.enter entry.leave (now.0 ++ now.1)
  now_basic = record {
    once = others.0;
    are = λ a. (
      (λ i. (subst (IsIn a) now.2 (in_with a now.0 entry.leave now.1 i), λ e. others.1 (subst (λ x. IsIn x (now.0 ++ now.1)) e i))),
      (λ r. elim (in_others a now.0 entry.leave now.1 (subst (IsIn a) (sym now.2) r.0)) [ inl e ↦ absurd (r.1 e) | inr j ↦ j ]),
    );
  }
    where
      others : AreDistinct (now.0 ++ now.1) × (¬ IsIn entry.leave (now.0 ++ now.1))
      others = others_once now.0 entry.leave now.1 (subst AreDistinct (sym now.2) (pivoting.hand_entering net real s ps entry g).once)

  stays : (a : ℕ) → IsIn a (now.0 ++ now.1) → IsIn a (basics net.arcs (values_of after).mark)
  stays a i =
      let r = (now_basic.are a).0 i in
      let l = pivoting.hand_below net real s ps entry g a r.0 in
      (basics_hold net.arcs (values_of after).mark a).1 (l, v.marks a l ∙ pivoting.stays net real s ps entry g leave_in (pivoting.at_bound net real s ps entry g after v) a r.0 r.1)

  record Roots : Type 0 where
    one : ℕ
    other : ℕ
    has_one : IsIn one (nodes_of ps)
    has_other : IsIn other (nodes_of ps)
    joined : (u : ℕ) → IsIn u (nodes_of ps) → Joined u one ⊎ Joined u other

  roots : Roots
  roots =
      let t = two_roots net ps entry.enter entry.leave (now.0 ++ now.1) g.ground.sound (held.in_net net g.ground.sound s g.state ps g.pieces entry.enter (pivoting.may net real s ps entry g)) (pivoting.may net real s ps entry g) needed leave_in now_basic in
      record {
        one = t.0;
        other = t.1;
        has_one = t.2;
        has_other = t.3;
        joined = λ u i. elim (t.4 u i) [
          | inl w ↦ inl (joined_more (graph_of (ends_at net.arcs)) (now.0 ++ now.1) (basics net.arcs (values_of after).mark) stays u t.0 w)
          | inr w ↦ inr (joined_more (graph_of (ends_at net.arcs)) (now.0 ++ now.1) (basics net.arcs (values_of after).mark) stays u t.1 w)
        ];
      }

  -- ---- the pieces afterwards stay on these nodes

  crossing : (i j : ℕ) (k : Ratio) → IsIn (graph.Link i j k) (map (graph_of (ends_at net.arcs)) (basics net.arcs (values_of after).mark)) → IsIn i (nodes_of ps) ⊎ IsIn j (nodes_of ps)
      → IsIn (graph.Link i j k) (map (graph_of (ends_at net.arcs)) (basics net.arcs (values_of after).mark)) × IsIn i (nodes_of ps) × IsIn j (nodes_of ps)
  crossing i j k w t =
      let r = in_map_of (graph_of (ends_at net.arcs)) (graph.Link i j k) (basics net.arcs (values_of after).mark) w in
      let b = (basics_hold net.arcs (values_of after).mark r.0).0 r.1 in
      let hand = pivoting.was net real s ps entry g leave_in (pivoting.at_bound net real s ps entry g after v) r.0 b.0 (subst (graph.Touches (nodes_of ps)) r.2 t) (sym (v.marks r.0 b.0) ∙ b.1) in
      let l : LiesIn ratios (nodes_of ps) (graph.Link i j k) = subst (LiesIn ratios (nodes_of ps)) (sym r.2) (pivoting.hand_lies net real s ps entry g r.0 hand.0) in
      (w, l.0, l.1)

  record Rooted (x : ℕ) : Type 0 where
    piece : PieceLists
    is_piece : IsPieceOf net (values_of after) piece
    has_root : IsIn x (nodes_in piece)
    within : (u : ℕ) → IsIn u (nodes_in piece) → IsIn u (nodes_of ps)
    reaches : (u : ℕ) → IsIn u (nodes_of ps) → Joined u x → IsIn u (nodes_in piece)

  below : (x : ℕ) → IsIn x (nodes_of ps) → x < length net.supply
  below x i = held.node_in_net net g.ground.sound (values_of s) ps g.pieces x i

  rooted : (x : ℕ) → IsIn x (nodes_of ps) → Rooted x
  rooted x i = record {
    piece = r.0;
    is_piece = r.1;
    has_root = r.2;
    within = λ u j. let w = walks.joined_trans (map (graph_of (ends_at net.arcs)) (basics net.arcs (values_of after).mark)) x r.1.part.least u
        (walks.joined_sym (map (graph_of (ends_at net.arcs)) (basics net.arcs (values_of after).mark)) r.1.part.least x to_root) ((r.1.part.is_piece.joined u).0 j).1 in
        (walks.within (λ y. IsIn y (nodes_of ps)) (map (graph_of (ends_at net.arcs)) (basics net.arcs (values_of after).mark)) (map (graph_of (ends_at net.arcs)) (basics net.arcs (values_of after).mark)) crossing w.0 x u i w.1).1;
    reaches = λ u j w. (r.1.part.is_piece.joined u).1 (
      below u j,
      walks.joined_trans (map (graph_of (ends_at net.arcs)) (basics net.arcs (values_of after).mark)) r.1.part.least x u to_root
          (walks.joined_sym (map (graph_of (ends_at net.arcs)) (basics net.arcs (values_of after).mark)) u x w),
    );
  }
    where
      r : (p : PieceLists) × IsPieceOf net (values_of after) p × IsIn x (nodes_in p)
      r = cutting.piece_exists net (values_of after) x g.ground.sound (below x i)

      to_root : Joined r.1.part.least x
      to_root = ((r.1.part.is_piece.joined x).0 r.2).1

  abbrev Result : Type 0
  Result = (others : List PieceLists) × AreInOrder others × ArePiecesAfter net ps after others

  in_order : (p q : PieceLists) → IsPieceOf net (values_of after) p → IsPieceOf net (values_of after) q → least_node p < least_node q → ((u : ℕ) → IsIn u (nodes_in p) → ¬ IsIn u (nodes_in q))
      → ((u : ℕ) → IsIn u (nodes_in p) → IsIn u (nodes_of ps)) → ((u : ℕ) → IsIn u (nodes_in q) → IsIn u (nodes_of ps)) → ((u : ℕ) → IsIn u (nodes_of ps) → IsIn u (nodes_in p) ⊎ IsIn u (nodes_in q)) → Result
  in_order p q h k l apart f m all = (
    p ∷ q ∷ [],
    l,
    record {
      pieces_of = two_pieces net (values_of after) p q h k apart;
      same_nodes = λ u. (
        (λ i. elim (all u i) [ inl j ↦ in_front u (nodes_in p) (nodes_of (q ∷ [])) j | inr j ↦ in_back u (nodes_in p) (nodes_of (q ∷ [])) (in_front u (nodes_in q) [] j) ]),
        (λ i. elim (in_append u (nodes_in p) (nodes_of (q ∷ [])) i) [ inl j ↦ f u j | inr j ↦ m u (only_one q u j) ]),
      );
    },
  )

  result : Result
  result = go (decide_in roots.other (nodes_in p.piece)) (cases (least_node p.piece) (least_node q.piece))
    where
      p : Rooted roots.one
      p = rooted roots.one roots.has_one

      q : Rooted roots.other
      q = rooted roots.other roots.has_other

      cases : (a b : ℕ) → (a < b) ⊎ ((b < a) ⊎ (a ≡ b))
      cases a b = grind arith

      same : (u : ℕ) → IsIn u (nodes_in p.piece) → IsIn u (nodes_in q.piece) → p.piece ≡ q.piece
      same u i j = cutting.piece_is_unique net (values_of after) p.piece q.piece u p.is_piece q.is_piece i j

      all : (u : ℕ) → IsIn u (nodes_of ps) → IsIn u (nodes_in p.piece) ⊎ IsIn u (nodes_in q.piece)
      all u i = elim (roots.joined u i) [ inl w ↦ inl (p.reaches u i w) | inr w ↦ inr (q.reaches u i w) ]

      apart : (¬ IsIn roots.other (nodes_in p.piece)) → (u : ℕ) → IsIn u (nodes_in p.piece) → ¬ IsIn u (nodes_in q.piece)
      apart n u i j = n (subst (λ o. IsIn roots.other (nodes_in o)) (sym (same u i j)) q.has_root)

      all_in_one : IsIn roots.other (nodes_in p.piece) → (u : ℕ) → IsIn u (nodes_of ps) → IsIn u (nodes_in p.piece)
      all_in_one i u j = elim (all u j) [ inl k ↦ k | inr k ↦ subst (λ o. IsIn u (nodes_in o)) (sym (same roots.other i q.has_root)) k ]

      go : Dec (IsIn roots.other (nodes_in p.piece)) → (least_node p.piece < least_node q.piece) ⊎ ((least_node q.piece < least_node p.piece) ⊎ (least_node p.piece ≡ least_node q.piece)) → Result
      go (yes i) _ = (
        p.piece ∷ [],
        record {},
        record {
          pieces_of = one_piece net (values_of after) p.piece p.is_piece;
          same_nodes = λ u. ((λ j. in_front u (nodes_in p.piece) [] (all_in_one i u j)), (λ j. p.within u (only_one p.piece u j)));
        },
      )
      go (no n) (inl l) = in_order p.piece q.piece p.is_piece q.is_piece l (apart n) p.within q.within all
      go (no n) (inr (inl l)) = in_order q.piece p.piece q.is_piece p.is_piece l (λ u i j. apart n u j i) q.within p.within (λ u i. elim (all u i) [ inl k ↦ inr k | inr k ↦ inl k ])
      go (no n) (inr (inr e)) = absurd (apart n (least_node p.piece) (least_in p.piece roots.one p.has_root)
          (subst (λ u. IsIn u (nodes_in q.piece)) (sym e) (least_in q.piece roots.other q.has_root)))

pub at_most_two : AtMostTwo
at_most_two net real s entry after ps ground st pieces needed v =
    let below : entry.enter < length net.arcs = omega (arith, v.eligible.is_open.0, ground.few) in
    let e = ground.sound entry.enter no_arc below in
    let into = needed_hold ps (ends_at net.arcs entry.enter) (length net.supply) (is_valid (length net.supply) (ends_at net.arcs entry.enter) e.joins e.gain) needed in
    result net real s ps entry (pivoting.given net real s ps entry after ground st pieces into v) after v needed
