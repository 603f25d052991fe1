-- Beside other pieces: the pieces after a pivot stand with the others as the pieces before it did.
use Rattle.std.specs.Prelude.{◌≡◌, ℕ, List, [], ◌∷◌, ◌++◌, length}
use Rattle.std.proofs.Common.{refl, sym, ap, subst, ◌∙◌, inl, inr, append_assoc}
use Rattle.gain_graphs.specs.Arcs.{IsIn, AreDistinct, Touches}
use Rattle.gain_graphs.specs.QuasiTrees.{LiesIn}
use Rattle.gain_graphs.proofs.Lists.{in_map, in_map_of, in_front, in_back, in_append, distinct_append, apart_parts, once_left, once_right}
use Rattle.gain_graphs.proofs.Pieces as graph_pieces
use Rattle.np_model.specs.declared.log.Mark.{Mark}
use Rattle.np_model.specs.declared.log.Entry.{Entry}
use Rattle.np_model.specs.Network.Flows.{Network}
use Rattle.np_model.specs.Basis.Graphs.{ratios, graph_of, ends_at}
use Rattle.np_model.specs.Basis.Pieces.{PieceLists, nodes_in, basics_in, nodes_of, basics_of}
use Rattle.np_model.specs.Basis.Sound.{values_in, AreSound, IsAfter}
use Rattle.np_basis.proofs.Pivoting.{mark_other}
use Rattle.np_basis.proofs.Reading.{in_flat, in_flat_of, touches_flat}
use Rattle.np_basis.proofs.Sound as sounds

nodes_both : (ps rest : List PieceLists) → nodes_of (ps ++ rest) ≡ nodes_of ps ++ nodes_of rest
nodes_both [] rest = refl
nodes_both (p ∷ ps) rest = ap (λ ns. nodes_in p ++ ns) (nodes_both ps rest) ∙ sym (append_assoc (nodes_in p) (nodes_of ps) (nodes_of rest))

-- sound pieces in another order, or some of them
pub some_sound : (net : Network) (ps qs : List PieceLists) → AreSound net ps → ((p : PieceLists) → IsIn p qs → IsIn p ps) → AreDistinct (nodes_of qs) → AreSound net qs
some_sound net ps qs sound of once = record {
  each = λ p i. sound.each p (of p i);
  apart = once;
  one_mark = λ p q m k i j. sound.one_mark p q m k (of p i) (of q j);
}

pub swapped_sound : (net : Network) (p q : PieceLists) → AreSound net (p ∷ q ∷ []) → AreSound net (q ∷ p ∷ [])
swapped_sound net p q sound = some_sound net (p ∷ q ∷ []) (q ∷ p ∷ []) sound (λ x. elim [ inl e ↦ inr (inl e) | inr i ↦ elim i [ inl e ↦ inl e | inr z ↦ absurd z ] ])
    (distinct_append (nodes_in q) (nodes_of (p ∷ [])) (once_left (nodes_in q) [] (once_right (nodes_in p) (nodes_of (q ∷ [])) sound.apart)) (distinct_append (nodes_in p) [] (once_left (nodes_in p) (nodes_of (q ∷ [])) sound.apart) (record {}) (λ u i j. j))
    (λ u i j. apart_parts (nodes_in p) (nodes_of (q ∷ [])) sound.apart u (elim (in_append u (nodes_in p) [] j) [ inl k ↦ k | inr z ↦ absurd z ]) (in_front u (nodes_in q) [] i)))

module _ (net : Network) (real : ℕ) (ps rest : List PieceLists) (sound : AreSound net (ps ++ rest)) (entry : Entry) (qs : List PieceLists) (h : IsAfter net real ps entry qs) where
  apart : AreDistinct (nodes_of ps ++ nodes_of rest)
  apart = subst AreDistinct (nodes_both ps rest) sound.apart

  of_ps : (p : PieceLists) → IsIn p ps → IsIn p (ps ++ rest)
  of_ps p i = in_front p ps rest i

  of_rest : (p : PieceLists) → IsIn p rest → IsIn p (ps ++ rest)
  of_rest p i = in_back p ps rest i

  -- what has a node of another piece at an end has not both ends among these
  away : (r : PieceLists) → IsIn r rest → (ns : List ℕ) → ((v : ℕ) → IsIn v ns → IsIn v (nodes_of ps)) → (a : ℕ) → Touches (nodes_in r) (graph_of (ends_at net.arcs) a) → LiesIn ratios ns (graph_of (ends_at net.arcs) a) → ⊥
  away r j ns into a touches lies =
      let w = graph_pieces.both ratios (length net.supply) (graph_of (ends_at net.arcs)) ns (nodes_in r) (graph_of (ends_at net.arcs) a) lies touches in
      apart_parts (nodes_of ps) (nodes_of rest) apart w.0 (into w.0 w.1) (in_flat nodes_in rest r w.0 j w.2)

  not_hand : (r : PieceLists) → IsIn r rest → (a : ℕ) → Touches (nodes_in r) (graph_of (ends_at net.arcs) a) → IsIn a (entry.enter ∷ basics_of ps) → ⊥
  not_hand r j a touches (inl e) = away r j (nodes_of ps) (λ v i. i) a touches (subst (λ x. LiesIn ratios (nodes_of ps) (graph_of (ends_at net.arcs) x)) (sym e) h.ends)
  not_hand r j a touches (inr i) =
      let p = in_flat_of basics_in ps a i in
      away r j (nodes_in p.0) (λ v l. in_flat nodes_in ps p.0 v p.1 l) a touches (sounds.inside net ps h.sound p.0 a p.1 p.2)

  -- a link to another piece keeps its mark
  across : (o r : PieceLists) (m k : ℕ × Mark) → IsIn o qs → IsIn r rest → IsIn m o.marks → IsIn k r.marks → m.0 ≡ k.0 → m.1 ≡ k.1
  across o r m k i j u w e =
      let mine = ((h.sound_after.each o i).in_net.marked m.0).0 (in_map (λ (x : ℕ × Mark). x.0) m o.marks u) in
      let theirs = ((sound.each r (of_rest r j)).in_net.marked k.0).0 (in_map (λ (x : ℕ × Mark). x.0) k r.marks w) in
      let other : Touches (nodes_in r) (graph_of (ends_at net.arcs) m.0) = subst (λ x. Touches (nodes_in r) (graph_of (ends_at net.arcs) x)) (sym e) theirs.2 in
      let touches : Touches (nodes_of ps) (graph_of (ends_at net.arcs) m.0) = sounds.touch_wider (nodes_of qs) (nodes_of ps) (graph_of (ends_at net.arcs) m.0) (λ v t. (h.same_nodes v).1 t)
      (sounds.touch_more qs o (graph_of (ends_at net.arcs) m.0) i mine.2) in
      let p = touches_flat ps (graph_of (ends_at net.arcs) m.0) touches in
      let entry_of = in_map_of (λ (x : ℕ × Mark). x.0) m.0 p.0.marks (((h.sound.each p.0 p.1).in_net.marked m.0).1 (mine.0, (λ t. not_hand r j m.0 other (inr (in_flat basics_in ps p.0 m.0 p.1 t))), p.2)) in
      sym (sounds.mark_said net qs h.sound_after o m i u) ∙ h.marks m.0 mine.0 touches
      ∙ mark_other entry (values_in net ps).mark m.0 (λ f. not_hand r j m.0 other (inl f)) (λ f. not_hand r j m.0 other (subst (λ x. IsIn x (entry.enter ∷ basics_of ps)) (sym f) h.move.leaves))
      ∙ ap (values_in net ps).mark entry_of.2 ∙ sounds.mark_said net ps h.sound p.0 entry_of.0 p.1 entry_of.1
      ∙ sound.one_mark p.0 r entry_of.0 k (of_ps p.0 p.1) (of_rest r j) entry_of.1 w (sym entry_of.2 ∙ e)

  pub with_others : AreSound net (qs ++ rest)
  with_others = record {
    each = λ p i. elim (in_append p qs rest i) [ inl j ↦ h.sound_after.each p j | inr j ↦ sound.each p (of_rest p j) ];
    apart = subst AreDistinct (sym (nodes_both qs rest)) (distinct_append (nodes_of qs) (nodes_of rest) h.sound_after.apart (once_right (nodes_of ps) (nodes_of rest) apart)
        (λ u i j. apart_parts (nodes_of ps) (nodes_of rest) apart u ((h.same_nodes u).1 i) j));
    one_mark = λ p q m k i j u w e. elim (in_append p qs rest i) [
      | inl x ↦ elim (in_append q qs rest j) [ inl y ↦ h.sound_after.one_mark p q m k x y u w e | inr y ↦ across p q m k x y u w e ]
      | inr x ↦ elim (in_append q qs rest j) [ inl y ↦ sym (across q p k m y x w u (sym e)) | inr y ↦ sound.one_mark p q m k (of_rest p x) (of_rest q y) u w e ]
    ];
  }
