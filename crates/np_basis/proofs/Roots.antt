-- The exchange of an arc in pieces, with no state at hand: what is basic then makes quasi-trees, and at most two of them.
use Rattle.std.specs.Prelude.{◌≡◌, ◌≢◌, ◌⊎◌, ℕ, ◌<◌, List, [], ◌∷◌, ◌++◌, map, length}
use Rattle.std.proofs.Common.{refl, sym, ap, subst, ◌∙◌, inl, inr}
use Rattle.gain_graphs.specs.Arcs as graph
use Rattle.gain_graphs.specs.Arcs.{IsIn, AreDistinct, AreJoined}
use Rattle.gain_graphs.specs.Forests.{IsPiece, IsValid}
use Rattle.gain_graphs.specs.QuasiTrees.{LiesIn, IsQuasiTree}
use Rattle.gain_graphs.proofs.Leaving as graph_leaving
use Rattle.gain_graphs.proofs.Lists.{in_front, in_back, in_append, in_map, in_map_of, in_with, map_append, split_at, others_once}
use Rattle.gain_graphs.proofs.Theorems as theorems
use Rattle.gain_graphs.proofs.Walks as walks
use Rattle.np_frac.specs.Ratio.{Ratio, zero_ratio}
use Rattle.np_model.specs.declared.arc.Ends.{Ends}
use Rattle.np_model.specs.declared.arc.Ends.TheVariants.{Link, Drain, Feed}
use Rattle.np_model.specs.Network.Flows.{Network}
use Rattle.np_model.specs.Basis.Graphs.{ratios, graph_of, graph_ends, ends_at}
use Rattle.np_model.specs.Basis.Pieces.{PieceLists, nodes_in, basics_in, nodes_of, basics_of}
use Rattle.np_model.specs.Basis.Sound.{HoldEnds}
use Rattle.np_model.specs.Basis.States.{IsPartOf}
use Rattle.np_basis.specs.Laws.{HasSoundArcs}
use Rattle.np_basis.specs.PivotLaws.{AreInNet, MayEnter, TreesAfter, PartAfterExists, TwoRoots}
use Rattle.np_model.specs.Basis.Needed.{IsDirectionOf, LinksBoth, AreNeededFor, AreBasicAfter}
use Rattle.np_basis.proofs.Ascending.{rises, ascends_once, Sorted, sort}
use Rattle.np_basis.proofs.Cutting.{same_members}
use Rattle.np_basis.proofs.Directions as directions
use Rattle.np_basis.proofs.Leaving as leaving
use Rattle.np_basis.proofs.Reading.{in_flat, in_flat_of}
use Rattle.np_basis.proofs.Trees as trees

-- nodes that links of some arcs join stay joined among more
pub joined_more : (ends : ℕ → graph.Ends Ratio) (xs ys : List ℕ) → ((a : ℕ) → IsIn a xs → IsIn a ys) → (u v : ℕ) → AreJoined (map ends xs) u v → AreJoined (map ends ys) u v
joined_more ends xs ys sub u v w = (
  w.0,
  (walks.within (λ z. Unit {0}) (map ends xs) (map ends ys) (λ i j g k t.
      let r = in_map_of ends (graph.Link i j g) xs k in
      (subst (λ x. IsIn x (map ends ys)) (sym r.2) (in_map ends r.0 ys (sub r.0 r.1)), tt, tt)) w.0 u v tt w.1).0,
)

-- the pieces that an arc needs hold its ends
pub needed_hold : (ps : List PieceLists) (e : Ends) → (n : ℕ) → IsValid ratios n (graph_ends e) → AreNeededFor ps e → HoldEnds ps e
needed_hold [] e n v h = absurd h
needed_hold (p ∷ []) e n v h = h
needed_hold (p ∷ q ∷ []) (Link i j g) n v h = elim h [
  | inl k ↦ (in_front i (nodes_in p) (nodes_of (q ∷ [])) k.0, in_back j (nodes_in p) (nodes_of (q ∷ [])) (in_front j (nodes_in q) [] k.1), v.2)
  | inr k ↦ (in_back i (nodes_in p) (nodes_of (q ∷ [])) (in_front i (nodes_in q) [] k.0), in_front j (nodes_in p) (nodes_of (q ∷ [])) k.1, v.2)
]
needed_hold (p ∷ q ∷ []) (Drain x) n v h = absurd h
needed_hold (p ∷ q ∷ []) (Feed x) n v h = absurd h
needed_hold (p ∷ q ∷ r ∷ rest) e n v h = absurd h

-- a node of one piece alone
pub only_one : (p : PieceLists) (x : ℕ) → IsIn x (nodes_of (p ∷ [])) → IsIn x (nodes_in p)
only_one p x k = elim (in_append x (nodes_in p) [] k) [ inl l ↦ l | inr l ↦ absurd l ]

module _ (net : Network) (sound : HasSoundArcs net) (ps : List PieceLists) (enter : ℕ) (all : AreInNet net ps) (may : MayEnter net ps enter) where
  entering : directions.Enters net sound (nodes_of ps) (enter ∷ basics_of ps) (basics_of ps) enter
  entering = directions.of_entering net sound ps enter all may

  all_lie : (a : ℕ) → IsIn a (enter ∷ basics_of ps) → LiesIn ratios (nodes_of ps) (graph_of (ends_at net.arcs) a)
  all_lie a = elim [ inl e ↦ subst (λ t. LiesIn ratios (nodes_of ps) (graph_of (ends_at net.arcs) t)) (sym e) may.ends | inr i ↦ entering.basis.lies a i ]

  node_below : (v : ℕ) → IsIn v (nodes_of ps) → v < length net.supply
  node_below v i = let r = in_flat_of nodes_in ps v i in (all.each r.0 r.1).nodes v r.2

  -- ---- all nodes are joined by the basic arcs and the entering one

  in_one : (p : PieceLists) → IsIn p ps → (u z : ℕ) → IsIn u (nodes_in p) → IsIn z (nodes_in p) → AreJoined (map (graph_of (ends_at net.arcs)) (enter ∷ basics_of ps)) u z
  in_one p k u z i j = joined_more (graph_of (ends_at net.arcs)) (basics_in p) (enter ∷ basics_of ps) (λ a l. inr (in_flat basics_in ps p a k l)) u z ((trees.tree net p (all.each p k)).joined u z i j)

  linked : (os : List PieceLists) → ((p : PieceLists) → IsIn p os → IsIn p ps) → AreNeededFor os (ends_at net.arcs enter) → (u z : ℕ) → IsIn u (nodes_of os) → IsIn z (nodes_of os)
      → AreJoined (map (graph_of (ends_at net.arcs)) (enter ∷ basics_of ps)) u z
  linked [] sub h u z i j = absurd i
  linked (p ∷ []) sub h u z i j = in_one p (sub p (inl refl)) u z (only_one p u i) (only_one p z j)
  linked (p ∷ q ∷ []) sub h u z i j = elim (in_append u (nodes_in p) (nodes_of (q ∷ [])) i) [
    | inl x ↦ elim (in_append z (nodes_in p) (nodes_of (q ∷ [])) j) [
      | inl y ↦ in_one p (sub p (inl refl)) u z x y
      | inr y ↦ across (ends_at net.arcs enter) refl h u z x (only_one q z y)
    ]
    | inr x ↦ elim (in_append z (nodes_in p) (nodes_of (q ∷ [])) j) [
      | inl y ↦ walks.joined_sym (map (graph_of (ends_at net.arcs)) (enter ∷ basics_of ps)) z u (across (ends_at net.arcs enter) refl h z u y (only_one q u x))
      | inr y ↦ in_one q (sub q (inr (inl refl))) u z (only_one q u x) (only_one q z y)
    ]
  ]
    where
      across : (e : Ends) → ends_at net.arcs enter ≡ e → LinksBoth (nodes_in p) (nodes_in q) e → (u z : ℕ) → IsIn u (nodes_in p) → IsIn z (nodes_in q)
          → AreJoined (map (graph_of (ends_at net.arcs)) (enter ∷ basics_of ps)) u z
      across (Drain x) e k u z i j = absurd k
      across (Feed x) e k u z i j = absurd k
      across (Link a b g) e k u z i j = elim k [
        | inl l ↦ walks.joined_trans (map (graph_of (ends_at net.arcs)) (enter ∷ basics_of ps)) u a z (in_one p (sub p (inl refl)) u a i l.0)
            (walks.joined_trans (map (graph_of (ends_at net.arcs)) (enter ∷ basics_of ps)) a b z (graph.Along a b g ∷ [], (refl, inl (ap graph_ends (sym e)), refl)) (in_one q (sub q (inr (inl refl))) b z l.1 j))
        | inr l ↦ walks.joined_trans (map (graph_of (ends_at net.arcs)) (enter ∷ basics_of ps)) u b z (in_one p (sub p (inl refl)) u b i l.1)
            (walks.joined_trans (map (graph_of (ends_at net.arcs)) (enter ∷ basics_of ps)) b a z (graph.Against a b g ∷ [], (refl, inl (ap graph_ends (sym e)), refl)) (in_one q (sub q (inr (inl refl))) a z l.0 j))
      ]
  linked (p ∷ q ∷ r ∷ rest) sub h u z i j = absurd h

  module _ (leave : ℕ) (now : List ℕ) (basic : AreBasicAfter ps enter leave now) where
    now_below : (a : ℕ) → IsIn a now → a < length net.arcs
    now_below a i = entering.inside a ((basic.are a).0 i).0

    now_valid : (a : ℕ) → IsIn a now → IsValid ratios (length net.supply) (graph_of (ends_at net.arcs) a)
    now_valid a i = directions.ends_valid net sound a (now_below a i)

    roots : AreNeededFor ps (ends_at net.arcs enter) → IsIn leave (enter ∷ basics_of ps) → (x : ℕ) × (y : ℕ) × IsIn x (nodes_of ps) × IsIn y (nodes_of ps)
        × ((u : ℕ) → IsIn u (nodes_of ps) → AreJoined (map (graph_of (ends_at net.arcs)) now) u x ⊎ AreJoined (map (graph_of (ends_at net.arcs)) now) u y)
    roots needed leave_in = (t.0, t.1, t.2, t.3, λ u i. elim (t.4 u i) [ inl w ↦ inl (lift u t.0 w) | inr w ↦ inr (lift u t.1 w) ])
      where
        s : (before : List ℕ) × (after : List ℕ) × (before ++ leave ∷ after ≡ enter ∷ basics_of ps)
        s = split_at leave (enter ∷ basics_of ps) leave_in

        joined : (u z : ℕ) → IsIn u (nodes_of ps) → IsIn z (nodes_of ps)
            → AreJoined (map (graph_of (ends_at net.arcs)) s.0 ++ graph_of (ends_at net.arcs) leave ∷ map (graph_of (ends_at net.arcs)) s.1) u z
        joined u z i j = subst (λ t. AreJoined t u z) (ap (map (graph_of (ends_at net.arcs))) (sym s.2) ∙ map_append (graph_of (ends_at net.arcs)) s.0 (leave ∷ s.1)) (linked ps (λ p k. k) needed u z i j)

        t : (x : ℕ) × (y : ℕ) × IsIn x (nodes_of ps) × IsIn y (nodes_of ps)
            × ((u : ℕ) → IsIn u (nodes_of ps) → AreJoined (map (graph_of (ends_at net.arcs)) s.0 ++ map (graph_of (ends_at net.arcs)) s.1) u x
            ⊎ AreJoined (map (graph_of (ends_at net.arcs)) s.0 ++ map (graph_of (ends_at net.arcs)) s.1) u y)
        t = graph_leaving.one_of_two ratios (nodes_of ps) (map (graph_of (ends_at net.arcs)) s.0) (graph_of (ends_at net.arcs) leave) (map (graph_of (ends_at net.arcs)) s.1) (all_lie leave leave_in) joined

        others : AreDistinct (s.0 ++ s.1) × (¬ IsIn leave (s.0 ++ s.1))
        others = others_once s.0 leave s.1 (subst AreDistinct (sym s.2) entering.once)

        lift : (u z : ℕ) → AreJoined (map (graph_of (ends_at net.arcs)) s.0 ++ map (graph_of (ends_at net.arcs)) s.1) u z → AreJoined (map (graph_of (ends_at net.arcs)) now) u z
        lift u z w = joined_more (graph_of (ends_at net.arcs)) (s.0 ++ s.1) now
            (λ a i. (basic.are a).1 (subst (IsIn a) s.2 (in_with a s.0 leave s.1 i), λ e. others.1 (subst (λ x. IsIn x (s.0 ++ s.1)) e i))) u z
            (subst (λ x. AreJoined x u z) (sym (map_append (graph_of (ends_at net.arcs)) s.0 s.1)) w)

    module _ (by : Ratio) (d : ℕ → Ratio) (h : IsDirectionOf net ps enter by d) (leave_in : IsIn leave (enter ∷ basics_of ps)) (moves : d leave ≢ zero_ratio) where
      basis : directions.IsBasisOf net sound (nodes_of ps) now
      basis = leaving.exchanged net sound (nodes_of ps) (enter ∷ basics_of ps) (basics_of ps) enter entering may.ends by d h leave leave_in moves now basic.once basic.are

      tree_after : (nodes numbers : List ℕ) (v : ℕ) → IsPartOf net now nodes numbers → IsIn v nodes → IsIn v (nodes_of ps) → IsQuasiTree ratios nodes (map (graph_of (ends_at net.arcs)) numbers)
      tree_after nodes numbers v part i j = leaving.tree_of_part net sound (nodes_of ps) now basis part.least nodes numbers part.is_piece
          (leaving.joined_inside net sound (nodes_of ps) now basis v part.least j (walks.joined_sym (map (graph_of (ends_at net.arcs)) now) part.least v ((part.is_piece.joined v).0 i).1))

    part_exists : (v : ℕ) → IsIn v (nodes_of ps) → (nodes : List ℕ) × (numbers : List ℕ) × IsPartOf net now nodes numbers × IsIn v nodes × ((u : ℕ) → IsIn u nodes → IsIn u (nodes_of ps))
    part_exists v i = found (theorems.piece_exists ratios (length net.supply) (graph_of (ends_at net.arcs)) now basic.once now_valid v (node_below v i))
      where
        crossing : (x y : ℕ) (g : Ratio) → IsIn (graph.Link x y g) (map (graph_of (ends_at net.arcs)) now) → IsIn x (nodes_of ps) ⊎ IsIn y (nodes_of ps)
            → IsIn (graph.Link x y g) (map (graph_of (ends_at net.arcs)) now) × IsIn x (nodes_of ps) × IsIn y (nodes_of ps)
        crossing x y g k t =
            let r = in_map_of (graph_of (ends_at net.arcs)) (graph.Link x y g) now k in
            let l : LiesIn ratios (nodes_of ps) (graph.Link x y g) = subst (LiesIn ratios (nodes_of ps)) (sym r.2) (all_lie r.0 ((basic.are r.0).0 r.1).0) in
            (k, l.0, l.1)

        found : (least : ℕ) × (nodes : List ℕ) × (arcs : List ℕ) × IsPiece (length net.supply) (graph_of (ends_at net.arcs)) now least nodes arcs × IsIn v nodes
            → (nodes : List ℕ) × (numbers : List ℕ) × IsPartOf net now nodes numbers × IsIn v nodes × ((u : ℕ) → IsIn u nodes → IsIn u (nodes_of ps))
        found r = (
          o.list,
          t.list,
          record {
            nodes_ascend = rises o.list o.ascends;
            arcs_ascend = rises t.list t.ascends;
            least = r.0;
            is_piece = same_members (length net.supply) (graph_of (ends_at net.arcs)) now r.0 r.1 r.2 o.list t.list r.3
                (ascends_once o.list o.ascends) (ascends_once t.list t.ascends) (λ u. (o.to u, o.from u)) (λ a. (t.to a, t.from a));
          },
          o.to v r.4,
          λ u k.
              let a = ((r.3.joined v).0 r.4).1 in
              let b = ((r.3.joined u).0 (o.from u k)).1 in
              let w = walks.joined_trans (map (graph_of (ends_at net.arcs)) now) v r.0 u (walks.joined_sym (map (graph_of (ends_at net.arcs)) now) r.0 v a) b in
              (walks.within (λ x. IsIn x (nodes_of ps)) (map (graph_of (ends_at net.arcs)) now) (map (graph_of (ends_at net.arcs)) now) crossing w.0 v u i w.1).1,
        )
          where
            o : Sorted r.1
            o = sort r.1

            t : Sorted r.2
            t = sort r.2

pub trees_after : TreesAfter
trees_after net ps enter leave by d now nodes numbers v sound all may h leave_in moves basic part i j =
    tree_after net sound ps enter all may leave now basic by d h leave_in moves nodes numbers v part i j

pub part_after_exists : PartAfterExists
part_after_exists net ps enter leave now v sound all may basic i = part_exists net sound ps enter all may leave now basic v i

pub two_roots : TwoRoots
two_roots net ps enter leave now sound all may needed leave_in basic = roots net sound ps enter all may leave now basic needed leave_in
