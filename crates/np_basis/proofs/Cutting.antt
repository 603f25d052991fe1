-- Each node lies in one piece of what a state says.
use Rattle.std.specs.Prelude.{◌≡◌, ◌≢◌, ◌↔◌, ℕ, ◌<◌, List, [], ◌∷◌, map, length}
use Rattle.std.specs.List.{range_with_len}
use Rattle.std.specs.List.Sorted.{IsStrictlyIncreasing}
use Rattle.std.proofs.Common.{refl, sym, ap, ap₂, subst, ◌∙◌, inl, inr, arith}
use Rattle.gain_graphs.specs.Arcs as graph
use Rattle.gain_graphs.specs.Arcs.{IsIn, AreDistinct, Touches}
use Rattle.gain_graphs.specs.Forests.{IsPiece, IsValid}
use Rattle.gain_graphs.proofs.Lists.{in_map_of}
use Rattle.gain_graphs.proofs.Search.{decide_touches}
use Rattle.gain_graphs.proofs.Selected.{Selected, select}
use Rattle.gain_graphs.proofs.Theorems as theorems
use Rattle.np_frac.specs.Ratio.{Ratio}
use Rattle.np_model.specs.declared.arc.Ends.{Ends}
use Rattle.np_model.specs.declared.log.Mark.{Mark}
use Rattle.np_model.specs.declared.log.Mark.TheVariants as marked
use Rattle.np_model.specs.Network.Flows.{Network}
use Rattle.np_model.specs.Basis.Graphs.{ratios, graph_of, no_arc, ends_at}
use Rattle.np_model.specs.Basis.Pieces.{PieceLists, nodes_in, basics_in, marked_in}
use Rattle.np_model.specs.Basis.States.{Values, basics, IsPart, IsReadOff, IsPieceOf}
use Rattle.np_basis.specs.Laws.{HasSoundArcs, PieceExists, PieceIsUnique}
use Rattle.np_basis.proofs.Ascending.{rises, ascends_once, Sorted, sort, same_rising}
use Rattle.gain_graphs.proofs.Lists.{range_holds, range_within}
use Rattle.np_basis.proofs.Basics.{range_ascends, decide_basic, basics_hold, basics_once}
use Rattle.np_basis.proofs.Trees.{is_valid}

-- ---- pieces with the same members

touches_more : (nodes others : List ℕ) (e : graph.Ends Ratio) → ((v : ℕ) → IsIn v nodes → IsIn v others) → Touches nodes e → Touches others e
touches_more nodes others (graph.Link i j g) h t = elim t [ inl x ↦ inl (h i x) | inr x ↦ inr (h j x) ]
touches_more nodes others (graph.Drain i) h t = h i t
touches_more nodes others (graph.Feed i) h t = h i t

pub same_members : (n : ℕ) (ends : ℕ → graph.Ends Ratio) (basic : List ℕ) (least : ℕ) (nodes arcs others theirs : List ℕ) → IsPiece n ends basic least nodes arcs
    → AreDistinct others → AreDistinct theirs → ((v : ℕ) → IsIn v nodes ↔ IsIn v others) → ((a : ℕ) → IsIn a arcs ↔ IsIn a theirs) → IsPiece n ends basic least others theirs
same_members n ends basic least nodes arcs others theirs p once arcs_once f g = record {
  nodes_once = once;
  arcs_once = arcs_once;
  has_least = (f least).0 p.has_least;
  is_least = λ v i. p.is_least v ((f v).1 i);
  joined = λ v. ((λ i. (p.joined v).0 ((f v).1 i)), (λ r. (f v).0 ((p.joined v).1 r)));
  touched = λ a. (
    (λ i. let r = (p.touched a).0 ((g a).1 i) in (r.0, touches_more nodes others (ends a) (λ v. (f v).0) r.1)),
    (λ r. (g a).0 ((p.touched a).1 (r.0, touches_more others nodes (ends a) (λ v. (f v).1) r.1))),
  );
}

-- ---- lists of what functions say

keys : {A : Type 0} (f : ℕ → A) (xs : List ℕ) → map (λ (x : ℕ × A). x.0) (map (λ v. (v, f v)) xs) ≡ xs
keys f [] = refl
keys f (x ∷ xs) = ap (λ t. x ∷ t) (keys f xs)

basic_keys : (f : ℕ → Ends) (g : ℕ → Ratio) (xs : List ℕ) → map (λ (x : ℕ × Ends × Ratio). x.0) (map (λ v. (v, f v, g v)) xs) ≡ xs
basic_keys f g [] = refl
basic_keys f g (x ∷ xs) = ap (λ t. x ∷ t) (basic_keys f g xs)

list_is : {A : Type 0} (f : ℕ → A) (xs : List (ℕ × A)) → ((x : ℕ × A) → IsIn x xs → x.1 ≡ f x.0) → xs ≡ map (λ v. (v, f v)) (map (λ x. x.0) xs)
list_is f [] h = refl
list_is {A} f (x ∷ xs) h = ap₂ {A = ℕ × A} {B = List (ℕ × A)} {C = List (ℕ × A)} (λ s t. s ∷ t) (ap {A = A} {B = ℕ × A} (λ y. (x.0, y)) (h x (inl refl))) (list_is f xs (λ y i. h y (inr i)))

basic_list_is : (f : ℕ → Ends) (g : ℕ → Ratio) (xs : List (ℕ × Ends × Ratio)) → ((x : ℕ × Ends × Ratio) → IsIn x xs → (x.1 ≡ f x.0) × (x.2 ≡ g x.0))
    → xs ≡ map (λ v. (v, f v, g v)) (map (λ x. x.0) xs)
basic_list_is f g [] h = refl
basic_list_is f g (x ∷ xs) h =
    ap₂ {A = ℕ × Ends × Ratio} {B = List (ℕ × Ends × Ratio)} {C = List (ℕ × Ends × Ratio)} (λ s t. s ∷ t)
    (ap₂ {A = Ends} {B = Ratio} {C = ℕ × Ends × Ratio} (λ y z. (x.0, y, z)) (h x (inl refl)).0 (h x (inl refl)).1) (basic_list_is f g xs (λ y i. h y (inr i)))

same_lists : (p q : PieceLists) → p.nodes ≡ q.nodes → p.basics ≡ q.basics → p.marks ≡ q.marks → p ≡ q
same_lists p q e f g =
    ap (λ n. let x : PieceLists = record { nodes = n; basics = p.basics; marks = p.marks } in x) e
    ∙ ap (λ b. let x : PieceLists = record { nodes = q.nodes; basics = b; marks = p.marks } in x) f
    ∙ ap (λ m. let x : PieceLists = record { nodes = q.nodes; basics = q.basics; marks = m } in x) g

-- ---- the piece of a node

module _ (net : Network) (s : Values) where
  -- the arcs outside the basis that touch the nodes
  record Around (nodes : List ℕ) : Type 0 where
    list : List ℕ
    rise : IsStrictlyIncreasing list
    holds : (a : ℕ) → IsIn a list ↔ ((a < length net.arcs) × (s.mark a ≢ marked.Basic) × Touches nodes (graph_of (ends_at net.arcs) a))

  around : (nodes : List ℕ) → Around nodes
  around nodes =
      let c : Selected (λ a. (s.mark a ≢ marked.Basic) × Touches nodes (graph_of (ends_at net.arcs) a)) (range_with_len 0 (length net.arcs)) =
      select (λ a. (s.mark a ≢ marked.Basic) × Touches nodes (graph_of (ends_at net.arcs) a)) decide (range_with_len 0 (length net.arcs)) (ascends_once (range_with_len 0 (length net.arcs)) (range_ascends 0 (length net.arcs))) in
      let o : Sorted c.list = sort c.list in
      record {
        list = o.list;
        rise = rises o.list o.ascends;
        holds = λ a. (
          (λ i. let r = (c.holds a).0 (o.from a i) in let b = range_within 0 (length net.arcs) a r.0 in (omega (arith, b.1), r.1.0, r.1.1)),
          (λ r. o.to a ((c.holds a).1 (range_holds 0 (length net.arcs) a (omega arith) (omega (arith, r.0)), (r.1, r.2)))),
        );
      }
    where
      decide : (a : ℕ) → Dec ((s.mark a ≢ marked.Basic) × Touches nodes (graph_of (ends_at net.arcs) a))
      decide a = go (decide_basic (s.mark a)) (decide_touches ratios (length net.supply) (graph_of (ends_at net.arcs)) nodes (graph_of (ends_at net.arcs) a))
        where
          go : Dec (s.mark a ≡ marked.Basic) → Dec (Touches nodes (graph_of (ends_at net.arcs) a)) → Dec ((s.mark a ≢ marked.Basic) × Touches nodes (graph_of (ends_at net.arcs) a))
          go (yes e) _ = no (λ r. r.0 e)
          go (no h) (yes t) = yes (h, t)
          go (no h) (no t) = no (λ r. t r.1)

  record Cut (nodes : List ℕ) : Type 0 where
    piece : PieceLists
    is_piece : IsPieceOf net s piece
    nodes_are : nodes_in piece ≡ nodes

  -- the piece with these nodes and basic arcs
  cut : (nodes numbers : List ℕ) → IsPart net s.mark nodes numbers → Cut nodes
  cut nodes numbers part = record {
    piece = p;
    is_piece = record { part = subst (λ t. IsPart net s.mark t (basics_in p)) (sym n) (subst (IsPart net s.mark nodes) (sym b) part); read_off = read_off };
    nodes_are = n;
  }
    where
      o : Around nodes
      o = around nodes

      p : PieceLists
      p = record { nodes = map (λ v. (v, s.potential v)) nodes; basics = map (λ a. (a, ends_at net.arcs a, s.flow a)) numbers; marks = map (λ a. (a, s.mark a)) o.list }

      n : nodes_in p ≡ nodes
      n = keys s.potential nodes

      b : basics_in p ≡ numbers
      b = basic_keys (ends_at net.arcs) s.flow numbers

      m : marked_in p ≡ o.list
      m = keys s.mark o.list

      read_off : IsReadOff net s p
      read_off = record {
        marks_ascend = subst IsStrictlyIncreasing (sym m) o.rise;
        potentials = λ x i. let r = in_map_of (λ v. (v, s.potential v)) x nodes i in ap (λ (y : ℕ × Ratio). y.1) r.2 ∙ ap (λ (y : ℕ × Ratio). s.potential y.0) (sym r.2);
        basic = λ x i. let r = in_map_of (λ a. (a, ends_at net.arcs a, s.flow a)) x numbers i in
            (ap (λ (y : ℕ × Ends × Ratio). y.1) r.2 ∙ ap (λ (y : ℕ × Ends × Ratio). ends_at net.arcs y.0) (sym r.2), ap (λ (y : ℕ × Ends × Ratio). y.2) r.2 ∙ ap (λ (y : ℕ × Ends × Ratio). s.flow y.0) (sym r.2));
        marked = λ a. (
          (λ i. let r = (o.holds a).0 (subst (IsIn a) m i) in (r.0, r.1, subst (λ t. Touches t (graph_of (ends_at net.arcs) a)) (sym n) r.2)),
          (λ r. subst (IsIn a) (sym m) ((o.holds a).1 (r.0, r.1, subst (λ t. Touches t (graph_of (ends_at net.arcs) a)) n r.2))),
        );
        marks = λ x i. let r = in_map_of (λ a. (a, s.mark a)) x o.list i in ap (λ (y : ℕ × Mark). y.1) r.2 ∙ ap (λ (y : ℕ × Mark). s.mark y.0) (sym r.2);
      }

  pub valid : HasSoundArcs net → (a : ℕ) → IsIn a (basics net.arcs s.mark) → IsValid ratios (length net.supply) (graph_of (ends_at net.arcs) a)
  valid sound a i = let h = sound a no_arc ((basics_hold net.arcs s.mark a).0 i).0 in is_valid (length net.supply) (ends_at net.arcs a) h.joins h.gain

  -- the same in ascending order
  ordered : (least : ℕ) (nodes arcs : List ℕ) → IsPiece (length net.supply) (graph_of (ends_at net.arcs)) (basics net.arcs s.mark) least nodes arcs
      → (o : Sorted nodes) (t : Sorted arcs) → IsPart net s.mark o.list t.list
  ordered least nodes arcs p o t = record {
    nodes_ascend = rises o.list o.ascends;
    arcs_ascend = rises t.list t.ascends;
    least = least;
    is_piece = same_members (length net.supply) (graph_of (ends_at net.arcs)) (basics net.arcs s.mark) least nodes arcs o.list t.list p
        (ascends_once o.list o.ascends) (ascends_once t.list t.ascends) (λ u. (o.to u, o.from u)) (λ a. (t.to a, t.from a));
  }

  held : (nodes : List ℕ) (v : ℕ) → Cut nodes → IsIn v nodes → (p : PieceLists) × IsPieceOf net s p × IsIn v (nodes_in p)
  held nodes v c i = (c.piece, c.is_piece, subst (IsIn v) (sym c.nodes_are) i)

  exists : (v : ℕ) → HasSoundArcs net → v < length net.supply → (p : PieceLists) × IsPieceOf net s p × IsIn v (nodes_in p)
  exists v sound below = found (theorems.piece_exists ratios (length net.supply) (graph_of (ends_at net.arcs)) (basics net.arcs s.mark) (basics_once net.arcs s.mark) (valid sound) v below)
    where
      found : (least : ℕ) × (nodes : List ℕ) × (arcs : List ℕ) × IsPiece (length net.supply) (graph_of (ends_at net.arcs)) (basics net.arcs s.mark) least nodes arcs × IsIn v nodes
          → (p : PieceLists) × IsPieceOf net s p × IsIn v (nodes_in p)
      found r = held (sort r.1).list v (cut (sort r.1).list (sort r.2).list (ordered r.0 r.1 r.2 r.3 (sort r.1) (sort r.2))) ((sort r.1).to v r.4)

  unique : (p q : PieceLists) (v : ℕ) → IsPieceOf net s p → IsPieceOf net s q → IsIn v (nodes_in p) → IsIn v (nodes_in q) → p ≡ q
  unique p q v h k i j = same_lists p q
      (list_is s.potential p.nodes h.read_off.potentials ∙ ap (map (λ u. (u, s.potential u))) nodes ∙ sym (list_is s.potential q.nodes k.read_off.potentials))
      (basic_list_is (ends_at net.arcs) s.flow p.basics h.read_off.basic ∙ ap (map (λ a. (a, ends_at net.arcs a, s.flow a))) arcs ∙ sym (basic_list_is (ends_at net.arcs) s.flow q.basics k.read_off.basic))
      (list_is s.mark p.marks h.read_off.marks ∙ ap (map (λ a. (a, s.mark a))) marks ∙ sym (list_is s.mark q.marks k.read_off.marks))
    where
      same : (h.part.least ≡ k.part.least) × ((u : ℕ) → IsIn u (nodes_in p) ↔ IsIn u (nodes_in q)) × ((a : ℕ) → IsIn a (basics_in p) ↔ IsIn a (basics_in q))
      same = theorems.piece_is_unique ratios (length net.supply) (graph_of (ends_at net.arcs)) (basics net.arcs s.mark) h.part.least (nodes_in p) (basics_in p) h.part.is_piece
          k.part.least (nodes_in q) (basics_in q) k.part.is_piece v i j

      nodes : nodes_in p ≡ nodes_in q
      nodes = same_rising (nodes_in p) (nodes_in q) h.part.nodes_ascend k.part.nodes_ascend (λ u. (same.1 u).0) (λ u. (same.1 u).1)

      arcs : basics_in p ≡ basics_in q
      arcs = same_rising (basics_in p) (basics_in q) h.part.arcs_ascend k.part.arcs_ascend (λ a. (same.2 a).0) (λ a. (same.2 a).1)

      marks : marked_in p ≡ marked_in q
      marks = same_rising (marked_in p) (marked_in q) h.read_off.marks_ascend k.read_off.marks_ascend
          (λ a l. let t = (h.read_off.marked a).0 l in (k.read_off.marked a).1 (t.0, t.1, subst (λ x. Touches x (graph_of (ends_at net.arcs) a)) nodes t.2))
          (λ a l. let t = (k.read_off.marked a).0 l in (h.read_off.marked a).1 (t.0, t.1, subst (λ x. Touches x (graph_of (ends_at net.arcs) a)) (sym nodes) t.2))

pub piece_exists : PieceExists
piece_exists net s v sound below = exists net s v sound below

pub piece_is_unique : PieceIsUnique
piece_is_unique net s p q v h k i j = unique net s p q v h k i j
