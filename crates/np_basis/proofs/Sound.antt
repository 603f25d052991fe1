-- What sound pieces say of their nodes and arcs.
use Rattle.std.specs.Prelude.{◌≡◌, ◌⊎◌, ℕ, ◌<◌, List, [], ◌∷◌, ◌++◌, map, length}
use Rattle.std.specs.List.{flat_map}
use Rattle.std.proofs.Common.{refl, sym, ap, subst, ◌∙◌, inl, inr, arith}
use Rattle.gain_graphs.specs.Arcs as graph
use Rattle.gain_graphs.specs.Arcs.{IsIn, AreDistinct, Touches}
use Rattle.gain_graphs.specs.QuasiTrees.{LiesIn}
use Rattle.gain_graphs.proofs.Lists.{in_front, in_back, in_append, in_map, in_map_of, decide_in, apart_parts, once_right, distinct_append}
use Rattle.gain_graphs.proofs.Pieces as graph_pieces
use Rattle.np_frac.specs.Ratio.{Ratio, zero_ratio}
use Rattle.np_model.specs.declared.arc.Ends.{Ends}
use Rattle.np_model.specs.declared.log.Mark.{Mark}
use Rattle.np_model.specs.declared.log.Mark.TheVariants as marked
use Rattle.np_model.specs.Network.Flows.{Network}
use Rattle.np_model.specs.Basis.Graphs.{ratios, graph_of, arc_at, ends_at}
use Rattle.np_model.specs.Basis.Pieces.{PieceLists, nodes_in, basics_in, marked_in, beside, marks_of, flows_of, nodes_of, basics_of}
use Rattle.np_model.specs.Basis.Sound.{bound_at, values_in, AreSound}
use Rattle.np_basis.proofs.Ascending.{Ascends, ascends, ascends_once}
use Rattle.np_basis.proofs.Reading.{Found, beside_in, beside_out, in_flat, in_flat_of, in_keys}
use Rattle.np_basis.proofs.Trees as trees

-- ---- lists

-- in a list that ascends by its keys an entry is known by its key
pub one_entry : {A : Type 0} (key : A → ℕ) (xs : List A) → Ascends (map key xs) → (x y : A) → IsIn x xs → IsIn y xs → key x ≡ key y → x ≡ y
one_entry key [] a x y i j e = absurd i
one_entry key (z ∷ xs) a x y (inl p) (inl r) e = p ∙ sym r
one_entry key (z ∷ xs) a x y (inl p) (inr j) e = let l : key z < key y = a.0 (key y) (in_map key y xs j) in let f : key z ≡ key y = ap key (sym p) ∙ e in absurd (omega arith)
one_entry key (z ∷ xs) a x y (inr i) (inl r) e = let l : key z < key x = a.0 (key x) (in_map key x xs i) in let f : key x ≡ key z = e ∙ ap key r in absurd (omega arith)
one_entry key (z ∷ xs) a x y (inr i) (inr j) e = one_entry key xs a.1 x y i j e

-- where the lists agree on a number, what stands beside it is what one of them says
said : {A B : Type 0} (other : A) (f : B → List (ℕ × A)) (ps : List B) (p : B) (x : ℕ × A) → IsIn p ps → IsIn x (f p)
    → ((q : B) (y : ℕ × A) → IsIn q ps → IsIn y (f q) → y.0 ≡ x.0 → y.1 ≡ x.1) → beside other (flat_map f ps) x.0 ≡ x.1
said {A} other f ps p x i j same =
    let found : Found other (flat_map f ps) x.0 = beside_in other (flat_map f ps) x.0 (in_keys (λ (y : ℕ × A). y.0) f ps p x.0 i (in_map (λ (y : ℕ × A). y.0) x (f p) j)) in
    let k = in_flat_of f ps found.entry found.is_in in
    found.is ∙ same k.0 found.entry k.1 k.2 found.key

-- ---- pieces that share no node

-- two of them with a node in common are the same
pub same_piece : (ps : List PieceLists) → AreDistinct (nodes_of ps) → (p q : PieceLists) → IsIn p ps → IsIn q ps → (v : ℕ) → IsIn v (nodes_in p) → IsIn v (nodes_in q) → p ≡ q
same_piece [] d p q i j v k l = absurd i
same_piece (o ∷ ps) d p q (inl e) (inl f) v k l = e ∙ sym f
same_piece (o ∷ ps) d p q (inl e) (inr j) v k l = absurd (apart_parts (nodes_in o) (nodes_of ps) d v (subst (λ t. IsIn v (nodes_in t)) e k) (in_flat nodes_in ps q v j l))
same_piece (o ∷ ps) d p q (inr i) (inl f) v k l = absurd (apart_parts (nodes_in o) (nodes_of ps) d v (subst (λ t. IsIn v (nodes_in t)) f l) (in_flat nodes_in ps p v i k))
same_piece (o ∷ ps) d p q (inr i) (inr j) v k l = same_piece ps (once_right (nodes_in o) (nodes_of ps) d) p q i j v k l

pub alone_apart : (ns : List ℕ) → AreDistinct ns → AreDistinct (ns ++ [])
alone_apart ns d = distinct_append ns [] d (record {}) (λ u i j. j)

pub potential_said : (net : Network) (ps : List PieceLists) → AreDistinct (nodes_of ps) → ((p : PieceLists) → IsIn p ps → Ascends (nodes_in p))
    → (p : PieceLists) (n : ℕ × Ratio) → IsIn p ps → IsIn n p.nodes → (values_in net ps).potential n.0 ≡ n.1
potential_said net ps apart asc p n i j = said zero_ratio (λ (o : PieceLists). o.nodes) ps p n i j (λ q y k l e.
    let same : p ≡ q = same_piece ps apart p q i k n.0 (in_map (λ (x : ℕ × Ratio). x.0) n p.nodes j) (subst (λ t. IsIn t (nodes_in q)) e (in_map (λ (x : ℕ × Ratio). x.0) y q.nodes l)) in
    ap (λ (x : ℕ × Ratio). x.1) (one_entry (λ (x : ℕ × Ratio). x.0) p.nodes (asc p i) y n (subst (λ t. IsIn y t.nodes) (sym same) l) j e))

pub lies_touch : (ns : List ℕ) (e : graph.Ends Ratio) → LiesIn ratios ns e → Touches ns e
lies_touch ns (graph.Link i j g) l = inl l.0
lies_touch ns (graph.Drain v) l = l
lies_touch ns (graph.Feed v) l = l

pub touch_wider : (ns ms : List ℕ) (e : graph.Ends Ratio) → ((v : ℕ) → IsIn v ns → IsIn v ms) → Touches ns e → Touches ms e
touch_wider ns ms (graph.Link i j g) h t = elim t [ inl x ↦ inl (h i x) | inr x ↦ inr (h j x) ]
touch_wider ns ms (graph.Drain v) h t = h v t
touch_wider ns ms (graph.Feed v) h t = h v t

pub touch_more : (ps : List PieceLists) (p : PieceLists) (e : graph.Ends Ratio) → IsIn p ps → Touches (nodes_in p) e → Touches (nodes_of ps) e
touch_more ps p e i = touch_wider (nodes_in p) (nodes_of ps) e (λ v j. in_flat nodes_in ps p v i j)

-- ---- sound pieces

module _ (net : Network) (ps : List PieceLists) (sound : AreSound net ps) where
  pub below : (p : PieceLists) (a : ℕ) → IsIn p ps → IsIn a (basics_in p) → a < length net.arcs
  below p a i j = trees.basic_below net p (sound.each p i).in_net a j

  pub inside : (p : PieceLists) (a : ℕ) → IsIn p ps → IsIn a (basics_in p) → LiesIn ratios (nodes_in p) (graph_of (ends_at net.arcs) a)
  inside p a i j = trees.lies net p (sound.each p i).in_net a j

  nodes_rise : (p : PieceLists) → IsIn p ps → Ascends (nodes_in p)
  nodes_rise p i = ascends (nodes_in p) (sound.each p i).in_net.shape.nodes_ascend

  -- a basic arc of one that touches another
  own : (p q : PieceLists) (a : ℕ) → IsIn p ps → IsIn q ps → IsIn a (basics_in p) → Touches (nodes_in q) (graph_of (ends_at net.arcs) a) → p ≡ q
  own p q a i j k t =
      let w = graph_pieces.both ratios (length net.supply) (graph_of (ends_at net.arcs)) (nodes_in p) (nodes_in q) (graph_of (ends_at net.arcs) a) (inside p a i k) t in
      same_piece ps sound.apart p q i j w.0 w.1 w.2

  -- no arc is basic in one and marked in another
  apart : (p q : PieceLists) (a : ℕ) → IsIn p ps → IsIn q ps → IsIn a (basics_in p) → IsIn a (marked_in q) → ⊥
  apart p q a i j k l =
      let m = ((sound.each q j).in_net.marked a).0 l in
      m.1 (subst (λ t. IsIn a (basics_in t)) (own p q a i j k m.2) k)

  -- an entry of the marks of a piece is of a basic arc, or one of its marks
  split : (q : PieceLists) (y : ℕ × Mark) → IsIn y (marks_of q) → (IsIn y.0 (basics_in q) × (y.1 ≡ marked.Basic)) ⊎ IsIn y q.marks
  split q y l = elim (in_append y (map (λ (b : ℕ × Ends × Ratio). (b.0, marked.Basic)) q.basics) q.marks l) [
    | inl x ↦ (let r = in_map_of (λ (b : ℕ × Ends × Ratio). (b.0, marked.Basic)) y q.basics x in
        inl (subst (λ t. IsIn t (basics_in q)) (ap (λ (z : ℕ × Mark). z.0) (sym r.2)) (in_map (λ (b : ℕ × Ends × Ratio). b.0) r.0 q.basics r.1), ap (λ (z : ℕ × Mark). z.1) r.2))
    | inr x ↦ inr x
  ]

  pub mark_basic : (p : PieceLists) (a : ℕ) → IsIn p ps → IsIn a (basics_in p) → (values_in net ps).mark a ≡ marked.Basic
  mark_basic p a i j = said marked.Lower marks_of ps p (a, marked.Basic) i
      (in_front (a, marked.Basic) (map (λ (b : ℕ × Ends × Ratio). (b.0, marked.Basic)) p.basics) p.marks here)
      (λ q y k l e. elim (split q y l) [
        | inl x ↦ x.1
        | inr x ↦ absurd (apart p q a i k j (subst (λ t. IsIn t (marked_in q)) e (in_map (λ (z : ℕ × Mark). z.0) y q.marks x)))
      ])
    where
      here : IsIn {A = ℕ × Mark} (a, marked.Basic) (map (λ (b : ℕ × Ends × Ratio). (b.0, marked.Basic)) p.basics)
      here = let r = in_map_of (λ (b : ℕ × Ends × Ratio). b.0) a p.basics j in
          subst (λ t. IsIn {A = ℕ × Mark} (t, marked.Basic) (map (λ (b : ℕ × Ends × Ratio). (b.0, marked.Basic)) p.basics)) (sym r.2) (in_map (λ (b : ℕ × Ends × Ratio). (b.0, marked.Basic)) r.0 p.basics r.1)

  pub mark_said : (p : PieceLists) (m : ℕ × Mark) → IsIn p ps → IsIn m p.marks → (values_in net ps).mark m.0 ≡ m.1
  mark_said p m i j = said marked.Lower marks_of ps p m i
      (in_back m (map (λ (b : ℕ × Ends × Ratio). (b.0, marked.Basic)) p.basics) p.marks j)
      (λ q y k l e. elim (split q y l) [
        | inl x ↦ absurd (apart q p m.0 k i (subst (λ t. IsIn t (basics_in q)) e x.0) (in_map (λ (z : ℕ × Mark). z.0) m p.marks j))
        | inr x ↦ sound.one_mark q p y m k i x j e
      ])

  -- an arc that touches one of them and is marked basic is one of its basic arcs
  pub basic_of : (p : PieceLists) (a : ℕ) → IsIn p ps → a < length net.arcs → Touches (nodes_in p) (graph_of (ends_at net.arcs) a) → (values_in net ps).mark a ≡ marked.Basic → IsIn a (basics_in p)
  basic_of p a i l t e = elim (decide_in a (basics_in p)) [
    | yes j ↦ j
    | no h ↦ (
        let k = ((sound.each p i).in_net.marked a).1 (l, h, t) in
        let r = in_map_of (λ (m : ℕ × Mark). m.0) a p.marks k in
        absurd ((sound.each p i).in_net.shape.at_bounds r.0 r.1 (sym (mark_said p r.0 i r.1) ∙ ap (values_in net ps).mark (sym r.2) ∙ e)))
  ]

  pub flow_said : (p : PieceLists) (b : ℕ × Ends × Ratio) → IsIn p ps → IsIn b p.basics → (values_in net ps).flow b.0 ≡ b.2
  flow_said p b i j = said (bound_at (arc_at net.arcs b.0) ((values_in net ps).mark b.0)) flows_of ps p (b.0, b.2) i
      (in_map (λ (c : ℕ × Ends × Ratio). (c.0, c.2)) b p.basics j)
      (λ q y k l e.
      let r = in_map_of (λ (c : ℕ × Ends × Ratio). (c.0, c.2)) y q.basics l in
      let f : r.0.0 ≡ b.0 = ap (λ (z : ℕ × Ratio). z.0) (sym r.2) ∙ e in
      let own_arc : IsIn b.0 (basics_in q) = subst (λ t. IsIn t (basics_in q)) f (in_map (λ (c : ℕ × Ends × Ratio). c.0) r.0 q.basics r.1) in
      let same : q ≡ p = own q p b.0 k i own_arc (lies_touch (nodes_in p) (graph_of (ends_at net.arcs) b.0) (inside p b.0 i (in_map (λ (c : ℕ × Ends × Ratio). c.0) b p.basics j))) in
      ap (λ (z : ℕ × Ratio). z.1) r.2 ∙ ap (λ (c : ℕ × Ends × Ratio). c.2)
      (one_entry (λ (c : ℕ × Ends × Ratio). c.0) p.basics (ascends (basics_in p) (sound.each p i).in_net.shape.basics_ascend) r.0 b (subst (λ t. IsIn r.0 t.basics) same r.1) j f))

  -- an arc that is basic in none of them has the flow of its bound
  pub flow_off : (a : ℕ) → (¬ IsIn a (basics_of ps)) → (values_in net ps).flow a ≡ bound_at (arc_at net.arcs a) ((values_in net ps).mark a)
  flow_off a h = beside_out (bound_at (arc_at net.arcs a) ((values_in net ps).mark a)) (flat_map flows_of ps) a (λ i.
      let r = in_map_of (λ (x : ℕ × Ratio). x.0) a (flat_map flows_of ps) i in
      let k = in_flat_of flows_of ps r.0 r.1 in
      let b = in_map_of (λ (c : ℕ × Ends × Ratio). (c.0, c.2)) r.0 k.0.basics k.2 in
      h (subst (λ t. IsIn t (basics_of ps)) (ap (λ (x : ℕ × Ratio). x.0) (sym b.2) ∙ sym r.2) (in_flat basics_in ps k.0 b.0.0 k.1 (in_map (λ (c : ℕ × Ends × Ratio). c.0) b.0 k.0.basics b.1))))

  pub potential_of : (p : PieceLists) (n : ℕ × Ratio) → IsIn p ps → IsIn n p.nodes → (values_in net ps).potential n.0 ≡ n.1
  potential_of p n i j = potential_said net ps sound.apart nodes_rise p n i j

  -- alone a piece says of its nodes what it says among the others
  pub alone : (p : PieceLists) → IsIn p ps → (v : ℕ) → IsIn v (nodes_in p) → (values_in net ps).potential v ≡ (values_in net (p ∷ [])).potential v
  alone p i v j =
      let r = in_map_of (λ (n : ℕ × Ratio). n.0) v p.nodes j in
      ap (values_in net ps).potential r.2 ∙ potential_of p r.0 i r.1
      ∙ sym (potential_said net (p ∷ []) (alone_apart (nodes_in p) (ascends_once (nodes_in p) (nodes_rise p i)))
      (λ o. elim [ inl e ↦ subst (λ t. Ascends (nodes_in t)) (sym e) (nodes_rise p i) | inr k ↦ absurd k ]) p r.0 (inl refl) r.1)
      ∙ ap (values_in net (p ∷ [])).potential (sym r.2)
