-- What goes outwards from the extra arc of a piece, by numbers: it is what hangs off the extra arc.
use Rattle.std.proofs.Common.{◌≡◌, ◌⊎◌, inl, inr, sym, ap, refl, ◌∙◌, subst, ℕ, List, [], ◌∷◌, ◌++◌, map}
use Rattle.std.specs.Prelude.{⊤}
use Rattle.gain_graphs.specs.Arcs.{IsIn, HasOneEnd, AreJoined}
use Rattle.gain_graphs.specs.Cycles.{arcs_along, nodes_along, Joins, IsCycle}
use Rattle.gain_graphs.specs.QuasiTrees.{LiesIn, HasExtra, IsQuasiTree}
use Rattle.gain_graphs.proofs.Lists.{in_back, map_append, split_at}
use Rattle.gain_graphs.proofs.Walks
use Rattle.gain_graphs.proofs.Ways
use Rattle.gain_graphs.proofs.Cycles
use Rattle.np_model.specs.declared.arc.Ends.{Ends}
use Rattle.np_model.specs.declared.arc.Ends.TheVariants.{Link, Drain, Feed}
use Rattle.np_model.specs.Basis.Graphs.{ratios, graph_of, graph_ends}
use Rattle.np_model.specs.Basis.Artificial.{IsOneEndAt}
use Rattle.np_model.specs.Rows.Extra.{Extra, OneEnd, Round, root, extra_arcs, extra_nodes, IsExtra, Hangs}
use Rattle.tree_search.proofs.Outward

-- an arc, the node that it is left from, and the one that it leads to
pub record Hop : Type 0 where
  pub arc : ℕ
  pub near : ℕ
  pub far : ℕ

-- each hop goes on over a link from a node that was seen before to one that was not
abbrev pub HopsOn : (ℕ → Ends) → List ℕ → List ℕ → List Hop → Type 0
HopsOn ends own seen [] = ⊤
HopsOn ends own seen (h ∷ hops) = IsIn h.near seen × (¬ IsIn h.far seen) × IsIn h.arc own × Joins (graph_of ends h.arc) h.near h.far × HopsOn ends own (h.far ∷ seen) hops

abbrev pub far_nodes : List Hop → List ℕ
far_nodes [] = []
far_nodes (h ∷ hops) = h.far ∷ far_nodes hops

abbrev pub pairs : List Hop → List (ℕ × ℕ)
pairs [] = []
pairs (h ∷ hops) = (h.arc, h.far) ∷ pairs hops

least_in : (ends : ℕ → Ends) (own : List ℕ) (k : ℕ) (w : List (ℕ × ℕ)) → IsCycle (graph_of ends) own k w → IsIn k (nodes_along w)
least_in ends own k [] c = absurd c.has_arc
least_in ends own k (y ∷ w) c = Ways.last_node (graph_of ends) own w k k y c.closes

pub root_is_in : (ends : ℕ → Ends) (own : List ℕ) (x : Extra) → IsExtra ends own x → IsIn (root x) (extra_nodes x)
root_is_in ends own (OneEnd a v) e = inl refl
root_is_in ends own (Round k w) e = least_in ends own k w e.cycle

module _ (ends : ℕ → Ends) (ns own : List ℕ) (x : Extra) where
  abbrev fars : List Hop → List ℕ
  fars hops = far_nodes hops

  outward : (seen : List ℕ) (hops : List Hop) → HopsOn ends own seen hops → Outward.IsOutward ratios (graph_of ends) own seen (pairs hops)
  outward seen [] g = record {}
  outward seen (h ∷ hops) g = (g.1, (h.near, g.0, g.3), g.2, outward (h.far ∷ seen) hops g.4)

  fars_pairs : (hops : List Hop) → nodes_along (pairs hops) ≡ fars hops
  fars_pairs [] = refl
  fars_pairs (h ∷ hops) = ap (λ t. h.far ∷ t) (fars_pairs hops)

  -- the hop of an arc
  of_arc : (hops : List Hop) (a : ℕ) → IsIn a (arcs_along (pairs hops)) → (h : Hop) × IsIn h hops × (h.arc ≡ a)
  of_arc [] a i = absurd i
  of_arc (h ∷ hops) a (inl e) = (h, inl refl, sym e)
  of_arc (h ∷ hops) a (inr i) = let r = of_arc hops a i in (r.0, inr r.1, r.2)

  -- an extra arc of the piece
  pub extra_is : IsQuasiTree ratios ns (map (graph_of ends) own) → ((a : ℕ) → IsIn a own → LiesIn ratios ns (graph_of ends a)) → IsExtra ends own x → Outward.StaysExtra ratios (graph_of ends) ns (extra_nodes x) (extra_arcs x) (root x)
  extra_is = of x
    where
      one : (e : Ends) (v : ℕ) → IsOneEndAt v e → LiesIn ratios ns (graph_ends e) → IsIn v ns × HasOneEnd (graph_ends e)
      one (Link i j g) v m l = absurd m
      one (Drain i) v m l = (subst (λ t. IsIn t ns) m l, record {})
      one (Feed i) v m l = (subst (λ t. IsIn t ns) m l, record {})

      of : (y : Extra) → IsQuasiTree ratios ns (map (graph_of ends) own) → ((a : ℕ) → IsIn a own → LiesIn ratios ns (graph_of ends a)) → IsExtra ends own y → Outward.StaysExtra ratios (graph_of ends) ns (extra_nodes y) (extra_arcs y) (root y)
      of (OneEnd a v) shape lies h = let r = one (ends a) v h.1 (lies a h.0) in Outward.extra_one_end ratios (graph_of ends) ns a v r.0 r.1
      of (Round k w) shape lies h = Outward.extra_cycle ratios (graph_of ends) ns own shape lies k w h.cycle

  pub extra_own : IsExtra ends own x → (a : ℕ) → IsIn a (extra_arcs x) → IsIn a own
  extra_own = of x
    where
      of : (y : Extra) → IsExtra ends own y → (a : ℕ) → IsIn a (extra_arcs y) → IsIn a own
      of (OneEnd b v) h a i = elim i [ inl e ↦ subst (λ t. IsIn t own) (sym e) h.0 | inr z ↦ absurd z ]
      of (Round k w) h a i = Ways.way_arcs (graph_of ends) own w k k h.cycle.closes a i

  -- an arc of the extra arc joins no node but its own
  pub extra_joins : IsExtra ends own x → (a u v : ℕ) → IsIn a (extra_arcs x) → Joins (graph_of ends a) u v → IsIn v (extra_nodes x)
  extra_joins = of x
    where
      none : (e : Ends) (z u v : ℕ) → IsOneEndAt z e → Joins (graph_ends e) u v → ⊥
      none (Link i j g) z u v m j' = m
      none (Drain i) z u v m j' = j'
      none (Feed i) z u v m j' = j'

      of : (y : Extra) → IsExtra ends own y → (a u v : ℕ) → IsIn a (extra_arcs y) → Joins (graph_of ends a) u v → IsIn v (extra_nodes y)
      of (OneEnd b z) h a u v i m = elim i [ inl e ↦ absurd (none (ends a) z u v (subst (λ t. IsOneEndAt z (ends t)) (sym e) h.1) m) | inr z' ↦ absurd z' ]
      of (Round k w) h a u v i m =
          elim (Ways.at_arc (graph_of ends) own w k k a v u h.cycle.closes i (Ways.joins_back (graph_of ends a) u v m)) [
            | inl e ↦ subst (λ t. IsIn t (nodes_along w)) (sym e) (least_in ends own k w h.cycle)
            | inr j ↦ j
          ]

  module _ (shape : IsQuasiTree ratios ns (map (graph_of ends) own)) (lies : (a : ℕ) → IsIn a own → LiesIn ratios ns (graph_of ends a)) (is_extra : IsExtra ends own x)
      (hops : List Hop) (goes : HopsOn ends own (extra_nodes x) hops) where
    abbrev whole : Outward.IsOutward ratios (graph_of ends) own (extra_nodes x) (pairs hops)
    whole = outward (extra_nodes x) hops goes

    -- the near end of a hop is joined to the extra arc without its arc
    pub joined_without : (done : List Hop) (h : Hop) (later : List Hop) → Outward.IsOutward ratios (graph_of ends) own (extra_nodes x) (pairs done ++ (h.arc, h.far) ∷ pairs later)
        → Outward.IsOutward ratios (graph_of ends) own (extra_nodes x) (pairs done) → ((a : ℕ) → IsIn a (arcs_along (pairs done)) → IsIn a own)
        → Joins (graph_of ends h.arc) h.near h.far → IsIn h.near (extra_nodes x) ⊎ IsIn h.near (nodes_along (pairs done))
        → (before after : List ℕ) → before ++ h.arc ∷ after ≡ own → AreJoined (map (graph_of ends) (before ++ after)) h.near (root x)
    joined_without done h later o o' in_own j i before after e =
        Outward.reach ratios (graph_of ends) own (before ++ after) (root x) (extra_nodes x) (pairs done) o'
        (λ u k. (extra_is shape lies is_extra).joined (before ++ after) (λ a m. Cycles.others_of ratios (graph_of ends) own before h.arc after e (extra_arcs x) (extra_own is_extra) off a m) u k)
        (λ a m. Cycles.others_of ratios (graph_of ends) own before h.arc after e (arcs_along (pairs done)) in_own
        (λ n. Outward.not_before ratios (graph_of ends) own (extra_nodes x) (pairs done) h.arc h.far (pairs later) o h.arc h.near n (Ways.joins_back (graph_of ends h.arc) h.near h.far j)) a m)
        h.near i
      where
        off : ¬ IsIn h.arc (extra_arcs x)
        off m = Outward.fresh ratios (graph_of ends) own (extra_nodes x) (pairs done) h.arc h.far (pairs later) o (extra_joins is_extra h.arc h.near h.far m j)

    front : (seen : List ℕ) (v w : List (ℕ × ℕ)) → Outward.IsOutward ratios (graph_of ends) own seen (v ++ w) → Outward.IsOutward ratios (graph_of ends) own seen v
    front seen [] w o = record {}
    front seen (y ∷ v) w o = (o.0, o.1, o.2, front (y.1 ∷ seen) v w o.3)

    front_own : (seen : List ℕ) (v : List (ℕ × ℕ)) → Outward.IsOutward ratios (graph_of ends) own seen v → (a : ℕ) → IsIn a (arcs_along v) → IsIn a own
    front_own seen [] o a i = absurd i
    front_own seen (y ∷ v) o a (inl e) = subst (λ t. IsIn t own) (sym e) o.2
    front_own seen (y ∷ v) o a (inr i) = front_own (y.1 ∷ seen) v o.3 a i

    record At (seen : List ℕ) (done : List Hop) (h : Hop) : Type 0 where
      near : IsIn h.near seen ⊎ IsIn h.near (nodes_along (pairs done))
      fresh : ¬ IsIn h.far seen
      inside : IsIn h.arc own
      joins : Joins (graph_of ends h.arc) h.near h.far

    at_hop : (seen : List ℕ) (done : List Hop) (h : Hop) (later : List Hop) → HopsOn ends own seen (done ++ h ∷ later) → At seen done h
    at_hop seen [] h later g = record { near = inl g.0; fresh = g.1; inside = g.2; joins = g.3 }
    at_hop seen (d ∷ done) h later g =
        let r = at_hop (d.far ∷ seen) done h later g.4 in
        record {
          near = elim r.near [ inl i ↦ elim i [ inl e ↦ inr (inl e) | inr j ↦ inl j ] | inr i ↦ inr (inr i) ];
          fresh = λ i. r.fresh (inr i);
          inside = r.inside;
          joins = r.joins;
        }

    pairs_append : (v w : List Hop) → pairs (v ++ w) ≡ pairs v ++ pairs w
    pairs_append [] w = refl
    pairs_append (h ∷ v) w = ap (λ t. (h.arc, h.far) ∷ t) (pairs_append v w)

    record Placed (h : Hop) : Type 0 where
      off : ¬ IsIn h.arc (extra_arcs x)
      inside : IsIn h.arc own
      joins : Joins (graph_of ends h.arc) h.near h.far
      near : (before after : List ℕ) → before ++ h.arc ∷ after ≡ own → AreJoined (map (graph_of ends) (before ++ after)) h.near (root x)

    placed : (h : Hop) → IsIn h hops → Placed h
    placed h i = record {
      off = λ m. s.fresh (extra_joins is_extra h.arc h.near h.far m s.joins);
      inside = s.inside;
      joins = s.joins;
      near = joined_without r.0 h r.1 o (front (extra_nodes x) (pairs r.0) ((h.arc, h.far) ∷ pairs r.1) o) (front_own (extra_nodes x) (pairs r.0) (front (extra_nodes x) (pairs r.0) ((h.arc, h.far) ∷ pairs r.1) o)) s.joins s.near;
    }
      where
        r : (before : List Hop) × (after : List Hop) × (before ++ h ∷ after ≡ hops)
        r = split_at h hops i

        s : At (extra_nodes x) r.0 h
        s = at_hop (extra_nodes x) r.0 h r.1 (subst (HopsOn ends own (extra_nodes x)) (sym r.2) goes)

        o : Outward.IsOutward ratios (graph_of ends) own (extra_nodes x) (pairs r.0 ++ (h.arc, h.far) ∷ pairs r.1)
        o = subst (Outward.IsOutward ratios (graph_of ends) own (extra_nodes x)) (sym (sym (pairs_append r.0 (h ∷ r.1)) ∙ ap pairs r.2)) whole

    -- the node that a hop leads to is none of the extra arc
    pub fresh_far : (h : Hop) → IsIn h hops → ¬ IsIn h.far (extra_nodes x)
    fresh_far h i = let r = split_at h hops i in (at_hop (extra_nodes x) r.0 h r.1 (subst (HopsOn ends own (extra_nodes x)) (sym r.2) goes)).fresh

    no_far : (seen : List ℕ) (hs : List Hop) → HopsOn ends own seen hs → (h : Hop) → IsIn h hs → ¬ IsIn h.far seen
    no_far seen [] g h i j = i
    no_far seen (k ∷ hs) g h (inl e) j = g.1 (subst (λ (t : Hop). IsIn t.far seen) e j)
    no_far seen (k ∷ hs) g h (inr i) j = no_far (k.far ∷ seen) hs g.4 h i (inr j)

    -- and no other hop leads there
    far_once : (seen : List ℕ) (hs : List Hop) → HopsOn ends own seen hs → (h k : Hop) → IsIn h hs → IsIn k hs → h.far ≡ k.far → h ≡ k
    far_once seen [] g h k i j e = absurd i
    far_once seen (y ∷ hs) g h k (inl a) (inl b) e = a ∙ sym b
    far_once seen (y ∷ hs) g h k (inl a) (inr j) e = absurd (no_far (y.far ∷ seen) hs g.4 k j (inl (sym e ∙ ap (λ (t : Hop). t.far) a)))
    far_once seen (y ∷ hs) g h k (inr i) (inl b) e = absurd (no_far (y.far ∷ seen) hs g.4 h i (inl (e ∙ ap (λ (t : Hop). t.far) b)))
    far_once seen (y ∷ hs) g h k (inr i) (inr j) e = far_once (y.far ∷ seen) hs g.4 h k i j e

    pub one_far : (h k : Hop) → IsIn h hops → IsIn k hops → h.far ≡ k.far → h ≡ k
    one_far = far_once (extra_nodes x) hops goes

    hangs_of : (h : Hop) → Placed h → Hangs ends own x h.arc h.near h.far
    hangs_of h s =
        let c = split_at h.arc own s.inside in
        record { before = c.0; after = c.1; split = c.2; off = s.off; joins = s.joins; near = s.near c.0 c.1 c.2 }

    pub hangs : (h : Hop) → IsIn h hops → Hangs ends own x h.arc h.near h.far
    hangs h i = hangs_of h (placed h i)

    pub near_of : (h : Hop) → IsIn h hops → (before after : List ℕ) → before ++ h.arc ∷ after ≡ own → AreJoined (map (graph_of ends) (before ++ after)) h.near (root x)
    near_of h i = (placed h i).near

    -- no link has two near ends
    pub one_near : (a u v : ℕ) → Hangs ends own x a u v → ((before after : List ℕ) → before ++ a ∷ after ≡ own → AreJoined (map (graph_of ends) (before ++ after)) v (root x)) → ⊥
    one_near a u v l near =
        Outward.no_bridge ratios ns (map (graph_of ends) l.before) (graph_of ends a) (map (graph_of ends) l.after) (subst (IsQuasiTree ratios ns) split shape) u v l.joins
        (subst (λ t. AreJoined t v u) others (Walks.joined_trans (map (graph_of ends) (l.before ++ l.after)) v (root x) u (near l.before l.after l.split) (Walks.joined_sym (map (graph_of ends) (l.before ++ l.after)) u (root x) l.near)))
        (subst (λ t. HasExtra ratios ns t) others
        ((extra_is shape lies is_extra).extra (l.before ++ l.after) (λ b k. Cycles.others_of ratios (graph_of ends) own l.before a l.after l.split (extra_arcs x) (extra_own is_extra) l.off b k)))
      where
        others : map (graph_of ends) (l.before ++ l.after) ≡ map (graph_of ends) l.before ++ map (graph_of ends) l.after
        others = map_append (graph_of ends) l.before l.after

        split : map (graph_of ends) own ≡ map (graph_of ends) l.before ++ graph_of ends a ∷ map (graph_of ends) l.after
        split = sym (ap (map (graph_of ends)) l.split) ∙ map_append (graph_of ends) l.before (a ∷ l.after)

    module _ (all : (v : ℕ) → IsIn v ns → IsIn v (extra_nodes x) ⊎ IsIn v (fars hops)) where
      -- each arc of the piece is of the extra arc, or that of a hop
      pub arc_or : (a : ℕ) → IsIn a own → IsIn a (extra_arcs x) ⊎ ((h : Hop) × IsIn h hops × (h.arc ≡ a))
      arc_or a i =
          elim (Outward.complete ratios (graph_of ends) ns own shape lies (extra_nodes x) (extra_arcs x) (root x) (extra_is shape lies is_extra) (extra_own is_extra) (pairs hops) whole
          (front_own (extra_nodes x) (pairs hops) whole) (λ y i. elim (all y i) [ inl j ↦ inl j | inr j ↦ inr (subst (λ t. IsIn y t) (sym (fars_pairs hops)) j) ]) a i) [ inl j ↦ inl j | inr j ↦ inr (of_arc hops a j) ]

      -- each link that hangs off the extra arc is one of the hops, and so goes that way alone
      pub hangs_hop : (a u v : ℕ) → Hangs ends own x a u v → (h : Hop) × IsIn h hops × (h.arc ≡ a) × (h.near ≡ u) × (h.far ≡ v)
      hangs_hop a u v l = go (Outward.complete ratios (graph_of ends) ns own shape lies (extra_nodes x) (extra_arcs x) (root x) (extra_is shape lies is_extra) (extra_own is_extra) (pairs hops) whole
          (front_own (extra_nodes x) (pairs hops) whole) (λ y i. elim (all y i) [ inl j ↦ inl j | inr j ↦ inr (subst (λ t. IsIn y t) (sym (fars_pairs hops)) j) ])
          a (subst (λ t. IsIn a t) l.split (in_back a l.before (a ∷ l.after) (inl refl))))
        where
          hop : (h : Hop) → IsIn h hops → h.arc ≡ a → (h : Hop) × IsIn h hops × (h.arc ≡ a) × (h.near ≡ u) × (h.far ≡ v)
          hop h i e =
              let s = placed h i in
              elim (Ways.joins_same (graph_of ends a) u v h.near h.far l.joins (subst (λ t. Joins (graph_of ends t) h.near h.far) e s.joins)) [
                | inl m ↦ (h, i, e, m.0, m.1)
                | inr m ↦ absurd (one_near a u v l (λ before after c. subst (λ t. AreJoined (map (graph_of ends) (before ++ after)) t (root x)) m.0 (s.near before after (subst (λ t. before ++ t ∷ after ≡ own) (sym e) c))))
              ]

          go : IsIn a (extra_arcs x) ⊎ IsIn a (arcs_along (pairs hops)) → (h : Hop) × IsIn h hops × (h.arc ≡ a) × (h.near ≡ u) × (h.far ≡ v)
          go (inl i) = absurd (l.off i)
          go (inr i) = let r = of_arc hops a i in hop r.0 r.1 r.2
