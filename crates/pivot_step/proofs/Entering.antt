-- What one piece or two say of an arc that may enter, and whether it may.
use Rattle.std.specs.Prelude.{◌≡◌, ◌≢◌, ◌⊎◌, ◌↔◌, ◌<◌, ℕ, Bool, true, false, cond, IsTrue, Option, Some, None, Result, Ok, List, [], ◌∷◌, ◌++◌, map, length}
use Rattle.std.specs.Result.{IsOk}
use Rattle.std.proofs.Common.{refl, sym, ap, ap₂, subst, ◌∙◌, inl, inr, arith, eqb, true≢false}
use Rattle.gain_graphs.specs.Arcs.{IsIn, Touches}
use Rattle.gain_graphs.specs.QuasiTrees.{LiesIn}
use Rattle.gain_graphs.proofs.Lists.{in_append, in_front, in_back, map_append, decide_in}
use Rattle.np_frac.specs.Ratio.{Ratio, zero_ratio}
use Rattle.np_model.specs.declared.arc.Ends.{Ends}
use Rattle.np_model.specs.declared.arc.Ends.TheVariants.{Link, Drain, Feed}
use Rattle.np_model.specs.declared.log.Mark.{Mark}
use Rattle.np_model.specs.declared.log.Mark.TheVariants as marked
use Rattle.np_model.specs.declared.rows.Overflow.{Overflow}
use Rattle.np_model.specs.Network.Arcs.{tail_of, head_of}
use Rattle.np_model.specs.Network.Flows.{Network}
use Rattle.np_model.specs.Basis.Graphs.{ratios, graph_ends, arc_at, ends_at}
use Rattle.np_model.specs.Basis.Moves.{IsOpen, Gains, IsEligible}
use Rattle.np_model.specs.Basis.Pieces.{PieceLists, nodes_in, basics_in, marked_in, beside, marks_of, nodes_of}
use Rattle.np_model.specs.Basis.Sound.{bound_at, values_in, HoldEnds, AreSound}
use Rattle.np_model.specs.Basis.States.{price}
use Rattle.np_basis.specs.Laws.{HasSoundArcs}
use Rattle.np_model.specs.Basis.Needed.{AreNeededFor, lists_of}
use Rattle.np_basis.proofs.Directions as directions
use Rattle.np_basis.proofs.Pivoting.{not_gaining}
use Rattle.np_basis.proofs.Reading.{in_flat_of, map_map}
use Rattle.np_basis.proofs.Roots.{needed_hold, only_one}
use Rattle.np_basis.proofs.Sound as sounds
use Rattle.quasi_tree.specs.Store.{Store}
use Rattle.piece_lists.specs.Joining.{all_nodes}
use Rattle.np_model.specs.Rows.Prices.{price_at, price_of}
use Rattle.arc_pricing.proofs.Eligibility.{price_exact}

-- ---- what stands beside a number in two lists

differs : (v w : ℕ) → eqb v w ≡ false → v ≢ w
differs v w h = grind arith

equals : (v w : ℕ) → eqb v w ≡ true → v ≡ w
equals v w h = grind arith

beside_front : {A : Type 0} (other : A) (xs ys : List (ℕ × A)) (v : ℕ) → IsIn v (map (λ x. x.0) xs) → beside other (xs ++ ys) v ≡ beside other xs v
beside_front other [] ys v i = absurd i
beside_front {A} other (x ∷ xs) ys v i = go (eqb v x.0) refl (beside_front other xs ys v)
  where
    go : (b : Bool) → eqb v x.0 ≡ b → (IsIn v (map (λ (x : ℕ × A). x.0) xs) → beside other (xs ++ ys) v ≡ beside other xs v) → cond (eqb v x.0) x.1 (beside other (xs ++ ys) v) ≡ cond (eqb v x.0) x.1 (beside other xs v)
    go true e next = ap (λ b. cond b x.1 (beside other (xs ++ ys) v)) e ∙ sym (ap (λ b. cond b x.1 (beside other xs v)) e)
    go false e next = ap (cond (eqb v x.0) x.1) (next (elim i [ inl f ↦ absurd (differs v x.0 e f) | inr j ↦ j ]))

beside_back : {A : Type 0} (other : A) (xs ys : List (ℕ × A)) (v : ℕ) → (¬ IsIn v (map (λ x. x.0) xs)) → beside other (xs ++ ys) v ≡ beside other ys v
beside_back other [] ys v h = refl
beside_back {A} other (x ∷ xs) ys v h = go (eqb v x.0) refl (beside_back other xs ys v (λ i. h (inr i)))
  where
    go : (b : Bool) → eqb v x.0 ≡ b → beside other (xs ++ ys) v ≡ beside other ys v → cond (eqb v x.0) x.1 (beside other (xs ++ ys) v) ≡ beside other ys v
    go true e next = absurd (h (inl (equals v x.0 e)))
    go false e next = ap (λ b. cond b x.1 (beside other (xs ++ ys) v)) e ∙ next

-- ---- one piece or two

pub first_potential : (first : PieceLists) (second : Option Store) (v : ℕ) → IsIn v (nodes_in first) → beside zero_ratio first.nodes v ≡ beside zero_ratio (all_nodes (lists_of (λ (s : Store). s.lists) first second)) v
first_potential first None v i = sym (beside_front zero_ratio first.nodes [] v i)
first_potential first (Some other) v i = sym (beside_front zero_ratio first.nodes (other.lists.nodes ++ []) v i)

pub in_second : (first : PieceLists) (second : Option Store) (other : Store) (v : ℕ) → second ≡ Some other → (¬ IsIn v (nodes_in first)) → IsIn v (nodes_of (lists_of (λ (s : Store). s.lists) first second)) → IsIn v (nodes_in other.lists)
in_second first second other v e h i =
    elim (in_append v (nodes_in first) (nodes_in other.lists ++ []) (subst (λ t. IsIn v (nodes_of (lists_of (λ (s : Store). s.lists) first t))) e i)) [ inl j ↦ absurd (h j) | inr j ↦ only_one other.lists v j ]

pub second_potential : (first : PieceLists) (second : Option Store) (other : Store) (v : ℕ) → second ≡ Some other → (¬ IsIn v (nodes_in first)) → IsIn v (nodes_in other.lists)
    → beside zero_ratio other.lists.nodes v ≡ beside zero_ratio (all_nodes (lists_of (λ (s : Store). s.lists) first second)) v
second_potential first second other v e h i =
    sym (beside_back zero_ratio first.nodes (other.lists.nodes ++ []) v h ∙ beside_front zero_ratio other.lists.nodes [] v i) ∙ ap (λ t. beside zero_ratio (all_nodes (lists_of (λ (s : Store). s.lists) first t)) v) (sym e)

pub no_second : (first : PieceLists) (second : Option Store) (v : ℕ) → second ≡ None → (¬ IsIn v (nodes_in first)) → IsIn v (nodes_of (lists_of (λ (s : Store). s.lists) first second)) → ⊥
no_second first second v e h i = h (only_one first v (subst (λ t. IsIn v (nodes_of (lists_of (λ (s : Store). s.lists) first t))) e i))

touches_first : (first : PieceLists) (second : Option Store) (e : Ends) → AreNeededFor (lists_of (λ (s : Store). s.lists) first second) e → Touches (nodes_in first) (graph_ends e)
touches_first first None (Link i j g) h = inl (only_one first i h.0)
touches_first first None (Drain v) h = only_one first v h
touches_first first None (Feed v) h = only_one first v h
touches_first first (Some other) (Link i j g) h = elim h [ inl k ↦ inl k.0 | inr k ↦ inr k.1 ]
touches_first first (Some other) (Drain v) h = absurd h
touches_first first (Some other) (Feed v) h = absurd h

pub is_first : (first : PieceLists) (second : Option Store) → IsIn first (lists_of (λ (s : Store). s.lists) first second)
is_first first None = inl refl
is_first first (Some other) = inl refl

pub stands_first : (net : Network) (first : PieceLists) (second : Option Store) (a : ℕ) → AreSound net (lists_of (λ (s : Store). s.lists) first second) → AreNeededFor (lists_of (λ (s : Store). s.lists) first second) (ends_at net.arcs a) → a < length net.arcs
    → IsIn a (basics_in first) ⊎ IsIn a (marked_in first)
stands_first net first second a sound needed below = elim (decide_in a (basics_in first)) [
  | yes i ↦ inl i
  | no h ↦ inr (((sound.each first (is_first first second)).in_net.marked a).1 (below, h, touches_first first second (ends_at net.arcs a) needed))
]

mark_keys : (p : PieceLists) → map (λ (m : ℕ × Mark). m.0) (marks_of p) ≡ basics_in p ++ marked_in p
mark_keys p = map_append (λ (m : ℕ × Mark). m.0) (map (λ (b : ℕ × Ends × Ratio). (b.0, marked.Basic)) p.basics) p.marks
    ∙ ap (λ t. t ++ marked_in p) (map_map (λ (b : ℕ × Ends × Ratio). (b.0, marked.Basic)) (λ (m : ℕ × Mark). m.0) p.basics)

pub first_mark : (net : Network) (first : PieceLists) (second : Option Store) (a : ℕ) → IsIn a (basics_in first) ⊎ IsIn a (marked_in first) → beside marked.Lower (marks_of first) a ≡ (values_in net (lists_of (λ (s : Store). s.lists) first second)).mark a
first_mark net first second a h = go second
  where
    key : IsIn a (map (λ (m : ℕ × Mark). m.0) (marks_of first))
    key = subst (IsIn a) (sym (mark_keys first)) (elim h [ inl i ↦ in_front a (basics_in first) (marked_in first) i | inr i ↦ in_back a (basics_in first) (marked_in first) i ])

    go : (second : Option Store) → beside marked.Lower (marks_of first) a ≡ (values_in net (lists_of (λ (s : Store). s.lists) first second)).mark a
    go None = sym (beside_front marked.Lower (marks_of first) [] a key)
    go (Some other) = sym (beside_front marked.Lower (marks_of first) (marks_of other.lists ++ []) a key)

-- ---- the arc

lies_tail : (ns : List ℕ) (e : Ends) → LiesIn ratios ns (graph_ends e) → IsIn (tail_of e) ns
lies_tail ns (Link i j g) h = h.0
lies_tail ns (Drain v) h = h
lies_tail ns (Feed v) h = h

lies_head : (ns : List ℕ) (e : Ends) → LiesIn ratios ns (graph_ends e) → IsIn (head_of e) ns
lies_head ns (Link i j g) h = h.1
lies_head ns (Drain v) h = h
lies_head ns (Feed v) h = h

module _ (net : Network) (arcs_sound : HasSoundArcs net) (ps : List PieceLists) (a : ℕ) (below : a < length net.arcs) (needed : AreNeededFor ps (ends_at net.arcs a)) where
  holds : HoldEnds ps (ends_at net.arcs a)
  holds = needed_hold ps (ends_at net.arcs a) (length net.supply) (directions.ends_valid net arcs_sound a below) needed

  pub tail_in : (v : ℕ) (e : Ends) → v ≡ tail_of e → e ≡ ends_at net.arcs a → IsIn v (nodes_of ps)
  tail_in v e f g = subst (λ t. IsIn t (nodes_of ps)) (sym (f ∙ ap tail_of g)) (lies_tail (nodes_of ps) (ends_at net.arcs a) holds)

  pub head_in : (v : ℕ) (e : Ends) → v ≡ head_of e → e ≡ ends_at net.arcs a → IsIn v (nodes_of ps)
  head_in v e f g = subst (λ t. IsIn t (nodes_of ps)) (sym (f ∙ ap head_of g)) (lies_head (nodes_of ps) (ends_at net.arcs a) holds)

module _ (net : Network) (real : ℕ) (ps : List PieceLists) (a : ℕ) (e : Ends) (tail head : ℕ) (first second : Ratio) (is_ends : e ≡ ends_at net.arcs a) (is_tail : tail ≡ tail_of e) (is_head : head ≡ head_of e)
    (is_first : first ≡ beside zero_ratio (all_nodes ps) tail) (is_second : second ≡ beside zero_ratio (all_nodes ps) head) where
  pub same_price : price_at net a first second ≡ price_of net (values_in net ps).potential a
  same_price = ap₂ (λ x y. price_at net a x y) (is_first ∙ ap (beside zero_ratio (all_nodes ps)) (is_tail ∙ ap tail_of is_ends)) (is_second ∙ ap (beside zero_ratio (all_nodes ps)) (is_head ∙ ap head_of is_ends))

  module _ (found : Result Ratio Overflow) (r : Ratio) (is_found : found ≡ price_at net a first second) (ok : found ≡ Ok r) where
    is_price : price_of net (values_in net ps).potential a ≡ Ok r
    is_price = sym same_price ∙ sym is_found ∙ ok

    pub price_fits : IsOk (price_of net (values_in net ps).potential a)
    price_fits = subst IsOk (sym is_price) refl

    exact : r ≡ price (values_in net ps).potential (arc_at net.arcs a)
    exact = price_exact net (values_in net ps).potential a r is_price

    module _ (mark : Mark) (is_mark : mark ≡ (values_in net ps).mark a) (b : Bool) (test : IsTrue b ↔ (IsOpen net real a × Gains mark r)) where
      pub eligible : b ≡ true → IsEligible net real (values_in net ps) a
      eligible h = let t = test.0 h in record { is_open = t.0; gains = subst (λ m. Gains m (price (values_in net ps).potential (arc_at net.arcs a))) is_mark (subst (Gains mark) exact t.1) }

      pub not_eligible : b ≡ false → ¬ IsEligible net real (values_in net ps) a
      not_eligible h k = true≢false (sym (test.1 (k.is_open, subst (Gains mark) (sym exact) (subst (λ m. Gains m (price (values_in net ps).potential (arc_at net.arcs a))) (sym is_mark) k.gains))) ∙ h)

pub its_flow : (net : Network) (real : ℕ) (ps : List PieceLists) (a : ℕ) (mark : Mark) → AreSound net ps → IsEligible net real (values_in net ps) a → mark ≡ (values_in net ps).mark a → bound_at (arc_at net.arcs a) mark ≡ (values_in net ps).flow a
its_flow net real ps a mark sound eligible e = ap (bound_at (arc_at net.arcs a)) e ∙ sym (sounds.flow_off net ps sound a (λ i.
    let r = in_flat_of basics_in ps a i in not_gaining ((values_in net ps).mark a) _ eligible.gains (sounds.mark_basic net ps sound r.0 a r.1 r.2)))
