-- A direction on pieces of a network is one on each of them; and there is one.
use Rattle.std.specs.Prelude.{◌≡◌, ◌≢◌, ◌⊎◌, ◌<◌, ℕ, nat_eq, Bool, true, false, List, [], ◌∷◌, map, length, if◌then◌else◌}
use Rattle.std.proofs.Common.{refl, sym, ap, ap₂, subst, ◌∙◌, inl, inr, eqb-true, eq-eqb}
use Rattle.gain_graphs.specs.Field as field
use Rattle.gain_graphs.specs.Arcs.{IsIn, AreDistinct, Touches}
use Rattle.gain_graphs.specs.QuasiTrees.{LiesIn}
use Rattle.gain_graphs.proofs.Lists.{in_front, in_back, in_append, distinct_append, apart_parts, once_right, decide_in}
use Rattle.gain_graphs.proofs.Pieces as graph_pieces
use Rattle.gain_graphs.proofs.Sums as sums
use Rattle.gain_graphs.proofs.Theorems as theorems
use Rattle.np_frac.specs.Ratio.{Ratio, zero_ratio, negated, ◌+ᵣ◌, ◌*ᵣ◌}
use Rattle.np_frac.proofs.RatioLaws.{+ᵣ-zero, zero-+ᵣ, zero-*ᵣ}
use Rattle.np_frac.proofs.Field.{+ᵣ-negated}
use Rattle.np_model.specs.declared.arc.Ends.{Ends}
use Rattle.np_model.specs.declared.arc.Ends.TheVariants.{Link, Drain, Feed}
use Rattle.np_model.specs.Network.Arcs.{coefficient, tail_of}
use Rattle.np_model.specs.Network.Flows.{Network}
use Rattle.np_model.specs.Basis.Graphs.{ratios, graph_ends, graph_of, no_arc, ends_at}
use Rattle.np_model.specs.Basis.Pieces.{PieceLists, nodes_in, basics_in, nodes_of, basics_of}
use Rattle.np_model.specs.Basis.Sound.{IsInNet}
use Rattle.np_model.specs.Basis.Moves.{balance_on}
use Rattle.np_basis.specs.Laws.{HasSoundArcs}
use Rattle.np_basis.proofs.Ascending.{ascends, ascends_once}
use Rattle.np_basis.proofs.Extras.{links_are_no_loops}
use Rattle.np_basis.proofs.Trees as trees
use Rattle.tree_flows.specs.declared.sums.Entering.{Entering}
use Rattle.tree_flows.specs.Answers.{CanEnter, IsPulled, ArePulled}
use Rattle.np_model.specs.Basis.Needed.{IsDirectionOf}
use Rattle.tree_flows.proofs.Coefficients.{K}

total_map : {A B : Type 0} (f : B → Ratio) (g : A → B) (xs : List A) → field.total ratios f (map g xs) ≡ field.total ratios (λ x. f (g x)) xs
total_map f g [] = refl
total_map f g (x ∷ xs) = ap (λ t. f (g x) +ᵣ t) (total_map f g xs)

tail_in : (nodes : List ℕ) (e : Ends) → LiesIn ratios nodes (graph_ends e) → IsIn (tail_of e) nodes
tail_in nodes (Link i j g) l = l.0
tail_in nodes (Drain i) l = l
tail_in nodes (Feed i) l = l

touched_in : (nodes : List ℕ) (e : Ends) (v : ℕ) → LiesIn ratios nodes (graph_ends e) → Touches (v ∷ []) (graph_ends e) → IsIn v nodes
touched_in nodes (Link i j g) v l (inl (inl m)) = subst (λ t. IsIn t nodes) m l.0
touched_in nodes (Link i j g) v l (inr (inl m)) = subst (λ t. IsIn t nodes) m l.1
touched_in nodes (Link i j g) v l (inl (inr z)) = absurd z
touched_in nodes (Link i j g) v l (inr (inr z)) = absurd z
touched_in nodes (Drain i) v l (inl m) = subst (λ t. IsIn t nodes) m l
touched_in nodes (Drain i) v l (inr z) = absurd z
touched_in nodes (Feed i) v l (inl m) = subst (λ t. IsIn t nodes) m l
touched_in nodes (Feed i) v l (inr z) = absurd z

pub in_basics : (pieces : List PieceLists) (p : PieceLists) (a : ℕ) → IsIn p pieces → IsIn a (basics_in p) → IsIn a (basics_of pieces)
in_basics [] p a i j = absurd i
in_basics (q ∷ pieces) p a (inl e) j = in_front a (basics_in q) (basics_of pieces) (subst (λ t. IsIn a (basics_in t)) e j)
in_basics (q ∷ pieces) p a (inr i) j = in_back a (basics_in q) (basics_of pieces) (in_basics pieces p a i j)

pub of_basics : (pieces : List PieceLists) (a : ℕ) → IsIn a (basics_of pieces) → (p : PieceLists) × IsIn p pieces × IsIn a (basics_in p)
of_basics [] a i = absurd i
of_basics (q ∷ pieces) a i = elim (in_append a (basics_in q) (basics_of pieces) i) [ inl j ↦ (q, inl refl, j) | inr j ↦ (let r = of_basics pieces a j in (r.0, inr r.1, r.2)) ]

pub in_nodes : (pieces : List PieceLists) (p : PieceLists) (v : ℕ) → IsIn p pieces → IsIn v (nodes_in p) → IsIn v (nodes_of pieces)
in_nodes [] p v i j = absurd i
in_nodes (q ∷ pieces) p v (inl e) j = in_front v (nodes_in q) (nodes_of pieces) (subst (λ t. IsIn v (nodes_in t)) e j)
in_nodes (q ∷ pieces) p v (inr i) j = in_back v (nodes_in q) (nodes_of pieces) (in_nodes pieces p v i j)

of_nodes : (pieces : List PieceLists) (v : ℕ) → IsIn v (nodes_of pieces) → (p : PieceLists) × IsIn p pieces × IsIn v (nodes_in p)
of_nodes [] v i = absurd i
of_nodes (q ∷ pieces) v i = elim (in_append v (nodes_in q) (nodes_of pieces) i) [ inl j ↦ (q, inl refl, j) | inr j ↦ (let r = of_nodes pieces v j in (r.0, inr r.1, r.2)) ]

module _ (net : Network) (sound : HasSoundArcs net) where
  abbrev E : ℕ → Ends
  E = ends_at net.arcs

  abbrev AllIn : List PieceLists → Type 0
  AllIn pieces = (p : PieceLists) → IsIn p pieces → IsInNet net p

  lies_in : (pieces : List PieceLists) → AllIn pieces → (a : ℕ) → IsIn a (basics_of pieces) → (p : PieceLists) × IsIn p pieces × IsIn a (basics_in p) × LiesIn ratios (nodes_in p) (graph_of E a)
  lies_in pieces all a i = let r = of_basics pieces a i in (r.0, r.1, r.2, trees.lies net r.0 (all r.0 r.1) a r.2)

  -- an arc of another piece does not touch a node of this one
  untouched : (r : PieceLists) (rest : List PieceLists) → AllIn (r ∷ rest) → AreDistinct (nodes_of (r ∷ rest)) → (a v : ℕ) → IsIn a (basics_of rest) → IsIn v (nodes_in r) → ¬ Touches (v ∷ []) (graph_of E a)
  untouched r rest all apart a v i j t =
      let l = lies_in rest (λ p k. all p (inr k)) a i in
      apart_parts (nodes_in r) (nodes_of rest) apart v j (in_nodes rest l.0 v l.1 (touched_in (nodes_in l.0) (E a) v l.3 t))

  untouching : (r : PieceLists) (rest : List PieceLists) → AllIn (r ∷ rest) → AreDistinct (nodes_of (r ∷ rest)) → (a v : ℕ) → IsIn a (basics_in r) → IsIn v (nodes_of rest) → ¬ Touches (v ∷ []) (graph_of E a)
  untouching r rest all apart a v i j t = apart_parts (nodes_in r) (nodes_of rest) apart v (touched_in (nodes_in r) (E a) v (trees.lies net r (all r (inl refl)) a i) t) j

  disjoint : (r : PieceLists) (rest : List PieceLists) → AllIn (r ∷ rest) → AreDistinct (nodes_of (r ∷ rest)) → (a : ℕ) → IsIn a (basics_in r) → ¬ IsIn a (basics_of rest)
  disjoint r rest all apart a i j =
      let l = lies_in rest (λ p k. all p (inr k)) a j in
      apart_parts (nodes_in r) (nodes_of rest) apart (tail_of (E a)) (tail_in (nodes_in r) (E a) (trees.lies net r (all r (inl refl)) a i)) (in_nodes rest l.0 (tail_of (E a)) l.1 (tail_in (nodes_in l.0) (E a) l.3))

  -- no arc is in two of them
  basics_once : (pieces : List PieceLists) → AllIn pieces → AreDistinct (nodes_of pieces) → AreDistinct (basics_of pieces)
  basics_once [] all apart = record {}
  basics_once (r ∷ rest) all apart =
      distinct_append (basics_in r) (basics_of rest) (ascends_once (basics_in r) (ascends (basics_in r) (all r (inl refl)).shape.basics_ascend))
      (basics_once rest (λ p k. all p (inr k)) (once_right (nodes_in r) (nodes_of rest) apart)) (disjoint r rest all apart)

  -- an arc at a node of a piece is of that piece
  same_piece : (pieces : List PieceLists) → AllIn pieces → AreDistinct (nodes_of pieces) → (p : PieceLists) (a v : ℕ) → IsIn p pieces → IsIn v (nodes_in p) → IsIn a (basics_of pieces) → Touches (v ∷ []) (graph_of E a) → IsIn a (basics_in p)
  same_piece [] all apart p a v i j k t = absurd i
  same_piece (r ∷ rest) all apart p a v i j k t = go i (in_append a (basics_in r) (basics_of rest) k) (λ m n. same_piece rest (λ q w. all q (inr w)) (once_right (nodes_in r) (nodes_of rest) apart) p a v m j n t)
    where
      go : (p ≡ r) ⊎ IsIn p rest → IsIn a (basics_in r) ⊎ IsIn a (basics_of rest) → (IsIn p rest → IsIn a (basics_of rest) → IsIn a (basics_in p)) → IsIn a (basics_in p)
      go (inl e) (inl m) ih = subst (λ q. IsIn a (basics_in q)) (sym e) m
      go (inl e) (inr m) ih = absurd (untouched r rest all apart a v m (subst (λ q. IsIn v (nodes_in q)) e j) t)
      go (inr n) (inl m) ih = absurd (untouching r rest all apart a v m (in_nodes rest p v n j) t)
      go (inr n) (inr m) ih = ih n m

  no_terms : (d : ℕ → Ratio) (a v : ℕ) → (¬ Touches (v ∷ []) (graph_of E a)) → K (E a) v *ᵣ d a ≡ zero_ratio
  no_terms d a v n = ap (λ t. t *ᵣ d a) (graph_pieces.untouched_coefficient ratios 0 (graph_of E) (v ∷ []) (graph_of E a) v (inl refl) n) ∙ zero-*ᵣ (d a)

  -- what arcs of the network take from a node
  pub balance_is : (numbers : List ℕ) → ((a : ℕ) → IsIn a numbers → a < length net.arcs) → (d : ℕ → Ratio) (v : ℕ) → balance_on net numbers d v ≡ field.total ratios (λ a. K (E a) v *ᵣ d a) numbers
  balance_is numbers below d v =
      trees.total_is (λ (q : Ends × Ratio). coefficient q.0 v *ᵣ q.1) (map (λ a. (E a, d a)) numbers)
      ∙ total_map (λ (q : Ends × Ratio). coefficient q.0 v *ᵣ q.1) (λ a. (E a, d a)) numbers
      ∙ sums.total_same ratios (λ a. coefficient (E a) v *ᵣ d a) (λ a. K (E a) v *ᵣ d a) numbers
      (λ a i. ap (λ t. t *ᵣ d a) (trees.coefficient_is (length net.supply) (E a) v (sound a no_arc (below a i)).joins))

  module _ (pieces : List PieceLists) (enter : ℕ) (can : CanEnter net pieces enter) where
    abbrev pub numbers : List ℕ
    numbers = enter ∷ basics_of pieces

    numbers_below : (a : ℕ) → IsIn a numbers → a < length net.arcs
    numbers_below a (inl e) = subst (λ n. n < length net.arcs) (sym e) can.inside
    numbers_below a (inr i) = let r = of_basics pieces a i in trees.basic_below net r.0 (can.in_net r.0 r.1) a r.2

    -- amounts that agree on these arcs balance alike
    pub balance_same : (d f : ℕ → Ratio) (v : ℕ) → ((a : ℕ) → IsIn a numbers → d a ≡ f a) → balance_on net numbers d v ≡ balance_on net numbers f v
    balance_same d f v same =
        balance_is numbers numbers_below d v ∙ sums.total_same ratios (λ a. K (E a) v *ᵣ d a) (λ a. K (E a) v *ᵣ f a) numbers (λ a i. ap (λ t. K (E a) v *ᵣ t) (same a i)) ∙ sym (balance_is numbers numbers_below f v)

    -- the direction on each piece
    pub pulled : (e : Entering) (d : ℕ → Ratio) → e.arc ≡ enter → e.ends ≡ E enter → e.amount ≢ zero_ratio → IsDirectionOf net pieces enter e.amount d → ArePulled net pieces e d
    pulled e d arc_is ends_are moves dir = record { pulled = each; once = basics_once pieces can.in_net can.apart; moves = moves }
      where
        each : (p : PieceLists) → IsIn p pieces → IsPulled net p e d
        each p i = record {
          in_net = can.in_net p i;
          inside = subst (λ n. n < length net.arcs) (sym arc_is) can.inside;
          outside = subst (λ n. ¬ IsIn n (basics_in p)) (sym arc_is) (λ j. can.outside (in_basics pieces p enter i j));
          ends_are = ap E arc_is ∙ sym ends_are;
          no_loop = rw ends_are (links_are_no_loops net enter sound can.inside);
          enters = ap d arc_is ∙ dir.enters;
          balanced = λ v j. subst (λ n. balance_on net (n ∷ basics_in p) d v ≡ zero_ratio) (sym arc_is) (balanced v j);
        }
          where
            below : (a : ℕ) → IsIn a (enter ∷ basics_in p) → a < length net.arcs
            below a (inl k) = numbers_below a (inl k)
            below a (inr k) = numbers_below a (inr (in_basics pieces p a i k))

            counts : (a v : ℕ) → IsIn v (nodes_in p) → IsIn a numbers → Touches (v ∷ []) (graph_of E a) → IsIn a (enter ∷ basics_in p)
            counts a v j (inl k) t = inl k
            counts a v j (inr k) t = inr (same_piece pieces can.in_net can.apart p a v i j k t)

            balanced : (v : ℕ) → IsIn v (nodes_in p) → balance_on net (enter ∷ basics_in p) d v ≡ zero_ratio
            balanced v j =
                balance_is (enter ∷ basics_in p) below d v
                ∙ sym (graph_pieces.total_only ratios 0 (graph_of E) (λ a. K (E a) v *ᵣ d a) (enter ∷ basics_in p) numbers
                ((λ k. can.outside (in_basics pieces p enter i k)), ascends_once (basics_in p) (ascends (basics_in p) (can.in_net p i).shape.basics_ascend))
                (can.outside, basics_once pieces can.in_net can.apart)
                (λ a. elim [ inl k ↦ inl k | inr k ↦ inr (in_basics pieces p a i k) ])
                (λ a k n. no_terms d a v (λ t. n (counts a v j k t))))
                ∙ sym (balance_is numbers numbers_below d v) ∙ dir.balanced v (in_nodes pieces p v i j)

    -- ---- there is a direction

    module _ (amount : Ratio) where
      flow_on : (p : PieceLists) → IsInNet net p → (flow : ℕ → Ratio) × ((v : ℕ) → IsIn v (nodes_in p) → field.total ratios (λ a. K (E a) v *ᵣ flow a) (basics_in p) ≡ negated (K (E enter) v *ᵣ amount))
      flow_on p h = theorems.flow_exists ratios (graph_of E) (nodes_in p) (basics_in p) (trees.tree net p h) (λ v. negated (K (E enter) v *ᵣ amount))

      abbrev choose : {A : Type 0} → Dec A → Ratio → Ratio → Ratio
      choose (yes _) r q = r
      choose (no _) r q = q

      abbrev together : (pieces : List PieceLists) → AllIn pieces → ℕ → Ratio
      together [] all a = zero_ratio
      together (r ∷ rest) all a = choose (decide_in a (basics_in r)) ((flow_on r (all r (inl refl))).0 a) (together rest (λ p k. all p (inr k)) a)

      balances : (pieces : List PieceLists) (all : AllIn pieces) → AreDistinct (nodes_of pieces) → (v : ℕ) → IsIn v (nodes_of pieces)
          → field.total ratios (λ a. K (E a) v *ᵣ together pieces all a) (basics_of pieces) ≡ negated (K (E enter) v *ᵣ amount)
      balances [] all apart v i = absurd i
      balances (r ∷ rest) all apart v i =
          sums.total_append ratios (λ a. K (E a) v *ᵣ together (r ∷ rest) all a) (basics_in r) (basics_of rest)
          ∙ elim (in_append v (nodes_in r) (nodes_of rest) i) [
            | inl j ↦ ap₂ (λ x y. x +ᵣ y) (own ∙ (flow_on r (all r (inl refl))).1 v j) (sums.total_zero ratios (λ a. K (E a) v *ᵣ together (r ∷ rest) all a) (basics_of rest) (λ a k. no_terms (together (r ∷ rest) all) a v (untouched r rest all apart a v k j)))
                ∙ +ᵣ-zero (negated (K (E enter) v *ᵣ amount))
            | inr j ↦ ap₂ (λ x y. x +ᵣ y) (sums.total_zero ratios (λ a. K (E a) v *ᵣ together (r ∷ rest) all a) (basics_in r) (λ a k. no_terms (together (r ∷ rest) all) a v (untouching r rest all apart a v k j)))
                (others ∙ balances rest (λ p k. all p (inr k)) (once_right (nodes_in r) (nodes_of rest) apart) v j)
                ∙ zero-+ᵣ (negated (K (E enter) v *ᵣ amount))
          ]
        where
          here : (a : ℕ) (t : Dec (IsIn a (basics_in r))) → IsIn a (basics_in r) → choose t ((flow_on r (all r (inl refl))).0 a) (together rest (λ p k. all p (inr k)) a) ≡ (flow_on r (all r (inl refl))).0 a
          here a (yes _) k = refl
          here a (no n) k = absurd (n k)

          there : (a : ℕ) (t : Dec (IsIn a (basics_in r))) → IsIn a (basics_of rest) → choose t ((flow_on r (all r (inl refl))).0 a) (together rest (λ p k. all p (inr k)) a) ≡ together rest (λ p k. all p (inr k)) a
          there a (yes j) k = absurd (disjoint r rest all apart a j k)
          there a (no _) k = refl

          own : field.total ratios (λ a. K (E a) v *ᵣ together (r ∷ rest) all a) (basics_in r) ≡ field.total ratios (λ a. K (E a) v *ᵣ (flow_on r (all r (inl refl))).0 a) (basics_in r)
          own = sums.total_same ratios (λ a. K (E a) v *ᵣ together (r ∷ rest) all a) (λ a. K (E a) v *ᵣ (flow_on r (all r (inl refl))).0 a) (basics_in r)
              (λ a k. ap (λ t. K (E a) v *ᵣ t) (here a (decide_in a (basics_in r)) k))

          others : field.total ratios (λ a. K (E a) v *ᵣ together (r ∷ rest) all a) (basics_of rest) ≡ field.total ratios (λ a. K (E a) v *ᵣ together rest (λ p k. all p (inr k)) a) (basics_of rest)
          others = sums.total_same ratios (λ a. K (E a) v *ᵣ together (r ∷ rest) all a) (λ a. K (E a) v *ᵣ together rest (λ p k. all p (inr k)) a) (basics_of rest)
              (λ a k. ap (λ t. K (E a) v *ᵣ t) (there a (decide_in a (basics_in r)) k))

      abbrev whole : ℕ → Ratio
      whole a = if nat_eq a enter then amount else together pieces can.in_net a

      whole_here : (a : ℕ) → a ≡ enter → whole a ≡ amount
      whole_here a e = rw (eq-eqb a enter e)

      whole_there : (a : ℕ) → IsIn a (basics_of pieces) → whole a ≡ together pieces can.in_net a
      whole_there a i = go (nat_eq a enter) refl
        where
          go : (b : Bool) → nat_eq a enter ≡ b → (if b then amount else together pieces can.in_net a) ≡ together pieces can.in_net a
          go true e = absurd (can.outside (subst (λ n. IsIn n (basics_of pieces)) (eqb-true a enter e) i))
          go false e = refl

      pub direction_exists : (d : ℕ → Ratio) × IsDirectionOf net pieces enter amount d
      direction_exists = (
        whole,
        record {
          enters = whole_here enter refl;
          only = λ a i _. i;
          balanced = λ v i.
              balance_is numbers numbers_below whole v
              ∙ ap₂ (λ x y. K (E enter) v *ᵣ x +ᵣ y) (whole_here enter refl)
              (sums.total_same ratios (λ a. K (E a) v *ᵣ whole a) (λ a. K (E a) v *ᵣ together pieces can.in_net a) (basics_of pieces) (λ a k. ap (λ t. K (E a) v *ᵣ t) (whole_there a k))
              ∙ balances pieces can.in_net can.apart v i)
              ∙ +ᵣ-negated (K (E enter) v *ᵣ amount);
        },
      )
