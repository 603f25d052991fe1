-- The amounts on the arcs of a cycle.
use Rattle.std.specs.Prelude.{◌≡◌, ◌≢◌, ◌⊎◌, ◌<◌, ℕ, zero, suc, nat_eq, Bool, true, false, List, [], ◌∷◌, ◌++◌, length, slice_index, slice_set, if◌then◌else◌, Result, Ok, Err, MatchResult}
use Rattle.std.specs.List.{All}
use Rattle.std.specs.Result.{IsOk}
use Rattle.std.proofs.Common.{refl, sym, ap, ap₂, subst, ◌∙◌, inl, inr, arith, eqb-true, eq-eqb, true≢false, lt_irrefl}
use Rattle.std.proofs.lemmas.List.{get_or-set_same, get_or-set_other, length-set}
use Rattle.gain_graphs.specs.Field as field
use Rattle.gain_graphs.specs.Arcs.{IsIn, Touches}
use Rattle.gain_graphs.specs.Cycles.{Joins, IsWay, IsLeastFirst, arcs_along, nodes_along}
use Rattle.gain_graphs.proofs.Lists.{decide_in}
use Rattle.gain_graphs.proofs.Pieces as graph_pieces
use Rattle.gain_graphs.proofs.Sums as graph_sums
use Rattle.gain_graphs.proofs.Ways as ways
use Rattle.gain_graphs.proofs.Theorems as theorems
use Rattle.np_frac.specs.Ratio.{Ratio, zero_ratio, one_ratio, negated, ◌+ᵣ◌, ◌*ᵣ◌}
use Rattle.np_frac.specs.Order.{tests_true, true_tests}
use Rattle.np_frac.specs.Exact.{plus_of, over_of, ◌▷◌}
use Rattle.np_frac.specs.declared.frac.Past.{Past}
use Rattle.np_frac.proofs.Exactness.{plus_exact, found_by}
use Rattle.np_frac.proofs.RatioLaws.{+ᵣ_assoc, +ᵣ_comm, +ᵣ-zero, zero-+ᵣ, *ᵣ-zero, zero-*ᵣ, one-*ᵣ}
use Rattle.np_model.specs.declared.arc.Ends.{Ends}
use Rattle.np_model.specs.declared.rows.Row.TheVariants.{A3, A4}
use Rattle.np_model.specs.declared.rows.Overflow.{Overflow}
use Rattle.np_model.specs.declared.rows.Place.TheVariants.{Arc}
use Rattle.np_model.specs.Network.Flows.{at}
use Rattle.np_model.specs.Basis.Graphs.{ratios, graph_of}
use Rattle.np_model.specs.Basis.Pieces.{nodes_in}
use Rattle.np_model.specs.Rows.Directions as rows
use Rattle.np_model.specs.Rows.Directions.{term, with_first, sum_at, HasSum, IsTouched, Gives, FitsRows, FitsExtra}
use Rattle.np_model.specs.Rows.Extra.{Round, extra_arcs, extra_nodes, IsExtra}
use Rattle.np_basis.proofs.Divisors.{directions_divisor}
use Rattle.np_basis.proofs.Trees as trees
use Rattle.tree_search.specs.declared.piece.Step.{Step}
use Rattle.tree_search.specs.Places.{number_by_place, ends_by_place}
use Rattle.tree_search.specs.Finding.{way_of}
use Rattle.tree_flows.specs.Along.{IsWithin, is_zero, are_zero, sum_of, gather_sums, last_of, amount_behind, share_behind, divisor_of, closing_of, mix_after, mix_all, mix_of, turn_round, overflow_at, in_row, ◌▸◌}
use Rattle.tree_flows.specs.Walks.{close_round}
use Rattle.tree_flows.proofs.Coefficients.{K, taken, sum_exact, first_exact, term_exact, joins_touches, touches_joins, end_not_joins}
use Rattle.np_frac.proofs.Results.{is_ok_of}
use Rattle.tree_flows.proofs.Scenes as scenes
use Rattle.tree_flows.proofs.Scenes.{Scene}
use Rattle.tree_flows.proofs.Adding as adding
use Rattle.tree_flows.proofs.Balances as balances
use Rattle.tree_flows.proofs.Inward as inward
use Rattle.tree_flows.proofs.Ending as ending
use Rattle.tree_flows.proofs.Following.{Follow, not_last, two, follow_arcs, follow_apart}
use Rattle.tree_flows.proofs.Mixing as mixing

-- ---- a way by places and by numbers

module _ (nodes : List ℕ) (basics : List (ℕ × Ends × Ratio)) where
  abbrev way : List Step → List (ℕ × ℕ)
  way steps = way_of nodes basics steps

  pub way_append : (l k : List Step) → way (l ++ k) ≡ way l ++ way k
  way_append [] k = refl
  way_append (z ∷ l) k = ap (λ w. (number_by_place basics z.arc, slice_index nodes z.far) ∷ w) (way_append l k)

  pub arc_on : (l : List Step) (b : ℕ) → IsIn b (arcs_along (way l)) → (z : Step) × IsIn z l × (b ≡ number_by_place basics z.arc)
  arc_on [] b i = absurd i
  arc_on (z ∷ l) b (inl e) = (z, inl refl, e)
  arc_on (z ∷ l) b (inr i) = let r = arc_on l b i in (r.0, inr r.1, r.2)

  pub on_arc : (l : List Step) (z : Step) → IsIn z l → IsIn (number_by_place basics z.arc) (arcs_along (way l))
  on_arc [] z i = absurd i
  on_arc (y ∷ l) z (inl e) = inl (ap (λ (t : Step). number_by_place basics t.arc) e)
  on_arc (y ∷ l) z (inr i) = inr (on_arc l z i)

  pub on_node : (l : List Step) (z : Step) → IsIn z l → IsIn (slice_index nodes z.far) (nodes_along (way l))
  on_node [] z i = absurd i
  on_node (y ∷ l) z (inl e) = inl (ap (λ (t : Step). slice_index nodes t.far) e)
  on_node (y ∷ l) z (inr i) = inr (on_node l z i)

  pub node_on : (l : List Step) (v : ℕ) → IsIn v (nodes_along (way l)) → (z : Step) × IsIn z l × (v ≡ slice_index nodes z.far)
  node_on [] v i = absurd i
  node_on (z ∷ l) v (inl e) = (z, inl refl, e)
  node_on (z ∷ l) v (inr i) = let r = node_on l v i in (r.0, inr r.1, r.2)

  pub pair_on : (l : List Step) (a v : ℕ) → IsIn (a, v) (way l) → (z : Step) × IsIn z l × (v ≡ slice_index nodes z.far)
  pair_on [] a v i = absurd i
  pair_on (z ∷ l) a v (inl e) = (z, inl refl, ap (λ (t : ℕ × ℕ). t.1) e)
  pair_on (z ∷ l) a v (inr i) = let r = pair_on l a v i in (r.0, inr r.1, r.2)

  pub on_pair : (l : List Step) (z : Step) → IsIn z l → IsIn (number_by_place basics z.arc, slice_index nodes z.far) (way l)
  on_pair [] z i = absurd i
  on_pair (y ∷ l) z (inl e) = inl (ap (λ (t : Step). (number_by_place basics t.arc, slice_index nodes t.far)) e)
  on_pair (y ∷ l) z (inr i) = inr (on_pair l z i)

  pub split_way : (l : List Step) (before after : List (ℕ × ℕ)) → before ++ after ≡ way l → (b : List Step) × (a : List Step) × (b ++ a ≡ l) × (way b ≡ before)
  split_way l [] after e = ([], l, refl, refl)
  split_way [] (y ∷ before) after e = absurd (let h : ⊥ = cc in h)
  split_way (z ∷ l) (y ∷ before) after e =
      let p : (number_by_place basics z.arc, slice_index nodes z.far) ≡ y = cc in
      let f : before ++ after ≡ way l = cc in
      let r = split_way l before after f in
      (z ∷ r.0, r.1, ap (λ t. z ∷ t) {x = r.0 ++ r.1} r.2, ap₂ (λ t w. t ∷ w) p r.3)

-- ---- which sums are 0

pub zero_is : (r : Ratio) → is_zero r ≡ true → r ≡ zero_ratio
zero_is r e = tests_true r zero_ratio e

pub is_zero_of : (r : Ratio) → r ≡ zero_ratio → is_zero r ≡ true
is_zero_of r e = true_tests r zero_ratio e

pub all_zero : (sums : List Ratio) (l : List Step) → are_zero sums l ≡ true → (z : Step) → IsIn z l → at sums z.far ≡ zero_ratio
all_zero sums [] e z i = absurd i
all_zero sums (y ∷ l) e z i = go (all_zero sums l) (is_zero (at sums y.far)) refl e
  where
    go : (are_zero sums l ≡ true → (u : Step) → IsIn u l → at sums u.far ≡ zero_ratio) → (b : Bool) → is_zero (at sums y.far) ≡ b → (if b then are_zero sums l else false) ≡ true → at sums z.far ≡ zero_ratio
    go ih true m h = elim i [ inl k ↦ ap (λ (u : Step). at sums u.far) k ∙ zero_is (at sums y.far) m | inr k ↦ ih h z k ]
    go ih false m h = absurd (true≢false (sym h))

pub some_not_zero : (sums : List Ratio) (l : List Step) → are_zero sums l ≡ false → (z : Step) × IsIn z l × (at sums z.far ≢ zero_ratio)
some_not_zero sums [] e = absurd (true≢false e)
some_not_zero sums (y ∷ l) e = go (some_not_zero sums l) (is_zero (at sums y.far)) refl e
  where
    go : (are_zero sums l ≡ false → (z : Step) × IsIn z l × (at sums z.far ≢ zero_ratio)) → (b : Bool) → is_zero (at sums y.far) ≡ b → (if b then are_zero sums l else false) ≡ false
        → (z : Step) × IsIn z (y ∷ l) × (at sums z.far ≢ zero_ratio)
    go ih true m h = let r = ih h in (r.0, inr r.1, r.2)
    go ih false m h = (y, inl refl, λ k. true≢false (sym (is_zero_of (at sums y.far) k) ∙ m))

-- ---- ways in a piece

module _ (ends : ℕ → Ends) (own : List ℕ) where
  pub way_joins : (l : List (ℕ × ℕ)) (u k : ℕ) → IsWay (graph_of ends) own u l k → (b : ℕ) → IsIn b (arcs_along l) → (p : ℕ) × (q : ℕ) × Joins (graph_of ends b) p q
  way_joins [] u k c b i = absurd i
  way_joins (y ∷ l) u k c b (inl e) = (u, y.1, subst (λ t. Joins (graph_of ends t) u y.1) (sym e) c.1)
  way_joins (y ∷ l) u k c b (inr i) = way_joins l y.1 k c.2 b i

pub front_in : (b a l : List Step) → b ++ a ≡ l → (u : Step) → IsIn u b → IsIn u l
front_in b a l e u i = subst (IsIn u) e (go b i)
  where
    go : (b : List Step) → IsIn u b → IsIn u (b ++ a)
    go [] i = absurd i
    go (v ∷ b) (inl k) = inl k
    go (v ∷ b) (inr k) = inr (go b k)

all_in : {A : Type 0} (P : A → Type 0) (l : List A) → All P l → (z : A) → IsIn z l → P z
all_in P [] h z i = absurd i
all_in P (y ∷ l) h z (inl e) = subst P (sym e) (h zero y (omega arith))
all_in P (y ∷ l) h z (inr i) = all_in P l (λ j d m. h (suc j) d (omega arith)) z i

module _ (s : Scene) where
  abbrev E : ℕ → Ends
  E = scenes.ends s

  abbrev Nodes : List ℕ
  Nodes = nodes_in s.piece

  abbrev Basics : List (ℕ × Ends × Ratio)
  Basics = s.piece.basics

  abbrev sum_by : List Ratio → ℕ → Result Ratio Past
  sum_by amounts p = sum_of s.piece.nodes Basics s.joints s.before s.e.ends s.e.amount amounts p

  -- an operation that the rows give, told as one of the entering arc
  abbrev pub IsTold : Overflow → Type 0
  IsTold o = (o.place ≡ Arc s.e.arc) × Gives E s.d (scenes.own s) (scenes.x s) s.e.arc o.row o.past

  abbrev pub IsAnswered : Result (List Ratio) Overflow → Type 0
  IsAnswered r = MatchResult r (λ amounts. ending.AreAll s amounts × ending.FitsAll s) IsTold

  -- ---- the sums at the nodes of the cycle

  abbrev Right : List Ratio → List Step → List Ratio → Type 0
  Right amounts l sums = (z : Step) → IsIn z l → sum_by amounts z.far ≡ Ok (at sums z.far)

  sums_walk : (amounts : List Ratio) (l past_l : List Step) (sums : List Ratio) → ((z : Step) → IsIn z l → z.far < length s.piece.nodes) → length sums ≡ length s.piece.nodes → Right amounts past_l sums
      → MatchResult (gather_sums s.piece.nodes Basics s.joints s.before s.e.ends s.e.amount amounts l sums)
      (λ found. Right amounts past_l found × Right amounts l found) (λ past. (z : Step) × IsIn z l × (sum_by amounts z.far ≡ Err past))
  sums_walk amounts [] past_l sums below long right = (right, λ z i. absurd i)
  sums_walk amounts (y ∷ l) past_l sums below long right = go (sum_by amounts y.far) refl (λ v e. sums_walk amounts l (y ∷ past_l) (slice_set sums y.far v) (λ z i. below z (inr i)) (length-set sums y.far v ∙ long) (more v e))
    where
      more : (v : Ratio) → sum_by amounts y.far ≡ Ok v → Right amounts (y ∷ past_l) (slice_set sums y.far v)
      more v e z i = elim (inward.same_or z.far y.far) [
        | inl k ↦ ap (sum_by amounts) k ∙ e ∙ ap Ok (sym (ap (at (slice_set sums y.far v)) k ∙ get_or-set_same sums y.far v zero_ratio (subst (λ t. y.far < t) (sym long) (below y (inl refl)))))
        | inr n ↦ elim i [
          | inl k ↦ absurd (n (ap (λ (t : Step). t.far) k))
          | inr k ↦ right z k ∙ ap Ok (sym (get_or-set_other sums y.far z.far v zero_ratio n))
        ]
      ]

      go : (r : Result Ratio Past) → sum_by amounts y.far ≡ r
          → ((v : Ratio) → sum_by amounts y.far ≡ Ok v → MatchResult (gather_sums s.piece.nodes Basics s.joints s.before s.e.ends s.e.amount amounts l (slice_set sums y.far v))
          (λ found. Right amounts (y ∷ past_l) found × Right amounts l found) (λ past. (z : Step) × IsIn z l × (sum_by amounts z.far ≡ Err past)))
          → MatchResult (r ▷ λ v. gather_sums s.piece.nodes Basics s.joints s.before s.e.ends s.e.amount amounts l (slice_set sums y.far v))
          (λ found. Right amounts past_l found × Right amounts (y ∷ l) found) (λ past. (z : Step) × IsIn z (y ∷ l) × (sum_by amounts z.far ≡ Err past))
      go (Err past) e ih = (y, inl refl, e)
      go (Ok v) e ih = last (gather_sums s.piece.nodes Basics s.joints s.before s.e.ends s.e.amount amounts l (slice_set sums y.far v)) (ih v e)
        where
          last : (r : Result (List Ratio) Past) → MatchResult r (λ found. Right amounts (y ∷ past_l) found × Right amounts l found) (λ past. (z : Step) × IsIn z l × (sum_by amounts z.far ≡ Err past))
              → MatchResult r (λ found. Right amounts past_l found × Right amounts (y ∷ l) found) (λ past. (z : Step) × IsIn z (y ∷ l) × (sum_by amounts z.far ≡ Err past))
          last (Ok found) h = ((λ z i. h.0 z (inr i)), (λ z. elim [ inl k ↦ h.0 z (inl k) | inr k ↦ h.1 z k ]))
          last (Err past) h = (h.0, inr h.1, h.2)

  module _ (amounts : List Ratio) (made : inward.AreMade s (scenes.steps s) amounts) (done : (t : Step) → IsIn t (scenes.steps s) → inward.IsDone s t)
      (first : Step) (rest : List Step) (k : ℕ) (x_is : scenes.x s ≡ Round k (way Nodes Basics (first ∷ rest)))
      (within : (z : Step) → IsIn z (first ∷ rest) → IsWithin s.piece.nodes Basics z) where
    abbrev cycle : List Step
    cycle = first ∷ rest

    abbrev w : List (ℕ × ℕ)
    w = way Nodes Basics cycle

    abbrev e0 : ℕ × ℕ
    e0 = (scenes.number s first.arc, scenes.node s first.far)

    abbrev w' : List (ℕ × ℕ)
    w' = way Nodes Basics rest

    there : IsLeastFirst (graph_of E) (scenes.own s) k w
    there = subst (IsExtra E (scenes.own s)) x_is (scenes.is_extra s)

    on_extra : (z : Step) → IsIn z cycle → IsIn (scenes.node s z.far) (extra_nodes (scenes.x s))
    on_extra z i = subst (λ y. IsIn (scenes.node s z.far) (extra_nodes y)) (sym x_is) (on_node Nodes Basics cycle z i)

    in_extra : (b : ℕ) → IsIn b (extra_arcs (scenes.x s)) → IsIn b (arcs_along w)
    in_extra b i = subst (λ y. IsIn b (extra_arcs y)) x_is i

    of_extra : (b : ℕ) → IsIn b (arcs_along w) → IsIn b (extra_arcs (scenes.x s))
    of_extra b i = subst (λ y. IsIn b (extra_arcs y)) (sym x_is) i

    in_own : (b : ℕ) → IsIn b (arcs_along w) → IsIn b (scenes.own s)
    in_own b i = ways.way_arcs (graph_of E) (scenes.own s) w k k there.cycle.closes b i

    value : (z : Step) → IsIn z cycle → sum_by amounts z.far ≡ sum_at E s.d (scenes.node s z.far) (adding.list s z.far) zero_ratio
    value z i = adding.sum_is s z.far amounts (ending.extra_ready s amounts made done z.far (on_extra z i))

    not_added : (z : Step) → IsIn z cycle → (b : ℕ) → IsIn b (arcs_along w) → ¬ IsIn b (adding.list s z.far)
    not_added z i b j m = elim (((adding.added s z.far (within z i).2).all b).0 m) [
      | inl r ↦ s.pulled.outside (subst (λ t. IsIn t (scenes.own s)) r.0 (in_own b j))
      | inr r ↦ r.1.off (of_extra b j)
    ]

    at_cycle : (z : Step) → IsIn z cycle → (b : ℕ) → IsIn b (scenes.own s) → Touches (scenes.node s z.far ∷ []) (graph_of E b) → IsIn b (arcs_along w) ⊎ ((u : ℕ) × scenes.Hanging s b (scenes.node s z.far) u)
    at_cycle z i b j t = elim (balances.at_node s b (scenes.node s z.far) j t) [
      | inl m ↦ inl (in_extra b m)
      | inr r ↦ elim r [ inl h ↦ inr h | inr h ↦ absurd ((scenes.out s).apart b h.0 (scenes.node s z.far) h.1 (on_extra z i)) ]
    ]

    -- a sum that overflows is told
    sum_refused : (z : Step) (past : Past) → IsIn z cycle → sum_by amounts z.far ≡ Err past → IsTold (overflow_at s.e.arc A4 past)
    sum_refused z past i e = (refl, inward.sum_told s z.far past (within z i).2 (inl (on_extra z i)) (inward.all_settled s done z.far (within z i).2) (sym (value z i) ∙ e))

    module _ (sums : List Ratio) (right : Right amounts cycle sums) where
      -- the sum at a node of the cycle, by its number
      abbrev sum_in : List Step → ℕ → Ratio
      sum_in [] v = zero_ratio
      sum_in (z ∷ l) v = if nat_eq v (scenes.node s z.far) then at sums z.far else sum_in l v

      abbrev S : ℕ → Ratio
      S v = sum_in cycle v

      sum_in_is : (l : List Step) → ((z : Step) → IsIn z l → IsIn z cycle) → (z : Step) → IsIn z l → sum_in l (scenes.node s z.far) ≡ at sums z.far
      sum_in_is [] sub z i = absurd i
      sum_in_is (y ∷ l) sub z i = go (λ h. sum_in_is l (λ u j. sub u (inr j)) z h) (nat_eq (scenes.node s z.far) (scenes.node s y.far)) refl i
        where
          go : (IsIn z l → sum_in l (scenes.node s z.far) ≡ at sums z.far) → (b : Bool) → nat_eq (scenes.node s z.far) (scenes.node s y.far) ≡ b → IsIn z (y ∷ l)
              → (if b then at sums y.far else sum_in l (scenes.node s z.far)) ≡ at sums z.far
          go ih true m i = ap (at sums) (sym (scenes.one_node s z.far y.far (within z (sub z i)).2 (within y (sub y (inl refl))).2 (eqb-true (scenes.node s z.far) (scenes.node s y.far) m)))
          go ih false m (inl h) = absurd (true≢false (sym (eq-eqb (scenes.node s z.far) (scenes.node s y.far) (ap (λ (t : Step). scenes.node s t.far) h)) ∙ m))
          go ih false m (inr h) = ih h

      S_is : (z : Step) → IsIn z cycle → S (scenes.node s z.far) ≡ at sums z.far
      S_is z i = sum_in_is cycle (λ u j. j) z i

      sum_at_is : (z : Step) → IsIn z cycle → sum_at E s.d (scenes.node s z.far) (adding.list s z.far) zero_ratio ≡ Ok (at sums z.far)
      sum_at_is z i = sym (value z i) ∙ right z i

      has_sum : (z : Step) → IsIn z cycle → HasSum E s.d (scenes.own s) (scenes.x s) s.e.arc (scenes.node s z.far) (S (scenes.node s z.far))
      has_sum z i = record {
        added = adding.list s z.far;
        are_added = adding.added s z.far (within z i).2;
        settled = inward.all_settled s done z.far (within z i).2;
        sum_is = sum_at_is z i ∙ ap Ok (sym (S_is z i));
      }

      have_sums : (a v : ℕ) → IsIn (a, v) w → HasSum E s.d (scenes.own s) (scenes.x s) s.e.arc v (S v)
      have_sums a v i =
          let r = pair_on Nodes Basics cycle a v i in
          subst (λ n. HasSum E s.d (scenes.own s) (scenes.x s) s.e.arc n (S n)) (sym r.2) (has_sum r.0 r.1)

      sum_taken : (z : Step) → IsIn z cycle → at sums z.far ≡ taken E s.d (scenes.node s z.far) (adding.list s z.far)
      sum_taken z i =
          sum_exact E s.d (scenes.node s z.far) (adding.list s z.far) zero_ratio (at sums z.far) (balances.added_all s (scenes.node s z.far) (adding.list s z.far) (adding.added s z.far (within z i).2)) (sum_at_is z i)
          ∙ zero-+ᵣ (taken E s.d (scenes.node s z.far) (adding.list s z.far))

      -- ---- where all sums are 0, so are the amounts on the cycle

      module _ (still : (z : Step) → IsIn z cycle → at sums z.far ≡ zero_ratio) where
        abbrev choose : {A : Type 0} → Dec A → Ratio → Ratio
        choose (yes _) r = r
        choose (no _) r = zero_ratio

        abbrev alone : ℕ → Ratio
        alone a = choose (decide_in a (arcs_along w)) (s.d a)

        alone_on : (a : ℕ) → IsIn a (arcs_along w) → alone a ≡ s.d a
        alone_on a i = go (decide_in a (arcs_along w))
          where
            go : (t : Dec (IsIn a (arcs_along w))) → choose t (s.d a) ≡ s.d a
            go (yes _) = refl
            go (no n) = absurd (n i)

        alone_off : (a : ℕ) → (¬ IsIn a (arcs_along w)) → alone a ≡ zero_ratio
        alone_off a n = go (decide_in a (arcs_along w))
          where
            go : (t : Dec (IsIn a (arcs_along w))) → choose t (s.d a) ≡ zero_ratio
            go (yes i) = absurd (n i)
            go (no _) = refl

        nothing_round : (z : Step) → IsIn z cycle → taken E s.d (scenes.node s z.far) (arcs_along w) ≡ zero_ratio
        nothing_round z i =
            sym (+ᵣ-zero (taken E s.d (scenes.node s z.far) (arcs_along w)))
            ∙ ap (λ t. taken E s.d (scenes.node s z.far) (arcs_along w) +ᵣ t) (sym (sym (sum_taken z i) ∙ still z i))
            ∙ balances.balance_by s z.far (within z i).2 (arcs_along w) (adding.list s z.far) (adding.added s z.far (within z i).2) there.cycle.arcs_once
            (λ b j. (in_own b j, not_added z i b j)) (at_cycle z i)

        circulates : (v : ℕ) → IsIn v Nodes → field.total ratios (λ a. K (E a) v *ᵣ alone a) (scenes.own s) ≡ zero_ratio
        circulates v j =
            graph_pieces.total_only ratios 0 (graph_of E) (λ a. K (E a) v *ᵣ alone a) (arcs_along w) (scenes.own s) there.cycle.arcs_once (balances.own_once s) in_own
            (λ a i n. ap (λ t. K (E a) v *ᵣ t) (alone_off a n) ∙ *ᵣ-zero (K (E a) v))
            ∙ graph_sums.total_same ratios (λ a. K (E a) v *ᵣ alone a) (λ a. K (E a) v *ᵣ s.d a) (arcs_along w) (λ a i. ap (λ t. K (E a) v *ᵣ t) (alone_on a i))
            ∙ go (decide_in v (nodes_along w))
          where
            go : Dec (IsIn v (nodes_along w)) → field.total ratios (λ a. K (E a) v *ᵣ s.d a) (arcs_along w) ≡ zero_ratio
            go (yes i) = let r = node_on Nodes Basics cycle v i in subst (λ n. taken E s.d n (arcs_along w) ≡ zero_ratio) (sym r.2) (nothing_round r.0 r.1)
            go (no n) = graph_sums.total_zero ratios (λ a. K (E a) v *ᵣ s.d a) (arcs_along w) (λ a i.
                ap (λ t. t *ᵣ s.d a) (graph_pieces.untouched_coefficient ratios 0 (graph_of E) (v ∷ []) (graph_of E a) v (inl refl)
                (λ t. n (subst (λ y. IsIn v (extra_nodes y)) x_is (balances.extra_touches s a v (of_extra a i) t))))
                ∙ zero-*ᵣ (s.d a))

        d_zero : (a : ℕ) → IsIn a (arcs_along w) → s.d a ≡ zero_ratio
        d_zero a i =
            sym (alone_on a i)
            ∙ theorems.no_circulation ratios (graph_of E) Nodes (scenes.own s) (trees.tree s.net s.piece s.pulled.in_net) alone circulates a (in_own a i)

        still_all : ending.AreAll s amounts
        still_all = record { long = made.long; are = are }
          where
            are : (b : ℕ) → b < length Basics → at amounts b ≡ s.d (scenes.number s b)
            are b l = elim ((scenes.out s).arcs (scenes.number s b) (scenes.in_own s b l)) [
              | inl j ↦ made.still b (λ t i m. ((scenes.out s).hang t i).off (subst (λ n. IsIn (scenes.number s n) (extra_arcs (scenes.x s))) (sym m) j)) ∙ sym (d_zero (scenes.number s b) (in_extra (scenes.number s b) j))
              | inr r ↦ (let o = (scenes.out s).all (scenes.number s b) r.0 r.1 r.2 in
                  subst (λ n. at amounts n ≡ s.d (scenes.number s n)) (scenes.one_number s o.step.arc b (scenes.within s o.step o.is_in).0 l o.arc) (made.known o.step o.is_in))
            ]

        still_fits : ending.FitsAll s
        still_fits = record { links = inward.links s done; extra = subst (FitsExtra E s.d (scenes.own s) (scenes.x s) s.e.arc) (sym x_is) round }
          where
            round : FitsExtra E s.d (scenes.own s) (scenes.x s) s.e.arc (Round k w)
            round = (S, have_sums, λ t. absurd (t.3 (let r = pair_on Nodes Basics cycle t.0 t.1 t.2 in ap S r.2 ∙ S_is r.0 r.1 ∙ still r.0 r.1)))

      -- ---- where some sum is not 0

      module _ (z0 : Step) (on : IsIn z0 cycle) (not_still : at sums z0.far ≢ zero_ratio) where
        abbrev last : Step
        last = last_of first rest

        last_on : IsIn last cycle
        last_on = mixing.last_in s.piece.nodes Basics E s.d first rest

        have_ends : (u : Step) → IsIn u cycle → E (scenes.number s u.arc) ≡ ends_by_place Basics u.arc
        have_ends u i = scenes.ends_of s u.arc (within u i).0

        turned_is : rows.IsTurned E s.d (scenes.own s) (scenes.x s) s.e.arc k e0 w' S
        turned_is = record {
          is_round = x_is;
          have_sums = have_sums;
          touched = (scenes.number s z0.arc, scenes.node s z0.far, on_pair Nodes Basics cycle z0 on, λ m. not_still (sym (S_is z0 on) ∙ m));
        }

        way_end : (z : Step) (l : List Step) (u : ℕ) → IsWay (graph_of E) (scenes.own s) u (way Nodes Basics (z ∷ l)) k → scenes.node s (last_of z l).far ≡ k
        way_end z [] u c = c.2
        way_end z (n ∷ l) u c = way_end n l (scenes.node s z.far) c.2

        at_end : scenes.node s last.far ≡ k
        at_end = way_end first rest k there.cycle.closes

        linked_on : (l : List Step) (u : ℕ) → IsWay (graph_of E) (scenes.own s) u (way Nodes Basics l) k → ((z : Step) → IsIn z l → IsIn z cycle) → (z : Step) → IsIn z l → mixing.IsLinked s.piece.nodes Basics E s.d z
        linked_on [] u c sub z i = absurd i
        linked_on (y ∷ l) u c sub z (inl e) = subst (mixing.IsLinked s.piece.nodes Basics E s.d) (sym e)
            (record { ends_are = have_ends y (sub y (inl refl)); no_loop = scenes.no_loop s (scenes.number s y.arc) c.0; ratio = scenes.has_ratio s (scenes.number s y.arc) c.0; near = u; joins = c.1 })
        linked_on (y ∷ l) u c sub z (inr i) = linked_on l (scenes.node s y.far) c.2 (λ v j. sub v (inr j)) z i

        linked : (z : Step) → IsIn z cycle → mixing.IsLinked s.piece.nodes Basics E s.d z
        linked = linked_on cycle k there.cycle.closes (λ z i. i)

        goes_on : (z : Step) (l : List Step) (u : ℕ) → IsWay (graph_of E) (scenes.own s) u (way Nodes Basics (z ∷ l)) k → mixing.Goes s.piece.nodes Basics E s.d z l
        goes_on z [] u c = record {}
        goes_on z (n ∷ l) u c = ((joins_touches (E (scenes.number s n.arc)) (scenes.node s z.far) (scenes.node s n.far) c.2.1).0, goes_on n l (scenes.node s z.far) c.2)

        goes : mixing.Goes s.piece.nodes Basics E s.d first rest
        goes = goes_on first rest k there.cycle.closes

        -- at a node of the cycle two of its arcs meet
        pair_balance : (z : Step) → IsIn z cycle → (a b : ℕ) → a ≢ b → IsIn a (arcs_along w) → IsIn b (arcs_along w)
            → ((c p : ℕ) → IsIn c (arcs_along w) → Joins (graph_of E c) (scenes.node s z.far) p → (c ≡ a) ⊎ (c ≡ b))
            → (K (E a) (scenes.node s z.far) *ᵣ s.d a +ᵣ at sums z.far) +ᵣ K (E b) (scenes.node s z.far) *ᵣ s.d b ≡ zero_ratio
        pair_balance z i a b n ia ib only =
            ap (λ t. (ka +ᵣ t) +ᵣ kb) (sum_taken z i)
            ∙ +ᵣ_assoc ka sum kb ∙ ap (λ t. ka +ᵣ t) (+ᵣ_comm sum kb) ∙ sym (+ᵣ_assoc ka kb sum) ∙ ap (λ t. (ka +ᵣ t) +ᵣ sum) (sym (+ᵣ-zero kb))
            ∙ balances.balance_by s z.far (within z i).2 (a ∷ b ∷ []) (adding.list s z.far) (adding.added s z.far (within z i).2)
            ((λ j. elim j [ inl m ↦ n m | inr t ↦ t ]), ((λ t. t), record {}))
            (λ c. elim [
              | inl m ↦ (subst (λ t. IsIn t (scenes.own s)) (sym m) (in_own a ia), λ j. not_added z i a ia (subst (λ t. IsIn t (adding.list s z.far)) m j))
              | inr q ↦ elim q [ inl m ↦ (subst (λ t. IsIn t (scenes.own s)) (sym m) (in_own b ib), λ j. not_added z i b ib (subst (λ t. IsIn t (adding.list s z.far)) m j)) | inr t ↦ absurd t ]
            ])
            (λ c j t. elim (at_cycle z i c j t) [
              | inl q ↦ elim (touches_joins (E c) v t) [
                | inl m ↦ absurd (let r = way_joins E (scenes.own s) w k k there.cycle.closes c q in end_not_joins (E c) v r.0 r.1 m r.2)
                | inr r ↦ elim (only c r.0 q r.1) [ inl m ↦ inl (inl m) | inr m ↦ inl (inr (inl m)) ]
              ]
              | inr r ↦ inr r
            ])
          where
            v : ℕ
            v = scenes.node s z.far

            ka : Ratio
            ka = K (E a) (scenes.node s z.far) *ᵣ s.d a

            kb : Ratio
            kb = K (E b) (scenes.node s z.far) *ᵣ s.d b

            sum : Ratio
            sum = taken E s.d (scenes.node s z.far) (adding.list s z.far)

        balanced_on : (z : Step) (l : List Step) → ((a v b : ℕ) → Follow (way Nodes Basics (z ∷ l)) a v b → Follow w a v b) → ((u : Step) → IsIn u (z ∷ l) → IsIn u cycle)
            → mixing.Balanced s.piece.nodes Basics E s.d sums z l
        balanced_on z [] follow sub = record {}
        balanced_on z (n ∷ l) follow sub = (
          pair_balance z (sub z (inl refl)) (scenes.number s z.arc) (scenes.number s n.arc) (follow_apart w (scenes.number s z.arc) (scenes.node s z.far) (scenes.number s n.arc) there.cycle.arcs_once f)
              (follow_arcs w (scenes.number s z.arc) (scenes.node s z.far) (scenes.number s n.arc) f).0 (follow_arcs w (scenes.number s z.arc) (scenes.node s z.far) (scenes.number s n.arc) f).1
              (λ c p i j. two E (scenes.own s) w k k (scenes.number s z.arc) (scenes.node s z.far) (scenes.number s n.arc) c p there.cycle.closes there.cycle.nodes_once
              (not_last E (scenes.own s) w k k (scenes.number s z.arc) (scenes.node s z.far) (scenes.number s n.arc) there.cycle.closes there.cycle.nodes_once f) f i j),
          balanced_on n l (λ a v b h. follow a v b (inr h)) (λ u i. sub u (inr i)),
        )
          where
            f : Follow w (scenes.number s z.arc) (scenes.node s z.far) (scenes.number s n.arc)
            f = follow (scenes.number s z.arc) (scenes.node s z.far) (scenes.number s n.arc) (inl (refl, refl, refl))

        balanced : mixing.Balanced s.piece.nodes Basics E s.d sums first rest
        balanced = balanced_on first rest (λ a v b h. h) (λ u i. i)

        -- at the least node its first and its last arc
        closes_at : (K (E (scenes.number s last.arc)) (scenes.node s last.far) *ᵣ s.d (scenes.number s last.arc) +ᵣ at sums last.far) +ᵣ K (E (scenes.number s first.arc)) (scenes.node s last.far) *ᵣ s.d (scenes.number s first.arc) ≡ zero_ratio
        closes_at = pair_balance last last_on (scenes.number s last.arc) (scenes.number s first.arc)
            (λ m. lt_irrefl (scenes.number s first.arc) (subst (λ t. scenes.number s first.arc < t) (mixing.last_number s.piece.nodes Basics E s.d first rest ∙ m) there.goes_up))
            (on_arc Nodes Basics cycle last last_on) (inl refl)
            (λ c p i j. elim i [
              | inl m ↦ inr m
              | inr q ↦ inl (ways.is_last (graph_of E) (scenes.own s) w' (scenes.node s first.far) k there.cycle.nodes_once there.cycle.closes.2 c p (scenes.number s first.arc) q (subst (λ t. Joins (graph_of E c) t p) at_end j)
                  ∙ mixing.last_number s.piece.nodes Basics E s.d first rest)
            ])

        divisor_is : divisor_of s.piece.nodes Basics first rest ≡ rows.divisor E s.d k e0 w'
        divisor_is = mixing.divisor_is s.piece.nodes Basics E s.d first rest k have_ends at_end

        closing_is : closing_of s.piece.nodes Basics sums first rest ≡ rows.closing E s.d S k e0 w'
        closing_is = mixing.closing_is s.piece.nodes Basics E s.d S sums first rest k have_ends S_is at_end

        divisor_apart : (final : Ratio) → divisor_of s.piece.nodes Basics first rest ≡ Ok final → final ≢ zero_ratio
        divisor_apart final e = directions_divisor s.net s.piece s.d k e0 w' final s.sound s.pulled.in_net (subst (IsExtra E (scenes.own s)) x_is (scenes.is_extra s)) (sym divisor_is ∙ e)

        -- the amount on the first arc
        first_is : (whole final t : Ratio) → closing_of s.piece.nodes Basics sums first rest ≡ Ok whole → divisor_of s.piece.nodes Basics first rest ≡ Ok final → over_of (negated whole) final ≡ Ok t → t ≡ s.d (scenes.number s first.arc)
        first_is whole final t c f o =
            let v = scenes.node s last.far in
            let el = ends_by_place Basics last.arc in
            let m = found_by (amount_behind s.piece.nodes Basics sums first rest zero_ratio ▷ term el v) (λ ending. plus_of ending (at sums last.far)) whole c in
            let n = found_by (amount_behind s.piece.nodes Basics sums first rest zero_ratio) (term el v) m.0 m.1 in
            let q = found_by (share_behind s.piece.nodes Basics first rest one_ratio ▷ term el v) (with_first (ends_by_place Basics first.arc) v) final f in
            let r = found_by (share_behind s.piece.nodes Basics first rest one_ratio) (term el v) q.0 q.1 in
            let ll = linked last last_on in
            let lf = linked first (inl refl) in
            mixing.first_found (K (E (scenes.number s last.arc)) v) (K (E (scenes.number s first.arc)) v) n.0 r.0 (at sums last.far) (s.d (scenes.number s first.arc)) (s.d (scenes.number s last.arc)) whole final t
            (divisor_apart final f)
            (plus_exact m.0 (at sums last.far) whole m.2
            ∙ ap (λ y. y +ᵣ at sums last.far) (term_exact (E (scenes.number s last.arc)) v n.0 m.0 ll.no_loop (joins_touches (E (scenes.number s last.arc)) ll.near v ll.joins).1 (ap (λ e. term e v n.0) ll.ends_are ∙ n.2)))
            (first_exact (E (scenes.number s first.arc)) v q.0 final lf.no_loop (scenes.node s first.far) (subst (λ t. Joins (graph_of E (scenes.number s first.arc)) t (scenes.node s first.far)) (sym at_end) there.cycle.closes.1)
            (ap (λ e. with_first e v q.0) lf.ends_are ∙ q.2)
            ∙ ap (λ y. y +ᵣ K (E (scenes.number s first.arc)) v) (term_exact (E (scenes.number s last.arc)) v r.0 q.0 ll.no_loop (joins_touches (E (scenes.number s last.arc)) ll.near v ll.joins).1 (ap (λ e. term e v r.0) ll.ends_are ∙ r.2)))
            (mixing.over_all s.piece.nodes Basics E s.d sums first rest zero_ratio one_ratio n.0 r.0 (s.d (scenes.number s first.arc)) linked goes balanced n.1 r.1
            (zero-+ᵣ (one_ratio *ᵣ s.d (scenes.number s first.arc)) ∙ one-*ᵣ (s.d (scenes.number s first.arc))))
            closes_at o

        prefix_is : (t : Ratio) (b a : List Step) → b ++ a ≡ rest → mixing.mix_behind s.piece.nodes Basics E s.d sums t first b zero_ratio one_ratio ≡ rows.mixed_along E s.d S e0 (way Nodes Basics b) t
        prefix_is t b a e = ap₂ (λ (x y : Result Ratio Past). x ▷ λ (part : Ratio). y ▷ rows.mixed t part)
            (mixing.amount_is s.piece.nodes Basics E s.d S sums first b zero_ratio (λ u i. have_ends u (onto u i)) (λ u i. S_is u (onto u i)))
            (mixing.share_is s.piece.nodes Basics E s.d first b one_ratio (λ u i. have_ends u (onto u i)))
          where
            onto : (u : Step) → IsIn u (first ∷ b) → IsIn u cycle
            onto u (inl i) = inl i
            onto u (inr i) = inr (front_in b a rest e u i)

        first_amount_is : (whole final t : Ratio) → closing_of s.piece.nodes Basics sums first rest ≡ Ok whole → divisor_of s.piece.nodes Basics first rest ≡ Ok final → over_of (negated whole) final ≡ Ok t
            → rows.first_amount E s.d S k e0 w' ≡ Ok t
        first_amount_is whole final t c f o =
            ap (λ r. r ▷ λ whole. rows.divisor E s.d k e0 w' ▷ over_of (negated whole)) (sym closing_is ∙ c) ∙ ap (λ r. r ▷ over_of (negated whole)) (sym divisor_is ∙ f) ∙ o

        -- with the amounts on the cycle
        module _ (t : Ratio) (t_is : t ≡ s.d (scenes.number s first.arc)) (amount_is : rows.first_amount E s.d S k e0 w' ≡ Ok t) where
          mix_told : (b a : List Step) (past : Past) → b ++ a ≡ rest → mixing.mix_behind s.piece.nodes Basics E s.d sums t first b zero_ratio one_ratio ≡ Err past → IsTold (overflow_at s.e.arc A4 past)
          mix_told b a past e f =
              (refl, rows.a_mix k e0 w' (way Nodes Basics b) (way Nodes Basics a) S t past turned_is amount_is (sym (way_append Nodes Basics b a) ∙ ap (way Nodes Basics) e) (sym (prefix_is t b a e) ∙ f))

          mixed_all : (y : Ratio) (found : List Ratio) → y ≡ s.d (scenes.number s first.arc)
              → mixing.AreMixed s.piece.nodes Basics E s.d sums t first rest zero_ratio one_ratio (slice_set amounts first.arc y) found → ending.AreAll s found × ending.FitsAll s
          mixed_all y found y_is h = (record { long = h.long; are = are }, record { links = inward.links s done; extra = subst (FitsExtra E s.d (scenes.own s) (scenes.x s) s.e.arc) (sym x_is) round })
            where
              set : at found first.arc ≡ s.d (scenes.number s first.arc)
              set = h.others first.arc (λ u i m. there.cycle.arcs_once.0 (subst (λ n. IsIn (scenes.number s n) (arcs_along w')) m (on_arc Nodes Basics rest u i)))
                  ∙ get_or-set_same amounts first.arc y zero_ratio (subst (λ n. first.arc < n) (sym made.long) (within first (inl refl)).0) ∙ y_is

              on_cycle : (z : Step) → IsIn z cycle → at found z.arc ≡ s.d (scenes.number s z.arc)
              on_cycle z (inl i) = subst (λ (u : Step). at found u.arc ≡ s.d (scenes.number s u.arc)) (sym i) set
              on_cycle z (inr i) = h.values z i

              off_cycle : (b : ℕ) → ((z : Step) → IsIn z cycle → z.arc ≢ b) → at found b ≡ at amounts b
              off_cycle b n = h.others b (λ u i. n u (inr i)) ∙ get_or-set_other amounts first.arc b y zero_ratio (λ m. n first (inl refl) (sym m))

              are : (b : ℕ) → b < length Basics → at found b ≡ s.d (scenes.number s b)
              are b l = elim ((scenes.out s).arcs (scenes.number s b) (scenes.in_own s b l)) [
                | inl j ↦ (let r = arc_on Nodes Basics cycle (scenes.number s b) (in_extra (scenes.number s b) j) in
                    subst (λ n. at found n ≡ s.d (scenes.number s n)) (scenes.one_number s r.0.arc b (within r.0 r.1).0 l (sym r.2)) (on_cycle r.0 r.1))
                | inr r ↦ off_cycle b (λ z i m. r.2.off (of_extra (scenes.number s b) (subst (λ n. IsIn (scenes.number s n) (arcs_along w)) m (on_arc Nodes Basics cycle z i))))
                    ∙ (let o = (scenes.out s).all (scenes.number s b) r.0 r.1 r.2 in
                    subst (λ n. at amounts n ≡ s.d (scenes.number s n)) (scenes.one_number s o.step.arc b (scenes.within s o.step o.is_in).0 l o.arc) (made.known o.step o.is_in))
              ]

              fit : (before after : List (ℕ × ℕ)) → before ++ after ≡ w' → IsOk (rows.mixed_along E s.d S e0 before t)
              fit before after e =
                  let r = split_way Nodes Basics rest before after e in
                  subst (λ b. IsOk (rows.mixed_along E s.d S e0 b t)) r.3 (subst IsOk (prefix_is t r.0 r.1 r.2) (h.fit r.0 r.1 r.2))

              round : FitsExtra E s.d (scenes.own s) (scenes.x s) s.e.arc (Round k w)
              round = (S, have_sums, λ _. (t, amount_is, fit))

          mixed_round : MatchResult (mix_all s.piece.nodes Basics sums t first rest amounts) (λ found. ending.AreAll s found × ending.FitsAll s) (λ past. IsTold (overflow_at s.e.arc A4 past))
          mixed_round = start (rows.mixed t zero_ratio one_ratio) refl
            where
              start : (r : Result Ratio Past) → rows.mixed t zero_ratio one_ratio ≡ r
                  → MatchResult (r ▷ λ y. mix_after s.piece.nodes Basics sums t first rest zero_ratio one_ratio (slice_set amounts first.arc y)) (λ found. ending.AreAll s found × ending.FitsAll s) (λ past. IsTold (overflow_at s.e.arc A4 past))
              start (Err past) e = mix_told [] rest past refl e
              start (Ok y) e = finish (mix_after s.piece.nodes Basics sums t first rest zero_ratio one_ratio (slice_set amounts first.arc y))
                  (mixing.mix_walk s.piece.nodes Basics E s.d sums t first rest zero_ratio one_ratio (slice_set amounts first.arc y) linked goes balanced (λ u i. (within u (inr i)).0) there.cycle.arcs_once.1
                  (length-set amounts first.arc y ∙ made.long) (zero-+ᵣ (one_ratio *ᵣ t) ∙ one-*ᵣ t ∙ t_is) (is_ok_of (rows.mixed t zero_ratio one_ratio) y e))
                where
                  finish : (r : Result (List Ratio) Past) → MatchResult r (mixing.AreMixed s.piece.nodes Basics E s.d sums t first rest zero_ratio one_ratio (slice_set amounts first.arc y)) (mixing.IsUnmixed s.piece.nodes Basics E s.d sums t first rest zero_ratio one_ratio)
                      → MatchResult r (λ found. ending.AreAll s found × ending.FitsAll s) (λ past. IsTold (overflow_at s.e.arc A4 past))
                  finish (Ok found) h = mixed_all y found (mixing.mixed_exact t zero_ratio one_ratio y e ∙ zero-+ᵣ (one_ratio *ᵣ t) ∙ one-*ᵣ t ∙ t_is) h
                  finish (Err past) h = mix_told h.before h.after past h.split h.overflows

        told_A4 : (r : Result (List Ratio) Past) → MatchResult r (λ found. ending.AreAll s found × ending.FitsAll s) (λ past. IsTold (overflow_at s.e.arc A4 past)) → IsAnswered (in_row s.e.arc A4 r)
        told_A4 (Ok found) h = h
        told_A4 (Err past) h = h

        turned_round : IsAnswered (turn_round s.e.arc s.piece.nodes Basics sums first rest amounts)
        turned_round = by (divisor_of s.piece.nodes Basics first rest) refl
          where
            by : (r : Result Ratio Past) → divisor_of s.piece.nodes Basics first rest ≡ r → IsAnswered (in_row s.e.arc A3 r ▸ λ final. in_row s.e.arc A4 (mix_of s.piece.nodes Basics sums final first rest amounts))
            by (Err past) f = (refl, rows.a_product k e0 w' S past turned_is (sym divisor_is ∙ f))
            by (Ok final) f = told_A4 (mix_of s.piece.nodes Basics sums final first rest amounts) (closing (closing_of s.piece.nodes Basics sums first rest) refl)
              where
                closing : (r : Result Ratio Past) → closing_of s.piece.nodes Basics sums first rest ≡ r
                    → MatchResult (r ▷ λ whole. over_of (negated whole) final ▷ λ t. mix_all s.piece.nodes Basics sums t first rest amounts) (λ found. ending.AreAll s found × ending.FitsAll s) (λ past. IsTold (overflow_at s.e.arc A4 past))
                closing (Err past) c = (refl, rows.a_closing k e0 w' S past turned_is (sym closing_is ∙ c))
                closing (Ok whole) c = over (over_of (negated whole) final) refl
                  where
                    over : (r : Result Ratio Past) → over_of (negated whole) final ≡ r
                        → MatchResult (r ▷ λ t. mix_all s.piece.nodes Basics sums t first rest amounts) (λ found. ending.AreAll s found × ending.FitsAll s) (λ past. IsTold (overflow_at s.e.arc A4 past))
                    over (Err past) o = (refl, rows.a_first k e0 w' S whole final past turned_is (sym closing_is ∙ c) (sym divisor_is ∙ f) o)
                    over (Ok t) o = mixed_round t (first_is whole final t c f o) (first_amount_is whole final t c f o)

    -- the amounts with those of the cycle
    pub closed_round : (sums : List Ratio) → length sums ≡ length s.piece.nodes → IsAnswered (close_round s.piece.nodes Basics s.joints s.before s.e cycle sums amounts)
    closed_round sums long = go (gather_sums s.piece.nodes Basics s.joints s.before s.e.ends s.e.amount amounts cycle sums)
        (sums_walk amounts cycle [] sums (λ z i. (within z i).2) long (λ z i. absurd i))
      where
        go : (r : Result (List Ratio) Past) → MatchResult r (λ found. Right amounts [] found × Right amounts cycle found) (λ past. (z : Step) × IsIn z cycle × (sum_by amounts z.far ≡ Err past))
            → IsAnswered (in_row s.e.arc A4 r ▸ λ found. if are_zero found cycle then Ok amounts else turn_round s.e.arc s.piece.nodes Basics found first rest amounts)
        go (Err past) h = sum_refused h.0 past h.1 h.2
        go (Ok found) h = test (are_zero found cycle) refl
          where
            test : (b : Bool) → are_zero found cycle ≡ b → IsAnswered (if b then Ok amounts else turn_round s.e.arc s.piece.nodes Basics found first rest amounts)
            test true e = (still_all found h.1 (all_zero found cycle e), still_fits found h.1 (all_zero found cycle e))
            test false e = let r = some_not_zero found cycle e in turned_round found h.1 r.0 r.1 r.2
