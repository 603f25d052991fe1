-- Amounts gathered inwards are those of the direction, or an operation that is reached overflows.
use Rattle.std.specs.Prelude.{◌≡◌, ◌≢◌, ◌⊎◌, ◌<◌, ℕ, List, [], ◌∷◌, ◌++◌, length, reverse, slice_index_or, slice_set, Result, Ok, Err, MatchResult}
use Rattle.std.specs.Result.{IsOk}
use Rattle.std.proofs.Common.{refl, sym, ap, ap₂, subst, ◌∙◌, inl, inr, arith, true≢false, append_assoc, append-nil}
use Rattle.std.proofs.lemmas.List.{get_or-set_same, get_or-set_other, length-set}
use mathlib.Core.List.{reverse_aux}
use Rattle.gain_graphs.specs.Arcs.{IsIn}
use Rattle.gain_graphs.proofs.Lists.{in_back}
use Rattle.np_frac.specs.Ratio.{Ratio, zero_ratio}
use Rattle.np_frac.specs.Exact.{◌▷◌}
use Rattle.np_frac.specs.declared.frac.Past.{Past}
use Rattle.np_model.specs.declared.arc.Ends.{Ends}
use Rattle.np_model.specs.declared.rows.Row.TheVariants.{A4}
use Rattle.np_model.specs.Network.Flows.{at}
use Rattle.np_model.specs.Basis.Pieces.{nodes_in}
use Rattle.np_model.specs.Rows.Directions as rows
use Rattle.np_model.specs.Rows.Directions.{turned, sum_at, AreAddedAt, Settled, Gives}
use Rattle.np_basis.proofs.Ascending.{same_rising}
use Rattle.tree_search.specs.declared.piece.Step.{Step}
use Rattle.tree_search.specs.Places.{loose}
use Rattle.tree_search.specs.Search.{GoesOn}
use Rattle.tree_search.specs.Finding.{starts_of}
use Rattle.tree_search.specs.Outwards.{IsStepOver}
use Rattle.tree_flows.specs.Along.{IsWithin, gather, amount_of}
use Rattle.np_frac.proofs.Results.{is_ok_of}
use Rattle.tree_flows.proofs.Scenes as scenes
use Rattle.tree_flows.proofs.Scenes.{Scene}
use Rattle.tree_flows.proofs.Adding as adding
use Rattle.tree_flows.proofs.Adding.{leads_from, leads_so, leads_is}
use Rattle.tree_flows.proofs.Balances as balances
use Rattle.tree_flows.proofs.Balances.{comes_later, leads_elsewhere, step_joins}

-- the steps of the first list, one by one, before those of the second
abbrev pub onto : List Step → List Step → List Step
onto [] later = later
onto (s ∷ back) later = onto back (s ∷ later)

onto_aux : (v acc w : List Step) → onto (reverse_aux v acc) w ≡ onto acc (v ++ w)
onto_aux [] acc w = refl
onto_aux (s ∷ v) acc w = onto_aux v (s ∷ acc) w

pub onto_reverse : (steps : List Step) → onto (reverse steps) [] ≡ steps
onto_reverse steps = onto_aux steps [] [] ∙ append-nil steps

onto_split : (back later : List Step) → (done : List Step) × (onto back later ≡ done ++ later)
onto_split [] later = ([], refl)
onto_split (s ∷ back) later = let r = onto_split back (s ∷ later) in (r.0 ++ s ∷ [], r.1 ∙ sym (append_assoc r.0 (s ∷ []) later))

pub same_or : (i j : ℕ) → (i ≡ j) ⊎ (i ≢ j)
same_or i j = grind arith

module _ (s : Scene) where
  abbrev E : ℕ → Ends
  E = scenes.ends s

  abbrev Basics : List (ℕ × Ends × Ratio)
  Basics = s.piece.basics

  abbrev pub IsSettled : ℕ → Type 0
  IsSettled a = Settled E s.d (scenes.own s) (scenes.x s) s.e.arc a

  abbrev pub Told : Past → Type 0
  Told past = Gives E s.d (scenes.own s) (scenes.x s) s.e.arc A4 past

  -- the amounts on the arcs of these steps are made, and all others are 0
  pub record AreMade (later : List Step) (amounts : List Ratio) : Type 0 where
    pub long : length amounts ≡ length Basics
    pub known : (t : Step) → IsIn t later → at amounts t.arc ≡ s.d (scenes.number s t.arc)
    pub still : (a : ℕ) → ((t : Step) → IsIn t later → t.arc ≢ a) → at amounts a ≡ zero_ratio

  -- none of the operations that make the amount on the arc of a step overflows
  pub record IsDone (t : Step) : Type 0 where
    pub settled : IsSettled (scenes.number s t.arc)
    pub fits : IsOk (sum_at E s.d (scenes.node s t.far) (adding.list s t.far) zero_ratio ▷ turned (E (scenes.number s t.arc)) (scenes.node s t.far))

  abbrev pub IsGathered : Result (List Ratio) Past → Type 0
  IsGathered r = MatchResult r (λ amounts. AreMade (scenes.steps s) amounts × ((t : Step) → IsIn t (scenes.steps s) → IsDone t)) Told

  -- an arc over which no step leads from a node of the piece is that of a step to it, or of none
  pub step_at : (p a : ℕ) (t : Step) → IsIn a (adding.places_at s p) → IsIn t (scenes.steps s) → t.arc ≡ a → (t.near ≡ p) ⊎ (t.far ≡ p)
  step_at p a t i k e = elim (subst (λ n. ((slice_index_or s.joints n loose).from ≡ p) ⊎ ((slice_index_or s.joints n loose).to ≡ p)) (sym e) (adding.at_ends s p a i)) [
    | inl m ↦ elim (step_joins s.joints (starts_of s.joints s.extra) (scenes.steps s) s.is_search.goes t k).1 [ inl j ↦ inl (sym j.0 ∙ m) | inr j ↦ inr (sym j.0 ∙ m) ]
    | inr m ↦ elim (step_joins s.joints (starts_of s.joints s.extra) (scenes.steps s) s.is_search.goes t k).1 [ inl j ↦ inr (sym j.1 ∙ m) | inr j ↦ inl (sym j.1 ∙ m) ]
  ]

  -- where the amounts of all steps from a node are made, and of none to it, its sum can be made
  pub ready_at : (p : ℕ) (later : List Step) (amounts : List Ratio) → AreMade later amounts → ((t : Step) → IsIn t later → IsIn t (scenes.steps s))
      → ((t : Step) → IsIn t (scenes.steps s) → t.near ≡ p → IsIn t later) → ((t : Step) → IsIn t later → t.far ≢ p) → adding.AreReady s p amounts
  ready_at p later amounts m sub from to = record {
    known = λ a i e. let t = leads_so (scenes.steps s) p a e in subst (λ n. at amounts n ≡ s.d (scenes.number s n)) t.2 (m.known t.0 (from t.0 t.1 t.3));
    still = λ a i e. m.still a (λ t j k. elim (step_at p a t i (sub t j) k) [
      | inl n ↦ true≢false (sym (leads_is (scenes.steps s) p a t (sub t j) k n) ∙ e)
      | inr n ↦ to t j n
    ]);
  }

  -- the arcs added at a node are settled where those of the steps from it are
  pub settled_at : (p : ℕ) → p < length s.piece.nodes → ((t : Step) → IsIn t (scenes.steps s) → t.near ≡ p → IsSettled (scenes.number s t.arc)) → (b : ℕ) → IsIn b (adding.list s p) → IsSettled b
  settled_at p l h b i = elim (((adding.added s p l).all b).0 i) [
    | inl r ↦ subst IsSettled (sym r.0) rows.enters
    | inr r ↦ (let o = (scenes.out s).all b (scenes.node s p) r.0 r.1 in
        subst IsSettled o.arc (h o.step o.is_in (scenes.one_node s o.step.near p (scenes.within s o.step o.is_in).1 l o.near)))
  ]

  -- lists of what is added at a node are the same
  pub list_same : (p : ℕ) → p < length s.piece.nodes → (list : List ℕ) → AreAddedAt E s.d (scenes.own s) (scenes.x s) s.e.arc (scenes.node s p) list → list ≡ adding.list s p
  list_same p l list m =
      let n = adding.added s p l in
      same_rising list (adding.list s p) m.ascend n.ascend (λ b i. (n.all b).1 ((m.all b).0 i)) (λ b i. (m.all b).1 ((n.all b).0 i))

  pub sum_told : (p : ℕ) (past : Past) → p < length s.piece.nodes → rows.IsNode E s.d (scenes.own s) (scenes.x s) s.e.arc (scenes.node s p) → ((b : ℕ) → IsIn b (adding.list s p) → IsSettled b)
      → sum_at E s.d (scenes.node s p) (adding.list s p) zero_ratio ≡ Err past → Told past
  sum_told p past l node ready e =
      rows.a_sum (scenes.node s p) (adding.list s p) [] past node
      (subst (AreAddedAt E s.d (scenes.own s) (scenes.x s) s.e.arc (scenes.node s p)) (sym (append-nil (adding.list s p))) (adding.added s p l)) ready e

  pub gathered : (back later : List Step) (amounts : List Ratio) → onto back later ≡ scenes.steps s → AreMade later amounts → ((t : Step) → IsIn t later → IsDone t)
      → IsGathered (gather s.piece.nodes Basics s.joints s.before s.e.ends s.e.amount back amounts)
  gathered [] later amounts e made done = (subst (λ l. AreMade l amounts) e made, subst (λ l. (t : Step) → IsIn t l → IsDone t) e done)
  gathered (z ∷ back) later amounts e made done =
      step (λ y m set. gathered back (z ∷ later) (slice_set amounts z.arc y) e (more y m) (λ t. elim [ inl k ↦ subst IsDone (sym k) set | inr k ↦ done t k ]))
      (sum_at E s.d v (adding.list s z.far) zero_ratio) refl
    where
      v : ℕ
      v = scenes.node s z.far

      r : (before : List Step) × (onto back (z ∷ later) ≡ before ++ z ∷ later)
      r = onto_split back (z ∷ later)

      whole : r.0 ++ z ∷ later ≡ scenes.steps s
      whole = sym r.1 ∙ e

      inside : IsIn z (scenes.steps s)
      inside = subst (IsIn z) whole (in_back z r.0 (z ∷ later) (inl refl))

      w : IsWithin s.piece.nodes Basics z
      w = scenes.within s z inside

      goes : GoesOn s.joints (starts_of s.joints s.extra) (r.0 ++ z ∷ later)
      goes = subst (GoesOn s.joints (starts_of s.joints s.extra)) (sym whole) s.is_search.goes

      in_steps : (t : Step) → IsIn t later → IsIn t (scenes.steps s)
      in_steps t i = subst (IsIn t) whole (in_back t r.0 (z ∷ later) (inr i))

      from : (t : Step) → IsIn t (scenes.steps s) → t.near ≡ z.far → IsIn t later
      from t i m = comes_later s.joints (starts_of s.joints s.extra) r.0 z later goes t (subst (IsIn t) (sym whole) i) m

      ready : (b : ℕ) → IsIn b (adding.list s z.far) → IsSettled b
      ready = settled_at z.far w.2 (λ t i m. (done t (from t i m)).settled)

      value : amount_of s.piece.nodes Basics s.joints s.before s.e.ends s.e.amount amounts z ≡ (sum_at E s.d v (adding.list s z.far) zero_ratio ▷ turned (E (scenes.number s z.arc)) v)
      value = ap₂ (λ t q. t ▷ turned q v)
          (adding.sum_is s z.far amounts (ready_at z.far later amounts made in_steps from (leads_elsewhere s.joints (starts_of s.joints s.extra) r.0 z later goes)))
          (sym (scenes.ends_of s z.arc w.0))

      more : (y : Ratio) → y ≡ s.d (scenes.number s z.arc) → AreMade (z ∷ later) (slice_set amounts z.arc y)
      more y m = record { long = length-set amounts z.arc y ∙ made.long; known = known; still = still }
        where
          set : at (slice_set amounts z.arc y) z.arc ≡ s.d (scenes.number s z.arc)
          set = get_or-set_same amounts z.arc y zero_ratio (subst (λ t. z.arc < t) (sym made.long) w.0) ∙ m

          known : (t : Step) → IsIn t (z ∷ later) → at (slice_set amounts z.arc y) t.arc ≡ s.d (scenes.number s t.arc)
          known t (inl k) = subst (λ (u : Step). at (slice_set amounts z.arc y) u.arc ≡ s.d (scenes.number s u.arc)) (sym k) set
          known t (inr k) = elim (same_or t.arc z.arc) [
            | inl j ↦ subst (λ n. at (slice_set amounts z.arc y) n ≡ s.d (scenes.number s n)) (sym j) set
            | inr j ↦ get_or-set_other amounts z.arc t.arc y zero_ratio j ∙ made.known t k
          ]

          still : (a : ℕ) → ((t : Step) → IsIn t (z ∷ later) → t.arc ≢ a) → at (slice_set amounts z.arc y) a ≡ zero_ratio
          still a n = get_or-set_other amounts z.arc a y zero_ratio (λ k. n z (inl refl) (sym k)) ∙ made.still a (λ t i. n t (inr i))

      next : Ratio → Result (List Ratio) Past
      next y = gather s.piece.nodes Basics s.joints s.before s.e.ends s.e.amount back (slice_set amounts z.arc y)

      step : ((y : Ratio) → y ≡ s.d (scenes.number s z.arc) → IsDone z → IsGathered (next y))
          → (p : Result Ratio Past) → sum_at E s.d v (adding.list s z.far) zero_ratio ≡ p → IsGathered (amount_of s.piece.nodes Basics s.joints s.before s.e.ends s.e.amount amounts z ▷ next)
      step rest (Err past) m =
          subst (λ t. IsGathered (t ▷ next)) (sym (value ∙ ap (λ t. t ▷ turned (E (scenes.number s z.arc)) v) m))
          (sum_told z.far past w.2 (inr (scenes.number s z.arc, scenes.node s z.near, (scenes.out s).hang z inside)) ready m)
      step rest (Ok sum) m = turn (turned (E (scenes.number s z.arc)) v sum) refl
        where
          is : (p : Result Ratio Past) → turned (E (scenes.number s z.arc)) v sum ≡ p → amount_of s.piece.nodes Basics s.joints s.before s.e.ends s.e.amount amounts z ≡ p
          is p n = value ∙ ap (λ t. t ▷ turned (E (scenes.number s z.arc)) v) m ∙ n

          turn : (p : Result Ratio Past) → turned (E (scenes.number s z.arc)) v sum ≡ p → IsGathered (amount_of s.piece.nodes Basics s.joints s.before s.e.ends s.e.amount amounts z ▷ next)
          turn (Err past) n =
              subst (λ t. IsGathered (t ▷ next)) (sym (is (Err past) n))
              (rows.a_link (scenes.number s z.arc) (scenes.node s z.near) v sum past ((scenes.out s).hang z inside)
              (record { added = adding.list s z.far; are_added = adding.added s z.far w.2; settled = ready; sum_is = m }) n)
          turn (Ok y) n =
              let all : (sum_at E s.d v (adding.list s z.far) zero_ratio ▷ turned (E (scenes.number s z.arc)) v) ≡ Ok y = sym value ∙ is (Ok y) n in
              let fits : IsOk (sum_at E s.d v (adding.list s z.far) zero_ratio ▷ turned (E (scenes.number s z.arc)) v) = is_ok_of (sum_at E s.d v (adding.list s z.far) zero_ratio ▷ turned (E (scenes.number s z.arc)) v) y all in
              subst (λ t. IsGathered (t ▷ next)) (sym (is (Ok y) n))
              (rest y (balances.link_is s (scenes.number s z.arc) (scenes.node s z.near) z.far w.2 (adding.list s z.far) y ((scenes.out s).hang z inside) (adding.added s z.far w.2) all)
              (record {
                settled = rows.link (scenes.number s z.arc) (scenes.node s z.near) v (adding.list s z.far) ((scenes.out s).hang z inside) (adding.added s z.far w.2) ready fits;
                fits = fits;
              }))

  -- ---- once all are made

  module _ (done : (t : Step) → IsIn t (scenes.steps s) → IsDone t) where
    -- no operation over a link off the extra arc overflows
    pub links : (a u v : ℕ) (list : List ℕ) → scenes.Hanging s a u v → AreAddedAt E s.d (scenes.own s) (scenes.x s) s.e.arc v list → IsOk (sum_at E s.d v list zero_ratio ▷ turned (E a) v)
    links a u v list h m = made ((scenes.out s).all a u v h)
      where
        made : IsStepOver (nodes_in s.piece) Basics (scenes.steps s) a u v → IsOk (sum_at E s.d v list zero_ratio ▷ turned (E a) v)
        made o =
            let same : list ≡ adding.list s o.step.far = list_same o.step.far (scenes.within s o.step o.is_in).2 list (subst (λ n. AreAddedAt E s.d (scenes.own s) (scenes.x s) s.e.arc n list) (sym o.far) m) in
            subst (λ n. IsOk (sum_at E s.d n list zero_ratio ▷ turned (E a) n)) o.far
            (subst (λ l. IsOk (sum_at E s.d (scenes.node s o.step.far) l zero_ratio ▷ turned (E a) (scenes.node s o.step.far))) (sym same)
            (subst (λ n. IsOk (sum_at E s.d (scenes.node s o.step.far) (adding.list s o.step.far) zero_ratio ▷ turned (E n) (scenes.node s o.step.far))) o.arc (done o.step o.is_in).fits))

    pub all_settled : (p : ℕ) → p < length s.piece.nodes → (b : ℕ) → IsIn b (adding.list s p) → IsSettled b
    all_settled p l = settled_at p l (λ t i m. (done t i).settled)
