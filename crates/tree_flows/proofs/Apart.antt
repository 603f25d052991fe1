-- Where no operation of the rows of directions overflows, none that is reached does.
use Rattle.std.specs.Prelude.{◌≡◌, ◌↔◌, ℕ, List, [], ◌∷◌, ◌++◌, Ok, Err}
use Rattle.std.specs.Result.{IsOk}
use Rattle.std.proofs.Common.{refl, sym, ap, subst, ◌∙◌, inl, inr}
use Rattle.gain_graphs.specs.Arcs.{IsIn}
use Rattle.gain_graphs.specs.Cycles.{nodes_along, last_arc}
use Rattle.gain_graphs.proofs.Lists.{in_front, in_back}
use Rattle.gain_graphs.proofs.Ways as ways
use Rattle.np_frac.specs.Ratio.{Ratio, zero_ratio, one_ratio, negated}
use Rattle.np_frac.specs.Exact.{plus_of, over_of, ◌▷◌}
use Rattle.np_frac.specs.declared.frac.Past.{Past}
use Rattle.np_frac.proofs.Exactness.{found_by}
use Rattle.np_model.specs.declared.arc.Ends.{Ends}
use Rattle.np_model.specs.declared.rows.Row.{Row}
use Rattle.np_model.specs.Basis.Graphs.{graph_of}
use Rattle.np_model.specs.Rows.Directions as rows
use Rattle.np_model.specs.Rows.Directions.{term, turned, with_first, sum_at, AreAddedAt, IsAddedAt, IsNode, HasSum, Gives, FitsRows, FitsExtra}
use Rattle.np_model.specs.Rows.Extra.{Extra, OneEnd, Round, extra_nodes, IsExtra}
use Rattle.np_basis.proofs.Ascending.{Ascends, same_rising, sort, rises}
use Rattle.np_frac.proofs.Results.{is_ok_of, err_not_ok, ok_is, same_ok, ok_or_err, same_when}

to_pair : (way : List (ℕ × ℕ)) (v : ℕ) → IsIn v (nodes_along way) → (a : ℕ) × IsIn (a, v) way
to_pair [] v i = absurd i
to_pair (y ∷ way) v (inl e) = (y.0, inl (ap (λ t. (y.0, t)) e))
to_pair (y ∷ way) v (inr i) = let r = to_pair way v i in (r.0, inr r.1)

of_pair : (way : List (ℕ × ℕ)) (a v : ℕ) → IsIn (a, v) way → IsIn v (nodes_along way)
of_pair [] a v i = absurd i
of_pair (y ∷ way) a v (inl e) = inl (ap (λ (t : ℕ × ℕ). t.1) e)
of_pair (y ∷ way) a v (inr i) = inr (of_pair way a v i)

-- of an ascending list those of which this holds, in ascending order: there is no case without such a list
chosen : (P : ℕ → Type 0) (xs : List ℕ) → Ascends xs → (((l : List ℕ) × Ascends l × ((a : ℕ) → IsIn a l ↔ (IsIn a xs × P a))) → ⊥) → ⊥
chosen P [] up k = k ([], record {}, λ a. ((λ i. absurd i), λ r. r.0))
chosen P (x ∷ xs) up k = chosen P xs up.1 (λ r. without r (λ p. k (
  x ∷ r.0,
  ((λ v i. up.0 v ((r.2 v).0 i).0), r.1),
  λ a. (
    elim [ inl e ↦ (inl e, subst P (sym e) p) | inr i ↦ (inr ((r.2 a).0 i).0, ((r.2 a).0 i).1) ],
    λ q. elim q.0 [ inl e ↦ inl e | inr j ↦ inr ((r.2 a).1 (j, q.1)) ],
  ),
)))
  where
    without : ((l : List ℕ) × Ascends l × ((a : ℕ) → IsIn a l ↔ (IsIn a xs × P a))) → (P x → ⊥) → ⊥
    without r n = k (r.0, r.1, λ a. ((λ i. (inr ((r.2 a).0 i).0, ((r.2 a).0 i).1)), λ q. elim q.0 [ inl e ↦ absurd (n (subst P e q.1)) | inr j ↦ (r.2 a).1 (j, q.1) ]))

-- on a piece with this extra arc, two directions that are the same on the entering arc and on its arcs; no operation overflows at the second
module _ (E : ℕ → Ends) (own : List ℕ) (x : Extra) (is_extra : IsExtra E own x) (enter : ℕ) (d fine : ℕ → Ratio) (same_on : (a : ℕ) → IsIn a (enter ∷ own) → d a ≡ fine a)
    (f : FitsRows E fine own x enter) where
  abbrev AreAdded : ℕ → List ℕ → Type 0
  AreAdded v list = AreAddedAt E fine own x enter v list

  abbrev Node : ℕ → Type 0
  Node v = IsNode E fine own x enter v

  as_added : (v : ℕ) (l : List ℕ) → AreAddedAt E d own x enter v l → AreAdded v l
  as_added v l m = record { ascend = m.ascend; all = m.all }

  -- an arc that is added is that which enters, or one of the piece
  added_own : (v a : ℕ) → IsAddedAt E fine own x enter v a → IsIn a (enter ∷ own)
  added_own v a (inl r) = inl r.0
  added_own v a (inr r) = inr (subst (λ t. IsIn a t) r.1.split (in_back a r.1.before (a ∷ r.1.after) (inl refl)))

  sum_same : (v : ℕ) (l : List ℕ) (r : Ratio) → ((a : ℕ) → IsIn a l → IsAddedAt E fine own x enter v a) → sum_at E d v l r ≡ sum_at E fine v l r
  sum_same v [] r all = refl
  sum_same v (a ∷ l) r all =
      ap (λ t. term (E a) v t ▷ λ (more : Ratio). plus_of r more ▷ sum_at E d v l) (same_on a (added_own v a (all a (inl refl))))
      ∙ same_when (term (E a) v (fine a)) (λ (more : Ratio). plus_of r more ▷ sum_at E d v l) (λ (more : Ratio). plus_of r more ▷ sum_at E fine v l)
      (λ more _. same_when (plus_of r more) (sum_at E d v l) (sum_at E fine v l) (λ s _. sum_same v l s (λ b i. all b (inr i))))

  same_list : (v : ℕ) (l k : List ℕ) → AreAdded v l → AreAdded v k → l ≡ k
  same_list v l k m n = same_rising l k m.ascend n.ascend (λ b i. (n.all b).1 ((m.all b).0 i)) (λ b i. (m.all b).1 ((n.all b).0 i))

  -- the sum at each node is made
  sum_made : (v : ℕ) → Node v → (l : List ℕ) → AreAdded v l → (r : Ratio) × (sum_at E fine v l zero_ratio ≡ Ok r)
  sum_made v (inr h) l m =
      let o = ok_is (sum_at E fine v l zero_ratio ▷ turned (E h.0) v) (f.links h.0 h.1 v l h.2 m) in
      let r = found_by (sum_at E fine v l zero_ratio) (turned (E h.0) v) o.0 o.1 in
      (r.0, r.1)
  sum_made v (inl i) l m = go x f.extra i
    where
      go : (y : Extra) → FitsExtra E fine own x enter y → IsIn v (extra_nodes y) → (r : Ratio) × (sum_at E fine v l zero_ratio ≡ Ok r)
      go (OneEnd a z) g (inl e) = ok_is (sum_at E fine v l zero_ratio) (subst (λ t. IsOk (sum_at E fine t l zero_ratio)) (sym e) (g l (subst (λ t. AreAdded t l) e m)))
      go (OneEnd a z) g (inr n) = absurd n
      go (Round k []) g j = absurd j
      go (Round k (e ∷ w)) g j =
          let p = to_pair (e ∷ w) v j in
          let h = g.1 p.0 v p.1 in
          (g.0 v, ap (λ t. sum_at E fine v t zero_ratio) (same_list v l h.added m h.are_added) ∙ h.sum_is)

  sum_front : (v : ℕ) (before after : List ℕ) (r q : Ratio) → sum_at E fine v (before ++ after) r ≡ Ok q → IsOk (sum_at E fine v before r)
  sum_front v [] after r q e = refl
  sum_front v (a ∷ before) after r q e =
      let m = found_by (term (E a) v (fine a)) (λ t. plus_of r t ▷ sum_at E fine v (before ++ after)) q e in
      let n = found_by (plus_of r m.0) (sum_at E fine v (before ++ after)) q m.2 in
      subst (λ t. IsOk (t ▷ λ t. plus_of r t ▷ sum_at E fine v before)) (sym m.1) (subst (λ t. IsOk (t ▷ sum_at E fine v before)) (sym n.1) (sum_front v before after n.0 q n.2))

  term_made : (v : ℕ) (l : List ℕ) (r q : Ratio) (a : ℕ) → sum_at E fine v l r ≡ Ok q → IsIn a l → IsOk (term (E a) v (fine a))
  term_made v [] r q a e i = absurd i
  term_made v (b ∷ l) r q a e i =
      let m = found_by (term (E b) v (fine b)) (λ t. plus_of r t ▷ sum_at E fine v l) q e in
      let n = found_by (plus_of r m.0) (sum_at E fine v l) q m.2 in
      elim i [ inl k ↦ subst (λ t. IsOk (term (E t) v (fine t))) (sym k) (is_ok_of (term (E b) v (fine b)) m.0 m.1) | inr j ↦ term_made v l n.0 q a n.2 j ]

  -- ---- round a cycle

  amount_same : (g h : ℕ → Ratio) (a v : ℕ) (way : List (ℕ × ℕ)) (y : Ratio) → ((u : ℕ) → IsIn u (v ∷ nodes_along way) → g u ≡ h u) → rows.amount_along E fine g a v way y ≡ rows.amount_along E d h a v way y
  amount_same g h a v [] y same = refl
  amount_same g h a v (z ∷ way) y same =
      same_when (term (E a) v y) (λ t. plus_of t (g v) ▷ turned (E z.0) v ▷ rows.amount_along E fine g z.0 z.1 way) (λ t. plus_of t (h v) ▷ turned (E z.0) v ▷ rows.amount_along E d h z.0 z.1 way)
      (λ t _. ap (λ c. plus_of t c ▷ turned (E z.0) v ▷ rows.amount_along E fine g z.0 z.1 way) (same v (inl refl))
      ∙ same_when (plus_of t (h v) ▷ turned (E z.0) v) (rows.amount_along E fine g z.0 z.1 way) (rows.amount_along E d h z.0 z.1 way) (λ r _. amount_same g h z.0 z.1 way r (λ u i. same u (inr i))))

  share_same : (a v : ℕ) (way : List (ℕ × ℕ)) (y : Ratio) → rows.share_along E fine a v way y ≡ rows.share_along E d a v way y
  share_same a v [] y = refl
  share_same a v (z ∷ way) y = same_when (term (E a) v y ▷ turned (E z.0) v) (rows.share_along E fine z.0 z.1 way) (rows.share_along E d z.0 z.1 way) (λ r _. share_same z.0 z.1 way r)

  closing_same : (g h : ℕ → Ratio) (k : ℕ) (e : ℕ × ℕ) (way : List (ℕ × ℕ)) → ((u : ℕ) → IsIn u (nodes_along (e ∷ way)) → g u ≡ h u) → g k ≡ h k → rows.closing E fine g k e way ≡ rows.closing E d h k e way
  closing_same g h k e way same m =
      ap (λ r. r ▷ term (E (last_arc e.0 way)) k ▷ λ (ending : Ratio). plus_of ending (g k)) (amount_same g h e.0 e.1 way zero_ratio same)
      ∙ ap (λ c. rows.amount_along E d h e.0 e.1 way zero_ratio ▷ term (E (last_arc e.0 way)) k ▷ λ (ending : Ratio). plus_of ending c) m

  divisor_same : (k : ℕ) (e : ℕ × ℕ) (way : List (ℕ × ℕ)) → rows.divisor E fine k e way ≡ rows.divisor E d k e way
  divisor_same k e way = ap (λ r. r ▷ term (E (last_arc e.0 way)) k ▷ with_first (E e.0) k) (share_same e.0 e.1 way one_ratio)

  front_nodes : (b a way : List (ℕ × ℕ)) → b ++ a ≡ way → (u : ℕ) → IsIn u (nodes_along b) → IsIn u (nodes_along way)
  front_nodes b a way m u i = subst (λ z. IsIn u (nodes_along z)) m (go b i)
    where
      go : (b : List (ℕ × ℕ)) → IsIn u (nodes_along b) → IsIn u (nodes_along (b ++ a))
      go [] i = absurd i
      go (y ∷ b) (inl e) = inl e
      go (y ∷ b) (inr j) = inr (go b j)

  module _ (k : ℕ) (e : ℕ × ℕ) (way : List (ℕ × ℕ)) (sum : ℕ → Ratio) (t : rows.IsTurned E d own x enter k e way sum) where
    r : FitsExtra E fine own x enter (Round k (e ∷ way))
    r = subst (FitsExtra E fine own x enter) t.is_round f.extra

    same : (v : ℕ) → IsIn v (nodes_along (e ∷ way)) → r.0 v ≡ sum v
    same v i =
        let p = to_pair (e ∷ way) v i in
        let g = r.1 p.0 v p.1 in
        let h = t.have_sums p.0 v p.1 in
        let m = as_added v h.added h.are_added in
        same_ok (sum_at E fine v h.added zero_ratio) (r.0 v) (sum v) (ap (λ l. sum_at E fine v l zero_ratio) (same_list v h.added g.added m g.are_added) ∙ g.sum_is)
        (sym (sum_same v h.added zero_ratio (λ b j. (m.all b).0 j)) ∙ h.sum_is)

    least_in : IsIn k (nodes_along (e ∷ way))
    least_in = let h : IsExtra E own (Round k (e ∷ way)) = subst (IsExtra E own) t.is_round is_extra in ways.last_node (graph_of E) own way k k e h.cycle.closes

    closing_is : rows.closing E fine r.0 k e way ≡ rows.closing E d sum k e way
    closing_is = closing_same r.0 sum k e way same (same k least_in)

    made : (amount : Ratio) × (rows.first_amount E fine r.0 k e way ≡ Ok amount) × ((before after : List (ℕ × ℕ)) → before ++ after ≡ way → IsOk (rows.mixed_along E fine r.0 e before amount))
    made = r.2 (t.touched.0, t.touched.1, t.touched.2, λ m. t.touched.3 (sym (same t.touched.1 (of_pair (e ∷ way) t.touched.0 t.touched.1 t.touched.2)) ∙ m))

    amount_is : rows.first_amount E d sum k e way ≡ Ok made.0
    amount_is = ap (λ x. x ▷ λ whole. rows.divisor E d k e way ▷ over_of (negated whole)) (sym closing_is)
        ∙ ap (λ x. rows.closing E fine r.0 k e way ▷ λ whole. x ▷ over_of (negated whole)) (sym (divisor_same k e way)) ∙ made.1

    parts : (whole : Ratio) × (rows.closing E d sum k e way ≡ Ok whole) × (last : Ratio) × (rows.divisor E d k e way ≡ Ok last) × (over_of (negated whole) last ≡ Ok made.0)
    parts =
        let m = found_by (rows.closing E d sum k e way) (λ whole. rows.divisor E d k e way ▷ over_of (negated whole)) made.0 amount_is in
        let n = found_by (rows.divisor E d k e way) (over_of (negated m.0)) made.0 m.2 in
        (m.0, m.1, n.0, n.1, n.2)

    product_not : (past : Past) → rows.divisor E d k e way ≡ Err past → ⊥
    product_not past h = ok_or_err (rows.divisor E d k e way) parts.2 past parts.3 h

    closing_not : (past : Past) → rows.closing E d sum k e way ≡ Err past → ⊥
    closing_not past h = ok_or_err (rows.closing E d sum k e way) parts.0 past parts.1 h

    first_not : (past : Past) (whole last : Ratio) → rows.closing E d sum k e way ≡ Ok whole → rows.divisor E d k e way ≡ Ok last → over_of (negated whole) last ≡ Err past → ⊥
    first_not past whole last c g h =
        ok_or_err (over_of (negated whole) last) made.0 past
        (subst (λ x. over_of (negated x) last ≡ Ok made.0) (same_ok (rows.closing E d sum k e way) parts.0 whole parts.1 c)
        (subst (λ x. over_of (negated parts.0) x ≡ Ok made.0) (same_ok (rows.divisor E d k e way) parts.2 last parts.3 g) parts.4)) h

    mix_not : (past : Past) (before after : List (ℕ × ℕ)) (amount : Ratio) → rows.first_amount E d sum k e way ≡ Ok amount → before ++ after ≡ way → rows.mixed_along E d sum e before amount ≡ Err past → ⊥
    mix_not past before after amount c m h =
        let a : made.0 ≡ amount = same_ok (rows.first_amount E d sum k e way) made.0 amount amount_is c in
        err_not_ok (rows.mixed_along E d sum e before amount) past h
        (subst (λ x. IsOk (rows.mixed_along E d sum e before x)) a
        (subst (λ x. IsOk (rows.amount_along E d sum e.0 e.1 before zero_ratio ▷ λ part. x ▷ rows.mixed made.0 part)) (share_same e.0 e.1 before one_ratio)
        (subst (λ x. IsOk (x ▷ λ part. rows.share_along E fine e.0 e.1 before one_ratio ▷ rows.mixed made.0 part)) (amount_same r.0 sum e.0 e.1 before zero_ratio (λ u i. same u (onto u i))) (made.2 before after m))))
      where
        onto : (u : ℕ) → IsIn u (e.1 ∷ nodes_along before) → IsIn u (nodes_along (e ∷ way))
        onto u (inl i) = inl i
        onto u (inr i) = inr (front_nodes before after way m u i)

  -- not both
  pub not_both : (row : Row) (past : Past) → Gives E d own x enter row past → ⊥
  not_both row past (rows.a_term v a p node i settled h) =
      let all = sort (enter ∷ own) in
      chosen (IsAddedAt E fine own x enter v) all.list all.ascends (λ l.
      let are : AreAdded v l.0 = record { ascend = rises l.0 l.1; all = λ b. ((λ j. ((l.2 b).0 j).1), (λ m. (l.2 b).1 (all.to b (added_own v b m), m))) } in
      let q = sum_made v node l.0 are in
      err_not_ok (term (E a) v (d a)) p h (subst (λ t. IsOk (term (E a) v t)) (sym (same_on a (added_own v a i))) (term_made v l.0 zero_ratio q.0 a q.1 ((are.all a).1 i))))
  not_both row past (rows.a_sum v before after p node m ready h) =
      let are = as_added v (before ++ after) m in
      let q = sum_made v node (before ++ after) are in
      err_not_ok (sum_at E fine v before zero_ratio) p (sym (sum_same v before zero_ratio (λ b j. (are.all b).0 (in_front b before after j))) ∙ h) (sum_front v before after zero_ratio q.0 q.1)
  not_both row past (rows.a_link a u v sum p hang h m) =
      let are = as_added v h.added h.are_added in
      err_not_ok (turned (E a) v sum) p m (subst (λ t. IsOk (t ▷ turned (E a) v)) (sym (sum_same v h.added zero_ratio (λ b j. (are.all b).0 j)) ∙ h.sum_is) (f.links a u v h.added hang are))
  not_both row past (rows.a_product k first way sum p t h) = product_not k first way sum t p h
  not_both row past (rows.a_closing k first way sum p t h) = closing_not k first way sum t p h
  not_both row past (rows.a_first k first way sum whole last p t c g h) = first_not k first way sum t p whole last c g h
  not_both row past (rows.a_mix k first way before after sum amount p t c m h) = mix_not k first way sum t p before after amount c m h
