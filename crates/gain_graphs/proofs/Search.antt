-- Each node lies in a piece: a search over the basic links finds it.
use Rattle.std.proofs.Common.{◌≡◌, ◌⊎◌, inl, inr, sym, refl, ◌∙◌, subst, ℕ, suc, zero, ◌+◌, ◌<◌, ◌≤◌, List, [], ◌∷◌, length, map, arith}
use Rattle.gain_graphs.specs.Field.{Field}
use Rattle.gain_graphs.specs.Arcs.{IsIn, AreDistinct, Ends, Link, Drain, Feed, Step, Along, Against, Touches, IsWalk, AreJoined}
use Rattle.gain_graphs.specs.Forests.{IsPiece, IsValid}
use Rattle.gain_graphs.proofs.Lists.{in_map_of, decide_in, at_most}
use Rattle.gain_graphs.proofs.Selected.{upto, upto_holds, length_upto, Selected, select, least_of}
use Rattle.gain_graphs.proofs.Walks

module _ {Scalar : Type 0} (F : Field Scalar) (n : ℕ) (ends : ℕ → Ends Scalar) where
  pub decide_touches : (ns : List ℕ) (e : Ends Scalar) → Dec (Touches ns e)
  decide_touches ns (Link i j g) = go (decide_in i ns) (decide_in j ns)
    where
      go : Dec (IsIn i ns) → Dec (IsIn j ns) → Dec (IsIn i ns ⊎ IsIn j ns)
      go (yes a) _ = yes (inl a)
      go (no a) (yes b) = yes (inr b)
      go (no a) (no b) = no (elim [ inl x ↦ a x | inr x ↦ b x ])
  decide_touches ns (Drain i) = decide_in i ns
  decide_touches ns (Feed i) = decide_in i ns

  -- nodes that no link of the list leaves
  Closed : List ℕ → List ℕ → Type 0
  Closed ns xs = (i j : ℕ) (g : Scalar) → IsIn (Link i j g) (map ends xs) → IsIn i ns ⊎ IsIn j ns → IsIn i ns × IsIn j ns

  -- a node outside that a link of the list leads to
  Fresh : List ℕ → List ℕ → Type 0
  Fresh ns xs = (u : ℕ) × (v : ℕ) × IsIn u ns × (¬ IsIn v ns) × AreJoined (map ends xs) u v

  wider_walk : (x : ℕ) (xs : List ℕ) (w : List (Step Scalar)) (u v : ℕ) → IsWalk (map ends xs) u w v → IsWalk (map ends (x ∷ xs)) u w v
  wider_walk x xs [] u v k = k
  wider_walk x xs (Along i j g ∷ w) u v k = (k.0, inr k.1, wider_walk x xs w j v k.2)
  wider_walk x xs (Against i j g ∷ w) u v k = (k.0, inr k.1, wider_walk x xs w i v k.2)

  crossing : (ns xs : List ℕ) → Fresh ns xs ⊎ Closed ns xs
  unfolding Fresh Closed
  crossing ns [] = inr (λ i j g k t. absurd k)
  crossing ns (x ∷ xs) = go (ends x) refl (crossing ns xs)
    where
      keep : (e : Ends Scalar) → ends x ≡ e → ((i j : ℕ) (g : Scalar) → (Link i j g ≡ e) → IsIn i ns ⊎ IsIn j ns → IsIn i ns × IsIn j ns) → Closed ns xs → Closed ns (x ∷ xs)
      keep e p h c i j g k t = elim k [ inl q ↦ h i j g (q ∙ p) t | inr l ↦ c i j g l t ]

      go : (e : Ends Scalar) → ends x ≡ e → Fresh ns xs ⊎ Closed ns xs → Fresh ns (x ∷ xs) ⊎ Closed ns (x ∷ xs)
      go e p (inl f) = inl (f.0, f.1, f.2, f.3, (f.4.0, wider_walk x xs f.4.0 f.0 f.1 f.4.1))
      go (Drain v) p (inr c) = inr (keep (Drain v) p (λ i j g q t. absurd cc) c)
      go (Feed v) p (inr c) = inr (keep (Feed v) p (λ i j g q t. absurd cc) c)
      go (Link a b h) p (inr c) = links (decide_in a ns) (decide_in b ns)
        where
          links : Dec (IsIn a ns) → Dec (IsIn b ns) → Fresh ns (x ∷ xs) ⊎ Closed ns (x ∷ xs)
          links (yes i) (yes j) = inr (keep (Link a b h) p (λ c' d g q t. let r : c' ≡ a = cc in let s : d ≡ b = cc in (subst (λ y. IsIn y ns) (sym r) i, subst (λ y. IsIn y ns) (sym s) j)) c)
          links (yes i) (no j) = inl (a, b, i, j, (Along a b h ∷ [], (refl, inl (sym p), refl)))
          links (no i) (yes j) = inl (b, a, j, i, (Against a b h ∷ [], (refl, inl (sym p), refl)))
          links (no i) (no j) = inr (keep (Link a b h) p (λ c' d g q t. let r : c' ≡ a = cc in let s : d ≡ b = cc in
              absurd (elim t [ inl k ↦ i (subst (λ y. IsIn y ns) r k) | inr k ↦ j (subst (λ y. IsIn y ns) s k) ])) c)

  record Reached (basic : List ℕ) (s : ℕ) (ns : List ℕ) : Type 0 where
    once : AreDistinct ns
    below : (v : ℕ) → IsIn v ns → v < n
    start : IsIn s ns
    joined : (v : ℕ) → IsIn v ns → AreJoined (map ends basic) s v

  bound : (basic : List ℕ) → ((a : ℕ) → IsIn a basic → IsValid F n (ends a)) → (w : List (Step Scalar)) (u v : ℕ) → u < n → IsWalk (map ends basic) u w v → v < n
  bound basic valid [] u v h k = subst (λ t. t < n) k h
  bound basic valid (Along i j g ∷ w) u v h k =
      let r = in_map_of ends (Link i j g) basic k.1 in
      bound basic valid w j v (subst (IsValid F n) (sym r.2) (valid r.0 r.1)).1 k.2
  bound basic valid (Against i j g ∷ w) u v h k =
      let r = in_map_of ends (Link i j g) basic k.1 in
      bound basic valid w i v (subst (IsValid F n) (sym r.2) (valid r.0 r.1)).0 k.2

  search_on : (basic : List ℕ) → ((a : ℕ) → IsIn a basic → IsValid F n (ends a)) → (s : ℕ) (k : ℕ) (ns : List ℕ) → n < k + length ns → Reached basic s ns
      → (ms : List ℕ) × Reached basic s ms × Closed ms basic
  unfolding Fresh
  search_on basic valid s zero ns h r = absurd (let l : length ns ≤ length (upto n) = at_most ns (upto n) r.once (λ v i. upto_holds n v (r.below v i)) in omega (arith, length_upto n))
  search_on basic valid s (suc k) ns h r = go (search_on basic valid s k) (crossing ns basic)
    where
      go : ((ms : List ℕ) → n < k + length ms → Reached basic s ms → (ls : List ℕ) × Reached basic s ls × Closed ls basic) → Fresh ns basic ⊎ Closed ns basic → (ms : List ℕ) × Reached basic s ms × Closed ms basic
      go ih (inr c) = (ns, r, c)
      go ih (inl f) = ih (f.1 ∷ ns) (omega arith) (record {
        once = (f.3, r.once);
        below = λ v. elim [ inl e ↦ subst (λ t. t < n) (sym e) (bound basic valid f.4.0 f.0 f.1 (r.below f.0 f.2) f.4.1) | inr i ↦ r.below v i ];
        start = inr r.start;
        joined = λ v. elim [ inl e ↦ subst (λ t. AreJoined (map ends basic) s t) (sym e) (Walks.joined_trans (map ends basic) s f.0 f.1 (r.joined f.0 f.2) f.4) | inr i ↦ r.joined v i ];
      })

  pub record PieceOf (basic : List ℕ) (u : ℕ) : Type 0 where
    pub least : ℕ
    pub nodes : List ℕ
    pub arcs : List ℕ
    pub piece : IsPiece n ends basic least nodes arcs
    pub holds : IsIn u nodes

  pub piece_of : (basic : List ℕ) → AreDistinct basic → ((a : ℕ) → IsIn a basic → IsValid F n (ends a)) → (u : ℕ) → u < n → PieceOf basic u
  unfolding Closed
  piece_of basic once valid u h = of_reached (search_on basic valid u (suc n) (u ∷ []) (omega arith) (record {
    once = ((λ i. i), record {});
    below = λ v. elim [ inl e ↦ subst (λ t. t < n) (sym e) h | inr i ↦ absurd i ];
    start = inl refl;
    joined = λ v. elim [ inl e ↦ ([], sym e) | inr i ↦ absurd i ];
  }))
    where
      of_reached : (ms : List ℕ) × Reached basic u ms × Closed ms basic → PieceOf basic u
      of_reached ([], r, c) = absurd r.start
      of_reached (m ∷ ms, r, c) =
          let l = least_of m ms in
          let own : Selected (λ a. Touches (m ∷ ms) (ends a)) basic = select (λ a. Touches (m ∷ ms) (ends a)) (λ a. decide_touches (m ∷ ms) (ends a)) basic once in
          record {
            least = l.0;
            nodes = m ∷ ms;
            arcs = own.list;
            holds = r.start;
            piece = record {
              nodes_once = r.once;
              arcs_once = own.once;
              has_least = l.1;
              is_least = l.2;
              joined = λ v. (
                (λ i. (r.below v i, Walks.joined_trans (map ends basic) l.0 u v (Walks.joined_sym (map ends basic) u l.0 (r.joined l.0 l.1)) (r.joined v i))),
                (λ q. (Walks.within (λ x. IsIn x (m ∷ ms)) (map ends basic) (map ends basic) (λ i j g k t. let e = c i j g k t in (k, e.0, e.1)) q.1.0 l.0 v l.1 q.1.1).1),
              );
              touched = own.holds;
            };
          }
