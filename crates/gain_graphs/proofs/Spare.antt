-- No arc of a quasi-tree can be spared: so there is one extra arc, and one cycle.
use Rattle.std.proofs.Common.{◌≡◌, ◌≢◌, ◌⊎◌, inl, inr, sym, ◌∙◌, subst, ℕ, ◌≤◌, List, [], ◌∷◌, ◌++◌, length, arith}
use Rattle.gain_graphs.specs.Field.{Field}
use Rattle.gain_graphs.specs.Arcs.{IsIn, Ends, Link, Step, Along, Against, HasOneEnd, IsWalk, AreJoined, product}
use Rattle.gain_graphs.specs.QuasiTrees.{IsQuasiTree}
use Rattle.gain_graphs.proofs.Lists.{in_others, in_with, length_marked}
use Rattle.gain_graphs.proofs.Walks
use Rattle.gain_graphs.proofs.Rigid

module _ {Scalar : Type 0} (F : Field Scalar) where
  open F use {one}

  -- arcs that span nodes are at least as many
  pub spans_enough : (ns : List ℕ) (arcs : List (Ends Scalar)) → Rigid.Spans F ns arcs → length ns ≤ length arcs
  spans_enough ns arcs p = Rigid.enough F ns arcs p.nodes_once p.ends_inside (Rigid.spans_rigid F ns arcs p)

  -- no arc of a quasi-tree can be spared
  pub spare : (ns : List ℕ) (before : List (Ends Scalar)) (a : Ends Scalar) (after : List (Ends Scalar)) → length (before ++ a ∷ after) ≡ length ns → Rigid.Spans F ns (before ++ after) → ⊥
  spare ns before a after n p = let l : length ns ≤ length (before ++ after) = spans_enough ns (before ++ after) p in omega (arith, length_marked before a after)

  -- a walk does not use an arc with one end
  pub links_only : (before : List (Ends Scalar)) (a : Ends Scalar) (after : List (Ends Scalar)) → HasOneEnd a → (w : List (Step Scalar)) (u v : ℕ)
      → IsWalk (before ++ a ∷ after) u w v → IsWalk (before ++ after) u w v
  links_only before a after h [] u v k = k
  links_only before a after h (Along i j g ∷ w) u v k =
      (k.0, elim (in_others (Link i j g) before a after k.1) [ inl e ↦ absurd (subst (HasOneEnd) (sym e) h) | inr l ↦ l ], links_only before a after h w j v k.2)
  links_only before a after h (Against i j g ∷ w) u v k =
      (k.0, elim (in_others (Link i j g) before a after k.1) [ inl e ↦ absurd (subst (HasOneEnd) (sym e) h) | inr l ↦ l ], links_only before a after h w i v k.2)

  -- beside an arc with one end there is no other, and no closed walk that is not breakeven: the first could be spared
  pub one_extra : (ns : List ℕ) (before : List (Ends Scalar)) (a : Ends Scalar) (after : List (Ends Scalar)) → IsQuasiTree F ns (before ++ a ∷ after) → HasOneEnd a
      → (((b : Ends Scalar) × IsIn b (before ++ after) × HasOneEnd b)
      ⊎ ((v : ℕ) × (w : List (Step Scalar)) × IsIn v ns × IsWalk (before ++ a ∷ after) v w v × (product F w ≢ one))) → ⊥
  one_extra ns before a after p h x = spare ns before a after p.as_many (record {
    nodes_once = p.nodes_once;
    ends_inside = λ b i. p.ends_inside b (in_with b before a after i);
    root = p.some_node.0;
    inside = p.some_node.1;
    joined = λ v i. let w = p.joined v p.some_node.0 i p.some_node.1 in (w.0, links_only before a after h w.0 v p.some_node.0 w.1);
    extra = elim x [ inl y ↦ inl y | inr y ↦ inr (y.0, y.1, y.2, links_only before a after h y.1 y.0 y.0 y.3, y.4) ];
  })

  -- a link whose ends are joined without it can be left out of every walk
  pub around : (before : List (Ends Scalar)) (i j : ℕ) (g : Scalar) (after : List (Ends Scalar)) → AreJoined (before ++ after) j i → (w : List (Step Scalar)) (u v : ℕ)
      → IsWalk (before ++ Link i j g ∷ after) u w v → AreJoined (before ++ after) u v
  around before i j g after r [] u v k = ([], k)
  around before i j g after r (Along a b h ∷ w) u v k = go (in_others (Link a b h) before (Link i j g) after k.1) (around before i j g after r w b v k.2)
    where
      go : (Link a b h ≡ Link i j g) ⊎ IsIn (Link a b h) (before ++ after) → AreJoined (before ++ after) b v → AreJoined (before ++ after) u v
      go (inl e) s =
          let p : a ≡ i = cc in
          let q : b ≡ j = cc in
          Walks.joined_trans (before ++ after) u b v (subst (λ t. AreJoined (before ++ after) u t) (sym q) (Walks.joined_sym (before ++ after) j u (subst (λ t. AreJoined (before ++ after) j t) (sym (k.0 ∙ p)) r))) s
      go (inr l) s = (Along a b h ∷ s.0, (k.0, l, s.1))
  around before i j g after r (Against a b h ∷ w) u v k = go (in_others (Link a b h) before (Link i j g) after k.1) (around before i j g after r w a v k.2)
    where
      go : (Link a b h ≡ Link i j g) ⊎ IsIn (Link a b h) (before ++ after) → AreJoined (before ++ after) a v → AreJoined (before ++ after) u v
      go (inl e) s =
          let p : a ≡ i = cc in
          let q : b ≡ j = cc in
          Walks.joined_trans (before ++ after) u a v (subst (λ t. AreJoined (before ++ after) t a) (sym (k.0 ∙ q)) (subst (λ t. AreJoined (before ++ after) j t) (sym p) r)) s
      go (inr l) s = (Against a b h ∷ s.0, (k.0, l, s.1))

  -- where the ends of a link are joined without it, the others are a tree: no arc with one end, and no closed walk that is not breakeven
  pub on_cycle : (ns : List ℕ) (before : List (Ends Scalar)) (i j : ℕ) (g : Scalar) (after : List (Ends Scalar)) → IsQuasiTree F ns (before ++ Link i j g ∷ after) → AreJoined (before ++ after) j i
      → (((b : Ends Scalar) × IsIn b (before ++ after) × HasOneEnd b)
      ⊎ ((v : ℕ) × (w : List (Step Scalar)) × IsIn v ns × IsWalk (before ++ after) v w v × (product F w ≢ one))) → ⊥
  on_cycle ns before i j g after p r x = spare ns before (Link i j g) after p.as_many (record {
    nodes_once = p.nodes_once;
    ends_inside = λ b k. p.ends_inside b (in_with b before (Link i j g) after k);
    root = p.some_node.0;
    inside = p.some_node.1;
    joined = λ v k. let w = p.joined v p.some_node.0 k p.some_node.1 in around before i j g after r w.0 v p.some_node.0 w.1;
    extra = x;
  })
