-- What is left of a quasi-tree when an arc leaves: each node is joined to one of two.
use Rattle.std.proofs.Common.{◌≡◌, ◌⊎◌, inl, inr, sym, ◌∙◌, subst, ℕ, List, [], ◌∷◌, ◌++◌, map}
use Rattle.gain_graphs.specs.Field.{Field}
use Rattle.gain_graphs.specs.Arcs.{IsIn, Ends, Link, Drain, Feed, Step, Along, Against, IsWalk, AreJoined}
use Rattle.gain_graphs.specs.QuasiTrees.{LiesIn, IsQuasiTree}
use Rattle.gain_graphs.specs.Laws as Laws
use Rattle.gain_graphs.proofs.Lists.{in_map, in_map_of, in_others, in_with, map_append, split_at, others_once}
use Rattle.gain_graphs.proofs.Walks
use Rattle.gain_graphs.proofs.Spare
use Rattle.gain_graphs.proofs.Theorems

module _ {Scalar : Type 0} where
  -- without the link from `a` to `b` each node that was joined to `z` is joined to `z`, to `a` or to `b`
  cut : (before : List (Ends Scalar)) (a b : ℕ) (h : Scalar) (after : List (Ends Scalar)) (w : List (Step Scalar)) (u z : ℕ)
      → IsWalk (before ++ Link a b h ∷ after) u w z
      → AreJoined (before ++ after) u z ⊎ (AreJoined (before ++ after) u a ⊎ AreJoined (before ++ after) u b)
  cut before a b h after [] u z k = inl ([], k)
  cut before a b h after (Along i j g ∷ w) u z k = go (in_others (Link i j g) before (Link a b h) after k.1) (cut before a b h after w j z k.2)
    where
      go : (Link i j g ≡ Link a b h) ⊎ IsIn (Link i j g) (before ++ after)
          → AreJoined (before ++ after) j z ⊎ (AreJoined (before ++ after) j a ⊎ AreJoined (before ++ after) j b)
          → AreJoined (before ++ after) u z ⊎ (AreJoined (before ++ after) u a ⊎ AreJoined (before ++ after) u b)
      go (inl e) _ = let p : i ≡ a = cc in inr (inl ([], k.0 ∙ p))
      go (inr l) r = elim r [
        | inl x ↦ inl (Along i j g ∷ x.0, (k.0, l, x.1))
        | inr y ↦ inr (elim y [ inl x ↦ inl (Along i j g ∷ x.0, (k.0, l, x.1)) | inr x ↦ inr (Along i j g ∷ x.0, (k.0, l, x.1)) ])
      ]
  cut before a b h after (Against i j g ∷ w) u z k = go (in_others (Link i j g) before (Link a b h) after k.1) (cut before a b h after w i z k.2)
    where
      go : (Link i j g ≡ Link a b h) ⊎ IsIn (Link i j g) (before ++ after)
          → AreJoined (before ++ after) i z ⊎ (AreJoined (before ++ after) i a ⊎ AreJoined (before ++ after) i b)
          → AreJoined (before ++ after) u z ⊎ (AreJoined (before ++ after) u a ⊎ AreJoined (before ++ after) u b)
      go (inl e) _ = let p : j ≡ b = cc in inr (inr ([], k.0 ∙ p))
      go (inr l) r = elim r [
        | inl x ↦ inl (Against i j g ∷ x.0, (k.0, l, x.1))
        | inr y ↦ inr (elim y [ inl x ↦ inl (Against i j g ∷ x.0, (k.0, l, x.1)) | inr x ↦ inr (Against i j g ∷ x.0, (k.0, l, x.1)) ])
      ]

module _ {Scalar : Type 0} (F : Field Scalar) where
  -- nodes that are joined stay joined to one of two of them when an arc goes out
  pub one_of_two : (ns : List ℕ) (before : List (Ends Scalar)) (a : Ends Scalar) (after : List (Ends Scalar)) → LiesIn F ns a
      → ((u v : ℕ) → IsIn u ns → IsIn v ns → AreJoined (before ++ a ∷ after) u v)
      → (x : ℕ) × (y : ℕ) × IsIn x ns × IsIn y ns × ((u : ℕ) → IsIn u ns → AreJoined (before ++ after) u x ⊎ AreJoined (before ++ after) u y)
  one_of_two ns before (Link i j g) after l joined =
      (i, j, l.0, l.1, λ u k. let w = joined u i k l.0 in elim (cut before i j g after w.0 u i w.1) [ inl r ↦ inl r | inr r ↦ r ])
  one_of_two ns before (Drain i) after l joined = (i, i, l, l, λ u k. let w = joined u i k l in inl (w.0, Spare.links_only F before (Drain i) after (record {}) w.0 u i w.1))
  one_of_two ns before (Feed i) after l joined = (i, i, l, l, λ u k. let w = joined u i k l in inl (w.0, Spare.links_only F before (Feed i) after (record {}) w.0 u i w.1))

  pub one_of_two_roots : Laws.OneOfTwoRoots F
  one_of_two_roots ends ns arcs p leave i others sub = (r.0, r.1, r.2, r.3, λ u j. elim (r.4 u j) [ inl w ↦ inl (over u r.0 w) | inr w ↦ inr (over u r.1 w) ])
    where
      s : (before : List ℕ) × (after : List ℕ) × (before ++ leave ∷ after ≡ arcs)
      s = split_at leave arcs i

      q : IsQuasiTree F ns (map ends s.0 ++ ends leave ∷ map ends s.1)
      q = Theorems.marked F ends ns arcs p s.0 leave s.1 s.2

      r : (x : ℕ) × (y : ℕ) × IsIn x ns × IsIn y ns × ((u : ℕ) → IsIn u ns → AreJoined (map ends s.0 ++ map ends s.1) u x ⊎ AreJoined (map ends s.0 ++ map ends s.1) u y)
      r = one_of_two ns (map ends s.0) (ends leave) (map ends s.1) (Theorems.lies F ends ns arcs p leave i) q.joined

      -- the arc that leaves does not stand among the others
      gone : ¬ IsIn leave (s.0 ++ s.1)
      gone = (others_once s.0 leave s.1 (Theorems.once_from F ends ns arcs p [] (s.0 ++ leave ∷ s.1) s.2)).1

      into : (e : Ends Scalar) → IsIn e (map ends s.0 ++ map ends s.1) → IsIn e (map ends others)
      into e k =
          let m = in_map_of ends e (s.0 ++ s.1) (subst (λ t. IsIn e t) (sym (map_append ends s.0 s.1)) k) in
          subst (λ t. IsIn t (map ends others)) (sym m.2) (in_map ends m.0 others (sub m.0 (subst (λ t. IsIn m.0 t) s.2 (in_with m.0 s.0 leave s.1 m.1)) (λ f. gone (subst (λ t. IsIn t (s.0 ++ s.1)) f m.1))))

      over : (u x : ℕ) → AreJoined (map ends s.0 ++ map ends s.1) u x → AreJoined (map ends others) u x
      over u x w = (w.0, (Walks.within (λ z. Unit {0}) (map ends s.0 ++ map ends s.1) (map ends others) (λ a b g l t. (into (Link a b g) l, tt, tt)) w.0 u x tt w.1).0)
