-- The arcs of a piece, and sums over them.
use Rattle.std.proofs.Common.{◌≡◌, ◌⊎◌, ◌↔◌, inl, inr, sym, ap, refl, ◌∙◌, subst, ap₂, ℕ, List, [], ◌∷◌, map}
use Rattle.gain_graphs.specs.Field.{Field, total}
use Rattle.gain_graphs.specs.Arcs.{IsIn, AreDistinct, Ends, Link, Drain, Feed, Along, Against, Touches, coefficient}
use Rattle.gain_graphs.specs.QuasiTrees.{LiesIn}
use Rattle.gain_graphs.specs.Forests.{IsPiece, IsValid}
use Rattle.gain_graphs.proofs.Lists.{in_map, in_map_of}
use Rattle.gain_graphs.proofs.Sums
use Rattle.gain_graphs.proofs.Walks

module _ {Scalar : Type 0} (F : Field Scalar) (n : ℕ) (ends : ℕ → Ends Scalar) where
  infixl 60 ◌⊕◌
  open F use {zero, one, ◌⊕◌, negated, plus_zero}

  -- both ends of a basic arc that touches a piece lie in it
  pub both_ends : (basic : List ℕ) (s : ℕ) (ns own : List ℕ) → IsPiece n ends basic s ns own → ((a : ℕ) → IsIn a basic → IsValid F n (ends a))
      → (e : Ends Scalar) → IsIn e (map ends basic) → IsValid F n e → Touches ns e → LiesIn F ns e
  both_ends basic s ns own p valid (Link i j g) k v t = elim t [
    | inl x ↦ (x, (p.joined j).1 (v.1, Walks.joined_trans (map ends basic) s i j ((p.joined i).0 x).1 (Along i j g ∷ [], (refl, k, refl))), v.2)
    | inr x ↦ ((p.joined i).1 (v.0, Walks.joined_trans (map ends basic) s j i ((p.joined j).0 x).1 (Against i j g ∷ [], (refl, k, refl))), x, v.2)
  ]
  both_ends basic s ns own p valid (Drain i) k v t = t
  both_ends basic s ns own p valid (Feed i) k v t = t

  pub arcs_lie : (basic : List ℕ) (s : ℕ) (ns own : List ℕ) → IsPiece n ends basic s ns own → ((a : ℕ) → IsIn a basic → IsValid F n (ends a))
      → (a : ℕ) → IsIn a own → LiesIn F ns (ends a)
  arcs_lie basic s ns own p valid a i =
      let r = (p.touched a).0 i in
      both_ends basic s ns own p valid (ends a) (in_map ends a basic r.0) (valid a r.0) r.1

  -- the links of `basic` that touch the piece are among those of `other`, and lie in it
  pub crossing : (basic : List ℕ) (s : ℕ) (ns own : List ℕ) → IsPiece n ends basic s ns own → ((a : ℕ) → IsIn a basic → IsValid F n (ends a))
      → (from other : List ℕ) → ((a : ℕ) → Touches ns (ends a) → IsIn a from → IsIn a basic) → ((a : ℕ) → Touches ns (ends a) → IsIn a from → IsIn a other)
      → (i j : ℕ) (g : Scalar) → IsIn (Link i j g) (map ends from) → IsIn i ns ⊎ IsIn j ns → IsIn (Link i j g) (map ends other) × IsIn i ns × IsIn j ns
  crossing basic s ns own p valid from other f h i j g k t =
      let r = in_map_of ends (Link i j g) from k in
      let touch : Touches ns (ends r.0) = subst (λ e. Touches ns e) r.2 t in
      let basic' : IsIn r.0 basic = f r.0 touch r.1 in
      let lies : LiesIn F ns (Link i j g) = both_ends basic s ns own p valid (Link i j g) (subst (λ e. IsIn e (map ends basic)) (sym r.2) (in_map ends r.0 basic basic')) (subst (λ e. IsValid F n e) (sym r.2) (valid r.0 basic')) t in
      (subst (λ e. IsIn e (map ends other)) (sym r.2) (in_map ends r.0 other (h r.0 touch r.1)), lies.0, lies.1)

  -- where the basic arcs that touch a piece stay the same, it stays a piece
  pub kept : (basic other : List ℕ) (s : ℕ) (ns own : List ℕ) → IsPiece n ends basic s ns own → ((a : ℕ) → IsIn a basic → IsValid F n (ends a))
      → ((a : ℕ) → Touches ns (ends a) → IsIn a basic ↔ IsIn a other) → IsPiece n ends other s ns own
  kept basic other s ns own p valid same = record {
    nodes_once = p.nodes_once;
    arcs_once = p.arcs_once;
    has_least = p.has_least;
    is_least = p.is_least;
    joined = λ v. (
      (λ i. let r = (p.joined v).0 i in
          let w = Walks.within (λ x. IsIn x ns) (map ends basic) (map ends other)
          (crossing basic s ns own p valid basic other (λ a t k. k) (λ a t k. (same a t).0 k)) r.1.0 s v p.has_least r.1.1 in
          (r.0, (r.1.0, w.0))),
      (λ r. let w = Walks.within (λ x. IsIn x ns) (map ends other) (map ends basic)
          (crossing basic s ns own p valid other basic (λ a t k. (same a t).1 k) (λ a t k. (same a t).1 k)) r.1.0 s v p.has_least r.1.1 in
          w.1),
    );
    touched = λ a. (
      (λ i. let r = (p.touched a).0 i in ((same a r.1).0 r.0, r.1)),
      (λ r. (p.touched a).1 ((same a r.1).1 r.0, r.1)),
    );
  }

  -- a sum over a list in which only the entries of a shorter one count
  pub total_only : (f : ℕ → Scalar) (few all : List ℕ) → AreDistinct few → AreDistinct all → ((a : ℕ) → IsIn a few → IsIn a all)
      → ((a : ℕ) → IsIn a all → (¬ IsIn a few) → f a ≡ zero) → total F f all ≡ total F f few
  total_only f [] all d e sub z = Sums.total_zero F f all (λ a i. z a i (λ k. k))
  total_only f (b ∷ few) all d e sub z =
      let o : Sums.Out F b all = Sums.take_out F b all e (sub b (inl refl)) in
      o.sums f ∙ ap (λ t. f b ⊕ t) (total_only f few o.rest d.1 o.apart
      (λ a i. elim (o.only a (sub a (inr i))) [ inl p ↦ absurd (d.0 (subst (λ t. IsIn t few) p i)) | inr k ↦ k ])
      (λ a i h. z a (o.within a i).0 (elim [ inl p ↦ (o.within a i).1 p | inr k ↦ h k ])))

  pub untouched_coefficient : (ns : List ℕ) (e : Ends Scalar) (v : ℕ) → IsIn v ns → (¬ Touches ns e) → coefficient F e v ≡ zero
  untouched_coefficient ns (Link i j g) v k h =
      ap₂ (λ x y. x ⊕ y) (Sums.put_other F i one (λ _. zero) v (λ p. h (inl (subst (λ t. IsIn t ns) p k)))) (Sums.put_other F j (negated g) (λ _. zero) v (λ p. h (inr (subst (λ t. IsIn t ns) p k)))) ∙ plus_zero zero
  untouched_coefficient ns (Drain i) v k h = Sums.put_other F i one (λ _. zero) v (λ p. h (subst (λ t. IsIn t ns) p k))
  untouched_coefficient ns (Feed i) v k h = Sums.put_other F i (negated one) (λ _. zero) v (λ p. h (subst (λ t. IsIn t ns) p k))

  pub lies_map : (ns own : List ℕ) → ((a : ℕ) → IsIn a own → LiesIn F ns (ends a)) → (e : Ends Scalar) → IsIn e (map ends own) → LiesIn F ns e
  lies_map ns own h e i = let r = in_map_of ends e own i in subst (λ t. LiesIn F ns t) (sym r.2) (h r.0 r.1)

  pub both : (ns ms : List ℕ) (e : Ends Scalar) → LiesIn F ns e → Touches ms e → (v : ℕ) × IsIn v ns × IsIn v ms
  both ns ms (Link i j g) l t = elim t [ inl x ↦ (i, l.0, x) | inr x ↦ (j, l.1, x) ]
  both ns ms (Drain i) l t = (i, l, t)
  both ns ms (Feed i) l t = (i, l, t)

  pub wider : (ns ms : List ℕ) → ((v : ℕ) → IsIn v ns → IsIn v ms) → (e : Ends Scalar) → LiesIn F ns e → LiesIn F ms e
  wider ns ms h (Link i j g) l = (h i l.0, h j l.1, l.2)
  wider ns ms h (Drain i) l = h i l
  wider ns ms h (Feed i) l = h i l
