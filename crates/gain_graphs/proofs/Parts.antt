-- A part of nodes and arcs, cut off along no arc: what holds of the pulls on the whole holds on the part.
use Rattle.std.proofs.Common.{◌≡◌, ◌⊎◌, ◌↔◌, inl, inr, sym, ap, refl, ◌∙◌, subst, ap₂, ℕ, suc, ◌+◌, List, [], ◌∷◌, length, arith}
use Rattle.gain_graphs.specs.Field.{Field}
use Rattle.gain_graphs.specs.Arcs.{IsIn, AreDistinct, Ends, Link, Drain, Feed, Touches, pull}
use Rattle.gain_graphs.specs.QuasiTrees.{LiesIn}
use Rattle.gain_graphs.proofs.Lists.{decide_in}
use Rattle.gain_graphs.proofs.Algebra
use Rattle.gain_graphs.proofs.Sums
use Rattle.gain_graphs.proofs.Rigid

module _ {Scalar : Type 0} (F : Field Scalar) where
  infixl 60 ◌⊕◌
  infixl 70 ◌⊗◌
  open F use {zero, ◌⊕◌, ◌⊗◌, negated, plus_negated}

  pull_same : (ns : List ℕ) (a : Ends Scalar) (p q : ℕ → Scalar) → LiesIn F ns a → ((v : ℕ) → IsIn v ns → p v ≡ q v) → pull F a p ≡ pull F a q
  pull_same ns (Link i j g) p q l e = ap₂ (λ x y. x ⊕ negated (g ⊗ y)) (e i l.0) (e j l.1)
  pull_same ns (Drain i) p q l e = e i l
  pull_same ns (Feed i) p q l e = ap negated (e i l)

  -- `ms` with the arcs `bs` is a part of `ns` with the arcs `arcs`, cut off along no arc
  pub record Part (ns : List ℕ) (arcs : List (Ends Scalar)) (ms : List ℕ) (bs : List (Ends Scalar)) : Type 0 where
    pub nodes : (v : ℕ) → IsIn v ms → IsIn v ns
    pub ends : (a : Ends Scalar) → IsIn a bs → LiesIn F ms a
    pub closed : (a : Ends Scalar) → IsIn a arcs → IsIn a bs ⊎ (¬ Touches ms a)

  restrict : List ℕ → (ℕ → Scalar) → ℕ → Scalar
  restrict ms q v = elim (decide_in v ms) [ yes i ↦ q v | no h ↦ zero ]

  restrict_in : (ms : List ℕ) (q : ℕ → Scalar) (v : ℕ) → IsIn v ms → restrict ms q v ≡ q v
  unfolding restrict
  restrict_in ms q v i = go (decide_in v ms)
    where
      go : (d : Dec (IsIn v ms)) → (elim d as (λ _. Scalar) [ yes i ↦ q v | no h ↦ zero ]) ≡ q v
      go (yes j) = refl
      go (no h) = absurd (h i)

  restrict_out : (ms : List ℕ) (q : ℕ → Scalar) (v : ℕ) → (¬ IsIn v ms) → restrict ms q v ≡ zero
  unfolding restrict
  restrict_out ms q v k = go (decide_in v ms)
    where
      go : (d : Dec (IsIn v ms)) → (elim d as (λ _. Scalar) [ yes i ↦ q v | no h ↦ zero ]) ≡ zero
      go (yes j) = absurd (k j)
      go (no h) = refl

  untouched : (ms : List ℕ) (q : ℕ → Scalar) (a : Ends Scalar) → (¬ Touches ms a) → pull F a (restrict ms q) ≡ zero
  untouched ms q (Link i j g) h =
      ap₂ (λ x y. x ⊕ negated (g ⊗ y)) (restrict_out ms q i (λ k. h (inl k))) (restrict_out ms q j (λ k. h (inr k)))
      ∙ ap (λ x. zero ⊕ negated x) (Algebra.times_zero F g) ∙ plus_negated zero
  untouched ms q (Drain i) h = restrict_out ms q i h
  untouched ms q (Feed i) h = ap negated (restrict_out ms q i h) ∙ Algebra.negated_zero F

  pub part_rigid : (ns : List ℕ) (arcs : List (Ends Scalar)) (ms : List ℕ) (bs : List (Ends Scalar)) → Part ns arcs ms bs → Rigid.IsRigid F ns arcs → Rigid.IsRigid F ms bs
  part_rigid ns arcs ms bs p r q flat v i =
      sym (restrict_in ms q v i) ∙ r (restrict ms q) (λ a j. elim (p.closed a j) [
        | inl k ↦ pull_same ms a (restrict ms q) q (p.ends a k) (restrict_in ms q) ∙ flat a k
        | inr h ↦ untouched ms q a h
      ]) v (p.nodes v i)

  -- what of `ns` is not in `ms`
  pub record Left (ms ns : List ℕ) : Type 0 where
    pub rest : List ℕ
    pub apart : AreDistinct rest
    pub holds : (v : ℕ) → IsIn v rest ↔ (IsIn v ns × (¬ IsIn v ms))
    pub adds : length ns ≡ length ms + length rest

  pub left_over : (ms ns : List ℕ) → AreDistinct ms → AreDistinct ns → ((v : ℕ) → IsIn v ms → IsIn v ns) → Left ms ns
  left_over [] ns d e sub = record { rest = ns; apart = e; holds = λ v. ((λ i. (i, λ k. k)), (λ r. r.0)); adds = omega arith }
  left_over (m ∷ ms) ns d e sub =
      let o : Sums.Out F m ns = Sums.take_out F m ns e (sub m (inl refl)) in
      let l : Left ms o.rest = left_over ms o.rest d.1 o.apart (λ v i. elim (o.only v (sub v (inr i))) [ inl p ↦ absurd (d.0 (subst (λ t. IsIn t ms) p i)) | inr k ↦ k ]) in
      let a : length ns ≡ suc (length o.rest) = o.shorter in
      let b : length o.rest ≡ length ms + length l.rest = l.adds in
      record {
        rest = l.rest;
        apart = l.apart;
        holds = λ v. (
          (λ i. let r = (l.holds v).0 i in ((o.within v r.0).0, elim [ inl p ↦ (o.within v r.0).1 p | inr k ↦ r.1 k ])),
          (λ r. elim (o.only v r.0) [ inl p ↦ absurd (r.1 (inl p)) | inr k ↦ (l.holds v).1 (k, λ j. r.1 (inr j)) ]),
        );
        adds = omega arith;
      }
