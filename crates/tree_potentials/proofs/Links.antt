-- What the operations over one link give: the potential at its other end.
use Rattle.std.specs.Prelude.{◌≡◌, ◌≢◌, ℕ, nat_eq, if◌then◌else◌, Bool, true, false, List, Ok}
use Rattle.std.proofs.Common.{refl, sym, ap, ap₂, ◌∙◌, inl, inr, eqb-true, eq-eqb}
use Rattle.gain_graphs.specs.Arcs as graph
use Rattle.gain_graphs.specs.Cycles.{Joins, IsNoLoop}
use Rattle.gain_graphs.specs.QuasiTrees.{LiesIn}
use Rattle.gain_graphs.proofs.Algebra as algebra
use Rattle.np_frac.specs.Ratio.{Ratio, zero_ratio, negated, inverse, ◌+ᵣ◌, ◌*ᵣ◌}
use Rattle.np_frac.specs.Exact.{plus_of, minus_of, times_of, over_of, ◌▷◌}
use Rattle.np_frac.specs.Fits.{Fits}
use Rattle.np_frac.proofs.Exactness.{plus_exact, minus_exact, times_exact, over_exact, found_by}
use Rattle.np_frac.proofs.Fitting.{plus_fits, over_fits}
use Rattle.np_frac.proofs.RatioLaws.{+ᵣ_assoc, +ᵣ_comm, +ᵣ-zero, *ᵣ_assoc, *ᵣ_comm}
use Rattle.np_frac.proofs.Field.{+ᵣ-negated, *ᵣ-one, *ᵣ-inverse}
use Rattle.np_model.specs.declared.arc.Ends.{Ends}
use Rattle.np_model.specs.declared.arc.Ends.TheVariants.{Link, Drain, Feed}
use Rattle.np_model.specs.Network.Arcs.{reduced_cost, tail_of, head_of}
use Rattle.np_model.specs.Basis.Artificial.{IsOneEndAt}
use Rattle.np_model.specs.Basis.Graphs.{ratios, graph_ends}
use Rattle.np_model.specs.Rows.Potentials.{across, scaled_across, end_potential}
use Rattle.np_basis.proofs.Trees.{reduced_is}

-- where the arc has the reduced cost 0, its pull is its cost
pub pull_is : (e : Ends) (c : Ratio) (p : ℕ → Ratio) → reduced_cost e c (p (tail_of e)) (p (head_of e)) ≡ zero_ratio → graph.pull ratios (graph_ends e) p ≡ c
pull_is e c p h = sym (algebra.same_of ratios c (graph.pull ratios (graph_ends e) p) (sym (reduced_is e c p) ∙ h))

pub over_times : (b g : Ratio) → g ≢ zero_ratio → (b *ᵣ g) *ᵣ inverse g ≡ b
over_times b g h = *ᵣ_assoc b g (inverse g) ∙ ap (λ t. b *ᵣ t) (*ᵣ-inverse g h) ∙ *ᵣ-one b

-- ---- from one end to the other

from_head : (pi pj g c : Ratio) → pi +ᵣ negated (g *ᵣ pj) ≡ c → pi ≡ c +ᵣ g *ᵣ pj
from_head pi pj g c e =
    sym (+ᵣ-zero pi) ∙ ap (λ t. pi +ᵣ t) (sym (algebra.negated_plus ratios (g *ᵣ pj))) ∙ sym (+ᵣ_assoc pi (negated (g *ᵣ pj)) (g *ᵣ pj)) ∙ ap (λ t. t +ᵣ g *ᵣ pj) e

from_tail : (pi pj g c : Ratio) → g ≢ zero_ratio → pi +ᵣ negated (g *ᵣ pj) ≡ c → pj ≡ (pi +ᵣ negated c) *ᵣ inverse g
from_tail pi pj g c h e =
    let f : pi +ᵣ negated c ≡ pj *ᵣ g =
    ap (λ t. t +ᵣ negated c) (from_head pi pj g c e ∙ +ᵣ_comm c (g *ᵣ pj)) ∙ +ᵣ_assoc (g *ᵣ pj) c (negated c) ∙ ap (λ t. g *ᵣ pj +ᵣ t) (+ᵣ-negated c)
    ∙ +ᵣ-zero (g *ᵣ pj) ∙ *ᵣ_comm g pj in
    sym (ap (λ t. t *ᵣ inverse g) f ∙ over_times pj g h)

-- ---- the operations

across_tail : (i j : ℕ) (g c : Ratio) (u : ℕ) (q : Ratio) → u ≡ i → across (Link i j g) c u q ≡ (minus_of q c ▷ λ difference. over_of difference g)
across_tail i j g c u q e = rw (eq-eqb u i e)

across_head : (i j : ℕ) (g c : Ratio) (u : ℕ) (q : Ratio) → i ≢ j → u ≡ j → across (Link i j g) c u q ≡ (times_of g q ▷ plus_of c)
across_head i j g c u q n e = go (nat_eq u i) refl
  where
    go : (b : Bool) → nat_eq u i ≡ b → across (Link i j g) c u q ≡ (times_of g q ▷ plus_of c)
    go true m = absurd (n (sym (eqb-true u i m) ∙ e))
    go false m = rw m

scaled_tail : (i j : ℕ) (g : Ratio) (u : ℕ) (b : Ratio) → u ≡ i → scaled_across (Link i j g) u b ≡ over_of b g
scaled_tail i j g u b e = rw (eq-eqb u i e)

scaled_head : (i j : ℕ) (g : Ratio) (u : ℕ) (b : Ratio) → i ≢ j → u ≡ j → scaled_across (Link i j g) u b ≡ times_of g b
scaled_head i j g u b n e = go (nat_eq u i) refl
  where
    go : (t : Bool) → nat_eq u i ≡ t → scaled_across (Link i j g) u b ≡ times_of g b
    go true m = absurd (n (sym (eqb-true u i m) ∙ e))
    go false m = rw m

tail_exact : (q c g r : Ratio) → (minus_of q c ▷ λ difference. over_of difference g) ≡ Ok r → r ≡ (q +ᵣ negated c) *ᵣ inverse g
tail_exact q c g r e =
    let m = found_by (minus_of q c) (λ difference. over_of difference g) r e in
    over_exact m.0 g r m.2 ∙ ap (λ t. t *ᵣ inverse g) (minus_exact q c m.0 m.1)

head_exact : (q c g r : Ratio) → (times_of g q ▷ plus_of c) ≡ Ok r → r ≡ c +ᵣ g *ᵣ q
head_exact q c g r e =
    let m = found_by (times_of g q) (plus_of c) r e in
    plus_exact c m.0 r m.2 ∙ ap (λ t. c +ᵣ t) (times_exact g q m.0 m.1)

-- a link from u to v of reduced cost 0, that is no loop and has a gain
pub record Crosses (nodes : List ℕ) (e : Ends) (c : Ratio) (p : ℕ → Ratio) (u v : ℕ) : Type 0 where
  pub lies : LiesIn ratios nodes (graph_ends e)
  pub no_loop : IsNoLoop (graph_ends e)
  pub joins : Joins (graph_ends e) u v
  pub pull : graph.pull ratios (graph_ends e) p ≡ c

-- over it the operations give the potential at its other end
pub across_gives : (nodes : List ℕ) (e : Ends) (c : Ratio) (p : ℕ → Ratio) (u v : ℕ) (r : Ratio) → Crosses nodes e c p u v → across e c u (p u) ≡ Ok r → r ≡ p v
across_gives nodes (Link i j g) c p u v r h e = elim h.joins [
  | inl k ↦ tail_exact (p u) c g r (sym (across_tail i j g c u (p u) k.0) ∙ e)
      ∙ ap (λ t. (t +ᵣ negated c) *ᵣ inverse g) (ap p k.0) ∙ sym (from_tail (p i) (p j) g c h.lies.2 h.pull) ∙ ap p (sym k.1)
  | inr k ↦ head_exact (p u) c g r (sym (across_head i j g c u (p u) h.no_loop k.0) ∙ e)
      ∙ ap (λ t. c +ᵣ g *ᵣ t) (ap p k.0) ∙ sym (from_head (p i) (p j) g c h.pull) ∙ ap p (sym k.1)
]
across_gives nodes (Drain i) c p u v r h e = absurd h.joins
across_gives nodes (Feed i) c p u v r h e = absurd h.joins

-- and that fits
pub across_fits : (e : Ends) (c : Ratio) (u v : ℕ) (q r : Ratio) → Joins (graph_ends e) u v → across e c u q ≡ Ok r → Fits r
across_fits (Link i j g) c u v q r joins e = go (nat_eq u i) e
  where
    go : (t : Bool) → (if t then (minus_of q c ▷ λ difference. over_of difference g) else (times_of g q ▷ plus_of c)) ≡ Ok r → Fits r
    go true e = let m = found_by (minus_of q c) (λ difference. over_of difference g) r e in over_fits m.0 g r m.2
    go false e = let m = found_by (times_of g q) (plus_of c) r e in plus_fits c m.0 r m.2
across_fits (Drain i) c u v q r joins e = absurd joins
across_fits (Feed i) c u v q r joins e = absurd joins

-- an arc with one end of reduced cost 0 gives the potential of its node
pub end_is : (e : Ends) (c : Ratio) (p : ℕ → Ratio) (v : ℕ) → IsOneEndAt v e → graph.pull ratios (graph_ends e) p ≡ c → end_potential e c ≡ p v
end_is (Link i j g) c p v a w = absurd a
end_is (Drain i) c p v a w = sym w ∙ ap p a
end_is (Feed i) c p v a w = ap negated (sym w) ∙ algebra.negated_twice ratios (p i) ∙ ap p a

-- ---- a potential as one part and another times some q

-- (a + b q - c) / g
spread_tail : (a b c g q : Ratio) → ((a +ᵣ b *ᵣ q) +ᵣ negated c) *ᵣ inverse g ≡ (a +ᵣ negated c) *ᵣ inverse g +ᵣ (b *ᵣ inverse g) *ᵣ q
spread_tail a b c g q =
    ap (λ t. t *ᵣ inverse g) (+ᵣ_assoc a (b *ᵣ q) (negated c) ∙ ap (λ t. a +ᵣ t) (+ᵣ_comm (b *ᵣ q) (negated c)) ∙ sym (+ᵣ_assoc a (negated c) (b *ᵣ q)))
    ∙ algebra.plus_times ratios (a +ᵣ negated c) (b *ᵣ q) (inverse g)
    ∙ ap (λ t. (a +ᵣ negated c) *ᵣ inverse g +ᵣ t) (*ᵣ_assoc b q (inverse g) ∙ ap (λ t. b *ᵣ t) (*ᵣ_comm q (inverse g)) ∙ sym (*ᵣ_assoc b (inverse g) q))

-- c + g (a + b q)
spread_head : (a b c g q : Ratio) → c +ᵣ g *ᵣ (a +ᵣ b *ᵣ q) ≡ (c +ᵣ g *ᵣ a) +ᵣ (g *ᵣ b) *ᵣ q
spread_head a b c g q =
    ap (λ t. c +ᵣ t) (ratios.times_plus g a (b *ᵣ q) ∙ ap (λ t. g *ᵣ a +ᵣ t) (sym (*ᵣ_assoc g b q))) ∙ sym (+ᵣ_assoc c (g *ᵣ a) ((g *ᵣ b) *ᵣ q))

-- over a link both parts become those of the potential at its other end
pub parts_across : (nodes : List ℕ) (e : Ends) (c : Ratio) (p : ℕ → Ratio) (u v : ℕ) (q a b r s : Ratio) → Crosses nodes e c p u v → p u ≡ a +ᵣ b *ᵣ q
    → across e c u a ≡ Ok r → scaled_across e u b ≡ Ok s → p v ≡ r +ᵣ s *ᵣ q
parts_across nodes (Link i j g) c p u v q a b r s h is e f = elim h.joins [
  | inl k ↦ ap p k.1 ∙ from_tail (p i) (p j) g c h.lies.2 h.pull ∙ ap (λ t. (t +ᵣ negated c) *ᵣ inverse g) (ap p (sym k.0) ∙ is) ∙ spread_tail a b c g q
      ∙ sym (ap₂ (λ y z. y +ᵣ z *ᵣ q) (tail_exact a c g r (sym (across_tail i j g c u a k.0) ∙ e)) (over_exact b g s (sym (scaled_tail i j g u b k.0) ∙ f)))
  | inr k ↦ ap p k.1 ∙ from_head (p i) (p j) g c h.pull ∙ ap (λ t. c +ᵣ g *ᵣ t) (ap p (sym k.0) ∙ is) ∙ spread_head a b c g q
      ∙ sym (ap₂ (λ y z. y +ᵣ z *ᵣ q) (head_exact a c g r (sym (across_head i j g c u a h.no_loop k.0) ∙ e)) (times_exact g b s (sym (scaled_head i j g u b h.no_loop k.0) ∙ f)))
]
parts_across nodes (Drain i) c p u v q a b r s h is e f = absurd h.joins
parts_across nodes (Feed i) c p u v q a b r s h is e f = absurd h.joins
