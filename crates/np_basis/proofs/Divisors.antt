-- The divisors on the cycle of a piece are not 0, since the cycle is not breakeven.
use Rattle.std.specs.Prelude.{◌≡◌, ◌≢◌, ℕ, cond, nat_eq, if◌then◌else◌, Bool, true, false, List, [], ◌∷◌, Result, Ok}
use Rattle.std.proofs.Common.{refl, sym, ap, ap₂, ◌∙◌, inl, inr, eqb-true, eq-eqb}
use Rattle.gain_graphs.specs.Arcs as graph
use Rattle.gain_graphs.specs.Arcs.{IsIn}
use Rattle.gain_graphs.specs.Cycles.{last_arc, Joins, IsNoLoop, IsWay, gain_from, gain_along}
use Rattle.gain_graphs.specs.QuasiTrees.{LiesIn}
use Rattle.gain_graphs.proofs.Algebra as algebra
use Rattle.gain_graphs.proofs.Theorems as theorems
use Rattle.np_frac.specs.Ratio.{Ratio, zero_ratio, one_ratio, negated, inverse, ◌+ᵣ◌, ◌*ᵣ◌}
use Rattle.np_frac.specs.Exact.{plus_of, minus_of, times_of, over_of, ◌▷◌}
use Rattle.np_frac.specs.declared.frac.Past.{Past}
use Rattle.np_frac.proofs.Exactness.{plus_exact, minus_exact, times_exact, over_exact, found_by}
use Rattle.np_frac.proofs.RatioLaws.{*ᵣ_assoc, *ᵣ_comm, one-*ᵣ}
use Rattle.np_frac.proofs.Field.{*ᵣ-one, *ᵣ-inverse, one-zero}
use Rattle.np_model.specs.declared.arc.Ends.{Ends}
use Rattle.np_model.specs.declared.arc.Ends.TheVariants.{Link, Drain, Feed}
use Rattle.np_model.specs.Basis.Graphs.{ratios, graph_ends, graph_of, ends_at}
use Rattle.np_model.specs.Basis.Pieces.{nodes_in, basics_in}
use Rattle.np_model.specs.Rows.Potentials as potentials
use Rattle.np_model.specs.Rows.Potentials.{scaled_across}
use Rattle.np_model.specs.Rows.Directions as directions
use Rattle.np_model.specs.Rows.Directions.{term, turned, with_first}
use Rattle.np_basis.specs.Laws.{PotentialsDivisor, DirectionsDivisor}
use Rattle.np_basis.proofs.Trees.{tree, lies}
use Rattle.np_basis.proofs.Extras.{no_loops}

ok_same : (x y : Ratio) → (let l : Result Ratio Past = Ok x in l ≡ Ok y) → x ≡ y
ok_same x y e = cc

-- ---- potentials

over_times : (b g : Ratio) → g ≢ zero_ratio → (b *ᵣ inverse g) *ᵣ g ≡ b
over_times b g h = *ᵣ_assoc b (inverse g) g ∙ ap (λ t. b *ᵣ t) (algebra.inverse_times ratios g h) ∙ *ᵣ-one b

times_over : (b g : Ratio) → g ≢ zero_ratio → (g *ᵣ b) *ᵣ inverse g ≡ b
times_over b g h = ap (λ t. t *ᵣ inverse g) (*ᵣ_comm g b) ∙ *ᵣ_assoc b g (inverse g) ∙ ap (λ t. b *ᵣ t) (*ᵣ-inverse g h) ∙ *ᵣ-one b

-- what a product becomes over a link is made good by the gain of the link
scaled_back : (nodes : List ℕ) (e : Ends) (u : ℕ) (b r : Ratio) → LiesIn ratios nodes (graph_ends e) → scaled_across e u b ≡ Ok r
    → r *ᵣ gain_from ratios (graph_ends e) u ≡ b
scaled_back nodes (Link i j g) u b r inside e = go (nat_eq u i) e
  where
    go : (t : Bool) → (if t then over_of b g else times_of g b) ≡ Ok r → r *ᵣ cond t g (inverse g) ≡ b
    go true e = ap (λ t. t *ᵣ g) (over_exact b g r e) ∙ over_times b g inside.2
    go false e = ap (λ t. t *ᵣ inverse g) (times_exact g b r e) ∙ times_over b g inside.2
scaled_back nodes (Drain i) u b r inside e = *ᵣ-one r ∙ sym (ok_same b r e)
scaled_back nodes (Feed i) u b r inside e = *ᵣ-one r ∙ sym (ok_same b r e)

module _ (ends : ℕ → Ends) (nodes arcs : List ℕ) (lie : (a : ℕ) → IsIn a arcs → LiesIn ratios nodes (graph_of ends a)) where
  -- the product behind the links of a way, times their gains, is what it was before them
  product_back : (cost : ℕ → Ratio) (way : List (ℕ × ℕ)) (u v : ℕ) (b r : Ratio) → IsWay (graph_of ends) arcs u way v → potentials.product_along ends cost u way b ≡ Ok r
      → r *ᵣ gain_along ratios (graph_of ends) u way ≡ b
  product_back cost [] u v b r w e = *ᵣ-one r ∙ sym (ok_same b r e)
  product_back cost (x ∷ way) u v b r w e =
      let m = found_by (scaled_across (ends x.0) u b) (potentials.product_along ends cost x.1 way) r e in
      let f = gain_from ratios (graph_of ends x.0) u in
      let g = gain_along ratios (graph_of ends) x.1 way in
      ap (λ t. r *ᵣ t) (*ᵣ_comm f g) ∙ sym (*ᵣ_assoc r g f) ∙ ap (λ t. t *ᵣ f) (product_back cost way x.1 v m.0 r w.2 m.2)
      ∙ scaled_back nodes (ends x.0) u b m.0 (lie x.0 w.0) m.1

  pub potentials_apart : (cost : ℕ → Ratio) (k : ℕ) (way : List (ℕ × ℕ)) (last : Ratio) → IsWay (graph_of ends) arcs k way k → gain_along ratios (graph_of ends) k way ≢ one_ratio
      → potentials.divisor ends cost k way ≡ Ok last → last ≢ zero_ratio
  potentials_apart cost k way last w apart e z =
      let m = found_by (potentials.product_along ends cost k way one_ratio) (minus_of one_ratio) last e in
      let g = gain_along ratios (graph_of ends) k way in
      let one : one_ratio ≡ m.0 = algebra.same_of ratios one_ratio m.0 (sym (minus_exact one_ratio m.0 last m.2) ∙ z) in
      apart (sym (one-*ᵣ g) ∙ ap (λ t. t *ᵣ g) one ∙ product_back cost way k k one_ratio m.0 w m.1)

-- ---- directions

-- what an arc takes from its end v with this amount
abbrev taken : Ends → ℕ → Ratio → Ratio
taken (Link i j g) v y = cond (nat_eq v i) y (negated (g *ᵣ y))
taken (Drain i) v y = y
taken (Feed i) v y = negated y

term_is : (e : Ends) (v : ℕ) (y r : Ratio) → term e v y ≡ Ok r → r ≡ taken e v y
term_is (Link i j g) v y r e = go (nat_eq v i) e
  where
    go : (t : Bool) → (if t then Ok y else (times_of g y ▷ λ product. Ok (negated product))) ≡ Ok r → r ≡ cond t y (negated (g *ᵣ y))
    go true e = sym (ok_same y r e)
    go false e =
        let m = found_by (times_of g y) (λ product. Ok (negated product)) r e in
        sym (ok_same (negated m.0) r m.2) ∙ ap negated (times_exact g y m.0 m.1)
term_is (Drain i) v y r e = sym (ok_same y r e)
term_is (Feed i) v y r e = sym (ok_same (negated y) r e)

turned_is : (nodes : List ℕ) (e : Ends) (v : ℕ) (z r : Ratio) → LiesIn ratios nodes (graph_ends e) → turned e v z ≡ Ok r → taken e v r ≡ negated z
turned_is nodes (Link i j g) v z r inside e = go (nat_eq v i) e
  where
    go : (t : Bool) → (if t then Ok (negated z) else over_of z g) ≡ Ok r → cond t r (negated (g *ᵣ r)) ≡ negated z
    go true e = sym (ok_same (negated z) r e)
    go false e = ap negated (ap (λ t. g *ᵣ t) (over_exact z g r e) ∙ *ᵣ_comm g (z *ᵣ inverse g) ∙ over_times z g inside.2)
turned_is nodes (Drain i) v z r inside e = sym (ok_same (negated z) r e)
turned_is nodes (Feed i) v z r inside e = ap negated (sym (ok_same z r e))

taken_tail : (i j : ℕ) (g : Ratio) (v : ℕ) (y : Ratio) → v ≡ i → taken (Link i j g) v y ≡ y
taken_tail i j g v y e = rw (eq-eqb v i e)

taken_head : (i j : ℕ) (g : Ratio) (v : ℕ) (y : Ratio) → i ≢ j → v ≡ j → taken (Link i j g) v y ≡ negated (g *ᵣ y)
taken_head i j g v y n e = go (nat_eq v i) refl
  where
    go : (t : Bool) → nat_eq v i ≡ t → cond t y (negated (g *ᵣ y)) ≡ negated (g *ᵣ y)
    go true m = absurd (n (sym (eqb-true v i m) ∙ e))
    go false m = refl

gain_tail : (i j : ℕ) (g : Ratio) (u : ℕ) → u ≡ i → gain_from ratios (graph.Link i j g) u ≡ g
gain_tail i j g u e = rw (eq-eqb u i e)

gain_head : (i j : ℕ) (g : Ratio) (u : ℕ) → i ≢ j → u ≡ j → gain_from ratios (graph.Link i j g) u ≡ inverse g
gain_head i j g u n e = go (nat_eq u i) refl
  where
    go : (t : Bool) → nat_eq u i ≡ t → cond t g (inverse g) ≡ inverse g
    go true m = absurd (n (sym (eqb-true u i m) ∙ e))
    go false m = refl

-- what a link takes at one end it gives back at the other, times its gain
taken_across : (nodes : List ℕ) (e : Ends) (u v : ℕ) (y : Ratio) → LiesIn ratios nodes (graph_ends e) → IsNoLoop (graph_ends e) → Joins (graph_ends e) u v
    → taken e v y ≡ negated (gain_from ratios (graph_ends e) u *ᵣ taken e u y)
taken_across nodes (Link i j g) u v y inside n joins = elim joins [
  | inl k ↦ taken_head i j g v y n k.1 ∙ sym (ap₂ (λ s t. negated (s *ᵣ t)) (gain_tail i j g u k.0) (taken_tail i j g u y k.0))
  | inr k ↦ taken_tail i j g v y k.1 ∙ sym (ap₂ (λ s t. negated (s *ᵣ t)) (gain_head i j g u n k.0) (taken_head i j g u y n k.0) ∙ back)
]
  where
    back : negated (inverse g *ᵣ negated (g *ᵣ y)) ≡ y
    back = ap negated (algebra.times_negated ratios (inverse g) (g *ᵣ y)) ∙ algebra.negated_twice ratios (inverse g *ᵣ (g *ᵣ y))
        ∙ sym (*ᵣ_assoc (inverse g) g y) ∙ ap (λ t. t *ᵣ y) (algebra.inverse_times ratios g inside.2) ∙ one-*ᵣ y
taken_across nodes (Drain i) u v y inside n joins = absurd joins
taken_across nodes (Feed i) u v y inside n joins = absurd joins

taken_one : (nodes : List ℕ) (e : Ends) (u v : ℕ) → LiesIn ratios nodes (graph_ends e) → Joins (graph_ends e) u v → taken e u one_ratio ≢ zero_ratio
taken_one nodes (Link i j g) u v inside joins = go (nat_eq u i)
  where
    go : (t : Bool) → cond t one_ratio (negated (g *ᵣ one_ratio)) ≢ zero_ratio
    go true e = one-zero e
    go false e = inside.2 (sym (*ᵣ-one g) ∙ sym (algebra.negated_twice ratios (g *ᵣ one_ratio)) ∙ ap negated e ∙ algebra.negated_zero ratios)
taken_one nodes (Drain i) u v inside joins = absurd joins
taken_one nodes (Feed i) u v inside joins = absurd joins

with_first_is : (e : Ends) (u v : ℕ) (whole last : Ratio) → Joins (graph_ends e) u v → with_first e u whole ≡ Ok last → last ≡ whole +ᵣ taken e u one_ratio
with_first_is (Link i j g) u v whole last joins e = go (nat_eq u i) e
  where
    go : (t : Bool) → (if t then plus_of whole one_ratio else minus_of whole g) ≡ Ok last → last ≡ whole +ᵣ cond t one_ratio (negated (g *ᵣ one_ratio))
    go true e = plus_exact whole one_ratio last e
    go false e = minus_exact whole g last e ∙ ap (λ t. whole +ᵣ negated t) (sym (*ᵣ-one g))
with_first_is (Drain i) u v whole last joins e = absurd joins
with_first_is (Feed i) u v whole last joins e = absurd joins

module _ (ends : ℕ → Ends) (nodes arcs : List ℕ) (lie : (a : ℕ) → IsIn a arcs → LiesIn ratios nodes (graph_of ends a)) (no_loop : (a : ℕ) → IsIn a arcs → IsNoLoop (graph_of ends a)) where
  -- what the last link takes at the end, by what the first takes at the beginning
  ending_is : (d : ℕ → Ratio) (way : List (ℕ × ℕ)) (a u v k : ℕ) (y r : Ratio) → IsIn a arcs → Joins (graph_of ends a) u v → IsWay (graph_of ends) arcs v way k
      → (directions.share_along ends d a v way y ▷ term (ends (last_arc a way)) k) ≡ Ok r
      → r ≡ negated (gain_along ratios (graph_of ends) u ((a, v) ∷ way) *ᵣ taken (ends a) u y)
  ending_is d [] a u v k y r i joins w e =
      term_is (ends a) k y r e ∙ ap (λ t. taken (ends a) t y) (sym w) ∙ taken_across nodes (ends a) u v y (lie a i) (no_loop a i) joins
      ∙ ap (λ t. negated (t *ᵣ taken (ends a) u y)) (sym (*ᵣ-one (gain_from ratios (graph_of ends a) u)))
  ending_is d (z ∷ way) a u v k y r i joins w e =
      let o = found_by (directions.share_along ends d a v (z ∷ way) y) (term (ends (last_arc z.0 way)) k) r e in
      let n = found_by (term (ends a) v y ▷ turned (ends z.0) v) (directions.share_along ends d z.0 z.1 way) o.0 o.1 in
      let m = found_by (term (ends a) v y) (turned (ends z.0) v) n.0 n.1 in
      let f = gain_from ratios (graph_of ends a) u in
      let g = gain_along ratios (graph_of ends) v (z ∷ way) in
      let b = taken (ends a) u y in
      let before : negated m.0 ≡ f *ᵣ b = ap negated (term_is (ends a) v y m.0 m.1 ∙ taken_across nodes (ends a) u v y (lie a i) (no_loop a i) joins) ∙ algebra.negated_twice ratios (f *ᵣ b) in
      ending_is d way z.0 v z.1 k n.0 r w.0 w.1 w.2 (ap (λ t. t ▷ term (ends (last_arc z.0 way)) k) n.2 ∙ o.2)
      ∙ ap (λ t. negated (g *ᵣ t)) (turned_is nodes (ends z.0) v m.0 n.0 (lie z.0 w.0) m.2 ∙ before)
      ∙ ap negated (sym (*ᵣ_assoc g f b) ∙ ap (λ t. t *ᵣ b) (*ᵣ_comm g f))

  pub directions_apart : (d : ℕ → Ratio) (k : ℕ) (first : ℕ × ℕ) (way : List (ℕ × ℕ)) (last : Ratio) → IsWay (graph_of ends) arcs k (first ∷ way) k
      → gain_along ratios (graph_of ends) k (first ∷ way) ≢ one_ratio → directions.divisor ends d k first way ≡ Ok last → last ≢ zero_ratio
  directions_apart d k first way last w apart e z =
      let m = found_by (directions.share_along ends d first.0 first.1 way one_ratio ▷ term (ends (last_arc first.0 way)) k) (with_first (ends first.0) k) last e in
      let g = gain_along ratios (graph_of ends) k (first ∷ way) in
      let b = taken (ends first.0) k one_ratio in
      let whole : m.0 ≡ negated (g *ᵣ b) = ending_is d way first.0 k first.1 k one_ratio m.0 w.0 w.1 w.2 m.1 in
      let nothing : negated (g *ᵣ b) +ᵣ b ≡ zero_ratio = ap (λ t. t +ᵣ b) (sym whole) ∙ sym (with_first_is (ends first.0) k first.1 m.0 last w.1 m.2) ∙ z in
      let same : b ≡ g *ᵣ b = algebra.negated_of ratios (negated (g *ᵣ b)) b nothing ∙ algebra.negated_twice ratios (g *ᵣ b) in
      apart (algebra.times_left_cancel ratios b g one_ratio (taken_one nodes (ends first.0) k first.1 (lie first.0 w.0) w.1) (*ᵣ_comm b g ∙ sym same ∙ sym (*ᵣ-one b)))

-- ---- of a piece

pub potentials_divisor : PotentialsDivisor
potentials_divisor net piece cost k way last sound h x e =
    potentials_apart (ends_at net.arcs) (nodes_in piece) (basics_in piece) (lies net piece h) cost k way last x.cycle.closes
    (theorems.cycle_is_not_breakeven ratios (graph_of (ends_at net.arcs)) (nodes_in piece) (basics_in piece) (tree net piece h) (no_loops net piece sound h) k way x.cycle) e

pub directions_divisor : DirectionsDivisor
directions_divisor net piece d k first way last sound h x e =
    directions_apart (ends_at net.arcs) (nodes_in piece) (basics_in piece) (lies net piece h) (no_loops net piece sound h) d k first way last x.cycle.closes
    (theorems.cycle_is_not_breakeven ratios (graph_of (ends_at net.arcs)) (nodes_in piece) (basics_in piece) (tree net piece h) (no_loops net piece sound h) k (first ∷ way) x.cycle) e
