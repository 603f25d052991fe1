-- What the arithmetic of the walk finds is exact.
use Rattle.std.specs.Prelude.{◌≡◌, ℕ, ◌==◌, Bool, true, false, if◌then◌else◌, Result, Ok, List, [], ◌∷◌, length, map}
use Rattle.std.specs.List.{AllByRecursion, fold, zip, enumerate_from}
use Rattle.std.proofs.Common.{refl, sym, ap, ◌∙◌}
use Rattle.np_frac.specs.Ratio.{Ratio, zero_ratio, one_ratio, negated, ◌+ᵣ◌, ◌-ᵣ◌, ◌*ᵣ◌, total, is_below}
use Rattle.np_frac.specs.Exact.{plus_of, minus_of, times_of, ◌▷◌}
use Rattle.np_frac.specs.declared.frac.Past.{Past}
use Rattle.np_frac.proofs.Exactness.{found_by, plus_exact, minus_exact, times_exact}
use Rattle.np_model.specs.declared.arc.NetArc.{NetArc}
use Rattle.np_model.proofs.Pull.{reduced_by_ends, reduced_exactly}
use Rattle.np_frac.proofs.RatioLaws.{one-*ᵣ, zero-*ᵣ, negated-*ᵣ, +ᵣ-zero, zero-+ᵣ, *ᵣ-zero, +ᵣ_assoc}
use Rattle.np_frac.proofs.Sums.{sum, total_is, total_zip_map}
use Rattle.np_frac.proofs.Folds.{fold_exact}
use Rattle.np_model.specs.declared.arc.Ends.{Ends}
use Rattle.np_model.specs.declared.arc.Ends.TheVariants.{Link, Drain, Feed}
use Rattle.np_model.specs.declared.arc.Upper.{Upper}
use Rattle.np_model.specs.declared.arc.Upper.TheVariants.{Finite, Infinite}
use Rattle.np_model.specs.declared.scheme.Band.{Band}
use Rattle.np_model.specs.Network.Duality.{least_worth, reduced}
use Rattle.np_model.specs.Network.Arcs.{coefficient, tail_of, head_of, bound_of, lesser, AreNodes}
use Rattle.np_model.specs.Network.Flows.{outflow, balance, plan_cost, at}
use Rattle.np_model.specs.Scheme.Segments.{Stage, Segment, end_after, segments_beyond, last_end, last_slope, amount_in, cost_at, hull}
use Rattle.np_model.specs.Scheme.Convex.{stages_cost, stages_gap}
use Rattle.cert_checker.specs.Walk.{add_flow, outflow_of, with_stage_ends, band_end, end_of, reduced_of, add_segments, add_cost, cost_of, add_supply, add_worth, add_least, gap_of, add_ray_cost, ray_cost_of}

-- ---- balance

link_exact : (b c : Bool) (gain x r s : Ratio) → (if b then plus_of r x else (if c then (times_of gain x ▷ λ gained. minus_of r gained) else Ok r)) ≡ Ok s
    → s ≡ r +ᵣ (if b then one_ratio else (if c then negated gain else zero_ratio)) *ᵣ x
link_exact true c gain x r s e = rw (one-*ᵣ x) (plus_exact r x s e)
link_exact false true gain x r s e =
    let found = found_by (times_of gain x) (λ gained. minus_of r gained) s e in
    rw (negated-*ᵣ gain x, ← times_exact gain x found.0 found.1) (minus_exact r found.0 s found.2)
link_exact false false gain x r s e = rw (zero-*ᵣ x, +ᵣ-zero r) (cc e)

drain_exact : (b : Bool) (x r s : Ratio) → (if b then plus_of r x else Ok r) ≡ Ok s → s ≡ r +ᵣ (if b then one_ratio else zero_ratio) *ᵣ x
drain_exact true x r s e = rw (one-*ᵣ x) (plus_exact r x s e)
drain_exact false x r s e = rw (zero-*ᵣ x, +ᵣ-zero r) (cc e)

feed_exact : (b : Bool) (x r s : Ratio) → (if b then minus_of r x else Ok r) ≡ Ok s → s ≡ r +ᵣ (if b then negated one_ratio else zero_ratio) *ᵣ x
feed_exact true x r s e = rw (negated-*ᵣ one_ratio x, one-*ᵣ x) (minus_exact r x s e)
feed_exact false x r s e = rw (zero-*ᵣ x, +ᵣ-zero r) (cc e)

step_exact : (v : ℕ) (ends : Ends) (x r s : Ratio) → add_flow v ends x r ≡ Ok s → s ≡ r +ᵣ coefficient ends v *ᵣ x
step_exact v (Link from to gain) x r s e = link_exact (v == from) (v == to) gain x r s e
step_exact v (Drain node) x r s e = drain_exact (v == node) x r s e
step_exact v (Feed node) x r s e = feed_exact (v == node) x r s e

pub outflow_exact : (pairs : List (Ends × Ratio)) (v : ℕ) (s : Ratio) → outflow_of pairs v ≡ Ok s → s ≡ outflow pairs v
outflow_exact pairs v s e =
    fold_exact {A = Ends × Ratio} (λ (ends, q). add_flow v ends q) (λ (ends, q). coefficient ends v *ᵣ q) (λ a r t h. step_exact v a.0 a.1 r t h) zero_ratio s pairs e

-- hulls have the ends of their stages
hull_ends : (stages : List Stage) → map (λ (s : Stage). s.ends) stages ≡ map (λ (a : NetArc). a.ends) (map hull stages)
hull_ends [] = refl
hull_ends (s ∷ stages) = ap (λ (all : List Ends). s.ends ∷ all) (hull_ends stages)

pub balance_exact : (stages : List Stage) (x : List Ratio) (v : ℕ) (s : Ratio) → outflow_of (with_stage_ends stages x) v ≡ Ok s → s ≡ balance (map hull stages) x v
balance_exact stages x v s e = outflow_exact (with_stage_ends stages x) v s e ∙ ap (λ (all : List Ends). outflow (zip all x) v) (hull_ends stages)

-- ---- ends

pub band_exact : (end : Ratio) (width next : Upper) → band_end end width ≡ Ok next → next ≡ end_after end width
band_exact end Infinite next e = cc e
band_exact end (Finite w) next e =
    let found = found_by (plus_of end w) (λ sum. Ok (Finite sum)) next e in
    let is = found.2 in
    let same : next ≡ Finite found.0 = cc is in
    same ∙ ap Finite (plus_exact end w found.0 found.1)

pub end_exact : (end : Upper) (bands : List Band) (last : Upper) → end_of end bands ≡ Ok last → last ≡ last_end end bands
end_exact Infinite [] last e = cc e
end_exact (Finite u) [] last e = cc e
end_exact Infinite (b ∷ bs) last e = cc e
end_exact (Finite u) (b ∷ bs) last e =
    let found = found_by (band_end u b.width) (λ next. end_of next bs) last e in
    end_exact found.0 bs last found.2 ∙ ap (λ z. last_end z bs) (band_exact u b.width found.0 found.1)

-- ---- reduced costs

pub reduced_exact : (p : List Ratio) (ends : Ends) (slope r : Ratio) → AreNodes (length p) ends → reduced_of p ends slope ≡ Ok r → r ≡ reduced p ends slope
reduced_exact p ends slope r nodes e = reduced_exactly ends slope (at p (tail_of ends)) (at p (head_of ends)) r e ∙ sym (reduced_by_ends p ends slope nodes)

-- ---- cost

abbrev segment_cost : Ratio → Segment → Ratio
segment_cost x g = g.slope *ᵣ amount_in g x

segments_exact : (x : Ratio) (gs : List Segment) (r s : Ratio) → add_segments x gs r ≡ Ok s → s ≡ r +ᵣ sum (segment_cost x) gs
segments_exact x [] r s e = rw (+ᵣ-zero r) (cc e)
segments_exact x (g ∷ gs) r s e =
    elim (is_below g.start x) as (λ b.
    (if b then (minus_of (lesser x g.end) g.start ▷ λ part. times_of g.slope part ▷ λ cost. plus_of r cost ▷ λ next. add_segments x gs next) else add_segments x gs r) ≡ Ok s
    → s ≡ r +ᵣ (g.slope *ᵣ (if b then lesser x g.end -ᵣ g.start else zero_ratio) +ᵣ sum (segment_cost x) gs)) [
      | true ↦ λ h.
          let part = found_by (minus_of (lesser x g.end) g.start) (λ part. times_of g.slope part ▷ λ cost. plus_of r cost ▷ λ next. add_segments x gs next) s h in
          let cost = found_by (times_of g.slope part.0) (λ cost. plus_of r cost ▷ λ next. add_segments x gs next) s part.2 in
          let next = found_by (plus_of r cost.0) (λ next. add_segments x gs next) s cost.2 in
          rw (← minus_exact (lesser x g.end) g.start part.0 part.1, ← times_exact g.slope part.0 cost.0 cost.1)
          (segments_exact x gs next.0 s next.2 ∙ ap (λ z. z +ᵣ sum (segment_cost x) gs) (plus_exact r cost.0 next.0 next.1) ∙ +ᵣ_assoc r cost.0 (sum (segment_cost x) gs))
      | false ↦ λ h.
          rw (*ᵣ-zero g.slope, zero-+ᵣ (sum (segment_cost x) gs)) (segments_exact x gs r s h)
    ] e

cost_step_exact : (s : Stage) (x r t : Ratio) → add_cost (s, x) r ≡ Ok t → t ≡ r +ᵣ cost_at s x
cost_step_exact s x r t e =
    let gs = segments_beyond s.upper s.bands in
    let cost = found_by (times_of s.cost (lesser x s.upper)) (λ cost. plus_of r cost ▷ add_segments x gs) t e in
    let next = found_by (plus_of r cost.0) (add_segments x gs) t cost.2 in
    rw (total_is (segment_cost x) gs, ← times_exact s.cost (lesser x s.upper) cost.0 cost.1)
    (segments_exact x gs next.0 t next.2 ∙ ap (λ z. z +ᵣ sum (segment_cost x) gs) (plus_exact r cost.0 next.0 next.1) ∙ +ᵣ_assoc r cost.0 (sum (segment_cost x) gs))

pub cost_exact : (stages : List Stage) (x : List Ratio) (s : Ratio) → cost_of (zip stages x) ≡ Ok s → s ≡ stages_cost stages x
cost_exact stages x s e =
    fold_exact {A = Stage × Ratio} add_cost (λ (st, q). cost_at st q) (λ a r t h. cost_step_exact a.0 a.1 r t h) zero_ratio s (zip stages x) e

-- ---- the cost of a ray

ray_step_exact : (s : Stage) (d r t : Ratio) → add_ray_cost (s, d) r ≡ Ok t → t ≡ r +ᵣ last_slope s.cost s.bands *ᵣ d
ray_step_exact s d r t e =
    let product = found_by (times_of (last_slope s.cost s.bands) d) (plus_of r) t e in
    rw (← times_exact (last_slope s.cost s.bands) d product.0 product.1) (plus_exact r product.0 t product.2)

pub ray_cost_exact : (stages : List Stage) (d : List Ratio) (s : Ratio) → ray_cost_of (zip stages d) ≡ Ok s → s ≡ plan_cost (map hull stages) d
ray_cost_exact stages d s e =
    fold_exact {A = Stage × Ratio} add_ray_cost (λ (st, q). last_slope st.cost st.bands *ᵣ q) (λ a r t h. ray_step_exact a.0 a.1 r t h) zero_ratio s (zip stages d) e
    ∙ sym (total_zip_map (λ (a, q). a.cost *ᵣ q) hull stages d)

-- ---- the gap

supply_step_exact : (supply : List Ratio) (v : ℕ) (p r t : Ratio) → add_supply supply (v, p) r ≡ Ok t → t ≡ r +ᵣ p *ᵣ at supply v
supply_step_exact supply v p r t e =
    let product = found_by (times_of p (at supply v)) (plus_of r) t e in
    rw (← times_exact p (at supply v) product.0 product.1) (plus_exact r product.0 t product.2)

worth_exact : (s : Stage) (r running t : Ratio) → add_worth s r running ≡ Ok t → t ≡ running +ᵣ least_worth r (hull s)
worth_exact s r running t e = above (is_below zero_ratio r) e
  where
    below : (b : Bool) → (if b then (end_of s.upper s.bands ▷ λ end. times_of r (bound_of end) ▷ plus_of running) else Ok running) ≡ Ok t
        → t ≡ running +ᵣ (if b then r *ᵣ bound_of (last_end s.upper s.bands) else zero_ratio)
    below true h =
        let end = found_by (end_of s.upper s.bands) (λ end. times_of r (bound_of end) ▷ plus_of running) t h in
        let product = found_by (times_of r (bound_of end.0)) (plus_of running) t end.2 in
        rw (← end_exact s.upper s.bands end.0 end.1, ← times_exact r (bound_of end.0) product.0 product.1) (plus_exact running product.0 t product.2)
    below false h = rw (+ᵣ-zero running) (cc h)

    above : (b : Bool) → (if b then (times_of r s.lower ▷ plus_of running) else (if is_below r zero_ratio then (end_of s.upper s.bands ▷ λ end. times_of r (bound_of end) ▷ plus_of running) else Ok running)) ≡ Ok t
        → t ≡ running +ᵣ (if b then r *ᵣ s.lower else (if is_below r zero_ratio then r *ᵣ bound_of (last_end s.upper s.bands) else zero_ratio))
    above true h =
        let product = found_by (times_of r s.lower) (plus_of running) t h in
        rw (← times_exact r s.lower product.0 product.1) (plus_exact running product.0 t product.2)
    above false h = below (is_below r zero_ratio) h

abbrev worth_at : List Ratio → Stage → Ratio
worth_at p s = least_worth (reduced p s.ends zero_ratio) (hull s)

least_step_exact : (p : List Ratio) (s : Stage) → AreNodes (length p) s.ends → (r t : Ratio) → add_least p s r ≡ Ok t → t ≡ r +ᵣ worth_at p s
least_step_exact p s nodes r t e =
    let price = found_by (reduced_of p s.ends zero_ratio) (λ q. add_worth s q r) t e in
    rw (← reduced_exact p s.ends zero_ratio price.0 nodes price.1) (worth_exact s price.0 r t price.2)

-- over staged arcs whose ends are nodes
least_exact : (p : List Ratio) (stages : List Stage) → AllByRecursion (λ s. AreNodes (length p) s.ends) stages → (r : Result Ratio Past) (s : Ratio) → fold (λ running st. running ▷ add_least p st) r stages ≡ Ok s
    → (q : Ratio) × (r ≡ Ok q) × (s ≡ q +ᵣ sum (worth_at p) stages)
least_exact p [] nodes r s e = (s, e, sym (+ᵣ-zero s))
least_exact p (st ∷ stages) nodes r s e =
    let rest = least_exact p stages nodes.1 (r ▷ add_least p st) s e in
    let here = found_by r (add_least p st) rest.0 rest.1 in (
      here.0,
      here.1,
      rest.2 ∙ ap (λ z. z +ᵣ sum (worth_at p) stages) (least_step_exact p st nodes.0 here.0 rest.0 here.2) ∙ +ᵣ_assoc here.0 (worth_at p st) (sum (worth_at p) stages),
    )

sum_map : {A B : Type 0} (f : B → Ratio) (h : A → B) (xs : List A) → sum f (map h xs) ≡ sum (λ x. f (h x)) xs
sum_map f h [] = refl
sum_map f h (x ∷ xs) = ap (λ z. f (h x) +ᵣ z) (sum_map f h xs)

pub gap_exact : (supply : List Ratio) (stages : List Stage) (p : List Ratio) (s : Ratio) → AllByRecursion (λ st. AreNodes (length p) st.ends) stages → gap_of supply stages p ≡ Ok s → s ≡ stages_gap supply stages p
gap_exact supply stages p s nodes e =
    let arcs = least_exact p stages nodes (fold (λ running node. running ▷ add_supply supply node) (Ok zero_ratio) (enumerate_from 0 p)) s e in
    let prices : arcs.0 ≡ total (λ (v, potential). potential *ᵣ at supply v) (enumerate_from 0 p) =
    fold_exact {A = ℕ × Ratio} (add_supply supply) (λ (v, potential). potential *ᵣ at supply v) (λ a r t h. supply_step_exact supply a.0 a.1 r t h) zero_ratio arcs.0 (enumerate_from 0 p) arcs.1 in
    arcs.2
    ∙ ap (λ z. z +ᵣ sum (worth_at p) stages) prices
    ∙ ap (λ z. total (λ (v, potential). potential *ᵣ at supply v) (enumerate_from 0 p) +ᵣ z) (sym (total_is (λ a. least_worth (reduced p a.ends zero_ratio) a) (map hull stages) ∙ sum_map (λ a. least_worth (reduced p a.ends zero_ratio) a) hull stages))
