-- Amounts cost no more than the flows of their segments.
use Rattle.std.specs.Prelude.{◌≡◌, ℕ, ◌+◌, false, List, [], ◌∷◌, length, map, take, drop}
use Rattle.std.specs.List.{AllByRecursion, zip}
use Rattle.std.proofs.Common.{refl, arith, sym, subst, ap, ◌∙◌, inl, inr}
use Rattle.std.proofs.lemmas.Bool.{cases_Bool}
use Rattle.std.proofs.lemmas.List.{length-append, length-map, length-take-le, length-drop}
use Rattle.std.proofs.lemmas.List.Elements.{recursion_from_All}
use Rattle.np_frac.specs.Ratio.{Ratio, zero_ratio, negated, ◌+ᵣ◌, ◌-ᵣ◌, ◌*ᵣ◌, ◌≤ᵣ◌, is_below}
use Rattle.np_frac.proofs.RatioLaws.{+ᵣ_comm, +ᵣ_assoc, +ᵣ-zero, *ᵣ_comm, *ᵣ-+ᵣ, *ᵣ-zero, +ᵣ_at_most, *ᵣ_at_most, ≤ᵣ_refl, ≤ᵣ_same, ≤ᵣ_trans, clash, is_below_true, is_below_false, add_back, minus_not_negative, <ᵣ_is_≤ᵣ}
use Rattle.np_frac.proofs.Field.{+ᵣ-negated}
use Rattle.np_frac.proofs.Sums.{sum, total_is}
use Rattle.np_model.specs.declared.arc.Ends.{Ends}
use Rattle.np_model.specs.declared.arc.Upper.{Upper}
use Rattle.np_model.specs.declared.arc.Upper.TheVariants.{Finite, Infinite}
use Rattle.np_model.specs.declared.arc.NetArc.{NetArc}
use Rattle.np_model.specs.declared.scheme.Band.{Band}
use Rattle.np_model.specs.Network.Arcs.{IsAtMost, lesser, IsUnder}
use Rattle.np_model.specs.Scheme.Segments.{Stage, segments_beyond, amount_in, cost_at, end_after, IsConvexFrom, IsValid}
use Rattle.period_expand.specs.Expansion.{segment_count}
use Rattle.convex_arcs.specs.Segments.{band_arc, segment_arcs, flat_arcs}
use Rattle.convex_arcs.specs.Gathered.{amounts_of, AmountsCostNoMore}
use Rattle.convex_arcs.proofs.Exactly.{sum_split}
use Rattle.convex_arcs.proofs.Bounds.{Keeps, not_negative, at_most_after, all_split}

-- ---- ratios

not_below : (a b : Ratio) → b ≤ᵣ a → is_below a b ≡ false
not_below a b h = elim (cases_Bool (is_below a b)) [ inl t ↦ absurd (clash (is_below_true a b t) h) | inr f ↦ f ]

lesser_is : (x : Ratio) (end : Upper) → IsAtMost x end → lesser x end ≡ x
lesser_is x (Finite end) h = rw (not_below end x h) refl
lesser_is x Infinite h = refl

-- the lesser factor, times what is not negative
times_at_most : {c d y : Ratio} → c ≤ᵣ d → zero_ratio ≤ᵣ y → c *ᵣ y ≤ᵣ d *ᵣ y
times_at_most {c} {d} {y} h some = ≤ᵣ_trans (≤ᵣ_same (*ᵣ_comm c y)) (≤ᵣ_trans (*ᵣ_at_most some h) (≤ᵣ_same (*ᵣ_comm y d)))

pub without : (a b : Ratio) → (a +ᵣ b) +ᵣ negated a ≡ b
without a b = ap (λ r. r +ᵣ negated a) (+ᵣ_comm a b) ∙ +ᵣ_assoc b a (negated a) ∙ ap (λ r. b +ᵣ r) (+ᵣ-negated a) ∙ +ᵣ-zero b

cancelled : (a b c : Ratio) → a +ᵣ b ≤ᵣ a +ᵣ c → b ≤ᵣ c
cancelled a b c h =
    ≤ᵣ_trans (≤ᵣ_same (sym (without a b))) (≤ᵣ_trans (+ᵣ_at_most h (≤ᵣ_refl (negated a))) (≤ᵣ_same (without a c)))

-- ---- flows at the slopes of their bands

abbrev pub paid : NetArc × Ratio → Ratio
paid (a, q) = a.cost *ᵣ q

-- no flow costs less than at a slope that is at most the first
least_slope : (ends : Ends) (c : Ratio) (bands : List Band) (ys : List Ratio) → IsConvexFrom c bands → length ys ≡ length bands →
    AllByRecursion Keeps (zip (map (band_arc ends) bands) ys) → c *ᵣ sum (λ y. y) ys ≤ᵣ sum paid (zip (map (band_arc ends) bands) ys)
least_slope ends c [] [] h e k = ≤ᵣ_same (*ᵣ-zero c)
least_slope ends c [] (y ∷ ys) h e k = absurd (omega (arith, e))
least_slope ends c (band ∷ bands) [] h e k = absurd (omega (arith, e))
least_slope ends c (band ∷ bands) (y ∷ ys) h e k =
    let some = not_negative ends bands ys (omega (arith, e)) k.1 in
    let rest = least_slope ends band.slope bands ys h.2 (omega (arith, e)) k.1 in
    ≤ᵣ_trans (≤ᵣ_same (*ᵣ-+ᵣ c y (sum (λ y. y) ys))) (+ᵣ_at_most (times_at_most h.0 k.0.0) (≤ᵣ_trans (times_at_most h.0 some) rest))

-- ---- the cost by cases, from an end on

abbrev beyond : Upper → List Band → Ratio → Ratio
beyond end bands x = sum (λ g. g.slope *ᵣ amount_in g x) (segments_beyond end bands)

abbrev cost_from : Ratio → Upper → List Band → Ratio → Ratio
cost_from c end bands x = c *ᵣ lesser x end +ᵣ beyond end bands x

further : (end x : Ratio) (width : Upper) → x ≤ᵣ end → IsUnder zero_ratio width → IsAtMost x (end_after end width)
further end x (Finite width) h wide = subst (λ (r : Ratio). r ≤ᵣ end +ᵣ width) (+ᵣ-zero x) (+ᵣ_at_most h (<ᵣ_is_≤ᵣ wide))
further end x Infinite h wide = tt

nothing_beyond : (c : Ratio) (end : Upper) (bands : List Band) (x : Ratio) → IsConvexFrom c bands → IsAtMost x end → beyond end bands x ≡ zero_ratio
nothing_beyond c end [] x h k = refl
nothing_beyond c Infinite (band ∷ bands) x h k = refl
nothing_beyond c (Finite end) (band ∷ bands) x h k =
    let rest = nothing_beyond band.slope (end_after end band.width) bands x h.2 (further end x band.width k h.1) in
    rw (not_below end x k, rest, *ᵣ-zero band.slope) (+ᵣ-zero zero_ratio)

-- within the first segment
first_alone : (ends : Ends) (c : Ratio) (end : Upper) (bands : List Band) (x : Ratio) (ys : List Ratio) → IsConvexFrom c bands → length ys ≡ length bands →
    AllByRecursion Keeps (zip (map (band_arc ends) bands) ys) → IsAtMost (x +ᵣ sum (λ y. y) ys) end →
    cost_from c end bands (x +ᵣ sum (λ y. y) ys) ≤ᵣ c *ᵣ x +ᵣ sum paid (zip (map (band_arc ends) bands) ys)
first_alone ends c end bands x ys h e k within =
    let all = x +ᵣ sum (λ y. y) ys in
    let same : cost_from c end bands all ≡ c *ᵣ x +ᵣ c *ᵣ sum (λ y. y) ys =
    ap (λ r. c *ᵣ r +ᵣ beyond end bands all) (lesser_is all end within) ∙ ap (λ r. c *ᵣ all +ᵣ r) (nothing_beyond c end bands all h within)
    ∙ +ᵣ-zero (c *ᵣ all) ∙ *ᵣ-+ᵣ c x (sum (λ y. y) ys) in
    ≤ᵣ_trans (≤ᵣ_same same) (+ᵣ_at_most (≤ᵣ_refl (c *ᵣ x)) (least_slope ends c bands ys h e k))

-- beyond it
stepped : (c d x y z e l rest others : Ratio) → c ≤ᵣ d → x ≤ᵣ e → z ≡ l -ᵣ e → d *ᵣ l +ᵣ rest ≤ᵣ d *ᵣ (x +ᵣ y) +ᵣ others →
    c *ᵣ e +ᵣ (d *ᵣ z +ᵣ rest) ≤ᵣ c *ᵣ x +ᵣ (d *ᵣ y +ᵣ others)
stepped c d x y z e l rest others slope within is h =
    let w = e -ᵣ x in
    let last = d *ᵣ z +ᵣ rest in
    let left : c *ᵣ e +ᵣ last ≡ c *ᵣ x +ᵣ (c *ᵣ w +ᵣ last) =
    ap (λ r. c *ᵣ r +ᵣ last) (sym (add_back x e)) ∙ ap (λ r. r +ᵣ last) (*ᵣ-+ᵣ c x w) ∙ +ᵣ_assoc (c *ᵣ x) (c *ᵣ w) last in
    let l_is : l ≡ x +ᵣ (w +ᵣ z) =
    sym (add_back e l) ∙ ap (λ r. e +ᵣ r) (sym is) ∙ ap (λ r. r +ᵣ z) (sym (add_back x e)) ∙ +ᵣ_assoc x w z in
    let spent : d *ᵣ l +ᵣ rest ≡ d *ᵣ x +ᵣ (d *ᵣ w +ᵣ last) =
    ap (λ r. d *ᵣ r +ᵣ rest) l_is ∙ ap (λ r. r +ᵣ rest) (*ᵣ-+ᵣ d x (w +ᵣ z)) ∙ +ᵣ_assoc (d *ᵣ x) (d *ᵣ (w +ᵣ z)) rest
    ∙ ap (λ r. d *ᵣ x +ᵣ (r +ᵣ rest)) (*ᵣ-+ᵣ d w z) ∙ ap (λ r. d *ᵣ x +ᵣ r) (+ᵣ_assoc (d *ᵣ w) (d *ᵣ z) rest) in
    let given : d *ᵣ (x +ᵣ y) +ᵣ others ≡ d *ᵣ x +ᵣ (d *ᵣ y +ᵣ others) =
    ap (λ r. r +ᵣ others) (*ᵣ-+ᵣ d x y) ∙ +ᵣ_assoc (d *ᵣ x) (d *ᵣ y) others in
    let enough = cancelled (d *ᵣ x) (d *ᵣ w +ᵣ last) (d *ᵣ y +ᵣ others) (≤ᵣ_trans (≤ᵣ_same (sym spent)) (≤ᵣ_trans h (≤ᵣ_same given))) in
    let steeper = +ᵣ_at_most (times_at_most slope (minus_not_negative within)) (≤ᵣ_refl last) in
    ≤ᵣ_trans (≤ᵣ_same left) (+ᵣ_at_most (≤ᵣ_refl (c *ᵣ x)) (≤ᵣ_trans steeper enough))

spread : (ends : Ends) (c : Ratio) (end : Upper) (bands : List Band) (x : Ratio) (ys : List Ratio) → IsConvexFrom c bands → length ys ≡ length bands →
    AllByRecursion Keeps (zip (map (band_arc ends) bands) ys) → IsAtMost x end →
    cost_from c end bands (x +ᵣ sum (λ y. y) ys) ≤ᵣ c *ᵣ x +ᵣ sum paid (zip (map (band_arc ends) bands) ys)
spread ends c end [] x [] h e k within = first_alone ends c end [] x [] h e k (subst (λ (r : Ratio). IsAtMost r end) (sym (+ᵣ-zero x)) within)
spread ends c end [] x (y ∷ ys) h e k within = absurd (omega (arith, e))
spread ends c end (band ∷ bands) x [] h e k within = absurd (omega (arith, e))
spread ends c Infinite (band ∷ bands) x (y ∷ ys) h e k within = first_alone ends c Infinite (band ∷ bands) x (y ∷ ys) h e k tt
spread ends c (Finite end) (band ∷ bands) x (y ∷ ys) h e k within =
    let all = x +ᵣ (y +ᵣ sum (λ y. y) ys) in
    let next = end_after end band.width in
    let others = sum paid (zip (map (band_arc ends) bands) ys) in
    let rest : cost_from band.slope next bands all ≤ᵣ band.slope *ᵣ (x +ᵣ y) +ᵣ others =
    subst (λ (r : Ratio). cost_from band.slope next bands r ≤ᵣ band.slope *ᵣ (x +ᵣ y) +ᵣ others) (+ᵣ_assoc x y (sum (λ y. y) ys))
    (spread ends band.slope next bands (x +ᵣ y) ys h.2 (omega (arith, e)) k.1 (at_most_after end x y band.width within k.0.1)) in
    elim (cases_Bool (is_below end all)) [
      | inl t ↦ rw t (stepped c band.slope x y (lesser all next -ᵣ end) end (lesser all next) (beyond next bands all) others h.0 within refl rest)
      | inr f ↦ first_alone ends c (Finite end) (band ∷ bands) x (y ∷ ys) h e k (is_below_false end all f)
    ]

stage_cost : (s : Stage) (xs : List Ratio) → IsValid s → length xs ≡ segment_count s → AllByRecursion Keeps (zip (segment_arcs s) xs) →
    cost_at s (sum (λ x. x) xs) ≤ᵣ sum paid (zip (segment_arcs s) xs)
stage_cost s [] valid e h = absurd (omega (arith, e))
stage_cost s (x ∷ xs) valid e h =
    let all = x +ᵣ sum (λ x. x) xs in
    let same = ap (λ r. s.cost *ᵣ lesser all s.upper +ᵣ r) (total_is (λ g. g.slope *ᵣ amount_in g all) (segments_beyond s.upper s.bands)) in
    ≤ᵣ_trans (≤ᵣ_same same) (spread s.ends s.cost s.upper s.bands x xs valid.1 (omega (arith, e)) h.1 h.0.1)

abbrev pub priced : Stage × Ratio → Ratio
priced (s, q) = cost_at s q

stages_no_more : (stages : List Stage) (flows : List Ratio) → AllByRecursion IsValid stages → length flows ≡ length (flat_arcs stages) → AllByRecursion Keeps (zip (flat_arcs stages) flows) →
    sum priced (zip stages (amounts_of stages flows)) ≤ᵣ sum paid (zip (flat_arcs stages) flows)
stages_no_more [] flows valid e h = ≤ᵣ_refl zero_ratio
stages_no_more (s ∷ stages) flows valid e h =
    let size : length (segment_arcs s) ≡ segment_count s = omega (arith, length-map s.bands (band_arc s.ends)) in
    let whole : length flows ≡ length (segment_arcs s) + length (flat_arcs stages) = e ∙ length-append (segment_arcs s) (flat_arcs stages) in
    let own : length (take (segment_count s) flows) ≡ segment_count s = length-take-le (segment_count s) flows (omega arith) in
    let later : length (drop (segment_count s) flows) ≡ length (flat_arcs stages) = omega (arith, length-drop (segment_count s) flows) in
    let parts = all_split Keeps (segment_arcs s) (flat_arcs stages) flows (omega arith) h in
    let first = subst (λ (n : ℕ). AllByRecursion Keeps (zip (segment_arcs s) (take n flows))) size parts.0 in
    let rest = subst (λ (n : ℕ). AllByRecursion Keeps (zip (flat_arcs stages) (drop n flows))) size parts.1 in
    let one =
    subst (λ (r : Ratio). cost_at s r ≤ᵣ sum paid (zip (segment_arcs s) (take (segment_count s) flows))) (sym (total_is (λ flow. flow) (take (segment_count s) flows)))
    (stage_cost s (take (segment_count s) flows) valid.0 own first) in
    let more = stages_no_more stages (drop (segment_count s) flows) valid.1 later rest in
    ≤ᵣ_trans (+ᵣ_at_most one more)
    (≤ᵣ_same
    (ap (λ (n : ℕ). sum paid (zip (segment_arcs s) (take n flows)) +ᵣ sum paid (zip (flat_arcs stages) (drop n flows))) (sym size)
    ∙ sym (sum_split paid (segment_arcs s) (flat_arcs stages) flows (omega arith))))

pub cost_no_more : AmountsCostNoMore
cost_no_more supply stages flows valid h =
    ≤ᵣ_trans (≤ᵣ_same (total_is priced (zip stages (amounts_of stages flows))))
    (≤ᵣ_trans
    (stages_no_more stages flows (recursion_from_All IsValid stages valid) h.one_each (recursion_from_All Keeps (zip (flat_arcs stages) flows) h.within))
    (≤ᵣ_same (sym (total_is paid (zip (flat_arcs stages) flows)))))
