-- Weak duality for staged arcs, whose cost is convex.
use Rattle.std.specs.Prelude.{◌≡◌, length, List, [], ◌∷◌, map}
use Rattle.std.specs.List.{All, AllByRecursion, zip, enumerate_from}
use Rattle.std.proofs.Common.{inl, inr, refl, sym, ap, ap₂, ◌∙◌}
use Rattle.std.proofs.lemmas.List.Elements.{recursion_from_All}
use Rattle.np_frac.specs.Ratio.{Ratio, zero_ratio, ◌≤ᵣ◌, ◌<ᵣ◌, ◌+ᵣ◌, ◌-ᵣ◌, ◌*ᵣ◌, total}
use Rattle.np_model.specs.declared.arc.Ends.{Ends}
use Rattle.np_model.specs.declared.arc.Upper.{Upper}
use Rattle.np_model.specs.declared.arc.Upper.TheVariants.{Finite, Infinite}
use Rattle.np_model.specs.declared.scheme.Band.{Band}
use Rattle.np_model.specs.Network.Arcs.{coefficient, IsAtMost, IsWithin, lesser, IsUnder}
use Rattle.np_model.specs.Network.Flows.{at}
use Rattle.np_model.specs.Network.Duality.{pull, reduced}
use Rattle.np_model.specs.Scheme.Segments.{Stage, Segment, end_after, segments_beyond, segments, last_end, amount_in, cost_at, hull, IsConvexFrom, IsValid}
use Rattle.np_model.specs.Scheme.Convex.{hull_net, StagesFeasible, stages_cost, StagesLeast, IsKink, StagesShow}
use Rattle.np_frac.proofs.RatioLaws.{+ᵣ-zero, +ᵣ_assoc, +ᵣ_middle, *ᵣ-+ᵣ, split_by, ≤ᵣ_same, ≤ᵣ_refl, ≤ᵣ_trans, ≤ᵣ_antisym, +ᵣ_at_most, below_or, <ᵣ_is_≤ᵣ, clash, *ᵣ_at_most, *ᵣ_at_least, zero_times, if_below, add_back, minus_at_most, minus_not_negative, grows, ≤ᵣ-<ᵣ_trans}
use Rattle.np_frac.proofs.Sums.{total_same, total_each, total-+ᵣ, *ᵣ-total, total_is, sum, total_zip_at_most, exchange, total_zip_map, all_zip_map, all_zip_left, length-map}
use Rattle.np_model.proofs.Duality.{worth_of_balance}

-- ---- the lesser of an amount and a bound

lesser_under : (x u : Ratio) → x ≤ᵣ u → lesser x (Finite u) ≡ x
lesser_under x u h = if_below (λ r. r ≡ x) u x u x (λ above. absurd (clash above h)) (λ _. refl)

lesser_over : (x u : Ratio) → u ≤ᵣ x → lesser x (Finite u) ≡ u
lesser_over x u h = if_below (λ r. r ≡ u) u x u x (λ _. refl) (λ k. ≤ᵣ_antisym k h)

pub lesser_within : (x u : Ratio) → lesser x (Finite u) ≤ᵣ u
lesser_within x u = if_below (λ r. r ≤ᵣ u) u x u x (λ _. ≤ᵣ_refl u) (λ k. k)

pub lesser_least : (z x : Ratio) (e : Upper) → z ≤ᵣ x → IsAtMost z e → z ≤ᵣ lesser x e
lesser_least z x Infinite h k = h
lesser_least z x (Finite u) h k = if_below (λ r. z ≤ᵣ r) u x u x (λ _. k) (λ _. h)

pub lesser_mono : (x y : Ratio) (e : Upper) → x ≤ᵣ y → lesser x e ≤ᵣ lesser y e
lesser_mono x y Infinite h = h
lesser_mono x y (Finite u) h =
    if_below (λ r. lesser x (Finite u) ≤ᵣ r) u y u y (λ _. lesser_within x u)
    (λ k. rw (lesser_under x u (≤ᵣ_trans h k)) h)

-- ---- bounds

under_is_at_most : (x : Ratio) (e : Upper) → IsUnder x e → IsAtMost x e
under_is_at_most x Infinite h = tt
under_is_at_most x (Finite u) h = <ᵣ_is_≤ᵣ h

under_after : (x y : Ratio) (e : Upper) → x ≤ᵣ y → IsUnder y e → IsUnder x e
under_after x y Infinite h k = tt
under_after x y (Finite u) h k = ≤ᵣ-<ᵣ_trans h k

pub under_end_after : (start : Ratio) (width : Upper) → IsUnder zero_ratio width → IsUnder start (end_after start width)
under_end_after start Infinite h = tt
under_end_after start (Finite w) h = grows start w h

-- ---- the part of an amount in a segment

abbrev pub part : Ratio → Upper → Ratio → Ratio → Ratio
part start end slope x = amount_in (record { start = start; end = end; slope = slope }) x

pub part_none : (start : Ratio) (end : Upper) (slope x : Ratio) → x ≤ᵣ start → part start end slope x ≡ zero_ratio
part_none start end slope x h =
    if_below (λ r. r ≡ zero_ratio) start x (lesser x end -ᵣ start) zero_ratio (λ above. absurd (clash above h)) (λ _. refl)

pub part_is : (start : Ratio) (end : Upper) (slope x : Ratio) → start <ᵣ x → part start end slope x ≡ lesser x end -ᵣ start
part_is start end slope x h =
    if_below (λ r. r ≡ lesser x end -ᵣ start) start x (lesser x end -ᵣ start) zero_ratio (λ _. refl) (λ k. absurd (clash h k))

pub part_not_negative : (start : Ratio) (end : Upper) (slope x : Ratio) → IsUnder start end → zero_ratio ≤ᵣ part start end slope x
part_not_negative start end slope x h =
    if_below (λ r. zero_ratio ≤ᵣ r) start x (lesser x end -ᵣ start) zero_ratio
    (λ above. minus_not_negative (lesser_least start x end (<ᵣ_is_≤ᵣ above) (under_is_at_most start end h))) (λ _. ≤ᵣ_refl zero_ratio)

pub part_within : (start u slope x : Ratio) → start <ᵣ u → part start (Finite u) slope x ≤ᵣ u -ᵣ start
part_within start u slope x h =
    if_below (λ r. r ≤ᵣ u -ᵣ start) start x (lesser x (Finite u) -ᵣ start) zero_ratio
    (λ _. minus_at_most start (lesser_within x u)) (λ _. minus_not_negative (<ᵣ_is_≤ᵣ h))

-- past x, r is worth least at x
past_least : (r start : Ratio) (end : Upper) (slope x y : Ratio) → IsUnder start end → start <ᵣ x → r ≤ᵣ zero_ratio → (IsUnder x end → zero_ratio ≤ᵣ r) → r *ᵣ part start end slope x ≤ᵣ r *ᵣ part start end slope y
past_least r start Infinite slope x y v h left right = zero_times _ _ left (right tt)
past_least r start (Finite u) slope x y v h left right =
    elim (below_or x u) [
      | inl inside ↦ zero_times _ _ left (right inside)
      | inr full ↦ *ᵣ_at_least left (rw (part_is start (Finite u) slope x h, lesser_over x u full) (part_within start u slope y v))
    ]

part_least : (r start : Ratio) (end : Upper) (slope x y : Ratio) → IsUnder start end → (start <ᵣ x → r ≤ᵣ zero_ratio) → (IsUnder x end → zero_ratio ≤ᵣ r) → r *ᵣ part start end slope x ≤ᵣ r *ᵣ part start end slope y
part_least r start end slope x y v left right =
    elim (below_or start x) [
      | inl past ↦ past_least r start end slope x y v past (left past) right
      | inr before ↦ *ᵣ_at_most (right (under_after x start end before v))
          (rw (part_none start end slope x before) (part_not_negative start end slope y v))
    ]

-- the first segment, from the lower bound on
first_least : (r lower : Ratio) (end : Upper) (x y : Ratio) → lower ≤ᵣ y → IsAtMost lower end → (lower <ᵣ x → r ≤ᵣ zero_ratio) → (IsUnder x end → zero_ratio ≤ᵣ r) → r *ᵣ lesser x end ≤ᵣ r *ᵣ lesser y end
first_least r lower Infinite x y k v left right =
    elim (below_or lower x) [
      | inl past ↦ zero_times x y (left past) (right tt)
      | inr before ↦ *ᵣ_at_most (right tt) (≤ᵣ_trans before k)
    ]
first_least r lower (Finite u) x y k v left right =
    elim (below_or x u) [
      | inl inside ↦ elim (below_or lower x) [
        | inl past ↦ zero_times _ _ (left past) (right inside)
        | inr before ↦ *ᵣ_at_most (right inside) (lesser_mono x y (Finite u) (≤ᵣ_trans before k))
      ]
      | inr full ↦ elim (below_or lower x) [
        | inl past ↦ *ᵣ_at_least (left past) (rw (lesser_over x u full) (lesser_within y u))
        | inr before ↦ ≤ᵣ_same (rw (lesser_over x u full, lesser_over y u (≤ᵣ_trans full (≤ᵣ_trans before k))) refl)
      ]
    ]

-- ---- the signs of the reduced slopes, on all segments

abbrev Signed : List Ratio → Ends → Ratio → Segment → Type 0
Signed p ends x g =
    IsUnder g.start g.end × (g.start <ᵣ x → reduced p ends g.slope ≤ᵣ zero_ratio) × (IsUnder x g.end → zero_ratio ≤ᵣ reduced p ends g.slope)

signs : (p : List Ratio) (ends : Ends) (x start slope : Ratio) (end : Upper) (bands : List Band) → IsConvexFrom slope bands → IsAtMost x (last_end end bands) → IsKink p ends x (record { start = start; end = end; slope = slope }) → (IsUnder x end → zero_ratio ≤ᵣ reduced p ends slope) → AllByRecursion (IsKink p ends x) (segments_beyond end bands) → (start <ᵣ x → reduced p ends slope ≤ᵣ zero_ratio) × AllByRecursion (Signed p ends x) (segments_beyond end bands)
signs p ends x start slope end [] convex within kink right kinks = ((λ h. kink.0 h within), tt)
signs p ends x start slope Infinite (b ∷ bs) convex within kink right kinks = ((λ h. kink.0 h tt), tt)
signs p ends x start slope (Finite e) (b ∷ bs) convex within kink right kinks =
    let rise : reduced p ends slope ≤ᵣ reduced p ends b.slope = minus_at_most (pull p ends) convex.0 in
    let next : IsUnder x (end_after e b.width) → zero_ratio ≤ᵣ reduced p ends b.slope =
    λ u. elim (below_or x e) [ inl inside ↦ ≤ᵣ_trans (right inside) rise | inr over ↦ kinks.0.1 over u ] in
    let rest = signs p ends x e b.slope (end_after e b.width) bs convex.2 within kinks.0 next kinks.1 in (
      (λ h. elim (below_or e x) [ inl past ↦ ≤ᵣ_trans rise (rest.0 past) | inr inside ↦ kink.0 h inside ]),
      ((under_end_after e b.width convex.1, rest.0, next), rest.1),
    )

-- ---- an amount is what it has in its segments

stretch : (x e slope : Ratio) (width : Upper) → IsUnder zero_ratio width → lesser x (Finite e) +ᵣ part e (end_after e width) slope x ≡ lesser x (end_after e width)
stretch x e slope width wide =
    elim (below_or e x) [
      | inl past ↦ rw (lesser_over x e (<ᵣ_is_≤ᵣ past), part_is e (end_after e width) slope x past) (add_back e (lesser x (end_after e width)))
      | inr inside ↦ rw (lesser_under x e inside, part_none e (end_after e width) slope x inside)
          (+ᵣ-zero x ∙ sym (still (end_after e width) (under_is_at_most x (end_after e width) (under_after x e (end_after e width) inside (under_end_after e width wide)))))
    ]
  where
    still : (end : Upper) → IsAtMost x end → lesser x end ≡ x
    still Infinite h = refl
    still (Finite u) h = lesser_under x u h

pub parts_are : (x slope : Ratio) (end : Upper) (bands : List Band) → IsConvexFrom slope bands → IsAtMost x (last_end end bands) → lesser x end +ᵣ sum (λ g. amount_in g x) (segments_beyond end bands) ≡ x
parts_are x slope Infinite [] convex within = +ᵣ-zero x
parts_are x slope (Finite e) [] convex within = +ᵣ-zero (lesser x (Finite e)) ∙ lesser_under x e within
parts_are x slope Infinite (b ∷ bs) convex within = +ᵣ-zero x
parts_are x slope (Finite e) (b ∷ bs) convex within =
    sym (+ᵣ_assoc _ _ _) ∙ rw (stretch x e b.slope b.width convex.1) (parts_are x b.slope (end_after e b.width) bs convex.2 within)

-- ---- what an amount costs beyond a price

-- the cost of an amount with each slope less q
abbrev pub cost_beyond : Ratio → Stage → Ratio → Ratio
cost_beyond q s x = (s.cost -ᵣ q) *ᵣ lesser x s.upper +ᵣ total (λ g. (g.slope -ᵣ q) *ᵣ amount_in g x) (segments_beyond s.upper s.bands)

pub cost_beyond_is : (q : Ratio) (s : Stage) (x : Ratio) → IsValid s → IsAtMost x (last_end s.upper s.bands) → cost_at s x ≡ cost_beyond q s x +ᵣ q *ᵣ x
cost_beyond_is q s x valid within =
    let gs = segments_beyond s.upper s.bands in
    ap₂ (λ a b. a +ᵣ b) (split_by s.cost q (lesser x s.upper))
    (total_each gs (λ g. split_by g.slope q (amount_in g x)) ∙ total-+ᵣ (λ g. (g.slope -ᵣ q) *ᵣ amount_in g x) (λ g. q *ᵣ amount_in g x) gs)
    ∙ +ᵣ_middle _ _ _ _
    ∙ ap (λ r. cost_beyond q s x +ᵣ r)
    (rw (← *ᵣ-total (λ g. amount_in g x) q gs, ← *ᵣ-+ᵣ q (lesser x s.upper) (total (λ g. amount_in g x) gs), total_is (λ g. amount_in g x) gs, parts_are x s.cost s.upper s.bands valid.1 within) refl)

-- the cost of an amount with reduced slopes
abbrev net_cost : List Ratio → Stage → Ratio → Ratio
net_cost p s x =
    reduced p s.ends s.cost *ᵣ lesser x s.upper +ᵣ total (λ g. reduced p s.ends g.slope *ᵣ amount_in g x) (segments_beyond s.upper s.bands)

cost_at_is : (p : List Ratio) (s : Stage) (x : Ratio) → IsValid s → IsAtMost x (last_end s.upper s.bands) → cost_at s x ≡ net_cost p s x +ᵣ pull p s.ends *ᵣ x
cost_at_is p s x valid within = cost_beyond_is (pull p s.ends) s x valid within

parts_least : (p : List Ratio) (ends : Ends) (x y : Ratio) (gs : List Segment) → AllByRecursion (Signed p ends x) gs → sum (λ g. reduced p ends g.slope *ᵣ amount_in g x) gs ≤ᵣ sum (λ g. reduced p ends g.slope *ᵣ amount_in g y) gs
parts_least p ends x y [] h = ≤ᵣ_refl zero_ratio
parts_least p ends x y (g ∷ gs) h =
    +ᵣ_at_most (part_least (reduced p ends g.slope) g.start g.end g.slope x y h.0.0 h.0.1 h.0.2) (parts_least p ends x y gs h.1)

net_cost_least : (p : List Ratio) (s : Stage) (x y : Ratio) → IsValid s → IsWithin (hull s) x → AllByRecursion (IsKink p s.ends x) (segments s) → IsWithin (hull s) y → net_cost p s x ≤ᵣ net_cost p s y
net_cost_least p s x y valid within kinks k =
    let gs = segments_beyond s.upper s.bands in
    let right : IsUnder x s.upper → zero_ratio ≤ᵣ reduced p s.ends s.cost = kinks.0.1 within.0 in
    let signed = signs p s.ends x s.lower s.cost s.upper s.bands valid.1 within.1 kinks.0 right kinks.1 in
    +ᵣ_at_most (first_least (reduced p s.ends s.cost) s.lower s.upper x y k.0 valid.0 signed.0 right)
    (rw (total_is (λ g. reduced p s.ends g.slope *ᵣ amount_in g x) gs, total_is (λ g. reduced p s.ends g.slope *ᵣ amount_in g y) gs) (parts_least p s.ends x y gs signed.1))

-- ---- whole plans

both : {X : Type 0} (P Q : X → Type 0) (xs : List X) → All P xs → All Q xs → All (λ x. P x × Q x) xs
both P Q xs f g = λ k d h. (f k d h, g k d h)

weaker : {X : Type 0} (P Q : X → Type 0) (xs : List X) → ((x : X) → P x → Q x) → All P xs → All Q xs
weaker P Q xs f g = λ k d h. f _ (g k d h)

-- the price of the amounts is the worth of the supply
price_is : (supply : List Ratio) (stages : List Stage) (p x : List Ratio) → length p ≡ length supply → StagesFeasible supply stages x → total (λ (s, q). pull p s.ends *ᵣ q) (zip stages x) ≡ total (λ (v, potential). potential *ᵣ at supply v) (enumerate_from 0 p)
price_is supply stages p x e f =
    sym (total_zip_map (λ (a, q). pull p a.ends *ᵣ q) hull stages x)
    ∙ exchange (λ (a, q). q) (λ (a, q) (v, potential). coefficient a.ends v) (λ (v, potential). potential) (zip (map hull stages) x) (enumerate_from 0 p)
    ∙ worth_of_balance (hull_net supply stages) p x e f

stages_cost_is : (supply : List Ratio) (stages : List Stage) (p x : List Ratio) → length p ≡ length supply → All IsValid stages → StagesFeasible supply stages x → stages_cost stages x ≡ total (λ (s, q). net_cost p s q) (zip stages x) +ᵣ total (λ (v, potential). potential *ᵣ at supply v) (enumerate_from 0 p)
stages_cost_is supply stages p x e valid f =
    total_same (λ (s, q). cost_at s q) (λ (s, q). net_cost p s q +ᵣ pull p s.ends *ᵣ q) (zip stages x)
    (weaker (λ (s, q). IsValid s × IsWithin (hull s) q) (λ (s, q). cost_at s q ≡ net_cost p s q +ᵣ pull p s.ends *ᵣ q) (zip stages x)
    (λ (s, q) h. cost_at_is p s q h.0 h.1.1)
    (both (λ (s, q). IsValid s) (λ (s, q). IsWithin (hull s) q) (zip stages x) (all_zip_left IsValid stages x valid) (all_zip_map (λ (a, q). IsWithin a q) hull stages x f.within)))
    ∙ total-+ᵣ (λ (s, q). net_cost p s q) (λ (s, q). pull p s.ends *ᵣ q) (zip stages x)
    ∙ ap (λ r. total (λ (s, q). net_cost p s q) (zip stages x) +ᵣ r) (price_is supply stages p x e f)

pub stages_duality : (supply : List Ratio) (stages : List Stage) (p x : List Ratio) → All IsValid stages → StagesFeasible supply stages x → StagesShow supply stages p x → StagesLeast supply stages x
stages_duality supply stages p x valid f shows = record {
  feasible = f;
  least = λ y g.
      let within = λ (z : List Ratio) (h : StagesFeasible supply stages z). all_zip_map (λ (a, q). IsWithin a q) hull stages z h.within in
      rw (stages_cost_is supply stages p x shows.one_each valid f, stages_cost_is supply stages p y shows.one_each valid g)
      (+ᵣ_at_most
      (total_zip_at_most (λ (s, q). net_cost p s q) (λ (s, q). net_cost p s q)
      (λ (s, q). (IsValid s × IsWithin (hull s) q) × All (IsKink p s.ends q) (segments s)) (λ (s, q). IsWithin (hull s) q)
      (λ s q r h k. net_cost_least p s q r h.0.0 h.0.1 (recursion_from_All (IsKink p s.ends q) (segments s) h.1) k)
      stages x y (f.one_each ∙ length-map hull stages) (g.one_each ∙ length-map hull stages)
      (both (λ (s, q). IsValid s × IsWithin (hull s) q) (λ (s, q). All (IsKink p s.ends q) (segments s)) (zip stages x)
      (both (λ (s, q). IsValid s) (λ (s, q). IsWithin (hull s) q) (zip stages x) (all_zip_left IsValid stages x valid) (within x f)) shows.slopes)
      (within y g))
      (≤ᵣ_refl (total (λ (v, potential). potential *ᵣ at supply v) (enumerate_from 0 p))));
}
