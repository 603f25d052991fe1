-- What is gathered is exact, stands by place, and balances as the flows do.
use Rattle.std.specs.Prelude.{◌≡◌, ℕ, zero, suc, ◌+◌, ◌≤◌, Result, Some, Ok, Err, List, [], ◌∷◌, ◌++◌, length, map, take, drop, fold}
use Rattle.std.specs.List.{zip}
use Rattle.std.proofs.Common.{refl, arith, sym, ap, ◌∙◌}
use Rattle.std.proofs.lemmas.List.{length-append, length-map, length-take-le, length-drop, drop-drop}
use Rattle.std.proofs.lemmas.List.Sums.{sum_by-cons}
use Rattle.np_frac.specs.Ratio.{Ratio, zero_ratio, ◌+ᵣ◌, ◌*ᵣ◌, total}
use Rattle.np_frac.specs.Exact.{◌▷◌, plus_of}
use Rattle.np_frac.specs.declared.frac.Past.{Past}
use Rattle.np_frac.proofs.RatioLaws.{+ᵣ_assoc, zero-+ᵣ, *ᵣ-+ᵣ, *ᵣ-zero}
use Rattle.np_frac.proofs.Sums.{sum, total_is}
use Rattle.np_frac.proofs.Exactness.{plus_exact}
use Rattle.np_model.proofs.Balance.{balance-is}
use Rattle.np_model.specs.declared.arc.Ends.{Ends}
use Rattle.np_model.specs.declared.arc.NetArc.{NetArc}
use Rattle.np_model.specs.declared.scheme.Band.{Band}
use Rattle.np_model.specs.Network.Arcs.{coefficient}
use Rattle.np_model.specs.Scheme.Segments.{Stage, hull}
use Rattle.period_expand.specs.Expansion.{segment_count}
use Rattle.convex_arcs.specs.Segments.{band_arc, segment_arcs, flat_arcs, segments_before}
use Rattle.convex_arcs.specs.Gathered.{sum_from, gathered, amounts_of, GatheredIsExact, AmountsByPlace, AmountsBalance}

-- ---- exact

added : (r y x : Ratio) (ys : List Ratio) (found : Result Ratio Past) → ((s : Ratio) → found ≡ Ok s → s ≡ r +ᵣ y) →
    ((s : Ratio) → sum_from s ys ≡ Ok x → x ≡ fold (λ sum flow. sum +ᵣ flow) s ys) → (found ▷ λ s. sum_from s ys) ≡ Ok x → x ≡ fold (λ sum flow. sum +ᵣ flow) (r +ᵣ y) ys
added r y x ys (Ok s) exact rest h = rest s h ∙ ap (λ t. fold (λ sum flow. sum +ᵣ flow) t ys) (exact s refl)
added r y x ys (Err past) exact rest h = absurd (cc h)

sum_exact : (r : Ratio) (ys : List Ratio) (x : Ratio) → sum_from r ys ≡ Ok x → x ≡ fold (λ sum flow. sum +ᵣ flow) r ys
sum_exact r [] x h = cc
sum_exact r (y ∷ ys) x h = added r y x ys (plus_of r y) (λ s e. plus_exact r y s e) (λ s e. sum_exact s ys x e) h

joined : (one : Ratio) (rest amounts : List Ratio) (first : Result Ratio Past) (later : Result (List Ratio) Past) → ((x : Ratio) → first ≡ Ok x → x ≡ one) →
    ((xs : List Ratio) → later ≡ Ok xs → xs ≡ rest) → (first ▷ λ x. later ▷ λ xs. Ok (x ∷ xs)) ≡ Ok amounts → amounts ≡ one ∷ rest
joined one rest amounts (Ok x) (Ok xs) f g h =
    let same : amounts ≡ x ∷ xs = cc in
    same ∙ ap (λ y. y ∷ xs) (f x refl) ∙ ap (λ ys. one ∷ ys) (g xs refl)
joined one rest amounts (Ok x) (Err past) f g h = absurd (cc h)
joined one rest amounts (Err past) later f g h = absurd (cc h)

pub is_exact : GatheredIsExact
is_exact [] flows amounts h = cc
is_exact (s ∷ stages) flows amounts h =
    joined (total (λ flow. flow) (take (segment_count s) flows)) (amounts_of stages (drop (segment_count s) flows)) amounts
    (sum_from zero_ratio (take (segment_count s) flows)) (gathered stages (drop (segment_count s) flows))
    (λ x e. sum_exact zero_ratio (take (segment_count s) flows) x e) (λ xs e. is_exact stages (drop (segment_count s) flows) xs e) h

-- ---- by place

pub by_place : AmountsByPlace
by_place [] flows number s e = absurd (cc e)
by_place (t ∷ stages) flows zero s e =
    let same : t ≡ s = cc in
    ap (λ (u : Stage). Some (total (λ flow. flow) (take (segment_count u) flows))) same
by_place (t ∷ stages) flows (suc number) s e =
    let next : segment_count t + segments_before stages number ≡ segments_before (t ∷ stages) (suc number) = sym (sum_by-cons segment_count t (take number stages)) in
    by_place stages (drop (segment_count t) flows) number s e
    ∙ ap (λ ys. Some (total (λ flow. flow) (take (segment_count s) ys))) (drop-drop (segments_before stages number) (segment_count t) flows ∙ ap (λ (n : ℕ). drop n flows) next)

-- ---- balance

abbrev carried : ℕ → NetArc × Ratio → Ratio
carried v (a, q) = coefficient a.ends v *ᵣ q

bands_carry : (v : ℕ) (ends : Ends) (bands : List Band) (xs : List Ratio) → length xs ≡ length bands →
    sum (carried v) (zip (map (band_arc ends) bands) xs) ≡ coefficient ends v *ᵣ sum (λ x. x) xs
bands_carry v ends [] [] h = sym (*ᵣ-zero (coefficient ends v))
bands_carry v ends [] (x ∷ xs) h = absurd (omega (arith, h))
bands_carry v ends (band ∷ bands) [] h = absurd (omega (arith, h))
bands_carry v ends (band ∷ bands) (x ∷ xs) h =
    ap (λ r. coefficient ends v *ᵣ x +ᵣ r) (bands_carry v ends bands xs (omega (arith, h))) ∙ sym (*ᵣ-+ᵣ (coefficient ends v) x (sum (λ x. x) xs))

segments_carry : (v : ℕ) (s : Stage) (xs : List Ratio) → length xs ≡ segment_count s →
    sum (carried v) (zip (segment_arcs s) xs) ≡ coefficient s.ends v *ᵣ sum (λ x. x) xs
segments_carry v s [] h = absurd (omega (arith, h))
segments_carry v s (x ∷ xs) h =
    ap (λ r. coefficient s.ends v *ᵣ x +ᵣ r) (bands_carry v s.ends s.bands xs (omega (arith, h))) ∙ sym (*ᵣ-+ᵣ (coefficient s.ends v) x (sum (λ x. x) xs))

-- a sum along two lists is split where the first of them is
pub sum_split : {A : Type 0} (f : A × Ratio → Ratio) (before after : List A) (xs : List Ratio) → length before ≤ length xs →
    sum f (zip (before ++ after) xs) ≡ sum f (zip before (take (length before) xs)) +ᵣ sum f (zip after (drop (length before) xs))
sum_split f [] after xs h = sym (zero-+ᵣ (sum f (zip after xs)))
sum_split f (a ∷ before) after [] h = absurd (omega (arith, h))
sum_split f (a ∷ before) after (x ∷ xs) h =
    ap (λ r. f (a, x) +ᵣ r) (sum_split f before after xs (omega (arith, h)))
    ∙ sym (+ᵣ_assoc (f (a, x)) (sum f (zip before (take (length before) xs))) (sum f (zip after (drop (length before) xs))))

sums_balance : (v : ℕ) (stages : List Stage) (flows : List Ratio) → length flows ≡ length (flat_arcs stages) →
    sum (carried v) (zip (map hull stages) (amounts_of stages flows)) ≡ sum (carried v) (zip (flat_arcs stages) flows)
sums_balance v [] flows h = refl
sums_balance v (s ∷ stages) flows h =
    let size : length (segment_arcs s) ≡ segment_count s = omega (arith, length-map s.bands (band_arc s.ends)) in
    let whole : length flows ≡ length (segment_arcs s) + length (flat_arcs stages) = h ∙ length-append (segment_arcs s) (flat_arcs stages) in
    let own : length (take (segment_count s) flows) ≡ segment_count s = length-take-le (segment_count s) flows (omega arith) in
    let later : length (drop (segment_count s) flows) ≡ length (flat_arcs stages) = omega (arith, length-drop (segment_count s) flows) in
    let rest = sum (carried v) (zip (map hull stages) (amounts_of stages (drop (segment_count s) flows))) in
    ap (λ t. coefficient s.ends v *ᵣ t +ᵣ rest) (total_is (λ flow. flow) (take (segment_count s) flows))
    ∙ ap (λ r. r +ᵣ rest) (sym (segments_carry v s (take (segment_count s) flows) own))
    ∙ ap (λ r. sum (carried v) (zip (segment_arcs s) (take (segment_count s) flows)) +ᵣ r) (sums_balance v stages (drop (segment_count s) flows) later)
    ∙ ap (λ (n : ℕ). sum (carried v) (zip (segment_arcs s) (take n flows)) +ᵣ sum (carried v) (zip (flat_arcs stages) (drop n flows))) (sym size)
    ∙ sym (sum_split (carried v) (segment_arcs s) (flat_arcs stages) flows (omega arith))

pub balances : AmountsBalance
balances stages flows h v =
    balance-is (map hull stages) (amounts_of stages flows) v
    ∙ total_is (carried v) (zip (map hull stages) (amounts_of stages flows)) ∙ sums_balance v stages flows h ∙ sym (total_is (carried v) (zip (flat_arcs stages) flows))
    ∙ sym (balance-is (flat_arcs stages) flows v)
