-- The staged arcs of a list of flows: what holds of each, and sums over them.
use Rattle.std.specs.Prelude.{◌≡◌, ◌≢◌, ℕ, zero, suc, ◌+◌, ◌<◌, ◌≤◌, ◌==◌, ◌&&◌, Bool, true, false, if◌then◌else◌, Some, None, List, [], ◌∷◌, ◌++◌}
use Rattle.std.specs.List.{AllByRecursion, cons_option, flat_map, filter_map, range_with_len, enumerate_from}
use Rattle.std.proofs.Common.{refl, sym, ap, ◌∙◌, arith, le_refl}
use Rattle.std.proofs.lemmas.Bool.Decides.{Decides-eqb}
use Rattle.np_frac.specs.Ratio.{Ratio, zero_ratio, ◌+ᵣ◌}
use Rattle.np_frac.proofs.RatioLaws.{+ᵣ_assoc, +ᵣ-zero, zero-+ᵣ}
use Rattle.np_frac.proofs.Sums.{sum}
use Rattle.np_model.specs.declared.arc.Ends.{Ends}
use Rattle.np_model.specs.declared.scheme.Flow.{Flow}
use Rattle.np_model.specs.Scheme.Kinds.{is_hold, ends_in}
use Rattle.np_model.specs.Scheme.Plans.{stage_in, stage_of}
use Rattle.np_model.specs.Scheme.Segments.{Stage}
use Rattle.demo_network.proofs.Lists.{all_joined}

-- those of these flows among k nodes
abbrev pub staged_of : ℕ → ℕ → List Flow → List Stage
staged_of periods k flows = flat_map (λ period. filter_map (stage_of periods k period) (enumerate_from 0 flows)) (range_with_len 1 periods)

-- ---- what holds of each

module _ (P : Stage → Type 0) (Q : Flow → Type 0) (periods k : ℕ) (each : (period number : ℕ) (f : Flow) → Q f → P (stage_in k period (number, f))) where
  by_hold : (period i : ℕ) (f : Flow) (rest : List Stage) (b : Bool) → Q f → AllByRecursion P rest → AllByRecursion P (cons_option (if b then None else Some (stage_in k period (i, f))) rest)
  by_hold period i f rest true q more = more
  by_hold period i f rest false q more = (each period i f q, more)

  in_period : (period i : ℕ) (flows : List Flow) → AllByRecursion Q flows → AllByRecursion P (filter_map (stage_of periods k period) (enumerate_from i flows))
  in_period period i [] q = tt
  in_period period i (f ∷ flows) q =
      by_hold period i f (filter_map (stage_of periods k period) (enumerate_from (i + 1) flows)) (is_hold f.kind && (period == periods)) q.0 (in_period period (i + 1) flows q.1)

  in_periods : (from n : ℕ) (flows : List Flow) → AllByRecursion Q flows → AllByRecursion P (flat_map (λ period. filter_map (stage_of periods k period) (enumerate_from 0 flows)) (range_with_len from n))
  in_periods from zero flows q = tt
  in_periods from (suc n) flows q =
      all_joined P (filter_map (stage_of periods k from) (enumerate_from 0 flows)) _ (in_period from 0 flows q) (in_periods (from + 1) n flows q)

pub staged_all : (P : Stage → Type 0) (Q : Flow → Type 0) (periods k : ℕ) (flows : List Flow) → ((period number : ℕ) (f : Flow) → Q f → P (stage_in k period (number, f))) → AllByRecursion Q flows
    → AllByRecursion P (staged_of periods k flows)
staged_all P Q periods k flows each q = in_periods P Q periods k each 1 periods flows q

-- ---- sums

pub sum_joined : {A : Type 0} (f : A → Ratio) (xs ys : List A) → sum f (xs ++ ys) ≡ sum f xs +ᵣ sum f ys
sum_joined f [] ys = sym (zero-+ᵣ (sum f ys))
sum_joined f (x ∷ xs) ys = rw (sum_joined f xs ys) (sym (+ᵣ_assoc (f x) (sum f xs) (sum f ys)))

pub sum_flat_map : {A B : Type 0} (f : B → Ratio) (g : A → List B) (xs : List A) → sum f (flat_map g xs) ≡ sum (λ x. sum f (g x)) xs
sum_flat_map f g [] = refl
sum_flat_map f g (x ∷ xs) = rw (sum_joined f (g x) (flat_map g xs), sum_flat_map f g xs) refl

-- one number of a range adds something, or none does
pub sum_none : (f : ℕ → Ratio) (a m : ℕ) → ((k : ℕ) → a ≤ k → k < a + m → f k ≡ zero_ratio) → sum f (range_with_len a m) ≡ zero_ratio
sum_none f a zero h = refl
sum_none f a (suc m) h = rw (h a (le_refl a) (omega arith), sum_none f (a + 1) m (λ k low high. h k (omega arith) (omega arith))) (zero-+ᵣ zero_ratio)

here_or_later : (f : ℕ → Ratio) (c : Ratio) (a j : ℕ) (rest : Ratio) (b : Bool) → (a == j) ≡ b → (a ≡ j → f a ≡ c) → (a ≡ j → rest ≡ zero_ratio) → (a ≢ j → f a ≡ zero_ratio) → (a ≢ j → rest ≡ c) → f a +ᵣ rest ≡ c
here_or_later f c a j rest true e here none h i =
    let same = (Decides-eqb a j).0 e in
    rw (here same, none same) (+ᵣ-zero c)
here_or_later f c a j rest false e h i nothing later =
    let differs : a ≢ j = λ q. absurd (cc (sym e ∙ (Decides-eqb a j).1 q)) in
    rw (nothing differs, later differs) (zero-+ᵣ c)

pub sum_one : (f : ℕ → Ratio) (c : Ratio) (a m j : ℕ) → a ≤ j → j < a + m → f j ≡ c → ((k : ℕ) → a ≤ k → k < a + m → k ≢ j → f k ≡ zero_ratio) → sum f (range_with_len a m) ≡ c
sum_one f c a zero j low high here others = absurd (omega arith)
sum_one f c a (suc m) j low high here others =
    here_or_later f c a j (sum f (range_with_len (a + 1) m)) (a == j) refl (λ same. ap f same ∙ here)
    (λ same. sum_none f (a + 1) m (λ k low' high'. others k (omega arith) (omega arith) (λ q. absurd (omega arith))))
    (λ differs. others a (le_refl a) (omega arith) differs)
    (λ differs. sum_one f c (a + 1) m j (omega arith) (omega arith) here (λ k low' high' differs'. others k (omega arith) (omega arith) differs'))

-- the sum over the staged arcs of what their ends tell, where holds add nothing
module _ (term : Ends → Ratio) (periods k : ℕ) (nothing : (period : ℕ) (f : Flow) → is_hold f.kind ≡ true → term (ends_in k period f.kind) ≡ zero_ratio) where
  abbrev own : ℕ → Flow → Ratio
  own period f = term (ends_in k period f.kind)

  sum_by_hold : (period i : ℕ) (f : Flow) (rest : List Stage) (s : Ratio) (b c : Bool) → is_hold f.kind ≡ b → sum (λ (g : Stage). term g.ends) rest ≡ s
      → sum (λ (g : Stage). term g.ends) (cons_option (if (b && c) then None else Some (stage_in k period (i, f))) rest) ≡ own period f +ᵣ s
  sum_by_hold period i f rest s true true e same = rw (nothing period f e, zero-+ᵣ s) same
  sum_by_hold period i f rest s true false e same = ap (λ (r : Ratio). own period f +ᵣ r) same
  sum_by_hold period i f rest s false c e same = ap (λ (r : Ratio). own period f +ᵣ r) same

  sum_in_period : (period i : ℕ) (flows : List Flow) → sum (λ (g : Stage). term g.ends) (filter_map (stage_of periods k period) (enumerate_from i flows)) ≡ sum (own period) flows
  sum_in_period period i [] = refl
  sum_in_period period i (f ∷ flows) =
      sum_by_hold period i f (filter_map (stage_of periods k period) (enumerate_from (i + 1) flows)) (sum (own period) flows) (is_hold f.kind) (period == periods) refl (sum_in_period period (i + 1) flows)

pub sum_staged : (term : Ends → Ratio) (periods k : ℕ) (flows : List Flow) → ((period : ℕ) (f : Flow) → is_hold f.kind ≡ true → term (ends_in k period f.kind) ≡ zero_ratio)
    → sum (λ (g : Stage). term g.ends) (staged_of periods k flows) ≡ sum (λ period. sum (λ (f : Flow). term (ends_in k period f.kind)) flows) (range_with_len 1 periods)
sum_staged term periods k flows nothing =
    sum_flat_map (λ (g : Stage). term g.ends) (λ period. filter_map (stage_of periods k period) (enumerate_from 0 flows)) (range_with_len 1 periods)
    ∙ (λ i. sum (λ period. sum_in_period term periods k nothing period 0 flows i) (range_with_len 1 periods))
