-- The staged arcs of a scheme, of which each is valid, and the laws of schemes.
use Rattle.std.specs.Prelude.{◌≡◌, ℕ, ◌+◌, ◌<◌, ◌≤◌, ◌==◌, ◌&&◌, Bool, true, false, if◌then◌else◌, Some, None, List, [], ◌∷◌, ◌++◌, length, zero, suc}
use Rattle.std.specs.List.{All, AllByRecursion, cons_option, flat_map, filter_map, range_with_len, enumerate_from}
use Rattle.std.proofs.Common.{refl, arith, le_refl}
use Rattle.std.proofs.lemmas.List.Elements.{recursion_from_All, All-from_recursion}
use Rattle.np_model.specs.declared.scheme.Flow.{Flow}
use Rattle.np_model.specs.declared.scheme.Scheme.{Scheme}
use Rattle.np_model.specs.Scheme.Valid.{IsSound}
use Rattle.np_model.specs.Scheme.Segments.{Stage, IsValid}
use Rattle.np_model.specs.Scheme.Convex.{hull_net}
use Rattle.np_model.specs.Scheme.Kinds.{is_hold}
use Rattle.np_model.specs.Scheme.Plans.{stage_in, stage_of, staged, PricesProve, PricesExclude, RaysProve}
use Rattle.np_model.proofs.Certificates.{no_plan}
use Rattle.np_model.proofs.Convex.{stages_duality}
use Rattle.np_model.proofs.ConvexRays.{stages_fall}

all_append : {A : Type 0} (P : A → Type 0) (xs ys : List A) → AllByRecursion P xs → AllByRecursion P ys → AllByRecursion P (xs ++ ys)
all_append P [] ys h k = k
all_append P (x ∷ xs) ys h k = (h.0, all_append P xs ys h.1 k)

-- what holds of each staged arc, where it holds of each flow in each period; there are so many flows
module _ (P : Stage → Type 0) (periods k count : ℕ) (Q : Flow → Type 0) where
  -- of each flow in this period
  abbrev Holds : ℕ → Type 0
  Holds period = (number : ℕ) (f : Flow) → number < count → Q f → (is_hold f.kind && (period == periods)) ≡ false → P (stage_in k period (number, f))

  by_hold : (period i : ℕ) (f : Flow) (rest : List Stage) (b : Bool) → (is_hold f.kind && (period == periods)) ≡ b → Holds period → i < count → Q f → AllByRecursion P rest
      → AllByRecursion P (cons_option (if b then None else Some (stage_in k period (i, f))) rest)
  by_hold period i f rest true e h below q more = more
  by_hold period i f rest false e h below q more = (h i f below q e, more)

  in_period : (period i : ℕ) (flows : List Flow) → i + length flows ≤ count → Holds period → AllByRecursion Q flows → AllByRecursion P (filter_map (stage_of periods k period) (enumerate_from i flows))
  in_period period i [] within h q = tt
  in_period period i (f ∷ flows) within h q =
      by_hold period i f (filter_map (stage_of periods k period) (enumerate_from (i + 1) flows)) (is_hold f.kind && (period == periods)) refl h (omega arith) q.0
      (in_period period (i + 1) flows (omega arith) h q.1)

  in_periods : (from n : ℕ) (flows : List Flow) → length flows ≤ count → ((period : ℕ) → from ≤ period → period < from + n → Holds period) → AllByRecursion Q flows
      → AllByRecursion P (flat_map (λ period. filter_map (stage_of periods k period) (enumerate_from 0 flows)) (range_with_len from n))
  in_periods from zero flows within h q = tt
  in_periods from (suc n) flows within h q =
      all_append P (filter_map (stage_of periods k from) (enumerate_from 0 flows)) _ (in_period from 0 flows (omega arith) (h from (le_refl from) (omega arith)) q)
      (in_periods (from + 1) n flows within (λ period low high. h period (omega arith) (omega arith)) q)

-- what holds of each sound flow in each period, but for holds in the last, holds of each staged arc
pub staged_each : (P : Stage → Type 0) (scheme : Scheme)
    → ((period number : ℕ) (f : Flow) → 0 < period → period ≤ scheme.periods → number < length scheme.flows → IsSound (length scheme.nodes) f → (is_hold f.kind && (period == scheme.periods)) ≡ false
    → P (stage_in (length scheme.nodes) period (number, f)))
    → All P (staged scheme)
staged_each P scheme h =
    All-from_recursion P (staged scheme)
    (in_periods P scheme.periods (length scheme.nodes) (length scheme.flows) (IsSound (length scheme.nodes)) 1 scheme.periods scheme.flows (le_refl (length scheme.flows))
    (λ period low high number f. h period number f (omega arith) (omega arith))
    (recursion_from_All (IsSound (length scheme.nodes)) scheme.flows scheme.valid.sound))

pub staged_valid : (scheme : Scheme) → All IsValid (staged scheme)
staged_valid scheme = staged_each IsValid scheme (λ period number f low high below sound there. (sound.bounds, sound.convex))

pub prices_prove : PricesProve
prices_prove scheme p x feasible shows = stages_duality scheme.supply (staged scheme) p x (staged_valid scheme) feasible shows

pub prices_exclude : PricesExclude
prices_exclude scheme p forbids x feasible = no_plan (hull_net scheme.supply (staged scheme)) p forbids x feasible

pub rays_prove : RaysProve
rays_prove scheme x d ray c = stages_fall scheme.supply (staged scheme) x d (staged_valid scheme) ray c
