-- What a plan of a scheme may speak of is not too much.
use Rattle.std.specs.Prelude.{ℕ, ◌*◌, ◌<◌, ◌≤◌, List, [], ◌∷◌, length, map, zero, suc}
use Rattle.std.specs.List.{All}
use Rattle.std.proofs.Common.{sym, ◌∙◌, arith}
use Rattle.std.proofs.lemmas.List.{length-map}
use Rattle.std.proofs.lemmas.List.Elements.{All-nil, All-cons}
use Rattle.np_model.specs.declared.scheme.Flow.{Flow}
use Rattle.np_model.specs.declared.scheme.FlowKind.{FlowKind}
use Rattle.np_model.specs.declared.scheme.FlowKind.TheVariants.{Link, Hold, Drain, Feed}
use Rattle.np_model.specs.declared.scheme.Scheme.{Scheme}
use Rattle.np_model.specs.Scheme.Kinds.{periods_of}
use Rattle.certificates.specs.Claims.{outline_of}
use Rattle.certificates.specs.Steps.Claims.{IsOutline}

few-periods : (periods : ℕ) (kind : FlowKind) → periods_of periods kind ≤ periods
few-periods periods (Link from to gain) = omega arith
few-periods periods (Hold node gain) = omega arith
few-periods periods (Drain node) = omega arith
few-periods periods (Feed node) = omega arith

last-few : (periods : ℕ) (flows : List Flow) → All (λ last. last ≤ periods) (map (λ flow. periods_of periods flow.kind) flows)
last-few periods [] = All-nil (λ last. last ≤ periods)
last-few periods (f ∷ fs) = All-cons (λ last. last ≤ periods) (periods_of periods f.kind) (map (λ flow. periods_of periods flow.kind) fs) (few-periods periods f.kind) (last-few periods fs)

le-times : (n k m : ℕ) → 0 < k → n * k ≤ m → n ≤ m
le-times n zero m h l = absurd (omega arith)
le-times n (suc k) m h l = omega arith

pub outline-is : (scheme : Scheme) → IsOutline (outline_of scheme)
outline-is scheme =
    let names = length-map scheme.flows (λ (f : Flow). f.name) in
    let nodes = le-times (length scheme.nodes) scheme.periods 20000 scheme.valid.some_period scheme.valid.few_nodes in
    let flows = scheme.valid.few_flows in
    record {
      few_nodes = omega arith;
      few_flows = omega arith;
      one_each = length-map scheme.flows (λ (f : Flow). periods_of scheme.periods f.kind) ∙ sym names;
      within = last-few scheme.periods scheme.flows;
      few_periods = scheme.valid.few_periods;
    }
