-- The amounts of a plan, flow by flow and period by period.
use Rattle.std.specs.Prelude.{nat_lt, ℕ, Option, Some, None, List, length, if◌then◌else◌}
use Rattle.np_frac.specs.Ratio.{Ratio}
use Rattle.np_model.specs.declared.scheme.FlowKind.{FlowKind}
use Rattle.np_model.specs.declared.scheme.Scheme.{Scheme}
use Rattle.np_model.specs.Scheme.Kinds.{periods_of}
use Rattle.certificates.specs.Claims.{place_with}
use Rattle.certificates.specs.Grammar.{amount_at}
use Rattle.std.specs.List.{filter_map, enumerate_from}

-- the amount of a flow with this number in a period, where it has an arc there
abbrev pub amount_in : List (Option Ratio) → Scheme → ℕ → ℕ → FlowKind → Option Ratio
amount_in given scheme period number kind =
    if nat_lt (periods_of scheme.periods kind) period then None
    else Some (amount_at given (place_with (length scheme.flows) period number))

-- the amounts of the flows in a period
abbrev pub period_amounts : List (Option Ratio) → Scheme → ℕ → List Ratio
period_amounts given scheme period =
    filter_map (λ (number, flow). amount_in given scheme period number flow.kind) (enumerate_from 0 scheme.flows)
