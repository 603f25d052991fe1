use Rattle.certificates.proofs.Outcomes.{optimal_flows, optimal_feasible, optimal_shown, optimal_log, infeasible_prices, infeasible_log, unbounded_flows, unbounded_ray, unbounded_amounts, unbounded_log, budget_fits, overflow_fits}
use Rattle.certificates.proofs.certifying.certify.Goals as goal

pub gathered-requires : goal.gathered-requires
gathered-requires c =
    optimal_flows c.args.scheme.now c.args.expanded.now.staged c.requires.expanded c.args.outcome.now c.requires.ended c.in-Optimal.flows c.in-Optimal.potentials c.in-Optimal.log c.in-Optimal.is c.ended_outcomes.ensures.parts

pub optimal-requires-clause-feasible : goal.optimal-requires-clause-feasible
optimal-requires-clause-feasible c =
    optimal_feasible c.args.scheme.now c.args.expanded.now.staged c.requires.expanded c.args.outcome.now c.requires.ended c.in-Optimal.flows c.in-Optimal.potentials c.in-Optimal.log c.in-Optimal.is c.ended_outcomes.ensures.optimal c.in_ok-amounts-in-Optimal.amounts c.in_ok-amounts-in-Optimal.ensures.exact

pub optimal-requires-clause-shown : goal.optimal-requires-clause-shown
optimal-requires-clause-shown c =
    optimal_shown c.args.scheme.now c.args.expanded.now.staged c.requires.expanded c.args.outcome.now c.requires.ended c.in-Optimal.flows c.in-Optimal.potentials c.in-Optimal.log c.in-Optimal.is c.ended_outcomes.ensures.optimal c.in_ok-amounts-in-Optimal.amounts c.in_ok-prices-in-Optimal.prices c.in_ok-amounts-in-Optimal.ensures.exact c.in_ok-prices-in-Optimal.ensures

pub infeasible-requires : goal.infeasible-requires
infeasible-requires c =
    infeasible_prices c.args.scheme.now c.args.expanded.now.staged c.requires.expanded c.args.outcome.now c.requires.ended c.in-Infeasible.potentials c.in-Infeasible.log c.in-Infeasible.is c.ended_outcomes.ensures.infeasible c.in_ok-prices-in-Infeasible.prices c.in_ok-prices-in-Infeasible.ensures

pub gathered-requires-in-Unbounded : goal.gathered-requires-in-Unbounded
gathered-requires-in-Unbounded c =
    unbounded_flows c.args.scheme.now c.args.expanded.now.staged c.requires.expanded c.args.outcome.now c.requires.ended c.in-Unbounded.flows c.in-Unbounded.ray c.in-Unbounded.log c.in-Unbounded.is c.ended_outcomes.ensures.parts

pub gathered-requires-in-Unbounded-2 : goal.gathered-requires-in-Unbounded-2
gathered-requires-in-Unbounded-2 c =
    unbounded_ray c.args.scheme.now c.args.expanded.now.staged c.requires.expanded c.args.outcome.now c.requires.ended c.in-Unbounded.flows c.in-Unbounded.ray c.in-Unbounded.log c.in-Unbounded.is c.ended_outcomes.ensures.parts

pub unbounded-requires : goal.unbounded-requires
unbounded-requires c =
    unbounded_amounts c.args.scheme.now c.args.expanded.now.staged c.requires.expanded c.args.outcome.now c.requires.ended c.in-Unbounded.flows c.in-Unbounded.ray c.in-Unbounded.log c.in-Unbounded.is c.ended_outcomes.ensures.unbounded c.in_ok-amounts-in-Unbounded.amounts c.in_ok-ray-in-Unbounded.ray c.in_ok-amounts-in-Unbounded.ensures.exact c.in_ok-ray-in-Unbounded.ensures.exact

pub returns-in_ok-log-in-Optimal-clause-fits : goal.returns-in_ok-log-in-Optimal-clause-fits
returns-in_ok-log-in-Optimal-clause-fits c within =
    c.optimal.ensures.fits (optimal_log c.args.scheme.now c.args.expanded.now.staged c.requires.expanded c.args.outcome.now c.requires.ended c.in-Optimal.flows c.in-Optimal.potentials c.in-Optimal.log c.in-Optimal.is c.ended_outcomes.ensures.log within c.in_ok-log-in-Optimal.log c.in_ok-log-in-Optimal.ensures)

pub returns-in_ok-log-in-Infeasible-clause-fits : goal.returns-in_ok-log-in-Infeasible-clause-fits
returns-in_ok-log-in-Infeasible-clause-fits c within =
    c.infeasible.ensures.fits (infeasible_log c.args.scheme.now c.args.expanded.now.staged c.requires.expanded c.args.outcome.now c.requires.ended c.in-Infeasible.potentials c.in-Infeasible.log c.in-Infeasible.is c.ended_outcomes.ensures.log within c.in_ok-log-in-Infeasible.log c.in_ok-log-in-Infeasible.ensures)

pub returns-in_ok-log-in-Unbounded-clause-fits : goal.returns-in_ok-log-in-Unbounded-clause-fits
returns-in_ok-log-in-Unbounded-clause-fits c within =
    c.unbounded.ensures.fits (unbounded_log c.args.scheme.now c.args.expanded.now.staged c.requires.expanded c.args.outcome.now c.requires.ended c.in-Unbounded.flows c.in-Unbounded.ray c.in-Unbounded.log c.in-Unbounded.is c.ended_outcomes.ensures.log within c.in_ok-log-in-Unbounded.log c.in_ok-log-in-Unbounded.ensures)

pub returns-in_ok-log-in-Budget-clause-fits : goal.returns-in_ok-log-in-Budget-clause-fits
returns-in_ok-log-in-Budget-clause-fits c within =
    rw c.out_of_budget.ensures (budget_fits c.args.scheme.now c.args.expanded.now.staged c.requires.expanded c.args.outcome.now c.requires.ended c.ended_outcomes.ensures.parts c.ended_outcomes.ensures.log within c.in-Budget.arc c.in-Budget.log c.in_ok-log-in-Budget.log c.in-Budget.is c.in_ok-log-in-Budget.ensures)

pub returns-in_ok-log-in-Overflow-clause-fits : goal.returns-in_ok-log-in-Overflow-clause-fits
returns-in_ok-log-in-Overflow-clause-fits c within =
    rw c.overflowed.ensures (overflow_fits c.args.scheme.now c.args.expanded.now.staged c.requires.expanded c.args.outcome.now c.requires.ended c.ended_outcomes.ensures.parts c.ended_outcomes.ensures.log within c.in-Overflow.overflow c.in-Overflow.log c.in_ok-log-in-Overflow.log c.in-Overflow.is c.in_ok-log-in-Overflow.ensures)
