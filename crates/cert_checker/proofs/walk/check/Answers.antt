use Rattle.std.proofs.Common.{◌∙◌, sym, inl, inr}
use Rattle.np_model.specs.declared.plan.Verdict.TheVariants as verdict
use Rattle.cert_checker.proofs.First.{as_meant}
use Rattle.cert_checker.proofs.Verdicts.{proves_by_walk}
use Rattle.cert_checker.proofs.Whole.{walk_of}
use Rattle.cert_checker.proofs.walk.check.Goals as goal

pub returns-in-Budget-clause-walk : goal.returns-in-Budget-clause-walk
returns-in-Budget-clause-walk c =
    as_meant c.uncertified.result _
    (c.uncertified.ensures
    ∙ elim c.in-Budget.is [
      | inl e ↦ sym (walk_of c.args.scheme.now c.args.plan.now verdict.Budget e)
      | inr e ↦ sym (walk_of c.args.scheme.now c.args.plan.now verdict.Overflow e)
    ])

pub returns-in-Optimal-clause-proves : goal.returns-in-Optimal-clause-proves
returns-in-Optimal-clause-proves c = proves_by_walk c.walk_proves.ensures c.args.scheme.now c.args.plan.now c.check_optimal.result c.requires.fits c.check_optimal.ensures.walk

pub returns-in-Infeasible-clause-proves : goal.returns-in-Infeasible-clause-proves
returns-in-Infeasible-clause-proves c = proves_by_walk c.walk_proves.ensures c.args.scheme.now c.args.plan.now c.check_infeasible.result c.requires.fits c.check_infeasible.ensures

pub returns-in-Unbounded-clause-proves : goal.returns-in-Unbounded-clause-proves
returns-in-Unbounded-clause-proves c = proves_by_walk c.walk_proves.ensures c.args.scheme.now c.args.plan.now c.check_unbounded.result c.requires.fits c.check_unbounded.ensures
