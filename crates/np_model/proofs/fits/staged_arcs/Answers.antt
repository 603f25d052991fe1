use Rattle.std.proofs.Common.{◌∙◌, sym, ap, arith, List, ℕ}
use Rattle.std.specs.List.{sum_by}
use Rattle.std.proofs.lemmas.List.{take_all}
use Rattle.np_model.specs.declared.scheme.Flow.{Flow}
use Rattle.np_model.specs.Scheme.Kinds.{periods_of}
use Rattle.np_model.proofs.StagedCount.{length-staged}
use Rattle.np_model.proofs.fits.staged_arcs.Goals as goal

pub returns : goal.returns
returns c =
    let scheme = c.args.scheme.now in
    let periods_in : List Flow → ℕ = sum_by (λ (f : Flow). periods_of scheme.periods f.kind) in
    c.loop-i.invariant.0
    ∙ ap periods_in (take_all c.loop-i.i c.as_slice-flows.result.now (omega arith))
    ∙ ap periods_in c.as_slice-flows.ensures ∙ sym (length-staged scheme)
