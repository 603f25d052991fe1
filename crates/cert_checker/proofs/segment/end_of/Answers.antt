use Rattle.std.proofs.Common.{◌∙◌, sym, ap, arith}
use Rattle.std.proofs.lemmas.Result.{err_from_is_err_and}
use Rattle.np_model.specs.declared.scheme.Band.{Band}
use Rattle.cert_checker.specs.Walk.{end_of}
use Rattle.cert_checker.specs.Steps.Parts.{end_beyond}
use Rattle.cert_checker.proofs.Segments.{ends_on, ends_stop, ends_end}
use Rattle.cert_checker.proofs.segment.end_of.Goals as goal

pub loop-i-preserved : goal.loop-i-preserved
loop-i-preserved c =
    ends_on c.as_slice-bands.result.now c.loop-i.i c.index-bands-i.result c.loop-i.end c.in_ok-end.end (end_of c.args.flow.now.upper c.args.flow.now.bands) c.loop-i-test.true c.index-bands-i.is
    c.loop-i.invariant (ap (λ (band : Band). end_beyond c.loop-i.end band.width) c.index-bands-i.is ∙ sym c.end_beyond.ensures ∙ c.in_ok-end.was)

pub returns-in_err-end : goal.returns-in_err-end
returns-in_err-end c =
    let p = err_from_is_err_and c.from_residual.result c.from_residual.ensures.1 in
    rw (p.1, p.2)
    (ends_stop c.as_slice-bands.result.now c.loop-i.i c.index-bands-i.result c.loop-i.end c.in_err-end.field-0.0 (end_of c.args.flow.now.upper c.args.flow.now.bands) c.loop-i-test.true c.index-bands-i.is
    c.loop-i.invariant (ap (λ (band : Band). end_beyond c.loop-i.end band.width) c.index-bands-i.is ∙ sym c.end_beyond.ensures ∙ c.in_err-end.was))

pub returns : goal.returns
returns c = ends_end c.as_slice-bands.result.now c.loop-i.i c.loop-i.end (end_of c.args.flow.now.upper c.args.flow.now.bands) (omega arith) c.loop-i.invariant
