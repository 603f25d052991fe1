use Rattle.std.proofs.Common.{◌∙◌, sym, arith}
use Rattle.std.proofs.lemmas.Result.{err_from_is_err_and}
use Rattle.np_model.specs.Scheme.Segments.{segments_beyond}
use Rattle.cert_checker.specs.Walk.{add_segments}
use Rattle.cert_checker.specs.Steps.Parts.{as_segment}
use Rattle.cert_checker.proofs.Segments.{band_ok, bands_ok, cost_on, cost_stop, cost_none, cost_end}
use Rattle.cert_checker.proofs.cost.add_segments.Goals as goal

pub loop-i-preserved : goal.loop-i-preserved
loop-i-preserved c = record {
  ends = bands_ok c.as_slice-bands.result.now c.loop-i.i c.index-bands-i.result c.loop-i.end (as_segment c.in-Some.segment) c.loop-i-test.true c.index-bands-i.is c.loop-i.invariant.ends (sym c.in-Some.ensures);
  rest = cost_on c.args.amount (add_segments c.args.amount (segments_beyond c.args.flow.now.upper c.args.flow.now.bands) c.args.running) c.as_slice-bands.result.now c.loop-i.i c.loop-i.end c.loop-i.running c.loop-i.invariant.rest c.index-bands-i.result (as_segment c.in-Some.segment) c.in_ok-running-in-Some.running c.loop-i-test.true c.index-bands-i.is c.in-Some.ensures (sym c.add_segment.ensures ∙ c.in_ok-running-in-Some.was);
}

pub returns-in_err-running-in-Some : goal.returns-in_err-running-in-Some
returns-in_err-running-in-Some c =
    let p = err_from_is_err_and c.from_residual.result c.from_residual.ensures.1 in
    rw (p.1, p.2)
    (cost_stop c.args.amount (add_segments c.args.amount (segments_beyond c.args.flow.now.upper c.args.flow.now.bands) c.args.running) c.as_slice-bands.result.now c.loop-i.i c.loop-i.end c.loop-i.running c.loop-i.invariant.rest c.index-bands-i.result (as_segment c.in-Some.segment) c.in_err-running-in-Some.field-0.0 c.loop-i-test.true c.index-bands-i.is c.in-Some.ensures (sym c.add_segment.ensures ∙ c.in_err-running-in-Some.was))

pub returns-in-None : goal.returns-in-None
returns-in-None c = cost_none c.args.amount (add_segments c.args.amount (segments_beyond c.args.flow.now.upper c.args.flow.now.bands) c.args.running) c.as_slice-bands.result.now c.loop-i.i c.loop-i.end c.loop-i.running c.loop-i.invariant.rest c.index-bands-i.result c.loop-i-test.true c.index-bands-i.is c.in-None.ensures

pub returns : goal.returns
returns c = cost_end c.args.amount (add_segments c.args.amount (segments_beyond c.args.flow.now.upper c.args.flow.now.bands) c.args.running) c.as_slice-bands.result.now c.loop-i.i c.loop-i.end c.loop-i.running c.loop-i.invariant.rest (omega arith)

pub segment_beyond-requires : goal.segment_beyond-requires
segment_beyond-requires c = band_ok c.as_slice-bands.result.now c.loop-i.i c.index-bands-i.result c.loop-i.end c.loop-i-test.true c.index-bands-i.is c.loop-i.invariant.ends
