use Rattle.std.proofs.Common.{sym, arith}
use Rattle.std.proofs.lemmas.Result.{err_from_is_err_and}
use Rattle.np_model.specs.Scheme.Segments.{segments_beyond}
use Rattle.cert_checker.specs.Walk.{first_refusal}
use Rattle.cert_checker.specs.Steps.Parts.{as_segment, side_test}
use Rattle.cert_checker.specs.Steps.Arcs.{as_stage}
use Rattle.cert_checker.proofs.First.{accepted_ok, accepted_err}
use Rattle.cert_checker.proofs.Segments.{band_ok, bands_ok, refusal_on, refusal_stop, refusal_none, refusal_end}
use Rattle.cert_checker.proofs.reduced.check_beyond.Goals as goal

pub loop-i-preserved : goal.loop-i-preserved
loop-i-preserved c = record {
  ends = bands_ok c.as_slice-bands.result.now c.loop-i.i c.index-bands-i.result c.loop-i.end (as_segment c.in-Some.segment) c.loop-i-test.true c.index-bands-i.is c.loop-i.invariant.ends (sym c.in-Some.ensures);
  rest = refusal_on (side_test c.args.side c.args.prices.now (as_stage c.args.arc.now) c.args.amount) (first_refusal (side_test c.args.side c.args.prices.now (as_stage c.args.arc.now) c.args.amount) (segments_beyond c.args.arc.now.flow.now.upper c.args.arc.now.flow.now.bands)) c.as_slice-bands.result.now c.loop-i.i c.loop-i.end c.loop-i.invariant.rest c.index-bands-i.result (as_segment c.in-Some.segment) c.loop-i-test.true c.index-bands-i.is c.in-Some.ensures
      (accepted_ok ((side_test c.args.side c.args.prices.now (as_stage c.args.arc.now) c.args.amount) (as_segment c.in-Some.segment)) c.in_ok-check_segment-in-Some.field-0 c.check_segment.result c.check_segment.ensures c.in_ok-check_segment-in-Some.was);
}

pub returns-in_err-check_segment-in-Some : goal.returns-in_err-check_segment-in-Some
returns-in_err-check_segment-in-Some c =
    let p = err_from_is_err_and c.from_residual.result c.from_residual.ensures.1 in
    rw (p.1, p.2)
    (refusal_stop (side_test c.args.side c.args.prices.now (as_stage c.args.arc.now) c.args.amount) (first_refusal (side_test c.args.side c.args.prices.now (as_stage c.args.arc.now) c.args.amount) (segments_beyond c.args.arc.now.flow.now.upper c.args.arc.now.flow.now.bands)) c.as_slice-bands.result.now c.loop-i.i c.loop-i.end c.loop-i.invariant.rest c.index-bands-i.result (as_segment c.in-Some.segment) c.in_err-check_segment-in-Some.field-0.0 c.loop-i-test.true c.index-bands-i.is c.in-Some.ensures
    (accepted_err ((side_test c.args.side c.args.prices.now (as_stage c.args.arc.now) c.args.amount) (as_segment c.in-Some.segment)) c.in_err-check_segment-in-Some.field-0.0 c.check_segment.result c.check_segment.ensures c.in_err-check_segment-in-Some.was))

pub returns-in-None : goal.returns-in-None
returns-in-None c = refusal_none (side_test c.args.side c.args.prices.now (as_stage c.args.arc.now) c.args.amount) (first_refusal (side_test c.args.side c.args.prices.now (as_stage c.args.arc.now) c.args.amount) (segments_beyond c.args.arc.now.flow.now.upper c.args.arc.now.flow.now.bands)) c.as_slice-bands.result.now c.loop-i.i c.loop-i.end c.loop-i.invariant.rest c.index-bands-i.result c.loop-i-test.true c.index-bands-i.is c.in-None.ensures

pub returns : goal.returns
returns c = refusal_end (side_test c.args.side c.args.prices.now (as_stage c.args.arc.now) c.args.amount) (first_refusal (side_test c.args.side c.args.prices.now (as_stage c.args.arc.now) c.args.amount) (segments_beyond c.args.arc.now.flow.now.upper c.args.arc.now.flow.now.bands)) c.as_slice-bands.result.now c.loop-i.i c.loop-i.end c.loop-i.invariant.rest (omega arith)

pub segment_beyond-requires : goal.segment_beyond-requires
segment_beyond-requires c = band_ok c.as_slice-bands.result.now c.loop-i.i c.index-bands-i.result c.loop-i.end c.loop-i-test.true c.index-bands-i.is c.loop-i.invariant.ends
