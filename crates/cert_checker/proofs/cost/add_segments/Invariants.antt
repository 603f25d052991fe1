use Rattle.std.proofs.Common.{◌≡◌, drop}
use Rattle.std.specs.Prelude.{IsOk}
use Rattle.np_model.specs.Scheme.Segments.{segments_beyond}
use Rattle.cert_checker.specs.Walk.{add_segments, end_of}
use Rattle.cert_checker.proofs.cost.add_segments.Given as goal

abbrev pub invariant-loop-i : goal.invariant-loop-i
invariant-loop-i l = record {
  ends : IsOk (end_of l.end (drop l.i l.bands));
  rest : add_segments l.amount (segments_beyond l.flow.upper l.flow.bands) l.fn.running ≡ add_segments l.amount (segments_beyond l.end (drop l.i l.bands)) l.running;
}
