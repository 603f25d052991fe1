use Rattle.std.proofs.Common.{◌≡◌, drop}
use Rattle.std.specs.Prelude.{IsOk}
use Rattle.np_model.specs.Scheme.Segments.{segments_beyond}
use Rattle.cert_checker.specs.Walk.{first_refusal, end_of}
use Rattle.cert_checker.specs.Steps.Parts.{side_test}
use Rattle.cert_checker.specs.Steps.Arcs.{as_stage}
use Rattle.cert_checker.proofs.reduced.check_beyond.Given as goal

abbrev pub invariant-loop-i : goal.invariant-loop-i
invariant-loop-i l = record {
  ends : IsOk (end_of l.end (drop l.i l.bands));
  rest : first_refusal (side_test l.side l.prices (as_stage l.arc) l.amount) (segments_beyond l.arc.flow.now.upper l.arc.flow.now.bands)
      ≡ first_refusal (side_test l.side l.prices (as_stage l.arc) l.amount) (segments_beyond l.end (drop l.i l.bands));
}
