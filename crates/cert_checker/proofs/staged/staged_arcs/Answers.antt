use Rattle.std.proofs.Common.{ℕ, ◌+◌, ◌++◌, ◌∙◌, List, length, ap, sym}
use Rattle.std.specs.List.{filter_map, enumerate_from}
use Rattle.np_model.specs.Scheme.Segments.{Stage}
use Rattle.np_model.specs.Scheme.Plans.{stage_of}
use Rattle.cert_checker.proofs.Arcs.{periods_more}
use Rattle.cert_checker.proofs.staged.staged_arcs.Goals as goal

pub loop-before-preserved : goal.loop-before-preserved
loop-before-preserved c =
    let period = λ (p : ℕ). filter_map (stage_of c.args.scheme.now.periods (length c.args.scheme.now.nodes) p) (enumerate_from 0 c.args.scheme.now.flows) in
    c.in_ok-add_period.ensures ∙ ap (λ (z : List Stage). z ++ period (c.loop-before.before + 1)) c.loop-before.invariant ∙ sym (periods_more period c.loop-before.before)
