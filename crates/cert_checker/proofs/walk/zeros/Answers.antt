use Rattle.std.proofs.Common.{◌++◌, ◌∙◌, [], ◌∷◌, ap, arith}
use Rattle.np_frac.specs.Ratio.{Ratio}
use Rattle.cert_checker.proofs.Arcs.{zeros_more, zeros_end}
use Rattle.cert_checker.proofs.walk.zeros.Goals as goal

pub loop-preserved : goal.loop-preserved
loop-preserved c =
    c.in_ok-push.ensures.items ∙ ap (λ (q : Ratio). c.loop.zeros.items ++ q ∷ []) c.whole.ensures ∙ zeros_more c.args.supply.now c.loop.zeros.items c.loop.counter c.loop-test.true c.loop.invariant

pub returns : goal.returns
returns c = zeros_end c.args.supply.now c.loop.zeros.items c.loop.counter (omega arith) c.loop.invariant
