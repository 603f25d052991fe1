use Rattle.std.proofs.Common.{◌≡◌, sym, ap, ◌∙◌}
use Rattle.np_frac.specs.Ratio.{zero_ratio}
use Rattle.np_frac.proofs.Running.{element_is}
use Rattle.np_model.specs.Basis.Graphs.{ends_at}
use Rattle.np_model.specs.Basis.Phases.{phase_net, real_arcs}
use Rattle.np_model.specs.Network.Arcs.{tail_of, head_of}
use Rattle.arc_pricing.specs.Candidates.{values_by}
use Rattle.arc_pricing.proofs.Eligibility.{tail_below, head_below, ends_below, is_found, is_past}
use Rattle.arc_pricing.proofs.scan.may_enter.Goals as goal

pub bounds-potentials-tail : goal.bounds-potentials-tail
bounds-potentials-tail c =
    rw (c.tail.ensures, c.ends.ensures c.args.phase, c.requires.one_potential_each) (tail_below _ _ (ends_below c.args.phase c.args.full.now c.args.arc c.requires.is_real))

pub bounds-potentials-head : goal.bounds-potentials-head
bounds-potentials-head c =
    rw (c.head.ensures, c.ends.ensures c.args.phase, c.requires.one_potential_each) (head_below _ _ (ends_below c.args.phase c.args.full.now c.args.arc c.requires.is_real))

pub returns-in-Ok : goal.returns-in-Ok
returns-in-Ok c =
    let net = phase_net c.args.phase c.args.full.now in
    let s = values_by c.args.marks.now c.args.potentials.now in
    let ends : c.ends.result ≡ ends_at net.arcs c.args.arc = c.ends.ensures c.args.phase in
    let tail : c.tail.result ≡ tail_of (ends_at net.arcs c.args.arc) = c.tail.ensures ∙ ap tail_of ends in
    let head : c.head.result ≡ head_of (ends_at net.arcs c.args.arc) = c.head.ensures ∙ ap head_of ends in
    is_found net (real_arcs c.args.full.now) s c.args.arc c.index-potentials-tail.result c.index-potentials-head.result c.in-Ok.reduced c.gains.result
    (rw (← tail) (sym (element_is c.args.potentials.now c.tail.result c.index-potentials-tail.result zero_ratio (rw (c.tail.ensures, c.ends.ensures c.args.phase, c.requires.one_potential_each) (tail_below _ _ (ends_below c.args.phase c.args.full.now c.args.arc c.requires.is_real))) c.index-potentials-tail.is)))
    (rw (← head) (sym (element_is c.args.potentials.now c.head.result c.index-potentials-head.result zero_ratio (rw (c.head.ensures, c.ends.ensures c.args.phase, c.requires.one_potential_each) (head_below _ _ (ends_below c.args.phase c.args.full.now c.args.arc c.requires.is_real))) c.index-potentials-head.is)))
    (sym c.in-Ok.is ∙ c.price.ensures.value) (sym (c.is_open.ensures c.args.phase) ∙ c.if-not-is_open.false) c.gains.ensures

pub returns-in-Err : goal.returns-in-Err
returns-in-Err c =
    let net = phase_net c.args.phase c.args.full.now in
    let s = values_by c.args.marks.now c.args.potentials.now in
    let ends : c.ends.result ≡ ends_at net.arcs c.args.arc = c.ends.ensures c.args.phase in
    let tail : c.tail.result ≡ tail_of (ends_at net.arcs c.args.arc) = c.tail.ensures ∙ ap tail_of ends in
    let head : c.head.result ≡ head_of (ends_at net.arcs c.args.arc) = c.head.ensures ∙ ap head_of ends in
    is_past net (real_arcs c.args.full.now) s c.args.arc c.index-potentials-tail.result c.index-potentials-head.result c.in-Err.overflow
    (rw (← tail) (sym (element_is c.args.potentials.now c.tail.result c.index-potentials-tail.result zero_ratio (rw (c.tail.ensures, c.ends.ensures c.args.phase, c.requires.one_potential_each) (tail_below _ _ (ends_below c.args.phase c.args.full.now c.args.arc c.requires.is_real))) c.index-potentials-tail.is)))
    (rw (← head) (sym (element_is c.args.potentials.now c.head.result c.index-potentials-head.result zero_ratio (rw (c.head.ensures, c.ends.ensures c.args.phase, c.requires.one_potential_each) (head_below _ _ (ends_below c.args.phase c.args.full.now c.args.arc c.requires.is_real))) c.index-potentials-head.is)))
    (sym c.in-Err.is ∙ c.price.ensures.value) (sym (c.is_open.ensures c.args.phase) ∙ c.if-not-is_open.false) (λ e. cc (rw e at c.eq.ensures, c.if-eq.false))
