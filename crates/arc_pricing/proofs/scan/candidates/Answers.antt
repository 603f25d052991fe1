use Rattle.std.proofs.Common.{◌≡◌, refl, ◌++◌, ◌-◌, ℕ, min, length, ap, ◌∙◌, arith}
use Rattle.std.specs.List.{range_with_len}
use Rattle.np_model.specs.Basis.Phases.{phase_net, real_arcs}
use Rattle.arc_pricing.specs.Prices.{is_eligible}
use Rattle.arc_pricing.specs.Candidates.{values_by, cyclic}
use Rattle.gain_graphs.proofs.Lists.{range_within}
use Rattle.arc_pricing.proofs.Order.{joined, has_all, behind, cyclic_is}
use Rattle.arc_pricing.proofs.scan.candidates.Goals as goal

pub returns-in-Ok-clause-all : goal.returns-in-Ok-clause-all
returns-in-Ok-clause-all g c =
    let n = real_arcs c.args.full.now in
    let net = phase_net c.args.phase c.args.full.now in
    let s = values_by c.args.marks.now c.args.potentials.now in
    let begin = c.min-begin.result in
    let least : begin ≡ min c.args.from n = c.min-begin.ensures ∙ ap (λ (k : ℕ). min c.args.from k) c.requires.one_mark_each in
    let order : cyclic c.args.from n ≡ range_with_len begin (length c.args.marks.now - begin) ++ range_with_len 0 (begin - 0) =
    cyclic_is c.args.from n begin least c.requires.begins ∙ rw c.requires.one_mark_each refl in
    has_all net n s c.args.from c.scan-2.new.found.items
    (joined (is_eligible net n s) _ _ _ c.in_ok-found.found.items c.scan.new.found.items c.scan-2.new.found.items c.in_ok-found.ensures c.in_ok-scan.ensures.eligible c.in-Ok.ensures.eligible order)

pub returns-in-Err-clause-answer : goal.returns-in-Err-clause-answer
returns-in-Err-clause-answer g c =
    let n = real_arcs c.args.full.now in
    let net = phase_net c.args.phase c.args.full.now in
    let s = values_by c.args.marks.now c.args.potentials.now in
    let begin = c.min-begin.result in
    let least : begin ≡ min c.args.from n = c.min-begin.ensures ∙ ap (λ (k : ℕ). min c.args.from k) c.requires.one_mark_each in
    let order = cyclic_is c.args.from n begin least c.requires.begins in
    rw order (behind net n s (range_with_len begin (n - begin)) (range_with_len 0 (begin - 0)) c.in-Err.refusal
    (λ a i. let r = range_within begin (n - begin) a i in c.in_ok-scan.ensures.fit a r.0 (omega (arith, r.1, least, c.requires.one_mark_each))) c.in-Err.ensures.cause)
