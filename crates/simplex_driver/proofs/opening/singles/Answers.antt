use Rattle.std.proofs.Common.{◌≡◌, ℕ, length, ap, ◌∙◌, subst, sym, arith}
use Rattle.std.proofs.lemmas.List.{length_push}
use Rattle.np_model.specs.Basis.Phases.{network_of}
use Rattle.np_model.specs.Basis.Starts.{start_piece}
use Rattle.simplex_driver.specs.Opening.{AreSingles}
use Rattle.simplex_driver.proofs.Opened.{one_more_piece}
use Rattle.simplex_driver.proofs.opening.singles.Goals as goal

pub loop-marks-preserved : goal.loop-marks-preserved
loop-marks-preserved c =
    let net = network_of c.args.start.now.full.net in
    let at = c.loop-marks in
    let node : c.len-node.result ≡ length at.yielded = omega (arith, c.len-node.ensures, at.slots.ok.0, at.invariant.slot_each) in
    subst (λ (n : ℕ). AreSingles net n c.push.new.self.items) (sym (length_push at.yielded c.in-Some.marks))
    (one_more_piece net (length at.yielded) at.slots.items c.push.new.self.items c.in_ok-single.field-0 at.invariant
    (c.in_ok-single.ensures ∙ ap (λ (n : ℕ). start_piece net n) node) c.in_ok-push.ensures.items)
