use Rattle.std.proofs.Common.{rules, ◌≡◌, ℕ, take, ap, ◌∙◌, arith}
use Rattle.std.proofs.lemmas.List.{map-id, take_all}
use Rattle.np_model.specs.declared.log.Mark.{Mark}
use Rattle.np_model.specs.declared.log.Mark.TheVariants.{Lower}
use Rattle.simplex_driver.specs.Store.{written}
use Rattle.simplex_driver.proofs.Tables.{written_next}
use Rattle.simplex_driver.proofs.rounds.write_marks.Goals as goal

pub loop-arc-preserved : goal.loop-arc-preserved
loop-arc-preserved c =
    written_next (λ (m : ℕ × Mark). (m.0, m.1)) c.deref-arc-items.result.now c.loop-arc.arc-index (0, Lower) c.args.marks.now c.loop-arc.marks c.loop-arc-test.true c.loop-arc.invariant

pub returns : goal.returns
returns c =
    let items : c.deref-arc-items.result.now ≡ c.args.piece.now.lists.marks = search rules in
    c.loop-arc.invariant
    ∙ ap (λ es. written es c.args.marks.now)
    (map-id (take c.loop-arc.arc-index c.deref-arc-items.result.now) ∙ take_all c.loop-arc.arc-index c.deref-arc-items.result.now (omega (arith, c.loop-arc-test.false)) ∙ items)
