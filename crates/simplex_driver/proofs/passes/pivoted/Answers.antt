use Rattle.std.proofs.Common.{rules, ◌≡◌, ◌++◌, ◌∷◌, [], sym, subst}
use Rattle.std.specs.Prelude.{None}
use Rattle.simplex_driver.specs.Runs.{Goes}
use Rattle.simplex_driver.proofs.Driving as driving
use Rattle.simplex_driver.proofs.passes.pivoted.Goals as goal

pub returns-in-Ready : goal.returns-in-Ready
returns-in-Ready c =
    let items : c.push.new.self.items ≡ c.args.entries.now.items ++ c.in-Ready.entry ∷ [] = search rules in
    subst (λ es. Goes c.args.full.now None es c.pivot.new.self) (sym items)
    (driving.goes_on c.args.full.now c.requires.good None c.args.entries.now.items c.in-Ready.entry c.args.forest.now c.pivot.new.self c.requires.goes c.pivot.ensures.pivot c.pivot.ensures.kept)
