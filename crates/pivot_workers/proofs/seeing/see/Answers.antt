use Rattle.std.proofs.Common.{length, sym, ◌∙◌, ap, subst}
use Rattle.np_model.specs.declared.arc.Ends.{Ends}
use Rattle.np_model.specs.declared.phase.Phase.TheVariants as phase
use Rattle.np_model.specs.Network.Arcs.{AreNodes}
use Rattle.pivot_workers.specs.Takes.{seen_at}
use Rattle.pivot_workers.proofs.Forest.{ends_near}
use Rattle.pivot_workers.proofs.Named.{near_seen}
use Rattle.pivot_workers.proofs.seeing.see.Goals as goal

pub named_at-requires : goal.named_at-requires
named_at-requires c =
    subst (λ n. AreNodes n c.ends.result) (sym c.requires.slots.one_each)
    (subst (λ (e : Ends). AreNodes (length c.args.full.now.net.supply) e) (sym (c.ends.ensures phase.One)) (ends_near c.args.full.now phase.One c.args.arc c.requires.arc))

pub returns-clause-near : goal.returns-clause-near
returns-clause-near c =
    near_seen c.args.full.now phase.One c.args.openings.now c.args.arc c.requires.arc c.requires.slots c.named_at.result
    (c.named_at.ensures ∙ ap (seen_at c.args.openings.now) (c.ends.ensures phase.One))
