use Rattle.std.proofs.Common.{length, subst, inl, inr}
use Rattle.np_model.specs.declared.arc.Ends.{Ends}
use Rattle.np_model.specs.Network.Arcs.{AreNodes}
use Rattle.pivot_workers.proofs.seeing.named_at.Goals as goal

pub bounds-openings-from : goal.bounds-openings-from
bounds-openings-from c = (subst (λ (e : Ends). AreNodes (length c.args.openings.now) e) c.in-Link.is c.requires).0

pub bounds-openings-to : goal.bounds-openings-to
bounds-openings-to c = (subst (λ (e : Ends). AreNodes (length c.args.openings.now) e) c.in-Link.is c.requires).1

pub bounds-openings-at : goal.bounds-openings-at
bounds-openings-at c =
    let P : Ends → Type 0 = λ e. AreNodes (length c.args.openings.now) e in
    elim c.in-Drain.is [
      | inl is ↦ subst P is c.requires
      | inr is ↦ subst P is c.requires
    ]
