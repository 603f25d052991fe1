use Rattle.std.proofs.Common.{◌∙◌, sym, ap, length}
use Rattle.std.proofs.lemmas.List.{with_items_is}
use Rattle.simplex_driver.specs.Store.{written}
use Rattle.simplex_driver.proofs.Amounts.{ray_is, entries_of}
use Rattle.simplex_driver.proofs.Tables.{length_written}
use Rattle.simplex_driver.proofs.ray.ray_of.Goals as goal

pub returns : goal.returns
returns c =
    let wrote = c.write_steps.ensures ∙ ap (λ t. written (entries_of c.args.steps.now) t) c.deref_mut.ensures.value in
    with_items_is c.in_ok-items.items c.write_steps.new.amounts
    (ap length wrote ∙ length_written (entries_of c.args.steps.now) c.in_ok-items.items.items ∙ sym c.in_ok-items.items.ok.0)
    ∙ ray_is c.args.steps.now c.requires c.args.count c.in_ok-items.items.items c.write_steps.new.amounts c.in_ok-items.ensures.long c.in_ok-items.ensures.zeros wrote
