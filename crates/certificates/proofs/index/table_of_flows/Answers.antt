use Rattle.std.proofs.Common.{◌≡◌, ◌∙◌, None, ℕ, List, take, sym, ap, subst}
use Rattle.std.proofs.lemmas.List.{get_or-map, length-map, take-map}
use Rattle.np_model.specs.declared.scheme.Flow.{Flow}
use Rattle.np_records.specs.Names.{place_of}
use Rattle.np_model.specs.Scheme.Names.{flow_names}
use Rattle.np_records.proofs.Places.{absent-before}
use Rattle.certificates.proofs.index.table_of_flows.Goals as goal

pub push-requires : goal.push-requires
push-requires c =
    let k = c.loop-flow.flow-index in
    let flows = c.args.flows.now in
    let name = λ (f : Flow). f.name in
    let within = c.loop-flow-test.true in
    let here = ap name c.flow-item.is ∙ sym (get_or-map name flows k c.flow-item.result (name c.flow-item.result) within) in
    rw (c.loop-flow.invariant, c.as_slice.ensures, ← take-map name k flows)
    (subst (λ (n : List ℕ). place_of (take k (flow_names flows)) n ≡ None) (sym here) (absent-before (flow_names flows) k (name c.flow-item.result) c.requires (rw (length-map flows name) within)))
