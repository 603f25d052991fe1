use Rattle.std.proofs.Common.{◌≡◌, take}
use Rattle.np_model.specs.Scheme.Names.{flow_names}
use Rattle.certificates.proofs.index.table_of_flows.Given as goal

abbrev pub invariant-loop-flow : goal.invariant-loop-flow
invariant-loop-flow l = l.table ≡ flow_names (take l.flow-index l.flows)
