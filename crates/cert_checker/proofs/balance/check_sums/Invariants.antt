use Rattle.std.proofs.Common.{◌≡◌, None, take}
use Rattle.std.specs.List.{zip, enumerate_from}
use Rattle.cert_checker.specs.Walk.{first_refusal}
use Rattle.cert_checker.specs.Steps.Parts.{sum_clause}
use Rattle.cert_checker.proofs.balance.check_sums.Given as goal

abbrev pub invariant-loop-node : goal.invariant-loop-node
invariant-loop-node l = first_refusal (sum_clause l.by.row l.by.clause l.by.nodes) (take l.node (enumerate_from 0 (zip l.wanted l.sums))) ≡ None
