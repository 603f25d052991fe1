use Rattle.std.proofs.Common.{◌≡◌, take}
use Rattle.std.specs.Prelude.{map}
use Rattle.np_frac.specs.Ratio.{Ratio, zero_ratio}
use Rattle.cert_checker.proofs.walk.zeros.Given as goal

abbrev pub invariant-loop : goal.invariant-loop
invariant-loop l = l.zeros.items ≡ map (λ (amount : Ratio). zero_ratio) (take l.counter l.supply)
