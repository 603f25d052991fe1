-- The words of clauses, as they are printed.
use Rattle.std.specs.Prelude.{ℕ, List, codes}
use Rattle.cert_checker.specs.declared.answer.Clause.{Clause}
use Rattle.cert_checker.specs.declared.answer.Clause.TheVariants.{Balance, Bound, Reduced, Cost, Upper, Gap, RaySign, RayUpper, RayBalance, RayCost, Uncertified}

unfoldable pub clause_word : Clause → List ℕ
clause_word Balance = codes "balance"
clause_word Bound = codes "bound"
clause_word Reduced = codes "reduced"
clause_word Cost = codes "cost"
clause_word Upper = codes "upper"
clause_word Gap = codes "gap"
clause_word RaySign = codes "ray-sign"
clause_word RayUpper = codes "ray-upper"
clause_word RayBalance = codes "ray-balance"
clause_word RayCost = codes "ray-cost"
clause_word Uncertified = codes "uncertified"
