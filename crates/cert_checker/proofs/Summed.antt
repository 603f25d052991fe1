-- The lists that the sums of a plan are made over.
use Rattle.std.specs.Prelude.{◌≡◌, ℕ, Result, Ok, List, length, map}
use Rattle.std.specs.List.{All}
use Rattle.std.proofs.Common.{sym, ap, subst, ◌∙◌}
use Rattle.np_frac.specs.Ratio.{Ratio}
use Rattle.np_model.specs.declared.scheme.Scheme.{Scheme}
use Rattle.np_model.specs.Network.Arcs.{AreNodes}
use Rattle.np_model.specs.Scheme.Plans.{staged}
use Rattle.cert_checker.specs.Walk.{feasible_refusal, goes_on_unless, UnlessMemory}
use Rattle.cert_checker.specs.Steps.Arcs.{as_stage}
use Rattle.cert_checker.specs.Steps.Parts.{EndsFit}
use Rattle.cert_checker.specs.declared.answer.CheckRefusal.{CheckRefusal}
use Rattle.cert_checker.specs.declared.staged.StagedArc.{StagedArc}
use Rattle.cert_checker.proofs.Arcs.{arcs_joined}
use Rattle.cert_checker.proofs.First.{part_holds}
use Rattle.cert_checker.proofs.Theorem.{ends_by_walk}

module _ (scheme : Scheme) (arcs items : List StagedArc) (listed : arcs ≡ items) (made : map as_stage items ≡ staged scheme) where
  listed_stages : map as_stage arcs ≡ staged scheme
  listed_stages = ap (map as_stage) listed ∙ made

  -- the ends of all staged arcs are nodes of a list that has one entry for each supply
  pub all_joined : (list : List Ratio) → length list ≡ length scheme.supply → All (λ arc. AreNodes (length list) (as_stage arc).ends) arcs
  all_joined list e = subst (λ (n : ℕ). All (λ (arc : StagedArc). AreNodes n (as_stage arc).ends) arcs) (sym e) (arcs_joined scheme arcs listed_stages)

  -- no end overflows where the flows are feasible
  pub all_end : (k : ℕ) (supply x : List Ratio) (u : Unit {0}) (res : Result (Unit {0}) CheckRefusal) → length x ≡ length (staged scheme)
      → UnlessMemory res (goes_on_unless (feasible_refusal k supply (map as_stage arcs) x)) → res ≡ Ok u → All EndsFit (map as_stage arcs)
  all_end k supply x u res long told ok =
      ends_by_walk k supply (map as_stage arcs) x (long ∙ ap length (sym listed_stages)) (part_holds (feasible_refusal k supply (map as_stage arcs) x) u res told ok)
