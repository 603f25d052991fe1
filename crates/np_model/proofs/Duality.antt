-- Weak duality.
use Rattle.std.specs.Prelude.{◌≡◌, length, List}
use Rattle.std.specs.List.{zip, enumerate_from}
use Rattle.std.proofs.Common.{arith, inl, inr, ap, sym, ◌∙◌}
use Rattle.np_frac.specs.Ratio.{Ratio, zero_ratio, ◌≤ᵣ◌, ◌+ᵣ◌, ◌*ᵣ◌, total}
use Rattle.np_model.specs.Network.Flows.{Network, at, plan_cost, Feasible}
use Rattle.np_model.specs.Network.Arcs.{coefficient, IsAtMost, IsWithin, IsFull}
use Rattle.np_model.specs.Network.Duality.{reduced, IsSlack, WeakDuality}
use Rattle.np_model.specs.declared.arc.Upper.TheVariants.{Finite, Infinite}
use Rattle.np_model.specs.declared.arc.Upper.{Upper}
use Rattle.np_model.specs.declared.arc.NetArc.{NetArc}
use Rattle.np_frac.proofs.RatioLaws.{≤ᵣ_refl, +ᵣ_at_most, below_or, <ᵣ_is_≤ᵣ, *ᵣ_at_most, *ᵣ_at_least, zero_times}
use Rattle.np_frac.proofs.Sums.{total_same, total_zip_at_most, numbered, priced}
use Rattle.np_model.proofs.Balance.{taken, balance-is}

-- what a full arc carries is no less than any amount that its upper bound allows
full_most : (u : Upper) (q s : Ratio) → IsFull q u → IsAtMost s u → s ≤ᵣ q
full_most (Finite u) q s h k = rw h k
full_most Infinite q s h k = absurd h

-- a slack arc's reduced cost is worth least at its amount
slack_least : (p : List Ratio) (a : NetArc) (q s : Ratio) → IsSlack p a q → IsWithin a s → reduced p a.ends a.cost *ᵣ q ≤ᵣ reduced p a.ends a.cost *ᵣ s
slack_least p a q s h k =
    let r : Ratio = reduced p a.ends a.cost in
    elim (below_or zero_ratio r) [
      | inl above ↦ *ᵣ_at_most (<ᵣ_is_≤ᵣ above) (rw (h.0 above) k.0)
      | inr not_above ↦ elim (below_or r zero_ratio) [
        | inl below ↦ *ᵣ_at_least not_above (full_most a.upper q s (h.1 below) k.1)
        | inr not_below ↦ zero_times q s not_above not_below
      ]
    ]

-- the potentials times the balance depend on the supply alone
pub worth_of_balance : (net : Network) (p x : List Ratio) → length p ≡ length net.supply → Feasible net x → total (λ (v, potential). potential *ᵣ taken net.arcs x v) (enumerate_from 0 p) ≡ total (λ (v, potential). potential *ᵣ at net.supply v) (enumerate_from 0 p)
worth_of_balance net p x e f =
    total_same (λ (v, potential). potential *ᵣ taken net.arcs x v) (λ (v, potential). potential *ᵣ at net.supply v) (enumerate_from 0 p)
    (numbered (λ (v, potential). potential *ᵣ taken net.arcs x v ≡ potential *ᵣ at net.supply v) (length net.supply) p (omega arith)
    (λ v potential h. ap (λ b. potential *ᵣ b) (sym (balance-is net.arcs x v) ∙ f.balanced v h)))

-- the reduced costs of a feasible plan and the worth of the supply are its cost
pub cost_is : (net : Network) (p x : List Ratio) → length p ≡ length net.supply → Feasible net x → plan_cost net.arcs x ≡ total (λ (a, amount). reduced p a.ends a.cost *ᵣ amount) (zip net.arcs x) +ᵣ total (λ (v, potential). potential *ᵣ at net.supply v) (enumerate_from 0 p)
cost_is net p x e f =
    priced (λ (a, amount). a.cost) (λ (a, amount). amount) (λ (a, amount) (v, potential). coefficient a.ends v) (λ (v, potential). potential) (zip net.arcs x) (enumerate_from 0 p)
    ∙ ap (λ s. total (λ (a, amount). reduced p a.ends a.cost *ᵣ amount) (zip net.arcs x) +ᵣ s) (worth_of_balance net p x e f)

pub weak_duality : WeakDuality
weak_duality net p x f s = record {
  feasible = f;
  least = λ y g.
      rw (cost_is net p x s.one_each f, cost_is net p y s.one_each g)
      (+ᵣ_at_most
      (total_zip_at_most (λ (a, amount). reduced p a.ends a.cost *ᵣ amount) (λ (a, amount). reduced p a.ends a.cost *ᵣ amount)
      (λ (a, amount). IsSlack p a amount) (λ (a, amount). IsWithin a amount) (λ a q r h k. slack_least p a q r h k)
      net.arcs x y f.one_each g.one_each s.slack g.within)
      (≤ᵣ_refl (total (λ (v, potential). potential *ᵣ at net.supply v) (enumerate_from 0 p))));
}
