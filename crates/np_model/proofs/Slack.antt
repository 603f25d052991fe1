-- An arc is slack, by the tests of its reduced cost.
use Rattle.std.specs.Prelude.{◌≡◌, ℕ, ◌<◌, length, List, true, false}
use Rattle.std.specs.List.{All, zip}
use Rattle.std.proofs.Common.{subst}
use Rattle.np_frac.specs.Ratio.{Ratio, zero_ratio, is_below}
use Rattle.np_frac.proofs.RatioLaws.{<ᵣ_is_≤ᵣ, clash, is_below_true, is_below_false}
use Rattle.np_model.specs.declared.arc.NetArc.{NetArc}
use Rattle.np_model.specs.Network.Flows.{Network, Least, balance, at}
use Rattle.np_model.specs.Network.Duality.{reduced, IsSlack}
use Rattle.np_model.specs.Network.Arcs.{IsFull, IsWithin}
use Rattle.np_model.proofs.Duality.{weak_duality}

pub slack_above : (p : List Ratio) (a : NetArc) (q r : Ratio) → r ≡ reduced p a.ends a.cost → is_below zero_ratio r ≡ true → q ≡ a.lower → IsSlack p a q
slack_above p a q r e above same =
    ((λ _. same), (λ under. absurd (clash (is_below_true zero_ratio r above) (rw e (<ᵣ_is_≤ᵣ under)))))

pub slack_below : (p : List Ratio) (a : NetArc) (q r : Ratio) → r ≡ reduced p a.ends a.cost → is_below r zero_ratio ≡ true → IsFull q a.upper → IsSlack p a q
slack_below p a q r e below full =
    ((λ over. absurd (clash (is_below_true r zero_ratio below) (rw e (<ᵣ_is_≤ᵣ over)))), (λ _. full))

pub slack_zero : (p : List Ratio) (a : NetArc) (q r : Ratio) → r ≡ reduced p a.ends a.cost → is_below zero_ratio r ≡ false → is_below r zero_ratio ≡ false → IsSlack p a q
slack_zero p a q r e above below =
    ((λ over. absurd (clash over (rw (← e) (is_below_false zero_ratio r above)))), (λ under. absurd (clash under (rw (← e) (is_below_false r zero_ratio below)))))

-- what the tests of a plan show, over lists that are the network's
pub shown_least : (net : Network) (supply : List Ratio) (arcs : List NetArc) (p x : List Ratio) → supply ≡ net.supply → arcs ≡ net.arcs → length x ≡ length net.arcs → length p ≡ length net.supply → ((v : ℕ) → v < length supply → balance arcs x v ≡ at supply v) → All (λ (a, q). IsWithin a q) (zip arcs x) → All (λ (a, q). IsSlack p a q) (zip arcs x) → Least net x
shown_least net supply arcs p x e f long prices balanced within slack =
    let IsBalanced : List Ratio → List NetArc → Type 0 = λ s as'. (v : ℕ) → v < length s → balance as' x v ≡ at s v in
    weak_duality net p x
    (record {
      one_each = long;
      balanced = subst (λ s. IsBalanced s net.arcs) e (subst (λ as'. IsBalanced supply as') f balanced);
      within = subst (λ as'. All (λ (a, q). IsWithin a q) (zip as' x)) f within;
    })
    (record { one_each = prices; slack = subst (λ as'. All (λ (a, q). IsSlack p a q) (zip as' x)) f slack })
