-- What shows that there is no plan.
use Rattle.std.specs.Prelude.{◌≡◌, Bool, true, false, if◌then◌else◌}
use Rattle.std.specs.List.{zip, enumerate_from}
use Rattle.std.proofs.Common.{refl, sym, ◌∙◌}
use Rattle.np_frac.specs.Ratio.{Ratio, zero_ratio, ◌≤ᵣ◌, ◌<ᵣ◌, ◌*ᵣ◌, is_below}
use Rattle.np_model.specs.Network.Arcs.{coefficient, IsAtMost, IsWithin, IsFinite, bound_of}
use Rattle.np_model.specs.Network.Duality.{reduced, least_worth, NoPlan}
use Rattle.np_model.specs.declared.arc.Upper.TheVariants.{Finite, Infinite}
use Rattle.np_model.specs.declared.arc.Upper.{Upper}
use Rattle.np_model.specs.declared.arc.NetArc.{NetArc}
use Rattle.np_frac.proofs.RatioLaws.{zero-*ᵣ, +ᵣ_comm, ≤ᵣ_same, ≤ᵣ_trans, ≤ᵣ_antisym, +ᵣ_at_most, <ᵣ_is_≤ᵣ, clash, *ᵣ_at_most, *ᵣ_at_least, is_below_true, is_below_false}
use Rattle.np_frac.proofs.Sums.{total_each, total_zero, total_beside_at_most, priced}
use Rattle.np_model.proofs.Duality.{worth_of_balance}

worth_at_bound : (u : Upper) (r q : Ratio) → r ≤ᵣ zero_ratio → IsFinite u → IsAtMost q u → r *ᵣ bound_of u ≤ᵣ r *ᵣ q
worth_at_bound (Finite u) r q h f k = *ᵣ_at_least h k
worth_at_bound Infinite r q h f k = absurd f

-- r times an amount within the bounds is worth no less than at the bound
worth_least : (r : Ratio) (a : NetArc) (q : Ratio) → (r <ᵣ zero_ratio → IsFinite a.upper) → IsWithin a q → least_worth r a ≤ᵣ r *ᵣ q
worth_least r a q f k = above (is_below zero_ratio r) refl
  where
    below : (t : Bool) → is_below r zero_ratio ≡ t → r ≤ᵣ zero_ratio → (if t then r *ᵣ bound_of a.upper else zero_ratio) ≤ᵣ r *ᵣ q
    below true e h = worth_at_bound a.upper r q h (f (is_below_true r zero_ratio e)) k.1
    below false e h = ≤ᵣ_same (rw (≤ᵣ_antisym h (is_below_false r zero_ratio e)) (sym (zero-*ᵣ q)))

    above : (t : Bool) → is_below zero_ratio r ≡ t → (if t then r *ᵣ a.lower else (if is_below r zero_ratio then r *ᵣ bound_of a.upper else zero_ratio)) ≤ᵣ r *ᵣ q
    above true e = *ᵣ_at_most (<ᵣ_is_≤ᵣ (is_below_true zero_ratio r e)) k.0
    above false e = below (is_below r zero_ratio) refl (is_below_false zero_ratio r e)

pub no_plan : NoPlan
no_plan net p i x f =
    let free = priced (λ (a, amount). zero_ratio) (λ (a, amount). amount) (λ (a, amount) (v, potential). coefficient a.ends v) (λ (v, potential). potential) (zip net.arcs x) (enumerate_from 0 p) in
    let nothing = total_each (zip net.arcs x) (λ (a, amount). zero-*ᵣ amount) ∙ total_zero (zip net.arcs x) in
    clash i.gap_above
    (≤ᵣ_trans (+ᵣ_at_most
    (≤ᵣ_same (sym (worth_of_balance net p x i.one_each f)))
    (total_beside_at_most (λ a. least_worth (reduced p a.ends zero_ratio) a) (λ (a, amount). reduced p a.ends zero_ratio *ᵣ amount)
    (λ (a, amount). IsWithin a amount) (λ a. reduced p a.ends zero_ratio <ᵣ zero_ratio → IsFinite a.upper)
    (λ a q h k. worth_least (reduced p a.ends zero_ratio) a q h k) net.arcs x f.one_each i.finite f.within))
    (≤ᵣ_same (+ᵣ_comm _ _ ∙ sym free ∙ nothing)))
