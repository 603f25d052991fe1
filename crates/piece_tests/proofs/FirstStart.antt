-- The start of the tests: A needs 1, and a link goes from A to B with the gain 2 and one back.
use Rattle.std.specs.Prelude.{◌≡◌, ℕ, ◌<◌, pos, negsuc, [], ◌∷◌}
use Rattle.std.proofs.Common.{refl, ap, arith}
use Rattle.std.proofs.lemmas.Int.{ints}
use Rattle.std.proofs.lemmas.List.Elements.{All-cons, All-nil}
use Rattle.np_frac.specs.Ratio.{Ratio, same_numbers, whole, zero_ratio, one_ratio, negated, ◌<ᵣ◌, ◌+ᵣ◌, ◌-ᵣ◌, ◌*ᵣ◌}
use Rattle.np_frac.proofs.Field.{whole_above, one_above}
use Rattle.np_frac.proofs.RatioLaws.{+ᵣ-zero, *ᵣ-zero, minus-zero}
use Rattle.np_model.specs.declared.arc.NetArc.{NetArc}
use Rattle.np_model.specs.declared.arc.Ends.{Ends}
use Rattle.np_model.specs.declared.arc.Ends.TheVariants.{Link, Drain, Feed}
use Rattle.np_model.specs.declared.arc.Upper.TheVariants.{Infinite}
use Rattle.np_model.specs.Network.Flows.{Network}
use Rattle.np_model.specs.Network.Nets.{IsSoundArc, IsNet}
use Rattle.np_model.specs.Basis.Starts.{residual, artificial_ends, start_flows}

abbrev pub from_0 : Ends → NetArc
from_0 ends = record { ends = ends; lower = zero_ratio; upper = Infinite; cost = one_ratio }

abbrev pub there : NetArc
there = from_0 (Link 0 1 (whole (pos 2)))

abbrev pub back : NetArc
back = from_0 (Link 1 0 one_ratio)

abbrev pub net : Network
net = record { supply = whole (negsuc 0) ∷ zero_ratio ∷ []; arcs = there ∷ back ∷ [] }

-- ---- it is a network

there_sound : IsSoundArc 2 there
there_sound = record { joins = (omega arith, omega arith, λ e. absurd (omega (arith, e))); gain = whole_above (pos 2) (omega (arith, ints)); bounds = record {} }

back_sound : IsSoundArc 2 back
back_sound = record { joins = (omega arith, omega arith, λ e. absurd (omega (arith, e))); gain = one_above; bounds = record {} }

pub is_net : IsNet net.supply net.arcs
is_net = record {
  few_nodes = omega arith;
  few_arcs = omega arith;
  sound = All-cons (IsSoundArc 2) there (back ∷ []) there_sound (All-cons (IsSoundArc 2) back [] back_sound (All-nil (IsSoundArc 2)));
}

-- ---- its start

left : (s c d : Ratio) → s -ᵣ ((zero_ratio +ᵣ c *ᵣ zero_ratio) +ᵣ d *ᵣ zero_ratio) ≡ s
left s c d = rw (*ᵣ-zero c, *ᵣ-zero d, +ᵣ-zero zero_ratio, +ᵣ-zero zero_ratio) (minus-zero s)

at_a : residual net 0 ≡ whole (negsuc 0)
at_a = left (whole (negsuc 0)) one_ratio (negated one_ratio)

at_b : residual net 1 ≡ zero_ratio
at_b = left zero_ratio (negated (whole (pos 2))) one_ratio

pub artificial : artificial_ends net ≡ Feed 0 ∷ Drain 1 ∷ []
unfolding whole
artificial = rw (at_a, at_b) refl

missing : negated (whole (negsuc 0)) ≡ one_ratio
unfolding whole negated
missing = same_numbers _ _ refl refl

pub flows : start_flows net ≡ zero_ratio ∷ zero_ratio ∷ one_ratio ∷ zero_ratio ∷ []
unfolding whole
flows = rw (at_a, at_b) (ap (λ (t : Ratio). zero_ratio ∷ zero_ratio ∷ t ∷ zero_ratio ∷ []) missing)
