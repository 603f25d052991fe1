-- What makes a planning problem valid and a plan fit, as tests.
use Rattle.std.specs.Prelude.{◌≡◌, ◌≢◌, ◌^◌, ◌<◌, ◌≤◌, ℕ, ◌*◌, ◌==◌, ◌&&◌, not, nat_lt, nat_le, Bool, true, List, [], ◌∷◌, length}
use Rattle.std.specs.Str.{bytes_eq}
use Rattle.std.specs.Borrow.{Bor}
use Rattle.std.specs.HashSet.{HashSet, contains, Updates}
use Rattle.std.specs.declared.hash.FoldHasher.{FoldHasher}
use Rattle.std.specs.declared.hash.BuildHasherDefault.{BuildHasherDefault}
use Rattle.np_frac.specs.Ratio.{Ratio, zero_ratio, is_below}
use Rattle.np_model.specs.declared.arc.Upper.{Upper}
use Rattle.np_model.specs.declared.scheme.FlowKind.{FlowKind}
use Rattle.np_model.specs.declared.scheme.FlowKind.TheVariants.{Link, Hold, Drain, Feed}
use Rattle.np_model.specs.declared.scheme.Band.{Band}
use Rattle.np_model.specs.declared.scheme.Flow.{Flow}
use Rattle.np_model.specs.declared.log.Entry.{Entry}
use Rattle.np_model.specs.declared.log.Mark.TheVariants as mark
use Rattle.np_model.specs.Scheme.Fits.{IsShortNumber}
use Rattle.np_model.specs.Network.Arcs.{is_finite, is_at_most, is_under}
use Rattle.np_frac.specs.Amount.{is_amount}
use Rattle.np_model.specs.Scheme.Names.{is_name}
use Rattle.np_model.specs.Scheme.Valid.{has_amounts, expanded_arcs}
use Rattle.std.specs.List.{list_all}

abbrev pub joins_nodes : ℕ → FlowKind → Bool
joins_nodes n (Link from to gain) = nat_lt from n && nat_lt to n && not (from == to)
joins_nodes n (Hold node gain) = nat_lt node n
joins_nodes n (Drain node) = nat_lt node n
joins_nodes n (Feed node) = nat_lt node n

abbrev pub has_gain : FlowKind → Bool
has_gain (Link from to gain) = is_below zero_ratio gain
has_gain (Hold node gain) = is_below zero_ratio gain
has_gain (Drain node) = true
has_gain (Feed node) = true

-- each band begins at a finite end, has some width, and its slope is no less than the one before it
abbrev pub go_on : Upper → Ratio → List Band → Bool
go_on end slope [] = true
go_on end slope (b ∷ bs) = is_finite end && not (is_below b.slope slope) && is_under zero_ratio b.width && go_on b.width b.slope bs

abbrev pub is_sound : ℕ → Flow → Bool
is_sound n flow =
    joins_nodes n flow.kind && has_gain flow.kind && is_at_most flow.lower flow.upper && go_on flow.upper flow.cost flow.bands && has_amounts flow

-- there are periods, not too many of them, of nodes and of flows, and a supply for each node in each period
pub record HasSize (periods : ℕ) (nodes : List (List ℕ)) (supply : List Ratio) (flows : List Flow) : Type 0 where
  pub some_period : 0 < periods
  pub few_periods : periods ≤ 20000
  pub few_nodes : length nodes * periods ≤ 20000
  pub one_each : length supply ≡ periods * length nodes
  pub few_flows : length flows < 2 ^ 32

-- these parts are those of a scheme, but for the names that stand twice
pub record AreTested (periods : ℕ) (nodes : List (List ℕ)) (supply : List Ratio) (flows : List Flow) : Type 0 where
  pub size : HasSize periods nodes supply flows
  pub few : nat_le (expanded_arcs periods flows) 100000 ≡ true
  pub node_names : list_all is_name nodes ≡ true
  pub flow_names : list_all (λ flow. is_name flow.name) flows ≡ true
  pub amounts : list_all is_amount supply ≡ true
  pub sound : list_all (is_sound (length nodes)) flows ≡ true

-- ---- names that were seen

abbrev pub Seen : Type 0
Seen = HashSet (Bor (List ℕ)) (BuildHasherDefault FoldHasher)

-- two references lead to the same bytes
abbrev pub have_same_bytes : Bor (List ℕ) → Bor (List ℕ) → Bool
have_same_bytes a b = bytes_eq a.now b.now

-- a name was added, and it was new or not
abbrev pub Sees : Seen → Seen → Bor (List ℕ) → Bool → Type 0
Sees old new name is_new = (is_new ≡ not (contains have_same_bytes old name)) × Updates have_same_bytes old new name true

-- ---- logs and places

-- what is asked of a pivot of a log
pub record EntryFits (entry : Entry) : Type 0 where
  pub enter : IsShortNumber entry.enter
  pub leave : IsShortNumber entry.leave
  pub at_bound : entry.leave_at ≢ mark.Basic
