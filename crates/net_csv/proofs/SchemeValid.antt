-- The scheme of tables that are ready is valid.
use Rattle.std.specs.Prelude.{◌≡◌, ℕ, ◌*◌, Bool, true, false, Option, Some, None, IfSome, unwrap_or, List, [], ◌∷◌, length, map, pos, if◌then◌else◌}
use Rattle.std.specs.List.{AllByRecursion, range_with_len}
use Rattle.std.specs.Option.{option_or}
use Rattle.std.proofs.Common.{lit<}
use Rattle.std.proofs.lemmas.List.Elements.{All-map, All-weaker, recursion_from_All}
use Rattle.std.proofs.lemmas.List.FromFn.{length-map-range_with_len}
use Rattle.np_frac.specs.Ratio.{Ratio, zero_ratio}
use Rattle.np_frac.specs.Amount.{is_amount}
use Rattle.np_frac.proofs.Amounts.{whole_amount}
use Rattle.np_model.specs.Scheme.Valid.{IsScheme}
use Rattle.net_csv.specs.declared.given.Given.{Given}
use Rattle.net_csv.specs.Network.{covers, last_given, supply_from}
use Rattle.net_csv.specs.Steps.Tables.{Tables, IsGiven, IsReady}

zero-is : is_amount zero_ratio ≡ true
zero-is = whole_amount (pos 0) (lit< tt)

later-or : (o p : Option Ratio) → IfSome o (λ a. is_amount a ≡ true) → IfSome p (λ a. is_amount a ≡ true) → IfSome (option_or o p) (λ a. is_amount a ≡ true)
later-or None p h k = k
later-or (Some a) p h k = h

given-amount : (gs : List Given) (node period : ℕ) → AllByRecursion (λ g. is_amount g.amount ≡ true) gs → IfSome (last_given gs node period) (λ a. is_amount a ≡ true)
given-amount [] node period h = tt
given-amount (g ∷ gs) node period h = later-or (last_given gs node period) _ (given-amount gs node period h.1) (here (covers g node period))
  where
    here : (b : Bool) → IfSome (if b then Some g.amount else None) (λ a. is_amount a ≡ true)
    here true = h.0
    here false = tt

or-zero : (o : Option Ratio) → IfSome o (λ a. is_amount a ≡ true) → is_amount (unwrap_or o zero_ratio) ≡ true
or-zero None h = zero-is
or-zero (Some a) h = h

pub made-valid : (t : Tables) → IsReady t → IsScheme t.periods t.nodes (map (supply_from (length t.nodes) t.supplies) (range_with_len 0 (t.periods * length t.nodes))) t.flows
made-valid t h =
    let n = length t.nodes in
    let given = recursion_from_All (λ (g : Given). is_amount g.amount ≡ true) t.supplies
    (All-weaker (IsGiven n t.periods) (λ (g : Given). is_amount g.amount ≡ true) (λ g k. k.amount) t.supplies h.kept.supplies) in
    record {
      some_period = h.some_period;
      few_periods = h.few_periods;
      node_names = h.kept.nodes;
      few_nodes = h.kept.few_nodes;
      one_each = length-map-range_with_len (supply_from n t.supplies) 0 (t.periods * n);
      amounts = All-map (λ (a : Ratio). is_amount a ≡ true) (supply_from n t.supplies) (range_with_len 0 (t.periods * n))
          (λ k d lt. or-zero (last_given t.supplies _ _) (given-amount t.supplies _ _ given));
      flow_names = rw h.kept.same_names h.kept.flow_names;
      sound = h.kept.sound;
      few_flows = h.few_flows;
      few_arcs = h.few_arcs;
    }

-- the same of these nodes and this supply
pub parts-valid : (t : Tables) (nodes : List (List ℕ)) (supply : List Ratio) → IsReady t → nodes ≡ t.nodes
    → supply ≡ map (supply_from (length t.nodes) t.supplies) (range_with_len 0 (t.periods * length t.nodes)) → IsScheme t.periods nodes supply t.flows
parts-valid t nodes supply h n s = rw (n, s) (made-valid t h)
