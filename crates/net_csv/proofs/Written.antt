-- The text of a scheme is read, and it is the text of that scheme.
use Rattle.std.specs.Prelude.{◌≡◌, ℕ, ◌+◌, ◌*◌, ◌<◌, ◌≤◌, true, Ok, List, [], ◌∷◌, ◌++◌, length, map, get_or, codes, decimal}
use Rattle.std.specs.List.{AllByRecursion, filter_map, flat_map, enumerate_from}
use Rattle.std.proofs.Common.{refl, sym, ap, arith, subst, append_assoc}
use Rattle.std.proofs.lemmas.List.{append-nil, length-append}
use Rattle.std.proofs.lemmas.List.Elements.{recursion_from_All}
use Rattle.std.proofs.lemmas.List.FromFn.{fill_by_all}
use Rattle.np_frac.specs.Ratio.{Ratio, zero_ratio}
use Rattle.np_frac.specs.Amount.{is_amount}
use Rattle.np_model.specs.declared.scheme.Flow.{Flow}
use Rattle.np_model.specs.declared.scheme.Scheme.{Scheme}
use Rattle.np_model.specs.Scheme.Valid.{IsSound}
use Rattle.np_model.specs.Scheme.Names.{is_name}
use Rattle.net_csv.specs.declared.given.Given.{Given}
use Rattle.net_csv.specs.declared.refused.Tail.{Tail}
use Rattle.net_csv.specs.declared.refused.Tail.TheVariants as tail
use Rattle.net_csv.specs.Network.{defined_nodes, supplies_of, flows_of}
use Rattle.net_csv.specs.Grammar.{IsSchemeOf, read_records, periods_in, body_of, supply_at}
use Rattle.net_csv.specs.Steps.Tables.{Tables, tables_of, no_tables}
use Rattle.net_csv.specs.Steps.Reading.{IsHeadRead, IsTextRead}
use Rattle.net_csv.specs.Writing.{node_row, supply_row, flow_rows, body_rows, rows_of}
use Rattle.net_csv.proofs.SoFar.{IsSoFar, so_far-head, so_far-end}
use Rattle.net_csv.proofs.Tails.{told-plan, told-nothing}
use Rattle.net_csv.proofs.Runs.{Runs, runs-append, runs-so_far}
use Rattle.net_csv.proofs.WrittenFields.{number-decimal, decimal-period}
use Rattle.net_csv.proofs.WrittenNodes.{node_tables, runs-nodes}
use Rattle.net_csv.proofs.WrittenSupplies.{gift, runs-supplies, given-at}
use Rattle.net_csv.proofs.WrittenBands.{flow_tables, runs-flows}

-- the supplies that are written
abbrev pub gifts : List (List ℕ) → List Ratio → List Given
gifts nodes supply = filter_map (gift (length nodes)) (enumerate_from 0 supply)

names-of : (flows : List Flow) → AllByRecursion (λ name. is_name name ≡ true) (map (λ flow. flow.name) flows) → AllByRecursion (λ flow. is_name flow.name ≡ true) flows
names-of [] h = tt
names-of (f ∷ fs) h = (h.0, names-of fs h.1)

-- ---- the body

pub runs-body : (s : Scheme) → Runs (no_tables s.periods) (body_rows s) (flow_tables s.periods s.nodes (gifts s.nodes s.supply) s.flows)
runs-body s =
    let v = s.valid in
    let nodes = v.node_names in
    let named = recursion_from_All (λ name. is_name name ≡ true) s.nodes nodes.each in
    let amounts = recursion_from_All (λ amount. is_amount amount ≡ true) s.supply v.amounts in
    let sound = recursion_from_All (IsSound (length s.nodes)) s.flows v.sound in
    let names = recursion_from_All (λ name. is_name name ≡ true) (map (λ flow. flow.name) s.flows) v.flow_names.each in
    let t = node_tables s.periods s.nodes in
    let places : 0 + length s.supply ≤ s.periods * length s.nodes = let each = v.one_each in omega arith in
    let first = runs-nodes s.periods s.nodes [] named nodes.distinct v.few_nodes in
    let second = runs-supplies t s.supply 0 [] nodes.distinct places v.few_periods amounts in
    let third = runs-flows s.periods s.nodes (gifts s.nodes s.supply) s.flows [] nodes.distinct sound (names-of s.flows names) v.flow_names.distinct v.few_arcs in
    runs-append (map node_row s.nodes ++ filter_map (supply_row s.nodes) (enumerate_from 0 s.supply)) (flat_map (flow_rows s.nodes) s.flows) _ _ _
    (runs-append (map node_row s.nodes) (filter_map (supply_row s.nodes) (enumerate_from 0 s.supply)) _ _ _ first second) third

-- ---- the text

head-read : (periods : ℕ) (left : List (List (List ℕ))) → 0 < periods → periods ≤ 20000
    → IsHeadRead ((codes "netplan" ∷ codes "1" ∷ []) ∷ (codes "periods" ∷ decimal periods ∷ []) ∷ left) left periods
head-read periods left some few =
    record {
      header = refl;
      second = rw (decimal-period 20000 periods some few (omega arith)) refl;
      two = omega arith;
      left = refl;
      number = sym (number-decimal periods few);
      some = some;
      few = few;
    }

-- the tables of the whole text
abbrev written_tables : Scheme → Tables
written_tables s = flow_tables s.periods s.nodes (gifts s.nodes s.supply) s.flows

followed-text : (s : Scheme) (after : List (List (List ℕ))) → IsTextRead (rows_of s ++ after) after (written_tables s) (length (rows_of s))
followed-text s after =
    let v = s.valid in
    let body = body_rows s in
    let end = (codes "end" ∷ []) ∷ [] in
    let rows = rows_of s ++ after in
    let start = so_far-head rows (body ++ end ++ after) s.periods (no_tables s.periods) (head-read s.periods (body ++ end ++ after) v.some_period v.few_periods) refl in
    let apart = subst (λ (left : List (List (List ℕ))). IsSoFar rows left 2 (no_tables s.periods)) (append_assoc body end after) start in
    let last = runs-so_far body rows ((codes "end" ∷ []) ∷ after) 2 _ _ apart (runs-body s) in
    let size = length-append body end in
    so_far-end rows after (2 + length body) (length (rows_of s)) _ (codes "end" ∷ []) last (omega arith) refl refl

text-read : (s : Scheme) → IsTextRead (rows_of s) [] (written_tables s) (length (rows_of s))
text-read s = subst (λ (rows : List (List (List ℕ))). IsTextRead rows [] (written_tables s) (length (rows_of s))) (append-nil (rows_of s)) (followed-text s [])

pub written-read : (t : Tail) (s : Scheme) → read_records t (rows_of s) ≡ Ok (length (rows_of s))
written-read tail.Nothing s = told-nothing (rows_of s) _ (length (rows_of s)) (text-read s)
written-read tail.Plan s = told-plan (rows_of s) [] _ (length (rows_of s)) (text-read s)

-- ---- the scheme

supply-back : (body : List (List (List ℕ))) (nodes : List (List ℕ)) (supply : List Ratio) (k : ℕ) → defined_nodes body ≡ nodes → supplies_of body ≡ gifts nodes supply → k < length supply
    → get_or supply k zero_ratio ≡ supply_at body k
supply-back body nodes supply k e g h = rw (g, e) (sym (given-at (length nodes) supply 0 k k (omega arith) h))

parts-of : (periods : ℕ) (body : List (List (List ℕ))) (t : Tables) → t ≡ tables_of periods body → (t.periods ≡ periods) × (t.nodes ≡ defined_nodes body) × (t.supplies ≡ supplies_of body) × (t.flows ≡ flows_of body)
unfolding tables_of
parts-of periods body t e = (ap (λ (x : Tables). x.periods) e, ap (λ (x : Tables). x.nodes) e, ap (λ (x : Tables). x.supplies) e, ap (λ (x : Tables). x.flows) e)

scheme-of : (rows after : List (List (List ℕ))) (s : Scheme) (count : ℕ) → IsTextRead rows after (written_tables s) count → IsSchemeOf rows s
scheme-of rows after s count read =
    let parts = parts-of (periods_in rows) (body_of rows) _ read.tables in
    let size : length s.supply ≡ periods_in rows * length (defined_nodes (body_of rows)) = rw (sym parts.0, sym parts.1) s.valid.one_each in
    record {
      periods = parts.0;
      nodes = parts.1;
      supply = fill_by_all (supply_at (body_of rows)) s.supply _ zero_ratio size (λ k h. supply-back (body_of rows) s.nodes s.supply k (sym parts.1) (sym parts.2) (omega arith));
      flows = parts.3;
    }

pub written-scheme : (s : Scheme) → IsSchemeOf (rows_of s) s
written-scheme s = scheme-of (rows_of s) [] s (length (rows_of s)) (text-read s)

-- with other records behind it
pub followed-read : (s : Scheme) (after : List (List (List ℕ))) → (read_records tail.Plan (rows_of s ++ after) ≡ Ok (length (rows_of s))) × IsSchemeOf (rows_of s ++ after) s
followed-read s after =
    let read = followed-text s after in
    (told-plan (rows_of s ++ after) after _ (length (rows_of s)) read, scheme-of (rows_of s ++ after) after s (length (rows_of s)) read)
