-- A record without a fault: its names are defined, and the tables grow by it.
use Rattle.std.specs.Prelude.{◌≡◌, ℕ, true, false, IsSome, is_some, Option, Some, None, List, [], ◌∷◌, ◌++◌, codes}
use Rattle.std.specs.List.{AllByRecursion}
use Rattle.std.proofs.Common.{refl, inl, inr}
use Rattle.std.proofs.lemmas.Bool.{cases_Bool}
use Rattle.std.proofs.lemmas.List.Elements.{filter_map-append}
use Rattle.np_records.specs.Records.{field_of}
use Rattle.np_records.specs.Names.{place_of}
use Rattle.np_model.specs.Scheme.Valid.{expanded_arcs}
use Rattle.np_records.proofs.FaultFacts.{or-first, or-rest}
use Rattle.net_csv.specs.declared.refused.Code.TheVariants.{NoSuchName}
use Rattle.np_records.specs.Faults.{unless}
use Rattle.net_csv.specs.Fields.{used_fault}
use Rattle.np_records.specs.Rows.{is_kind}
use Rattle.net_csv.specs.Network.{is_flow, defined_nodes, defined_flows, flows_of, defined_node, defined_flow}
use Rattle.net_csv.specs.Faults.{body_fault, supply_fault, flow_fault, piece_fault, kind_fault, head_fault}
use Rattle.net_csv.specs.Steps.Tables.{tables_of, with_record}
use Rattle.np_records.proofs.FieldFacts.{kind-is}
use Rattle.net_csv.proofs.RowKinds.{IsFine, fine-kept, all_fine-kept}
use Rattle.net_csv.proofs.Steps.{flow-apart, tables-node, tables-supply, tables-flow, tables-piece}

pub used-some : (ns : List (List ℕ)) (n : List ℕ) → used_fault ns n ≡ None → IsSome (place_of ns n)
used-some ns n h = by (place_of ns n) h
  where
    by : (o : Option ℕ) → unless (is_some o) NoSuchName ≡ None → IsSome o
    by None e = absurd (cc e)
    by (Some x) e = refl

-- the nodes that a flow joins
kind-node : (ns : List (List ℕ)) (r : List (List ℕ)) → kind_fault ns r ≡ None → IsSome (place_of ns (field_of r 2))
kind-node ns r h = elim (cases_Bool (is_kind r (codes "arc"))) [
  | inl a ↦ used-some ns (field_of r 2) (or-first _ _ (rw a at h))
  | inr a ↦ elim (cases_Bool (is_kind r (codes "hold"))) [
    | inl b ↦ used-some ns (field_of r 2) (or-first _ _ (rw (a, b) at h))
    | inr b ↦ used-some ns (field_of r 2) (rw (a, b) at h)
  ]
]

kind-head : (ns : List (List ℕ)) (r : List (List ℕ)) → is_kind r (codes "arc") ≡ true → kind_fault ns r ≡ None → IsSome (place_of ns (field_of r 3))
kind-head ns r a h = used-some ns (field_of r 3) (or-first _ _ (or-rest _ _ (rw a at h)))

kind-none : (periods arcs : ℕ) (ns fs : List (List ℕ)) (r : List (List ℕ)) → flow_fault periods ns fs arcs r ≡ None → kind_fault ns r ≡ None
kind-none periods arcs ns fs r h = or-first _ _ (or-rest _ _ (or-rest _ _ (or-first (head_fault ns fs r) _ h)))

-- what is left of the fault of a record, by its kind
flow-part : (periods : ℕ) (rows : List (List (List ℕ))) (r : List (List ℕ)) → is_flow r ≡ true → body_fault periods rows r ≡ None
    → flow_fault periods (defined_nodes rows) (defined_flows rows) (expanded_arcs periods (flows_of rows)) r ≡ None
flow-part periods rows r t h =
    let no_node : is_kind r (codes "node") ≡ false = flow-apart r (codes "node") t refl refl refl refl in
    let no_supply : is_kind r (codes "supply") ≡ false = flow-apart r (codes "supply") t refl refl refl refl in
    rw (no_node, no_supply, t) at h

supply-part : (periods : ℕ) (rows : List (List (List ℕ))) (r : List (List ℕ)) → is_kind r (codes "supply") ≡ true → body_fault periods rows r ≡ None
    → supply_fault periods (defined_nodes rows) r ≡ None
supply-part periods rows r t h =
    let no_node : is_kind r (codes "node") ≡ false = rw (kind-is r (codes "supply") t) refl in
    rw (no_node, t) at h

piece-part : (periods : ℕ) (rows : List (List (List ℕ))) (r : List (List ℕ)) → is_kind r (codes "piece") ≡ true → body_fault periods rows r ≡ None
    → piece_fault periods (defined_flows rows) (expanded_arcs periods (flows_of rows)) (flows_of rows) r ≡ None
piece-part periods rows r t h =
    let word = kind-is r (codes "piece") t in
    let no_node : is_kind r (codes "node") ≡ false = rw word refl in
    let no_supply : is_kind r (codes "supply") ≡ false = rw word refl in
    let no_flow : is_flow r ≡ false = rw word refl in
    rw (no_node, no_supply, no_flow, t) at h

pub fine-none : (periods : ℕ) (rows : List (List (List ℕ))) (r : List (List ℕ)) → body_fault periods rows r ≡ None → IsFine (defined_nodes rows) (defined_flows rows) r
fine-none periods rows r h = record {
  supply = λ t. used-some (defined_nodes rows) (field_of r 1) (or-first _ _ (or-rest _ _ (supply-part periods rows r t h)));
  node = λ t. kind-node (defined_nodes rows) r (kind-none _ _ _ _ r (flow-part periods rows r t h));
  head = λ t. kind-head (defined_nodes rows) r t (kind-none _ _ _ _ r (flow-part periods rows r (rw t refl) h));
  piece = λ t. used-some (defined_flows rows) (field_of r 1) (or-first _ _ (or-rest _ _ (piece-part periods rows r t h)));
}

all-push : {X : Type 0} (P : X → Type 0) (xs : List X) (x : X) → AllByRecursion P xs → P x → AllByRecursion P (xs ++ x ∷ [])
all-push P [] x all here = (here, tt)
all-push P (y ∷ ys) x all here = (all.0, all-push P ys x all.1 here)

pub fine-more : (rows : List (List (List ℕ))) (r : List (List ℕ)) → AllByRecursion (IsFine (defined_nodes rows) (defined_flows rows)) rows → IsFine (defined_nodes rows) (defined_flows rows) r
    → AllByRecursion (IsFine (defined_nodes (rows ++ r ∷ [])) (defined_flows (rows ++ r ∷ []))) (rows ++ r ∷ [])
fine-more rows r fine here =
    let ns = defined_nodes rows in
    let fs = defined_flows rows in
    rw (filter_map-append defined_node rows (r ∷ []), filter_map-append defined_flow rows (r ∷ []))
    (all-push (IsFine (ns ++ defined_nodes (r ∷ [])) (fs ++ defined_flows (r ∷ []))) rows r
    (all_fine-kept ns (defined_nodes (r ∷ [])) fs (defined_flows (r ∷ [])) rows fine) (fine-kept ns (defined_nodes (r ∷ [])) fs (defined_flows (r ∷ [])) r here))

-- the tables grow by a record without a fault
pub tables-more : (periods : ℕ) (rows : List (List (List ℕ))) (r : List (List ℕ)) → AllByRecursion (IsFine (defined_nodes rows) (defined_flows rows)) rows → body_fault periods rows r ≡ None
    → tables_of periods (rows ++ r ∷ []) ≡ with_record (tables_of periods rows) r
tables-more periods rows r fine h = elim (cases_Bool (is_kind r (codes "node"))) [
  | inl t ↦ rw t (tables-node periods rows r fine t)
  | inr a ↦ elim (cases_Bool (is_kind r (codes "supply"))) [
    | inl t ↦ rw (a, t) (tables-supply periods rows r t ((fine-none periods rows r h).supply t))
    | inr b ↦ elim (cases_Bool (is_flow r)) [
      | inl t ↦ rw (a, b, t) (tables-flow periods rows r fine t)
      | inr c ↦ elim (cases_Bool (is_kind r (codes "piece"))) [
        | inl t ↦ rw (a, b, c) (tables-piece periods rows r t ((fine-none periods rows r h).piece t))
        | inr d ↦ absurd (cc (rw (a, b, c, d) at h))
      ]
    ]
  ]
]
