-- The tables of a record more.
use Rattle.std.specs.Prelude.{suc, zero, ◌≡◌, ℕ, ◌+◌, ◌*◌, ◌<◌, true, false, IsSome, Option, Some, None, List, [], ◌∷◌, ◌++◌, length, set, get_or, slice_get, codes}
use Rattle.std.specs.List.{AllByRecursion, filter_map}
use Rattle.std.specs.Str.{bytes_eq}
use Rattle.std.proofs.Common.{refl, ap, ◌∙◌, inl, inr, arith}
use Rattle.std.proofs.lemmas.Bool.{cases_Bool}
use Rattle.std.proofs.lemmas.List.{append-nil, length_push}
use Rattle.std.proofs.lemmas.List.Elements.{filter_map-append}
use Rattle.std.proofs.lemmas.List.Sums.{sum_by_push, sum_by-set}
use Rattle.np_records.specs.Records.{field_of}
use Rattle.np_records.specs.Names.{place_of, place_in}
use Rattle.np_model.specs.declared.scheme.Band.{Band}
use Rattle.np_model.specs.declared.scheme.Flow.{Flow}
use Rattle.np_model.specs.Scheme.Valid.{expanded_arcs}
use Rattle.np_model.specs.Scheme.Kinds.{periods_of}
use Rattle.net_csv.specs.declared.given.Given.{Given}
use Rattle.np_records.specs.Rows.{is_kind}
use Rattle.net_csv.specs.Network.{is_flow, defined_node, defined_flow, defined_nodes, defined_flows, given_in, head_in, piece_in, supplies_of, heads_of, pieces_of, flows_of, bands_at, with_bands}
use Rattle.net_csv.specs.Faults.{band_of}
use Rattle.net_csv.specs.Steps.Tables.{Tables, tables_of, with_node, with_supply, with_flow, with_piece, banded, supply_of, plain_flow, head_of}
use Rattle.np_records.proofs.Places.{place-is, place-within}
use Rattle.np_records.proofs.FieldFacts.{kind-is}
use Rattle.net_csv.proofs.RowKinds.{IsFine, supplies-kept, heads-kept, pieces-kept}
use Rattle.net_csv.proofs.FlowLists.{bands-beyond, with_bands-flow, with_bands-band}

-- ---- lists

gives : {X Y : Type 0} (f : X → Option Y) (xs : List X) (x : X) (y : Y) → f x ≡ Some y → filter_map f (xs ++ x ∷ []) ≡ filter_map f xs ++ y ∷ []
gives f xs x y e = filter_map-append f xs (x ∷ []) ∙ rw e refl

gives_none : {X Y : Type 0} (f : X → Option Y) (xs : List X) (x : X) → f x ≡ None → filter_map f (xs ++ x ∷ []) ≡ filter_map f xs
gives_none f xs x e = filter_map-append f xs (x ∷ []) ∙ rw e (append-nil (filter_map f xs))

same_parts : (t u : Tables) → t.periods ≡ u.periods → t.nodes ≡ u.nodes → t.names ≡ u.names → t.supplies ≡ u.supplies → t.flows ≡ u.flows → t.arcs ≡ u.arcs → t ≡ u
same_parts t u a b c d e f = parts _ _ _ _ _ _ _ _ _ _ _ _ a b c d e f
  where
    parts : (p q : ℕ) (n m x y : List (List ℕ)) (s v : List Given) (f g : List Flow) (k l : ℕ) → p ≡ q → n ≡ m → x ≡ y → s ≡ v → f ≡ g → k ≡ l
        → ◌≡◌ {A = Tables} (record { periods = p; nodes = n; names = x; supplies = s; flows = f; arcs = k }) (record { periods = q; nodes = m; names = y; supplies = v; flows = g; arcs = l })
    parts p q n m x y s v f g k l a b c d e h = rw (a, b, c, d, e, h) refl

-- ---- a node

pub tables-node : (periods : ℕ) (rows : List (List (List ℕ))) (r : List (List ℕ)) → AllByRecursion (IsFine (defined_nodes rows) (defined_flows rows)) rows
    → is_kind r (codes "node") ≡ true → tables_of periods (rows ++ r ∷ []) ≡ with_node (tables_of periods rows) r
unfolding tables_of
tables-node periods rows r fine t =
    let word = kind-is r (codes "node") t in
    let no_supply : is_kind r (codes "supply") ≡ false = rw word refl in
    let no_flow : is_flow r ≡ false = rw word refl in
    let no_piece : is_kind r (codes "piece") ≡ false = rw word refl in
    let nodes : defined_nodes (rows ++ r ∷ []) ≡ defined_nodes rows ++ field_of r 1 ∷ [] = gives defined_node rows r (field_of r 1) (rw t refl) in
    let names : defined_flows (rows ++ r ∷ []) ≡ defined_flows rows = gives_none defined_flow rows r (rw no_flow refl) in
    let supplies : supplies_of (rows ++ r ∷ []) ≡ supplies_of rows = rw nodes (gives_none (given_in (defined_nodes rows ++ field_of r 1 ∷ [])) rows r (rw no_supply refl) ∙ supplies-kept (defined_nodes rows) (field_of r 1 ∷ []) (defined_flows rows) rows fine) in
    let heads : heads_of (rows ++ r ∷ []) ≡ heads_of rows = rw nodes (gives_none (head_in (defined_nodes rows ++ field_of r 1 ∷ [])) rows r (rw no_flow refl) ∙ heads-kept (defined_nodes rows) (field_of r 1 ∷ []) (defined_flows rows) rows fine) in
    let pieces : pieces_of (rows ++ r ∷ []) ≡ pieces_of rows = rw names (gives_none (piece_in (defined_flows rows)) rows r (rw no_piece refl)) in
    let flows : flows_of (rows ++ r ∷ []) ≡ flows_of rows = rw (heads, pieces) refl in
    same_parts _ _ refl nodes names supplies flows (ap (λ (l : List Flow). expanded_arcs periods l) flows)

-- ---- a supply

pub tables-supply : (periods : ℕ) (rows : List (List (List ℕ))) (r : List (List ℕ)) → is_kind r (codes "supply") ≡ true → IsSome (place_of (defined_nodes rows) (field_of r 1))
    → tables_of periods (rows ++ r ∷ []) ≡ with_supply (tables_of periods rows) r
unfolding tables_of
tables-supply periods rows r t node =
    let word = kind-is r (codes "supply") t in
    let no_node : is_kind r (codes "node") ≡ false = rw word refl in
    let no_flow : is_flow r ≡ false = rw word refl in
    let no_piece : is_kind r (codes "piece") ≡ false = rw word refl in
    let nodes : defined_nodes (rows ++ r ∷ []) ≡ defined_nodes rows = gives_none defined_node rows r (rw no_node refl) in
    let names : defined_flows (rows ++ r ∷ []) ≡ defined_flows rows = gives_none defined_flow rows r (rw no_flow refl) in
    let gift : given_in (defined_nodes rows) r ≡ Some (supply_of (defined_nodes rows) r) = rw (t, place-is (defined_nodes rows) (field_of r 1) node) refl in
    let supplies : supplies_of (rows ++ r ∷ []) ≡ supplies_of rows ++ supply_of (defined_nodes rows) r ∷ [] = rw nodes (gives (given_in (defined_nodes rows)) rows r _ gift) in
    let heads : heads_of (rows ++ r ∷ []) ≡ heads_of rows = rw nodes (gives_none (head_in (defined_nodes rows)) rows r (rw no_flow refl)) in
    let pieces : pieces_of (rows ++ r ∷ []) ≡ pieces_of rows = rw names (gives_none (piece_in (defined_flows rows)) rows r (rw no_piece refl)) in
    let flows : flows_of (rows ++ r ∷ []) ≡ flows_of rows = rw (heads, pieces) refl in
    same_parts _ _ refl nodes names supplies flows (ap (λ (l : List Flow). expanded_arcs periods l) flows)

-- ---- a flow

pub flow-apart : (r : List (List ℕ)) (w : List ℕ) → is_flow r ≡ true
    → bytes_eq (codes "arc") w ≡ false → bytes_eq (codes "hold") w ≡ false → bytes_eq (codes "drain") w ≡ false → bytes_eq (codes "feed") w ≡ false → is_kind r w ≡ false
flow-apart r w t arc hold drain feed = elim (cases_Bool (is_kind r (codes "arc"))) [
  | inl a ↦ rw (kind-is r (codes "arc") a) arc
  | inr a ↦ elim (cases_Bool (is_kind r (codes "hold"))) [
    | inl b ↦ rw (kind-is r (codes "hold") b) hold
    | inr b ↦ elim (cases_Bool (is_kind r (codes "drain"))) [
      | inl c ↦ rw (kind-is r (codes "drain") c) drain
      | inr c ↦ elim (cases_Bool (is_kind r (codes "feed"))) [
        | inl d ↦ rw (kind-is r (codes "feed") d) feed
        | inr d ↦ absurd (cc (rw (a, b, c, d) at t))
      ]
    ]
  ]
]

-- each piece names a flow
pieces-within : (ns fs : List (List ℕ)) (rows : List (List (List ℕ))) → AllByRecursion (IsFine ns fs) rows → AllByRecursion (λ p. p.0 < length fs) (filter_map (piece_in fs) rows)
pieces-within ns fs [] h = tt
pieces-within ns fs (r ∷ rs) h = elim (cases_Bool (is_kind r (codes "piece"))) [
  | inl t ↦
      let flow = h.0.piece t in
      rw (t, place-is fs (field_of r 1) flow) (place-within fs (field_of r 1) flow, pieces-within ns fs rs h.1)
  | inr f ↦ rw f (pieces-within ns fs rs h.1)
]

heads-count : (ns : List (List ℕ)) (rows : List (List (List ℕ))) → length (filter_map (head_in ns) rows) ≡ length (defined_flows rows)
heads-count ns [] = refl
heads-count ns (r ∷ rs) = elim (cases_Bool (is_flow r)) [
  | inl t ↦ let rest = heads-count ns rs in rw t (omega arith)
  | inr f ↦ rw f (heads-count ns rs)
]

pub tables-flow : (periods : ℕ) (rows : List (List (List ℕ))) (r : List (List ℕ)) → AllByRecursion (IsFine (defined_nodes rows) (defined_flows rows)) rows
    → is_flow r ≡ true → tables_of periods (rows ++ r ∷ []) ≡ with_flow (tables_of periods rows) r
unfolding tables_of
tables-flow periods rows r fine t =
    let ns = defined_nodes rows in
    let fs = defined_flows rows in
    let no_node : is_kind r (codes "node") ≡ false = flow-apart r (codes "node") t refl refl refl refl in
    let no_supply : is_kind r (codes "supply") ≡ false = flow-apart r (codes "supply") t refl refl refl refl in
    let no_piece : is_kind r (codes "piece") ≡ false = flow-apart r (codes "piece") t refl refl refl refl in
    let nodes : defined_nodes (rows ++ r ∷ []) ≡ ns = gives_none defined_node rows r (rw no_node refl) in
    let names : defined_flows (rows ++ r ∷ []) ≡ fs ++ field_of r 1 ∷ [] = gives defined_flow rows r (field_of r 1) (rw t refl) in
    let supplies : supplies_of (rows ++ r ∷ []) ≡ supplies_of rows = rw nodes (gives_none (given_in ns) rows r (rw no_supply refl)) in
    let head = plain_flow (field_of r 1) (head_of ns r).kind (head_of ns r).numbers in
    let heads : heads_of (rows ++ r ∷ []) ≡ heads_of rows ++ head ∷ [] = rw nodes (gives (head_in ns) rows r head (rw t refl)) in
    let pieces : pieces_of (rows ++ r ∷ []) ≡ pieces_of rows = rw names (gives_none (piece_in (fs ++ field_of r 1 ∷ [])) rows r (rw no_piece refl) ∙ pieces-kept ns fs (field_of r 1 ∷ []) rows fine) in
    let none : bands_at (pieces_of rows) (0 + length (heads_of rows)) ≡ [] = let count = heads-count ns rows in let z : 0 + length (heads_of rows) ≡ length fs = omega arith in rw z (bands-beyond (pieces_of rows) (length fs) (pieces-within ns fs rows fine)) in
    let flows : flows_of (rows ++ r ∷ []) ≡ flows_of rows ++ head ∷ [] = rw (heads, pieces) (with_bands-flow 0 (heads_of rows) head (pieces_of rows) none refl) in
    let arcs : expanded_arcs periods (flows_of rows ++ head ∷ []) ≡ expanded_arcs periods (flows_of rows) + periods_of periods head.kind =
    sum_by_push (λ flow. (1 + length flow.bands) * periods_of periods flow.kind) (flows_of rows) head ∙ omega arith in
    same_parts _ _ refl nodes names supplies flows (ap (λ (l : List Flow). expanded_arcs periods l) flows ∙ arcs)

-- ---- a piece

bands-count : (n : ℕ) (hs : List Flow) (ps : List (ℕ × Band)) → length (with_bands n hs ps) ≡ length hs
bands-count n [] ps = refl
bands-count n (h ∷ hs) ps = let rest = bands-count (n + 1) hs ps in omega arith

pub flows-count : (rows : List (List (List ℕ))) → length (flows_of rows) ≡ length (defined_flows rows)
flows-count rows = bands-count 0 (heads_of rows) (pieces_of rows) ∙ heads-count (defined_nodes rows) rows

-- what stands at a place
pub there : {X : Type 0} (xs : List X) (k : ℕ) → k < length xs → (x : X) × (slice_get xs k ≡ Some x)
there [] k h = absurd (omega arith)
there (x ∷ xs) zero h = (x, refl)
there (x ∷ xs) (suc k) h = there xs k (omega arith)

get_or-there : {X : Type 0} (xs : List X) (k : ℕ) (x : X) → slice_get xs k ≡ Some x → get_or xs k x ≡ x
get_or-there [] k x e = refl
get_or-there (y ∷ ys) zero x e = cc e
get_or-there (y ∷ ys) (suc k) x e = get_or-there ys k x e

one_more : (n k : ℕ) → (1 + (n + 1)) * k ≡ (1 + n) * k + k
one_more n k = omega arith

pub tables-piece : (periods : ℕ) (rows : List (List (List ℕ))) (r : List (List ℕ)) → is_kind r (codes "piece") ≡ true → IsSome (place_of (defined_flows rows) (field_of r 1))
    → tables_of periods (rows ++ r ∷ []) ≡ with_piece (tables_of periods rows) r
unfolding tables_of
tables-piece periods rows r t named =
    let ns = defined_nodes rows in
    let fs = defined_flows rows in
    let word = kind-is r (codes "piece") t in
    let no_node : is_kind r (codes "node") ≡ false = rw word refl in
    let no_supply : is_kind r (codes "supply") ≡ false = rw word refl in
    let no_flow : is_flow r ≡ false = rw word refl in
    let nodes : defined_nodes (rows ++ r ∷ []) ≡ ns = gives_none defined_node rows r (rw no_node refl) in
    let names : defined_flows (rows ++ r ∷ []) ≡ fs = gives_none defined_flow rows r (rw no_flow refl) in
    let supplies : supplies_of (rows ++ r ∷ []) ≡ supplies_of rows = rw nodes (gives_none (given_in ns) rows r (rw no_supply refl)) in
    let heads : heads_of (rows ++ r ∷ []) ≡ heads_of rows = rw nodes (gives_none (head_in ns) rows r (rw no_flow refl)) in
    let k = place_in fs (field_of r 1) in
    let gift : piece_in fs r ≡ Some (k, band_of r) = rw (t, place-is fs (field_of r 1) named) refl in
    let pieces : pieces_of (rows ++ r ∷ []) ≡ pieces_of rows ++ (k, band_of r) ∷ [] = rw names (gives (piece_in fs) rows r _ gift) in
    let within = place-within fs (field_of r 1) named in
    let count = flows-count rows in
    let here = there (flows_of rows) k (omega arith) in
    let flow = here.0 in
    let more : with_bands 0 (heads_of rows) (pieces_of rows ++ (0 + k, band_of r) ∷ []) ≡ set (flows_of rows) k (banded flow (band_of r)) = with_bands-band 0 k (heads_of rows) (pieces_of rows) (band_of r) flow here.1 in
    let z : 0 + k ≡ k = omega arith in
    let flows : flows_of (rows ++ r ∷ []) ≡ set (flows_of rows) k (banded flow (band_of r)) = rw (heads, pieces) (rw z at more) in
    let size : length (banded flow (band_of r)).bands ≡ length flow.bands + 1 = length_push flow.bands (band_of r) in
    let sum = sum_by-set (λ f. (1 + length f.bands) * periods_of periods f.kind) (flows_of rows) k (banded flow (band_of r)) flow (omega arith) in
    let arcs : expanded_arcs periods (set (flows_of rows) k (banded flow (band_of r))) ≡ expanded_arcs periods (flows_of rows) + periods_of periods flow.kind =
    let more = rw (get_or-there (flows_of rows) k flow here.1, size, one_more (length flow.bands) (periods_of periods flow.kind)) at sum in omega arith in
    rw here.1 (same_parts _ _ refl nodes names supplies flows (ap (λ (l : List Flow). expanded_arcs periods l) flows ∙ arcs))
