-- A record without a fault leaves room in the tables.
use Rattle.std.specs.Prelude.{◌≡◌, ℕ, suc, zero, ◌+◌, ◌*◌, ◌<◌, ◌≤◌, nat_le, not, true, Option, Some, None, List, length, slice_get, codes}
use Rattle.std.specs.Option.{option_map_or, option_and_then}
use Rattle.std.proofs.Common.{inl, inr, arith}
use Rattle.std.proofs.lemmas.Bool.{cases_Bool}
use Rattle.std.proofs.lemmas.Bool.Decides.{nat_tests}
use Rattle.std.proofs.lemmas.List.{length_push, length-set}
use Rattle.np_frac.specs.Ratio.{zero_ratio, is_below}
use Rattle.np_records.specs.Records.{field_of}
use Rattle.np_model.specs.declared.scheme.Band.{Band}
use Rattle.np_model.specs.declared.scheme.Flow.{Flow}
use Rattle.np_model.specs.Scheme.Kinds.{periods_of}
use Rattle.np_records.proofs.FaultFacts.{or-first, or-rest, unless-none}
use Rattle.net_csv.specs.declared.refused.Code.TheVariants as code
use Rattle.np_records.specs.Faults.{unless}
use Rattle.net_csv.specs.Fields.{amount_fault, upper_fault, used_fault, fields_fault}
use Rattle.np_records.specs.Names.{place_in}
use Rattle.np_records.specs.Rows.{is_kind}
use Rattle.net_csv.specs.Network.{is_flow, kind_in, bounds_place}
use Rattle.net_csv.specs.Faults.{record_fault, piece_fault, nodes_fault, arcs_fault, band_fault, band_of, head_fault, present_slope, has_finite_end}
use Rattle.np_model.specs.Network.Arcs.{is_under}
use Rattle.net_csv.specs.Steps.Tables.{Tables, HasRoom, with_record, with_node, with_supply, with_flow, with_piece, band_added, banded, plain_flow, numbers_of}

le-times : (n k m : ℕ) → 0 < k → n * k ≤ m → n ≤ m
le-times n zero m h l = absurd (omega arith)
le-times n (suc k) m h l = omega arith

nodes-few : (periods n : ℕ) → 0 < periods → nodes_fault periods n ≡ None → n ≤ 20000
nodes-few periods n some h =
    let t : nat_le (n * periods) 20000 ≡ true = unless-none _ _ h in
    le-times n periods 20000 some (grind (arith, nat_tests))

arcs-few : (n : ℕ) → arcs_fault n ≡ None → n ≤ 100000
arcs-few n h = let t : nat_le n 100000 ≡ true = unless-none _ _ h in grind (arith, nat_tests)

room-node : (t : Tables) (r : List (List ℕ)) → HasRoom t → length t.nodes + 1 ≤ 20000 → HasRoom (with_node t r)
room-node t r h few = let size = length_push t.nodes (field_of r 1) in record { one_each = h.one_each; periods = h.periods; nodes = omega arith; arcs = h.arcs }

room-supply : (t : Tables) (r : List (List ℕ)) → HasRoom t → HasRoom (with_supply t r)
room-supply t r h = record { one_each = h.one_each; periods = h.periods; nodes = h.nodes; arcs = h.arcs }

room-flow : (t : Tables) (r : List (List ℕ)) → HasRoom t → t.arcs + periods_of t.periods (kind_in t.nodes r) ≤ 100000 → HasRoom (with_flow t r)
room-flow t r h few =
    let names = length_push t.names (field_of r 1) in
    let flows = length_push t.flows (plain_flow (field_of r 1) (kind_in t.nodes r) (numbers_of r (bounds_place r))) in
    let each = h.one_each in
    record { one_each = omega arith; periods = h.periods; nodes = h.nodes; arcs = few }

room-band : (t : Tables) (place : ℕ) (band : Band) (o : Option Flow) → HasRoom t → option_and_then (band_fault t.periods t.arcs band) o ≡ None → HasRoom (option_map_or (band_added t place band) o t)
room-band t place band None h e = h
room-band t place band (Some f) h e =
    let size = length-set t.flows place (banded f band) in
    let each = h.one_each in
    record {
      one_each = omega arith;
      periods = h.periods;
      nodes = h.nodes;
      arcs = arcs-few (t.arcs + periods_of t.periods f.kind)
          (or-first (arcs_fault (t.arcs + periods_of t.periods f.kind)) None
          (or-rest (unless (not (is_below band.slope (present_slope f))) code.NotConvex) _
          (or-rest (unless (is_under zero_ratio band.width) code.BadBounds) _
          (or-rest (unless (has_finite_end f) code.PieceAfterInfinite) _ e))));
    }

room-piece : (t : Tables) (r : List (List ℕ)) → HasRoom t → piece_fault t.periods t.names t.arcs t.flows r ≡ None → HasRoom (with_piece t r)
room-piece t r h e =
    let o = slice_get t.flows (place_in t.names (field_of r 1)) in
    room-band t (place_in t.names (field_of r 1)) (band_of r) o h
    (or-first (option_and_then (band_fault t.periods t.arcs (band_of r)) o) None
    (or-rest (amount_fault (field_of r 3)) _
    (or-rest (upper_fault (field_of r 2)) _
    (or-rest (used_fault t.names (field_of r 1)) _
    (or-rest (fields_fault 4 r) _ e)))))

pub room-more : (t : Tables) (r : List (List ℕ)) → 0 < t.periods → HasRoom t → record_fault t.periods t.nodes t.names t.arcs t.flows r ≡ None → HasRoom (with_record t r)
room-more t r some h e = elim (cases_Bool (is_kind r (codes "node"))) [
  | inl y ↦ rw y (room-node t r h (nodes-few t.periods _ some (or-first _ _ (or-rest _ _ (or-rest _ _ (rw y at e))))))
  | inr a ↦ elim (cases_Bool (is_kind r (codes "supply"))) [
    | inl y ↦ rw (a, y) (room-supply t r h)
    | inr b ↦ elim (cases_Bool (is_flow r)) [
      | inl y ↦ rw (a, b, y) (room-flow t r h (arcs-few _ (or-rest (head_fault t.nodes t.names r) _ (rw (a, b, y) at e))))
      | inr c ↦ elim (cases_Bool (is_kind r (codes "piece"))) [
        | inl y ↦ rw (a, b, c) (room-piece t r h (rw (a, b, c, y) at e))
        | inr d ↦ absurd (cc (rw (a, b, c, d) at e))
      ]
    ]
  ]
]
