-- A text without a fault stands for a scheme: its tables are ready, and a scheme is made of them.
use Rattle.std.specs.Prelude.{◌≡◌, ◌⊎◌, ℕ, ◌+◌, ◌*◌, ◌^◌, ◌<◌, Option, Some, None, Ok, List, [], ◌∷◌, length, map, codes}
use Rattle.std.specs.List.{range_with_len}
use Rattle.std.proofs.Common.{refl, sym, ◌∙◌, inl, inr}
use Rattle.std.proofs.lemmas.Bool.{cases_Bool}
use Rattle.np_model.specs.declared.scheme.Scheme.{Scheme}
use Rattle.np_records.specs.Faults.{unless}
use Rattle.net_csv.specs.declared.refused.Code.{Code}
use Rattle.net_csv.specs.declared.refused.Code.TheVariants as code
use Rattle.net_csv.specs.declared.refused.Refused.TheVariants as refused
use Rattle.net_csv.specs.declared.refused.Tail.{Tail}
use Rattle.net_csv.specs.Fields.{fields_fault}
use Rattle.np_records.specs.Rows.{is_kind}
use Rattle.net_csv.specs.Network.{supply_from}
use Rattle.net_csv.specs.Faults.{record_fault}
use Rattle.net_csv.specs.Grammar.{is_header, periods_fault, periods_in, read_records, StandsForAScheme}
use Rattle.net_csv.specs.Steps.Tables.{Tables, IsReady, IsMadeOf, no_tables, with_record}
use Rattle.net_csv.specs.Steps.Reading.{IsHeadRead, IsTextRead, RefusesAt}
use Rattle.net_csv.proofs.HeadFacts.{header-refused, periods-refused, head-right, first-missing, second-missing}
use Rattle.net_csv.proofs.SoFar.{IsSoFar, so_far-head, so_far-refused, so_far-no_end, so_far-end, so_far-more, so_far-ready}
use Rattle.net_csv.proofs.SchemeValid.{made-valid}
use Rattle.net_csv.proofs.Tails.{scheme-of}

-- a text that is refused is not read
not-refused : (tail : Tail) (rows : List (List (List ℕ))) (count at : ℕ) (c : Code) → read_records tail rows ≡ Ok count → RefusesAt (refused.Fault at c) rows → ⊥
not-refused tail rows count at c told h = cc (sym told ∙ h tail)

-- a test either holds, or tells a fault
cases-fault : (o : Option Code) → (o ≡ None) ⊎ ((c : Code) × (o ≡ Some c))
cases-fault None = inl refl
cases-fault (Some c) = inr (c, refl)

-- the tables of a text up to its `end`, which are those of a scheme
record Ends (rows : List (List (List ℕ))) : Type 0 where
  pub after : List (List (List ℕ))
  pub tables : Tables
  pub count : ℕ
  pub read : IsTextRead rows after tables count
  pub ready : IsReady tables

-- from where reading is, it goes on to the `end`
goes-on : (tail : Tail) (rows left : List (List (List ℕ))) (place count : ℕ) (t : Tables) → read_records tail rows ≡ Ok count → length rows < 2 ^ 32 → IsSoFar rows left place t → Ends rows
goes-on tail rows [] place count t told few s = absurd (not-refused tail rows count (place + 1) code.NoEnd told (so_far-no_end rows place (place + 1) t s refl))
goes-on tail rows (r ∷ left) place count t told few s =
    let refuses = so_far-refused rows left place (place + 1) t r in
    elim (cases_Bool (is_kind r (codes "end"))) [
      | inl end ↦ elim (cases-fault (fields_fault 1 r)) [
        | inl one ↦ record {
          after = left;
          tables = t;
          count = place + 1;
          read = so_far-end rows left place (place + 1) t r s refl end one;
          ready = so_far-ready rows (r ∷ left) place t s few;
        }
        | inr (c, fault) ↦ absurd (not-refused tail rows count (place + 1) c told (refuses c s refl (rw end fault)))
      ]
      | inr body ↦ elim (cases-fault (record_fault t.periods t.nodes t.names t.arcs t.flows r)) [
        | inl right ↦ goes-on tail rows left (place + 1) count (with_record t r) told few (so_far-more rows left place (place + 1) t (with_record t r) r s refl body right refl)
        | inr (c, fault) ↦ absurd (not-refused tail rows count (place + 1) c told (refuses c s refl (rw body fault)))
      ]
    ]

-- the head is right
head : (tail : Tail) (rows : List (List (List ℕ))) (count : ℕ) → read_records tail rows ≡ Ok count → (left : List (List (List ℕ))) × IsHeadRead rows left (periods_in rows)
head tail [] count told = absurd (not-refused tail [] count 1 code.NoEnd told first-missing)
head tail (a ∷ []) count told = elim (cases-fault (unless (is_header a) code.Header)) [
  | inr (c, fault) ↦ absurd (not-refused tail (a ∷ []) count 1 c told (header-refused (a ∷ []) [] a c refl fault))
  | inl header ↦ absurd (not-refused tail (a ∷ []) count 2 code.NoEnd told (second-missing (a ∷ []) [] a refl refl header))
]
head tail (a ∷ b ∷ left) count told = elim (cases-fault (unless (is_header a) code.Header)) [
  | inr (c, fault) ↦ absurd (not-refused tail (a ∷ b ∷ left) count 1 c told (header-refused (a ∷ b ∷ left) (b ∷ left) a c refl fault))
  | inl header ↦ elim (cases-fault (periods_fault b)) [
    | inr (c, fault) ↦ absurd (not-refused tail (a ∷ b ∷ left) count 2 c told (periods-refused (a ∷ b ∷ left) (b ∷ left) left a b c refl refl header fault))
    | inl second ↦ (left, head-right a b left header second)
  ]
]

-- the scheme of tables that are ready
made : (t : Tables) → IsReady t → (scheme : Scheme) × IsMadeOf t scheme
made t ready = (
  record {
    periods = t.periods;
    nodes = t.nodes;
    supply = map (supply_from (length t.nodes) t.supplies) (range_with_len 0 (t.periods * length t.nodes));
    flows = t.flows;
    valid = made-valid t ready;
  },
  record { periods = refl; nodes = refl; supply = refl; flows = refl },
)

pub stands : (tail : Tail) (rows : List (List (List ℕ))) (count : ℕ) → length rows < 2 ^ 32 → read_records tail rows ≡ Ok count → StandsForAScheme rows
stands tail rows count few told =
    let start = head tail rows count told in
    let ends = goes-on tail rows start.0 2 count (no_tables (periods_in rows)) told few (so_far-head rows start.0 (periods_in rows) (no_tables (periods_in rows)) start.1 refl) in
    let scheme = made ends.tables ends.ready in
    (scheme.0, scheme-of rows ends.tables scheme.0 ends.read.tables scheme.1)
