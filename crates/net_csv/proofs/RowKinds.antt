-- The kinds of record exclude one another, and what a record gives stays when names are added.
use Rattle.std.specs.Prelude.{◌≡◌, ℕ, true, false, Option, IsSome, List, [], ◌∷◌, ◌++◌, codes}
use Rattle.std.specs.List.{AllByRecursion, filter_map, cons_option}
use Rattle.std.specs.Str.{bytes_eq}
use Rattle.std.proofs.Common.{refl, ap, ◌∙◌, inl, inr}
use Rattle.std.proofs.lemmas.Bool.{cases_Bool}
use Rattle.std.proofs.lemmas.Slice.Eq.{bytes_eq-Decides}
use Rattle.np_records.specs.Records.{field_of}
use Rattle.np_records.specs.Names.{place_of}
use Rattle.np_model.specs.declared.scheme.Flow.{Flow}
use Rattle.np_model.specs.declared.scheme.Band.{Band}
use Rattle.net_csv.specs.declared.given.Given.{Given}
use Rattle.np_records.specs.Rows.{is_kind}
use Rattle.net_csv.specs.Network.{is_flow, given_in, head_in, kind_in, piece_in}
use Rattle.np_records.proofs.Places.{place-kept, some-kept}

apart : (w a b : List ℕ) → bytes_eq a b ≡ false → bytes_eq w a ≡ true → bytes_eq w b ≡ false
apart w a b differ t = rw ((bytes_eq-Decides w a).0 t) differ

-- ---- a record whose names are all defined, among these names

pub record IsFine (nodes names : List (List ℕ)) (r : List (List ℕ)) : Type 0 where
  pub supply : is_kind r (codes "supply") ≡ true → IsSome (place_of nodes (field_of r 1))
  pub node : is_flow r ≡ true → IsSome (place_of nodes (field_of r 2))
  pub head : is_kind r (codes "arc") ≡ true → IsSome (place_of nodes (field_of r 3))
  pub piece : is_kind r (codes "piece") ≡ true → IsSome (place_of names (field_of r 1))

pub fine-kept : (ns ms fs bs : List (List ℕ)) (r : List (List ℕ)) → IsFine ns fs r → IsFine (ns ++ ms) (fs ++ bs) r
fine-kept ns ms fs bs r h = record {
  supply = λ t. some-kept ns ms (field_of r 1) (h.supply t);
  node = λ t. some-kept ns ms (field_of r 2) (h.node t);
  head = λ t. some-kept ns ms (field_of r 3) (h.head t);
  piece = λ t. some-kept fs bs (field_of r 1) (h.piece t);
}

pub all_fine-kept : (ns ms fs bs : List (List ℕ)) (rows : List (List (List ℕ))) → AllByRecursion (IsFine ns fs) rows → AllByRecursion (IsFine (ns ++ ms) (fs ++ bs)) rows
all_fine-kept ns ms fs bs [] h = tt
all_fine-kept ns ms fs bs (r ∷ rs) h = (fine-kept ns ms fs bs r h.0, all_fine-kept ns ms fs bs rs h.1)

-- ---- what the record gives stays

given_in-kept : (ns ms fs : List (List ℕ)) (r : List (List ℕ)) → IsFine ns fs r → given_in (ns ++ ms) r ≡ given_in ns r
given_in-kept ns ms fs r h = elim (cases_Bool (is_kind r (codes "supply"))) [
  | inl t ↦ let place = place-kept ns ms (field_of r 1) (h.supply t) in rw (t, place) refl
  | inr f ↦ rw f refl
]

kind_in-kept : (ns ms fs : List (List ℕ)) (r : List (List ℕ)) → IsFine ns fs r → is_flow r ≡ true → kind_in (ns ++ ms) r ≡ kind_in ns r
kind_in-kept ns ms fs r h t =
    let place = place-kept ns ms (field_of r 2) (h.node t) in
    elim (cases_Bool (is_kind r (codes "arc"))) [
      | inl a ↦ let head = place-kept ns ms (field_of r 3) (h.head a) in rw (a, place, head) refl
      | inr f ↦ rw (f, place) refl
    ]

head_in-kept : (ns ms fs : List (List ℕ)) (r : List (List ℕ)) → IsFine ns fs r → head_in (ns ++ ms) r ≡ head_in ns r
head_in-kept ns ms fs r h = elim (cases_Bool (is_flow r)) [
  | inl t ↦ let kind = kind_in-kept ns ms fs r h t in rw (t, kind) refl
  | inr f ↦ rw f refl
]

piece_in-kept : (ns fs bs : List (List ℕ)) (r : List (List ℕ)) → IsFine ns fs r → piece_in (fs ++ bs) r ≡ piece_in fs r
piece_in-kept ns fs bs r h = elim (cases_Bool (is_kind r (codes "piece"))) [
  | inl t ↦ let place = place-kept fs bs (field_of r 1) (h.piece t) in rw (t, place) refl
  | inr f ↦ rw f refl
]

pub supplies-kept : (ns ms fs : List (List ℕ)) (rows : List (List (List ℕ))) → AllByRecursion (IsFine ns fs) rows → filter_map (given_in (ns ++ ms)) rows ≡ filter_map (given_in ns) rows
supplies-kept ns ms fs [] h = refl
supplies-kept ns ms fs (r ∷ rs) h = ap (λ (o : Option Given). cons_option o (filter_map (given_in (ns ++ ms)) rs)) (given_in-kept ns ms fs r h.0)
    ∙ ap (λ (l : List Given). cons_option (given_in ns r) l) (supplies-kept ns ms fs rs h.1)

pub heads-kept : (ns ms fs : List (List ℕ)) (rows : List (List (List ℕ))) → AllByRecursion (IsFine ns fs) rows → filter_map (head_in (ns ++ ms)) rows ≡ filter_map (head_in ns) rows
heads-kept ns ms fs [] h = refl
heads-kept ns ms fs (r ∷ rs) h = ap (λ (o : Option Flow). cons_option o (filter_map (head_in (ns ++ ms)) rs)) (head_in-kept ns ms fs r h.0)
    ∙ ap (λ (l : List Flow). cons_option (head_in ns r) l) (heads-kept ns ms fs rs h.1)

pub pieces-kept : (ns fs bs : List (List ℕ)) (rows : List (List (List ℕ))) → AllByRecursion (IsFine ns fs) rows → filter_map (piece_in (fs ++ bs)) rows ≡ filter_map (piece_in fs) rows
pieces-kept ns fs bs [] h = refl
pieces-kept ns fs bs (r ∷ rs) h = ap (λ (o : Option (ℕ × Band)). cons_option o (filter_map (piece_in (fs ++ bs)) rs)) (piece_in-kept ns fs bs r h.0)
    ∙ ap (λ (l : List (ℕ × Band)). cons_option (piece_in fs r) l) (pieces-kept ns fs bs rs h.1)
