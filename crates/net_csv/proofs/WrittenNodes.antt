-- The records of nodes are taken, and add their names.
use Rattle.std.specs.Prelude.{◌≡◌, ℕ, ◌+◌, ◌*◌, ◌≤◌, nat_le, true, None, List, [], ◌∷◌, ◌++◌, length, map}
use Rattle.std.specs.List.{IsDistinct, AllByRecursion}
use Rattle.std.specs.Str.{bytes_eq}
use Rattle.std.proofs.Common.{refl, arith, append_assoc}
use Rattle.std.proofs.Math.Nat.{mul-le-mul_right}
use Rattle.std.proofs.lemmas.Bool.Decides.{nat_tests}
use Rattle.std.proofs.lemmas.List.{append-nil, length-append}
use Rattle.np_model.specs.Scheme.Names.{is_name}
use Rattle.net_csv.specs.Faults.{nodes_fault}
use Rattle.net_csv.specs.Steps.Tables.{Tables, no_tables}
use Rattle.net_csv.specs.Writing.{node_row}
use Rattle.np_records.proofs.Places.{place-new}
use Rattle.net_csv.proofs.WrittenFields.{new-fine}
use Rattle.net_csv.proofs.Runs.{IsStep, Runs, runs-step}

-- the tables of these nodes alone
abbrev pub node_tables : ℕ → List (List ℕ) → Tables
node_tables periods nodes = record (no_tables periods) { nodes = nodes }

few-nodes : (periods : ℕ) (done left : List (List ℕ)) (name : List ℕ) → length (done ++ name ∷ left) * periods ≤ 20000 → nodes_fault periods (length done + 1) ≡ None
few-nodes periods done left name h =
    let size = length-append done (name ∷ left) in
    let fewer : length done + 1 ≤ length (done ++ name ∷ left) = omega arith in
    let scaled = mul-le-mul_right periods fewer in
    let few : nat_le ((length done + 1) * periods) 20000 ≡ true = grind (arith, nat_tests) in
    rw few refl

node-step : (periods : ℕ) (done left : List (List ℕ)) (name : List ℕ) → is_name name ≡ true → IsDistinct bytes_eq (done ++ name ∷ left) → length (done ++ name ∷ left) * periods ≤ 20000
    → IsStep (node_tables periods done) (node_row name)
node-step periods done left name h d few =
    record { goes = refl; right = rw (new-fine done name h (place-new done left name d), few-nodes periods done left name few) refl }

pub runs-nodes : (periods : ℕ) (left done : List (List ℕ)) → AllByRecursion (λ name. is_name name ≡ true) left → IsDistinct bytes_eq (done ++ left) → length (done ++ left) * periods ≤ 20000
    → Runs (node_tables periods done) (map node_row left) (node_tables periods (done ++ left))
runs-nodes periods [] done names d few = rw (append-nil done) refl
runs-nodes periods (n ∷ ns) done names d few =
    let next : done ++ n ∷ [] ++ ns ≡ done ++ n ∷ ns = append_assoc done (n ∷ []) ns in
    let rest = runs-nodes periods ns (done ++ n ∷ []) names.1 (rw next d) (rw next few) in
    runs-step _ _ _ _ _ (node-step periods done ns n names.0 d few) refl (rw next at rest)
