-- Records that are taken one after the other, each without a fault.
use Rattle.std.specs.Prelude.{◌≡◌, ℕ, ◌+◌, false, None, List, [], ◌∷◌, ◌++◌, length, codes}
use Rattle.std.proofs.Common.{refl, sym, arith}
use Rattle.np_records.specs.Rows.{is_kind}
use Rattle.net_csv.specs.Faults.{record_fault}
use Rattle.net_csv.specs.Steps.Tables.{Tables, with_record}
use Rattle.net_csv.proofs.SoFar.{IsSoFar, so_far-more}

-- the record is not `end`, and has no fault where these are the tables before it
pub record IsStep (t : Tables) (r : List (List ℕ)) : Type 0 where
  pub goes : is_kind r (codes "end") ≡ false
  pub right : record_fault t.periods t.nodes t.names t.arcs t.flows r ≡ None

-- the records lead from the first tables to the last
abbrev pub Runs : Tables → List (List (List ℕ)) → Tables → Type 0
Runs t [] u = t ≡ u
Runs t (r ∷ rs) u = IsStep t r × Runs (with_record t r) rs u

pub runs-step : (t u v : Tables) (r : List (List ℕ)) (rs : List (List (List ℕ))) → IsStep t r → with_record t r ≡ u → Runs u rs v → Runs t (r ∷ rs) v
runs-step t u v r rs s e h = (s, rw e h)

pub runs-append : (rs ss : List (List (List ℕ))) (t u v : Tables) → Runs t rs u → Runs u ss v → Runs t (rs ++ ss) v
runs-append [] ss t u v a b = rw a b
runs-append (r ∷ rs) ss t u v a b = (a.0, runs-append rs ss (with_record t r) u v a.1 b)

pub runs-so_far : (rs rows left : List (List (List ℕ))) (place : ℕ) (t u : Tables) → IsSoFar rows (rs ++ left) place t → Runs t rs u → IsSoFar rows left (place + length rs) u
runs-so_far [] rows left place t u s h = let z : place + 0 ≡ place = omega arith in rw (z, sym h) s
runs-so_far (r ∷ rs) rows left place t u s h =
    let next : place + length (r ∷ rs) ≡ place + 1 + length rs = omega arith in
    rw next (runs-so_far rs rows left (place + 1) (with_record t r) u (so_far-more rows (rs ++ left) place (place + 1) t (with_record t r) r s refl h.0.goes h.0.right refl) h.1)
