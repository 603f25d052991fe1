-- Records that are taken one after the other, each without a fault.
use Rattle.std.specs.Prelude.{◌≡◌, ℕ, ◌+◌, true, false, Some, None, List, [], ◌∷◌, ◌++◌, length, codes}
use Rattle.std.proofs.Common.{refl, sym, arith}
use Rattle.np_model.specs.declared.plan.Verdict.{Verdict}
use Rattle.certificates.specs.Claims.{Outline, Claims, claims_of}
use Rattle.certificates.specs.Faults.{record_fault, is_complete}
use Rattle.certificates.specs.Grammar.{is_end, is_header, verdict_in}
use Rattle.certificates.specs.Steps.Claims.{IsOutline, with_record}
use Rattle.certificates.specs.Steps.Texts.{IsHeadRead, IsWholeRead}
use Rattle.certificates.proofs.SoFar.{IsSoFar, so_far-head, so_far-more, so_far-end, whole-read}

-- the record is not `end`, and has no fault where these are the claims before it
pub record IsStep (o : Outline) (t : Claims) (r : List (List ℕ)) : Type 0 where
  pub goes : is_end r ≡ false
  pub right : record_fault o t r ≡ None

-- the records lead from the first claims to the last
abbrev pub Runs : Outline → Claims → List (List (List ℕ)) → Claims → Type 0
Runs o t [] u = t ≡ u
Runs o t (r ∷ rs) u = IsStep o t r × Runs o (with_record o t r) rs u

pub runs-step : (o : Outline) (t u v : Claims) (r : List (List ℕ)) (rs : List (List (List ℕ))) → IsStep o t r → with_record o t r ≡ u → Runs o u rs v → Runs o t (r ∷ rs) v
runs-step o t u v r rs s e h = (s, rw e h)

pub runs-append : (o : Outline) (rs ss : List (List (List ℕ))) (t u v : Claims) → Runs o t rs u → Runs o u ss v → Runs o t (rs ++ ss) v
runs-append o [] ss t u v a b = rw a b
runs-append o (r ∷ rs) ss t u v a b = (a.0, runs-append o rs ss (with_record o t r) u v a.1 b)

pub runs-so_far : (skip : ℕ) (o : Outline) (verdict : Verdict) (rs rows left : List (List (List ℕ))) (place : ℕ) (t u : Claims) → IsOutline o → IsSoFar skip o verdict rows (rs ++ left) place t → Runs o t rs u
    → IsSoFar skip o verdict rows left (place + length rs) u
runs-so_far skip o verdict [] rows left place t u out s h = let z : place + 0 ≡ place = omega arith in rw (z, sym h) s
runs-so_far skip o verdict (r ∷ rs) rows left place t u out s h =
    let next : place + length (r ∷ rs) ≡ place + 1 + length rs = omega arith in
    rw next (runs-so_far skip o verdict rs rows left (place + 1) (with_record o t r) u out
    (so_far-more skip o verdict rows (rs ++ left) place (place + 1) t (with_record o t r) r out s refl h.0.goes h.0.right refl) h.1)

-- a head, records that lead to all that the verdict needs, and `end`
pub runs-whole : (skip : ℕ) (o : Outline) (verdict : Verdict) (header second : List (List ℕ)) (rs : List (List (List ℕ))) (u : Claims) → IsOutline o → is_header header ≡ true → verdict_in second ≡ Some verdict
    → Runs o (claims_of o []) rs u → is_complete verdict u ≡ true → IsWholeRead skip o (header ∷ second ∷ (rs ++ (codes "end" ∷ []) ∷ [])) verdict u
runs-whole skip o verdict header second rs u out h v run done =
    let end = (codes "end" ∷ []) ∷ [] in
    let rows = header ∷ second ∷ (rs ++ end) in
    let head : IsHeadRead rows (rs ++ end) verdict = record { header = h; verdict_is = v; two = omega arith; left = refl } in
    let start = so_far-head skip o verdict rows (rs ++ end) (skip + 2) (claims_of o []) head refl refl in
    let last = runs-so_far skip o verdict rs rows end (skip + 2) (claims_of o []) u out start run in
    let read = so_far-end skip o verdict rows [] (skip + 2 + length rs) (skip + 2 + length rs + 1) u (codes "end" ∷ []) last refl refl (rw done refl) in
    whole-read skip o rows verdict u (skip + 2 + length rs + 1) read
