-- The staged arcs that the checker keeps, beside the amounts, place by place; and folds whose steps may overflow.
use Rattle.std.specs.Prelude.{◌≡◌, ℕ, ◌+◌, ◌<◌, ◌≤◌, Option, None, Result, Ok, Err, List, length, map}
use Rattle.std.specs.List.{All, zip}
use Rattle.std.proofs.Common.{sym, ap, ap₂, subst, ◌∙◌, arith, get_or, take}
use Rattle.std.proofs.lemmas.List.{length-map, get_or-map}
use Rattle.std.proofs.lemmas.Slice.Zip.{length-zip, get_or-zip}
use Rattle.np_frac.specs.Ratio.{Ratio}
use Rattle.np_frac.specs.declared.frac.Past.{Past}
use Rattle.np_model.specs.Scheme.Segments.{Stage}
use Rattle.np_frac.proofs.Folds.{run, runs_on}
use Rattle.cert_checker.specs.Walk.{first_refusal, goes_on_unless}
use Rattle.cert_checker.specs.Steps.Arcs.{as_stage}
use Rattle.cert_checker.specs.declared.staged.StagedArc.{StagedArc}
use Rattle.cert_checker.specs.declared.answer.CheckRefusal.{CheckRefusal}
use Rattle.cert_checker.proofs.First.{goes_on, stops, finds_none}

abbrev pub pairs_of : List StagedArc → List Ratio → List (Stage × Ratio)
pairs_of arcs amounts = zip (map as_stage arcs) amounts

pub length-stages : (arcs : List StagedArc) → length (map as_stage arcs) ≡ length arcs
length-stages arcs = length-map arcs as_stage

pub length-pairs : (arcs : List StagedArc) (amounts : List Ratio) → length amounts ≡ length arcs → length (pairs_of arcs amounts) ≡ length arcs
length-pairs arcs amounts e = omega (arith, length-zip (map as_stage arcs) amounts, length-stages arcs)

-- ---- a place of a loop over the staged arcs

module _ (arcs : List StagedArc) (i : ℕ) (arc : StagedArc) (below : i < length arcs) (arc_is : arc ≡ get_or arcs i arc) where
  pub stage_at : (d : Stage) → get_or (map as_stage arcs) i d ≡ as_stage arc
  stage_at d = get_or-map as_stage arcs i arc d below ∙ ap as_stage (sym arc_is)

  pub pair_at : (amounts : List Ratio) (x : Ratio) → length amounts ≡ length arcs → x ≡ get_or amounts i x → get_or (pairs_of arcs amounts) i (as_stage arc, x) ≡ (as_stage arc, x)
  pair_at amounts x e at_x =
      get_or-zip (map as_stage arcs) amounts i (as_stage arc, x) (omega (arith, length-stages arcs)) (omega arith)
      ∙ ap₂ {A = Stage} {B = Ratio} {C = Stage × Ratio} (λ s q. (s, q)) (stage_at (as_stage arc)) (sym at_x)

  -- what holds of each staged arc holds here
  pub stage_here : (P : Stage → Type 0) → All P (map as_stage arcs) → P (as_stage arc)
  stage_here P all = subst (λ (s : Stage). P s) (stage_at (as_stage arc)) (all i (as_stage arc) (omega (arith, length-stages arcs)))

  pub arc_here : (P : StagedArc → Type 0) → All P arcs → P arc
  arc_here P all = subst (λ (a : StagedArc). P a) (sym arc_is) (all i arc below)

  -- a loop that tests one staged arc after the other
  pub arcs_go_on : (f : Stage → Option CheckRefusal) (res : Result (Unit {0}) CheckRefusal) (u : Unit {0}) → first_refusal f (take i (map as_stage arcs)) ≡ None → res ≡ goes_on_unless (f (as_stage arc)) → res ≡ Ok u
      → first_refusal f (take (i + 1) (map as_stage arcs)) ≡ None
  arcs_go_on f res u so_far here ok = goes_on f (map as_stage arcs) i (as_stage arc) res u (omega (arith, length-stages arcs)) (stage_at (as_stage arc)) so_far here ok

  pub arcs_stop : (f : Stage → Option CheckRefusal) (res : Result (Unit {0}) CheckRefusal) (r : CheckRefusal) → first_refusal f (take i (map as_stage arcs)) ≡ None → res ≡ goes_on_unless (f (as_stage arc)) → res ≡ Err r
      → Err r ≡ goes_on_unless (first_refusal f (map as_stage arcs))
  arcs_stop f res r so_far here err = stops f (map as_stage arcs) i (as_stage arc) res r (omega (arith, length-stages arcs)) (stage_at (as_stage arc)) so_far here err

  -- and beside its amount
  pub pairs_go_on : (f : Stage × Ratio → Option CheckRefusal) (amounts : List Ratio) (x : Ratio) (res : Result (Unit {0}) CheckRefusal) (u : Unit {0}) → length amounts ≡ length arcs → x ≡ get_or amounts i x
      → first_refusal f (take i (pairs_of arcs amounts)) ≡ None → res ≡ goes_on_unless (f (as_stage arc, x)) → res ≡ Ok u → first_refusal f (take (i + 1) (pairs_of arcs amounts)) ≡ None
  pairs_go_on f amounts x res u e at_x so_far here ok =
      goes_on f (pairs_of arcs amounts) i (as_stage arc, x) res u (omega (arith, length-pairs arcs amounts e)) (pair_at amounts x e at_x) so_far here ok

  pub pairs_stop : (f : Stage × Ratio → Option CheckRefusal) (amounts : List Ratio) (x : Ratio) (res : Result (Unit {0}) CheckRefusal) (r : CheckRefusal) → length amounts ≡ length arcs → x ≡ get_or amounts i x
      → first_refusal f (take i (pairs_of arcs amounts)) ≡ None → res ≡ goes_on_unless (f (as_stage arc, x)) → res ≡ Err r → Err r ≡ goes_on_unless (first_refusal f (pairs_of arcs amounts))
  pairs_stop f amounts x res r e at_x so_far here err =
      stops f (pairs_of arcs amounts) i (as_stage arc, x) res r (omega (arith, length-pairs arcs amounts e)) (pair_at amounts x e at_x) so_far here err

  -- a running sum with one more staged arc beside its amount
  pub pair_runs : (step : Stage × Ratio → Ratio → Result Ratio Past) (start : Result Ratio Past) (amounts : List Ratio) (x old : Ratio) (res : Result Ratio Past) → length amounts ≡ length arcs → x ≡ get_or amounts i x
      → Ok old ≡ run step start (take i (pairs_of arcs amounts)) → res ≡ step (as_stage arc, x) old → res ≡ run step start (take (i + 1) (pairs_of arcs amounts))
  pair_runs step start amounts x old res e at_x so_far here =
      runs_on step start (pairs_of arcs amounts) i (as_stage arc, x) old res (omega (arith, length-pairs arcs amounts e)) (pair_at amounts x e at_x) so_far here

  -- and alone
  pub arc_runs : (step : Stage → Ratio → Result Ratio Past) (start : Result Ratio Past) (old : Ratio) (res : Result Ratio Past) → Ok old ≡ run step start (take i (map as_stage arcs)) → res ≡ step (as_stage arc) old
      → res ≡ run step start (take (i + 1) (map as_stage arcs))
  arc_runs step start old res so_far here = runs_on step start (map as_stage arcs) i (as_stage arc) old res (omega (arith, length-stages arcs)) (stage_at (as_stage arc)) so_far here

pub arcs_end : (f : Stage → Option CheckRefusal) (arcs : List StagedArc) (i : ℕ) → length arcs ≤ i → first_refusal f (take i (map as_stage arcs)) ≡ None → Ok tt ≡ goes_on_unless (first_refusal f (map as_stage arcs))
arcs_end f arcs i h so_far = finds_none f (map as_stage arcs) i (omega (arith, length-stages arcs)) so_far

pub pairs_end : (f : Stage × Ratio → Option CheckRefusal) (arcs : List StagedArc) (amounts : List Ratio) (i : ℕ) → length amounts ≡ length arcs → length arcs ≤ i → first_refusal f (take i (pairs_of arcs amounts)) ≡ None
    → Ok tt ≡ goes_on_unless (first_refusal f (pairs_of arcs amounts))
pairs_end f arcs amounts i e h so_far = finds_none f (pairs_of arcs amounts) i (omega (arith, length-pairs arcs amounts e)) so_far
