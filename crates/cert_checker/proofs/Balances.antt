-- Running balances of all nodes, as one arc after the other is added.
use Rattle.std.specs.Prelude.{◌≡◌, ◌≢◌, ℕ, ◌+◌, ◌<◌, ◌≤◌, not, suc, Ok, List, [], ◌∷◌, length, map}
use Rattle.std.specs.List.{zip, enumerate_from}
use Rattle.std.proofs.lemmas.List.{take_all, length-map, get_or-map}
use Rattle.std.proofs.lemmas.List.FromFn.{get_or-enumerate_from, length-enumerate_from}
use Rattle.std.proofs.lemmas.Slice.Zip.{length-zip, get_or-zip}
use Rattle.std.proofs.Common.{refl, sym, ◌∙◌, ap, ap₂, arith, get_or, set, take}
use Rattle.std.proofs.lemmas.Bool.Decides.{nat_tests}
use Rattle.np_frac.specs.Ratio.{Ratio, zero_ratio}
use Rattle.np_frac.specs.Exact.{plus_of, minus_of, times_of, ◌▷◌}
use Rattle.np_frac.specs.Order.{ratio_eq}
use Rattle.np_frac.proofs.Folds.{fold_more}
use Rattle.np_frac.proofs.Running.{Running, two_go_on}
use Rattle.np_model.specs.declared.arc.Ends.{Ends}
use Rattle.np_model.specs.declared.arc.Ends.TheVariants.{Link}
use Rattle.np_model.specs.declared.rows.CheckRow.{CheckRow}
use Rattle.cert_checker.specs.declared.answer.Clause.{Clause}
use Rattle.np_model.specs.Scheme.Segments.{Stage}
use Rattle.cert_checker.specs.Steps.Parts.{sum_clause}
use Rattle.cert_checker.specs.Steps.Arcs.{as_stage}
use Rattle.cert_checker.specs.declared.staged.StagedArc.{StagedArc}
use Rattle.cert_checker.specs.Walk.{add_flow, outflow_of, with_stage_ends, node_clause, first_refusal, tested, refused_if, reject_node}

at_tail : (v from to : ℕ) (gain x y : Ratio) → v ≡ from → add_flow v (Link from to gain) x y ≡ plus_of y x
at_tail v from to gain x y e = grind (arith, nat_tests)

at_head : (v from to : ℕ) (gain x y : Ratio) → v ≢ from → v ≡ to → add_flow v (Link from to gain) x y ≡ times_of gain x ▷ (λ gained. minus_of y gained)
at_head v from to gain x y d e = grind (arith, nat_tests)

apart : (v from to : ℕ) (gain x y : Ratio) → v ≢ from → v ≢ to → add_flow v (Link from to gain) x y ≡ Ok y
apart v from to gain x y d e = grind (arith, nat_tests)

-- a link changes the running balances of its two ends alone
pub link_step : (xs : List Running) (from to v : ℕ) (gain x : Ratio) (r s a b d : Running) → from < length xs → to < length xs → from ≢ to
    → r ≡ get_or xs from r → a ≡ r ▷ (λ sum. plus_of sum x)
    → s ≡ get_or (set xs from a) to s → b ≡ s ▷ (λ sum. times_of gain x ▷ λ gained. minus_of sum gained)
    → v < length xs → get_or (set (set xs from a) to b) v d ≡ get_or xs v d ▷ add_flow v (Link from to gain) x
link_step xs from to v gain x r s a b d at_from at_to differ r_is a_is s_is b_is below =
    two_go_on xs from to v (λ sum. plus_of sum x) (λ sum. times_of gain x ▷ λ gained. minus_of sum gained) (add_flow v (Link from to gain) x) r s a b d
    at_from at_to differ r_is a_is s_is b_is (λ e y. at_tail v from to gain x y e) (λ n e y. at_head v from to gain x y n e)
    (λ n m y. apart v from to gain x y n m) below

-- ---- the sums beside the supplies

pub length-sums : (supply : List Ratio) (sums : List Running) → length sums ≡ length supply → length (enumerate_from 0 (zip supply sums)) ≡ length supply
length-sums supply sums e = omega (arith, length-enumerate_from 0 (zip supply sums), length-zip supply sums)

pub sum_at : (supply : List Ratio) (sums : List Running) (v : ℕ) (b : Ratio) (s : Running) → length sums ≡ length supply → v < length supply → b ≡ get_or supply v b → s ≡ get_or sums v s
    → get_or (enumerate_from 0 (zip supply sums)) v (v, (b, s)) ≡ (v, (b, s))
sum_at supply sums v b s e h at_b at_s =
    let long : v < length (zip supply sums) = omega (arith, length-zip supply sums) in
    get_or-enumerate_from 0 (zip supply sums) v (v, (b, s)) long
    ∙ ap₂ {A = ℕ} {B = Ratio × Running} {C = ℕ × (Ratio × Running)} (λ n z. (n, z)) (omega arith)
    (get_or-zip supply sums v (b, s) h (omega arith) ∙ ap₂ {A = Ratio} {B = Running} {C = Ratio × Running} (λ x y. (x, y)) (sym at_b) (sym at_s))

sums_as : (row : CheckRow) (clause : Clause) (k : ℕ) (from : ℕ) (supply : List Ratio) (sums : List Running) (f : ℕ → Running) → length sums ≡ length supply → ((j : ℕ) (d : Running) → j < length sums → get_or sums j d ≡ f (from + j))
    → first_refusal (sum_clause row clause k) (enumerate_from from (zip supply sums)) ≡ first_refusal (λ (v, b). tested row (f v) (λ found. refused_if (not (ratio_eq found b)) (reject_node clause k v))) (enumerate_from from supply)
sums_as row clause k from [] sums f e h = refl
sums_as row clause k from (b ∷ supply) [] f e h = absurd (omega arith)
sums_as row clause k from (b ∷ supply) (s ∷ sums) f e h =
    let here : s ≡ f from = h 0 s (omega arith) ∙ ap f (omega arith) in
    let rest = sums_as row clause k (from + 1) supply sums f (omega arith) (λ j d below. h (suc j) d (omega arith) ∙ ap f (omega arith)) in
    rw (here, rest) refl

-- the clauses of the known sums are those of the balances
pub sums_are : (row : CheckRow) (clause : Clause) (k : ℕ) (supply : List Ratio) (sums : List Running) (pairs : List (Ends × Ratio)) → length sums ≡ length supply → ((v : ℕ) (d : Running) → v < length sums → get_or sums v d ≡ outflow_of pairs v)
    → first_refusal (sum_clause row clause k) (enumerate_from 0 (zip supply sums)) ≡ first_refusal (node_clause row clause k pairs) (enumerate_from 0 supply)
sums_are row clause k supply sums pairs e h = sums_as row clause k 0 supply sums (outflow_of pairs) e (λ j d below. h j d below ∙ ap (outflow_of pairs) (omega arith))

-- ---- over the staged arcs that the checker keeps

abbrev pub flows_of : List StagedArc → List Ratio → List (Ends × Ratio)
flows_of arcs amounts = with_stage_ends (map as_stage arcs) amounts

length-flows : (arcs : List StagedArc) (amounts : List Ratio) → length amounts ≡ length arcs → length (flows_of arcs amounts) ≡ length arcs
length-flows arcs amounts e = omega (arith, length-zip (map (λ (s : Stage). s.ends) (map as_stage arcs)) amounts, length-map (map as_stage arcs) (λ (s : Stage). s.ends), length-map arcs as_stage)

-- the running balance of a node after one more staged arc
pub balance_more : (arcs : List StagedArc) (amounts : List Ratio) (i : ℕ) (arc : StagedArc) (x : Ratio) (v : ℕ) (old new : Running) → length amounts ≡ length arcs → i < length arcs
    → arc ≡ get_or arcs i arc → x ≡ get_or amounts i x → old ≡ outflow_of (take i (flows_of arcs amounts)) v → new ≡ old ▷ add_flow v (as_stage arc).ends x
    → new ≡ outflow_of (take (i + 1) (flows_of arcs amounts)) v
balance_more arcs amounts i arc x v old new e h at_arc at_x before after =
    let ends = (as_stage arc).ends in
    let stages = map as_stage arcs in
    let many : i < length stages = omega (arith, length-map arcs as_stage) in
    let there : get_or (map (λ (s : Stage). s.ends) stages) i ends ≡ ends =
    get_or-map (λ (s : Stage). s.ends) stages i (as_stage arc) ends many ∙ ap (λ (s : Stage). s.ends) (get_or-map as_stage arcs i arc (as_stage arc) h ∙ ap as_stage (sym at_arc)) in
    let pair : get_or (flows_of arcs amounts) i (ends, x) ≡ (ends, x) =
    get_or-zip (map (λ (s : Stage). s.ends) stages) amounts i (ends, x) (omega (arith, length-map stages (λ (s : Stage). s.ends))) (omega arith)
    ∙ ap₂ {A = Ends} {B = Ratio} {C = Ends × Ratio} (λ a q. (a, q)) there (sym at_x) in
    after
    ∙ ap (λ (r : Running). r ▷ add_flow v ends x) before
    ∙ sym (fold_more (λ running (a, q). running ▷ add_flow v a q) (Ok zero_ratio) (flows_of arcs amounts) i (ends, x) (omega (arith, length-flows arcs amounts e)) pair)

pub balance_end : (arcs : List StagedArc) (amounts : List Ratio) (i : ℕ) (v : ℕ) → length amounts ≡ length arcs → length arcs ≤ i → outflow_of (take i (flows_of arcs amounts)) v ≡ outflow_of (flows_of arcs amounts) v
balance_end arcs amounts i v e h = ap (λ (z : List (Ends × Ratio)). outflow_of z v) (take_all i (flows_of arcs amounts) (omega (arith, length-flows arcs amounts e)))

-- ---- the prices of the nodes, with their numbers

pub numbered_at : (prices : List Ratio) (v : ℕ) (p : Ratio) → v < length prices → p ≡ get_or prices v p → get_or (enumerate_from 0 prices) v (v, p) ≡ (v, p)
numbered_at prices v p h e = get_or-enumerate_from 0 prices v (v, p) h ∙ ap₂ {A = ℕ} {B = Ratio} {C = ℕ × Ratio} (λ n q. (n, q)) (omega arith) (sym e)
