-- The staged arcs, as they are made by period and by flow; and what is known of them.
use Rattle.std.specs.Prelude.{◌≡◌, ◌≢◌, ℕ, ◌+◌, ◌-◌, ◌*◌, ◌<◌, ◌≤◌, ◌==◌, ◌&&◌, Bool, true, false, List, [], ◌∷◌, ◌++◌, length, map, zero, suc}
use Rattle.std.specs.List.{All, cons_option, flat_map, filter_map, range_with_len, enumerate_from}
use Rattle.std.proofs.Common.{refl, sym, ap, subst, ◌∙◌, arith, get_or, take, add-one, eq-eqb, mul-le-mul_left}
use Rattle.np_frac.specs.Ratio.{Ratio, zero_ratio}
use Rattle.np_frac.proofs.Folds.{one_more}
use Rattle.std.proofs.lemmas.List.{length-map, map-append, get_or-map, take_all}
use Rattle.std.proofs.lemmas.List.Elements.{filter_map-append}
use Rattle.std.proofs.lemmas.List.FromFn.{get_or-enumerate_from, length-enumerate_from}
use Rattle.std.proofs.lemmas.Grind.{flat_map-append}
use Rattle.np_model.specs.declared.scheme.Flow.{Flow}
use Rattle.np_model.specs.declared.scheme.FlowKind.{FlowKind}
use Rattle.np_model.specs.declared.scheme.FlowKind.TheVariants.{Link, Hold, Drain, Feed}
use Rattle.np_model.specs.declared.scheme.Scheme.{Scheme}
use Rattle.np_model.specs.Scheme.Segments.{Stage}
use Rattle.np_model.specs.Scheme.Kinds.{ends_in, is_hold, JoinsNodes}
use Rattle.np_model.specs.Scheme.Plans.{stage_in, stage_of, staged}
use Rattle.np_model.proofs.Staged.{staged_each}
use Rattle.cert_checker.specs.Steps.Arcs.{as_stage}
use Rattle.np_model.specs.Network.Arcs.{AreNodes}
use Rattle.cert_checker.specs.declared.staged.StagedArc.{StagedArc}

-- ---- one more flow in a period

numbered_flow : (flows : List Flow) (i : ℕ) (f : Flow) → i < length flows → f ≡ get_or flows i f → get_or (enumerate_from 0 flows) i (i, f) ≡ (i, f)
numbered_flow flows i f h e =
    get_or-enumerate_from 0 flows i (i, f) h ∙ (λ j. (zero_plus j, sym e j))
  where
    zero_plus : 0 + i ≡ i
    zero_plus = omega arith

period_more : (periods k period : ℕ) (flows : List Flow) (i : ℕ) (f : Flow) → i < length flows → f ≡ get_or flows i f
    → filter_map (stage_of periods k period) (take (i + 1) (enumerate_from 0 flows)) ≡ filter_map (stage_of periods k period) (take i (enumerate_from 0 flows)) ++ cons_option (stage_of periods k period (i, f)) []
period_more periods k period flows i f h e =
    ap (filter_map (stage_of periods k period)) (one_more (enumerate_from 0 flows) i (i, f) (omega (arith, length-enumerate_from 0 flows)) (numbered_flow flows i f h e))
    ∙ filter_map-append (stage_of periods k period) (take i (enumerate_from 0 flows)) ((i, f) ∷ [])

-- the places of a period's staged arcs so far
abbrev pub so_many : Scheme → ℕ → ℕ → List Stage
so_many scheme period i = filter_map (stage_of scheme.periods (length scheme.nodes) period) (take i (enumerate_from 0 scheme.flows))

append_nil : {A : Type 0} (xs : List A) → xs ++ [] ≡ xs
append_nil [] = refl
append_nil (x ∷ xs) = ap (λ ys. x ∷ ys) (append_nil xs)

append_assoc : {A : Type 0} (xs ys zs : List A) → (xs ++ ys) ++ zs ≡ xs ++ (ys ++ zs)
append_assoc [] ys zs = refl
append_assoc (x ∷ xs) ys zs = ap (λ ws. x ∷ ws) (append_assoc xs ys zs)

pub period_skips : (scheme : Scheme) (period i : ℕ) (f : Flow) (arcs before : List Stage) → i < length scheme.flows → f ≡ get_or scheme.flows i f → (is_hold f.kind && (period == scheme.periods)) ≡ true
    → arcs ≡ before ++ so_many scheme period i → arcs ≡ before ++ so_many scheme period (i + 1)
period_skips scheme period i f arcs before h e last so_far =
    let none : cons_option (stage_of scheme.periods (length scheme.nodes) period (i, f)) [] ≡ [] = rw last refl in
    so_far ∙ ap (λ (z : List Stage). before ++ z) (sym (period_more scheme.periods (length scheme.nodes) period scheme.flows i f h e ∙ rw none (append_nil (so_many scheme period i))))

pub period_adds : (scheme : Scheme) (period i : ℕ) (f : Flow) (arc : StagedArc) (arcs : List StagedArc) (before : List Stage) → i < length scheme.flows → f ≡ get_or scheme.flows i f → (is_hold f.kind && (period == scheme.periods)) ≡ false
    → as_stage arc ≡ stage_in (length scheme.nodes) period (i, f) → map as_stage arcs ≡ before ++ so_many scheme period i
    → map as_stage (arcs ++ arc ∷ []) ≡ before ++ so_many scheme period (i + 1)
period_adds scheme period i f arc arcs before h e not_last stage so_far =
    let some : cons_option (stage_of scheme.periods (length scheme.nodes) period (i, f)) [] ≡ stage_in (length scheme.nodes) period (i, f) ∷ [] = rw not_last refl in
    map-append as_stage arcs (arc ∷ [])
    ∙ ap (λ (z : List Stage). z ++ as_stage arc ∷ []) so_far
    ∙ ap (λ (s : Stage). (before ++ so_many scheme period i) ++ s ∷ []) stage
    ∙ append_assoc before (so_many scheme period i) (stage_in (length scheme.nodes) period (i, f) ∷ [])
    ∙ ap (λ (z : List Stage). before ++ z) (sym (period_more scheme.periods (length scheme.nodes) period scheme.flows i f h e ∙ ap (λ (z : List Stage). so_many scheme period i ++ z) some))

pub period_ends : (scheme : Scheme) (period i : ℕ) → length scheme.flows ≤ i → so_many scheme period i ≡ filter_map (stage_of scheme.periods (length scheme.nodes) period) (enumerate_from 0 scheme.flows)
period_ends scheme period i h = ap (filter_map (stage_of scheme.periods (length scheme.nodes) period)) (take_all i (enumerate_from 0 scheme.flows) (omega (arith, length-enumerate_from 0 scheme.flows)))

-- the same, from the lists that the code reads
pub skips : (scheme : Scheme) (flows : List Flow) (period i : ℕ) (f : Flow) (left_out : Bool) (arcs before : List Stage) → flows ≡ scheme.flows → i < length flows → f ≡ get_or flows i f
    → left_out ≡ (is_hold f.kind && (period == scheme.periods)) → left_out ≡ true → arcs ≡ before ++ so_many scheme period i → arcs ≡ before ++ so_many scheme period (i + 1)
skips scheme flows period i f left_out arcs before same h e left out so_far =
    period_skips scheme period i f arcs before (rw (← same) h) (rw (← same) e) (sym left ∙ out) so_far

pub adds : (scheme : Scheme) (flows : List Flow) (k period i : ℕ) (f : Flow) (left_out : Bool) (arc : StagedArc) (arcs new : List StagedArc) (before : List Stage) → flows ≡ scheme.flows → k ≡ length scheme.nodes → i < length flows → f ≡ get_or flows i f
    → left_out ≡ (is_hold f.kind && (period == scheme.periods)) → left_out ≡ false → as_stage arc ≡ stage_in k period (i, f) → map as_stage arcs ≡ before ++ so_many scheme period i
    → new ≡ arcs ++ arc ∷ [] → map as_stage new ≡ before ++ so_many scheme period (i + 1)
adds scheme flows k period i f left_out arc arcs new before same nodes h e left kept is so_far pushed =
    ap (map as_stage) pushed
    ∙ period_adds scheme period i f arc arcs before (rw (← same) h) (rw (← same) e) (sym left ∙ kept) (is ∙ ap (λ (n : ℕ). stage_in n period (i, f)) nodes) so_far

-- ---- one more period

range_more : (a n : ℕ) → range_with_len a (n + 1) ≡ range_with_len a n ++ (a + n) ∷ []
range_more a n = ap (range_with_len a) (one n) ∙ by_steps a n
  where
    one : (m : ℕ) → m + 1 ≡ suc m
    one m = omega arith

    by_steps : (b m : ℕ) → range_with_len b (suc m) ≡ range_with_len b m ++ (b + m) ∷ []
    by_steps b zero = ap (λ (x : ℕ). x ∷ []) (plus_zero b)
      where
        plus_zero : (x : ℕ) → x ≡ x + 0
        plus_zero x = omega arith
    by_steps b (suc m) = ap (λ (xs : List ℕ). b ∷ xs) (by_steps (b + 1) m ∙ ap (λ (x : ℕ). range_with_len (b + 1) m ++ x ∷ []) (shift b m))
      where
        shift : (x y : ℕ) → (x + 1) + y ≡ x + suc y
        shift x y = omega arith

pub periods_more : (f : ℕ → List Stage) (n : ℕ) → flat_map f (range_with_len 1 (n + 1)) ≡ flat_map f (range_with_len 1 n) ++ f (n + 1)
periods_more f n =
    ap (flat_map f) (range_more 1 n)
    ∙ flat_map-append f (range_with_len 1 n) ((1 + n) ∷ [])
    ∙ ap (λ (z : List Stage). flat_map f (range_with_len 1 n) ++ z) (append_nil (f (1 + n)) ∙ ap f (swap n))
  where
    swap : (m : ℕ) → 1 + m ≡ m + 1
    swap m = omega arith

-- ---- what is known of the staged arcs

node_below : (m k i n periods : ℕ) → n ≡ periods * k → m + 1 ≤ periods → i < k → m * k + i < n
node_below m k i n periods e h below = omega (arith, mul-le-mul_left k h)

nodes_differ : (m m' k i : ℕ) → m' ≡ m + 1 → i < k → m * k + i ≢ m' * k + i
nodes_differ m m' k i e below = λ same. absurd (omega (arith, ap (λ (x : ℕ). x * k) e, same))

-- the ends of a flow in a period where it has a staged arc are expanded nodes
nodes_in : (n k periods period : ℕ) (kind : FlowKind) → n ≡ periods * k → 0 < period → period ≤ periods → JoinsNodes k kind → (is_hold kind && (period == periods)) ≡ false → AreNodes n (ends_in k period kind)
nodes_in n k periods period (Link from to gain) e low high joins kept = (
  node_below (period - 1) k from n periods e (omega arith) joins.0,
  node_below (period - 1) k to n periods e (omega arith) joins.1,
  λ same. joins.2 (omega arith),
)
nodes_in n k periods period (Hold node gain) e low high joins kept =
    let before : period ≢ periods = λ same. absurd (cc (kept, eq-eqb period periods same)) in (
      node_below (period - 1) k node n periods e (omega arith) joins,
      node_below (period + 1 - 1) k node n periods e (omega arith) joins,
      nodes_differ (period - 1) (period + 1 - 1) k node (omega arith) joins,
    )
nodes_in n k periods period (Drain node) e low high joins kept = node_below (period - 1) k node n periods e (omega arith) joins
nodes_in n k periods period (Feed node) e low high joins kept = node_below (period - 1) k node n periods e (omega arith) joins

pub staged_joined : (scheme : Scheme) → All (λ s. AreNodes (length scheme.supply) s.ends) (staged scheme)
staged_joined scheme =
    staged_each (λ s. AreNodes (length scheme.supply) s.ends) scheme
    (λ period number f low high below sound kept. nodes_in (length scheme.supply) (length scheme.nodes) scheme.periods period f.kind scheme.valid.one_each low high sound.joins kept)

-- the ends of all staged arcs that the checker keeps are nodes
pub arcs_joined : (scheme : Scheme) (arcs : List StagedArc) → map as_stage arcs ≡ staged scheme → All (λ arc. AreNodes (length scheme.supply) (as_stage arc).ends) arcs
arcs_joined scheme arcs is =
    all_mapped (λ s. AreNodes (length scheme.supply) s.ends) arcs (subst (λ (z : List Stage). All (λ (s : Stage). AreNodes (length scheme.supply) s.ends) z) (sym is) (staged_joined scheme))
  where
    all_mapped : (P : Stage → Type 0) (xs : List StagedArc) → All P (map as_stage xs) → All (λ arc. P (as_stage arc)) xs
    all_mapped P xs all = λ i d h.
        subst P (get_or-map as_stage xs i d (as_stage (get_or xs i d)) h) (all i (as_stage (get_or xs i d)) (omega (arith, length-map xs as_stage)))

-- ---- as many zeros as there are supplies

pub zeros_more : (supply zeros : List Ratio) (i : ℕ) → i < length supply → zeros ≡ map (λ amount. zero_ratio) (take i supply) → zeros ++ zero_ratio ∷ [] ≡ map (λ amount. zero_ratio) (take (i + 1) supply)
zeros_more supply zeros i h so_far = ap (λ (z : List Ratio). z ++ zero_ratio ∷ []) so_far ∙ sym (by_steps supply i h ∙ refl) ∙ rw add-one refl
  where
    by_steps : (xs : List Ratio) (j : ℕ) → j < length xs → map (λ (amount : Ratio). zero_ratio) (take (suc j) xs) ≡ map (λ (amount : Ratio). zero_ratio) (take j xs) ++ zero_ratio ∷ []
    by_steps [] j below = absurd (omega arith)
    by_steps (x ∷ xs) zero below = refl
    by_steps (x ∷ xs) (suc j) below = ap (λ (ys : List Ratio). zero_ratio ∷ ys) (by_steps xs j (omega arith))

pub zeros_end : (supply zeros : List Ratio) (i : ℕ) → length supply ≤ i → zeros ≡ map (λ amount. zero_ratio) (take i supply) → zeros ≡ map (λ amount. zero_ratio) supply
zeros_end supply zeros i h so_far = so_far ∙ ap (map (λ (amount : Ratio). zero_ratio)) (take_all i supply h)
