-- A list of arcs and a quota have one sweep.
use Rattle.std.proofs.Common.{◌≡◌, ◌⊎◌, inl, inr, ⊎_elim, ℕ, ◌+◌, ◌≤◌, List, [], ◌∷◌, ◌++◌, length, length-append, get_or, drop, sym, ap, ◌∙◌, subst, refl, arith}
use Rattle.np_model.specs.declared.arc.Ends.{Ends}
use Rattle.np_model.specs.declared.arc.Ends.TheVariants.{Link, Drain, Feed}
use Rattle.np_model.specs.declared.log.Entry.{Entry}
use Rattle.np_model.specs.Basis.Attempts.{IsPivoted}
use Rattle.np_model.specs.Basis.Graphs.{ends_at}
use Rattle.np_model.specs.Basis.Needed.{AreNeededFor}
use Rattle.np_model.specs.Basis.Pieces.{PieceLists}
use Rattle.np_model.specs.Basis.Sound.{AreSound}
use Rattle.np_model.specs.Network.Flows.{Network}
use Rattle.np_basis.specs.PivotLaws.{HasRealArcs}
use Rattle.pivot_step.specs.Laws.{AnswersExclude}
use Rattle.tree_table.specs.Passes.{Opening, Pivoted}
use Rattle.tree_table.specs.Weights.{weigh, AreSame}
use Rattle.pivot_workers.specs.Forests.{network_at, AreForest}
use Rattle.pivot_workers.specs.Openings.{IsSeated, AreSeated}
use Rattle.pivot_workers.specs.SweepLaws.{SweepIsUnique}
use Rattle.pivot_workers.specs.Sweeps.{AreNeeded, IsRefused, may_not, endless, overflows, IsVisit, AreVisits}
use Rattle.pivot_workers.proofs.Forest.{there, part_sound}
use Rattle.pivot_workers.proofs.States.{forest_is_kept}
use Rattle.pivot_workers.proofs.NeededOnce.{needed_once}

back : (now other : List PieceLists) → AreSame now other → AreSame other now
back now other same f = sym (same f)

seat_like : (openings : List ℕ) (now other : List PieceLists) (v : ℕ) → AreSame now other → IsSeated openings now v → IsSeated openings other v
seat_like openings now other v same s = (s.0, there now other s.0 (λ f. let a = same f in omega arith) s.1, s.2, s.3)

seated_like : (openings : List ℕ) (now other : List PieceLists) (ends : Ends) → AreSame now other → AreSeated openings now ends → AreSeated openings other ends
seated_like openings now other (Link from to gain) same s = (seat_like openings now other from same s.0, seat_like openings now other to same s.1)
seated_like openings now other (Drain at) same s = seat_like openings now other at same s
seated_like openings now other (Feed at) same s = seat_like openings now other at same s

module _ (answers_exclude : AnswersExclude) (opening : Opening) (openings : List ℕ) (ground : HasRealArcs (network_at opening) (length opening.net.arcs)) where
  abbrev net : Network
  net = network_at opening

  abbrev real : ℕ
  real = length opening.net.arcs

  abbrev V : List PieceLists → ℕ → List Pivoted → List PieceLists → Type 0
  V = IsVisit opening openings

  not_refused : (pieces : List PieceLists) (arc : ℕ) (entry : Entry) (after : List PieceLists) → AreSound net pieces → AreNeededFor pieces (ends_at net.arcs arc) → IsRefused opening pieces arc
      → IsPivoted net real pieces arc entry after → ⊥
  not_refused pieces arc entry after sound needed (may_not fits never) v = (answers_exclude net real pieces arc ground sound needed).refusal_or_pivot entry after (fits, never) v
  not_refused pieces arc entry after sound needed (endless direction ray) v = (answers_exclude net real pieces arc ground sound needed).ray_or_pivot direction entry after ray v
  not_refused pieces arc entry after sound needed (overflows overflow first) v = (answers_exclude net real pieces arc ground sound needed).overflow_or_pivot overflow entry after first v

  module _ (now other : List PieceLists) (f : AreForest net now) (same : AreSame now other) (arc : ℕ) where
    one_list : (ps qs : List PieceLists) → AreNeeded opening now arc ps → AreNeeded opening other arc qs → ps ≡ qs
    one_list ps qs n m =
        needed_once net now f (ends_at net.arcs arc) ps qs n.there (λ g. let a = m.there g in let b = same g in omega arith) n.in_order m.in_order n.needed m.needed

    refuses : (m : Pivoted) (next next' : List PieceLists) → V now arc [] next → V other arc (m ∷ []) next' → ⊥
    refuses m next next' v w =
        ⊎_elim
        (λ (never : ¬ AreSeated openings now (ends_at net.arcs arc)). never (seated_like openings other now (ends_at net.arcs arc) (back now other same) w.0))
        (λ (x : (pieces : List PieceLists) × AreNeeded opening now arc pieces × IsRefused opening pieces arc).
        let e : x.0 ≡ m.before = one_list x.0 m.before x.1 w.1 in
        not_refused x.0 arc m.entry m.after (part_sound net now f x.0 x.1.there) x.1.needed x.2 (subst (λ z. IsPivoted net real z arc m.entry m.after) (sym e) w.2))
        v.1

    enters : (m l : Pivoted) (next next' : List PieceLists) → V now arc (m ∷ []) next → V other arc (l ∷ []) next' → (m ≡ l) × AreSame next next'
    enters m l next next' v w =
        let b : m.before ≡ l.before = one_list m.before l.before v.1 w.1 in
        let one = (answers_exclude net real m.before arc ground (part_sound net now f m.before v.1.there) v.1.needed).one_pivot m.entry l.entry m.after l.after v.2
        (subst (λ z. IsPivoted net real z arc l.entry l.after) (sym b) w.2) in
        let is : m ≡ l = λ i. record { entry = one.0 i; before = b i; after = one.1 i } in (
          is,
          λ g. (let x = v.3.replaced g in let y = w.3.replaced g in let z = same g in let p : weigh g m.before ≡ weigh g l.before = ap (weigh g) b in
              let q : weigh g m.after ≡ weigh g l.after = ap (weigh g) one.1 in omega arith),
        )

  visit_unique : (now other : List PieceLists) (arc : ℕ) (made made' : List Pivoted) (next next' : List PieceLists) → AreForest net now → AreForest net other → AreSame now other
      → V now arc made next → V other arc made' next' → (made ≡ made') × AreSame next next'
  visit_unique now other arc [] [] next next' f f' same v w = (refl, λ g. ap (weigh g) v.0 ∙ (same g ∙ ap (weigh g) (sym w.0)))
  visit_unique now other arc [] (m ∷ []) next next' f f' same v w = absurd (refuses now other f same arc m next next' v w)
  visit_unique now other arc [] (m ∷ l ∷ more) next next' f f' same v w = absurd w
  visit_unique now other arc (m ∷ []) [] next next' f f' same v w = absurd (refuses other now f' (back now other same) arc m next' next w v)
  visit_unique now other arc (m ∷ []) (l ∷ []) next next' f f' same v w = let t = enters now other f same arc m l next next' v w in (ap (λ z. z ∷ []) t.0, t.1)
  visit_unique now other arc (m ∷ []) (l ∷ k ∷ more) next next' f f' same v w = absurd w
  visit_unique now other arc (m ∷ l ∷ more) made' next next' f f' same v w = absurd v

  visit_forest : (now : List PieceLists) (arc : ℕ) (made : List Pivoted) (next : List PieceLists) → AreForest net now → V now arc made next → AreForest net next
  visit_forest now arc [] next f v = subst (AreForest net) (sym v.0) f
  visit_forest now arc (m ∷ []) next f v = forest_is_kept opening now next m ground f v.3
  visit_forest now arc (m ∷ l ∷ more) next f v = absurd v

  abbrev W : List PieceLists → List ℕ → List Pivoted → List PieceLists → Type 0
  W = AreVisits opening openings

  visits_unique : (arcs : List ℕ) (now other : List PieceLists) (log log' : List Pivoted) (last last' : List PieceLists) → AreForest net now → AreForest net other → AreSame now other
      → W now arcs log last → W other arcs log' last' → (log ≡ log') × AreSame last last'
  visits_unique [] now other log log' last last' f f' same v w = (v.0 ∙ sym w.0, λ g. ap (weigh g) v.1 ∙ (same g ∙ ap (weigh g) (sym w.1)))
  visits_unique (arc ∷ arcs) now other log log' last last' f f' same v w =
      let t = visit_unique now other arc v.0 w.0 v.2 w.2 f f' same v.4 w.4 in
      let r = visits_unique arcs v.2 w.2 v.1 w.1 last last' (visit_forest now arc v.0 v.2 f v.4) (visit_forest other arc w.0 w.2 f' w.4) t.1 v.5 w.5 in
      (v.3 ∙ ((λ i. t.0 i ++ r.0 i) ∙ sym w.3), r.1)

  no_more : (made more : List Pivoted) → length (made ++ more) ≡ 0 → (made ≡ []) × (more ≡ [])
  no_more [] [] e = (refl, refl)
  no_more [] (m ∷ more) e = absurd (omega arith)
  no_more (m ∷ made) more e = absurd (omega arith)

  -- arcs that make no pivot leave the pieces
  quiet : (arcs : List ℕ) (now : List PieceLists) (log : List Pivoted) (last : List PieceLists) → length log ≡ 0 → W now arcs log last → (log ≡ []) × (last ≡ now)
  quiet [] now log last z v = (v.0, v.1)
  quiet (arc ∷ arcs) now log last z v =
      let n = no_more v.0 v.1 (ap length (sym v.3) ∙ z) in
      let first : v.2 ≡ now = (subst (λ (y : List Pivoted). V now arc y v.2) n.0 v.4).0 in
      let r = quiet arcs v.2 v.1 last (ap length n.1) v.5 in
      (v.3 ∙ (λ i. n.0 i ++ n.1 i), r.1 ∙ first)

  run_both : (tried tried' rest rest' : List ℕ) (k quota : ℕ) (now other : List PieceLists) (log log' : List Pivoted) (last last' : List PieceLists) → tried ++ rest ≡ tried' ++ rest'
      → AreForest net now → AreForest net other → AreSame now other → W now tried log last → W other tried' log' last'
      → length log + k ≤ quota → length log' + k ≤ quota → (rest ≡ []) ⊎ (length log + k ≡ quota) → (rest' ≡ []) ⊎ (length log' + k ≡ quota) → (log ≡ log') × AreSame last last'
  run_both [] [] rest rest' k quota now other log log' last last' e f f' same v w le le' stop stop' = visits_unique [] now other log log' last last' f f' same v w
  run_both [] (b ∷ bs) rest rest' k quota now other log log' last last' e f f' same v w le le' stop stop' =
      let none : length log ≡ 0 = ap length v.0 in
      let full : k ≡ quota = ⊎_elim (λ (x : rest ≡ []). absurd (let y = ap length (sym x ∙ e) in omega arith)) (λ (x : length log + k ≡ quota). (let g : k ≡ quota = omega arith in g)) stop in
      let q = quiet (b ∷ bs) other log' last' (omega arith) w in
      (v.0 ∙ sym q.0, λ g. ap (weigh g) v.1 ∙ (same g ∙ ap (weigh g) (sym q.1)))
  run_both (a ∷ more) [] rest rest' k quota now other log log' last last' e f f' same v w le le' stop stop' =
      let none : length log' ≡ 0 = ap length w.0 in
      let full : k ≡ quota = ⊎_elim (λ (x : rest' ≡ []). absurd (let y = ap length (e ∙ x) in omega arith)) (λ (x : length log' + k ≡ quota). (let g : k ≡ quota = omega arith in g)) stop' in
      let q = quiet (a ∷ more) now log last (omega arith) v in
      (q.0 ∙ sym w.0, λ g. ap (weigh g) q.1 ∙ (same g ∙ ap (weigh g) (sym w.1)))
  run_both (a ∷ more) (b ∷ bs) rest rest' k quota now other log log' last last' e f f' same v w le le' stop stop' =
      let head : a ≡ b = ap (λ z. get_or z 0 0) e in
      let tail : more ++ rest ≡ bs ++ rest' = ap (drop 1) e in
      let t = visit_unique now other b v.0 w.0 v.2 w.2 f f' same (subst (λ (z : ℕ). V now z v.0 v.2) head v.4) w.4 in
      let lm : length v.0 ≡ length w.0 = ap length t.0 in
      let l1 : length log ≡ length v.0 + length v.1 = ap length v.3 ∙ length-append v.0 v.1 in
      let l2 : length log' ≡ length w.0 + length w.1 = ap length w.3 ∙ length-append w.0 w.1 in
      let r = run_both more bs rest rest' (k + length v.0) quota v.2 w.2 v.1 w.1 last last' tail (visit_forest now a v.0 v.2 f v.4) (visit_forest other b w.0 w.2 f' w.4) t.1 v.5 w.5 (omega arith) (omega arith)
      (⊎_elim (λ (x : rest ≡ []). inl x) (λ (x : length log + k ≡ quota). inr (let g : length v.1 + (k + length v.0) ≡ quota = omega arith in g)) stop)
      (⊎_elim (λ (x : rest' ≡ []). inl x) (λ (x : length log' + k ≡ quota). inr (let g : length w.1 + (k + length v.0) ≡ quota = omega arith in g)) stop') in
      (v.3 ∙ ((λ i. t.0 i ++ r.0 i) ∙ sym w.3), r.1)

pub sweep_is_unique : AnswersExclude → SweepIsUnique
sweep_is_unique answers_exclude opening openings now arcs quota log other last later ground f s t =
    run_both answers_exclude opening openings ground s.tried t.tried s.left t.left 0 quota now now log other last later (sym s.parts ∙ t.parts) f f (λ g. refl) s.visits t.visits (let a = s.few in omega arith) (let a = t.few in omega arith)
    (⊎_elim (λ (x : s.left ≡ []). inl x) (λ (x : length log ≡ quota). inr (let g : length log + 0 ≡ quota = omega arith in g)) s.ends)
    (⊎_elim (λ (x : t.left ≡ []). inl x) (λ (x : length other ≡ quota). inr (let g : length other + 0 ≡ quota = omega arith in g)) t.ends)
