-- The answers of an attempt exclude each other.
use Rattle.std.specs.Prelude.{◌≡◌, ◌↔◌, ℕ, List, [], ◌∷◌, length, Result, Err}
use Rattle.std.specs.Result.{IsOk}
use Rattle.std.proofs.Common.{refl, sym, ap, ap₂, subst, ◌∙◌, inl, inr, arith}
use Rattle.gain_graphs.specs.Arcs.{IsIn}
use Rattle.gain_graphs.proofs.Lists.{in_map, in_map_of, decide_in}
use Rattle.np_frac.specs.Ratio.{Ratio, zero_ratio}
use Rattle.np_model.specs.declared.log.Entry.{Entry}
use Rattle.np_model.specs.declared.log.Mark.TheVariants.{Lower}
use Rattle.np_model.specs.declared.piece.Direction.{Direction}
use Rattle.np_frac.specs.declared.frac.Past.{Past}
use Rattle.np_model.specs.declared.rows.Overflow.{Overflow}
use Rattle.np_model.specs.declared.rows.Place.{Place}
use Rattle.np_model.specs.declared.rows.Place.TheVariants.{Arc}
use Rattle.np_model.specs.declared.rows.Row.{Row}
use Rattle.np_model.specs.Network.Flows.{Network}
use Rattle.np_model.specs.Basis.Attempts.{PriceFits, HasDirection, DirectionOverflows, IsFollowed, IsPivoted, IsRay, IsAimed, FirstOverflow, of_price, of_direction, of_ratio, of_move, MoveOverflows, LimitsOverflow, FlowsOverflow, PotentialsOverflow, FlowsFit}
use Rattle.np_model.specs.Basis.Graphs.{ends_at, cost_at}
use Rattle.np_model.specs.Basis.Moves.{Stops, IsEligible}
use Rattle.np_model.specs.Basis.Needed.{AreNeededFor, IsDirectionOf}
use Rattle.np_model.specs.Basis.Phases.{phase_net, real_arcs}
use Rattle.np_model.specs.Basis.Pieces.{PieceLists, nodes_in, basics_in, beside, basics_of}
use Rattle.np_model.specs.Basis.Sound.{values_in, AreSound, HoldEnds, IsAfter}
use Rattle.np_model.specs.Rows.Moving.{numbers_of_steps, limits_of, new_flows}
use Rattle.np_model.specs.Rows.Prices.{price_of}
use Rattle.np_model.specs.Rows.Extra.{IsExtra}
use Rattle.np_model.specs.Rows.Potentials.{Gives}
use Rattle.np_model.specs.declared.phase.Phase.TheVariants.{One}
use Rattle.np_basis.specs.PivotLaws.{HasRealArcs, AreInNet, MayEnter}
use Rattle.np_basis.proofs.Ascending.{ascends, same_list}
use Rattle.np_basis.proofs.Directions as directions
use Rattle.np_basis.proofs.Directions.{direction_is_unique}
use Rattle.np_basis.proofs.RatioTest.{move_is_unique}
use Rattle.np_basis.proofs.Reading.{in_flat, in_flat_of, beside_in, beside_out}
use Rattle.np_basis.proofs.Roots.{needed_hold}
use Rattle.np_basis.proofs.Sound as sounds
use Rattle.np_basis.proofs.StageOne as stage
use Rattle.np_basis.proofs.Trees.{potentials_are_unique}
use Rattle.np_frac.proofs.Results.{err_not_ok}
use Rattle.tree_potentials.proofs.Settings.{clash}
use Rattle.tree_flows.proofs.Apart as apart
use Rattle.pivot_step.specs.Laws.{AttemptStep, pricing, directing, limiting, moving, settling, TellsFirst, OverflowsAt, IsRefused, AnswersExclude, NoRayInStageOne}
use Rattle.pivot_step.proofs.Assembled as assembling
use Rattle.pivot_step.proofs.Entries.{same_entries}
use Rattle.pivot_step.proofs.Flipping.{same_part}
use Rattle.pivot_step.proofs.Once as once
use Rattle.pivot_step.proofs.Ready as ready

-- ---- one direction

number_in : (steps : List (ℕ × Ratio)) (s : ℕ × Ratio) → IsIn s steps → IsIn s.0 (numbers_of_steps steps)
number_in steps s i = in_map (λ (s : ℕ × Ratio). s.0) s steps i

module _ (net : Network) (real : ℕ) (ground : HasRealArcs net real) (ps : List PieceLists) (sound : AreSound net ps) (arc : ℕ) (needed : AreNeededFor ps (ends_at net.arcs arc)) where
  holds : IsEligible net real (values_in net ps) arc → HoldEnds ps (ends_at net.arcs arc)
  holds eligible = needed_hold ps (ends_at net.arcs arc) (length net.supply) (directions.ends_valid net ground.sound arc (omega (arith, eligible.is_open.0, ground.few))) needed

  abbrev flip : Entry
  flip = record { enter = arc; leave = arc; leave_at = Lower }

  module _ (eligible : IsEligible net real (values_in net ps) arc) where
    in_net : AreInNet net ps
    in_net = assembling.in_net net real ground ps sound flip (holds eligible) eligible

    may : MayEnter net ps arc
    may = assembling.may net real ground ps sound flip (holds eligible) eligible

    same_amounts : (by : Ratio) (d e : ℕ → Ratio) → IsDirectionOf net ps arc by d → IsDirectionOf net ps arc by e → (a : ℕ) → IsIn a (arc ∷ basics_of ps) → d a ≡ e a
    same_amounts by d e = direction_is_unique net ps arc by d e ground.sound in_net may

    -- each step of the one is one of the other
    goes : (d e : Direction) → HasDirection net real ps arc d → HasDirection net real ps arc e → (s : ℕ × Ratio) → IsIn s d.steps → IsIn s e.steps
    goes d e h k s i =
        let m = h.moves s i in
        let own = beside_in zero_ratio d.steps s.0 (number_in d.steps s i) in
        let it : own.entry ≡ s = sounds.one_entry (λ (x : ℕ × Ratio). x.0) d.steps (ascends (numbers_of_steps d.steps) h.ascend) own.entry s own.is_in i own.key in
        let value : s.1 ≡ beside zero_ratio e.steps s.0 = ap (λ (x : ℕ × Ratio). x.1) (sym it) ∙ sym own.is ∙ same_amounts _ (beside zero_ratio d.steps) (beside zero_ratio e.steps) h.balances k.balances s.0 m.0 in
        elim (decide_in s.0 (numbers_of_steps e.steps)) [
          | yes j ↦ (let r = beside_in zero_ratio e.steps s.0 j in
              subst (λ (x : ℕ × Ratio). IsIn x e.steps) (ap₂ (λ (a : ℕ) (b : Ratio). (a, b)) r.key (sym r.is ∙ sym value)) r.is_in)
          | no n ↦ absurd (m.1 (value ∙ beside_out zero_ratio e.steps s.0 n))
        ]

    one_direction : (d e : Direction) → HasDirection net real ps arc d → HasDirection net real ps arc e → d ≡ e
    one_direction d e h k = same d e (h.enters ∙ sym k.enters) (h.goes ∙ sym k.goes)
        (same_entries (λ (s : ℕ × Ratio). s.0) d.steps e.steps
        (same_list (numbers_of_steps d.steps) (numbers_of_steps e.steps) (ascends (numbers_of_steps d.steps) h.ascend) (ascends (numbers_of_steps e.steps) k.ascend) (keys d e h k) (keys e d k h))
        (ascends (numbers_of_steps e.steps) k.ascend) (goes d e h k))
      where
        keys : (d e : Direction) → HasDirection net real ps arc d → HasDirection net real ps arc e → (v : ℕ) → IsIn v (numbers_of_steps d.steps) → IsIn v (numbers_of_steps e.steps)
        keys d e h k v i =
            let r = in_map_of (λ (s : ℕ × Ratio). s.0) v d.steps i in
            subst (λ t. IsIn t (numbers_of_steps e.steps)) (sym r.2) (number_in e.steps r.0 (goes d e h k r.0 r.1))

        same : (d e : Direction) → d.enter ≡ e.enter → d.up ≡ e.up → d.steps ≡ e.steps → d ≡ e
        same d e p q r =
            ap (λ n. let z : Direction = record { enter = n; up = d.up; steps = d.steps } in z) p
            ∙ ap (λ n. let z : Direction = record { enter = e.enter; up = n; steps = d.steps } in z) q
            ∙ ap (λ n. let z : Direction = record { enter = e.enter; up = e.up; steps = n } in z) r

    -- ---- rows A3 and A4

    not_overflows : (d : Direction) (o : Overflow) → HasDirection net real ps arc d → DirectionOverflows net real ps arc o → ⊥
    not_overflows d o h g =
        apart.not_both (ends_at net.arcs) (basics_in g.piece) g.gives.0 g.gives.1 arc g.amounts (beside zero_ratio d.steps)
        (λ a i. same_amounts _ g.amounts (beside zero_ratio d.steps) g.direction h.balances a (elim i [ inl e ↦ inl e | inr j ↦ inr (in_flat basics_in ps g.piece a g.is_piece j) ]))
        (h.rows_fit g.piece g.is_piece g.gives.0 g.gives.1) o.row o.past g.gives.2

    -- ---- one move

    one_move : (d e : Direction) (x y : Entry) (t u : Ratio) → IsFollowed net real ps arc d x t → IsFollowed net real ps arc e y u → (x ≡ y) × (t ≡ u)
    one_move d e x y t u f g =
        move_is_unique net ps x y (beside zero_ratio d.steps) (beside zero_ratio e.steps) t u ground.sound in_net (subst (MayEnter net ps) (sym f.enters) may) (f.enters ∙ sym g.enters) f.move g.move

    -- ---- rows A3 and A7

    not_given : (entry : Entry) (after : List PieceLists) (o : Overflow) → IsAfter net real ps entry after → PotentialsOverflow net ps entry o → ⊥
    not_given entry after o h g =
        let r = in_flat_of nodes_in after g.node ((h.same_nodes g.node).0 g.of_pieces) in
        let same = same_part net g.basic g.nodes g.numbers (nodes_in r.0) (basics_in r.0) g.part (once.part_after net real ground ps entry after h g.basic (λ a. g.basic_after.are a) r.0 r.1) g.node g.of_part r.2 in
        let piece = h.sound_after.each r.0 r.1 in
        let extra = subst (λ (ns : List ℕ). IsExtra (ends_at net.arcs) ns g.gives.0) same.1 g.gives.1 in
        clash net r.0 piece.in_net g.gives.0 g.potential (values_in net (r.0 ∷ [])).potential extra
        (potentials_are_unique net r.0 (cost_at net.arcs) g.potential (values_in net (r.0 ∷ [])).potential piece.in_net (λ a i. g.priced a (subst (IsIn a) (sym same.1) i)) piece.priced)
        o.row o.past (subst (λ (ns : List ℕ). Gives (ends_at net.arcs) (cost_at net.arcs) ns g.gives.0 g.potential o.row o.past) same.1 g.gives.2) (piece.rows_fit g.gives.0 extra)

  -- ---- the answers

  not_priced : (o : Overflow) → price_of net (values_in net ps).potential arc ≡ Err o → PriceFits net real ps arc → ⊥
  not_priced o e fits = err_not_ok (price_of net (values_in net ps).potential arc) o e fits

  refusal : (o : Overflow) → FirstOverflow net real ps arc o → IsRefused net real ps arc → ⊥
  refusal o (of_price e) r = not_priced o e r.0
  refusal o (of_direction fits eligible g) r = r.1 eligible
  refusal o (of_ratio d aimed g) r = r.1 aimed.eligible
  refusal o (of_move d entry t f g) r = r.1 f.aimed.eligible

  -- where the ratio test of a direction has no overflow, none of its overflows stands
  limits : (d e : Direction) (o : Overflow) → d ≡ e → limits_of net (values_in net ps).flow d.steps ≡ Err o.past → IsOk (limits_of net (values_in net ps).flow e.steps) → ⊥
  limits d e o same g fits = err_not_ok (limits_of net (values_in net ps).flow e.steps) o.past (ap (λ (x : Direction). limits_of net (values_in net ps).flow x.steps) (sym same) ∙ g) fits

  -- a direction with a move has an arc that stops it
  stopped : (d ray : Direction) (entry : Entry) (t : Ratio) → IsFollowed net real ps arc d entry t → IsRay net real ps arc ray → ⊥
  stopped d ray entry t f r =
      let same = one_direction f.aimed.eligible d ray f.aimed.has_direction r.aimed.has_direction in
      r.unbounded.none_stops t entry.leave entry.leave_at (subst (λ x. IsIn entry.leave (x ∷ basics_of ps)) f.enters f.move.leaves)
      (subst (λ (x : Direction). Stops net (values_in net ps) (beside zero_ratio x.steps) t entry.leave entry.leave_at) same f.move.stops)

  ray : (o : Overflow) (ray : Direction) → FirstOverflow net real ps arc o → IsRay net real ps arc ray → ⊥
  ray o x (of_price e) r = not_priced o e r.aimed.price_fits
  ray o x (of_direction fits eligible g) r = not_overflows eligible x o r.aimed.has_direction g
  ray o x (of_ratio d aimed g) r = limits d x o (one_direction aimed.eligible d x aimed.has_direction r.aimed.has_direction) g.past r.limits_fit
  ray o x (of_move d entry t f g) r = stopped d x entry t f r

  moved : (d e : Direction) (x y : Entry) (t u : Ratio) (after : List PieceLists) (o : Overflow) → d ≡ e → x ≡ y → t ≡ u → MoveOverflows net ps x d.steps t o → IsAfter net real ps y after → FlowsFit net ps e.steps u → IsEligible net real (values_in net ps) arc → ⊥
  moved d e x y t u after o p q r (inl g) h fits eligible =
      err_not_ok (new_flows e.steps u (values_in net ps).flow) o.past
      (ap₂ (λ (z : Direction) (w : Ratio). new_flows z.steps w (values_in net ps).flow) (sym p) (sym r) ∙ g.past) fits
  moved d e x y t u after o p q r (inr g) h fits eligible = not_given eligible y after o h (subst (λ (z : Entry). PotentialsOverflow net ps z o) q g.1)

  pivot : (o : Overflow) (entry : Entry) (after : List PieceLists) → FirstOverflow net real ps arc o → IsPivoted net real ps arc entry after → ⊥
  pivot o y after (of_price e) r = not_priced o e r.followed.aimed.price_fits
  pivot o y after (of_direction fits eligible g) r = not_overflows eligible r.direction o r.followed.aimed.has_direction g
  pivot o y after (of_ratio d aimed g) r = limits d r.direction o (one_direction aimed.eligible d r.direction aimed.has_direction r.followed.aimed.has_direction) g.past r.followed.limits_fit
  pivot o y after (of_move d x t f g) r =
      let one = one_move f.aimed.eligible d r.direction x y t r.step f r.followed in
      moved d r.direction x y t r.step after o (one_direction f.aimed.eligible d r.direction f.aimed.has_direction r.followed.aimed.has_direction) one.0 one.1 g r.is_after r.flows_fit f.aimed.eligible

  -- ---- the steps

  of_a_step : (o : Overflow) → FirstOverflow net real ps arc o ↔ ((step : AttemptStep) × OverflowsAt net real ps arc step o)
  of_a_step o = (to, (λ r. from r.0 r.1))
    where
      to : FirstOverflow net real ps arc o → (step : AttemptStep) × OverflowsAt net real ps arc step o
      to (of_price e) = (pricing, e)
      to (of_direction fits eligible g) = (directing, (fits, eligible, g))
      to (of_ratio d aimed g) = (limiting, (d, aimed, g))
      to (of_move d entry t f (inl g)) = (moving, (d, entry, t, f, g))
      to (of_move d entry t f (inr g)) = (settling, (d, entry, t, f, g.0, g.1))

      from : (step : AttemptStep) → OverflowsAt net real ps arc step o → FirstOverflow net real ps arc o
      from pricing h = of_price h
      from directing h = of_direction h.0 h.1 h.2
      from limiting h = of_ratio h.0 h.1 h.2
      from moving h = of_move h.0 h.1 h.2 h.3 (inl h.4)
      from settling h = of_move h.0 h.1 h.2 h.3 (inr (h.4, h.5))

  same_flows : (d e : Direction) (x y : Entry) (t u : Ratio) → IsFollowed net real ps arc d x t → IsFollowed net real ps arc e y u
      → new_flows d.steps t (values_in net ps).flow ≡ new_flows e.steps u (values_in net ps).flow
  same_flows d e x y t u f g =
      ap₂ (λ (z : Direction) (w : Ratio). new_flows z.steps w (values_in net ps).flow) (one_direction f.aimed.eligible d e f.aimed.has_direction g.aimed.has_direction) (one_move f.aimed.eligible d e x y t u f g).1

  limits_apart : (d e : Direction) (o : Overflow) (x : Entry) (t : Ratio) → IsAimed net real ps arc d → LimitsOverflow net ps d o → IsFollowed net real ps arc e x t → ⊥
  limits_apart d e o x t aimed g f = limits d e o (one_direction aimed.eligible d e aimed.has_direction f.aimed.has_direction) g.past f.limits_fit

  flows_apart : (d e : Direction) (x y : Entry) (t u : Ratio) (o : Overflow) → IsFollowed net real ps arc d x t → FlowsOverflow net ps x.enter d.steps t o → IsFollowed net real ps arc e y u → FlowsFit net ps e.steps u → ⊥
  flows_apart d e x y t u o f g h fit = err_not_ok (new_flows e.steps u (values_in net ps).flow) o.past (sym (same_flows d e x y t u f h) ∙ g.past) fit

  one_step : (step same : AttemptStep) (o p : Overflow) → OverflowsAt net real ps arc step o → OverflowsAt net real ps arc same p → step ≡ same
  one_step pricing pricing o p h k = refl
  one_step pricing directing o p h k = absurd (not_priced o h k.0)
  one_step pricing limiting o p h k = absurd (not_priced o h k.1.price_fits)
  one_step pricing moving o p h k = absurd (not_priced o h k.3.aimed.price_fits)
  one_step pricing settling o p h k = absurd (not_priced o h k.3.aimed.price_fits)
  one_step directing pricing o p h k = absurd (not_priced p k h.0)
  one_step directing directing o p h k = refl
  one_step directing limiting o p h k = absurd (not_overflows h.1 k.0 o k.1.has_direction h.2)
  one_step directing moving o p h k = absurd (not_overflows h.1 k.0 o k.3.aimed.has_direction h.2)
  one_step directing settling o p h k = absurd (not_overflows h.1 k.0 o k.3.aimed.has_direction h.2)
  one_step limiting pricing o p h k = absurd (not_priced p k h.1.price_fits)
  one_step limiting directing o p h k = absurd (not_overflows k.1 h.0 p h.1.has_direction k.2)
  one_step limiting limiting o p h k = refl
  one_step limiting moving o p h k = absurd (limits_apart h.0 k.0 o k.1 k.2 h.1 h.2 k.3)
  one_step limiting settling o p h k = absurd (limits_apart h.0 k.0 o k.1 k.2 h.1 h.2 k.3)
  one_step moving pricing o p h k = absurd (not_priced p k h.3.aimed.price_fits)
  one_step moving directing o p h k = absurd (not_overflows k.1 h.0 p h.3.aimed.has_direction k.2)
  one_step moving limiting o p h k = absurd (limits_apart k.0 h.0 p h.1 h.2 k.1 k.2 h.3)
  one_step moving moving o p h k = refl
  one_step moving settling o p h k = absurd (flows_apart h.0 k.0 h.1 k.1 h.2 k.2 o h.3 h.4 k.3 k.4)
  one_step settling pricing o p h k = absurd (not_priced p k h.3.aimed.price_fits)
  one_step settling directing o p h k = absurd (not_overflows k.1 h.0 p h.3.aimed.has_direction k.2)
  one_step settling limiting o p h k = absurd (limits_apart k.0 h.0 p h.1 h.2 k.1 k.2 h.3)
  one_step settling moving o p h k = absurd (flows_apart k.0 h.0 k.1 h.1 k.2 h.2 p k.3 k.4 h.3 h.4)
  one_step settling settling o p h k = refl

  same_overflow : (o p : Overflow) → o.row ≡ p.row → o.place ≡ p.place → o.past ≡ p.past → o ≡ p
  same_overflow o p e f g =
      ap (λ (x : Row). let z : Overflow = record { row = x; place = o.place; past = o.past } in z) e
      ∙ ap (λ (x : Place). let z : Overflow = record { row = p.row; place = x; past = o.past } in z) f
      ∙ ap (λ (x : Past). let z : Overflow = record { row = p.row; place = p.place; past = x } in z) g

  same_past : {A B : Type 0} (r s : Result A B) (x y : B) → r ≡ s → r ≡ Err x → s ≡ Err y → x ≡ y
  same_past r s x y e f g = cc

  one_operation : (step : AttemptStep) (o p : Overflow) → TellsFirst step → OverflowsAt net real ps arc step o → OverflowsAt net real ps arc step p → o ≡ p
  one_operation pricing o p first h k = same_past (price_of net (values_in net ps).potential arc) (price_of net (values_in net ps).potential arc) o p refl h k
  one_operation directing o p first h k = absurd first
  one_operation limiting o p first h k =
      let same = one_direction h.1.eligible h.0 k.0 h.1.has_direction k.1.has_direction in
      same_overflow o p (h.2.row ∙ sym k.2.row) (h.2.place ∙ ap (λ (d : Direction). Arc d.enter) same ∙ sym k.2.place)
      (same_past (limits_of net (values_in net ps).flow h.0.steps) (limits_of net (values_in net ps).flow k.0.steps) o.past p.past (ap (λ (d : Direction). limits_of net (values_in net ps).flow d.steps) same) h.2.past k.2.past)
  one_operation moving o p first h k =
      same_overflow o p (h.4.row ∙ sym k.4.row) (h.4.place ∙ ap Arc (h.3.enters ∙ sym k.3.enters) ∙ sym k.4.place)
      (same_past (new_flows h.0.steps h.2 (values_in net ps).flow) (new_flows k.0.steps k.2 (values_in net ps).flow) o.past p.past (same_flows h.0 k.0 h.1 k.1 h.2 k.2 h.3 k.3) h.4.past k.4.past)
  one_operation settling o p first h k = absurd first

pub answers_exclude : AnswersExclude
answers_exclude net real ps arc ground sound needed = record {
  overflow_or_refusal = refusal net real ground ps sound arc needed;
  overflow_or_ray = ray net real ground ps sound arc needed;
  overflow_or_pivot = pivot net real ground ps sound arc needed;
  refusal_or_ray = λ x r h. r.1 h.aimed.eligible;
  refusal_or_pivot = λ entry after r h. r.1 h.followed.aimed.eligible;
  ray_or_pivot = λ x entry after r h. stopped net real ground ps sound arc needed h.direction x entry h.step h.followed r;
  one_ray = λ x y r h. one_direction net real ground ps sound arc needed r.aimed.eligible x y r.aimed.has_direction h.aimed.has_direction;
  one_pivot = λ x y after others r h.
      let one = one_move net real ground ps sound arc needed r.followed.aimed.eligible r.direction h.direction x y r.step h.step r.followed h.followed in
      (one.0, once.one_after net real ground ps y after others (subst (λ (z : Entry). IsAfter net real ps z after) one.0 r.is_after) h.is_after);
  of_a_step = of_a_step net real ground ps sound arc needed;
  one_step = one_step net real ground ps sound arc needed;
  one_operation = one_operation net real ground ps sound arc needed;
}

pub no_ray_in_stage_one : NoRayInStageOne
no_ray_in_stage_one full ps arc x sound needed r =
    let ground = ready.ground One full in
    let c = stage.no_ray_in_stage_one full ps arc (beside zero_ratio x.steps) sound (holds (phase_net One full) (real_arcs full) ground ps sound arc needed r.aimed.eligible) r.aimed.eligible r.aimed.has_direction.balances in
    c.too_far (r.unbounded.within c.step c.forwards)
