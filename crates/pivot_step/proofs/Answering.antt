-- What the direction and the ratio test find makes the answer.
use Rattle.std.specs.Prelude.{◌≡◌, ◌≢◌, ℕ, Bool, Option, Some, None, List, ◌∷◌}
use Rattle.std.specs.Option.{option_copied}
use Rattle.std.proofs.Common.{refl, sym, ap, subst, ◌∙◌, inl, inr, Bor}
use Rattle.gain_graphs.specs.Arcs.{IsIn}
use Rattle.gain_graphs.proofs.Lists.{in_map_of}
use Rattle.np_frac.specs.Ratio.{Ratio, zero_ratio}
use Rattle.np_model.specs.declared.log.Entry.{Entry}
use Rattle.np_model.specs.declared.log.Mark.{Mark}
use Rattle.np_model.specs.declared.log.Mark.TheVariants as marked
use Rattle.np_model.specs.declared.piece.Direction.{Direction}
use Rattle.np_model.specs.declared.piece.Hands.{Hands}
use Rattle.np_model.specs.declared.piece.Prepared.{Prepared}
use Rattle.np_model.specs.declared.piece.Prepared.TheVariants as prepared
use Rattle.np_model.specs.Network.Flows.{Network}
use Rattle.np_model.specs.Basis.Graphs.{graph_of, arc_at, ends_at}
use Rattle.np_model.specs.Basis.Moves.{sign}
use Rattle.np_model.specs.Basis.Pieces.{PieceLists, basics_in, beside, nodes_of, basics_of}
use Rattle.np_model.specs.Basis.Sound.{bound_at, values_in}
use Rattle.np_model.specs.Basis.States.{StandsAt}
use Rattle.np_basis.proofs.Pivoting.{not_gaining}
use Rattle.np_basis.proofs.Reading.{in_flat, touches_flat}
use Rattle.np_basis.proofs.Sound as sounds
use Rattle.quasi_tree.specs.declared.quasi.Quasi.{Quasi}
use Rattle.quasi_tree.specs.Store.{Store}
use Rattle.piece_lists.specs.Parts.{lists_in}
use Rattle.ratio_test.specs.declared.answer.RatioAnswer.{RatioAnswer}
use Rattle.ratio_test.specs.declared.answer.RatioAnswer.TheVariants.{Flip, Leave}
use Rattle.ratio_test.specs.Answers as ratio
use Rattle.ratio_test.specs.Asked as asked
use Rattle.tree_flows.specs.Answers as flows
use Rattle.tree_flows.specs.declared.refusal.DirRefusal.{DirRefusal}
use Rattle.tree_flows.specs.declared.refusal.DirRefusal.TheVariants as refusal
use Rattle.np_model.specs.Basis.Attempts.{of_direction, goes_up, PriceFits, HasDirection, IsAimed, IsFollowed, IsPivoted, of_move, IsPrepared}
use Rattle.pivot_step.specs.Asked as steps
use Rattle.pivot_step.specs.Asked.{IsMoved}
use Rattle.np_basis.specs.PivotLaws.{MayEnter, unit_of}
use Rattle.np_model.specs.Basis.Needed.{IsDirectionOf, lists_of}
use Rattle.pivot_step.specs.Overflows.{AreReady, IsMoveBy}

-- ---- the pieces, in the words of each row

pub given_is : (first : PieceLists) (second : Option (Bor Quasi)) → lists_of {A = Bor Quasi} (λ p. p.now.lists) first second ≡ lists_of (λ (s : Store). s.lists) first (option_copied second)
given_is first None = refl
given_is first (Some other) = refl

pub same_given : (first : PieceLists) (second : Option Store) → lists_of (λ (s : Store). s.lists) first second ≡ lists_of (λ (s : Store). s.lists) first second
same_given first None = refl
same_given first (Some other) = refl

unit_is : (m : Mark) → m ≢ marked.Basic → sign m ≡ unit_of (goes_up m)
unit_is marked.Lower h = refl
unit_is marked.Upper h = refl
unit_is marked.Basic h = absurd (h refl)

unit_of_flows : (m : Mark) → m ≢ marked.Basic → unit_of (goes_up m) ≡ sign m
unit_of_flows marked.Lower h = refl
unit_of_flows marked.Upper h = refl
unit_of_flows marked.Basic h = absurd (h refl)

module _ (net : Network) (real : ℕ) (ps : List PieceLists) (arc : ℕ) where
  module _ (ready : AreReady net real ps arc) (may : MayEnter net ps arc) where
    not_basic : (values_in net ps).mark arc ≢ marked.Basic
    not_basic = not_gaining ((values_in net ps).mark arc) _ ready.eligible.gains

    -- ---- the direction

    pub can_enter : flows.CanEnter net ps arc
    can_enter = record { in_net = λ p i. (ready.sound.each p i).in_net; apart = ready.sound.apart; inside = may.below; holds = may.ends; outside = may.not_basic }

    pub has_direction : (up : Bool) (d : Direction) → up ≡ goes_up ((values_in net ps).mark arc) → flows.IsAnswer net ps arc up d → HasDirection net real ps arc d
    has_direction up d e h = record {
      enters = h.enters;
      goes = h.goes ∙ e;
      ascend = h.ascend;
      moves = λ s i. let m = h.moves s i in (m.0, m.1);
      balances = subst (λ (x : Ratio). IsDirectionOf net ps arc x (beside zero_ratio d.steps)) (ap unit_of e ∙ unit_of_flows ((values_in net ps).mark arc) not_basic) h.balances;
      rows_fit = h.rows_fit;
    }

    pub no_direction : (up : Bool) (r : DirRefusal) → up ≡ goes_up ((values_in net ps).mark arc) → PriceFits net real ps arc → flows.IsCause net ps arc up r → IsPrepared net real ps arc lists_in (steps.of_direction r)
    no_direction up (refusal.Past o) e fits h = of_direction fits ready.eligible (record {
      place = h.0;
      amounts = h.1.amounts;
      direction = subst (λ (x : Ratio). IsDirectionOf net ps arc x h.1.amounts) (ap unit_of e ∙ unit_of_flows ((values_in net ps).mark arc) not_basic) h.1.direction;
      piece = h.1.piece;
      is_piece = h.1.is_given;
      gives = h.1.gives;
    })
    no_direction up refusal.Memory e fits h = (fits, ready.eligible)

    -- ---- the ratio test

    pub within : asked.AreWithin net ps
    within = record { in_net = λ p i. (ready.sound.each p i).in_net; apart = ready.sound.apart; within = λ p b i j. (ready.sound.each p i).within b j }

    pub outside : asked.IsOutside net ps arc
    outside = record { is_arc = may.below; ends = may.ends; not_basic = may.not_basic; at_bound = at_bound }
      where
        at_bound : StandsAt (arc_at net.arcs arc) ((values_in net ps).mark arc) (bound_at (arc_at net.arcs arc) ((values_in net ps).mark arc))
        at_bound =
            let p = touches_flat ps (graph_of (ends_at net.arcs) arc) (sounds.lies_touch (nodes_of ps) (graph_of (ends_at net.arcs) arc) may.ends) in
            let r = in_map_of (λ (m : ℕ × Mark). m.0) arc p.0.marks (((ready.sound.each p.0 p.1).in_net.marked arc).1 (may.below, (λ i. may.not_basic (in_flat basics_in ps p.0 arc p.1 i)), p.2)) in
            let e : r.0.1 ≡ (values_in net ps).mark arc = sym (sounds.mark_said net ps ready.sound p.0 r.0 p.1 r.1) ∙ ap (values_in net ps).mark (sym r.2) in
            subst (λ (m : Mark). StandsAt (arc_at net.arcs arc) m (bound_at (arc_at net.arcs arc) m)) e
            (subst (λ (a : ℕ). StandsAt (arc_at net.arcs a) r.0.1 (bound_at (arc_at net.arcs a) r.0.1)) (sym r.2) ((ready.sound.each p.0 p.1).allowed r.0 r.1))

    pub along : (d : Direction) → d.enter ≡ arc → HasDirection net real ps arc d → asked.IsAlong ps d
    along d e h = record {
      ascend = h.ascend;
      not_zero = λ s i. (h.moves s i).1;
      on_arcs = λ a i. let r = in_map_of (λ (s : ℕ × Ratio). s.0) a d.steps i in
          elim (subst (λ (x : ℕ). IsIn x (arc ∷ basics_of ps)) (sym r.2) (h.moves r.0 r.1).0) [ inl f ↦ inl (f ∙ sym e) | inr j ↦ inr j ];
      enters = ap (beside zero_ratio d.steps) e ∙ h.balances.enters ∙ unit_is ((values_in net ps).mark arc) not_basic ∙ ap unit_of (sym h.goes);
    }

  -- ---- the move

  module _ (d : Direction) (aimed : IsAimed net real ps arc d) (enters : d.enter ≡ arc) where
    move_is : (t : Ratio) (leave : ℕ) (leave_at : Mark) → ratio.IsGreatest net (values_in net ps) (d.enter ∷ basics_of ps) d.enter (beside zero_ratio d.steps) t leave leave_at
        → IsMoveBy net ps (record { enter = d.enter; leave = leave; leave_at = leave_at }) d.steps t
    move_is t leave leave_at g = record {
      ascend = aimed.has_direction.ascend;
      own = λ a i. let r = in_map_of (λ (s : ℕ × Ratio). s.0) a d.steps i in
          subst (λ (x : ℕ). IsIn x (d.enter ∷ basics_of ps)) (sym r.2) (subst (λ (x : ℕ). IsIn r.0.0 (x ∷ basics_of ps)) (sym enters) (aimed.has_direction.moves r.0 r.1).0);
      move = record {
        direction = subst (λ (x : ℕ). IsDirectionOf net ps x (sign ((values_in net ps).mark x)) (beside zero_ratio d.steps)) (sym enters) aimed.has_direction.balances;
        within = g.within;
        greatest = g.greatest;
        leaves = g.leaves;
        stops = g.stops;
        first = g.first;
      };
    }

    pub flip_move : (answer : RatioAnswer) (t : Ratio) (bound : Mark) (slice : List (ℕ × Ratio)) → answer ≡ Flip t → ratio.IsAnswer net ps d answer → bound ≡ asked.far_bound d.up → slice ≡ d.steps
        → IsMoveBy net ps (record { enter = d.enter; leave = d.enter; leave_at = bound }) slice t
    flip_move answer t bound slice e h f g =
        subst (λ (x : List (ℕ × Ratio)). IsMoveBy net ps (record { enter = d.enter; leave = d.enter; leave_at = bound }) x t) (sym g)
        (subst (λ (x : Mark). IsMoveBy net ps (record { enter = d.enter; leave = d.enter; leave_at = x }) d.steps t) (sym f)
        (move_is t d.enter (asked.far_bound d.up) (subst (ratio.IsRatio net ps d) e h.ratio)))

    pub leave_move : (answer : RatioAnswer) (t : Ratio) (leave : ℕ) (leave_at : Mark) (slice : List (ℕ × Ratio)) → answer ≡ Leave leave leave_at t → ratio.IsAnswer net ps d answer → slice ≡ d.steps
        → IsMoveBy net ps (record { enter = d.enter; leave = leave; leave_at = leave_at }) slice t
    leave_move answer t leave leave_at slice e h g =
        subst (λ (x : List (ℕ × Ratio)). IsMoveBy net ps (record { enter = d.enter; leave = leave; leave_at = leave_at }) x t) (sym g)
        (move_is t leave leave_at (subst (ratio.IsRatio net ps d) e h.ratio).1)

    pub answer_moved : (answer : RatioAnswer) (entry : Entry) (t : Ratio) (slice : List (ℕ × Ratio)) (result : Prepared (Hands Store)) → ratio.IsAnswer net ps d answer → entry.enter ≡ arc → slice ≡ d.steps → IsMoveBy net ps entry slice t
        → IsMoved net real ps entry slice t result → IsPrepared net real ps arc lists_in result
    answer_moved answer entry t slice result h e g by m =
        go result (subst (λ (x : List (ℕ × Ratio)). IsMoved net real ps entry x t result) g m)
      where
        followed : IsFollowed net real ps arc d entry t
        followed = record { aimed = aimed; limits_fit = h.fits; enters = e; move = (subst (λ (x : List (ℕ × Ratio)). IsMoveBy net ps entry x t) g by).move }

        go : (result : Prepared (Hands Store)) → IsMoved net real ps entry d.steps t result → IsPrepared net real ps arc lists_in result
        go (prepared.Ready made change) m =
            subst (λ (x : Entry). IsPivoted net real ps arc x (lists_in change)) (sym m.0) (record { is_after = m.1.is_after; direction = d; step = t; followed = followed; flows_fit = m.1.flows_fit })
        go prepared.NotEligible m = absurd m
        go (prepared.Ray ray) m = absurd m
        go (prepared.Past o) m = of_move d entry t followed m
        go prepared.Memory m = (aimed.price_fits, aimed.eligible)
