-- What a pivot of a state does to the pieces that hold the ends of its entering arc, and to the others.
use Rattle.std.specs.Prelude.{◌≡◌, ◌≢◌, ◌↔◌, ℕ, ◌<◌, ◌==◌, if◌then◌else◌, List, ◌∷◌, length}
use Rattle.std.proofs.Common.{sym, ap, subst, ◌∙◌, inl, inr, arith}
use Rattle.std.proofs.lemmas.Bool.Decides.{nat_tests}
use native.Mathlib.Decide.{ℕ_discrete}
use Rattle.gain_graphs.specs.Arcs.{IsIn, Touches}
use Rattle.gain_graphs.specs.QuasiTrees.{LiesIn}
use Rattle.gain_graphs.proofs.Lists.{in_map, decide_in}
use Rattle.gain_graphs.proofs.Pieces as graph_pieces
use Rattle.np_frac.specs.Ratio.{Ratio, zero_ratio, ◌+ᵣ◌, ◌*ᵣ◌}
use Rattle.np_frac.proofs.RatioLaws.{+ᵣ-zero, *ᵣ-zero}
use Rattle.np_model.specs.declared.arc.Ends.{Ends}
use Rattle.np_model.specs.declared.log.Mark.{Mark}
use Rattle.np_model.specs.declared.log.Mark.TheVariants as marked
use Rattle.np_model.specs.declared.log.Entry.{Entry}
use Rattle.np_model.specs.Network.Flows.{Network, at}
use Rattle.np_model.specs.Basis.Graphs.{ratios, graph_of, ends_at, cost_at}
use Rattle.np_model.specs.Basis.Moves.{sign, Gains, IsTowards, IsEligible, mark_after}
use Rattle.np_model.specs.Basis.Pieces.{PieceLists, nodes_in, basics_in, nodes_of, basics_of}
use Rattle.np_model.specs.Basis.Pivots.{IsPivot}
use Rattle.np_model.specs.Basis.Sound.{HoldEnds}
use Rattle.np_model.specs.Basis.States.{State, values_of, basics, IsPieceOf, IsState}
use Rattle.np_basis.specs.PivotLaws.{HasRealArcs, MayEnter, ArePiecesOf, IsLocal, OthersAreKept}
use Rattle.np_basis.proofs.Basics.{basics_hold}
use Rattle.np_basis.proofs.Cutting as cutting
use Rattle.np_basis.proofs.Directions as directions
use Rattle.np_basis.proofs.Held as held
use Rattle.np_basis.proofs.Held.{arc_below}
use Rattle.np_basis.proofs.Reading.{in_flat, in_flat_of, piece_is_sound}
use Rattle.np_basis.proofs.Trees.{potentials_are_unique}

-- ---- marks after a pivot

pub mark_leave : (entry : Entry) (mark : ℕ → Mark) → mark_after entry mark entry.leave ≡ entry.leave_at
mark_leave entry mark = grind (arith, nat_tests)

pub mark_enter : (entry : Entry) (mark : ℕ → Mark) → entry.enter ≢ entry.leave → mark_after entry mark entry.enter ≡ marked.Basic
mark_enter entry mark h = grind (arith, nat_tests)

pub mark_other : (entry : Entry) (mark : ℕ → Mark) (a : ℕ) → a ≢ entry.enter → a ≢ entry.leave → mark_after entry mark a ≡ mark a
mark_other entry mark a h k = grind (arith, nat_tests)

pub mark_after_same : (entry : Entry) (f g : ℕ → Mark) (a : ℕ) → f a ≡ g a → mark_after entry f a ≡ mark_after entry g a
mark_after_same entry f g a e = ap (λ t. if a == entry.leave then entry.leave_at else (if a == entry.enter then marked.Basic else t)) e

pub not_towards : (d : Ratio) (m : Mark) → IsTowards d m → m ≢ marked.Basic
not_towards d marked.Lower h e = cc
not_towards d marked.Upper h e = cc
not_towards d marked.Basic h e = h

pub not_gaining : (m : Mark) (r : Ratio) → Gains m r → m ≢ marked.Basic
not_gaining marked.Lower r k e = cc
not_gaining marked.Upper r k e = cc
not_gaining marked.Basic r k e = k

-- an amount that does not move
pub unmoved : (x t d : Ratio) → d ≡ zero_ratio → x +ᵣ t *ᵣ d ≡ x
unmoved x t d e = ap (λ z. x +ᵣ t *ᵣ z) e ∙ ap (λ z. x +ᵣ z) (*ᵣ-zero t) ∙ +ᵣ-zero x

-- ---- what is given

-- a state with the pieces that hold the ends of an eligible arc
pub record Given (net : Network) (real : ℕ) (s : State) (ps : List PieceLists) (entry : Entry) : Type 0 where
  pub ground : HasRealArcs net real
  pub state : IsState net s
  pub pieces : ArePiecesOf net (values_of s) ps
  pub into : HoldEnds ps (ends_at net.arcs entry.enter)
  pub eligible : IsEligible net real (values_of s) entry.enter

module _ (net : Network) (real : ℕ) (s : State) (ps : List PieceLists) (entry : Entry) (g : Given net real s ps entry) where
  pub may : MayEnter net ps entry.enter
  may = record {
    below = omega (arith, g.eligible.is_open.0, g.ground.few);
    ends = g.into;
    not_basic = λ i. not_gaining ((values_of s).mark entry.enter) _ g.eligible.gains (held.of_pieces net g.ground.sound (values_of s) ps g.pieces entry.enter i).1;
  }

  pub own_arcs : (a : ℕ) → IsIn a (basics_of ps) → (a < length net.arcs) × LiesIn ratios (nodes_of ps) (graph_of (ends_at net.arcs) a)
  own_arcs = held.own_arcs net g.ground.sound s g.state ps g.pieces entry.enter may

  pub hand_below : (a : ℕ) → IsIn a (entry.enter ∷ basics_of ps) → a < length net.arcs
  hand_below = held.hand_below net ps entry.enter may own_arcs

  pub hand_lies : (a : ℕ) → IsIn a (entry.enter ∷ basics_of ps) → LiesIn ratios (nodes_of ps) (graph_of (ends_at net.arcs) a)
  hand_lies = held.hand_lies net ps entry.enter may own_arcs

  pub hand_touches : (a : ℕ) → IsIn a (entry.enter ∷ basics_of ps) → Touches (nodes_of ps) (graph_of (ends_at net.arcs) a)
  hand_touches = held.hand_touches net ps entry.enter may own_arcs

  pub hand_entering : directions.Enters net g.ground.sound (nodes_of ps) (entry.enter ∷ basics_of ps) (basics_of ps) entry.enter
  hand_entering = directions.of_entering net g.ground.sound ps entry.enter (held.in_net net g.ground.sound s g.state ps g.pieces entry.enter may) may

  -- an arc that touches nodes apart from those of the pieces is none of theirs
  pub away : (nodes : List ℕ) → ((u : ℕ) → IsIn u nodes → ¬ IsIn u (nodes_of ps)) → (a : ℕ) → Touches nodes (graph_of (ends_at net.arcs) a) → ¬ IsIn a (entry.enter ∷ basics_of ps)
  away nodes apart a t i =
      let w = graph_pieces.both ratios (length net.supply) (graph_of (ends_at net.arcs)) (nodes_of ps) nodes (graph_of (ends_at net.arcs) a) (hand_lies a i) t in
      apart w.0 w.2 w.1

  -- where the leaving arc is one of theirs, and comes to a bound
  module _ (leave_in : IsIn entry.leave (entry.enter ∷ basics_of ps)) (at_bound : entry.leave_at ≢ marked.Basic) where
    -- what was theirs and does not leave is basic afterwards
    pub stays : (a : ℕ) → IsIn a (entry.enter ∷ basics_of ps) → a ≢ entry.leave → mark_after entry (values_of s).mark a ≡ marked.Basic
    stays a i n = go (ℕ_discrete a entry.enter) i
      where
        go : Dec (a ≡ entry.enter) → IsIn a (entry.enter ∷ basics_of ps) → mark_after entry (values_of s).mark a ≡ marked.Basic
        go (yes e) j = ap (mark_after entry (values_of s).mark) e ∙ mark_enter entry (values_of s).mark (λ f. n (e ∙ f))
        go (no k) j = mark_other entry (values_of s).mark a k n ∙ elim j [ inl e ↦ absurd (k e) | inr x ↦ (held.of_pieces net g.ground.sound (values_of s) ps g.pieces a x).1 ]

    -- what is basic afterwards and touches them was theirs, and does not leave
    pub was : (a : ℕ) → a < length net.arcs → Touches (nodes_of ps) (graph_of (ends_at net.arcs) a) → mark_after entry (values_of s).mark a ≡ marked.Basic
        → IsIn a (entry.enter ∷ basics_of ps) × (a ≢ entry.leave)
    was a l t m = go (ℕ_discrete a entry.leave) (ℕ_discrete a entry.enter)
      where
        go : Dec (a ≡ entry.leave) → Dec (a ≡ entry.enter) → IsIn a (entry.enter ∷ basics_of ps) × (a ≢ entry.leave)
        go (yes f) _ = absurd (at_bound (sym (mark_leave entry (values_of s).mark) ∙ ap (mark_after entry (values_of s).mark) (sym f) ∙ m))
        go (no n) (yes f) = (inl f, n)
        go (no n) (no k) = (inr (held.basic_here net g.ground.sound (values_of s) ps g.pieces a l (sym (mark_other entry (values_of s).mark a k n) ∙ m) t), n)

    -- no other mark changes
    pub kept_mark : (a : ℕ) → (¬ IsIn a (entry.enter ∷ basics_of ps)) → mark_after entry (values_of s).mark a ≡ (values_of s).mark a
    kept_mark a h = mark_other entry (values_of s).mark a (λ e. h (inl e)) (λ e. h (subst (λ t. IsIn t (entry.enter ∷ basics_of ps)) (sym e) leave_in))

-- ---- a pivot

pub given : (net : Network) (real : ℕ) (s : State) (ps : List PieceLists) (entry : Entry) (after : State) → HasRealArcs net real → IsState net s → ArePiecesOf net (values_of s) ps
    → HoldEnds ps (ends_at net.arcs entry.enter) → IsPivot net real s entry after → Given net real s ps entry
given net real s ps entry after ground st pieces into v = record { ground = ground; state = st; pieces = pieces; into = into; eligible = v.eligible }

module _ (net : Network) (real : ℕ) (s : State) (ps : List PieceLists) (entry : Entry) (g : Given net real s ps entry) (after : State) (v : IsPivot net real s entry after) where
  pub is_local : IsLocal net ps entry.enter (sign ((values_of s).mark entry.enter)) v.direction
  is_local = held.local net g.ground.sound s g.state ps g.pieces entry.enter (may net real s ps entry g) (sign ((values_of s).mark entry.enter)) v.direction v.move.direction

  pub leave_in : IsIn entry.leave (entry.enter ∷ basics_of ps)
  leave_in = elim (decide_in entry.leave (entry.enter ∷ basics_of ps)) [
    | yes i ↦ i
    | no h ↦ absurd (v.move.stops.moves (is_local.off entry.leave (arc_below net entry.leave v.move.leaves) h))
  ]

  pub at_bound : entry.leave_at ≢ marked.Basic
  at_bound = not_towards (v.direction entry.leave) entry.leave_at v.move.stops.towards

  pub off_mark : (a : ℕ) → a < length net.arcs → (¬ IsIn a (entry.enter ∷ basics_of ps)) → (values_of after).mark a ≡ (values_of s).mark a
  off_mark a l h = v.marks a l ∙ kept_mark net real s ps entry g leave_in at_bound a h

  pub off_flow : (a : ℕ) → a < length net.arcs → (¬ IsIn a (entry.enter ∷ basics_of ps)) → at after.flows a ≡ at s.flows a
  off_flow a l h = v.flows a l ∙ unmoved (at s.flows a) v.step (v.direction a) (is_local.off a l h)

  -- ---- another piece

  module _ (other : PieceLists) (r : IsPieceOf net (values_of s) other) (apart : (u : ℕ) → IsIn u (nodes_in other) → ¬ IsIn u (nodes_of ps)) where
    same_mark : (a : ℕ) → a < length net.arcs → Touches (nodes_in other) (graph_of (ends_at net.arcs) a) → (values_of after).mark a ≡ (values_of s).mark a
    same_mark a l t = off_mark a l (away net real s ps entry g (nodes_in other) apart a t)

    basic_before : (a : ℕ) → IsIn a (basics_in other) → IsIn a (basics net.arcs (values_of s).mark) × Touches (nodes_in other) (graph_of (ends_at net.arcs) a)
    basic_before a = (r.part.is_piece.touched a).0

    basic_same : (a : ℕ) → Touches (nodes_in other) (graph_of (ends_at net.arcs) a) → IsIn a (basics net.arcs (values_of s).mark) ↔ IsIn a (basics net.arcs (values_of after).mark)
    basic_same a t = (
      (λ i. let k = (basics_hold net.arcs (values_of s).mark a).0 i in (basics_hold net.arcs (values_of after).mark a).1 (k.0, same_mark a k.0 t ∙ k.1)),
      (λ i. let k = (basics_hold net.arcs (values_of after).mark a).0 i in (basics_hold net.arcs (values_of s).mark a).1 (k.0, sym (same_mark a k.0 t) ∙ k.1)),
    )

    -- its potentials are the only ones
    pub off_potential : (u : ℕ) → IsIn u (nodes_in other) → at after.potentials u ≡ at s.potentials u
    off_potential u i =
        potentials_are_unique net other (cost_at net.arcs) (at after.potentials) (at s.potentials) (piece_is_sound net s other g.state r).in_net
        (λ a j. let b = basic_before a j in v.is_state.priced a ((basic_same a b.1).0 b.0))
        (λ a j. g.state.priced a (basic_before a j).0) u i

    pub other_kept : IsPieceOf net (values_of after) other
    other_kept = record {
      part = record {
        nodes_ascend = r.part.nodes_ascend;
        arcs_ascend = r.part.arcs_ascend;
        least = r.part.least;
        is_piece = graph_pieces.kept ratios (length net.supply) (graph_of (ends_at net.arcs)) (basics net.arcs (values_of s).mark) (basics net.arcs (values_of after).mark) r.part.least (nodes_in other) (basics_in other) r.part.is_piece
            (cutting.valid net (values_of s) g.ground.sound) basic_same;
      };
      read_off = record {
        marks_ascend = r.read_off.marks_ascend;
        potentials = λ n i. r.read_off.potentials n i ∙ sym (off_potential n.0 (in_map (λ (x : ℕ × Ratio). x.0) n other.nodes i));
        basic = λ b i.
            let k = basic_before b.0 (in_map (λ (x : ℕ × Ends × Ratio). x.0) b other.basics i) in (
              (r.read_off.basic b i).0,
              (r.read_off.basic b i).1
                  ∙ sym (off_flow b.0 ((basics_hold net.arcs (values_of s).mark b.0).0 k.0).0 (away net real s ps entry g (nodes_in other) apart b.0 k.1)),
            );
        marked = λ a. (
          (λ i. let k = (r.read_off.marked a).0 i in (k.0, (λ e. k.1 (sym (same_mark a k.0 k.2) ∙ e)), k.2)),
          (λ k. (r.read_off.marked a).1 (k.0, (λ e. k.1 (same_mark a k.0 k.2 ∙ e)), k.2)),
        );
        marks = λ m i.
            let k = (r.read_off.marked m.0).0 (in_map (λ (x : ℕ × Mark). x.0) m other.marks i) in
            r.read_off.marks m i ∙ sym (same_mark m.0 k.0 k.2);
      };
    }

  -- a node of none of these pieces keeps its potential
  pub potential_off : (u : ℕ) → u < length net.supply → (¬ IsIn u (nodes_of ps)) → at after.potentials u ≡ at s.potentials u
  potential_off u l h =
      let p = cutting.piece_exists net (values_of s) u g.ground.sound l in
      off_potential p.0 p.1 (λ w i j.
      let q = in_flat_of nodes_in ps w j in
      let same : p.0 ≡ q.0 = cutting.piece_is_unique net (values_of s) p.0 q.0 w p.1 (g.pieces.each q.0 q.1) i q.2 in
      h (in_flat nodes_in ps q.0 u q.1 (subst (λ t. IsIn u (nodes_in t)) same p.2))) u p.2

pub others_are_kept : OthersAreKept
others_are_kept net real s entry after ps other ground st v pieces into r apart =
    other_kept net real s ps entry (given net real s ps entry after ground st pieces into v) after v other r apart
