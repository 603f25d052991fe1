-- The pivot of the tests: at a node of supply 1 a drain that costs nothing takes the place of the artificial one, which costs 1.
use Rattle.std.specs.Prelude.{◌≡◌, ◌≢◌, ℕ, ◌<◌, zero, suc, List, [], ◌∷◌, ◌++◌}
use Rattle.std.proofs.Common.{refl, sym, ap, subst, ◌∙◌, inl, ⊎_elim, arith}
use Rattle.gain_graphs.specs.Arcs.{IsIn, Touches, AreJoined}
use Rattle.np_frac.specs.Ratio.{Ratio, zero_ratio, one_ratio}
use Rattle.np_model.specs.declared.arc.Ends.{Ends}
use Rattle.np_model.specs.declared.arc.Ends.TheVariants.{Drain}
use Rattle.np_model.specs.declared.log.Entry.{Entry}
use Rattle.np_model.specs.declared.log.Mark.{Mark}
use Rattle.np_model.specs.declared.log.Mark.TheVariants as marked
use Rattle.np_model.specs.Basis.Graphs.{graph_of, graph_ends, ends_at}
use Rattle.np_model.specs.Basis.Pieces.{PieceLists, nodes_in}
use Rattle.np_model.specs.Basis.States.{State, values_of, basics, IsPieceOf}
use Rattle.np_basis.specs.PivotLaws.{HasRealArcs, ArePiecesOf, AfterIsExactly, two_drains, by_dear, by_cheap, HasPivot}
use Rattle.tree_table.specs.Weights.{weigh, AreAmong}
use Rattle.tree_table.specs.Passes.{View, first_view}
use Rattle.tree_table.specs.Replay.{HasSeen, Becomes}
use Rattle.tree_table.specs.Calls.{IsGot}
use Rattle.piece_tests.specs.Passes.{drained_by, artificial_opening}
use Rattle.tree_table.proofs.Deciding.{same_piece}
use Rattle.tree_table.proofs.Members.{member_there}
use Rattle.tree_table.proofs.Seen.{opening_seen, one_seen}

below_two : (P : ℕ → Type 0) → P 0 → P 1 → (a : ℕ) → a < 2 → P a
below_two P x y zero l = x
below_two P x y (suc zero) l = y
below_two P x y (suc (suc a)) l = absurd (omega arith)

-- the node by its drain b, where the other one is c
module _ (s : State) (b c : ℕ) (near : b < 2) (other : c < 2) (flow : (values_of s).flow b ≡ one_ratio) (basic : basics two_drains.arcs (values_of s).mark ≡ b ∷ [])
    (lower : (values_of s).mark c ≡ marked.Lower) (only : (a : ℕ) → a < 2 → (values_of s).mark a ≢ marked.Basic → a ≡ c) where
  touches : (a : ℕ) → a < 2 → Touches (0 ∷ []) (graph_of (ends_at two_drains.arcs) a)
  touches = below_two (λ a. Touches (0 ∷ []) (graph_of (ends_at two_drains.arcs) a)) (inl refl) (inl refl)

  drains : (a : ℕ) → a < 2 → Drain 0 ≡ ends_at two_drains.arcs a
  drains = below_two (λ a. Drain 0 ≡ ends_at two_drains.arcs a) refl refl

  is_piece : IsPieceOf two_drains (values_of s) (drained_by ((values_of s).potential 0) b c)
  is_piece = record {
    part = record {
      nodes_ascend = λ k l. absurd (omega arith);
      arcs_ascend = λ k l. absurd (omega arith);
      least = 0;
      is_piece = record {
        nodes_once = ((λ x. x), record {});
        arcs_once = ((λ x. x), record {});
        has_least = inl refl;
        is_least = λ v i. omega arith;
        joined = λ v. ((λ i. ⊎_elim (λ (e : v ≡ 0). ((let z = e in omega arith), ([], sym e))) (λ x. absurd x) i), (λ h. inl (let z = h.0 in omega arith)));
        touched = λ a. (
          (λ i. (subst (λ (xs : List ℕ). IsIn a xs) (sym basic) i, ⊎_elim (λ (e : a ≡ b). subst (λ (z : ℕ). Touches (0 ∷ []) (graph_of (ends_at two_drains.arcs) z)) (sym e) (touches b near)) (λ x. absurd x) i)),
          (λ h. subst (λ (xs : List ℕ). IsIn a xs) basic h.0),
        );
      };
    };
    read_off = record {
      marks_ascend = λ k l. absurd (omega arith);
      potentials = λ n i. ⊎_elim (λ (e : n ≡ (0, (values_of s).potential 0)). subst (λ (m : ℕ × Ratio). m.1 ≡ (values_of s).potential m.0) (sym e) refl) (λ x. absurd x) i;
      basic = λ n i. ⊎_elim
          (λ (e : n ≡ (b, Drain 0, one_ratio)). subst (λ (m : ℕ × Ends × Ratio). (m.1 ≡ ends_at two_drains.arcs m.0) × (m.2 ≡ (values_of s).flow m.0)) (sym e) (drains b near, sym flow))
          (λ x. absurd x) i;
      marked = λ a. (
        (λ i. ⊎_elim
            (λ (e : a ≡ c). subst (λ (z : ℕ). (z < 2) × ((values_of s).mark z ≢ marked.Basic) × Touches (0 ∷ []) (graph_ends (ends_at two_drains.arcs z))) (sym e) (other, (λ h. not_basic (sym lower ∙ h)), touches c other))
            (λ x. absurd x) i),
        (λ h. inl (only a h.0 h.1)),
      );
      marks = λ m i. ⊎_elim (λ (e : m ≡ (c, marked.Lower)). subst (λ (z : ℕ × Mark). z.1 ≡ (values_of s).mark z.0) (sym e) (sym lower)) (λ x. absurd x) i;
    };
  }
    where
      not_basic : marked.Lower ≢ marked.Basic
      not_basic e = absurd cc

abbrev pub dear : PieceLists
dear = drained_by one_ratio 1 0

abbrev pub cheap : PieceLists
cheap = drained_by zero_ratio 0 1

abbrev pub entry : Entry
entry = record { enter = 0; leave = 1; leave_at = marked.Lower }

dear_only : (a : ℕ) → a < 2 → (values_of by_dear).mark a ≢ marked.Basic → a ≡ 0
dear_only zero l n = refl
dear_only (suc zero) l n = absurd (n refl)
dear_only (suc (suc a)) l n = absurd (omega arith)

cheap_only : (a : ℕ) → a < 2 → (values_of by_cheap).mark a ≢ marked.Basic → a ≡ 1
cheap_only zero l n = absurd (n refl)
cheap_only (suc zero) l n = refl
cheap_only (suc (suc a)) l n = absurd (omega arith)

one_piece : (s : State) (p : PieceLists) → IsPieceOf two_drains (values_of s) p → nodes_in p ≡ 0 ∷ [] → ArePiecesOf two_drains (values_of s) (p ∷ [])
one_piece s p is nodes = record {
  each = λ q i. ⊎_elim (λ (e : q ≡ p). subst (λ (z : PieceLists). IsPieceOf two_drains (values_of s) z) (sym e) is) (λ x. absurd x) i;
  apart = subst (λ (ns : List ℕ). Rattle.gain_graphs.specs.Arcs.AreDistinct (ns ++ [])) (sym nodes) ((λ x. x), record {});
}

pub becomes : HasPivot → AfterIsExactly → Becomes artificial_opening (dear ∷ []) entry (cheap ∷ [])
becomes h exactly =
    let real : HasRealArcs two_drains 1 = record { sound = h.ground.sound; few = omega arith } in
    let before = one_piece by_dear dear (is_piece by_dear 1 0 (omega arith) (omega arith) refl refl refl dear_only) refl in
    let after = one_piece by_cheap cheap (is_piece by_cheap 0 1 (omega arith) (omega arith) refl refl refl cheap_only) refl in
    let p = h.pivot in
    (exactly two_drains 1 by_dear entry (dear ∷ []) (cheap ∷ []) real h.state before (record {}) (record {}) (inl refl)).1 (
      by_cheap,
      record {
        eligible = record { is_open = (omega arith, record {}); gains = p.eligible.gains };
        direction = p.direction;
        step = p.step;
        move = p.move;
        is_state = p.is_state;
        flows = p.flows;
        marks = p.marks;
      },
      record { pieces_of = after; same_nodes = λ v. ((λ i. i), (λ i. i)) },
    )

-- what is taken first from the table is the one piece
pub first_piece : (v : View) (p : PieceLists) → v ≡ first_view artificial_opening → IsGot v 0 p → p ≡ dear
first_piece v p is got =
    let seen : HasSeen (first_view artificial_opening) got.now = subst (λ (w : View). HasSeen w got.now) is got.seen in
    let same = one_seen (first_view artificial_opening) got.now artificial_opening.pieces refl seen (opening_seen artificial_opening) in
    let none : v.hands ≡ [] = ap (λ w. w.hands) is in
    let among : AreAmong (p ∷ []) artificial_opening.pieces = λ f. let a = got.there f in let b = same f in let c = ap (λ hs. weigh f (hs ++ p ∷ [])) none in omega arith in
    ⊎_elim (λ (e : p ≡ dear). e) (λ x. absurd x) (member_there same_piece artificial_opening.pieces (p ∷ []) p among (inl refl))
