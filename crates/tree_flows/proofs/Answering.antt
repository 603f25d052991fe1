-- From the moving arcs to the direction that is answered.
use Rattle.std.specs.Prelude.{◌≡◌, ◌≢◌, ℕ, Bool, true, false, List, ◌∷◌, Result, Ok, Err, MatchResult}
use Rattle.std.specs.List.Sorted.{IsPermutation, IsNonDecreasingBy, IsStrictlyIncreasing}
use Rattle.std.proofs.Common.{refl, sym, ap, subst, ◌∙◌, inl}
use Rattle.std.proofs.lemmas.List.Sorted.{IsPermutation-sym}
use Rattle.gain_graphs.specs.Arcs.{IsIn}
use Rattle.gain_graphs.proofs.Algebra as algebra
use Rattle.np_frac.specs.Ratio.{Ratio, zero_ratio, one_ratio, negated}
use Rattle.np_frac.specs.Fits.{Fits}
use Rattle.np_frac.specs.declared.frac.Past.{Past}
use Rattle.np_frac.proofs.Field.{one-zero}
use Rattle.np_model.specs.declared.piece.Direction.{Direction}
use Rattle.np_model.specs.declared.rows.Row.{Row}
use Rattle.np_model.specs.Network.Flows.{Network}
use Rattle.np_model.specs.Basis.Graphs.{ratios, ends_at}
use Rattle.np_model.specs.Basis.Pieces.{PieceLists, basics_in, basics_of, beside}
use Rattle.np_model.specs.Rows.Directions.{DirectionFits}
use Rattle.np_basis.specs.Laws.{HasSoundArcs}
use Rattle.tree_flows.specs.declared.refusal.DirRefusal.{DirRefusal}
use Rattle.tree_flows.specs.declared.refusal.DirRefusal.TheVariants as refusal
use Rattle.tree_flows.specs.declared.sums.Entering.{Entering}
use Rattle.tree_flows.specs.Answers.{CanEnter, IsAnswer, GivesPast, IsCause, ArePulled, AreStepsOn, IsRefusedOn}
use Rattle.np_basis.specs.PivotLaws.{unit_of}
use Rattle.np_model.specs.Basis.Needed.{IsDirectionOf}
use Rattle.tree_flows.proofs.Listing.{arcs_of, stays_in, ordered, beside_is}
use Rattle.tree_flows.proofs.Pulling.{pulled, balance_same, direction_exists}

unit_moves : (up : Bool) → unit_of up ≢ zero_ratio
unit_moves true e = one-zero e
unit_moves false e = one-zero (sym (algebra.negated_twice ratios one_ratio) ∙ ap negated e ∙ algebra.negated_zero ratios)

-- what is promised of the moving arcs: for each direction of the entering arc
abbrev pub AreTold : {V : Type 0} → (V → List (ℕ × Ratio)) → List PieceLists → Entering → Result V DirRefusal → Type 0
AreTold items pieces e r = (net : Network) (d : ℕ → Ratio) → HasSoundArcs net → ArePulled net pieces e d
    → MatchResult r (λ steps. AreStepsOn net pieces e.arc d (items steps)) (IsRefusedOn net pieces e.arc d)

module _ {V : Type 0} (items : V → List (ℕ × Ratio)) (net : Network) (sound : HasSoundArcs net) (pieces : List PieceLists) (enter : ℕ) (up : Bool) (can : CanEnter net pieces enter)
    (e : Entering) (arc_is : e.arc ≡ enter) (ends_are : e.ends ≡ ends_at net.arcs enter) (amount_is : e.amount ≡ unit_of up) where
  moves : e.amount ≢ zero_ratio
  moves m = unit_moves up (sym amount_is ∙ m)

  -- at each direction
  told_at : (r : Result V DirRefusal) → AreTold items pieces e r → (d : ℕ → Ratio) → IsDirectionOf net pieces enter (unit_of up) d
      → MatchResult r (λ steps. AreStepsOn net pieces enter d (items steps)) (IsRefusedOn net pieces enter d)
  told_at r told d dir =
      subst (λ n. MatchResult r (λ steps. AreStepsOn net pieces n d (items steps)) (IsRefusedOn net pieces n d)) arc_is
      (told net d sound (pulled net sound pieces enter can e d arc_is ends_are moves (subst (λ y. IsDirectionOf net pieces enter y d) (sym amount_is) dir)))

  some : (d : ℕ → Ratio) × IsDirectionOf net pieces enter (unit_of up) d
  some = direction_exists net sound pieces enter can (unit_of up)

  -- the refusal has its cause
  pub cause : (r : DirRefusal) → AreTold items pieces e (Err r) → IsCause net pieces enter up r
  cause (refusal.Past o) told =
      let h = told_at (Err (refusal.Past o)) told some.0 some.1 in
      (h.0, record { amounts = some.0; direction = some.1; piece = h.1.0; is_given = h.1.1; gives = h.1.2 })
  cause refusal.Memory told = record {}

  -- the steps in order are the answer
  pub answer : (steps : V) (list : List (ℕ × Ratio)) → AreTold items pieces e (Ok steps) → IsPermutation (items steps) list → IsNonDecreasingBy (λ s. s.0) list
      → (direction : Direction) → direction.enter ≡ enter → direction.up ≡ up → direction.steps ≡ list → IsAnswer net pieces enter up direction
  answer steps list told same order direction enter_is up_is steps_are =
      record {
        enters = enter_is;
        goes = up_is;
        ascend = subst (λ l. IsStrictlyIncreasing (arcs_of l)) (sym steps_are) (ordered (items steps) list same order first.moving_are.once);
        moves = subst (λ (l : List (ℕ × Ratio)). (s : ℕ × Ratio) → IsIn s l → IsIn s.0 (enter ∷ basics_of pieces) × (s.1 ≢ zero_ratio) × Fits s.1) (sym steps_are)
            (λ s i. let r = first.moving_are.each s (back s i) in (r.0, r.2, first.fit s (back s i)));
        balances = subst (λ l. IsDirectionOf net pieces enter (unit_of up) (beside zero_ratio l)) (sym steps_are) dir;
        rows_fit = subst (λ l. (p : PieceLists) → IsIn p pieces → DirectionFits (ends_at net.arcs) (beside zero_ratio l) (basics_in p) enter) (sym steps_are)
            (told_at (Ok steps) told (beside zero_ratio list) dir).rows_fit;
      }
    where
      first : AreStepsOn net pieces enter some.0 (items steps)
      first = told_at (Ok steps) told some.0 some.1

      back : (s : ℕ × Ratio) → IsIn s list → IsIn s (items steps)
      back = stays_in (items steps) list same

      forth : (s : ℕ × Ratio) → IsIn s (items steps) → IsIn s list
      forth = stays_in list (items steps) (IsPermutation-sym (items steps) list same)

      agrees : (a : ℕ) → IsIn a (enter ∷ basics_of pieces) → beside zero_ratio list a ≡ some.0 a
      agrees = beside_is (enter ∷ basics_of pieces) some.0 list (λ s i. (first.moving_are.each s (back s i)).1) (λ a i n. forth (a, some.0 a) (first.moving_are.all a i n))

      dir : IsDirectionOf net pieces enter (unit_of up) (beside zero_ratio list)
      dir = record {
        enters = agrees enter (inl refl) ∙ some.1.enters;
        only = λ a i _. i;
        balanced = λ v i. balance_same net sound pieces enter can (beside zero_ratio list) some.0 v agrees ∙ some.1.balanced v i;
      }

  -- where the rows give an operation, no steps are found
  pub never : (steps : V) (row : Row) (past : Past) → AreTold items pieces e (Ok steps) → GivesPast net pieces enter up row past → ⊥
  never steps row past told g = (told_at (Ok steps) told g.amounts g.direction).none_given g.piece g.is_given row past g.gives
