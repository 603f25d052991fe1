-- From the walk over a piece to what the calls promise.
use Rattle.std.specs.Prelude.{◌≡◌, ◌<◌, ℕ, List, length, Result, Ok, Err, MatchResult}
use Rattle.std.proofs.Common.{sym, subst}
use Rattle.np_frac.specs.Ratio.{Ratio, zero_ratio}
use Rattle.np_model.specs.declared.arc.Ends.{Ends}
use Rattle.np_model.specs.declared.log.Mark.{Mark}
use Rattle.np_model.specs.declared.rows.Overflow.{Overflow}
use Rattle.np_model.specs.Network.Flows.{Network, at}
use Rattle.np_basis.specs.Laws.{HasSoundArcs}
use Rattle.tree_search.specs.declared.piece.Step.{Step}
use Rattle.tree_search.specs.declared.piece.Joint.{Joint}
use Rattle.tree_flows.specs.declared.layout.Layout.{Layout}
use Rattle.tree_flows.specs.declared.sums.Entering.{Entering}
use Rattle.tree_flows.specs.Walks.{IsLaidOut, walk_in}
use Rattle.tree_flows.specs.Answers.{piece_of, IsPulled, AreAmounts, IsOverflow}
use Rattle.tree_flows.proofs.Scenes.{Scene}
use Rattle.tree_flows.proofs.Walked as walked

-- an answer is what its mirror says
pub carried : {V : Type 0} (items : V → List Ratio) (P : List Ratio → Type 0) (Q : Overflow → Type 0) (r : Result V Overflow) (a : Result (List Ratio) Overflow)
    → MatchResult r (λ f. a ≡ Ok (items f)) (λ o. a ≡ Err o) → MatchResult a P Q → MatchResult r (λ f. P (items f)) Q
carried items P Q (Ok f) a e h = subst (λ t. MatchResult t P Q) e h
carried items P Q (Err o) a e h = subst (λ t. MatchResult t P Q) e h

pub piece_answer : (nodes : List (ℕ × Ratio)) (basics : List (ℕ × Ends × Ratio)) (layout : Layout) (e : Entering) (amounts sums : List Ratio) (joints : List Joint) (steps : List Step)
    → IsLaidOut nodes basics e.arc layout → length amounts ≡ length basics → ((a : ℕ) → a < length basics → at amounts a ≡ zero_ratio) → length sums ≡ length nodes
    → joints ≡ layout.joints.items → steps ≡ layout.search.steps.items
    → (net : Network) (marks : List (ℕ × Mark)) (d : ℕ → Ratio) → HasSoundArcs net → IsPulled net (piece_of nodes basics marks) e d
    → MatchResult (walk_in nodes basics joints layout.before e steps layout.extra sums amounts) (AreAmounts net (piece_of nodes basics marks) e d) (IsOverflow net (piece_of nodes basics marks) e d)
piece_answer nodes basics layout e amounts sums joints steps laid long zeros each joints_are steps_are net marks d sound pulled =
    subst (λ j. MatchResult (walk_in nodes basics j layout.before e steps layout.extra sums amounts) (AreAmounts net (piece_of nodes basics marks) e d) (IsOverflow net (piece_of nodes basics marks) e d)) (sym joints_are)
    (subst (λ t. MatchResult (walk_in nodes basics layout.joints.items layout.before e t layout.extra sums amounts) (AreAmounts net (piece_of nodes basics marks) e d) (IsOverflow net (piece_of nodes basics marks) e d)) (sym steps_are)
    (walked.answered scene (walk_in nodes basics layout.joints.items layout.before e layout.search.steps.items layout.extra sums amounts) (walked.walked scene amounts sums long zeros each)))
  where
    scene : Scene
    scene = record {
      net = net;
      piece = piece_of nodes basics marks;
      sound = sound;
      e = e;
      d = d;
      pulled = pulled;
      joints = layout.joints.items;
      are = laid.joints;
      extra = layout.extra;
      is = laid.extra;
      search = layout.search;
      is_search = laid.search;
      closed = laid.closed;
      before = layout.before;
      comes = laid.before;
    }
