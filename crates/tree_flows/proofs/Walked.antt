-- The walk over a piece gives the amounts of the direction, or an operation that is reached overflows.
use Rattle.std.specs.Prelude.{Vec, ◌≡◌, ◌<◌, ◌≤◌, ◌⊎◌, ℕ, zero, suc, List, [], ◌∷◌, length, reverse, Result, Ok, Err, MatchResult}
use Rattle.std.specs.Global.{Global}
use Rattle.std.specs.List.{All}
use Rattle.std.proofs.Common.{refl, sym, ap, subst, ◌∙◌, inl, inr, arith}
use Rattle.gain_graphs.specs.Arcs.{IsIn}
use Rattle.np_frac.specs.Ratio.{Ratio, zero_ratio}
use Rattle.np_frac.specs.declared.frac.Past.{Past}
use Rattle.np_model.specs.declared.rows.Row.TheVariants.{A4}
use Rattle.np_model.specs.declared.rows.Overflow.{Overflow}
use Rattle.np_model.specs.Network.Flows.{at}
use Rattle.np_model.specs.Basis.Graphs.{ends_at}
use Rattle.np_model.specs.Basis.Pieces.{nodes_in, basics_in}
use Rattle.np_model.specs.Rows.Directions.{FitsRows, Gives}
use Rattle.np_model.specs.Rows.Extra.{Round}
use Rattle.np_basis.proofs.Extras.{extra_is_unique}
use Rattle.tree_search.specs.declared.piece.Step.{Step}
use Rattle.tree_search.specs.declared.piece.ExtraArc.{ExtraArc}
use Rattle.tree_search.specs.declared.piece.ExtraArc.TheVariants as found
use Rattle.tree_search.specs.Finding.{as_extra, first_node, way_of, IsLaidOut, IsPlaced}
use Rattle.tree_flows.specs.Along.{gather, in_row, ◌▸◌}
use Rattle.tree_flows.specs.Walks.{close_end, close_extra, walk_in}
use Rattle.tree_flows.specs.Answers.{AreAmounts, IsOverflow}
use Rattle.tree_flows.proofs.Scenes as scenes
use Rattle.tree_flows.proofs.Scenes.{Scene}
use Rattle.tree_flows.proofs.Inward as inward
use Rattle.tree_flows.proofs.Ending as ending
use Rattle.tree_flows.proofs.Cycling as cycling
use Rattle.tree_flows.proofs.Apart.{not_both}

beyond : (xs : List Ratio) (a : ℕ) → length xs ≤ a → at xs a ≡ zero_ratio
beyond [] a l = refl
beyond (x ∷ xs) zero l = absurd (omega arith)
beyond (x ∷ xs) (suc a) l = beyond xs a (omega arith)

-- amounts of 0 on all places are 0 everywhere
pub zeros_at : (xs : List Ratio) (n : ℕ) → length xs ≡ n → ((a : ℕ) → a < n → at xs a ≡ zero_ratio) → (a : ℕ) → at xs a ≡ zero_ratio
zeros_at xs n long h a = elim (cases a n) [ inl l ↦ h a l | inr l ↦ beyond xs a (subst (λ m. m ≤ a) (sym long) l) ]
  where
    cases : (i j : ℕ) → (i < j) ⊎ (j ≤ i)
    cases i j = grind arith

pub all_places : {A : Type 0} (P : A → Type 0) (l : List A) → All P l → (z : A) → IsIn z l → P z
all_places P [] h z i = absurd i
all_places P (y ∷ l) h z (inl e) = subst P (sym e) (h zero y (omega arith))
all_places P (y ∷ l) h z (inr i) = all_places P l (λ j d m. h (suc j) d (omega arith)) z i

module _ (s : Scene) where
  nothing_made : (zeros : List Ratio) → length zeros ≡ length s.piece.basics → ((a : ℕ) → a < length s.piece.basics → at zeros a ≡ zero_ratio) → inward.AreMade s [] zeros
  nothing_made zeros long h = record { long = long; known = λ t i. absurd i; still = λ a _. zeros_at zeros (length s.piece.basics) long h a }

  -- the extra arc, once the amounts on all links off it are made
  module _ (amounts : List Ratio) (made : inward.AreMade s (scenes.steps s) amounts) (done : (t : Step) → IsIn t (scenes.steps s) → inward.IsDone s t)
      (sums : List Ratio) (long : length sums ≡ length s.piece.nodes) where
    told : (r : Result (List Ratio) Past) → ending.IsWhole s r → cycling.IsAnswered s (in_row s.e.arc A4 r)
    told (Ok found) h = h
    told (Err past) h = (refl, h)

    round : (cycle : Vec Step Global) (items : List Step) → s.extra ≡ found.Round cycle → cycle.items ≡ items
        → cycling.IsAnswered s (close_extra s.piece.nodes s.piece.basics s.joints s.before s.e (found.Round cycle) sums amounts)
    round cycle [] is e = absurd (let l : IsLaidOut (nodes_in s.piece) s.piece.basics (found.Round cycle) = subst (IsLaidOut (nodes_in s.piece) s.piece.basics) is s.is.laid_out in
        let m : 0 < length cycle.items = l.0 in let n : length cycle.items ≡ 0 = ap length e in omega arith)
    round cycle (first ∷ rest) is e =
        let l : IsLaidOut (nodes_in s.piece) s.piece.basics (found.Round cycle) = subst (IsLaidOut (nodes_in s.piece) s.piece.basics) is s.is.laid_out in
        let placed : All (λ step. IsPlaced (nodes_in s.piece) s.piece.basics step) (first ∷ rest) = subst (All (λ step. IsPlaced (nodes_in s.piece) s.piece.basics step)) e l.1 in
        rw e (cycling.closed_round s amounts made done first rest (first_node (nodes_in s.piece) (first ∷ rest))
        (ap (as_extra (nodes_in s.piece) s.piece.basics s.joints) is ∙ ap (λ l. Round (first_node (nodes_in s.piece) l) (way_of (nodes_in s.piece) s.piece.basics l)) e)
        (λ z i. scenes.is_within s z (all_places (λ step. IsPlaced (nodes_in s.piece) s.piece.basics step) (first ∷ rest) placed z i)) sums long)

    closed : (extra : ExtraArc) → s.extra ≡ extra → cycling.IsAnswered s (close_extra s.piece.nodes s.piece.basics s.joints s.before s.e extra sums amounts)
    closed (found.OneEnd arc) is = told (close_end s.piece.nodes s.piece.basics s.joints s.before s.e arc amounts) (ending.closed_end s amounts made done arc is)
    closed (found.Round cycle) is = round cycle cycle.items is refl

  pub walked : (zeros sums : List Ratio) → length zeros ≡ length s.piece.basics → ((a : ℕ) → a < length s.piece.basics → at zeros a ≡ zero_ratio) → length sums ≡ length s.piece.nodes
      → cycling.IsAnswered s (walk_in s.piece.nodes s.piece.basics s.joints s.before s.e (scenes.steps s) s.extra sums zeros)
  walked zeros sums long h long_sums =
      go (gather s.piece.nodes s.piece.basics s.joints s.before s.e.ends s.e.amount (reverse (scenes.steps s)) zeros)
      (inward.gathered s (reverse (scenes.steps s)) [] zeros (inward.onto_reverse (scenes.steps s)) (nothing_made zeros long h) (λ t i. absurd i))
    where
      go : (r : Result (List Ratio) Past) → inward.IsGathered s r → cycling.IsAnswered s (in_row s.e.arc A4 r ▸ close_extra s.piece.nodes s.piece.basics s.joints s.before s.e s.extra sums)
      go (Err past) g = (refl, g)
      go (Ok amounts) g = closed amounts g.0 g.1 sums long_sums s.extra refl

  -- in the words of the answer
  pub answered : (r : Result (List Ratio) Overflow) → cycling.IsAnswered s r → MatchResult r (AreAmounts s.net s.piece s.e s.d) (IsOverflow s.net s.piece s.e s.d)
  answered (Ok found) h = record {
    one_each = h.0.long;
    are = h.0.are;
    rows_fit = λ y i. subst (λ x. FitsRows (ends_at s.net.arcs) s.d (basics_in s.piece) x s.e.arc) (extra_is_unique s.net s.piece (scenes.x s) y s.pulled.in_net (scenes.is_extra s) i) h.1;
    none_given = λ row past g. not_both (ends_at s.net.arcs) (basics_in s.piece) (scenes.x s) (scenes.is_extra s) s.e.arc s.d s.d (λ a i. refl) h.1 row past (subst (λ x. Gives (ends_at s.net.arcs) s.d (basics_in s.piece) x s.e.arc row past) (extra_is_unique s.net s.piece g.0 (scenes.x s) s.pulled.in_net g.1 (scenes.is_extra s)) g.2);
  }
  answered (Err o) h = (h.0, (scenes.x s, scenes.is_extra s, h.1))
