-- How often nodes stand in pieces; and that the pieces after a pivot have each node as often as those before it.
use Rattle.std.proofs.Common.{◌≡◌, ℕ, ◌≤◌, List, [], ◌∷◌, sym, subst, refl, inl, inr, ⊎_elim, arith}
use mathlib.Core.Logic.{dite}
use native.Mathlib.Decide.{ℕ_discrete}
use lib.ListN.{length-map}
use Rattle.gain_graphs.specs.Arcs.{IsIn, AreDistinct}
use Rattle.np_model.specs.Basis.Pieces.{PieceLists, nodes_in, nodes_of, AreApart}
use Rattle.np_model.specs.Basis.Sound.{IsAfter}
use Rattle.np_model.specs.Network.Flows.{Network}
use Rattle.np_model.specs.declared.log.Entry.{Entry}
use Rattle.tree_table.specs.Weights.{times, once}
use Rattle.tree_table.specs.Slots.{LiesAt, having}
use Rattle.tree_table.proofs.Sums.{weigh-append, once-same, once-other, has_least}

-- the least node of a piece is one of its nodes
pub least_stands : (k : ℕ) (piece : PieceLists) → LiesAt k piece → 1 ≤ times k (nodes_in piece)
least_stands k piece lies = has_least k (nodes_in piece) lies.0 (let e = length-map piece.nodes (λ (n : ℕ × _). n.0) in let h = lies.1 in omega arith)

-- a number stands in a list where it is counted
pub stands_in : (v : ℕ) (xs : List ℕ) → 1 ≤ times v xs → IsIn v xs
stands_in v [] h = absurd (omega arith)
stands_in v (x ∷ xs) h =
    dite (ℕ_discrete v x)
    (λ e. inl e)
    (λ n. inr (stands_in v xs (let z : once v x ≡ 0 = once-other v x (λ e. n (sym e)) in omega arith)))

pub in_stands : (v : ℕ) (xs : List ℕ) → IsIn v xs → 1 ≤ times v xs
in_stands v [] h = absurd h
in_stands v (x ∷ xs) h =
    ⊎_elim
    (λ (e : v ≡ x). let o : once v x ≡ 1 = subst (λ (y : ℕ). once v y ≡ 1) e (once-same v) in omega arith)
    (λ (later : IsIn v xs). let a = in_stands v xs later in omega arith)
    h

-- and at most once where no number stands twice
pub stands_once : (v : ℕ) (xs : List ℕ) → AreDistinct xs → times v xs ≤ 1
stands_once v [] apart = omega arith
stands_once v (x ∷ xs) apart =
    dite (ℕ_discrete v x)
    (λ e.
    let o : once v x ≡ 1 = subst (λ (y : ℕ). once v y ≡ 1) e (once-same v) in
    let none : ¬ (1 ≤ times v xs) = λ h. apart.0 (subst (λ (y : ℕ). IsIn y xs) e (stands_in v xs h)) in omega (arith, none))
    (λ n. let z : once v x ≡ 0 = once-other v x (λ e. n (sym e)) in let a = stands_once v xs apart.1 in omega arith)

-- nodes counted piece by piece
pub having_all : (v : ℕ) (pieces : List PieceLists) → having v pieces ≡ times v (nodes_of pieces)
having_all v [] = refl
having_all v (p ∷ ps) = let a = weigh-append (once v) (nodes_in p) (nodes_of ps) in let b = having_all v ps in omega arith

pub apart_once : (pieces : List PieceLists) → AreApart pieces → (v : ℕ) → having v pieces ≤ 1
apart_once pieces apart v = let a = having_all v pieces in let b = stands_once v (nodes_of pieces) apart in omega arith

-- two lists of distinct numbers with the same members
same_times : (v : ℕ) (xs ys : List ℕ) → AreDistinct xs → AreDistinct ys → (IsIn v xs → IsIn v ys) → (IsIn v ys → IsIn v xs) → times v xs ≡ times v ys
same_times v xs ys one other to from =
    let a = stands_once v xs one in
    let b = stands_once v ys other in
    dite (ℕ_discrete (times v xs) 0)
    (λ none. dite (ℕ_discrete (times v ys) 0)
    (λ neither. omega (arith, none, neither))
    (λ some_there. let c = in_stands v xs (from (stands_in v ys (let z = some_there in omega arith))) in omega arith))
    (λ some_here. let c = in_stands v ys (to (stands_in v xs (let z = some_here in omega arith))) in omega arith)

pub same_nodes : (net : Network) (real : ℕ) (before : List PieceLists) (entry : Entry) (after : List PieceLists) → IsAfter net real before entry after
    → (v : ℕ) → having v after ≡ having v before
same_nodes net real before entry after h v =
    let a = having_all v before in
    let b = having_all v after in
    let c = same_times v (nodes_of before) (nodes_of after) h.sound.apart h.sound_after.apart (h.same_nodes v).0 (h.same_nodes v).1 in omega arith
