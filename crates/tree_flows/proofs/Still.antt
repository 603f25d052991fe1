-- Where nothing comes to a node, the amount on the arc of a step to it is 0.
use Rattle.std.specs.Prelude.{◌≡◌, ◌<◌, ◌≤◌, ◌+◌, ◌-◌, ℕ, zero, suc, Bool, true, false, List, [], ◌∷◌, length, take, reverse, slice_index, slice_index_or, slice_set, Ok, if◌then◌else◌}
use Rattle.std.proofs.Common.{refl, sym, ap, subst, ◌∙◌, inl, inr, arith, true≢false}
use Rattle.std.proofs.lemmas.List.{get_or-set_same, get_or-set_other, take_more, reverse-append}
use Rattle.np_frac.specs.Ratio.{Ratio, zero_ratio}
use Rattle.np_frac.specs.Order.{tests_true}
use Rattle.np_frac.specs.Exact.{plus_of, ◌▷◌}
use Rattle.np_model.specs.declared.arc.Ends.{Ends}
use Rattle.np_model.specs.Network.Flows.{at}
use Rattle.np_model.specs.Basis.Starts.{touches}
use Rattle.np_model.specs.Rows.Directions.{term, turned}
use Rattle.tree_search.specs.declared.piece.Step.{Step}
use Rattle.tree_search.specs.declared.piece.Joint.{Joint}
use Rattle.tree_search.specs.Places.{numbers_of_nodes, ends_by_place, loose}
use Rattle.tree_search.specs.Search.{JoinsAt}
use Rattle.tree_flows.specs.Along.{AreStill, MarksStep, may_come, has_end, is_zero, in_part, add_place, add_entering, sum_part, amount_of, ending_at, arcs_from}
use Rattle.tree_flows.proofs.Zeros.{add_nothing, turned_nothing, zero_fits}
use Rattle.tree_flows.proofs.Scenes.{end_places}
use Rattle.tree_flows.proofs.Inward.{same_or}

module _ (basics : List (ℕ × Ends × Ratio)) (amounts : List Ratio) (before node : ℕ) (early : Bool) where
  added : (a : ℕ) → at amounts a ≡ zero_ratio → add_place basics amounts before early node a zero_ratio ≡ Ok zero_ratio
  added a e = go (in_part before early a)
    where
      go : (b : Bool) → (if b then (term (ends_by_place basics a) node (at amounts a) ▷ plus_of zero_ratio) else Ok zero_ratio) ≡ Ok zero_ratio
      go true = rw e (add_nothing (ends_by_place basics a) node zero_ratio zero_fits)
      go false = refl

  -- terms of 0 leave a sum of 0
  part : (v i : ℕ) (js : List Joint) → ((k : ℕ) → has_end (slice_index_or js k loose) v ≡ true → k < length js → at amounts (i + k) ≡ zero_ratio)
      → sum_part basics amounts before early node (ending_at v i js) zero_ratio ≡ Ok zero_ratio
  part v i [] h = refl
  part v i (j ∷ js) h =
      go (part v (suc i) js (λ k e l. let m : i + suc k ≡ suc i + k = omega arith in subst (λ n. at amounts n ≡ zero_ratio) m (h (suc k) e (omega arith)))) (has_end j v) refl
    where
      go : sum_part basics amounts before early node (ending_at v (suc i) js) zero_ratio ≡ Ok zero_ratio
          → (b : Bool) → has_end j v ≡ b → sum_part basics amounts before early node (if b then i ∷ ending_at v (suc i) js else ending_at v (suc i) js) zero_ratio ≡ Ok zero_ratio
      go rest true e =
          let m : i + 0 ≡ i = omega arith in
          ap (λ r. r ▷ sum_part basics amounts before early node (ending_at v (suc i) js)) (added i (subst (λ n. at amounts n ≡ zero_ratio) m (h zero e (omega arith)))) ∙ rest
      go rest false e = rest

not_marked : (b c : Bool) → (if b then true else c) ≡ false → (b ≡ false) × (c ≡ false)
not_marked true c e = absurd (true≢false e)
not_marked false c e = (refl, e)

-- where nothing comes, the sum and the amount that settles it are 0
pub nothing_over : (nodes : List (ℕ × Ratio)) (basics : List (ℕ × Ends × Ratio)) (joints : List Joint) (before : ℕ) (ends : Ends) (amount : Ratio) (amounts : List Ratio) (reached : List Bool) (s : Step)
    → AreStill joints amounts reached → may_come nodes ends reached s.far ≡ false → Ok zero_ratio ≡ amount_of nodes basics joints before ends amount amounts s
nothing_over nodes basics joints before ends amount amounts reached s still e =
    sym (ap (λ r. r ▷ add_entering ends amount node ▷ sum_part basics amounts before false node (arcs_from joints s.far 0) ▷ turned (ends_by_place basics s.arc) node) (all true)
    ∙ rw m.1 (ap (λ r. r ▷ turned (ends_by_place basics s.arc) node) (all false) ∙ turned_nothing (ends_by_place basics s.arc) node))
  where
    node : ℕ
    node = slice_index (numbers_of_nodes nodes) s.far

    m : (slice_index_or reached s.far true ≡ false) × (touches ends node ≡ false)
    m = not_marked (slice_index_or reached s.far true) (touches ends node) e

    all : (early : Bool) → sum_part basics amounts before early node (arcs_from joints s.far 0) zero_ratio ≡ Ok zero_ratio
    all early = part basics amounts before node early s.far 0 joints (λ k h l. let n : k ≡ 0 + k = omega arith in subst (λ a. at amounts a ≡ zero_ratio) n (still k s.far h m.0))

-- the marks of a step keep the amounts still where there is none
pub still_after : (joints : List Joint) (amounts : List Ratio) (reached marked : List Bool) (s : Step) (y : Ratio)
    → s.arc < length amounts → JoinsAt joints s.arc s.near s.far → AreStill joints amounts reached → MarksStep reached s y marked → AreStill joints (slice_set amounts s.arc y) marked
still_after joints amounts reached marked s y l joins still marks a v h e = elim (same_or a s.arc) [
  | inl k ↦ subst (λ n. at (slice_set amounts s.arc y) n ≡ zero_ratio) (sym k) (get_or-set_same amounts s.arc y zero_ratio l ∙ nothing (is_zero y) refl (subst (λ n. has_end (slice_index_or joints n loose) v ≡ true) k h))
  | inr k ↦ get_or-set_other amounts s.arc a y zero_ratio k ∙ still a v h (marks v e).0
]
  where
    -- the node is an end of the step's arc
    nothing : (b : Bool) → is_zero y ≡ b → has_end (slice_index_or joints s.arc loose) v ≡ true → y ≡ zero_ratio
    nothing true z g = tests_true y zero_ratio z
    nothing false z g =
        let n = (marks v e).1 z in
        absurd (elim ((end_places (slice_index_or joints s.arc loose) v).0 g) [
          | inl i ↦ elim joins.1 [ inl j ↦ n.0 (sym i ∙ j.0) | inr j ↦ n.1 (sym i ∙ j.0) ]
          | inr i ↦ elim joins.1 [ inl j ↦ n.1 (sym i ∙ j.1) | inr j ↦ n.0 (sym i ∙ j.1) ]
        ])

-- the last of the first n comes first
pub last_first : (xs : List Step) (n : ℕ) (d : Step) → 0 < n → n ≤ length xs → reverse (take n xs) ≡ slice_index_or xs (n - 1) d ∷ reverse (take (n - 1) xs)
last_first xs n d some l =
    let m : n ≡ n - 1 + 1 = omega arith in
    ap (λ k. reverse (take k xs)) m ∙ ap reverse (take_more xs (n - 1) d (omega arith)) ∙ reverse-append (take (n - 1) xs) (slice_index_or xs (n - 1) d ∷ [])
