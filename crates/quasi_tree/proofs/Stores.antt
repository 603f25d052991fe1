-- What the lists of a piece say beside a number, and that they keep their shape when a value beside a number changes.
use Rattle.std.specs.Prelude.{◌≡◌, ◌≢◌, ◌⊎◌, ◌↔◌, ℕ, ◌+◌, ◌<◌, ◌==◌, true, false, zero, suc, if◌then◌else◌, Option, Some, None, is_some, List, [], ◌∷◌, ◌++◌, length, map}
use Rattle.std.specs.List.{zip}
use Rattle.std.specs.List.Sorted.{IsStrictlyIncreasing}
use Rattle.std.proofs.lemmas.Slice.Zip.{length-zip, get_or-zip}
use Rattle.std.proofs.Common.{refl, sym, ap, subst, ◌∙◌, inl, inr, arith, get_or, set}
use Rattle.std.proofs.Math.Seq.{map-set_same}
use Rattle.std.proofs.lemmas.Bool.{cases_eq}
use Rattle.std.proofs.lemmas.Bool.Decides.{nat_tests}
use Rattle.std.proofs.lemmas.List.{length-map, get_or-map, ext_get_or, get_or-set_same, get_or-set_other, length-set}
use Rattle.gain_graphs.specs.Arcs.{IsIn}
use Rattle.gain_graphs.specs.QuasiTrees.{IsQuasiTree}
use Rattle.np_frac.specs.Ratio.{Ratio, zero_ratio}
use Rattle.np_model.specs.declared.arc.Ends.{Ends}
use Rattle.np_model.specs.declared.log.Mark.{Mark}
use Rattle.np_model.specs.declared.log.Mark.TheVariants.{Lower, Basic}
use Rattle.np_model.specs.Basis.Graphs.{ratios, graph_ends}
use Rattle.np_model.specs.Basis.Pieces.{PieceLists, nodes_in, basics_in, ends_in, marked_in, beside, marks_of, flows_of, HasShape, IsStored}
use Rattle.quasi_tree.specs.Store.{IsHeld, with_potential, with_potentials, with_flow, with_mark}
use Rattle.quasi_tree.specs.Place.{IsPlace}
use Rattle.quasi_tree.proofs.Places.{rise, one_place, is_in_at}

-- ---- what stands beside a number

-- the entry at a place of a list with ascending numbers is what stands beside its number
pub beside_at : {A : Type 0} (other : A) (xs : List (ℕ × A)) (i k : ℕ) (d : ℕ × A) → IsStrictlyIncreasing (map (λ x. x.0) xs) → i < length xs
    → (get_or xs i d).0 ≡ k → beside other xs k ≡ (get_or xs i d).1
beside_at {A} other xs i k d ascend below here = go xs i below here (λ j before. let up = rise (λ (x : ℕ × A). x.0) xs ascend j i d before below in omega (arith, up, here))
  where
    go : (ys : List (ℕ × A)) (j : ℕ) → j < length ys → (get_or ys j d).0 ≡ k → ((h : ℕ) → h < j → (get_or ys h d).0 < k) → beside other ys k ≡ (get_or ys j d).1
    go [] j under is others = absurd (omega arith)
    go (y ∷ ys) zero under is others = let same : (k == y.0) ≡ true = grind (arith, nat_tests, is) in rw same refl
    go (y ∷ ys) (suc j) under is others =
        let first = others 0 (omega arith) in
        let differ : (k == y.0) ≡ false = grind (arith, nat_tests, first) in
        rw differ (go ys j (omega arith) is (λ h before. others (suc h) (omega arith)))

-- beyond a list that does not have the number
pub beside_beyond : {A : Type 0} (other : A) (xs ys : List (ℕ × A)) (k : ℕ) → (¬ IsIn k (map (λ x. x.0) xs)) → beside other (xs ++ ys) k ≡ beside other ys k
beside_beyond other [] ys k none = refl
beside_beyond other (x ∷ xs) ys k none =
    let differ : (k == x.0) ≡ false = grind (arith, nat_tests, λ (e : k ≡ x.0). none (inl e)) in
    rw differ (beside_beyond other xs ys k (λ is_in. none (inr is_in)))

-- all basic arcs are marked so
pub basic_is : (p : PieceLists) (arc : ℕ) → IsIn arc (basics_in p) → Basic ≡ beside Lower (marks_of p) arc
basic_is p arc is_in = sym (go p.basics is_in)
  where
    go : (bs : List (ℕ × Ends × Ratio)) → IsIn arc (map (λ (b : ℕ × Ends × Ratio). b.0) bs)
        → beside Lower (map (λ (b : ℕ × Ends × Ratio). (b.0, Basic)) bs ++ p.marks) arc ≡ Basic
    go [] none = absurd none
    go (b ∷ bs) (inl e) = let same : (arc == b.0) ≡ true = grind (arith, nat_tests, e) in rw same refl
    go (b ∷ bs) (inr later) = elim (cases_eq arc b.0) [
      | inl e ↦ let same : (arc == b.0) ≡ true = grind (arith, nat_tests, e) in rw same refl
      | inr d ↦ let differ : (arc == b.0) ≡ false = grind (arith, nat_tests, d) in rw differ (go bs later)
    ]

-- ---- another value beside a number

-- in a list with ascending numbers only the entry at the place of the number changes
pub put_at : {A : Type 0} (number : A → ℕ) (change : A → A) (xs : List A) (i k : ℕ) (y d : A) → IsStrictlyIncreasing (map number xs) → i < length xs
    → number (get_or xs i d) ≡ k → y ≡ change (get_or xs i d) → set xs i y ≡ map (λ x. if number x == k then change x else x) xs
put_at {A} number change xs i k y d ascend below here is =
    ext_get_or d (set xs i y) (map (λ x. if number x == k then change x else x) xs) (length-set xs i y ∙ sym (length-map xs (λ x. if number x == k then change x else x)))
    (λ j under. each j (omega (arith, length-set xs i y)))
  where
    each : (j : ℕ) → j < length xs → get_or (set xs i y) j d ≡ get_or (map (λ x. if number x == k then change x else x) xs) j d
    each j under =
        let mapped : get_or (map (λ x. if number x == k then change x else x) xs) j d ≡ (if number (get_or xs j d) == k then change (get_or xs j d) else get_or xs j d) =
        get_or-map (λ x. if number x == k then change x else x) xs j d d under in
        elim (cases_eq j i) [
          | inl e ↦
              let test : (number (get_or xs j d) == k) ≡ true = rw e (grind (arith, nat_tests, here)) in
              rw (mapped, test) (rw e (get_or-set_same xs i y d below ∙ is))
          | inr differ ↦
              let apart : number (get_or xs j d) ≢ k = λ same. differ (one_place number xs ascend j i d under below (same ∙ sym here)) in
              let test : (number (get_or xs j d) == k) ≡ false = grind (arith, nat_tests, apart) in
              rw (mapped, test) (get_or-set_other xs i j y d differ)
        ]

-- ---- shape

-- the shape is that of the numbers and the ends
pub same_shape : (p q : PieceLists) → nodes_in q ≡ nodes_in p → basics_in q ≡ basics_in p → ends_in q ≡ ends_in p → marked_in q ≡ marked_in p
    → ((m : ℕ × Mark) → IsIn m q.marks → m.1 ≢ Basic) → HasShape p → HasShape q
same_shape p q nodes basics ends marked bounds shape = record {
  nodes_ascend = subst (λ t. IsStrictlyIncreasing t) (sym nodes) shape.nodes_ascend;
  basics_ascend = subst (λ t. IsStrictlyIncreasing t) (sym basics) shape.basics_ascend;
  marks_ascend = subst (λ t. IsStrictlyIncreasing t) (sym marked) shape.marks_ascend;
  quasi_tree = subst (λ t. IsQuasiTree ratios t (map graph_ends (ends_in q))) (sym nodes) (subst (λ t. IsQuasiTree ratios (nodes_in p) (map graph_ends t)) (sym ends) shape.quasi_tree);
  others = λ a in_marks in_basics. shape.others a (subst (λ t. IsIn a t) marked in_marks) (subst (λ t. IsIn a t) basics in_basics);
  at_bounds = bounds;
}

-- an entry of a list with one entry replaced
pub in_set : {A : Type 0} (xs : List A) (i : ℕ) (y x : A) → IsIn x (set xs i y) → (x ≡ y) ⊎ IsIn x xs
in_set [] i y x is_in = absurd is_in
in_set (z ∷ xs) zero y x (inl e) = inl e
in_set (z ∷ xs) zero y x (inr later) = inr (inr later)
in_set (z ∷ xs) (suc i) y x (inl e) = inr (inl e)
in_set (z ∷ xs) (suc i) y x (inr later) = elim (in_set xs i y x later) [
  | inl e ↦ inl e
  | inr before ↦ inr (inr before)
]

-- a store that holds a node or an arc holds a piece
pub shape_of : (p : PieceLists) → 0 < length p.nodes + length p.basics + length p.marks → IsStored p → HasShape p
shape_of p some (inl vacant) = absurd (omega (arith, some, ap length vacant.no_nodes, ap length vacant.no_basics, ap length vacant.no_marks))
shape_of p some (inr shape) = shape

-- ---- a store with another potential, flow or mark at a place

module _ (p : PieceLists) (held : IsHeld p) (i : ℕ) where
  pub held_node : (node : ℕ) (value : Ratio) (d : ℕ × Ratio) → i < length p.nodes → (get_or p.nodes i d).0 ≡ node
      → IsHeld (record { nodes = set p.nodes i (node, value); basics = p.basics; marks = p.marks })
  held_node node value d below here =
      let q : PieceLists = record { nodes = set p.nodes i (node, value); basics = p.basics; marks = p.marks } in
      let shape = shape_of p (omega arith) held.stored in
      let nodes : nodes_in q ≡ nodes_in p = map-set_same (λ (n : ℕ × Ratio). n.0) p.nodes i (node, value) d (sym here) in
      record {
        stored = inr (same_shape p q nodes refl refl refl shape.at_bounds shape);
        few_nodes = omega (arith, length-set p.nodes i (node, value), held.few_nodes);
        few_basics = held.few_basics;
        few_marks = held.few_marks;
      }

  pub held_flow : (old : ℕ × Ends × Ratio) (value : Ratio) (d : ℕ × Ends × Ratio) → i < length p.basics → old ≡ get_or p.basics i d
      → IsHeld (record { nodes = p.nodes; basics = set p.basics i (old.0, old.1, value); marks = p.marks })
  held_flow old value d below here =
      let q : PieceLists = record { nodes = p.nodes; basics = set p.basics i (old.0, old.1, value); marks = p.marks } in
      let shape = shape_of p (omega arith) held.stored in
      let numbers : basics_in q ≡ basics_in p = map-set_same (λ (b : ℕ × Ends × Ratio). b.0) p.basics i (old.0, old.1, value) d (ap (λ (b : ℕ × Ends × Ratio). b.0) here) in
      let ends : ends_in q ≡ ends_in p = map-set_same (λ (b : ℕ × Ends × Ratio). b.1) p.basics i (old.0, old.1, value) d (ap (λ (b : ℕ × Ends × Ratio). b.1) here) in
      record {
        stored = inr (same_shape p q refl numbers ends refl shape.at_bounds shape);
        few_nodes = held.few_nodes;
        few_basics = omega (arith, length-set p.basics i (old.0, old.1, value), held.few_basics);
        few_marks = held.few_marks;
      }

  pub held_mark : (arc : ℕ) (mark : Mark) (d : ℕ × Mark) → mark ≢ Basic → i < length p.marks → (get_or p.marks i d).0 ≡ arc
      → IsHeld (record { nodes = p.nodes; basics = p.basics; marks = set p.marks i (arc, mark) })
  held_mark arc mark d bound below here =
      let q : PieceLists = record { nodes = p.nodes; basics = p.basics; marks = set p.marks i (arc, mark) } in
      let shape = shape_of p (omega arith) held.stored in
      let marked : marked_in q ≡ marked_in p = map-set_same (λ (m : ℕ × Mark). m.0) p.marks i (arc, mark) d (sym here) in
      record {
        stored = inr (same_shape p q refl refl refl marked (λ m is_in. elim (in_set p.marks i (arc, mark) m is_in) [
          | inl e ↦ subst (λ (k : ℕ × Mark). k.1 ≢ Basic) (sym e) bound
          | inr before ↦ shape.at_bounds m before
        ]) shape);
        few_nodes = held.few_nodes;
        few_basics = held.few_basics;
        few_marks = omega (arith, length-set p.marks i (arc, mark), held.few_marks);
      }

-- ---- what a look-up finds

-- a place is found exactly where the number stands
pub found_is : {A : Type 0} (number : A → ℕ) (xs : List A) (k : ℕ) (place : Option ℕ) → A → IsPlace number xs k place → (is_some place ≡ true) ↔ IsIn k (map number xs)
found_is number xs k None d none = ((λ e. absurd (cc e)), λ is_in. absurd (none is_in))
found_is number xs k (Some i) d (below, here) = ((λ e. subst (λ n. IsIn n (map number xs)) (here d) (is_in_at number xs i d below)), λ is_in. refl)

flow_numbers : (bs : List (ℕ × Ends × Ratio)) → map (λ (x : ℕ × Ratio). x.0) (map (λ (b : ℕ × Ends × Ratio). (b.0, b.2)) bs) ≡ map (λ (b : ℕ × Ends × Ratio). b.0) bs
flow_numbers [] = refl
flow_numbers (b ∷ bs) = ap (λ (t : List ℕ). b.0 ∷ t) (flow_numbers bs)

basic_numbers : (bs : List (ℕ × Ends × Ratio)) → map (λ (x : ℕ × Mark). x.0) (map (λ (b : ℕ × Ends × Ratio). (b.0, Basic)) bs) ≡ map (λ (b : ℕ × Ends × Ratio). b.0) bs
basic_numbers [] = refl
basic_numbers (b ∷ bs) = ap (λ (t : List ℕ). b.0 ∷ t) (basic_numbers bs)

-- and then they are what they become with that value
module _ (p : PieceLists) (held : IsHeld p) (i : ℕ) where
  pub put_node : (node : ℕ) (value : Ratio) (d : ℕ × Ratio) → i < length p.nodes → (get_or p.nodes i d).0 ≡ node
      → record { nodes = set p.nodes i (node, value); basics = p.basics; marks = p.marks } ≡ with_potential p node value
  put_node node value d below here =
      let shape = shape_of p (omega arith) held.stored in
      ap (λ t. record { nodes = t; basics = p.basics; marks = p.marks })
      (put_at (λ (n : ℕ × Ratio). n.0) (λ n. (node, value)) p.nodes i node (node, value) d shape.nodes_ascend below here refl)

  pub put_flow : (arc : ℕ) (old : ℕ × Ends × Ratio) (value : Ratio) (d : ℕ × Ends × Ratio) → i < length p.basics → (get_or p.basics i d).0 ≡ arc → old ≡ get_or p.basics i d
      → record { nodes = p.nodes; basics = set p.basics i (old.0, old.1, value); marks = p.marks } ≡ with_flow p arc value
  put_flow arc old value d below here is =
      let shape = shape_of p (omega arith) held.stored in
      let number : old.0 ≡ arc = ap (λ (b : ℕ × Ends × Ratio). b.0) is ∙ here in
      ap (λ t. record { nodes = p.nodes; basics = t; marks = p.marks })
      (put_at (λ (b : ℕ × Ends × Ratio). b.0) (λ b. (arc, b.1, value)) p.basics i arc (old.0, old.1, value) d shape.basics_ascend below here
      (rw (number, ← is) refl))

  pub put_mark : (arc : ℕ) (mark : Mark) (d : ℕ × Mark) → i < length p.marks → (get_or p.marks i d).0 ≡ arc
      → record { nodes = p.nodes; basics = p.basics; marks = set p.marks i (arc, mark) } ≡ with_mark p arc mark
  put_mark arc mark d below here =
      let shape = shape_of p (omega arith) held.stored in
      ap (λ t. record { nodes = p.nodes; basics = p.basics; marks = t })
      (put_at (λ (m : ℕ × Mark). m.0) (λ m. (arc, mark)) p.marks i arc (arc, mark) d shape.marks_ascend below here refl)

  -- the values that stand beside numbers
  pub potential_is : (node : ℕ) (other : Ratio) (d : ℕ × Ratio) → i < length p.nodes → (get_or p.nodes i d).0 ≡ node → (get_or p.nodes i d).1 ≡ beside other p.nodes node
  potential_is node other d below here =
      let shape = shape_of p (omega arith) held.stored in
      sym (beside_at other p.nodes i node d shape.nodes_ascend below here)

  pub flow_is : (arc : ℕ) (other : Ratio) (d : ℕ × Ends × Ratio) → i < length p.basics → (get_or p.basics i d).0 ≡ arc → (get_or p.basics i d).2 ≡ beside other (flows_of p) arc
  flow_is arc other d below here =
      let shape = shape_of p (omega arith) held.stored in
      let pair : ℕ × Ends × Ratio → ℕ × Ratio = λ b. (b.0, b.2) in
      let there : get_or (flows_of p) i (pair d) ≡ pair (get_or p.basics i d) = get_or-map pair p.basics i d (pair d) below in
      sym (beside_at other (flows_of p) i arc (pair d) (subst (λ t. IsStrictlyIncreasing t) (sym (flow_numbers p.basics)) shape.basics_ascend)
      (omega (arith, length-map p.basics pair)) (ap (λ (x : ℕ × Ratio). x.0) there ∙ here)
      ∙ ap (λ (x : ℕ × Ratio). x.1) there)

  -- the mark of an arc outside the basis
  pub mark_is : (arc : ℕ) (d : ℕ × Mark) → (¬ IsIn arc (basics_in p)) → i < length p.marks → (get_or p.marks i d).0 ≡ arc → (get_or p.marks i d).1 ≡ beside Lower (marks_of p) arc
  mark_is arc d none below here =
      let shape = shape_of p (omega arith) held.stored in
      sym (beside_beyond Lower (map (λ (b : ℕ × Ends × Ratio). (b.0, Basic)) p.basics) p.marks arc (λ is_in. none (subst (λ t. IsIn arc t) (basic_numbers p.basics) is_in))
      ∙ beside_at Lower p.marks i arc d shape.marks_ascend below here)

-- ---- other values beside all numbers

pub put_all : (old new : List (ℕ × Ratio)) (values : List Ratio) → length values ≡ length old → length new ≡ length old
    → ((i : ℕ) (d : ℕ × Ratio) → i < length old → get_or new i d ≡ ((get_or old i d).0, get_or values i zero_ratio)) → new ≡ zip (map (λ n. n.0) old) values
put_all old new values long same each =
    ext_get_or (0, zero_ratio) new (zip (map (λ (n : ℕ × Ratio). n.0) old) values)
    (omega (arith, length-zip (map (λ (n : ℕ × Ratio). n.0) old) values, length-map old (λ (n : ℕ × Ratio). n.0)))
    (λ i below.
    let in_old : i < length old = omega (arith, same) in
    each i (0, zero_ratio) in_old
    ∙ ap (λ (n : ℕ). (n, get_or values i zero_ratio)) (sym (get_or-map (λ (n : ℕ × Ratio). n.0) old i (0, zero_ratio) 0 in_old))
    ∙ sym (get_or-zip (map (λ (n : ℕ × Ratio). n.0) old) values i (0, zero_ratio) (omega (arith, length-map old (λ (n : ℕ × Ratio). n.0))) (omega (arith, long))))

-- a store with other potentials
pub held_nodes : (p : PieceLists) (values : List Ratio) → length values ≡ length p.nodes → IsHeld p → IsHeld (with_potentials p values)
held_nodes p values long held =
    let q : PieceLists = with_potentials p values in
    let count : length q.nodes ≡ length p.nodes = omega (arith, length-zip (nodes_in p) values, length-map p.nodes (λ (n : ℕ × Ratio). n.0)) in
    record {
      stored = elim held.stored [
        | inl vacant ↦ inl (record { no_nodes = no_zip vacant.no_nodes; no_basics = vacant.no_basics; no_marks = vacant.no_marks })
        | inr shape ↦ inr (same_shape p q (numbers p.nodes values long) refl refl refl shape.at_bounds shape)
      ];
      few_nodes = omega (arith, count, held.few_nodes);
      few_basics = held.few_basics;
      few_marks = held.few_marks;
    }
  where
    no_zip : p.nodes ≡ [] → zip (nodes_in p) values ≡ []
    no_zip e = ap (λ (t : List (ℕ × Ratio)). zip (map (λ (n : ℕ × Ratio). n.0) t) values) e

    numbers : (ns : List (ℕ × Ratio)) (xs : List Ratio) → length xs ≡ length ns → map (λ (n : ℕ × Ratio). n.0) (zip (map (λ (n : ℕ × Ratio). n.0) ns) xs) ≡ map (λ (n : ℕ × Ratio). n.0) ns
    numbers [] [] e = refl
    numbers [] (x ∷ xs) e = absurd (omega arith)
    numbers (n ∷ ns) [] e = absurd (omega arith)
    numbers (n ∷ ns) (x ∷ xs) e = ap (λ (t : List ℕ). n.0 ∷ t) (numbers ns xs (omega arith))
