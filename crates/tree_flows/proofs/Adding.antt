-- The arcs whose terms are added at a node, by places and by numbers.
use Rattle.std.specs.Prelude.{◌≡◌, ◌≢◌, ◌⊎◌, ◌<◌, ◌≤◌, ◌+◌, ◌-◌, ◌&&◌, ℕ, nat_eq, zero, suc, Bool, true, false, List, [], ◌∷◌, ◌++◌, length, drop, slice_index_or, if◌then◌else◌, Result, Ok, Err}
use Rattle.std.proofs.Common.{refl, sym, ap, ap₂, subst, ◌∙◌, inl, inr, arith, eqb-true, eq-eqb, true≢false, get_or, ltb-true, lt-ltb, leb-true, le-leb}
use Rattle.std.proofs.Math.Seq.{drop-cons}
use Rattle.gain_graphs.specs.Arcs.{IsIn, Touches}
use Rattle.gain_graphs.proofs.Lists.{in_front, in_back, in_append}
use Rattle.np_basis.proofs.Ascending.{Ascends, rises}
use Rattle.np_frac.specs.Ratio.{Ratio, zero_ratio}
use Rattle.np_frac.specs.Fits.{Fits}
use Rattle.np_frac.specs.Exact.{plus_of, ◌▷◌}
use Rattle.np_frac.specs.declared.frac.Past.{Past}
use Rattle.np_frac.proofs.Fitting.{plus_fits}
use Rattle.np_frac.proofs.Exactness.{found_by}
use Rattle.np_model.specs.declared.arc.Ends.{Ends}
use Rattle.np_model.specs.Network.Flows.{at}
use Rattle.np_model.specs.Basis.Graphs.{graph_ends, graph_of}
use Rattle.np_model.specs.Basis.Starts.{touches}
use Rattle.np_model.specs.Rows.Directions.{term, sum_at, IsAddedAt, AreAddedAt}
use Rattle.tree_search.specs.declared.piece.Step.{Step}
use Rattle.tree_search.specs.declared.piece.Joint.{Joint}
use Rattle.tree_search.specs.Places.{number_by_place, ends_by_place, loose}
use Rattle.np_model.specs.Basis.Pieces.{nodes_in}
use Rattle.tree_search.specs.Search.{TouchesAt, IsFirstFrom}
use Rattle.tree_search.specs.Outwards.{IsStepOver}
use Rattle.tree_search.proofs.Trees as places
use Rattle.tree_flows.specs.Along.{IsWithin, has_end, ending_at, arcs_from, in_part, sum_part, add_entering, sum_of}
use Rattle.tree_flows.proofs.Zeros.{add_nothing, zero_fits}
use Rattle.tree_flows.proofs.Coefficients.{touch_true, true_touch, joins_touches}
use Rattle.np_frac.proofs.Results.{same_when, then_then}
use Rattle.tree_flows.proofs.Scenes as scenes
use Rattle.tree_flows.proofs.Scenes.{Scene, end_places}

-- ---- running over the arcs at a node

here : (joints : List Joint) (v c : ℕ) → c < length joints → TouchesAt joints c v → arcs_from joints v c ≡ c ∷ arcs_from joints v (suc c)
here joints v c h t =
    ap (ending_at v c) (drop-cons joints c loose h)
    ∙ ap (λ b. if b then c ∷ ending_at v (suc c) (drop (suc c) joints) else ending_at v (suc c) (drop (suc c) joints)) ((end_places (get_or joints c loose) v).1 t)

past : (joints : List Joint) (v i : ℕ) → i < length joints → (TouchesAt joints i v → ⊥) → arcs_from joints v i ≡ arcs_from joints v (suc i)
past joints v i h n =
    ap (ending_at v i) (drop-cons joints i loose h)
    ∙ ap (λ b. if b then i ∷ ending_at v (suc i) (drop (suc i) joints) else ending_at v (suc i) (drop (suc i) joints)) (not_end (has_end (get_or joints i loose) v) refl)
  where
    not_end : (b : Bool) → has_end (get_or joints i loose) v ≡ b → has_end (get_or joints i loose) v ≡ false
    not_end true e = absurd (n ((end_places (get_or joints i loose) v).0 e))
    not_end false e = e

drop_all : {A : Type 0} (xs : List A) (n : ℕ) → length xs ≤ n → drop n xs ≡ []
drop_all [] zero h = refl
drop_all [] (suc n) h = refl
drop_all (x ∷ xs) zero h = absurd (omega arith)
drop_all (x ∷ xs) (suc n) h = drop_all xs n (omega arith)

pub none : (joints : List Joint) (v i : ℕ) → length joints ≤ i → arcs_from joints v i ≡ []
none joints v i h = ap (ending_at v i) (drop_all joints i h)

skip_to : (joints : List Joint) (v k i c : ℕ) → i + k ≡ c → c ≤ length joints → ((a : ℕ) → i ≤ a → a < c → ¬ TouchesAt joints a v) → arcs_from joints v i ≡ arcs_from joints v c
skip_to joints v zero i c e h n = ap (arcs_from joints v) (let m : i ≡ c = omega arith in m)
skip_to joints v (suc k) i c e h n = past joints v i (omega arith) (n i (omega arith) (omega arith)) ∙ skip_to joints v k (suc i) c (omega arith) h (λ a l m. n a (omega arith) m)

pub first_is : (joints : List Joint) (v i c : ℕ) → IsFirstFrom joints v i c → arcs_from joints v i ≡ arcs_from joints v c
first_is joints v i c f = skip_to joints v (c - i) i c (omega (arith, f.above)) f.within f.least

pub next_is : (joints : List Joint) (v a c : ℕ) → a < length joints → TouchesAt joints a v → IsFirstFrom joints v (suc a) c → arcs_from joints v a ≡ a ∷ arcs_from joints v c
next_is joints v a c h t f = here joints v a h t ∙ ap (λ l. a ∷ l) (first_is joints v (suc a) c f)

-- ---- which these are

ending_of : (v i : ℕ) (js : List Joint) (a : ℕ) → IsIn a (ending_at v i js) → (k : ℕ) × (a ≡ i + k) × (k < length js) × (has_end (get_or js k loose) v ≡ true)
ending_of v i [] a m = absurd m
ending_of v i (j ∷ js) a m = go (ending_of v (suc i) js a) (has_end j v) refl m
  where
    later : (k : ℕ) × (a ≡ suc i + k) × (k < length js) × (has_end (get_or js k loose) v ≡ true) → (k : ℕ) × (a ≡ i + k) × (k < length (j ∷ js)) × (has_end (get_or (j ∷ js) k loose) v ≡ true)
    later r = (suc r.0, omega (arith, r.1), omega (arith, r.2), r.3)

    go : (IsIn a (ending_at v (suc i) js) → (k : ℕ) × (a ≡ suc i + k) × (k < length js) × (has_end (get_or js k loose) v ≡ true)) → (b : Bool) → has_end j v ≡ b
        → IsIn a (if b then i ∷ ending_at v (suc i) js else ending_at v (suc i) js) → (k : ℕ) × (a ≡ i + k) × (k < length (j ∷ js)) × (has_end (get_or (j ∷ js) k loose) v ≡ true)
    go ih true e (inl h) = (zero, omega (arith, h), omega arith, e)
    go ih true e (inr h) = later (ih h)
    go ih false e h = later (ih h)

of_ending : (v i k : ℕ) (js : List Joint) → k < length js → has_end (get_or js k loose) v ≡ true → IsIn (i + k) (ending_at v i js)
of_ending v i k [] h t = absurd (omega arith)
of_ending v i zero (j ∷ js) h t = subst (λ b. IsIn (i + 0) (if b then i ∷ ending_at v (suc i) js else ending_at v (suc i) js)) (sym t) (inl (omega arith))
of_ending v i (suc k) (j ∷ js) h t = go (subst (λ n. IsIn n (ending_at v (suc i) js)) (let e : suc i + k ≡ i + suc k = omega arith in e) (of_ending v (suc i) k js (omega arith) t)) (has_end j v)
  where
    go : IsIn (i + suc k) (ending_at v (suc i) js) → (b : Bool) → IsIn (i + suc k) (if b then i ∷ ending_at v (suc i) js else ending_at v (suc i) js)
    go rest true = inr rest
    go rest false = rest

ending_up : (v i : ℕ) (js : List Joint) → Ascends (ending_at v i js)
ending_up v i [] = record {}
ending_up v i (j ∷ js) = go (ending_up v (suc i) js) (has_end j v)
  where
    go : Ascends (ending_at v (suc i) js) → (b : Bool) → Ascends (if b then i ∷ ending_at v (suc i) js else ending_at v (suc i) js)
    go rest true = ((λ b m. let r = ending_of v (suc i) js b m in omega (arith, r.1)), rest)
    go rest false = rest

-- ---- some of them, by numbers

-- the arc at this place is left from the node at this place
abbrev pub leads_from : List Step → ℕ → ℕ → Bool
leads_from [] p a = false
leads_from (t ∷ steps) p a = if nat_eq t.arc a && nat_eq t.near p then true else leads_from steps p a

both : (a b : Bool) → (a && b) ≡ true → (a ≡ true) × (b ≡ true)
both true true e = (refl, refl)
both true false e = absurd (true≢false (sym e))
both false b e = absurd (true≢false (sym e))

pub leads_so : (steps : List Step) (p a : ℕ) → leads_from steps p a ≡ true → (t : Step) × IsIn t steps × (t.arc ≡ a) × (t.near ≡ p)
leads_so [] p a e = absurd (true≢false (sym e))
leads_so (t ∷ steps) p a e = go (leads_so steps p a) (nat_eq t.arc a && nat_eq t.near p) refl e
  where
    go : (leads_from steps p a ≡ true → (u : Step) × IsIn u steps × (u.arc ≡ a) × (u.near ≡ p)) → (b : Bool) → (nat_eq t.arc a && nat_eq t.near p) ≡ b
        → (if b then true else leads_from steps p a) ≡ true → (u : Step) × IsIn u (t ∷ steps) × (u.arc ≡ a) × (u.near ≡ p)
    go ih true f h = let r = both (nat_eq t.arc a) (nat_eq t.near p) f in (t, inl refl, eqb-true t.arc a r.0, eqb-true t.near p r.1)
    go ih false f h = let r = ih h in (r.0, inr r.1, r.2, r.3)

pub leads_is : (steps : List Step) (p a : ℕ) (t : Step) → IsIn t steps → t.arc ≡ a → t.near ≡ p → leads_from steps p a ≡ true
leads_is [] p a t i e f = absurd i
leads_is (u ∷ steps) p a t (inl k) e f =
    rw (eq-eqb u.arc a (ap (λ (z : Step). z.arc) (sym k) ∙ e), eq-eqb u.near p (ap (λ (z : Step). z.near) (sym k) ∙ f)) refl
leads_is (u ∷ steps) p a t (inr i) e f = go (nat_eq u.arc a && nat_eq u.near p) (leads_is steps p a t i e f)
  where
    go : (b : Bool) → leads_from steps p a ≡ true → (if b then true else leads_from steps p a) ≡ true
    go true h = refl
    go false h = h

-- the numbers of those places that pass a test
abbrev pub chosen : List (ℕ × Ends × Ratio) → (ℕ → Bool) → List ℕ → List ℕ
chosen basics test [] = []
chosen basics test (a ∷ l) = if test a then number_by_place basics a ∷ chosen basics test l else chosen basics test l

chosen_of : (basics : List (ℕ × Ends × Ratio)) (test : ℕ → Bool) (l : List ℕ) (b : ℕ) → IsIn b (chosen basics test l) → (a : ℕ) × IsIn a l × (test a ≡ true) × (b ≡ number_by_place basics a)
chosen_of basics test [] b i = absurd i
chosen_of basics test (a ∷ l) b i = go (chosen_of basics test l b) (test a) refl i
  where
    later : (c : ℕ) × IsIn c l × (test c ≡ true) × (b ≡ number_by_place basics c) → (c : ℕ) × IsIn c (a ∷ l) × (test c ≡ true) × (b ≡ number_by_place basics c)
    later r = (r.0, inr r.1, r.2, r.3)

    go : (IsIn b (chosen basics test l) → (c : ℕ) × IsIn c l × (test c ≡ true) × (b ≡ number_by_place basics c)) → (t : Bool) → test a ≡ t
        → IsIn b (if t then number_by_place basics a ∷ chosen basics test l else chosen basics test l) → (c : ℕ) × IsIn c (a ∷ l) × (test c ≡ true) × (b ≡ number_by_place basics c)
    go ih true e (inl h) = (a, inl refl, e, h)
    go ih true e (inr h) = later (ih h)
    go ih false e h = later (ih h)

of_chosen : (basics : List (ℕ × Ends × Ratio)) (test : ℕ → Bool) (l : List ℕ) (a : ℕ) → IsIn a l → test a ≡ true → IsIn (number_by_place basics a) (chosen basics test l)
of_chosen basics test [] a i n = i
of_chosen basics test (c ∷ l) a i n = go (λ h. of_chosen basics test l a h n) (test c) refl i
  where
    go : (IsIn a l → IsIn (number_by_place basics a) (chosen basics test l)) → (t : Bool) → test c ≡ t → IsIn a (c ∷ l)
        → IsIn (number_by_place basics a) (if t then number_by_place basics c ∷ chosen basics test l else chosen basics test l)
    go ih true e (inl h) = inl (ap (number_by_place basics) h)
    go ih true e (inr h) = inr (ih h)
    go ih false e (inl h) = absurd (true≢false (sym n ∙ ap test h ∙ e))
    go ih false e (inr h) = ih h

up_append : (l k : List ℕ) → Ascends l → Ascends k → ((a b : ℕ) → IsIn a l → IsIn b k → a < b) → Ascends (l ++ k)
up_append [] k u w h = w
up_append (x ∷ l) k u w h = (
  (λ b i. elim (in_append b l k i) [ inl j ↦ u.0 b j | inr j ↦ h x b (inl refl) j ]),
  up_append l k u.1 w (λ a b i j. h a b (inr i) j),
)

sum_append : (ends : ℕ → Ends) (d : ℕ → Ratio) (v : ℕ) (l k : List ℕ) (s : Ratio) → sum_at ends d v (l ++ k) s ≡ (sum_at ends d v l s ▷ sum_at ends d v k)
sum_append ends d v [] k s = refl
sum_append ends d v (a ∷ l) k s =
    same_when (term (ends a) v (d a)) (λ more. plus_of s more ▷ sum_at ends d v (l ++ k)) (λ more. plus_of s more ▷ (λ t. sum_at ends d v l t ▷ sum_at ends d v k))
    (λ t _. same_when (plus_of s t) (sum_at ends d v (l ++ k)) (λ t. sum_at ends d v l t ▷ sum_at ends d v k) (λ r _. sum_append ends d v l k r))
    ∙ sym (same_when (term (ends a) v (d a)) (λ more. (plus_of s more ▷ sum_at ends d v l) ▷ sum_at ends d v k) (λ more. plus_of s more ▷ (λ t. sum_at ends d v l t ▷ sum_at ends d v k))
    (λ t _. then_then (plus_of s t) (sum_at ends d v l) (sum_at ends d v k)))
    ∙ sym (then_then (term (ends a) v (d a)) (λ more. plus_of s more ▷ sum_at ends d v l) (sum_at ends d v k))

-- a sum that is made fits
pub sum_fits : (ends : ℕ → Ends) (d : ℕ → Ratio) (v : ℕ) (l : List ℕ) (s r : Ratio) → Fits s → sum_at ends d v l s ≡ Ok r → Fits r
sum_fits ends d v [] s r f e = subst Fits (let m : s ≡ r = cc in m) f
sum_fits ends d v (a ∷ l) s r f e =
    let m = found_by (term (ends a) v (d a)) (λ more. plus_of s more ▷ sum_at ends d v l) r e in
    let n = found_by (plus_of s m.0) (sum_at ends d v l) r m.2 in
    sum_fits ends d v l n.0 r (plus_fits s m.0 n.0 n.1) n.2

-- ---- in a piece

early_below : (before a : ℕ) → in_part before true a ≡ true → a < before
early_below before a e = ltb-true a before e

late_above : (before a : ℕ) → in_part before false a ≡ true → before ≤ a
late_above before a e = leb-true before a e

module _ (s : Scene) where
  abbrev basics : List (ℕ × Ends × Ratio)
  basics = s.piece.basics

  abbrev pub places_at : ℕ → List ℕ
  places_at p = arcs_from s.joints p 0

  abbrev test : ℕ → Bool → ℕ → Bool
  test p early a = in_part s.before early a && leads_from (scenes.steps s) p a

  abbrev part : ℕ → Bool → List ℕ
  part p early = chosen basics (test p early) (places_at p)

  abbrev entering : ℕ → List ℕ
  entering p = if touches s.e.ends (scenes.node s p) then s.e.arc ∷ [] else []

  -- the arcs whose terms are added at the node
  abbrev pub list : ℕ → List ℕ
  list p = part p true ++ (entering p ++ part p false)

  place_below : (p a : ℕ) → IsIn a (places_at p) → a < length basics
  place_below p a i = let r = ending_of p 0 s.joints a i in let k : r.0 < length s.joints = r.2 in let e : a ≡ 0 + r.0 = r.1 in omega (arith, s.are.long, k, e)

  place_ends : (p a : ℕ) → IsIn a (places_at p) → ((slice_index_or s.joints a loose).from ≡ p) ⊎ ((slice_index_or s.joints a loose).to ≡ p)
  place_ends p a i =
      let r = ending_of p 0 s.joints a i in
      let e : r.0 ≡ a = let m : a ≡ 0 + r.0 = r.1 in omega (arith, m) in
      (end_places (slice_index_or s.joints a loose) p).0 (subst (λ k. has_end (slice_index_or s.joints k loose) p ≡ true) e r.3)

  ends_place : (p a : ℕ) → a < length basics → ((slice_index_or s.joints a loose).from ≡ p) ⊎ ((slice_index_or s.joints a loose).to ≡ p) → IsIn a (places_at p)
  ends_place p a l t =
      let k : a < length s.joints = omega (arith, s.are.long, l) in
      subst (λ n. IsIn n (places_at p)) (let e : 0 + a ≡ a = omega arith in e) (of_ending p 0 a s.joints k ((end_places (slice_index_or s.joints a loose) p).1 t))

  number_below : (a : ℕ) → a < s.before → scenes.number s a < s.e.arc
  number_below a l = s.comes.below a l

  number_above : (a : ℕ) → s.before ≤ a → a < length basics → s.e.arc < scenes.number s a
  number_above a l h =
      let first : s.before < length basics = omega (arith, l, h) in
      go (cases s.before a) (s.comes.next first)
    where
      cases : (i j : ℕ) → (i < j) ⊎ ((i ≡ j) ⊎ (j < i))
      cases i j = grind arith

      apart : scenes.number s a ≢ s.e.arc
      apart m = s.pulled.outside (subst (λ t. IsIn t (scenes.own s)) m (scenes.in_own s a h))

      go : (s.before < a) ⊎ ((s.before ≡ a) ⊎ (a < s.before)) → s.e.arc ≤ scenes.number s s.before → s.e.arc < scenes.number s a
      go (inl m) k = let u : scenes.number s s.before < scenes.number s a = places.ascending_numbers _ basics (scenes.tree s) s.before a m h in omega (arith, u, k)
      go (inr (inl m)) k = let n : s.e.arc ≤ scenes.number s a = subst (λ t. s.e.arc ≤ scenes.number s t) m k in let q : scenes.number s a ≢ s.e.arc = apart in grind (arith, n, q)
      go (inr (inr m)) k = absurd (omega (arith, m, l))

  numbers_up : (t : ℕ → Bool) (l : List ℕ) → Ascends l → ((a : ℕ) → IsIn a l → a < length basics) → Ascends (chosen basics t l)
  numbers_up t [] u h = record {}
  numbers_up t (a ∷ l) u h = go (numbers_up t l u.1 (λ b i. h b (inr i))) (t a)
    where
      go : Ascends (chosen basics t l) → (b : Bool) → Ascends (if b then scenes.number s a ∷ chosen basics t l else chosen basics t l)
      go rest true = ((λ b i. let r = chosen_of basics t l b i in subst (λ n. scenes.number s a < n) (sym r.3) (places.ascending_numbers _ basics (scenes.tree s) a r.0 (u.0 r.0 r.1) (h r.0 (inr r.1)))), rest)
      go rest false = rest

  -- what stands in a part
  part_of : (p : ℕ) (early : Bool) (b : ℕ) → IsIn b (part p early) → (t : Step) × IsIn t (scenes.steps s) × (t.near ≡ p) × (b ≡ scenes.number s t.arc) × (t.arc < length basics) × (in_part s.before early t.arc ≡ true)
  part_of p early b i =
      let r = chosen_of basics (test p early) (places_at p) b i in
      let q = both (in_part s.before early r.0) (leads_from (scenes.steps s) p r.0) r.2 in
      let t = leads_so (scenes.steps s) p r.0 q.1 in
      (t.0, t.1, t.3, r.3 ∙ ap (scenes.number s) (sym t.2), subst (λ a. a < length basics) (sym t.2) (place_below p r.0 r.1), subst (λ a. in_part s.before early a ≡ true) (sym t.2) q.0)

  entering_of : (p b : ℕ) → IsIn b (entering p) → (b ≡ s.e.arc) × (touches s.e.ends (scenes.node s p) ≡ true)
  entering_of p b i = go (touches s.e.ends (scenes.node s p)) refl i
    where
      go : (t : Bool) → touches s.e.ends (scenes.node s p) ≡ t → IsIn b (if t then s.e.arc ∷ [] else []) → (b ≡ s.e.arc) × (touches s.e.ends (scenes.node s p) ≡ true)
      go true e (inl k) = (k, e)
      go true e (inr z) = absurd z
      go false e z = absurd z

  up : (p : ℕ) → Ascends (list p)
  up p = up_append (part p true) (entering p ++ part p false) (part_up true) (up_append (entering p) (part p false) (entering_up (touches s.e.ends (scenes.node s p))) (part_up false) later) earlier
    where
      part_up : (early : Bool) → Ascends (part p early)
      part_up early = numbers_up (test p early) (places_at p) (ending_up p 0 s.joints) (place_below p)

      entering_up : (t : Bool) → Ascends (if t then s.e.arc ∷ [] else [])
      entering_up true = ((λ b i. absurd i), record {})
      entering_up false = record {}

      later : (a b : ℕ) → IsIn a (entering p) → IsIn b (part p false) → a < b
      later a b i j =
          let r = part_of p false b j in
          subst (λ n. n < b) (sym (entering_of p a i).0) (subst (λ n. s.e.arc < n) (sym r.3) (number_above r.0.arc (late_above s.before r.0.arc r.5) r.4))

      earlier : (a b : ℕ) → IsIn a (part p true) → IsIn b (entering p ++ part p false) → a < b
      earlier a b i j =
          let r = part_of p true a i in
          let l : a < s.e.arc = subst (λ n. n < s.e.arc) (sym r.3) (number_below r.0.arc (early_below s.before r.0.arc r.5)) in
          elim (in_append b (entering p) (part p false) j) [
            | inl k ↦ subst (λ n. a < n) (sym (entering_of p b k).0) l
            | inr k ↦ (let q = part_of p false b k in let m : s.e.arc < b = subst (λ n. s.e.arc < n) (sym q.3) (number_above q.0.arc (late_above s.before q.0.arc q.5) q.4) in omega (arith, l, m))
          ]

  either : (a : ℕ) → (in_part s.before true a ≡ true) ⊎ (in_part s.before false a ≡ true)
  either a = elim (cases a s.before) [ inl l ↦ inl (lt-ltb a s.before l) | inr l ↦ inr (le-leb s.before a l) ]
    where
      cases : (i j : ℕ) → (i < j) ⊎ (j ≤ i)
      cases i j = grind arith

  entering_there : (p b : ℕ) → b ≡ s.e.arc → Touches (scenes.node s p ∷ []) (graph_of (scenes.ends s) b) → IsIn b (entering p)
  entering_there p b e t = subst (λ t. IsIn b (if t then s.e.arc ∷ [] else [])) (sym there) (inl e)
    where
      there : touches s.e.ends (scenes.node s p) ≡ true
      there = touch_true s.e.ends (scenes.node s p) (subst (λ (e : Ends). Touches (scenes.node s p ∷ []) (graph_ends e)) s.pulled.ends_are (subst (λ (a : ℕ). Touches (scenes.node s p ∷ []) (graph_of (scenes.ends s) a)) e t))

  part_there : (p b u : ℕ) → p < length s.piece.nodes → scenes.Hanging s b (scenes.node s p) u → IsIn b (part p true) ⊎ IsIn b (part p false)
  part_there p b u l h = elim (either t.arc) [ inl m ↦ inl (stands true m) | inr m ↦ inr (stands false m) ]
    where
      o : IsStepOver (nodes_in s.piece) basics (scenes.steps s) b (scenes.node s p) u
      o = (scenes.out s).all b (scenes.node s p) u h

      t : Step
      t = o.step

      w : IsWithin s.piece.nodes basics t
      w = scenes.within s t o.is_in

      near : t.near ≡ p
      near = scenes.one_node s t.near p w.1 l o.near

      touched : Touches (scenes.node s p ∷ []) (graph_of (scenes.ends s) (scenes.number s t.arc))
      touched = subst (λ n. Touches (scenes.node s p ∷ []) (graph_of (scenes.ends s) n)) (sym o.arc) (joins_touches (scenes.ends s b) (scenes.node s p) u h.joins).0

      stands : (early : Bool) → in_part s.before early t.arc ≡ true → IsIn b (part p early)
      stands early m = subst (λ n. IsIn n (part p early)) o.arc (of_chosen basics (test p early) (places_at p) t.arc (ends_place p t.arc w.0 ((scenes.end_at s t.arc p w.0 l).1 touched)) (rw (m, leads_is (scenes.steps s) p t.arc t o.is_in refl near) refl))

  hung_of : (p b : ℕ) (early : Bool) → IsIn b (part p early) → (u : ℕ) × scenes.Hanging s b (scenes.node s p) u
  hung_of p b early j =
      let r = part_of p early b j in (
        scenes.node s r.0.far,
        subst (λ n. scenes.Hanging s n (scenes.node s p) (scenes.node s r.0.far)) (sym r.3)
            (subst (λ n. scenes.Hanging s (scenes.number s r.0.arc) (scenes.node s n) (scenes.node s r.0.far)) r.2 ((scenes.out s).hang r.0 r.1)),
      )

  to_added : (p b : ℕ) → IsIn b (list p) → IsAddedAt (scenes.ends s) s.d (scenes.own s) (scenes.x s) s.e.arc (scenes.node s p) b
  to_added p b i = elim (in_append b (part p true) (entering p ++ part p false) i) [
    | inl j ↦ inr (hung_of p b true j)
    | inr k ↦ elim (in_append b (entering p) (part p false) k) [
      | inl j ↦ (let r = entering_of p b j in inl (
        r.0,
        subst (λ (a : ℕ). Touches (scenes.node s p ∷ []) (graph_of (scenes.ends s) a)) (sym r.0)
            (subst (λ (e : Ends). Touches (scenes.node s p ∷ []) (graph_ends e)) (sym s.pulled.ends_are) (true_touch s.e.ends (scenes.node s p) r.1)),
      ))
      | inr j ↦ inr (hung_of p b false j)
    ]
  ]

  of_added : (p b : ℕ) → p < length s.piece.nodes → IsAddedAt (scenes.ends s) s.d (scenes.own s) (scenes.x s) s.e.arc (scenes.node s p) b → IsIn b (list p)
  of_added p b l (inl r) = in_back b (part p true) (entering p ++ part p false) (in_front b (entering p) (part p false) (entering_there p b r.0 r.1))
  of_added p b l (inr h) = elim (part_there p b h.0 l h.1) [
    | inl m ↦ in_front b (part p true) (entering p ++ part p false) m
    | inr m ↦ in_back b (part p true) (entering p ++ part p false) (in_back b (entering p) (part p false) m)
  ]

  -- they are those whose terms are added there
  pub added : (p : ℕ) → p < length s.piece.nodes → AreAddedAt (scenes.ends s) s.d (scenes.own s) (scenes.x s) s.e.arc (scenes.node s p) (list p)
  added p l = record { ascend = rises (list p) (up p); all = λ b. (to_added p b, of_added p b l) }

  -- ---- the sum at a node

  -- what is known of the amounts by place when the sum at the node is made
  pub record AreReady (p : ℕ) (amounts : List Ratio) : Type 0 where
    pub known : (a : ℕ) → IsIn a (places_at p) → leads_from (scenes.steps s) p a ≡ true → at amounts a ≡ s.d (scenes.number s a)
    pub still : (a : ℕ) → IsIn a (places_at p) → leads_from (scenes.steps s) p a ≡ false → at amounts a ≡ zero_ratio

  part_sum : (p : ℕ) (early : Bool) (amounts : List Ratio) (l : List ℕ) (r : Ratio) → Fits r → ((a : ℕ) → IsIn a l → IsIn a (places_at p)) → AreReady p amounts
      → sum_part basics amounts s.before early (scenes.node s p) l r ≡ sum_at (scenes.ends s) s.d (scenes.node s p) (chosen basics (test p early) l) r
  part_sum p early amounts [] r f sub h = refl
  part_sum p early amounts (a ∷ l) r f sub h = go (λ y fits. part_sum p early amounts l y fits (λ b i. sub b (inr i)) h) (in_part s.before early a) (leads_from (scenes.steps s) p a) refl refl
    where
      v : ℕ
      v = scenes.node s p

      e : Ends
      e = scenes.ends s (scenes.number s a)

      rest : Ratio → Result Ratio Past
      rest = sum_part basics amounts s.before early v l

      others : Ratio → Result Ratio Past
      others = sum_at (scenes.ends s) s.d v (chosen basics (test p early) l)

      i : IsIn a (places_at p)
      i = sub a (inl refl)

      go : ((y : Ratio) → Fits y → rest y ≡ others y) → (b c : Bool) → in_part s.before early a ≡ b → leads_from (scenes.steps s) p a ≡ c
          → ((if b then (term (ends_by_place basics a) v (at amounts a) ▷ plus_of r) else Ok r) ▷ rest) ≡ sum_at (scenes.ends s) s.d v (if b && c then scenes.number s a ∷ chosen basics (test p early) l else chosen basics (test p early) l) r
      go ih false c m n = ih r f
      go ih true false m n = ap (λ t. t ▷ rest) (ap (λ y. term (ends_by_place basics a) v y ▷ plus_of r) (h.still a i n) ∙ add_nothing (ends_by_place basics a) v r f) ∙ ih r f
      go ih true true m n =
          ap₂ (λ e y. (term e v y ▷ plus_of r) ▷ rest) (sym (scenes.ends_of s a (place_below p a i))) (h.known a i n)
          ∙ then_then (term e v (s.d (scenes.number s a))) (plus_of r) rest
          ∙ same_when (term e v (s.d (scenes.number s a))) (λ more. plus_of r more ▷ rest) (λ more. plus_of r more ▷ others)
          (λ more _. same_when (plus_of r more) rest others (λ y k. ih y (plus_fits r more y k)))

  entering_sum : (p : ℕ) (r : Ratio) → add_entering s.e.ends s.e.amount (scenes.node s p) r ≡ sum_at (scenes.ends s) s.d (scenes.node s p) (entering p) r
  entering_sum p r = go (touches s.e.ends (scenes.node s p))
    where
      v : ℕ
      v = scenes.node s p

      end : (t : Result Ratio Past) → t ≡ (t ▷ λ y. Ok y)
      end (Ok y) = refl
      end (Err past) = refl

      go : (b : Bool) → (if b then (term s.e.ends v s.e.amount ▷ plus_of r) else Ok r) ≡ sum_at (scenes.ends s) s.d v (if b then s.e.arc ∷ [] else []) r
      go false = refl
      go true =
          ap₂ (λ e y. term e v y ▷ plus_of r) (sym s.pulled.ends_are) (sym s.pulled.enters)
          ∙ same_when (term (scenes.ends s s.e.arc) v (s.d s.e.arc)) (plus_of r) (λ more. plus_of r more ▷ λ y. Ok y) (λ more _. end (plus_of r more))

  -- the code's sum at a node is that of the row
  pub sum_is : (p : ℕ) (amounts : List Ratio) → AreReady p amounts
      → sum_of s.piece.nodes basics s.joints s.before s.e.ends s.e.amount amounts p ≡ sum_at (scenes.ends s) s.d (scenes.node s p) (list p) zero_ratio
  sum_is p amounts h =
      then_then (sum_part basics amounts s.before true v (places_at p) zero_ratio) (add_entering s.e.ends s.e.amount v) (sum_part basics amounts s.before false v (places_at p))
      ∙ ap (λ t. t ▷ λ y. add_entering s.e.ends s.e.amount v y ▷ sum_part basics amounts s.before false v (places_at p)) (part_sum p true amounts (places_at p) zero_ratio zero_fits (λ a i. i) h)
      ∙ same_when (sum_at E s.d v (part p true) zero_ratio) (λ y. add_entering s.e.ends s.e.amount v y ▷ sum_part basics amounts s.before false v (places_at p)) (sum_at E s.d v (entering p ++ part p false))
      (λ y k. ap (λ t. t ▷ sum_part basics amounts s.before false v (places_at p)) (entering_sum p y)
      ∙ same_when (sum_at E s.d v (entering p) y) (sum_part basics amounts s.before false v (places_at p)) (sum_at E s.d v (part p false))
      (λ z m. part_sum p false amounts (places_at p) z (sum_fits E s.d v (entering p) y z (sum_fits E s.d v (part p true) zero_ratio y zero_fits k) m) (λ a i. i) h)
      ∙ sym (sum_append E s.d v (entering p) (part p false) y))
      ∙ sym (sum_append E s.d v (part p true) (entering p ++ part p false) zero_ratio)
    where
      v : ℕ
      v = scenes.node s p

      E : ℕ → Ends
      E = scenes.ends s

  pub at_place : (p a : ℕ) → IsIn a (places_at p) → a < length basics
  at_place = place_below

  pub at_ends : (p a : ℕ) → IsIn a (places_at p) → ((slice_index_or s.joints a loose).from ≡ p) ⊎ ((slice_index_or s.joints a loose).to ≡ p)
  at_ends = place_ends
