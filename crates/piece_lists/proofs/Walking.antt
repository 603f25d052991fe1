-- Arcs and steps gone over together: each arc that has an amount moves, and each other one stays.
use Rattle.std.specs.Prelude.{◌≡◌, ◌≢◌, ◌⊎◌, ◌<◌, ◌≤◌, ◌+◌, ℕ, zero, suc, Bool, true, false, cond, List, [], ◌∷◌, ◌++◌, map, length, take, drop, Result, Ok, Err}
use Rattle.std.specs.Result.{IsOk}
use Rattle.std.specs.List.{AllZip}
use Rattle.std.proofs.Common.{refl, sym, ap, ap₂, subst, ◌∙◌, inl, inr, arith, get_or, eqb, take-append-drop, append-nil, true≢false}
use Rattle.std.proofs.lemmas.List.{take_more, drop_more, drop_all, take_all}
use Rattle.std.proofs.lemmas.List.Elements.{AllZip-push}
use Rattle.gain_graphs.specs.Arcs.{IsIn}
use Rattle.gain_graphs.proofs.Lists.{in_map, in_map_of, in_append, in_back, map_append}
use Rattle.np_basis.proofs.Ascending.{Ascends}
use Rattle.np_frac.specs.Ratio.{Ratio, zero_ratio}
use Rattle.np_frac.specs.Fits.{Fits}
use Rattle.np_frac.specs.Exact.{◌▷◌}
use Rattle.np_frac.specs.declared.frac.Past.{Past}
use Rattle.np_model.specs.declared.arc.Ends.{Ends}
use Rattle.np_model.specs.Basis.Pieces.{beside}
use Rattle.np_model.specs.Rows.Arcs.{all_of, flow_after}
use Rattle.tree_search.specs.Places.{numbers_of_arcs}
use Rattle.piece_lists.specs.Flowing.{AreFlowsOf, IsMoved}
use Rattle.np_model.specs.Rows.Moving.{numbers_of_steps, new_flows}
use Rattle.piece_lists.specs.Steps.{AreMoved}
use Rattle.piece_lists.proofs.Merging.{ascends_drop, head_below}

-- ---- ascending lists

-- in an ascending list an entry is known by its number
pub one_entry : {T : Type 0} (key : T → ℕ) (xs : List T) → Ascends (map key xs) → (x y : T) → IsIn x xs → IsIn y xs → key x ≡ key y → x ≡ y
one_entry key [] a x y i j e = absurd i
one_entry key (z ∷ xs) a x y (inl p) (inl r) e = p ∙ sym r
one_entry key (z ∷ xs) a x y (inl p) (inr j) e = let l : key z < key y = head_below key z xs a y j in let f : key z ≡ key y = ap key (sym p) ∙ e in absurd (omega arith)
one_entry key (z ∷ xs) a x y (inr i) (inl r) e = let l : key z < key x = head_below key z xs a x i in let f : key x ≡ key z = e ∙ ap key r in absurd (omega arith)
one_entry key (z ∷ xs) a x y (inr i) (inr j) e = one_entry key xs a.1 x y i j e

-- what stands beside the number of an entry
pub beside_is : (other : Ratio) (xs : List (ℕ × Ratio)) → Ascends (numbers_of_steps xs) → (x : ℕ × Ratio) → IsIn x xs → beside other xs x.0 ≡ x.1
beside_is other [] a x i = absurd i
beside_is other (y ∷ xs) a x (inl e) = here (eqb x.0 y.0) (same x.0 y.0 (ap (λ (t : ℕ × Ratio). t.0) e)) ∙ ap (λ (t : ℕ × Ratio). t.1) (sym e)
  where
    same : (a b : ℕ) → a ≡ b → eqb a b ≡ true
    same a b h = grind arith

    here : (b : Bool) → b ≡ true → cond b y.1 (beside other xs x.0) ≡ y.1
    here b h = ap (λ t. cond t y.1 (beside other xs x.0)) h
beside_is other (y ∷ xs) a x (inr i) = there (eqb x.0 y.0) (differ x.0 y.0 (head_below (λ (t : ℕ × Ratio). t.0) y xs a x i)) ∙ beside_is other xs a.1 x i
  where
    differ : (a b : ℕ) → b < a → eqb a b ≡ false
    differ a b h = grind arith

    there : (b : Bool) → b ≡ false → cond b y.1 (beside other xs x.0) ≡ beside other xs x.0
    there b h = ap (λ t. cond t y.1 (beside other xs x.0)) h

-- ---- rows over a list and an entry more

all_more : {A : Type 0} (f : ℕ → Result A Past) (xs : List ℕ) (a : ℕ) → IsOk (all_of f xs) → IsOk (f a) → IsOk (all_of f (xs ++ a ∷ []))
all_more f [] a h k = go (f a) k
  where
    go : {A : Type 0} (r : Result A Past) → IsOk r → IsOk (r ▷ λ x. Ok [] ▷ λ xs. Ok (x ∷ xs))
    go (Ok x) k = k
    go (Err p) k = k
all_more f (x ∷ xs) a h k = go (f x) (all_of f xs) (all_of f (xs ++ a ∷ [])) h (λ m. all_more f xs a m k)
  where
    go : {A : Type 0} (r : Result A Past) (s t : Result (List A) Past) → IsOk (r ▷ λ x. s ▷ λ xs. Ok (x ∷ xs)) → (IsOk s → IsOk t) → IsOk (r ▷ λ x. t ▷ λ xs. Ok (x ∷ xs))
    go (Err p) s t h m = h
    go (Ok x) (Err p) t h m = absurd (true≢false (sym h))
    go (Ok x) (Ok s) (Ok t) h m = refl
    go (Ok x) (Ok s) (Err p) h m = absurd (true≢false (sym (m refl)))

all_past : {A : Type 0} (f : ℕ → Result A Past) (xs : List ℕ) (a : ℕ) (ys : List ℕ) (past : Past) → IsOk (all_of f xs) → f a ≡ Err past → all_of f (xs ++ a ∷ ys) ≡ Err past
all_past f [] a ys past h k = ap (λ r. r ▷ λ x. all_of f ys ▷ λ xs. Ok (x ∷ xs)) k
all_past f (x ∷ xs) a ys past h k = go (f x) (all_of f xs) (all_of f (xs ++ a ∷ ys)) h (λ m. all_past f xs a ys past m k)
  where
    go : {A : Type 0} (r : Result A Past) (s t : Result (List A) Past) → IsOk (r ▷ λ x. s ▷ λ xs. Ok (x ∷ xs)) → (IsOk s → t ≡ Err past) → (r ▷ λ x. t ▷ λ xs. Ok (x ∷ xs)) ≡ Err past
    go (Err p) s t h m = absurd (true≢false (sym h))
    go (Ok x) (Err p) t h m = absurd (true≢false (sym h))
    go (Ok x) (Ok s) t h m = ap (λ r. r ▷ λ xs. Ok (x ∷ xs)) (m refl)

-- ---- the walk

module _ (arcs : List (ℕ × Ends × Ratio)) (steps : List (ℕ × Ratio)) (t : Ratio) where
  abbrev row : (ℕ → Ratio) → ℕ → Result Ratio Past
  row flow a = flow_after t (flow a) (beside zero_ratio steps a)

  -- so many arcs and so many steps are gone over
  pub record Walked (i j : ℕ) (out : List (ℕ × Ends × Ratio)) : Type 0 where
    pub each : AllZip (IsMoved steps t) (take i arcs) out
    pub fit : (flow : ℕ → Ratio) → AreFlowsOf flow arcs → IsOk (all_of (row flow) (numbers_of_steps (take j steps)))
    pub behind : (a b : ℕ) → IsIn a (numbers_of_steps (take j steps)) → IsIn b (numbers_of_arcs (drop i arcs)) → a < b
    pub ahead : (a : ℕ) → IsIn a (numbers_of_steps (drop j steps)) → IsIn a (numbers_of_arcs (drop i arcs))

  pub begun : ((a : ℕ) → IsIn a (numbers_of_steps steps) → IsIn a (numbers_of_arcs arcs)) → Walked 0 0 []
  begun own = record { each = record {}; fit = λ flow h. refl; behind = λ a b i j. absurd i; ahead = own }

  module _ (arcs_ascend : Ascends (numbers_of_arcs arcs)) (steps_ascend : Ascends (numbers_of_steps steps)) (i j : ℕ) (b : ℕ × Ends × Ratio) (out : List (ℕ × Ends × Ratio)) (l : i < length arcs) (is : b ≡ get_or arcs i b) (w : Walked i j out) where
    rest_is : drop i arcs ≡ b ∷ drop (i + 1) arcs
    rest_is = drop_more arcs i b l ∙ ap (λ x. x ∷ drop (i + 1) arcs) (sym is)

    front_is : take (i + 1) arcs ≡ take i arcs ++ b ∷ []
    front_is = take_more arcs i b l ∙ ap (λ x. take i arcs ++ x ∷ []) (sym is)

    in_arcs : IsIn b arcs
    in_arcs = subst (IsIn b) (take-append-drop i arcs) (in_back b (take i arcs) (drop i arcs) (subst (IsIn b) (sym rest_is) (inl refl)))

    above : (a : ℕ) → IsIn a (numbers_of_arcs (drop (i + 1) arcs)) → b.0 < a
    above a k =
        let r = in_map_of (λ (x : ℕ × Ends × Ratio). x.0) a (drop (i + 1) arcs) k in
        subst (λ x. b.0 < x) (sym r.2) (head_below (λ (x : ℕ × Ends × Ratio). x.0) b (drop (i + 1) arcs) (subst (λ x. Ascends (numbers_of_arcs x)) rest_is (ascends_drop (λ (x : ℕ × Ends × Ratio). x.0) i arcs arcs_ascend)) r.0 r.1)

    -- numbers of the arcs that are left, and of those that are left then
    left : (a : ℕ) → IsIn a (numbers_of_arcs (drop i arcs)) → (a ≡ b.0) ⊎ IsIn a (numbers_of_arcs (drop (i + 1) arcs))
    left a k = subst (λ x. IsIn a (numbers_of_arcs x)) rest_is k

    left_back : (a : ℕ) → IsIn a (numbers_of_arcs (drop (i + 1) arcs)) → IsIn a (numbers_of_arcs (drop i arcs))
    left_back a k = subst (λ x. IsIn a (numbers_of_arcs x)) (sym rest_is) (inr k)

    pushed : (c : ℕ × Ends × Ratio) → IsMoved steps t b c → AllZip (IsMoved steps t) (take (i + 1) arcs) (out ++ c ∷ [])
    pushed c m = subst (λ x. AllZip (IsMoved steps t) x (out ++ c ∷ [])) (sym front_is) (AllZip-push (IsMoved steps t) (take i arcs) out b c w.each m)

    module _ (s : ℕ × Ratio) (k : j < length steps) (s_is : s ≡ get_or steps j s) (same : s.0 ≡ b.0) where
      later_is : drop j steps ≡ s ∷ drop (j + 1) steps
      later_is = drop_more steps j s k ∙ ap (λ x. x ∷ drop (j + 1) steps) (sym s_is)

      done_is : take (j + 1) steps ≡ take j steps ++ s ∷ []
      done_is = take_more steps j s k ∙ ap (λ x. take j steps ++ x ∷ []) (sym s_is)

      in_steps : IsIn s steps
      in_steps = subst (IsIn s) (take-append-drop j steps) (in_back s (take j steps) (drop j steps) (subst (IsIn s) (sym later_is) (inl refl)))

      done_numbers : numbers_of_steps (take (j + 1) steps) ≡ numbers_of_steps (take j steps) ++ s.0 ∷ []
      done_numbers = ap numbers_of_steps done_is ∙ map_append (λ (x : ℕ × Ratio). x.0) (take j steps) (s ∷ [])

      row_is : (flow : ℕ → Ratio) → AreFlowsOf flow arcs → row flow s.0 ≡ flow_after t b.2 s.1
      row_is flow h = ap₂ (λ x d. flow_after t x d) (ap flow same ∙ h b in_arcs) (beside_is zero_ratio steps steps_ascend s in_steps)

      amount : (d : Ratio) → IsIn (b.0, d) steps → d ≡ s.1
      amount d m = ap (λ (x : ℕ × Ratio). x.1) (one_entry (λ (x : ℕ × Ratio). x.0) steps steps_ascend (b.0, d) s m in_steps (sym same))

      pub moves : (f : Ratio) → flow_after t b.2 s.1 ≡ Ok f → Fits f → Walked (i + 1) (j + 1) (out ++ (b.0, b.1, f) ∷ [])
      moves f ok fits = record {
        each = pushed (b.0, b.1, f) (record {
          number = refl;
          ends = refl;
          moves = λ d m. ap (flow_after t b.2) (amount d m) ∙ ok;
          stays = λ h. absurd (h (subst (λ x. IsIn x (numbers_of_steps steps)) same (in_map (λ (x : ℕ × Ratio). x.0) s steps in_steps)));
          fits = fits;
        });
        fit = λ flow h. subst (λ x. IsOk (all_of (row flow) x)) (sym done_numbers) (all_more (row flow) (numbers_of_steps (take j steps)) s.0 (w.fit flow h) (subst IsOk (sym (row_is flow h ∙ ok)) refl));
        behind = λ a c p q. elim (in_append a (numbers_of_steps (take j steps)) (s.0 ∷ []) (subst (IsIn a) done_numbers p)) [
          | inl m ↦ w.behind a c m (left_back c q)
          | inr m ↦ elim m [ inl e ↦ (let z : b.0 < c = above c q in let y : a ≡ b.0 = e ∙ same in omega arith) | inr z ↦ absurd z ]
        ];
        ahead = λ a p. elim (left a (w.ahead a (subst (λ x. IsIn a (numbers_of_steps x)) (sym later_is) (inr p)))) [
          | inl e ↦ (let r = in_map_of (λ (x : ℕ × Ratio). x.0) a (drop (j + 1) steps) p in
              let z : s.0 < a = subst (λ x. s.0 < x) (sym r.2) (head_below (λ (x : ℕ × Ratio). x.0) s (drop (j + 1) steps) (subst (λ x. Ascends (numbers_of_steps x)) later_is (ascends_drop (λ (x : ℕ × Ratio). x.0) j steps steps_ascend)) r.0 r.1) in
              let y : s.0 ≡ a = same ∙ sym e in absurd (omega arith))
          | inr m ↦ m
        ];
      }

      pub overflows : (past : Past) → flow_after t b.2 s.1 ≡ Err past → (flow : ℕ → Ratio) → AreFlowsOf flow arcs → new_flows steps t flow ≡ Err past
      overflows past err flow h = subst (λ x. all_of (row flow) x ≡ Err past) (sym whole) (all_past (row flow) (numbers_of_steps (take j steps)) s.0 (numbers_of_steps (drop (j + 1) steps)) past (w.fit flow h) (row_is flow h ∙ err))
        where
          whole : numbers_of_steps steps ≡ numbers_of_steps (take j steps) ++ s.0 ∷ numbers_of_steps (drop (j + 1) steps)
          whole = ap numbers_of_steps (sym (take-append-drop j steps) ∙ ap (λ x. take j steps ++ x) later_is) ∙ map_append (λ (x : ℕ × Ratio). x.0) (take j steps) (s ∷ drop (j + 1) steps)

    pub stays : ((s : ℕ × Ratio) → j < length steps → s ≡ get_or steps j s → s.0 ≢ b.0) → Fits b.2 → Walked (i + 1) j (out ++ b ∷ [])
    stays other fits = record {
      each = pushed b (record {
        number = refl;
        ends = refl;
        moves = λ d m. absurd (none (in_map (λ (x : ℕ × Ratio). x.0) (b.0, d) steps m));
        stays = λ h. refl;
        fits = fits;
      });
      fit = w.fit;
      behind = λ a c p q. w.behind a c p (left_back c q);
      ahead = λ a p. elim (left a (w.ahead a p)) [
        | inl e ↦ absurd (not_ahead (subst (λ x. IsIn x (numbers_of_steps (drop j steps))) e p))
        | inr m ↦ m
      ];
    }
      where
        at : (xs : List (ℕ × Ratio)) (j : ℕ) (x : ℕ × Ratio) (ys : List (ℕ × Ratio)) → drop j xs ≡ x ∷ ys → (j < length xs) × (x ≡ get_or xs j x)
        at [] zero x ys h = absurd (let z : ⊥ = cc in z)
        at [] (suc j) x ys h = absurd (let z : ⊥ = cc in z)
        at (y ∷ xs) zero x ys h = (omega arith, let e : y ≡ x = cc in sym e)
        at (y ∷ xs) (suc j) x ys h = let r = at xs j x ys h in (omega (arith, r.0), r.1)

        go : (later : List (ℕ × Ratio)) → drop j steps ≡ later → ¬ IsIn b.0 (numbers_of_steps later)
        go [] h m = absurd m
        go (s ∷ later) h (inl e) = let r = at steps j s later h in other s r.0 r.1 (sym e)
        go (s ∷ later) h (inr m) =
            let r = at steps j s later h in
            let p = in_map_of (λ (x : ℕ × Ratio). x.0) b.0 later m in
            let z : s.0 < b.0 = subst (λ x. s.0 < x) (sym p.2) (head_below (λ (x : ℕ × Ratio). x.0) s later (subst (λ x. Ascends (numbers_of_steps x)) h (ascends_drop (λ (x : ℕ × Ratio). x.0) j steps steps_ascend)) p.0 p.1) in
            elim (left s.0 (w.ahead s.0 (subst (λ x. IsIn s.0 (numbers_of_steps x)) (sym h) (inl refl)))) [
              | inl e ↦ other s r.0 r.1 e
              | inr q ↦ (let y : b.0 < s.0 = above s.0 q in absurd (omega arith))
            ]

        not_ahead : ¬ IsIn b.0 (numbers_of_steps (drop j steps))
        not_ahead = go (drop j steps) refl

        none : ¬ IsIn b.0 (numbers_of_steps steps)
        none m =
            let k : IsIn b.0 (numbers_of_steps (take j steps) ++ numbers_of_steps (drop j steps)) =
            subst (IsIn b.0) (map_append (λ (x : ℕ × Ratio). x.0) (take j steps) (drop j steps)) (subst (λ x. IsIn b.0 (numbers_of_steps x)) (sym (take-append-drop j steps)) m) in
            elim (in_append b.0 (numbers_of_steps (take j steps)) (numbers_of_steps (drop j steps)) k) [
              | inl p ↦ (let z : b.0 < b.0 = w.behind b.0 b.0 p (subst (λ x. IsIn b.0 (numbers_of_arcs x)) (sym rest_is) (inl refl)) in absurd (omega arith))
              | inr p ↦ not_ahead p
            ]

  pub finished : (i j : ℕ) (out : List (ℕ × Ends × Ratio)) → length arcs ≤ i → Walked i j out → AreMoved arcs steps t out
  finished i j out l w = record {
    each = subst (λ x. AllZip (IsMoved steps t) x out) (take_all i arcs l) w.each;
    fit = λ flow h. subst (λ x. IsOk (all_of (row flow) (numbers_of_steps x))) (all (drop j steps) refl) (w.fit flow h);
  }
    where
      all : (later : List (ℕ × Ratio)) → drop j steps ≡ later → take j steps ≡ steps
      all [] h = sym (append-nil (take j steps)) ∙ ap (λ x. take j steps ++ x) (sym h) ∙ take-append-drop j steps
      all (s ∷ later) h = absurd (subst (λ x. IsIn s.0 (numbers_of_arcs x)) (drop_all i arcs l) (w.ahead s.0 (subst (λ x. IsIn s.0 (numbers_of_steps x)) (sym h) (inl refl))))
