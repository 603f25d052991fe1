-- The entries of a list that have the numbers of another one, picked in one pass over both.
use Rattle.std.specs.Prelude.{◌≡◌, ◌⊎◌, ◌<◌, ◌≤◌, ◌+◌, ℕ, List, [], ◌∷◌, ◌++◌, map, length, take, drop}
use Rattle.std.proofs.Common.{refl, sym, ap, subst, ◌∙◌, inl, inr, arith, get_or, take-append-drop, append-nil, append_assoc}
use Rattle.std.proofs.lemmas.List.{drop_more, drop_all, length-map}
use Rattle.gain_graphs.specs.Arcs.{IsIn}
use Rattle.gain_graphs.proofs.Lists.{in_append, in_back, map_append}
use Rattle.np_basis.proofs.Ascending.{Ascends}
use Rattle.piece_lists.specs.Merged.{ArePicked}
use Rattle.piece_lists.proofs.Merging.{ascends_drop, ascends_back}

at_end : (ns : List ℕ) (n : ℕ) (rest : List ℕ) → (length ns < length (ns ++ n ∷ rest)) × (get_or (ns ++ n ∷ rest) (length ns) 0 ≡ n)
at_end [] n rest = (omega arith, refl)
at_end (m ∷ ns) n rest = let r = at_end ns n rest in (omega (arith, r.0), r.1)

module _ {T : Type 0} (key : T → ℕ) (xs like : List T) where
  -- so many entries are gone over, and these are picked: each of the numbers that are left stands further on
  pub record Picked (i : ℕ) (out : List T) : Type 0 where
    pub later : List ℕ
    pub split : map key like ≡ map key out ++ later
    pub from : (x : T) → IsIn x out → IsIn x xs
    pub ahead : (n : ℕ) → IsIn n later → IsIn n (map key (drop i xs))

  pub begun : ((n : ℕ) → IsIn n (map key like) → IsIn n (map key xs)) → Picked 0 []
  begun has = record { later = map key like; split = refl; from = λ x i. absurd i; ahead = has }

  module _ (xs_ascend : Ascends (map key xs)) (like_ascend : Ascends (map key like)) (i : ℕ) (x : T) (out : List T) (l : i < length xs) (is : x ≡ get_or xs i x) (w : Picked i out) where
    rest_is : drop i xs ≡ x ∷ drop (i + 1) xs
    rest_is = drop_more xs i x l ∙ ap (λ y. y ∷ drop (i + 1) xs) (sym is)

    in_all : IsIn x xs
    in_all = subst (IsIn x) (take-append-drop i xs) (in_back x (take i xs) (drop i xs) (subst (IsIn x) (sym rest_is) (inl refl)))

    above : (n : ℕ) → IsIn n (map key (drop (i + 1) xs)) → key x < n
    above n k = (subst (λ t. Ascends (map key t)) rest_is (ascends_drop key i xs xs_ascend)).0 n k

    left : (n : ℕ) → IsIn n (map key (drop i xs)) → (n ≡ key x) ⊎ IsIn n (map key (drop (i + 1) xs))
    left n k = subst (λ t. IsIn n (map key t)) rest_is k

    split_at : (later : List ℕ) → w.later ≡ later → map key like ≡ map key out ++ later
    split_at later h = w.split ∙ ap (λ t. map key out ++ t) h

    -- the first number that is left stands at the place behind those that are picked
    place : (n : ℕ) (rest : List ℕ) → w.later ≡ n ∷ rest → (length out < length like) × (get_or (map key like) (length out) 0 ≡ n)
    place n rest h =
        let r = at_end (map key out) n rest in
        let o : length (map key out) ≡ length out = length-map out key in
        let k : length (map key out) < length (map key like) = subst (λ t. length (map key out) < length t) (sym (split_at (n ∷ rest) h)) r.0 in
        (omega (arith, k, o, length-map like key), ap (λ t. get_or (map key like) t 0) (sym o) ∙ ap (λ t. get_or t (length (map key out)) 0) (split_at (n ∷ rest) h) ∙ r.1)

    rising : (n : ℕ) (rest : List ℕ) → w.later ≡ n ∷ rest → (m : ℕ) → IsIn m rest → n < m
    rising n rest h m j = (ascends_back (map key out) (n ∷ rest) (subst Ascends (split_at (n ∷ rest) h) like_ascend)).0 m j

    pub taken : length out < length like → get_or (map key like) (length out) 0 ≡ key x → Picked (i + 1) (out ++ x ∷ [])
    taken k e = go w.later refl
      where
        go : (later : List ℕ) → w.later ≡ later → Picked (i + 1) (out ++ x ∷ [])
        go [] h =
            let s : map key like ≡ map key out = split_at [] h ∙ append-nil (map key out) in
            let z : length (map key like) ≡ length (map key out) = ap (λ (t : List ℕ). length t) s in
            absurd (omega (arith, k, z, length-map like key, length-map out key))
        go (n ∷ rest) h =
            let same : n ≡ key x = sym (place n rest h).1 ∙ e in
            record {
              later = rest;
              split = split_at (n ∷ rest) h ∙ ap (λ t. map key out ++ t ∷ rest) same ∙ sym (append_assoc (map key out) (key x ∷ []) rest) ∙ ap (λ t. t ++ rest) (sym (map_append key out (x ∷ [])));
              from = λ y j. elim (in_append y out (x ∷ []) j) [
                | inl m ↦ w.from y m
                | inr m ↦ elim m [ inl f ↦ subst (λ t. IsIn t xs) (sym f) in_all | inr z ↦ absurd z ]
              ];
              ahead = λ m j. elim (left m (w.ahead m (subst (IsIn m) (sym h) (inr j)))) [
                | inl f ↦ (let b : n < m = rising n rest h m j in let g : n ≡ m = same ∙ sym f in absurd (omega arith))
                | inr q ↦ q
              ];
            }

    pub passed : (length out < length like → get_or (map key like) (length out) 0 ≡ key x → ⊥) → Picked (i + 1) out
    passed other = record { later = w.later; split = w.split; from = w.from; ahead = λ m j. go w.later refl m j (left m (w.ahead m j)) }
      where
        not_next : (n : ℕ) (rest : List ℕ) → w.later ≡ n ∷ rest → n ≡ key x → ⊥
        not_next n rest h e = let p = place n rest h in other p.0 (p.1 ∙ e)

        bad : (n : ℕ) (rest : List ℕ) → w.later ≡ n ∷ rest → (m : ℕ) → m ≡ key x → IsIn m (n ∷ rest) → ⊥
        bad n rest h m f (inl g) = not_next n rest h (sym g ∙ f)
        bad n rest h m f (inr j) = elim (left n (w.ahead n (subst (IsIn n) (sym h) (inl refl)))) [
          | inl e ↦ not_next n rest h e
          | inr q ↦ (let a : key x < n = above n q in let b : n < m = rising n rest h m j in omega arith)
        ]

        go : (later : List ℕ) → w.later ≡ later → (m : ℕ) → IsIn m w.later → (m ≡ key x) ⊎ IsIn m (map key (drop (i + 1) xs)) → IsIn m (map key (drop (i + 1) xs))
        go later h m j (inr q) = q
        go [] h m j (inl f) = absurd (subst (IsIn m) h j)
        go (n ∷ rest) h m j (inl f) = absurd (bad n rest h m f (subst (IsIn m) h j))

  pub finished : (i : ℕ) (out : List T) → length xs ≤ i → Picked i out → ArePicked key xs like out
  finished i out l w = record { numbers = go w.later refl; from = w.from }
    where
      go : (later : List ℕ) → w.later ≡ later → map key out ≡ map key like
      go [] h = sym (w.split ∙ ap (λ t. map key out ++ t) h ∙ append-nil (map key out))
      go (n ∷ rest) h = absurd (subst (λ t. IsIn n (map key t)) (drop_all i xs l) (w.ahead n (subst (IsIn n) (sym h) (inl refl))))
