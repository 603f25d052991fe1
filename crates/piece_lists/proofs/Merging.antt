-- Two ascending lists made one, entry by entry.
use Rattle.std.specs.Prelude.{◌≡◌, ◌⊎◌, ◌↔◌, ◌<◌, ◌≤◌, ◌+◌, ℕ, zero, suc, List, [], ◌∷◌, ◌++◌, map, length, take, drop}
use Rattle.std.specs.List.Sorted.{IsStrictlyIncreasing}
use Rattle.std.proofs.Common.{refl, sym, ap, subst, ◌∙◌, inl, inr, arith, get_or, take-append-drop, append-nil}
use Rattle.std.proofs.lemmas.List.{take_more, drop_more, drop_all}
use Rattle.gain_graphs.specs.Arcs.{IsIn}
use Rattle.gain_graphs.proofs.Lists.{in_append, in_front, in_back, in_map, in_map_of, map_append}
use Rattle.np_basis.proofs.Ascending.{Ascends, ascends, rises}
use Rattle.piece_lists.specs.Merged.{IsMerged}

-- the entries of both lists, where each is below all that follow
pub record Merges {T : Type 0} (key : T → ℕ) (xs ys out : List T) : Type 0 where
  pub ascends : Ascends (map key out)
  pub is : (x : T) → IsIn x out ↔ (IsIn x xs ⊎ IsIn x ys)

-- each of these is below each of those
abbrev pub AreBelow : {T : Type 0} → (T → ℕ) → List T → List T → Type 0
AreBelow {T} key xs ys = (x y : T) → IsIn x xs → IsIn y ys → key x < key y

pub at_in : {T : Type 0} (xs : List T) (i : ℕ) (d : T) → i < length xs → IsIn (get_or xs i d) xs
at_in [] i d h = absurd (omega arith)
at_in (x ∷ xs) zero d h = inl refl
at_in (x ∷ xs) (suc i) d h = inr (at_in xs i d (omega arith))

pub in_at : {T : Type 0} (xs : List T) (x : T) (d : T) → IsIn x xs → (i : ℕ) × (i < length xs) × (get_or xs i d ≡ x)
in_at [] x d i = absurd i
in_at (y ∷ xs) x d (inl e) = (0, omega arith, sym e)
in_at (y ∷ xs) x d (inr i) = let r = in_at xs x d i in (suc r.0, omega (arith, r.1), r.2)

-- places keep the order
pub ascends_at : (xs : List ℕ) → Ascends xs → (i j : ℕ) → i < j → j < length xs → get_or xs i 0 < get_or xs j 0
ascends_at [] a i j l h = absurd (omega arith)
ascends_at (x ∷ xs) a zero zero l h = absurd (omega arith)
ascends_at (x ∷ xs) a zero (suc j) l h = a.0 (get_or xs j 0) (at_in xs j 0 (omega arith))
ascends_at (x ∷ xs) a (suc i) zero l h = absurd (omega arith)
ascends_at (x ∷ xs) a (suc i) (suc j) l h = ascends_at xs a.1 i j (omega arith) (omega arith)

pub ascends_append : (xs ys : List ℕ) → Ascends xs → Ascends ys → ((u v : ℕ) → IsIn u xs → IsIn v ys → u < v) → Ascends (xs ++ ys)
ascends_append [] ys a b h = b
ascends_append (x ∷ xs) ys a b h = (
  (λ u i. elim (in_append u xs ys i) [ inl k ↦ a.0 u k | inr k ↦ h x u (inl refl) k ]),
  ascends_append xs ys a.1 b (λ u v i j. h u v (inr i) j),
)

pub ascends_front : (xs ys : List ℕ) → Ascends (xs ++ ys) → Ascends xs
ascends_front [] ys a = record {}
ascends_front (x ∷ xs) ys a = ((λ u i. a.0 u (in_front u xs ys i)), ascends_front xs ys a.1)

pub ascends_back : (xs ys : List ℕ) → Ascends (xs ++ ys) → Ascends ys
ascends_back [] ys a = a
ascends_back (x ∷ xs) ys a = ascends_back xs ys a.1

module _ {T : Type 0} (key : T → ℕ) where
  pub keys_below : (xs ys : List T) → AreBelow key xs ys → (u v : ℕ) → IsIn u (map key xs) → IsIn v (map key ys) → u < v
  keys_below xs ys h u v i j =
      let r = in_map_of key u xs i in let s = in_map_of key v ys j in
      subst (λ t. t < v) (sym r.2) (subst (λ t. key r.0 < t) (sym s.2) (h r.0 s.0 r.1 s.1))

  pub head_below : (x : T) (xs : List T) → Ascends (map key (x ∷ xs)) → (y : T) → IsIn y xs → key x < key y
  head_below x xs a y i = a.0 (key y) (in_map key y xs i)

  swapped : (xs ys out : List T) → Merges key xs ys out → Merges key ys xs out
  swapped xs ys out m = record {
    ascends = m.ascends;
    is = λ x. ((λ i. elim ((m.is x).0 i) [ inl k ↦ inr k | inr k ↦ inl k ]), (λ i. (m.is x).1 (elim i [ inl k ↦ inr k | inr k ↦ inl k ])));
  }

  -- a rest that is above all that stands there
  append_first : (xs ys out rest : List T) → Merges key xs ys out → AreBelow key out rest → Ascends (map key rest) → Merges key (xs ++ rest) ys (out ++ rest)
  append_first xs ys out rest m b a = record {
    ascends = subst (λ t. Ascends t) (sym (map_append key out rest)) (ascends_append (map key out) (map key rest) m.ascends a (keys_below out rest b));
    is = λ x. (
      (λ i. elim (in_append x out rest i) [
        | inl k ↦ elim ((m.is x).0 k) [ inl l ↦ inl (in_front x xs rest l) | inr l ↦ inr l ]
        | inr k ↦ inl (in_back x xs rest k)
      ]),
      (λ i. elim i [
        | inl k ↦ elim (in_append x xs rest k) [ inl l ↦ in_front x out rest ((m.is x).1 (inl l)) | inr l ↦ in_back x out rest l ]
        | inr k ↦ in_front x out rest ((m.is x).1 (inr k))
      ]),
    );
  }

  -- an entry of both
  append_both : (xs ys out : List T) (x y : T) → x ≡ y → Merges key xs ys out → AreBelow key out (x ∷ []) → Merges key (xs ++ x ∷ []) (ys ++ y ∷ []) (out ++ x ∷ [])
  append_both xs ys out x y e m b = record {
    ascends = f.ascends;
    is = λ z. (
      (λ i. elim ((f.is z).0 i) [ inl k ↦ inl k | inr k ↦ inr (in_front z ys (y ∷ []) k) ]),
      (λ i. (f.is z).1 (elim i [
        | inl k ↦ inl k
        | inr k ↦ elim (in_append z ys (y ∷ []) k) [ inl l ↦ inr l | inr l ↦ inl (in_back z xs (x ∷ []) (elim l [ inl p ↦ inl (p ∙ sym e) | inr p ↦ absurd p ])) ]
      ])),
    );
  }
    where
      f : Merges key (xs ++ x ∷ []) ys (out ++ x ∷ [])
      f = append_first xs ys out (x ∷ []) m b ((λ u i. absurd i), record {})

  -- an ascending list in the form of these lemmas
  pub ascending : (xs : List T) → IsStrictlyIncreasing (map key xs) → Ascends (map key xs)
  ascending xs h = ascends (map key xs) h

  -- how far the two lists are merged
  pub record Turned (xs ys : List T) (i j : ℕ) (out : List T) : Type 0 where
    pub merged : Merges key (take i xs) (take j ys) out
    pub first : AreBelow key out (drop i xs)
    pub second : AreBelow key out (drop j ys)

  pub begun : (xs ys : List T) → Turned xs ys 0 0 []
  begun xs ys = record {
    merged = record { ascends = record {}; is = λ x. ((λ i. absurd i), (λ i. elim i [ inl k ↦ absurd k | inr k ↦ absurd k ])) };
    first = λ x y i j. absurd i;
    second = λ x y i j. absurd i;
  }

  pub ascends_drop : (i : ℕ) (xs : List T) → Ascends (map key xs) → Ascends (map key (drop i xs))
  ascends_drop i xs a = ascends_back (map key (take i xs)) (map key (drop i xs)) (subst (λ t. Ascends t) (ap (map key) (sym (take-append-drop i xs)) ∙ map_append key (take i xs) (drop i xs)) a)

  -- what is below the head of a list is below all of it
  below_all : (z x : T) (rest : List T) → Ascends (map key (x ∷ rest)) → key z < key x → (y : T) → IsIn y (x ∷ rest) → key z < key y
  below_all z x rest a l y (inl e) = subst (λ t. key z < key t) (sym e) l
  below_all z x rest a l y (inr i) = let m : key x < key y = head_below x rest a y i in omega arith

  turned_first : (xs ys out rest others : List T) (x : T) (i j : ℕ) → take (i + 1) xs ≡ take i xs ++ x ∷ [] → drop i xs ≡ x ∷ drop (i + 1) xs → Ascends (map key (drop i xs)) → Turned xs ys i j out
      → ((y : T) → IsIn y (drop j ys) → key x < key y) → Turned xs ys (i + 1) j (out ++ x ∷ [])
  turned_first xs ys out rest others x i j te de a t l = record {
    merged = subst (λ s. Merges key s (take j ys) (out ++ x ∷ [])) (sym te)
        (append_first (take i xs) (take j ys) out (x ∷ []) t.merged (λ u v p q. elim q [ inl e ↦ t.first u v p (subst (λ s. IsIn v s) (sym de) (inl e)) | inr z ↦ absurd z ]) ((λ u i. absurd i), record {}));
    first = λ u v p q. elim (in_append u out (x ∷ []) p) [
      | inl k ↦ t.first u v k (subst (λ s. IsIn v s) (sym de) (inr q))
      | inr k ↦ elim k [ inl e ↦ subst (λ s. key s < key v) (sym e) (head_below x (drop (i + 1) xs) (subst (λ s. Ascends (map key s)) de a) v q) | inr z ↦ absurd z ]
    ];
    second = λ u v p q. elim (in_append u out (x ∷ []) p) [
      | inl k ↦ t.second u v k q
      | inr k ↦ elim k [ inl e ↦ subst (λ s. key s < key v) (sym e) (l v q) | inr z ↦ absurd z ]
    ];
  }

  other_way : (xs ys out : List T) (i j : ℕ) → Turned xs ys i j out → Turned ys xs j i out
  other_way xs ys out i j t = record { merged = swapped (take i xs) (take j ys) out t.merged; first = t.second; second = t.first }

  pub turn_first : (xs ys out : List T) (x y : T) (i j : ℕ) → Ascends (map key xs) → Ascends (map key ys) → i < length xs → j < length ys → x ≡ get_or xs i x → y ≡ get_or ys j y → key x < key y
      → Turned xs ys i j out → Turned xs ys (i + 1) j (out ++ x ∷ [])
  turn_first xs ys out x y i j ax ay li lj ex ey l t =
      turned_first xs ys out [] [] x i j (take_more xs i x li ∙ ap (λ s. take i xs ++ s ∷ []) (sym ex)) (drop_more xs i x li ∙ ap (λ s. s ∷ drop (i + 1) xs) (sym ex)) (ascends_drop i xs ax) t
      (λ v q. below_all x y (drop (j + 1) ys) (subst (λ s. Ascends (map key s)) dy (ascends_drop j ys ay)) l v (subst (λ s. IsIn v s) dy q))
    where
      dy : drop j ys ≡ y ∷ drop (j + 1) ys
      dy = drop_more ys j y lj ∙ ap (λ s. s ∷ drop (j + 1) ys) (sym ey)

  pub turn_second : (xs ys out : List T) (x y : T) (i j : ℕ) → Ascends (map key xs) → Ascends (map key ys) → i < length xs → j < length ys → x ≡ get_or xs i x → y ≡ get_or ys j y → key y < key x
      → Turned xs ys i j out → Turned xs ys i (j + 1) (out ++ y ∷ [])
  turn_second xs ys out x y i j ax ay li lj ex ey l t = other_way ys xs (out ++ y ∷ []) (j + 1) i (turn_first ys xs out y x j i ay ax lj li ey ex l (other_way xs ys out i j t))

  pub turn_both : (xs ys out : List T) (x y : T) (i j : ℕ) → Ascends (map key xs) → Ascends (map key ys) → i < length xs → j < length ys → x ≡ get_or xs i x → y ≡ get_or ys j y → x ≡ y
      → Turned xs ys i j out → Turned xs ys (i + 1) (j + 1) (out ++ x ∷ [])
  turn_both xs ys out x y i j ax ay li lj ex ey e t = record {
    merged = subst (λ s. Merges key s (take (j + 1) ys) (out ++ x ∷ [])) (sym tx) (subst (λ s. Merges key (take i xs ++ x ∷ []) s (out ++ x ∷ [])) (sym ty)
        (append_both (take i xs) (take j ys) out x y e t.merged (λ u v p q. elim q [ inl k ↦ t.first u v p (subst (λ s. IsIn v s) (sym dx) (inl k)) | inr z ↦ absurd z ])));
    first = λ u v p q. elim (in_append u out (x ∷ []) p) [
      | inl k ↦ t.first u v k (subst (λ s. IsIn v s) (sym dx) (inr q))
      | inr k ↦ elim k [ inl f ↦ subst (λ s. key s < key v) (sym f) (head_below x (drop (i + 1) xs) (subst (λ s. Ascends (map key s)) dx (ascends_drop i xs ax)) v q) | inr z ↦ absurd z ]
    ];
    second = λ u v p q. elim (in_append u out (x ∷ []) p) [
      | inl k ↦ t.second u v k (subst (λ s. IsIn v s) (sym dy) (inr q))
      | inr k ↦ elim k [ inl f ↦ subst (λ s. key s < key v) (sym (f ∙ e)) (head_below y (drop (j + 1) ys) (subst (λ s. Ascends (map key s)) dy (ascends_drop j ys ay)) v q) | inr z ↦ absurd z ]
    ];
  }
    where
      tx : take (i + 1) xs ≡ take i xs ++ x ∷ []
      tx = take_more xs i x li ∙ ap (λ s. take i xs ++ s ∷ []) (sym ex)

      ty : take (j + 1) ys ≡ take j ys ++ y ∷ []
      ty = take_more ys j y lj ∙ ap (λ s. take j ys ++ s ∷ []) (sym ey)

      dx : drop i xs ≡ x ∷ drop (i + 1) xs
      dx = drop_more xs i x li ∙ ap (λ s. s ∷ drop (i + 1) xs) (sym ex)

      dy : drop j ys ≡ y ∷ drop (j + 1) ys
      dy = drop_more ys j y lj ∙ ap (λ s. s ∷ drop (j + 1) ys) (sym ey)

  pub finished : (xs ys out : List T) (i j : ℕ) → Ascends (map key xs) → Ascends (map key ys) → Turned xs ys i j out → (length xs ≤ i) ⊎ (length ys ≤ j) → IsMerged key xs ys ((out ++ drop i xs) ++ drop j ys)
  finished xs ys out i j ax ay t w = record { ascend = rises (map key ((out ++ drop i xs) ++ drop j ys)) m.ascends; are = m.is }
    where
      below : AreBelow key (out ++ drop i xs) (drop j ys)
      below u v p q = elim w [
        | inl l ↦ t.second u v (subst (λ s. IsIn u s) (append-nil out) (subst (λ s. IsIn u (out ++ s)) (drop_all i xs l) p)) q
        | inr l ↦ absurd (subst (λ s. IsIn v s) (drop_all j ys l) q)
      ]

      m : Merges key xs ys ((out ++ drop i xs) ++ drop j ys)
      m = subst (λ s. Merges key s ys ((out ++ drop i xs) ++ drop j ys)) (take-append-drop i xs) (subst (λ s. Merges key (take i xs ++ drop i xs) s ((out ++ drop i xs) ++ drop j ys)) (take-append-drop j ys)
          (swapped (take j ys ++ drop j ys) (take i xs ++ drop i xs) ((out ++ drop i xs) ++ drop j ys) (append_first (take j ys) (take i xs ++ drop i xs) (out ++ drop i xs) (drop j ys)
          (swapped (take i xs ++ drop i xs) (take j ys) (out ++ drop i xs) (append_first (take i xs) (take j ys) out (drop i xs) t.merged t.first (ascends_drop i xs ax))) below (ascends_drop j ys ay))))
