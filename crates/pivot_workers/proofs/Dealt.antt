-- How the arcs of a list are dealt among workers.
use Rattle.std.proofs.Common.{◌≡◌, ℕ, zero, suc, ◌+◌, ◌<◌, ◌≤◌, List, [], ◌∷◌, ◌++◌, drop, get_or, length, sym, ap, ◌∙◌, refl, arith, append_assoc}
use Rattle.tree_table.specs.Weights.{weigh, AreSame}
use Rattle.tree_table.proofs.Sums.{weigh-append}
use Rattle.pivot_workers.specs.Sweeps.{dealt}
use Rattle.pivot_workers.specs.Work.{dealt_to}

-- ---- one place after the other

dealt_drop : (gap k : ℕ) (xs : List ℕ) → dealt gap k xs ≡ dealt gap 0 (drop k xs)
dealt_drop gap zero xs = refl
dealt_drop gap (suc k) [] = refl
dealt_drop gap (suc k) (x ∷ xs) = dealt_drop gap k xs

drop_long : (k : ℕ) (xs : List ℕ) → length xs ≤ k → drop k xs ≡ []
drop_long zero [] le = refl
drop_long zero (x ∷ xs) le = absurd (omega arith)
drop_long (suc k) [] le = refl
drop_long (suc k) (x ∷ xs) le = drop_long k xs (omega arith)

-- the next arc, and those after it
dealt_at : (gap step k : ℕ) (xs : List ℕ) → step ≡ gap + 1 → k < length xs → dealt gap 0 (drop k xs) ≡ get_or xs k 0 ∷ dealt gap 0 (drop (k + step) xs)
dealt_at gap step zero [] s lt = absurd (omega arith)
dealt_at gap step zero (x ∷ xs) s lt =
    ap (λ z. x ∷ z) (dealt_drop gap gap xs) ∙ ap (λ (j : ℕ). x ∷ dealt gap 0 (drop j (x ∷ xs))) (let e : suc gap ≡ 0 + step = omega arith in e)
dealt_at gap step (suc k) [] s lt = absurd (omega arith)
dealt_at gap step (suc k) (x ∷ xs) s lt =
    dealt_at gap step k xs s (omega arith) ∙ ap (λ (j : ℕ). get_or xs k 0 ∷ dealt gap 0 (drop j (x ∷ xs))) (let e : suc (k + step) ≡ suc k + step = omega arith in e)

pub dealt_first : (gap k : ℕ) (xs : List ℕ) → dealt gap k xs ≡ [] ++ dealt gap 0 (drop k xs)
dealt_first gap k xs = dealt_drop gap k xs

pub dealt_end : (gap k : ℕ) (xs : List ℕ) → length xs ≤ k → dealt gap 0 (drop k xs) ≡ []
dealt_end gap k xs le = ap (dealt gap 0) (drop_long k xs le)

-- what was tried and what is left, after one arc more
pub next_part : (own tried : List ℕ) (gap step k arc : ℕ) (list : List ℕ) → step ≡ gap + 1 → k < length list → arc ≡ get_or list k 0 → own ≡ tried ++ dealt gap 0 (drop k list)
    → own ≡ (tried ++ arc ∷ []) ++ dealt gap 0 (drop (k + step) list)
next_part own tried gap step k arc list s lt is e =
    e ∙ (ap (λ z. tried ++ z) (dealt_at gap step k list s lt) ∙ (ap (λ (x : ℕ). tried ++ x ∷ dealt gap 0 (drop (k + step) list)) (sym is) ∙ sym (append_assoc tried (arc ∷ []) (dealt gap 0 (drop (k + step) list)))))

-- with one worker all arcs are its own
pub dealt_all : (xs : List ℕ) → dealt 0 0 xs ≡ xs
dealt_all [] = refl
dealt_all (x ∷ xs) = ap (λ z. x ∷ z) (dealt_all xs)

-- ---- among several places

pub dealt_split : (f : ℕ → ℕ) (gap place h o : ℕ) (list : List ℕ) → weigh f (dealt_to gap place (h + o) list) ≡ weigh f (dealt_to gap place h list) + weigh f (dealt_to gap (place + h) o list)
dealt_split f gap place zero o list =
    let a : weigh f (dealt_to gap place (0 + o) list) ≡ weigh f (dealt_to gap (place + 0) o list) = (λ i. weigh f (dealt_to gap ((let e : place ≡ place + 0 = omega arith in e) i) ((let e : 0 + o ≡ o = omega arith in e) i) list)) in omega arith
dealt_split f gap place (suc h) o list =
    let a : weigh f (dealt_to gap place (suc h + o) list) ≡ weigh f (dealt gap place list ++ dealt_to gap (suc place) (h + o) list) = ap (λ (k : ℕ). weigh f (dealt_to gap place k list)) (let e : suc h + o ≡ suc (h + o) = omega arith in e) in
    let b = weigh-append f (dealt gap place list) (dealt_to gap (suc place) (h + o) list) in
    let c = dealt_split f gap (suc place) h o list in
    let d = weigh-append f (dealt gap place list) (dealt_to gap (suc place) h list) in
    let e : weigh f (dealt_to gap (suc place + h) o list) ≡ weigh f (dealt_to gap (place + suc h) o list) = ap (λ (k : ℕ). weigh f (dealt_to gap k o list)) (let e : suc place + h ≡ place + suc h = omega arith in e) in
    omega arith

dealt_next : (f : ℕ → ℕ) (gap k c x : ℕ) (xs : List ℕ) → weigh f (dealt_to gap (suc k) c (x ∷ xs)) ≡ weigh f (dealt_to gap k c xs)
dealt_next f gap k zero x xs = refl
dealt_next f gap k (suc c) x xs =
    let a = weigh-append f (dealt gap k xs) (dealt_to gap (suc (suc k)) c (x ∷ xs)) in
    let b = weigh-append f (dealt gap k xs) (dealt_to gap (suc k) c xs) in
    let d = dealt_next f gap (suc k) c x xs in omega arith

none_dealt : (f : ℕ → ℕ) (gap c k : ℕ) → weigh f (dealt_to gap k c []) ≡ 0
none_dealt f gap zero k = refl
none_dealt f gap (suc c) k = none_dealt f gap c (suc k)

-- a list is dealt out among all places, each arc to one of them
pub dealt_whole : (gap : ℕ) (xs : List ℕ) → AreSame (dealt_to gap 0 (gap + 1) xs) xs
dealt_whole gap [] f = none_dealt f gap (gap + 1) 0
dealt_whole gap (x ∷ xs) f =
    let a = dealt_whole gap xs f in
    let b : weigh f (dealt_to gap 0 (gap + 1) (x ∷ xs)) ≡ weigh f (dealt_to gap 0 (suc gap) (x ∷ xs)) = ap (λ (k : ℕ). weigh f (dealt_to gap 0 k (x ∷ xs))) (let e : gap + 1 ≡ suc gap = omega arith in e) in
    let c = weigh-append f (x ∷ dealt gap gap xs) (dealt_to gap 1 gap (x ∷ xs)) in
    let d = dealt_next f gap 0 gap x xs in
    let e = dealt_split f gap 0 gap 1 xs in
    let g = weigh-append f (dealt gap gap xs) [] in
    let h : weigh f (dealt_to gap (0 + gap) 1 xs) ≡ weigh f (dealt gap gap xs ++ []) = ap (λ (k : ℕ). weigh f (dealt gap k xs ++ [])) (let e : 0 + gap ≡ gap = omega arith in e) in
    omega arith
