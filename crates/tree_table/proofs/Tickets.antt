-- Entries sorted by their tickets, of which each stands once.
use Rattle.std.proofs.Common.{◌≡◌, ℕ, suc, ◌<◌, ◌≤◌, List, [], ◌∷◌, map, length, get_or, sym, ap, ◌∙◌, subst, refl, arith, cond, eq-eqb, ne_eqb, eqb}
use mathlib.Core.Logic.{dite}
use native.Mathlib.Decide.{ℕ_discrete}
use Rattle.std.specs.List.Sorted.{IsNonDecreasingBy}
use Rattle.np_model.specs.declared.log.Entry.{Entry}
use Rattle.np_model.specs.declared.log.Mark.TheVariants.{Lower}
use Rattle.tree_table.specs.Passes.{Pivoted}
use Rattle.tree_table.specs.Weights.{weigh, AreSame, once}
use Rattle.tree_table.specs.Replay.{numbered}
use Rattle.tree_table.specs.Steps.Closing.{ticketed_from}
use Rattle.tree_table.proofs.Deciding.{number_of, same_mark}
use Rattle.tree_table.proofs.Sums.{once-same, once-other}

abbrev pub Ticketed : Type 0
Ticketed = ℕ × Entry

-- ---- an entry is told by three numbers

same_entry : (a b : Entry) → a.enter ≡ b.enter → a.leave ≡ b.leave → number_of a.leave_at ≡ number_of b.leave_at → a ≡ b
same_entry a b enter leave at =
    let at' : a.leave_at ≡ b.leave_at = same_mark a.leave_at b.leave_at at in λ i. record { enter = enter i; leave = leave i; leave_at = at' i }

-- ---- lists that rise by their tickets

abbrev Rising : ℕ → List Ticketed → Type 0
Rising n [] = Unit {0}
Rising n (x ∷ xs) = (n ≤ x.0) × Rising x.0 xs

-- how many have the ticket n
abbrev count : ℕ → List Ticketed → ℕ
count n xs = weigh (λ (x : Ticketed). once n x.0) xs

-- what an entry with the ticket n tells
abbrev value : (Entry → ℕ) → ℕ → Ticketed → ℕ
value h n x = cond (eqb x.0 n) (h x.1) 0

none_later : (n m : ℕ) (es : List Entry) → n < m → count n (ticketed_from m es) ≡ 0
none_later n m [] lt = refl
none_later n m (e ∷ es) lt = let z : once n m ≡ 0 = once-other n m (λ q. omega arith) in omega (arith, none_later n (suc m) es (omega arith))

none_higher : (n m : ℕ) (xs : List Ticketed) → n < m → Rising m xs → count n xs ≡ 0
none_higher n m [] lt up = refl
none_higher n m (x ∷ xs) lt up = let z : once n x.0 ≡ 0 = once-other n x.0 (λ q. let a = up.0 in omega arith) in omega (arith, none_higher n x.0 xs (let a = up.0 in omega arith) up.1)

no_value : (h : Entry → ℕ) (n : ℕ) (xs : List Ticketed) → count n xs ≡ 0 → weigh (value h n) xs ≡ 0
no_value h n [] z = refl
no_value h n (x ∷ xs) z =
    dite (ℕ_discrete x.0 n)
    (λ e. absurd (let o : once n x.0 ≡ 1 = subst (λ (k : ℕ). once n k ≡ 1) (sym e) (once-same n) in omega arith))
    (λ ne. let v : value h n x ≡ 0 = ap (λ b. cond b (h x.1) 0) (ne_eqb x.0 n ne) in omega (arith, no_value h n xs (omega arith)))

higher : (n m : ℕ) (xs : List Ticketed) → n ≤ m → Rising n xs → count n xs ≡ 0 → Rising (suc n) xs
higher n m [] le up z = tt
higher n m (x ∷ xs) le up z =
    dite (ℕ_discrete x.0 n)
    (λ e. absurd (let o : once n x.0 ≡ 1 = subst (λ (k : ℕ). once n k ≡ 1) (sym e) (once-same n) in omega arith))
    (λ ne. ((let a = up.0 in omega arith), up.1))

-- the first of both has the same ticket, and tells the same
first_ticket : (n : ℕ) (x : Ticketed) (xs : List Ticketed) (e : Entry) (es : List Entry) → Rising n (x ∷ xs) → AreSame (x ∷ xs) (ticketed_from n (e ∷ es)) → x.0 ≡ n
first_ticket n x xs e es up same =
    let later = none_later n (suc n) es (omega arith) in
    let own : once n n ≡ 1 = once-same n in
    let c = same (λ (y : Ticketed). once n y.0) in
    dite (ℕ_discrete x.0 n) (λ q. q) (λ ne. absurd (
    let lt : n < x.0 = let a = up.0 in omega arith in
    let z : once n x.0 ≡ 0 = once-other n x.0 ne in let y = none_higher n x.0 xs lt up.1 in omega arith))

others_none : (n : ℕ) (x : Ticketed) (xs : List Ticketed) (e : Entry) (es : List Entry) → x.0 ≡ n → AreSame (x ∷ xs) (ticketed_from n (e ∷ es)) → count n xs ≡ 0
others_none n x xs e es first same =
    let later = none_later n (suc n) es (omega arith) in
    let own : once n n ≡ 1 = once-same n in
    let c = same (λ (y : Ticketed). once n y.0) in
    let one : once n x.0 ≡ 1 = subst (λ (k : ℕ). once n k ≡ 1) (sym first) own in omega arith

first_tells : (h : Entry → ℕ) (n : ℕ) (x : Ticketed) (xs : List Ticketed) (e : Entry) (es : List Entry) → x.0 ≡ n → count n xs ≡ 0
    → AreSame (x ∷ xs) (ticketed_from n (e ∷ es)) → h x.1 ≡ h e
first_tells h n x xs e es first none same =
    let later = none_later n (suc n) es (omega arith) in
    let vx : value h n x ≡ h x.1 = ap (λ b. cond b (h x.1) 0) (eq-eqb x.0 n first) in
    let ve : value h n (n, e) ≡ h e = ap (λ b. cond b (h e) 0) (eq-eqb n n refl) in
    let w = same (value h n) in let vr = no_value h n xs none in let vl = no_value h n (ticketed_from (suc n) es) later in omega arith

pub in_ticket_order : (n : ℕ) (xs : List Ticketed) (es : List Entry) → Rising n xs → AreSame xs (ticketed_from n es) → xs ≡ ticketed_from n es
in_ticket_order n [] [] up same = refl
in_ticket_order n (x ∷ xs) [] up same = absurd (let z = same (λ _. 1) in omega arith)
in_ticket_order n [] (e ∷ es) up same = absurd (let z = same (λ _. 1) in omega arith)
in_ticket_order n (x ∷ xs) (e ∷ es) up same =
    let first : x.0 ≡ n = first_ticket n x xs e es up same in
    let none : count n xs ≡ 0 = others_none n x xs e es first same in
    let tells : (h : Entry → ℕ) → h x.1 ≡ h e = λ h. first_tells h n x xs e es first none same in
    let second : x.1 ≡ e = same_entry x.1 e (tells (λ y. y.enter)) (tells (λ y. y.leave)) (tells (λ y. number_of y.leave_at)) in
    let head : x ≡ (n, e) = λ i. (first i, second i) in
    let tail = in_ticket_order (suc n) xs es (higher n n xs (omega arith) (subst (λ (k : ℕ). Rising k xs) first up.1) none)
    (λ f. let s = same f in let h : f x ≡ f (n, e) = ap f head in omega arith) in
    λ i. head i ∷ tail i

rising_from : (n : ℕ) (xs : List Ticketed) (d : Ticketed) → IsNonDecreasingBy (λ (x : Ticketed). x.0) xs → (0 < length xs → n ≤ (get_or xs 0 d).0) → Rising n xs
rising_from n [] d up first = tt
rising_from n (x ∷ xs) d up first = (first (omega arith), rising_from x.0 xs d (λ i j d le near. up (suc i) (suc j) d (omega arith) (omega arith)) (λ some_more. up 0 1 d (omega arith) (omega arith)))

abbrev no_entry : Ticketed
no_entry = (0, record { enter = 0; leave = 0; leave_at = Lower })

pub rising : (xs : List Ticketed) → IsNonDecreasingBy (λ (x : Ticketed). x.0) xs → Rising 0 xs
rising xs up = rising_from 0 xs no_entry up (λ _. omega arith)

pub seconds : (n : ℕ) (es : List Entry) → map (λ (x : Ticketed). x.1) (ticketed_from n es) ≡ es
seconds n [] = refl
seconds n (e ∷ es) = ap (λ z. e ∷ z) (seconds (suc n) es)

-- ---- the entries of a pass that made all of them

abbrev pub plain : ℕ × Pivoted → Ticketed
plain m = (m.0, m.1.entry)

numbered-plain : (n : ℕ) (log : List Pivoted) → map plain (numbered n log) ≡ ticketed_from n (map (λ (m : Pivoted). m.entry) log)
numbered-plain n [] = refl
numbered-plain n (m ∷ ms) = ap (λ z. (n, m.entry) ∷ z) (numbered-plain (suc n) ms)

weigh-map : {A B : Type 0} (h : A → B) (g : B → ℕ) (xs : List A) → weigh g (map h xs) ≡ weigh (λ x. g (h x)) xs
weigh-map h g [] = refl
weigh-map h g (x ∷ xs) = omega (arith, weigh-map h g xs)

pub plain_same : (made : List Ticketed) (entries : List (ℕ × Pivoted)) (log : List Pivoted) → made ≡ map plain entries → AreSame entries (numbered 0 log)
    → AreSame made (ticketed_from 0 (map (λ (m : Pivoted). m.entry) log))
plain_same made entries log is same g =
    ap (weigh g) is ∙ (weigh-map plain g entries ∙ (same (λ m. g (plain m)) ∙ (sym (weigh-map plain g (numbered 0 log)) ∙ ap (weigh g) (numbered-plain 0 log))))

-- ---- entries in the order of their tickets

rising_ticketed : (k n : ℕ) (es : List Entry) → k ≤ n → Rising k (ticketed_from n es)
rising_ticketed k n [] le = tt
rising_ticketed k n (e ∷ es) le = (le, rising_ticketed n (suc n) es (omega arith))

-- logs whose numbered pivots are the same have the same entries, in the same order
pub log_is_one : (log other : List Pivoted) → AreSame (numbered 0 log) (numbered 0 other) → map (λ (m : Pivoted). m.entry) log ≡ map (λ (m : Pivoted). m.entry) other
log_is_one log other same =
    let es : List Entry = map (λ (m : Pivoted). m.entry) log in
    let fs : List Entry = map (λ (m : Pivoted). m.entry) other in
    let one : ticketed_from 0 es ≡ ticketed_from 0 fs =
    in_ticket_order 0 (ticketed_from 0 es) fs (rising_ticketed 0 0 es (omega arith)) (plain_same (ticketed_from 0 es) (numbered 0 log) other (sym (numbered-plain 0 log)) same) in
    sym (seconds 0 es) ∙ (ap (map (λ (x : Ticketed). x.1)) one ∙ seconds 0 fs)
