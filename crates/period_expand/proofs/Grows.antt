-- The staged arcs grow by one flow, and by one period.
use Rattle.std.specs.Prelude.{◌≡◌, ℕ, zero, suc, ◌+◌, ◌<◌, Option, Some, None, List, [], ◌∷◌, ◌++◌, length, take}
use Rattle.std.specs.List.{filter_map, flat_map, enumerate_from, range_with_len, cons_option}
use Rattle.std.proofs.Common.{arith, sym, ap, ◌∙◌, get_or, append_assoc}
use Rattle.std.proofs.lemmas.List.{append-nil, take_more, length-take}
use Rattle.std.proofs.lemmas.List.Elements.{filter_map-append}
use Rattle.std.proofs.lemmas.List.Concat.{flat_map-append}

pub enumerate_from-append : {X : Type 0} (n : ℕ) (xs ys : List X) → enumerate_from n (xs ++ ys) ≡ enumerate_from n xs ++ enumerate_from (n + length xs) ys
enumerate_from-append n [] ys = ap (λ (k : ℕ). enumerate_from k ys) (omega arith)
enumerate_from-append n (x ∷ xs) ys = ap (λ zs. (n, x) ∷ zs) (enumerate_from-append (n + 1) xs ys ∙ ap (λ (k : ℕ). enumerate_from (n + 1) xs ++ enumerate_from k ys) (omega arith))

-- a stage is pushed where there is one
pub pushed : {Y : Type 0} (old new : List Y) (o p : Option Y) (y : Y) → o ≡ Some y → o ≡ p → new ≡ old ++ y ∷ [] → new ≡ old ++ cons_option p []
pushed old new o p y is same e = e ∙ ap (λ q. old ++ cons_option q []) (sym is ∙ same)

pub not_pushed : {Y : Type 0} (old new : List Y) (o p : Option Y) → o ≡ None → o ≡ p → new ≡ old → new ≡ old ++ cons_option p []
not_pushed old new o p is same e = e ∙ sym (append-nil old) ∙ ap (λ q. old ++ cons_option q []) (sym is ∙ same)

pub flow_more : {X Y : Type 0} (f : ℕ × X → Option Y) (xs : List X) (i : ℕ) (x : X) → i < length xs → x ≡ get_or xs i x →
    filter_map f (enumerate_from 0 (take (i + 1) xs)) ≡ filter_map f (enumerate_from 0 (take i xs)) ++ cons_option (f (i, x)) []
flow_more f xs i x h e =
    let whole = take_more xs i x h ∙ ap (λ y. take i xs ++ y ∷ []) (sym e) in
    let size : length (take i xs) ≡ i = omega (arith, length-take i xs) in
    ap (λ ys. filter_map f (enumerate_from 0 ys)) whole ∙ ap (filter_map f) (enumerate_from-append 0 (take i xs) (x ∷ []))
    ∙ filter_map-append f (enumerate_from 0 (take i xs)) (enumerate_from (0 + length (take i xs)) (x ∷ []))
    ∙ ap (λ (k : ℕ). filter_map f (enumerate_from 0 (take i xs)) ++ cons_option (f (k, x)) []) (omega (arith, size))

pub flows_more : {X Y : Type 0} (f : ℕ × X → Option Y) (xs : List X) (i : ℕ) (x : X) → i < length xs → x ≡ get_or xs i x → (before old new : List Y) →
    old ≡ before ++ filter_map f (enumerate_from 0 (take i xs)) → new ≡ old ++ cons_option (f (i, x)) [] →
    new ≡ before ++ filter_map f (enumerate_from 0 (take (i + 1) xs))
flows_more f xs i x h e before old new was is =
    is ∙ ap (λ ys. ys ++ cons_option (f (i, x)) []) was
    ∙ append_assoc before (filter_map f (enumerate_from 0 (take i xs))) (cons_option (f (i, x)) [])
    ∙ ap (λ ys. before ++ ys) (sym (flow_more f xs i x h e))

pub range_more : (a n : ℕ) → range_with_len a (suc n) ≡ range_with_len a n ++ (a + n) ∷ []
range_more a zero = ap (λ (k : ℕ). k ∷ []) (omega arith)
range_more a (suc n) = ap (λ ks. a ∷ ks) (range_more (a + 1) n ∙ ap (λ (k : ℕ). range_with_len (a + 1) n ++ k ∷ []) (omega arith))

-- the pieces of so many periods, and that of the next
pub periods_more : {Y : Type 0} (f : ℕ → List Y) (n : ℕ) (old new : List Y) → old ≡ flat_map f (range_with_len 1 n) → new ≡ old ++ f (n + 1) →
    new ≡ flat_map f (range_with_len 1 (n + 1))
periods_more f n old new was is =
    let e : n + 1 ≡ suc n = omega arith in
    let k : 1 + n ≡ n + 1 = omega arith in
    let r : range_with_len 1 (n + 1) ≡ range_with_len 1 n ++ (n + 1) ∷ [] =
    ap (λ (m : ℕ). range_with_len 1 m) e ∙ range_more 1 n ∙ ap (λ (m : ℕ). range_with_len 1 n ++ m ∷ []) k in
    is ∙ ap (λ ys. ys ++ f (n + 1)) was
    ∙ ap (λ ys. flat_map f (range_with_len 1 n) ++ ys) (sym (append-nil (f (n + 1))))
    ∙ sym (flat_map-append f (range_with_len 1 n) ((n + 1) ∷ [])) ∙ ap (flat_map f) (sym r)
