-- Flows with their bands, when a flow or a band is added.
use Rattle.std.specs.Prelude.{◌≡◌, ℕ, ◌+◌, ◌<◌, ◌==◌, true, false, suc, zero, Some, List, [], ◌∷◌, ◌++◌, length, set, slice_get}
use Rattle.std.specs.List.{AllByRecursion}
use Rattle.std.proofs.Common.{refl, sym, ap, ◌∙◌, arith}
use Rattle.std.proofs.lemmas.Bool.Decides.{nat_tests}
use Rattle.std.proofs.lemmas.List.{append-nil}
use Rattle.std.proofs.lemmas.List.Elements.{filter_map-append}
use Rattle.np_model.specs.declared.scheme.Band.{Band}
use Rattle.np_model.specs.declared.scheme.Flow.{Flow}
use Rattle.net_csv.specs.Network.{bands_at, with_bands}
use Rattle.net_csv.specs.Steps.Tables.{banded}

bands-append : (ps qs : List (ℕ × Band)) (k : ℕ) → bands_at (ps ++ qs) k ≡ bands_at ps k ++ bands_at qs k
bands-append ps qs k = filter_map-append _ ps qs

-- no band of a flow that no piece names
pub bands-beyond : (ps : List (ℕ × Band)) (n : ℕ) → AllByRecursion (λ p. p.0 < n) ps → bands_at ps n ≡ []
bands-beyond [] n h = refl
bands-beyond (p ∷ ps) n h =
    let apart : (p.0 == n) ≡ false = let below : p.0 < n = h.0 in grind (arith, nat_tests) in
    rw apart (bands-beyond ps n h.1)

-- a flow more, without bands
pub with_bands-flow : (n : ℕ) (hs : List Flow) (h : Flow) (ps : List (ℕ × Band)) → bands_at ps (n + length hs) ≡ [] → h.bands ≡ []
    → with_bands n (hs ++ h ∷ []) ps ≡ with_bands n hs ps ++ h ∷ []
with_bands-flow n [] h ps e b =
    let here : bands_at ps n ≡ h.bands = (let z : n + 0 ≡ n = omega arith in rw z at e) ∙ sym b in
    rw here refl
with_bands-flow n (g ∷ gs) h ps e b =
    let z : n + suc (length gs) ≡ (n + 1) + length gs = omega arith in
    ap (λ (l : List Flow). record g { bands = bands_at ps n } ∷ l) (with_bands-flow (n + 1) gs h ps (rw z at e) b)

-- a band more of a flow that stands before them
with_bands-other : (n k : ℕ) (hs : List Flow) (ps : List (ℕ × Band)) (b : Band) → k < n → with_bands n hs (ps ++ (k, b) ∷ []) ≡ with_bands n hs ps
with_bands-other n k [] ps b h = refl
with_bands-other n k (g ∷ gs) ps b h =
    let apart : (k == n) ≡ false = grind (arith, nat_tests) in
    let same : bands_at (ps ++ (k, b) ∷ []) n ≡ bands_at ps n = bands-append ps ((k, b) ∷ []) n ∙ rw apart (append-nil (bands_at ps n)) in
    rw same (ap (λ (l : List Flow). record g { bands = bands_at ps n } ∷ l) (with_bands-other (n + 1) k gs ps b (omega arith)))

-- a band more of one of them
pub with_bands-band : (n j : ℕ) (hs : List Flow) (ps : List (ℕ × Band)) (b : Band) (f : Flow) → slice_get (with_bands n hs ps) j ≡ Some f
    → with_bands n hs (ps ++ (n + j, b) ∷ []) ≡ set (with_bands n hs ps) j (banded f b)
with_bands-band n j [] ps b f e = absurd (cc e)
with_bands-band n zero (g ∷ gs) ps b f e =
    let z : n + 0 ≡ n = omega arith in
    let here : record g { bands = bands_at ps n } ≡ f = cc e in
    let hit : (n == n) ≡ true = grind (arith, nat_tests) in
    let more : bands_at (ps ++ (n, b) ∷ []) n ≡ bands_at ps n ++ b ∷ [] = bands-append ps ((n, b) ∷ []) n ∙ rw hit refl in
    rw (z, more, with_bands-other (n + 1) n gs ps b (omega arith), sym here) refl
with_bands-band n (suc j) (g ∷ gs) ps b f e =
    let z : n + suc j ≡ (n + 1) + j = omega arith in
    let apart : (((n + 1) + j) == n) ≡ false = grind (arith, nat_tests) in
    let same : bands_at (ps ++ ((n + 1) + j, b) ∷ []) n ≡ bands_at ps n = bands-append ps (((n + 1) + j, b) ∷ []) n ∙ rw apart (append-nil (bands_at ps n)) in
    rw (z, same) (ap (λ (l : List Flow). record g { bands = bands_at ps n } ∷ l) (with_bands-band (n + 1) j gs ps b f e))
