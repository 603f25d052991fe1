-- The pieces that an arc needs, of all pieces of a state, in the order of their slots, are one list.
use Rattle.std.proofs.Common.{◌≡◌, ◌⊎◌, inl, inr, ⊎_elim, ℕ, ◌<◌, List, [], ◌∷◌, ap, refl, arith}
use Rattle.gain_graphs.specs.Arcs.{IsIn}
use Rattle.np_model.specs.declared.arc.Ends.{Ends}
use Rattle.np_model.specs.declared.arc.Ends.TheVariants.{Link, Drain, Feed}
use Rattle.np_model.specs.Network.Flows.{Network}
use Rattle.np_model.specs.Basis.Needed.{AreNeededFor}
use Rattle.np_model.specs.Basis.Pieces.{PieceLists, nodes_in, least_node}
use Rattle.np_model.specs.Basis.Sound.{AreInOrder}
use Rattle.np_basis.proofs.Roots.{only_one}
use Rattle.tree_table.specs.Weights.{AreAmong}
use Rattle.pivot_workers.specs.Forests.{AreForest}
use Rattle.pivot_workers.proofs.Forest.{there, one_piece}

module _ (net : Network) (now : List PieceLists) (f : AreForest net now) where
  same_at : (v : ℕ) (p q : PieceLists) → IsIn p now → IsIn q now → IsIn v (nodes_in p) → IsIn v (nodes_in q) → p ≡ q
  same_at v p q inp inq hasp hasq = one_piece net now f p q v inp inq hasp hasq

  -- one piece has both ends, or two have one each, and not both
  not_both : (a b : ℕ) (p q r : PieceLists) → IsIn p now → IsIn q now → IsIn r now → IsIn a (nodes_in p) → IsIn b (nodes_in p) → least_node q < least_node r
      → (IsIn a (nodes_in q) × IsIn b (nodes_in r)) ⊎ (IsIn b (nodes_in q) × IsIn a (nodes_in r)) → ⊥
  not_both a b p q r inp inq inr' hasa hasb up s =
      let clash : p ≡ q → p ≡ r → ⊥ = λ e g. absurd (let x = ap least_node e in let y = ap least_node g in omega arith) in
      ⊎_elim
      (λ (x : IsIn a (nodes_in q) × IsIn b (nodes_in r)). clash (same_at a p q inp inq hasa x.0) (same_at b p r inp inr' hasb x.1))
      (λ (x : IsIn b (nodes_in q) × IsIn a (nodes_in r)). clash (same_at b p q inp inq hasb x.0) (same_at a p r inp inr' hasa x.1))
      s

  abbrev Linked : ℕ → ℕ → PieceLists → PieceLists → Type 0
  Linked a b p q = (IsIn a (nodes_in p) × IsIn b (nodes_in q)) ⊎ (IsIn b (nodes_in p) × IsIn a (nodes_in q))

  turned : (a b : ℕ) (p q : PieceLists) → (IsIn a (nodes_in p) × IsIn b (nodes_in q)) ⊎ (IsIn a (nodes_in q) × IsIn b (nodes_in p)) → Linked a b p q
  turned a b p q h = ⊎_elim (λ (x : IsIn a (nodes_in p) × IsIn b (nodes_in q)). inl x) (λ (x : IsIn a (nodes_in q) × IsIn b (nodes_in p)). inr (x.1, x.0)) h

  two_same : (a b : ℕ) (p q r t : PieceLists) → IsIn p now → IsIn q now → IsIn r now → IsIn t now → least_node p < least_node q → least_node r < least_node t
      → Linked a b p q → Linked a b r t → p ∷ q ∷ [] ≡ r ∷ t ∷ []
  two_same a b p q r t ip iq ir it up up' s u =
      let P : Type 0 = p ∷ q ∷ [] ≡ r ∷ t ∷ [] in
      let crossed : p ≡ t → q ≡ r → P = λ e g. absurd (let x = ap least_node e in let y = ap least_node g in omega arith) in
      let straight : p ≡ r → q ≡ t → P = λ e g i. e i ∷ g i ∷ [] in
      ⊎_elim
      (λ (x : IsIn a (nodes_in p) × IsIn b (nodes_in q)).
      ⊎_elim
      (λ (y : IsIn a (nodes_in r) × IsIn b (nodes_in t)). straight (same_at a p r ip ir x.0 y.0) (same_at b q t iq it x.1 y.1))
      (λ (y : IsIn b (nodes_in r) × IsIn a (nodes_in t)). crossed (same_at a p t ip it x.0 y.1) (same_at b q r iq ir x.1 y.0))
      u)
      (λ (x : IsIn b (nodes_in p) × IsIn a (nodes_in q)).
      ⊎_elim
      (λ (y : IsIn a (nodes_in r) × IsIn b (nodes_in t)). crossed (same_at b p t ip it x.0 y.1) (same_at a q r iq ir x.1 y.0))
      (λ (y : IsIn b (nodes_in r) × IsIn a (nodes_in t)). straight (same_at b p r ip ir x.0 y.0) (same_at a q t iq it x.1 y.1))
      u)
      s

  here1 : (p : PieceLists) (ps : List PieceLists) → AreAmong (p ∷ ps) now → IsIn p now
  here1 p ps among = there (p ∷ ps) now p among (inl refl)

  here2 : (p q : PieceLists) (ps : List PieceLists) → AreAmong (p ∷ q ∷ ps) now → IsIn q now
  here2 p q ps among = there (p ∷ q ∷ ps) now q among (inr (inl refl))

  one_end : (v : ℕ) (p q : PieceLists) → AreAmong (p ∷ []) now → AreAmong (q ∷ []) now → IsIn v (nodes_in p) → IsIn v (nodes_in q) → p ∷ [] ≡ q ∷ []
  one_end v p q inp inq hasp hasq = ap (λ z. z ∷ []) (same_at v p q (here1 p [] inp) (here1 q [] inq) hasp hasq)

  pub needed_once : (ends : Ends) (ps qs : List PieceLists) → AreAmong ps now → AreAmong qs now → AreInOrder ps → AreInOrder qs → AreNeededFor ps ends → AreNeededFor qs ends → ps ≡ qs
  needed_once ends [] qs a b o o' s t = absurd s
  needed_once ends (p ∷ []) [] a b o o' s t = absurd t
  needed_once ends (p ∷ q ∷ []) [] a b o o' s t = absurd t
  needed_once ends (p ∷ q ∷ r ∷ ps) qs a b o o' s t = absurd s
  needed_once ends (p ∷ []) (q ∷ r ∷ x ∷ qs) a b o o' s t = absurd t
  needed_once ends (p ∷ q ∷ []) (r ∷ x ∷ y ∷ qs) a b o o' s t = absurd t
  needed_once (Link from to gain) (p ∷ []) (q ∷ []) a b o o' s t = one_end from p q a b (only_one p from s.0) (only_one q from t.0)
  needed_once (Drain v) (p ∷ []) (q ∷ []) a b o o' s t = one_end v p q a b (only_one p v s) (only_one q v t)
  needed_once (Feed v) (p ∷ []) (q ∷ []) a b o o' s t = one_end v p q a b (only_one p v s) (only_one q v t)
  needed_once (Link from to gain) (p ∷ []) (q ∷ r ∷ []) a b o o' s t =
      absurd (not_both from to p q r (here1 p [] a) (here1 q (r ∷ []) b) (here2 q r [] b) (only_one p from s.0) (only_one p to s.1) o' (turned from to q r t))
  needed_once (Drain v) (p ∷ []) (q ∷ r ∷ []) a b o o' s t = absurd t
  needed_once (Feed v) (p ∷ []) (q ∷ r ∷ []) a b o o' s t = absurd t
  needed_once (Link from to gain) (p ∷ q ∷ []) (r ∷ []) a b o o' s t =
      absurd (not_both from to r p q (here1 r [] b) (here1 p (q ∷ []) a) (here2 p q [] a) (only_one r from t.0) (only_one r to t.1) o (turned from to p q s))
  needed_once (Drain v) (p ∷ q ∷ []) (r ∷ []) a b o o' s t = absurd s
  needed_once (Feed v) (p ∷ q ∷ []) (r ∷ []) a b o o' s t = absurd s
  needed_once (Link from to gain) (p ∷ q ∷ []) (r ∷ x ∷ []) a b o o' s t =
      two_same from to p q r x (here1 p (q ∷ []) a) (here2 p q [] a) (here1 r (x ∷ []) b) (here2 r x [] b) o o' (turned from to p q s) (turned from to r x t)
  needed_once (Drain v) (p ∷ q ∷ []) (r ∷ x ∷ []) a b o o' s t = absurd s
  needed_once (Feed v) (p ∷ q ∷ []) (r ∷ x ∷ []) a b o o' s t = absurd s
