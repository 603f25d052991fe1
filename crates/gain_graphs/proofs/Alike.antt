-- Two cycles over the same arcs that begin at one node with its lower arc are the same.
use Rattle.std.proofs.Common.{◌≡◌, ◌⊎◌, inl, inr, sym, refl, subst, ap₂, ℕ, ◌<◌, List, [], ◌∷◌, ◌++◌, append_assoc, arith}
use Rattle.gain_graphs.specs.Arcs.{IsIn, AreDistinct, Ends}
use Rattle.gain_graphs.specs.Cycles.{arcs_along, nodes_along, last_arc, Joins, IsWay, IsLeastFirst}
use Rattle.gain_graphs.proofs.Lists.{in_back, in_append, apart_parts}
use Rattle.gain_graphs.proofs.Ways

module _ {Scalar : Type 0} (ends : ℕ → Ends Scalar) where
  -- two cycles that have begun alike, over the nodes `pn` and the arcs `pa`, go on alike
  alike : (own : List ℕ) (k x : ℕ) (pn pa : List ℕ) (t t' : List (ℕ × ℕ)) → IsIn x pn
      → IsWay ends own x t k → IsWay ends own x t' k
      → AreDistinct (pn ++ nodes_along t) → AreDistinct (pn ++ nodes_along t') → AreDistinct (pa ++ arcs_along t')
      → ((b : ℕ) → IsIn b (arcs_along t') → IsIn b (pa ++ arcs_along t)) → t ≡ t'
  alike own k x pn pa [] [] i r r' n n' a' s = refl
  alike own k x pn pa [] (y ∷ t') i r r' n n' a' s = absurd (apart_parts pn (nodes_along (y ∷ t')) n' x i (subst (λ z. IsIn z (nodes_along (y ∷ t'))) (sym r) (Ways.last_node ends own t' x k y r')))
  alike own k x pn pa (y ∷ t) [] i r r' n n' a' s = absurd (apart_parts pn (nodes_along (y ∷ t)) n x i (subst (λ z. IsIn z (nodes_along (y ∷ t))) (sym r') (Ways.last_node ends own t x k y r)))
  alike own k x pn pa (y ∷ t) (y' ∷ t') i r r' n n' a' s =
      go (alike own k y.1 (pn ++ y.1 ∷ []) (pa ++ y.0 ∷ []) t t') (in_append y'.0 pa (arcs_along (y ∷ t)) (s y'.0 (inl refl)))
    where
      same_entry : y'.0 ≡ y.0 → y' ≡ y
      same_entry e =
          let f : y'.1 ≡ y.1 = Ways.other_end (ends y.0) x y'.1 y.1 (subst (λ z. Joins (ends z) x y'.1) e r'.1) r.1 in
          ap₂ (λ p q. (p, q)) e f

      go : (IsIn y.1 (pn ++ y.1 ∷ []) → IsWay ends own y.1 t k → IsWay ends own y.1 t' k → AreDistinct ((pn ++ y.1 ∷ []) ++ nodes_along t) → AreDistinct ((pn ++ y.1 ∷ []) ++ nodes_along t')
          → AreDistinct ((pa ++ y.0 ∷ []) ++ arcs_along t') → ((b : ℕ) → IsIn b (arcs_along t') → IsIn b ((pa ++ y.0 ∷ []) ++ arcs_along t)) → t ≡ t')
          → IsIn y'.0 pa ⊎ IsIn y'.0 (arcs_along (y ∷ t)) → (y ∷ t) ≡ (y' ∷ t')
      go ih (inl j) = absurd (apart_parts pa (arcs_along (y' ∷ t')) a' y'.0 j (inl refl))
      go ih (inr (inr j)) = absurd (apart_parts pn (nodes_along (y ∷ t)) n x i (Ways.at_arc ends own t y.1 k y'.0 x y'.1 r.2 j r'.1))
      go ih (inr (inl e)) =
          let f : y' ≡ y = same_entry e in
          ap₂ (λ p q. p ∷ q) (sym f) (ih (in_back y.1 pn (y.1 ∷ []) (inl refl)) r.2 (subst (λ z. IsWay ends own z.1 t' k) f r'.2)
          (subst AreDistinct (sym (append_assoc pn (y.1 ∷ []) (nodes_along t))) n)
          (subst AreDistinct (sym (append_assoc pn (y.1 ∷ []) (nodes_along t'))) (subst (λ z. AreDistinct (pn ++ z.1 ∷ nodes_along t')) f n'))
          (subst AreDistinct (sym (append_assoc pa (y.0 ∷ []) (arcs_along t'))) (subst (λ z. AreDistinct (pa ++ z.0 ∷ arcs_along t')) f a'))
          (λ b j. subst (λ l. IsIn b l) (sym (append_assoc pa (y.0 ∷ []) (arcs_along t))) (s b (inr j))))

  -- two cycles over the same arcs from one node are the same
  pub same_cycle : (own : List ℕ) (k : ℕ) (w w' : List (ℕ × ℕ)) → IsLeastFirst ends own k w → IsLeastFirst ends own k w'
      → ((b : ℕ) → IsIn b (arcs_along w) → IsIn b (arcs_along w')) → ((b : ℕ) → IsIn b (arcs_along w') → IsIn b (arcs_along w)) → w ≡ w'
  same_cycle own k [] w' c c' s s' = absurd c.goes_up
  same_cycle own k (y ∷ t) [] c c' s s' = absurd c'.goes_up
  same_cycle own k (y ∷ t) (y' ∷ t') c c' s s' = go (s' y'.0 (inl refl)) (s y.0 (inl refl))
    where
      -- where the first arcs are the same, so are the rests
      on : y'.0 ≡ y.0 → (y ∷ t) ≡ (y' ∷ t')
      on e =
          let f : y' ≡ y = ap₂ (λ p q. (p, q)) e (Ways.other_end (ends y.0) k y'.1 y.1 (subst (λ z. Joins (ends z) k y'.1) e c'.cycle.closes.1) c.cycle.closes.1) in
          ap₂ (λ p q. p ∷ q) (sym f) (alike own k y.1 (y.1 ∷ []) (y.0 ∷ []) t t' (inl refl) c.cycle.closes.2 (subst (λ z. IsWay ends own z.1 t' k) f c'.cycle.closes.2)
          c.cycle.nodes_once (subst (λ z. AreDistinct (z.1 ∷ nodes_along t')) f c'.cycle.nodes_once) (subst (λ z. AreDistinct (z.0 ∷ arcs_along t')) f c'.cycle.arcs_once)
          (λ b j. s' b (inr j)))

      go : IsIn y'.0 (arcs_along (y ∷ t)) → IsIn y.0 (arcs_along (y' ∷ t')) → (y ∷ t) ≡ (y' ∷ t')
      go (inl e) _ = on e
      go (inr i) (inl e) = on (sym e)
      go (inr i) (inr j) =
          let p : y'.0 ≡ last_arc y.0 t = Ways.is_last ends own t y.1 k c.cycle.nodes_once c.cycle.closes.2 y'.0 y'.1 y.0 i c'.cycle.closes.1 in
          let q : y.0 ≡ last_arc y'.0 t' = Ways.is_last ends own t' y'.1 k c'.cycle.nodes_once c'.cycle.closes.2 y.0 y.1 y'.0 j c.cycle.closes.1 in
          let u : y.0 < last_arc y.0 t = c.goes_up in
          let v : y'.0 < last_arc y'.0 t' = c'.goes_up in
          absurd (omega arith)
