-- Potentials that are carried along steps outwards are those of the piece, or an operation that is reached overflows.
use Rattle.std.specs.Prelude.{◌≡◌, ◌≢◌, ◌⊎◌, ◌<◌, ◌-◌, ℕ, suc, List, [], ◌∷◌, length, take, slice_index, slice_set, Result, Ok, Err, MatchResult, ⊤}
use Rattle.std.specs.Result.{IsOk}
use Rattle.std.proofs.Common.{refl, sym, ap, subst, ◌∙◌, inl, inr, arith}
use Rattle.std.proofs.lemmas.List.{get_or-set_same, get_or-set_other, length-set}
use Rattle.gain_graphs.specs.Arcs.{IsIn}
use Rattle.gain_graphs.specs.Cycles.{nodes_along, Joins, IsWay}
use Rattle.np_frac.specs.Ratio.{Ratio, zero_ratio}
use Rattle.np_frac.specs.Fits.{Fits}
use Rattle.np_frac.specs.Exact.{◌▷◌}
use Rattle.np_frac.specs.declared.frac.Past.{Past}
use Rattle.np_model.specs.declared.arc.Ends.{Ends}
use Rattle.np_model.specs.declared.rows.Row.TheVariants.{A7}
use Rattle.np_model.specs.Network.Flows.{at}
use Rattle.np_model.specs.Basis.Graphs.{graph_of}
use Rattle.np_model.specs.Rows.Extra.{Extra, IsOnRound, Leads}
use Rattle.np_model.specs.Rows.Potentials.{across, Reached, beyond, Gives}
use Rattle.np_model.specs.Rows.Potentials as rows
use Rattle.tree_search.specs.declared.piece.Step.{Step}
use Rattle.tree_search.specs.declared.piece.Joint.{Joint}
use Rattle.tree_search.specs.Places.{numbers_of_nodes, numbers_of_arcs, number_by_place, ends_by_place}
use Rattle.tree_search.specs.Search.{GoesOn}
use Rattle.tree_search.specs.Finding.{Follows, way_of}
use Rattle.tree_potentials.specs.Along.{IsWithin, over_step, spread, but_last}
use Rattle.tree_potentials.proofs.Links.{Crosses, across_gives, across_fits}
use Rattle.np_frac.proofs.Results.{is_ok_of}
use Rattle.tree_potentials.proofs.Rounds.{step_is}

same_or : (i j : ℕ) → (i ≡ j) ⊎ (i ≢ j)
same_or i j = grind arith

module _ (ends : ℕ → Ends) (cost : ℕ → Ratio) (nodes : List (ℕ × Ratio)) (basics : List (ℕ × Ends × Ratio)) (costs : List Ratio) (x : Extra) (p : ℕ → Ratio)
    (of : (a : ℕ) → a < length basics → (ends (number_by_place basics a) ≡ ends_by_place basics a) × (cost (number_by_place basics a) ≡ at costs a))
    (once : (i j : ℕ) → i < length nodes → j < length nodes → slice_index (numbers_of_nodes nodes) i ≡ slice_index (numbers_of_nodes nodes) j → i ≡ j)
    (joins : (a u v : ℕ) → Leads ends (numbers_of_arcs basics) x a u v → IsIn a (numbers_of_arcs basics) × Joins (graph_of ends a) u v)
    (crosses : (a u v : ℕ) → IsIn a (numbers_of_arcs basics) → Joins (graph_of ends a) u v → Crosses (numbers_of_nodes nodes) (ends a) (cost a) p u v) where
  abbrev node : ℕ → ℕ
  node i = slice_index (numbers_of_nodes nodes) i

  -- the operation over the arc of a step
  abbrev over : Step → Result Ratio Past
  over s = across (ends (number_by_place basics s.arc)) (cost (number_by_place basics s.arc)) (node s.near) (p (node s.near))

  -- it stands in the list, it fits, and what makes it does not overflow
  pub record IsKnown (values : List Ratio) (v : ℕ) : Type 0 where
    pub reached : Reached ends cost (numbers_of_arcs basics) x p v
    pub fits : Fits (p v)
    pub stands : (i : ℕ) → i < length nodes → node i ≡ v → at values i ≡ p v

  -- each step leads outwards from a node that is seen
  abbrev pub GoesOut : List ℕ → List Step → Type 0
  GoesOut seen [] = ⊤
  GoesOut seen (s ∷ steps) = IsIn (node s.near) seen × IsWithin nodes basics s × Leads ends (numbers_of_arcs basics) x (number_by_place basics s.arc) (node s.near) (node s.far)
      × GoesOut (node s.far ∷ seen) steps

  abbrev pub far_nodes : List Step → List ℕ
  far_nodes [] = []
  far_nodes (s ∷ steps) = node s.far ∷ far_nodes steps

  -- all nodes that are seen are known, and no step overflows
  pub record AreCarried (seen : List ℕ) (steps : List Step) (values : List Ratio) : Type 0 where
    pub long : length values ≡ length nodes
    pub known : (v : ℕ) → IsIn v seen ⊎ IsIn v (far_nodes steps) → IsKnown values v
    pub made : (s : Step) → IsIn s steps → IsOk (over s)

  abbrev pub IsCarried : List ℕ → List Step → Result (List Ratio) Past → Type 0
  IsCarried seen steps r = MatchResult r (AreCarried seen steps) (λ past. Gives ends cost (numbers_of_arcs basics) x p A7 past)

  -- one more is known
  pub set_known : (values : List Ratio) (seen : List ℕ) (place : ℕ) (q : Ratio) → length values ≡ length nodes → place < length nodes → q ≡ p (node place) → Fits q
      → Reached ends cost (numbers_of_arcs basics) x p (node place) → ((v : ℕ) → IsIn v seen → IsKnown values v) → (v : ℕ) → IsIn v (node place ∷ seen) → IsKnown (slice_set values place q) v
  set_known values seen place q long below is fits reached known v (inl e) = record {
    reached = subst (Reached ends cost (numbers_of_arcs basics) x p) (sym e) reached;
    fits = subst Fits (is ∙ ap p (sym e)) fits;
    stands = λ i l m. ap (λ t. at (slice_set values place q) t) (once i place l below (m ∙ e)) ∙ get_or-set_same values place q zero_ratio (subst (λ n. place < n) (sym long) below) ∙ is ∙ ap p (sym e);
  }
  set_known values seen place q long below is fits reached known v (inr j) = record {
    reached = (known v j).reached;
    fits = (known v j).fits;
    stands = λ i l m. elim (same_or i place) [
      | inl e ↦ ap (λ t. at (slice_set values place q) t) e ∙ get_or-set_same values place q zero_ratio (subst (λ n. place < n) (sym long) below) ∙ is ∙ ap p (ap (λ t. node t) (sym e) ∙ m)
      | inr n ↦ get_or-set_other values place i q zero_ratio n ∙ (known v j).stands i l m
    ];
  }

  pub carried : (steps : List Step) (values : List Ratio) (seen : List ℕ) → length values ≡ length nodes → GoesOut seen steps → ((v : ℕ) → IsIn v seen → IsKnown values v)
      → IsCarried seen steps (spread nodes basics costs steps values)
  carried [] values seen long goes known = record { long = long; known = λ v. elim [ inl i ↦ known v i | inr z ↦ absurd z ]; made = λ s i. absurd i }
  carried (s ∷ steps) values seen long goes known =
      go (over_step nodes basics costs s (at values s.near)) refl
      (λ q is fits made. carried steps (slice_set values s.far q) (node s.far ∷ seen) (length-set values s.far q ∙ long) goes.3
      (set_known values seen s.far q long goes.1.2 is fits (beyond (number_by_place basics s.arc) (node s.near) (node s.far) goes.2 near.reached made) known))
    where
      near : IsKnown values (node s.near)
      near = known (node s.near) goes.0

      is_over : over_step nodes basics costs s (at values s.near) ≡ over s
      is_over = ap (λ t. over_step nodes basics costs s t) (near.stands s.near goes.1.1 refl) ∙ step_is ends cost nodes basics costs of s (node s.near) (p (node s.near)) goes.1 refl

      more : (r : Result (List Ratio) Past) → IsOk (over s) → IsCarried (node s.far ∷ seen) steps r → IsCarried seen (s ∷ steps) r
      more (Err past) made g = g
      more (Ok values) made g = record {
        long = g.long;
        known = λ v. elim [ inl i ↦ g.known v (inl (inr i)) | inr j ↦ elim j [ inl e ↦ g.known v (inl (inl e)) | inr k ↦ g.known v (inr k) ] ];
        made = λ t. elim [ inl e ↦ subst (λ t. IsOk (over t)) (sym e) made | inr i ↦ g.made t i ];
      }

      go : (r : Result Ratio Past) → over_step nodes basics costs s (at values s.near) ≡ r
          → ((q : Ratio) → q ≡ p (node s.far) → Fits q → IsOk (over s) → IsCarried (node s.far ∷ seen) steps (spread nodes basics costs steps (slice_set values s.far q)))
          → IsCarried seen (s ∷ steps) (r ▷ λ q. spread nodes basics costs steps (slice_set values s.far q))
      go (Err past) e rest = rows.link (number_by_place basics s.arc) (node s.near) (node s.far) past goes.2 near.reached (sym is_over ∙ e)
      go (Ok q) e rest =
          let l = joins (number_by_place basics s.arc) (node s.near) (node s.far) goes.2 in
          let made : IsOk (over s) = is_ok_of (over s) q (sym is_over ∙ e) in
          more (spread nodes basics costs steps (slice_set values s.far q)) made
          (rest q (across_gives (numbers_of_nodes nodes) (ends (number_by_place basics s.arc)) (cost (number_by_place basics s.arc)) p (node s.near) (node s.far) q (crosses (number_by_place basics s.arc) (node s.near) (node s.far) l.0 l.1) (sym is_over ∙ e))
          (across_fits (ends (number_by_place basics s.arc)) (cost (number_by_place basics s.arc)) (node s.near) (node s.far) (p (node s.near)) q l.1 (sym is_over ∙ e)) made)

  -- ---- steps of a search, and of a cycle

  -- steps of a search from these places, each over an arc that leads outwards
  pub search_goes : (joints : List Joint) (steps : List Step) (places seen : List ℕ) → ((q : ℕ) → IsIn q places → IsIn (node q) seen) → GoesOn joints places steps
      → ((s : Step) → IsIn s steps → IsWithin nodes basics s) → ((s : Step) → IsIn s steps → Leads ends (numbers_of_arcs basics) x (number_by_place basics s.arc) (node s.near) (node s.far)) → GoesOut seen steps
  search_goes joints [] places seen same goes within leads = record {}
  search_goes joints (s ∷ steps) places seen same goes within leads = (
    same s.near goes.0,
    within s (inl refl),
    leads s (inl refl),
    search_goes joints steps (s.far ∷ places) (node s.far ∷ seen) (λ q. elim [ inl e ↦ inl (ap (λ t. node t) e) | inr i ↦ inr (same q i) ]) goes.3 (λ t i. within t (inr i)) (λ t i. leads t (inr i)),
  )

  -- the steps of a cycle but the last
  abbrev pub around : List Step → List Step
  around [] = []
  around (s ∷ []) = []
  around (s ∷ t ∷ cycle) = s ∷ around (t ∷ cycle)

  pub around_is : (cycle : List Step) → but_last cycle ≡ around cycle
  around_is [] = refl
  around_is (s ∷ []) = refl
  around_is (s ∷ t ∷ cycle) =
      let e : suc (suc (length cycle)) - 1 ≡ suc (suc (length cycle) - 1) = omega arith in
      ap (λ n. take n (s ∷ t ∷ cycle)) e ∙ ap (λ l. s ∷ l) (around_is (t ∷ cycle))

  pub in_around : (cycle : List Step) (s : Step) → IsIn s (around cycle) → IsIn s cycle
  in_around [] s i = i
  in_around (t ∷ []) s i = absurd i
  in_around (t ∷ y ∷ cycle) s (inl e) = inl e
  in_around (t ∷ y ∷ cycle) s (inr i) = inr (in_around (y ∷ cycle) s i)

  pub round_goes : (seen : List ℕ) (u : ℕ) (cycle : List Step) → IsIn u seen → Follows (numbers_of_nodes nodes) u cycle → ((s : Step) → IsIn s cycle → IsWithin nodes basics s)
      → ((a w v : ℕ) → IsOnRound u (way_of (numbers_of_nodes nodes) basics cycle) a w v → Leads ends (numbers_of_arcs basics) x a w v) → GoesOut seen (around cycle)
  round_goes seen u [] i f within leads = record {}
  round_goes seen u (s ∷ []) i f within leads = record {}
  round_goes seen u (s ∷ t ∷ cycle) i f within leads = (
    subst (λ w. IsIn w seen) (sym f.0) i,
    within s (inl refl),
    leads (number_by_place basics s.arc) (node s.near) (node s.far) (inl (refl, f.0, refl)),
    round_goes (node s.far ∷ seen) (node s.far) (t ∷ cycle) (inl refl) f.1 (λ y j. within y (inr j)) (λ a w v o. leads a w v (inr o)),
  )

  -- each arc on the round but its last is that of a step
  pub round_of : (u : ℕ) (cycle : List Step) (a w v : ℕ) → Follows (numbers_of_nodes nodes) u cycle → IsOnRound u (way_of (numbers_of_nodes nodes) basics cycle) a w v
      → (s : Step) × IsIn s (around cycle) × (number_by_place basics s.arc ≡ a) × (node s.near ≡ w) × (node s.far ≡ v)
  round_of u [] a w v f o = absurd o
  round_of u (s ∷ []) a w v f o = absurd o
  round_of u (s ∷ t ∷ cycle) a w v f (inl e) = (s, inl refl, sym e.0, f.0 ∙ sym e.1, sym e.2)
  round_of u (s ∷ t ∷ cycle) a w v f (inr o) = let r = round_of (node s.far) (t ∷ cycle) a w v f.1 o in (r.0, inr r.1, r.2, r.3, r.4)

  -- the nodes of the way are its last one and those of the steps before
  pub round_nodes : (cycle : List Step) (u z v : ℕ) → IsWay (graph_of ends) (numbers_of_arcs basics) u (way_of (numbers_of_nodes nodes) basics cycle) z → IsIn v (nodes_along (way_of (numbers_of_nodes nodes) basics cycle))
      → (v ≡ z) ⊎ IsIn v (far_nodes (around cycle))
  round_nodes [] u z v w i = absurd i
  round_nodes (s ∷ []) u z v w (inl e) = inl (e ∙ w.2)
  round_nodes (s ∷ []) u z v w (inr i) = absurd i
  round_nodes (s ∷ t ∷ cycle) u z v w (inl e) = inr (inl e)
  round_nodes (s ∷ t ∷ cycle) u z v w (inr i) = elim (round_nodes (t ∷ cycle) (node s.far) z v w.2 i) [ inl e ↦ inl e | inr j ↦ inr (inr j) ]
