-- The start is a state of stage one, and its pieces are the nodes alone.
use Rattle.std.specs.Prelude.{◌≡◌, ◌≢◌, ◌⊎◌, ℕ, ◌+◌, ◌-◌, ◌^◌, ◌<◌, ◌≤◌, Bool, true, false, if◌then◌else◌, List, [], ◌∷◌, ◌++◌, map, length}
use Rattle.std.specs.List.{zip}
use Rattle.std.proofs.Common.{refl, sym, ap, ap₂, subst, ◌∙◌, inl, inr, arith, get_or}
use Rattle.std.proofs.lemmas.List.{get_or_append_left, get_or-append_right, get_or-map, length-append, length-map}
use Rattle.std.proofs.lemmas.List.FromFn.{get_or-map-range_with_len, length-map-range_with_len}
use Rattle.std.proofs.lemmas.Slice.Zip.{length-zip}
use Rattle.gain_graphs.specs.Arcs as graph
use Rattle.gain_graphs.specs.Arcs.{IsIn, AreDistinct, HasOneEnd, Touches, IsWalk, Step, Along, Against}
use Rattle.gain_graphs.specs.Cycles.{Joins}
use Rattle.gain_graphs.specs.Field as field
use Rattle.gain_graphs.specs.Forests as forest
use Rattle.gain_graphs.specs.QuasiTrees.{LiesIn, IsQuasiTree}
use Rattle.gain_graphs.proofs.Lists.{in_map_of, in_back}
use Rattle.gain_graphs.proofs.Pieces as graph_pieces
use Rattle.gain_graphs.proofs.Algebra as algebra
use Rattle.np_frac.specs.Steps.Signs.{unsigned_abs-neg}
use Rattle.np_frac.specs.Fits.{Fits}
use Rattle.np_frac.specs.Ratio.{Ratio, zero_ratio, one_ratio, negated, ◌≤ᵣ◌, ◌+ᵣ◌, ◌*ᵣ◌, is_below, whole, total}
use Rattle.np_frac.proofs.RatioLaws.{+ᵣ-zero, zero-*ᵣ, one-*ᵣ, negated-*ᵣ, add_back, is_below_true, is_below_false, ≤ᵣ_refl, <ᵣ_is_≤ᵣ, +ᵣ_at_most_left, zero-+ᵣ}
use Rattle.np_frac.proofs.Field.{+ᵣ-negated}
use Rattle.np_frac.proofs.Sums as sums
use Rattle.np_model.specs.declared.arc.Ends.{Ends}
use Rattle.np_model.specs.declared.arc.Ends.TheVariants.{Drain, Feed}
use Rattle.np_model.specs.declared.arc.NetArc.{NetArc}
use Rattle.np_model.specs.declared.log.Mark.TheVariants as marked
use Rattle.np_model.specs.declared.phase.Phase.TheVariants.{One}
use Rattle.np_model.specs.Network.Arcs.{coefficient, IsWithin}
use Rattle.np_model.specs.Network.Flows.{Network, at, balance}
use Rattle.np_model.specs.Basis.Artificial.{IsOneEndAt}
use Rattle.np_model.specs.Basis.Graphs.{ratios, graph_ends, graph_of, no_arc, arc_at, ends_at, cost_at}
use Rattle.np_model.specs.Basis.Phases.{real_arc, artificial_arc}
use Rattle.np_model.specs.Basis.States.{values_of, price, StandsAt, basics, IsPart, IsState}
use Rattle.np_model.specs.Basis.Starts.{residual, artificial_end, artificial_flow, start_potential, nodes_from_0, artificial_ends, start_state, start_net, ResidualsFit}
use Rattle.np_model.specs.Rows.Extra.{OneEnd, Round}
use Rattle.np_model.specs.Rows.Potentials.{PotentialsFit}
use Rattle.np_model.proofs.Balance.{balance-is}
use Rattle.np_model.proofs.FullNets as full_nets
use Rattle.np_model.proofs.Coefficients.{drain_at, drain_off, feed_at, feed_off}
use Rattle.np_basis.specs.Laws.{HasSoundArcs, StartIsArtificial, StartIsState, StartIsSingles, SingleIsPart}
use Rattle.np_basis.proofs.Ascending.{ascends_once, one_rises}
use Rattle.gain_graphs.proofs.Lists.{range_holds}
use Rattle.np_basis.proofs.Basics.{range_ascends, basics_hold, zipped}
use Rattle.np_basis.proofs.Fulls.{length_full}
use Rattle.np_basis.proofs.Trees.{total_is}

-- ---- lists

zip_append : {A B : Type 0} (xs ys : List A) (us vs : List B) → length us ≡ length xs → zip (xs ++ ys) (us ++ vs) ≡ zip xs us ++ zip ys vs
zip_append [] ys [] vs e = refl
zip_append [] ys (u ∷ us) vs e = absurd (omega arith)
zip_append (x ∷ xs) ys [] vs e = absurd (omega arith)
zip_append {A} {B} (x ∷ xs) ys (u ∷ us) vs e = ap {A = List (A × B)} {B = List (A × B)} (λ t. (x, u) ∷ t) (zip_append xs ys us vs (omega arith))

-- a sum over numbers beside what belongs to them
beside_map : (f : ℕ × Ratio → Ratio) (g : ℕ → Ratio) (xs : List ℕ) → field.total ratios f (zip xs (map g xs)) ≡ field.total ratios (λ u. f (u, g u)) xs
beside_map f g [] = refl
beside_map f g (x ∷ xs) = ap (λ t. f (x, g x) +ᵣ t) (beside_map f g xs)

-- a list of one number
pub one_alone : (x : ℕ) (xs : List ℕ) → AreDistinct xs → IsIn x xs → ((v : ℕ) → IsIn v xs → v ≡ x) → xs ≡ x ∷ []
one_alone x [] once i only = absurd i
one_alone x (y ∷ []) once i only = ap (λ t. t ∷ []) (only y (inl refl))
one_alone x (y ∷ z ∷ xs) once i only = absurd (once.0 (inl (only y (inl refl) ∙ sym (only z (inr (inl refl))))))

-- ---- the rows of a node alone

none_leads : (e : graph.Ends Ratio) (u v : ℕ) → HasOneEnd e → Joins e u v → ⊥
none_leads (graph.Link i j g) u v h joins = h
none_leads (graph.Drain i) u v h joins = joins
none_leads (graph.Feed i) u v h joins = joins

pub one_end_fits : (ends : ℕ → Ends) (cost : ℕ → Ratio) (a : ℕ) (potential : ℕ → Ratio) → HasOneEnd (graph_of ends a) → PotentialsFit ends cost (a ∷ []) potential
one_end_fits ends cost a potential h (OneEnd b v) extra = record {
  at_root = refl;
  links = λ c u w hangs. absurd (elim (subst (IsIn c) hangs.split (in_back c hangs.before (c ∷ hangs.after) (inl refl))) [
    | inl e ↦ none_leads (graph_of ends a) u w h (subst (λ t. Joins (graph_of ends t) u w) e hangs.joins)
    | inr i ↦ i
  ]);
}
one_end_fits ends cost a potential h (Round k []) extra = absurd extra.cycle.has_arc
one_end_fits ends cost a potential h (Round k (x ∷ way)) extra = absurd (elim extra.cycle.closes.0 [
  | inl e ↦ none_leads (graph_of ends a) k x.1 h (subst (λ t. Joins (graph_of ends t) k x.1) e extra.cycle.closes.1)
  | inr i ↦ i
])

-- ---- artificial arcs

module _ (net : Network) where
  at_node : (v : ℕ) → IsOneEndAt v (artificial_end net v)
  at_node v = go (is_below (residual net v) zero_ratio)
    where
      go : (b : Bool) → IsOneEndAt v (if b then Feed v else Drain v)
      go true = refl
      go false = refl

  one_end : (v : ℕ) → HasOneEnd (graph_ends (artificial_end net v))
  one_end v = go (is_below (residual net v) zero_ratio)
    where
      go : (b : Bool) → HasOneEnd (graph_ends (if b then Feed v else Drain v))
      go true = record {}
      go false = record {}

  touch_is : (u v : ℕ) → Touches (u ∷ []) (graph_ends (artificial_end net v)) → v ≡ u
  touch_is u v = go (is_below (residual net v) zero_ratio)
    where
      go : (b : Bool) → Touches (u ∷ []) (graph_ends (if b then Feed v else Drain v)) → v ≡ u
      go true t = elim t [ inl e ↦ e | inr i ↦ absurd i ]
      go false t = elim t [ inl e ↦ e | inr i ↦ absurd i ]

  touch_at : (nodes : List ℕ) (v : ℕ) → IsIn v nodes → Touches nodes (graph_ends (artificial_end net v)) × LiesIn ratios nodes (graph_ends (artificial_end net v))
  touch_at nodes v i = go (is_below (residual net v) zero_ratio)
    where
      go : (b : Bool) → Touches nodes (graph_ends (if b then Feed v else Drain v)) × LiesIn ratios nodes (graph_ends (if b then Feed v else Drain v))
      go true = (i, i)
      go false = (i, i)

  -- what the artificial arc of a node takes from another
  takes_off : (u v : ℕ) → v ≢ u → coefficient (artificial_end net u) v ≡ zero_ratio
  takes_off u v h = go (is_below (residual net u) zero_ratio)
    where
      go : (b : Bool) → coefficient (if b then Feed u else Drain u) v ≡ zero_ratio
      go true = feed_off u v h
      go false = drain_off u v h

  -- and from its own
  takes_at : (v : ℕ) → coefficient (artificial_end net v) v *ᵣ artificial_flow net v ≡ residual net v
  takes_at v = go (is_below (residual net v) zero_ratio)
    where
      go : (b : Bool) → coefficient (if b then Feed v else Drain v) v *ᵣ (if b then negated (residual net v) else residual net v) ≡ residual net v
      go true = ap (λ t. t *ᵣ negated (residual net v)) (feed_at v v refl)
          ∙ negated-*ᵣ one_ratio (negated (residual net v)) ∙ ap negated (one-*ᵣ (negated (residual net v))) ∙ algebra.negated_twice ratios (residual net v)
      go false = ap (λ t. t *ᵣ residual net v) (drain_at v v refl) ∙ one-*ᵣ (residual net v)

  not_below_0 : (r : Ratio) → r ≤ᵣ zero_ratio → zero_ratio ≤ᵣ negated r
  not_below_0 r h = subst (λ t. t ≤ᵣ negated r) (+ᵣ-negated r) (subst (λ t. r +ᵣ negated r ≤ᵣ t) (zero-+ᵣ (negated r)) (+ᵣ_at_most_left (negated r) h))

  flow_above : (v : ℕ) → zero_ratio ≤ᵣ artificial_flow net v
  flow_above v = go (is_below (residual net v) zero_ratio) refl
    where
      go : (b : Bool) → is_below (residual net v) zero_ratio ≡ b → zero_ratio ≤ᵣ (if b then negated (residual net v) else residual net v)
      go true e = not_below_0 (residual net v) (<ᵣ_is_≤ᵣ (is_below_true (residual net v) zero_ratio e))
      go false e = is_below_false (residual net v) zero_ratio e

  negated_fits : (r : Ratio) → Fits r → Fits (negated r)
  unfolding negated
  negated_fits r h = record { num_fits = subst (λ t. t < 2 ^ 127) (sym (unsigned_abs-neg r.num)) h.num_fits; den_fits = h.den_fits }

  one_fits : Fits one_ratio
  unfolding whole
  one_fits = record { num_fits = omega arith; den_fits = omega arith }

  artificial_fits : (v : ℕ) → Fits (residual net v) → Fits (artificial_flow net v)
  artificial_fits v h = go (is_below (residual net v) zero_ratio)
    where
      go : (b : Bool) → Fits (if b then negated (residual net v) else residual net v)
      go true = negated_fits (residual net v) h
      go false = h

  potential_fits : (v : ℕ) → Fits (start_potential net v)
  potential_fits v = go (is_below (residual net v) zero_ratio)
    where
      go : (b : Bool) → Fits (if b then negated one_ratio else one_ratio)
      go true = negated_fits one_ratio one_fits
      go false = one_fits

  -- ---- arcs, marks, flows and potentials by number

  abbrev m : ℕ
  m = length net.arcs

  abbrev n : ℕ
  n = length net.supply

  abbrev full : Network
  full = start_net One net

  end_at : (v : ℕ) (other : Ends) → v < n → get_or (artificial_ends net) v other ≡ artificial_end net v
  end_at v other l = get_or-map-range_with_len (artificial_end net) 0 n v v other l (omega arith)

  length_ends : length (artificial_ends net) ≡ n
  length_ends = length-map-range_with_len (artificial_end net) 0 n

  pub length_arcs : length full.arcs ≡ m + n
  length_arcs = length_full One net.arcs (artificial_ends net) ∙ ap (λ t. m + t) length_ends

  minus : (v : ℕ) → m + v - m ≡ v
  minus v = omega arith

  pub real_at : (a : ℕ) → a < m → arc_at full.arcs a ≡ real_arc One (arc_at net.arcs a)
  real_at a l = full_nets.real_at One net.arcs (artificial_ends net) a l

  artificial_at : (v : ℕ) → v < n → arc_at full.arcs (m + v) ≡ artificial_arc One (artificial_end net v)
  artificial_at v l = full_nets.artificial_at One net.arcs (artificial_ends net) (m + v) (omega arith) (omega (arith, length_ends))
      ∙ ap (λ t. artificial_arc One (get_or (artificial_ends net) t (Drain 0))) (minus v) ∙ ap (artificial_arc One) (end_at v (Drain 0) l)

  pub ends_are : (v : ℕ) → v < n → ends_at full.arcs (m + v) ≡ artificial_end net v
  ends_are v l = ap (λ (x : NetArc). x.ends) (artificial_at v l)

  pub mark_real : (a : ℕ) → a < m → (values_of (start_state net)).mark a ≡ marked.Lower
  mark_real a l = get_or_append_left (map (λ b. marked.Lower) net.arcs) (map (λ v. marked.Basic) (nodes_from_0 net)) marked.Lower a (omega (arith, length-map net.arcs (λ b. marked.Lower)))
      ∙ get_or-map (λ b. marked.Lower) net.arcs a no_arc marked.Lower l

  pub mark_artificial : (v : ℕ) → v < n → (values_of (start_state net)).mark (m + v) ≡ marked.Basic
  mark_artificial v l = get_or-append_right (map (λ b. marked.Lower) net.arcs) (map (λ v. marked.Basic) (nodes_from_0 net)) m (m + v) marked.Lower (length-map net.arcs (λ b. marked.Lower)) (omega arith)
      ∙ ap (λ t. get_or (map (λ v. marked.Basic) (nodes_from_0 net)) t marked.Lower) (minus v)
      ∙ get_or-map-range_with_len (λ v. marked.Basic) 0 n v v marked.Lower l (omega arith)

  flow_real : (a : ℕ) → a < m → at (start_state net).flows a ≡ (arc_at net.arcs a).lower
  flow_real a l = get_or_append_left (map (λ b. b.lower) net.arcs) (map (artificial_flow net) (nodes_from_0 net)) zero_ratio a (omega (arith, length-map net.arcs (λ (b : NetArc). b.lower)))
      ∙ get_or-map (λ (b : NetArc). b.lower) net.arcs a no_arc zero_ratio l

  pub flow_artificial : (v : ℕ) → v < n → at (start_state net).flows (m + v) ≡ artificial_flow net v
  flow_artificial v l = get_or-append_right (map (λ b. b.lower) net.arcs) (map (artificial_flow net) (nodes_from_0 net)) m (m + v) zero_ratio (length-map net.arcs (λ (b : NetArc). b.lower)) (omega arith)
      ∙ ap (λ t. get_or (map (artificial_flow net) (nodes_from_0 net)) t zero_ratio) (minus v)
      ∙ get_or-map-range_with_len (artificial_flow net) 0 n v v zero_ratio l (omega arith)

  pub potential_at : (v : ℕ) → v < n → at (start_state net).potentials v ≡ start_potential net v
  potential_at v l = get_or-map-range_with_len (start_potential net) 0 n v v zero_ratio l (omega arith)

  length_flows : length (start_state net).flows ≡ length full.arcs
  length_flows = length-append (map (λ (b : NetArc). b.lower) net.arcs) (map (artificial_flow net) (nodes_from_0 net))
      ∙ ap₂ (λ x y. x + y) (length-map net.arcs (λ (b : NetArc). b.lower)) (length-map-range_with_len (artificial_flow net) 0 n) ∙ sym length_arcs

  -- an arc is a real one, or the artificial one of a node
  pub split : (a : ℕ) → a < length full.arcs → (a < m) ⊎ ((v : ℕ) × (v < n) × (a ≡ m + v))
  split a l = elim (cases a m) [ inl k ↦ inl k | inr k ↦ inr (a - m, omega (arith, length_arcs), omega arith) ]
    where
      cases : (x y : ℕ) → (x < y) ⊎ (y ≤ x)
      cases x y = grind arith

  -- ---- balance

  -- what an amount on an arc takes from the node
  abbrev takes : ℕ → NetArc × Ratio → Ratio
  takes v z = coefficient z.0.ends v *ᵣ z.1

  real_part : (v : ℕ) → total (takes v) (zip (map (real_arc One) net.arcs) (map (λ (a : NetArc). a.lower) net.arcs)) ≡ balance net.arcs (map (λ (a : NetArc). a.lower) net.arcs) v
  real_part v = sums.total_zip_map (takes v) (real_arc One) net.arcs (map (λ (a : NetArc). a.lower) net.arcs) ∙ sym (balance-is net.arcs (map (λ (a : NetArc). a.lower) net.arcs) v)

  artificial_part : (v : ℕ) → v < n → total (takes v) (zip (map (artificial_arc One) (artificial_ends net)) (map (artificial_flow net) (nodes_from_0 net))) ≡ residual net v
  artificial_part v l =
      sums.total_zip_map (takes v) (artificial_arc One) (artificial_ends net) (map (artificial_flow net) (nodes_from_0 net))
      ∙ sums.total_zip_map (λ (z : Ends × Ratio). coefficient z.0 v *ᵣ z.1) (artificial_end net) (nodes_from_0 net) (map (artificial_flow net) (nodes_from_0 net))
      ∙ total_is (λ (z : ℕ × Ratio). coefficient (artificial_end net z.0) v *ᵣ z.1) (zip (nodes_from_0 net) (map (artificial_flow net) (nodes_from_0 net)))
      ∙ beside_map (λ (z : ℕ × Ratio). coefficient (artificial_end net z.0) v *ᵣ z.1) (artificial_flow net) (nodes_from_0 net)
      ∙ graph_pieces.total_only ratios n (graph_of (ends_at net.arcs)) (λ u. coefficient (artificial_end net u) v *ᵣ artificial_flow net u) (v ∷ []) (nodes_from_0 net)
      ((λ i. i), record {}) (ascends_once (nodes_from_0 net) (range_ascends 0 n))
      (λ a. elim [ inl e ↦ subst (λ t. IsIn t (nodes_from_0 net)) (sym e) (range_holds 0 n v (omega arith) (omega arith)) | inr i ↦ absurd i ])
      (λ u i h. ap (λ t. t *ᵣ artificial_flow net u) (takes_off u v (λ e. h (inl (sym e)))) ∙ zero-*ᵣ (artificial_flow net u))
      ∙ +ᵣ-zero (coefficient (artificial_end net v) v *ᵣ artificial_flow net v) ∙ takes_at v

  balanced : (v : ℕ) → v < n → balance full.arcs (start_state net).flows v ≡ at net.supply v
  balanced v l =
      balance-is full.arcs (start_state net).flows v
      ∙ ap (total (takes v)) (zip_append (map (real_arc One) net.arcs) (map (artificial_arc One) (artificial_ends net)) (map (λ (a : NetArc). a.lower) net.arcs) (map (artificial_flow net) (nodes_from_0 net))
      (length-map net.arcs (λ (a : NetArc). a.lower) ∙ sym (length-map net.arcs (real_arc One))))
      ∙ sums.total_joined (takes v) (zip (map (real_arc One) net.arcs) (map (λ (a : NetArc). a.lower) net.arcs)) (zip (map (artificial_arc One) (artificial_ends net)) (map (artificial_flow net) (nodes_from_0 net)))
      ∙ ap₂ (λ x y. x +ᵣ y) (real_part v) (artificial_part v l) ∙ add_back (balance net.arcs (map (λ (a : NetArc). a.lower) net.arcs) v) (at net.supply v)

  -- ---- bounds

  within : HasSoundArcs net → (a : ℕ) → a < length full.arcs → IsWithin (arc_at full.arcs a) (at (start_state net).flows a)
  within sound a l = elim (split a l) [
    | inl k ↦ subst (λ x. IsWithin x (at (start_state net).flows a)) (sym (real_at a k))
        (subst (λ t. IsWithin (real_arc One (arc_at net.arcs a)) t) (sym (flow_real a k)) (≤ᵣ_refl (arc_at net.arcs a).lower, (sound a no_arc k).bounds))
    | inr r ↦ subst (λ t. IsWithin (arc_at full.arcs t) (at (start_state net).flows t)) (sym r.2)
        (subst (λ x. IsWithin x (at (start_state net).flows (m + r.0))) (sym (artificial_at r.0 r.1))
        (subst (λ t. IsWithin (artificial_arc One (artificial_end net r.0)) t) (sym (flow_artificial r.0 r.1)) (flow_above r.0, record {})))
  ]

  stands : (a : ℕ) → a < length full.arcs → StandsAt (arc_at full.arcs a) ((values_of (start_state net)).mark a) (at (start_state net).flows a)
  stands a l = elim (split a l) [
    | inl k ↦ subst (λ y. StandsAt (arc_at full.arcs a) y (at (start_state net).flows a)) (sym (mark_real a k)) (flow_real a k ∙ ap (λ (x : NetArc). x.lower) (sym (real_at a k)))
    | inr r ↦ subst (λ y. StandsAt (arc_at full.arcs a) y (at (start_state net).flows a)) (sym (ap (values_of (start_state net)).mark r.2 ∙ mark_artificial r.0 r.1)) (record {})
  ]

  -- ---- the basic arcs are the artificial ones

  basic_is : (a : ℕ) → IsIn a (basics full.arcs (values_of (start_state net)).mark) → (v : ℕ) × (v < n) × (a ≡ m + v)
  basic_is a i =
      let r = (basics_hold full.arcs (values_of (start_state net)).mark a).0 i in
      elim (split a r.0) [ inl k ↦ absurd (let e : marked.Lower ≡ marked.Basic = sym (mark_real a k) ∙ r.1 in cc) | inr s ↦ s ]

  is_basic : (v : ℕ) → v < n → IsIn (m + v) (basics full.arcs (values_of (start_state net)).mark)
  is_basic v l = (basics_hold full.arcs (values_of (start_state net)).mark (m + v)).1 (omega (arith, length_arcs), mark_artificial v l)

  price_0 : (v : ℕ) → v < n → price (values_of (start_state net)).potential (artificial_arc One (artificial_end net v)) ≡ zero_ratio
  price_0 v l = go (is_below (residual net v) zero_ratio) (potential_at v l)
    where
      go : (b : Bool) → at (start_state net).potentials v ≡ (if b then negated one_ratio else one_ratio)
          → price (values_of (start_state net)).potential (artificial_arc One (if b then Feed v else Drain v)) ≡ zero_ratio
      go true e = ap (λ t. one_ratio +ᵣ t) e ∙ +ᵣ-negated one_ratio
      go false e = ap (λ t. one_ratio +ᵣ negated t) e ∙ +ᵣ-negated one_ratio

  priced : (a : ℕ) → IsIn a (basics full.arcs (values_of (start_state net)).mark) → price (values_of (start_state net)).potential (arc_at full.arcs a) ≡ zero_ratio
  priced a i =
      let r = basic_is a i in
      ap (λ t. price (values_of (start_state net)).potential (arc_at full.arcs t)) r.2 ∙ ap (price (values_of (start_state net)).potential) (artificial_at r.0 r.1) ∙ price_0 r.0 r.1

  -- ---- its pieces are the nodes alone

  abbrev graph_at : ℕ → graph.Ends Ratio
  graph_at = graph_of (ends_at full.arcs)

  abbrev basic : List ℕ
  basic = basics full.arcs (values_of (start_state net)).mark

  graph_is : (v : ℕ) → v < n → graph_at (m + v) ≡ graph_ends (artificial_end net v)
  graph_is v l = ap graph_ends (ends_are v l)

  no_link : (i j : ℕ) (g : Ratio) (e : graph.Ends Ratio) → graph.Link i j g ≡ e → HasOneEnd e → ⊥
  no_link i j g e p h = let q : HasOneEnd (graph.Link i j g) = subst HasOneEnd (sym p) h in q

  link_none : (i j : ℕ) (g : Ratio) → IsIn (graph.Link i j g) (map graph_at basic) → ⊥
  link_none i j g k =
      let r = in_map_of graph_at (graph.Link i j g) basic k in
      let s = basic_is r.0 r.1 in
      no_link i j g (graph_ends (artificial_end net s.0)) (r.2 ∙ ap graph_at s.2 ∙ graph_is s.0 s.1) (one_end s.0)

  stay : (w : List (Step Ratio)) (u v : ℕ) → IsWalk (map graph_at basic) u w v → u ≡ v
  stay [] u v k = k
  stay (Along i j g ∷ w) u v k = absurd (link_none i j g k.1)
  stay (Against i j g ∷ w) u v k = absurd (link_none i j g k.1)

  -- the piece of a node has this node alone, and its artificial arc
  record IsSingle (least : ℕ) (nodes numbers : List ℕ) : Type 0 where
    below : least < length net.supply
    nodes_are : nodes ≡ least ∷ []
    numbers_are : numbers ≡ (length net.arcs + least) ∷ []

  touched_is : (v a : ℕ) → IsIn a basic → Touches (v ∷ []) (graph_at a) → a ≡ m + v
  touched_is v a i t =
      let s = basic_is a i in
      s.2 ∙ ap (λ x. m + x) (touch_is v s.0 (subst (Touches (v ∷ [])) (ap graph_at s.2 ∙ graph_is s.0 s.1) t))

  singles : (least : ℕ) (nodes numbers : List ℕ) → forest.IsPiece n graph_at basic least nodes numbers → IsSingle least nodes numbers
  singles least nodes numbers p = record {
    below = below;
    nodes_are = nodes_are;
    numbers_are = one_alone (m + least) numbers p.arcs_once
        ((p.touched (m + least)).1 (is_basic least below, subst (Touches nodes) (sym (graph_is least below)) (touch_at nodes least p.has_least).0))
        (λ a i. let r = (p.touched a).0 i in touched_is least a r.0 (subst (λ t. Touches t (graph_at a)) nodes_are r.1));
  }
    where
      below : least < n
      below = ((p.joined least).0 p.has_least).0

      nodes_are : nodes ≡ least ∷ []
      nodes_are = one_alone least nodes p.nodes_once p.has_least (λ v i. let r = (p.joined v).0 i in sym (stay r.1.0 least v r.1.1))

  single_is_part : (v : ℕ) → v < n → IsPart full (values_of (start_state net)).mark (v ∷ []) ((m + v) ∷ [])
  single_is_part v l = record {
    nodes_ascend = one_rises v;
    arcs_ascend = one_rises (m + v);
    least = v;
    is_piece = record {
      nodes_once = ((λ i. i), record {});
      arcs_once = ((λ i. i), record {});
      has_least = inl refl;
      is_least = λ u. elim [ inl e ↦ omega arith | inr i ↦ absurd i ];
      joined = λ u. (
        elim [ inl e ↦ (subst (λ t. t < n) (sym e) l, ([], sym e)) | inr i ↦ absurd i ],
        λ r. inl (sym (stay r.1.0 v u r.1.1)),
      );
      touched = λ a. (
        elim [
          | inl e ↦ (
            subst (λ t. IsIn t basic) (sym e) (is_basic v l),
            subst (Touches (v ∷ [])) (sym (ap graph_at e ∙ graph_is v l)) (touch_at (v ∷ []) v (inl refl)).0,
          )
          | inr i ↦ absurd i
        ],
        λ r. inl (touched_is v a r.0 r.1),
      );
    };
  }

  pub one_node_tree : (v : ℕ) → IsQuasiTree ratios (v ∷ []) (graph_ends (artificial_end net v) ∷ [])
  one_node_tree v = record {
    nodes_once = ((λ i. i), record {});
    some_node = (v, inl refl);
    ends_inside = λ e. elim [ inl p ↦ subst (LiesIn ratios (v ∷ [])) (sym p) (touch_at (v ∷ []) v (inl refl)).1 | inr i ↦ absurd i ];
    joined = λ u w i j. elim i [ inl p ↦ elim j [ inl r ↦ ([], p ∙ sym r) | inr k ↦ absurd k ] | inr k ↦ absurd k ];
    as_many = refl;
    extra = inl (graph_ends (artificial_end net v), inl refl, one_end v);
  }

  tree : (v : ℕ) → v < n → IsQuasiTree ratios (v ∷ []) (map graph_at ((m + v) ∷ []))
  tree v l = subst (λ e. IsQuasiTree ratios (v ∷ []) (e ∷ [])) (sym (graph_is v l)) (one_node_tree v)

  is_state : HasSoundArcs net → ResidualsFit net → IsState full (start_state net)
  is_state sound fit = record {
    one_mark_each = length-append (map (λ (b : NetArc). marked.Lower) net.arcs) (map (λ (v : ℕ). marked.Basic) (nodes_from_0 net))
        ∙ ap₂ (λ x y. x + y) (length-map net.arcs (λ (b : NetArc). marked.Lower)) (length-map-range_with_len (λ (v : ℕ). marked.Basic) 0 n) ∙ sym length_arcs;
    one_potential_each = length-map-range_with_len (start_potential net) 0 n;
    feasible = record {
      one_each = length_flows;
      balanced = balanced;
      within = λ k z l. let l' : k < length full.arcs = omega (arith, length-zip full.arcs (start_state net).flows) in
          subst (λ (y : NetArc × Ratio). IsWithin y.0 y.1) (sym (zipped full.arcs (start_state net).flows length_flows k l' z)) (within sound k l');
    };
    at_bounds = stands;
    priced = priced;
    flows_fit = λ a i. let r = basic_is a i in subst Fits (sym (ap (at (start_state net).flows) r.2 ∙ flow_artificial r.0 r.1)) (artificial_fits r.0 (fit r.0 r.1));
    potentials_fit = λ v l. subst Fits (sym (potential_at v l)) (potential_fits v);
    forest = λ least nodes numbers p. let s : IsSingle least nodes numbers = singles least nodes numbers p in
        subst (λ x. IsQuasiTree ratios x (map graph_at numbers)) (sym s.nodes_are) (subst (λ x. IsQuasiTree ratios (least ∷ []) (map graph_at x)) (sym s.numbers_are) (tree least s.below));
    rows_fit = λ nodes numbers p. let s : IsSingle p.least nodes numbers = singles p.least nodes numbers p.is_piece in
        subst (λ x. PotentialsFit (ends_at full.arcs) (cost_at full.arcs) x (values_of (start_state net)).potential) (sym s.numbers_are)
        (one_end_fits (ends_at full.arcs) (cost_at full.arcs) (m + p.least) (values_of (start_state net)).potential (subst HasOneEnd (sym (graph_is p.least s.below)) (one_end p.least)));
  }

pub start_is_artificial : StartIsArtificial
start_is_artificial net = record { one_each = length_ends net; at_nodes = λ v other l. subst (IsOneEndAt v) (sym (end_at net v other l)) (at_node net v) }

pub start_is_state : StartIsState
start_is_state net sound fit = is_state net sound fit

pub start_is_singles : StartIsSingles
start_is_singles net nodes numbers p = let s : IsSingle net p.least nodes numbers = singles net p.least nodes numbers p.is_piece in (p.least, s.below, s.nodes_are, s.numbers_are)

pub single_part : SingleIsPart
single_part net v l = single_is_part net v l
