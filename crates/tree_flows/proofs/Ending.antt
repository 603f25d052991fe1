-- The amount on an extra arc with one end.
use Rattle.std.specs.Prelude.{◌≡◌, ◌≢◌, ◌<◌, ℕ, List, [], ◌∷◌, length, slice_index_or, slice_set, Result, Ok, Err, MatchResult}
use Rattle.std.proofs.Common.{refl, sym, ap, ap₂, subst, ◌∙◌, inl, inr}
use Rattle.std.proofs.lemmas.List.{get_or-set_same, get_or-set_other, length-set}
use Rattle.gain_graphs.specs.Arcs.{IsIn}
use Rattle.gain_graphs.proofs.Lists.{length_map}
use Rattle.np_frac.specs.Ratio.{Ratio, zero_ratio, ◌+ᵣ◌, ◌*ᵣ◌}
use Rattle.np_frac.specs.Exact.{◌▷◌}
use Rattle.np_frac.specs.declared.frac.Past.{Past}
use Rattle.np_frac.proofs.RatioLaws.{zero-+ᵣ}
use Rattle.np_model.specs.declared.arc.Ends.{Ends}
use Rattle.np_model.specs.declared.arc.Ends.TheVariants.{Link, Drain, Feed}
use Rattle.np_model.specs.Network.Flows.{at}
use Rattle.np_model.specs.Basis.Artificial.{IsOneEndAt}
use Rattle.np_model.specs.Basis.Pieces.{nodes_in}
use Rattle.np_model.specs.Rows.Directions.{turned, sum_at, FitsRows, FitsExtra}
use Rattle.np_model.specs.Rows.Extra.{OneEnd, extra_arcs, extra_nodes, IsExtra}
use Rattle.tree_search.specs.declared.piece.Step.{Step}
use Rattle.tree_search.specs.declared.piece.ExtraArc.TheVariants as found
use Rattle.tree_search.specs.Places.{loose, ends_by_place}
use Rattle.tree_search.specs.Finding.{as_extra, IsLaidOut}
use Rattle.tree_search.proofs.Placed as placed
use Rattle.tree_flows.specs.Along.{sum_of}
use Rattle.tree_flows.specs.Walks.{close_end}
use Rattle.tree_flows.proofs.Coefficients.{K, taken, sum_exact, turned_exact, only_one, K_not_zero, end_touches}
use Rattle.np_frac.proofs.Results.{is_ok_of}
use Rattle.tree_flows.proofs.Scenes as scenes
use Rattle.tree_flows.proofs.Scenes.{Scene}
use Rattle.tree_flows.proofs.Adding as adding
use Rattle.tree_flows.proofs.Balances as balances
use Rattle.tree_flows.proofs.Inward as inward

-- at an arc with one end nothing overflows
turned_end : (e : Ends) (v : ℕ) (sum : Ratio) (past : Past) → IsOneEndAt v e → turned e v sum ≡ Err past → ⊥
turned_end (Link i j g) v sum past h e = h
turned_end (Drain i) v sum past h e = cc
turned_end (Feed i) v sum past h e = cc

module _ (s : Scene) where
  abbrev E : ℕ → Ends
  E = scenes.ends s

  -- the amounts on all basic arcs
  pub record AreAll (amounts : List Ratio) : Type 0 where
    pub long : length amounts ≡ length s.piece.basics
    pub are : (a : ℕ) → a < length s.piece.basics → at amounts a ≡ s.d (scenes.number s a)

  abbrev pub FitsAll : Type 0
  FitsAll = FitsRows E s.d (scenes.own s) (scenes.x s) s.e.arc

  abbrev pub IsWhole : Result (List Ratio) Past → Type 0
  IsWhole r = MatchResult r (λ amounts. AreAll amounts × FitsAll) (inward.Told s)

  -- no step leads to a node of the extra arc
  pub far_apart : (p : ℕ) → IsIn (scenes.node s p) (extra_nodes (scenes.x s)) → (t : Step) → IsIn t (scenes.steps s) → t.far ≢ p
  far_apart p i t k m = (scenes.out s).apart (scenes.number s t.arc) (scenes.node s t.near) (scenes.node s t.far) ((scenes.out s).hang t k) (subst (λ n. IsIn (scenes.node s n) (extra_nodes (scenes.x s))) (sym m) i)

  module _ (amounts : List Ratio) (made : inward.AreMade s (scenes.steps s) amounts) (done : (t : Step) → IsIn t (scenes.steps s) → inward.IsDone s t) where
    -- the sum at a node of the extra arc can be made
    pub extra_ready : (p : ℕ) → IsIn (scenes.node s p) (extra_nodes (scenes.x s)) → adding.AreReady s p amounts
    extra_ready p i = inward.ready_at s p (scenes.steps s) amounts made (λ t k. k) (λ t k m. k) (far_apart p i)

    module _ (arc : ℕ) (is : s.extra ≡ found.OneEnd arc) where
      abbrev place : ℕ
      place = (slice_index_or s.joints arc loose).from

      abbrev v : ℕ
      v = scenes.node s place

      abbrev a : ℕ
      a = scenes.number s arc

      x_is : scenes.x s ≡ OneEnd a v
      x_is = ap (as_extra (nodes_in s.piece) s.piece.basics s.joints) is

      there : IsExtra E (scenes.own s) (OneEnd a v)
      there = subst (IsExtra E (scenes.own s)) x_is (scenes.is_extra s)

      inside : arc < length s.piece.basics
      inside = let l : IsLaidOut (nodes_in s.piece) s.piece.basics (found.OneEnd arc) = subst (IsLaidOut (nodes_in s.piece) s.piece.basics) is s.is.laid_out in l.0

      below : place < length s.piece.nodes
      below = subst (λ n. place < n) (length_map (λ (n : ℕ × Ratio). n.0) s.piece.nodes)
          (placed.joints_below (nodes_in s.piece) s.piece.basics s.joints s.are arc loose (subst (λ n. arc < n) (sym s.are.long) inside)).0

      at_extra : IsIn v (extra_nodes (scenes.x s))
      at_extra = subst (λ y. IsIn v (extra_nodes y)) (sym x_is) (inl refl)

      in_arcs : (b : ℕ) → IsIn b (extra_arcs (scenes.x s)) → b ≡ a
      in_arcs b i = elim (subst (λ y. IsIn b (extra_arcs y)) x_is i) [ inl e ↦ e | inr z ↦ absurd z ]

      abbrev list : List ℕ
      list = adding.list s place

      not_added : ¬ IsIn a list
      not_added k = elim (((adding.added s place below).all a).0 k) [
        | inl r ↦ s.pulled.outside (subst (λ t. IsIn t (scenes.own s)) r.0 there.0)
        | inr r ↦ r.1.off (subst (λ y. IsIn a (extra_arcs y)) (sym x_is) (inl refl))
      ]

      balance : taken E s.d v list +ᵣ K (E a) v *ᵣ s.d a ≡ zero_ratio
      balance = balances.one_main s v a list (balances.balance_by s place below (a ∷ []) list (adding.added s place below) ((λ z. z), record {})
          (λ b. elim [ inl e ↦ (subst (λ t. IsIn t (scenes.own s)) (sym e) there.0, λ k. not_added (subst (λ t. IsIn t list) e k)) | inr z ↦ absurd z ])
          (λ b i t. elim (balances.at_node s b v i t) [
            | inl j ↦ inl (inl (in_arcs b j))
            | inr r ↦ elim r [ inl k ↦ inr k | inr k ↦ absurd ((scenes.out s).apart b k.0 v k.1 at_extra) ]
          ]))

      amount_is : (sum y : Ratio) → sum_at E s.d v list zero_ratio ≡ Ok sum → turned (E a) v sum ≡ Ok y → y ≡ s.d a
      amount_is sum y e f =
          let t = end_touches (E a) v there.1 in
          let total : sum ≡ taken E s.d v list = sum_exact E s.d v list zero_ratio sum (balances.added_all s v list (adding.added s place below)) e ∙ zero-+ᵣ (taken E s.d v list) in
          only_one (K (E a) v) sum y (s.d a) (K_not_zero (E a) v (scenes.no_loop s a there.0) (scenes.has_ratio s a there.0) t)
          (turned_exact (E a) v sum y (scenes.no_loop s a there.0) (scenes.has_ratio s a there.0) t f)
          (ap (λ t. t +ᵣ K (E a) v *ᵣ s.d a) total ∙ balance)

      all : (y : Ratio) → y ≡ s.d a → AreAll (slice_set amounts arc y)
      all y m = record { long = length-set amounts arc y ∙ made.long; are = are }
        where
          are : (b : ℕ) → b < length s.piece.basics → at (slice_set amounts arc y) b ≡ s.d (scenes.number s b)
          are b l = elim (inward.same_or b arc) [
            | inl k ↦ subst (λ n. at (slice_set amounts arc y) n ≡ s.d (scenes.number s n)) (sym k) (get_or-set_same amounts arc y zero_ratio (subst (λ t. arc < t) (sym made.long) inside) ∙ m)
            | inr n ↦ get_or-set_other amounts arc b y zero_ratio n ∙ elim ((scenes.out s).arcs (scenes.number s b) (scenes.in_own s b l)) [
              | inl j ↦ absurd (n (scenes.one_number s b arc l inside (in_arcs (scenes.number s b) j)))
              | inr r ↦ (let o = (scenes.out s).all (scenes.number s b) r.0 r.1 r.2 in
                  subst (λ n. at amounts n ≡ s.d (scenes.number s n)) (scenes.one_number s o.step.arc b (scenes.within s o.step o.is_in).0 l o.arc) (made.known o.step o.is_in))
            ]
          ]

      fits : (sum : Ratio) → sum_at E s.d v list zero_ratio ≡ Ok sum → FitsAll
      fits sum e = record { links = inward.links s done; extra = subst (FitsExtra E s.d (scenes.own s) (scenes.x s) s.e.arc) (sym x_is) made_sum }
        where
          made_sum : FitsExtra E s.d (scenes.own s) (scenes.x s) s.e.arc (OneEnd a v)
          made_sum other m = is_ok_of (sum_at E s.d v other zero_ratio) sum (ap (λ l. sum_at E s.d v l zero_ratio) (inward.list_same s place below other m) ∙ e)

      value : (sum_of s.piece.nodes s.piece.basics s.joints s.before s.e.ends s.e.amount amounts place ▷ turned (ends_by_place s.piece.basics arc) v) ≡ (sum_at E s.d v list zero_ratio ▷ turned (E a) v)
      value = ap₂ (λ t q. t ▷ turned q v) (adding.sum_is s place amounts (extra_ready place at_extra)) (sym (scenes.ends_of s arc inside))

      abbrev written : Ratio → Result (List Ratio) Past
      written y = Ok (slice_set amounts arc y)

      pub closed_end : IsWhole (close_end s.piece.nodes s.piece.basics s.joints s.before s.e arc amounts)
      closed_end = go (sum_at E s.d v list zero_ratio) refl
        where
          go : (r : Result Ratio Past) → sum_at E s.d v list zero_ratio ≡ r → IsWhole (close_end s.piece.nodes s.piece.basics s.joints s.before s.e arc amounts)
          go (Err past) e = subst (λ t. IsWhole (t ▷ written)) (sym (value ∙ ap (λ t. t ▷ turned (E a) v) e)) (inward.sum_told s place past below (inl at_extra) (inward.all_settled s done place below) e)
          go (Ok sum) e = turn (turned (E a) v sum) refl
            where
              turn : (r : Result Ratio Past) → turned (E a) v sum ≡ r → IsWhole (close_end s.piece.nodes s.piece.basics s.joints s.before s.e arc amounts)
              turn (Err past) f = absurd (turned_end (E a) v sum past there.1 f)
              turn (Ok y) f = subst (λ t. IsWhole (t ▷ written)) (sym (value ∙ ap (λ t. t ▷ turned (E a) v) e ∙ f)) (all y (amount_is sum y e f), fits sum e)
