-- What goes round a cycle, step by step.
use Rattle.std.specs.Prelude.{◌≡◌, ◌≢◌, ◌<◌, ℕ, List, [], ◌∷◌, ◌++◌, length, slice_index, slice_set, Result, Ok, Err, MatchResult, ⊤}
use Rattle.std.specs.Result.{IsOk}
use Rattle.std.proofs.Common.{refl, sym, ap, ap₂, subst, ◌∙◌, inl, inr}
use Rattle.std.proofs.lemmas.List.{get_or-set_same, get_or-set_other, length-set}
use Rattle.gain_graphs.specs.Arcs.{IsIn, AreDistinct, Touches}
use Rattle.gain_graphs.specs.Cycles.{Joins, IsNoLoop, arcs_along, last_arc}
use Rattle.np_frac.specs.Ratio.{Ratio, zero_ratio, one_ratio, negated, inverse, ◌+ᵣ◌, ◌*ᵣ◌}
use Rattle.np_frac.specs.Exact.{plus_of, times_of, over_of, ◌▷◌}
use Rattle.np_frac.specs.declared.frac.Past.{Past}
use Rattle.np_frac.proofs.Exactness.{plus_exact, times_exact, over_exact, found_by}
use Rattle.np_frac.proofs.RatioLaws.{+ᵣ_assoc, zero-+ᵣ, *ᵣ_assoc, *ᵣ_comm, *ᵣ-+ᵣ, *ᵣ-zero, one-*ᵣ, along_step}
use Rattle.np_frac.proofs.Field.{+ᵣ-negated, *ᵣ-inverse}
use Rattle.np_model.specs.declared.arc.Ends.{Ends}
use Rattle.np_model.specs.Network.Flows.{at}
use Rattle.np_model.specs.Basis.Graphs.{graph_of}
use Rattle.np_model.specs.Rows.Directions as rows
use Rattle.np_model.specs.Rows.Directions.{term, turned, with_first, mixed}
use Rattle.tree_search.specs.declared.piece.Step.{Step}
use Rattle.tree_search.specs.Places.{numbers_of_nodes, number_by_place, ends_by_place}
use Rattle.tree_search.specs.Finding.{way_of}
use Rattle.tree_flows.specs.Along.{next_amount, next_share, amount_behind, share_behind, last_of, end_term, divisor_of, closing_of, mix_after}
use Rattle.tree_flows.proofs.Coefficients.{K, HasRatio, only_one, ok_same, term_exact, turned_exact, K_not_zero, joins_touches}
use Rattle.np_frac.proofs.Results.{is_ok_of, same_when, then_then}

-- ---- over one arc

-- what goes on over an arc is linear in the amount on the first arc of a cycle
pub carried_on : (kz kn part share sum p q t dz dn : Ratio) → kn ≢ zero_ratio → (kz *ᵣ part +ᵣ sum) +ᵣ kn *ᵣ p ≡ zero_ratio → kz *ᵣ share +ᵣ kn *ᵣ q ≡ zero_ratio
    → part +ᵣ share *ᵣ t ≡ dz → (kz *ᵣ dz +ᵣ sum) +ᵣ kn *ᵣ dn ≡ zero_ratio → p +ᵣ q *ᵣ t ≡ dn
carried_on kz kn part share sum p q t dz dn n a b c e = only_one kn (kz *ᵣ dz +ᵣ sum) (p +ᵣ q *ᵣ t) dn n
    (+ᵣ_assoc (kz *ᵣ dz) sum (kn *ᵣ (p +ᵣ q *ᵣ t))
    ∙ ap₂ (λ y z. kz *ᵣ y +ᵣ z) (sym c ∙ ap (λ y. part +ᵣ y) (*ᵣ_comm share t))
    (ap (λ y. sum +ᵣ y) (*ᵣ-+ᵣ kn p (q *ᵣ t) ∙ ap (λ y. kn *ᵣ p +ᵣ y) (sym (*ᵣ_assoc kn q t) ∙ *ᵣ_comm (kn *ᵣ q) t)) ∙ sym (+ᵣ_assoc sum (kn *ᵣ p) (t *ᵣ (kn *ᵣ q))))
    ∙ along_step kz part t share (sum +ᵣ kn *ᵣ p) (kn *ᵣ q)
    ∙ ap₂ (λ y z. y +ᵣ t *ᵣ z) (sym (+ᵣ_assoc (kz *ᵣ part) sum (kn *ᵣ p)) ∙ a) b
    ∙ zero-+ᵣ (t *ᵣ zero_ratio) ∙ *ᵣ-zero t) e

-- the amount on the first arc
pub first_found : (kl kf p q sum t dl whole last first : Ratio) → last ≢ zero_ratio → whole ≡ kl *ᵣ p +ᵣ sum → last ≡ kl *ᵣ q +ᵣ kf → p +ᵣ q *ᵣ t ≡ dl
    → (kl *ᵣ dl +ᵣ sum) +ᵣ kf *ᵣ t ≡ zero_ratio → over_of (negated whole) last ≡ Ok first → first ≡ t
first_found kl kf p q sum t dl whole last first n w l c e o = only_one last whole first t n
    (ap (λ y. whole +ᵣ last *ᵣ y) (over_exact (negated whole) last first o)
    ∙ ap (λ y. whole +ᵣ y) (ap (λ y. last *ᵣ y) (*ᵣ_comm (negated whole) (inverse last)) ∙ sym (*ᵣ_assoc last (inverse last) (negated whole)) ∙ ap (λ y. y *ᵣ negated whole) (*ᵣ-inverse last n) ∙ one-*ᵣ (negated whole))
    ∙ +ᵣ-negated whole)
    (ap₂ (λ y z. y +ᵣ z) w (ap (λ y. y *ᵣ t) l ∙ *ᵣ_comm (kl *ᵣ q +ᵣ kf) t)
    ∙ sym (along_step kl p t q sum kf)
    ∙ ap₂ (λ y z. kl *ᵣ y +ᵣ (sum +ᵣ z)) (ap (λ y. p +ᵣ y) (*ᵣ_comm t q) ∙ c) (*ᵣ_comm t kf)
    ∙ sym (+ᵣ_assoc (kl *ᵣ dl) sum (kf *ᵣ t)) ∙ e)

pub mixed_exact : (t p q y : Ratio) → mixed t p q ≡ Ok y → y ≡ p +ᵣ q *ᵣ t
mixed_exact t p q y e =
    let m = found_by (times_of q t) (plus_of p) y e in
    plus_exact p m.0 y m.2 ∙ ap (λ z. p +ᵣ z) (times_exact q t m.0 m.1)

module _ (nodes : List (ℕ × Ratio)) (basics : List (ℕ × Ends × Ratio)) (ends : ℕ → Ends) (d : ℕ → Ratio) where
  abbrev Nodes : List ℕ
  Nodes = numbers_of_nodes nodes

  abbrev node : ℕ → ℕ
  node p = slice_index Nodes p

  abbrev number : ℕ → ℕ
  number a = number_by_place basics a

  -- the ends of the arc of a step
  abbrev HasEnds : Step → Type 0
  HasEnds z = ends (number z.arc) ≡ ends_by_place basics z.arc

  -- ---- by numbers

  pub share_is : (z : Step) (rest : List Step) (y : Ratio) → ((u : Step) → IsIn u (z ∷ rest) → HasEnds u)
      → share_behind nodes basics z rest y ≡ rows.share_along ends d (number z.arc) (node z.far) (way_of Nodes basics rest) y
  share_is z [] y h = refl
  share_is z (n ∷ rest) y h =
      ap (λ r. r ▷ share_behind nodes basics n rest) (ap₂ (λ p q. term p (node z.far) y ▷ turned q (node z.far)) (sym (h z (inl refl))) (sym (h n (inr (inl refl)))))
      ∙ same_when (term (ends (number z.arc)) (node z.far) y ▷ turned (ends (number n.arc)) (node z.far)) (share_behind nodes basics n rest)
      (rows.share_along ends d (number n.arc) (node n.far) (way_of Nodes basics rest)) (λ w _. share_is n rest w (λ u i. h u (inr i)))

  pub amount_is : (sum : ℕ → Ratio) (sums : List Ratio) (z : Step) (rest : List Step) (y : Ratio) → ((u : Step) → IsIn u (z ∷ rest) → HasEnds u) → ((u : Step) → IsIn u (z ∷ rest) → sum (node u.far) ≡ at sums u.far)
      → amount_behind nodes basics sums z rest y ≡ rows.amount_along ends d sum (number z.arc) (node z.far) (way_of Nodes basics rest) y
  amount_is sum sums z [] y h g = refl
  amount_is sum sums z (n ∷ rest) y h g =
      let v = node z.far in
      let e = ends (number z.arc) in
      let f = ends (number n.arc) in
      let next : Ratio → Result Ratio Past = λ more. plus_of more (sum v) ▷ turned f v in
      ap (λ r. r ▷ amount_behind nodes basics sums n rest)
      (ap (λ p. term p v y ▷ λ (more : Ratio). plus_of more (at sums z.far) ▷ turned (ends_by_place basics n.arc) v) (sym (h z (inl refl)))
      ∙ ap₂ (λ c q. term e v y ▷ λ (more : Ratio). plus_of more c ▷ turned q v) (sym (g z (inl refl))) (sym (h n (inr (inl refl)))))
      ∙ then_then (term e v y) next (amount_behind nodes basics sums n rest)
      ∙ same_when (term e v y) (λ more. next more ▷ amount_behind nodes basics sums n rest) (λ more. next more ▷ rows.amount_along ends d sum (number n.arc) (node n.far) (way_of Nodes basics rest))
      (λ more _. same_when (next more) (amount_behind nodes basics sums n rest) (rows.amount_along ends d sum (number n.arc) (node n.far) (way_of Nodes basics rest))
      (λ w _. amount_is sum sums n rest w (λ u i. h u (inr i)) (λ u i. g u (inr i))))

  pub last_in : (z : Step) (rest : List Step) → IsIn (last_of z rest) (z ∷ rest)
  last_in z [] = inl refl
  last_in z (n ∷ rest) = inr (last_in n rest)

  pub last_number : (z : Step) (rest : List Step) → last_arc (number z.arc) (way_of Nodes basics rest) ≡ number (last_of z rest).arc
  last_number z [] = refl
  last_number z (n ∷ rest) = last_number n rest

  last_ends : (z : Step) (rest : List Step) → ((u : Step) → IsIn u (z ∷ rest) → HasEnds u) → ends (last_arc (number z.arc) (way_of Nodes basics rest)) ≡ ends_by_place basics (last_of z rest).arc
  last_ends z rest h = ap ends (last_number z rest) ∙ h (last_of z rest) (last_in z rest)

  pub divisor_is : (z : Step) (rest : List Step) (k : ℕ) → ((u : Step) → IsIn u (z ∷ rest) → HasEnds u) → node (last_of z rest).far ≡ k
      → divisor_of nodes basics z rest ≡ rows.divisor ends d k (number z.arc, node z.far) (way_of Nodes basics rest)
  divisor_is z rest k h n =
      let share = rows.share_along ends d (number z.arc) (node z.far) (way_of Nodes basics rest) one_ratio in
      let last = ends (last_arc (number z.arc) (way_of Nodes basics rest)) in
      ap (λ r. r ▷ end_term nodes basics (last_of z rest) ▷ with_first (ends_by_place basics z.arc) (node (last_of z rest).far)) (share_is z rest one_ratio h)
      ∙ ap₂ (λ p v. share ▷ term p v ▷ with_first (ends_by_place basics z.arc) v) (sym (last_ends z rest h)) n
      ∙ ap (λ p. share ▷ term last k ▷ with_first p k) (sym (h z (inl refl)))

  pub closing_is : (sum : ℕ → Ratio) (sums : List Ratio) (z : Step) (rest : List Step) (k : ℕ) → ((u : Step) → IsIn u (z ∷ rest) → HasEnds u) → ((u : Step) → IsIn u (z ∷ rest) → sum (node u.far) ≡ at sums u.far)
      → node (last_of z rest).far ≡ k → closing_of nodes basics sums z rest ≡ rows.closing ends d sum k (number z.arc, node z.far) (way_of Nodes basics rest)
  closing_is sum sums z rest k h g n =
      let amount = rows.amount_along ends d sum (number z.arc) (node z.far) (way_of Nodes basics rest) zero_ratio in
      ap (λ r. r ▷ end_term nodes basics (last_of z rest) ▷ λ (ending : Ratio). plus_of ending (at sums (last_of z rest).far)) (amount_is sum sums z rest zero_ratio h g)
      ∙ ap₂ (λ p c. amount ▷ term p (node (last_of z rest).far) ▷ λ (ending : Ratio). plus_of ending c) (sym (last_ends z rest h)) (sym (g (last_of z rest) (last_in z rest)))
      ∙ ap (λ v. amount ▷ term (ends (last_arc (number z.arc) (way_of Nodes basics rest))) v ▷ λ (ending : Ratio). plus_of ending (sum v)) n

  -- ---- what is carried from step to step

  -- a step is a link, and ends at its far node
  pub record IsLinked (z : Step) : Type 0 where
    pub ends_are : HasEnds z
    pub no_loop : IsNoLoop (graph_of ends (number z.arc))
    pub ratio : HasRatio (ends (number z.arc))
    pub near : ℕ
    pub joins : Joins (graph_of ends (number z.arc)) near (node z.far)

  -- the next step is left from that node
  abbrev pub Goes : Step → List Step → Type 0
  Goes z [] = ⊤
  Goes z (n ∷ rest) = Touches (node z.far ∷ []) (graph_of ends (number n.arc)) × Goes n rest

  module _ (sums : List Ratio) where
    -- at each node between the steps the amounts and its sum add up to 0
    abbrev pub Balanced : Step → List Step → Type 0
    Balanced z [] = ⊤
    Balanced z (n ∷ rest) =
        ((K (ends (number z.arc)) (node z.far) *ᵣ d (number z.arc) +ᵣ at sums z.far) +ᵣ K (ends (number n.arc)) (node z.far) *ᵣ d (number n.arc) ≡ zero_ratio) × Balanced n rest

    amount_exact : (z n : Step) (part p : Ratio) → IsLinked z → IsLinked n → Touches (node z.far ∷ []) (graph_of ends (number n.arc)) → next_amount nodes basics sums z n part ≡ Ok p
        → (K (ends (number z.arc)) (node z.far) *ᵣ part +ᵣ at sums z.far) +ᵣ K (ends (number n.arc)) (node z.far) *ᵣ p ≡ zero_ratio
    amount_exact z n part p lz ln t e =
        let v = node z.far in
        let f : (term (ends (number z.arc)) v part ▷ λ (more : Ratio). plus_of more (at sums z.far) ▷ turned (ends (number n.arc)) v) ≡ Ok p =
        ap₂ (λ a b. term a v part ▷ λ (more : Ratio). plus_of more (at sums z.far) ▷ turned b v) lz.ends_are ln.ends_are ∙ e in
        let m = found_by (term (ends (number z.arc)) v part) (λ more. plus_of more (at sums z.far) ▷ turned (ends (number n.arc)) v) p f in
        let o = found_by (plus_of m.0 (at sums z.far)) (turned (ends (number n.arc)) v) p m.2 in
        ap (λ y. y +ᵣ K (ends (number n.arc)) v *ᵣ p)
        (sym (plus_exact m.0 (at sums z.far) o.0 o.1 ∙ ap (λ y. y +ᵣ at sums z.far) (term_exact (ends (number z.arc)) v part m.0 lz.no_loop (joins_touches (ends (number z.arc)) lz.near v lz.joins).1 m.1)))
        ∙ turned_exact (ends (number n.arc)) v o.0 p ln.no_loop ln.ratio t o.2

    share_exact : (z n : Step) (share q : Ratio) → IsLinked z → IsLinked n → Touches (node z.far ∷ []) (graph_of ends (number n.arc)) → next_share nodes basics z n share ≡ Ok q
        → K (ends (number z.arc)) (node z.far) *ᵣ share +ᵣ K (ends (number n.arc)) (node z.far) *ᵣ q ≡ zero_ratio
    share_exact z n share q lz ln t e =
        let v = node z.far in
        let f : (term (ends (number z.arc)) v share ▷ turned (ends (number n.arc)) v) ≡ Ok q = ap₂ (λ a b. term a v share ▷ turned b v) lz.ends_are ln.ends_are ∙ e in
        let m = found_by (term (ends (number z.arc)) v share) (turned (ends (number n.arc)) v) q f in
        ap (λ y. y +ᵣ K (ends (number n.arc)) v *ᵣ q) (sym (term_exact (ends (number z.arc)) v share m.0 lz.no_loop (joins_touches (ends (number z.arc)) lz.near v lz.joins).1 m.1))
        ∙ turned_exact (ends (number n.arc)) v m.0 q ln.no_loop ln.ratio t m.2

    over_one : (z n : Step) (part share p q t : Ratio) → IsLinked z → IsLinked n → Touches (node z.far ∷ []) (graph_of ends (number n.arc))
        → (K (ends (number z.arc)) (node z.far) *ᵣ d (number z.arc) +ᵣ at sums z.far) +ᵣ K (ends (number n.arc)) (node z.far) *ᵣ d (number n.arc) ≡ zero_ratio
        → next_amount nodes basics sums z n part ≡ Ok p → next_share nodes basics z n share ≡ Ok q → part +ᵣ share *ᵣ t ≡ d (number z.arc) → p +ᵣ q *ᵣ t ≡ d (number n.arc)
    over_one z n part share p q t lz ln touch b e f m =
        carried_on (K (ends (number z.arc)) (node z.far)) (K (ends (number n.arc)) (node z.far)) part share (at sums z.far) p q t (d (number z.arc)) (d (number n.arc))
        (K_not_zero (ends (number n.arc)) (node z.far) ln.no_loop ln.ratio touch) (amount_exact z n part p lz ln touch e) (share_exact z n share q lz ln touch f) m b

    -- behind all of them
    pub over_all : (z : Step) (rest : List Step) (part share p q t : Ratio) → ((u : Step) → IsIn u (z ∷ rest) → IsLinked u) → Goes z rest → Balanced z rest
        → amount_behind nodes basics sums z rest part ≡ Ok p → share_behind nodes basics z rest share ≡ Ok q → part +ᵣ share *ᵣ t ≡ d (number z.arc) → p +ᵣ q *ᵣ t ≡ d (number (last_of z rest).arc)
    over_all z [] part share p q t l g b e f m = ap₂ (λ x y. x +ᵣ y *ᵣ t) (sym (ok_same part p e)) (sym (ok_same share q f)) ∙ m
    over_all z (n ∷ rest) part share p q t l g b e f m =
        let o = found_by (next_amount nodes basics sums z n part) (amount_behind nodes basics sums n rest) p e in
        let r = found_by (next_share nodes basics z n share) (share_behind nodes basics n rest) q f in
        over_all n rest o.0 r.0 p q t (λ u i. l u (inr i)) g.1 b.1 o.2 r.2 (over_one z n part share o.0 r.0 t (l z (inl refl)) (l n (inr (inl refl))) g.0 b.0 o.1 r.1 m)

    -- the amount on the last of these arcs, from its parts
    abbrev pub mix_behind : Ratio → Step → List Step → Ratio → Ratio → Result Ratio Past
    mix_behind t z before part share = amount_behind nodes basics sums z before part ▷ λ p. share_behind nodes basics z before share ▷ mixed t p

    -- what the walk writes
    pub record AreMixed (t : Ratio) (z : Step) (rest : List Step) (part share : Ratio) (amounts found : List Ratio) : Type 0 where
      pub long : length found ≡ length basics
      pub values : (u : Step) → IsIn u rest → at found u.arc ≡ d (number u.arc)
      pub others : (a : ℕ) → ((u : Step) → IsIn u rest → u.arc ≢ a) → at found a ≡ at amounts a
      pub fit : (before after : List Step) → before ++ after ≡ rest → IsOk (mix_behind t z before part share)

    pub record IsUnmixed (t : Ratio) (z : Step) (rest : List Step) (part share : Ratio) (past : Past) : Type 0 where
      pub before : List Step
      pub after : List Step
      pub split : before ++ after ≡ rest
      pub overflows : mix_behind t z before part share ≡ Err past

    behind_next : (t : Ratio) (z n : Step) (b : List Step) (part share p q : Ratio) (r : Result Ratio Past) → next_amount nodes basics sums z n part ≡ Ok p → next_share nodes basics z n share ≡ Ok q
        → mix_behind t n b p q ≡ r → mix_behind t z (n ∷ b) part share ≡ r
    behind_next t z n b part share p q r e f m =
        ap₂ (λ x y. (x ▷ amount_behind nodes basics sums n b) ▷ λ (p : Ratio). (y ▷ share_behind nodes basics n b) ▷ mixed t p) e f ∙ m

    pub mix_walk : (t : Ratio) (z : Step) (rest : List Step) (part share : Ratio) (amounts : List Ratio) → ((u : Step) → IsIn u (z ∷ rest) → IsLinked u) → Goes z rest → Balanced z rest
        → ((u : Step) → IsIn u rest → u.arc < length basics) → AreDistinct (arcs_along (way_of Nodes basics rest)) → length amounts ≡ length basics → part +ᵣ share *ᵣ t ≡ d (number z.arc) → IsOk (mixed t part share)
        → MatchResult (mix_after nodes basics sums t z rest part share amounts) (AreMixed t z rest part share amounts) (IsUnmixed t z rest part share)
    mix_walk t z [] part share amounts l g b within once long m ok = record { long = long; values = λ u i. absurd i; others = λ a h. refl; fit = fit }
      where
        fit : (before after : List Step) → before ++ after ≡ [] → IsOk (mix_behind t z before part share)
        fit [] after e = ok
        fit (n ∷ before) after e = absurd (let h : ⊥ = cc in h)
    mix_walk t z (n ∷ rest) part share amounts l g b within once long m ok =
        first (next_amount nodes basics sums z n part) refl
        (λ p q y e f h k. mix_walk t n rest p q (slice_set amounts n.arc y) (λ u i. l u (inr i)) g.1 b.1 (λ u i. within u (inr i)) once.1 (length-set amounts n.arc y ∙ long) h (is_ok_of (mixed t p q) y k))
      where
        Rest : Type 0
        Rest = (p q y : Ratio) → next_amount nodes basics sums z n part ≡ Ok p → next_share nodes basics z n share ≡ Ok q → p +ᵣ q *ᵣ t ≡ d (number n.arc) → mixed t p q ≡ Ok y
            → MatchResult (mix_after nodes basics sums t n rest p q (slice_set amounts n.arc y)) (AreMixed t n rest p q (slice_set amounts n.arc y)) (IsUnmixed t n rest p q)

        first : (r : Result Ratio Past) → next_amount nodes basics sums z n part ≡ r → Rest
            → MatchResult (r ▷ λ p. next_share nodes basics z n share ▷ λ q. mixed t p q ▷ λ y. mix_after nodes basics sums t n rest p q (slice_set amounts n.arc y))
            (AreMixed t z (n ∷ rest) part share amounts) (IsUnmixed t z (n ∷ rest) part share)
        first (Err past) e ih = record {
          before = n ∷ [];
          after = rest;
          split = refl;
          overflows = ap (λ x. (x ▷ amount_behind nodes basics sums n []) ▷ λ (p : Ratio). share_behind nodes basics z (n ∷ []) share ▷ mixed t p) e;
        }
        first (Ok p) e ih = second (next_share nodes basics z n share) refl
          where
            second : (r : Result Ratio Past) → next_share nodes basics z n share ≡ r
                → MatchResult (r ▷ λ q. mixed t p q ▷ λ y. mix_after nodes basics sums t n rest p q (slice_set amounts n.arc y)) (AreMixed t z (n ∷ rest) part share amounts) (IsUnmixed t z (n ∷ rest) part share)
            second (Err past) f = record {
              before = n ∷ [];
              after = rest;
              split = refl;
              overflows = ap₂ (λ x y. (x ▷ amount_behind nodes basics sums n []) ▷ λ (p : Ratio). (y ▷ share_behind nodes basics n []) ▷ mixed t p) e f;
            }
            second (Ok q) f = third (mixed t p q) refl
              where
                third : (r : Result Ratio Past) → mixed t p q ≡ r
                    → MatchResult (r ▷ λ y. mix_after nodes basics sums t n rest p q (slice_set amounts n.arc y)) (AreMixed t z (n ∷ rest) part share amounts) (IsUnmixed t z (n ∷ rest) part share)
                third (Err past) k = record { before = n ∷ []; after = rest; split = refl; overflows = behind_next t z n [] part share p q (Err past) e f k }
                third (Ok y) k = last (mix_after nodes basics sums t n rest p q (slice_set amounts n.arc y)) (ih p q y e f value k)
                  where
                    value : p +ᵣ q *ᵣ t ≡ d (number n.arc)
                    value = over_one z n part share p q t (l z (inl refl)) (l n (inr (inl refl))) g.0 b.0 e f m

                    last : (r : Result (List Ratio) Past) → MatchResult r (AreMixed t n rest p q (slice_set amounts n.arc y)) (IsUnmixed t n rest p q)
                        → MatchResult r (AreMixed t z (n ∷ rest) part share amounts) (IsUnmixed t z (n ∷ rest) part share)
                    last (Err past) h = record { before = n ∷ h.before; after = h.after; split = ap (λ x. n ∷ x) h.split; overflows = behind_next t z n h.before part share p q (Err past) e f h.overflows }
                    last (Ok found) h = record { long = h.long; values = values; others = others; fit = fit }
                      where
                        set : at found n.arc ≡ d (number n.arc)
                        set = h.others n.arc (λ u i k. once.0 (subst (λ a. IsIn (number a) (arcs_along (way_of Nodes basics rest))) k (arc_in rest u i)))
                            ∙ get_or-set_same amounts n.arc y zero_ratio (subst (λ x. n.arc < x) (sym long) (within n (inl refl))) ∙ mixed_exact t p q y k ∙ value
                          where
                            arc_in : (rest : List Step) (u : Step) → IsIn u rest → IsIn (number u.arc) (arcs_along (way_of Nodes basics rest))
                            arc_in [] u i = absurd i
                            arc_in (v ∷ rest) u (inl e) = inl (ap (λ (z : Step). number z.arc) e)
                            arc_in (v ∷ rest) u (inr i) = inr (arc_in rest u i)

                        values : (u : Step) → IsIn u (n ∷ rest) → at found u.arc ≡ d (number u.arc)
                        values u (inl i) = subst (λ (v : Step). at found v.arc ≡ d (number v.arc)) (sym i) set
                        values u (inr i) = h.values u i

                        others : (a : ℕ) → ((u : Step) → IsIn u (n ∷ rest) → u.arc ≢ a) → at found a ≡ at amounts a
                        others a o = h.others a (λ u i. o u (inr i)) ∙ get_or-set_other amounts n.arc a y zero_ratio (λ k. o n (inl refl) (sym k))

                        fit : (before after : List Step) → before ++ after ≡ n ∷ rest → IsOk (mix_behind t z before part share)
                        fit [] after s = ok
                        fit (w ∷ before) after s =
                            let i : w ≡ n = cc in
                            let j : before ++ after ≡ rest = cc in
                            let o = h.fit before after j in
                            subst (λ v. IsOk (mix_behind t z (v ∷ before) part share)) (sym i) (subst IsOk (sym (behind_next t z n before part share p q (mix_behind t n before p q) e f refl)) o)
