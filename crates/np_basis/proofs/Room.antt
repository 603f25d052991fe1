-- How far an arc can move until it comes to a bound.
use Rattle.std.specs.Prelude.{◌≡◌, ◌≢◌, ◌⊎◌}
use Rattle.std.proofs.Common.{refl, sym, ap, subst, ◌∙◌, inl, inr}
use Rattle.gain_graphs.proofs.Algebra as algebra
use Rattle.np_frac.specs.Ratio.{Ratio, zero_ratio, negated, inverse, ◌≤ᵣ◌, ◌<ᵣ◌, ◌+ᵣ◌, ◌-ᵣ◌, ◌*ᵣ◌}
use Rattle.np_frac.proofs.Field.{+ᵣ-negated, *ᵣ-one, *ᵣ-inverse, quotient_at_most}
use Rattle.np_frac.proofs.RatioLaws.{+ᵣ_comm, +ᵣ_assoc, +ᵣ-zero, zero-+ᵣ, *ᵣ_comm, *ᵣ_assoc, *ᵣ-zero, zero-*ᵣ, ≤ᵣ_refl, ≤ᵣ_trans, ≤ᵣ_same, ≤ᵣ_antisym, <ᵣ_is_≤ᵣ, below_or, clash, +ᵣ_at_most, +ᵣ_at_most_left, *ᵣ_at_most, add_back, minus_not_negative}
use Rattle.np_model.specs.declared.arc.Upper.{Upper}
use Rattle.np_model.specs.declared.arc.Upper.TheVariants.{Finite, Infinite}
use Rattle.np_model.specs.declared.arc.NetArc.{NetArc}
use Rattle.np_model.specs.declared.log.Mark.{Mark}
use Rattle.np_model.specs.declared.log.Mark.TheVariants as marked
use Rattle.np_model.specs.Network.Arcs.{IsAtMost, IsFinite, IsFull, IsWithin}
use Rattle.np_model.specs.Basis.Graphs.{ratios}
use Rattle.np_model.specs.Basis.Moves.{IsTowards}
use Rattle.np_model.specs.Basis.States.{StandsAt}
use Rattle.np_basis.specs.PivotLaws.{HasBoundAhead}

-- ---- quotients

-- at this speed above 0, how long a gap lasts
record Lasts (g c : Ratio) : Type 0 where
  time : Ratio
  exact : time *ᵣ c ≡ g
  forwards : zero_ratio ≤ᵣ time
  most : (z : Ratio) → z *ᵣ c ≤ᵣ g → z ≤ᵣ time
  fits : (z : Ratio) → z ≤ᵣ time → z *ᵣ c ≤ᵣ g

lasts : (g c : Ratio) → zero_ratio ≤ᵣ g → zero_ratio <ᵣ c → Lasts g c
lasts g c h k = record {
  time = g *ᵣ inverse c;
  exact = exact;
  forwards = quotient_at_most zero_ratio c g k (subst (λ t. t ≤ᵣ g) (sym (zero-*ᵣ c)) h);
  most = λ z l. quotient_at_most z c g k l;
  fits = λ z l. subst (λ t. z *ᵣ c ≤ᵣ t) exact (subst (λ t. t ≤ᵣ (g *ᵣ inverse c) *ᵣ c) (*ᵣ_comm c z) (subst (λ t. c *ᵣ z ≤ᵣ t) (*ᵣ_comm c (g *ᵣ inverse c)) (*ᵣ_at_most (<ᵣ_is_≤ᵣ k) l)));
}
  where
    exact : (g *ᵣ inverse c) *ᵣ c ≡ g
    exact = *ᵣ_assoc g (inverse c) c ∙ ap (λ t. g *ᵣ t) (*ᵣ_comm (inverse c) c ∙ *ᵣ-inverse c (λ e. clash k (≤ᵣ_same e))) ∙ *ᵣ-one g

-- ---- sums and differences

cancel_left : (f x : Ratio) → (f +ᵣ x) +ᵣ negated f ≡ x
cancel_left f x = +ᵣ_comm (f +ᵣ x) (negated f) ∙ algebra.cancel_negated ratios f x

under : (f x u : Ratio) → f +ᵣ x ≤ᵣ u → x ≤ᵣ u -ᵣ f
under f x u h = subst (λ t. t ≤ᵣ u -ᵣ f) (cancel_left f x) (+ᵣ_at_most_left (negated f) h)

under_back : (f x u : Ratio) → x ≤ᵣ u -ᵣ f → f +ᵣ x ≤ᵣ u
under_back f x u h = subst (λ t. f +ᵣ x ≤ᵣ t) (add_back f u) (+ᵣ_at_most (≤ᵣ_refl f) h)

-- below a sum of an amount and what it falls by
over : (f x l : Ratio) → l ≤ᵣ f +ᵣ x → negated x ≤ᵣ f -ᵣ l
over f x l h = subst (λ t. negated x ≤ᵣ t) second (subst (λ t. t ≤ᵣ (f +ᵣ x) +ᵣ (negated l +ᵣ negated x)) first (+ᵣ_at_most_left (negated l +ᵣ negated x) h))
  where
    first : l +ᵣ (negated l +ᵣ negated x) ≡ negated x
    first = sym (+ᵣ_assoc l (negated l) (negated x)) ∙ ap (λ t. t +ᵣ negated x) (+ᵣ-negated l) ∙ zero-+ᵣ (negated x)

    second : (f +ᵣ x) +ᵣ (negated l +ᵣ negated x) ≡ f -ᵣ l
    second = ap (λ t. (f +ᵣ x) +ᵣ t) (+ᵣ_comm (negated l) (negated x)) ∙ +ᵣ_assoc f x (negated x +ᵣ negated l)
        ∙ ap (λ t. f +ᵣ t) (sym (+ᵣ_assoc x (negated x) (negated l)) ∙ ap (λ t. t +ᵣ negated l) (+ᵣ-negated x) ∙ zero-+ᵣ (negated l))

over_back : (f x l : Ratio) → negated x ≤ᵣ f -ᵣ l → l ≤ᵣ f +ᵣ x
over_back f x l h = subst (λ t. l ≤ᵣ t) second (subst (λ t. t ≤ᵣ (f -ᵣ l) +ᵣ (x +ᵣ l)) (algebra.cancel_negated ratios x l) (+ᵣ_at_most_left (x +ᵣ l) h))
  where
    second : (f -ᵣ l) +ᵣ (x +ᵣ l) ≡ f +ᵣ x
    second = +ᵣ_assoc f (negated l) (x +ᵣ l) ∙ ap (λ t. f +ᵣ t) (ap (λ t. negated l +ᵣ t) (+ᵣ_comm x l) ∙ algebra.cancel_negated ratios l x)

-- a step forwards
rises : (f z d : Ratio) → zero_ratio ≤ᵣ z → zero_ratio ≤ᵣ d → f ≤ᵣ f +ᵣ z *ᵣ d
rises f z d h k = subst (λ t. t ≤ᵣ f +ᵣ z *ᵣ d) (+ᵣ-zero f) (+ᵣ_at_most (≤ᵣ_refl f) (subst (λ t. t ≤ᵣ z *ᵣ d) (*ᵣ-zero z) (*ᵣ_at_most h k)))

falls : (f z d : Ratio) → zero_ratio ≤ᵣ z → d ≤ᵣ zero_ratio → f +ᵣ z *ᵣ d ≤ᵣ f
falls f z d h k = subst (λ t. f +ᵣ z *ᵣ d ≤ᵣ t) (+ᵣ-zero f) (+ᵣ_at_most (≤ᵣ_refl f) (subst (λ t. z *ᵣ d ≤ᵣ t) (*ᵣ-zero z) (*ᵣ_at_most h k)))

less : (x y : Ratio) (u : Upper) → x ≤ᵣ y → IsAtMost y u → IsAtMost x u
less x y (Finite u) h k = ≤ᵣ_trans h k
less x y Infinite h k = record {}

negated_above : (d : Ratio) → d <ᵣ zero_ratio → zero_ratio <ᵣ negated d
negated_above d h = elim (below_or zero_ratio (negated d)) [
  | inl l ↦ l
  | inr l ↦ absurd (clash h (subst (λ t. zero_ratio ≤ᵣ t) (zero-+ᵣ d) (subst (λ t. t ≤ᵣ zero_ratio +ᵣ d) (algebra.negated_plus ratios d) (+ᵣ_at_most_left d l))))
]

-- ---- the room of an arc

-- the arc has this much room until it comes to rest at this bound
pub record Room (a : NetArc) (f d : Ratio) : Type 0 where
  pub step : Ratio
  pub bound : Mark
  pub forwards : zero_ratio ≤ᵣ step
  pub towards : IsTowards d bound
  pub rests : StandsAt a bound (f +ᵣ step *ᵣ d)
  pub most : (z : Ratio) → IsWithin a (f +ᵣ z *ᵣ d) → z ≤ᵣ step
  pub fits : (z : Ratio) → zero_ratio ≤ᵣ z → z ≤ᵣ step → IsWithin a (f +ᵣ z *ᵣ d)

-- a falling arc comes to its lower bound
room_below : (a : NetArc) (f d : Ratio) → IsWithin a f → d <ᵣ zero_ratio → Room a f d
room_below a f d h k = record {
  step = r.time;
  bound = marked.Lower;
  forwards = r.forwards;
  towards = <ᵣ_is_≤ᵣ k;
  rests = rests;
  most = λ z w. r.most z (subst (λ t. t ≤ᵣ f -ᵣ a.lower) (sym (algebra.times_negated ratios z d)) (over f (z *ᵣ d) a.lower w.0));
  fits = λ z l m. (over_back f (z *ᵣ d) a.lower (subst (λ t. t ≤ᵣ f -ᵣ a.lower) (algebra.times_negated ratios z d) (r.fits z m)), less (f +ᵣ z *ᵣ d) f a.upper (falls f z d l (<ᵣ_is_≤ᵣ k)) h.1);
}
  where
    r : Lasts (f -ᵣ a.lower) (negated d)
    r = lasts (f -ᵣ a.lower) (negated d) (minus_not_negative h.0) (negated_above d k)

    rests : f +ᵣ r.time *ᵣ d ≡ a.lower
    rests = ap (λ t. f +ᵣ t) (sym (algebra.negated_twice ratios (r.time *ᵣ d)) ∙ ap negated (sym (algebra.times_negated ratios r.time d) ∙ r.exact))
        ∙ ap (λ t. f +ᵣ t) (algebra.negated_of_sum ratios f (negated a.lower) ∙ ap (λ t. negated f +ᵣ t) (algebra.negated_twice ratios a.lower))
        ∙ sym (+ᵣ_assoc f (negated f) a.lower) ∙ ap (λ t. t +ᵣ a.lower) (+ᵣ-negated f) ∙ zero-+ᵣ a.lower

-- a rising arc comes to its upper bound, if it has one
module _ (a : NetArc) (f d : Ratio) (h : IsWithin a f) (k : zero_ratio <ᵣ d) where
  room_above : (u : Upper) → a.upper ≡ u → IsFinite u → Room a f d
  room_above Infinite e finite = absurd finite
  room_above (Finite u) e finite = record {
    step = r.time;
    bound = marked.Upper;
    forwards = r.forwards;
    towards = <ᵣ_is_≤ᵣ k;
    rests = subst (IsFull (f +ᵣ r.time *ᵣ d)) (sym e) (ap (λ t. f +ᵣ t) r.exact ∙ add_back f u);
    most = λ z w. r.most z (under f (z *ᵣ d) u (subst (IsAtMost (f +ᵣ z *ᵣ d)) e w.1));
    fits = λ z l m. (≤ᵣ_trans h.0 (rises f z d l (<ᵣ_is_≤ᵣ k)), subst (IsAtMost (f +ᵣ z *ᵣ d)) (sym e) (under_back f (z *ᵣ d) u (r.fits z m)));
  }
    where
      gap : zero_ratio ≤ᵣ u -ᵣ f
      gap = minus_not_negative (subst (IsAtMost f) e h.1)

      r : Lasts (u -ᵣ f) d
      r = lasts (u -ᵣ f) d gap k

pub room : (a : NetArc) (f d : Ratio) → IsWithin a f → HasBoundAhead a d → Room a f d
room a f d h = elim [ inl k ↦ room_below a f d h k | inr k ↦ room_above a f d h k.0 a.upper refl k.1 ]

-- an arc with no bound ahead moves freely
pub free : (a : NetArc) (f d : Ratio) → IsWithin a f → (¬ HasBoundAhead a d) → (z : Ratio) → zero_ratio ≤ᵣ z → IsWithin a (f +ᵣ z *ᵣ d)
free a f d h n z l = go (below_or d zero_ratio) (below_or zero_ratio d) a.upper refl
  where
    go : (d <ᵣ zero_ratio) ⊎ (zero_ratio ≤ᵣ d) → (zero_ratio <ᵣ d) ⊎ (d ≤ᵣ zero_ratio) → (u : Upper) → a.upper ≡ u → IsWithin a (f +ᵣ z *ᵣ d)
    go (inl k) _ u e = absurd (n (inl k))
    go (inr k) (inr m) u e = (≤ᵣ_trans h.0 (rises f z d l k), less (f +ᵣ z *ᵣ d) f a.upper (falls f z d l m) h.1)
    go (inr k) (inl m) Infinite e = (≤ᵣ_trans h.0 (rises f z d l k), subst (IsAtMost (f +ᵣ z *ᵣ d)) (sym e) (record {}))
    go (inr k) (inl m) (Finite u) e = absurd (n (inr (m, subst IsFinite (sym e) (record {}))))

pub decide_ahead : (a : NetArc) (d : Ratio) → Dec (HasBoundAhead a d)
decide_ahead a d = go (below_or d zero_ratio) (below_or zero_ratio d) a.upper refl
  where
    go : (d <ᵣ zero_ratio) ⊎ (zero_ratio ≤ᵣ d) → (zero_ratio <ᵣ d) ⊎ (d ≤ᵣ zero_ratio) → (u : Upper) → a.upper ≡ u → Dec (HasBoundAhead a d)
    go (inl k) _ u e = yes (inl k)
    go (inr k) (inr m) u e = no (elim [ inl l ↦ clash l k | inr l ↦ clash l.0 m ])
    go (inr k) (inl m) (Finite u) e = yes (inr (m, subst IsFinite (sym e) (record {})))
    go (inr k) (inl m) Infinite e = no (elim [ inl l ↦ clash l k | inr l ↦ subst IsFinite e l.1 ])

-- an arc that comes to rest at a bound has one ahead
full_finite : (x : Ratio) (u : Upper) → IsFull x u → IsFinite u
full_finite x (Finite u) h = record {}
full_finite x Infinite h = h

strict : (x y : Ratio) → x ≤ᵣ y → x ≢ y → x <ᵣ y
strict x y h n = elim (below_or x y) [ inl l ↦ l | inr l ↦ absurd (n (≤ᵣ_antisym h l)) ]

pub stops_ahead : (a : NetArc) (x d : Ratio) (m : Mark) → d ≢ zero_ratio → IsTowards d m → StandsAt a m x → HasBoundAhead a d
stops_ahead a x d marked.Lower n t s = inl (strict d zero_ratio t n)
stops_ahead a x d marked.Upper n t s = inr (strict zero_ratio d t (λ e. n (sym e)), full_finite x a.upper s)
stops_ahead a x d marked.Basic n t s = absurd t

-- towards one bound
pub one_bound : (d : Ratio) (m k : Mark) → d ≢ zero_ratio → IsTowards d m → IsTowards d k → m ≡ k
one_bound d marked.Lower marked.Lower n t u = refl
one_bound d marked.Lower marked.Upper n t u = absurd (n (≤ᵣ_antisym t u))
one_bound d marked.Upper marked.Lower n t u = absurd (n (≤ᵣ_antisym u t))
one_bound d marked.Upper marked.Upper n t u = refl
one_bound d marked.Basic k n t u = absurd t
one_bound d marked.Lower marked.Basic n t u = absurd u
one_bound d marked.Upper marked.Basic n t u = absurd u

full_same : (x y : Ratio) (u : Upper) → IsFull x u → IsFull y u → x ≡ y
full_same x y (Finite u) h k = h ∙ sym k
full_same x y Infinite h k = absurd h

-- at one step
pub one_step : (a : NetArc) (f d t z : Ratio) (m k : Mark) → d ≢ zero_ratio → IsTowards d m → IsTowards d k → StandsAt a m (f +ᵣ t *ᵣ d) → StandsAt a k (f +ᵣ z *ᵣ d) → t ≡ z
one_step a f d t z m k n v w r s =
    algebra.times_left_cancel ratios d t z n (*ᵣ_comm d t ∙ algebra.plus_left_cancel ratios f (t *ᵣ d) (z *ᵣ d) (same m r (subst (λ b. StandsAt a b (f +ᵣ z *ᵣ d)) (sym (one_bound d m k n v w)) s) v) ∙ *ᵣ_comm z d)
  where
    same : (b : Mark) → StandsAt a b (f +ᵣ t *ᵣ d) → StandsAt a b (f +ᵣ z *ᵣ d) → IsTowards d b → f +ᵣ t *ᵣ d ≡ f +ᵣ z *ᵣ d
    same marked.Lower x y i = x ∙ sym y
    same marked.Upper x y i = full_same (f +ᵣ t *ᵣ d) (f +ᵣ z *ᵣ d) a.upper x y
    same marked.Basic x y i = absurd i
