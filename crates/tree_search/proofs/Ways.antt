-- Ways and rounds by places: the way back along a search, the round that an arc closes, begun at its least node and turned.
use Rattle.std.proofs.Common.{◌≡◌, ◌≢◌, ◌⊎◌, inl, inr, sym, ap, refl, ◌∙◌, subst, ap₂, ℕ, zero, suc, ◌<◌, ◌≤◌, ◌+◌, ◌-◌, List, [], ◌∷◌, ◌++◌, length, take, drop, slice_index_or, Bool, true, false, cond, nat_eq, eqb-true, eq-eqb, true≢false, arith, append-nil, add-one}
use Rattle.std.specs.Prelude.{⊤}
use Rattle.gain_graphs.specs.Arcs.{IsIn, AreDistinct}
use Rattle.gain_graphs.proofs.Lists.{in_front, in_back, in_append, swap_once}
use Rattle.gain_graphs.proofs.Turning.{onto, onto_once, onto_holds}
use Rattle.tree_search.specs.declared.piece.Step.{Step}
use Rattle.tree_search.specs.declared.piece.Joint.{Joint}
use Rattle.tree_search.specs.Search.{JoinsAt, GoesOn, fars, step_arcs}
use Rattle.tree_search.specs.Finding.{flip, flips, back_from, IsChain, IsLeastEnd, last_step, StepsUp}
use Rattle.tree_search.proofs.Searches.{fars_append}
use mathlib.Core.List.{reverse_aux}

-- ---- lists of places

pub arcs_append : (l k : List Step) → step_arcs (l ++ k) ≡ step_arcs l ++ step_arcs k
arcs_append [] k = refl
arcs_append (s ∷ l) k = ap (λ t. s.arc ∷ t) (arcs_append l k)

-- ---- the way back

abbrev pub GoesBack : List Joint → List ℕ → List Step → Type 0
GoesBack joints starts [] = ⊤
GoesBack joints starts (s ∷ earlier) = IsIn s.near (starts ++ fars earlier) × (¬ IsIn s.far (starts ++ fars earlier)) × JoinsAt joints s.arc s.near s.far × GoesBack joints starts earlier

pub goes_back : (joints : List Joint) (starts seen : List ℕ) (steps done : List Step) → GoesBack joints starts done → ((v : ℕ) → IsIn v seen → IsIn v (starts ++ fars done)) → ((v : ℕ) → IsIn v (starts ++ fars done) → IsIn v seen)
    → GoesOn joints seen steps → GoesBack joints starts (reverse_aux steps done)
goes_back joints starts seen [] done b to from g = b
goes_back joints starts seen (s ∷ steps) done b to from g = goes_back joints starts (s.far ∷ seen) steps (s ∷ done) (to s.near g.0, (λ i. g.1 (from s.far i)), g.2, b)
    (λ v. elim [ inl e ↦ in_back v starts (s.far ∷ fars done) (inl e) | inr i ↦ wider v (to v i) ])
    (λ v i. elim (in_append v starts (s.far ∷ fars done) i) [ inl j ↦ inr (from v (in_front v starts (fars done) j)) | inr j ↦ elim j [ inl e ↦ inl e | inr k ↦ inr (from v (in_back v starts (fars done) k)) ] ]) g.3
  where
    wider : (v : ℕ) → IsIn v (starts ++ fars done) → IsIn v (starts ++ s.far ∷ fars done)
    wider v i = elim (in_append v starts (fars done) i) [ inl j ↦ in_front v starts (s.far ∷ fars done) j | inr j ↦ in_back v starts (s.far ∷ fars done) (inr j) ]

-- a way from a node, with no node twice, to one of those where the search began
pub record IsWay (joints : List Joint) (starts within : List ℕ) (v : ℕ) (way : List Step) : Type 0 where
  pub end : ℕ
  pub begins : IsIn end starts
  pub chain : IsChain joints v way end
  pub once : AreDistinct (v ∷ fars way)
  pub inside : (u : ℕ) → IsIn u (fars way) → IsIn u within

joins_back : (joints : List Joint) (a u v : ℕ) → JoinsAt joints a u v → JoinsAt joints a v u
joins_back joints a u v j = (j.0, elim j.1 [ inl m ↦ inr m | inr m ↦ inl m ])

pub way_is : (joints : List Joint) (starts : List ℕ) (l : List Step) (v : ℕ) → GoesBack joints starts l → IsIn v (starts ++ fars l) → IsWay joints starts (starts ++ fars l) v (back_from l v)
way_is joints starts [] v g i = record { end = v; begins = subst (IsIn v) (append-nil starts) i; chain = refl; once = ((λ z. z), record {}); inside = λ u z. absurd z }
way_is joints starts (s ∷ earlier) v g i = go (way_is joints starts earlier s.near g.3 g.0) (λ h. way_is joints starts earlier v g.3 h) (nat_eq s.far v) refl
  where
    wider : (u : ℕ) → IsIn u (starts ++ fars earlier) → IsIn u (starts ++ s.far ∷ fars earlier)
    wider u i = elim (in_append u starts (fars earlier) i) [ inl j ↦ in_front u starts (s.far ∷ fars earlier) j | inr j ↦ in_back u starts (s.far ∷ fars earlier) (inr j) ]

    go : IsWay joints starts (starts ++ fars earlier) s.near (back_from earlier s.near) → (IsIn v (starts ++ fars earlier) → IsWay joints starts (starts ++ fars earlier) v (back_from earlier v)) → (b : Bool) → nat_eq s.far v ≡ b
        → IsWay joints starts (starts ++ s.far ∷ fars earlier) v (cond b (flip s ∷ back_from earlier s.near) (back_from earlier v))
    go w on true e =
        let m : s.far ≡ v = eqb-true s.far v e in
        let fresh : ¬ IsIn v (starts ++ fars earlier) = λ j. g.1 (subst (λ t. IsIn t (starts ++ fars earlier)) (sym m) j) in
        record {
          end = w.end;
          begins = w.begins;
          chain = (m, joins_back joints s.arc s.near s.far g.2, (λ k. g.1 (subst (λ t. IsIn t (starts ++ fars earlier)) (sym k) g.0)), w.chain);
          once = ((λ j. elim j [ inl k ↦ fresh (subst (λ t. IsIn t (starts ++ fars earlier)) (sym k) g.0) | inr k ↦ fresh (w.inside v k) ]), w.once);
          inside = λ u. elim [ inl k ↦ wider u (subst (λ t. IsIn t (starts ++ fars earlier)) (sym k) g.0) | inr k ↦ wider u (w.inside u k) ];
        }
    go w on false e =
        let there : IsIn v (starts ++ fars earlier) = elim (in_append v starts (s.far ∷ fars earlier) i) [
          | inl j ↦ in_front v starts (fars earlier) j
          | inr j ↦ elim j [ inl k ↦ absurd (true≢false (sym (eq-eqb s.far v (sym k)) ∙ e)) | inr k ↦ in_back v starts (fars earlier) k ]
        ] in
        let r = on there in
        record { end = r.end; begins = r.begins; chain = r.chain; once = r.once; inside = λ u k. wider u (r.inside u k) }

-- ---- chains

pub chain_append : (joints : List Joint) (u v z : ℕ) (l k : List Step) → IsChain joints u l v → IsChain joints v k z → IsChain joints u (l ++ k) z
chain_append joints u v z [] k c e = subst (λ t. IsChain joints t k z) (sym c) e
chain_append joints u v z (s ∷ l) k c e = (c.0, c.1, c.2, chain_append joints s.far v z l k c.3 e)

split_at : (joints : List Joint) (u v : ℕ) (l : List Step) (i : ℕ) (d : Step) → i < length l → IsChain joints u l v → IsChain joints u (take (suc i) l) (slice_index_or l i d).far × IsChain joints (slice_index_or l i d).far (drop (suc i) l) v
split_at joints u v [] i d h c = absurd (omega arith)
split_at joints u v (s ∷ l) zero d h c = ((c.0, c.1, c.2, refl), c.3)
split_at joints u v (s ∷ l) (suc i) d h c = let r = split_at joints s.far v l i d (omega arith) c.3 in ((c.0, c.1, c.2, r.0), r.1)

pub chain_split : (joints : List Joint) (u v : ℕ) (l : List Step) (i : ℕ) (d : Step) → i < length l → IsChain joints u l v → IsChain joints u (take (i + 1) l) (slice_index_or l i d).far × IsChain joints (slice_index_or l i d).far (drop (i + 1) l) v
chain_split joints u v l i d h c =
    subst (λ n. IsChain joints u (take n l) (slice_index_or l i d).far × IsChain joints (slice_index_or l i d).far (drop n l) v) (sym (add-one i)) (split_at joints u v l i d h c)

take_drop : {A : Type 0} (l : List A) (n : ℕ) → take n l ++ drop n l ≡ l
take_drop [] zero = refl
take_drop [] (suc n) = refl
take_drop (s ∷ l) zero = refl
take_drop (s ∷ l) (suc n) = ap (λ t. s ∷ t) (take_drop l n)

pub chain_flip : (joints : List Joint) (u v z : ℕ) (l acc : List Step) → IsChain joints u l v → IsChain joints u (flips acc) z → IsChain joints v (flips (reverse_aux l acc)) z
chain_flip joints u v z [] acc c e = subst (λ t. IsChain joints t (flips acc) z) c e
chain_flip joints u v z (s ∷ l) acc c e = chain_flip joints s.far v z l (s ∷ acc) c.3 (refl, joins_back joints s.arc s.near s.far c.1, (λ k. c.2 (sym k)), subst (λ t. IsChain joints t (flips acc) z) (sym c.0) e)

abbrev nears : List Step → List ℕ
nears [] = []
nears (s ∷ l) = s.near ∷ nears l

flip_fars : (l acc : List Step) → fars (flips (reverse_aux l acc)) ≡ onto (nears l) (fars (flips acc))
flip_fars [] acc = refl
flip_fars (s ∷ l) acc = flip_fars l (s ∷ acc)

flip_arcs : (l acc : List Step) → step_arcs (flips (reverse_aux l acc)) ≡ onto (step_arcs l) (step_arcs (flips acc))
flip_arcs [] acc = refl
flip_arcs (s ∷ l) acc = flip_arcs l (s ∷ acc)

nears_end : (joints : List Joint) (u v : ℕ) (l : List Step) → IsChain joints u l v → nears l ++ v ∷ [] ≡ u ∷ fars l
nears_end joints u v [] c = ap (λ t. t ∷ []) (sym c)
nears_end joints u v (s ∷ l) c = ap₂ (λ p q. p ∷ q) c.0 (nears_end joints s.far v l c.3)

-- an arc of a way has its ends there
at_arc : (joints : List Joint) (u v : ℕ) (l : List Step) (a p q : ℕ) → IsChain joints u l v → IsIn a (step_arcs l) → JoinsAt joints a p q → IsIn p (u ∷ fars l)
at_arc joints u v [] a p q c i j = absurd i
at_arc joints u v (s ∷ l) a p q c (inr i) j = inr (at_arc joints s.far v l a p q c.3 i j)
at_arc joints u v (s ∷ l) a p q c (inl e) j = ends (subst (λ t. JoinsAt joints t p q) e j).1 c.1.1
  where
    j' : Joint
    j' = slice_index_or joints s.arc (record { from = 0; to = 0 })

    ends : ((j'.from ≡ p) × (j'.to ≡ q)) ⊎ ((j'.from ≡ q) × (j'.to ≡ p)) → ((j'.from ≡ s.near) × (j'.to ≡ s.far)) ⊎ ((j'.from ≡ s.far) × (j'.to ≡ s.near)) → IsIn p (u ∷ s.far ∷ fars l)
    ends (inl m) (inl n) = inl (sym m.0 ∙ n.0 ∙ c.0)
    ends (inl m) (inr n) = inr (inl (sym m.0 ∙ n.0))
    ends (inr m) (inl n) = inr (inl (sym m.1 ∙ n.1))
    ends (inr m) (inr n) = inl (sym m.1 ∙ n.1 ∙ c.0)

pub way_arcs : (joints : List Joint) (u v : ℕ) (l : List Step) → IsChain joints u l v → AreDistinct (u ∷ fars l) → AreDistinct (step_arcs l)
way_arcs joints u v [] c d = record {}
way_arcs joints u v (s ∷ l) c d = ((λ i. d.0 (at_arc joints s.far v l s.arc u s.far c.3 i (subst (λ t. JoinsAt joints s.arc t s.far) c.0 c.1))), way_arcs joints s.far v l c.3 d.1)

-- ---- rounds

pub record IsRound (joints : List Joint) (k : ℕ) (l : List Step) : Type 0 where
  pub chain : IsChain joints k l k
  pub arcs_once : AreDistinct (step_arcs l)
  pub nodes_once : AreDistinct (fars l)

fars_at : (l : List Step) (v : ℕ) → IsIn v (fars l) → (j : ℕ) × (j < length l) × ((d : Step) → (slice_index_or l j d).far ≡ v)
fars_at [] v i = absurd i
fars_at (s ∷ l) v (inl e) = (zero, omega arith, λ d. sym e)
fars_at (s ∷ l) v (inr i) = let r = fars_at l v i in (suc r.0, omega (arith, r.1), r.2)

-- from its least node
pub begun : (joints : List Joint) (k : ℕ) (l : List Step) (i : ℕ) (d : Step) → IsRound joints k l → IsLeastEnd l i
    → IsRound joints (slice_index_or l i d).far (drop (i + 1) l ++ take (i + 1) l) × ((v : ℕ) → IsIn v (fars (drop (i + 1) l ++ take (i + 1) l)) → (slice_index_or l i d).far ≤ v)
begun joints k l i d r h =
    let c = chain_split joints k k l i d h.inside r.chain in
    let t = take (i + 1) l in
    let e = drop (i + 1) l in
    let whole : t ++ e ≡ l = take_drop l (i + 1) in (
      record {
        chain = chain_append joints (slice_index_or l i d).far k (slice_index_or l i d).far e t c.1 c.0;
        arcs_once = subst AreDistinct (sym (arcs_append e t)) (swap_once (step_arcs t) (step_arcs e) (subst AreDistinct (ap step_arcs (sym whole) ∙ arcs_append t e) r.arcs_once));
        nodes_once = subst AreDistinct (sym (fars_append e t)) (swap_once (fars t) (fars e) (subst AreDistinct (ap fars (sym whole) ∙ fars_append t e) r.nodes_once));
      },
      λ v j.
          let there : IsIn v (fars l) = subst (IsIn v) (sym (ap fars (sym whole) ∙ fars_append t e)) (elim (in_append v (fars e) (fars t) (subst (IsIn v) (fars_append e t) j)) [
            | inl m ↦ in_back v (fars t) (fars e) m
            | inr m ↦ in_front v (fars t) (fars e) m
          ]) in
          let p = fars_at l v there in
          subst (λ n. (slice_index_or l i d).far ≤ n) (p.2 d) (h.least p.0 d p.1),
    )

-- the other way
pub turned : (joints : List Joint) (k : ℕ) (l : List Step) → IsRound joints k l → ((v : ℕ) → IsIn v (fars l) → k ≤ v) → IsRound joints k (flips (reverse_aux l [])) × ((v : ℕ) → IsIn v (fars (flips (reverse_aux l []))) → k ≤ v)
turned joints k [] r h = (record { chain = r.chain; arcs_once = r.arcs_once; nodes_once = r.nodes_once }, λ v i. absurd i)
turned joints k (s ∷ l) r h =
    let src : nears l ++ k ∷ [] ≡ fars (s ∷ l) = nears_end joints s.far k l r.chain.3 in
    let once : AreDistinct (k ∷ nears l) = swap_once (nears l) (k ∷ []) (subst AreDistinct (sym src) r.nodes_once) in (
      record {
        chain = chain_flip joints k k k (s ∷ l) [] r.chain refl;
        arcs_once = subst AreDistinct (sym (flip_arcs (s ∷ l) [])) (onto_once (step_arcs (s ∷ l)) [] r.arcs_once (record {}) (λ z i j. j));
        nodes_once = subst AreDistinct (sym (flip_fars (s ∷ l) [])) (onto_once (nears (s ∷ l)) [] (subst (λ t. AreDistinct (t ∷ nears l)) (sym r.chain.0) once) (record {}) (λ z i j. j));
      },
      λ v i. elim (onto_holds (nears (s ∷ l)) [] v (subst (IsIn v) (flip_fars (s ∷ l) []) i)) [
        | inl j ↦ elim j [
          | inl e ↦ let m : v ≡ k = e ∙ r.chain.0 in omega (arith, m)
          | inr m ↦ h v (subst (IsIn v) src (in_front v (nears l) (k ∷ []) m))
        ]
        | inr j ↦ absurd j
      ],
    )

-- its first and its last arc
last_flips : (l acc : List Step) (s : Step) (d e : ℕ) → last_step d (flips (reverse_aux l (s ∷ acc))) ≡ last_step e (flips (s ∷ acc))
last_flips [] acc s d e = refl
last_flips (z ∷ l) acc s d e = last_flips l (s ∷ acc) z d e

first_flips : (s : Step) (l acc : List Step) → (z : Step) × (more : List Step) × (flips (reverse_aux (s ∷ l) acc) ≡ z ∷ more) × (z.arc ≡ last_step s.arc l)
first_flips s [] acc = (flip s, flips acc, refl, refl)
first_flips s (y ∷ l) acc = first_flips y l (s ∷ acc)

last_in : (s : Step) (l : List Step) → IsIn (last_step s.arc l) (step_arcs (s ∷ l))
last_in s [] = inl refl
last_in s (y ∷ l) = inr (last_in y l)

-- the one way or the other its first arc is the lower-numbered
pub turned_up : (joints : List Joint) (k : ℕ) (s : Step) (l : List Step) → IsRound joints k (s ∷ l) → last_step s.arc l ≤ s.arc → StepsUp (flips (reverse_aux (s ∷ l) []))
turned_up joints k s [] r h = absurd (r.chain.2 (r.chain.0 ∙ sym r.chain.3))
turned_up joints k s (y ∷ l) r h =
    let f = first_flips s (y ∷ l) [] in
    let apart : last_step y.arc l ≢ s.arc = λ e. r.arcs_once.0 (subst (λ t. IsIn t (step_arcs (y ∷ l))) e (last_in y l)) in
    subst StepsUp (sym f.2)
    (let last : last_step f.0.arc f.1 ≡ s.arc = sym (ap (last_step zero) f.2) ∙ last_flips (y ∷ l) [] s zero zero in
    let first : f.0.arc ≡ last_step y.arc l = f.3 in
    omega (arith, h, apart, last, first))

take_more : (l : List Step) (i : ℕ) (d : Step) → i < length l → take i l ++ slice_index_or l i d ∷ [] ≡ take (suc i) l
take_more [] i d h = absurd (omega arith)
take_more (s ∷ l) zero d h = refl
take_more (s ∷ l) (suc i) d h = ap (λ t. s ∷ t) (take_more l i d (omega arith))

pub begun_more : (l : List Step) (n i : ℕ) (d : Step) → n ≤ i → i < length l → take (i - n) (drop n l) ++ slice_index_or l i d ∷ [] ≡ take (i + 1 - n) (drop n l)
begun_more l zero i d h k = ap₂ (λ a b. take a b ++ slice_index_or l i d ∷ []) (let e : i - 0 ≡ i = omega arith in e) refl ∙ take_more l i d k ∙ ap (λ n. take n l) (let e : suc i ≡ i + 1 - 0 = omega arith in e)
begun_more [] (suc n) i d h k = absurd (omega arith)
begun_more (s ∷ l) (suc n) zero d h k = absurd (omega arith)
begun_more (s ∷ l) (suc n) (suc i) d h k =
    ap (λ m. take m (drop n l) ++ slice_index_or l i d ∷ []) (let e : suc i - suc n ≡ i - n = omega arith in e) ∙ begun_more l n i d (omega arith) (omega arith) ∙ ap (λ m. take m (drop n l)) (let e : i + 1 - n ≡ suc i + 1 - suc n = omega arith in e)
