-- The numbers of all arcs in order, and the basic ones among them.
use Rattle.std.specs.Prelude.{◌≡◌, ◌⊎◌, ◌↔◌, ℕ, zero, suc, ◌+◌, ◌<◌, ◌≤◌, cond, Bool, true, false, List, [], ◌∷◌, filter, length}
use Rattle.std.specs.List.{range_with_len, zip}
use Rattle.std.proofs.Common.{refl, ap, ◌∙◌, inl, inr, arith, get_or}
use Rattle.std.proofs.lemmas.List.{get_or_default}
use Rattle.std.proofs.lemmas.Slice.Zip.{length-zip, get_or-zip}
use Rattle.gain_graphs.specs.Arcs.{IsIn, AreDistinct}
use Rattle.gain_graphs.proofs.Lists.{range_holds, range_within, filter_holds}
use Rattle.np_frac.specs.Ratio.{Ratio, zero_ratio}
use Rattle.np_model.specs.declared.arc.NetArc.{NetArc}
use Rattle.np_model.specs.declared.log.Mark.{Mark}
use Rattle.np_model.specs.declared.log.Mark.TheVariants.{Lower, Upper, Basic}
use Rattle.np_model.specs.Network.Flows.{at}
use Rattle.np_model.specs.Basis.Graphs.{no_arc, arc_at}
use Rattle.np_model.specs.Basis.States.{is_basic, basics}
use Rattle.np_basis.proofs.Ascending.{Ascends, ascends_once}

pub range_ascends : (i n : ℕ) → Ascends (range_with_len i n)
range_ascends i zero = record {}
range_ascends i (suc n) = ((λ v k. let r = range_within (i + 1) n v k in omega (arith, r.0)), range_ascends (i + 1) n)

basic_test : (m : Mark) → (is_basic m ≡ true) ↔ (m ≡ Basic)
basic_test Lower = ((λ e. absurd cc), (λ e. absurd cc))
basic_test Upper = ((λ e. absurd cc), (λ e. absurd cc))
basic_test Basic = ((λ e. refl), (λ e. refl))

pub decide_basic : (m : Mark) → Dec (m ≡ Basic)
decide_basic Lower = no (λ e. cc)
decide_basic Upper = no (λ e. cc)
decide_basic Basic = yes refl

pub basics_hold : (arcs : List NetArc) (mark : ℕ → Mark) (a : ℕ) → IsIn a (basics arcs mark) ↔ ((a < length arcs) × (mark a ≡ Basic))
basics_hold arcs mark a = (
  (λ i. let r = (filter_holds (λ a. is_basic (mark a)) (range_with_len 0 (length arcs)) a).0 i in
      let b = range_within 0 (length arcs) a r.0 in (omega (arith, b.1), (basic_test (mark a)).0 r.1)),
  (λ r. (filter_holds (λ a. is_basic (mark a)) (range_with_len 0 (length arcs)) a).1 (range_holds 0 (length arcs) a (omega arith) (omega (arith, r.0)), (basic_test (mark a)).1 r.1)),
)

filter_once : (p : ℕ → Bool) (xs : List ℕ) → AreDistinct xs → AreDistinct (filter p xs)
filter_once p [] d = record {}
filter_once p (x ∷ xs) d = go (p x) (filter_once p xs d.1)
  where
    go : (b : Bool) → AreDistinct (filter p xs) → AreDistinct (cond b (x ∷ filter p xs) (filter p xs))
    go true e = ((λ i. d.0 ((filter_holds p xs x).0 i).0), e)
    go false e = e

pub basics_once : (arcs : List NetArc) (mark : ℕ → Mark) → AreDistinct (basics arcs mark)
basics_once arcs mark = filter_once (λ a. is_basic (mark a)) (range_with_len 0 (length arcs)) (ascends_once (range_with_len 0 (length arcs)) (range_ascends 0 (length arcs)))

-- an arc beside its amount
pub zipped : (arcs : List NetArc) (x : List Ratio) → length x ≡ length arcs → (a : ℕ) → a < length arcs → (z : NetArc × Ratio) → get_or (zip arcs x) a z ≡ (arc_at arcs a, at x a)
zipped arcs x e a l z =
    get_or_default (zip arcs x) a z (no_arc, zero_ratio) (omega (arith, length-zip arcs x)) ∙ get_or-zip arcs x a (no_arc, zero_ratio) l (omega arith)
