-- Answers of operations, one after the other.
use Rattle.std.specs.Prelude.{◌≡◌, ◌⊎◌, Result, Ok, Err}
use Rattle.std.specs.Result.{IsOk}
use Rattle.std.proofs.Common.{refl, sym, subst, ◌∙◌, inl, inr, true≢false}
use Rattle.np_frac.specs.declared.frac.Past.{Past}
use Rattle.np_frac.specs.Exact.{◌▷◌}

pub is_ok_of : {A E : Type 0} (r : Result A E) (x : A) → r ≡ Ok x → IsOk r
is_ok_of (Ok y) x e = refl
is_ok_of (Err past) x e = absurd (let h : ⊥ = cc in h)

pub err_not_ok : {A E : Type 0} (r : Result A E) (past : E) → r ≡ Err past → IsOk r → ⊥
err_not_ok (Ok x) past e h = cc
err_not_ok (Err p) past e h = true≢false (sym h)

pub ok_is : {A E : Type 0} (r : Result A E) → IsOk r → (x : A) × (r ≡ Ok x)
ok_is (Ok x) h = (x, refl)
ok_is (Err p) h = absurd (true≢false (sym h))

pub same_ok : {A E : Type 0} (r : Result A E) (x y : A) → r ≡ Ok x → r ≡ Ok y → x ≡ y
same_ok r x y e f = let g : Ok x ≡ Ok y = sym e ∙ f in cc

pub ok_or_err : {A E : Type 0} (r : Result A E) (x : A) (past : E) → r ≡ Ok x → r ≡ Err past → ⊥
ok_or_err r x past e f = let g : Ok x ≡ Err past = sym e ∙ f in cc

-- ---- goes on alike

pub same_then : {A B : Type 0} (r : Result A Past) (g h : A → Result B Past) → ((x : A) → g x ≡ h x) → (r ▷ g) ≡ (r ▷ h)
same_then (Ok x) g h e = e x
same_then (Err past) g h e = refl

-- from what is found
pub same_when : {A B : Type 0} (r : Result A Past) (g h : A → Result B Past) → ((x : A) → r ≡ Ok x → g x ≡ h x) → (r ▷ g) ≡ (r ▷ h)
same_when (Ok x) g h e = e x refl
same_when (Err past) g h e = refl

pub then_then : {A B C : Type 0} (r : Result A Past) (g : A → Result B Past) (h : B → Result C Past) → ((r ▷ g) ▷ h) ≡ (r ▷ λ x. g x ▷ h)
then_then (Ok x) g h = refl
then_then (Err past) g h = refl

-- ---- the first operation, and what comes after it

pub ok_first : {A B : Type 0} (r : Result A Past) (f : A → Result B Past) → IsOk (r ▷ f) → IsOk r
ok_first (Ok x) f h = refl
ok_first (Err past) f h = h

pub ok_then : {A B : Type 0} (r : Result A Past) (f : A → Result B Past) (x : A) → r ≡ Ok x → IsOk (r ▷ f) → IsOk (f x)
ok_then r f x e h = subst (λ t. IsOk (t ▷ f)) e h

pub ok_both : {A B : Type 0} (r : Result A Past) (f : A → Result B Past) (x : A) → r ≡ Ok x → IsOk (f x) → IsOk (r ▷ f)
ok_both r f x e h = subst (λ t. IsOk (t ▷ f)) (sym e) h

-- the first operation overflows, or what comes after it
pub refused_by : {A B : Type 0} (r : Result A Past) (f : A → Result B Past) (past : Past) → (r ▷ f) ≡ Err past → (r ≡ Err past) ⊎ ((x : A) × (r ≡ Ok x) × (f x ≡ Err past))
refused_by (Ok x) f past e = inr (x, refl, e)
refused_by (Err p) f past e = inl cc
