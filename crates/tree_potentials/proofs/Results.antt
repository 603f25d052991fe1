-- Answers of operations that are told with their row.
use Rattle.std.specs.Prelude.{◌≡◌, ◌⊎◌, Result, Ok, Err}
use Rattle.std.proofs.Common.{refl, inl, inr}
use Rattle.np_frac.specs.declared.frac.Past.{Past}
use Rattle.np_model.specs.declared.rows.Row.{Row}
use Rattle.np_model.specs.declared.rows.Overflow.{Overflow}
use Rattle.tree_potentials.specs.Along.{overflow_at_turn, in_row, ◌▸◌}

pub row_ok : {A : Type 0} (row : Row) (r : Result A Past) (x : A) → in_row row r ≡ Ok x → r ≡ Ok x
row_ok row (Ok y) x e = cc
row_ok row (Err past) x e = absurd (let h : ⊥ = cc in h)

pub row_err : {A : Type 0} (row : Row) (r : Result A Past) (o : Overflow) → in_row row r ≡ Err o → (past : Past) × (r ≡ Err past) × (o ≡ overflow_at_turn row past)
row_err row (Ok y) o e = absurd (let h : ⊥ = cc in h)
row_err row (Err past) o e = (past, refl, cc)

pub next_ok : {A B : Type 0} (r : Result A Overflow) (f : A → Result B Overflow) (y : B) → (r ▸ f) ≡ Ok y → (x : A) × (r ≡ Ok x) × (f x ≡ Ok y)
next_ok (Ok x) f y e = (x, refl, e)
next_ok (Err o) f y e = absurd (let h : ⊥ = cc in h)

pub next_err : {A B : Type 0} (r : Result A Overflow) (f : A → Result B Overflow) (o : Overflow) → (r ▸ f) ≡ Err o → (r ≡ Err o) ⊎ ((x : A) × (r ≡ Ok x) × (f x ≡ Err o))
next_err (Ok x) f o e = inr (x, refl, e)
next_err (Err p) f o e = inl cc
