-- The names of nodes and flows.
use Rattle.std.specs.Prelude.{ℕ, ◌&&◌, nat_lt, nat_le, Bool, length, slice_index_or, map, List, []}
use Rattle.std.specs.List.{AllPass, IsDistinct, list_all}
use Rattle.std.specs.Str.{bytes_eq}
use Rattle.std.specs.Char.{is_ascii_graphic}
use Rattle.np_model.specs.declared.scheme.Flow.{Flow}

-- 1 to 64 bytes that print and are no space
abbrev pub is_name : List ℕ → Bool
is_name bytes = nat_lt 0 (length bytes) && nat_le (length bytes) 64 && list_all is_ascii_graphic bytes

-- each is a name, and no two are the same
pub record AreNames (names : List (List ℕ)) : Type 0 where
  pub each : AllPass is_name names
  pub distinct : IsDistinct bytes_eq names

-- the name with this number, from 0; no bytes where there is none
abbrev pub name_at : List (List ℕ) → ℕ → List ℕ
name_at names number = slice_index_or names number []

abbrev pub flow_names : List Flow → List (List ℕ)
flow_names flows = map (λ flow. flow.name) flows
