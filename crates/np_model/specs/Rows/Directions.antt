-- The rows A3 and A4 for the direction of an entering arc on a piece: the operations, and those of them that are reached. Directions along a
-- tree and round a cycle are those of Ahuja, Magnanti and Orlin, Network Flows, chapter 15.
use Rattle.std.specs.Prelude.{◌≡◌, ◌≢◌, ◌⊎◌, ◌↔◌, ℕ, ◌==◌, if◌then◌else◌, List, [], ◌∷◌, ◌++◌, Result, Ok, Err, ⊤}
use Rattle.std.specs.Result.{IsOk}
use Rattle.std.specs.List.Sorted.{IsStrictlyIncreasing}
use Rattle.gain_graphs.specs.Arcs.{IsIn, Touches}
use Rattle.gain_graphs.specs.Cycles.{last_arc}
use Rattle.np_frac.specs.Ratio.{Ratio, zero_ratio, one_ratio, negated}
use Rattle.np_frac.specs.Exact.{plus_of, minus_of, times_of, over_of, ◌▷◌}
use Rattle.np_frac.specs.declared.frac.Past.{Past}
use Rattle.np_model.specs.declared.arc.Ends.{Ends}
use Rattle.np_model.specs.declared.arc.Ends.TheVariants.{Link, Drain, Feed}
use Rattle.np_model.specs.declared.rows.Row.{Row}
use Rattle.np_model.specs.declared.rows.Row.TheVariants.{A3, A4}
use Rattle.np_model.specs.Basis.Graphs.{graph_of}
use Rattle.np_model.specs.Rows.Extra.{Extra, OneEnd, Round, extra_nodes, IsExtra, Hangs}

-- the term of an arc at its end v: what it takes from the node with this amount
abbrev pub term : Ends → ℕ → Ratio → Result Ratio Past
term (Link from to gain) v amount = if v == from then Ok amount else (times_of gain amount ▷ λ product. Ok (negated product))
term (Drain at) v amount = Ok amount
term (Feed at) v amount = Ok (negated amount)

-- the amount whose term at its end v is this sum, negated
abbrev pub turned : Ends → ℕ → Ratio → Result Ratio Past
turned (Link from to gain) v sum = if v == from then Ok (negated sum) else over_of sum gain
turned (Drain at) v sum = Ok (negated sum)
turned (Feed at) v sum = Ok sum

-- the last value of A3 for the cycle whose first arc has these ends, from the node k
abbrev pub with_first : Ends → ℕ → Ratio → Result Ratio Past
with_first (Link from to gain) k total = if k == from then plus_of total one_ratio else minus_of total gain
with_first (Drain at) k total = Ok total
with_first (Feed at) k total = Ok total

-- the amount on an arc of the cycle, by its parts and the amount on the first arc
abbrev pub mixed : Ratio → Ratio → Ratio → Result Ratio Past
mixed first part share = times_of share first ▷ plus_of part

-- some of these sums at the nodes of the cycle is not 0
abbrev pub IsTouched : List (ℕ × ℕ) → (ℕ → Ratio) → Type 0
IsTouched way sum = (a : ℕ) × (v : ℕ) × IsIn (a, v) way × (sum v ≢ zero_ratio)

module _ (ends : ℕ → Ends) (d : ℕ → Ratio) where
  -- the running sum at v over the terms of these arcs (a term that is 0 changes no sum, and its operations never overflow)
  abbrev pub sum_at : ℕ → List ℕ → Ratio → Result Ratio Past
  sum_at v [] sum = Ok sum
  sum_at v (a ∷ arcs) sum = term (ends a) v (d a) ▷ λ more. plus_of sum more ▷ sum_at v arcs

  -- the amount on the last of these links of a cycle, on from this amount on the arc a, which leads to v, with the sums at its nodes
  abbrev pub amount_along : (ℕ → Ratio) → ℕ → ℕ → List (ℕ × ℕ) → Ratio → Result Ratio Past
  amount_along sum a v [] amount = Ok amount
  amount_along sum a v (z ∷ way) amount = term (ends a) v amount ▷ λ more. plus_of more (sum v) ▷ turned (ends z.0) v ▷ amount_along sum z.0 z.1 way

  -- and with nothing at its nodes
  abbrev pub share_along : ℕ → ℕ → List (ℕ × ℕ) → Ratio → Result Ratio Past
  share_along a v [] amount = Ok amount
  share_along a v (z ∷ way) amount = term (ends a) v amount ▷ turned (ends z.0) v ▷ share_along z.0 z.1 way

  -- the last value of A3, for the cycle from k over the arc `first` and on
  abbrev pub divisor : ℕ → ℕ × ℕ → List (ℕ × ℕ) → Result Ratio Past
  divisor k first way = share_along first.0 first.1 way one_ratio ▷ term (ends (last_arc first.0 way)) k ▷ with_first (ends first.0) k

  -- the sum at the least node when the first arc of the cycle carries nothing
  abbrev pub closing : (ℕ → Ratio) → ℕ → ℕ × ℕ → List (ℕ × ℕ) → Result Ratio Past
  closing sum k first way =
      amount_along sum first.0 first.1 way zero_ratio ▷ term (ends (last_arc first.0 way)) k ▷ λ ending. plus_of ending (sum k)

  -- the amount on the first arc of the cycle
  abbrev pub first_amount : (ℕ → Ratio) → ℕ → ℕ × ℕ → List (ℕ × ℕ) → Result Ratio Past
  first_amount sum k first way = closing sum k first way ▷ λ whole. divisor k first way ▷ over_of (negated whole)

  -- the amount on the last arc of these links of the cycle
  abbrev pub mixed_along : (ℕ → Ratio) → ℕ × ℕ → List (ℕ × ℕ) → Ratio → Result Ratio Past
  mixed_along sum first before amount =
      amount_along sum first.0 first.1 before zero_ratio ▷ λ part. share_along first.0 first.1 before one_ratio ▷ mixed amount part

  -- of a piece with these arcs and this extra arc, and an arc that enters
  module _ (arcs : List ℕ) (x : Extra) (enter : ℕ) where
    -- the term of the arc is added at v: that of the entering arc where it has an end there, and those of the links off the extra arc with the
    -- near end v
    abbrev pub IsAddedAt : ℕ → ℕ → Type 0
    IsAddedAt v a = ((a ≡ enter) × Touches (v ∷ []) (graph_of ends a)) ⊎ ((u : ℕ) × Hangs ends arcs x a v u)

    -- these arcs, in ascending number
    pub record AreAddedAt (v : ℕ) (added : List ℕ) : Type 0 where
      pub ascend : IsStrictlyIncreasing added
      pub all : (a : ℕ) → IsIn a added ↔ IsAddedAt v a

    -- a node of the piece: one of the extra arc, or the far end of a link
    abbrev pub IsNode : ℕ → Type 0
    IsNode v = IsIn v (extra_nodes x) ⊎ ((a : ℕ) × (u : ℕ) × Hangs ends arcs x a u v)

    -- none of the operations that make the direction of the arc overflows: of a link off the extra arc those at its far end
    pub data Settled : ℕ → Type 0 where
      enters : Settled enter
      link : (a u v : ℕ) (added : List ℕ) → Hangs ends arcs x a u v → AreAddedAt v added → ((b : ℕ) → IsIn b added → Settled b)
          → IsOk (sum_at v added zero_ratio ▷ turned (ends a) v) → Settled a

    -- the sum at v is reached, and is this
    pub record HasSum (v : ℕ) (sum : Ratio) : Type 0 where
      pub added : List ℕ
      pub are_added : AreAddedAt v added
      pub settled : (b : ℕ) → IsIn b added → Settled b
      pub sum_is : sum_at v added zero_ratio ≡ Ok sum

    -- the extra arc is the cycle from k over the arc `first` and on; the sums at all its nodes are reached, are these, and are not all 0
    pub record IsTurned (k : ℕ) (first : ℕ × ℕ) (way : List (ℕ × ℕ)) (sum : ℕ → Ratio) : Type 0 where
      pub is_round : x ≡ Round k (first ∷ way)
      pub have_sums : (a v : ℕ) → IsIn (a, v) (first ∷ way) → HasSum v (sum v)
      pub touched : IsTouched (first ∷ way) sum

    -- an operation of this row with these operands is reached, and overflows
    pub data Gives : Row → Past → Type 0 where
      -- a term of a running sum
      a_term : (v a : ℕ) (past : Past) → IsNode v → IsAddedAt v a → Settled a → term (ends a) v (d a) ≡ Err past → Gives A4 past
      -- a running sum, whose terms so far are reached
      a_sum : (v : ℕ) (before after : List ℕ) (past : Past) → IsNode v → AreAddedAt v (before ++ after) → ((b : ℕ) → IsIn b before → Settled b)
          → sum_at v before zero_ratio ≡ Err past → Gives A4 past
      -- the direction of a link off the extra arc
      a_link : (a u v : ℕ) (sum : Ratio) (past : Past) → Hangs ends arcs x a u v → HasSum v sum → turned (ends a) v sum ≡ Err past → Gives A4 past
      -- on the cycle
      a_product : (k : ℕ) (first : ℕ × ℕ) (way : List (ℕ × ℕ)) (sum : ℕ → Ratio) (past : Past) → IsTurned k first way sum
          → divisor k first way ≡ Err past → Gives A3 past
      a_closing : (k : ℕ) (first : ℕ × ℕ) (way : List (ℕ × ℕ)) (sum : ℕ → Ratio) (past : Past) → IsTurned k first way sum
          → closing sum k first way ≡ Err past → Gives A4 past
      a_first : (k : ℕ) (first : ℕ × ℕ) (way : List (ℕ × ℕ)) (sum : ℕ → Ratio) (whole last : Ratio) (past : Past) → IsTurned k first way sum
          → closing sum k first way ≡ Ok whole → divisor k first way ≡ Ok last → over_of (negated whole) last ≡ Err past → Gives A4 past
      a_mix : (k : ℕ) (first : ℕ × ℕ) (way before after : List (ℕ × ℕ)) (sum : ℕ → Ratio) (amount : Ratio) (past : Past) → IsTurned k first way sum
          → first_amount sum k first way ≡ Ok amount → before ++ after ≡ way → mixed_along sum first before amount ≡ Err past → Gives A4 past

    -- no operation of the rows overflows on the extra arc
    abbrev pub FitsExtra : Extra → Type 0
    FitsExtra (OneEnd a v) = (added : List ℕ) → AreAddedAt v added → IsOk (sum_at v added zero_ratio)
    FitsExtra (Round k []) = ⊤
    FitsExtra (Round k (first ∷ way)) = (sum : ℕ → Ratio) × ((a v : ℕ) → IsIn (a, v) (first ∷ way) → HasSum v (sum v))
        × (IsTouched (first ∷ way) sum → (amount : Ratio) × (first_amount sum k first way ≡ Ok amount)
        × ((before after : List (ℕ × ℕ)) → before ++ after ≡ way → IsOk (mixed_along sum first before amount)))

    -- no operation of the rows overflows
    pub record FitsRows : Type 0 where
      pub links : (a u v : ℕ) (added : List ℕ) → Hangs ends arcs x a u v → AreAddedAt v added → IsOk (sum_at v added zero_ratio ▷ turned (ends a) v)
      pub extra : FitsExtra x

  -- no operation of the rows overflows on the piece with these arcs, when the arc enters with these directions
  abbrev pub DirectionFits : List ℕ → ℕ → Type 0
  DirectionFits arcs enter = (x : Extra) → IsExtra ends arcs x → FitsRows arcs x enter

  -- an operation of this row with these operands is reached there, and overflows
  abbrev pub DirectionGives : List ℕ → ℕ → Row → Past → Type 0
  DirectionGives arcs enter row past = (x : Extra) × IsExtra ends arcs x × Gives arcs x enter row past
