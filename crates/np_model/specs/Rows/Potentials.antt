-- The rows A3 and A7 for the potentials of a piece: the operations, and those of them that are reached. Potentials along a tree and round a
-- cycle are those of Ahuja, Magnanti and Orlin, Network Flows, chapter 15.
use Rattle.std.specs.Prelude.{◌≡◌, ℕ, ◌==◌, if◌then◌else◌, List, [], ◌∷◌, Result, Ok, Err}
use Rattle.std.specs.Result.{IsOk}
use Rattle.gain_graphs.specs.Arcs.{IsIn}
use Rattle.np_frac.specs.Ratio.{Ratio, zero_ratio, one_ratio, negated}
use Rattle.np_frac.specs.Exact.{plus_of, minus_of, times_of, over_of, ◌▷◌}
use Rattle.np_frac.specs.declared.frac.Past.{Past}
use Rattle.np_model.specs.declared.arc.Ends.{Ends}
use Rattle.np_model.specs.declared.arc.Ends.TheVariants.{Link, Drain, Feed}
use Rattle.np_model.specs.declared.rows.Row.{Row}
use Rattle.np_model.specs.declared.rows.Row.TheVariants.{A3, A7}
use Rattle.np_model.specs.Network.Arcs.{reduced_cost, tail_of, head_of}
use Rattle.np_model.specs.Rows.Extra.{Extra, OneEnd, Round, root, IsExtra, Leads}

-- with these costs by number and these potentials each of these arcs has the reduced cost 0
abbrev pub ArePriced : (ℕ → Ends) → (ℕ → Ratio) → List ℕ → (ℕ → Ratio) → Type 0
ArePriced ends cost arcs potential =
    (a : ℕ) → IsIn a arcs → reduced_cost (ends a) (cost a) (potential (tail_of (ends a))) (potential (head_of (ends a))) ≡ zero_ratio

-- the potential at the other end of a link with this cost, from the potential at its end u
abbrev pub across : Ends → Ratio → ℕ → Ratio → Result Ratio Past
across (Link from to gain) cost u potential =
    if u == from then (minus_of potential cost ▷ λ difference. over_of difference gain) else (times_of gain potential ▷ plus_of cost)
across (Drain at) cost u potential = Ok potential
across (Feed at) cost u potential = Ok potential

-- what a product of gains becomes over a link that is walked from its end u
abbrev pub scaled_across : Ends → ℕ → Ratio → Result Ratio Past
scaled_across (Link from to gain) u product = if u == from then over_of product gain else times_of gain product
scaled_across (Drain at) u product = Ok product
scaled_across (Feed at) u product = Ok product

-- the potential that an arc with one end gives its node
abbrev pub end_potential : Ends → Ratio → Ratio
end_potential (Link from to gain) cost = cost
end_potential (Drain at) cost = cost
end_potential (Feed at) cost = negated cost

module _ (ends : ℕ → Ends) (cost : ℕ → Ratio) where
  -- the product of gains behind these links of a way from the node u, which so far is `product`
  abbrev pub product_along : ℕ → List (ℕ × ℕ) → Ratio → Result Ratio Past
  product_along u [] product = Ok product
  product_along u (x ∷ way) product = scaled_across (ends x.0) u product ▷ product_along x.1 way

  -- the last value of A3: 1 less the product round the cycle from k
  abbrev pub divisor : ℕ → List (ℕ × ℕ) → Result Ratio Past
  divisor k way = product_along k way one_ratio ▷ minus_of one_ratio

  -- the potential behind these links of a way from the node u, where that of u is `potential`
  abbrev pub potential_along : ℕ → List (ℕ × ℕ) → Ratio → Result Ratio Past
  potential_along u [] potential = Ok potential
  potential_along u (x ∷ way) potential = across (ends x.0) (cost x.0) u potential ▷ potential_along x.1 way

  -- the potential of the extra arc's node, or of the least node of the cycle
  abbrev pub root_potential : Extra → Result Ratio Past
  root_potential (OneEnd a v) = Ok (end_potential (ends a) (cost a))
  root_potential (Round k way) = potential_along k way zero_ratio ▷ λ sum. divisor k way ▷ over_of sum

  -- of a piece with these arcs, this extra arc and these potentials
  module _ (arcs : List ℕ) (x : Extra) (potential : ℕ → Ratio) where
    -- none of the operations that make the potential of the node overflows
    pub data Reached : ℕ → Type 0 where
      at_root : IsOk (root_potential x) → Reached (root x)
      beyond : (a u v : ℕ) → Leads ends arcs x a u v → Reached u → IsOk (across (ends a) (cost a) u (potential u)) → Reached v

    -- an operation of this row with these operands is reached, and overflows
    pub data Gives : Row → Past → Type 0 where
      product : (k : ℕ) (way : List (ℕ × ℕ)) (past : Past) → x ≡ Round k way → divisor k way ≡ Err past → Gives A3 past
      sum : (k : ℕ) (way : List (ℕ × ℕ)) (past : Past) → x ≡ Round k way → potential_along k way zero_ratio ≡ Err past → Gives A7 past
      quotient : (k : ℕ) (way : List (ℕ × ℕ)) (past : Past) (total last : Ratio) → x ≡ Round k way → potential_along k way zero_ratio ≡ Ok total
          → divisor k way ≡ Ok last → over_of total last ≡ Err past → Gives A7 past
      link : (a u v : ℕ) (past : Past) → Leads ends arcs x a u v → Reached u → across (ends a) (cost a) u (potential u) ≡ Err past → Gives A7 past

    -- no operation of the rows overflows
    pub record FitsRows : Type 0 where
      pub at_root : IsOk (root_potential x)
      pub links : (a u v : ℕ) → Leads ends arcs x a u v → IsOk (across (ends a) (cost a) u (potential u))

  -- no operation of the rows overflows on the piece with these arcs and potentials, whichever its extra arc is
  abbrev pub PotentialsFit : List ℕ → (ℕ → Ratio) → Type 0
  PotentialsFit arcs potential = (x : Extra) → IsExtra ends arcs x → FitsRows arcs x potential

  -- an operation of this row with these operands is reached on the piece with these arcs and potentials, and overflows
  abbrev pub PotentialsGive : List ℕ → (ℕ → Ratio) → Row → Past → Type 0
  PotentialsGive arcs potential row past = (x : Extra) × IsExtra ends arcs x × Gives arcs x potential row past
