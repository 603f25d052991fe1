-- The operations of the rows of directions at the nodes of a piece, and inwards along its steps. Nodes and basic arcs are named by their places.
use Rattle.std.specs.Prelude.{◌≡◌, ◌≢◌, ◌<◌, ◌==◌, nat_lt, nat_le, ℕ, suc, Bool, true, false, List, [], ◌∷◌, length, drop, slice_index, slice_index_or, slice_set, Result, Ok, Err, if◌then◌else◌}
use Rattle.std.specs.List.{All}
use Rattle.np_frac.specs.Ratio.{Ratio, zero_ratio, one_ratio, negated}
use Rattle.np_frac.specs.Order.{ratio_eq}
use Rattle.np_frac.specs.Exact.{plus_of, over_of, ◌▷◌}
use Rattle.np_frac.specs.declared.frac.Past.{Past}
use Rattle.np_model.specs.declared.arc.Ends.{Ends}
use Rattle.np_model.specs.declared.rows.Row.{Row}
use Rattle.np_model.specs.declared.rows.Row.TheVariants.{A3, A4}
use Rattle.np_model.specs.declared.rows.Place.TheVariants.{Arc}
use Rattle.np_model.specs.declared.rows.Overflow.{Overflow}
use Rattle.np_model.specs.Network.Flows.{at}
use Rattle.np_model.specs.Basis.Starts.{touches}
use Rattle.np_model.specs.Rows.Directions.{term, turned, with_first, mixed}
use Rattle.tree_search.specs.declared.piece.Step.{Step}
use Rattle.tree_search.specs.declared.piece.Joint.{Joint}
use Rattle.tree_search.specs.Places.{numbers_of_nodes, ends_by_place, loose, HasGain}
use Rattle.tree_search.specs.Search.{JoinsAt}

abbrev pub is_zero : Ratio → Bool
is_zero amount = ratio_eq amount zero_ratio

-- ---- what the operations need

abbrev pub HaveGains : List (ℕ × Ends × Ratio) → Type 0
HaveGains basics = All (λ b. HasGain b.1) basics

-- the places of a step lie in the lists
abbrev pub IsWithin : List (ℕ × Ratio) → List (ℕ × Ends × Ratio) → Step → Type 0
IsWithin nodes basics s = (s.arc < length basics) × (s.near < length nodes) × (s.far < length nodes)

-- ---- overflows with their row

-- these operands overflow in this row, at the arc that enters
abbrev pub overflow_at : ℕ → Row → Past → Overflow
overflow_at enter row past = record { row = row; place = Arc enter; past = past }

-- the answer of a row
abbrev pub in_row : {A : Type 0} → ℕ → Row → Result A Past → Result A Overflow
in_row enter row (Ok x) = Ok x
in_row enter row (Err past) = Err (overflow_at enter row past)

-- go on with what was found, or stop at the first overflow
infixl 10 ◌▸◌
abbrev pub ◌▸◌ : {A B : Type 0} → Result A Overflow → (A → Result B Overflow) → Result B Overflow
(Ok x) ▸ f = f x
(Err overflow) ▸ f = Err overflow

-- ---- the arcs at a node

-- the arc has an end at the node
abbrev pub has_end : Joint → ℕ → Bool
has_end j v = if j.from == v then true else j.to == v

-- the places of those arcs of a list, counted from i, that have an end at the node
abbrev pub ending_at : ℕ → ℕ → List Joint → List ℕ
ending_at v i [] = []
ending_at v i (j ∷ joints) = if has_end j v then i ∷ ending_at v (suc i) joints else ending_at v (suc i) joints

abbrev pub arcs_from : List Joint → ℕ → ℕ → List ℕ
arcs_from joints v i = ending_at v i (drop i joints)

-- ---- the sum at a node, in ascending number of arc

-- the basic arc at this place comes before the entering one, or the other way round
abbrev pub in_part : ℕ → Bool → ℕ → Bool
in_part before early a = if early then nat_lt a before else nat_le before a

-- the sum with the term of the basic arc at this place, where it is in this part
abbrev pub add_place : List (ℕ × Ends × Ratio) → List Ratio → ℕ → Bool → ℕ → ℕ → Ratio → Result Ratio Past
add_place basics amounts before early node a sum =
    if in_part before early a then (term (ends_by_place basics a) node (at amounts a) ▷ plus_of sum) else Ok sum

-- the sum with those of the basic arcs at these places that are in this part
abbrev pub sum_part : List (ℕ × Ends × Ratio) → List Ratio → ℕ → Bool → ℕ → List ℕ → Ratio → Result Ratio Past
sum_part basics amounts before early node [] sum = Ok sum
sum_part basics amounts before early node (a ∷ places) sum =
    add_place basics amounts before early node a sum ▷ sum_part basics amounts before early node places

-- the sum with the term of the entering arc, where it ends at the node
abbrev pub add_entering : Ends → Ratio → ℕ → Ratio → Result Ratio Past
add_entering ends amount node sum = if touches ends node then (term ends node amount ▷ plus_of sum) else Ok sum

-- the sum at a node
abbrev pub sum_of : List (ℕ × Ratio) → List (ℕ × Ends × Ratio) → List Joint → ℕ → Ends → Ratio → List Ratio → ℕ → Result Ratio Past
sum_of nodes basics joints before ends amount amounts place =
    let node = slice_index (numbers_of_nodes nodes) place in
    sum_part basics amounts before true node (arcs_from joints place 0) zero_ratio ▷ add_entering ends amount node
    ▷ sum_part basics amounts before false node (arcs_from joints place 0)

-- ---- where nothing comes

-- the entering arc ends at the node, or it is marked
abbrev pub may_come : List (ℕ × Ratio) → Ends → List Bool → ℕ → Bool
may_come nodes ends reached place = if slice_index_or reached place true then true else touches ends (slice_index (numbers_of_nodes nodes) place)

-- the amounts are 0 on the arcs at each node that is not marked
abbrev pub AreStill : List Joint → List Ratio → List Bool → Type 0
AreStill joints amounts reached = (a v : ℕ) → has_end (slice_index_or joints a loose) v ≡ true → slice_index_or reached v true ≡ false → at amounts a ≡ zero_ratio

-- the arc of each step joins its nodes
abbrev pub AreJoined : List Joint → List Step → Type 0
AreJoined joints steps = All (λ s. JoinsAt joints s.arc s.near s.far) steps

-- a node that is marked in neither list, or only now, as an end of the step, where its amount is not 0
abbrev pub MarksStep : List Bool → Step → Ratio → List Bool → Type 0
MarksStep reached s amount marked =
    (v : ℕ) → slice_index_or marked v true ≡ false → (slice_index_or reached v true ≡ false) × (is_zero amount ≡ false → (v ≢ s.near) × (v ≢ s.far))

-- ---- inwards along steps

-- the amount on the arc of a step
abbrev pub amount_of : List (ℕ × Ratio) → List (ℕ × Ends × Ratio) → List Joint → ℕ → Ends → Ratio → List Ratio → Step → Result Ratio Past
amount_of nodes basics joints before ends amount amounts s =
    sum_of nodes basics joints before ends amount amounts s.far ▷ turned (ends_by_place basics s.arc) (slice_index (numbers_of_nodes nodes) s.far)

-- the amounts by place, each step writing that of its arc
abbrev pub gather : List (ℕ × Ratio) → List (ℕ × Ends × Ratio) → List Joint → ℕ → Ends → Ratio → List Step → List Ratio → Result (List Ratio) Past
gather nodes basics joints before ends amount [] amounts = Ok amounts
gather nodes basics joints before ends amount (s ∷ steps) amounts =
    amount_of nodes basics joints before ends amount amounts s ▷ λ y. gather nodes basics joints before ends amount steps (slice_set amounts s.arc y)

-- the sums by place, each step writing that of its far node
abbrev pub gather_sums : List (ℕ × Ratio) → List (ℕ × Ends × Ratio) → List Joint → ℕ → Ends → Ratio → List Ratio → List Step → List Ratio → Result (List Ratio) Past
gather_sums nodes basics joints before ends amount amounts [] sums = Ok sums
gather_sums nodes basics joints before ends amount amounts (s ∷ steps) sums =
    sum_of nodes basics joints before ends amount amounts s.far ▷ λ y. gather_sums nodes basics joints before ends amount amounts steps (slice_set sums s.far y)

-- ---- round a cycle, from step to step

-- the sums at the far nodes of the steps are all 0
abbrev pub are_zero : List Ratio → List Step → Bool
are_zero sums [] = true
are_zero sums (s ∷ steps) = if is_zero (at sums s.far) then are_zero sums steps else false

-- the amount on the arc of the second step, by the amount on the first, with the sum at the node between, and with nothing there
abbrev pub next_amount : List (ℕ × Ratio) → List (ℕ × Ends × Ratio) → List Ratio → Step → Step → Ratio → Result Ratio Past
next_amount nodes basics sums s z amount =
    let node = slice_index (numbers_of_nodes nodes) s.far in
    term (ends_by_place basics s.arc) node amount ▷ λ more. plus_of more (at sums s.far) ▷ turned (ends_by_place basics z.arc) node

abbrev pub next_share : List (ℕ × Ratio) → List (ℕ × Ends × Ratio) → Step → Step → Ratio → Result Ratio Past
next_share nodes basics s z amount =
    let node = slice_index (numbers_of_nodes nodes) s.far in
    term (ends_by_place basics s.arc) node amount ▷ turned (ends_by_place basics z.arc) node

-- the amount on the last arc
abbrev pub amount_behind : List (ℕ × Ratio) → List (ℕ × Ends × Ratio) → List Ratio → Step → List Step → Ratio → Result Ratio Past
amount_behind nodes basics sums s [] amount = Ok amount
amount_behind nodes basics sums s (z ∷ rest) amount = next_amount nodes basics sums s z amount ▷ amount_behind nodes basics sums z rest

abbrev pub share_behind : List (ℕ × Ratio) → List (ℕ × Ends × Ratio) → Step → List Step → Ratio → Result Ratio Past
share_behind nodes basics s [] amount = Ok amount
share_behind nodes basics s (z ∷ rest) amount = next_share nodes basics s z amount ▷ share_behind nodes basics z rest

abbrev pub last_of : Step → List Step → Step
last_of s [] = s
last_of s (z ∷ rest) = last_of z rest

-- the term of a step's arc at the node that it leads to
abbrev pub end_term : List (ℕ × Ratio) → List (ℕ × Ends × Ratio) → Step → Ratio → Result Ratio Past
end_term nodes basics s amount = term (ends_by_place basics s.arc) (slice_index (numbers_of_nodes nodes) s.far) amount

-- what an amount of 1 on the first arc leaves at the least node
abbrev pub divisor_of : List (ℕ × Ratio) → List (ℕ × Ends × Ratio) → Step → List Step → Result Ratio Past
divisor_of nodes basics s rest =
    share_behind nodes basics s rest one_ratio ▷ end_term nodes basics (last_of s rest)
    ▷ with_first (ends_by_place basics s.arc) (slice_index (numbers_of_nodes nodes) (last_of s rest).far)

-- what an amount of 0 on the first arc leaves there
abbrev pub closing_of : List (ℕ × Ratio) → List (ℕ × Ends × Ratio) → List Ratio → Step → List Step → Result Ratio Past
closing_of nodes basics sums s rest =
    amount_behind nodes basics sums s rest zero_ratio ▷ end_term nodes basics (last_of s rest) ▷ λ ending. plus_of ending (at sums (last_of s rest).far)

-- the amounts on the arcs after the first, by place, from the parts of that before
abbrev pub mix_after : List (ℕ × Ratio) → List (ℕ × Ends × Ratio) → List Ratio → Ratio → Step → List Step → Ratio → Ratio → List Ratio → Result (List Ratio) Past
mix_after nodes basics sums first s [] part share amounts = Ok amounts
mix_after nodes basics sums first s (z ∷ rest) part share amounts =
    next_amount nodes basics sums s z part ▷ λ p. next_share nodes basics s z share ▷ λ q. mixed first p q ▷ λ y.
    mix_after nodes basics sums first z rest p q (slice_set amounts z.arc y)

-- those on all arcs of the cycle
abbrev pub mix_all : List (ℕ × Ratio) → List (ℕ × Ends × Ratio) → List Ratio → Ratio → Step → List Step → List Ratio → Result (List Ratio) Past
mix_all nodes basics sums first s rest amounts =
    mixed first zero_ratio one_ratio ▷ λ y. mix_after nodes basics sums first s rest zero_ratio one_ratio (slice_set amounts s.arc y)

-- the same, where so much is left at the least node for each unit of the first arc
abbrev pub mix_of : List (ℕ × Ratio) → List (ℕ × Ends × Ratio) → List Ratio → Ratio → Step → List Step → List Ratio → Result (List Ratio) Past
mix_of nodes basics sums divisor s rest amounts =
    closing_of nodes basics sums s rest ▷ λ whole. over_of (negated whole) divisor ▷ λ first. mix_all nodes basics sums first s rest amounts

-- the amounts with those on the arcs of the cycle
abbrev pub turn_round : ℕ → List (ℕ × Ratio) → List (ℕ × Ends × Ratio) → List Ratio → Step → List Step → List Ratio → Result (List Ratio) Overflow
turn_round enter nodes basics sums s rest amounts =
    in_row enter A3 (divisor_of nodes basics s rest) ▸ λ last. in_row enter A4 (mix_of nodes basics sums last s rest amounts)
