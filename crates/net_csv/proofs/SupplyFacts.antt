-- Amounts that are taken from the last one backwards.
use Rattle.std.specs.Prelude.{◌≡◌, ℕ, ◌+◌, ◌-◌, ◌*◌, ◌<◌, ◌≤◌, ◌==◌, ◌&&◌, Bool, true, false, Option, Some, None, List, ◌∷◌, length, set, get_or, is_some, drop}
use Rattle.std.specs.Option.{option_or}
use Rattle.std.proofs.Common.{refl, sym, ◌∙◌, inl, inr, arith}
use Rattle.std.proofs.lemmas.Bool.{cases_eq}
use Rattle.std.proofs.lemmas.Bool.Decides.{nat_tests}
use Rattle.std.proofs.lemmas.List.{get_or-set_same, get_or-set_other, drop_more}
use Rattle.std.proofs.lemmas.Nat.{same_from_place}
use Rattle.np_frac.specs.Ratio.{Ratio}
use Rattle.net_csv.specs.declared.given.Given.{Given}
use Rattle.net_csv.specs.Network.{covers, last_given}

or-none : (o : Option Ratio) → option_or o None ≡ o
or-none None = refl
or-none (Some x) = refl

same_number : (n : ℕ) → (n == n) ≡ true
same_number n = grind (arith, nat_tests)

covers-one : (g : Given) (p node period : ℕ) → g.period ≡ Some p → covers g node period ≡ ((g.node == node) && (p == period))
covers-one g p node period e = rw e refl

-- an amount for one period, where none behind it covers its place
pub last-one : (periods nodes : ℕ) (each all : List (Option Ratio)) (g : Given) (p : ℕ) (later : List Given)
    → g.period ≡ Some p → 1 ≤ p → p ≤ periods → g.node < nodes → (p - 1) * nodes + g.node < length each
    → get_or all g.node None ≡ None → get_or each ((p - 1) * nodes + g.node) None ≡ None
    → ((period node : ℕ) → period < periods → node < nodes → option_or (get_or each (period * nodes + node) None) (get_or all node None) ≡ last_given later node (period + 1))
    → (period node : ℕ) → period < periods → node < nodes
    → option_or (get_or (set each ((p - 1) * nodes + g.node) (Some g.amount)) (period * nodes + node) None) (get_or all node None) ≡ last_given (g ∷ later) node (period + 1)
last-one periods nodes each all g p later one low high there within no_all no_each last period node hp hn =
    elim (cases_eq (period * nodes + node) ((p - 1) * nodes + g.node)) [
      | inl same ↦
          let parts = same_from_place period node (p - 1) g.node nodes hn there same in
          let at_node : node ≡ g.node = parts.1 in
          let in_period : p ≡ period + 1 = let k = parts.0 in omega arith in
          let hit : covers g node (period + 1) ≡ true = covers-one g p node (period + 1) one ∙ rw (at_node, sym in_period, same_number g.node, same_number p) refl in
          let none : last_given later node (period + 1) ≡ None = sym (last period node hp hn) ∙ rw (same, at_node, no_each, no_all) refl in
          rw (same, get_or-set_same each ((p - 1) * nodes + g.node) (Some g.amount) None within, none, hit) refl
      | inr other ↦
          let miss : covers g node (period + 1) ≡ false = covers-one g p node (period + 1) one ∙ elsewhere (g.node == node) (p == (period + 1)) (λ a b.
          let k : g.node ≡ node = grind (arith, nat_tests) in
          let q : p ≡ period + 1 = grind (arith, nat_tests) in
          let r : p - 1 ≡ period = omega arith in
          other (rw (k, r) refl)) in
          rw (get_or-set_other each ((p - 1) * nodes + g.node) (period * nodes + node) (Some g.amount) None other, miss, or-none (last_given later node (period + 1))) (last period node hp hn)
    ]
  where
    elsewhere : (a b : Bool) → (a ≡ true → b ≡ true → ⊥) → (a && b) ≡ false
    elsewhere true true h = absurd (h refl refl)
    elsewhere true false h = refl
    elsewhere false b h = refl

pub none-from : (o : Option Ratio) → is_some o ≡ false → o ≡ None
none-from None h = refl
none-from (Some x) h = absurd (cc h)

-- one more from the end
pub drop-back : (xs : List Given) (k : ℕ) (d : Given) → 0 < k → k ≤ length xs → drop (k - 1) xs ≡ get_or xs (k - 1) d ∷ drop k xs
drop-back xs k d h l = let e : (k - 1) + 1 ≡ k = omega arith in rw e at (drop_more xs (k - 1) d (omega arith))
