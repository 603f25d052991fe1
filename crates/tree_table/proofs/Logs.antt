-- A log with one pivot more, and the tickets of its entries.
use Rattle.std.proofs.Common.{◌≡◌, ℕ, suc, ◌+◌, ◌-◌, ◌≤◌, List, [], ◌∷◌, ◌++◌, length, refl, ap, ◌∙◌, arith}
use Rattle.atomic_table.specs.Table.{step}
use Rattle.np_model.specs.Basis.Pieces.{PieceLists}
use Rattle.tree_table.specs.Passes.{Pivoted, Opening}
use Rattle.tree_table.specs.Weights.{weigh}
use Rattle.tree_table.specs.Replay.{numbered, Turns, LeadsTo, AreBelow}

-- the numbers of a list that is one longer
pub numbered-push : (n : ℕ) (log : List Pivoted) (m : Pivoted) → numbered n (log ++ m ∷ []) ≡ numbered n log ++ (n + length log, m) ∷ []
numbered-push n [] m = λ i. (n-is i, m) ∷ []
  where
    n-is : n ≡ n + 0
    n-is = omega arith
numbered-push n (x ∷ xs) m = λ i. (n, x) ∷ (numbered-push (suc n) xs m ∙ ap (λ (z : ℕ). numbered (suc n) xs ++ (z, m) ∷ []) next) i
  where
    next : suc n + length xs ≡ n + suc (length xs)
    next = omega arith

pub length-numbered : (n : ℕ) (log : List Pivoted) → length (numbered n log) ≡ length log
length-numbered n [] = refl
length-numbered n (x ∷ xs) = ap suc (length-numbered (suc n) xs)

pub below_by : (n : ℕ) (es : List (ℕ × Pivoted)) → weigh (λ (e : ℕ × Pivoted). (e.0 + 1) - n) es ≡ 0 → AreBelow n es
below_by n [] z = tt
below_by n (e ∷ es) z = (omega arith, below_by n es (omega arith))

pub numbered_below : (m n : ℕ) (log : List Pivoted) → m + length log ≤ n → weigh (λ (e : ℕ × Pivoted). (e.0 + 1) - n) (numbered m log) ≡ 0
numbered_below m n [] le = refl
numbered_below m n (x ∷ xs) le = let a = numbered_below (suc m) n xs (omega arith) in omega arith

-- one entry more
pub leads_on : (start : Opening) (pieces : List PieceLists) (log : List Pivoted) (now next : List PieceLists) (m : Pivoted) → LeadsTo start pieces log now → Turns start now m next → LeadsTo start pieces (log ++ m ∷ []) next
leads_on start pieces [] now next m same turn = (
  next,
  record {
    there = λ f. let a = turn.there f in let b = same f in omega arith;
    becomes = turn.becomes;
    replaced = λ f. let a = turn.replaced f in let b = same f in omega arith;
  },
  λ f. refl,
)
leads_on start pieces (x ∷ xs) now next m step turn = (step.0, step.1, leads_on start step.0 xs now next m step.2 turn)
