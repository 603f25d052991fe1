-- The words, and the command that they name.
use Rattle.std.specs.Prelude.{◌≡◌, ℕ, ◌≤◌, List, [], ◌∷◌, map, codes}
use Rattle.std.specs.String.{string_bytes}
use Rattle.std.specs.declared.string.String.{String}
use Rattle.std.specs.declared.alloc.Global.{Global}
use Rattle.std.proofs.Common.{sym, ap, ◌∙◌, arith, get_or, inl, inr}
use Rattle.np_frac.specs.Text.{number}
use Rattle.netplan_top.specs.declared.words.Job.{Job}
use Rattle.netplan_top.specs.declared.words.Command.{Command}
use Rattle.netplan_top.specs.declared.words.Command.TheVariants.{Check, Expand, Solve}
use Rattle.netplan_top.specs.Words.{AskFor, AskForDemo, ReadsInput, IsCommand, AskToSolve}
use Rattle.netplan_top.specs.Steps.Solved.{IsWithinLimits}
pub use Rattle.netplan_top.proofs.OptionFacts.{only_of as one_item}
use Rattle.netplan_top.proofs.OptionFacts.{workers_within, budget_within, one_job}

pub same_head : (a b : List ℕ) → a ∷ [] ≡ b ∷ [] → a ≡ b
same_head a b e = cc e

-- words that name no command that reads an input
pub no_command : (words : List (String Global)) → ¬ (map string_bytes words ≡ codes "check" ∷ []) → ¬ (map string_bytes words ≡ codes "expand" ∷ [])
    → ((job : Job) → ¬ (AskToSolve (map string_bytes words) job)) → ¬ (ReadsInput words)
no_command words check expand solve (Check, e) = check e
no_command words check expand solve (Expand, e) = expand e
no_command words check expand solve (Solve job, e) = solve job e

-- no words name two
apart_words : (a : List (List ℕ)) (rest : List (List ℕ)) (word : List ℕ) → a ≡ word ∷ [] → a ≡ codes "solve" ∷ rest → word ≡ codes "solve"
apart_words a rest word e f = cc (sym e ∙ f)

pub apart : (words : List (String Global)) → AskFor words Check → AskFor words Expand → ⊥
apart words a b = cc (sym a ∙ b)

pub apart_check : (words : List (String Global)) (job : Job) → AskFor words (Solve job) → AskFor words Check → ⊥
apart_check words job h e =
    let same : ◌≡◌ {A = ℕ} 99 115 = ap (λ (l : List ℕ). get_or l 0 0) (apart_words (map string_bytes words) _ (codes "check") e h.words_are) in
    omega arith

pub apart_expand : (words : List (String Global)) (job : Job) → AskFor words (Solve job) → AskFor words Expand → ⊥
apart_expand words job h e = cc (apart_words (map string_bytes words) _ (codes "expand") e h.words_are)

-- words that ask for a job name no other command
pub same_job : (words : List (String Global)) (command : Command) (job : Job) → AskFor words command → AskFor words (Solve job) → command ≡ Solve job
same_job words (Solve own) job named asked = ap (λ (j : Job). Solve j) (one_job (map string_bytes words) own job named asked)
same_job words Check job named asked = absurd (apart_check words job asked named)
same_job words Expand job named asked = absurd (apart_expand words job asked named)

-- the numbers of a command
pub within_limits : (words : List (String Global)) (command : Command) → AskFor words command → IsWithinLimits command
within_limits words (Solve job) h = (workers_within (map string_bytes words) job h, budget_within (map string_bytes words) job h)
within_limits words Check h = tt
within_limits words Expand h = tt

-- ---- the demo

two_words : (words : List (List ℕ)) (rest : List (List ℕ)) (word digits : List ℕ) → words ≡ word ∷ rest → words ≡ codes "demo" ∷ digits ∷ [] → word ≡ codes "demo"
two_words words rest word digits e f = cc (sym e ∙ f)

one_word : (words : List (List ℕ)) (word other digits : List ℕ) → words ≡ word ∷ [] → words ≡ other ∷ digits ∷ [] → ⊥
one_word words word other digits e f = cc (sym e ∙ f)

same_digits : (words : List (List ℕ)) (word a b : List ℕ) → words ≡ word ∷ a ∷ [] → words ≡ word ∷ b ∷ [] → a ≡ b
same_digits words word a b e f = cc (sym e ∙ f)

-- words that ask for the demo name no command that reads an input
pub apart_demo : (words : List (String Global)) (n : ℕ) (command : Command) → AskForDemo words n → AskFor words command → ⊥
apart_demo words n (Solve job) demo asked = cc (two_words (map string_bytes words) _ (codes "solve") demo.digits asked.words_are demo.words_are)
apart_demo words n Check demo asked = one_word (map string_bytes words) (codes "check") (codes "demo") demo.digits asked demo.words_are
apart_demo words n Expand demo asked = one_word (map string_bytes words) (codes "expand") (codes "demo") demo.digits asked demo.words_are

-- and they ask for one
pub one_demo : (words : List (String Global)) (n m : ℕ) → AskForDemo words n → AskForDemo words m → n ≡ m
one_demo words n m a b = a.number_is ∙ ap number (same_digits (map string_bytes words) (codes "demo") a.digits b.digits a.words_are b.words_are) ∙ sym b.number_is

-- the number of a demo
pub demo_within : (words : List (String Global)) (n : ℕ) → AskForDemo words n → (1 ≤ n) × (n ≤ 1000)
demo_within words n demo = let count = demo.is_count in let is = demo.number_is in let low = count.from_one in let high = count.to_most in (omega arith, omega arith)

-- words that name nothing
pub asks_for_nothing : (words : List (String Global)) → ¬ (ReadsInput words) → ((n : ℕ) → ¬ (AskForDemo words n)) → ¬ (IsCommand words)
asks_for_nothing words none no_demo (inl reads) = none reads
asks_for_nothing words none no_demo (inr (n, demo)) = no_demo n demo
