use Rattle.std.proofs.Common.{rules, arith, ◌≡◌, ◌<◌, ◌-◌, map, take, drop, length, true, false, None, codes}
use Rattle.std.specs.String.{string_bytes}
use Rattle.np_frac.specs.Text.{number}
use Rattle.netplan_top.specs.Words.{IsCountTo}
use Rattle.netplan_top.proofs.OptionFacts.{not_empty, first_of, second_of, only_of, none_is_none, stepped, log_step, workers_step, budget_step, no_second_log, no_workers, no_workers_twice, no_budget_twice, no_budget, no_one_word, no_option}
use Rattle.netplan_top.proofs.words.+job_of.Goals as goal

pub returns-then-given : goal.returns-then-given
returns-then-given t c =
    let words = c.args.words.now in
    let all = first_of string_bytes words c.index-words-0.result (not_empty (length words) c.if-is_empty.ensures) c.index-words-0.is in
    let word : string_bytes c.index-words-0.result ≡ codes "--log" = search rules in
    let was : c.args.given.log ≡ true = search rules in
    λ job. no_second_log (map string_bytes words) (map string_bytes (take (length words - 1) (drop 1 words))) c.args.given job (rw word at all) was

pub returns-then-is_text : goal.returns-then-is_text
returns-then-is_text t c =
    let words = c.args.words.now in
    let all = first_of string_bytes words c.index-words-0.result (not_empty (length words) c.if-is_empty.ensures) c.index-words-0.is in
    let word : string_bytes c.index-words-0.result ≡ codes "--log" = search rules in
    let was : c.args.given.log ≡ false = search rules in
    let rest = map string_bytes (take (length words - 1) (drop 1 words)) in
    stepped (map string_bytes words) c.args.given rest _ c.job_of.result (log_step (map string_bytes words) rest c.args.given (rw word at all) was) c.job_of.ensures

pub returns-then-words-eq1 : goal.returns-then-words-eq1
returns-then-words-eq1 t c =
    let words = c.args.words.now in
    let one : length words ≡ 1 = omega arith in
    let all = only_of string_bytes words c.index-words-0.result one c.index-words-0.is in
    let other : ¬ (string_bytes c.index-words-0.result ≡ codes "--log") = search rules in
    λ job. no_one_word (map string_bytes words) (string_bytes c.index-words-0.result) c.args.given job all other

pub returns-then-is_some : goal.returns-then-is_some
returns-then-is_some t c =
    let words = c.args.words.now in
    let all = first_of string_bytes words c.index-words-0.result (not_empty (length words) c.if-is_empty.ensures) c.index-words-0.is in
    let word : string_bytes c.index-words-0.result ≡ codes "--workers" = search rules in
    λ job. no_workers_twice (map string_bytes words) (map string_bytes (take (length words - 1) (drop 1 words))) c.args.given job (rw word at all) (none_is_none c.args.given.workers c.if-is_some.ensures)

pub returns-in_err-count_to : goal.returns-in_err-count_to
returns-in_err-count_to t c =
    let words = c.args.words.now in
    let more = not_empty (length words) c.if-is_empty.ensures in
    let two : 1 < length words = omega arith in
    let all = second_of string_bytes words c.index-words-0.result c.index-words-1.result two c.index-words-0.is c.index-words-1.is in
    let word : string_bytes c.index-words-0.result ≡ codes "--workers" = search rules in
    let bad : ¬ (IsCountTo 16 (string_bytes c.index-words-1.result)) = search rules in
    rw c.from_residual.ensures
    (λ job. no_workers (map string_bytes words) (map string_bytes (take (length words - 2) (drop 2 words))) (string_bytes c.index-words-1.result) c.args.given job (rw word at all) (λ e. bad))

pub returns-then-is_text-2 : goal.returns-then-is_text-2
returns-then-is_text-2 t c =
    let words = c.args.words.now in
    let more = not_empty (length words) c.if-is_empty.ensures in
    let two : 1 < length words = omega arith in
    let all = second_of string_bytes words c.index-words-0.result c.index-words-1.result two c.index-words-0.is c.index-words-1.is in
    let word : string_bytes c.index-words-0.result ≡ codes "--workers" = search rules in
    let count : IsCountTo 16 (string_bytes c.index-words-1.result) = search rules in
    let same : c.in_ok-count_to.field-0 ≡ number (string_bytes c.index-words-1.result) = search rules in
    let was : c.args.given.workers ≡ None = search rules in
    let rest = map string_bytes (take (length words - 2) (drop 2 words)) in
    stepped (map string_bytes words) c.args.given rest _ c.job_of-then-is_text-2.result
    (workers_step (map string_bytes words) rest (string_bytes c.index-words-1.result) c.args.given c.in_ok-count_to.field-0 (rw word at all) was count same) c.job_of-then-is_text-2.ensures

pub returns-then-is_some-2 : goal.returns-then-is_some-2
returns-then-is_some-2 t c =
    let words = c.args.words.now in
    let all = first_of string_bytes words c.index-words-0.result (not_empty (length words) c.if-is_empty.ensures) c.index-words-0.is in
    let word : string_bytes c.index-words-0.result ≡ codes "--budget" = search rules in
    λ job. no_budget_twice (map string_bytes words) (map string_bytes (take (length words - 1) (drop 1 words))) c.args.given job (rw word at all) (none_is_none c.args.given.budget c.if-is_some-2.ensures)

pub returns-in_err-count_to-2 : goal.returns-in_err-count_to-2
returns-in_err-count_to-2 t c =
    let words = c.args.words.now in
    let more = not_empty (length words) c.if-is_empty.ensures in
    let two : 1 < length words = omega arith in
    let all = second_of string_bytes words c.index-words-0.result c.index-words-1-then-is_text-3.result two c.index-words-0.is c.index-words-1-then-is_text-3.is in
    let word : string_bytes c.index-words-0.result ≡ codes "--budget" = search rules in
    let bad : ¬ (IsCountTo 1000000 (string_bytes c.index-words-1-then-is_text-3.result)) = search rules in
    rw c.from_residual-in_err-count_to-2.ensures
    (λ job. no_budget (map string_bytes words) (map string_bytes (take (length words - 2) (drop 2 words))) (string_bytes c.index-words-1-then-is_text-3.result) c.args.given job (rw word at all) (λ e. bad))

pub returns-then-is_text-3 : goal.returns-then-is_text-3
returns-then-is_text-3 t c =
    let words = c.args.words.now in
    let more = not_empty (length words) c.if-is_empty.ensures in
    let two : 1 < length words = omega arith in
    let all = second_of string_bytes words c.index-words-0.result c.index-words-1-then-is_text-3.result two c.index-words-0.is c.index-words-1-then-is_text-3.is in
    let word : string_bytes c.index-words-0.result ≡ codes "--budget" = search rules in
    let count : IsCountTo 1000000 (string_bytes c.index-words-1-then-is_text-3.result) = search rules in
    let same : c.in_ok-count_to-2.field-0 ≡ number (string_bytes c.index-words-1-then-is_text-3.result) = search rules in
    let was : c.args.given.budget ≡ None = search rules in
    let rest = map string_bytes (take (length words - 2) (drop 2 words)) in
    stepped (map string_bytes words) c.args.given rest _ c.job_of-then-is_text-3.result
    (budget_step (map string_bytes words) rest (string_bytes c.index-words-1-then-is_text-3.result) c.args.given c.in_ok-count_to-2.field-0 (rw word at all) was count same) c.job_of-then-is_text-3.ensures

pub returns : goal.returns
returns t c =
    let words = c.args.words.now in
    let all = first_of string_bytes words c.index-words-0.result (not_empty (length words) c.if-is_empty.ensures) c.index-words-0.is in
    let log : ¬ (string_bytes c.index-words-0.result ≡ codes "--log") = search rules in
    let workers : ¬ (string_bytes c.index-words-0.result ≡ codes "--workers") = search rules in
    let budget : ¬ (string_bytes c.index-words-0.result ≡ codes "--budget") = search rules in
    λ job. no_option (map string_bytes words) (map string_bytes (take (length words - 1) (drop 1 words))) (string_bytes c.index-words-0.result) c.args.given job all log workers budget
