use Rattle.std.proofs.Common.{rules, ◌≡◌, ◌-◌, ◌∷◌, [], map, take, drop, length, None, false}
use Rattle.std.specs.Prelude.{codes}
use Rattle.std.specs.String.{string_bytes}
use Rattle.netplan_top.specs.declared.words.Job.{Job}
use Rattle.netplan_top.specs.Steps.Options.{AreTheRestOf}
use Rattle.netplan_top.proofs.OptionFacts.{not_empty, first_of, options_are}
use Rattle.netplan_top.proofs.WordFacts.{no_command}
use Rattle.netplan_top.proofs.words.command_of.Goals as goal

pub returns-in_err-job_of : goal.returns-in_err-job_of
returns-in_err-job_of c =
    let words = c.args.words.now in
    let rest = map string_bytes (take (length words - 1) (drop 1 words)) in
    let check : ¬ (map string_bytes words ≡ codes "check" ∷ []) = search rules in
    let expand : ¬ (map string_bytes words ≡ codes "expand" ∷ []) = search rules in
    let all = first_of string_bytes words c.index-words-0.result (not_empty (length words) c.if-is_empty.ensures) c.index-words-0.is in
    let word : string_bytes c.index-words-0.result ≡ codes "solve" = search rules in
    let bad : (job : Job) → ¬ (AreTheRestOf rest (record { workers = None; budget = None; log = false }) job) = c.in_err-job_of.ensures in
    rw c.from_residual.ensures (no_command words check expand (λ job h. bad job (options_are (map string_bytes words) rest job (rw word at all) h)))
