-- How a run of a command ends, and what each status means.
use Rattle.std.specs.Prelude.{◌≡◌, ◌≢◌, ℕ, zero, suc, ◌+◌, ◌≤◌, ◌<◌, ◌⊎◌, Option, Some, None, List, length, ◌++◌}
use Rattle.std.specs.Io.KnownBytes.{prepend_known, IsAtEnd}
use Rattle.std.specs.declared.string.String.{String}
use Rattle.std.specs.declared.alloc.Global.{Global}
use Rattle.np_io.specs.Faults.{Rose}
use Rattle.np_io.specs.Input.{TookExactly}
use Rattle.np_model.specs.declared.plan.Plan.{Plan}
use Rattle.np_model.specs.declared.scheme.Scheme.{Scheme}
use Rattle.std.proofs.Common.{sym, ap, subst, ◌∙◌, inl, inr, arith, refl, append-nil}
use Rattle.std.proofs.lemmas.List.{length-append}
use Rattle.net_csv.specs.declared.refused.Tail.TheVariants as tail
use Rattle.netplan_top.specs.declared.words.Job.{Job}
use Rattle.netplan_top.specs.declared.words.Command.{Command}
use Rattle.netplan_top.specs.declared.words.Command.TheVariants.{Check, Expand, Solve}
use Rattle.netplan_top.specs.Words.{AskFor, IsCommand, usage_text}
use Rattle.netplan_top.specs.Commands.Check.{Accepts, Overflows, Rejects, Says, IsPlanFaulty, IsCheckAnswer}
use Rattle.netplan_top.specs.Commands.Expand.{Expands, IsExpandAnswer, IsNetwork}
use Rattle.netplan_top.specs.Commands.Solve.{Solves, IsOptimal, IsInfeasible, IsUnbounded, IsOutOfBudget, IsOverflow, IsSolveAnswer}
use Rattle.netplan_top.specs.Commands.Faults.{IsFaulty}
use Rattle.netplan_top.specs.Commands.Answers.{AnswerOf, longest}
use Rattle.netplan_top.specs.Run.{IsRun, IsWholeInput, IsTooLong, Gives, GivesTooLong, GivesPlan, MeetsNoFault, IsCut, IsSomeText, IsAllowed, Streams}
use Rattle.netplan_top.specs.Steps.Endings.{IsPrinted, Ending}
use Rattle.netplan_top.proofs.WordFacts.{apart, apart_check, apart_expand, same_job, apart_demo}

-- ---- how a run ends

pub ends_answered : (command : Command) (io : Streams) (status result : ℕ) (input text : List ℕ) → IsWholeInput io.left io.left' input → AnswerOf command input status text
    → IsPrinted text status result io.sink_faults io.sink_faults' io.sure io.written io.written' → Ending command io result
ends_answered command io status result input text whole answer printed = elim printed [
  | inl all ↦ Ending.answered input text whole (subst (λ (s : ℕ). AnswerOf command input s text) (sym all.0) answer) all.1
  | inr part ↦ Ending.cut part.0 (record { text = text; is_allowed = inl (input, status, whole, answer); rose = part.1; part = part.2; unsure = part.3 })
]

pub ends_too_long : (command : Command) (io : Streams) (result : ℕ) (text : List ℕ) → IsTooLong io.left io.left' text
    → IsPrinted text 5 result io.sink_faults io.sink_faults' io.sure io.written io.written' → Ending command io result
ends_too_long command io result text long printed = elim printed [
  | inl all ↦ Ending.too_long text all.0 long all.1
  | inr part ↦ Ending.cut part.0 (record { text = text; is_allowed = inr long; rose = part.1; part = part.2; unsure = part.3 })
]

-- ---- what each status means

-- the statuses of a run that wrote an answer which is no fault
abbrev IsOfAnswer : ℕ → Type 0
IsOfAnswer own = (own ≢ 5) × (own ≢ 7) × (own ≢ 8) × (own ≢ 9)

module _ (command : Command) (io : Streams) (status : ℕ) where
  gives : Ending command io status → (own : ℕ) (claim : List ℕ → List ℕ → Type 0) → status ≡ own → IsOfAnswer own
      → ((input text : List ℕ) → AnswerOf command input status text → claim input text) → Gives claim io
  gives (Ending.answered input text whole answer wrote) own claim e apart f = record { input = input; text = text; whole = whole; says = f input text answer; wrote = wrote }
  gives (Ending.too_long text is long wrote) own claim e apart f = absurd (apart.0 (sym e ∙ is))
  gives (Ending.cut is it) own claim e apart f = absurd (apart.2 (sym e ∙ is))
  gives (Ending.unread is rose same) own claim e apart f = absurd (apart.1 (sym e ∙ is))
  gives (Ending.no_memory is same) own claim e apart f = absurd (apart.3 (sym e ∙ is))

  -- no answer of the command has this status
  never : Ending command io status → (own : ℕ) → status ≡ own → IsOfAnswer own → ((input text : List ℕ) → AnswerOf command input status text → ⊥) → ⊥
  never ends own e apart f = let given = gives ends own (λ _ _. ⊥) e apart f in given.says

  -- of a fault, or of a text that is too long
  gives_fault : Ending command io status → (claim : List ℕ → List ℕ → Type 0) → status ≡ 5 → ((input text : List ℕ) → AnswerOf command input status text → claim input text)
      → Gives claim io ⊎ GivesTooLong io
  gives_fault (Ending.answered input text whole answer wrote) claim e f = inl (record { input = input; text = text; whole = whole; says = f input text answer; wrote = wrote })
  gives_fault (Ending.too_long text is long wrote) claim e f = inr (record { text = text; too_long = long; wrote = wrote })
  gives_fault (Ending.cut is it) claim e f = absurd (omega arith)
  gives_fault (Ending.unread is rose same) claim e f = absurd (omega arith)
  gives_fault (Ending.no_memory is same) claim e f = absurd (omega arith)

-- `check` and `expand` have these statuses alone
check_statuses : (input : List ℕ) (status : ℕ) (text : List ℕ) → IsCheckAnswer input status text → (status ≡ 0) ⊎ (4 ≤ status)
check_statuses input status text answer = elim answer.known [
  | inl a ↦ inl a
  | inr b ↦ elim b [ inl a ↦ inr (omega arith) | inr c ↦ elim c [ inl a ↦ inr (omega arith) | inr a ↦ inr (omega arith) ] ]
]

expand_statuses : (input : List ℕ) (status : ℕ) (text : List ℕ) → IsExpandAnswer input status text → (status ≡ 0) ⊎ (status ≡ 5)
expand_statuses input status text answer = answer.known

-- an answer has one of these statuses
statuses : (command : Command) (input : List ℕ) (status : ℕ) (text : List ℕ) → AnswerOf command input status text → (status ≤ 5) ⊎ (status ≡ 10)
statuses (Solve job) input status text answer = inl answer.known
statuses Check input status text answer = elim answer.known [
  | inl a ↦ inl (omega arith)
  | inr b ↦ elim b [ inl a ↦ inl (omega arith) | inr c ↦ elim c [ inl a ↦ inl (omega arith) | inr a ↦ inr a ] ]
]
statuses Expand input status text answer = elim answer.known [ inl a ↦ inl (omega arith) | inr a ↦ inl (omega arith) ]

module _ (command : Command) (io : Streams) (status : ℕ) where
  other : (own : ℕ) (input text : List ℕ) {claim : Type 0} → AnswerOf command input status text → status ≡ own → 5 < own → own < 10 → claim
  other own input text answer e low high = absurd (elim (statuses command input status text answer) [ inl few ↦ omega arith | inr is ↦ omega arith ])

  pub known : Ending command io status → status ≤ 10
  known (Ending.answered input text whole answer wrote) = elim (statuses command input status text answer) [ inl few ↦ omega arith | inr is ↦ omega arith ]
  known (Ending.too_long text is long wrote) = omega arith
  known (Ending.cut is it) = omega arith
  known (Ending.unread is rose same) = omega arith
  known (Ending.no_memory is same) = omega arith

  pub no_usage : Ending command io status → status ≡ 6 → ⊥
  no_usage (Ending.answered input text whole answer wrote) e = other 6 input text answer e (omega arith) (omega arith)
  no_usage (Ending.too_long text is long wrote) e = omega arith
  no_usage (Ending.cut is it) e = omega arith
  no_usage (Ending.unread is rose same) e = omega arith
  no_usage (Ending.no_memory is same) e = omega arith

  pub source_failed : Ending command io status → status ≡ 7 → Rose io.source_faults io.source_faults' × (io.written' ≡ io.written)
  source_failed (Ending.answered input text whole answer wrote) e = other 7 input text answer e (omega arith) (omega arith)
  source_failed (Ending.too_long text is long wrote) e = absurd (omega arith)
  source_failed (Ending.cut is it) e = absurd (omega arith)
  source_failed (Ending.unread is rose same) e = (rose, same)
  source_failed (Ending.no_memory is same) e = absurd (omega arith)

  pub out_of_memory : Ending command io status → status ≡ 9 → io.written' ≡ io.written
  out_of_memory (Ending.answered input text whole answer wrote) e = other 9 input text answer e (omega arith) (omega arith)
  out_of_memory (Ending.too_long text is long wrote) e = absurd (omega arith)
  out_of_memory (Ending.cut is it) e = absurd (omega arith)
  out_of_memory (Ending.unread is rose same) e = absurd (omega arith)
  out_of_memory (Ending.no_memory is same) e = same

  sink_failed : Ending command io status → status ≡ 8 → IsCut (IsSomeText command io) io
  sink_failed (Ending.answered input text whole answer wrote) e = other 8 input text answer e (omega arith) (omega arith)
  sink_failed (Ending.too_long text is long wrote) e = absurd (omega arith)
  sink_failed (Ending.cut is it) e = it
  sink_failed (Ending.unread is rose same) e = absurd (omega arith)
  sink_failed (Ending.no_memory is same) e = absurd (omega arith)

  pub cut : (words : List (String Global)) → AskFor words command → Ending command io status → status ≡ 8
      → IsCut (IsAllowed words io) io
  cut words named ends e =
      let it = sink_failed ends e in
      record { text = it.text; is_allowed = inr (inl (command, named, it.is_allowed)); rose = it.rose; part = it.part; unsure = it.unsure }

-- ---- the whole input

-- the bytes that a source told are those that were read to its end
same_input : (before after : Option (List ℕ)) (input own : List ℕ) → before ≡ Some input → before ≡ prepend_known own after → IsAtEnd after → own ≡ input
same_input before None input own a b end = absurd (cc (sym a ∙ b))
same_input before (Some rest) input own a b end =
    let all : ◌≡◌ {A = Option (List ℕ)} (Some input) (Some (own ++ rest)) = sym a ∙ b in
    let parts : input ≡ own ++ rest = cc all in
    sym (parts ∙ ap (λ (r : List ℕ). own ++ r) end ∙ append-nil own)

long_input : (before after : Option (List ℕ)) (input : List ℕ) (count : ℕ) → before ≡ Some input → TookExactly count before after → count ≤ length input
long_input before None input count a took = absurd (cc (sym a ∙ took.2))
long_input before (Some rest) input count a took =
    let all : ◌≡◌ {A = Option (List ℕ)} (Some input) (Some (took.0 ++ rest)) = sym a ∙ took.2 in
    let parts : input ≡ took.0 ++ rest = cc all in
    let size : length input ≡ length took.0 + length rest = ap (λ (l : List ℕ). length l) parts ∙ length-append took.0 rest in
    let own = took.1 in
    omega arith

-- ---- by the command that the words name

-- `solve` ended with a plan
plan_of : (words : List (String Global)) (command : Command) (io : Streams) (status : ℕ) → AskFor words command → Ending command io status
    → (own : ℕ) (claim : Job → Scheme → Plan → Type 0) → status ≡ own → 0 < own → own < 4
    → ((job : Job) (input text : List ℕ) → IsSolveAnswer job input status text → Solves claim job input text) → GivesPlan claim words io
plan_of words (Solve job) io status named ends own claim e low high f =
    (job, named, gives (Solve job) io status ends own (Solves claim job) e ((λ h. omega arith), (λ h. omega arith), (λ h. omega arith), (λ h. omega arith)) (f job))
plan_of words Check io status named ends own claim e low high f =
    absurd (never Check io status ends own e ((λ h. omega arith), (λ h. omega arith), (λ h. omega arith), (λ h. omega arith))
    (λ input text answer. elim (check_statuses input status text answer) [ inl is ↦ omega arith | inr is ↦ omega arith ]))
plan_of words Expand io status named ends own claim e low high f =
    absurd (never Expand io status ends own e ((λ h. omega arith), (λ h. omega arith), (λ h. omega arith), (λ h. omega arith))
    (λ input text answer. elim (expand_statuses input status text answer) [ inl is ↦ omega arith | inr is ↦ omega arith ]))

optimal : (words : List (String Global)) (command : Command) (io : Streams) (status : ℕ) → AskFor words command → Ending command io status → (job : Job) → AskFor words (Solve job) → status ≡ 0
    → Gives (Solves IsOptimal job) io
optimal words command io status named ends job asked e =
    gives (Solve job) io status (subst (λ (c : Command). Ending c io status) (same_job words command job named asked) ends) 0 (Solves IsOptimal job) e
    ((λ h. omega arith), (λ h. omega arith), (λ h. omega arith), (λ h. omega arith)) (λ input text answer. answer.optimal e)

not_solved : (words : List (String Global)) (command : Command) (io : Streams) (status : ℕ) → AskFor words command → Ending command io status → (job : Job) → AskFor words (Solve job) → status ≡ 5
    → Gives (IsFaulty tail.Nothing) io ⊎ GivesTooLong io
not_solved words command io status named ends job asked e =
    gives_fault (Solve job) io status (subst (λ (c : Command). Ending c io status) (same_job words command job named asked) ends) (IsFaulty tail.Nothing) e
    (λ input text answer. answer.refuses e)

no_fault_of : (input own text : List ℕ) (scheme : Scheme) → own ≡ input → IsNetwork input scheme → IsFaulty tail.Nothing own text → ⊥
no_fault_of input own text scheme e network faulty =
    let here = subst (λ (bytes : List ℕ). IsFaulty tail.Nothing bytes text) e faulty in
    cc (sym network.network ∙ here.fault)

-- a number is at most 4, or more
pub below : (n : ℕ) → (n ≤ 4) ⊎ (5 ≤ n)
below zero = inl (omega arith)
below (suc zero) = inl (omega arith)
below (suc (suc zero)) = inl (omega arith)
below (suc (suc (suc zero))) = inl (omega arith)
below (suc (suc (suc (suc zero)))) = inl (omega arith)
below (suc (suc (suc (suc (suc n))))) = inr (omega arith)

completes_job : (job : Job) (io : Streams) (status : ℕ) → Ending (Solve job) io status → MeetsNoFault io → (status ≤ 4) ⊎ (status ≡ 9)
completes_job job io status (Ending.answered input text whole answer wrote) able =
    let few = answer.known in
    elim (below status) [
      | inl less ↦ inl less
      | inr more ↦ absurd (no_fault_of able.input input text able.scheme (same_input io.left io.left' able.input input able.told whole.taken whole.ended) able.network (answer.refuses (omega arith)))
    ]
completes_job job io status (Ending.too_long text is long wrote) able =
    let most = long_input io.left io.left' able.input (longest + 1) able.told long.taken in
    let short = able.short in
    absurd (omega arith)
completes_job job io status (Ending.cut is it) able = absurd (able.sink_held it.rose)
completes_job job io status (Ending.unread is rose same) able = absurd (able.source_held rose)
completes_job job io status (Ending.no_memory is same) able = inr is

completes : (words : List (String Global)) (command : Command) (io : Streams) (status : ℕ) → AskFor words command → Ending command io status → (job : Job) → AskFor words (Solve job) → MeetsNoFault io
    → (status ≤ 4) ⊎ (status ≡ 9)
completes words command io status named ends job asked able =
    completes_job job io status (subst (λ (c : Command). Ending c io status) (same_job words command job named asked) ends) able

accepted : (words : List (String Global)) (command : Command) (io : Streams) (status : ℕ) → AskFor words command → Ending command io status → AskFor words Check → status ≡ 0
    → Gives (Says Accepts) io
accepted words (Solve job) io status named ends check e = absurd (apart_check words job named check)
accepted words Check io status named ends check e =
    gives Check io status ends 0 (Says Accepts) e ((λ h. omega arith), (λ h. omega arith), (λ h. omega arith), (λ h. omega arith)) (λ input text answer. answer.accepts e)
accepted words Expand io status named ends check e = absurd (apart words check named)

expanded : (words : List (String Global)) (command : Command) (io : Streams) (status : ℕ) → AskFor words command → Ending command io status → AskFor words Expand → status ≡ 0
    → Gives Expands io
expanded words (Solve job) io status named ends expand e = absurd (apart_expand words job named expand)
expanded words Check io status named ends expand e = absurd (apart words named expand)
expanded words Expand io status named ends expand e =
    gives Expand io status ends 0 Expands e ((λ h. omega arith), (λ h. omega arith), (λ h. omega arith), (λ h. omega arith)) (λ input text answer. answer.expands e)

overflowed : (words : List (String Global)) (command : Command) (io : Streams) (status : ℕ) → AskFor words command → Ending command io status → status ≡ 4
    → (AskFor words Check × Gives (Says Overflows) io) ⊎ GivesPlan IsOverflow words io
overflowed words (Solve job) io status named ends e =
    inr (job, named, gives (Solve job) io status ends 4 (Solves IsOverflow job) e ((λ h. omega arith), (λ h. omega arith), (λ h. omega arith), (λ h. omega arith)) (λ input text answer. answer.overflows e))
overflowed words Check io status named ends e =
    inl (named, gives Check io status ends 4 (Says Overflows) e ((λ h. omega arith), (λ h. omega arith), (λ h. omega arith), (λ h. omega arith)) (λ input text answer. answer.overflows e))
overflowed words Expand io status named ends e =
    absurd (never Expand io status ends 4 e ((λ h. omega arith), (λ h. omega arith), (λ h. omega arith), (λ h. omega arith))
    (λ input text answer. elim (expand_statuses input status text answer) [ inl is ↦ omega arith | inr is ↦ omega arith ]))

rejected : (words : List (String Global)) (command : Command) (io : Streams) (status : ℕ) → AskFor words command → Ending command io status → status ≡ 10
    → AskFor words Check × Gives (Says Rejects) io
rejected words (Solve job) io status named ends e =
    absurd (never (Solve job) io status ends 10 e ((λ h. omega arith), (λ h. omega arith), (λ h. omega arith), (λ h. omega arith)) (λ input text answer. let few = answer.known in omega arith))
rejected words Check io status named ends e =
    (named, gives Check io status ends 10 (Says Rejects) e ((λ h. omega arith), (λ h. omega arith), (λ h. omega arith), (λ h. omega arith)) (λ input text answer. answer.rejects e))
rejected words Expand io status named ends e =
    absurd (never Expand io status ends 10 e ((λ h. omega arith), (λ h. omega arith), (λ h. omega arith), (λ h. omega arith))
    (λ input text answer. elim (expand_statuses input status text answer) [ inl is ↦ omega arith | inr is ↦ omega arith ]))

one_of : {io : Streams} → Gives (λ input text. IsFaulty tail.Plan input text ⊎ IsPlanFaulty input text) io → Gives (IsFaulty tail.Plan) io ⊎ Gives IsPlanFaulty io
one_of given = elim given.says [
  | inl faulty ↦ inl (record { input = given.input; text = given.text; whole = given.whole; says = faulty; wrote = given.wrote })
  | inr plan ↦ inr (record { input = given.input; text = given.text; whole = given.whole; says = plan; wrote = given.wrote })
]

refused : (words : List (String Global)) (command : Command) (io : Streams) (status : ℕ) → AskFor words command → Ending command io status → AskFor words Check → status ≡ 5
    → Gives (IsFaulty tail.Plan) io ⊎ Gives IsPlanFaulty io ⊎ GivesTooLong io
refused words (Solve job) io status named ends check e = absurd (apart_check words job named check)
refused words Check io status named ends check e =
    elim (gives_fault Check io status ends (λ input text. IsFaulty tail.Plan input text ⊎ IsPlanFaulty input text) e (λ input text answer. answer.refuses e)) [
      | inl given ↦ elim (one_of given) [ inl faulty ↦ inl faulty | inr plan ↦ inr (inl plan) ]
      | inr long ↦ inr (inr long)
    ]
refused words Expand io status named ends check e = absurd (apart words check named)

not_expanded : (words : List (String Global)) (command : Command) (io : Streams) (status : ℕ) → AskFor words command → Ending command io status → AskFor words Expand → status ≡ 5
    → Gives (IsFaulty tail.Nothing) io ⊎ GivesTooLong io
not_expanded words (Solve job) io status named ends expand e = absurd (apart_expand words job named expand)
not_expanded words Check io status named ends expand e = absurd (apart words named expand)
not_expanded words Expand io status named ends expand e = gives_fault Expand io status ends (IsFaulty tail.Nothing) e (λ input text answer. answer.refuses e)

-- ---- a run

-- of words that name a command
pub command_runs : (words : List (String Global)) (command : Command) (io : Streams) (status : ℕ) → AskFor words command → Ending command io status → IsRun words io status
command_runs words command io status named ends = record {
  no_command = λ none. absurd (none (inl (command, named)));
  usage = λ e. absurd (no_usage command io status ends e);
  optimal = optimal words command io status named ends;
  infeasible = λ e. plan_of words command io status named ends 1 IsInfeasible e (omega arith) (omega arith) (λ job input text answer. answer.infeasible e);
  unbounded = λ e. plan_of words command io status named ends 2 IsUnbounded e (omega arith) (omega arith) (λ job input text answer. answer.unbounded e);
  out_of_budget = λ e. inl (plan_of words command io status named ends 3 IsOutOfBudget e (omega arith) (omega arith) (λ job input text answer. answer.out_of_budget e));
  not_solved = not_solved words command io status named ends;
  completes = completes words command io status named ends;
  accepted = accepted words command io status named ends;
  rejected = rejected words command io status named ends;
  refused = refused words command io status named ends;
  overflowed = λ e. elim (overflowed words command io status named ends e) [ inl walk ↦ inl walk | inr plan ↦ inr (inl plan) ];
  expanded = expanded words command io status named ends;
  not_expanded = not_expanded words command io status named ends;
  summed_up = λ n demo e. absurd (apart_demo words n command demo named);
  demo_ends = λ n demo. absurd (apart_demo words n command demo named);
  unread_rest = source_failed command io status ends;
  cut = cut command io status words named ends;
  no_memory = λ e. (inl (command, named), out_of_memory command io status ends e);
  known = known command io status ends;
}

-- of words that name none: the usage text was written, or the sink failed
pub usage_runs : (words : List (String Global)) (io : Streams) (status : ℕ) → ¬ (IsCommand words) → IsPrinted usage_text 6 status io.sink_faults io.sink_faults' io.sure io.written io.written' → IsRun words io status
usage_runs words io status none printed =
    let ended : (status ≡ 6) ⊎ (status ≡ 8) = elim printed [ inl all ↦ inl all.0 | inr part ↦ inr part.0 ] in
    let other : (own : ℕ) → own ≢ 6 → own ≢ 8 → status ≡ own → ⊥ = λ own a b e. elim ended [ inl is ↦ a (sym e ∙ is) | inr is ↦ b (sym e ∙ is) ] in
    record {
      no_command = λ _. ended;
      usage = λ e. (none, elim printed [ inl all ↦ all.1 | inr part ↦ absurd (let is = part.0 in omega arith) ]);
      optimal = λ job named e. absurd (none (inl (Solve job, named)));
      infeasible = λ e. absurd (other 1 (λ h. omega arith) (λ h. omega arith) e);
      unbounded = λ e. absurd (other 2 (λ h. omega arith) (λ h. omega arith) e);
      out_of_budget = λ e. absurd (other 3 (λ h. omega arith) (λ h. omega arith) e);
      not_solved = λ job named e. absurd (none (inl (Solve job, named)));
      completes = λ job named able. absurd (none (inl (Solve job, named)));
      accepted = λ named e. absurd (none (inl (Check, named)));
      rejected = λ e. absurd (other 10 (λ h. omega arith) (λ h. omega arith) e);
      refused = λ named e. absurd (none (inl (Check, named)));
      overflowed = λ e. absurd (other 4 (λ h. omega arith) (λ h. omega arith) e);
      expanded = λ named e. absurd (none (inl (Expand, named)));
      not_expanded = λ named e. absurd (none (inl (Expand, named)));
      summed_up = λ n demo e. absurd (none (inr (n, demo)));
      demo_ends = λ n demo. absurd (none (inr (n, demo)));
      unread_rest = λ e. absurd (other 7 (λ h. omega arith) (λ h. omega arith) e);
      cut = λ e. elim printed [
        | inl all ↦ absurd (let is = all.0 in omega arith)
        | inr part ↦ record { text = usage_text; is_allowed = inl (none, refl); rose = part.1; part = part.2; unsure = part.3 }
      ];
      no_memory = λ e. absurd (other 9 (λ h. omega arith) (λ h. omega arith) e);
      known = elim ended [ inl is ↦ omega arith | inr is ↦ omega arith ];
    }
