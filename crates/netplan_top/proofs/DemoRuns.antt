-- How a run of `demo` ends, and what each status means.
use Rattle.std.specs.Prelude.{◌≡◌, ◌≢◌, ℕ, ◌<◌, ◌⊎◌, List}
use Rattle.std.specs.declared.string.String.{String}
use Rattle.std.specs.declared.alloc.Global.{Global}
use Rattle.std.proofs.Common.{sym, subst, ◌∙◌, inl, inr, arith}
use Rattle.netplan_top.specs.declared.words.Command.{Command}
use Rattle.netplan_top.specs.declared.words.Command.TheVariants.{Check, Expand, Solve}
use Rattle.netplan_top.specs.Words.{AskFor, AskForDemo}
use Rattle.netplan_top.specs.Commands.Solve.{IsOutOfBudget, IsOverflow}
use Rattle.netplan_top.specs.Commands.Demo.{SumsUp, TellsPlan, IsDemoAnswer}
use Rattle.netplan_top.specs.Run.{IsRun, Wrote, Writes, IsCut, IsAllowed, Streams}
use Rattle.netplan_top.specs.Steps.Endings.{IsDemoEnd}
use Rattle.netplan_top.proofs.WordFacts.{apart_demo, one_demo}

-- the same of the same number
writes_demo : (claim : ℕ → List ℕ → Type 0) (n m : ℕ) (io : Streams) (text : List ℕ) → n ≡ m → claim n text → Wrote io.written io.written' text → Writes (claim m) io
writes_demo claim n m io text same says wrote = record { text = text; says = subst (λ (k : ℕ). claim k text) same says; wrote = wrote }

abbrev DemoStatus : ℕ → Type 0
DemoStatus status = (status ≡ 0) ⊎ (status ≡ 3) ⊎ (status ≡ 4) ⊎ (status ≡ 8) ⊎ (status ≡ 9)

-- such a run wrote a whole text with its own status, or a part, or nothing
data DemoWay (n : ℕ) (io : Streams) (status : ℕ) : Type 0 where
  whole : (text : List ℕ) → IsDemoAnswer n status text → Wrote io.written io.written' text → DemoWay n io status
  part : status ≡ 8 → IsCut (λ text. (own : ℕ) × IsDemoAnswer n own text) io → DemoWay n io status
  none : status ≡ 9 → io.written' ≡ io.written → DemoWay n io status

demo_way : (n : ℕ) (io : Streams) (status : ℕ) → IsDemoEnd n status io.sink_faults io.sink_faults' io.sure io.written io.written' → DemoWay n io status
demo_way n io status (inl (text, own, answer, inl all)) = DemoWay.whole text (subst (λ (s : ℕ). IsDemoAnswer n s text) (sym all.0) answer) all.1
demo_way n io status (inl (text, own, answer, inr cut)) = DemoWay.part cut.0 (record { text = text; is_allowed = (own, answer); rose = cut.1; part = cut.2; unsure = cut.3 })
demo_way n io status (inr out) = DemoWay.none out.0 out.1

demo_status : (n : ℕ) (io : Streams) (status : ℕ) → DemoWay n io status → DemoStatus status
demo_status n io status (DemoWay.whole text answer wrote) = elim answer.known [ inl a ↦ inl a | inr b ↦ elim b [ inl a ↦ inr (inl a) | inr a ↦ inr (inr (inl a)) ] ]
demo_status n io status (DemoWay.part is it) = inr (inr (inr (inl is)))
demo_status n io status (DemoWay.none is same) = inr (inr (inr (inr is)))

demo_writes : (n : ℕ) (io : Streams) (status : ℕ) → DemoWay n io status → (own : ℕ) (claim : ℕ → List ℕ → Type 0) → status ≡ own → own < 8 → ((text : List ℕ) → IsDemoAnswer n status text → claim n text) → Writes (claim n) io
demo_writes n io status (DemoWay.whole text answer wrote) own claim e low f = record { text = text; says = f text answer; wrote = wrote }
demo_writes n io status (DemoWay.part is it) own claim e low f = absurd (omega arith)
demo_writes n io status (DemoWay.none is same) own claim e low f = absurd (omega arith)

demo_cut : (words : List (String Global)) (n : ℕ) (io : Streams) (status : ℕ) → AskForDemo words n → DemoWay n io status → status ≡ 8 → IsCut (IsAllowed words io) io
demo_cut words n io status asked (DemoWay.whole text answer wrote) e = absurd (elim answer.known [ inl a ↦ omega arith | inr b ↦ elim b [ inl a ↦ omega arith | inr a ↦ omega arith ] ])
demo_cut words n io status asked (DemoWay.part is it) e = record { text = it.text; is_allowed = inr (inr (n, asked, it.is_allowed)); rose = it.rose; part = it.part; unsure = it.unsure }
demo_cut words n io status asked (DemoWay.none is same) e = absurd (omega arith)

demo_nothing : (n : ℕ) (io : Streams) (status : ℕ) → DemoWay n io status → status ≡ 9 → io.written' ≡ io.written
demo_nothing n io status (DemoWay.whole text answer wrote) e = absurd (elim answer.known [ inl a ↦ omega arith | inr b ↦ elim b [ inl a ↦ omega arith | inr a ↦ omega arith ] ])
demo_nothing n io status (DemoWay.part is it) e = absurd (omega arith)
demo_nothing n io status (DemoWay.none is same) e = same

other_status : (status own : ℕ) → DemoStatus status → status ≡ own → own ≢ 0 → own ≢ 3 → own ≢ 4 → own ≢ 8 → own ≢ 9 → ⊥
other_status status own ends e a b c d f =
    elim ends [
      | inl is ↦ a (sym e ∙ is)
      | inr more ↦ elim more [
        | inl is ↦ b (sym e ∙ is)
        | inr more ↦ elim more [ inl is ↦ c (sym e ∙ is) | inr more ↦ elim more [ inl is ↦ d (sym e ∙ is) | inr is ↦ f (sym e ∙ is) ] ]
      ]
    ]

-- a run of words that ask for the demo
pub demo_runs : (words : List (String Global)) (n : ℕ) (io : Streams) (status : ℕ) → AskForDemo words n → IsDemoEnd n status io.sink_faults io.sink_faults' io.sure io.written io.written' → IsRun words io status
demo_runs words n io status asked ended =
    let way = demo_way n io status ended in
    let ends = demo_status n io status way in
    let other : (own : ℕ) → own ≢ 0 → own ≢ 3 → own ≢ 4 → own ≢ 8 → own ≢ 9 → status ≡ own → ⊥ = λ own a b c d f e. other_status status own ends e a b c d f in
    let apart : (command : Command) → AskFor words command → ⊥ = λ command named. apart_demo words n command asked named in
    record {
      no_command = λ none. absurd (none (inr (n, asked)));
      usage = λ e. absurd (other 6 (λ h. omega arith) (λ h. omega arith) (λ h. omega arith) (λ h. omega arith) (λ h. omega arith) e);
      optimal = λ job named e. absurd (apart (Solve job) named);
      infeasible = λ e. absurd (other 1 (λ h. omega arith) (λ h. omega arith) (λ h. omega arith) (λ h. omega arith) (λ h. omega arith) e);
      unbounded = λ e. absurd (other 2 (λ h. omega arith) (λ h. omega arith) (λ h. omega arith) (λ h. omega arith) (λ h. omega arith) e);
      out_of_budget = λ e. inr (n, asked, demo_writes n io status way 3 (TellsPlan IsOutOfBudget) e (omega arith) (λ text answer. answer.out_of_budget e));
      not_solved = λ job named e. absurd (apart (Solve job) named);
      completes = λ job named able. absurd (apart (Solve job) named);
      accepted = λ named e. absurd (apart Check named);
      rejected = λ e. absurd (other 10 (λ h. omega arith) (λ h. omega arith) (λ h. omega arith) (λ h. omega arith) (λ h. omega arith) e);
      refused = λ named e. absurd (apart Check named);
      overflowed = λ e. inr (inr (n, asked, demo_writes n io status way 4 (TellsPlan IsOverflow) e (omega arith) (λ text answer. answer.overflows e)));
      expanded = λ named e. absurd (apart Expand named);
      not_expanded = λ named e. absurd (apart Expand named);
      summed_up = λ m own e. let done = demo_writes n io status way 0 SumsUp e (omega arith) (λ text answer. answer.optimal e) in writes_demo SumsUp n m io done.text (one_demo words n m asked own) done.says done.wrote;
      demo_ends = λ m own. ends;
      unread_rest = λ e. absurd (other 7 (λ h. omega arith) (λ h. omega arith) (λ h. omega arith) (λ h. omega arith) (λ h. omega arith) e);
      cut = λ e. demo_cut words n io status asked way e;
      no_memory = λ e. (inr (n, asked), demo_nothing n io status way e);
      known = elim ends [
        | inl is ↦ omega arith
        | inr more ↦ elim more [ inl is ↦ omega arith | inr more ↦ elim more [ inl is ↦ omega arith | inr more ↦ elim more [ inl is ↦ omega arith | inr is ↦ omega arith ] ] ]
      ];
    }
