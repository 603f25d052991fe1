-- The options of `solve`, one after the other.
use Rattle.std.specs.Prelude.{◌≡◌, ℕ, ◌≤◌, ◌<◌, ◌-◌, ◌==◌, zero, suc, is_some, length, map, take, drop, Bool, true, false, Option, Some, None, List, [], ◌∷◌, codes, unwrap_or, MatchOption}
use Rattle.std.specs.List.{flat_map}
use Rattle.std.proofs.Common.{refl, sym, subst, ap, ◌∙◌, arith, get_or, take_all}
use Rattle.np_frac.specs.Text.{number}
use Rattle.netplan_top.specs.declared.words.Job.{Job}
use Rattle.netplan_top.specs.declared.words.Given.{Given}
use Rattle.netplan_top.specs.Words.{Choice, choice_words, workers_in, budgets_in, logs_in, IsCountTo, IsGiven, IsAsked, AreChoicesOf, AskToSolve}
use Rattle.netplan_top.specs.Steps.Options.{IsStillGiven, IsStillAsked, AreTheRestOf}

-- ---- the first words

pub not_empty : (n : ℕ) → false ≡ (n == 0) → 0 < n
not_empty zero e = absurd (cc e)
not_empty (suc n) e = omega arith

pub first_of : {A B : Type 0} (f : A → B) (xs : List A) (x : A) → 0 < length xs → x ≡ get_or xs 0 x → map f xs ≡ f x ∷ map f (take (length xs - 1) (drop 1 xs))
first_of f [] x h e = absurd (omega arith)
first_of f (y ∷ ys) x h e =
    let rest : take (length (y ∷ ys) - 1) ys ≡ ys = take_all (length (y ∷ ys) - 1) ys (omega arith) in
    ap (λ z. f z ∷ map f ys) (sym e) ∙ ap (λ (l : List _). f x ∷ map f l) (sym rest)

pub second_of : {A B : Type 0} (f : A → B) (xs : List A) (x y : A) → 1 < length xs → x ≡ get_or xs 0 x → y ≡ get_or xs 1 y → map f xs ≡ f x ∷ f y ∷ map f (take (length xs - 2) (drop 2 xs))
second_of f [] x y h e g = absurd (omega arith)
second_of f (a ∷ []) x y h e g = absurd (omega arith)
second_of f (a ∷ b ∷ xs) x y h e g =
    let rest : take (length (a ∷ b ∷ xs) - 2) xs ≡ xs = take_all (length (a ∷ b ∷ xs) - 2) xs (omega arith) in
    ap (λ z. f z ∷ f b ∷ map f xs) (sym e) ∙ ap (λ z. f x ∷ f z ∷ map f xs) (sym g) ∙ ap (λ (l : List _). f x ∷ f y ∷ map f l) (sym rest)

pub only_of : {A B : Type 0} (f : A → B) (xs : List A) (x : A) → length xs ≡ 1 → x ≡ get_or xs 0 x → map f xs ≡ f x ∷ []
only_of f [] x h e = absurd (omega arith)
only_of f (y ∷ []) x h e = ap (λ z. f z ∷ []) (sym e)
only_of f (y ∷ z ∷ zs) x h e = absurd (omega arith)

-- ---- one number

pub none_is_none : (x : Option ℕ) → true ≡ is_some x → x ≡ None → ⊥
none_is_none None e f = absurd (cc e)
none_is_none (Some m) e f = cc f

still_default : (x : Option ℕ) (most otherwise : ℕ) → IsStillGiven x most otherwise [] (unwrap_or x otherwise)
still_default None most otherwise = refl
still_default (Some m) most otherwise = refl

took : (x : Option ℕ) (most otherwise : ℕ) (digits : List ℕ) (texts : List (List ℕ)) (n : ℕ) → IsStillGiven x most otherwise (digits ∷ texts) n
    → (x ≡ None) × IsCountTo most digits × IsStillGiven (Some (number digits)) most otherwise texts n
took None most otherwise digits [] n h = (refl, h.0, h.1)
took None most otherwise digits (t ∷ ts) n h = absurd h
took (Some m) most otherwise digits texts n h = absurd h

give_back : (x : Option ℕ) (most otherwise : ℕ) (digits : List ℕ) (texts : List (List ℕ)) (n : ℕ) → x ≡ None → IsCountTo most digits → IsStillGiven (Some (number digits)) most otherwise texts n
    → IsStillGiven x most otherwise (digits ∷ texts) n
give_back None most otherwise digits [] n e c h = (c, h)
give_back None most otherwise digits (t ∷ ts) n e c h = absurd h
give_back (Some m) most otherwise digits texts n e c h = absurd (cc e)

-- ---- the log

still_log : (given : Bool) → IsStillAsked given [] given
still_log true = refl
still_log false = refl

took_log : (given : Bool) (one : Choice) (logs : List Choice) (asked : Bool) → IsStillAsked given (one ∷ logs) asked → (given ≡ false) × IsStillAsked true logs asked
took_log false one [] asked h = (refl, h)
took_log false one (x ∷ xs) asked h = absurd h
took_log true one logs asked h = absurd h

give_log_back : (given : Bool) (one : Choice) (logs : List Choice) (asked : Bool) → given ≡ false → IsStillAsked true logs asked → IsStillAsked given (one ∷ logs) asked
give_log_back false one [] asked e h = h
give_log_back false one (x ∷ xs) asked e h = absurd h
give_log_back true one logs asked e h = absurd (cc e)

-- ---- the first option that words are

log_first : (choices : List Choice) (rest : List (List ℕ)) → codes "--log" ∷ rest ≡ flat_map choice_words choices
    → (more : List Choice) × (choices ≡ Choice.log ∷ more) × (rest ≡ flat_map choice_words more)
log_first [] rest e = absurd (cc e)
log_first (Choice.workers digits ∷ more) rest e = absurd (cc e)
log_first (Choice.budget digits ∷ more) rest e = absurd (cc e)
log_first (Choice.log ∷ more) rest e = (more, refl, cc e)

workers_first : (choices : List Choice) (digits : List ℕ) (rest : List (List ℕ)) → codes "--workers" ∷ digits ∷ rest ≡ flat_map choice_words choices
    → (more : List Choice) × (choices ≡ Choice.workers digits ∷ more) × (rest ≡ flat_map choice_words more)
workers_first [] digits rest e = absurd (cc e)
workers_first (Choice.workers own ∷ more) digits rest e = (more, ap (λ (ds : List ℕ). Choice.workers ds ∷ more) (cc e), cc e)
workers_first (Choice.budget own ∷ more) digits rest e = absurd (cc e)
workers_first (Choice.log ∷ more) digits rest e = absurd (cc e)

budget_first : (choices : List Choice) (digits : List ℕ) (rest : List (List ℕ)) → codes "--budget" ∷ digits ∷ rest ≡ flat_map choice_words choices
    → (more : List Choice) × (choices ≡ Choice.budget digits ∷ more) × (rest ≡ flat_map choice_words more)
budget_first [] digits rest e = absurd (cc e)
budget_first (Choice.workers own ∷ more) digits rest e = absurd (cc e)
budget_first (Choice.budget own ∷ more) digits rest e = (more, ap (λ (ds : List ℕ). Choice.budget ds ∷ more) (cc e), cc e)
budget_first (Choice.log ∷ more) digits rest e = absurd (cc e)

-- ---- one option more

-- what makes a job of these words and options is what makes it of those
pub record IsStep (words : List (List ℕ)) (given : Given) (rest : List (List ℕ)) (next : Given) : Type 0 where
  pub onwards : (job : Job) → AreTheRestOf words given job → AreTheRestOf rest next job
  pub back : (job : Job) → AreTheRestOf rest next job → AreTheRestOf words given job

-- with these options given, the words that are left are these options more
abbrev Left : List Choice → Given → Job → Type 0
Left choices given job =
    IsStillGiven given.workers 16 4 (workers_in choices) job.workers × IsStillGiven given.budget 1000000 200000 (budgets_in choices) job.budget
    × IsStillAsked given.log (logs_in choices) job.log

left_of : (words : List (List ℕ)) (given : Given) (job : Job) (h : AreTheRestOf words given job) (choices : List Choice) → h.choices ≡ choices → Left choices given job
left_of words given job h choices e = subst (λ (cs : List Choice). Left cs given job) e (h.workers, h.budget, h.log)

pub log_step : (words rest : List (List ℕ)) (given : Given) → words ≡ codes "--log" ∷ rest → given.log ≡ false
    → IsStep words given rest (record { workers = given.workers; budget = given.budget; log = true })
log_step words rest given e untaken = record {
  onwards = λ job h.
      let first = log_first h.choices rest (sym e ∙ h.words_are) in
      let left = left_of words given job h (Choice.log ∷ first.0) first.1 in
      record { choices = first.0; words_are = first.2; workers = left.0; budget = left.1; log = (took_log given.log Choice.log (logs_in first.0) job.log left.2).1 };
  back = λ job h. record {
    choices = Choice.log ∷ h.choices;
    words_are = e ∙ ap (λ (ws : List (List ℕ)). codes "--log" ∷ ws) h.words_are;
    workers = h.workers;
    budget = h.budget;
    log = give_log_back given.log Choice.log (logs_in h.choices) job.log untaken h.log;
  };
}

pub workers_step : (words rest : List (List ℕ)) (digits : List ℕ) (given : Given) (n : ℕ) → words ≡ codes "--workers" ∷ digits ∷ rest → given.workers ≡ None → IsCountTo 16 digits → n ≡ number digits
    → IsStep words given rest (record { workers = Some n; budget = given.budget; log = given.log })
workers_step words rest digits given n e untaken count same = record {
  onwards = λ job h.
      let first = workers_first h.choices digits rest (sym e ∙ h.words_are) in
      let left = left_of words given job h (Choice.workers digits ∷ first.0) first.1 in
      let taken = took given.workers 16 4 digits (workers_in first.0) job.workers left.0 in
      record {
        choices = first.0;
        words_are = first.2;
        workers = subst (λ (m : ℕ). IsStillGiven (Some m) 16 4 (workers_in first.0) job.workers) (sym same) taken.2;
        budget = left.1;
        log = left.2;
      };
  back = λ job h. record {
    choices = Choice.workers digits ∷ h.choices;
    words_are = e ∙ ap (λ (ws : List (List ℕ)). codes "--workers" ∷ digits ∷ ws) h.words_are;
    workers = give_back given.workers 16 4 digits (workers_in h.choices) job.workers untaken count (subst (λ (m : ℕ). IsStillGiven (Some m) 16 4 (workers_in h.choices) job.workers) same h.workers);
    budget = h.budget;
    log = h.log;
  };
}

pub budget_step : (words rest : List (List ℕ)) (digits : List ℕ) (given : Given) (n : ℕ) → words ≡ codes "--budget" ∷ digits ∷ rest → given.budget ≡ None → IsCountTo 1000000 digits → n ≡ number digits
    → IsStep words given rest (record { workers = given.workers; budget = Some n; log = given.log })
budget_step words rest digits given n e untaken count same = record {
  onwards = λ job h.
      let first = budget_first h.choices digits rest (sym e ∙ h.words_are) in
      let left = left_of words given job h (Choice.budget digits ∷ first.0) first.1 in
      let taken = took given.budget 1000000 200000 digits (budgets_in first.0) job.budget left.1 in
      record {
        choices = first.0;
        words_are = first.2;
        workers = left.0;
        budget = subst (λ (m : ℕ). IsStillGiven (Some m) 1000000 200000 (budgets_in first.0) job.budget) (sym same) taken.2;
        log = left.2;
      };
  back = λ job h. record {
    choices = Choice.budget digits ∷ h.choices;
    words_are = e ∙ ap (λ (ws : List (List ℕ)). codes "--budget" ∷ digits ∷ ws) h.words_are;
    workers = h.workers;
    budget = give_back given.budget 1000000 200000 digits (budgets_in h.choices) job.budget untaken count (subst (λ (m : ℕ). IsStillGiven (Some m) 1000000 200000 (budgets_in h.choices) job.budget) same h.budget);
    log = h.log;
  };
}

-- what an answer says of these words it says of those
pub stepped : (words : List (List ℕ)) (given : Given) (rest : List (List ℕ)) (next : Given) (result : Option Job) → IsStep words given rest next
    → MatchOption result ((job : Job) → ¬ (AreTheRestOf rest next job)) (λ job. AreTheRestOf rest next job)
    → MatchOption result ((job : Job) → ¬ (AreTheRestOf words given job)) (λ job. AreTheRestOf words given job)
stepped words given rest next None step h = λ job it. h job (step.onwards job it)
stepped words given rest next (Some job) step h = step.back job h

-- ---- the last option

pub nothing_left : (words : List (List ℕ)) (given : Given) (job : Job) → words ≡ [] → job.workers ≡ unwrap_or given.workers 4 → job.budget ≡ unwrap_or given.budget 200000 → job.log ≡ given.log
    → AreTheRestOf words given job
nothing_left words given job none w b l = record {
  choices = [];
  words_are = none;
  workers = subst (λ (n : ℕ). IsStillGiven given.workers 16 4 [] n) (sym w) (still_default given.workers 16 4);
  budget = subst (λ (n : ℕ). IsStillGiven given.budget 1000000 200000 [] n) (sym b) (still_default given.budget 1000000 200000);
  log = subst (λ (a : Bool). IsStillAsked given.log [] a) (sym l) (still_log given.log);
}

-- ---- words that make no job

pub no_second_log : (words rest : List (List ℕ)) (given : Given) (job : Job) → words ≡ codes "--log" ∷ rest → given.log ≡ true → AreTheRestOf words given job → ⊥
no_second_log words rest given job e was h =
    let first = log_first h.choices rest (sym e ∙ h.words_are) in
    let left = left_of words given job h (Choice.log ∷ first.0) first.1 in
    let taken = took_log given.log Choice.log (logs_in first.0) job.log left.2 in
    cc (sym was ∙ taken.0)

-- given a second time, or with digits that are no such number
pub no_workers : (words rest : List (List ℕ)) (digits : List ℕ) (given : Given) (job : Job) → words ≡ codes "--workers" ∷ digits ∷ rest → (given.workers ≡ None → IsCountTo 16 digits → ⊥)
    → AreTheRestOf words given job → ⊥
no_workers words rest digits given job e not h =
    let first = workers_first h.choices digits rest (sym e ∙ h.words_are) in
    let left = left_of words given job h (Choice.workers digits ∷ first.0) first.1 in
    let taken = took given.workers 16 4 digits (workers_in first.0) job.workers left.0 in
    not taken.0 taken.1

pub no_budget : (words rest : List (List ℕ)) (digits : List ℕ) (given : Given) (job : Job) → words ≡ codes "--budget" ∷ digits ∷ rest → (given.budget ≡ None → IsCountTo 1000000 digits → ⊥)
    → AreTheRestOf words given job → ⊥
no_budget words rest digits given job e not h =
    let first = budget_first h.choices digits rest (sym e ∙ h.words_are) in
    let left = left_of words given job h (Choice.budget digits ∷ first.0) first.1 in
    let taken = took given.budget 1000000 200000 digits (budgets_in first.0) job.budget left.1 in
    not taken.0 taken.1

-- words that go on with an option that was given are no options more, whatever stands behind it
workers_word : (choices : List Choice) (rest : List (List ℕ)) → codes "--workers" ∷ rest ≡ flat_map choice_words choices → (digits : List ℕ) × (more : List Choice) × (choices ≡ Choice.workers digits ∷ more)
workers_word [] rest e = absurd (cc e)
workers_word (Choice.workers digits ∷ more) rest e = (digits, more, refl)
workers_word (Choice.budget digits ∷ more) rest e = absurd (cc e)
workers_word (Choice.log ∷ more) rest e = absurd (cc e)

pub no_workers_twice : (words rest : List (List ℕ)) (given : Given) (job : Job) → words ≡ codes "--workers" ∷ rest → ¬ (given.workers ≡ None) → AreTheRestOf words given job → ⊥
no_workers_twice words rest given job e was h =
    let first = workers_word h.choices rest (sym e ∙ h.words_are) in
    let left = left_of words given job h (Choice.workers first.0 ∷ first.1) first.2 in
    let taken = took given.workers 16 4 first.0 (workers_in first.1) job.workers left.0 in
    was taken.0

budget_word : (choices : List Choice) (rest : List (List ℕ)) → codes "--budget" ∷ rest ≡ flat_map choice_words choices → (digits : List ℕ) × (more : List Choice) × (choices ≡ Choice.budget digits ∷ more)
budget_word [] rest e = absurd (cc e)
budget_word (Choice.workers digits ∷ more) rest e = absurd (cc e)
budget_word (Choice.budget digits ∷ more) rest e = (digits, more, refl)
budget_word (Choice.log ∷ more) rest e = absurd (cc e)

pub no_budget_twice : (words rest : List (List ℕ)) (given : Given) (job : Job) → words ≡ codes "--budget" ∷ rest → ¬ (given.budget ≡ None) → AreTheRestOf words given job → ⊥
no_budget_twice words rest given job e was h =
    let first = budget_word h.choices rest (sym e ∙ h.words_are) in
    let left = left_of words given job h (Choice.budget first.0 ∷ first.1) first.2 in
    let taken = took given.budget 1000000 200000 first.0 (budgets_in first.1) job.budget left.1 in
    was taken.0

one_word_is : (choices : List Choice) (word : List ℕ) → word ∷ [] ≡ flat_map choice_words choices → word ≡ codes "--log"
one_word_is [] word e = absurd (cc e)
one_word_is (Choice.workers digits ∷ more) word e = absurd (cc e)
one_word_is (Choice.budget digits ∷ more) word e = absurd (cc e)
one_word_is (Choice.log ∷ more) word e = cc e

pub no_one_word : (words : List (List ℕ)) (word : List ℕ) (given : Given) (job : Job) → words ≡ word ∷ [] → ¬ (word ≡ codes "--log") → AreTheRestOf words given job → ⊥
no_one_word words word given job e not h = not (one_word_is h.choices word (sym e ∙ h.words_are))

other_word : (choices : List Choice) (word : List ℕ) (rest : List (List ℕ)) → word ∷ rest ≡ flat_map choice_words choices → ¬ (word ≡ codes "--log") → ¬ (word ≡ codes "--workers") → ¬ (word ≡ codes "--budget") → ⊥
other_word [] word rest e l w b = cc e
other_word (Choice.workers digits ∷ more) word rest e l w b = w (cc e)
other_word (Choice.budget digits ∷ more) word rest e l w b = b (cc e)
other_word (Choice.log ∷ more) word rest e l w b = l (cc e)

pub no_option : (words rest : List (List ℕ)) (word : List ℕ) (given : Given) (job : Job) → words ≡ word ∷ rest → ¬ (word ≡ codes "--log") → ¬ (word ≡ codes "--workers") → ¬ (word ≡ codes "--budget")
    → AreTheRestOf words given job → ⊥
no_option words rest word given job e l w b h = other_word h.choices word rest (sym e ∙ h.words_are) l w b

-- ---- all options

abbrev NoneGiven : Given
NoneGiven = record { workers = None; budget = None; log = false }

pub asked : (words rest : List (List ℕ)) (job : Job) → words ≡ codes "solve" ∷ rest → AreTheRestOf rest NoneGiven job → AskToSolve words job
asked words rest job e h = record {
  choices = h.choices;
  words_are = e ∙ ap (λ (ws : List (List ℕ)). codes "solve" ∷ ws) h.words_are;
  job_is = record { workers = h.workers; budget = h.budget; log = h.log };
}

pub options_are : (words rest : List (List ℕ)) (job : Job) → words ≡ codes "solve" ∷ rest → AskToSolve words job → AreTheRestOf rest NoneGiven job
options_are words rest job e h =
    let all : codes "solve" ∷ rest ≡ codes "solve" ∷ flat_map choice_words h.choices = sym e ∙ h.words_are in
    record { choices = h.choices; words_are = cc all; workers = h.job_is.workers; budget = h.job_is.budget; log = h.job_is.log }

-- ---- the numbers of a job

within : (most otherwise : ℕ) (texts : List (List ℕ)) (n : ℕ) → 1 ≤ otherwise → otherwise ≤ most → IsGiven most otherwise texts n → (1 ≤ n) × (n ≤ most)
within most otherwise [] n a b e = (omega arith, omega arith)
within most otherwise (digits ∷ []) n a b (count, e) = let low = count.from_one in let high = count.to_most in (omega arith, omega arith)
within most otherwise (digits ∷ more ∷ rest) n a b h = absurd h

pub workers_within : (words : List (List ℕ)) (job : Job) → AskToSolve words job → (1 ≤ job.workers) × (job.workers ≤ 16)
workers_within words job h = within 16 4 (workers_in h.choices) job.workers (omega arith) (omega arith) h.job_is.workers

pub budget_within : (words : List (List ℕ)) (job : Job) → AskToSolve words job → (1 ≤ job.budget) × (job.budget ≤ 1000000)
budget_within words job h = within 1000000 200000 (budgets_in h.choices) job.budget (omega arith) (omega arith) h.job_is.budget

-- ---- words ask for one job

same_choices : (cs ds : List Choice) → flat_map choice_words cs ≡ flat_map choice_words ds → cs ≡ ds
same_choices [] [] e = refl
same_choices [] (Choice.workers digits ∷ ds) e = absurd (cc e)
same_choices [] (Choice.budget digits ∷ ds) e = absurd (cc e)
same_choices [] (Choice.log ∷ ds) e = absurd (cc e)
same_choices (Choice.workers digits ∷ cs) ds e =
    let first = workers_first ds digits (flat_map choice_words cs) e in
    ap (λ (xs : List Choice). Choice.workers digits ∷ xs) (same_choices cs first.0 first.2) ∙ sym first.1
same_choices (Choice.budget digits ∷ cs) ds e =
    let first = budget_first ds digits (flat_map choice_words cs) e in
    ap (λ (xs : List Choice). Choice.budget digits ∷ xs) (same_choices cs first.0 first.2) ∙ sym first.1
same_choices (Choice.log ∷ cs) ds e =
    let first = log_first ds (flat_map choice_words cs) e in
    ap (λ (xs : List Choice). Choice.log ∷ xs) (same_choices cs first.0 first.2) ∙ sym first.1

one_number : (most otherwise : ℕ) (texts : List (List ℕ)) (n m : ℕ) → IsGiven most otherwise texts n → IsGiven most otherwise texts m → n ≡ m
one_number most otherwise [] n m a b = a ∙ sym b
one_number most otherwise (digits ∷ []) n m a b = a.1 ∙ sym b.1
one_number most otherwise (digits ∷ more ∷ rest) n m a b = absurd a

one_log : (logs : List Choice) (x y : Bool) → IsAsked logs x → IsAsked logs y → x ≡ y
one_log [] x y a b = a ∙ sym b
one_log (one ∷ []) x y a b = a ∙ sym b
one_log (one ∷ more ∷ rest) x y a b = absurd a

pub one_job : (words : List (List ℕ)) (j k : Job) → AskToSolve words j → AskToSolve words k → j ≡ k
one_job words j k a b =
    let all : codes "solve" ∷ flat_map choice_words a.choices ≡ codes "solve" ∷ flat_map choice_words b.choices = sym a.words_are ∙ b.words_are in
    let same = same_choices a.choices b.choices (cc all) in
    let there : AreChoicesOf b.choices j = subst (λ (cs : List Choice). AreChoicesOf cs j) same a.job_is in
    let w = one_number 16 4 (workers_in b.choices) j.workers k.workers there.workers b.job_is.workers in
    let n = one_number 1000000 200000 (budgets_in b.choices) j.budget k.budget there.budget b.job_is.budget in
    let l = one_log (logs_in b.choices) j.log k.log there.log b.job_is.log in
    λ i. record { workers = w i; budget = n i; log = l i }
