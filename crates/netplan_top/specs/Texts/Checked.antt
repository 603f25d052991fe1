-- The answers of the checker as they are printed.
use Rattle.std.specs.Prelude.{ℕ, Option, Some, None, List, [], ◌∷◌, codes}
use Rattle.std.specs.Fmt.{decimal}
use Rattle.np_frac.specs.Text.{printed}
use Rattle.np_frac.specs.Words.{op_word}
use Rattle.np_frac.specs.declared.frac.Past.{Past}
use Rattle.np_model.specs.declared.rows.CheckRow.{CheckRow}
use Rattle.np_model.specs.declared.scheme.Scheme.{Scheme}
use Rattle.np_model.specs.Scheme.Names.{name_at, flow_names}
use Rattle.np_model.specs.Scheme.Verdicts.{check_row_word}
use Rattle.cert_checker.specs.Words.{clause_word}
use Rattle.cert_checker.specs.declared.answer.Checked.{Checked}
use Rattle.cert_checker.specs.declared.answer.Checked.TheVariants as checked
use Rattle.cert_checker.specs.declared.answer.Clause.{Clause}
use Rattle.cert_checker.specs.declared.answer.Clause.TheVariants.{Balance, RayBalance}
use Rattle.netplan_top.specs.Texts.Frame.{framed_text}

abbrev pub check_text : List (List ℕ) → List ℕ
check_text line = framed_text (codes "netplan-check") line

-- what a plan was shown to be, with its cost or its gap
abbrev pub accepted_line : Checked → List (List ℕ)
accepted_line (checked.Optimal cost) = codes "accepted" ∷ codes "optimal" ∷ printed cost ∷ []
accepted_line (checked.Infeasible gap) = codes "accepted" ∷ codes "infeasible" ∷ printed gap ∷ []
accepted_line checked.Unbounded = codes "accepted" ∷ codes "unbounded" ∷ []

-- the name at a clause's place: a node for the balance clauses, a flow for the others
unfoldable pub place_name : Scheme → Clause → ℕ → List ℕ
place_name scheme Balance i = name_at scheme.nodes i
place_name scheme RayBalance i = name_at scheme.nodes i
place_name scheme clause i = name_at (flow_names scheme.flows) i

-- the clauses of a whole plan have no place
abbrev pub rejected_line : Scheme → Clause → Option ℕ → ℕ → List (List ℕ)
rejected_line scheme clause None period = codes "rejected" ∷ clause_word clause ∷ []
rejected_line scheme clause (Some i) period = codes "rejected" ∷ clause_word clause ∷ place_name scheme clause i ∷ decimal period ∷ []

-- the operation that does not fit, with its row and its operands
abbrev pub past_line : CheckRow → Past → List (List ℕ)
past_line row past = codes "past" ∷ check_row_word row ∷ op_word past.op ∷ printed past.left ∷ printed past.right ∷ []
