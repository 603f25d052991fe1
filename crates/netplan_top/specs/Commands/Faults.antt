-- The fault of a network text, which `check` and `expand` both tell.
use Rattle.std.specs.Prelude.{◌≡◌, ℕ, Err, List}
use Rattle.np_records.specs.Records.{records_of}
use Rattle.net_csv.specs.Grammar.{read_records}
use Rattle.net_csv.specs.Words.{code_word}
use Rattle.net_csv.specs.declared.refused.Code.{Code}
use Rattle.net_csv.specs.declared.refused.Tail.{Tail}
use Rattle.netplan_top.specs.Texts.Frame.{refused_text}

-- the network text has this first fault, with or without a plan text behind it
abbrev pub IsFault : Tail → List ℕ → ℕ → Code → Type 0
IsFault behind input place code = read_records behind (records_of input) ≡ Err (place, code)

-- it has a first fault, which the text names
pub record IsFaulty (behind : Tail) (input : List ℕ) (text : List ℕ) : Type 0 where
  pub place : ℕ
  pub code : Code
  pub fault : IsFault behind input place code
  pub text_is : text ≡ refused_text place (code_word code)
