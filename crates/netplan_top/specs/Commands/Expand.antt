-- What `expand` says of an input: a network text alone.
use Rattle.std.specs.Prelude.{◌≡◌, ℕ, ◌⊎◌, Ok, List}
use Rattle.np_records.specs.Records.{records_of}
use Rattle.np_model.specs.declared.scheme.Scheme.{Scheme}
use Rattle.net_csv.specs.Grammar.{read_records, IsSchemeOf}
use Rattle.net_csv.specs.declared.refused.Tail.TheVariants as tail
use Rattle.netplan_top.specs.Texts.Network.{net_text}
use Rattle.netplan_top.specs.Commands.Faults.{IsFaulty}

-- the input is the network text of this scheme, and nothing stands behind it
pub record IsNetwork (input : List ℕ) (scheme : Scheme) : Type 0 where
  pub count : ℕ
  pub network : read_records tail.Nothing (records_of input) ≡ Ok count
  pub scheme_is : IsSchemeOf (records_of input) scheme

-- the input is the network text of a scheme, and the text is that of its expanded network
pub record Expands (input : List ℕ) (text : List ℕ) : Type 0 where
  pub scheme : Scheme
  pub network : IsNetwork input scheme
  pub text_is : text ≡ net_text scheme

-- the text is what `expand` says of the input with this status
pub record IsExpandAnswer (input : List ℕ) (status : ℕ) (text : List ℕ) : Type 0 where
  pub expands : status ≡ 0 → Expands input text
  pub refuses : status ≡ 5 → IsFaulty tail.Nothing input text
  pub known : (status ≡ 0) ⊎ (status ≡ 5)
