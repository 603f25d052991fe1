-- A pivot that can be made is one of the pieces that it was prepared on.
use Rattle.std.specs.Prelude.{ℕ, List}
use Rattle.np_model.specs.declared.piece.Hands.{Hands}
use Rattle.np_model.specs.declared.piece.Prepared.{Prepared}
use Rattle.np_model.specs.declared.piece.Prepared.TheVariants as prepared
use Rattle.np_model.specs.Network.Flows.{Network}
use Rattle.np_model.specs.Basis.Attempts.{IsPrepared, OnReady}
use Rattle.np_model.specs.Basis.Pieces.{PieceLists}
use Rattle.quasi_tree.specs.Store.{Store}
use Rattle.piece_lists.specs.Parts.{lists_in}
use Rattle.pivot_step.specs.Named.{BecomeBySomePivot}

pub named : (net : Network) (real : ℕ) (pieces : List PieceLists) (arc : ℕ) (answer : Prepared (Hands Store)) → IsPrepared net real pieces arc lists_in answer
    → OnReady (λ (change : Hands Store). BecomeBySomePivot net real pieces (lists_in change)) answer
named net real pieces arc (prepared.Ready entry change) h = record { arc = arc; entry = entry; pivoted = h }
named net real pieces arc prepared.NotEligible h = tt
named net real pieces arc (prepared.Ray direction) h = tt
named net real pieces arc (prepared.Past overflow) h = tt
named net real pieces arc prepared.Memory h = tt
