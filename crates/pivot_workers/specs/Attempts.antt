-- What an attempt at an arc answers. (This project's own.)
use Rattle.std.specs.Prelude.{◌≡◌, ℕ, ◌+◌, List, [], ◌∷◌, ◌++◌, length, ⊤}
use Rattle.np_model.specs.declared.log.Entry.{Entry}
use Rattle.np_model.specs.declared.piece.Direction.{Direction}
use Rattle.np_model.specs.Basis.Attempts.{PriceFits, IsPivoted, IsRay, FirstOverflow}
use Rattle.np_model.specs.Basis.Graphs.{ends_at}
use Rattle.np_model.specs.Basis.Moves.{IsEligible}
use Rattle.np_model.specs.Basis.Needed.{AreNeededFor}
use Rattle.np_model.specs.Basis.Pieces.{PieceLists}
use Rattle.np_model.specs.Basis.Sound.{values_in, AreInOrder}
use Rattle.np_model.specs.Network.Flows.{Network}
use Rattle.tree_table.specs.Passes.{PassState}
use Rattle.tree_table.specs.Replay.{AreBelow}
use Rattle.pivot_workers.specs.declared.attempting.Attempted.{Attempted}
use Rattle.pivot_workers.specs.declared.attempting.Attempted.TheVariants as attempted
use Rattle.pivot_workers.specs.declared.seeing.Seen.{Seen}
use Rattle.pivot_workers.specs.Takes.{slots_of, HasTaken, IsMissed}
use Rattle.pivot_workers.specs.Stale.{IsStale, IsFresh}

-- no pivot was made
pub record HasNoMore (p q : PassState) : Type 0 where
  pub spare : q.spare ≡ p.spare
  pub entries : q.view.entries ≡ p.view.entries

module _ (net : Network) (real : ℕ) where
  -- one entry more, of a pivot on these pieces; tickets rise, and with all shares this one is the number of entries
  pub record HasPivoted (p q : PassState) (pieces : List PieceLists) (arc ticket : ℕ) : Type 0 where
    pub spare : q.spare + 1 ≡ p.spare
    pub entry : Entry
    pub after : List PieceLists
    pub is_pivoted : IsPivoted net real pieces arc entry after
    pub entries : q.view.entries ≡ p.view.entries ++ (ticket, record { entry = entry; before = pieces; after = after }) ∷ []
    pub rises : AreBelow ticket p.view.entries
    pub all : p.view.shares ≡ 64 → ticket ≡ length p.view.entries

  module _ (p q : PassState) (seen : Seen) (arc : ℕ) where
    -- one piece or two were taken, each end of the arc is in the piece at its slot, and so they are those that the arc needs
    pub record HasReached : Type 0 where
      pub taken : HasTaken p.view q.view (slots_of seen)
      pub fresh : IsFresh (ends_at net.arcs arc) seen q.view.got
      pub in_order : AreInOrder q.view.got
      pub needed : AreNeededFor q.view.got (ends_at net.arcs arc)

    -- the answer, each with its cause
    abbrev pub IsAttempted : Attempted → Type 0
    IsAttempted (attempted.Pivoted ticket) = HasReached × HasPivoted p q q.view.got arc ticket
    IsAttempted (attempted.Busy slot word) = HasNoMore p q × IsMissed p.view q.view (slots_of seen) slot word
    IsAttempted (attempted.Stale node slot) = HasNoMore p q × HasTaken p.view q.view (slots_of seen) × IsStale (ends_at net.arcs arc) seen node slot q.view.got
    IsAttempted attempted.NotEligible = HasNoMore p q × HasReached × PriceFits net real q.view.got arc × (¬ IsEligible net real (values_in net q.view.got) arc)
    IsAttempted attempted.Ray = HasNoMore p q × HasReached × ((direction : Direction) × IsRay net real q.view.got arc direction)
    IsAttempted (attempted.Past overflow) = HasNoMore p q × HasReached × FirstOverflow net real q.view.got arc overflow
    IsAttempted attempted.Memory = HasNoMore p q × HasReached × PriceFits net real q.view.got arc × IsEligible net real (values_in net q.view.got) arc

-- it has reached its pieces: neither Busy nor Stale
abbrev pub IsReached : Attempted → Type 0
IsReached (attempted.Pivoted ticket) = ⊤
IsReached (attempted.Busy slot word) = ⊥
IsReached (attempted.Stale node slot) = ⊥
IsReached attempted.NotEligible = ⊤
IsReached attempted.Ray = ⊤
IsReached (attempted.Past overflow) = ⊤
IsReached attempted.Memory = ⊤
