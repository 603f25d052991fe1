-- What cannot be beside a run that has ended: an overflow at the turn, and one of an attempt beside a ray.
use Rattle.std.specs.Prelude.{◌≡◌, ℕ, List, [], ◌∷◌, length, Option, Some, None, Ok}
use Rattle.std.specs.Result.{IsOk}
use Rattle.std.proofs.Common.{refl, sym, ap, subst, ◌∙◌, inl, arith}
use Rattle.std.proofs.lemmas.List.{take_all}
use Rattle.np_frac.specs.Ratio.{Ratio, zero_ratio}
use Rattle.np_frac.specs.Exact.{over_of, ◌▷◌}
use Rattle.np_frac.specs.declared.frac.Past.{Past}
use Rattle.np_frac.proofs.Exactness.{found_by}
use Rattle.np_model.specs.declared.arc.Ends.{Ends}
use Rattle.np_model.specs.declared.log.Log.{Log}
use Rattle.np_model.specs.declared.log.Mark.{Mark}
use Rattle.np_model.specs.declared.phase.Phase.TheVariants.{One, Two}
use Rattle.np_model.specs.declared.rows.Overflow.{Overflow}
use Rattle.np_model.specs.declared.rows.Row.{Row}
use Rattle.np_model.specs.Network.Flows.{Network, at}
use Rattle.np_model.specs.Basis.Graphs.{ends_at, cost_at}
use Rattle.np_model.specs.Basis.Pieces.{nodes_in, basics_in}
use Rattle.np_model.specs.Basis.Starts.{artificial_ends, start_state, start_net, ResidualsFit}
use Rattle.np_model.specs.Basis.States.{State, values_of, IsPart, IsState}
use Rattle.np_model.specs.Rows.Extra.{Extra, Round}
use Rattle.np_model.specs.Rows.Potentials as rows
use Rattle.np_basis.specs.Laws.{HasSoundArcs}
use Rattle.np_basis.proofs.Sound.{alone_apart}
use Rattle.np_basis.proofs.Trees.{lies}
use Rattle.np_runs.specs.Runs.{PivotsLead, RunLeads}
use Rattle.np_runs.specs.Ended.{HasRun, TurnOverflows}
use Rattle.np_runs.proofs.Following.{Theory, in_one_piece, start_is, lead_state, lead_unique}
use Rattle.np_frac.proofs.Results.{is_ok_of, err_not_ok, ok_is, same_ok}
use Rattle.np_runs.proofs.Stages.{pieces_stay, in_net_stays}

-- ---- potentials

module _ (ends : ℕ → Ends) (cost : ℕ → Ratio) (arcs : List ℕ) (potential : ℕ → Ratio) where
  root_round : (x : Extra) (k : ℕ) (way : List (ℕ × ℕ)) → x ≡ Round k way → IsOk (rows.root_potential ends cost x)
      → (total : Ratio) × (rows.potential_along ends cost k way zero_ratio ≡ Ok total)
      × (last : Ratio) × (rows.divisor ends cost k way ≡ Ok last) × IsOk (over_of total last)
  root_round x k way e ok =
      let r = ok_is (rows.root_potential ends cost (Round k way)) (subst (λ t. IsOk (rows.root_potential ends cost t)) e ok) in
      let m = found_by (rows.potential_along ends cost k way zero_ratio) (λ sum. rows.divisor ends cost k way ▷ over_of sum) r.0 r.1 in
      let l = found_by (rows.divisor ends cost k way) (over_of m.0) r.0 m.2 in
      (m.0, m.1, l.0, l.1, is_ok_of (over_of m.0 l.0) r.0 l.2)

  gives_not : (x : Extra) (row : Row) (past : Past) → rows.Gives ends cost arcs x potential row past → rows.FitsRows ends cost arcs x potential → ⊥
  gives_not x row past (rows.product k way p e d) f =
      let r = root_round x k way e f.at_root in
      err_not_ok (rows.divisor ends cost k way) p d (is_ok_of (rows.divisor ends cost k way) r.2 r.3)
  gives_not x row past (rows.sum k way p e d) f =
      let r = root_round x k way e f.at_root in
      err_not_ok (rows.potential_along ends cost k way zero_ratio) p d (is_ok_of (rows.potential_along ends cost k way zero_ratio) r.0 r.1)
  gives_not x row past (rows.quotient k way p total last e c d o) f =
      let r = root_round x k way e f.at_root in
      err_not_ok (over_of total last) p o
      (subst (λ t. IsOk (over_of t last)) (same_ok (rows.potential_along ends cost k way zero_ratio) r.0 total r.1 c)
      (subst (λ t. IsOk (over_of r.0 t)) (same_ok (rows.divisor ends cost k way) r.2 last r.3 d) r.4))
  gives_not x row past (rows.link a u v p leads reached err) f = err_not_ok (rows.across (ends a) (cost a) u (potential u)) p err (f.links a u v leads)

  pub fit_not : (row : Row) (past : Past) → rows.PotentialsFit ends cost arcs potential → rows.PotentialsGive ends cost arcs potential row past → ⊥
  fit_not row past fit gives = gives_not gives.0 row past gives.2 (fit gives.0 gives.1)

-- ---- the turn

module _ (laws : Theory) (net : Network) (sound : HasSoundArcs net) (fit : ResidualsFit net) (budget : ℕ) (log : Log) (last : State) (h : HasRun net budget log last) where
  marks_only : (s t : State) → s.marks ≡ t.marks → (values_of s).mark ≡ (values_of t).mark
  marks_only s t e = ap (λ (ms : List Mark). (values_of (record { marks = ms; flows = []; potentials = [] })).mark) e

  pub turn_not : (overflow : Overflow) → TurnOverflows net budget overflow log → ⊥
  turn_not overflow k = go log.turned k.turned h.run
    where
      -- the potentials of stage two on the piece are those of the state after the turn, where no operation overflows
      after : (s : State) → s.marks ≡ k.last.marks → IsState (start_net Two net) s → ⊥
      after s marks st =
          let mark = marks_only k.last s (sym marks) in
          let piece = pieces_stay net (artificial_ends net) (values_of k.last) k.piece One Two k.is_piece in
          let part = subst (λ m. IsPart (start_net Two net) m (nodes_in k.piece) (basics_in k.piece)) mark piece.part in
          let one = laws.sound (start_net One net) k.last (k.piece ∷ []) state (in_one_piece laws (start_net One net) k.last k.piece state k.is_piece)
          (alone_apart (nodes_in k.piece) k.is_piece.part.is_piece.nodes_once) in
          let in_net = in_net_stays net (artificial_ends net) One Two k.piece (one.each k.piece (inl refl)).in_net in
          let priced : rows.ArePriced (ends_at (start_net Two net).arcs) (cost_at (start_net Two net).arcs) (basics_in k.piece) (at s.potentials)
          = λ a i. st.priced a ((part.is_piece.touched a).0 i).0 in
          let same = laws.potentials (start_net Two net) k.piece (cost_at (start_net Two net).arcs) (at s.potentials) k.potential in_net priced k.priced in
          fit_not (ends_at (start_net Two net).arcs) (cost_at (start_net Two net).arcs) (basics_in k.piece) k.potential overflow.row overflow.past
          (laws.rows (ends_at (start_net Two net).arcs) (cost_at (start_net Two net).arcs) (nodes_in k.piece) (basics_in k.piece) (at s.potentials) k.potential
          (lies (start_net Two net) k.piece in_net) same (st.rows_fit (nodes_in k.piece) (basics_in k.piece) part))
          k.gives
        where
          state : IsState (start_net One net) k.last
          state = lead_state laws net sound One (start_state net) log.entries k.last (start_is laws net sound fit) k.leads

      go : (turned : Option ℕ) → turned ≡ Some (length log.entries) → RunLeads net turned log.entries last → ⊥
      go None e r = cc
      go (Some n) e r =
          let n_is : n ≡ length log.entries = cc in
          let before = lead_unique laws net sound One (start_state net) log.entries r.before k.last (start_is laws net sound fit)
          (subst (λ es. PivotsLead One net (start_state net) es r.before) (take_all n log.entries (omega arith)) r.first) k.leads in
          after r.after (r.turn.marks ∙ ap (λ (x : State). x.marks) before) r.turn.is_state
