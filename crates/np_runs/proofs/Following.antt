-- A run leads to a state of its stage, and its log determines which.
use Rattle.std.specs.Prelude.{◌≡◌, ℕ, zero, suc, ◌<◌, ◌≤◌, List, [], ◌∷◌, ◌++◌, length, take, drop, Option, Some, None}
use Rattle.std.proofs.Common.{refl, sym, ap, subst, inl, inr, ◌∙◌, arith}
use Rattle.std.proofs.lemmas.List.{ext_get_or, take_all, drop_all, length-append}
use Rattle.gain_graphs.specs.Arcs.{IsIn}
use Rattle.np_frac.specs.Ratio.{zero_ratio}
use Rattle.np_model.specs.declared.log.Entry.{Entry}
use Rattle.np_model.specs.declared.log.Mark.{Mark}
use Rattle.np_model.specs.declared.log.Mark.TheVariants.{Basic}
use Rattle.np_model.specs.declared.phase.Phase.{Phase}
use Rattle.np_model.specs.declared.phase.Phase.TheVariants.{One, Two}
use Rattle.np_model.specs.Network.Flows.{Network, at}
use Rattle.np_model.specs.Basis.Graphs.{cost_at}
use Rattle.np_model.specs.Basis.Pieces.{PieceLists, nodes_in}
use Rattle.np_model.specs.Basis.Starts.{artificial_ends, start_state, start_net, ResidualsFit}
use Rattle.np_model.specs.Basis.States.{State, values_of, IsPieceOf, IsState}
use Rattle.np_basis.specs.Laws.{HasSoundArcs, FullIsSound, StartIsArtificial, StartIsState, PieceExists, PiecesAreSound, PotentialsAreUnique, RowsAreLocal}
use Rattle.np_basis.specs.PivotLaws.{HasRealArcs, PivotIsUnique}
use Rattle.np_basis.proofs.Basics.{basics_hold}
use Rattle.np_basis.proofs.Fulls.{length_full}
use Rattle.np_basis.proofs.Sound.{alone_apart}
use Rattle.np_runs.specs.Runs.{PivotsLead, IsTurn, RunLeads, stage_of, RunGoesOn, RunTurns, RunGivesState, RunIsUnique}

-- what is known of bases
pub record Theory : Type 0 where
  pub full : FullIsSound
  pub artificial : StartIsArtificial
  pub start : StartIsState
  pub piece : PieceExists
  pub sound : PiecesAreSound
  pub potentials : PotentialsAreUnique
  pub rows : RowsAreLocal
  pub pivot : PivotIsUnique

state_of_lists : (x y : State) → x.marks ≡ y.marks → x.flows ≡ y.flows → x.potentials ≡ y.potentials → x ≡ y
state_of_lists x y m f p = rw (m, f, p) refl

-- ---- runs that go on

lead_on : (phase : Phase) (net : Network) (entries more : List Entry) (s t last : State) → PivotsLead phase net s entries t → PivotsLead phase net t more last
    → PivotsLead phase net s (entries ++ more) last
lead_on phase net [] more s t last l k = subst (λ x. PivotsLead phase net x more last) (sym l) k
lead_on phase net (e ∷ entries) more s t last l k = (l.0, l.1, lead_on phase net entries more l.0 t last l.2 k)

split : {A : Type 0} (k : ℕ) (xs ys : List A) → k ≤ length xs → (take k (xs ++ ys) ≡ take k xs) × (drop k (xs ++ ys) ≡ drop k xs ++ ys)
split zero xs ys l = (refl, refl)
split (suc k) [] ys l = absurd (omega arith)
split {A} (suc k) (x ∷ xs) ys l = let r = split k xs ys (omega arith) in (ap {A = List A} (λ t. x ∷ t) r.0, r.1)

pub run_goes_on : RunGoesOn
run_goes_on net None entries more s last h k = lead_on One net entries more (start_state net) s last h k
run_goes_on net (Some n) entries more s last h k =
    let r = split n entries more h.few in
    record {
      few = let l = h.few in omega (arith, l, length-append entries more);
      before = h.before;
      first = subst (λ es. PivotsLead One net (start_state net) es h.before) (sym r.0) h.first;
      after = h.after;
      turn = h.turn;
      second = subst (λ es. PivotsLead Two net h.after es last) (sym r.1) (lead_on Two net (drop n entries) more h.after s last h.second k);
    }

pub run_turns : RunTurns
run_turns net entries s after h t = record {
  few = omega arith;
  before = s;
  first = subst (λ es. PivotsLead One net (start_state net) es s) (sym (take_all (length entries) entries (omega arith))) h;
  after = after;
  turn = t;
  second = subst (λ es. PivotsLead Two net after es after) (sym (drop_all (length entries) entries (omega arith))) refl;
}

-- ---- states of a run

module _ (laws : Theory) where
  pub in_one_piece : (net : Network) (s : State) (piece : PieceLists) → IsState net s → IsPieceOf net (values_of s) piece
      → (p : PieceLists) → IsIn p (piece ∷ []) → IsPieceOf net (values_of s) p
  in_one_piece net s piece h k p i = elim i [ inl e ↦ subst (λ q. IsPieceOf net (values_of s) q) (sym e) k | inr j ↦ absurd j ]

  -- the basis determines the potentials
  same_potentials : (net : Network) (x y : State) → HasSoundArcs net → IsState net x → IsState net y → x.marks ≡ y.marks → x.potentials ≡ y.potentials
  same_potentials net x y sound h k same =
      ext_get_or zero_ratio x.potentials y.potentials (h.one_potential_each ∙ sym k.one_potential_each) (λ v l.
      let below : v < length net.supply = omega (arith, h.one_potential_each) in
      let r = laws.piece net (values_of x) v sound below in
      let s = laws.sound net x (r.0 ∷ []) h (in_one_piece net x r.0 h r.1) (alone_apart (nodes_in r.0) r.1.part.is_piece.nodes_once) in
      laws.potentials net r.0 (cost_at net.arcs) (at x.potentials) (at y.potentials) (s.each r.0 (inl refl)).in_net
      (λ a i. h.priced a ((r.1.part.is_piece.touched a).0 i).0)
      (λ a i. let b = (basics_hold net.arcs (values_of x).mark a).0 ((r.1.part.is_piece.touched a).0 i).0 in
      k.priced a ((basics_hold net.arcs (values_of y).mark a).1 (b.0, subst (λ (ms : List Mark). (values_of (record { marks = ms; flows = []; potentials = [] })).mark a ≡ Basic) same b.1)))
      v r.2)

  module _ (net : Network) (sound : HasSoundArcs net) where
    pub ground : (phase : Phase) → HasRealArcs (start_net phase net) (length net.arcs)
    ground phase = record {
      sound = laws.full phase net (artificial_ends net) sound (laws.artificial net);
      few = omega (arith, length_full phase net.arcs (artificial_ends net));
    }

    -- ---- pivots in order

    pub lead_state : (phase : Phase) (s : State) (entries : List Entry) (last : State) → IsState (start_net phase net) s → PivotsLead phase net s entries last
        → IsState (start_net phase net) last
    lead_state phase s [] last h l = subst (IsState (start_net phase net)) l h
    lead_state phase s (e ∷ entries) last h l = lead_state phase l.0 entries last l.1.is_state l.2

    pub lead_unique : (phase : Phase) (s : State) (entries : List Entry) (t u : State) → IsState (start_net phase net) s → PivotsLead phase net s entries t
        → PivotsLead phase net s entries u → t ≡ u
    lead_unique phase s [] t u h l k = sym l ∙ k
    lead_unique phase s (e ∷ entries) t u h l k =
        let same = laws.pivot (start_net phase net) (length net.arcs) s e l.0 k.0 (ground phase) h l.1 k.1 in
        lead_unique phase k.0 entries t u k.1.is_state (subst (λ x. PivotsLead phase net x entries t) same l.2) k.2

    turn_unique : (s t u : State) → IsTurn net s t → IsTurn net s u → t ≡ u
    turn_unique s t u h k =
        state_of_lists t u (h.marks ∙ sym k.marks) (h.flows ∙ sym k.flows)
        (same_potentials (start_net Two net) t u (ground Two).sound h.is_state k.is_state (h.marks ∙ sym k.marks))

    -- ---- runs

    module _ (fit : ResidualsFit net) where
      pub start_is : IsState (start_net One net) (start_state net)
      start_is = laws.start net sound fit

      pub run_state : (turned : Option ℕ) (entries : List Entry) (last : State) → RunLeads net turned entries last → IsState (start_net (stage_of turned) net) last
      run_state None entries last h = lead_state One (start_state net) entries last start_is h
      run_state (Some k) entries last h = lead_state Two h.after (drop k entries) last h.turn.is_state h.second

      run_unique : (turned : Option ℕ) (entries : List Entry) (s t : State) → RunLeads net turned entries s → RunLeads net turned entries t → s ≡ t
      run_unique None entries s t h k = lead_unique One (start_state net) entries s t start_is h k
      run_unique (Some n) entries s t h k =
          let before = lead_unique One (start_state net) (take n entries) h.before k.before start_is h.first k.first in
          let after = turn_unique k.before h.after k.after (subst (λ x. IsTurn net x h.after) before h.turn) k.turn in
          lead_unique Two k.after (drop n entries) s t k.turn.is_state (subst (λ x. PivotsLead Two net x (drop n entries) s) after h.second) k.second

  pub run_gives_state : RunGivesState
  run_gives_state net log s sound fit h = run_state net sound fit log.turned log.entries s h

  pub run_is_unique : RunIsUnique
  run_is_unique net log s t sound fit h k = run_unique net sound fit log.turned log.entries s t h k
