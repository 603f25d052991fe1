-- What an attempt makes of one arc.
use Rattle.std.proofs.Common.{◌≡◌, ◌⊎◌, inl, inr, ℕ, ◌+◌, ◌≤◌, List, [], ◌∷◌, ◌++◌, length, sym, ap, ◌∙◌, refl, arith, append-nil, cond, ne_eqb}
use Rattle.std.specs.Prelude.{Option, Some, None, nat_eq}
use lib.ListN.{length-map}
use mathlib.Core.List.{map-append}
use Rattle.np_model.specs.declared.arc.Ends.{Ends}
use Rattle.np_model.specs.Basis.Graphs.{ends_at}
use Rattle.np_model.specs.Basis.Pieces.{PieceLists}
use Rattle.np_basis.specs.PivotLaws.{HasRealArcs}
use Rattle.tree_table.specs.Calls.{Stays}
use Rattle.tree_table.specs.Passes.{Pivoted, PassState, View, IsIdle}
use Rattle.tree_table.specs.Replay.{HasSeen, numbered}
use Rattle.tree_table.proofs.Logs.{numbered-push}
use Rattle.tree_table.proofs.Seen.{seen_kept, next_seen}
use Rattle.tree_table.proofs.Sums.{weigh-append}
use Rattle.pivot_workers.specs.declared.attempting.Attempted.{Attempted}
use Rattle.pivot_workers.specs.declared.attempting.Attempted.TheVariants as attempted
use Rattle.pivot_workers.specs.declared.seeing.Seen.{Seen}
use Rattle.pivot_workers.specs.Attempts.{HasNoMore, HasPivoted, HasReached, IsAttempted}
use Rattle.pivot_workers.specs.Forests.{network_at, OpensForest}
use Rattle.pivot_workers.specs.Openings.{AreSeated}
use Rattle.pivot_workers.specs.Stale.{IsStale}
use Rattle.pivot_workers.specs.Sweeps.{AreNeeded, IsRefused, may_not, endless, overflows, AreVisits}
use Rattle.pivot_workers.specs.Takes.{in_order, slots_of, seen_at, hits, HasTaken, IsMissed}
use Rattle.pivot_workers.specs.Work.{takes_in, pivots_of, HasTried}
use Rattle.pivot_workers.specs.Steps.Visits.{visit_of, IsVisited}
use Rattle.pivot_workers.proofs.Forest.{forest_now}
use Rattle.pivot_workers.proofs.Places.{by_order}
use Rattle.pivot_workers.proofs.Right.{missed_not_right, stale_not_right, among_now, seated_right, fresh_seated, seen_fits}

is_take : (k word : ℕ) → takes_in ((k + 1, word) ∷ []) ≡ 1
is_take k word = ap (λ b. cond b 0 1 + 0) (ne_eqb (k + 1) 0 (λ e. omega arith))

take_missed : (before : List ℕ) (slot word : ℕ) → 1 ≤ takes_in (hits before ++ (slot + 1, word) ∷ [])
take_missed before slot word =
    let a = weigh-append (λ (look : ℕ × ℕ). cond (nat_eq look.0 0) 0 1) (hits before) ((slot + 1, word) ∷ []) in let b = is_take slot word in omega arith

take_first : (k : ℕ) (ks : List ℕ) → 1 ≤ takes_in (hits (k ∷ ks))
take_first k ks = let b = is_take k 0 in omega arith

take_slots : (a : ℕ) (b : Option ℕ) → 1 ≤ takes_in (hits (in_order a b))
take_slots a None = take_first a []
take_slots a (Some b) = by_order (λ z. 1 ≤ takes_in (hits z)) a b (λ e. take_first a []) (λ lt. take_first a (b ∷ [])) (λ lt. take_first b (a ∷ []))

module _ (openings : List ℕ) (p q : PassState) (arc : ℕ) (stays : Stays p q) (idle : IsIdle q.view)
    (told : (q.view.shares ≡ p.view.shares) × (q.view.opening ≡ p.view.opening)) (real : HasRealArcs (network_at p.view.opening) (length p.view.opening.net.arcs))
    (opens : OpensForest p.view.opening) where
  abbrev ends : Ends
  ends = ends_at (network_at p.view.opening).arcs arc

  abbrev seen : Seen
  seen = seen_at openings ends

  quiet : (arcs : List ℕ) (looked : List (ℕ × ℕ)) → HasNoMore p q → q.view.looks ≡ p.view.looks ++ looked → length arcs ≤ takes_in looked
      → (p.view.shares ≡ 64 → (now : List PieceLists) → HasSeen p.view now → AreVisits p.view.opening openings now arcs [] now) → HasTried openings p q arcs 0
  quiet arcs looked none looks takes alone = record {
    has_added = record {
      stays = stays;
      idle = idle;
      shares = told.0;
      opening = told.1;
      added = [];
      entries = none.entries ∙ sym (append-nil p.view.entries);
      count = refl;
      spare = (let e = none.spare in omega arith);
      looked = looked;
      looks = looks;
    };
    enters = record {};
    takes = takes;
    numbered_on = λ all e. none.entries ∙ (e ∙ ap (λ z. numbered 0 (pivots_of z)) (sym none.entries));
    alone = λ all now s. (now, alone all now s, seen_kept p.view q.view now told.1 none.entries told.0 s);
  }

  abbrev Why : List PieceLists → Type 0
  Why now = (¬ AreSeated openings now ends) ⊎ ((pieces : List PieceLists) × AreNeeded p.view.opening now arc pieces × IsRefused p.view.opening pieces arc)

  passed : (looked : List (ℕ × ℕ)) → HasNoMore p q → q.view.looks ≡ p.view.looks ++ looked → 1 ≤ takes_in looked
      → (p.view.shares ≡ 64 → (now : List PieceLists) → HasSeen p.view now → Why now) → HasTried openings p q (arc ∷ []) 0
  passed looked none looks takes why = quiet (arc ∷ []) looked none looks takes (λ all now s. ([], [], now, refl, (refl, why all now s), (refl, refl)))

  busy : (slot word : ℕ) → HasNoMore p q → IsMissed p.view q.view (slots_of seen) slot word → HasTried openings p q (arc ∷ []) 0
  busy slot word none m =
      passed (hits m.before ++ (slot + 1, word) ∷ []) none m.looks (take_missed m.before slot word)
      (λ all now s. inl (λ seats. missed_not_right p.view q.view ends seen slot word now (seen_fits openings ends) m all s (seated_right openings now ends seats)))

  stale : (node slot : ℕ) → HasNoMore p q → HasTaken p.view q.view (slots_of seen) → IsStale ends seen node slot q.view.got → HasTried openings p q (arc ∷ []) 0
  stale node slot none t st =
      passed (hits (slots_of seen)) none t.looks (take_slots seen.first seen.second)
      (λ all now s. inl (λ seats. stale_not_right (network_at p.view.opening) p.view q.view ends seen node slot now (forest_now p.view now real opens s) t st all s (seated_right openings now ends seats)))

  abbrev Reached : Type 0
  Reached = HasReached (network_at p.view.opening) (length p.view.opening.net.arcs) p q seen arc

  needed_now : Reached → p.view.shares ≡ 64 → (now : List PieceLists) → HasSeen p.view now → AreNeeded p.view.opening now arc q.view.got
  needed_now r all now s = record { there = among_now p.view q.view (slots_of seen) now r.taken all s; in_order = r.in_order; needed = r.needed }

  refused : HasNoMore p q → Reached → IsRefused p.view.opening q.view.got arc → HasTried openings p q (arc ∷ []) 0
  refused none r why = passed (hits (slots_of seen)) none r.taken.looks (take_slots seen.first seen.second) (λ all now s. inr (q.view.got, needed_now r all now s, why))

  no_memory : HasNoMore p q → Reached → HasTried openings p q [] 0
  no_memory none r = quiet [] (hits (slots_of seen)) none r.taken.looks (omega arith) (λ all now s. (refl, refl))

  pivoted : (ticket : ℕ) → Reached → HasPivoted (network_at p.view.opening) (length p.view.opening.net.arcs) p q q.view.got arc ticket → HasTried openings p q (arc ∷ []) 1
  pivoted ticket r v =
      let m : Pivoted = record { entry = v.entry; before = q.view.got; after = v.after } in record {
        has_added = record {
          stays = stays;
          idle = idle;
          shares = told.0;
          opening = told.1;
          added = (ticket, m) ∷ [];
          entries = v.entries;
          count = refl;
          spare = v.spare;
          looked = hits (slots_of seen);
          looks = r.taken.looks;
        };
        enters = inl (v.is_pivoted.followed.enters, record {});
        takes = take_slots seen.first seen.second;
        numbered_on = λ all e.
            v.entries
            ∙ ((λ i. e i ++ (v.all all i, m) ∷ [])
            ∙ (ap (λ (k : ℕ). numbered 0 (pivots_of p.view.entries) ++ (k, m) ∷ []) (let x : length p.view.entries ≡ 0 + length (pivots_of p.view.entries) = (let y = length-map p.view.entries (λ (e : ℕ × Pivoted). e.1) in omega arith) in x)
            ∙ (sym (numbered-push 0 (pivots_of p.view.entries) m)
            ∙ (ap (numbered 0) (sym (map-append (λ (e : ℕ × Pivoted). e.1) p.view.entries ((ticket, m) ∷ []))) ∙ ap (λ z. numbered 0 (pivots_of z)) (sym v.entries)))));
        alone = λ all now s.
            let among = among_now p.view q.view (slots_of seen) now r.taken all s in
            let held : View = record {
              opening = p.view.opening;
              shares = p.view.shares;
              hands = q.view.got;
              slots = p.view.slots;
              entries = p.view.entries;
              got = p.view.got;
              looks = p.view.looks;
            } in
            let t = next_seen held now v.entry v.after all (seen_kept p.view held now refl refl refl s) among v.is_pivoted.is_after in
            let seats : AreSeated openings now ends = fresh_seated openings now ends q.view.got among r.fresh in (
              t.0,
              (m ∷ [], [], t.0, refl, (seats, needed_now r all now s, v.is_pivoted, t.1), (refl, refl)),
              seen_kept _ q.view t.0 told.1 (v.entries ∙ ap (λ (k : ℕ). p.view.entries ++ (k, m) ∷ []) (v.all all)) told.0 t.2,
            );
      }

  pub visited : (r : Attempted) → IsAttempted (network_at p.view.opening) (length p.view.opening.net.arcs) p q seen arc r → IsVisited openings p q arc (visit_of r)
  visited (attempted.Pivoted ticket) h = pivoted ticket h.0 h.1
  visited (attempted.Busy slot word) h = busy slot word h.0 h.1
  visited (attempted.Stale node slot) h = stale node slot h.0 h.1 h.2
  visited attempted.NotEligible h = refused h.0 h.1 (may_not h.2 h.3)
  visited attempted.Ray h = refused h.0 h.1 (endless h.2.0 h.2.1)
  visited (attempted.Past overflow) h = refused h.0 h.1 (overflows overflow h.2)
  visited attempted.Memory h = no_memory h.0 h.1
