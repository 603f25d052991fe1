-- What takes tell of the slots that were seen.
use Rattle.std.proofs.Common.{◌≡◌, ⊎_elim, ℕ, ◌+◌, [], ◌∷◌, append_assoc, sym, ap, ◌∙◌, subst, refl}
use Rattle.np_model.specs.Basis.Pieces.{PieceLists}
use Rattle.tree_table.specs.Calls.{IsBusy, IsBusyTwo, IsGot, with_none, put_again}
use Rattle.tree_table.specs.Passes.{View}
use Rattle.pivot_workers.specs.Steps.Grabs.{HasMissed}

module _ (v w : View) where
  pub missed_one : (k word : ℕ) → IsBusy v k word → w ≡ with_none v k word → HasMissed v w (k ∷ []) k word
  missed_one k word busy is = record {
    idle = (ap (λ (x : View). x.hands) is, ap (λ (x : View). x.slots) is);
    elsewhere = (ap (λ (x : View). x.opening) is, ap (λ (x : View). x.shares) is, ap (λ (x : View). x.entries) is);
    missed = record { not_home = busy.not_home; before = []; after = []; place = refl; looks = ap (λ (x : View). x.looks) is; none_there = busy.none_there };
  }

  missed_first : (k l word : ℕ) → IsBusy v k word → w ≡ with_none v k word → HasMissed v w (k ∷ l ∷ []) k word
  missed_first k l word busy is = record {
    idle = (ap (λ (x : View). x.hands) is, ap (λ (x : View). x.slots) is);
    elsewhere = (ap (λ (x : View). x.opening) is, ap (λ (x : View). x.shares) is, ap (λ (x : View). x.entries) is);
    missed = record { not_home = busy.not_home; before = []; after = l ∷ []; place = refl; looks = ap (λ (x : View). x.looks) is; none_there = busy.none_there };
  }

  missed_second : (k l word : ℕ) (piece : PieceLists) → IsBusy v l word → w ≡ put_again v k l piece word → HasMissed v w (k ∷ l ∷ []) l word
  missed_second k l word piece busy is = record {
    idle = (ap (λ (x : View). x.hands) is, ap (λ (x : View). x.slots) is);
    elsewhere = (ap (λ (x : View). x.opening) is, ap (λ (x : View). x.shares) is, ap (λ (x : View). x.entries) is);
    missed = record {
      not_home = busy.not_home;
      before = k ∷ [];
      after = [];
      place = refl;
      looks = ap (λ (x : View). x.looks) is ∙ append_assoc v.looks ((k + 1, 0) ∷ []) ((l + 1, word) ∷ []);
      none_there = busy.none_there;
    };
  }

  pub missed_two : (k l slot word : ℕ) → IsBusyTwo v k l slot word w → HasMissed v w (k ∷ l ∷ []) slot word
  missed_two k l slot word busy =
      ⊎_elim
      (λ (b : (slot ≡ k) × IsBusy v k word × (w ≡ with_none v k word)). subst (λ (z : ℕ). HasMissed v w (k ∷ l ∷ []) z word) (sym b.0) (missed_first k l word b.1 b.2))
      (λ (b : (slot ≡ l) × IsBusy v l word × ((piece : PieceLists) × IsGot v k piece × (w ≡ put_again v k l piece word))).
      subst (λ (z : ℕ). HasMissed v w (k ∷ l ∷ []) z word) (sym b.0) (missed_second k l word b.2.0 b.1 b.2.2))
      busy
