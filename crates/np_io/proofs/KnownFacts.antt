-- Known bytes that grow at their end, or lose their first bytes, in two steps.
use Rattle.std.proofs.Common.{◌≡◌, ℕ, ◌+◌, List, ◌++◌, take, drop, Option, None, Some, refl, ap, sym, ◌∙◌, append_assoc}
use Rattle.std.proofs.Math.Seq.{take-add}
use Rattle.std.specs.Io.KnownBytes.{prepend_known, append_known}

pub append_known-append : (known : Option (List ℕ)) (xs ys : List ℕ)
    → append_known (append_known known xs) ys ≡ append_known known (xs ++ ys)
append_known-append None xs ys = refl
append_known-append (Some known) xs ys = ap Some (append_assoc known xs ys)

pub prepend_known-append : (known : Option (List ℕ)) (xs ys : List ℕ)
    → prepend_known xs (prepend_known ys known) ≡ prepend_known (xs ++ ys) known
prepend_known-append None xs ys = refl
prepend_known-append (Some known) xs ys = ap Some (sym (append_assoc xs ys known))

-- the first n bytes of a text were appended, and then the next m
pub append_known-take : (before between after : Option (List ℕ)) (text : List ℕ) (n m : ℕ)
    → between ≡ append_known before (take n text) → after ≡ append_known between (take m (drop n text))
    → after ≡ append_known before (take (n + m) text)
append_known-take before between after text n m first next =
    next ∙ ap (λ known. append_known known (take m (drop n text))) first
    ∙ append_known-append before (take n text) (take m (drop n text))
    ∙ ap (append_known before) (sym (take-add n m text))

-- some bytes were taken off the front, and then more
pub prepend_known-then : (before between after : Option (List ℕ)) (xs ys : List ℕ)
    → before ≡ prepend_known xs between → between ≡ prepend_known ys after
    → before ≡ prepend_known (xs ++ ys) after
prepend_known-then before between after xs ys first next =
    first ∙ ap (prepend_known xs) next ∙ prepend_known-append after xs ys
