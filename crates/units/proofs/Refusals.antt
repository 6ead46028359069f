-- The number of an answer tells which refusal it is.
use Rattle.std.specs.Prelude.{ℕ, ◌≡◌, Result, Ok, Err, eqb, refl}
use mathlib.Core.Path.{sym, ap, ◌∙◌}
use Rattle.units.specs.Logic.{pick}
use Rattle.units.specs.declared.refusal.Refusal.{Refusal}
use Rattle.units.specs.declared.refusal.Refusal.TheVariants.{Record, Bundle, Window, Rates, Delays, Volume, NoOffer, NoDelay, NotOffered, Full, Polynomial, SelfUpdate, Queue, Classes, ZeroLength}
use Rattle.units.specs.Refusal.{told}

-- the refusal with a number, among those that there are
refusal-at : ℕ → Refusal
refusal-at n =
    pick (eqb n 1) Record (pick (eqb n 2) Bundle (pick (eqb n 3) Window (pick (eqb n 4) Rates (pick (eqb n 5) Delays
    (pick (eqb n 6) Volume (pick (eqb n 7) NoOffer (pick (eqb n 8) NoDelay (pick (eqb n 9) NotOffered (pick (eqb n 10) Full
    (pick (eqb n 11) Polynomial (pick (eqb n 12) SelfUpdate (pick (eqb n 13) Queue (pick (eqb n 14) Classes ZeroLength)))))))))))))

answer-at : ℕ → Result Unit Refusal
answer-at n = pick (eqb n 0) (Ok tt) (Err (refusal-at n))

answer-told : (r : Result Unit Refusal) → answer-at (told r) ≡ r
unfolding answer-at refusal-at
answer-told (Ok _) = refl
answer-told (Err Record) = refl
answer-told (Err Bundle) = refl
answer-told (Err Window) = refl
answer-told (Err Rates) = refl
answer-told (Err Delays) = refl
answer-told (Err Volume) = refl
answer-told (Err NoOffer) = refl
answer-told (Err NoDelay) = refl
answer-told (Err NotOffered) = refl
answer-told (Err Full) = refl
answer-told (Err Polynomial) = refl
answer-told (Err SelfUpdate) = refl
answer-told (Err Queue) = refl
answer-told (Err Classes) = refl
answer-told (Err ZeroLength) = refl

pub told-once : (r q : Result Unit Refusal) → told r ≡ told q → r ≡ q
told-once r q h = sym (answer-told r) ∙ ap answer-at h ∙ answer-told q
