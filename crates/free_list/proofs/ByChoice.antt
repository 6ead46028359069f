-- A booking by what its dry run chose, over any manager with a free list: refused as the answer tells, or done where the search found it.
use Rattle.std.specs.Prelude.{Option, Some, None}
use Prim.Native.Nat.{ℕ}
use mathlib.Core.Bool.{Bool, true, false}
use mathlib.Core.Path.{◌≡◌, sym, ap, ◌∙◌}
use native.Mathlib.Omega.{arith}
use Rattle.units.specs.declared.Interval.{Interval}
use Rattle.units.specs.declared.TxData.{TxData}
use Rattle.units.specs.declared.Offer.{Offer}
use Rattle.units.specs.Answer.{offers, booking_of}
use Rattle.units.specs.Strict.{forbids}
use Rattle.units.specs.Granted.{refusal_of}
use Rattle.units.proofs.Logic.{no_both, unless-go, unless-stop}
use Rattle.units.proofs.Booking.{refusal-none, booking-refused, shown-fits, booking-done}
use Rattle.segmentation.specs.declared.Delays.{Delays}
use Rattle.contact.proofs.Offers.{refused-offers, offers-send, answer-not-two}
use Rattle.free_list.specs.declared.Fit.{Fit}
use Rattle.free_list.specs.declared.Chosen.{Chosen}
use Rattle.free_list.specs.Offer.{fit_at}
use Rattle.free_list.specs.Granted.{none_chosen, chosen_at, chosen_in}

-- what was found, as an answer
module _ (find : ℕ → ℕ → Option Delays) where
  not-two : (f : Option Fit) → (chosen_at find f).offer.number ≡ 2 → ⊥
  not-two (Some x) h = answer-not-two find x.send h
  not-two None h = omega arith

  found-sends : (f : Option Fit) (d : TxData) → offers (chosen_at find f).offer d ≡ true → f ≡ fit_at (chosen_at find f).place d.send
  found-sends (Some x) d o = ap (λ (send : Interval). fit_at x.place send) (offers-send find x.send d o)
  found-sends None d o = absurd (no_both o (refused-offers 7 d (λ z. omega arith)))

module _ (fits : Bool) (find : ℕ → ℕ → Option Delays) (f : Option Fit) where
  pub chosen-stop : fits ≡ false → chosen_in fits find f ≡ none_chosen 2
  chosen-stop e = unless-stop _ _ _ e

  chosen-go : fits ≡ true → chosen_in fits find f ≡ chosen_at find f
  chosen-go e = unless-go _ _ _ e

  pub chosen-found : {g : Option Fit} → fits ≡ true → f ≡ g → chosen_in fits find f ≡ chosen_at find g
  chosen-found e h = chosen-go e ∙ ap (chosen_at find) h

  abbrev chosen : Chosen
  chosen = chosen_in fits find f

  abbrev offer : Offer
  offer = chosen.offer

  -- the number of what is chosen is 2 where the bundle does not fit, and only there
  two : fits ≡ false → offer.number ≡ 2
  two e = ap (λ (x : Chosen). x.offer.number) (chosen-stop e)

  only_two : fits ≡ true → offer.number ≡ 2 → ⊥
  only_two e h = not-two find f (sym (ap (λ (x : Chosen). x.offer.number) (chosen-go e)) ∙ h)

  module _ {B : Type 0} (strict : ℕ) (d : TxData) (refuse : ℕ → B) (done : Option Fit → B) where
    -- 2, 9, 17, then the booking of what was found
    abbrev pub table : B
    table = booking_of true fits (offers offer d) (forbids strict d.send) refuse (done f)

    pub table-refused : (refusal_of strict (chosen_in fits find f).offer d ≡ 0 → ⊥) → table ≡ refuse (refusal_of strict (chosen_in fits find f).offer d)
    table-refused some = booking-refused strict offer d fits refuse (done f) two only_two some

    -- what is offered is what the search found, for a bundle inside its limits
    module _ (shows : offers (chosen_in fits find f).offer d ≡ true) where
      pub table_fits : fits ≡ true
      table_fits = shown-fits strict offer d fits refuse (done f) two shows

      pub table-found : f ≡ fit_at (chosen_in fits find f).place d.send
      table-found =
          let e = chosen-go table_fits in
          rw e (found-sends find f d (sym (ap (λ (x : Chosen). offers x.offer d) e) ∙ shows))

    module _ (none : refusal_of strict (chosen_in fits find f).offer d ≡ 0) where
      pub table_done : table ≡ done (fit_at (chosen_in fits find f).place d.send)
      table_done = booking-done strict offer d fits refuse (done f) two none ∙ ap done (table-found (refusal-none strict offer d none).0)
