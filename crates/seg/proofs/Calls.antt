-- Each call by what its tests tell: the dry run is what is chosen, and a booking goes by that answer.
use Prim.Native.Nat.{ℕ}
use mathlib.Core.Bool.{Bool, true, false}
use mathlib.Core.Path.{◌≡◌, refl, sym, ap, ◌∙◌}
use mathlib.Core.Logic.{⊎_elim}
use native.Mathlib.Omega.{arith}
use lib.Dec.{eqb}
use borrow.Author.Tests.{eq-eqb, ne_eqb}
use Rattle.units.specs.declared.Date.{Date}
use Rattle.units.specs.declared.Interval.{Interval}
use Rattle.units.specs.declared.TxData.{TxData}
use Rattle.units.specs.declared.Bundle.{Bundle}
use Rattle.units.specs.declared.Offer.{Offer}
use Rattle.units.specs.Logic.{unless}
use Rattle.units.specs.Limits.{bundle_ok}
use Rattle.units.specs.Answer.{refused, offers, booking_of}
use Rattle.units.specs.Strict.{forbids}
use Rattle.units.specs.Granted.{refusal_of}
use Rattle.units.proofs.Logic.{unless-go, unless-stop, unless-keeps}
use Rattle.units.proofs.Booking.{refusal-none}
use Rattle.units.proofs.Loads.{asked-load, load}
use Rattle.segmentation.specs.declared.Delays.{Delays}
use Rattle.contact.specs.Record.{edition_of, strict_of, rates_of, delays_at}
use Rattle.free_list.specs.declared.Fit.{Fit}
use Rattle.std.specs.Prelude.{Option, Some, None}
use Rattle.free_list.specs.declared.Cut.{Cut}
use Rattle.free_list.specs.Offer.{fit_at}
use Rattle.free_list.specs.Granted.{Inside, none_chosen, chosen_at, chosen_in}
use Rattle.free_list.proofs.CutList.{cut-number, cut-refused}
use Rattle.free_list.proofs.ByChoice.{chosen-stop, chosen-found as by-found, table, table-refused, table_fits, table-found, table_done}
use Rattle.seg.specs.declared.FreeVolume.{FreeVolume}
use Rattle.seg.specs.declared.Booked.{Booked}
use Rattle.seg.specs.Record.{record_ok, with_free}
use Rattle.seg.specs.DryRun.{dry_run_of, found_of, answer_to}
use Rattle.seg.specs.Book.{book_of, booked_of, booked_at, refused_booking, cut_free}
use Rattle.seg.specs.Granted.{chosen_of, booked_by}
use Rattle.seg.proofs.Facts.{Facts, facts, own-list, cut-asks}

-- refused or done, a booking is what the cut leaves: with its own list, and that list's room, a record is the one that came
module _ (r : FreeVolume) (q : Facts r) (i : ℕ) (send : Interval) (v : ℕ) where
  abbrev cut : Cut
  cut = cut_free r i send v

  booked-by : booked_of r i send v ≡ booked_by r cut
  booked-by =
      ⊎_elim
      (λ (z : cut.number ≡ 0). unless-go _ _ _ (eq-eqb _ _ z) ∙ ap (λ (n : ℕ). record { number = n; manager = with_free r cut.list }) (sym z))
      (λ (z : cut.number ≡ 10).
      let none : cut.number ≡ 0 → ⊥ = λ y. omega arith in
      let same : with_free r cut.list ≡ r = ap (with_free r) (cut-refused (edition_of r.contact) (rates_of r.contact) r.free i send.start.0 send.end.0 v none) ∙ own-list r q in
      unless-stop _ _ _ (ne_eqb _ _ none) ∙ ap (refused_booking cut.number) (sym same))
      (cut-number (edition_of r.contact) (rates_of r.contact) r.free i send.start.0 send.end.0 v)

-- a booking's own numbers are 0, 9 and 10
module _ (r : FreeVolume) (n : ℕ) (other : (n ≡ 0 → ⊥) × (n ≡ 9 → ⊥) × (n ≡ 10 → ⊥)) where
  pub booked-number : (f : Option Fit) (v : ℕ) → (booked_at r f v).number ≡ n → ⊥
  booked-number (Some f) v =
      unless-keeps (λ (x : Booked). x.number ≡ n → ⊥) (eqb (cut_free r f.place f.send v).number 0) _ _
      (λ _ h. ⊎_elim (λ (z : (cut_free r f.place f.send v).number ≡ 0). other.0 (sym h ∙ z)) (λ (z : (cut_free r f.place f.send v).number ≡ 10). other.2 (sym h ∙ z))
      (cut-number (edition_of r.contact) (rates_of r.contact) r.free f.place f.send.start.0 f.send.end.0 v))
      (λ _ h. other.0 (sym h))
  booked-number None v = λ h. other.1 (sym h)

module _ (r : FreeVolume) (at : Date) (b : Bundle) where
  pub dry-record : record_ok r ≡ false → dry_run_of r at b ≡ refused 1
  unfolding dry_run_of
  dry-record e = unless-stop _ _ _ e

  pub book-record : (d : TxData) → record_ok r ≡ false → book_of r at b d ≡ refused_booking 1 r
  unfolding book_of
  book-record d e = unless-stop _ _ _ e

  abbrev fits : Bool
  fits = bundle_ok at b

  abbrev find : ℕ → ℕ → Option Delays
  find = delays_at r.contact

  abbrev found : Option Fit
  found = found_of r at.0 b.size.0

  pub chosen-bundle : bundle_ok at b ≡ false → chosen_of r at b ≡ none_chosen 2
  unfolding chosen_of
  chosen-bundle e = chosen-stop fits find found e

  pub chosen-as : {f : Option Fit} → bundle_ok at b ≡ true → found_of r at.0 b.size.0 ≡ f → chosen_of r at b ≡ chosen_at (delays_at r.contact) f
  unfolding chosen_of
  chosen-as q e = by-found fits find found q e

  module _ (ok : record_ok r ≡ true) where
    pub chosen-offer : (chosen_of r at b).offer ≡ dry_run_of r at b
    unfolding chosen_of dry_run_of
    chosen-offer = same-offer fits found ∙ sym (unless-go _ _ _ ok)
      where
        same-offer : (c : Bool) (f : Option Fit) → (chosen_in c find f).offer ≡ unless c (refused 2) (answer_to r f)
        same-offer true (Some x) = refl
        same-offer true None = refl
        same-offer false f = refl

    module _ (d : TxData) where
      abbrev refuse : ℕ → Booked
      refuse n = refused_booking n r

      abbrev strict : ℕ
      strict = strict_of r.contact

      abbrev done : Option Fit → Booked
      done f = booked_at r f b.size.0

      book-is : book_of r at b d ≡ table fits find found strict d refuse done
      unfolding book_of chosen_of
      book-is =
          unless-go _ _ _ ok
          ∙ ap (λ (o : Offer). booking_of true fits (offers o d) (forbids strict d.send) refuse (done found)) (sym chosen-offer)

      pub chosen-refused : (refusal_of (strict_of r.contact) (chosen_of r at b).offer d ≡ 0 → ⊥) → book_of r at b d ≡ refused_booking (refusal_of (strict_of r.contact) (chosen_of r at b).offer d) r
      unfolding chosen_of
      chosen-refused some = book-is ∙ table-refused fits find found strict d refuse done some

      module _ (none : refusal_of (strict_of r.contact) (chosen_of r at b).offer d ≡ 0) where
        pub chosen-fits : bundle_ok at b ≡ true
        unfolding chosen_of
        chosen-fits = table_fits fits find found strict d refuse done (refusal-none strict _ d none).0

        -- the dates send what the search found
        pub chosen-found : found_of r at.0 b.size.0 ≡ fit_at (chosen_of r at b).place d.send
        unfolding chosen_of
        chosen-found = table-found fits find found strict d refuse done (refusal-none strict _ d none).0

        pub chosen-done : (book_of r at b d ≡ booked_by r (cut_free r (chosen_of r at b).place d.send b.size.0)) × Inside r.free (chosen_of r at b).place b.size.0
        unfolding chosen_of
        chosen-done = (
          book-is ∙ table_done fits find found strict d refuse done none ∙ booked-by r (facts r ok) _ _ _,
          cut-asks r (facts r ok) at.0 b.size.0 (load b (asked-load at b chosen-fits)).some (chosen_of r at b).place d.send chosen-found,
        )
