-- Each call by what its tests tell: the dry run is what is chosen, and a booking goes by that answer.
use Rattle.std.specs.Prelude.{Option, Some, None}
use Prim.Native.Nat.{ℕ, ◌≤◌}
use mathlib.Core.Bool.{Bool, true, false}
use mathlib.Core.Path.{◌≡◌, refl, sym, ap, ◌∙◌}
use mathlib.Core.List.{[]}
use mathlib.Core.Logic.{⊎_elim}
use Rattle.units.specs.declared.Date.{Date}
use Rattle.units.specs.declared.TxData.{TxData}
use Rattle.units.specs.declared.Bundle.{Bundle}
use Rattle.units.specs.declared.Offer.{Offer}
use Rattle.units.specs.Logic.{unless}
use Rattle.units.specs.Limits.{bundle_ok}
use Rattle.units.specs.Answer.{refused, offers, booking_of}
use Rattle.units.specs.Strict.{forbids}
use Rattle.units.specs.Granted.{refusal_of}
use Rattle.units.proofs.Logic.{unless-go, unless-stop}
use Rattle.units.proofs.Booking.{refusal-none}
use Rattle.units.proofs.Loads.{asked-load, load}
use Rattle.free_list.specs.Offer.{fit_at}
use Rattle.free_list.specs.declared.Fit.{Fit}
use Rattle.free_list.specs.Cut.{list_in}
use Rattle.free_list.specs.Granted.{Inside, none_chosen, chosen_at, chosen_in}
use Rattle.free_list.proofs.CutList.{cut-number}
use Rattle.free_list.proofs.ByChoice.{chosen-stop, chosen-found as by-found, table, table-refused, table_fits, table-found, table_done}
use Rattle.poly_seg.specs.declared.PolySeg.{PolySeg}
use Rattle.poly_seg.specs.declared.Booked.{Booked}
use Rattle.poly_seg.specs.Record.{strict_of, delays_at, record_ok}
use Rattle.poly_seg.specs.DryRun.{dry_run_of, found_of, answer_to}
use Rattle.poly_seg.specs.Book.{book_of, booked_of, booked_at, refused_booking, cut_free}
use Rattle.poly_seg.specs.List.{list_of}
use Rattle.poly_seg.specs.Granted.{chosen_of}
use Rattle.poly_seg.proofs.Facts.{facts, cut-asks}

module _ (r : PolySeg) where
  pub list-record : record_ok r ≡ false → list_of r ≡ record { number = 1; list = list_in [] }
  unfolding list_of
  list-record e = unless-stop _ _ _ e

  pub list_done : record_ok r ≡ true → list_of r ≡ record { number = 0; list = r.free }
  unfolding list_of
  list_done e = unless-go _ _ _ e

  -- a dry run answers what is chosen
  same-offer : (c : Bool) (f : Option Fit) → (chosen_in c (delays_at r) f).offer ≡ unless c (refused 2) (answer_to r f)
  same-offer true (Some x) = refl
  same-offer true None = refl
  same-offer false f = refl

-- a booking's own numbers are 0, 9 and 10
module _ (r : PolySeg) (n : ℕ) (other : (n ≡ 0 → ⊥) × (n ≡ 9 → ⊥) × (n ≡ 10 → ⊥)) where
  pub booked-number : (f : Option Fit) → (booked_at r f).number ≡ n → ⊥
  booked-number (Some x) h =
      ⊎_elim (λ (z : (cut_free r x.place x.send).number ≡ 0). other.0 (sym h ∙ z)) (λ (z : (cut_free r x.place x.send).number ≡ 10). other.2 (sym h ∙ z))
      (cut-number 1 [] r.free x.place x.send.start.0 x.send.end.0 0)
  booked-number None h = other.1 (sym h)

module _ (r : PolySeg) (at : Date) (b : Bundle) where
  pub dry-record : record_ok r ≡ false → dry_run_of r at b ≡ refused 1
  unfolding dry_run_of
  dry-record e = unless-stop _ _ _ e

  pub book-record : (d : TxData) → record_ok r ≡ false → book_of r at b d ≡ refused_booking 1 r
  unfolding book_of
  book-record d e = unless-stop _ _ _ e

  abbrev found : Option Fit
  found = found_of r at.0 b.size.0

  abbrev refuse : ℕ → Booked
  refuse n = refused_booking n r

  pub chosen-bundle : bundle_ok at b ≡ false → chosen_of r at b ≡ none_chosen 2
  unfolding chosen_of
  chosen-bundle e = chosen-stop (bundle_ok at b) (delays_at r) found e

  pub chosen-as : {f : Option Fit} → bundle_ok at b ≡ true → found_of r at.0 b.size.0 ≡ f → chosen_of r at b ≡ chosen_at (delays_at r) f
  unfolding chosen_of
  chosen-as q e = by-found (bundle_ok at b) (delays_at r) found q e

  module _ (ok : record_ok r ≡ true) where
    pub chosen-offer : (chosen_of r at b).offer ≡ dry_run_of r at b
    unfolding chosen_of dry_run_of
    chosen-offer = same-offer r (bundle_ok at b) found ∙ sym (unless-go _ _ _ ok)

    module _ (d : TxData) where
      book-is : book_of r at b d ≡ table (bundle_ok at b) (delays_at r) found (strict_of r) d refuse (booked_at r)
      unfolding book_of chosen_of
      book-is =
          unless-go _ _ _ ok
          ∙ ap (λ (o : Offer). booking_of true (bundle_ok at b) (offers o d) (forbids (strict_of r) d.send) refuse (booked_at r found)) (sym chosen-offer)

      pub chosen-refused : (refusal_of (strict_of r) (chosen_of r at b).offer d ≡ 0 → ⊥) → book_of r at b d ≡ refused_booking (refusal_of (strict_of r) (chosen_of r at b).offer d) r
      unfolding chosen_of
      chosen-refused some = book-is ∙ table-refused (bundle_ok at b) (delays_at r) found (strict_of r) d refuse (booked_at r) some

      -- dates that the dry run offers send what the search found
      module _ (same : offers (dry_run_of r at b) d ≡ true) where
        shows : offers (chosen_of r at b).offer d ≡ true
        shows = ap (λ (o : Offer). offers o d) chosen-offer ∙ same

        pub chosen-some : 1 ≤ b.size.0
        unfolding chosen_of
        chosen-some = (load b (asked-load at b (table_fits (bundle_ok at b) (delays_at r) found (strict_of r) d refuse (booked_at r) shows))).some

        pub chosen-found : found_of r at.0 b.size.0 ≡ fit_at (chosen_of r at b).place d.send
        unfolding chosen_of
        chosen-found = table-found (bundle_ok at b) (delays_at r) found (strict_of r) d refuse (booked_at r) shows

      module _ (none : refusal_of (strict_of r) (chosen_of r at b).offer d ≡ 0) where
        -- what is not refused is offered
        pub chosen-same : offers (dry_run_of r at b) d ≡ true
        chosen-same = sym (ap (λ (o : Offer). offers o d) chosen-offer) ∙ (refusal-none (strict_of r) _ d none).0

        pub chosen-done : (book_of r at b d ≡ booked_of r (chosen_of r at b).place d.send) × Inside r.free (chosen_of r at b).place 0
        unfolding chosen_of
        chosen-done = (
          book-is ∙ table_done (bundle_ok at b) (delays_at r) found (strict_of r) d refuse (booked_at r) none,
          cut-asks r (facts r ok) at.0 b.size.0 (chosen-some chosen-same) _ d.send (chosen-found chosen-same),
        )
