-- Each call's promise determines its answer and the record. `Post` is the reading of the contract in src/.
use Prim.Native.Nat.{ℕ}
use contract.Lifetimes.{Lfts}
use mathlib.Core.Bool.{true, false}
use mathlib.Core.Path.{◌≡◌, sym, ◌∙◌}
use lib.ListN.{take}
use Rattle.std.proofs.Common.{Bor, Option, option_map}
use Rattle.units.proofs.Logic.{no_both}
use Rattle.contact.proofs.Told.{lent-once}
use Rattle.poly_seg.specs.Open.{delays_ok, delays_by}
use mathlib.Core.List.{List}
use Rattle.units.specs.declared.Date.{Date}
use Rattle.units.specs.declared.Interval.{Interval}
use Rattle.units.specs.declared.TxData.{TxData}
use Rattle.units.specs.declared.Bundle.{Bundle}
use Rattle.units.proofs.Determined.{Determined}
use Rattle.segmentation.specs.declared.VolumeSegment.{VolumeSegment}
use Rattle.segmentation.specs.declared.Rule.{Rule}
use Rattle.segmentation.specs.declared.DelaySegment.{DelaySegment}
use Rattle.poly.specs.declared.Polynome.{Polynome}
use Rattle.poly.specs.declared.terms.WindowTerms.{WindowTerms}
use Rattle.poly_seg.specs.declared.Choices.{Choices}
use Rattle.poly_seg.specs.declared.PolySeg.{PolySeg}
use Rattle.poly_seg.proofs.Choices.ported.Reads as ported-reads
use Rattle.poly_seg.proofs.Choices.ok.Reads as choices-ok-reads
use Rattle.poly_seg.proofs.delay_ok.Reads as delay-ok-reads
use Rattle.poly_seg.proofs.delays_ok.Reads as delays-ok-reads
use Rattle.poly_seg.proofs.delays_by.Reads as delays-by-reads
use Rattle.poly_seg.proofs.bare_segment.Reads as bare-segment-reads
use Rattle.poly_seg.proofs.bare_ok.Reads as bare-ok-reads
use Rattle.poly_seg.proofs.end_in.Reads as end-in-reads
use Rattle.poly_seg.proofs.find_offer.Reads as find-offer-reads
use Rattle.poly_seg.proofs.PolySeg.open.Reads as open-reads
use Rattle.poly_seg.proofs.PolySeg.ok.Reads as ok-reads
use Rattle.poly_seg.proofs.PolySeg.chosen.Reads as chosen-reads
use Rattle.poly_seg.proofs.PolySeg.dry_run_kept.Reads as dry-run-kept-reads
use Rattle.poly_seg.proofs.PolySeg.dry_run.Reads as dry-run-reads
use Rattle.poly_seg.proofs.PolySeg.book_kept.Reads as book-kept-reads
use Rattle.poly_seg.proofs.PolySeg.book.Reads as book-reads
use Rattle.poly_seg.proofs.PolySeg.cut.Reads as cut-reads
use Rattle.poly_seg.proofs.PolySeg.list.Reads as list-reads

pub ported-unique : Determined (ported-reads.Post tt tt)
ported-unique r q x y f g = f ∙ sym g

pub choices-ok-unique : (h : Choices) → Determined (choices-ok-reads.Post tt (h, tt))
choices-ok-unique h r q x y f g = f ∙ sym g

pub delay-ok-unique : (s : DelaySegment) → Determined (delay-ok-reads.Post tt (s, tt))
delay-ok-unique s r q x y f g = f ∙ sym g

-- of a list that is lent back: whether, and which
module _ (lf : Lfts 1) (delays : Bor (List DelaySegment)) (k : ℕ) where
  pub delays-ok-unique : (r q : Option (Bor (List DelaySegment))) (x y : _) → delays-ok-reads.Post lf (delays, (k, tt)) r x → delays-ok-reads.Post lf (delays, (k, tt)) q y
      → option_map (λ l. l.now) r ≡ option_map (λ l. l.now) q
  delays-ok-unique r q x y f g =
      lent-once (delays_ok k delays.now ≡ false) (λ l. (delays_ok k delays.now ≡ true) × (l.now ≡ take k delays.now)) (λ l a b. no_both b.0 a) (λ l k a b. a.1 ∙ sym b.1) r q f g

  pub delays-by-unique : (rule : Rule) (w : Interval) (r q : Option (Bor (List DelaySegment))) (x y : _)
      → delays-by-reads.Post lf (rule, (w, (delays, (k, tt)))) r x → delays-by-reads.Post lf (rule, (w, (delays, (k, tt)))) q y
      → option_map (λ l. l.now) r ≡ option_map (λ l. l.now) q
  delays-by-unique rule w r q x y f g =
      lent-once (delays_by rule.0 w k delays.now ≡ false) (λ l. (delays_by rule.0 w k delays.now ≡ true) × (l.now ≡ take k delays.now)) (λ l a b. no_both b.0 a) (λ l k a b. a.1 ∙ sym b.1) r q f g

pub bare-segment-unique : (s : VolumeSegment) (low hi : Date) → Determined (bare-segment-reads.Post tt (s, (low, (hi, tt))))
bare-segment-unique s low hi r q x y f g = f ∙ sym g

pub bare-ok-unique : (lf : Lfts 1) (segments : Bor (List VolumeSegment)) (w : Interval) → Determined (bare-ok-reads.Post lf (segments, (w, tt)))
bare-ok-unique lf segments w r q x y f g = f ∙ sym g

pub end-in-unique : (t : WindowTerms) (g : VolumeSegment) (asked : Date) (size : ℕ) → Determined (end-in-reads.Post tt (t, (g, (asked, (size, tt)))))
end-in-unique t g asked size r q x y f g' = f ∙ sym g'

pub find-offer-unique : (lf : Lfts 1) (t : WindowTerms) (free : Bor (List VolumeSegment)) (asked : Date) (size : ℕ) → Determined (find-offer-reads.Post lf (t, (free, (asked, (size, tt)))))
find-offer-unique lf t free asked size r q x y f g = f ∙ sym g

pub open-unique : (h : Choices) (w : Interval) (p : Polynome) (delays : List DelaySegment) (k : ℕ) → Determined (open-reads.Post tt (h, (w, (p, (delays, (k, tt))))))
open-unique h w p delays k r q x y f g = f ∙ sym g

module _ (self : PolySeg) where
  pub ok-unique : Determined (ok-reads.Post tt (self, tt))
  ok-unique r q x y f g = f ∙ sym g

  pub chosen-unique : (at : Date) (b : Bundle) → Determined (chosen-reads.Post tt (self, (at, (b, tt))))
  chosen-unique at b r q x y f g = f ∙ sym g

  pub dry-run-kept-unique : (at : Date) (b : Bundle) → Determined (dry-run-kept-reads.Post tt (self, (at, (b, tt))))
  dry-run-kept-unique at b r q x y f g = f ∙ sym g

  pub dry-run-unique : (at : Date) (b : Bundle) → Determined (dry-run-reads.Post tt (self, (at, (b, tt))))
  dry-run-unique at b r q x y f g = f ∙ sym g

  pub book-kept-unique : (at : Date) (b : Bundle) (d : TxData) → Determined (book-kept-reads.Post tt (self, (at, (b, (d, tt)))))
  book-kept-unique at b d r q x y f g = f ∙ sym g

  pub book-unique : (at : Date) (b : Bundle) (d : TxData) → Determined (book-reads.Post tt (self, (at, (b, (d, tt)))))
  book-unique at b d r q x y f g = f ∙ sym g

  pub cut-unique : (place : ℕ) (send : Interval) → Determined (cut-reads.Post tt (self, (place, (send, tt))))
  cut-unique place send r q x y f g = f ∙ sym g

  pub list-unique : Determined (list-reads.Post tt (self, tt))
  list-unique r q x y f g = f ∙ sym g
