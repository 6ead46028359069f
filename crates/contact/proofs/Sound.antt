-- What a contact that passes its test is, in the terms of the rounding and lookup rules.
use Prim.Native.Nat.{ℕ, ◌+◌, ◌-◌, ◌<◌, ◌≤◌}
use mathlib.Core.Bool.{true}
use mathlib.Core.Path.{◌≡◌, sym, ◌∙◌}
use mathlib.Core.List.{List, [], ◌∷◌}
use native.Mathlib.Omega.{arith}
use lib.ListN.{take}
use borrow.Author.Tests.{eqb-true}
use Rattle.units.specs.Logic.{all_of}
use Rattle.units.specs.Limits.{date_max, length_max, segments_max, volume_max}
use Rattle.units.proofs.Logic.{both-fst, both-snd}
use Rattle.units.proofs.Windows.{Window, window}
use Rattle.segmentation.specs.declared.VolumeSegment.{VolumeSegment}
use Rattle.segmentation.specs.End.{close_of}
use Rattle.segmentation.specs.Granted.{Run}
use Rattle.contact.specs.declared.Contact.{Contact}
use Rattle.contact.specs.Choices.{choices_ok}
use Rattle.contact.specs.Segments.{volume_span, delay_span, spans, delay_ok, delays_ok}
use Rattle.contact.specs.Record.{total_in, contact_ok}
use Rattle.contact.specs.Granted.{counted_volumes}
use Rattle.contact.proofs.Spans.{Inside, spans-end, spans-inside, spans-rest}
use Rattle.contact.proofs.Volumes.{Kept, Takes, kept-first, kept-rest, volumes-kept}
use Rattle.contact.proofs.Delays.{delays-some, delays-most, delays-span, delays-brief}
use Rattle.contact.proofs.Records.{contact_is, volumes-some, volumes-most, volumes-hold}

pub record Sound (c : Contact) : Type 0 where
  pub chosen : choices_ok c.choices ≡ true
  pub some : c.window.start.0 < c.window.end.0
  pub date : c.window.end.0 ≤ date_max
  pub short : c.window.end.0 ≤ c.window.start.0 + length_max
  pub rates : (1 ≤ c.rate_count) × (c.rate_count ≤ segments_max)
  pub delays : (1 ≤ c.delay_count) × (c.delay_count ≤ segments_max)
  pub run : Run c.window.start.0 (take c.rate_count c.rates)
  pub close : close_of c.window.start.0 (take c.rate_count c.rates) ≡ c.window.end.0
  pub total : total_in c ≤ volume_max
  pub covered : spans delay_span c.window.start.0 c.window.end.0 (take c.delay_count c.delays) ≡ true
  pub brief : all_of delay_ok (take c.delay_count c.delays) ≡ true

-- segments that are the window end with it
pub spans-close : (b : ℕ) (l : List VolumeSegment) (a : ℕ) → spans volume_span a b l ≡ true → close_of a l ≡ b
unfolding close_of
spans-close b [] a e = eqb-true a b (sym (spans-end volume_span b a) ∙ e)
spans-close b (s ∷ l) a e = spans-close b l s.end.0 (spans-rest volume_span b s l a e)

-- volume segments that are kept in a window run on
pub kept_run : (lo b : ℕ) → b ≤ lo + length_max → b ≤ date_max → (l : List VolumeSegment) (a room : ℕ) → lo ≤ a → room ≤ volume_max → Kept b a room l → Run a l
unfolding Run
kept_run lo b short date [] a room h m k = tt
kept_run lo b short date (s ∷ l) a room h m k =
    let t : Takes s a room = kept-first b a room s l k in
    let i : Inside a b (volume_span s) = spans-inside volume_span b s l a k.spanned in (
      t.start,
      record { some = t.some; short = omega arith; date = omega arith; small = omega arith; whole = t.whole },
      kept_run lo b short date l s.end.0 (room - s.volume.0) (omega arith) (omega arith) (kept-rest b a room s l k),
    )

pub sound : (c : Contact) → contact_ok c ≡ true → Sound c
sound c e =
    let tests = sym (contact_is c) ∙ e in
    let e0 = both-snd _ _ tests in
    let e1 = both-snd _ _ e0 in
    let w : Window c.window = window _ (both-fst _ _ e0) in
    let v : counted_volumes c.window c.rate_count c.rates ≡ true = both-fst _ _ (both-fst _ _ e1) in
    let d : delays_ok c.window c.delay_count c.delays ≡ true = both-fst _ _ (both-snd _ _ e1) in
    let k : Kept c.window.end.0 c.window.start.0 volume_max (take c.rate_count c.rates) = volumes-kept _ _ (volumes-hold _ _ _ v) in
    record {
      chosen = both-fst _ _ tests;
      some = w.some;
      date = w.date;
      short = w.short;
      rates = (volumes-some _ _ _ v, volumes-most _ _ _ v);
      delays = (delays-some _ _ _ d, delays-most _ _ _ d);
      run = kept_run c.window.start.0 c.window.end.0 w.short w.date _ _ volume_max (omega arith) (omega arith) k;
      close = spans-close _ _ _ k.spanned;
      total = k.total;
      covered = delays-span _ _ _ d;
      brief = delays-brief _ _ _ d;
    }
