-- The doors of the free-volume manager: its calls lent and kept, by value and over a record's parts, a booking by its parts, and the trace program's, by what each promises.
use mathlib.Core.Path.{◌≡◌}
use mathlib.Core.Logic.{◌⊎◌}
use borrow.Fn.Kinds.{Dens, ended_of}
use contract.Lifetimes.{Lfts}
use denote.Triple.Clauses.{AtExit}
use Rattle.units.specs.declared.Date.{Date}
use Rattle.units.specs.declared.Volume.{Volume}
use Rattle.units.specs.declared.TxData.{TxData}
use Rattle.units.specs.declared.Bundle.{Bundle}
use Rattle.units.specs.declared.Offer.{Offer}
use Rattle.units.specs.Logged.{Calls, promising}
use Rattle.units.proofs.Determined.{Met}
use Rattle.units.specs.Granted.{refusal_of}
use Rattle.std.proofs.Common.{Result}
use Rattle.units.specs.declared.refusal.Refusal.{Refusal}
use Rattle.units.specs.Refusal.{told}
use Rattle.contact.specs.Record.{strict_of}
use Rattle.free_list.specs.declared.Chosen.{Chosen}
use Rattle.free_list.specs.declared.Cut.{Cut}
use Rattle.free_list.proofs.changed.Reads as changed-reads
use Rattle.seg.specs.declared.FreeVolume.{FreeVolume}
use Rattle.seg.specs.declared.Booked.{Booked}
use Rattle.seg.specs.Record.{with_left}
use Rattle.seg.specs.DryRun.{dry_run_of}
use Rattle.seg.specs.Book.{book_of, refused_booking}
use Rattle.seg.specs.List.{list_of}
use Rattle.seg.proofs.Promised.{promised}
use Rattle.seg.proofs.FreeVolume.chosen.Reads as chosen-reads
use Rattle.seg.proofs.FreeVolume.cut.Reads as cut-reads
use Rattle.seg.proofs.FreeVolume.dry_run_kept.Reads as kept-dry-reads
use Rattle.seg.proofs.FreeVolume.book_kept.Reads as kept-book-reads
use Rattle.seg.proofs.FreeVolume.book_here.Kinds as here-kinds
use Rattle.seg.proofs.FreeVolume.book_here.Reads as here-reads
use Rattle.howrekano.specs.Words.{free_volume_in}
use Rattle.howrekano.proofs.Unique.{Answered, Stored}
use Rattle.howrekano.proofs.free.hk_free_dry_run_kept.Kinds as words-dry-kinds
use Rattle.howrekano.proofs.free.hk_free_dry_run_kept.Reads as words-dry-reads
use Rattle.howrekano.proofs.free.hk_free_book_kept.Kinds as words-book-kinds
use Rattle.howrekano.proofs.free.hk_free_book_kept.Reads as words-book-reads

-- hk_free_dry_run_kept: parts that make the record, and an answer that its promise allows
module _ (κs : Lfts 4) (a : Dens κs words-dry-kinds.ps) where
  abbrev pub asked : FreeVolume
  asked = free_volume_in a.1.1.1.1.1.1.1.1.1.0.now a.0 a.1.0.now a.1.1.0 a.1.1.1.0.now a.1.1.1.1.0 a.1.1.1.1.1.0.now a.1.1.1.1.1.1.0

abbrev pub DryByWords : FreeVolume → Date → Bundle → Offer → Type 0
DryByWords r at b o =
    (κs : Lfts 4) × (a : Dens κs words-dry-kinds.ps) × (asked κs a ≡ r) × (a.1.1.1.1.1.1.1.0 ≡ at) × (a.1.1.1.1.1.1.1.1.0 ≡ b) × (Met (words-dry-reads.Post κs a) o)

-- hk_free_book_kept: likewise, and the record that the parts make at exit
module _ (κs : Lfts 7) (a : Dens κs words-book-kinds.ps) where
  abbrev pub held : FreeVolume
  held = free_volume_in a.1.1.1.1.1.1.1.1.1.1.1.0.now a.0 a.1.0.now a.1.1.0 a.1.1.1.0.now a.1.1.1.1.0 a.1.1.1.1.1.0.now a.1.1.1.1.1.1.0.now

  abbrev pub Exit : Type 0
  Exit = AtExit (ended_of 7 words-book-kinds.ps words-book-kinds.r) κs

  abbrev pub left : Exit → FreeVolume
  left e = free_volume_in a.1.1.1.1.1.1.1.1.1.1.1.0.now a.0 a.1.0.now a.1.1.0 a.1.1.1.0.now a.1.1.1.1.0 e.1.1.1.1.1.0.now e.1.1.1.1.1.1.0.now

abbrev pub BookByWords : FreeVolume → Date → Bundle → TxData → Booked → Type 0
BookByWords r at b d x =
    (κs : Lfts 7) × (a : Dens κs words-book-kinds.ps) × (e : Exit κs a) × (held κs a ≡ r) × (a.1.1.1.1.1.1.1.1.0 ≡ at) × (a.1.1.1.1.1.1.1.1.1.0 ≡ b) × (a.1.1.1.1.1.1.1.1.1.1.0.now ≡ d)
    × (words-book-reads.Post κs a x.number e) × (left κs a e ≡ x.manager)

-- the trace program's dry run: what is chosen, and its answer
abbrev pub DryChosen : FreeVolume → Date → Bundle → Offer → Type 0
DryChosen r at b o = (c : Chosen) × (Met (chosen-reads.Post tt (r, (at, (b, tt)))) c) × (o ≡ c.offer)

-- and a booking by its parts: the answer's refusal, and the record stays; or a cut where it was chosen, and the room that this changes
abbrev pub BookChosen : FreeVolume → Date → Bundle → TxData → Booked → Type 0
BookChosen r at b d x =
    (c : Chosen) × (Met (chosen-reads.Post tt (r, (at, (b, tt)))) c)
    × (((refusal_of (strict_of r.contact) c.offer d ≡ 0 → ⊥) × (x ≡ refused_booking (refusal_of (strict_of r.contact) c.offer d) r))
    ⊎ ((refusal_of (strict_of r.contact) c.offer d ≡ 0)
    × ((k : Cut) × (n : Volume) × (Met (cut-reads.Post tt (r, (c.place, (d.send, (b.size, tt))))) k) × (Met (changed-reads.Post tt (r.room, (k.off, (k.on, tt)))) n)
    × (x ≡ record { number = k.number; manager = with_left r k.list n }))))

-- the trace program's booking where the record stands: the record that is lent, its number, and the record that is left there
module _ (κs : Lfts 1) (a : Dens κs here-kinds.ps) where
  abbrev pub HereExit : Type 0
  HereExit = AtExit (ended_of 1 here-kinds.ps here-kinds.r) κs

abbrev pub BookHere : FreeVolume → Date → Bundle → TxData → Booked → Type 0
BookHere r at b d x =
    (κs : Lfts 1) × (a : Dens κs here-kinds.ps) × (e : HereExit κs a) × (t : Result Unit Refusal) × (a.0.now ≡ r) × (a.1.0 ≡ at) × (a.1.1.0 ≡ b) × (a.1.1.1.0 ≡ d)
    × (here-reads.Post κs a t e) × (told t ≡ x.number) × (e.0.now ≡ x.manager)

-- every door: a total call lent, a kept one by value, a kept one over a record's parts, a booking by its parts, the trace program's
abbrev pub Dry : FreeVolume → Date → Bundle → Offer → Type 0
Dry r at b o = (Answered (dry_run_of r at b) o) ⊎ ((Met (kept-dry-reads.Post tt (r, (at, (b, tt)))) o) ⊎ ((DryByWords r at b o) ⊎ (DryChosen r at b o)))

abbrev pub Book : FreeVolume → Date → Bundle → TxData → Booked → Type 0
Book r at b d x = (Stored (book_of r at b d).number (book_of r at b d).manager x.number x.manager) ⊎ ((Met (kept-book-reads.Post tt (r, (at, (b, (d, tt))))) x) ⊎ ((BookByWords r at b d x) ⊎ ((BookChosen r at b d x) ⊎ (BookHere r at b d x))))

abbrev pub doors : Calls
doors = promising promised Dry Book (λ r o. Answered (list_of r) o) (λ r a. ⊥)
