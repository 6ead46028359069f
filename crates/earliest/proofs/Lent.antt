-- R-8 over the promises of the library's calls, to which the record, or its parts, are lent; the static library exports them with the same contracts (howrekano_c, proofs/Exported).
use Prim.Native.Nat.{ℕ}
use mathlib.Core.Bool.{true}
use mathlib.Core.Path.{◌≡◌, sym, ◌∙◌}
use seplogic.Ra.Ura.{Ura}
use base.Logic.{SProp, ent, id⊢}
use borrow.Fn.Kinds.{Dens}
use prog.Memory.{Memory}
use prog.Routine.{Routine}
use types.Logic.{Logic}
use contract.Lifetimes.{Lfts}
use contract.Fact.{fact_i, fact_use}
use contract.Monad.{Fun, fact}
use denote.MutBor.{MutBor}
use denote.Ref.{Bor}
use denote.Triple.Clauses.{AtExit}
use Rattle.units.specs.declared.Date.{Date}
use Rattle.units.specs.declared.TxData.{TxData}
use Rattle.units.specs.declared.Bundle.{Bundle}
use Rattle.units.specs.declared.Offer.{Offer}
use Rattle.units.specs.Limits.{bundle_ok}
use Rattle.units.proofs.Determined.{Met}
use Rattle.pseg.specs.declared.PrioritySeg.{PrioritySeg}
use Rattle.pseg.specs.Record.{record_ok}
use Rattle.howrekano.specs.Words.{priority_seg_in}
use Rattle.howrekano.specs.contracts.priority.hk_priority_dry_run as dry_run
use Rattle.howrekano.specs.contracts.priority.hk_priority_book as book
use Rattle.howrekano.proofs.priority.hk_priority_dry_run_kept.Kinds as dry-run-kept-kinds
use Rattle.howrekano.proofs.priority.hk_priority_dry_run_kept.Reads as dry-run-kept-reads
use Rattle.howrekano.proofs.priority.hk_priority_book_kept.Kinds as book-kept-kinds
use Rattle.howrekano.proofs.priority.hk_priority_book_kept.Reads as book-kept-reads
use Rattle.earliest.specs.Start.{Least}
use Rattle.earliest.specs.Earliest.{StartIn, NoEmpty, Earliest}
use Rattle.earliest.specs.Rest.{Rest}
use Rattle.earliest.proofs.Earliest.{dry-earliest}
use Rattle.earliest.proofs.Booking.{book-earliest}

-- what follows from a fact
told : {M : Type 1} (𝓤 : Ura M) (A B : Type 0) → (A → B) → ent 𝓤 (fact 𝓤 A) (fact 𝓤 B)
told 𝓤 A B f = fact_use 𝓤 A (id⊢ 𝓤 (fact 𝓤 A)) (λ x. fact_i 𝓤 B (fact 𝓤 A) (f x))

-- the record behind a reference
module _ {M : Type 1} {𝓤 : Ura M} (𝓛 : Logic 𝓤) (mem : Memory → SProp 𝓤) (run : Routine → Fun 𝓤) (m : Bor PrioritySeg) (at : Date) (b : Bundle)
    (ok : record_ok m.now ≡ true) (none : NoEmpty m.now) where
  pub lent-earliest : bundle_ok at b ≡ true → (κs : Lfts 1) (o : Offer) (e : AtExit dry_run.ended κs)
      → ent 𝓤 ((dry_run.clauses 𝓛 mem run κs (m, (at, (b, tt)))).ensures tt o e) (fact 𝓤 ((Earliest m.now at b o) × (Rest m.now b o)))
  lent-earliest fits κs o e = told 𝓤 _ _ (λ is. rw is (dry-earliest m.now at b ok none fits))

-- the record behind a reference through which it is changed
module _ {M : Type 1} {𝓤 : Ura M} (𝓛 : Logic 𝓤) (mem : Memory → SProp 𝓤) (run : Routine → Fun 𝓤) (m : MutBor PrioritySeg) (at : Date) (b : Bundle)
    (ok : record_ok m.now ≡ true) (none : NoEmpty m.now) where
  pub lent-booked-earliest : (κs : Lfts 2) (d : Bor TxData) (n : ℕ) (e : AtExit book.ended κs)
      → ent 𝓤 ((book.clauses 𝓛 mem run κs (m, (at, (b, (d, tt))))).ensures tt n e) (fact 𝓤 (n ≡ 0 → Least (StartIn m.now at b) d.now.send.start.0))
  lent-booked-earliest κs d n e = told 𝓤 _ _ (λ is zero. book-earliest m.now at b d.now ok none (sym is.0 ∙ zero))

-- the parts lent: the record is the one that they make
module _ (κs : Lfts 4) (a : Dens κs dry-run-kept-kinds.ps) where
  abbrev asked : PrioritySeg
  asked = priority_seg_in a.1.1.1.1.1.1.1.1.1.0.now a.0 a.1.0.now a.1.1.0 a.1.1.1.0.now a.1.1.1.1.0 a.1.1.1.1.1.0.now a.1.1.1.1.1.1.0

  abbrev at : Date
  at = a.1.1.1.1.1.1.1.0

  abbrev bundle : Bundle
  bundle = a.1.1.1.1.1.1.1.1.0

  pub lent-earliest-kept : record_ok asked ≡ true → NoEmpty asked → bundle_ok at bundle ≡ true → (o : Offer) → Met (dry-run-kept-reads.Post κs a) o
      → (Earliest asked at bundle o) × (Rest asked bundle o)
  lent-earliest-kept ok none fits o p = rw p.1 (dry-earliest asked at bundle ok none fits)

module _ (κs : Lfts 6) (a : Dens κs book-kept-kinds.ps) where
  abbrev held : PrioritySeg
  held = priority_seg_in a.1.1.1.1.1.1.1.1.1.1.0.now a.0 a.1.0.now a.1.1.0 a.1.1.1.0.now a.1.1.1.1.0 a.1.1.1.1.1.0.now a.1.1.1.1.1.1.0.now

  abbrev stated : TxData
  stated = a.1.1.1.1.1.1.1.1.1.0.now

  pub lent-booked-earliest-kept : record_ok held ≡ true → NoEmpty held → (n : ℕ) → Met (book-kept-reads.Post κs a) n → n ≡ 0
      → Least (StartIn held a.1.1.1.1.1.1.1.0 a.1.1.1.1.1.1.1.1.0) stated.send.start.0
  lent-booked-earliest-kept ok none n p zero = book-earliest held _ _ stated ok none (sym p.1.0 ∙ zero)
