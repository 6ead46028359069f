-- Each public call's promise determines the whole line that it leaves behind the reference. `Post` is the reading of the contract in src/.
use mathlib.Core.List.{List}
use mathlib.Core.Path.{◌≡◌, sym, ◌∙◌}
use Prim.Native.Nat.{ℕ}
use borrow.Fn.Kinds.{Dens, ended_of}
use denote.Triple.Clauses.{AtExit}
use contract.Lifetimes.{Lfts}
use Rattle.units.proofs.Determined.{Determined}
use Rattle.text.proofs.put_byte.Kinds as byte-kinds
use Rattle.text.proofs.put_byte.Reads as byte-Reads
use Rattle.text.proofs.put_number.Kinds as number-kinds
use Rattle.text.proofs.put_number.Reads as number-reads
use Rattle.text.proofs.put_signed.Kinds as signed-kinds
use Rattle.text.proofs.put_signed.Reads as signed-Reads
use Rattle.text.proofs.put_interval.Kinds as interval-kinds
use Rattle.text.proofs.put_interval.Reads as interval-reads
use Rattle.text.proofs.put_dates.Kinds as dates-kinds
use Rattle.text.proofs.put_dates.Reads as dates-reads
use Rattle.text.proofs.put_line_end.Kinds as line-end-kinds
use Rattle.text.proofs.put_line_end.Reads as line-end-reads

-- the line is what stands behind the reference at the end
abbrev Leaves : {X : Type 0} → (X → List ℕ) → (X → Type 0) → List ℕ → X → Type 0
Leaves behind P line x = (line ≡ behind x) × P x

module _ (κs : Lfts 1) where
  pub put-byte-unique : (a : Dens κs byte-kinds.ps)
      → Determined (Leaves (λ (s : AtExit (ended_of 1 byte-kinds.ps byte-kinds.r) κs). s.0.now) (byte-Reads.Post κs a tt))
  put-byte-unique a r q x y f g = f.0 ∙ f.1 ∙ sym (g.0 ∙ g.1)

  pub put-number-unique : (a : Dens κs number-kinds.ps)
      → Determined (Leaves (λ (s : AtExit (ended_of 1 number-kinds.ps number-kinds.r) κs). s.0.now) (number-reads.Post κs a tt))
  put-number-unique a r q x y f g = f.0 ∙ f.1 ∙ sym (g.0 ∙ g.1)

  pub put-signed-unique : (a : Dens κs signed-kinds.ps)
      → Determined (Leaves (λ (s : AtExit (ended_of 1 signed-kinds.ps signed-kinds.r) κs). s.0.now) (signed-Reads.Post κs a tt))
  put-signed-unique a r q x y f g = f.0 ∙ f.1 ∙ sym (g.0 ∙ g.1)

  pub put-interval-unique : (a : Dens κs interval-kinds.ps)
      → Determined (Leaves (λ (s : AtExit (ended_of 1 interval-kinds.ps interval-kinds.r) κs). s.0.now) (interval-reads.Post κs a tt))
  put-interval-unique a r q x y f g = f.0 ∙ f.1 ∙ sym (g.0 ∙ g.1)

  pub put-dates-unique : (a : Dens κs dates-kinds.ps)
      → Determined (Leaves (λ (s : AtExit (ended_of 1 dates-kinds.ps dates-kinds.r) κs). s.0.now) (dates-reads.Post κs a tt))
  put-dates-unique a r q x y f g = f.0 ∙ f.1 ∙ sym (g.0 ∙ g.1)

  pub put-line-end-unique : (a : Dens κs line-end-kinds.ps)
      → Determined (Leaves (λ (s : AtExit (ended_of 1 line-end-kinds.ps line-end-kinds.r) κs). s.0.now) (line-end-reads.Post κs a tt))
  put-line-end-unique a r q x y f g = f.0 ∙ f.1 ∙ sym (g.0 ∙ g.1)
