-- Each public call's promise determines its answer and the whole line that it leaves behind the reference. `Post` is the reading of the contract in src/.
use Prim.Native.Nat.{ℕ}
use mathlib.Core.Path.{◌≡◌, sym, ap, ◌∙◌}
use mathlib.Core.List.{List}
use borrow.Fn.Kinds.{Dens, ended_of}
use denote.Triple.Clauses.{AtExit}
use contract.Lifetimes.{Lfts}
use Rattle.units.proofs.Determined.{Determined}
use Rattle.answer.proofs.put_number.Kinds as number-kinds
use Rattle.answer.proofs.put_number.Reads as number-reads
use Rattle.answer.proofs.put_offer.Kinds as offer-kinds
use Rattle.answer.proofs.put_offer.Reads as offer-reads
use Rattle.answer.proofs.put_list.Kinds as list-kinds
use Rattle.answer.proofs.put_list.Reads as list-reads
use Rattle.answer.proofs.rows.put_rows.Kinds as rows-kinds
use Rattle.answer.proofs.rows.put_rows.Reads as rows-reads
use Rattle.answer.specs.declared.rows.Row.{Ghosts}
use denote.RattleType.{RattleType}
use denote.Param.Laws.{Laws}
use mir.Syntax.{Dict}
use Rattle.answer.proofs.put_room.Kinds as room-kinds
use Rattle.answer.proofs.put_room.Reads as room-reads

-- the answer, and what stands behind the reference at the end
record Outcome : Type 0 where
  answer : ℕ
  line : List ℕ

abbrev outcome : ℕ → List ℕ → Outcome
outcome r l = record { answer = r; line = l }

abbrev Leaves : {X : Type 0} → (X → List ℕ) → (ℕ → X → Type 0) → Outcome → X → Type 0
Leaves behind P o x = (o.line ≡ behind x) × P o.answer x

-- a promise that names both
named : {X : Type 0} (behind : X → List ℕ) (n : ℕ) (text : List ℕ) → Determined (Leaves behind (λ (r : ℕ) (x : X). (r ≡ n) × (behind x ≡ text)))
named behind n text r q x y f g =
    ap (λ (n : ℕ). outcome n r.line) (f.1.0 ∙ sym g.1.0) ∙ ap (outcome q.answer) (f.0 ∙ f.1.1 ∙ sym (g.0 ∙ g.1.1))

module _ (κs : Lfts 1) where
  pub number-unique : (a : Dens κs number-kinds.ps)
      → Determined (Leaves (λ (s : AtExit (ended_of 1 number-kinds.ps number-kinds.r) κs). s.0.now) (number-reads.Post κs a))
  number-unique a = named _ _ _

  pub offer-unique : (a : Dens κs offer-kinds.ps)
      → Determined (Leaves (λ (s : AtExit (ended_of 1 offer-kinds.ps offer-kinds.r) κs). s.0.now) (offer-reads.Post κs a))
  offer-unique a = named _ _ _

  pub room-unique : (a : Dens κs room-kinds.ps)
      → Determined (Leaves (λ (s : AtExit (ended_of 1 room-kinds.ps room-kinds.r) κs). s.0.now) (room-reads.Post κs a))
  room-unique a = named _ _ _

-- the writers of lists, of whatever has rows
module _ (T : RattleType) (L : Laws T) (row : Ghosts T.Denot) (d : Dict) (κs : Lfts 3) where
  pub list-unique : (a : Dens κs (list-kinds.ps T L))
      → Determined (Leaves (λ (s : AtExit (ended_of 3 (list-kinds.ps T L) (list-kinds.r T L)) κs). s.0.now) (list-reads.Post T L row d κs a))
  list-unique a = named _ _ _

  pub rows-unique : (a : Dens κs (rows-kinds.ps T L))
      → Determined (Leaves (λ (s : AtExit (ended_of 3 (rows-kinds.ps T L) (rows-kinds.r T L)) κs). s.0.now) (rows-reads.Post T L row d κs a))
  rows-unique a r q x y f g = named (λ (s : AtExit (ended_of 3 (rows-kinds.ps T L) (rows-kinds.r T L)) κs). s.0.now) _ _ r q x y (f.0, (f.1.0, f.1.1.0)) (g.0, (g.1.0, g.1.1.0))
