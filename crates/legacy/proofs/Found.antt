-- What is refused inside, and what its answer is at the door: an opening, manual queueing, a booking.
use Prim.Native.Nat.{ℕ, zero, suc, ◌<◌}
use mathlib.Core.Bool.{Bool, true, false}
use mathlib.Core.Path.{◌≡◌, refl, sym, ap, ◌∙◌}
use mathlib.Core.List.{List, [], ◌∷◌}
use native.Mathlib.Omega.{arith}
use Rattle.std.proofs.Common.{Result, Ok, Err}
use lib.ListN.{length, get_or, replicate}
use Rattle.std.specs.Array.{AllOfLen}
use Rattle.std.specs.Result.{is_ok}
use Rattle.units.specs.declared.Date.{Date}
use Rattle.units.specs.declared.Volume.{Volume}
use Rattle.units.specs.declared.Rate.{Rate}
use Rattle.units.specs.declared.Delay.{Delay}
use Rattle.units.specs.declared.Interval.{Interval}
use Rattle.units.specs.declared.TxData.{TxData}
use Rattle.units.specs.declared.Bundle.{Bundle}
use Rattle.units.specs.declared.refusal.Refusal.{Refusal}
use Rattle.units.specs.Logic.{unless, pick}
use Rattle.units.specs.Limits.{load_ok}
use Rattle.units.specs.Granted.{refusal_of}
use Rattle.units.specs.Refusal.{number_of, told}
use Rattle.units.proofs.Logic.{unless-go}
use Rattle.units.proofs.Choice.{pick_no}
use Rattle.units.proofs.Refusals.{told-once}
use Rattle.legacy.specs.declared.Choices.{Choices}
use Rattle.legacy.specs.declared.Flags.{Flags}
use Rattle.legacy.specs.declared.Queue.{Queue}
use Rattle.legacy.specs.declared.Opened.{Opened}
use Rattle.legacy.specs.declared.Booked.{Booked}
use Rattle.legacy.specs.Open.{classes_max, zeros, refused_opening, open_of}
use Rattle.legacy.specs.Record.{strict_of, record_ok}
use Rattle.legacy.specs.DryRun.{dry_run_of}
use Rattle.legacy.specs.Queueing.{refused_queueing, manually}
use Rattle.legacy.specs.Book.{book_of}
use Rattle.legacy.specs.Granted.{manual_refusal}
use Rattle.legacy.proofs.Answers.{fresh_of, opening-keeps}
use Rattle.legacy.proofs.Offers.{dry-refused}

-- no refusal has the number 0
number-some : (e : Refusal) → number_of e ≡ 0 → ⊥
number-some e h = cc (told-once (Err e) (Ok tt) h)

pub told-ok : (t : Result Unit Refusal) → is_ok t ≡ true → told t ≡ 0
told-ok (Ok _) e = refl
told-ok (Err r) e = absurd (cc)

-- what a default array holds
abbrev volume : ℕ → Volume
volume n = record { 0 = n }

all-zero : (n : ℕ) (l : List Volume) → length l ≡ n → ((i : ℕ) (d : Volume) → i < n → (get_or l i d).0 ≡ 0) → l ≡ replicate n (record { 0 = 0 })
all-zero zero [] e h = refl
all-zero (suc n) [] e h = absurd (omega arith)
all-zero zero (v ∷ l) e h = absurd (omega arith)
all-zero (suc n) (v ∷ l) e h =
    let head : v ≡ record { 0 = 0 } = ap volume (h 0 v (omega arith)) in
    let rest : l ≡ replicate n (record { 0 = 0 }) = all-zero n l (omega arith) (λ i d k. h (suc i) d (omega arith)) in
    cc

pub default-zero : {l : List Volume} → AllOfLen (λ (v : Volume). v.0 ≡ 0) l classes_max → l ≡ zeros
default-zero {l} all = all-zero classes_max l all.long all.at

module _ (h : Choices) (w : Interval) (r : Rate) (d : Delay) (n : ℕ) (flags : Flags) (budgets : List Volume) where
  pub opens : 0 ≡ (open_of h w r d n flags budgets).number → open_of h w r d n flags budgets ≡ record { number = 0; manager = fresh_of h w r d n flags budgets }
  opens e =
      opening-keeps h w r d n flags budgets (λ (o : Opened). 0 ≡ o.number → o ≡ record { number = 0; manager = fresh_of h w r d n flags budgets })
      (λ e. absurd (omega arith)) (λ e. absurd (omega arith)) (λ e. absurd (omega arith)) (λ e. absurd (omega arith)) (λ e. absurd (omega arith)) (λ _. refl) e

  pub opens_not : (e : Refusal) → number_of e ≡ (open_of h w r d n flags budgets).number → open_of h w r d n flags budgets ≡ refused_opening (number_of e)
  opens_not e is =
      opening-keeps h w r d n flags budgets (λ (o : Opened). number_of e ≡ o.number → o ≡ refused_opening (number_of e))
      (λ k. ap refused_opening (sym k)) (λ k. ap refused_opening (sym k)) (λ k. ap refused_opening (sym k)) (λ k. ap refused_opening (sym k)) (λ k. ap refused_opening (sym k))
      (λ k. absurd (number-some e k)) is

manual-passes : (p q : Bool) → 0 ≡ unless {A = ℕ} p 2 (pick q 12 0) → (p ≡ true) × (q ≡ false)
manual-passes true true e = absurd (omega (arith, e))
manual-passes true false e = (refl, refl)
manual-passes false q e = absurd (omega (arith, e))

manual-stops : (p q : Bool) (refuse : ℕ → Booked) (done : Booked) (n : ℕ) → n ≡ unless {A = ℕ} p 2 (pick q 12 0) → (n ≡ 0 → ⊥)
    → unless p (refuse 2) (pick q (refuse 12) done) ≡ refuse n
manual-stops true true refuse done n e some = ap refuse (sym e)
manual-stops true false refuse done n e some = absurd (some e)
manual-stops false q refuse done n e some = ap refuse (sym e)

module _ (r : Queue) (b : Bundle) (ok : record_ok r ≡ true) (done : Booked) where
  pub manual_go : 0 ≡ manual_refusal r b → manually r b done ≡ done
  unfolding manual_refusal
  manual_go e =
      let tests = manual-passes (load_ok b) r.flags.self_update e in
      unless-go _ _ _ ok ∙ unless-go _ _ _ tests.0 ∙ pick_no _ _ _ tests.1

  pub manual-stop : (e : Refusal) → number_of e ≡ manual_refusal r b → manually r b done ≡ refused_queueing (number_of e) r
  unfolding manual_refusal
  manual-stop e is =
      unless-go _ _ _ ok ∙ manual-stops (load_ok b) r.flags.self_update (λ n. refused_queueing n r) done (number_of e) is (number-some e)

pub manual-fair : (r : Queue) (b : Bundle) → 0 ≡ manual_refusal r b → load_ok b ≡ true
unfolding manual_refusal
manual-fair r b e = (manual-passes (load_ok b) r.flags.self_update e).0

pub book-stop : (r : Queue) (at : Date) (b : Bundle) (d : TxData) → record_ok r ≡ true → (e : Refusal) → number_of e ≡ refusal_of (strict_of r) (dry_run_of r at b) d
    → book_of r at b d ≡ refused_queueing (number_of e) r
book-stop r at b d ok e is = dry-refused r at b d ok (λ z. number-some e (is ∙ z)) ∙ ap (λ n. refused_queueing n r) (sym is)
