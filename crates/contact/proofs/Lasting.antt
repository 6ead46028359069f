-- 02, R-7: over any manager with a contact: a send that the flag does not forbid holds an instant, and so does any under edition 2.
use Prim.Native.Nat.{ℕ, ◌<◌, ◌≤◌}
use mathlib.Core.Bool.{false}
use mathlib.Core.Path.{◌≡◌}
use mathlib.Core.Logic.{⊎_elim}
use native.Mathlib.Omega.{arith}
use Rattle.units.specs.declared.Interval.{Interval}
use Rattle.units.specs.Strict.{forbids}
use Rattle.units.proofs.Forbids.{strict-lasts}
use Rattle.contact.specs.declared.Contact.{Contact}
use Rattle.contact.specs.Record.{edition_of, strict_of, Lasts}

before : {s e : ℕ} → s ≤ e → (s ≡ e → ⊥) → s < e
before le ne = omega arith

pub lasts-holds : (c : Contact) (send : Interval) → Lasts c → send.start.0 ≤ send.end.0 → forbids (strict_of c) send ≡ false
    → (edition_of c ≡ 2 → send.start.0 < send.end.0) → send.start.0 < send.end.0
lasts-holds c send last forth allowed second =
    ⊎_elim (λ (on : strict_of c ≡ 1). before forth (strict-lasts (strict_of c) send on allowed)) (λ (two : edition_of c ≡ 2). second two) last
