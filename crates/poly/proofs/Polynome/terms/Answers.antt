-- `poly::Polynome::terms` meets its contract: each term is that of a coefficient that is read back as it is.
use borrow.Author.Rules.{rules}
use Prim.Native.Nat.{ℕ, ◌≤◌}
use lib.Dec.{lit<}
use lib.IntN.{ℤ, nat_abs}
use mir.Syntax.{w64}
use mir.Val.{SFits}
use mir.Facts.{to_z-of_z}
use Rattle.poly.specs.Poly.{step_max, coefficient, term_of}
use Rattle.poly.proofs.Back.{rd}
use Rattle.poly.proofs.Steps.{small0, small1, small2, small3}
use Rattle.poly.proofs.Polynome.terms.Goals as goal

-- a call of `term` on a coefficient that is read back as it is
asks : (mode : ℕ) (z : ℤ) (k : ℕ) → SFits w64 z → nat_abs (term_of mode z k) ≤ step_max → nat_abs (term_of mode (rd z) k) ≤ step_max
asks mode z k f h = rw (to_z-of_z f) h

pub term-requires : goal.term-requires
term-requires c =
    (lit< tt, lit< tt, asks c.args.mode.0 (coefficient c.args.self.coefficients 0) 1 (search rules) (small0 _ _ _ _ _ c.requires.range))

pub term-requires-2 : goal.term-requires-2
term-requires-2 c =
    (lit< tt, lit< tt, asks c.args.mode.0 (coefficient c.args.self.coefficients 1) 2 (search rules) (small1 _ _ _ _ _ c.requires.range))

pub term-requires-3 : goal.term-requires-3
term-requires-3 c =
    (lit< tt, lit< tt, asks c.args.mode.0 (coefficient c.args.self.coefficients 2) 3 (search rules) (small2 _ _ _ _ _ c.requires.range))

pub term-requires-4 : goal.term-requires-4
term-requires-4 c =
    (lit< tt, lit< tt, asks c.args.mode.0 (coefficient c.args.self.coefficients 3) 4 (search rules) (small3 _ _ _ _ _ c.requires.range))
