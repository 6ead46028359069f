-- A test of a list whose count must be 1 to m: test by test, and what it tells.
use Prim.Native.Nat.{ℕ, ◌<◌, ◌≤◌}
use mathlib.Core.Bool.{Bool, true, false}
use mathlib.Core.Path.{◌≡◌, ◌∙◌}
use lib.Dec.{leb}
use borrow.Author.Tests.{leb-true, le-leb, lt-leb}
use Rattle.units.specs.Logic.{both}
use Rattle.units.proofs.Logic.{both_go, both-stop, both-fst, both-snd}

module _ (m n : ℕ) (q : Bool) where
  abbrev pub counted : Bool
  counted = both (leb 1 n) (both (leb n m) q)

  pub counted_none : n < 1 → counted ≡ false
  counted_none h = both-stop _ _ (lt-leb _ _ h)

  pub counted-many : 1 ≤ n → m < n → counted ≡ false
  counted-many h k = both_go _ _ (le-leb _ _ h) ∙ both-stop _ _ (lt-leb _ _ k)

  pub counted_is : 1 ≤ n → n ≤ m → counted ≡ q
  counted_is h k = both_go _ _ (le-leb _ _ h) ∙ both_go _ _ (le-leb _ _ k)

  module _ (e : counted ≡ true) where
    pub counted-some : 1 ≤ n
    counted-some = leb-true _ _ (both-fst _ _ e)

    pub counted-most : n ≤ m
    counted-most = leb-true _ _ (both-fst _ _ (both-snd _ _ e))

    pub counted-holds : q ≡ true
    counted-holds = both-snd _ _ (both-snd _ _ e)
