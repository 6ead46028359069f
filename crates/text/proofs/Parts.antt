-- Texts of two parts, the second written where the first ends.
use Prim.Native.Nat.{ℕ, ◌+◌}
use mathlib.Core.Path.{◌≡◌}
use mathlib.Core.List.{List}
use Rattle.units.specs.declared.Interval.{Interval}
use Rattle.units.specs.declared.TxData.{TxData}
use Rattle.text.specs.Text.{word_text, interval_text, dates_text}
use Rattle.text.specs.Line.{written}
use Rattle.text.proofs.Words.{word-length, interval-length}
use Rattle.text.proofs.Written.{and_then}

module _ (line : List ℕ) (at : ℕ) {mid end : List ℕ} {place : ℕ} where
  pub interval-written : (w : Interval) → mid ≡ written line at (word_text 8 w.start.0) → end ≡ written mid place (word_text 8 w.end.0) → place ≡ at + 16
      → end ≡ written line at (interval_text w)
  unfolding interval_text
  interval-written w p q h = and_then line at _ _ (word-length 8 _) p q h

  pub dates-written : (d : TxData) → mid ≡ written line at (interval_text d.send) → end ≡ written mid place (interval_text d.recv) → place ≡ at + 32
      → end ≡ written line at (dates_text d)
  unfolding dates_text
  dates-written d p q h = and_then line at _ _ (interval-length _) p q h
