-- 01, "Records": a send interval is [send start, send end), a listed segment [start, end); their instants are their ticks.
use Rattle.std.specs.Prelude.{ℕ, ◌<◌, ◌≤◌, List, [], ◌∷◌}
use Rattle.segmentation.specs.declared.VolumeSegment.{VolumeSegment}

-- [a, b) and [c, d) share no tick
abbrev pub Apart : ℕ → ℕ → ℕ → ℕ → Type 0
Apart a b c d = (t : ℕ) → a ≤ t → t < b → c ≤ t → t < d → ⊥

-- [a, b) shares no tick with a listed segment
unfoldable pub Clear : ℕ → ℕ → List VolumeSegment → Type 0
Clear a b [] = Unit
Clear a b (g ∷ f) = (Apart a b g.start.0 g.end.0) × (Clear a b f)
