-- The words in which the definitions are written: a test and another, a refusal unless a test holds, a test of each element.
use Rattle.std.specs.Prelude.{Bool, true, false, List, [], ◌∷◌}

-- both tests hold
unfoldable pub both : Bool → Bool → Bool
both true b = b
both false b = false

-- the first answer, unless the test holds: then the second
abbrev pub unless : {A : Type 0} → Bool → A → A → A
unless true a b = b
unless false a b = a

-- the first where the test holds, else the second
abbrev pub pick : {A : Type 0} → Bool → A → A → A
pick true a b = a
pick false a b = b

-- the test holds of each element
unfoldable pub all_of : {A : Type 0} → (A → Bool) → List A → Bool
all_of p [] = true
all_of p (a ∷ l) = both (p a) (all_of p l)
