-- Lists in arrays: the list, and an unused value at every place past it.
use Rattle.std.specs.Prelude.{ℕ, ◌-◌, List, ◌++◌, length, replicate}

-- an array of m places that holds the list, and z at the places past it
unfoldable pub padded : {A : Type 0} → ℕ → A → List A → List A
padded m z l = l ++ replicate (m - length l) z
