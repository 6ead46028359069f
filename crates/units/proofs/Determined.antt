-- What is said of a promise. P is the reading of a contract at some arguments, of an answer and what stands behind the references.
use mathlib.Core.Path.{◌≡◌, sym, ◌∙◌}

-- two answers that meet it are equal
abbrev pub Determined : {R X : Type 0} → (R → X → Type 0) → Type 0
Determined {R} {X} P = (r q : R) (x y : X) → P r x → P q y → r ≡ q

-- the answer meets it
abbrev pub Met : {R X : Type 0} → (R → X → Type 0) → R → Type 0
Met {R} {X} P r = (x : X) × P r x

-- a promise of the shape `r ≡ definition args` determines its answer, whatever the function and its definition
pub equal-unique : {R X : Type 0} (d : R) → Determined {R = R} {X = X} (λ r _. r ≡ d)
equal-unique d r q x y f g = f ∙ sym g

-- one of the shape `r.0 ≡ definition args`, of a struct that is told by what `part` reads of it
pub part-unique : {R X A : Type 0} (part : R → A) → ((r q : R) → part r ≡ part q → r ≡ q) → (d : A) → Determined {R = R} {X = X} (λ r _. part r ≡ d)
part-unique part once d r q x y f g = once r q (f ∙ sym g)
