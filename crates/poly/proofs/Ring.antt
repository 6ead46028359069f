-- Laws of products of integers that the library leaves out: they distribute over sums and associate.
use mathlib.Core.Path.{◌≡◌, sym, ap, ◌∙◌}
use lib.IntN.{ℤ, pos, neg_ℤ, ◌+ℤ◌, ◌-ℤ◌, ◌*ℤ◌, ℤ_ind, +ℤ_idl, +ℤ_idr, +ℤ_one, +ℤ-suc_ℤ, +ℤ-pred_ℤ, -ℤ_one, +ℤ_assoc, +ℤ_comm, +ℤ_invl, +ℤ-neg_ℤ_cancel, zero-*ℤ, suc_ℤ-*ℤ, pred_ℤ-*ℤ, *ℤ_comm}

module _ (a k : ℤ) where
  abbrev Spreads : ℤ → Type 0
  Spreads b = (a +ℤ b) *ℤ k ≡ a *ℤ k +ℤ b *ℤ k

  spreads-up : (b : ℤ) → Spreads b → Spreads (b +ℤ pos 1)
  spreads-up b h =
      rw (+ℤ_one b, +ℤ-suc_ℤ a b, suc_ℤ-*ℤ (a +ℤ b) k, suc_ℤ-*ℤ b k, h) (+ℤ_assoc (a *ℤ k) (b *ℤ k) k)

  spreads-down : (b : ℤ) → Spreads b → Spreads (b +ℤ neg_ℤ (pos 1))
  spreads-down b h =
      rw (-ℤ_one b, +ℤ-pred_ℤ a b, pred_ℤ-*ℤ (a +ℤ b) k, pred_ℤ-*ℤ b k, h) (+ℤ_assoc (a *ℤ k) (b *ℤ k) (neg_ℤ k))

  spreads-none : Spreads (pos 0)
  spreads-none = rw (+ℤ_idr a, zero-*ℤ k) (sym (+ℤ_idr (a *ℤ k)))

-- what adds up to zero is opposite
opposite : (a b : ℤ) → a +ℤ b ≡ pos 0 → a ≡ neg_ℤ b
opposite a b h = sym (+ℤ-neg_ℤ_cancel a b) ∙ ap (λ (z : ℤ). z -ℤ b) h ∙ +ℤ_idl (neg_ℤ b)

-- (a + b) k = a k + b k
pub sum-times : (a b k : ℤ) → (a +ℤ b) *ℤ k ≡ a *ℤ k +ℤ b *ℤ k
sum-times a b k =
    ℤ_ind (Spreads a k) (spreads-none a k) (λ n h. spreads-up a k (pos n) h) (λ n h. spreads-down a k (neg_ℤ (pos n)) h) b

-- - a k is the opposite of a k
pub minus-times : (a k : ℤ) → neg_ℤ a *ℤ k ≡ neg_ℤ (a *ℤ k)
minus-times a k = opposite _ _ (sym (sum-times (neg_ℤ a) a k) ∙ rw (+ℤ_invl a) (zero-*ℤ k))

pub times-sum : (a b k : ℤ) → k *ℤ (a +ℤ b) ≡ k *ℤ a +ℤ k *ℤ b
times-sum a b k = *ℤ_comm k (a +ℤ b) ∙ sum-times a b k ∙ rw (*ℤ_comm a k, *ℤ_comm b k)

-- (a + b) + (c + d) = (a + c) + (b + d)
pub crosswise : (a b c d : ℤ) → (a +ℤ b) +ℤ (c +ℤ d) ≡ (a +ℤ c) +ℤ (b +ℤ d)
crosswise a b c d =
    +ℤ_assoc a b (c +ℤ d)
    ∙ ap (λ (z : ℤ). a +ℤ z) (sym (+ℤ_assoc b c d) ∙ ap (λ (z : ℤ). z +ℤ d) (+ℤ_comm b c) ∙ +ℤ_assoc c b d)
    ∙ sym (+ℤ_assoc a c (b +ℤ d))

-- two steps of Horner's rule with the same d add up
pub steps-add : (p a q b d : ℤ) → (p *ℤ d +ℤ a) +ℤ (q *ℤ d +ℤ b) ≡ (p +ℤ q) *ℤ d +ℤ (a +ℤ b)
steps-add p a q b d = crosswise (p *ℤ d) a (q *ℤ d) b ∙ ap (λ (z : ℤ). z +ℤ (a +ℤ b)) (sym (sum-times p q d))

-- (a b) k = a (b k)
module _ (b k : ℤ) where
  abbrev Joins : ℤ → Type 0
  Joins a = a *ℤ b *ℤ k ≡ a *ℤ (b *ℤ k)

  joins-up : (a : ℤ) → Joins a → Joins (a +ℤ pos 1)
  joins-up a h = rw (+ℤ_one a, suc_ℤ-*ℤ a b, suc_ℤ-*ℤ a (b *ℤ k), sum-times (a *ℤ b) b k, h)

  joins-down : (a : ℤ) → Joins a → Joins (a +ℤ neg_ℤ (pos 1))
  joins-down a h =
      rw (-ℤ_one a, pred_ℤ-*ℤ a b, pred_ℤ-*ℤ a (b *ℤ k), sum-times (a *ℤ b) (neg_ℤ b) k, minus-times b k, h)

  joins-none : Joins (pos 0)
  joins-none = rw (zero-*ℤ b, zero-*ℤ (b *ℤ k)) (zero-*ℤ k)

pub times-times : (a b k : ℤ) → a *ℤ b *ℤ k ≡ a *ℤ (b *ℤ k)
times-times a b k =
    ℤ_ind (Joins b k) (joins-none b k) (λ n h. joins-up b k (pos n) h) (λ n h. joins-down b k (neg_ℤ (pos n)) h) a

pub times-swap : (a b k : ℤ) → a *ℤ b *ℤ k ≡ a *ℤ k *ℤ b
times-swap a b k = times-times a b k ∙ ap (λ (z : ℤ). a *ℤ z) (*ℤ_comm b k) ∙ sym (times-times a k b)
