-- Whole numbers, signed. Definitions, and what they are held to. No proofs.
--     floor_div x d      the floor of x / d
--     nearest x d        the whole number nearest to x / d: the floor of x / d + 1 / 2
--     near x d           the same of a natural x
--     ceil_div x d       the smallest whole number not below x / d
--     modulo x d         x modulo d, from 0 to d − 1
--     nat_abs z          |z|, of the kit
--     outside k z        z is below −k or above k
--     counted_by k z     z counted from −k, none where it is outside
use Rattle.std.specs.Prelude.{◌≡◌, Bool, false, if◌then◌else◌, Option, Some, None, ◌||◌, ℕ, ◌+◌, ◌-◌, ◌*◌, ◌/◌, ◌≤◌, ◌<◌}
use Rattle.std.specs.Prelude.{ℤ, pos, negsuc, neg_ℤ, nat_abs, ◌+ℤ◌, ◌-ℤ◌, ◌*ℤ◌, ◌≤ℤ◌, ◌<ℤ◌}
use Rattle.std.specs.Int.Signed.{lt_z}

-- the floor of x / d, for negative numbers too: negsuc n is −(n + 1)
unfoldable pub floor_div : ℤ → ℕ → ℤ
floor_div (pos n) d = pos (n / d)
floor_div (negsuc n) d = negsuc (n / d)

-- "nearest" means the floor of the value plus one half, for negative values too
unfoldable pub nearest : ℤ → ℕ → ℤ
nearest x d = floor_div (pos 2 *ℤ x +ℤ pos d) (2 * d)

-- the same of a natural
unfoldable pub near : ℕ → ℕ → ℕ
near x d = (2 * x + d) / (2 * d)

-- the smallest whole number not below x / d
unfoldable pub ceil_div : ℤ → ℕ → ℤ
ceil_div x d = floor_div (x +ℤ pos (d - 1)) d

-- x modulo d
unfoldable pub modulo : ℤ → ℕ → ℤ
modulo x d = x -ℤ floor_div x d *ℤ pos d

-- outside the range −k to k, ends included
abbrev pub outside : ℕ → ℤ → Bool
outside k z = lt_z z (neg_ℤ (pos k)) || lt_z (pos k) z

-- z + k, for a z that is not below −k
abbrev pub raise : ℕ → ℤ → ℕ
raise k (pos n) = n + k
raise k (negsuc n) = k - (n + 1)

-- z counted from −k
abbrev pub counted_by : ℕ → ℤ → Option ℕ
counted_by k z = if outside k z then None else Some (raise k z)

-- ---- what the definitions are held to: proved in proofs/Held.antt

-- k is the greatest, or the smallest, whole number of which P holds
pub record Greatest (P : ℤ → Type 0) (k : ℤ) : Type 0 where
  pub holds : P k
  pub most : (j : ℤ) → P j → j ≤ℤ k

pub record Smallest (P : ℤ → Type 0) (k : ℤ) : Type 0 where
  pub holds : P k
  pub least : (j : ℤ) → P j → k ≤ℤ j

-- the floor of x / d is the greatest k with k d ≤ x
abbrev pub FloorIs : Type 0
FloorIs = (x : ℤ) (d : ℕ) → 0 < d → Greatest (λ k. (k *ℤ pos d) ≤ℤ x) (floor_div x d)

-- the smallest whole number not below x / d is the smallest k with x ≤ k d
abbrev pub CeilIs : Type 0
CeilIs = (x : ℤ) (d : ℕ) → 0 < d → Smallest (λ k. x ≤ℤ (k *ℤ pos d)) (ceil_div x d)

-- the nearest k to x / d has −d < 2 (k d − x) ≤ d: at most a half away, and a half goes up
pub record Near (x : ℤ) (d : ℕ) (k : ℤ) : Type 0 where
  pub low : neg_ℤ (pos d) <ℤ (pos 2 *ℤ (k *ℤ pos d -ℤ x))
  pub high : (pos 2 *ℤ (k *ℤ pos d -ℤ x)) ≤ℤ pos d

abbrev pub NearestIs : Type 0
NearestIs = (x : ℤ) (d : ℕ) → 0 < d → Near x d (nearest x d)

-- x modulo d is from 0 to d − 1, and x is a multiple of d and that
pub record Modulo (x : ℤ) (d : ℕ) (r : ℤ) : Type 0 where
  pub quotient : ℤ
  pub sum : x ≡ quotient *ℤ pos d +ℤ r
  pub low : pos 0 ≤ℤ r
  pub high : r <ℤ pos d

abbrev pub ModuloIs : Type 0
ModuloIs = (x : ℤ) (d : ℕ) → 0 < d → Modulo x d (modulo x d)

-- the range test is one of size
abbrev pub OutsideIs : Type 0
OutsideIs = (k : ℕ) (z : ℤ) → (outside k z ≡ false → nat_abs z ≤ k) × (nat_abs z ≤ k → outside k z ≡ false)
