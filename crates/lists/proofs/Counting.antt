-- Pixels counted by hundredths: u i past what a first one has, 253,125 to a pixel, by multiplication; and where n of them end. Assumes nothing.
use mathlib.Core.Path.{◌≡◌, ap, ◌∙◌}
use Prim.Native.Nat.{ℕ, ◌+◌, ◌-◌, ◌*◌, ◌/◌, ◌≤◌, ◌<◌}
use native.Mathlib.Nat.{mul_comm, mul-le-mul_left, div-mul-le_self, add-mul-div_right}
use native.Mathlib.Omega.{arith}
use Rattle.lists.specs.declared.axis.Span.{Span}
use Rattle.lists.specs.Axes.{scale_up, fine, span_of}
use Rattle.lists.proofs.Fixed.{fixed}

-- what the span of n pixels from pixel `low` on says of i hundredths past its first, that having rest
pub record Counts (u rest low n : ℕ) (s : Span) : Type 0 where
  -- up to the last hundredth of the last pixel
  pub within : (i : ℕ) → i ≤ s.most → (rest + u * i) / 253125 < n
  pub counted : (i : ℕ) → i < 129600000 → (i * s.rate + s.start) / fine ≡ low + (rest + u * i) / 253125
  pub fits : (i : ℕ) → i < 129600000 → i ≤ s.most → i * s.rate + s.start < 9223372036854775808

module _ (u first rest low n : ℕ) (some : 0 < u) (few : u ≤ 156400) (begun : rest < 253125) (pixels : 1 ≤ n) (most : low + n ≤ 127872)
    (s : Span) (same : s ≡ span_of u first rest low n) where
  within : (i : ℕ) → i ≤ s.most → (rest + u * i) / 253125 < n
  within i h =
      let last : ℕ = 253125 * n - 1 - rest in
      let is : s.most ≡ last / u = ap (λ (x : Span). x.most) same in
      let le : u * i ≤ u * (last / u) = mul-le-mul_left u (omega (arith, is)) in
      omega (arith, div-mul-le_self last u, mul_comm u (last / u))

  counted : (i : ℕ) → i < 129600000 → (i * s.rate + s.start) / fine ≡ low + (rest + u * i) / 253125
  counted i h =
      let m : ℕ = i * scale_up fine u 253125 + scale_up fine rest 253125 in
      ap (λ (x : Span). (i * x.rate + x.start) / fine) same
      ∙ ap (λ (x : ℕ). x / fine) (omega arith)
      ∙ add-mul-div_right m low (omega arith)
      ∙ ap (λ (x : ℕ). x + low) (fixed fine 253125 (omega arith) u rest i (omega arith))
      ∙ omega arith

  fits : (i : ℕ) → i < 129600000 → i ≤ s.most → i * s.rate + s.start < 9223372036854775808
  fits i h le = omega (arith, counted i h, within i le)

  pub counts : Counts u rest low n s
  counts = record { within = within; counted = counted; fits = fits }
