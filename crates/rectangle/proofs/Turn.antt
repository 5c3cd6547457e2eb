-- A turn of the loop over the zones: the next one is taken or left out. Assumes nothing.
use mathlib.Core.Path.{◌≡◌, refl, sym, ap, ◌∙◌}
use mathlib.Core.Bool.{Bool, true, false, cond}
use mathlib.Core.List.{List, [], ◌∷◌, ◌++◌, append_assoc}
use Prim.Native.Nat.{ℕ, suc, ◌+◌, ◌-◌, ◌<◌}
use native.Mathlib.Omega.{arith}
use lib.IntN.{pos, ◌-ℤ◌}
use Rattle.arc.specs.Zones.{quarter}
use Rattle.whole.specs.Lists.{those, up_from}
use Rattle.rectangle.specs.Stretch.{shares}
use Rattle.rectangle.specs.Rectangle.{rectangle_zones}

-- what is listed, with those from `zone` on, is the list
abbrev pub Sofar : ℕ → ℕ → ℕ → List ℕ → ℕ → Type 0
Sofar b S N zones zone =
    zones ++ those (shares b (pos S -ℤ pos quarter) (pos N -ℤ pos quarter)) (up_from zone (19 - zone))
    ≡ rectangle_zones b (pos S -ℤ pos quarter) (pos N -ℤ pos quarter)

module _ (b S N : ℕ) where
  abbrev f : ℕ → Bool
  f = shares b (pos S -ℤ pos quarter) (pos N -ℤ pos quarter)

  pub begun : Sofar b S N [] 1
  unfolding rectangle_zones
  begun = refl

  module _ (zone : ℕ) (zones : List ℕ) (h : zone < 19) (w : Sofar b S N zones zone) where
    rest : List ℕ
    rest = those f (up_from (zone + 1) (19 - (zone + 1)))

    next : zones ++ cond (f zone) (zone ∷ rest) rest ≡ rectangle_zones b (pos S -ℤ pos quarter) (pos N -ℤ pos quarter)
    unfolding rest
    next =
        let e : 19 - zone ≡ suc (19 - (zone + 1)) = omega arith in
        ap (λ (k : ℕ). zones ++ those f (up_from zone k)) (sym e) ∙ w

    pub took : f zone ≡ true → Sofar b S N (zones ++ (zone ∷ [])) (zone + 1)
    unfolding rest
    took t = append_assoc zones (zone ∷ []) rest ∙ (ap (λ (x : Bool). zones ++ cond x (zone ∷ rest) rest) (sym t) ∙ next)

    pub left_out : f zone ≡ false → Sofar b S N zones (zone + 1)
    unfolding rest
    left_out t = ap (λ (x : Bool). zones ++ cond x (zone ∷ rest) rest) (sym t) ∙ next
