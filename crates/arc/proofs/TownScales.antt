-- Which scales are written: a town scale is a scale, so it may be tested first, and what is answered else is the spacing. Assumes nothing.
use Rattle.std.proofs.Common.{◌≡◌, refl, sym, ◌∙◌, Bool, true, false, ℕ, ◌≤◌, arith}
use lib.Dec.{leb}
use borrow.Author.Tests.{leb-true, leb-false}
use Rattle.std.proofs.lemmas.Bool.Decides.{nat_tests}
use Rattle.std.specs.Prelude.{Ok, Err}
use Rattle.arc.specs.declared.refusal.Refusal.{Refusal}
use Rattle.arc.specs.declared.series.Series.{Series}
use Rattle.arc.specs.Spacing.{spacing_of, Grids}
use Rattle.arc.specs.TownScales.{is_town_scale, spacing_for_writing, BelowRefused, TownRefused, WrittenFrom}
use Rattle.arc.proofs.Answered.{answered-grids}

pub below-refused : BelowRefused
below-refused series p = grind (arith, nat_tests)

pub town-refused : TownRefused
town-refused series p q = grind (arith, nat_tests)

-- the two ways of the code's test
pub at-town : (series : Series) → is_town_scale series.scale ≡ true → spacing_for_writing series ≡ Err Refusal.TownScale
at-town series e = grind (arith, nat_tests)

pub at_other : (series : Series) → is_town_scale series.scale ≡ false → spacing_for_writing series ≡ spacing_of series
at_other series e = grind (arith, nat_tests)

pub written_from : WrittenFrom
written_from series h = grind (arith, nat_tests)

-- constants are answered from 10,000 up only, and they are the spacing's
module _ (series : Series) (a b : ℕ) (e : spacing_for_writing series ≡ Ok (record { a = a; b = b })) where
  pub only-from : 10000 ≤ series.scale
  only-from = go (leb 10000 series.scale) (leb 5000 series.scale) refl refl
    where
      go : (x y : Bool) → leb 10000 series.scale ≡ x → leb 5000 series.scale ≡ y → 10000 ≤ series.scale
      go true y p q = leb-true 10000 series.scale p
      go false true p q =
          let k = sym (town-refused series (leb-true 5000 series.scale q) (leb-false 10000 series.scale p)) ∙ e in
          let z : ◌≡◌ {A = ℕ} 0 1 = cc in
          absurd (omega arith)
      go false false p q = let k = sym (below-refused series (leb-false 5000 series.scale q)) ∙ e in let z : ◌≡◌ {A = ℕ} 0 1 = cc in absurd (omega arith)

  pub writing-spacing : spacing_of series ≡ Ok (record { a = a; b = b })
  writing-spacing = sym (written_from series only-from) ∙ e

  pub writing-grids : Grids a b
  writing-grids = answered-grids series a b writing-spacing

pub ruleset claims = (below-refused, town-refused, written_from)
