-- What an accepted reading passed: each test of `read_as` in turn, read off the answer, and put together again. Assumes nothing.
use mathlib.Core.Path.{◌≡◌, refl, ap, ap₂}
use mathlib.Core.Bool.{Bool, true, false, not, ◌&&◌, and-eq-true_iff}
use mathlib.Core.List.{List}
use mathlib.Core.Option.{Option, some, none}
use Rattle.std.specs.Prelude.{if◌then◌else◌, Result, Ok, Err}
use Prim.Native.Nat.{ℕ, ◌/◌}
use native.Mathlib.Omega.{arith}
use borrow.Author.Tests.{eqb-true, eq-eqb}
use lib.Dec.{eqb}
use lib.ListN.{length}
use lib.IntN.{ℤ}
use Rattle.arc.specs.declared.series.Series.{Series}
use Rattle.arc.specs.declared.refusal.Refusal.{Refusal}
use Rattle.arc.specs.declared.series.Spacing.{Spacing}
use Rattle.whole.specs.Results.{◌>>=◌}
use Rattle.whole.specs.Whole.{outside}
use Rattle.arc.specs.Zones.{is_polar}
use Rattle.arc.specs.Spacing.{spacing_of}
use Rattle.arc.proofs.Answered.{answered-grids}
use Rattle.origin.specs.Origin.{stored_angle}
use Rattle.card_text.specs.declared.Fields.{Fields}
use Rattle.card_text.specs.declared.Reading.{Reading}
use Rattle.card_text.specs.declared.Fill.{Fill}
use Rattle.text.specs.Text.{angle_of}
use Rattle.card_text.specs.Layout.{ARV, BRV, LSO, PSO, NUL, NUS, NLL, NLS, NFL, NFC, Judged, layout, bytes_of, walk}
use Rattle.card_text.specs.Blanks.{total_blanks}
use Rattle.card_text.specs.Extents.{extents_hold}
use Rattle.card_text.specs.Read.{tile_storing, number_in, card_of, accepted_card, blanks_told, with_origin, with_values, read_in, read_as, Accepted}
use Rattle.card_text.proofs.Found.{Stores, tile-stores, stores-tile}

-- the tests on the bytes
abbrev constants_in : ℕ → ℕ → List ℕ → Bool
constants_in a b s = eqb (number_in ARV s) a && eqb (number_in BRV s) b

abbrev pub row_tile : ℕ → List ℕ → Option ℤ
row_tile b s = tile_storing b (b / 512) (angle_of 2 (bytes_of PSO s))

abbrev pub column_tile : ℕ → List ℕ → Option ℤ
column_tile a s = tile_storing a (a / 256) (angle_of 3 (bytes_of LSO s))

abbrev pub extents_in : ℕ → ℕ → ℤ → List ℕ → Bool
extents_in a b n s =
    extents_hold a b n (number_in NUL s) (number_in NUS s) (number_in NLL s) (number_in NLS s) (number_in NFL s) (number_in NFC s)

-- the bytes s are read to k with a total of blanks, A and B being the constants, n and m the tiles found
pub record ReadTo (fill : Fill) (series : Series) (s : List ℕ) (k : Fields) (blanks : ℕ) : Type 0 where
  pub a : ℕ
  pub b : ℕ
  pub n : ℤ
  pub m : ℤ
  pub spacing : spacing_of series ≡ Ok (record { a = a; b = b })
  pub not-polar : is_polar series.zone ≡ false
  pub long : length s ≡ 98
  pub judged : walk fill layout s ≡ Ok tt
  pub arv : number_in ARV s ≡ a
  pub brv : number_in BRV s ≡ b
  pub n-stored : Stores b (b / 512) (angle_of 2 (bytes_of PSO s)) n
  pub m-stored : Stores a (a / 256) (angle_of 3 (bytes_of LSO s)) m
  pub extents : extents_in a b n s ≡ true
  pub card : card_of series a b n m s ≡ k
  pub counted : total_blanks layout s ≡ blanks

-- a refusal accepts no card
never : {A : Type 0} (r : Refusal) (k : Fields) (blanks : ℕ) → ◌≡◌ {A = Result Reading Refusal} (Err r) (accepted_card k blanks) → A
never r k blanks e = let x : ◌≡◌ {A = ℕ} 0 1 = cc in absurd (omega arith)

-- what an accepted reading holds, k and n standing for a refusal's
abbrev fields_or : Fields → Result Reading Refusal → Fields
fields_or k (Ok x) = x.fields
fields_or k (Err r) = k

module _ (fill : Fill) (series : Series) (s : List ℕ) (k : Fields) (blanks : ℕ) where
  -- by the tests in their order
  by-origin : (a b : ℕ) → spacing_of series ≡ Ok (record { a = a; b = b }) → is_polar series.zone ≡ false → eqb (length s) 98 ≡ true
      → walk fill layout s ≡ Ok tt → constants_in a b s ≡ true
      → (n m : Option ℤ) → row_tile b s ≡ n → column_tile a s ≡ m
      → with_origin series a b s n m ≡ accepted_card k blanks → ReadTo fill series s k blanks
  unfolding card_of
  by-origin a b sp po wh ju co none m f g e = never Refusal.Origin k blanks e
  by-origin a b sp po wh ju co (some n) none f g e = never Refusal.Origin k blanks e
  by-origin a b sp po wh ju co (some n) (some m) f g e = go (extents_in a b n s) refl e
    where
      go : (t : Bool) → extents_in a b n s ≡ t
          → (if not t then Err Refusal.Extent else accepted_card (card_of series a b n m s) (total_blanks layout s))
          ≡ accepted_card k blanks → ReadTo fill series s k blanks
      go false t e = never Refusal.Extent k blanks e
      go true t e =
          let c = (and-eq-true_iff (eqb (number_in ARV s) a) (eqb (number_in BRV s) b)).0 co in
          record {
            a = a;
            b = b;
            n = n;
            m = m;
            spacing = sp;
            not-polar = po;
            long = eqb-true (length s) 98 wh;
            judged = ju;
            arv = eqb-true (number_in ARV s) a c.0;
            brv = eqb-true (number_in BRV s) b c.1;
            n-stored = tile-stores b (b / 512) (angle_of 2 (bytes_of PSO s)) n f;
            m-stored = tile-stores a (a / 256) (angle_of 3 (bytes_of LSO s)) m g;
            extents = t;
            card = ap (fields_or k) e;
            counted = ap blanks_told e;
          }

  by_tests : (a b : ℕ) → spacing_of series ≡ Ok (record { a = a; b = b }) → (p w c : Bool) (v : Judged)
      → is_polar series.zone ≡ p → eqb (length s) 98 ≡ w
      → walk fill layout s ≡ v → constants_in a b s ≡ c
      → (if p then Err Refusal.Polar
      else (if not w then Err Refusal.Length
      else ◌>>=◌ {B = Reading} v (λ _. if not c then Err Refusal.Spacing else with_origin series a b s (row_tile b s) (column_tile a s))))
      ≡ accepted_card k blanks
      → ReadTo fill series s k blanks
  by_tests a b sp true w c v po wh ju co e = never Refusal.Polar k blanks e
  by_tests a b sp false false c v po wh ju co e = never Refusal.Length k blanks e
  by_tests a b sp false true c (Err r) po wh ju co e = never r k blanks e
  by_tests a b sp false true false (Ok u) po wh ju co e = never Refusal.Spacing k blanks e
  by_tests a b sp false true true (Ok u) po wh ju co e = by-origin a b sp po wh ju co _ _ refl refl e

  pub read-to : read_as fill series s ≡ accepted_card k blanks → ReadTo fill series s k blanks
  unfolding read_in with_values
  read-to e = go (spacing_of series) refl e
    where
      go : (x : Result Spacing Refusal) → spacing_of series ≡ x → ◌>>=◌ {B = Reading} x (λ y. read_in fill series y s) ≡ accepted_card k blanks
          → ReadTo fill series s k blanks
      go (Err r) sp e = never r k blanks e
      go (Ok x) sp e =
          by_tests x.a x.b sp (is_polar series.zone) (eqb (length s) 98) (constants_in x.a x.b s) (walk fill layout s) refl refl refl refl e

  pub to_read : ReadTo fill series s k blanks → read_as fill series s ≡ accepted_card k blanks
  unfolding read_in with_values card_of
  to_read r =
      let g = answered-grids series r.a r.b r.spacing in
      rw (
        r.spacing,
        r.not-polar,
        eq-eqb (length s) 98 r.long,
        r.judged,
        eq-eqb (number_in ARV s) r.a r.arv,
        eq-eqb (number_in BRV s) r.b r.brv,
        stores-tile r.b (r.b / 512) (angle_of 2 (bytes_of PSO s)) r.n g.rows r.n-stored,
        stores-tile r.a (r.a / 256) (angle_of 3 (bytes_of LSO s)) r.m g.columns r.m-stored,
        r.extents,
      )
      (ap₂ accepted_card r.card r.counted)

-- bytes whose tests pass one by one are an accepted card; n and m are those that store the angles
module _ (series : Series) (a b : ℕ) (n m : ℤ) (s : List ℕ) where
  pub bytes-accepted : spacing_of series ≡ Ok (record { a = a; b = b }) → is_polar series.zone ≡ false → length s ≡ 98
      → walk Fill.Blanks layout s ≡ Ok tt → number_in ARV s ≡ a → number_in BRV s ≡ b
      → outside (b / 512) n ≡ false → stored_angle b n ≡ angle_of 2 (bytes_of PSO s)
      → outside (a / 256) m ≡ false → stored_angle a m ≡ angle_of 3 (bytes_of LSO s)
      → extents_in a b n s ≡ true → Accepted series (card_of series a b n m s)
  bytes-accepted sp po lo ju ar br on ns om ms x =
      record {
        bytes = s;
        blanks = total_blanks layout s;
        read = to_read Fill.Blanks series s (card_of series a b n m s) (total_blanks layout s)
            (record {
              a = a;
              b = b;
              n = n;
              m = m;
              spacing = sp;
              not-polar = po;
              long = lo;
              judged = ju;
              arv = ar;
              brv = br;
              n-stored = record { on-grid = on; same = ns };
              m-stored = record { on-grid = om; same = ms };
              extents = x;
              card = refl;
              counted = refl;
            });
      }
