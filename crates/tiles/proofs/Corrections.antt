-- Of the corrections, look-up asks the entry of its tile; where it is 0 the base answers. Assumes nothing.
use mathlib.Core.Path.{◌≡◌, refl, sym, ap, ap₂, fun_ext, ◌∙◌}
use mathlib.Core.Bool.{Bool, true, false, cond, ◌||◌}
use mathlib.Core.List.{List, [], ◌∷◌}
use Prim.Native.Nat.{ℕ, ◌+◌}
use native.Mathlib.Omega.{arith}
use native.Mathlib.Decide.{ℕ_discrete}
use lib.Dec.{ltb}
use lib.ListN.{length, get_or}
use lib.IntN.{ℤ, nat_abs}
use Rattle.std.specs.Prelude.{Option, Some, Result, Ok, Err}
use Rattle.whole.specs.Results.{◌>>=◌}
use Rattle.arc.specs.declared.refusal.Refusal.{Refusal}
use Rattle.card_text.specs.declared.Fields.{Fields}
use Rattle.card.specs.Grid.{in_tiles}
use Rattle.tiles.specs.declared.Source.{Source}
use Rattle.tiles.specs.declared.Stored.{Stored}
use Rattle.tiles.specs.declared.Said.{Said}
use Rattle.tiles.specs.Index.{tile_of, in_base, unless_wrong, index_wrong, store_wrong, said, said_of}
use Rattle.tiles.specs.LookUp.{found_of, stored_by, part_in, part_by, in_band, bands_at, bands_by, number_of}
use Rattle.tiles.specs.Window.{window_tiles, scanned, scan, view_of, window_by}
use Rattle.tiles.specs.Corrections.{list_wrong, corrections_wrong, said_with, source_of}
use Rattle.tiles.specs.Corrected.{SameAnswers, StandbyAlike, AsBase, ZeroAsBase}
use Rattle.tiles.specs.Corrected.{ZeroWindow, BaseNotConsulted, WindowNotConsulted, EitherPartIs, MissingInBoth}
use Rattle.tiles.specs.Entries.{entry-is}
use Rattle.tiles.specs.Laws.{with_none, with-some}
use Rattle.tiles.proofs.Alike.{one-tile}
use Rattle.tiles.proofs.PixelTile.{number-held}
use Rattle.tiles.proofs.PartOf.{in_place}
use Rattle.tiles.proofs.Sources.{base-held, second-held}

-- ---- two indexes and two second lists

-- part and values follow the number
pub alike : (k : Fields) (i j : List ℕ) (count : ℕ) (store x y : List ℕ) (corrected : ℕ) (second : List ℕ) (r c : ℤ)
    → source_of k i count store x corrected second r c ≡ source_of k j count store y corrected second r c
    → SameAnswers k i j count store x y corrected second r c
unfolding part_by bands_by
alike k i j count store x y corrected second r c e =
    record {
      number = e;
      part = ap (λ (a : Result Stored Refusal). part_in a store second) e;
      values = ap (λ (a : Result Stored Refusal). a >>= (λ s. Ok (bands_at (part_in a store second) (in_band r c)))) e;
    }

module _ (k : Fields) (index : List ℕ) (count : ℕ) (store corrections other : List ℕ) (corrected : ℕ) (second : List ℕ) (r c : ℤ)
    (e : length corrections ≡ length other) where
  -- outside the tiles every list of that length answers alike
  outside-alike : in_tiles k r c ≡ false
      → source_of k index count store corrections corrected second r c ≡ source_of k index count store other corrected second r c
  unfolding stored_by corrections_wrong list_wrong found_of
  outside-alike o = rw (e, o)

  inside-alike : get_or corrections (tile_of k (nat_abs r) (nat_abs c)) 0 ≡ get_or other (tile_of k (nat_abs r) (nat_abs c)) 0
      → source_of k index count store corrections corrected second r c ≡ source_of k index count store other corrected second r c
  unfolding stored_by corrections_wrong list_wrong said_with found_of
  inside-alike f = rw (e, f)

pub standby-alike : StandbyAlike
standby-alike k index count store corrections other corrected second r c e f =
    alike k index index count store corrections other corrected second r c (go (in_tiles k r c) refl)
  where
    go : (b : Bool) → in_tiles k r c ≡ b
        → source_of k index count store corrections corrected second r c ≡ source_of k index count store other corrected second r c
    go true i = inside-alike k index count store corrections other corrected second r c e (f i)
    go false o = outside-alike k index count store corrections other corrected second r c e o

-- ---- an all-zero list

-- where the tile is not corrected, the base answers
base-found : (k : Fields) (corrections : List ℕ) (corrected : ℕ) (says : ℕ → Said) (r c : ℤ) → get_or corrections (tile_of k (nat_abs r) (nat_abs c)) 0 ≡ 0
    → found_of k (said_with corrections corrected says) r c ≡ found_of k says r c
base-found k corrections corrected says r c z =
    one-tile k (said_with corrections corrected says) says r c (with_none corrections (tile_of k (nat_abs r) (nat_abs c)) corrected says z)

module _ (k : Fields) (index : List ℕ) (count : ℕ) (store corrections : List ℕ) (corrected : ℕ) (second : List ℕ) (r c : ℤ)
    (w : corrections_wrong k corrections corrected second ≡ false) (z : get_or corrections (tile_of k (nat_abs r) (nat_abs c)) 0 ≡ 0) where
  base-number : source_of k index count store corrections corrected second r c ≡ number_of k index count store r c
  unfolding stored_by
  base-number =
      rw w (ap (λ (a : Result Stored Refusal). unless_wrong (store_wrong k index count store) (Ok tt) >>= (λ x. a))
      (base-found k corrections corrected (said_of k index count) r c z))

  -- what the list stores is in the base store
  base-part : (a : Result Stored Refusal) → number_of k index count store r c ≡ a → part_in a store second ≡ part_in a store []
  base-part (Ok s) e = rw (number-held k index count store r c s e).0
  base-part (Err x) e = refl

  pub as-base : AsBase k index count store corrections corrected second r c
  unfolding part_by bands_by
  as-base =
      let p = ap (λ (a : Result Stored Refusal). part_in a store second) base-number ∙ base-part (number_of k index count store r c) refl in
      record {
        number = base-number;
        part = p;
        values = ap₂ (λ (a : Result Stored Refusal) (l : List ℕ). a >>= (λ s. Ok (bands_at l (in_band r c)))) base-number p;
      }

pub zero-as-base : ZeroAsBase
zero-as-base k index count store corrections corrected second r c z w =
    as-base k index count store corrections corrected second r c w (z (tile_of k (nat_abs r) (nat_abs c)))

pub zero-window : ZeroWindow
unfolding window_by
zero-window k index count corrections corrected top left height width z w =
    let e : said_with corrections corrected (said_of k index count) ≡ said_of k index count =
    fun_ext (λ t. with_none corrections t corrected (said_of k index count) (z t)) in
    rw (w, e)

-- ---- where a correction stands
some-found : (k : Fields) (corrections : List ℕ) (corrected : ℕ) (says other : ℕ → Said) (r c : ℤ)
    → (get_or corrections (tile_of k (nat_abs r) (nat_abs c)) 0 ≡ 0 → ⊥)
    → found_of k (said_with corrections corrected says) r c ≡ found_of k (said_with corrections corrected other) r c
some-found k corrections corrected says other r c d =
    let t = tile_of k (nat_abs r) (nat_abs c) in
    one-tile k (said_with corrections corrected says) (said_with corrections corrected other) r c
    (with-some corrections t corrected says d ∙ sym (with-some corrections t corrected other d))

pub base-not-consulted : BaseNotConsulted
unfolding stored_by index_wrong
base-not-consulted k index other count store corrections corrected second r c d e =
    alike k index other count store corrections corrections corrected second r c
    (rw (e, some-found k corrections corrected (said_of k index count) (said_of k other count) r c d))

-- what is said of a tile, by two indexes that agree where no correction stands
one-said : (k : Fields) (index other : List ℕ) (count : ℕ) (corrections : List ℕ) (corrected t : ℕ)
    → (get_or corrections t 0 ≡ 0 → get_or index t 0 ≡ get_or other t 0)
    → said_with corrections corrected (said_of k index count) t ≡ said_with corrections corrected (said_of k other count) t
unfolding said_of
one-said k index other count corrections corrected t f = go (ℕ_discrete (get_or corrections t 0) 0)
  where
    go : Dec (get_or corrections t 0 ≡ 0) → said_with corrections corrected (said_of k index count) t
        ≡ said_with corrections corrected (said_of k other count) t
    go (yes z) =
        with_none corrections t corrected (said_of k index count) z
        ∙ ap (λ (e : ℕ). cond k.tif (said Source.Base count e) (Said.Stored (in_base (t + 1)))) (f z)
        ∙ sym (with_none corrections t corrected (said_of k other count) z)
    go (no d) = with-some corrections t corrected (said_of k index count) d ∙ sym (with-some corrections t corrected (said_of k other count) d)

pub window-not-consulted : WindowNotConsulted
unfolding window_by index_wrong
window-not-consulted k index other count corrections corrected top left height width e f =
    let g : said_with corrections corrected (said_of k index count) ≡ said_with corrections corrected (said_of k other count) =
    fun_ext (λ t. one-said k index other count corrections corrected t (f t)) in
    rw (e, g)

pub either-part-is : EitherPartIs
unfolding part_by
either-part-is k index count store corrections corrected second r c = (
  λ n e. rw e (in_place n count store (base-held k index count store corrections corrected second r c n e)),
  λ n e. rw e (in_place n corrected second (second-held k index count store corrections corrected second r c n e)),
  λ x e. rw e,
)

-- ---- the window

-- the tile that a scan answers is missing
scan-missing : (says : ℕ → Said) (t : ℕ) (ts : List ℕ) → scan says ts ≡ Ok (Some t) → says t ≡ Said.Missing
scan-missing says t [] e = let z : ◌≡◌ {A = ℕ} 0 1 = cc in absurd (omega arith)
scan-missing says t (x ∷ ts) e = go (says x) refl e (scan-missing says t ts)
  where
    go : (v : Said) → says x ≡ v → scanned x v (scan says ts) ≡ Ok (Some t)
        → (scan says ts ≡ Ok (Some t) → says t ≡ Said.Missing) → says t ≡ Said.Missing
    go (Said.Stored n) o h f = f h
    go Said.Missing o h f = let s : x ≡ t = cc in ap says (sym s) ∙ o
    go Said.Above o h f = let z : ◌≡◌ {A = ℕ} 0 1 = cc in absurd (omega arith)

-- missing in both lists
both : (corrections : List ℕ) (corrected : ℕ) (says : ℕ → Said) (t : ℕ) → said_with corrections corrected says t ≡ Said.Missing
    → (get_or corrections t 0 ≡ 0) × (says t ≡ Said.Missing)
both corrections corrected says t e = go (ℕ_discrete (get_or corrections t 0) 0)
  where
    go : Dec (get_or corrections t 0 ≡ 0) → (get_or corrections t 0 ≡ 0) × (says t ≡ Said.Missing)
    go (yes z) = (z, sym (with_none corrections t corrected says z) ∙ e)
    go (no d) = absurd (d (entry-is Source.Corrections corrected (get_or corrections t 0) Said.Missing (sym (with-some corrections t corrected says d) ∙ e)))

pub missing-in-both : MissingInBoth
unfolding window_by view_of
missing-in-both k index count corrections corrected top left height width t =
    go (list_wrong k corrections corrected) (index_wrong k index count) (ltb k.nfl (top + height)) (ltb k.nfc (left + width))
  where
    says : ℕ → Said
    says = said_with corrections corrected (said_of k index count)

    go : (a b x y : Bool) → unless_wrong a (unless_wrong b (Ok tt)) >>= (λ u.
        cond {A = Result (Option ℕ) Refusal} (x || y) (Err Refusal.OutsideTiles) (scan says (window_tiles k top left height width)))
        ≡ Ok (Some t)
        → (get_or corrections t 0 ≡ 0) × (said_of k index count t ≡ Said.Missing)
    go true b x y e = let z : ◌≡◌ {A = ℕ} 0 1 = cc in absurd (omega arith)
    go false true x y e = let z : ◌≡◌ {A = ℕ} 0 1 = cc in absurd (omega arith)
    go false false true y e = let z : ◌≡◌ {A = ℕ} 0 1 = cc in absurd (omega arith)
    go false false false true e = let z : ◌≡◌ {A = ℕ} 0 1 = cc in absurd (omega arith)
    go false false false false e = both corrections corrected (said_of k index count) t (scan-missing says t (window_tiles k top left height width) e)
