-- What corrections are held to: proved in proofs/Corrections.antt and proofs/Setting.antt.
--     SameAnswers ..         a pixel is answered alike by two indexes and two second lists
--     AsBase ..              a pixel has the base's answers alone
--     PixelOf k t r c        (r, c) is a pixel of tile t
--     Zero corrections       no tile is corrected
--     OneSet before after t number    the two lists differ in entry t alone, which is `number` after
use Rattle.std.specs.Prelude.{◌≡◌, ℕ, ◌+◌, ◌≤◌, List, [], true, false, length, get_or, ℤ, nat_abs, Some, Ok, Err}
use Rattle.whole.specs.Lists.{occurs}
use Rattle.arc.specs.declared.refusal.Refusal.{Refusal}
use Rattle.card_text.specs.declared.Fields.{Fields}
use Rattle.card.specs.Grid.{in_tiles, verdict_of}
use Rattle.tiles.specs.declared.Said.{Said}
use Rattle.tiles.specs.Index.{in_base, in_second, store_wrong, said_of, tile_of}
use Rattle.tiles.specs.LookUp.{number_of, part_at, part_of, in_band, bands_at, bands_of, InPlace}
use Rattle.tiles.specs.Window.{window_tiles, window_of}
use Rattle.tiles.specs.Corrections.{list_wrong, corrections_wrong, source_of, either_part_of, either_bands_of, corrected_window_of, setting_of, set_of}

-- ---- look-up and window

-- source and number, part and values, by index i with the second list x and by index j with y
pub record SameAnswers (k : Fields) (i j : List ℕ) (count : ℕ) (store x y : List ℕ) (corrected : ℕ) (second : List ℕ) (r c : ℤ) : Type 0 where
  pub number : source_of k i count store x corrected second r c ≡ source_of k j count store y corrected second r c
  pub part : either_part_of k i count store x corrected second r c ≡ either_part_of k j count store y corrected second r c
  pub values : either_bands_of k i count store x corrected second r c ≡ either_bands_of k j count store y corrected second r c

-- two servers whose cards, index, counts and stores are equal, and whose second lists are of one length and agree at a pixel's tile, answer it alike
abbrev pub StandbyAlike : Type 0
StandbyAlike =
    (k : Fields) (index : List ℕ) (count : ℕ) (store corrections other : List ℕ) (corrected : ℕ) (second : List ℕ) (r c : ℤ)
    → length corrections ≡ length other
    → (in_tiles k r c ≡ true → get_or corrections (tile_of k (nat_abs r) (nat_abs c)) 0 ≡ get_or other (tile_of k (nat_abs r) (nat_abs c)) 0)
    → SameAnswers k index index count store corrections other corrected second r c

abbrev pub Zero : List ℕ → Type 0
Zero corrections = (t : ℕ) → get_or corrections t 0 ≡ 0

-- the base's answers alone: the number, from the base store, the part and the values
pub record AsBase (k : Fields) (index : List ℕ) (count : ℕ) (store corrections : List ℕ) (corrected : ℕ) (second : List ℕ) (r c : ℤ) : Type 0 where
  pub number : source_of k index count store corrections corrected second r c ≡ number_of k index count store r c
  pub part : either_part_of k index count store corrections corrected second r c ≡ part_of k index count store r c
  pub values : either_bands_of k index count store corrections corrected second r c ≡ bands_of k index count store r c

-- past the new Length, an all-zero list gives the base's answers alone
abbrev pub ZeroAsBase : Type 0
ZeroAsBase =
    (k : Fields) (index : List ℕ) (count : ℕ) (store corrections : List ℕ) (corrected : ℕ) (second : List ℕ) (r c : ℤ) → Zero corrections
    → corrections_wrong k corrections corrected second ≡ false → AsBase k index count store corrections corrected second r c

-- and the window
abbrev pub ZeroWindow : Type 0
ZeroWindow =
    (k : Fields) (index : List ℕ) (count : ℕ) (corrections : List ℕ) (corrected top left height width : ℕ) → Zero corrections
    → list_wrong k corrections corrected ≡ false
    → corrected_window_of k index count corrections corrected top left height width ≡ window_of k index count top left height width

-- where a correction stands, the base entry isn't consulted: any other index of that length gives the same
abbrev pub BaseNotConsulted : Type 0
BaseNotConsulted =
    (k : Fields) (index other : List ℕ) (count : ℕ) (store corrections : List ℕ) (corrected : ℕ) (second : List ℕ) (r c : ℤ)
    → (get_or corrections (tile_of k (nat_abs r) (nat_abs c)) 0 ≡ 0 → ⊥) → length index ≡ length other
    → SameAnswers k index other count store corrections corrections corrected second r c

-- nor by the window: any other index of that length that agrees where no correction stands gives the same
abbrev pub WindowNotConsulted : Type 0
WindowNotConsulted =
    (k : Fields) (index other : List ℕ) (count : ℕ) (corrections : List ℕ) (corrected top left height width : ℕ)
    → length index ≡ length other → ((t : ℕ) → get_or corrections t 0 ≡ 0 → get_or index t 0 ≡ get_or other t 0)
    → corrected_window_of k index count corrections corrected top left height width
    ≡ corrected_window_of k other count corrections corrected top left height width

-- the part of a number is that number's in the store that is named, and of a refusal it is empty
abbrev pub EitherPartIs : Type 0
EitherPartIs =
    (k : Fields) (index : List ℕ) (count : ℕ) (store corrections : List ℕ) (corrected : ℕ) (second : List ℕ) (r c : ℤ)
    → let a = source_of k index count store corrections corrected second r c in
    let part = either_part_of k index count store corrections corrected second r c in
    ((n : ℕ) → a ≡ Ok (in_base n) → InPlace count n part store)
    × ((n : ℕ) → a ≡ Ok (in_second n) → InPlace corrected n part second)
    × ((e : Refusal) → a ≡ Err e → part ≡ [])

-- a corrected tile isn't missing: the tile that the window answers is not corrected, and not stored in the base
abbrev pub MissingInBoth : Type 0
MissingInBoth =
    (k : Fields) (index : List ℕ) (count : ℕ) (corrections : List ℕ) (corrected top left height width t : ℕ)
    → corrected_window_of k index count corrections corrected top left height width ≡ Ok (Some t)
    → (get_or corrections t 0 ≡ 0) × (said_of k index count t ≡ Said.Missing)

-- ---- setting one entry

pub record OneSet (before after : List ℕ) (t number : ℕ) : Type 0 where
  pub long : length after ≡ length before
  pub there : get_or after t 0 ≡ number
  pub elsewhere : (j : ℕ) → (j ≡ t → ⊥) → get_or after j 0 ≡ get_or before j 0

-- it touches that entry only, and nothing in a refusal
abbrev pub SetsOne : Type 0
SetsOne =
    (k : Fields) (corrections : List ℕ) (corrected t number : ℕ)
    → (setting_of k corrections corrected t number ≡ Ok tt → OneSet corrections (set_of k corrections corrected t number) t number)
    × ((e : Refusal) → setting_of k corrections corrected t number ≡ Err e → set_of k corrections corrected t number ≡ corrections)

abbrev pub PixelOf : Fields → ℕ → ℤ → ℤ → Type 0
PixelOf k t r c = (in_tiles k r c ≡ true) × (tile_of k (nat_abs r) (nat_abs c) ≡ t)

-- look-ups of pixels that are not of that tile answer as before
abbrev pub OtherPixels : Type 0
OtherPixels =
    (k : Fields) (index : List ℕ) (count : ℕ) (store corrections : List ℕ) (corrected : ℕ) (second : List ℕ) (t number : ℕ) (r c : ℤ)
    → (PixelOf k t r c → ⊥) → SameAnswers k index index count store (set_of k corrections corrected t number) corrections corrected second r c

-- windows without that tile, and windows outside, answer as before
abbrev pub OtherWindows : Type 0
OtherWindows =
    (k : Fields) (index : List ℕ) (count : ℕ) (corrections : List ℕ) (corrected t number top left height width : ℕ)
    → (top + height ≤ k.nfl → left + width ≤ k.nfc → occurs t (window_tiles k top left height width) ≡ false)
    → corrected_window_of k index count (set_of k corrections corrected t number) corrected top left height width
    ≡ corrected_window_of k index count corrections corrected top left height width

-- past Length, OutsideTiles and Padding, look-ups in it answer from the new entry: that tile of the corrections store, or the base's answers where it is 0
abbrev pub FromNewEntry : Type 0
FromNewEntry =
    (k : Fields) (index : List ℕ) (count : ℕ) (store corrections : List ℕ) (corrected : ℕ) (second : List ℕ) (t number : ℕ) (r c : ℤ)
    → setting_of k corrections corrected t number ≡ Ok tt → store_wrong k index count store ≡ false
    → corrections_wrong k corrections corrected second ≡ false → verdict_of k r c ≡ Ok tt → tile_of k (nat_abs r) (nat_abs c) ≡ t
    → let after = set_of k corrections corrected t number in
    ((number ≡ 0 → ⊥) → (source_of k index count store after corrected second r c ≡ Ok (in_second number))
    × (either_part_of k index count store after corrected second r c ≡ part_at number second)
    × (either_bands_of k index count store after corrected second r c ≡ Ok (bands_at (part_at number second) (in_band r c))))
    × (number ≡ 0 → AsBase k index count store after corrected second r c)
