-- A stored number lies in the store, so its part is a whole tile. Assumes nothing.
use mathlib.Core.Path.{◌≡◌, sym, ap, ◌∙◌}
use mathlib.Core.List.{List, ◌++◌}
use Prim.Native.Nat.{ℕ, ◌-◌, ◌*◌, ◌≤◌}
use native.Mathlib.Omega.{arith}
use lib.ListN.{take, drop, take-append-drop}
use lib.Seq.{length-take-le}
use Rattle.tiles.specs.Index.{tile_bytes}
use Rattle.tiles.specs.LookUp.{part_at, part_by, InPlace, PartIs}
use Rattle.tiles.proofs.PixelTile.{InStore, number-held, lies, part_length}

pub in_place : (n count : ℕ) (store : List ℕ) → InStore n count store → InPlace count n (part_at n store) store
in_place n count store h =
    let rest = drop ((n - 1) * tile_bytes) store in
    record {
      least = h.some;
      most = h.most;
      long = part_length n store (lies n count store h);
      ahead = take ((n - 1) * tile_bytes) store;
      behind = drop tile_bytes rest;
      start = length-take-le ((n - 1) * tile_bytes) store (omega (arith, (lies n count store h).1));
      joined = sym (ap (λ (l : List ℕ). take ((n - 1) * tile_bytes) store ++ l) (take-append-drop tile_bytes rest)
          ∙ take-append-drop ((n - 1) * tile_bytes) store);
    }

-- the slice of a store that is a tile's part
pub taken : (n : ℕ) (store s : List ℕ) → 1 ≤ n → store ≡ s → take (n * 49152 - (n - 1) * 49152) (drop ((n - 1) * 49152) store) ≡ part_at n s
taken n store s h e = let w : n * 49152 - (n - 1) * 49152 ≡ 49152 = omega arith in rw (w, e)

pub part-is : PartIs
unfolding part_by
part-is k index count store r c = (
  λ s e. let h = number-held k index count store r c s e in
      (h.0, rw (e, h.0) (in_place s.number count store h.1)),
  λ x e. rw e,
)
