-- What a card may span (01, "Origins and the zone grid", "The image card, 98 bytes"). Definitions only.
--     extents_hold ..     the extents, of A, B, n, the four edges, NFL and NFC
use Rattle.std.specs.Prelude.{ℕ, ◌*◌, ◌/◌, Bool, ◌&&◌, leb, ltb, ℤ, pos, neg_ℤ, ◌-ℤ◌}
use Rattle.std.specs.Int.Signed.{le_z}

-- 11 where this fails: NFC ≤ A/128; n − NFL ≥ −B/512; NUL ≤ NLL < 128 × NFL; NLS ≤ NUS < 128 × NFC
unfoldable pub extents_hold : ℕ → ℕ → ℤ → ℕ → ℕ → ℕ → ℕ → ℕ → ℕ → Bool
extents_hold a b n nul nus nll nls nfl nfc =
    leb nfc (a / 128) && le_z (neg_ℤ (pos (b / 512))) (n -ℤ pos nfl)
    && (leb nul nll && ltb nll (128 * nfl)) && (leb nls nus && ltb nus (128 * nfc))
