-- What is read stands behind what was read before. Assumes nothing.
use Rattle.std.proofs.Common.{◌≡◌, ℕ, ◌+◌, ◌-◌, ◌≤◌, List, ◌++◌, length, take, take_at, drop_at, take-add, length-take-le, rules}
use Rattle.std.proofs.KnownBytes.{Consumes-trans}
use borrow.Rule.Slice.PartMut.{put_mid, post_of}
use lib.Seq.{take-append-le}
use Rattle.input.proofs.fill.Goals as goal

-- the first of what was put at offset a
front : (a k n : ℕ) (xs ys : List ℕ) → a ≤ length xs → n ≤ length ys → take (a + n) (put_mid a k xs ys) ≡ take a xs ++ take n ys
front a k n xs ys within fits =
    let after = ys ++ post_of a k xs in
    rw (
      take-add a n (take a xs ++ after),
      take_at (take a xs) after a (length-take-le a xs within),
      drop_at (take a xs) after a (length-take-le a xs within),
      take-append-le n ys (post_of a k xs) fits,
    )

pub loop-done-preserved : goal.loop-done-preserved
loop-done-preserved g c =
    let l = c.loop-done in
    let e = front l.done (length l.buffer - l.done) c.in_ok-n.n l.buffer c.read.new.buf l.invariant.within c.in_ok-n.ensures.bound.0 in
    record { within = search rules; bytes = rw e (Consumes-trans _ _ _ _ _ l.invariant.bytes c.in_ok-n.ensures.bytes.0) }
