-- The bits passed make a number, and the next is below them. Assumes nothing.
use Rattle.std.proofs.Common.{◌≡◌, ℕ, ◌+◌, ◌-◌, ◌*◌, get_or, refl, ap, sym, ◌∙◌, arith}
use Rattle.convert.specs.Convert.{bit_of, word_from}
use Rattle.convert.proofs.Words.{bit-lt, word-step, word-low}
use Rattle.convert.proofs.word_at.Goals as goal

pub loop-place-init : goal.loop-place-init
unfolding word_from
loop-place-init c = refl

pub overflow_mul-bits : goal.overflow_mul-bits
overflow_mul-bits c =
    let l = c.loop-place in
    omega (arith, l.invariant, word-low c.args.index.now (c.args.word * 64 + l.place) (64 - l.place) (omega arith))

pub overflow_add-bits : goal.overflow_add-bits
overflow_add-bits c =
    let l = c.loop-place in
    omega (
      arith,
      l.invariant,
      word-low c.args.index.now (c.args.word * 64 + l.place) (64 - l.place) (omega arith),
      c.bit_at.ensures,
      bit-lt (get_or c.args.index.now (c.args.word * 64 + (l.place - 1)) 0),
    )

pub loop-place-preserved : goal.loop-place-preserved
loop-place-preserved c =
    let l = c.loop-place in
    let s = c.args.index.now in
    let t = c.args.word * 64 + (l.place - 1) in
    let e : t + 1 ≡ c.args.word * 64 + l.place = omega arith in
    let w = word-step s t (64 - (l.place - 1)) (64 - l.place) (omega arith) in
    let f : c.bit_at.result ≡ bit_of (get_or s t 0) = c.bit_at.ensures in
    let g : l.bits ≡ word_from s (t + 1) (64 - l.place) = l.invariant ∙ ap (λ (x : ℕ). word_from s x (64 - l.place)) (sym e) in
    omega (arith, w, f, g)
