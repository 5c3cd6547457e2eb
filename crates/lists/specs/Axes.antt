-- What only the code needs: the axes of a card's pixels in a pair, so that no pixel of it needs a division by A or B (DIGEST "The ARC System" 3.4.3,
-- 3.4.4). Definitions only; that what is answered from them is the plain rule's is the contract of `engine.rt`. H / A is 506,250 / 2u, where u is A / 512.
--     scale_up one x d    the smallest whole number not below x × one / d
--     start_of rest d off what the rounding starts from, the angles being taken off or added
--     shift_of p          how far south and east of a pixel's corner the pair's exact place is, a pixel being 506,250
--     axis_of x from off  the angle of the first pixel of an axis in 2^36ths of a hundredth, x pixels making a circle, and what a pixel adds or takes off
--     axis_at first d off the same, by the nearest's numerator and denominator at the first pixel
--     row_axis p k        the northings of the rows, taken off that of row 0
--     column_axis p k     the eastings of the columns, added to that of column 0
--     span_of u first rest low n   the hundredths of n pixels from pixel low on, the first having rest and each adding u to it, a pixel being 253,125
--     down_of, across_of  the chart's rows and columns, by u and by what their first edge has
--     down_span p k       the chart's rows, counted southward, from no farther north than the pole
--     across_span p k     the chart's columns, counted eastward round the circle
use Rattle.std.specs.Prelude.{ℕ, ◌+◌, ◌-◌, ◌*◌, ◌/◌, ◌%◌, min, Bool, true, false, cond}
use Rattle.arc.specs.Zones.{circle, half}
use Rattle.card_text.specs.declared.Fields.{Fields}
use Rattle.card.specs.declared.Pair.{Pair}
use Rattle.card.specs.Steps.{inward}
use Rattle.lists.specs.declared.axis.Axis.{Axis}
use Rattle.lists.specs.declared.axis.Span.{Span}

abbrev pub scale_up : ℕ → ℕ → ℕ → ℕ
scale_up one x d = (x * one + (d - 1)) / d

-- 2^36 and 2^45
abbrev pub coarse : ℕ
coarse = 68719476736

abbrev pub fine : ℕ
fine = 35184372088832

abbrev pub start_of : ℕ → ℕ → Bool → ℕ
start_of rest d off = cond off (d - 1 - rest) rest

abbrev pub axis_at : ℕ → ℕ → Bool → Axis
axis_at first d off =
    record {
      from = first / d * coarse + start_of (scale_up coarse (start_of (first % d) d off) d) coarse off;
      rate = scale_up coarse 506250 d;
    }

abbrev pub shift_of : Pair → ℕ
shift_of p = inward p / 256

-- the nearest's numerator at the exact place of a pixel, its factor 512 taken out, u added
abbrev pub axis_of : ℕ → ℕ → Bool → Axis
axis_of x from off = axis_at (from + x / 512) (2 * (x / 512)) off

-- 506,250 × 128n less the shift, counted from the South Pole
abbrev pub row_axis : Pair → Fields → Axis
row_axis p k = axis_of k.b (506250 * k.north - shift_of p) true

-- 506,250 × 128m and the shift, counted from 180° west
abbrev pub column_axis : Pair → Fields → Axis
column_axis p k = axis_of k.a (506250 * k.east + shift_of p) false

-- i hundredths past the first is pixel low + (u i + rest) / 253,125, and the last hundredth in the n pixels is `most` past the first
abbrev pub span_of : ℕ → ℕ → ℕ → ℕ → ℕ → Span
span_of u first rest low n =
    record {
      first = first;
      most = (253125 * n - 1 - rest) / u;
      rate = scale_up fine u 253125;
      start = scale_up fine rest 253125 + low * fine;
    }

abbrev pub down_of : ℕ → ℕ → Fields → Span
down_of u from k = span_of u (min (from / u) half) (from - u * min (from / u) half) k.nul (k.nll + 1 - k.nul)

abbrev pub across_of : ℕ → ℕ → Fields → Span
across_of u from k = span_of u (from / u % circle) (from % u) k.nls (k.nus + 1 - k.nls)

-- half a pixel, rounded down, is added for the nearest, nothing for the floor
abbrev pub up_of : Pair → ℕ
up_of p = (253125 - shift_of p) / 2

-- 253,125 × (128n − NUL), counted from the South Pole
abbrev pub down_span : Pair → Fields → Span
down_span p k = down_of (k.b / 512) (253125 * (k.north - k.nul) + up_of p) k

-- 253,125 × (2A − 128m − NLS), counted from 180° west
abbrev pub across_span : Pair → Fields → Span
across_span p k = across_of (k.a / 512) (253125 * (2 * k.a - (k.east + k.nls)) + up_of p) k
