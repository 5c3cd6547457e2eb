-- Each subfield is put at its offset, and they are the whole layout. Assumes nothing.
use Rattle.std.proofs.Common.{◌≡◌, ap, ◌∙◌, w64}
use mir.ValLaws.{to_z-of_z}
use Rattle.text.specs.Text.{angle_text}
use Rattle.text.specs.Buffer.{put_at}
use Rattle.origin.specs.Origin.{stored_angle}
use Rattle.card_text.specs.Layout.{layout}
use Rattle.card_text.specs.Write.{values_of, card_text}
use Rattle.text.proofs.Splices.{splice-over}
use Rattle.card_text.proofs.Written.{FieldsPut, end, ◌▸◌, put_all}
use Rattle.card_text.proofs.write.put_card.Goals as goal

pub returns : goal.returns
unfolding card_text layout values_of
returns c =
    let a = c.args in
    let lon : c.put_angle.new.out ≡ put_at (angle_text 3 (stored_angle a.a a.r.m)) 17 c.put_number-3.new.out =
    c.put_angle.ensures.left ∙ ap (λ z. put_at (angle_text 3 z) 17 c.put_number-3.new.out) (to_z-of_z w64 a.lon c.ranges.lon ∙ c.requires.lon_stored) in
    let lat : c.put_angle-2.new.out ≡ put_at (angle_text 2 (stored_angle a.b a.r.n)) 28 c.put_angle.new.out =
    c.put_angle-2.ensures.left ∙ ap (λ z. put_at (angle_text 2 z) 28 c.put_angle.new.out) (to_z-of_z w64 a.lat c.ranges.lat ∙ c.requires.lat_stored) in
    let fields : FieldsPut layout (values_of a.a a.b a.r) a.out.now c.put_byte.new.out =
    c.put_number.ensures.left ▸ c.put_number-2.ensures.left ▸ c.put_number-3.ensures.left ▸ lon ▸ lat ▸
    c.put_number-4.ensures.left ▸ c.put_number-5.ensures.left ▸ c.put_number-6.ensures.left ▸ c.put_number-7.ensures.left ▸
    c.put_number-8.ensures.left ▸ c.put_number-9.ensures.left ▸ c.put_number-10.ensures.left ▸ c.put_number-11.ensures.left ▸
    c.put_number-12.ensures.left ▸ c.put_number-13.ensures.left ▸ c.put_number-14.ensures.left ▸ c.put_number-15.ensures.left ▸
    c.put_number-16.ensures.left ▸ c.put_name.ensures.left ▸ (rw c.flag.ensures at c.put_byte.ensures.left) ▸ end in
    put_all fields 0 (rw c.put_name.ensures.width) c.requires.room ∙ splice-over _ _
