-- S × 1 is S, and every question reads its scale from there. Assumes nothing.
use Rattle.arc.proofs.ScaleLaws.{scale-at-one}
use Rattle.card_text.specs.Write.{write_of, out_of}
use Rattle.fordcask.specs.FactorOne.{FactorOne}

pub factor-one : FactorOne
unfolding write_of out_of
factor-one s zone =
    record {
      rows = rw (scale-at-one s);
      spacing = rw (scale-at-one s);
      cover = λ lat. rw (scale-at-one s);
      rectangle = λ south north. rw (scale-at-one s);
      alignment = λ lat lon. rw (scale-at-one s);
      reading = λ fill card. rw (scale-at-one s);
      writing = λ r out. rw (scale-at-one s);
      output = λ r out. rw (scale-at-one s);
    }
