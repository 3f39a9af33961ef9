use Rattle.std.proofs.Common.{◌≡◌, ◌+◌, ◌-◌, ◌∙◌, arith}
use borrow.Rule.Slice.PartMut.{put_mid}
use Rattle.wav.specs.Wav.{little_endian}
use Rattle.wav.proofs.Laws.{le-four}
use Rattle.wav.proofs.put.Goals as goal

pub returns : goal.returns
returns c =
    let a = c.args in
    let room : a.at + 4 - a.at ≡ 4 = omega arith in
    let bytes : c.copy_from_slice.new.self ≡ little_endian 4 a.x = c.copy_from_slice.ensures.after ∙ c.to_le_bytes.ensures ∙ le-four a.x in
    (λ i. put_mid a.at (room i) a.h.now (bytes i))
