use Rattle.std.proofs.Common.{◌≡◌, ◌+◌, ◌-◌, ◌*◌, ◌∙◌, ap, ◌++◌, drop, length, get_or, arith}
use Rattle.std.specs.Float.{nan}
use borrow.Rule.Slice.PartMut.{put_mid}
use lib.Seq.{take_all}
use Rattle.wav.specs.Wav.{little_endian, pcm16_of, bytes_of}
use Rattle.wav.proofs.Laws.{le-two, bytes-more}
use Rattle.wav.proofs.encode.Goals as goal

pub loop-k-preserved : goal.loop-k-preserved
loop-k-preserved c =
    let l = c.loop-k in
    let xs = c.args.samples.now in
    let room : 2 * l.k + 2 - 2 * l.k ≡ 2 = omega arith in
    let bytes : c.copy_from_slice.new.self ≡ little_endian 2 (pcm16_of (get_or xs l.k nan))
    = c.copy_from_slice.ensures.after ∙ c.to_le_bytes.ensures ∙ le-two c.pcm16.result ∙ ap (little_endian 2) c.pcm16.ensures in
    (λ i. put_mid (2 * l.k) (room i) (l.invariant i) c.copy_from_slice.new.self) ∙ bytes-more xs c.args.out.now _ l.k c.loop-k-test.true bytes

pub returns : goal.returns
returns c =
    let l = c.loop-k in
    let xs = c.args.samples.now in
    let k : l.k ≡ length xs = omega arith in
    l.invariant ∙ (λ i. bytes_of (take_all l.k xs c.loop-k-test.false i) ++ drop (2 * k i) c.args.out.now)
