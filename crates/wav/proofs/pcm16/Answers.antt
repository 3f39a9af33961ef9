use Rattle.std.proofs.Common.{◌≡◌, ◌∙◌, ap, of_z}
use Rattle.std.proofs.lemmas.Int.{to_z-of_z}
use Rattle.std.specs.Int.{w16}
use Rattle.wav.specs.Wav.{pcm16_of, twos_complement}
use Rattle.wav.proofs.Laws.{twos}
use Rattle.wav.proofs.pcm16.Goals as goal

pub returns : goal.returns
unfolding pcm16_of
returns c =
    let n = c.saturating_f32_to_i16.result in
    let bits : c.cast_unsigned.result ≡ twos_complement n = c.cast_unsigned.ensures ∙ ap (of_z w16) (to_z-of_z w16 n (record { sfits = c.saturating_f32_to_i16.type_inv })) ∙ twos n in
    rw (bits, c.saturating_f32_to_i16.ensures, c.round-whole.ensures, c.clamp.ensures)
