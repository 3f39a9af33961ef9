use Rattle.wav.specs.Wav.{little_endian}
use Rattle.wav.proofs.header.Goals as goal

pub returns : goal.returns
unfolding little_endian
returns c = rw (c.put-4.ensures, c.put-3.ensures, c.put-2.ensures, c.put.ensures)
