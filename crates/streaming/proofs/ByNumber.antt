-- What the walk is lent for a block. No function asks for it since a plan holds the tables of a sheet; it stands since it is said of any block.
use Rattle.std.specs.Prelude.{◌≡◌, List, ℕ, ◌+◌, ◌^◌, ◌≤◌, Float}
use Rattle.std.proofs.Common.{arith}
use Rattle.control.specs.declared.Controls.{Controls}
use Rattle.unit.specs.Block.{Pitched}
use Rattle.walk.specs.Walk.{Ready}

pub ready_of : {c : Controls} {pitch : List Float} {n nv nw : ℕ} → Pitched c pitch n → n ≤ 256 → c.position + n ≤ 2 ^ 62 → nv ≡ n → nw ≡ n → Ready c pitch n nv nw
ready_of p h e q r = record {
  pitched = p;
  short = h;
  early = omega (arith, e);
  first_buffer = q;
  second_buffer = r;
}
