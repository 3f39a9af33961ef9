use Rattle.std.proofs.Common.{sym, ◌∙◌}
use Rattle.calls.specs.Calls.{sound-early, sound-late}
use Rattle.calls.proofs.sound_ok.Goals as goal

pub returns-then-c-gt4611686018427387904 : goal.returns-then-c-gt4611686018427387904
returns-then-c-gt4611686018427387904 c = sym (sound-late c.args.plan.now.sheet.now c.args.c _ _ c.if-c-gt4611686018427387904.true)

pub returns : goal.returns
returns c = c.rings_ok.ensures ∙ sym (sound-early c.args.plan.now.sheet.now c.args.c _ _ c.if-c-gt4611686018427387904.false)
