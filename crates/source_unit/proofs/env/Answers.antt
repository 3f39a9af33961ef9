use Rattle.std.proofs.Common.{sym, ap, ◌∙◌, []}
use Rattle.dsl.specs.declared.Adsr.{Adsr}
use Rattle.value.specs.Modulators.{release_start}
use Rattle.unpitched.specs.Others.{env_of}
use Rattle.source_block.specs.Steps.{env_step}
use Rattle.unit.specs.Block.{moment-position, ran-stateless}
use Rattle.source_unit.proofs.env.Goals as goal

pub returns : goal.returns
unfolding env_step
returns c =
    let er = c.adsr-env.ensures in
    let el = c.release_start.ensures ∙ ap (λ (e : Adsr). release_start c.args.n c.args.srf e.r) er in
    λ cs rs. ran-stateless _ (env_step _ c.args.srf _ c.args.c.position) c.args.c [] (λ k l. (λ i. env_of (sym er i) c.args.srf (sym el i) (moment-position k c.args.c i))) c.env_block.ensures
