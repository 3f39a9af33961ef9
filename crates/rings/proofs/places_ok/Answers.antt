use Rattle.std.specs.Prelude.{◌≡◌, true, false, refl}
use Rattle.std.proofs.Common.{rules, ap, ◌∙◌}
use borrow.Author.Tests.{tests}
use Rattle.std.proofs.lemmas.Iterator.{cases_from_all, YieldsList-from_range}
use Rattle.sheet.specs.Checks.{all}
use Rattle.rings.specs.Rings.{place_test, all-ranged}
use Rattle.rings.proofs.places_ok.Goals as goal

pub returns : goal.returns
returns c =
    let p = place_test c.reverb_lens-lens.result c.args.words.now in
    all-ranged p 10 c.all.result (cases_from_all _ _ _ (λ k. p k ≡ true) (λ k. p k ≡ false) c.all.ensures.ran (YieldsList-from_range 0 10 10 refl refl) (λ x q k. search (rules, tests)) (λ x q k. search (rules, tests)))
    ∙ ap (λ lens. all (place_test lens c.args.words.now) 10) c.reverb_lens-lens.ensures.0
