-- The filter for one sample, x.
use Rattle.std.specs.Prelude.{cond, Float}
use Rattle.std.specs.Float.Ieee.{ne}
use Rattle.float.specs.Single.{◌⊕◌, ◌⊖◌, ◌⊗◌}
use Rattle.biquad.specs.declared.Response.{Response}
use Rattle.biquad.specs.Biquad.{biquad_of}
use Rattle.filter_step.specs.declared.Filter.{Filter}

-- its coefficients follow the cutoff where it has moved; a NaN is never the last one, so it always counts as moved
unfoldable pub tuned : Response → Float → Filter → Filter
tuned r f s =
    let k = biquad_of r f in
    let moved : Filter = record { scale = s.scale; prev_f = f; b0 = k.b0; b1 = k.b1; b2 = k.b2; a1 = k.a1; a2 = k.a2; x1 = s.x1; x2 = s.x2; y1 = s.y1; y2 = s.y2 } in
    cond (ne f s.prev_f) moved s

-- direct form I: the sample, and the state then
unfoldable pub biquad_step : Filter → Float → Float × Filter
biquad_step s x =
    let y = s.b0 ⊗ x ⊕ s.b1 ⊗ s.x1 ⊕ s.b2 ⊗ s.x2 ⊖ s.a1 ⊗ s.y1 ⊖ s.a2 ⊗ s.y2 in
    (y, record { scale = s.scale; prev_f = s.prev_f; b0 = s.b0; b1 = s.b1; b2 = s.b2; a1 = s.a1; a2 = s.a2; x1 = x; x2 = s.x1; y1 = y; y2 = s.y1 })

unfoldable pub filter_of : Response → Float → Filter → Float → Float × Filter
unfolding tuned biquad_step
filter_of r cutoff s x = biquad_step (tuned r (cutoff ⊗ s.scale) s) x
