-- What a hole `{n:0digits$x}` writes is the digits after the zeros.
use Rattle.std.proofs.Common.{◌≡◌, ℕ, false, ◌-◌, ◌^◌, ◌++◌, [], ap, ◌∙◌, append-nil, length, replicate, arith}
use Rattle.std.specs.Fmt.{digits, format_spec, padded_integral, char_count}
use Rattle.console.specs.Hex.{hex}

pub hex-padded : (width n : ℕ) → padded_integral (format_spec 32 0 4 width (2 ^ 64 - 1)) false [] (digits 16 false n) ≡ hex width n
unfolding padded_integral char_count
hex-padded width n =
    let ds = digits 16 false n in
    let none : width - length ds - 0 - 0 ≡ width - length ds = omega arith in
    ap (λ m. replicate m 48 ++ (ds ++ [])) none ∙ ap (λ l. replicate (width - length ds) 48 ++ l) (append-nil ds)
