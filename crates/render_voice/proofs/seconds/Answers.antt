use Rattle.std.proofs.Common.{rules, ◌≡◌, ◌+◌, ◌-◌, ◌*◌, ◌≤◌, ◌<◌, ◌∙◌, sym, ap, ℕ, List, length, drop, get_or, true}
use Rattle.std.proofs.Math.ListN.{drop_of_length-le}
use Rattle.render_voice.specs.Seconds.{is_digit, seconds_from, seconds_of}
use Rattle.render_voice.proofs.Laws.{seconds-digit, seconds-other, seconds-high, seconds-end}
use Rattle.render_voice.proofs.seconds.Goals as goal

-- one digit more
more : (n k d s : ℕ) (text : List ℕ) → k < length text → is_digit (get_or text k 0) ≡ true → d ≡ get_or text k 0 - 48 → seconds_from n (drop k text) ≡ s
    → seconds_from (10 * n + d) (drop (k + 1) text) ≡ s
more n k d s text h t e i = ap (λ x. seconds_from (10 * n + x) (drop (k + 1) text)) e ∙ sym (seconds-digit n k 0 text h t) ∙ i

-- the end of the text
last : (n k s : ℕ) (text : List ℕ) → n ≤ 3600 → length text ≤ k → seconds_from n (drop k text) ≡ s → n ≡ s
last n k s text small h i = sym (seconds-end n small) ∙ ap (seconds_from n) (sym (drop_of_length-le text {i = k} h)) ∙ i

pub returns-in_err-n-clause-value : goal.returns-in_err-n-clause-value
returns-in_err-n-clause-value c =
    let l = c.loop-b in
    let zero : 0 ≡ seconds_of c.args.text.now = sym (seconds-other l.n l.b-index 0 c.args.text.now c.loop-b-test.true c.in_err-n.ensures.none) ∙ l.invariant.1 in
    search (rules, zero)

pub returns-then-n-gt3600-clause-value : goal.returns-then-n-gt3600-clause-value
returns-then-n-gt3600-clause-value c =
    let l = c.loop-b in
    let d = c.in_ok-n.ensures.some in
    sym (seconds-high _ _ c.if-n-gt3600.true) ∙ more l.n l.b-index _ _ c.args.text.now c.loop-b-test.true d.0 d.1 l.invariant.1

pub loop-b-preserved : goal.loop-b-preserved
loop-b-preserved c =
    let l = c.loop-b in
    let d = c.in_ok-n.ensures.some in
    (c.if-n-gt3600.false, more l.n l.b-index _ _ c.args.text.now c.loop-b-test.true d.0 d.1 l.invariant.1)

pub returns-then-n-eq0-clause-value : goal.returns-then-n-eq0-clause-value
returns-then-n-eq0-clause-value c =
    let l = c.loop-b in
    sym c.if-n-eq0.true ∙ last l.n l.b-index _ c.args.text.now l.invariant.0 c.loop-b-test.false l.invariant.1

pub returns-else-n-eq0-clause-value : goal.returns-else-n-eq0-clause-value
returns-else-n-eq0-clause-value c =
    let l = c.loop-b in
    last l.n l.b-index _ c.args.text.now l.invariant.0 c.loop-b-test.false l.invariant.1
