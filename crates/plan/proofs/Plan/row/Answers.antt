use Rattle.std.specs.Prelude.{◌≡◌, ◌≢◌, refl, false, ℕ, ◌+◌, ◌≤◌, ◌<◌}
use Rattle.std.proofs.Common.{sym, ap, ◌∙◌, arith}
use Rattle.sheet.specs.Record.{count_of}
use Rattle.sheet.specs.Checks.{sum}
use Rattle.sheet.specs.Laws.{sum-suc}
use Rattle.sheet.specs.Numbers.{kind_number}
use Rattle.layout.specs.Built.{is_built}
use Rattle.layout.specs.Needs.{cells, registers}
use Rattle.layout.specs.Counts.{sum-above}
use Rattle.layout.specs.Tables.{entry-of, role_code, role-same}
use Rattle.layout.specs.declared.Role.{Role}
use Rattle.layout.specs.declared.Role.TheVariants.{Out, Silent, Built}
use Rattle.plan.proofs.Plan.row.Goals as goal
use Rattle.plan.proofs.Plan.row.Goals.{in-Built, in_default}

not-built : (r : Role) → r ≢ Built → is_built r ≡ false
not-built Out d = refl
not-built Silent d = refl
not-built Built d = absurd (d refl)

part : (f : ℕ → ℕ) (n : ℕ) {i a e : ℕ} → i < n → a ≡ sum f i → e ≡ sum f (i + 1) → (a ≤ e) × (e ≤ sum f n)
part f n {i} h p q = let d = sum-suc f i in (omega arith, omega (arith, sum-above f n i h))

pub returns : goal.returns
returns c =
    let t = c.args.self.now in
    let m = t.made in
    let i = c.args.i in
    let n = count_of t.sheet.now in
    let h : i < t.count = omega (arith, c.requires, m.passed.count) in
    let act = ap is_built (role-same _ _ (entry-of role_code t.acts.now m.act_at i h Out)) in
    let own = part (cells t.sheet.now) n c.requires (m.cells_at.at i (omega arith)) (m.cells_at.at (i + 1) (omega arith)) in
    let words = part (registers t.sheet.now) n c.requires (m.registers_at.at i (omega arith)) (m.registers_at.at (i + 1) (omega arith)) in
    record {
      kind_is = entry-of kind_number t.kinds.now m.kind_at i h _;
      built_is = elim c.match-matches.branch [
        | in-Built w ↦ w.matches-is ∙ ap is_built (sym w.in-Built.is) ∙ act
        | in_default w ↦ w.matches-is ∙ sym (not-built _ w.in_default.not-Built) ∙ act
      ];
      begin_is = m.begin_at.at _ h;
      after_is = m.after_at.at _ h;
      cells_is = m.cells_at.at _ (omega arith);
      cells_end_is = m.cells_at.at _ (omega arith);
      cells_rise = own.0;
      cells_within = own.1;
      registers_is = m.registers_at.at _ (omega arith);
      registers_end_is = m.registers_at.at _ (omega arith);
      registers_rise = words.0;
      registers_within = words.1;
      scratch_is = m.scratch_at.at _ (omega arith);
    }
