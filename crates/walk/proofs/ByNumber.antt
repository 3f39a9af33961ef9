-- Laws of kinds and of roles by their numbers, of what a record's own function is lent, and of the loops along a chain. No function asks for them since
-- a kind and a role are enums, a plan holds the tables, and a loop keeps besides what the walk was lent; they stand since the definitions are over
-- numbers, and since any block may be lent.
use Rattle.std.specs.Prelude.{◌≡◌, refl, Bool, true, false, ◌||◌, List, map, ◌≢◌, ℕ, ◌+◌, ◌-◌, ◌≤◌, ◌<◌, eqb, leb, get_or, take, drop, length, Float}
use Rattle.std.proofs.Common.{sym, ap, ◌∙◌, arith, eq-eqb, leb-true, length-take}
use Rattle.std.proofs.Math.ListN.{length-drop}
use Rattle.std.proofs.Math.Seq.{length-take-le}
use Rattle.tree.specs.Comm.{zip}
use Rattle.tree.specs.Tree.{Mode, piping, joining}
use Rattle.tree.specs.Lists.{zip_length}
use Rattle.block.specs.Patch.{source, along}
use Rattle.control.specs.declared.Controls.{Controls}
use Rattle.sheet.specs.Record.{count_of, kind}
use Rattle.sheet.specs.Kinds.{nodes, row_of, is_fold, is_value}
use Rattle.sheet.specs.Laws.{sum-suc, never, both}
use Rattle.layout.specs.Built.{role, is_built, begin, after}
use Rattle.layout.specs.declared.Role.{Role}
use Rattle.layout.specs.declared.Role.TheVariants.{Out, Silent, Built}
use Rattle.layout.specs.Needs.{cells, registers, scratch, cells_by, registers_by, cells_from, registers_from, scratch_from}
use Rattle.layout.specs.Good.{good}
use Rattle.layout.specs.Tables.{Table, Passed, role_code}
use Rattle.layout.specs.Counts.{cells-built, registers-built}
use Rattle.layout.proofs.Contents.{Value}
use Rattle.layout.proofs.Laws.{playable}
use Rattle.unit.specs.Own.{Own, silence}
use Rattle.unit.specs.Voice.{voice, join_of}
use Rattle.unit.specs.Block.{Lent}
use Rattle.units.specs.Values.{has_unit}
use Rattle.mixer.specs.Part.{mid, put}
use Rattle.walk.specs.Nodes.{Member, begin-member, after-member}
use Rattle.walk.specs.Walk.{Sound, Voiced, Ready, Owned, Lends, Valued, Kept, Sourced, Chained, Mixed, sound-after, kept-all, kept_then, kept_less, kept-mid, mid-put, put-kept, chain-turn, mix-turn, along-end, entered-nodes, begin-below, after-below, scratch-up}

-- ---- kinds and roles by their numbers
pub value-kinds : (k : ℕ) → is_value k ≡ true → (41 ≤ k) × (k ≤ 46)
value-kinds k e = let r = both (leb 41 k) (leb k 46) e in (leb-true 41 k r.0, leb-true k 46 r.1)

pub unbuilt-of : (r : Role) (a : ℕ) → a ≡ role_code r → a < 2 → is_built r ≡ false
unbuilt-of Out a e h = refl
unbuilt-of Silent a e h = refl
unbuilt-of Built a e h = let z : ⊥ = omega arith in absurd z

pub built_of : (r : Role) (a : ℕ) → a ≡ role_code r → 2 ≤ a → r ≡ Built
built_of Out a e h = let z : ⊥ = omega arith in absurd z
built_of Silent a e h = let z : ⊥ = omega arith in absurd z
built_of Built a e h = refl

pub leaf-left : {k n : ℕ} {f : Bool} → n ≡ k → f ≡ is_fold n → f || eqb n 13 ≡ false → (is_fold k ≡ false) × (k ≢ 13)
leaf-left {k} {n} {f} p q e = let r = neither f (eqb n 13) e in (ap is_fold (sym p) ∙ sym q ∙ r.0, λ z. never (sym (eq-eqb n 13 (p ∙ z)) ∙ r.1))
  where
    neither : (a b : Bool) → a || b ≡ false → (a ≡ false) × (b ≡ false)
    neither true b x = never x
    neither false b x = (refl, x)

-- ---- what a record's own function is lent, by what the walk is lent
pub owned-of : {s : List ℕ} (i : ℕ) → i < count_of s → role s i ≡ Built → Owned s i
owned-of i h b = record { inside = h; built_is = b }

pub lends-unit : {s : List ℕ} {c : Controls} {pitch : List Float} {n nv nw : ℕ} → Ready c pitch n nv nw
    → (i : ℕ) → i < count_of s → role s i ≡ Built → has_unit (kind s i) ≡ true → {mv mw : ℕ} → mv ≡ n → mw ≡ n → Lends s i c pitch n mv mw
lends-unit r i h b u p q = record { owned = owned-of i h b; unit_is = u; pitched = r.pitched; early = r.early; first_long = omega arith; second_long = omega arith }

-- record j of a table is value k of record i, whatever i is
pub lends-value : {s : List ℕ} {c : Controls} {pitch : List Float} {n nv nw : ℕ} (v : Voiced s) → Ready c pitch n nv nw
    → (i j k : ℕ) → j ≡ k → Value s (good s v.passed.passed) i k → {m : ℕ} → m ≡ n → Valued s j c m
lends-value v r i j k e w q = rw (e, q) (record { owned = owned-of k w.in_sheet w.made; value_is = w.value; early = r.early })

-- ---- a record's own parts, and the scratch, by the tables
pub record Parts (s places words : List ℕ) (i nc nr : ℕ) : Type 0 where
  pub ca : get_or places i 0 ≡ cells_from s i
  pub ce : get_or places (i + 1) 0 ≡ cells_from s (i + 1)
  pub ra : get_or words i 0 ≡ registers_from s i
  pub re : get_or words (i + 1) 0 ≡ registers_from s (i + 1)
  pub cup : get_or places i 0 ≤ get_or places (i + 1) 0
  pub cin : get_or places (i + 1) 0 ≤ nc
  pub cn : get_or places (i + 1) 0 - get_or places i 0 ≡ cells_by s i
  pub rup : get_or words i 0 ≤ get_or words (i + 1) 0
  pub rin : get_or words (i + 1) 0 ≤ nr
  pub rn : get_or words (i + 1) 0 - get_or words i 0 ≡ registers_by s i

-- who is lent the tables of an accepted sheet needs no row of a plan
pub parts-of : {s : List ℕ} {count : ℕ} {places words : List ℕ} {i : ℕ} → Passed s count → Table (cells_from s) (count + 1) places → Table (registers_from s) (count + 1) words → Owned s i
    → {cs : List Float} {rs : List ℕ} → Sound s cs rs → Parts s places words i (length cs) (length rs)
parts-of {s} {i = i} p cells_at registers_at o {cs} {rs} a =
    let h = p.count in
    let q = o.inside in
    let room = a.room i q in
    let ca = cells_at.at i (omega arith) in
    let ce = cells_at.at (i + 1) (omega arith) in
    let ra = registers_at.at i (omega arith) in
    let re = registers_at.at (i + 1) (omega arith) in
    let sc : cells_from s (i + 1) ≡ cells_from s i + cells s i = sum-suc (cells s) i in
    let sr : registers_from s (i + 1) ≡ registers_from s i + registers s i = sum-suc (registers s) i in
    let bc = cells-built s i o.built_is in
    let br = registers-built s i o.built_is in
    record {
      ca = ca;
      ce = ce;
      ra = ra;
      re = re;
      cup = omega arith;
      cin = omega (arith, room.0);
      cn = omega arith;
      rup = omega arith;
      rin = omega (arith, room.1);
      rn = omega arith;
    }

abbrev pub part : {A : Type 0} → List ℕ → ℕ → List A → List A
part t i xs = take (get_or t (i + 1) 0 - get_or t i 0) (drop (get_or t i 0) xs)

pub lent_of : {s : List ℕ} {count : ℕ} {places words : List ℕ} {i : ℕ} → Passed s count → Table (cells_from s) (count + 1) places → Table (registers_from s) (count + 1) words → Owned s i
    → {cs : List Float} {rs : List ℕ} → Sound s cs rs → {k : ℕ} → k ≡ kind s i → Lent s i k (length (part places i cs)) (length (part words i rs))
lent_of p cells_at registers_at o a e =
    let w = parts-of p cells_at registers_at o a in
    record {
      passed = p.passed;
      inside = o.inside;
      kind_is = e;
      cells = simp (length-take, length-drop) (omega (arith, w.cin, w.cup, w.cn));
      registers = simp (length-take, length-drop) (omega (arith, w.rin, w.rup, w.rn));
    }

pub record Scratch (s : List ℕ) (count : ℕ) (blocks : List ℕ) (n : ℕ) : Type 0 where
  pub scratch_at : Table (scratch_from s) (count + 1) blocks
  pub room : scratch_from s (count_of s) ≤ n

pub scratch-same : {s : List ℕ} {count : ℕ} {blocks : List ℕ} {n : ℕ} → Scratch s count blocks n → {m : ℕ} → m ≡ n → Scratch s count blocks m
scratch-same r p = rw p r

-- ---- the loops along a chain, over the mode m, whatever the pitch, the position and the buffers are: the lengths, and what is sound, as a loop goes
-- along. A Chain's block may have any length, and that of a Mix or a Mul any that its block of scratch holds.
pub record Looping (s : List ℕ) (i : ℕ) (m : Mode Float) (c : Controls) (bs xs cs : List Float) (rs : List ℕ) (zs : List Float) (nv nw : ℕ) (es ys ds : List Float) (ss : List ℕ) (ws : List Float) (mv mw j : ℕ) : Type 0 where
  pub outs : length ys ≡ length xs
  pub cells_long : length ds ≡ length cs
  pub registers_long : length ss ≡ length rs
  pub scr : length ws ≡ length zs
  pub first_buffer : mv ≡ nv
  pub second_buffer : mw ≡ nw
  pub sound : Sound s ds ss
  pub member : j ≢ 0 → Member s i j
  pub above : j ≢ 0 → i < j
  pub inside : j < count_of s
  pub is : along (voice s) j m c es (ds, ss) ≡ along (voice s) (begin s i) m c bs (cs, rs)
  pub kept : Kept s (scratch_from s i) zs ws

abbrev pub Chaining : List ℕ → ℕ → Controls → List Float → List Float → List ℕ → List Float → ℕ → ℕ → List Float → List Float → List ℕ → List Float → ℕ → ℕ → ℕ → Type 0
Chaining s i c xs cs rs zs nv nw ys ds ss ws mv mw j = Looping s i piping c xs xs cs rs zs nv nw ys ys ds ss ws mv mw j

abbrev pub Mixing : List ℕ → ℕ → Controls → List Float → List Float → List ℕ → List Float → ℕ → ℕ → List Float → List Float → List ℕ → List Float → ℕ → ℕ → ℕ → Type 0
Mixing s i c xs cs rs zs nv nw ys ds ss ws mv mw j = Looping s i (joining (join_of (kind s i))) c (mid (scratch_from s i) (length xs) zs) xs cs rs zs nv nw (mid (scratch_from s i) (length xs) ws) ys ds ss ws mv mw j

module _ {s : List ℕ} (v : Voiced s) where
  loop-start : (i : ℕ) → i < count_of s → (row_of (kind s i)).chain ≡ nodes → (m : Mode Float) (c : Controls) (bs xs cs : List Float) (rs : List ℕ) (zs : List Float) (nv nw : ℕ) → Sound s cs rs → Looping s i m c bs xs cs rs zs nv nw bs xs cs rs zs nv nw (begin s i)
  loop-start i h e m c bs xs cs rs zs nv nw a = record {
    outs = refl;
    cells_long = refl;
    registers_long = refl;
    scr = refl;
    first_buffer = refl;
    second_buffer = refl;
    sound = a;
    member = begin-member s (good s v.passed.passed) i h e;
    above = (playable s v.passed.passed).forest.first_up i;
    inside = begin-below v.passed i;
    is = refl;
    kept = kept-all s (scratch_from s i) zs;
  }

  -- a record more, which played xs': it leaves ds' and ss', and then es' and the scratch us
  loop-on : (i : ℕ) → i < count_of s → (row_of (kind s i)).chain ≡ nodes → {m : Mode Float} (c : Controls) {bs xs cs : List Float} {rs : List ℕ} {zs : List Float} {nv nw : ℕ} {es ys : List Float} (ds : List Float) (ss : List ℕ) {ws : List Float} {mv mw : ℕ} (j : ℕ)
      (es' xs' ys' ds' : List Float) (ss' : List ℕ) (us : List Float) (mv' mw' : ℕ) → Looping s i m c bs xs cs rs zs nv nw es ys ds ss ws mv mw j → j ≢ 0
      → ◌≡◌ {A = List Float × Own} (ys', (ds', ss')) (source (voice s) j c xs' (ds, ss)) → along (voice s) (after s j) m c es' (ds', ss') ≡ along (voice s) j m c es (ds, ss)
      → Kept s (scratch_from s i) ws us → length ys' ≡ length ys → length ds' ≡ length ds → length ss' ≡ length ss → length us ≡ length ws → mv' ≡ mv → mw' ≡ mw
      → Looping s i m c bs xs cs rs zs nv nw es' ys' ds' ss' us mv' mw' (after s j)
  loop-on i hi e c ds ss j es' xs' ys' ds' ss' us mv' mw' l d r a w e1 e2 e3 e4 e5 e6 =
      let up = l.above d in
      record {
        outs = e1 ∙ l.outs;
        cells_long = e2 ∙ l.cells_long;
        registers_long = e3 ∙ l.registers_long;
        scr = e4 ∙ l.scr;
        first_buffer = e5 ∙ l.first_buffer;
        second_buffer = e6 ∙ l.second_buffer;
        sound = sound-after v j l.inside c xs' ds ss ys' ds' ss' l.sound r;
        member = after-member s (good s v.passed.passed) i j hi e (l.member d);
        above = λ h. omega (arith, up, (playable s v.passed.passed).forest.next_up j h);
        inside = after-below v.passed j;
        is = a ∙ l.is;
        kept = kept_then l.kept w;
      }

  pub chain-start : (i : ℕ) → i < count_of s → (row_of (kind s i)).chain ≡ nodes → (c : Controls) (xs cs : List Float) (rs : List ℕ) (zs : List Float) (nv nw : ℕ) → Sound s cs rs → Chaining s i c xs cs rs zs nv nw xs cs rs zs nv nw (begin s i)
  chain-start i h e c xs cs rs zs nv nw a = loop-start i h e piping c xs xs cs rs zs nv nw a

  pub chain-again : (i : ℕ) → i < count_of s → (row_of (kind s i)).chain ≡ nodes → (c : Controls) (xs cs : List Float) (rs : List ℕ) (zs : List Float) (nv nw : ℕ) (ys ds : List Float) (ss : List ℕ) (ws : List Float) (mv mw j : ℕ) (ys' ds' : List Float) (ss' : List ℕ) (ws' : List Float) (mv' mw' : ℕ)
      → Chaining s i c xs cs rs zs nv nw ys ds ss ws mv mw j → j ≢ 0 → Sourced s j c ys ds ss ws ys' ds' ss' ws'
      → length ys' ≡ length ys → length ds' ≡ length ds → length ss' ≡ length ss → length ws' ≡ length ws → mv' ≡ mv → mw' ≡ mw
      → Chaining s i c xs cs rs zs nv nw ys' ds' ss' ws' mv' mw' (after s j)
  chain-again i hi e c xs cs rs zs nv nw ys ds ss ws mv mw j ys' ds' ss' ws' mv' mw' l d r e1 e2 e3 e4 e5 e6 =
      loop-on i hi e c ds ss j ys' ys ys' ds' ss' ws' mv' mw' l d r.is (chain-turn s v.valid j d l.inside c ys ds ss ys' ds' ss' r.is)
      (kept_less r.kept (scratch_from s i) (omega (arith, scratch-up v i j (l.above d)))) e1 e2 e3 e4 e5 e6

  pub chain-end : (i : ℕ) (c : Controls) (xs cs : List Float) (rs : List ℕ) (zs : List Float) (nv nw : ℕ) (ys ds : List Float) (ss : List ℕ) (ws : List Float) (mv mw j : ℕ)
      → (row_of (kind s i)).chain ≡ nodes → Chaining s i c xs cs rs zs nv nw ys ds ss ws mv mw j → j ≡ 0 → Chained s i c xs cs rs zs ys ds ss ws
  chain-end i c xs cs rs zs nv nw ys ds ss ws mv mw j q l e = record { is = along-end s piping c ys ds ss ∙ rw (e, ← entered-nodes s i q) at l.is; kept = l.kept }

  pub mix-start : (i : ℕ) → i < count_of s → (row_of (kind s i)).chain ≡ nodes → (c : Controls) (xs cs : List Float) (rs : List ℕ) (zs : List Float) (nv nw : ℕ) → Sound s cs rs → Mixing s i c xs cs rs zs nv nw xs cs rs zs nv nw (begin s i)
  mix-start i h e c xs cs rs zs nv nw a = loop-start i h e (joining (join_of (kind s i))) c (mid (scratch_from s i) (length xs) zs) xs cs rs zs nv nw a

  pub mix-again : (i : ℕ) → i < count_of s → (row_of (kind s i)).chain ≡ nodes → (c : Controls) (xs cs : List Float) (rs : List ℕ) (zs : List Float) (nv nw : ℕ) (ys ds : List Float) (ss : List ℕ) (ws : List Float) (mv mw j : ℕ) (ys' ds' : List Float) (ss' : List ℕ) (ws' us : List Float) (mv' mw' : ℕ)
      → scratch s i ≡ 256 → length xs ≤ 256 → scratch_from s (count_of s) ≤ length zs
      → Mixing s i c xs cs rs zs nv nw ys ds ss ws mv mw j → j ≢ 0 → Sourced s j c (map (λ x. silence) ys) ds ss ws ys' ds' ss' ws'
      → us ≡ put (scratch_from s i) (length ys') ws' (zip (join_of (kind s i)) (mid (scratch_from s i) (length ys') ws') ys')
      → length ys' ≡ length ys → length ds' ≡ length ds → length ss' ≡ length ss → length ws' ≡ length ws → length us ≡ length ws' → mv' ≡ mv → mw' ≡ mw
      → Mixing s i c xs cs rs zs nv nw ys' ds' ss' us mv' mw' (after s j)
  mix-again i hi e c xs cs rs zs nv nw ys ds ss ws mv mw j ys' ds' ss' ws' us mv' mw' need short room l d r w e1 e2 e3 e4 e5 e6 e7 =
      let up = l.above d in
      let at = scratch_from s i in
      let n = length xs in
      let op = join_of (kind s i) in
      let P = playable s v.passed.passed in
      let l1 : length ys' ≡ n = e1 ∙ l.outs in
      let l2 : at + 256 ≤ scratch_from s j = omega (arith, P.scratch_apart i j up) in
      let l3 : at + n ≤ scratch_from s (count_of s) = omega (arith, P.scratch_end i hi) in
      let l4 : at + n ≤ length ws' = omega (arith, l.scr) in
      let l5 : n ≤ length (drop at ws') = simp length-drop (omega arith) in
      let l6 : length (mid at n ws') ≡ n = length-take-le n (drop at ws') l5 in
      let l7 : length (zip op (mid at n ws') ys') ≡ n = zip_length op (mid at n ws') ys' (l6 ∙ sym l1) ∙ l6 in
      let k1 : mid at n ws' ≡ mid at n ws = kept-mid r.kept at n (omega (arith, l2)) in
      let w' : us ≡ put at n ws' (zip op (mid at n ws') ys') = w ∙ ap (λ (m : ℕ). put at m ws' (zip op (mid at m ws') ys')) l1 in
      let k2 : mid at n us ≡ zip op (mid at n ws) ys' = ap (mid at n) w' ∙ mid-put at n ws' (zip op (mid at n ws') ys') l4 l7 ∙ ap (λ (z : List Float). zip op z ys') k1 in
      let k3 : length ys ≡ length (mid at n ws) = l.outs ∙ sym (ap length (sym k1) ∙ l6) in
      loop-on i hi e c ds ss j (mid at n us) (map (λ x. silence) ys) ys' ds' ss' us mv' mw' l d r.is
      (ap (λ (z : List Float). along (voice s) (after s j) (joining op) c z (ds', ss')) k2 ∙ mix-turn s v.valid j d l.inside op c (mid at n ws) ys ds ss ys' ds' ss' k3 r.is)
      (kept_then (kept_less r.kept at (omega (arith, l2))) (rw w' (put-kept s at n ws' (zip op (mid at n ws') ys') l3 l4 l7))) e1 e2 e3 (e5 ∙ e4) e6 e7

  pub mix-end : (i : ℕ) (c : Controls) (xs cs : List Float) (rs : List ℕ) (zs : List Float) (nv nw : ℕ) (ys ds : List Float) (ss : List ℕ) (ws : List Float) (mv mw j : ℕ)
      → (row_of (kind s i)).chain ≡ nodes → Mixing s i c xs cs rs zs nv nw ys ds ss ws mv mw j → j ≡ 0 → Mixed s i (length xs) c cs rs zs ds ss ws
  mix-end i c xs cs rs zs nv nw ys ds ss ws mv mw j q l e = record { is = along-end s (joining (join_of (kind s i))) c (mid (scratch_from s i) (length xs) ws) ds ss ∙ rw (e, ← entered-nodes s i q) at l.is; kept = l.kept }
