-- What the walk is lent for a block, and what it leaves: the block runs of the voice's theory (`source`, `along` and `played` of crate block's Patch).
use Rattle.std.specs.Prelude.{◌≡◌, refl, true, false, cond, ◌≢◌, ℕ, zero, suc, ◌+◌, ◌-◌, ◌^◌, ◌≤◌, ◌<◌, eqb, take, drop}
use Rattle.std.proofs.Math.Path.{sym, ap, subst₃}
use Rattle.std.proofs.Common.{ap₂, ◌∙◌, subst, length-take, take-take, take_at, drop_at, drop-drop, ne_eqb}
use mathlib.Core.List.{List, [], ◌∷◌, ◌++◌, map}
use native.Mathlib.Omega.{arith}
use Rattle.std.proofs.Math.Decide.{ℕ_discrete}
use Rattle.std.proofs.Math.ListN.{length, length-map, length-drop, replicate}
use Rattle.std.proofs.lemmas.List.Edits.{sets}
use Rattle.std.proofs.Math.Seq.{length-take-le}
use Rattle.std.specs.Float.Ieee.{Float}
use Rattle.tree.specs.Comm.{M, zip}
use Rattle.tree.specs.Tree.{Mode, piping, joining, leaf, fold, chain, bstep, bone}
use Rattle.tree.specs.Lists.{map-const, zip_length, lay-part}
use Rattle.block.specs.Patch.{Valid, All, source, along, played, along-none, along-some, source-all}
use Rattle.control.specs.declared.Controls.{Controls}
use Rattle.sheet.specs.Record.{count_of, kind}
use Rattle.sheet.specs.Numbers.{kind_number}
use Rattle.sheet.specs.Kinds.{nodes, row_of, is_fold, is_value}
use Rattle.layout.specs.Built.{role, begin, after}
use Rattle.layout.specs.declared.Role.TheVariants.{Built}
use Rattle.layout.specs.Needs.{cells, registers, scratch, cells_by, registers_by, cells_from, registers_from, scratch_from}
use Rattle.layout.specs.Tables.{Passed}
use Rattle.plan.specs.declared.Row.{Row}
use Rattle.plan.specs.Rowed.{Rowed}
use Rattle.layout.specs.Good.{good}
use Rattle.layout.proofs.Laws.{playable}
use Rattle.layout.specs.Counts.{cells-built, registers-built}
use Rattle.sheet.specs.Laws.{sum-suc}
use Rattle.unit.specs.Own.{Own, Ugen, silence}
use Rattle.unit.specs.Unit.{kind_unit, unit_of}
use Rattle.unit.specs.Voice.{voice, tree_kind, entered, join_of, empty_of}
use Rattle.unit.specs.State.{own_ok}
use Rattle.unit.specs.Sound.{OwnSound, UnitsKeep, voice-valid, units-keep}
use Rattle.unit.specs.Block.{Pitched, Ran, Lent}
use Rattle.units.specs.Values.{has_unit}
use Rattle.mixer.specs.Part.{mid, put}
use Rattle.walk.specs.Nodes.{Member, begin-member, after-member}

-- the cells and registers are long enough, and check 9 does not apply to them
abbrev pub Sound : List ℕ → List Float → List ℕ → Type 0
Sound s cs rs = All (voice s) (OwnSound s) (cs, rs)

-- what holds of an accepted sheet: its voice is one, and its units keep check 9
pub record Voiced (s : List ℕ) : Type 0 where
  pub passed : Passed s (count_of s)
  pub valid : Valid (voice s)
  pub kept : UnitsKeep s

pub voiced : {s : List ℕ} {count : ℕ} → Passed s count → Voiced s
voiced {s} p = record { passed = subst (λ n. Passed s n) p.count p; valid = voice-valid s p.passed; kept = units-keep s p.passed }

-- the buffers of a block of n samples
pub record Ready (c : Controls) (pitch : List Float) (n nv nw : ℕ) : Type 0 where
  pub pitched : Pitched c pitch n
  pub short : n ≤ 256
  pub early : c.position + n < 2 ^ 64
  pub first_buffer : nv ≡ n
  pub second_buffer : nw ≡ n

-- what plays by itself
pub record Owned (s : List ℕ) (i : ℕ) : Type 0 where
  pub inside : i < count_of s
  pub built_is : role s i ≡ Built

-- a node: of the two buffers, which hold its values
pub record Lends (s : List ℕ) (i : ℕ) (c : Controls) (pitch : List Float) (n nv nw : ℕ) : Type 0 where
  pub owned : Owned s i
  pub unit_is : has_unit (kind s i) ≡ true
  pub pitched : Pitched c pitch n
  pub early : c.position + n < 2 ^ 64
  pub first_long : n ≤ nv
  pub second_long : n ≤ nw

-- a value
pub record Valued (s : List ℕ) (i : ℕ) (c : Controls) (n : ℕ) : Type 0 where
  pub owned : Owned s i
  pub value_is : is_value (kind s i) ≡ true
  pub early : c.position + n < 2 ^ 64

-- ---- what the functions leave
pub record Played (s : List ℕ) (i : ℕ) (c : Controls) (xs : List Float) (bufs : List (List Float)) (cs : List Float) (rs : List ℕ) (ys ds : List Float) (ss : List ℕ) : Type 0 where
  pub is : ◌≡◌ {A = List Float × Own} (ys, (ds, ss)) (played (voice s) i c xs bufs (cs, rs))

pub record Leafed (s : List ℕ) (i : ℕ) (c : Controls) (xs cs : List Float) (rs : List ℕ) (ys ds : List Float) (ss : List ℕ) : Type 0 where
  pub is : ◌≡◌ {A = List Float × Own} (ys, (ds, ss)) (source (voice s) i c xs (cs, rs))

-- the scratch below at, and past the needs, is as it was
pub record Kept (s : List ℕ) (at : ℕ) (zs ws : List Float) : Type 0 where
  pub below : take at ws ≡ take at zs
  pub past : drop (scratch_from s (count_of s)) ws ≡ drop (scratch_from s (count_of s)) zs

pub record Sourced (s : List ℕ) (i : ℕ) (c : Controls) (xs cs : List Float) (rs : List ℕ) (zs ys ds : List Float) (ss : List ℕ) (ws : List Float) : Type 0 where
  pub is : ◌≡◌ {A = List Float × Own} (ys, (ds, ss)) (source (voice s) i c xs (cs, rs))
  pub kept : Kept s (scratch_from s i) zs ws

pub record Chained (s : List ℕ) (i : ℕ) (c : Controls) (xs cs : List Float) (rs : List ℕ) (zs ys ds : List Float) (ss : List ℕ) (ws : List Float) : Type 0 where
  pub is : ◌≡◌ {A = List Float × Own} (ys, (ds, ss)) (along (voice s) (entered s i) piping c xs (cs, rs))
  pub kept : Kept s (scratch_from s i) zs ws

pub record Mixed (s : List ℕ) (i n : ℕ) (c : Controls) (cs : List Float) (rs : List ℕ) (zs ds : List Float) (ss : List ℕ) (ws : List Float) : Type 0 where
  pub is : ◌≡◌ {A = List Float × Own} (mid (scratch_from s i) n ws, (ds, ss)) (along (voice s) (entered s i) (joining (join_of (kind s i))) c (mid (scratch_from s i) n zs) (cs, rs))
  pub kept : Kept s (scratch_from s i) zs ws

-- ---- the same for other lengths
pub ready-same : {c : Controls} {pitch : List Float} {n nv nw : ℕ} → Ready c pitch n nv nw → {m mv mw : ℕ} → m ≡ n → mv ≡ nv → mw ≡ nw → Ready c pitch m mv mw
ready-same r p q t = rw (p, q, t) r

-- what the walk of a record leaves is sound again
pub sound-after : {s : List ℕ} → Voiced s → (i : ℕ) → i < count_of s → (c : Controls) (xs cs : List Float) (rs : List ℕ) (ys ds : List Float) (ss : List ℕ)
    → Sound s cs rs → ◌≡◌ {A = List Float × Own} (ys, (ds, ss)) (source (voice s) i c xs (cs, rs)) → Sound s ds ss
sound-after {s} v i h c xs cs rs ys ds ss a e =
    subst (All (voice s) (OwnSound s)) (sym (ap (λ (t : List Float × Own). t.1) e)) (source-all (voice s) v.valid (OwnSound s) v.kept i h c xs (cs, rs) a)

-- ---- what is kept of the scratch
pub kept-all : (s : List ℕ) (at : ℕ) (zs : List Float) → Kept s at zs zs
kept-all s at zs = record { below = refl; past = refl }

pub kept_then : {s : List ℕ} {at : ℕ} {zs ws us : List Float} → Kept s at zs ws → Kept s at ws us → Kept s at zs us
kept_then p q = record { below = q.below ∙ p.below; past = q.past ∙ p.past }

pub kept_less : {s : List ℕ} {a : ℕ} {zs ws : List Float} → Kept s a zs ws → (b : ℕ) → b ≤ a → Kept s b zs ws
kept_less {a = a} {zs} {ws} p b h = record { below = sym (take-take b a ws h) ∙ ap (take b) p.below ∙ take-take b a zs h; past = p.past }

mid-take : (at n a : ℕ) (zs : List Float) → at + n ≤ a → mid at n (take a zs) ≡ mid at n zs
mid-take zero n a zs h = take-take n a zs (omega arith)
mid-take (suc at) n zero zs h = let z : ⊥ = omega arith in absurd z
mid-take (suc at) n (suc a) [] h = refl
mid-take (suc at) n (suc a) (z ∷ zs) h = mid-take at n a zs (omega arith)

pub kept-mid : {s : List ℕ} {a : ℕ} {zs ws : List Float} → Kept s a zs ws → (at n : ℕ) → at + n ≤ a → mid at n ws ≡ mid at n zs
kept-mid {a = a} {zs} {ws} p at n h = sym (mid-take at n a ws h) ∙ ap (mid at n) p.below ∙ mid-take at n a zs h

pub mid-put : (at n : ℕ) (zs vs : List Float) → at + n ≤ length zs → length vs ≡ n → mid at n (put at n zs vs) ≡ vs
mid-put at n zs vs h e = rw (drop_at (take at zs) (vs ++ drop n (drop at zs)) at (length-take-le at zs (omega arith))) (take_at vs (drop n (drop at zs)) n e)

drop-put : (at n : ℕ) (zs vs : List Float) → at + n ≤ length zs → length vs ≡ n → drop (at + n) (put at n zs vs) ≡ drop (at + n) zs
drop-put at n zs vs h e = sym (drop-drop n at (put at n zs vs))
    ∙ rw (drop_at (take at zs) (vs ++ drop n (drop at zs)) at (length-take-le at zs (omega arith))) (drop_at vs (drop n (drop at zs)) n e ∙ drop-drop n at zs)

pub put-kept : (s : List ℕ) (at n : ℕ) (zs vs : List Float) → at + n ≤ scratch_from s (count_of s) → at + n ≤ length zs → length vs ≡ n → Kept s at zs (put at n zs vs)
put-kept s at n zs vs g h e =
    let S = scratch_from s (count_of s) in
    let z : at + n + (S - (at + n)) ≡ S = omega arith in
    record {
      below = take_at (take at zs) (vs ++ drop n (drop at zs)) at (length-take-le at zs (omega arith));
      past = rw z at (sym (drop-drop (S - (at + n)) (at + n) (put at n zs vs)) ∙ ap (drop (S - (at + n))) (drop-put at n zs vs h e) ∙ drop-drop (S - (at + n)) (at + n) zs);
    }

-- ---- along a chain
module _ (s : List ℕ) (ok : Valid (voice s)) where
  -- a stage more, and an input more
  pub chain-turn : (j : ℕ) → j ≢ 0 → j < count_of s → (c : Controls) (xs cs : List Float) (rs : List ℕ) (ys ds : List Float) (ss : List ℕ)
      → ◌≡◌ {A = List Float × Own} (ys, (ds, ss)) (source (voice s) j c xs (cs, rs))
      → along (voice s) (after s j) piping c ys (ds, ss) ≡ along (voice s) j piping c xs (cs, rs)
  unfolding bstep
  chain-turn j d h c xs cs rs ys ds ss e = ap (λ (t : List Float × Own). along (voice s) (after s j) piping c t.0 t.1) e
      ∙ sym (ap (λ (f : M Own (List Float)). f (cs, rs)) (along-some (voice s) ok j d h piping c xs))

  pub mix-turn : (j : ℕ) → j ≢ 0 → j < count_of s → (op : Float → Float → Float) (c : Controls) (bs xs cs : List Float) (rs : List ℕ) (ys ds : List Float) (ss : List ℕ)
      → length xs ≡ length bs → ◌≡◌ {A = List Float × Own} (ys, (ds, ss)) (source (voice s) j c (map (λ x. silence) xs) (cs, rs))
      → along (voice s) (after s j) (joining op) c (zip op bs ys) (ds, ss) ≡ along (voice s) j (joining op) c bs (cs, rs)
  unfolding bstep
  mix-turn j d h op c bs xs cs rs ys ds ss l e =
      let q : map (λ x. silence) xs ≡ map (λ x. silence) bs = map-const silence xs ∙ ap (λ (n : ℕ). replicate n silence) l ∙ sym (map-const silence bs) in
      ap (λ (t : List Float × Own). along (voice s) (after s j) (joining op) c (zip op bs t.0) t.1) (e ∙ ap (λ (z : List Float). source (voice s) j c z (cs, rs)) q)
      ∙ sym (ap (λ (f : M Own (List Float)). f (cs, rs)) (along-some (voice s) ok j d h (joining op) c bs))

pub along-end : (s : List ℕ) (m : Mode Float) (c : Controls) (xs cs : List Float) (rs : List ℕ) → ◌≡◌ {A = List Float × Own} (xs, (cs, rs)) (along (voice s) 0 m c xs (cs, rs))
along-end s m c xs cs rs = sym (ap (λ (f : M Own (List Float)). f (cs, rs)) (along-none (voice s) m c xs))

-- where the links lead
pub entered-nodes : (s : List ℕ) (i : ℕ) → (row_of (kind s i)).chain ≡ nodes → entered s i ≡ begin s i
entered-nodes s i e = rw e

pub begin-below : {s : List ℕ} {count : ℕ} → Passed s count → (i : ℕ) → begin s i < count_of s
begin-below {s} p i = let w = playable s p.passed in elim (ℕ_discrete (begin s i) 0) [ yes e ↦ rw e w.some | no d ↦ w.begin_low i d ]

pub after-below : {s : List ℕ} {count : ℕ} → Passed s count → (i : ℕ) → after s i < count_of s
after-below {s} p i = let w = playable s p.passed in elim (ℕ_discrete (after s i) 0) [ yes e ↦ rw e w.some | no d ↦ w.after_low i d ]

-- THE LOOP OF A CHAIN, OVER THE MODE m: from the block bs and what was lent, the records before j have made the block es, and what is left of
-- the walk comes to the same. It keeps what the function was lent.
pub record Walking (s : List ℕ) (i : ℕ) (m : Mode Float) (c : Controls) (pitch : List Float) (bs xs cs : List Float) (rs : List ℕ) (zs : List Float) (nv nw : ℕ) (es ys ds : List Float) (ss : List ℕ) (ws : List Float) (mv mw j : ℕ) : Type 0 where
  pub voiced : Voiced s
  pub ready : Ready c pitch (length ys) mv mw
  pub room : scratch_from s (count_of s) ≤ length ws
  pub outs : length ys ≡ length xs
  pub cells_long : length ds ≡ length cs
  pub registers_long : length ss ≡ length rs
  pub scr : length ws ≡ length zs
  pub first_buffer : mv ≡ nv
  pub second_buffer : mw ≡ nw
  pub sound : Sound s ds ss
  pub holder : i < count_of s
  pub holds : (row_of (kind s i)).chain ≡ nodes
  pub member : j ≢ 0 → Member s i j
  pub above : j ≢ 0 → i < j
  pub inside : j < count_of s
  pub is : along (voice s) j m c es (ds, ss) ≡ along (voice s) (begin s i) m c bs (cs, rs)
  pub kept : Kept s (scratch_from s i) zs ws

abbrev pub Chaining : List ℕ → ℕ → Controls → List Float → List Float → List Float → List ℕ → List Float → ℕ → ℕ → List Float → List Float → List ℕ → List Float → ℕ → ℕ → ℕ → Type 0
Chaining s i c pitch xs cs rs zs nv nw ys ds ss ws mv mw j = Walking s i piping c pitch xs xs cs rs zs nv nw ys ys ds ss ws mv mw j

abbrev pub Mixing : List ℕ → ℕ → Controls → List Float → List Float → List Float → List ℕ → List Float → ℕ → ℕ → List Float → List Float → List ℕ → List Float → ℕ → ℕ → ℕ → Type 0
Mixing s i c pitch xs cs rs zs nv nw ys ds ss ws mv mw j = Walking s i (joining (join_of (kind s i))) c pitch (mid (scratch_from s i) (length xs) zs) xs cs rs zs nv nw (mid (scratch_from s i) (length xs) ws) ys ds ss ws mv mw j

pub scratch-up : {s : List ℕ} → Voiced s → (i j : ℕ) → i < j → scratch_from s i + scratch s i ≤ scratch_from s j
scratch-up {s} v i j h = (playable s v.passed.passed).scratch_apart i j h

pub walk-start : {s : List ℕ} {i : ℕ} {m : Mode Float} {c : Controls} {pitch bs xs cs : List Float} {rs : List ℕ} {zs : List Float} {nv nw j : ℕ} → Voiced s → Ready c pitch (length xs) nv nw
    → scratch_from s (count_of s) ≤ length zs → Sound s cs rs → i < count_of s → (row_of (kind s i)).chain ≡ nodes → j ≡ begin s i → Walking s i m c pitch bs xs cs rs zs nv nw bs xs cs rs zs nv nw j
walk-start {s} {i} {zs = zs} v r room a h e q =
    rw q (record {
      voiced = v;
      ready = r;
      room = room;
      outs = refl;
      cells_long = refl;
      registers_long = refl;
      scr = refl;
      first_buffer = refl;
      second_buffer = refl;
      sound = a;
      holder = h;
      holds = e;
      member = begin-member s (good s v.passed.passed) i h e;
      above = (playable s v.passed.passed).forest.first_up i;
      inside = begin-below v.passed i;
      is = refl;
      kept = kept-all s (scratch_from s i) zs;
    })

-- a record more: it leaves ds' and ss', and then es' and the scratch us
walk-on : {s : List ℕ} {i : ℕ} {m : Mode Float} {c : Controls} {pitch bs xs cs : List Float} {rs : List ℕ} {zs : List Float} {nv nw : ℕ} {es ys ds : List Float} {ss : List ℕ} {ws : List Float} {mv mw j : ℕ}
    (es' xs' ys' ds' : List Float) (ss' : List ℕ) (us : List Float) (mv' mw' : ℕ) → Walking s i m c pitch bs xs cs rs zs nv nw es ys ds ss ws mv mw j → j ≢ 0
    → ◌≡◌ {A = List Float × Own} (ys', (ds', ss')) (source (voice s) j c xs' (ds, ss)) → along (voice s) (after s j) m c es' (ds', ss') ≡ along (voice s) j m c es (ds, ss)
    → Kept s (scratch_from s i) ws us → length ys' ≡ length ys → length ds' ≡ length ds → length ss' ≡ length ss → length us ≡ length ws → mv' ≡ mv → mw' ≡ mw → (k : ℕ) → k ≡ after s j
    → Walking s i m c pitch bs xs cs rs zs nv nw es' ys' ds' ss' us mv' mw' k
walk-on {s} {i} {c = c} {ds = ds} {ss} {j = j} es' xs' ys' ds' ss' us mv' mw' l d r e w e1 e2 e3 e4 e5 e6 k q =
    let v = l.voiced in
    let up = l.above d in
    rw q (record {
      voiced = v;
      ready = ready-same l.ready e1 e5 e6;
      room = omega (arith, l.room);
      outs = e1 ∙ l.outs;
      cells_long = e2 ∙ l.cells_long;
      registers_long = e3 ∙ l.registers_long;
      scr = e4 ∙ l.scr;
      first_buffer = e5 ∙ l.first_buffer;
      second_buffer = e6 ∙ l.second_buffer;
      sound = sound-after v j l.inside c xs' ds ss ys' ds' ss' l.sound r;
      holder = l.holder;
      holds = l.holds;
      member = after-member s (good s v.passed.passed) i j l.holder l.holds (l.member d);
      above = λ h. omega (arith, up, (playable s v.passed.passed).forest.next_up j h);
      inside = after-below v.passed j;
      is = e ∙ l.is;
      kept = kept_then l.kept w;
    })

pub chain-again : {s : List ℕ} {i : ℕ} {c : Controls} {pitch xs cs : List Float} {rs : List ℕ} {zs : List Float} {nv nw : ℕ} {ys ds : List Float} {ss : List ℕ} {ws : List Float} {mv mw j : ℕ} {ys' ds' : List Float} {ss' : List ℕ} {ws' : List Float} {mv' mw' : ℕ}
    → Chaining s i c pitch xs cs rs zs nv nw ys ds ss ws mv mw j → j ≢ 0 → Sourced s j c ys ds ss ws ys' ds' ss' ws'
    → length ys' ≡ length ys → length ds' ≡ length ds → length ss' ≡ length ss → length ws' ≡ length ws → mv' ≡ mv → mw' ≡ mw → {k : ℕ} → k ≡ after s j
    → Chaining s i c pitch xs cs rs zs nv nw ys' ds' ss' ws' mv' mw' k
chain-again {s} {i} {c = c} {ys = ys} {ds} {ss} {j = j} {ys'} {ds'} {ss'} {ws'} {mv'} {mw'} l d r e1 e2 e3 e4 e5 e6 q =
    walk-on ys' ys ys' ds' ss' ws' mv' mw' l d r.is (chain-turn s l.voiced.valid j d l.inside c ys ds ss ys' ds' ss' r.is)
    (kept_less r.kept (scratch_from s i) (omega (arith, scratch-up l.voiced i j (l.above d)))) e1 e2 e3 e4 e5 e6 _ q

pub chain-end : {s : List ℕ} {i : ℕ} {c : Controls} {pitch xs cs : List Float} {rs : List ℕ} {zs : List Float} {nv nw : ℕ} {ys ds : List Float} {ss : List ℕ} {ws : List Float} {mv mw j : ℕ}
    → Chaining s i c pitch xs cs rs zs nv nw ys ds ss ws mv mw j → j ≡ 0 → Chained s i c xs cs rs zs ys ds ss ws
chain-end {s} {i} {c = c} {ys = ys} {ds} {ss} l e = record { is = along-end s piping c ys ds ss ∙ rw (e, ← entered-nodes s i l.holds) at l.is; kept = l.kept }

pub mix-again : {s : List ℕ} {i : ℕ} {c : Controls} {pitch xs cs : List Float} {rs : List ℕ} {zs : List Float} {nv nw : ℕ} {ys ds : List Float} {ss : List ℕ} {ws : List Float} {mv mw j : ℕ} {ys' ds' : List Float} {ss' : List ℕ} {ws' us : List Float} {mv' mw' : ℕ} {ts : List Float} {k at : ℕ}
    → scratch s i ≡ 256 → k ≡ kind s i → at ≡ scratch_from s i → Mixing s i c pitch xs cs rs zs nv nw ys ds ss ws mv mw j → j ≢ 0 → ts ≡ map (λ x. silence) ys → Sourced s j c ts ds ss ws ys' ds' ss' ws'
    → us ≡ put at (length ys') ws' (zip (join_of k) (mid at (length ys') ws') ys')
    → length ys' ≡ length ts → length ds' ≡ length ds → length ss' ≡ length ss → length ws' ≡ length ws → length us ≡ length ws' → mv' ≡ mv → mw' ≡ mw → {q : ℕ} → q ≡ after s j
    → Mixing s i c pitch xs cs rs zs nv nw ys' ds' ss' us mv' mw' q
mix-again {s} {i} {c = c} {xs = xs} {ys = ys} {ds} {ss} {ws} {j = j} {ys'} {ds'} {ss'} {ws'} {us} {mv'} {mw'} {ts} {k} {at = a} need ek ea l d et r w e1 e2 e3 e4 e5 e6 e7 qa =
    let v = l.voiced in
    let up = l.above d in
    let at = scratch_from s i in
    let n = length xs in
    let op = join_of (kind s i) in
    let P = playable s v.passed.passed in
    let l0 : length ys' ≡ length ys = e1 ∙ ap length et ∙ length-map ys (λ x. silence) in
    let l1 : length ys' ≡ n = l0 ∙ l.outs in
    let short : n ≤ 256 = omega (arith, l.ready.short, l.outs) in
    let l2 : at + 256 ≤ scratch_from s j = omega (arith, P.scratch_apart i j up) in
    let l3 : at + n ≤ scratch_from s (count_of s) = omega (arith, P.scratch_end i l.holder) in
    let l4 : at + n ≤ length ws' = omega (arith, l.room) in
    let l5 : n ≤ length (drop at ws') = simp length-drop (omega arith) in
    let l6 : length (mid at n ws') ≡ n = length-take-le n (drop at ws') l5 in
    let l7 : length (zip op (mid at n ws') ys') ≡ n = zip_length op (mid at n ws') ys' (l6 ∙ sym l1) ∙ l6 in
    let k1 : mid at n ws' ≡ mid at n ws = kept-mid r.kept at n (omega (arith, l2)) in
    let w' : us ≡ put at n ws' (zip op (mid at n ws') ys') = w ∙ (λ x. put (ea x) (l1 x) ws' (zip (join_of (ek x)) (mid (ea x) (l1 x) ws') ys')) in
    let k2 : mid at n us ≡ zip op (mid at n ws) ys' = ap (mid at n) w' ∙ mid-put at n ws' (zip op (mid at n ws') ys') l4 l7 ∙ ap (λ (z : List Float). zip op z ys') k1 in
    let k3 : length ys ≡ length (mid at n ws) = l.outs ∙ sym (ap length (sym k1) ∙ l6) in
    let ri : ◌≡◌ {A = List Float × Own} (ys', (ds', ss')) (source (voice s) j c (map (λ x. silence) ys) (ds, ss)) = r.is ∙ ap (λ (z : List Float). source (voice s) j c z (ds, ss)) et in
    walk-on (mid at n us) (map (λ x. silence) ys) ys' ds' ss' us mv' mw' l d ri
    (ap (λ (z : List Float). along (voice s) (after s j) (joining op) c z (ds', ss')) k2 ∙ mix-turn s v.valid j d l.inside op c (mid at n ws) ys ds ss ys' ds' ss' k3 ri)
    (kept_then (kept_less r.kept at (omega (arith, l2))) (rw w' (put-kept s at n ws' (zip op (mid at n ws') ys') l3 l4 l7))) l0 e2 e3 (e5 ∙ e4) e6 e7 _ qa

pub mix-end : {s : List ℕ} {i : ℕ} {c : Controls} {pitch xs cs : List Float} {rs : List ℕ} {zs : List Float} {nv nw : ℕ} {ys ds : List Float} {ss : List ℕ} {ws : List Float} {mv mw j : ℕ}
    → Mixing s i c pitch xs cs rs zs nv nw ys ds ss ws mv mw j → j ≡ 0 → Mixed s i (length xs) c cs rs zs ds ss ws
mix-end {s} {i} {c = c} {xs = xs} {ds = ds} {ss} {ws} l e = record { is = along-end s (joining (join_of (kind s i))) c (mid (scratch_from s i) (length xs) ws) ds ss ∙ rw (e, ← entered-nodes s i l.holds) at l.is; kept = l.kept }

module _ {s : List ℕ} (v : Voiced s) where
  -- ---- a record that is a Chain, and one that is a Mix or a Mul
  pub sourced-chain : (i : ℕ) (c : Controls) (xs cs : List Float) (rs : List ℕ) (zs ys ds : List Float) (ss : List ℕ) (ws : List Float)
      → tree_kind (kind s i) ≡ chain → Chained s i c xs cs rs zs ys ds ss ws → Sourced s i c xs cs rs zs ys ds ss ws
  unfolding source bone along
  sourced-chain i c xs cs rs zs ys ds ss ws k r = record { is = rw k r.is; kept = r.kept }

  pub sourced-leaf : (i : ℕ) (c : Controls) (xs cs : List Float) (rs : List ℕ) (zs ys ds : List Float) (ss : List ℕ) → Leafed s i c xs cs rs ys ds ss → Sourced s i c xs cs rs zs ys ds ss zs
  sourced-leaf i c xs cs rs zs ys ds ss r = record { is = r.is; kept = kept-all s (scratch_from s i) zs }

  pub sourced-mix : (i : ℕ) (c : Controls) (xs cs : List Float) (rs : List ℕ) (zs us ys ds : List Float) (ss : List ℕ) (ws : List Float)
      → i < count_of s → scratch s i ≡ 256 → length xs ≤ 256 → scratch_from s (count_of s) ≤ length zs
      → tree_kind (kind s i) ≡ fold (empty_of (kind s i)) (join_of (kind s i))
      → us ≡ put (scratch_from s i) (length xs) zs (map (λ x. empty_of (kind s i)) (mid (scratch_from s i) (length xs) zs))
      → Mixed s i (length xs) c cs rs us ds ss ws → ys ≡ mid (scratch_from s i) (length xs) ws → Sourced s i c xs cs rs zs ys ds ss ws
  unfolding source bone along
  sourced-mix i c xs cs rs zs us ys ds ss ws hi need short room k w r t =
      let at = scratch_from s i in
      let n = length xs in
      let z = empty_of (kind s i) in
      let l3 : at + n ≤ scratch_from s (count_of s) = omega (arith, (playable s v.passed.passed).scratch_end i hi) in
      let l4 : at + n ≤ length zs = omega arith in
      let l5 : n ≤ length (drop at zs) = simp length-drop (omega arith) in
      let l6 : length (mid at n zs) ≡ n = length-take-le n (drop at zs) l5 in
      let l7 : length (map (λ x. z) (mid at n zs)) ≡ n = length-map (mid at n zs) (λ x. z) ∙ l6 in
      let q : map (λ x. z) (mid at n zs) ≡ map (λ x. z) xs = map-const z (mid at n zs) ∙ ap (λ (m : ℕ). replicate m z) l6 ∙ sym (map-const z xs) in
      let m : mid at n us ≡ map (λ x. z) xs = ap (mid at n) w ∙ mid-put at n zs (map (λ x. z) (mid at n zs)) l4 l7 ∙ q in
      record {
        is = ap {B = List Float × Own} (λ y. (y, (ds, ss))) t ∙ r.is ∙ ap (λ (y : List Float). along (voice s) (entered s i) (joining (join_of (kind s i))) c y (cs, rs)) m ∙ rw k;
        kept = kept_then (rw w (put-kept s at n zs (map (λ x. z) (mid at n zs)) l3 l4 l7)) r.kept;
      }

-- which of the three a record is
pub fold_is : (s : List ℕ) (i : ℕ) → is_fold (kind s i) ≡ true → tree_kind (kind s i) ≡ fold (empty_of (kind s i)) (join_of (kind s i))
unfolding tree_kind
fold_is s i e = rw e

pub chain_is : (s : List ℕ) (i : ℕ) → kind s i ≡ 13 → tree_kind (kind s i) ≡ chain
unfolding tree_kind
chain_is s i e = rw e

pub leaf-is : (s : List ℕ) (i : ℕ) → is_fold (kind s i) ≡ false → kind s i ≢ 13 → tree_kind (kind s i) ≡ leaf
unfolding tree_kind
leaf-is s i e d = rw (e, ne_eqb (kind s i) 13 d)

-- what is left of the records from j on, none from 0
unfoldable pub left : List ℕ → ℕ → ℕ
left s j = cond (eqb j 0) 0 (count_of s - j)

pub left_less : {s : List ℕ} {count : ℕ} → Passed s count → (j : ℕ) → j ≢ 0 → j < count_of s → left s (after s j) < left s j
unfolding left
left_less {s} p j d h = let w = playable s p.passed in elim (ℕ_discrete (after s j) 0) [
  | yes e ↦ rw (e, ne_eqb j 0 d) (omega arith)
  | no n ↦ rw (ne_eqb (after s j) 0 n, ne_eqb j 0 d) (omega (arith, w.forest.next_up j n, w.after_low j n))
]

-- ---- a record's own parts, by its row
pub record Parts (s : List ℕ) (i : ℕ) (r : Row) (nc nr : ℕ) : Type 0 where
  pub rowed : Rowed s i r
  pub cup : r.cells ≤ r.cells_end
  pub cin : r.cells_end ≤ nc
  pub cn : r.cells_end - r.cells ≡ cells_by s i
  pub rup : r.registers ≤ r.registers_end
  pub rin : r.registers_end ≤ nr
  pub rn : r.registers_end - r.registers ≡ registers_by s i

pub parts-of : {s : List ℕ} {i : ℕ} → Owned s i → {r : Row} → Rowed s i r → {cs : List Float} {rs : List ℕ} → Sound s cs rs → Parts s i r (length cs) (length rs)
parts-of {s} {i} o w a =
    let room = a.room i o.inside in
    let sc : cells_from s (i + 1) ≡ cells_from s i + cells s i = sum-suc (cells s) i in
    let sr : registers_from s (i + 1) ≡ registers_from s i + registers s i = sum-suc (registers s) i in
    let bc = cells-built s i o.built_is in
    let br = registers-built s i o.built_is in
    record {
      rowed = w;
      cup = omega (arith, w.cells_is, w.cells_end_is);
      cin = omega (arith, room.0, w.cells_end_is);
      cn = omega (arith, w.cells_is, w.cells_end_is);
      rup = omega (arith, w.registers_is, w.registers_end_is);
      rin = omega (arith, room.1, w.registers_end_is);
      rn = omega (arith, w.registers_is, w.registers_end_is);
    }

-- what the function of the record's kind is lent
pub lent_of : {s : List ℕ} {i : ℕ} → Voiced s → Owned s i → {r : Row} {cs : List Float} {rs : List ℕ} → Parts s i r (length cs) (length rs) → Sound s cs rs
    → Lent s i (kind_number r.kind) (length (take (r.cells_end - r.cells) (drop r.cells cs))) (length (take (r.registers_end - r.registers) (drop r.registers rs)))
lent_of v o w a =
    record {
      passed = v.passed.passed;
      inside = o.inside;
      kind_is = w.rowed.kind_is;
      cells = simp (length-take, length-drop) (omega (arith, w.cin, w.cup, w.cn));
      registers = simp (length-take, length-drop) (omega (arith, w.rin, w.rup, w.rn));
    }

ran-same : {f g : Ugen} {c : Controls} {bufs : List (List Float)} {xs cs : List Float} {rs : List ℕ} {ys ds : List Float} {ss : List ℕ} {cs' : List Float} {rs' : List ℕ}
    → Ran f c bufs xs cs rs ys ds ss → f ≡ g → cs ≡ cs' → rs ≡ rs' → Ran g c bufs xs cs' rs' ys ds ss
ran-same {c = c} {bufs} {xs} {ys = ys} {ds} {ss} r p q t = subst₃ (λ f cs rs. Ran f c bufs xs cs rs ys ds ss) p q t r

-- the unit on the parts that were lent
pub own_is : (s : List ℕ) (i : ℕ) (c : Controls) (xs : List Float) (bufs : List (List Float)) (cs : List Float) (rs : List ℕ) (ys ds : List Float) (ss : List ℕ) (a e p q : ℕ) → role s i ≡ Built
    → a ≡ cells_from s i → e ≡ cells_from s (i + 1) → p ≡ registers_from s i → q ≡ registers_from s (i + 1) → e ≤ length cs → q ≤ length rs → length ds ≡ e - a → length ss ≡ q - p
    → Ran (kind_unit s i) c bufs xs (take (e - a) (drop a cs)) (take (q - p) (drop p rs)) ys ds ss
    → Played s i c xs bufs cs rs ys (take a cs ++ (ds ++ drop (e - a) (drop a cs))) (take p rs ++ (ss ++ drop (q - p) (drop p rs)))
unfolding played unit_of
own_is s i c xs bufs cs rs ys ds ss a e p q b ea ee ep eq le lq ld ls r =
    let sc : cells_from s (i + 1) ≡ cells_from s i + cells s i = sum-suc (cells s) i in
    let sr : registers_from s (i + 1) ≡ registers_from s i + registers s i = sum-suc (registers s) i in
    let lea : a ≤ e = omega arith in
    let lpq : p ≤ q = omega arith in
    let na : e - a ≡ cells s i = omega arith in
    let nr : q - p ≡ registers s i = omega arith in
    let u : kind_unit s i ≡ unit_of s i = rw b in
    let w = ran-same r u (λ j. take (na j) (drop (ea j) cs)) (λ j. take (nr j) (drop (ep j) rs)) in
    record {
      is = ap₂ {C = List Float × Own} (λ x y. (ys, (x, y))) (lay-part cs ds a e lea le ld) (lay-part rs ss p q lpq lq ls)
          ∙ (λ j. (w.samples j, (sets cs (ea j) (w.state j).0, sets rs (ep j) (w.state j).1)));
    }

-- check 9 of the parts that were lent
pub own-sound : (s : List ℕ) (cs : List Float) (rs : List ℕ) → Sound s cs rs → (i a e p q : ℕ) → i < count_of s → role s i ≡ Built → a ≡ cells_from s i → p ≡ registers_from s i → e - a ≡ cells_by s i → q - p ≡ registers_by s i
    → own_ok s i (take (e - a) (drop a cs), take (q - p) (drop p rs)) ≡ true
own-sound s cs rs w i a e p q h b ea ep na nr =
    let na' : e - a ≡ cells s i = na ∙ sym (cells-built s i b) in
    let nr' : q - p ≡ registers s i = nr ∙ sym (registers-built s i b) in
    ap (own_ok s i) (λ j. (take (na' j) (drop (ea j) cs), take (nr' j) (drop (ep j) rs))) ∙ w.each i h (rw b)
