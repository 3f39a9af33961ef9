-- Tables of what the definitions say of each record, and a turn of each loop that writes one.
use Rattle.std.specs.Prelude.{◌≡◌, Bool, false, cond, ◌&&◌, ◌||◌, List, ◌≢◌, ℕ, ◌+◌, ◌-◌, ◌≤◌, ◌<◌, eqb, length, get_or, set}
use Rattle.std.proofs.Math.ListN.{get_or-map}
use Rattle.std.proofs.lemmas.List.{map-set, length-map}
use Rattle.std.proofs.Common.{sym, ap, ◌∙◌, arith, eq-eqb, ne_eqb}
use Rattle.std.proofs.Math.Decide.{ℕ_discrete}
use Rattle.sheet.specs.Record.{kind, next}
use Rattle.sheet.specs.Kinds.{is_processor}
use Rattle.layout.specs.Built.{owner, trailing, role_in, role, is_built, is_played, begin, after}
use Rattle.layout.specs.declared.Role.{Role}
use Rattle.layout.specs.declared.Role.TheVariants.{Out, Silent, Built}
use Rattle.layout.specs.Good.{Good, good}
use Rattle.layout.specs.Roles.{stage_from}
use Rattle.layout.proofs.Roles.{role-root, role-in, trailing-none, trailing-some, stage-none, stage-some}
use Rattle.layout.specs.Tables.{Table, Passed, Listed, Owned, From, Below, flag, flags_of, flag-same, role_code, roles_of, role-same, first_entry, next-entry, next-above, owner-in, owned-turn, back_more, front-more}

module _ (s : List ℕ) (n : ℕ) (a : Passed s n) where
  accepted : Good s
  accepted = good s a.passed

  -- ---- stages: by the next record, whose entries count only where it is not 0
  pub trails-is : (j m k : ℕ) (t : Bool) → m ≡ next s j → k ≡ kind s m → (m ≢ 0 → t ≡ trailing s m) → (eqb m 0 || (is_processor k && t)) ≡ trailing s j
  trails-is j m k t em ek et = elim (ℕ_discrete m 0) [
    | yes z ↦ rw (eq-eqb m 0 z, trailing-none s accepted j (sym em ∙ z))
    | no d ↦ rw (ne_eqb m 0 d, trailing-some s accepted j m (sym em) d, ek, et d)
  ]

  pub stage_is : (j f : ℕ) → j < n → (next s j ≢ 0 → f ≡ stage_from s (next s j)) → cond (trailing s j) j f ≡ stage_from s j
  stage_is j f h ef = elim (ℕ_discrete j 0) [
    | yes z ↦ rw (trailing-none s accepted j (ap (next s) z ∙ accepted.alone)) (z ∙ sym (stage-none s accepted) ∙ ap (stage_from s) (sym z))
    | no d ↦ elim (ℕ_discrete (next s j) 0) [
      | yes e ↦ rw (stage-some s accepted j d (omega (arith, a.count)), trailing-none s accepted j e)
      | no e ↦ rw (stage-some s accepted j d (omega (arith, a.count)), ef e)
    ]
  ]

-- ---- a turn of each loop, by the tables that the checks leave
module _ {s : List ℕ} {n : ℕ} {kinds firsts nexts : List ℕ} (l : Listed s n kinds firsts nexts) where
  pub first-within : (i : ℕ) → i < n → get_or firsts i 0 < n
  first-within i h = first_entry s n l.passed firsts l.first_at i h

  pub next-within : (i : ℕ) → i < n → get_or nexts i 0 < n
  next-within i h = next-entry s n l.passed nexts l.next_at i h

  pub own-turn : (i o : ℕ) (t : List ℕ) → i < n → n ≤ length t → (i ≢ 0 → o ≡ owner s i) → Owned s n i t → Owned s n (i + 1) (set (set t (get_or firsts i 0) i) (get_or nexts i 0) o)
  own-turn i o t h b eo w = owned-turn s n l.passed i o _ _ t h b eo (l.first_at.at i h) (l.next_at.at i h) w

  module _ (j : ℕ) (some : 0 < j) (most : j ≤ n) (lasts : List Bool) (froms : List ℕ) (long-lasts : n ≤ length lasts) (long-froms : n ≤ length froms)
      (is-lasts : From (λ k. flag (trailing s k)) j n (flags_of lasts)) (is-froms : From (stage_from s) j n froms) where
    abbrev m : ℕ
    m = get_or nexts (j - 1) 0

    to : m ≡ next s (j - 1)
    to = l.next_at.at (j - 1) (omega arith)

    above : m ≢ 0 → j ≤ m
    above d = omega (arith, to, next-above s n l.passed (j - 1) (λ y. d (to ∙ y)))

    pub last-turn : (k : ℕ) → k ≡ kind s (get_or nexts (j - 1) 0) → (t : Bool) → t ≡ (eqb (get_or nexts (j - 1) 0) 0 || (is_processor k && get_or lasts (get_or nexts (j - 1) 0) false)) → t ≡ trailing s (j - 1)
    last-turn k ek t et = et ∙ trails-is s n l.passed (j - 1) m k (get_or lasts m false) to ek
        (λ d. flag-same _ _ (sym (get_or-map flag lasts m false) ∙ is-lasts m (above d) (next-within (j - 1) (omega arith))))

    pub lasts-turn : (t : Bool) → t ≡ trailing s (j - 1) → From (λ k. flag (trailing s k)) (j - 1) n (flags_of (set lasts (j - 1) t))
    lasts-turn t e = rw (map-set flag lasts (j - 1) t) (back_more (λ k. flag (trailing s k)) (flags_of lasts) j n (flag t) some (omega (arith, length-map lasts flag)) is-lasts (ap flag e))

    pub froms-turn : (t : Bool) → t ≡ trailing s (j - 1) → (f : ℕ) → f ≡ cond t (j - 1) (get_or froms (get_or nexts (j - 1) 0) 0) → From (stage_from s) (j - 1) n (set froms (j - 1) f)
    froms-turn t et f e = back_more (stage_from s) froms j n f some (omega arith) is-froms (e ∙ ap (λ t. cond t (j - 1) (get_or froms m 0)) et ∙ stage_is s n l.passed (j - 1) (get_or froms m 0) (omega arith)
        (λ d. is-froms m (above (λ y. d (sym to ∙ y))) (next-within (j - 1) (omega arith)) ∙ ap (stage_from s) to))

  -- record i's role, by its owner's
  pub root_is : (i k : ℕ) → i ≡ 0 → k ≡ kind s i → cond (is_processor k) Silent Built ≡ role s i
  root_is i k z e = rw (e, z, role-root s (good s l.passed.passed))

  pub role-turn : (i o : ℕ) (acts : List Role) (ko k : ℕ) (last : Bool) → i ≢ 0 → i < n → o ≡ owner s i → Below (λ k. role_code (role s k)) i (roles_of acts) → ko ≡ kind s o → k ≡ kind s i → last ≡ trailing s i
      → role_in (get_or acts o Out) ko (is_processor k) last ≡ role s i
  role-turn i o acts ko k last d h eo w eko ek et =
      let b : o < i = omega (arith, eo, owner-in s n l.passed i d h) in
      let r : get_or acts o Out ≡ role s o = role-same _ _ (sym (get_or-map role_code acts o Out) ∙ w o b) in
      rw (r, eko, ek, et, eo) (sym (role-in s (good s l.passed.passed) i d (omega (arith, l.passed.count))))

  module _ (i : ℕ) (within : i < n) (r : Role) (role_is : r ≡ role s i) where
    pub acts-turn : (acts : List Role) → n ≤ length acts → Below (λ k. role_code (role s k)) i (roles_of acts) → Below (λ k. role_code (role s k)) (i + 1) (roles_of (set acts i r))
    acts-turn acts b w = rw (map-set role_code acts i r) (front-more (λ k. role_code (role s k)) (roles_of acts) i (role_code r) (omega (arith, length-map acts role_code)) w (ap role_code role_is))

    pub begins-turn : (froms begins : List ℕ) → Table (stage_from s) n froms → n ≤ length begins → Below (begin s) i begins → (k v : ℕ) → k ≡ kind s i
        → v ≡ cond (is_built r) (cond (eqb k 13) (get_or froms (get_or firsts i 0) 0) (get_or firsts i 0)) 0 → Below (begin s) (i + 1) (set begins i v)
    unfolding begin
    begins-turn froms begins wf b w k v ek e = front-more (begin s) begins i v (omega arith) w (e ∙ rw (role_is, ek, wf.at (get_or firsts i 0) (first-within i within), l.first_at.at i within))

    pub afters-turn : (afters : List ℕ) → n ≤ length afters → Below (after s) i afters → (v : ℕ) → v ≡ cond (is_played r) (get_or nexts i 0) 0 → Below (after s) (i + 1) (set afters i v)
    unfolding after
    afters-turn afters b w v e = front-more (after s) afters i v (omega arith) w (e ∙ rw (role_is, l.next_at.at i within))
