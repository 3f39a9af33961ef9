-- A list of calls as it is lent, and what a function that makes them with the player's own calls leaves: what the sample machine gives for the list.
use Rattle.std.specs.Prelude.{◌≡◌, refl, Bool, true, false, cond, ◌&&◌, List, [], ◌∷◌, ◌++◌, ℕ, zero, suc, ◌+◌, ◌-◌, ◌≤◌, ◌<◌, eqb, leb, length, get_or, set, take, drop, Float, Option, Some, None, is_some}
use Rattle.std.proofs.Common.{sym, ap, ap₂, ◌∙◌, append_assoc, append-nil, add-one, arith, length-set, length-drop, length-append, drop_of_length-le, take-append-drop, length-take-le, take_all, take_at, drop_at, drop-drop, take-suc-set, eqb-true, leb-true, le-leb}
use Rattle.std.proofs.Math.Decide.{dec_le}
use Rattle.std.proofs.Math.Seq.{take-append-add, drop-append-add}
use Rattle.std.proofs.lemmas.List.{drop-append-le}
use Rattle.std.proofs.lemmas.Option.{none-some, same_Some}
use Rattle.std.proofs.lemmas.Bool.{eqb-false, lt-leb}
use Rattle.tree.specs.Comm.{M, ret, bind, bind-ap, bind-ap-left}
use Rattle.tree.specs.Block.{tab}
use Rattle.control.specs.declared.Controls.{Controls}
use Rattle.control.specs.Moves.{pitch_moved, bend_moved}
use Rattle.sheet.specs.Checks.{sum}
use Rattle.sheet.specs.Laws.{both, sum-suc}
use Rattle.machine.specs.Machine.{State, state, room_check, fill_check, fill_of, cutoff_of, controlled, Call, fill, pitch, bend, cutoff, call, machine}
use Rattle.machine.proofs.Samples.{samples-length}
use Rattle.calls.specs.Calls.{Fills, Cuts}
use Rattle.performance.specs.declared.Call.{Call as Asked}
use Rattle.performance.specs.declared.Call.TheVariants.{Fill, Pitch, Bend, Cutoff}

-- the machine's call for a call of the list, and how many samples it fills where it is accepted
abbrev pub machine_call : Asked → Call
machine_call (Fill n) = fill n
machine_call (Pitch x g) = pitch x g
machine_call (Bend x) = bend x
machine_call (Cutoff x) = cutoff x

abbrev pub length_of : Asked → ℕ
length_of (Fill n) = n
length_of (Pitch x g) = 0
length_of (Bend x) = 0
length_of (Cutoff x) = 0

-- what the call answers, makes and leaves: its samples stand in front of what out held
pub record Called (s : List ℕ) (k : Call) (c : Controls) (xs cs : List Float) (rs : List ℕ) (zs : List Float) (a : ℕ) (r : Controls) (ys ds : List Float) (ss : List ℕ) (ws : List Float) : Type 0 where
  pub answer : a ≡ (call s k (state c cs rs zs)).0.0
  pub left : state r ds ss ws ≡ (call s k (state c cs rs zs)).1
  pub out : ys ≡ (call s k (state c cs rs zs)).0.1 ++ drop (length (call s k (state c cs rs zs)).0.1) xs

pub called-fill : (s : List ℕ) (c : Controls) (xs cs : List Float) (rs : List ℕ) (zs : List Float) (a : ℕ) (r : Controls) (ys ds : List Float) (ss : List ℕ) (ws : List Float)
    → length ys ≡ length xs → Fills s c xs cs rs zs a r ys ds ss ws → Called s (fill (length xs)) c xs cs rs zs a r ys ds ss ws
unfolding call
called-fill s c xs cs rs zs a r ys ds ss ws l f = record {
  answer = ap (λ (t : (ℕ × List Float) × State). t.0.0) f.is;
  left = ap (λ (t : (ℕ × List Float) × State). t.1) f.is;
  out = laid (eqb a 0) refl ∙ ap (λ (t : (ℕ × List Float) × State). t.0.1 ++ drop (length t.0.1) xs) f.is;
}
  where
    laid : (b : Bool) → eqb a 0 ≡ b → ys ≡ cond (eqb a 0) ys [] ++ drop (length (cond (eqb a 0) ys [])) xs
    laid true e = rw (e, drop_of_length-le xs {i = length ys} (omega arith)) (sym (append-nil ys))
    laid false e = rw e (f.refused (eqb-false a 0 e))

pub called-controls : (s : List ℕ) (f : Controls → Controls) (k : Call) → call s k ≡ controlled f → (c : Controls) (xs cs : List Float) (rs : List ℕ) (zs : List Float) (r : Controls) → r ≡ f c
    → Called s k c xs cs rs zs 0 r xs cs rs zs
called-controls s f k e c xs cs rs zs r d = record { answer = rw e; left = rw (e, d); out = rw e }

pub call-pitch : (s : List ℕ) (x g : Float) → call s (pitch x g) ≡ controlled (λ c. pitch_moved c x g)
unfolding call
call-pitch s x g = refl

pub call-bend : (s : List ℕ) (x : Float) → call s (bend x) ≡ controlled (λ c. bend_moved c x)
unfolding call
call-bend s x = refl

pub called-cutoff : (s : List ℕ) (x : Float) (c : Controls) (xs cs : List Float) (rs : List ℕ) (zs : List Float) (a : ℕ) (ds : List Float)
    → Cuts s x cs (length rs) (length zs) a ds → Called s (cutoff x) c xs cs rs zs a c xs ds rs zs
unfolding call cutoff_of
called-cutoff s x c xs cs rs zs a ds f = go (eqb a 0) refl
  where
    k : ℕ
    k = room_check s (length cs) (length rs) (length zs)

    go : (b : Bool) → eqb a 0 ≡ b → Called s (cutoff x) c xs cs rs zs a c xs ds rs zs
    go true e =
        let q : eqb (room_check s (length cs) (length rs) (length zs)) 0 ≡ true = rw (← f.answer) e in
        record { answer = rw q (eqb-true a 0 e); left = rw (q, f.cells, e); out = rw q }
    go false e =
        let q : eqb (room_check s (length cs) (length rs) (length zs)) 0 ≡ false = rw (← f.answer) e in
        record { answer = rw q f.answer; left = rw (q, f.cells, e); out = rw q }

-- how many samples a call of n makes
abbrev pub took_of : ℕ → ℕ → ℕ
took_of a n = cond (eqb a 0) n 0

fill-took : (s : List ℕ) (n : ℕ) (p : State) → length (fill_of s n p).0.1 ≡ cond (eqb (fill_of s n p).0.0 0) n 0
unfolding fill_of
fill-took s n p = go (eqb (fill_check s n p) 0) refl
  where
    go : (b : Bool) → eqb (fill_check s n p) 0 ≡ b → length (fill_of s n p).0.1 ≡ cond (eqb (fill_of s n p).0.0 0) n 0
    go true e = rw e (samples-length s n p)
    go false e = rw (e, e)

cutoff-took : (s : List ℕ) (x : Float) (p : State) → length (cutoff_of s x p).0.1 ≡ 0
unfolding cutoff_of
cutoff-took s x p = go (eqb (room_check s (length p.cells) (length p.registers) (length p.scratch)) 0) refl
  where
    go : (b : Bool) → eqb (room_check s (length p.cells) (length p.registers) (length p.scratch)) 0 ≡ b → length (cutoff_of s x p).0.1 ≡ 0
    go true e = rw e
    go false e = rw e

none-took : (b : Bool) → ◌≡◌ {A = ℕ} 0 (cond b 0 0)
none-took true = refl
none-took false = refl

pub call-took : (s : List ℕ) (k : Asked) (p : State) → length (call s (machine_call k) p).0.1 ≡ took_of (call s (machine_call k) p).0.0 (length_of k)
unfolding call
call-took s (Fill n) p = fill-took s n p
call-took s (Pitch x g) p = refl
call-took s (Bend x) p = refl
call-took s (Cutoff x) p = cutoff-took s x p ∙ none-took (eqb (cutoff_of s x p).0.0 0)

-- one call more
pub machine-snoc : (s : List ℕ) (ks : List Call) (k : Call) → machine s (ks ++ (k ∷ [])) ≡ bind (machine s ks) (λ a. bind (call s k) (λ b. ret (a.0 ++ (b.0 ∷ []), a.1 ++ b.1)))
unfolding machine
machine-snoc s [] k = bind-ap (call s k) (λ b. ap (λ (l : List Float). ret ((b.0 ∷ []), l)) (append-nil b.1))
machine-snoc s (j ∷ ks) k = bind-ap (call s j) (λ a. bind-ap-left (machine-snoc s ks k) (λ b. ret (a.0 ∷ b.0, a.1 ++ b.1))
    ∙ bind-ap (machine s ks) (λ b. bind-ap (call s k) (λ d. ap (λ (l : List Float). ret (a.0 ∷ (b.0 ++ (d.0 ∷ [])), l)) (sym (append_assoc a.1 b.1 d.1)))))

-- the calls of a list, and their lengths
abbrev pub call_at : List Asked → ℕ → Call
call_at ks i = machine_call (get_or ks i (Fill 0))

abbrev pub length_at : List Asked → ℕ → ℕ
length_at ks i = length_of (get_or ks i (Fill 0))

-- what a whole list of calls answers, makes and leaves: the machine's answers, samples and numbers
pub record Plays (s : List ℕ) (ks : List Call) (c : Controls) (xs cs : List Float) (rs : List ℕ) (zs : List Float) (r : Controls) (bs : List ℕ) (ys ds : List Float) (ss : List ℕ) (ws : List Float) : Type 0 where
  pub answers : bs ≡ (machine s ks (state c cs rs zs)).0.0
  pub samples : ys ≡ (machine s ks (state c cs rs zs)).0.1 ++ drop (length (machine s ks (state c cs rs zs)).0.1) xs
  pub left : state r ds ss ws ≡ (machine s ks (state c cs rs zs)).1

-- there is an answer for each call, and out has room for all the fills
unfoldable pub fitting : List Asked → ℕ → ℕ → Bool
fitting ks answers out = eqb (length ks) answers && leb (sum (length_at ks) (length ks)) out

-- a list of calls that is made where it fits, and otherwise leaves everything as it was
pub record Performed (fit : Bool) (s : List ℕ) (ks : List Call) (c : Controls) (es : List ℕ) (xs cs : List Float) (rs : List ℕ) (zs : List Float) (o : Option Controls) (bs : List ℕ) (ys ds : List Float) (ss : List ℕ) (ws : List Float) : Type 0 where
  pub made_is : is_some o ≡ fit
  pub plays : (r : Controls) → o ≡ Some r → Plays s ks c xs cs rs zs r bs ys ds ss ws
  pub kept : o ≡ None → (bs ≡ es) × (ys ≡ xs) × (ds ≡ cs) × (ss ≡ rs) × (ws ≡ zs)

pub record Playing (s : List ℕ) (f : ℕ → Call) (n : ℕ → ℕ) (c : Controls) (xs cs : List Float) (rs : List ℕ) (zs : List Float) (bs : List ℕ) (r : Controls) (ys ds : List Float) (ss : List ℕ) (ws : List Float) (es : List ℕ) (d k : ℕ) : Type 0 where
  pub bound : k ≤ length bs
  pub long : length es ≡ length bs
  pub outs : length ys ≡ length xs
  pub spent : d ≤ sum n k
  pub inside : d ≤ length xs
  pub is : ◌≡◌ {A = (List ℕ × List Float) × State} ((take k es, take d ys), state r ds ss ws) (machine s (tab k f) (state c cs rs zs))
  pub rest : drop d ys ≡ drop d xs

pub play-start : (s : List ℕ) (f : ℕ → Call) (n : ℕ → ℕ) (c : Controls) (xs cs : List Float) (rs : List ℕ) (zs : List Float) (bs : List ℕ) → Playing s f n c xs cs rs zs bs c xs cs rs zs bs 0 0
unfolding machine tab sum
play-start s f n c xs cs rs zs bs = record { bound = omega arith; long = refl; outs = refl; spent = omega arith; inside = omega arith; is = refl; rest = refl }

front : (d m : ℕ) (ys ws tl rest : List Float) → length (take d ys) ≡ d → length ws ≡ m → take (d + m) (take d ys ++ ((ws ++ tl) ++ rest)) ≡ take d ys ++ ws
front d m ys ws tl rest l e = ap (λ (k : ℕ). take (k + m) (take d ys ++ ((ws ++ tl) ++ rest))) (sym l) ∙ take-append-add (take d ys) ((ws ++ tl) ++ rest) m
    ∙ ap (λ (z : List Float). take d ys ++ z) (ap (take m) (append_assoc ws tl rest) ∙ take_at ws (tl ++ rest) m e)

back : (d m n : ℕ) (ys ws : List Float) → length (take d ys) ≡ d → length ws ≡ m → m ≤ length (take n (drop d ys))
    → drop (d + m) (take d ys ++ ((ws ++ drop m (take n (drop d ys))) ++ drop n (drop d ys))) ≡ drop (d + m) ys
back d m n ys ws l e h =
    let D = drop d ys in
    ap (λ (k : ℕ). drop (k + m) (take d ys ++ ((ws ++ drop m (take n D)) ++ drop n D))) (sym l) ∙ drop-append-add (take d ys) ((ws ++ drop m (take n D)) ++ drop n D) m
    ∙ ap (drop m) (append_assoc ws (drop m (take n D)) (drop n D)) ∙ drop_at ws (drop m (take n D) ++ drop n D) m e
    ∙ sym (drop-append-le m (take n D) (drop n D) h) ∙ ap (drop m) (take-append-drop n D) ∙ drop-drop m d ys

pub play-turn : (s : List ℕ) (f : ℕ → Call) (n : ℕ → ℕ) (c : Controls) (xs cs : List Float) (rs : List ℕ) (zs : List Float) (bs : List ℕ) (r : Controls) (ys ds : List Float) (ss : List ℕ) (ws : List Float) (es : List ℕ) (d k : ℕ)
    (a : ℕ) (q : Controls) (us gs : List Float) (hs : List ℕ) (vs : List Float) (m : ℕ)
    → Playing s f n c xs cs rs zs bs r ys ds ss ws es d k → k < length bs → d + n k ≤ length xs
    → Called s (f k) r (take (n k) (drop d ys)) ds ss ws a q us gs hs vs → length us ≡ n k
    → m ≡ length (call s (f k) (state r ds ss ws)).0.1 → m ≤ n k
    → Playing s f n c xs cs rs zs bs q (take d ys ++ (us ++ drop (n k) (drop d ys))) gs hs vs (set es k a) (d + m) (k + 1)
unfolding tab
play-turn s f n c xs cs rs zs bs r ys ds ss ws es d k a q us gs hs vs m v hk fits o lu em le =
    let D = drop d ys in
    let w = (call s (f k) (state r ds ss ws)).0.1 in
    let ld : length (take d ys) ≡ d = length-take-le d ys (omega (arith, v.inside, v.outs)) in
    let lD : length D ≡ length xs - d = simp length-drop (omega (arith, v.outs)) in
    let lp : length (take (n k) D) ≡ n k = length-take-le (n k) D (omega arith) in
    let ue : us ≡ w ++ drop m (take (n k) D) = o.out ∙ ap (λ (j : ℕ). w ++ drop j (take (n k) D)) (sym em) in
    record {
      bound = omega arith;
      long = simp length-set v.long;
      outs = simp (length-append, length-drop) (omega (arith, lu, ld, lD, v.inside, v.outs));
      spent = omega (arith, sum-suc n k, v.spent);
      inside = omega arith;
      is = ap₂ {C = (List ℕ × List Float) × State} (λ (e : List ℕ) (l : List Float). ((e, l), state q gs hs vs))
          (ap (λ (j : ℕ). take j (set es k a)) (add-one k) ∙ take-suc-set es k a (omega (arith, v.long)) ∙ ap (λ (b : ℕ). take k es ++ (b ∷ [])) o.answer)
          (ap (λ (l : List Float). take (d + m) (take d ys ++ (l ++ drop (n k) D))) ue ∙ front d m ys w (drop m (take (n k) D)) (drop (n k) D) ld (sym em))
          ∙ ap {B = (List ℕ × List Float) × State} (λ (p : State). ((take k es ++ ((call s (f k) (state r ds ss ws)).0.0 ∷ []), take d ys ++ w), p)) o.left
          ∙ ap {B = (List ℕ × List Float) × State} (λ (t : (List ℕ × List Float) × State). ((t.0.0 ++ ((call s (f k) t.1).0.0 ∷ []), t.0.1 ++ (call s (f k) t.1).0.1), (call s (f k) t.1).1)) v.is
          ∙ sym (ap (λ (g : M State (List ℕ × List Float)). g (state c cs rs zs)) (machine-snoc s (tab k f) (f k)))
          ∙ ap (λ (j : ℕ). machine s (tab j f) (state c cs rs zs)) (sym (add-one k));
      rest = ap (λ (l : List Float). drop (d + m) (take d ys ++ (l ++ drop (n k) D))) ue ∙ back d m (n k) ys w ld (sym em) (omega arith)
          ∙ sym (drop-drop m d ys) ∙ ap (drop m) v.rest ∙ drop-drop m d xs;
    }

pub play-end : (s : List ℕ) (f : ℕ → Call) (n : ℕ → ℕ) (c : Controls) (xs cs : List Float) (rs : List ℕ) (zs : List Float) (bs : List ℕ) (r : Controls) (ys ds : List Float) (ss : List ℕ) (ws : List Float) (es : List ℕ) (d k : ℕ)
    → Playing s f n c xs cs rs zs bs r ys ds ss ws es d k → length bs ≤ k → (m : ℕ) → m ≡ length bs → Plays s (tab m f) c xs cs rs zs r es ys ds ss ws
play-end s f n c xs cs rs zs bs r ys ds ss ws es d k v h m em =
    let e : k ≡ m = omega (arith, v.bound) in
    let t = ap (λ (j : ℕ). machine s (tab j f) (state c cs rs zs)) e in
    let i = v.is ∙ t in
    let lt : take d ys ≡ (machine s (tab m f) (state c cs rs zs)).0.1 = ap (λ (p : (List ℕ × List Float) × State). p.0.1) i in
    let ld : length (take d ys) ≡ d = length-take-le d ys (omega (arith, v.inside, v.outs)) in
    record {
      answers = sym (take_all k es (omega (arith, v.long))) ∙ ap (λ (p : (List ℕ × List Float) × State). p.0.0) i;
      samples = sym (take-append-drop d ys) ∙ ap₂ ◌++◌ lt (v.rest ∙ ap (λ (j : ℕ). drop j xs) (sym ld ∙ ap length lt));
      left = ap (λ (p : (List ℕ × List Float) × State). p.1) i;
    }

sum-le : (f : ℕ → ℕ) (i j : ℕ) → i ≤ j → sum f i ≤ sum f j
unfolding sum
sum-le f i zero h = let e : i ≡ 0 = omega arith in rw e (omega arith)
sum-le f i (suc j) h = elim (dec_le i j) [ yes g ↦ omega (arith, sum-le f i j g) | no g ↦ let e : i ≡ suc j = omega arith in rw e (omega arith) ]

-- the next call's samples have room
pub play-room : (n : ℕ → ℕ) (d k m l : ℕ) → d ≤ sum n k → k < m → sum n m ≤ l → d + n k ≤ l
play-room n d k m l h g r = omega (arith, sum-suc n k, sum-le n (k + 1) m (omega arith))

-- ---- whether the calls fit
pub fitting-told : (ks : List Asked) (answers out : ℕ) → fitting ks answers out ≡ true → (length ks ≡ answers) × (sum (length_at ks) answers ≤ out)
unfolding fitting
fitting-told ks answers out e =
    let p = both _ _ e in
    let l = eqb-true _ _ p.0 in
    (l, rw (← l) (leb-true _ _ p.1))

pub fit_none : (f : ℕ → ℕ) (n : ℕ) → sum f 0 + n ≡ n
unfolding sum
fit_none f n = let z : sum f 0 ≡ 0 = refl in omega (arith, z)

pub fit-turn : (f : ℕ → ℕ) (k left n : ℕ) → sum f k + left ≡ n → f k ≤ left → sum f (k + 1) + (left - f k) ≡ n
fit-turn f k left n e h = omega (arith, sum-suc f k)

pub fit-over : (f : ℕ → ℕ) (k m left n : ℕ) → sum f k + left ≡ n → k < m → left < f k → false ≡ leb (sum f m) n
fit-over f k m left n e h g = sym (lt-leb (sum f m) n (omega (arith, sum-suc f k, sum-le f (k + 1) m (omega arith))))

pub fit_all : (f : ℕ → ℕ) (k m left n : ℕ) → sum f k + left ≡ n → k ≡ m → true ≡ leb (sum f m) n
fit_all f k m left n e h = sym (le-leb (sum f m) n (rw (← h) (omega arith)))

-- the calls are made, or not
pub performed : (s : List ℕ) (ks : List Call) (c : Controls) (es : List ℕ) (xs cs : List Float) (rs : List ℕ) (zs : List Float) (r : Controls) (bs : List ℕ) (ys ds : List Float) (ss : List ℕ) (ws : List Float) (fit : Bool)
    → fit ≡ true → Plays s ks c xs cs rs zs r bs ys ds ss ws → Performed fit s ks c es xs cs rs zs (Some r) bs ys ds ss ws
performed s ks c es xs cs rs zs r bs ys ds ss ws fit e p = record {
  made_is = sym e;
  plays = λ q h. rw (← same_Some r q h) p;
  kept = λ h. absurd (none-some r (sym h));
}

pub not-performed : (s : List ℕ) (ks : List Call) (c : Controls) (es : List ℕ) (xs cs : List Float) (rs : List ℕ) (zs : List Float) (fit : Bool) → fit ≡ false → Performed fit s ks c es xs cs rs zs None es xs cs rs zs
not-performed s ks c es xs cs rs zs fit e = record { made_is = sym e; plays = λ q h. absurd (none-some q h); kept = λ h. (refl, refl, refl, refl, refl) }
