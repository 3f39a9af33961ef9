-- What the proofs use of the definitions.
use Rattle.std.specs.Prelude.{◌≡◌, refl, true, false, List, [], ◌∷◌, ◌++◌, ℕ, zero, suc, ◌+◌, ◌-◌, ◌*◌, ◌/◌, ◌%◌, ◌≤◌, ◌<◌, ℤ, min, length, take, drop, set, get_or, pos, negsuc, neg_ℤ, Float}
use Rattle.std.proofs.Common.{sym, ap, ◌∙◌, append_assoc, add-one, arith, length-append, length-drop, length-set, take-suc, length-take-le, of_z}
use Rattle.std.proofs.Math.Seq.{append_snoc}
use Rattle.std.proofs.lemmas.List.{set_split, take_more_set, drop-set-lt}
use Rattle.std.specs.Float.{nan, inf, fin}
use Rattle.std.specs.Float.Ieee.{neg, to_signed, to_unsigned, up, down}
use Rattle.std.specs.Int.{w16, w32, to_le_bytes}
use borrow.Rule.Slice.PartMut.{put_mid}
use lib.Seq.{take_at, drop_at, drop-drop}
use Rattle.wav.specs.Wav.{little_endian, twos_complement, pcm16_of, bytes_of}

-- ---- the library's words
pub twos : (n : ℤ) → of_z w16 n ≡ twos_complement n
twos (pos n) = refl
twos (negsuc n) = omega arith

pub le-two : (n : ℕ) → to_le_bytes w16 n ≡ little_endian 2 n
unfolding little_endian
le-two n = refl

pub le-four : (n : ℕ) → to_le_bytes w32 n ≡ little_endian 4 n
unfolding little_endian
le-four n =
    let second : n / 65536 ≡ n / 256 / 256 = omega arith in
    let third : n / 16777216 ≡ n / 256 / 256 / 256 = omega arith in
    (λ i. n % 256 ∷ n / 256 % 256 ∷ second i % 256 ∷ third i % 256 ∷ [])

-- ---- a float as a signed 16-bit integer, from its sizes above and below zero. No function asks for it since the library's cast does this
above : (q : ℕ) → (65536 + min (min q 18446744073709551615) 32767 - 0) % 65536 ≡ min q 32767
above q = omega arith

pub below-zero : (n : ℕ) → n ≤ 32768 → (65536 - n) % 65536 ≡ twos_complement (neg_ℤ (pos n))
below-zero zero h = refl
below-zero (suc n) h = omega arith

below : (q : ℕ) → (65536 - min (min q 18446744073709551615) 32768) % 65536 ≡ twos_complement (neg_ℤ (pos (min q 32768)))
below q =
    let e : min (min q 18446744073709551615) 32768 ≡ min q 32768 = omega arith in
    rw e (below-zero (min q 32768) (omega arith))

pub signed16 : (y : Float) → (65536 + min (to_unsigned 64 y) 32767 - min (to_unsigned 64 (neg y)) 32768) % 65536 ≡ twos_complement (to_signed 15 y)
unfolding to_unsigned to_signed neg
signed16 nan = refl
signed16 (inf false) = refl
signed16 (inf true) = refl
signed16 (fin false m e) = above (m * up e / down e)
signed16 (fin true m e) = below (m * up e / down e)

-- ---- the bytes of one sample more
length-bytes : (xs : List Float) → length (bytes_of xs) ≡ 2 * length xs
unfolding bytes_of little_endian
length-bytes [] = refl
length-bytes (x ∷ xs) = omega (arith, length-bytes xs)

bytes-append : (xs ys : List Float) → bytes_of (xs ++ ys) ≡ bytes_of xs ++ bytes_of ys
unfolding bytes_of little_endian
bytes-append [] ys = refl
bytes-append (x ∷ xs) ys = ap (λ (l : List ℕ). pcm16_of x % 256 ∷ pcm16_of x / 256 % 256 ∷ l) (bytes-append xs ys)

bytes_take : (xs : List Float) (k : ℕ) → k < length xs → bytes_of (take (suc k) xs) ≡ bytes_of (take k xs) ++ little_endian 2 (pcm16_of (get_or xs k nan))
unfolding bytes_of little_endian
bytes_take xs k h = ap bytes_of (take-suc xs k nan h) ∙ bytes-append (take k xs) (get_or xs k nan ∷ [])

put-part : (p ys b : List ℕ) (n k : ℕ) → length p ≡ n → put_mid n k (p ++ drop n ys) b ≡ p ++ (b ++ drop (n + k) ys)
put-part p ys b n k e =
    (λ i. take_at p (drop n ys) n e i ++ (b ++ drop k (drop_at p (drop n ys) n e i))) ∙ ap (λ l. p ++ (b ++ l)) (drop-drop k n ys)

pub bytes-more : (xs : List Float) (ys b : List ℕ) (k : ℕ) → k < length xs → b ≡ little_endian 2 (pcm16_of (get_or xs k nan))
    → put_mid (2 * k) 2 (bytes_of (take k xs) ++ drop (2 * k) ys) b ≡ bytes_of (take (k + 1) xs) ++ drop (2 * (k + 1)) ys
bytes-more xs ys b k h e =
    let front = bytes_of (take k xs) in
    let n : 2 * k + 2 ≡ 2 * (k + 1) = omega arith in
    put-part front ys b (2 * k) 2 (length-bytes (take k xs) ∙ ap (λ n. 2 * n) (length-take-le k xs (omega arith)))
    ∙ (λ i. front ++ (e i ++ drop (n i) ys))
    ∙ sym (append_assoc front (little_endian 2 (pcm16_of (get_or xs k nan))) (drop (2 * (k + 1)) ys))
    ∙ ap (λ l. l ++ drop (2 * (k + 1)) ys) (sym (bytes_take xs k h) ∙ ap (λ n. bytes_of (take n xs)) (sym (add-one k)))

-- the same where the two bytes are stored one at a time
store-two : (l : List ℕ) (n a b : ℕ) → n + 1 < length l → set (set l n a) (n + 1) b ≡ put_mid n 2 l (a ∷ b ∷ [])
store-two l n a b h =
    let m : suc (n + 1) ≡ n + 2 = omega arith in
    set_split (set l n a) (n + 1) b (omega (arith, length-set l n a))
    ∙ (λ i. take_more_set l n a (omega arith) i ++ b ∷ drop-set-lt (suc (n + 1)) l n a (omega arith) i)
    ∙ append_snoc (take n l) a (b ∷ drop (suc (n + 1)) l)
    ∙ (λ i. take n l ++ a ∷ b ∷ (ap (λ m. drop m l) m ∙ sym (drop-drop 2 n l)) i)

pub bytes-more-by-byte : (xs : List Float) (ys : List ℕ) (k a b : ℕ) → k < length xs → 2 * k + 1 < length ys
    → a ≡ pcm16_of (get_or xs k nan) % 256 → b ≡ pcm16_of (get_or xs k nan) / 256 % 256
    → set (set (bytes_of (take k xs) ++ drop (2 * k) ys) (2 * k) a) (2 * k + 1) b ≡ bytes_of (take (k + 1) xs) ++ drop (2 * (k + 1)) ys
unfolding little_endian
bytes-more-by-byte xs ys k a b h g ea eb =
    let front = bytes_of (take k xs) in
    let long : length front ≡ 2 * k = length-bytes (take k xs) ∙ ap (λ n. 2 * n) (length-take-le k xs (omega arith)) in
    store-two (front ++ drop (2 * k) ys) (2 * k) a b (simp (length-append, length-drop) (omega (arith, long)))
    ∙ bytes-more xs ys (a ∷ b ∷ []) k h (λ i. ea i ∷ eb i ∷ [])
