-- What a buffer of zeros is after its first words were overwritten.
use Rattle.std.proofs.Common.{◌≡◌, ℕ, zero, suc, ◌+◌, ◌-◌, ◌<◌, set, get_or, List, [], ◌∷◌, ◌++◌, take, drop, length, replicate, min, refl, sym, ap, ◌∙◌, arith}
use Rattle.std.proofs.lemmas.List.{take_min, drop-replicate, take-replicate}
use Rattle.vectors.specs.Words.{words_of}

-- Past the first list, what is taken comes from the second.
past : (m : ℕ) (xs ys : List ℕ) → take m (xs ++ ys) ≡ take m xs ++ take (m - length xs) ys
past zero xs ys = let none : zero - length xs ≡ zero = omega arith in sym (ap (λ k. take k ys) none)
past (suc m) [] ys = let whole : suc m - length {A = ℕ} [] ≡ suc m = omega arith in sym (ap (λ k. take k ys) whole)
past (suc m) (x ∷ xs) ys = let less : suc m - length (x ∷ xs) ≡ m - length xs = omega arith in ap (λ zs. x ∷ zs) (past m xs ys ∙ ap (λ k. take m xs ++ take k ys) (sym less))

-- A prefix and the zeros past it, where the prefix ends with the list or with the buffer.
filled : (m n : ℕ) (xs : List ℕ) → n ≡ min m (length xs) → m - n ≡ m - length xs → take n xs ++ drop n (replicate m 0) ≡ take m (xs ++ replicate m 0)
filled m n xs e left =
    let front : take n xs ≡ take m xs = ap (λ k. take k xs) e ∙ take_min m xs in
    let back : drop n (replicate m 0) ≡ take (m - length xs) (replicate m 0) = drop-replicate n m 0 ∙ ap (λ k. replicate k 0) left ∙ sym (take-replicate (m - length xs) m 0 (omega arith)) in
    (λ i. front i ++ back i) ∙ sym (past m xs (replicate m 0))

pub padded : (xs : List ℕ) (n : ℕ) → n ≡ min (length xs) 20 → take n xs ++ drop n (replicate 20 0) ≡ words_of xs
unfolding words_of
padded xs n e = filled 20 n xs (omega (arith, e)) (omega (arith, e))

-- One word more is overwritten.
next : (i : ℕ) (ys zs : List ℕ) (d : ℕ) → i < length ys → i < length zs → set (take i ys ++ drop i zs) i (get_or ys i d) ≡ take (suc i) ys ++ drop (suc i) zs
next i [] zs d within few = absurd (omega (arith, within))
next i (y ∷ ys) [] d within few = absurd (omega (arith, few))
next zero (y ∷ ys) (z ∷ zs) d within few = refl
next (suc i) (y ∷ ys) (z ∷ zs) d within few = ap (λ l. y ∷ l) (next i ys zs d (omega (arith, within)) (omega (arith, few)))

pub overwritten : (i : ℕ) (ys : List ℕ) (d : ℕ) → i < length ys → i < 20 → set (take i ys ++ drop i (replicate 20 0)) i (get_or ys i d) ≡ take (i + 1) ys ++ drop (i + 1) (replicate 20 0)
overwritten i ys d within few =
    let on : suc i ≡ i + 1 = omega arith in
    next i ys (replicate 20 0) d within few ∙ ap (λ k. take k ys ++ drop k (replicate 20 0)) on
