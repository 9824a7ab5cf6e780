-- Words in slices of bytes: how many bytes they take, that words and bytes make each other, and what a write leaves.
use Prim.Native.Nat.{ℕ, zero, suc, ◌+◌, ◌-◌, ◌*◌, ◌/◌, ◌%◌, ◌^◌, ◌≤◌, ◌<◌}
use native.Mathlib.Nat.{mul-suc, mul-zero, mul-add, mul_comm, div-div-eq-div-mul, pow-zero, pow-suc, div-lt_iff_lt-mul, zero-lt-suc}
use native.Mathlib.Omega.{arith}
use mathlib.Core.Path.{◌≡◌, refl, sym, ap, subst, ◌∙◌}
use mathlib.Core.List.{List, [], ◌∷◌, ◌++◌, append_assoc}
use lib.ListN.{length, get_or, take, drop, replicate, length-append, length-drop, take-append-drop, replicate-append-replicate}
use lib.Arith.{mod-mul}
use lib.Seq.{length-take-le, get_or-drop, drop-drop, take-add, drop_at}
use Rattle.paper.specs.Sizes.{word_bytes, long_bytes}
use Rattle.paper.specs.Layout.{Bytes}
use Rattle.paper.specs.Sheet.{word}
use Rattle.paper.specs.Slice.{cleared}
use Rattle.paper.specs.Words.{bytes_of, number_in, words_of, words_held, as_bytes, written, Fit}
use Rattle.paper.proofs.Cleared.{cleared_size}

-- lengths
pub bytes_size : (w x : ℕ) → length (bytes_of w x) ≡ w
unfolding bytes_of
bytes_size zero x = refl
bytes_size (suc w) x = ap suc (bytes_size w (x / 256))

pub as_bytes_size : (w : ℕ) (xs : List ℕ) → length (as_bytes w xs) ≡ w * length xs
unfolding as_bytes
as_bytes_size w [] = sym (mul-zero w)
as_bytes_size w (x ∷ xs) = omega (arith, length-append (bytes_of w x) (as_bytes w xs), bytes_size w x, as_bytes_size w xs, mul-suc w (length xs))

pub words_size : (w n : ℕ) (b : List ℕ) → length (words_of w n b) ≡ n
unfolding words_of
words_size w zero b = refl
words_size w (suc n) b = ap suc (words_size w n (drop w b))

pub written_size : (w : ℕ) (xs b : List ℕ) → w * length xs ≤ length b → length (written w xs b) ≡ length b
written_size w xs b h = omega (arith, length-append (as_bytes w xs) (drop (w * length xs) b), as_bytes_size w xs, length-drop (w * length xs) b)

-- bytes, the words that stand in them, and their bytes again
pub bytes_drop : (n : ℕ) (b : List ℕ) → Bytes b → Bytes (drop n b)
bytes_drop n b B i p = subst (λ (x : ℕ). x < 256) (sym (get_or-drop n b i 0)) (B (n + i) (omega (arith, length-drop n b)))

number_bytes : (w : ℕ) (b : List ℕ) → Bytes b → w ≤ length b → bytes_of w (number_in w b) ≡ take w b
unfolding bytes_of number_in
number_bytes zero b B h = refl
number_bytes (suc w) [] B h = absurd (omega arith)
number_bytes (suc w) (x ∷ b) B h =
    let low : x < 256 = B 0 (omega arith) in
    let first : (x + 256 * number_in w b) % 256 ≡ x = omega arith in
    let rest : (x + 256 * number_in w b) / 256 ≡ number_in w b = omega arith in
    rw (first, rest) (ap (λ (l : List ℕ). x ∷ l) (number_bytes w b (bytes_drop 1 (x ∷ b) B) (omega arith)))

words-bytes : (w n : ℕ) (b : List ℕ) → Bytes b → w * n ≤ length b → as_bytes w (words_of w n b) ≡ take (w * n) b
unfolding as_bytes words_of
words-bytes w zero b B h = sym (ap (λ (k : ℕ). take k b) (mul-zero w))
words-bytes w (suc n) b B h =
    let more : w * suc n ≡ w + w * n = omega (arith, mul-suc w n) in
    let rest : w * n ≤ length (drop w b) = omega (arith, length-drop w b) in
    rw (number_bytes w b B (omega arith), words-bytes w n (drop w b) (bytes_drop w b B) rest) (sym (ap (λ (k : ℕ). take k b) more ∙ take-add w (w * n) b))

-- no words change nothing
pub written_none : (w : ℕ) (b : List ℕ) → written w [] b ≡ b
unfolding as_bytes
written_none w b = ap (λ (n : ℕ). drop n b) (mul-zero w)

-- words as they stood, written again, change nothing
pub written_same : (w n : ℕ) (b : List ℕ) → Bytes b → w * n ≤ length b → written w (words_of w n b) b ≡ b
written_same w n b B h = rw (words_size w n b, words-bytes w n b B h) (take-append-drop (w * n) b)

-- the words from k on are those of the bytes from w × k on
words-drop : (w n k : ℕ) (b : List ℕ) → k ≤ n → drop k (words_of w n b) ≡ words_of w (n - k) (drop (w * k) b)
unfolding words_of
words-drop w n zero b h =
    let e : n - 0 ≡ n = omega arith in
    rw (e, mul-zero w) refl
words-drop w zero (suc k) b h = absurd (omega arith)
words-drop w (suc n) (suc k) b h =
    let e : suc n - suc k ≡ n - k = omega arith in
    let more : w * suc k ≡ w + w * k = omega (arith, mul-suc w k) in
    words-drop w n k (drop w b) (omega arith) ∙ rw e (ap (words_of w (n - k)) (drop-drop (w * k) w b ∙ ap (λ (i : ℕ). drop i b) (sym more)))

pub as_bytes_append : (w : ℕ) (xs ys : List ℕ) → as_bytes w (xs ++ ys) ≡ as_bytes w xs ++ as_bytes w ys
unfolding as_bytes
as_bytes_append w [] ys = refl
as_bytes_append w (x ∷ xs) ys = ap (λ (l : List ℕ). bytes_of w x ++ l) (as_bytes_append w xs ys) ∙ sym (append_assoc (bytes_of w x) (as_bytes w xs) (as_bytes w ys))

-- new words before the old ones
pub written_front : (w n k : ℕ) (xs b : List ℕ) → Bytes b → w * n ≤ length b → length xs ≡ k → k ≤ n
    → written w (xs ++ drop k (words_of w n b)) b ≡ as_bytes w xs ++ drop (w * k) b
written_front w n k xs b B h e le =
    rw (words-drop w n k b le, as_bytes_append w xs old, size) (append_assoc (as_bytes w xs) (as_bytes w old) (drop (w * n) b) ∙ ap (λ (l : List ℕ). as_bytes w xs ++ l) rest)
  where
    old : List ℕ
    old = words_of w (n - k) (drop (w * k) b)

    parts : w * k + w * (n - k) ≡ w * n
    parts =
        let back : k + (n - k) ≡ n = omega arith in
        sym (mul-add w k (n - k)) ∙ ap (λ (i : ℕ). w * i) back

    size : length (xs ++ old) ≡ n
    size = omega (arith, length-append xs old, words_size w (n - k) (drop (w * k) b))

    rest : as_bytes w old ++ drop (w * n) b ≡ drop (w * k) b
    rest =
        ap (λ (l : List ℕ). as_bytes w old ++ l) (sym (drop-drop (w * (n - k)) (w * k) b ∙ ap (λ (i : ℕ). drop i b) parts))
        ∙ ap (λ (i : ℕ). as_bytes w old ++ drop (w * i) (drop (w * k) b)) (sym (words_size w (n - k) (drop (w * k) b)))
        ∙ written_same w (n - k) (drop (w * k) b) (bytes_drop (w * k) b B) (omega (arith, length-drop (w * k) b, parts))

-- words that are 0
zero_bytes : (w : ℕ) → bytes_of w 0 ≡ replicate w 0
unfolding bytes_of
zero_bytes zero = refl
zero_bytes (suc w) = ap (λ (l : List ℕ). 0 ∷ l) (zero_bytes w)

zeros_bytes : (w n : ℕ) → as_bytes w (replicate n 0) ≡ replicate (w * n) 0
unfolding as_bytes
zeros_bytes w zero = sym (ap (λ (i : ℕ). replicate i 0) (mul-zero w))
zeros_bytes w (suc n) =
    let more : w + w * n ≡ w * suc n = omega (arith, mul-suc w n) in
    rw (zero_bytes w, zeros_bytes w n) (replicate-append-replicate w (w * n) 0 ∙ ap (λ (i : ℕ). replicate i 0) more)

-- words cleared, and their bytes cleared
words_past : (w k : ℕ) (xs r : List ℕ) → k ≤ length xs → drop (w * k) (as_bytes w xs ++ r) ≡ as_bytes w (drop k xs) ++ r
words_past w k xs r h =
    ap (λ (l : List ℕ). drop (w * k) (as_bytes w l ++ r)) (sym (take-append-drop k xs))
    ∙ ap (λ (l : List ℕ). drop (w * k) (l ++ r)) (as_bytes_append w (take k xs) (drop k xs))
    ∙ ap (drop (w * k)) (append_assoc (as_bytes w (take k xs)) (as_bytes w (drop k xs)) r)
    ∙ drop_at (as_bytes w (take k xs)) (as_bytes w (drop k xs) ++ r) (w * k) (as_bytes_size w (take k xs) ∙ ap (λ (n : ℕ). w * n) (length-take-le k xs h))

pub cleared-written : (w k : ℕ) (xs b : List ℕ) → k ≤ length xs → cleared (w * k) (written w xs b) ≡ written w (cleared k xs) b
cleared-written w k xs b h =
    ap (λ (l : List ℕ). replicate (w * k) 0 ++ l) (words_past w k xs (drop (w * length xs) b) h)
    ∙ sym (append_assoc (replicate (w * k) 0) (as_bytes w (drop k xs)) (drop (w * length xs) b))
    ∙ ap (λ (l : List ℕ). l ++ as_bytes w (drop k xs) ++ drop (w * length xs) b) (sym (zeros_bytes w k))
    ∙ ap (λ (l : List ℕ). l ++ drop (w * length xs) b) (sym (as_bytes_append w (replicate k 0) (drop k xs)))
    ∙ ap (λ (n : ℕ). as_bytes w (cleared k xs) ++ drop (w * n) b) (sym (cleared_size k xs h))

pub written-cleared : (w n k : ℕ) (b : List ℕ) → Bytes b → w * n ≤ length b → k ≤ n → written w (cleared k (words_of w n b)) b ≡ cleared (w * k) b
written-cleared w n k b B h le = sym (cleared-written w k (words_of w n b) b (omega (arith, words_size w n b))) ∙ ap (cleared (w * k)) (written_same w n b B h)

-- words, their bytes, and the words that stand in them
number_back : (w x : ℕ) (b : List ℕ) → x < 256 ^ w → number_in w (bytes_of w x ++ b) ≡ x
unfolding bytes_of number_in
number_back zero x b h = omega (arith, pow-zero 256)
number_back (suc w) x b h =
    rw (number_back w (x / 256) b ((div-lt_iff_lt-mul (zero-lt-suc 255)).1 (subst (λ (y : ℕ). x < y) (pow-suc 256 w) h))) (omega arith)

pub words_back : (w : ℕ) (xs b : List ℕ) → Fit w xs → words_of w (length xs) (as_bytes w xs ++ b) ≡ xs
unfolding as_bytes words_of
words_back w [] b F = refl
words_back w (x ∷ xs) b F =
    let e : bytes_of w x ++ as_bytes w xs ++ b ≡ bytes_of w x ++ (as_bytes w xs ++ b) = append_assoc (bytes_of w x) (as_bytes w xs) b in
    rw (e, number_back w x (as_bytes w xs ++ b) (F 0 (omega arith)), drop_at (bytes_of w x) (as_bytes w xs ++ b) w (bytes_size w x))
    (ap (λ (l : List ℕ). x ∷ l) (words_back w xs b (λ i p. F (suc i) (omega arith))))

-- a word of 32 bits is the one that a sheet has there
word_first : (b : List ℕ) → number_in word_bytes b ≡ word b 0
unfolding number_in word
word_first b =
    let one : get_or (drop 1 b) 0 0 ≡ get_or b 1 0 = get_or-drop 1 b 0 0 in
    let two : get_or (drop 1 (drop 1 b)) 0 0 ≡ get_or b 2 0 = ap (λ (l : List ℕ). get_or l 0 0) (drop-drop 1 1 b) ∙ get_or-drop 2 b 0 0 in
    let three : get_or (drop 1 (drop 1 (drop 1 b))) 0 0 ≡ get_or b 3 0 = ap (λ (l : List ℕ). get_or (drop 1 l) 0 0) (drop-drop 1 1 b) ∙ ap (λ (l : List ℕ). get_or l 0 0) (drop-drop 1 2 b) ∙ get_or-drop 3 b 0 0 in
    rw (one, two, three) (omega arith)

word_next : (b : List ℕ) (i : ℕ) → word (drop word_bytes b) i ≡ word b (suc i)
unfolding word
word_next b i = rw (
  byte (4 * i) (4 * suc i) (omega arith),
  byte (4 * i + 1) (4 * suc i + 1) (omega arith),
  byte (4 * i + 2) (4 * suc i + 2) (omega arith),
  byte (4 * i + 3) (4 * suc i + 3) (omega arith),
) refl
  where
    byte : (j k : ℕ) → word_bytes + j ≡ k → get_or (drop word_bytes b) j 0 ≡ get_or b k 0
    byte j k e = get_or-drop word_bytes b j 0 ∙ ap (λ (x : ℕ). get_or b x 0) e

pub words-word : (n i : ℕ) (b : List ℕ) → i < n → get_or (words_of word_bytes n b) i 0 ≡ word b i
unfolding words_of
words-word zero i b p = absurd (omega arith)
words-word (suc n) zero b p = word_first b
words-word (suc n) (suc i) b p = words-word n i (drop word_bytes b) (omega arith) ∙ word_next b i

-- what stands in bytes has room in them, and so has what is made of it
number_fits : (w : ℕ) (b : List ℕ) → Bytes b → w ≤ length b → number_in w b < 256 ^ w
unfolding number_in
number_fits zero b B h = omega (arith, pow-zero 256)
number_fits (suc w) [] B h = absurd (omega arith)
number_fits (suc w) (x ∷ b) B h = omega (arith, B 0 (omega arith), number_fits w b (bytes_drop 1 (x ∷ b) B) (omega arith), pow-suc 256 w)

pub words_fit : (w n : ℕ) (b : List ℕ) → Bytes b → w * n ≤ length b → Fit w (words_of w n b)
unfolding words_of
words_fit w zero b B h i p = absurd (omega arith)
words_fit w (suc n) b B h zero p = number_fits w b B (omega (arith, mul-suc w n))
words_fit w (suc n) b B h (suc i) p = words_fit w n (drop w b) (bytes_drop w b B) (omega (arith, mul-suc w n, length-drop w b)) i (omega arith)

pub fit_drop : (w n : ℕ) (xs : List ℕ) → Fit w xs → Fit w (drop n xs)
fit_drop w n xs F i p = subst (λ (x : ℕ). x < 256 ^ w) (sym (get_or-drop n xs i 0)) (F (n + i) (omega (arith, length-drop n xs)))

pub fit_append : (w : ℕ) (xs ys : List ℕ) → Fit w xs → Fit w ys → Fit w (xs ++ ys)
fit_append w [] ys F G i p = G i p
fit_append w (x ∷ xs) ys F G zero p = F 0 (omega arith)
fit_append w (x ∷ xs) ys F G (suc i) p = fit_append w xs ys (λ j q. F (suc j) (omega arith)) G i (omega arith)

pow_some : (w : ℕ) → 0 < 256 ^ w
pow_some zero = omega (arith, pow-zero 256)
pow_some (suc w) = omega (arith, pow-suc 256 w, pow_some w)

pub fit_zeros : (w n : ℕ) → Fit w (replicate n 0)
fit_zeros w zero i p = absurd (omega arith)
fit_zeros w (suc n) zero p = pow_some w
fit_zeros w (suc n) (suc i) p = fit_zeros w n i (omega arith)

-- a whole slice: the words that were written are those that stand in it
pub written_back : (w n : ℕ) (xs b : List ℕ) → length xs ≡ n → Fit w xs → words_of w n (written w xs b) ≡ xs
written_back w n xs b e F = subst (λ (k : ℕ). words_of w k (written w xs b) ≡ xs) e (words_back w xs (drop (w * length xs) b) F)

-- eight bytes are those of two halves
bytes_low : (w x : ℕ) → bytes_of w (x % 256 ^ w) ≡ bytes_of w x
unfolding bytes_of
bytes_low zero x = refl
bytes_low (suc w) x =
    let whole : x % 256 ^ suc w ≡ (x / 256 % 256 ^ w) * 256 + x % 256 = ap (λ (n : ℕ). x % n) (pow-suc 256 w) ∙ mod-mul x (pow_some w) (zero-lt-suc 255) in
    let first : x % 256 ^ suc w % 256 ≡ x % 256 = omega (arith, whole) in
    let rest : x % 256 ^ suc w / 256 ≡ x / 256 % 256 ^ w = omega (arith, whole) in
    rw (first, rest, bytes_low w (x / 256)) refl

bytes_split : (w v x : ℕ) → bytes_of (w + v) x ≡ bytes_of w x ++ bytes_of v (x / 256 ^ w)
unfolding bytes_of
bytes_split zero v x =
    let none : 0 + v ≡ v = omega arith in
    let same : x ≡ x / 1 = omega arith in
    ap (λ (n : ℕ). bytes_of n x) none ∙ ap (bytes_of v) same
bytes_split (suc w) v x =
    let more : suc w + v ≡ suc (w + v) = omega arith in
    let further : x / 256 / 256 ^ w ≡ x / 256 ^ suc w = div-div-eq-div-mul x 256 (256 ^ w) ∙ ap (λ (n : ℕ). x / n) (mul_comm 256 (256 ^ w) ∙ sym (pow-suc 256 w)) in
    ap (λ (n : ℕ). bytes_of n x) more ∙ ap (λ (l : List ℕ). x % 256 ∷ l) (bytes_split w v (x / 256) ∙ ap (λ (n : ℕ). bytes_of w (x / 256) ++ bytes_of v n) further)

pub bytes_halves : (x : ℕ) → bytes_of long_bytes x ≡ bytes_of word_bytes (x % 256 ^ word_bytes) ++ bytes_of word_bytes (x / 256 ^ word_bytes)
bytes_halves x = bytes_split word_bytes word_bytes x ∙ ap (λ (l : List ℕ). l ++ bytes_of word_bytes (x / 256 ^ word_bytes)) (sym (bytes_low word_bytes x))

-- as many words stand in bytes as before, once as many are written
pub held_kept : (words b : List ℕ) → length words ≡ length (words_held b) → length (words_held (written word_bytes words b)) ≡ length (words_held b)
held_kept words b e =
    let W : List ℕ = written word_bytes words b in
    let held : length (words_held b) ≡ length b / word_bytes = words_size word_bytes (length b / word_bytes) b in
    words_size word_bytes (length W / word_bytes) W ∙ ap (λ (n : ℕ). n / word_bytes) (written_size word_bytes words b (omega (arith, e, held))) ∙ sym held
