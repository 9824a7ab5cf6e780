-- A word written as its bytes, and words written one after the other or in the place of others.
use Prim.Native.Nat.{ℕ, zero, suc, ◌+◌, ◌*◌, ◌/◌, ◌%◌, ◌^◌, ◌≤◌, ◌<◌}
use native.Mathlib.Nat.{mul-suc, pow-suc, div-div-eq-div-mul}
use native.Mathlib.Numerals.{add-one}
use native.Mathlib.Omega.{arith}
use mathlib.Core.Path.{◌≡◌, refl, sym, ap, subst, ◌∙◌}
use mathlib.Core.List.{List, [], ◌∷◌, ◌++◌, append_assoc}
use lib.ListN.{length, get_or, take, drop, set, length-append, length-set, take-append-drop}
use lib.Seq.{take_at, drop_at, drop-drop, set_split, split_at, take-suc, length-take-le}
use borrow.Rule.Slice.PartMut.{put_mid}
use Rattle.std.specs.Int.{byte_at, bytes_low_first}
use Rattle.paper.specs.Sizes.{long_bytes, counts_bytes}
use Rattle.paper.specs.Words.{bytes_of, as_bytes, written}
use Rattle.paper.specs.Host.{counted}
use Rattle.paper.proofs.Words.{bytes_size, as_bytes_size, as_bytes_append, written_none}
use Rattle.paper.proofs.Host.{counted_long}
use Rattle.text.specs.Put.{Put}

-- the bytes of a number from byte i on, as the paper has those of what is left of it
low_byte : (i x : ℕ) → byte_at i x ≡ x / 256 ^ i % 256
low_byte zero x = omega arith
low_byte (suc i) x = refl

low_first : (i w x : ℕ) → bytes_low_first i w x ≡ bytes_of w (x / 256 ^ i)
unfolding bytes_of
low_first i zero x = refl
low_first i (suc w) x =
    let rest : x / 256 ^ suc i ≡ x / 256 ^ i / 256 = ap (λ (n : ℕ). x / n) (pow-suc 256 i) ∙ sym (div-div-eq-div-mul x (256 ^ i) 256) in
    ap (λ (b : ℕ). b ∷ bytes_low_first (suc i) w x) (low_byte i x) ∙ ap (λ (l : List ℕ). x / 256 ^ i % 256 ∷ l) (low_first (suc i) w x ∙ ap (bytes_of w) rest)

-- the bytes of a number, copied to their place
pub put_bytes : (w at k x : ℕ) (u ys : List ℕ) → at + w ≤ length u → k ≡ w → ys ≡ bytes_low_first 0 w x → Put at (bytes_of w x) u (put_mid at k u ys)
put_bytes w at k x u ys h e f = record {
  fits = omega (arith, bytes_size w x);
  whole =
      let same : ys ≡ bytes_of w x = f ∙ low_first 0 w x ∙ ap (bytes_of w) (omega arith) in
      ap (λ (l : List ℕ). take at u ++ (l ++ drop k (drop at u))) same
      ∙ ap (λ (l : List ℕ). take at u ++ (bytes_of w x ++ l)) (drop-drop k at u ∙ ap (λ (n : ℕ). drop (at + n) u) (e ∙ sym (bytes_size w x)));
}

-- a text in the place of another that is as long
put_seam : (a b c text v : List ℕ) (at : ℕ) → length a ≡ at → length b ≡ length text → Put at text (a ++ (b ++ c)) v → v ≡ a ++ (text ++ c)
put_seam a b c text v at e h P =
    P.whole ∙ ap (λ (l : List ℕ). l ++ (text ++ drop (at + length text) (a ++ (b ++ c)))) (take_at a (b ++ c) at e) ∙ ap (λ (l : List ℕ). a ++ (text ++ l)) rest
  where
    rest : drop (at + length text) (a ++ (b ++ c)) ≡ c
    rest = sym (drop-drop (length text) at (a ++ (b ++ c))) ∙ ap (drop (length text)) (drop_at a (b ++ c) at e) ∙ drop_at b c (length text) h

-- the bytes of a word among others
parts : (w x : ℕ) (xs ys r : List ℕ) → as_bytes w (xs ++ (x ∷ ys)) ++ r ≡ as_bytes w xs ++ (bytes_of w x ++ (as_bytes w ys ++ r))
unfolding as_bytes
parts w x xs ys r =
    ap (λ (l : List ℕ). l ++ r) (as_bytes_append w xs (x ∷ ys)) ∙ append_assoc (as_bytes w xs) (bytes_of w x ++ as_bytes w ys) r
    ∙ ap (λ (l : List ℕ). as_bytes w xs ++ l) (append_assoc (bytes_of w x) (as_bytes w ys) r)

-- a word in the place of another
written-set : (w i x : ℕ) (xs b v : List ℕ) → i < length xs → Put (w * i) (bytes_of w x) (written w xs b) v → v ≡ written w (set xs i x) b
written-set w i x xs b v h P =
    put_seam (as_bytes w front) (bytes_of w old) (as_bytes w back ++ r) (bytes_of w x) v (w * i) (as_bytes_size w front ∙ ap (λ (n : ℕ). w * n) (length-take-le i xs (omega arith)))
    (bytes_size w old ∙ sym (bytes_size w x)) (subst (λ (l : List ℕ). Put (w * i) (bytes_of w x) l v) whole P)
    ∙ sym (parts w x front back r) ∙ sym (ap (λ (l : List ℕ). as_bytes w l ++ r) (set_split xs i x h)) ∙ ap (λ (n : ℕ). as_bytes w (set xs i x) ++ drop (w * n) b) (sym (length-set xs i x))
  where
    front : List ℕ
    front = take i xs

    back : List ℕ
    back = drop (suc i) xs

    old : ℕ
    old = get_or xs i 0

    r : List ℕ
    r = drop (w * length xs) b

    whole : written w xs b ≡ as_bytes w front ++ (bytes_of w old ++ (as_bytes w back ++ r))
    whole = ap (λ (l : List ℕ). as_bytes w l ++ r) (split_at xs i 0 h) ∙ parts w old front back r

-- the next word after words that are written
written_next : (w x : ℕ) (xs b v : List ℕ) → Put (w * length xs) (bytes_of w x) (written w xs b) v → v ≡ written w (xs ++ (x ∷ [])) b
unfolding as_bytes
written_next w x xs b v P =
    put_seam (as_bytes w xs) (take w rest) (drop w rest) (bytes_of w x) v at (as_bytes_size w xs) (length-take-le w rest room ∙ sym (bytes_size w x))
    (subst (λ (l : List ℕ). Put at (bytes_of w x) (as_bytes w xs ++ l) v) (sym (take-append-drop w rest)) P)
    ∙ sym (parts w x xs [] (drop w rest)) ∙ ap (λ (l : List ℕ). as_bytes w (xs ++ (x ∷ [])) ++ l) (drop-drop w at b ∙ ap (λ (n : ℕ). drop n b) more)
  where
    at : ℕ
    at = w * length xs

    rest : List ℕ
    rest = drop at b

    room : w ≤ length rest
    room = omega (arith, P.fits, bytes_size w x, length-append (as_bytes w xs) rest, as_bytes_size w xs)

    more : at + w ≡ w * length (xs ++ (x ∷ []))
    more = sym (ap (λ (n : ℕ). w * n) (length-append xs (x ∷ [])) ∙ ap (λ (n : ℕ). w * n) one ∙ mul-suc w (length xs))
      where
        one : length xs + 1 ≡ suc (length xs)
        one = omega arith

-- the same, of bytes that are known by an equation
pub next_at : (w x i : ℕ) (xs b u v : List ℕ) → length xs ≡ i → u ≡ written w xs b → Put (w * i) (bytes_of w x) u v → v ≡ written w (xs ++ (x ∷ [])) b
next_at w x i xs b u v e h P =
    written_next w x xs b v (subst (λ (n : ℕ). Put (w * n) (bytes_of w x) (written w xs b) v) (sym e) (subst (λ (l : List ℕ). Put (w * i) (bytes_of w x) l v) h P))

-- so many words, and one more of them
pub written_more : (w i : ℕ) (xs b u v : List ℕ) → i < length xs → u ≡ written w (take i xs) b → Put (w * i) (bytes_of w (get_or xs i 0)) u v → v ≡ written w (take (i + 1) xs) b
written_more w i xs b u v h e P =
    next_at w (get_or xs i 0) i (take i xs) b u v (length-take-le i xs (omega arith)) e P
    ∙ ap (λ (l : List ℕ). written w l b) (sym (ap (λ (j : ℕ). take j xs) (add-one i) ∙ take-suc xs i 0 h))

pub set_at : (w i x : ℕ) (xs b u v : List ℕ) → i < length xs → u ≡ written w xs b → Put (w * i) (bytes_of w x) u v → v ≡ written w (set xs i x) b
set_at w i x xs b u v p h P = written-set w i x xs b v p (subst (λ (l : List ℕ). Put (w * i) (bytes_of w x) l v) h P)

-- the two counts, one after the other
pub put_both : (listed refinements : ℕ) (b c d : List ℕ) → counts_bytes ≤ length b → Put 0 (bytes_of long_bytes listed) b c → Put long_bytes (bytes_of long_bytes refinements) c d
    → d ≡ counted listed refinements b
put_both listed refinements b c d room P Q = next_at long_bytes refinements 1 (listed ∷ []) b c d refl first Q ∙ sym (counted_long listed refinements b room)
  where
    first : c ≡ written long_bytes (listed ∷ []) b
    first = next_at long_bytes listed 0 [] b b c refl (sym (written_none long_bytes b)) P
