-- The texts of lines and lists, taken apart the way a loop writes them.
use Prim.Native.Nat.{ℕ, suc, ◌+◌, ◌*◌, ◌-◌, ◌≤◌, ◌<◌}
use mathlib.Core.Path.{◌≡◌, refl, sym, ap, ◌∙◌}
use mathlib.Core.List.{List, [], ◌∷◌, ◌++◌}
use native.Mathlib.Numerals.{add-one}
use native.Mathlib.Omega.{arith}
use lib.ListN.{length, get_or, take, drop, set, length-append}
use lib.Seq.{drop-cons, drop-drop, take_all}
use Rattle.std.proofs.lemmas.List.{drop_all}
use Rattle.paper.specs.Sizes.{line_words}
use Rattle.paper.specs.Printed.{decimal, after, line_text, list_text, refusal_text}
use Rattle.text.specs.Put.{Written}
use Rattle.text.proofs.Put.{Going, going_start, going_step, going_as, going_room, going_fits, going_end, going_last, written_byte}

-- the lines of the offices from i to k
abbrev pub lines_from : List ℕ → ℕ → ℕ → List ℕ
lines_from ws i k = list_text (k - i) (drop (line_words * i) ws)

-- of the numbers after the first of a line, those from i on
after-step : (ws : List ℕ) (i : ℕ) → i < length ws → after (drop i ws) ≡ (32 ∷ decimal (get_or ws i 0)) ++ after (drop (i + 1) ws)
unfolding after
after-step ws i h =
    ap after (drop-cons ws i 0 h)
    ∙ ap (λ n. (32 ∷ decimal (get_or ws i 0)) ++ after (drop n ws)) (sym (add-one i))

after_end : (ws : List ℕ) (i : ℕ) → length ws ≤ i → after (drop i ws) ≡ 10 ∷ []
unfolding after
after_end ws i h = ap after (drop_all i ws h)

list_step : (ws : List ℕ) (i k : ℕ) → i < k → lines_from ws i k ≡ line_text (take line_words (drop (line_words * i) ws)) ++ lines_from ws (i + 1) k
unfolding list_text
list_step ws i k h =
    let more : k - i ≡ suc (k - (i + 1)) = omega arith in
    let past : line_words * i + line_words ≡ line_words * (i + 1) = omega arith in
    ap (λ n. list_text n (drop (line_words * i) ws)) more
    ∙ ap (λ l. line_text (take line_words (drop (line_words * i) ws)) ++ list_text (k - (i + 1)) l) (drop-drop line_words (line_words * i) ws ∙ ap (λ n. drop n ws) past)

list_end : (ws : List ℕ) (i k : ℕ) → k ≤ i → lines_from ws i k ≡ []
unfolding list_text
list_end ws i k h = let none : k - i ≡ 0 = omega arith in ap (λ n. list_text n (drop (line_words * i) ws)) none

module _ (ws : List ℕ) {at : ℕ} {text u : List ℕ} where
  module _ {i next : ℕ} {v : List ℕ} (g : Going at text (after (drop i ws)) u v next) where
    pub after-fits : at + length text ≤ length u → i < length ws → next + length (32 ∷ decimal (get_or ws i 0)) ≤ length v
    after-fits room h = going_fits (32 ∷ decimal (get_or ws i 0)) (after (drop (i + 1) ws)) g (after-step ws i h) room

    pub after_more : {w : List ℕ} {past : ℕ} → i < length ws → Written next (32 ∷ decimal (get_or ws i 0)) v w past
        → Going at text (after (drop (i + 1) ws)) u w past
    after_more h p = going_step (going_as g (after-step ws i h)) p

    pub after-room : at + length text ≤ length u → length ws ≤ i → next < length v
    after-room room h = omega (arith, going_room (going_as g (after_end ws i h)) room)

    pub after-done : at + length text ≤ length u → length ws ≤ i → Written at text u (set v next 10) (next + 1)
    after-done room h = going_last (going_as g (after_end ws i h)) (written_byte next 10 v (after-room room h))

  pub list_begun : (k : ℕ) → text ≡ list_text k ws → at + length text ≤ length u → Going at text (lines_from ws 0 k) u u at
  list_begun k e h = let same : k ≡ k - 0 = omega arith in going_as (going_start at text u h) (e ∙ ap (λ n. list_text n ws) same)

  module _ {i k next : ℕ} {v : List ℕ} (g : Going at text (lines_from ws i k) u v next) where
    pub list-fits : at + length text ≤ length u → i < k → next + length (line_text (take line_words (drop (line_words * i) ws))) ≤ length v
    list-fits room h = going_fits (line_text (take line_words (drop (line_words * i) ws))) (lines_from ws (i + 1) k) g (list_step ws i k h) room

    pub list-more : {w : List ℕ} {past : ℕ} → i < k → Written next (line_text (take line_words (drop (line_words * i) ws))) v w past
        → Going at text (lines_from ws (i + 1) k) u w past
    list-more h p = going_step (going_as g (list_step ws i k h)) p

    pub list_done : k ≤ i → Written at text u v next
    list_done h = going_end (going_as g (list_end ws i k h))

-- the first number of a line, and the others
abbrev others_of : List ℕ → List ℕ
others_of ws = take (length ws - 1) (drop 1 ws)

pub line_parts : (ws : List ℕ) → 1 ≤ length ws → line_text ws ≡ decimal (get_or ws 0 0) ++ after (others_of ws)
unfolding line_text
line_parts [] h = absurd (omega (arith, h))
line_parts (n ∷ ns) h = ap (λ l. decimal n ++ after l) (sym (take_all (length (n ∷ ns) - 1) ns (omega arith)))

pub line-length : (ws : List ℕ) → 1 ≤ length ws → length (line_text ws) ≡ length (decimal (get_or ws 0 0)) + length (after (others_of ws))
line-length ws h = ap length (line_parts ws h) ∙ length-append (decimal (get_or ws 0 0)) _

-- `refused` and a space
abbrev pub refused_word : List ℕ
refused_word = 114 ∷ 101 ∷ 102 ∷ 117 ∷ 115 ∷ 101 ∷ 100 ∷ 32 ∷ []

pub refusal_parts : (n : ℕ) → refusal_text n ≡ refused_word ++ (decimal n ++ (10 ∷ []))
unfolding refusal_text
refusal_parts n = refl

pub refusal_length : (n : ℕ) → length (refusal_text n) ≡ 9 + length (decimal n)
refusal_length n = omega (arith, ap length (refusal_parts n), length-append (decimal n) (10 ∷ []))
