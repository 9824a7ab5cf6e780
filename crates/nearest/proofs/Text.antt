-- The answer slice while lines are written to it.
use Prim.Native.Nat.{ℕ, ◌+◌, ◌-◌, ◌*◌, ◌/◌, ◌%◌, ◌≤◌, ◌<◌}
use native.Mathlib.Omega.{arith}
use native.Mathlib.Decide.{dec_lt}
use mathlib.Core.Path.{◌≡◌, refl, sym, ap, ◌∙◌}
use mathlib.Core.List.{List, [], ◌∷◌, ◌++◌}
use lib.ListN.{length, get_or, drop, length-append, length-drop}
use lib.Seq.{ext_get_or, get_or-drop, get_or-append-add}
use Rattle.paper.specs.Sizes.{line_words}
use Rattle.paper.specs.Listing.{Line, line_at}
use Rattle.paper.specs.Reply.{line_out, lines_out}
use Rattle.paper.proofs.Slots.{snoc_all, snoc_length}
use Rattle.paper.proofs.Reply.{lines_size, lines_word}
use Rattle.nearest.specs.Going.{Wrote}

-- the answer slice, a₀ at entry, once the lines ls are written
pub record Text (a₀ a : List ℕ) (ls : List Line) : Type 0 where
  pub long : length a ≡ length a₀
  pub words : (b : ℕ) → b < length ls → (j : ℕ) → j < line_words → get_or a (line_words * b + j) 0 ≡ get_or (line_out (line_at ls b)) j 0
  pub rest : (k : ℕ) → line_words * length ls ≤ k → get_or a k 0 ≡ get_or a₀ k 0

pub text_none : (a : List ℕ) → Text a a []
text_none a = record { long = refl; words = λ b p. absurd (omega arith); rest = λ k p. refl }

pub text_more : {a₀ a a' : List ℕ} {ls : List Line} → Text a₀ a ls → (l : Line) → Wrote (length ls) l a a' → Text a₀ a' (ls ++ (l ∷ []))
text_more {a₀} {a} {a'} {ls} T l W = record {
  long = W.long ∙ T.long;
  words = snoc_all (λ b x. (j : ℕ) → j < line_words → get_or a' (line_words * b + j) 0 ≡ get_or (line_out x) j 0) ls l
      (λ b p j q. W.before (line_words * b + j) (omega arith) ∙ T.words b p j q) W.words;
  rest = λ k p. W.after k (omega (arith, snoc_length ls l)) ∙ T.rest k (omega (arith, snoc_length ls l));
}

-- two lists of one length that agree below n and from n on
pub by_parts : (n : ℕ) (a b : List ℕ) → length a ≡ length b → ((k : ℕ) → k < n → get_or a k 0 ≡ get_or b k 0) → ((k : ℕ) → n ≤ k → get_or a k 0 ≡ get_or b k 0) → a ≡ b
by_parts n a b e f g = ext_get_or 0 a b e (λ i p. go i (dec_lt i n))
  where
    go : (i : ℕ) → Dec (i < n) → get_or a i 0 ≡ get_or b i 0
    go i (yes h) = f i h
    go i (no h) = g i (omega arith)

-- what stands after a first part
pub after_part : (x y : List ℕ) (n k : ℕ) → length x ≡ n → n ≤ k → get_or (x ++ drop n y) k 0 ≡ get_or y k 0
after_part x y n k e h =
    let j : ℕ = k - length x in
    let back : length x + j ≡ k = omega arith in
    let there : n + j ≡ k = omega arith in
    rw back at (get_or-append-add x (drop n y) j 0) ∙ get_or-drop n y j 0 ∙ ap (λ (z : ℕ). get_or y z 0) there

pub text_whole : (a₀ a : List ℕ) (ls : List Line) (k : ℕ) → Text a₀ a ls → length ls ≡ k → line_words * k ≤ length a₀ → a ≡ lines_out ls ++ drop (line_words * k) a₀
text_whole a₀ a ls k T e h = by_parts (line_words * k) a (lines_out ls ++ drop (line_words * k) a₀)
    (omega (arith, T.long, size, length-append (lines_out ls) (drop (line_words * k) a₀), length-drop (line_words * k) a₀))
    (λ i p.
    let back : line_words * (i / line_words) + i % line_words ≡ i = omega arith in
    let old : get_or a (line_words * (i / line_words) + i % line_words) 0 ≡ get_or (line_out (line_at ls (i / line_words))) (i % line_words) 0 = T.words (i / line_words) (omega arith) (i % line_words) (omega arith) in
    let new : get_or (lines_out ls ++ drop (line_words * k) a₀) (line_words * (i / line_words) + i % line_words) 0 ≡ get_or (line_out (line_at ls (i / line_words))) (i % line_words) 0 =
    lines_word ls (drop (line_words * k) a₀) (i / line_words) (i % line_words) (omega arith) (omega arith) in
    rw back at (old ∙ sym new))
    (λ i p. T.rest i (omega arith) ∙ sym (after_part (lines_out ls) a₀ (line_words * k) i size p))
  where
    size : length (lines_out ls) ≡ line_words * k
    size = omega (arith, lines_size ls)
