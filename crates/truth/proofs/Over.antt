-- Words in a slice of words: what is written from its start on, and how a check ends there.
use Prim.Native.Nat.{ℕ}
use mathlib.Core.Path.{◌≡◌, sym, ap, subst, ◌∙◌}
use mathlib.Core.List.{List, ◌++◌}
use lib.ListN.{length, drop}
use lib.Seq.{drop-length}
use Rattle.std.proofs.lemmas.List.{append-nil}
use Rattle.paper.specs.Map.{Map}
use Rattle.paper.specs.Verdict.{CheckedOn}
use Rattle.paper.proofs.Checked.{checked_size}
use Rattle.truth.specs.Table.{Stored, StoredIn, CheckedIn, over}

-- as many words as the slice has are the slice
pub over_all : (words b : List ℕ) → length words ≡ length b → over words b ≡ words
over_all words b e = ap (λ (n : ℕ). words ++ drop n b) e ∙ ap (λ (l : List ℕ). words ++ l) (drop-length b) ∙ append-nil words

pub stored_over : (n v : ℕ) (column words b u after : List ℕ) → length words ≡ length b → u ≡ over words b → Stored n v column u after → StoredIn over n v column words b after
stored_over n v column words b u after e h S = record {
  words' = after;
  stored = T;
  there = sym (over_all after b (T.size ∙ e));
}
  where
    T : Stored n v column words after
    T = subst (λ (l : List ℕ). Stored n v column l after) (h ∙ over_all words b e) S

-- how a check ends in words
pub checked_words : (m : Map) (laid r : ℕ) (before after : List ℕ) → CheckedIn (λ l. l) over laid m before r after → CheckedOn laid m before r after
checked_words m laid r before after C = subst (CheckedOn laid m before r) (sym (C.there ∙ over_all C.words before (checked_size C.checked))) C.checked
