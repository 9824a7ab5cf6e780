-- The lent slice and the marks of blocks, while the columns are gone through.
use Rattle.std.specs.Prelude.{ℕ, zero, suc, ◌+◌, ◌*◌, ◌<◌, ◌≡◌, Bool, true, false, List, ◌++◌, eqb, length, get_or, set, drop}
use Rattle.std.proofs.Math.Option.{Option, some, none}
use Rattle.paper.specs.Test.{every}
use Rattle.paper.specs.Slice.{Untouched}
use Rattle.paper.specs.Map.{Map}
use Rattle.paper.specs.Verdict.{CheckedOn}
use Rattle.paper.specs.Block.{block_of}

-- column v of the table of n × n words is stored, and nothing else is changed
pub record Stored (n v : ℕ) (column before after : List ℕ) : Type 0 where
  pub size : length after ≡ length before
  pub here : (u : ℕ) → u < n → get_or after (u * n + v) 0 ≡ get_or column u 0
  pub others : (u w : ℕ) → u < n → w < n → (w ≡ v → ⊥) → get_or after (u * n + w) 0 ≡ get_or before (u * n + w) 0
  pub rest : Untouched (n * n) before after

-- words written at the start of a slice of words; later words are untouched
abbrev pub over : List ℕ → List ℕ → List ℕ
over words l = words ++ drop (length words) l

-- column v is stored in the words that are written at the start of b
pub record StoredIn {U : Type 0} (written : List ℕ → List U → List U) (n v : ℕ) (column words : List ℕ) (b after : List U) : Type 0 where
  pub words' : List ℕ
  pub stored : Stored n v column words words'
  pub there : after ≡ written words' b

-- how a check ends, over the words that stand in a slice: the number, and the slice at entry and at exit
pub record CheckedIn {U : Type 0} (held : List U → List ℕ) (written : List ℕ → List U → List U) (laid : ℕ) (m : Map) (before : List U) (number : ℕ) (after : List U) : Type 0 where
  pub words : List ℕ
  pub checked : CheckedOn laid m (held before) number words
  pub there : after ≡ written words before

-- the mark of a block that some pair uses
abbrev pub used : ℕ
used = 1

-- each of the first n blocks is marked
abbrev pub all_used : ℕ → List ℕ → Bool
all_used n l = every n (λ b. eqb (get_or l b 0) used)

abbrev pub marked_by : List ℕ → Option ℕ → List ℕ
marked_by l none = l
marked_by l (some b) = set l b used

-- the marks once the pair u, v has marked its block
unfoldable pub marked : Map → ℕ → ℕ → List ℕ → List ℕ
unfolding block_of
marked m u v l = elim (eqb u v) [ true ↦ l | false ↦ marked_by l (block_of m u v) ]

-- the marks once the pairs of v with the first k places have marked theirs
unfoldable pub marked_below : Map → ℕ → ℕ → List ℕ → List ℕ
unfolding marked
marked_below m v zero l = l
marked_below m v (suc u) l = marked m u v (marked_below m v u l)
