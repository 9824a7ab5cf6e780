-- Words in slices of bytes, low byte first.
use Rattle.std.specs.Prelude.{ℕ, zero, suc, ◌+◌, ◌*◌, ◌/◌, ◌%◌, ◌^◌, ◌<◌, List, [], ◌∷◌, ◌++◌, length, get_or, drop}
use Rattle.paper.specs.Sizes.{word_bytes, long_bytes}

-- the w bytes of a number
unfoldable pub bytes_of : ℕ → ℕ → List ℕ
bytes_of zero x = []
bytes_of (suc w) x = x % 256 ∷ bytes_of w (x / 256)

-- the number that the first w bytes make
unfoldable pub number_in : ℕ → List ℕ → ℕ
number_in zero b = 0
number_in (suc w) b = get_or b 0 0 + 256 * number_in w (drop 1 b)

-- the first n words, of w bytes each
unfoldable pub words_of : ℕ → ℕ → List ℕ → List ℕ
unfolding number_in
words_of w zero b = []
words_of w (suc n) b = number_in w b ∷ words_of w n (drop w b)

-- all the words of 32 bits that stand whole in a slice, and all those of 64 bits
abbrev pub words_held : List ℕ → List ℕ
words_held b = words_of word_bytes (length b / word_bytes) b

abbrev pub longs_held : List ℕ → List ℕ
longs_held b = words_of long_bytes (length b / long_bytes) b

-- the bytes of words, one word after the other
unfoldable pub as_bytes : ℕ → List ℕ → List ℕ
unfolding bytes_of
as_bytes w [] = []
as_bytes w (x ∷ xs) = bytes_of w x ++ as_bytes w xs

-- the slice b once these words are written at its start; later bytes are untouched
abbrev pub written : ℕ → List ℕ → List ℕ → List ℕ
written w words b = as_bytes w words ++ drop (w * length words) b

-- every word has room in w bytes
abbrev pub Fit : ℕ → List ℕ → Type 0
Fit w words = (i : ℕ) → i < length words → get_or words i 0 < 256 ^ w
