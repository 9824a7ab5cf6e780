-- The check's table in the host's bytes: the words that stand there, and how a check ends.
use Prim.Native.Nat.{ℕ, ◌*◌, ◌/◌, ◌<◌}
use native.Mathlib.Omega.{arith}
use mathlib.Core.Path.{◌≡◌, sym}
use mathlib.Core.List.{List}
use lib.ListN.{length}
use Rattle.paper.specs.declared.Counts.{Counts}
use Rattle.paper.specs.Sizes.{word_bytes}
use Rattle.paper.specs.Served.{served, refused}
use Rattle.paper.specs.Sheet.{map_of}
use Rattle.paper.specs.Layout.{Bytes}
use Rattle.paper.specs.Words.{words_held, written}
use Rattle.paper.specs.Host.{HostCheckedOn, HostChecked}
use Rattle.paper.proofs.Words.{words_size, written_same}
use Rattle.sheet.specs.Ground.{Mapped}
use Rattle.sheet.specs.Laid.{laid_of}
use Rattle.truth.specs.Table.{CheckedIn}
use Rattle.truth.proofs.Surveyed.{laid_checked, laid_refused, short_end}

-- as many words stand in bytes as they have room for
pub held : (b : List ℕ) → length (words_held b) ≡ length b / word_bytes
held b = words_size word_bytes (length b / word_bytes) b

-- bytes as they are
pub unwritten : (b : List ℕ) → Bytes b → b ≡ written word_bytes (words_held b) b
unwritten b B = sym (written_same word_bytes (length b / word_bytes) b B (omega arith))

-- a slice that is too short
pub short_in : (g before : List ℕ) (c : Counts) → Mapped g c → Bytes before → length before < word_bytes * (c.places * c.places) → HostCheckedOn 0 (map_of g) before 10 before
short_in g before c M B p =
    let C : CheckedIn words_held (written word_bytes) 0 (map_of g) before 10 before = short_end words_held (written word_bytes) g before c M (omega (arith, held before)) (unwritten before B) in
    record { words = C.words; checked = C.checked; bytes = C.there }

-- what the layout comes to: a check of the map, or a refusal
module _ (s before : List ℕ) where
  pub laid_in : (c : Counts) (r : ℕ) (after : List ℕ) → served c ≡ laid_of s → CheckedIn words_held (written word_bytes) 0 (map_of s) before r after → HostChecked s before r after
  laid_in c r after e C = record { words = C.words; checked = laid_checked s (words_held before) c r C.words e C.checked; bytes = C.there }

  pub refused_in : (r : ℕ) → Bytes before → refused r ≡ laid_of s → HostChecked s before r before
  refused_in r B e = record { words = words_held before; checked = laid_refused s (words_held before) r e; bytes = unwritten before B }
