-- A column stored in the host's bytes, word by word, by the words that stand there.
use Prim.Native.Nat.{ℕ, ◌+◌, ◌*◌, ◌≤◌, ◌<◌}
use native.Mathlib.Omega.{arith}
use mathlib.Core.Path.{◌≡◌}
use mathlib.Core.List.{List}
use lib.ListN.{length, get_or, set}
use Rattle.paper.specs.Sizes.{word_bytes}
use Rattle.paper.specs.Words.{bytes_of, written}
use Rattle.text.specs.Put.{Put}
use Rattle.truth.proofs.Area.{Storing, storing_none, storing_more, storing_all, in_area}
use Rattle.truth.specs.Table.{StoredIn}
use Rattle.catalogue.proofs.Puts.{set_at}

-- the first k words of column v are stored in the words that stand at the start of b
pub record StoringIn (n v k : ℕ) (column words b after : List ℕ) : Type 0 where
  pub words' : List ℕ
  pub storing : Storing n v k column words words'
  pub bytes : after ≡ written word_bytes words' b

pub storing_in_none : (n v : ℕ) (column words b after : List ℕ) → after ≡ written word_bytes words b → StoringIn n v 0 column words b after
storing_in_none n v column words b after e = record { words' = words; storing = storing_none n v column words; bytes = e }

pub storing_in_more : {n v k : ℕ} {column words b u : List ℕ} (after : List ℕ) → v < n → k < n → n * n ≤ length words → StoringIn n v k column words b u
    → Put (word_bytes * (k * n + v)) (bytes_of word_bytes (get_or column k 0)) u after → StoringIn n v (k + 1) column words b after
storing_in_more {n} {v} {k} {column} {words} {b} {u} after p q room S P = record {
  words' = set S.words' (k * n + v) (get_or column k 0);
  storing = storing_more n v k column words S.words' p q (omega (arith, S.storing.size)) S.storing;
  bytes = set_at word_bytes (k * n + v) (get_or column k 0) S.words' b u after (omega (arith, in_area n k v q p, S.storing.size)) S.bytes P;
}

pub storing_in_all : {n v k : ℕ} {column words b after : List ℕ} → n ≤ k → StoringIn n v k column words b after → StoredIn (written word_bytes) n v column words b after
storing_in_all h S = record { words' = S.words'; stored = storing_all _ _ _ _ _ _ h S.storing; there = S.bytes }
