-- The list of a walk, from words of its own to the host's bytes.
use Prim.Native.Nat.{ℕ, ◌*◌, ◌≤◌}
use native.Mathlib.Omega.{arith}
use mathlib.Core.Path.{◌≡◌, ap, ◌∙◌}
use mathlib.Core.List.{List}
use lib.ListN.{length, take, drop}
use lib.Seq.{take_at, drop_at, length-take-le}
use Rattle.std.specs.Prelude.{Result, Ok, Err}
use Rattle.paper.specs.Sizes.{line_words, long_bytes}
use Rattle.paper.specs.Served.{Served, served}
use Rattle.paper.specs.declared.refusal.Refusal.{Refusal}
use Rattle.paper.specs.Listing.{State}
use Rattle.paper.specs.Words.{as_bytes, written}
use Rattle.paper.specs.Reply.{lines_out}
use Rattle.paper.proofs.Cleared.{untouched_drop}
use Rattle.paper.proofs.Reply.{lines_size}
use Rattle.paper.proofs.Words.{as_bytes_size, written_size}
use Rattle.nearest.specs.Going.{Came}
use Rattle.catalogue.specs.Handed.{CameOut}

-- the first 5k words of the walk's own slice are in the answer
module _ (k : ℕ) (r : Served State) (own own' a a' : List ℕ) (long : line_words * k ≤ length own') (room : long_bytes * (line_words * k) ≤ length a)
    (whole : (st : State) → r ≡ served st → length st.lines ≡ k) (e : a' ≡ written long_bytes (take (line_words * k) own') a) where
  size : length (take (line_words * k) own') ≡ line_words * k
  size = length-take-le (line_words * k) own' long

  pub came_out : (x : Result ℕ Refusal) → Came k r own own' x → CameOut k r a a' x
  came_out (Ok total) (st, ended, made, text) =
      record { state = st; ended = ended; made = made; bytes = e ∙ ap (λ (l : List ℕ). written long_bytes l a) same }
    where
      lines : List ℕ
      lines = lines_out st.lines

      rest : List ℕ
      rest = drop (line_words * k) own

      same : take (line_words * k) own' ≡ lines
      same = ap (take (line_words * k)) text ∙ take_at lines rest (line_words * k) (omega (arith, lines_size st.lines, whole st ended))
  came_out (Err n) (ended, beyond) = (
    ended,
    record {
      long = ap length e ∙ written_size long_bytes (take (line_words * k) own') a (omega (arith, size));
      rest = untouched_drop (long_bytes * (line_words * k)) a a' (ap (drop (long_bytes * (line_words * k))) e ∙ past);
    },
  )
    where
      past : drop (long_bytes * (line_words * k)) (written long_bytes (take (line_words * k) own') a) ≡ drop (long_bytes * (line_words * k)) a
      past = drop_at (as_bytes long_bytes (take (line_words * k) own')) _ (long_bytes * (line_words * k)) (omega (arith, as_bytes_size long_bytes (take (line_words * k) own'), size)) ∙ ap (λ (n : ℕ). drop (long_bytes * n) a) size
