-- The paper's sheet is accepted: what the theorems ask of a sheet can be had.
use Prim.Native.Nat.{ℕ, ◌+◌, ◌*◌, ◌≤◌}
use native.Mathlib.Omega.{arith}
use mathlib.Core.Path.{◌≡◌, refl}
use mathlib.Core.Bool.{true}
use mathlib.Core.List.{List, [], ◌∷◌, ◌++◌}
use lib.Dec.{leb}
use lib.ListN.{length, drop, replicate, length-append, length-drop, get_or-append}
use borrow.Author.Tests.{le-leb}
use Rattle.paper.specs.Sizes.{long_bytes, outwardly, inwardly}
use Rattle.paper.specs.Test.{both}
use Rattle.paper.specs.Quest.{is_direction}
use Rattle.paper.specs.Sheet.{map_of, offices_of, word}
use Rattle.paper.proofs.LaidOut.{LaidOut}
use Rattle.paper.specs.Verdict.{Tabled, Distances, Checked, judged, Accepted}
use Rattle.paper.specs.Reply.{invalid, lines_out, reply, Answered}
use Rattle.paper.specs.Listing.{listing}
use Rattle.paper.specs.Words.{words_of, as_bytes}
use Rattle.paper.specs.Host.{HostReply, host_invalid, host_reply, HostValid}
use Rattle.paper.specs.Marked.{sheet, map}
use Rattle.paper.proofs.Test.{both_true, due_zero}
use Rattle.paper.proofs.Laid.{laid_out}
use Rattle.paper.proofs.Cleared.{untouched_drop}
use Rattle.paper.proofs.Marked.{sheet-bytes, sheet_laid, roads, table, table_verdict}
use Rattle.paper.proofs.Verdict.{verdict-truth}
use Rattle.paper.proofs.Table.{settled, table_distances}
use Rattle.paper.proofs.Reply.{reply_answered}

pub laid : LaidOut map
laid = laid_out sheet sheet-bytes sheet_laid

table_settled : settled map table ≡ true
unfolding settled map_of sheet word
table_settled = refl

pub distances : Distances map table
distances = table_distances laid table table_settled table_verdict

pub accepted : Accepted sheet
accepted = record { laid = sheet_laid; truth = verdict-truth laid table distances table_verdict }

-- the check accepts it, whatever slice it is lent
pub sheet_checked : (before : List ℕ) → 16 ≤ length before → Checked sheet before 0 (roads ++ drop 16 before)
unfolding map_of sheet word
sheet_checked before h = rw table_verdict at (judged table sheet_laid h distances tabled)
  where
    tabled : Tabled 4 table before (roads ++ drop 16 before)
    tabled = record {
      size = omega (arith, length-append roads (drop 16 before), length-drop 16 before);
      words = λ u v hu hv. let e : u * 4 + v ≡ 4 * u + v = omega arith in rw e (get_or-append roads (drop 16 before) 0 (4 * u + v) (omega arith));
      rest = untouched_drop 16 before (roads ++ drop 16 before) refl;
    }

-- a question on it is answered in either direction, whatever slices it is lent
pub sheet_answered : (d : ℕ) → is_direction d ≡ true → (answer working : List ℕ) → 10 ≤ length answer → 18 ≤ length working
    → Answered sheet 2 2 d answer (reply sheet 2 2 d answer working)
unfolding map_of offices_of sheet word invalid
sheet_answered d e answer working h g =
    reply_answered sheet 2 2 d answer working sheet-bytes accepted
    (rw e (due_zero (both (leb 10 (length answer)) (leb 18 (length working))) 9 (both_true (leb 10 (length answer)) (leb 18 (length working)) (le-leb _ _ h) (le-leb _ _ g))))

-- the same question through C, outward and inward, with slices that are just long enough: it is valid, and this stands in the answer and in the counts
abbrev host_marked : ℕ → HostReply
host_marked d = host_reply sheet 2 2 d (replicate 80 0) (replicate 144 0) (replicate 16 0)

pub host_marked_valid : HostValid sheet 2 2 outwardly (replicate 80 0) (replicate 144 0) (replicate 16 0)
unfolding host_invalid invalid map_of offices_of sheet word words_of
host_marked_valid = refl

pub host_marked_lem : ((host_marked outwardly).number ≡ 0)
    × ((host_marked outwardly).answer ≡ as_bytes long_bytes (2 ∷ 5 ∷ 5 ∷ 1 ∷ 102 ∷ 0 ∷ 11 ∷ 11 ∷ 2 ∷ 101 ∷ []))
    × ((host_marked outwardly).counts ≡ as_bytes long_bytes (2 ∷ 5 ∷ []))
unfolding host_reply sheet word words_of as_bytes listing lines_out
host_marked_lem = (refl, refl, refl)

pub host_inward_valid : HostValid sheet 2 2 inwardly (replicate 80 0) (replicate 144 0) (replicate 16 0)
unfolding host_invalid invalid map_of offices_of sheet word words_of
host_inward_valid = refl

pub host_inward : ((host_marked inwardly).number ≡ 0)
    × ((host_marked inwardly).answer ≡ as_bytes long_bytes (2 ∷ 5 ∷ 5 ∷ 0 ∷ 102 ∷ 0 ∷ 11 ∷ 11 ∷ 0 ∷ 101 ∷ []))
    × ((host_marked inwardly).counts ≡ as_bytes long_bytes (2 ∷ 0 ∷ []))
unfolding host_reply sheet word words_of as_bytes listing lines_out
host_inward = (refl, refl, refl)
