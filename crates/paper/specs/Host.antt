-- What the catalogue, a program in C, lends and gets back: the outcomes of document 01, over the words that stand in its bytes.
use Rattle.std.specs.Prelude.{ℕ, ◌≡◌, Bool, true, false, List, [], ◌∷◌, leb, length, drop}
use Rattle.paper.specs.Sizes.{word_bytes, long_bytes, counts_bytes}
use Rattle.paper.specs.Test.{due, or_else}
use Rattle.paper.specs.Map.{Map, Offices}
use Rattle.paper.specs.Quest.{directed}
use Rattle.paper.specs.Sheet.{map_of, offices_of}
use Rattle.paper.specs.Layout.{layout}
use Rattle.paper.specs.Verdict.{CheckedOn}
use Rattle.paper.specs.Reply.{Reply, invalid, reply_by}
use Rattle.paper.specs.Words.{number_in, words_held, longs_held, written}

-- how a check ends: its number, and the bytes that it was lent, at entry and at exit
pub record HostCheckedOn (laid : ℕ) (m : Map) (before : List ℕ) (number : ℕ) (after : List ℕ) : Type 0 where
  pub words : List ℕ
  pub checked : CheckedOn laid m (words_held before) number words
  pub bytes : after ≡ written word_bytes words before

-- what a question returns, and leaves in the slices
pub record HostReply : Type 0 where
  pub number : ℕ
  pub answer : List ℕ
  pub working : List ℕ
  pub counts : List ℕ

-- the slice of counts: how many are listed and how many refinements were made, where both have room; else untouched
abbrev pub counted_by : ℕ → ℕ → List ℕ → Bool → List ℕ
counted_by listed refinements b true = written long_bytes (listed ∷ refinements ∷ []) b
counted_by listed refinements b false = b

unfoldable pub counted : ℕ → ℕ → List ℕ → List ℕ
counted listed refinements b = counted_by listed refinements b (leb counts_bytes (length b))

-- a reply as bytes
abbrev pub in_bytes : List ℕ → List ℕ → List ℕ → Reply → HostReply
in_bytes answer working counts r = record {
  number = r.number;
  answer = written long_bytes r.answer answer;
  working = written long_bytes r.working working;
  counts = counted r.count r.refinements counts;
}

-- 0, or the first of 7, 8 and 9 that is due; 9 also where the counts have no room
unfoldable pub host_invalid : Map → Offices → ℕ → ℕ → ℕ → List ℕ → List ℕ → List ℕ → ℕ
unfolding invalid
host_invalid m o q k d answer working counts = or_else (invalid m o q k d (longs_held answer) (longs_held working)) (due (leb counts_bytes (length counts)) 9)

-- the reply to the question q, k in the direction d over the number that the layout gives, the map and the offices, with the slices as they were lent
unfoldable pub host_reply_on : ℕ → Map → Offices → ℕ → ℕ → ℕ → List ℕ → List ℕ → List ℕ → HostReply
unfolding host_invalid counted
host_reply_on laid m o q k d answer working counts =
    in_bytes answer working counts (reply_by m (directed o q d) k (longs_held answer) (longs_held working) (or_else laid (host_invalid m o q k d answer working counts)))

-- a question is valid when none of 7, 8 and 9 is due
abbrev pub HostValidOn : Map → Offices → ℕ → ℕ → ℕ → List ℕ → List ℕ → List ℕ → Type 0
HostValidOn m o q k d answer working counts = host_invalid m o q k d answer working counts ≡ 0

-- the reply that a host reads in its slices
abbrev pub read_back : HostReply → Reply
read_back h = record {
  number = h.number;
  count = number_in long_bytes h.counts;
  refinements = number_in long_bytes (drop long_bytes h.counts);
  answer = longs_held h.answer;
  working = longs_held h.working;
}

-- the same of an ordinary sheet
abbrev pub HostChecked : List ℕ → List ℕ → ℕ → List ℕ → Type 0
HostChecked s before = HostCheckedOn (layout s) (map_of s) before

unfoldable pub host_reply : List ℕ → ℕ → ℕ → ℕ → List ℕ → List ℕ → List ℕ → HostReply
unfolding host_reply_on layout map_of offices_of
host_reply s q k d answer working counts = host_reply_on (layout s) (map_of s) (offices_of s) q k d answer working counts

abbrev pub HostValid : List ℕ → ℕ → ℕ → ℕ → List ℕ → List ℕ → List ℕ → Type 0
HostValid s = HostValidOn (map_of s) (offices_of s)
