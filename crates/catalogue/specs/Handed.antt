-- What the code hands back to the host, and how a walk and a column leave the host's bytes.
use Rattle.std.specs.Prelude.{ℕ, ◌*◌, ◌≡◌, List, length, Result, Ok, Err}
use Rattle.paper.specs.Sizes.{line_words, long_bytes}
use Rattle.paper.specs.Served.{Served, refused, served}
use Rattle.paper.specs.Refusal.{number_of}
use Rattle.paper.specs.declared.Listed.{Listed}
use Rattle.paper.specs.declared.refusal.Refusal.{Refusal}
use Rattle.paper.specs.Listing.{State}
use Rattle.paper.specs.Slice.{Untouched}
use Rattle.paper.specs.Words.{written}
use Rattle.paper.specs.Reply.{lines_out}
use Rattle.paper.specs.Host.{HostReply, counted}

-- the number, with the three slices at exit
abbrev pub handed : ℕ → List ℕ → List ℕ → List ℕ → HostReply
handed number answer working counts = record { number = number; answer = answer; working = working; counts = counts }

-- what the code gives, with the two slices at exit; what it gives is yet to be written to the counts, which are as they were lent
abbrev pub replied : Result Listed Refusal → List ℕ → List ℕ → List ℕ → HostReply
replied (Ok l) answer working counts = handed 0 answer working (counted l.count l.refinements counts)
replied (Err r) answer working counts = handed (number_of r) answer working (counted 0 0 counts)

-- the list of a walk, as it stands in the answer
pub record ListedIn (r : Served State) (answer answer' : List ℕ) (total : ℕ) : Type 0 where
  pub state : State
  pub ended : r ≡ served state
  pub made : state.total ≡ total
  pub bytes : answer' ≡ written long_bytes (lines_out state.lines) answer

-- bytes beyond those of k lines are as they were
pub record Past (k : ℕ) (answer answer' : List ℕ) : Type 0 where
  pub long : length answer' ≡ length answer
  pub rest : Untouched (long_bytes * (line_words * k)) answer answer'

-- the walk whose outcome by the definitions is r, for k offices; the answer slice at entry and at exit
abbrev pub CameOut : ℕ → Served State → List ℕ → List ℕ → Result ℕ Refusal → Type 0
CameOut k r answer answer' (Ok total) = ListedIn r answer answer' total
CameOut k r answer answer' (Err n) = (r ≡ refused (number_of n)) × Past k answer answer'
