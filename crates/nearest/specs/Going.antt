-- What a step of the code and a whole walk come to, beside the definitions' step and run.
use Rattle.std.specs.Prelude.{ℕ, ◌+◌, ◌*◌, ◌≤◌, ◌<◌, ◌≡◌, true, List, ◌++◌, length, get_or, set, drop, Option, Some, None, Result, Ok, Err}
use Rattle.std.proofs.Math.Option.{some}
use Rattle.paper.specs.Sizes.{line_words}
use Rattle.paper.specs.Served.{Served, refused, served}
use Rattle.paper.specs.Refusal.{number_of}
use Rattle.paper.specs.declared.Trail as code
use Rattle.paper.specs.declared.refusal.Refusal.{Refusal}
use Rattle.paper.specs.Map.{Map}
use Rattle.paper.specs.Quest.{Quest}
use Rattle.paper.specs.Trail.{Trail, start}
use Rattle.paper.specs.Listing.{Slot, Line, State, at, leader, clear, retired, refined, listed, walked_on, step, starts}
use Rattle.paper.specs.Reply.{line_out, lines_out}
use Rattle.paper.specs.Bounds.{Sane}
pub use Rattle.sheet.specs.Charts.{SomeMap}
use Rattle.nearest.specs.Working.{tree_at, key, Stored, Shown, Beyond}
use Rattle.quadtree.specs.Walks.{trail_of}
use Rattle.nearest.specs.declared.tree.Lead.{Lead}

-- line r of the answer slice becomes l
pub record Wrote (r : ℕ) (l : Line) (a a' : List ℕ) : Type 0 where
  pub long : length a' ≡ length a
  pub words : (j : ℕ) → j < line_words → get_or a' (line_words * r + j) 0 ≡ get_or (line_out l) j 0
  pub before : (k : ℕ) → k < line_words * r → get_or a' k 0 ≡ get_or a k 0
  pub after : (k : ℕ) → line_words * r + line_words ≤ k → get_or a' k 0 ≡ get_or a k 0

-- office i of the quest x has its first interval
pub record StartedNow (m : Map) (x : Quest) (i : ℕ) (w w' : List ℕ) : Type 0 where
  pub trail : Trail
  pub begun : start m (x.from i) (x.to i) ≡ served trail
  pub sane : Sane m.places trail
  pub side : List ℕ
  pub stored : Stored i trail w side
  pub written : w' ≡ set side (tree_at x.count + (x.count + i)) (key trail.low i)

abbrev pub OneStarted : Map → Quest → ℕ → List ℕ → List ℕ → Result (Unit {0}) Refusal → Type 0
OneStarted m x i w w' (Ok u) = StartedNow m x i w w'
OneStarted m x i w w' (Err r) = start m (x.from i) (x.to i) ≡ refused (number_of r)

-- each of n offices waits, with no stage walked
pub record Fresh (n : ℕ) (ss : List Slot) : Type 0 where
  pub waits : (i : ℕ) → i < n → (at ss i).waits ≡ true
  pub none : (i : ℕ) → i < n → (at ss i).trail.stages ≡ 0

-- every office has its first interval, and none is listed yet
pub record Begun (places n : ℕ) (w : List ℕ) : Type 0 where
  pub slots : List Slot
  pub shown : Shown places n w slots
  pub fresh : Fresh n slots

pub record StartedAll (m : Map) (x : Quest) (w : List ℕ) : Type 0 where
  pub begun : Begun m.places x.count w
  pub starts : starts m x x.count ≡ served begun.slots

abbrev pub AllStarted : Map → Quest → List ℕ → Result (Unit {0}) Refusal → Type 0
AllStarted m x w (Ok u) = StartedAll m x w
AllStarted m x w (Err r) = starts m x x.count ≡ refused (number_of r)

-- some office waits
pub record Waiting (places n : ℕ) (w : List ℕ) : Type 0 where
  pub slots : List Slot
  pub shown : Shown places n w slots
  pub number : ℕ
  pub here : number < n
  pub waits : (at slots number).waits ≡ true

-- the same, for some number of places
pub record SomeWaits (n : ℕ) (w : List ℕ) : Type 0 where
  pub places : ℕ
  pub waiting : Waiting places n w

-- the leader of ss is taken out: its number and trail, and whether nobody comes between its ends
pub record Led (places n : ℕ) (ss : List Slot) (w : List ℕ) (l : Lead) : Type 0 where
  pub here : l.number < n
  pub leads : leader ss n ≡ some l.number
  pub trail : (at ss l.number).trail ≡ trail_of l.trail
  pub sane : Sane places (trail_of l.trail)
  pub alone : l.clear ≡ clear ss l.number (leader (retired ss l.number) n)
  pub shown : Shown places n w (retired ss l.number)

-- office i was taken out of a tree of n, and t is to be put in its place
pub record OneOut (n i : ℕ) (w : List ℕ) (t : Trail) : Type 0 where
  pub places : ℕ
  pub slots : List Slot
  pub here : i < n
  pub shown : Shown places n w (retired slots i)
  pub sane : Sane places t

-- office i is listed with its trail
pub record ListedNow (m : Map) (x : Quest) (st : State) (w : List ℕ) (i : ℕ) (t : Trail) : Type 0 where
  pub stepped : step m x st ≡ served (listed m x st i)
  pub trail : (at st.slots i).trail ≡ t
  pub here : i < x.count
  pub shown : Shown m.places x.count w (retired st.slots i)

-- an office is refined
pub record WalkedNow (m : Map) (x : Quest) (st : State) (w : List ℕ) : Type 0 where
  pub number : ℕ
  pub trail : Trail
  pub stepped : step m x st ≡ served (walked_on st number trail)
  pub shown : Shown m.places x.count w (refined st.slots number trail)

-- the step from st, where the working slice at exit is w: some office is listed, with its trail, or none is and one is refined
abbrev pub Moved : Map → Quest → State → List ℕ → Option (ℕ × code.Trail) → Type 0
Moved m x st w (Some l) = ListedNow m x st w l.0 (trail_of l.1)
Moved m x st w None = WalkedNow m x st w

abbrev pub Stepped : Map → Quest → State → List ℕ → Result (Option (ℕ × code.Trail)) Refusal → Type 0
Stepped m x st w (Ok l) = Moved m x st w l
Stepped m x st w (Err r) = step m x st ≡ refused (number_of r)

-- the walk whose outcome by the definitions is r, for k offices; the answer slice at entry and at exit
abbrev pub Came : ℕ → Served State → List ℕ → List ℕ → Result ℕ Refusal → Type 0
Came k r answer answer' (Ok total) = (st : State) × (r ≡ served st) × (st.total ≡ total) × (answer' ≡ lines_out st.lines ++ drop (line_words * k) answer)
Came k r answer answer' (Err e) = (r ≡ refused (number_of e)) × Beyond (line_words * k) answer answer'
