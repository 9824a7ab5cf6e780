-- How large the numbers of a walk grow, on a map that keeps the layout rules (document 02, item 8).
use Rattle.std.specs.Prelude.{ℕ, ◌+◌, ◌*◌, ◌^◌, ◌≤◌, ◌<◌, ◌≡◌, length, get_or}
use Rattle.std.proofs.Math.Option.{some}
use Rattle.paper.specs.Sizes.{line_words, most_furlongs, end_below, road_most, sum_most}
use Rattle.paper.specs.Served.{served}
use Rattle.paper.specs.Map.{Map}
use Rattle.paper.specs.Stage.{stage_of}
use Rattle.paper.specs.Block.{block_of}
use Rattle.paper.specs.Quest.{Quest}
use Rattle.paper.specs.Trail.{Ends, between, Trail, start, refine}
use Rattle.paper.specs.Listing.{Line, State, at, line_at}
use Rattle.paper.specs.Reply.{Reply}

-- both ends that a block gives, before the walked length is added
pub record Bounded (e : Ends) : Type 0 where
  pub low : e.low < end_below
  pub high : e.high < end_below

-- a trail that a walk from u to v comes to: the first, and each that is refined from one of them
pub data Met (m : Map) (u v : ℕ) : Trail → Type 0 where
  first : {t : Trail} → start m u v ≡ served t → Met m u v t
  next : {t t' : Trail} → Met m u v t → refine m v t ≡ served t' → Met m u v t'

-- a trail at one of n places: fewer stages behind it than that, none longer than a stage can be; the ends that are kept in order, and below the bound
pub record Sane (n : ℕ) (t : Trail) : Type 0 where
  pub via : t.via < n
  pub stages : t.stages < n
  pub walked : t.walked ≤ t.stages * most_furlongs
  pub ordered : t.low ≤ t.high
  pub high : t.high < end_below

-- what a refinement adds up: w, walked with its stage, and the ends e beyond that
pub record Summed (w : ℕ) (e : Ends) : Type 0 where
  pub walked : w ≤ road_most
  pub low : w + e.low ≤ sum_most
  pub high : w + e.high ≤ sum_most

-- of a walk from u to v: the ends between them; its trails, and as one number the length that each has walked; and what a refinement adds up, where neither
-- 16 nor 17 is due for it
pub record WalkWithin (m : Map) (u v : ℕ) : Type 0 where
  pub ends : (e : Ends) → between m u v ≡ served e → Bounded e
  pub trails : (t : Trail) → Met m u v t → Sane m.places t
  pub walked : (t : Trail) → Met m u v t → t.walked ≤ road_most
  pub sums : (t : Trail) → Met m u v t → t.stages + 1 < m.places → (b : ℕ) → block_of m t.via v ≡ some b
      → let i : ℕ = stage_of m t.via (m.colour b) in (e : Ends) → between m (m.head i) v ≡ served e → Summed (t.walked + m.furlongs i) e

-- a line of a list of the quest x
pub record LineWithin (m : Map) (x : Quest) (l : Line) : Type 0 where
  pub office : l.number < x.count
  pub ordered : l.low ≤ l.high
  pub high : l.high < end_below
  pub stages : l.stages < m.places
  pub gazetteer : l.gazetteer < 2 ^ 32

-- a listing of the quest x: every trail is one that a walk comes to, and every line and the total are within their bounds
pub record ListedWithin (m : Map) (x : Quest) (st : State) : Type 0 where
  pub trails : (i : ℕ) → i < x.count → Met m (x.from i) (x.to i) (at st.slots i).trail
  pub lines : (a : ℕ) → a < length st.lines → LineWithin m x (line_at st.lines a)
  pub total : st.total ≤ x.count * m.places

-- every word that a question writes for k lines, and both counts; the working words that it writes are 0
pub record WordsBelow (k : ℕ) (r : Reply) : Type 0 where
  pub answer : (i : ℕ) → i < line_words * k → get_or r.answer i 0 < end_below
  pub count : r.count < end_below
  pub refinements : r.refinements < end_below
