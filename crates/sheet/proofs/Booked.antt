-- The road book while it is filled, and that where the stages of a place begin is what the paper says.
use Prim.Native.Nat.{ℕ, ◌+◌, ◌-◌, ◌*◌, ◌≤◌, ◌<◌}
use native.Mathlib.Omega.{arith}
use native.Mathlib.Decide.{dec_lt}
use mathlib.Core.Path.{◌≡◌, refl, ◌∙◌}
use mathlib.Core.Bool.{true}
use mathlib.Core.List.{List, ◌++◌}
use lib.ListN.{length, get_or, drop, replicate, length-append, length-replicate, length-drop}
use Rattle.std.proofs.Math.ListN.{get_or-append}
use Rattle.std.proofs.lemmas.List.{get_or-drop}
use Rattle.paper.specs.declared.Counts.{Counts}
use Rattle.paper.specs.Map.{Map}
use Rattle.paper.specs.Stage.{stages_below, stage_of}
use Rattle.paper.specs.Sheet.{word, stages_at, map_of}
use Rattle.paper.specs.Sizes.{stage_words, most_places, most_stages}
use Rattle.paper.specs.Layout.{stages_hold}
use Rattle.paper.proofs.Laid.{stages_ok}
use Rattle.paper.proofs.Stages.{Parts, begins}
use Rattle.sheet.specs.Book.{Holds, Leads, Book, Begins, Ascending, Roomy}
use Rattle.sheet.specs.Laid.{Within}

-- what parts the tails from i on parts them all, where those before i are below u
module _ (tails : List ℕ) (u i : ℕ) (upto : i ≤ length tails) (below : (k : ℕ) → k < i → get_or tails k 0 < u) where
  at : (k : ℕ) → i ≤ k → get_or (drop i tails) (k - i) 0 ≡ get_or tails k 0
  at k p = let e : i + (k - i) ≡ k = omega arith in get_or-drop i tails (k - i) 0 ∙ rw e refl

  pub begins_on : (b : ℕ) → Begins (drop i tails) (length (drop i tails)) u b → Begins tails (length tails) u (i + b)
  begins_on b B = record {
    most = omega (arith, upto, B.most, length-drop i tails);
    low = λ k p. elim (dec_lt k i) [ yes q ↦ below k q | no q ↦ omega (arith, B.low (k - i) (omega arith), at k (omega arith)) ];
    high = λ k p q. omega (arith, B.high (k - i) (omega arith) (omega (arith, length-drop i tails)), at k (omega arith));
  }

-- what parts the tails of a map is where the stages begin
module _ (m : Map) (sorted : (i j : ℕ) → i < j → j < m.stages → m.tail i ≤ m.tail j) (tails : List ℕ) (same : (i : ℕ) → i < m.stages → get_or tails i 0 ≡ m.tail i) where
  pub ascending : Ascending tails m.stages
  ascending i j p q = omega (arith, sorted i j p q, same i (omega arith), same j q)

  pub begins_is : (u b : ℕ) → Begins tails m.stages u b → b ≡ stages_below m u m.stages
  begins_is u b B = go (dec_lt b a) (dec_lt a b)
    where
      a : ℕ
      a = stages_below m u m.stages

      P : Parts m sorted u m.stages a
      P = begins m sorted u

      go : Dec (b < a) → Dec (a < b) → b ≡ a
      go (yes p) _ = absurd (omega (arith, P.most, P.low b p, B.high b (omega arith) (omega (arith, P.most)), same b (omega (arith, P.most))))
      go (no p) (yes q) = absurd (omega (arith, B.most, B.low a q, P.high a (omega arith) (omega (arith, B.most)), same a (omega (arith, B.most))))
      go (no p) (no q) = omega arith

-- slices that hold a book hold it with words after
module _ {n : ℕ} {f : ℕ → ℕ} {l : List ℕ} (more : List ℕ) (H : Holds n f l) where
  holds_on : Holds n f (l ++ more)
  holds_on = record { long = omega (arith, H.long, length-append l more); each = λ i p. get_or-append l more 0 i (omega (arith, H.long)) ∙ H.each i p }

-- the book of a map that is read off the bytes, whose first tail stands at word a
module _ (s : List ℕ) (hold : stages_hold (map_of s) ≡ true) (a : ℕ) (here : a ≡ stages_at s + 1) where
  abbrev m : Map
  m = map_of s

  -- the words of a column, the first at word b
  abbrev Column : ℕ → List ℕ → Type 0
  Column b l = (i : ℕ) → i < length l → get_or l i 0 ≡ word s (b + stage_words * i)

  module _ (tails : List ℕ) (t : length tails ≡ m.stages) (T : Column a tails) where
    same : (i : ℕ) → i < m.stages → get_or tails i 0 ≡ m.tail i
    unfolding map_of
    same i p = let e : stages_at s + 1 + stage_words * i ≡ a + stage_words * i = omega arith in rw e (T i (omega arith))

    sorted : (i j : ℕ) → i < j → j < m.stages → m.tail i ≤ m.tail j
    sorted i j p q = ((stages_ok m hold).sorted i j p q).le

    pub tails-ascend : Ascending tails (length tails)
    tails-ascend = rw t (ascending m sorted tails same)

    pub book-of : (first heads lengths first' tails' heads' lengths' : List ℕ) → length first ≡ m.places → length heads ≡ m.stages → length lengths ≡ m.stages
        → ((u : ℕ) → u < length first → Begins tails (length tails) u (get_or first u 0)) → Column (a + 1) heads → Column (a + 2) lengths
        → Book m (first ++ first') (tails ++ tails') (heads ++ heads') (lengths ++ lengths')
    unfolding map_of
    book-of first heads lengths first' tails' heads' lengths' f h l B H L = record {
      leads = record {
        begins = holds_on first' (record { long = omega arith; each = λ u q. begins_is m sorted tails same u (get_or first u 0) (rw t at (B u (omega arith))) });
        to = holds_on heads' (record { long = omega arith; each = λ i q. let e : stages_at s + 2 + stage_words * i ≡ a + 1 + stage_words * i = omega arith in rw e (H i (omega arith)) });
        long = holds_on lengths' (record { long = omega arith; each = λ i q. let e : stages_at s + 3 + stage_words * i ≡ a + 2 + stage_words * i = omega arith in rw e (L i (omega arith)) });
      };
      from = holds_on tails' (record { long = omega arith; each = same });
    }

-- the stage of u's colour c, by the book
pub stage_at : (m : Map) (first heads lengths : List ℕ) → Leads m first heads lengths → (u c : ℕ) → u < m.places → stage_of m u c ≡ get_or first u 0 + c
unfolding stage_of
stage_at m first heads lengths L u c p = rw (L.begins.each u p)

-- arrays of zeros, one for the places and one for the stages, have room for the book of any sheet
pub zeros_roomy : (c : Counts) → Within c → let places : List ℕ = replicate most_places 0 in let stages : List ℕ = replicate most_stages 0 in
    (Roomy c places stages stages stages) × (c.places ≤ length places) × (c.stages ≤ length stages)
zeros_roomy c W =
    let p : c.places ≤ length {A = ℕ} (replicate most_places 0) = omega (arith, W.places, length-replicate {A = ℕ} most_places 0) in
    let q : c.stages ≤ length {A = ℕ} (replicate most_stages 0) = omega (arith, W.stages, length-replicate {A = ℕ} most_stages 0) in
    (record { places = p; tail = q; head = q; furlongs = q }, p, q)
