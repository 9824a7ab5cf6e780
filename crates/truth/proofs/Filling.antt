-- The loop that fills a table a column at a time, whoever keeps the table: what holds at its head, what a column needs and adds, and how it ends.
use Prim.Native.Nat.{ℕ, ◌+◌, ◌*◌, ◌≤◌, ◌<◌}
use native.Mathlib.Omega.{arith}
use native.Mathlib.Nat.{mul-le-mul}
use mathlib.Core.Path.{◌≡◌, refl, sym, ap, ◌∙◌}
use mathlib.Core.Logic.{inl, inr, ⊎_elim}
use mathlib.Core.List.{List}
use lib.ListN.{length, replicate, length-replicate}
use Rattle.std.specs.Prelude.{Option, Some, None, IfSome}
use Rattle.std.specs.Option.{option_or}
use Rattle.paper.specs.Sizes.{most_places, most_blocks}
use Rattle.paper.specs.Map.{Map}
use Rattle.paper.specs.Sheet.{map_of}
use Rattle.paper.specs.Road.{Road}
use Rattle.paper.specs.Slice.{cleared}
use Rattle.paper.specs.Verdict.{CheckedOn}
use Rattle.paper.proofs.Laid.{lawful_laid}
use Rattle.paper.proofs.Numbers.{number_some}
use Rattle.paper.proofs.Cleared.{zeros}
use Rattle.quadtree.proofs.Words.{standing}
use Rattle.truth.specs.declared.pairs.Fault as code
use Rattle.truth.specs.declared.known.Survey.{Survey}
use Rattle.paper.specs.declared.refusal.Refusal.{Refusal}
use Rattle.truth.specs.Table.{Stored}
use Rattle.truth.specs.Faults.{Fault, Looked, none_below, found_below, number_of_check}
use Rattle.truth.specs.Roads.{OnSurvey}
use Rattle.truth.specs.Columns.{JudgedColumn}
use Rattle.truth.proofs.Progress.{Progress, progress_none, progress_more, end_cut_off, end_judged}

-- v columns are judged, and stand in the table; the column and the marks have room
pub record Filling (s : Survey) (before table marks col : List ℕ) (f : Option (code.Fault Refusal)) (v : ℕ) : Type 0 where
  pub up_to : v ≤ s.roads.places
  pub column_long : length col ≡ most_places
  pub marks_long : length marks ≡ most_blocks
  pub size : length table ≡ length before
  pub fault_in : IfSome f (λ x. x.place < s.roads.places)
  pub progress : (m : Map) → OnSurvey s m → Progress m s.roads.places v before table marks (found_below s.roads.places f)

-- the places and their table are few, and the column and the marks have room for them
pub record Room (s : Survey) (marks col : List ℕ) : Type 0 where
  pub places : s.roads.places ≤ most_places
  pub area : s.roads.places * s.roads.places ≤ most_places * most_places
  pub column_room : s.roads.places ≤ length col
  pub marks_room : s.chart.ground.counts.blocks ≤ length marks

-- the first fault of a further column, beside the one that there was
module _ (f : ℕ → ℕ) (n : ℕ) (old : Option (code.Fault Refusal)) where
  pub looked_on : (new : Option (code.Fault Refusal)) → Looked f (none_below (found_below n old).place) (found_below (found_below n old).place new) → Looked f (found_below n old) (found_below n (option_or new old))
  looked_on None L = record { clean = L.clean; found = inl refl }
  looked_on (Some x) L = record { clean = L.clean; found = inr (⊎_elim (λ e. absurd (go e)) (λ w. w) L.found) }
    where
      go : found_below (found_below n old).place (Some x) ≡ none_below (found_below n old).place → ⊥
      go e = omega (arith, number_some x.refusal, ap (λ (f : Fault). f.number) e)

  place_on : (new : Option (code.Fault Refusal)) → (found_below n (option_or new old)).place ≡ (found_below (found_below n old).place new).place
  place_on None = refl
  place_on (Some x) = refl

  pub place_in : IfSome old (λ x. x.place < n) → (found_below n old).place ≤ n
  place_in = go old
    where
      go : (r : Option (code.Fault Refusal)) → IfSome r (λ x. x.place < n) → (found_below n r).place ≤ n
      go None h = omega arith
      go (Some x) h = omega arith

  fault_on : (new : Option (code.Fault Refusal)) → IfSome old (λ x. x.place < n) → IfSome new (λ x. x.place < (found_below n old).place) → IfSome (option_or new old) (λ x. x.place < n)
  fault_on None h k = h
  fault_on (Some x) h k = omega (arith, place_in h)

module _ (s : Survey) where
  abbrev n : ℕ
  n = s.roads.places

  -- a map that was surveyed has as many places and blocks as are counted
  places-are : (m : Map) → OnSurvey s m → n ≡ m.places
  places-are m S = s.same ∙ (standing s.chart.ground.keeps).places ∙ sym S.charted.ground.places

  blocks-are : (m : Map) → OnSurvey s m → s.chart.ground.counts.blocks ≡ m.blocks
  blocks-are m S = (standing s.chart.ground.keeps).blocks ∙ sym S.charted.ground.blocks

  pub filling_none : (before : List ℕ) → Filling s before before (replicate most_blocks 0) (replicate most_places 0) None 0
  filling_none before = record {
    up_to = omega arith;
    column_long = length-replicate {A = ℕ} most_places 0;
    marks_long = length-replicate {A = ℕ} most_blocks 0;
    size = refl;
    fault_in = tt;
    progress = λ m S. progress_none m n before (replicate most_blocks 0) (none_below n) (places-are m S)
        (omega (arith, blocks-are m S, (standing s.chart.ground.keeps).within.blocks, length-replicate {A = ℕ} most_blocks 0)) (zeros most_blocks);
  }

  module _ {before table marks col : List ℕ} {f : Option (code.Fault Refusal)} {v : ℕ} (F : Filling s before table marks col f v) where
    pub filling-room : Room s marks col
    filling-room =
        let W = (standing s.chart.ground.keeps).within in
        let few : n ≤ most_places = omega (arith, W.places, s.same) in
        record {
          places = few;
          area = mul-le-mul few few;
          column_room = omega (arith, few, F.column_long);
          marks_room = omega (arith, W.blocks, F.marks_long);
        }

    -- a column is judged and stored
    pub filling-more : (table' marks' col' : List ℕ) (new : Option (code.Fault Refusal)) → v < n → IfSome new (λ x. x.place < (found_below n f).place)
        → ((m : Map) → OnSurvey s m → JudgedColumn m (map_of s.chart.ground.bytes.now) n v (found_below n f).place new marks col' marks')
        → Stored n v col' table table' → length col' ≡ length col → length marks' ≡ length marks → Filling s before table' marks' col' (option_or new f) (v + 1)
    filling-more table' marks' col' new more within J T e h = record {
      up_to = omega arith;
      column_long = e ∙ F.column_long;
      marks_long = h ∙ F.marks_long;
      size = T.size ∙ F.size;
      fault_in = fault_on (λ u. 0) n f new F.fault_in within;
      progress = λ m S. progress_more (lawful_laid S.charted.lawful) S.charted.ground n v before table table' marks marks' col' (found_below n f) (found_below n (option_or new f)) (places-are m S) more (F.progress m S)
          (J m S).near T (looked_on _ n f new (J m S).looked) (rw (place_on (λ u. 0) n f new) (J m S).marked);
    }

    -- some place has no road to v
    pub filling-cut : (l : List ℕ) → n * n ≤ length before → v < n → ((m : Map) → OnSurvey s m → (u : ℕ) × (u < n) × ((x : ℕ) → Road m v u x → ⊥))
        → l ≡ cleared (n * n) table → (m : Map) → OnSurvey s m → CheckedOn 0 m before 11 l
    filling-cut l long more J e m S =
        let w = J m S in
        end_cut_off m before table marks (found_below n f) (rw (places-are m S) at long) n v w.0 (places-are m S) (F.progress m S) w.1 more w.2 l e

    -- every column is judged
    pub filling-all : (r : ℕ) → n * n ≤ length before → n ≤ v → r ≡ number_of_check n s.chart.ground.counts.blocks marks (found_below n f) → (m : Map) → OnSurvey s m → CheckedOn 0 m before r table
    filling-all r long all e m S =
        end_judged m before table marks (found_below n f) (rw (places-are m S) at long) n v s.chart.ground.counts.blocks r (places-are m S) (blocks-are m S) (omega (arith, F.up_to)) (lawful_laid S.charted.lawful) (F.progress m S) e
