-- The table while it is filled, in whatever it stands: what holds at the loop's head, by the words that stand there, and how the loop ends.
use Prim.Native.Nat.{ℕ, ◌+◌, ◌*◌, ◌≤◌, ◌<◌}
use native.Mathlib.Omega.{arith}
use mathlib.Core.Path.{◌≡◌, refl, ap}
use mathlib.Core.List.{List}
use lib.ListN.{length, replicate}
use Rattle.std.specs.Prelude.{Option, None, IfSome}
use Rattle.std.specs.Option.{option_or}
use Rattle.paper.specs.Sizes.{most_places, most_blocks}
use Rattle.paper.specs.Map.{Map}
use Rattle.paper.specs.Sheet.{map_of}
use Rattle.paper.specs.Road.{Road}
use Rattle.paper.specs.declared.refusal.Refusal.{Refusal}
use Rattle.paper.specs.Slice.{cleared}
use Rattle.truth.specs.declared.pairs.Fault as code
use Rattle.truth.specs.declared.known.Survey.{Survey}
use Rattle.truth.specs.Table.{StoredIn, CheckedIn}
use Rattle.truth.specs.Faults.{found_below, number_of_check}
use Rattle.truth.specs.Roads.{OnSurvey}
use Rattle.truth.specs.Columns.{JudgedColumn}
use Rattle.truth.proofs.Filling.{Filling, Room, filling_none, filling-room, filling-more, filling-cut, filling-all}

-- v columns are judged, and stand in the words that the slice holds
pub record FillingIn {U : Type 0} (held : List U → List ℕ) (written : List ℕ → List U → List U) (s : Survey) (before after : List U) (marks col : List ℕ) (f : Option (code.Fault Refusal)) (v : ℕ) : Type 0 where
  pub words : List ℕ
  pub filling : Filling s (held before) words marks col f v
  pub there : after ≡ written words before

module _ {U : Type 0} (held : List U → List ℕ) (written : List ℕ → List U → List U) (s : Survey) where
  abbrev n : ℕ
  n = s.roads.places

  pub filling_in_none : (before : List U) → before ≡ written (held before) before → FillingIn held written s before before (replicate most_blocks 0) (replicate most_places 0) None 0
  filling_in_none before e = record { words = held before; filling = filling_none s (held before); there = e }

  module _ {before after : List U} {marks col : List ℕ} {f : Option (code.Fault Refusal)} {v : ℕ} (long : n * n ≤ length (held before)) (F : FillingIn held written s before after marks col f v) where
    pub filling_in_room : Room s marks col
    filling_in_room = filling-room s F.filling

    -- the slice has room for the table, as it had
    pub filling_in_long : ((words : List ℕ) (b : List U) → length words ≡ length (held b) → length (held (written words b)) ≡ length (held b)) → n * n ≤ length (held after)
    filling_in_long kept = omega (arith, long, ap (λ (l : List U). length (held l)) F.there, kept F.words before F.filling.size)

    words-long : n * n ≤ length F.words
    words-long = omega (arith, long, F.filling.size)

    pub filling_in_more : (after' : List U) (marks' col' : List ℕ) (new : Option (code.Fault Refusal)) → v < n → IfSome new (λ x. x.place < (found_below n f).place)
        → ((m : Map) → OnSurvey s m → JudgedColumn m (map_of s.chart.ground.bytes.now) n v (found_below n f).place new marks col' marks')
        → ((words : List ℕ) (b : List U) → n * n ≤ length words → length words ≡ length (held b) → after ≡ written words b → StoredIn written n v col' words b after')
        → length col' ≡ length col → length marks' ≡ length marks → FillingIn held written s before after' marks' col' (option_or new f) (v + 1)
    filling_in_more after' marks' col' new more within J T e h =
        let S = T F.words before words-long F.filling.size F.there in
        record { words = S.words'; filling = filling-more s F.filling S.words' marks' col' new more within J S.stored e h; there = S.there }

    pub filling_in_cut : (l : List U) → v < n → ((m : Map) → OnSurvey s m → (u : ℕ) × (u < n) × ((x : ℕ) → Road m v u x → ⊥))
        → ((words : List ℕ) (b : List U) → n * n ≤ length words → length words ≡ length (held b) → after ≡ written words b → l ≡ written (cleared (n * n) words) b)
        → (m : Map) → OnSurvey s m → CheckedIn held written 0 m before 11 l
    filling_in_cut l more J e m S = record {
      words = cleared (n * n) F.words;
      checked = filling-cut s F.filling _ long more J refl m S;
      there = e F.words before words-long F.filling.size F.there;
    }

    pub filling_in_all : (r : ℕ) → r ≡ number_of_check n s.chart.ground.counts.blocks marks (found_below n f) → n ≤ v → (m : Map) → OnSurvey s m → CheckedIn held written 0 m before r after
    filling_in_all r e all m S = record { words = F.words; checked = filling-all s F.filling r long all e m S; there = F.there }
