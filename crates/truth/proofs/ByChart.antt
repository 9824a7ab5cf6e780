-- What is due for a pair by what stands in a chart, its tests one after the other, whether or not some map has the chart.
use Prim.Native.Nat.{ℕ, ◌+◌}
use mathlib.Core.Path.{◌≡◌, sym, ap, ◌∙◌}
use mathlib.Core.Bool.{true, false}
use mathlib.Core.Option.{some, none}
use mathlib.Core.List.{List}
use lib.Dec.{eqb}
use lib.ListN.{get_or}
use borrow.Author.Tests.{eq-eqb, ne_eqb}
use Rattle.paper.specs.Sheet.{map_of}
use Rattle.paper.specs.Crow.{crow}
use Rattle.paper.specs.Block.{block_of}
use Rattle.sheet.specs.declared.ground.Chart.{Chart}
use Rattle.quadtree.specs.Walks.{stage_by_chart}
use Rattle.truth.specs.Pairs.{colour_by_chart, ratios_true, due_by_chart, fault_by_chart}

module _ (c : Chart) (column : List ℕ) (u : ℕ) where
  -- the lengths that the code adds and compares are those of the stage i that the block names
  pub chart_colour : (b i x y z : ℕ) → i ≡ stage_by_chart c u b
      → x ≡ get_or c.lengths.now i 0 → y ≡ get_or column (get_or c.heads.now i 0) 0 → z ≡ get_or column u 0 → eqb (x + y) z ≡ colour_by_chart c column u b
  chart_colour b i x y z e ex ey ez = rw (ex, ey, ez, e)

  module _ (v b : ℕ) where
    pub chart_13 : colour_by_chart c column u b ≡ false → 13 ≡ due_by_chart c column u v (some b)
    chart_13 h = rw h

    module _ (colour : colour_by_chart c column u b ≡ true) where
      pub chart_14 : ratios_true (map_of c.ground.bytes.now) b (crow (map_of c.ground.bytes.now) u v) (get_or column u 0) ≡ false → 14 ≡ due_by_chart c column u v (some b)
      chart_14 r = rw (colour, r)

      pub chart_clean : ratios_true (map_of c.ground.bytes.now) b (crow (map_of c.ground.bytes.now) u v) (get_or column u 0) ≡ true → 0 ≡ due_by_chart c column u v (some b)
      chart_clean r = rw (colour, r)

  module _ (v : ℕ) where
    pub chart_home : u ≡ v → 0 ≡ fault_by_chart c column u v
    unfolding fault_by_chart
    chart_home e = sym (rw (eq-eqb u v e, fault_by_chart))

    module _ (ne : u ≡ v → ⊥) where
      chart-apart : fault_by_chart c column u v ≡ due_by_chart c column u v (block_of (map_of c.ground.bytes.now) u v)
      unfolding fault_by_chart
      chart-apart = rw (ne_eqb u v ne, fault_by_chart)

      pub chart_none : block_of (map_of c.ground.bytes.now) u v ≡ none → 12 ≡ fault_by_chart c column u v
      chart_none e = sym (chart-apart ∙ ap (due_by_chart c column u v) e)

      pub chart_some : (b r : ℕ) → block_of (map_of c.ground.bytes.now) u v ≡ some b → r ≡ due_by_chart c column u v (some b) → r ≡ fault_by_chart c column u v
      chart_some b r e h = h ∙ sym (chart-apart ∙ ap (due_by_chart c column u v) e)
