-- What intervals and trails come to, case by case.
use Prim.Native.Nat.{ℕ, ◌+◌, ◌≤◌, ◌<◌}
use mathlib.Core.Path.{◌≡◌, refl, sym, ap, ◌∙◌}
use mathlib.Core.Bool.{Bool, true, false}
use mathlib.Core.Option.{Option, some, none}
use lib.Dec.{ltb, eqb}
use lib.ListN.{get_or}
use borrow.Author.Tests.{eq-eqb, lt-ltb, le-ltb, le-leb, lt-leb, eqb-true}
use Rattle.std.specs.Prelude.{Some, None}
use Rattle.paper.specs.Served.{Served, refused, served}
use Rattle.paper.specs.Map.{Map}
use Rattle.paper.specs.Sheet.{map_of}
use Rattle.paper.specs.Crow.{crow}
use Rattle.paper.specs.Stage.{stage_of}
use Rattle.paper.specs.Block.{block_of}
use Rattle.paper.specs.Trail.{Ends, Trail, between, ends_by, ordered, tested, fresh, start, onward_by, refine}
use Rattle.paper.specs.Ground.{SameGround}
use Rattle.paper.proofs.Ground.{between-same}
use Rattle.sheet.specs.declared.ground.Chart.{Chart}
use Rattle.quadtree.specs.Blocks.{cover_of}
use Rattle.quadtree.specs.Walks.{ends_of, ahead, walked_to, stage_by_chart, onward_by_chart, refine_by_chart}

-- what was found tells what the definition finds
pub cover_some : (r : Option ℕ) (b : ℕ) → Some b ≡ cover_of r → r ≡ some b
cover_some none b e = cc
cover_some (some c) b e = cc

pub cover_none : (r : Option ℕ) → None ≡ cover_of r → r ≡ none
cover_none none e = refl
cover_none (some c) e = cc

-- the interval between two places
module _ (m : Map) (u v : ℕ) where
  pub between_home : u ≡ v → ◌≡◌ {A = Served Ends} (served (record { low = 0; high = 0 })) (between m u v)
  unfolding between
  between_home e = go (eqb u v) (eq-eqb u v e)
    where
      go : (t : Bool) → t ≡ true → ◌≡◌ {A = Served Ends} (served (record { low = 0; high = 0 })) (elim t [ true ↦ served (record { low = 0; high = 0 }) | false ↦ ends_by m u v (block_of m u v) ])
      go true p = refl
      go false p = cc

  between-other : (u ≡ v → ⊥) → between m u v ≡ ends_by m u v (block_of m u v)
  unfolding between
  between-other ne = go (eqb u v) refl
    where
      go : (t : Bool) → eqb u v ≡ t → elim t [ true ↦ served (record { low = 0; high = 0 }) | false ↦ ends_by m u v (block_of m u v) ] ≡ ends_by m u v (block_of m u v)
      go true e = absurd (ne (eqb-true u v e))
      go false e = refl

  pub between_by : (b c : ℕ) (e : Ends) → (u ≡ v → ⊥) → Some b ≡ cover_of (block_of m u v) → c ≡ crow m u v → e ≡ ends_of m b c → served e ≡ between m u v
  between_by b c e ne f d h = rw (between-other ne, cover_some (block_of m u v) b f, ← d) (ap served h)

  pub between_none : (u ≡ v → ⊥) → None ≡ cover_of (block_of m u v) → refused 17 ≡ between m u v
  between_none ne f = rw (between-other ne, cover_none (block_of m u v) f)

-- the test of a trail
module _ (t : Trail) where
  tested-as : (o : Bool) → ordered t ≡ o → tested t ≡ elim o [ false ↦ refused 18 | true ↦ served t ]
  tested-as o e = ap (λ (b : Bool). elim b [ false ↦ refused 18 | true ↦ served t ]) e

  pub tested_empty : t.high < t.low → refused 18 ≡ tested t
  tested_empty p = sym (tested-as false (lt-leb _ _ p))

  pub tested_served : t.low ≤ t.high → served t ≡ tested t
  tested_served p = sym (tested-as true (le-leb _ _ p))

-- a start and a stage further, by the interval
module _ (m : Map) (v : ℕ) where
  pub start_ends : (u : ℕ) (e : Ends) → served e ≡ between m u v → tested (fresh u e) ≡ start m u v
  unfolding start
  start_ends u e h = rw (← h)

  pub start_refused : (u n : ℕ) → refused n ≡ between m u v → refused n ≡ start m u v
  unfolding start
  start_refused u n h = rw (← h)

  pub walked_ends : (t : Trail) (via length : ℕ) (e : Ends) → served e ≡ between m via v → tested (ahead t via length e) ≡ walked_to m v t via length
  unfolding walked_to
  walked_ends t via length e h = rw (← h)

  pub walked_refused : (t : Trail) (via length n : ℕ) → refused n ≡ between m via v → refused n ≡ walked_to m v t via length
  unfolding walked_to
  walked_refused t via length n h = rw (← h)

-- on two maps with one ground
pub walked_same : {m g : Map} → SameGround m g → (v : ℕ) (t : Trail) (via length : ℕ) → via < m.places → v < m.places
    → walked_to m v t via length ≡ walked_to g v t via length
unfolding walked_to
walked_same S v t via length p q = rw (between-same S via v p q)

-- one refinement
module _ (m : Map) (v : ℕ) (t : Trail) where
  refine-as : (x : Bool) → ltb (t.stages + 1) m.places ≡ x → refine m v t ≡ elim x [ false ↦ refused 16 | true ↦ onward_by m v t (block_of m t.via v) ]
  unfolding refine
  refine-as x e = ap (λ (b : Bool). elim b [ false ↦ refused 16 | true ↦ onward_by m v t (block_of m t.via v) ]) e

  pub refine_last : m.places ≤ t.stages + 1 → refused 16 ≡ refine m v t
  refine_last p = sym (refine-as false (le-ltb _ _ p))

  pub refine_none : t.stages + 1 < m.places → None ≡ cover_of (block_of m t.via v) → refused 17 ≡ refine m v t
  refine_none p e = sym (refine-as true (lt-ltb _ _ p) ∙ ap (onward_by m v t) (cover_none (block_of m t.via v) e))

  refine-by : (b i : ℕ) → t.stages + 1 < m.places → Some b ≡ cover_of (block_of m t.via v) → i ≡ stage_of m t.via (m.colour b)
      → refine m v t ≡ walked_to m v t (m.head i) (m.furlongs i)
  unfolding walked_to
  refine-by b i p e z = refine-as true (lt-ltb _ _ p) ∙ ap (onward_by m v t) (cover_some (block_of m t.via v) b e) ∙ rw z refl

  pub refine_to : (b i via length : ℕ) (s : Served Trail) → t.stages + 1 < m.places → Some b ≡ cover_of (block_of m t.via v) → i ≡ stage_of m t.via (m.colour b)
      → via ≡ m.head i → length ≡ m.furlongs i → s ≡ walked_to m v t via length → s ≡ refine m v t
  refine_to b i via length s p e z h l q = rw (refine-by b i p e z, ← h, ← l) q

-- one refinement by a chart
module _ (c : Chart) (v : ℕ) (t : Trail) where
  abbrev g : Map
  g = map_of c.ground.bytes.now

  chart-as : (x : Bool) → ltb (t.stages + 1) g.places ≡ x → refine_by_chart c v t ≡ elim x [ false ↦ refused 16 | true ↦ onward_by_chart c v t (block_of g t.via v) ]
  unfolding refine_by_chart
  chart-as x e = ap (λ (b : Bool). elim b [ false ↦ refused 16 | true ↦ onward_by_chart c v t (block_of g t.via v) ]) e

  pub chart_last : g.places ≤ t.stages + 1 → refused 16 ≡ refine_by_chart c v t
  chart_last p = sym (chart-as false (le-ltb _ _ p))

  chart-by : (r : Option ℕ) → t.stages + 1 < g.places → block_of g t.via v ≡ r → onward_by_chart c v t r ≡ refine_by_chart c v t
  chart-by r p e = sym (chart-as true (lt-ltb _ _ p) ∙ ap (onward_by_chart c v t) e)

  pub chart_none : t.stages + 1 < g.places → None ≡ cover_of (block_of g t.via v) → refused 17 ≡ refine_by_chart c v t
  chart_none p e = chart-by none p (cover_none _ e)

  pub chart_to : (b i : ℕ) (s : Served Trail) → t.stages + 1 < g.places → Some b ≡ cover_of (block_of g t.via v) → i ≡ stage_by_chart c t.via b
      → s ≡ walked_to g v t (get_or c.heads.now i 0) (get_or c.lengths.now i 0) → s ≡ refine_by_chart c v t
  chart_to b i s p e z q = rw z at q ∙ chart-by (some b) p (cover_some _ b e)
