-- Of any map: a walk refuses with 16 to 18, and a refinement never widens.
use Prim.Native.Nat.{ℕ, ◌+◌, ◌≤◌, ◌<◌}
use native.Mathlib.Omega.{arith}
use mathlib.Core.Path.{◌≡◌, refl}
use mathlib.Core.Option.{Option, some, none}
use lib.Dec.{ltb, eqb}
use borrow.Author.Tests.{ltb-true}
use Rattle.paper.specs.Served.{served}
use Rattle.paper.specs.Map.{Map}
use Rattle.paper.specs.Stage.{stage_of}
use Rattle.paper.specs.Block.{block_of}
use Rattle.paper.specs.Trail.{Trail, between, ends_by, start, refine, ordered, tested, fresh, onward, onward_by}
use Rattle.paper.proofs.Holds.{On, on_if, on_then, given}

-- a refusal of the walk
pub record Walk (n : ℕ) : Type 0 where
  pub least : 16 ≤ n
  pub most : n ≤ 18

-- t' is t refined once
pub record Finer (m : Map) (t t' : Trail) : Type 0 where
  pub low : t.low ≤ t'.low
  pub high : t'.high ≤ t.high
  pub stages : t'.stages ≡ t.stages + 1
  pub within : t'.stages < m.places

walk_tested : (P : Trail → Type 0) (t : Trail) → P t → On Walk P (tested t)
walk_tested P t p = on_if Walk P (ordered t) _ _ (λ e. p) (λ e. omega arith)

walk_between : (m : Map) (u v : ℕ) → On Walk (λ e. Unit {0}) (between m u v)
unfolding between
walk_between m u v = on_if Walk (λ e. Unit {0}) (eqb u v) _ _ (λ e. tt) (λ e. go (block_of m u v))
  where
    go : (r : Option ℕ) → On Walk (λ e. Unit {0}) (ends_by m u v r)
    go none = omega arith
    go (some b) = tt

walk_onward : (m : Map) (v : ℕ) (t : Trail) → t.stages + 1 < m.places → (r : Option ℕ) → On Walk (Finer m t) (onward_by m v t r)
walk_onward m v t h none = omega arith
walk_onward m v t h (some b) =
    let i : ℕ = stage_of m t.via (m.colour b) in
    on_then Walk (λ e. Unit {0}) (Finer m t) (between m (m.head i) v) _ (walk_between m (m.head i) v)
    (λ e u. walk_tested (Finer m t) (onward m i t e) (omega arith))

pub walk_start : (m : Map) (u v : ℕ) → On Walk (λ t. t.stages ≡ 0) (start m u v)
unfolding start
walk_start m u v =
    on_then Walk (λ e. Unit {0}) (λ t. t.stages ≡ 0) (between m u v) _ (walk_between m u v) (λ e u'. walk_tested (λ t. t.stages ≡ 0) (fresh u e) refl)

pub walk_refine : (m : Map) (v : ℕ) (t : Trail) → On Walk (Finer m t) (refine m v t)
unfolding refine
walk_refine m v t =
    on_if Walk (Finer m t) (ltb (t.stages + 1) m.places) _ _
    (λ e. walk_onward m v t (ltb-true (t.stages + 1) m.places e) (block_of m t.via v)) (λ e. omega arith)

pub refine_finer : (m : Map) (v : ℕ) (t t' : Trail) → refine m v t ≡ served t' → Finer m t t'
refine_finer m v t t' e = given Walk (Finer m t) (refine m v t) t' e (walk_refine m v t)
