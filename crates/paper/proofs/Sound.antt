-- A trail that tells the truth, from the start on: 16, 17 and 18 are never given.
use Prim.Native.Nat.{ℕ, ◌+◌, ◌≤◌, ◌<◌}
use native.Mathlib.Omega.{arith}
use mathlib.Core.Path.{◌≡◌}
use lib.Dec.{ltb}
use borrow.Author.Tests.{le-leb, lt-ltb}
use Rattle.paper.specs.Map.{Map}
use Rattle.paper.specs.Stage.{stage_of}
use Rattle.paper.specs.Road.{IsD}
use Rattle.paper.specs.Truth.{Truth}
use Rattle.paper.proofs.LaidOut.{LaidOut}
use Rattle.paper.specs.Named.{Named, next_by}
use Rattle.paper.specs.Trail.{Trail, between, start, refine, ordered, tested, fresh, onward}
use Rattle.paper.proofs.Holds.{Holds, on_then, on_true}
use Rattle.paper.proofs.Ends.{Right, between_right}
use Rattle.paper.proofs.Named.{Leaving, leaving, named_next}

-- t is a trail towards v of a question whose road distance to v is d, along the road that the colours name, of n stages
pub record Sound (m : Map) (v d n : ℕ) (t : Trail) : Type 0 where
  pub placed : t.via < m.places
  pub ahead : ℕ
  pub is_d : IsD m t.via v ahead
  pub road : t.walked + ahead ≡ d
  pub low : t.low ≤ d
  pub high : d ≤ t.high
  pub home : t.via ≡ v → t.low ≡ t.high
  pub left : ℕ
  pub named : Named m v t.via left
  pub count : t.stages + left ≡ n

holds_tested : (P : Trail → Type 0) (t : Trail) → t.low ≤ t.high → P t → Holds P (tested t)
holds_tested P t o p = on_true (λ n. ⊥) P (ordered t) _ _ (le-leb _ _ o) p

module _ {m : Map} (T : Truth m) where
  pub start_sound : (u v d n : ℕ) → u < m.places → v < m.places → IsD m u v d → Named m v u n → Holds (Sound m v d n) (start m u v)
  unfolding start
  start_sound u v d n hu hv D r =
      on_then (λ n. ⊥) (Right u v d) (Sound m v d n) (between m u v) _ (between_right T u v d hu hv D)
      (λ e h. holds_tested (Sound m v d n) (fresh u e) (omega arith) (record {
        placed = hu;
        ahead = d;
        is_d = D;
        road = omega arith;
        low = h.low;
        high = h.high;
        home = h.home;
        left = n;
        named = r;
        count = omega arith;
      }))

module _ {m : Map} (L : LaidOut m) (T : Truth m) where
  pub refine_sound : (v d n : ℕ) (t : Trail) → v < m.places → n < m.places → t.low < t.high → Sound m v d n t → Holds (Sound m v d n) (refine m v t)
  unfolding refine
  refine_sound v d n t hv hn gap S =
      let ne : t.via ≡ v → ⊥ = λ e. omega (arith, S.home e) in
      let w : Leaving m t.via v S.ahead = leaving L T t.via v S.ahead S.placed hv S.is_d ne in
      let (l, e, r) = named_next w.block ne w.covered S.named in
      let x : ℕ = next_by m t.via w.block in
      on_true (λ n. ⊥) (Sound m v d n) (ltb (t.stages + 1) m.places) _ _ (lt-ltb (t.stages + 1) m.places (omega (arith, S.count)))
      (rw w.covered (on_then (λ n. ⊥) (Right x v w.ahead) (Sound m v d n) (between m x v) _ (between_right T x v w.ahead w.placed hv w.is_d)
      (λ f h. holds_tested (Sound m v d n) (onward m (stage_of m t.via (m.colour w.block)) t f) (omega arith) (record {
        placed = w.placed;
        ahead = w.ahead;
        is_d = w.is_d;
        road = omega arith;
        low = omega arith;
        high = omega arith;
        home = λ q. omega (arith, h.home q);
        left = l;
        named = r;
        count = omega (arith, S.count);
      }))))
