-- On a true map the colours name a road from every place to every other, of fewer stages than there are places.
use Prim.Native.Nat.{ℕ, zero, suc, ◌+◌, ◌≤◌, ◌<◌}
use native.Mathlib.Omega.{arith}
use native.Mathlib.Decide.{ℕ_discrete}
use mathlib.Core.Path.{◌≡◌, refl, sym, subst}
use mathlib.Core.Option.{some}
use Rattle.paper.specs.Map.{Map}
use Rattle.paper.specs.Stage.{stage_of}
use Rattle.paper.specs.Block.{block_of}
use Rattle.paper.specs.Road.{IsD}
use Rattle.paper.specs.Truth.{Truth, Told, Reach}
use Rattle.paper.proofs.LaidOut.{LaidOut}
use Rattle.paper.specs.Named.{Named, home, leave, next_by}
use Rattle.paper.proofs.Block.{named_under}
use Rattle.paper.proofs.Road.{distance_one}
use Rattle.paper.proofs.Count.{choose, rank, rank_lt, rank_top}

-- the stage that u's block names for v, where d is the road distance between them
pub record Leaving (m : Map) (u v d : ℕ) : Type 0 where
  pub block : ℕ
  pub covered : block_of m u v ≡ some block
  pub placed : next_by m u block < m.places
  pub long : 1 ≤ m.furlongs (stage_of m u (m.colour block))
  pub ahead : ℕ
  pub is_d : IsD m (next_by m u block) v ahead
  pub sum : m.furlongs (stage_of m u (m.colour block)) + ahead ≡ d

-- the next place of a named road, and the stages left from there
pub named_next : {m : Map} {v u n : ℕ} (b : ℕ) → (u ≡ v → ⊥) → block_of m u v ≡ some b → Named m v u n → (l : ℕ) × (n ≡ suc l) × Named m v (next_by m u b) l
named_next b ne e home = absurd (ne refl)
named_next {m} {v} {u} b ne e (leave {n = l} b' ne' e' r) =
    let same : b' ≡ b = cc in
    (l, refl, rw same at r)

named_from : {m : Map} {v u w n n' : ℕ} → u ≡ w → Named m v u n → Named m v w n' → n ≡ n'
named_from e home home = refl
named_from e home (leave b ne f r) = absurd (ne (sym e))
named_from {m = m} {v = v} {n' = n'} e (leave b ne f r) s =
    let (l, q, r') = named_next b ne f (subst (λ (x : ℕ). Named m v x n') (sym e) s) in omega (arith, named_from refl r r')

pub named_one : {m : Map} {v u n n' : ℕ} → Named m v u n → Named m v u n' → n ≡ n'
named_one = named_from refl

module _ {m : Map} (L : LaidOut m) (T : Truth m) where
  pub leaving : (u v d : ℕ) → u < m.places → v < m.places → IsD m u v d → (u ≡ v → ⊥) → Leaving m u v d
  leaving u v d hu hv D ne =
      let w : Told m u v = T.told u v hu hv ne in
      let i : ℕ = stage_of m u (m.colour w.block) in
      let in-range : i < m.stages = named_under L u v w.block w.covered in
      let placed : m.head i < m.places = L.heads i in-range in
      let r : Reach m (m.head i) v = T.reach (m.head i) v placed hv in
      record {
        block = w.block;
        covered = w.covered;
        placed = placed;
        long = L.long i in-range;
        ahead = r.dist;
        is_d = r.is_d;
        sum = w.tells.colour d r.dist D r.is_d;
      }

  named_step : (u v d : ℕ) → u < m.places → v < m.places → IsD m u v d
      → ((w : Leaving m u v d) → (n : ℕ) × Named m v (next_by m u w.block) n) → (n : ℕ) × Named m v u n
  named_step u v d hu hv D rest = go (ℕ_discrete u v)
    where
      go : Dec (u ≡ v) → (n : ℕ) × Named m v u n
      go (yes e) = (0, rw e home)
      go (no ne) =
          let w : Leaving m u v d = leaving u v d hu hv D ne in
          let (n, r) = rest w in
          (suc n, leave w.block ne w.covered r)

  -- f bounds the road distance
  named-within : (v : ℕ) → v < m.places → (f u d : ℕ) → u < m.places → IsD m u v d → d ≤ f → (n : ℕ) × Named m v u n
  named-within v hv zero u d hu D h = named_step u v d hu hv D (λ w. absurd (omega arith))
  named-within v hv (suc f) u d hu D h =
      named_step u v d hu hv D (λ w. named-within v hv f (next_by m u w.block) w.ahead w.placed w.is_d (omega arith))

  pub named_exists : (u v : ℕ) → u < m.places → v < m.places → (n : ℕ) × Named m v u n
  named_exists u v hu hv = let r : Reach m u v = T.reach u v hu hv in named-within v hv r.dist u r.dist hu r.is_d (omega arith)

  -- each stage of a named road lowers the rank of the distance that is left
  named-rank : (v : ℕ) → v < m.places → (dist : ℕ → ℕ) → ((w : ℕ) → w < m.places → IsD m w v (dist w))
      → {u n : ℕ} → u < m.places → Named m v u n → n ≤ rank dist m.places (dist u)
  named-rank v hv dist D hu home = omega arith
  named-rank v hv dist D {u} hu (leave {n = n} b ne e r) =
      let w : Leaving m u v (dist u) = leaving u v (dist u) hu hv (D u hu) ne in
      let x : ℕ = next_by m u b in
      let same : w.block ≡ b = cc w.covered in
      let hx : x < m.places = rw same at w.placed in
      let dx : dist x ≡ w.ahead = distance_one (D x hx) (rw same at w.is_d) in
      let ih : n ≤ rank dist m.places (dist x) = named-rank v hv dist D hx r in
      omega (arith, rank_lt dist m.places (dist x) (dist u) x (omega arith) hx (omega arith) (omega arith))

  pub named_lt : (u v n : ℕ) → u < m.places → v < m.places → Named m v u n → n < m.places
  named_lt u v n hu hv r =
      let (dist, D) = choose (λ w d. IsD m w v d) 0 m.places (λ w hw. ((T.reach w v hw hv).dist, (T.reach w v hw hv).is_d)) in
      omega (arith, named-rank v hv dist D hu r, rank_top dist m.places (dist u) u hu (omega arith))
