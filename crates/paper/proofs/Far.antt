-- A shortest road passes no place twice, so a road distance is at most (N - 1) × 65,535, and never above 67,042,305.
use Prim.Native.Nat.{ℕ, ◌+◌, ◌-◌, ◌*◌, ◌≤◌, ◌<◌}
use native.Mathlib.Omega.{arith}
use native.Mathlib.Decide.{ℕ_discrete, dec_le}
use mathlib.Core.Path.{◌≡◌}
use Rattle.paper.specs.Sizes.{most_furlongs, road_most}
use Rattle.paper.specs.Sum.{sum}
use Rattle.paper.specs.Map.{Map}
use Rattle.paper.specs.Road.{Road, arrived, along, IsD}
use Rattle.paper.proofs.LaidOut.{LaidOut}
use Rattle.paper.proofs.Count.{sum_lt, sum_ones}

-- the places behind the first of a shortest road of length l are marked 1, the others 0: each marked one has a shorter road
record Passed (m : Map) (v l : ℕ) (mark : ℕ → ℕ) : Type 0 where
  once : (w : ℕ) → mark w ≤ 1
  shorter : (w : ℕ) → 1 ≤ mark w → (k : ℕ) × (k < l) × Road m v w k
  sums : l ≤ sum m.places mark * most_furlongs

-- p is marked too
marked : (ℕ → ℕ) → ℕ → ℕ → ℕ
marked mark p w = elim (ℕ_discrete w p) [ yes e ↦ 1 | no ne ↦ mark w ]

marked_cases : (P : ℕ → Type 0) (mark : ℕ → ℕ) (p w : ℕ) → (w ≡ p → P 1) → ((w ≡ p → ⊥) → P (mark w)) → P (marked mark p w)
unfolding marked
marked_cases P mark p w new old = go (ℕ_discrete w p)
  where
    go : (r : Dec (w ≡ p)) → P (elim r [ yes e ↦ 1 | no ne ↦ mark w ])
    go (yes e) = new e
    go (no ne) = old ne

-- the first place of a shortest road is not among those behind it
unmarked : {m : Map} {v u l : ℕ} {mark : ℕ → ℕ} → ((k : ℕ) → Road m v u k → l ≤ k) → Passed m v l mark → mark u ≡ 0
unmarked {u = u} {mark = mark} least P = elim (dec_le 1 (mark u)) [
  | yes h ↦ let s = P.shorter u h in omega (arith, s.1, least s.0 s.2)
  | no h ↦ omega arith
]

module _ {m : Map} (L : LaidOut m) (v : ℕ) where
  passed-more : {l : ℕ} {mark : ℕ → ℕ} (i : ℕ) → i < m.stages → Road m v (m.head i) l → ((k : ℕ) → Road m v (m.head i) k → l ≤ k) → Passed m v l mark → Passed m v (m.furlongs i + l) (marked mark (m.head i))
  passed-more {l} {mark} i h r least P = record {
    once = λ w. marked_cases (λ x. x ≤ 1) mark (m.head i) w (λ e. omega arith) (λ ne. P.once w);
    shorter = λ w. marked_cases (λ x. 1 ≤ x → (k : ℕ) × (k < m.furlongs i + l) × Road m v w k) mark (m.head i) w (λ e g. (l, omega (arith, L.long i h), rw e r)) (λ ne g. let s = P.shorter w g in (s.0, omega (arith, s.1), s.2));
    sums = omega (arith, P.sums, L.short i h, more);
  }
    where
      new : marked mark (m.head i) (m.head i) ≡ 1
      new = marked_cases (λ x. x ≡ 1) mark (m.head i) (m.head i) (λ e. omega arith) (λ ne. absurd (ne (omega arith)))

      more : sum m.places mark < sum m.places (marked mark (m.head i))
      more =
          sum_lt mark (marked mark (m.head i)) m.places (m.head i) (L.heads i h)
          (λ w q. marked_cases (λ x. mark w ≤ x) mark (m.head i) w (λ e. P.once w) (λ ne. omega arith))
          (omega (arith, new, unmarked least P))

  passed : {u l : ℕ} → Road m v u l → ((k : ℕ) → Road m v u k → l ≤ k) → (mark : ℕ → ℕ) × Passed m v l mark
  passed arrived least = (λ w. 0, record { once = λ w. omega arith; shorter = λ w h. absurd (omega arith); sums = omega arith })
  passed (along {l = l} i h e r) least =
      let rest : (k : ℕ) → Road m v (m.head i) k → l ≤ k = λ k s. omega (arith, least (m.furlongs i + k) (along i h e s)) in
      let P = passed r rest in
      (marked P.0 (m.head i), passed-more i h r rest P.1)

  pub distance_most : {u d : ℕ} → u < m.places → IsD m u v d → d ≤ (m.places - 1) * most_furlongs
  distance_most {u} {d} hu D =
      let P = passed D.road D.least in
      let fewer = sum_lt P.0 (λ w. 1) m.places u hu (λ w q. P.1.once w) (omega (arith, unmarked D.least P.1)) in
      omega (arith, P.1.sums, fewer, sum_ones m.places)

  -- on any sheet
  pub distance_far : {u d : ℕ} → u < m.places → IsD m u v d → d ≤ road_most
  distance_far hu D = omega (arith, distance_most hu D, L.ground.places)
