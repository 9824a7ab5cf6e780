-- The check's number over the road distances is 0 exactly when the map tells the truth.
use Prim.Native.Nat.{ℕ, ◌+◌, ◌*◌, ◌≤◌, ◌<◌}
use native.Mathlib.Omega.{arith}
use native.Mathlib.Decide.{ℕ_discrete}
use mathlib.Core.Path.{◌≡◌, refl, sym, ◌∙◌, ap}
use mathlib.Core.Bool.{Bool, true, not}
use mathlib.Core.Option.{Option, some, none}
use lib.Dec.{leb, eqb}
use borrow.Author.Tests.{leb-true, le-leb, eqb-true, eqb-false, ne_eqb, eq-eqb, not-true}
use Rattle.paper.specs.Sizes.{ratio_unit}
use Rattle.paper.specs.Test.{both, every, due, first_nonzero}
use Rattle.paper.specs.Map.{Map}
use Rattle.paper.specs.Crow.{crow}
use Rattle.paper.specs.Stage.{stage_of}
use Rattle.paper.specs.Block.{covers, block_of}
use Rattle.paper.specs.Truth.{Truth, Told, Used}
use Rattle.paper.proofs.LaidOut.{LaidOut}
use Rattle.paper.specs.Verdict.{fault_by, fault, first_fault, useful, verdict, Distances}
use Rattle.paper.proofs.Test.{both_true, both_left, both_right, every_true, every_of, any_true, any_of, due_true, due_zero, or_left, or_right, or_zero, first_zero, first_of_lem, first-same}
use Rattle.paper.proofs.Block.{named_under}
use Rattle.paper.proofs.Road.{distance_one}

-- nothing is due for u and v, u not v
pub record Pair (m : Map) (d : ℕ → ℕ → ℕ) (u v : ℕ) : Type 0 where
  pub block : ℕ
  pub covered : block_of m u v ≡ some block
  pub colour : m.furlongs (stage_of m u (m.colour block)) + d (m.head (stage_of m u (m.colour block))) v ≡ d u v
  pub low : m.low block * crow m u v ≤ ratio_unit * d u v
  pub high : ratio_unit * d u v ≤ m.high block * crow m u v

module _ (m : Map) (d : ℕ → ℕ → ℕ) (u v : ℕ) where
  pub apart : (u ≡ v → ⊥) → fault m d u v ≡ fault_by m d u v (block_of m u v)
  unfolding fault
  apart ne = rw (ne_eqb u v ne, fault)

  pub pair : (u ≡ v → ⊥) → fault m d u v ≡ 0 → Pair m d u v
  pair ne h = go (block_of m u v) refl (sym (apart ne) ∙ h)
    where
      go : (r : Option ℕ) → block_of m u v ≡ r → fault_by m d u v r ≡ 0 → Pair m d u v
      go none e h = absurd (omega arith)
      go (some b) e h =
          let i : ℕ = stage_of m u (m.colour b) in
          let low : Bool = leb (m.low b * crow m u v) (ratio_unit * d u v) in
          let high : Bool = leb (ratio_unit * d u v) (m.high b * crow m u v) in
          let same : Bool = eqb (m.furlongs i + d (m.head i) v) (d u v) in
          let ends : both low high ≡ true = due_true (both low high) 14 (omega arith) (or_right (due same 13) _ h) in
          record {
            block = b;
            covered = e;
            colour = eqb-true _ _ (due_true same 13 (omega arith) (or_left (due same 13) _ h));
            low = leb-true _ _ (both_left low high ends);
            high = leb-true _ _ (both_right low high ends);
          }

  pub pair_of : (u ≡ v → ⊥) → Pair m d u v → fault m d u v ≡ 0
  pair_of ne P =
      let b : ℕ = P.block in
      let i : ℕ = stage_of m u (m.colour b) in
      let low : Bool = leb (m.low b * crow m u v) (ratio_unit * d u v) in
      let high : Bool = leb (ratio_unit * d u v) (m.high b * crow m u v) in
      let same : Bool = eqb (m.furlongs i + d (m.head i) v) (d u v) in
      apart ne ∙ rw P.covered
      (or_zero (due same 13) (due (both low high) 14) (due_zero same 13 (eq-eqb _ _ P.colour))
      (due_zero (both low high) 14 (both_true low high (le-leb _ _ P.low) (le-leb _ _ P.high))))

pub fault_self : (m : Map) (d : ℕ → ℕ → ℕ) (u v : ℕ) → u ≡ v → fault m d u v ≡ 0
unfolding fault
fault_self m d u v e = rw (eq-eqb u v e, fault)

pub used_of : (m : Map) (b : ℕ) → useful m b ≡ true → Used m b
unfolding useful
used_of m b h =
    let (v, p, e) = any_true m.places (λ v. both (not (eqb v (m.owner b))) (covers m (m.owner b) v b)) h in
    let n : Bool = not (eqb v (m.owner b)) in
    let c : Bool = covers m (m.owner b) v b in
    record { place = v; under = p; other = eqb-false _ _ (not-true _ (both_left n c e)); covered = both_right n c e }

pub useful_of : (m : Map) (b : ℕ) → Used m b → useful m b ≡ true
unfolding useful
useful_of m b U =
    any_of m.places (λ v. both (not (eqb v (m.owner b))) (covers m (m.owner b) v b)) U.place U.under
    (both_true (not (eqb U.place (m.owner b))) (covers m (m.owner b) U.place b) (ap not (ne_eqb _ _ U.other)) U.covered)

module _ (m : Map) (d : ℕ → ℕ → ℕ) where
  pub verdict_pair : verdict m d ≡ 0 → (u v : ℕ) → u < m.places → v < m.places → fault m d u v ≡ 0
  unfolding verdict first_fault
  verdict_pair h u v hu hv =
      first_zero m.places (fault m d u) (first_zero m.places (λ u. first_nonzero m.places (fault m d u)) (or_left (first_fault m d) _ h) u hu) v hv

  pub verdict-used : verdict m d ≡ 0 → (b : ℕ) → b < m.blocks → Used m b
  unfolding verdict
  verdict-used h b p =
      used_of m b (every_true m.blocks (useful m) (due_true (every m.blocks (useful m)) 15 (omega arith) (or_right (first_fault m d) _ h)) b p)

  pub verdict_zero : ((u v : ℕ) → u < m.places → v < m.places → fault m d u v ≡ 0) → ((b : ℕ) → b < m.blocks → Used m b) → verdict m d ≡ 0
  unfolding verdict first_fault
  verdict_zero f g =
      or_zero (first_fault m d) (due (every m.blocks (useful m)) 15)
      (first_of_lem m.places (λ u. first_nonzero m.places (fault m d u)) (λ u hu. first_of_lem m.places (fault m d u) (λ v. f u v hu)))
      (due_zero (every m.blocks (useful m)) 15 (every_of m.blocks (useful m) (λ b p. useful_of m b (g b p))))

module _ {m : Map} (L : LaidOut m) where
  -- the stage that a block of u names leads to a place
  pub led : (u v b : ℕ) → block_of m u v ≡ some b → m.head (stage_of m u (m.colour b)) < m.places
  led u v b e = L.heads (stage_of m u (m.colour b)) (named_under L u v b e)

  module _ (d : ℕ → ℕ → ℕ) (D : Distances m d) where
    pub verdict-truth : verdict m d ≡ 0 → Truth m
    verdict-truth h = record {
      reach = λ u v hu hv. record { dist = d u v; is_d = D u v hu hv };
      told = λ u v hu hv ne. tells u v hu hv (pair m d u v ne (verdict_pair m d h u v hu hv));
      used = verdict-used m d h;
    }
      where
        tells : (u v : ℕ) → u < m.places → v < m.places → Pair m d u v → Told m u v
        tells u v hu hv P =
            let x : ℕ = m.head (stage_of m u (m.colour P.block)) in
            record {
              block = P.block;
              covered = P.covered;
              tells = record {
                colour = λ e f E G. omega (arith, distance_one (D u v hu hv) E, distance_one (D x v (led u v P.block P.covered) hv) G);
                low = λ e E. omega (arith, distance_one (D u v hu hv) E);
                high = λ e E. omega (arith, distance_one (D u v hu hv) E);
              };
            }

    pub truth-verdict : Truth m → verdict m d ≡ 0
    truth-verdict T = verdict_zero m d (λ u v hu hv. go u v hu hv (ℕ_discrete u v)) T.used
      where
        go : (u v : ℕ) → u < m.places → v < m.places → Dec (u ≡ v) → fault m d u v ≡ 0
        go u v hu hv (yes e) = fault_self m d u v e
        go u v hu hv (no ne) =
            let w : Told m u v = T.told u v hu hv ne in
            pair_of m d u v ne (record {
              block = w.block;
              covered = w.covered;
              colour = w.tells.colour _ _ (D u v hu hv) (D _ v (led u v w.block w.covered) hv);
              low = w.tells.low _ (D u v hu hv);
              high = w.tells.high _ (D u v hu hv);
            })

  -- what is due for u and v hangs on the distances to v alone
  pub fault-same : (d d' : ℕ → ℕ → ℕ) (u v : ℕ) → u < m.places → ((x : ℕ) → x < m.places → d x v ≡ d' x v) → fault m d u v ≡ fault m d' u v
  fault-same d d' u v hu same = go (ℕ_discrete u v)
    where
      by : (r : Option ℕ) → block_of m u v ≡ r → fault_by m d u v r ≡ fault_by m d' u v r
      by none e = refl
      by (some b) e = rw (same u hu, same (m.head (stage_of m u (m.colour b))) (led u v b e))

      go : Dec (u ≡ v) → fault m d u v ≡ fault m d' u v
      go (yes e) = fault_self m d u v e ∙ sym (fault_self m d' u v e)
      go (no ne) = apart m d u v ne ∙ by (block_of m u v) refl ∙ sym (apart m d' u v ne)

  -- two tables of road distances give one number
  pub verdict_one : (d d' : ℕ → ℕ → ℕ) → Distances m d → Distances m d' → verdict m d ≡ verdict m d'
  unfolding verdict first_fault
  verdict_one d d' D D' =
      rw (first-same m.places (λ u. first_nonzero m.places (fault m d u)) (λ u. first_nonzero m.places (fault m d' u))
      (λ u hu. first-same m.places (fault m d u) (fault m d' u)
      (λ v hv. fault-same d d' u v hu (λ x hx. distance_one (D x v hx hv) (D' x v hx hv)))))
