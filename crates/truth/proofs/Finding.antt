-- The first faulty pair, column by column, and the number that the check ends with.
use Prim.Native.Nat.{ℕ, suc, ◌+◌, ◌-◌, ◌≤◌, ◌<◌}
use native.Mathlib.Omega.{arith}
use native.Mathlib.Decide.{dec_lt}
use mathlib.Core.Path.{◌≡◌, refl, sym, ap, ◌∙◌}
use mathlib.Core.Logic.{⊎_elim}
use mathlib.Core.Bool.{Bool, true, false}
use mathlib.Core.List.{List}
use lib.Dec.{ltb, eqb}
use lib.ListN.{length, get_or, take}
use borrow.Author.Tests.{ltb-true, ltb-false, lt-ltb, le-ltb, eqb-true, eqb-false}
use Rattle.std.specs.Prelude.{Option, Some, None, IfSome, Result}
use Rattle.paper.specs.declared.refusal.Refusal.TheVariants.{UselessBlock}
use Rattle.paper.specs.Refusal.{number_of, numbered}
use Rattle.paper.specs.Test.{due}
use Rattle.paper.specs.Map.{Map}
use Rattle.paper.specs.Truth.{Used}
use Rattle.paper.specs.Verdict.{fault, useful, verdict}
use Rattle.paper.proofs.LaidOut.{LaidOut}
use Rattle.paper.proofs.Count.{below_suc}
use Rattle.paper.proofs.Block.{block_is}
use Rattle.paper.proofs.Test.{every_true}
use Rattle.paper.proofs.Verdict.{used_of, verdict_zero, fault-same}
use Rattle.paper.proofs.Due.{verdict_pair_due, verdict_15}
use Rattle.truth.proofs.Scans.{every_not, check_taken}
use Rattle.truth.specs.declared.pairs.Fault as code
use Rattle.truth.specs.Table.{used, all_used}
use Rattle.truth.specs.Faults.{Fault, Looked, none_below, found_by, number_of_check}
use Rattle.truth.proofs.Marking.{Marks}

-- number is due for u and some v below k, and nothing for u and a place before v
pub record Due (m : Map) (d : ℕ → ℕ → ℕ) (k u number : ℕ) : Type 0 where
  pub column : ℕ
  pub under : column < k
  pub number_is : fault m d u column ≡ number
  pub some : 0 < number
  pub first : (v : ℕ) → v < column → fault m d u v ≡ 0

-- over the first k columns of a table d of road distances: nothing is due for the places before the fault's, and for that place its number
pub record Found (m : Map) (d : ℕ → ℕ → ℕ) (k : ℕ) (f : Fault) : Type 0 where
  pub within : f.place ≤ m.places
  pub clean : (u v : ℕ) → u < f.place → v < k → fault m d u v ≡ 0
  pub due : f.place < m.places → Due m d k f.place f.number

pub looked_down : (f : ℕ → ℕ) (old new : Fault) → Looked f old new → new.place ≤ old.place
looked_down f old new S = ⊎_elim (λ e. omega (arith, ap (λ (f : Fault). f.place) e)) (λ w. omega arith) S.found

pub found_none : (m : Map) (d : ℕ → ℕ → ℕ) (f : Fault) → f.place ≡ m.places → Found m d 0 f
found_none m d f e = record { within = omega arith; clean = λ u v p q. absurd (omega arith); due = λ p. absurd (omega arith) }

module _ {m : Map} (L : LaidOut m) where
  -- t holds the distances to k
  module _ (d : ℕ → ℕ → ℕ) (k : ℕ) (t : ℕ → ℕ) (old new : Fault) (same : (x : ℕ) → x < m.places → d x k ≡ t x) (F : Found m d k old) (S : Looked (λ u. fault m (λ x y. t x) u k) old new) where
    by-column : (u : ℕ) → u < m.places → fault m d u k ≡ fault m (λ x y. t x) u k
    by-column u p = fault-same L d (λ x y. t x) u k p same

    not-above : new.place ≤ old.place
    not-above = looked_down _ old new S

    clean_more : (u v : ℕ) → u < new.place → v < k + 1 → fault m d u v ≡ 0
    clean_more u v p q =
        below_suc (fault m d u v ≡ 0) v k (omega arith)
        (λ e. rw e (by-column u (omega (arith, F.within, not-above)) ∙ S.clean u p))
        (λ r. F.clean u v (omega (arith, not-above)) r)

    due-old : new ≡ old → new.place < m.places → Due m d (k + 1) new.place new.number
    due-old e p = rw e (record { column = D.column; under = omega (arith, D.under); number_is = D.number_is; some = D.some; first = D.first })
      where
        D : Due m d k old.place old.number
        D = F.due (omega (arith, ap (λ (f : Fault). f.place) e))

    due-new : new.place < old.place → fault m (λ x y. t x) new.place k ≡ new.number → 0 < new.number → Due m d (k + 1) new.place new.number
    due-new p e z = record {
      column = k;
      under = omega arith;
      number_is = by-column new.place (omega (arith, F.within)) ∙ e;
      some = z;
      first = λ v q. F.clean new.place v p q;
    }

    pub found-more : Found m d (k + 1) new
    found-more = record {
      within = omega (arith, F.within, not-above);
      clean = clean_more;
      due = λ p. ⊎_elim (λ e. due-old e p) (λ w. due-new w.0 w.1 w.2) S.found;
    }

  -- all pairs are gone through
  module _ (d : ℕ → ℕ → ℕ) (f : Fault) (l : List ℕ) (F : Found m d m.places f) (M : Marks m m.places f.place l) where
    by-fault : f.place < m.places → verdict m d ≡ f.number
    by-fault p =
        let D : Due m d m.places f.place f.number = F.due p in
        let n : ℕ = f.number - 1 in
        let e : f.number ≡ suc n = omega (arith, D.some) in
        verdict_pair_due m d f.place D.column n p D.under (record { rows = λ x q y r. F.clean x y q r; row = D.first }) (D.number_is ∙ e) ∙ sym e

    module _ (none : m.places ≤ f.place) where
      all-clean : (u v : ℕ) → u < m.places → v < m.places → fault m d u v ≡ 0
      all-clean u v p q = F.clean u v (omega arith) q

      -- a useful block is marked
      useful-marked : (b : ℕ) → b < m.blocks → Used m b → get_or l b 0 ≡ used
      useful-marked b p U =
          let u : ℕ = m.owner b in
          M.whole u U.place b (omega (arith, L.ground.owners b p)) U.under (λ e. U.other (sym e)) (block_is L.ground u U.place b p U.covered)

      unmarked-useless : (b : ℕ) → b < m.blocks → (get_or l b 0 ≡ used → ⊥) → useful m b ≡ false
      unmarked-useless b p ne = go (useful m b) refl
        where
          go : (t : Bool) → useful m b ≡ t → useful m b ≡ false
          go true e = absurd (ne (useful-marked b p (used_of m b e)))
          go false e = e

      by-marks : (t : Bool) → all_used m.blocks l ≡ t → verdict m d ≡ due t 15
      by-marks true e = verdict_zero m d all-clean (λ b p. M.sound b p (eqb-true _ _ (every_true m.blocks (λ b. eqb (get_or l b 0) used) e b p)))
      by-marks false e =
          let (b, p, q) = every_not m.blocks (λ b. eqb (get_or l b 0) used) e in
          verdict_15 m d (record { rows = λ x q y r. all-clean x y q r; row = λ y r. absurd (omega arith) }) b p (unmarked-useless b p (eqb-false _ _ q))

    pub number_is : number_of_check m.places m.blocks l f ≡ verdict m d
    unfolding number_of_check
    number_is = go (ltb f.place m.places) refl
      where
        go : (t : Bool) → ltb f.place m.places ≡ t → elim t [ true ↦ f.number | false ↦ due (all_used m.blocks l) 15 ] ≡ verdict m d
        go true e = sym (by-fault (ltb-true _ _ e))
        go false e = sym (by-marks (ltb-false _ _ e) (all_used m.blocks l) refl)

-- the number, test by test
module _ (places blocks : ℕ) (l : List ℕ) (f : Fault) where
  pub number_fault : f.place < places → f.number ≡ number_of_check places blocks l f
  unfolding number_of_check
  number_fault h = rw (lt-ltb f.place places h, number_of_check)

  pub number_marks : places ≤ f.place → (t : Bool) → t ≡ all_used blocks l → due t 15 ≡ number_of_check places blocks l f
  unfolding number_of_check
  number_marks h t e = rw (le-ltb f.place places h, number_of_check) (ap (λ (x : Bool). due x 15) e)

-- the same case by case: of a fault that was found, of marks of every block, of marks that lack one
module _ {N : Type 0} (value : N → ℕ) (places blocks : ℕ) (l : List ℕ) (fault : Option (code.Fault N)) where
  pub number_found : (f : code.Fault N) → fault ≡ Some f → IfSome fault (λ f. f.place < places) → value f.refusal ≡ number_of_check places blocks l (found_by value places fault)
  number_found f e h = let p : f.place < places = rw e at h in rw e (number_fault places blocks l (found_by value places (Some f)) p)

  pub number_marked : fault ≡ None → all_used blocks l ≡ true → 0 ≡ number_of_check places blocks l (found_by value places fault)
  number_marked e t = rw e (number_marks places blocks l (none_below places) (omega arith) true (sym t))

  pub number_useless : fault ≡ None → all_used blocks l ≡ false → 15 ≡ number_of_check places blocks l (found_by value places fault)
  number_useless e t = rw e (number_marks places blocks l (none_below places) (omega arith) false (sym t))

-- the clause of `final_number` at numbers: it gives what is due by any place and number, a fault's where the place is below `places`, and the first blocks' marks
module _ (places blocks place number : ℕ) (marks : List ℕ) (fault : Option (code.Fault ℕ)) (found : place < places → fault ≡ Some (record { place = place; refusal = number })) (none : places ≤ place → fault ≡ None) where
  fault_in : Dec (place < places) → IfSome fault (λ f. f.place < places)
  fault_in (yes p) = rw (found p) p
  fault_in (no q) = rw (none (omega arith)) tt

  due-same : Dec (place < places) → number_of_check places blocks marks (found_by (λ n. n) places fault) ≡ number_of_check places blocks marks (record { place = place; number = number })
  unfolding number_of_check
  due-same (yes p) = rw (found p)
  due-same (no q) = rw (none (omega arith), le-ltb places places (omega arith), le-ltb place places (omega arith), number_of_check)

  pub number_at : {A : Type 0} (result : Result A ℕ) → blocks ≤ length marks
      → ((value : ℕ → ℕ) → ((n : ℕ) → n ≡ number_of UselessBlock → value n ≡ 15) → (p : ℕ) → IfSome fault (λ f. f.place < p)
      → numbered value result ≡ number_of_check p (length (take blocks marks)) (take blocks marks) (found_by value p fault))
      → numbered (λ n. n) result ≡ number_of_check places blocks marks (record { place = place; number = number })
  number_at result h clause = clause (λ n. n) (λ n e. e) places (fault_in (dec_lt place places)) ∙ check_taken places blocks marks _ h ∙ due-same (dec_lt place places)
