-- The stages up to one of them: each holds, they ascend, and a list has how many leave each place.
use Prim.Native.Nat.{ℕ, zero, suc, ◌+◌, ◌-◌, ◌*◌, ◌≤◌, ◌<◌}
use native.Mathlib.Omega.{arith}
use native.Mathlib.Decide.{ℕ_discrete}
use native.Mathlib.Numerals.{add-one}
use mathlib.Core.Path.{◌≡◌, refl, sym, ◌∙◌}
use mathlib.Core.Bool.{Bool, true, false}
use mathlib.Core.List.{List}
use lib.Dec.{leb, ltb, eqb}
use lib.ListN.{length, get_or, set, length-set}
use lib.Seq.{get_or-set_same, get_or-set_other}
use borrow.Author.Tests.{le-leb, lt-leb, eq-eqb, ne_eqb, ltb-true}
use Rattle.paper.specs.Sizes.{most_places, most_leaving}
use Rattle.paper.specs.Sum.{sum, one}
use Rattle.paper.specs.Test.{both, either, every}
use Rattle.paper.specs.Map.{Map}
use Rattle.paper.specs.Stage.{leaving}
use Rattle.paper.specs.Slice.{Untouched}
use Rattle.paper.specs.Layout.{stage_holds, stage_ascends, stages_hold}
use Rattle.paper.proofs.Test.{both_true, both_left, both_right, both_false_right, every_true, every_of, every_false, every_more}
use Rattle.sheet.specs.Records.{Zeros, Leaving}
use Rattle.sheet.proofs.Pairs.{pair_leb}

-- how many of the first n stages leave u
pub leaving_below : Map → ℕ → ℕ → ℕ
leaving_below m n u = sum n (λ i. one (eqb (m.tail i) u))

more_leave : (m : Map) (n u : ℕ) → m.tail n ≡ u → leaving_below m (n + 1) u ≡ leaving_below m n u + 1
unfolding leaving_below sum
more_leave m n u e = rw (add-one n, eq-eqb (m.tail n) u e)

as_many_leave : (m : Map) (n u : ℕ) → (m.tail n ≡ u → ⊥) → leaving_below m (n + 1) u ≡ leaving_below m n u
unfolding leaving_below sum
as_many_leave m n u e = rw (add-one n, ne_eqb (m.tail n) u e) (omega arith)

leave_up : (m : Map) (u n d : ℕ) → leaving_below m n u ≤ leaving_below m (n + d) u
unfolding leaving_below sum
leave_up m u n zero = let e : n + zero ≡ n = omega arith in rw e (omega arith)
leave_up m u n (suc d) = let e : n + suc d ≡ suc (n + d) = omega arith in rw e (omega (arith, leave_up m u n d))

leave_all : (m : Map) (u : ℕ) → leaving_below m m.stages u ≡ leaving m u
unfolding leaving_below leaving
leave_all m u = refl

leave_most : (m : Map) (u n : ℕ) → n ≤ m.stages → leaving_below m n u ≤ leaving m u
leave_most m u n p =
    let e : n + (m.stages - n) ≡ m.stages = omega arith in
    omega (arith, leave_all m u, rw e at (leave_up m u n (m.stages - n)))

-- a stage as one number, and the least that the next may have
abbrev pub stage_key : Map → ℕ → ℕ
stage_key m i = m.tail i * most_places + m.head i

abbrev pub stage_from : Map → ℕ → ℕ
stage_from m zero = 0
stage_from m (suc i) = stage_key m i + 1

before-either : (t u : Bool) → (elim t [ true ↦ true | false ↦ u ]) ≡ either t u
before-either true u = refl
before-either false u = refl

-- the stage i holds: its ends are places, which are not more than the most
pub record Held (m : Map) (i : ℕ) : Type 0 where
  pub few : m.places ≤ most_places
  pub more : i < m.stages
  pub holds : stage_holds m i ≡ true
  pub tail : m.tail i < m.places
  pub head : m.head i < m.places

pub held : (m : Map) (i : ℕ) → m.places ≤ most_places → i < m.stages → stage_holds m i ≡ true → Held m i
unfolding stage_holds
held m i few more h =
    let t : Bool = ltb (m.tail i) m.places in
    let g : Bool = ltb (m.head i) m.places in
    let tg : both t g ≡ true = both_left (both t g) _ h in
    record { few = few; more = more; holds = h; tail = ltb-true _ _ (both_left t g tg); head = ltb-true _ _ (both_right t g tg) }

pub stage_fails : (m : Map) (i : ℕ) → i < m.stages → stage_holds m i ≡ false → false ≡ stages_hold m
unfolding stages_hold
stage_fails m i more e = rw (every_false m.stages (stage_holds m) i more e)

-- the first i stages hold, ascend and are counted; the words beyond the places are as they were
pub record Staged (m : Map) (i from : ℕ) (old l : List ℕ) : Type 0 where
  pub each : every i (stage_holds m) ≡ true
  pub sorted : every i (stage_ascends m) ≡ true
  pub next : from ≡ stage_from m i
  pub long : m.places ≤ length l
  pub counted : (u : ℕ) → u < m.places → get_or l u 0 ≡ leaving_below m i u
  pub few : (u : ℕ) → u < m.places → get_or l u 0 ≤ most_leaving
  pub beyond : Untouched m.places old l

pub staged_start : (m : Map) (n : ℕ) (l : List ℕ) → n ≡ m.places → Zeros n l → Staged m 0 0 l l
unfolding every leaving_below sum
staged_start m n l e Z = record {
  each = refl;
  sorted = refl;
  next = refl;
  long = omega (arith, Z.long);
  counted = λ u p. Z.zeros u (omega arith);
  few = λ u p. omega (arith, Z.zeros u (omega arith));
  beyond = λ k p. refl;
}

module _ {m : Map} {i from : ℕ} {old l : List ℕ} (S : Staged m i from old l) (H : Held m i) where
  -- the test that the code makes is that of the paper
  ascends-by : stage_ascends m i ≡ leb from (stage_key m i)
  unfolding stage_ascends
  ascends-by = rw S.next (go i S.each H)
    where
      go : (i : ℕ) → every i (stage_holds m) ≡ true → Held m i → stage_ascends m i ≡ leb (stage_from m i) (stage_key m i)
      go zero h H = sym (le-leb 0 (stage_key m 0) (omega arith))
      go (suc j) h H =
          let J : Held m j = held m j H.few (omega (arith, H.more)) (every_true (suc j) (stage_holds m) h j (omega arith)) in
          let e : m.tail j * most_places + suc (m.head j) ≡ stage_key m j + 1 = omega arith in
          before-either (ltb (m.tail j) (m.tail (suc j))) _ ∙ rw e at (pair_leb most_places (m.tail j) (suc (m.head j)) (m.tail (suc j)) (m.head (suc j)) (omega arith) (omega arith))

  pub out_of_order : stage_key m i < from → false ≡ stages_hold m
  unfolding stages_hold
  out_of_order h =
      rw (every_false m.stages (stage_ascends m) i H.more (ascends-by ∙ lt-leb from (stage_key m i) h)) (sym (both_false_right (every m.stages (stage_holds m)) false refl))

  -- t is the tail, by the name that the code has for it
  module _ (t : ℕ) (is : t ≡ m.tail i) where
    inside : t < m.places
    inside = omega (arith, H.tail)

    pub ninth : most_leaving ≤ get_or l t 0 → false ≡ stages_hold m
    unfolding stages_hold
    ninth h =
        let nine : most_leaving < leaving m t = omega (arith, S.counted t inside, more_leave m i t (sym is), leave_most m t (i + 1) (omega (arith, H.more))) in
        let e : Bool = every m.stages (stage_holds m) in
        let a : Bool = every m.stages (stage_ascends m) in
        let f : Bool = every m.places (λ u. leb (leaving m u) most_leaving) in
        let z : f ≡ false = every_false m.places (λ u. leb (leaving m u) most_leaving) t inside (lt-leb (leaving m t) most_leaving nine) in
        sym (both_false_right e (both a f) (both_false_right a f z))

    pub staged-step : (n : ℕ) → from ≤ stage_key m i → get_or l t 0 < most_leaving → n ≡ stage_key m i + 1 → Staged m (i + 1) n old (set l t (get_or l t 0 + 1))
    staged-step n o c e = record {
      each = every_more i (stage_holds m) S.each H.holds;
      sorted = every_more i (stage_ascends m) S.sorted (ascends-by ∙ le-leb from (stage_key m i) o);
      next = rw (add-one i) e;
      long = simp length-set S.long;
      counted = counted;
      few = few;
      beyond = λ k p. get_or-set_other l t k (get_or l t 0 + 1) 0 (λ d. omega (arith, inside)) ∙ S.beyond k p;
    }
      where
        new : get_or (set l t (get_or l t 0 + 1)) t 0 ≡ get_or l t 0 + 1
        new = get_or-set_same l t (get_or l t 0 + 1) 0 (omega (arith, S.long, inside))

        counted : (u : ℕ) → u < m.places → get_or (set l t (get_or l t 0 + 1)) u 0 ≡ leaving_below m (i + 1) u
        counted u p = elim (ℕ_discrete u t) [
          | yes d ↦ rw d (omega (arith, new, S.counted t inside, more_leave m i t (sym is)))
          | no d ↦ rw (get_or-set_other l t u (get_or l t 0 + 1) 0 d) (S.counted u p ∙ sym (as_many_leave m i u (λ e. d (sym e ∙ sym is))))
        ]

        few : (u : ℕ) → u < m.places → get_or (set l t (get_or l t 0 + 1)) u 0 ≤ most_leaving
        few u p = elim (ℕ_discrete u t) [
          | yes d ↦ rw d (omega (arith, new))
          | no d ↦ rw (get_or-set_other l t u (get_or l t 0 + 1) 0 d) (S.few u p)
        ]

pub staged_end : {m : Map} {i from : ℕ} {old l : List ℕ} → Staged m i from old l → i ≡ m.stages → (true ≡ stages_hold m) × Leaving m l
unfolding stages_hold
staged_end {m} {l = l} S e = (sym (both_true _ _ (rw e at S.each) (both_true _ _ (rw e at S.sorted) (every_of m.places (λ u. leb (leaving m u) most_leaving) few))), counted)
  where
    counted : Leaving m l
    counted u p = S.counted u p ∙ rw e (leave_all m u)

    few : (u : ℕ) → u < m.places → leb (leaving m u) most_leaving ≡ true
    few u p = le-leb (leaving m u) most_leaving (omega (arith, counted u p, S.few u p))
