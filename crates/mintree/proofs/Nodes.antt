-- How a store keeps the rule of the nodes, and the invariants of the loops in `build` and `change`.
use mathlib.Core.Path.{◌≡◌, sym, ap}
use mathlib.Core.Logic.{◌≢◌}
use mathlib.Core.List.{List}
use Prim.Native.Nat.{ℕ, ◌+◌, ◌-◌, ◌*◌, ◌/◌, ◌%◌, ◌≤◌, ◌<◌, min}
use native.Mathlib.Decide.{ℕ_discrete}
use native.Mathlib.Omega.{arith}
use lib.ListN.{get_or, set, length-set}
use lib.Seq.{get_or-set_same, get_or-set_other}
use Rattle.std.proofs.Common.{rules}
use Rattle.mintree.specs.Mintree.{Room, Played, Same}

-- the word of a node, and the rule there
abbrev pub val : List ℕ → ℕ → ℕ → ℕ
val w tree p = get_or w (tree + p) 0

abbrev pub Rule : List ℕ → ℕ → ℕ → Type 0
Rule w tree p = val w tree p ≡ min (val w tree (2 * p)) (val w tree (2 * p + 1))

pub room_set : (w : List ℕ) (tree n k v : ℕ) → Room w tree n → Room (set w k v) tree n
room_set w tree n k v R = record { some = R.some; ends = simp length-set R.ends }

pub same_refl : (tree n : ℕ) (a : List ℕ) → Same tree n a a
same_refl tree n a = search rules

pub same_set : (tree n : ℕ) (a b : List ℕ) (k v : ℕ) → Same tree n a b → tree < k → k < tree + n → Same tree n a (set b k v)
same_set tree n a b k v S h l = search (rules, S.before, S.after, get_or-set_other, length-set)

-- a store at the node p leaves the rule at every node but p and the one above it
pub apart : (w : List ℕ) (tree p x q : ℕ) → q ≢ p → q ≢ p / 2 → Rule w tree q → Rule (set w (tree + p) x) tree q
apart w tree p x q ne up r =
    omega (arith, r, get_or-set_other w (tree + p) (tree + q) x 0 (omega arith), get_or-set_other w (tree + p) (tree + 2 * q) x 0 (omega arith), get_or-set_other w (tree + p) (tree + (2 * q + 1)) x 0 (omega arith))

-- the lesser of the two below p is stored there: the rule holds at p, and else but above p where it held
pub store : (w : List ℕ) (tree n p x : ℕ) → Room w tree n → 1 ≤ p → p < n → x ≡ min (val w tree (2 * p)) (val w tree (2 * p + 1))
    → (q : ℕ) → q ≢ p / 2 → (q ≢ p → Rule w tree q) → Rule (set w (tree + p) x) tree q
store w tree n p x R lo hi e q up others = elim (ℕ_discrete q p) [ yes s ↦ rw s here | no ne ↦ apart w tree p x q ne up (others ne) ]
  where
    here : Rule (set w (tree + p) x) tree p
    here = omega (arith, e, get_or-set_same w (tree + p) x 0 (omega arith), get_or-set_other w (tree + p) (tree + 2 * p) x 0 (omega arith), get_or-set_other w (tree + p) (tree + (2 * p + 1)) x 0 (omega arith))

-- a node and the other below the same one are the two below that one
pub pair : (w : List ℕ) (tree p : ℕ) → min (val w tree p) (val w tree (p + 1 - 2 * (p % 2))) ≡ min (val w tree (2 * (p / 2))) (val w tree (2 * (p / 2) + 1))
pair w tree p = elim (ℕ_discrete (p % 2) 0) [
  | yes e ↦ let a : 2 * (p / 2) ≡ p = omega arith in
      let b : p + 1 - 2 * (p % 2) ≡ 2 * (p / 2) + 1 = omega arith in
      omega (arith, ap (val w tree) a, ap (val w tree) b)
  | no e ↦ let a : 2 * (p / 2) + 1 ≡ p = omega arith in
      let b : p + 1 - 2 * (p % 2) ≡ 2 * (p / 2) = omega arith in
      omega (arith, ap (val w tree) a, ap (val w tree) b)
]

-- ---- `build`: the rule holds from the node p on; w₀ is the slice where the loop begins
pub record Built (w₀ w : List ℕ) (tree n p : ℕ) : Type 0 where
  pub room : Room w tree n
  pub low : 1 ≤ p
  pub high : p ≤ n
  pub same : Same tree n w₀ w
  pub done : (q : ℕ) → p ≤ q → q < n → Rule w tree q

pub built_start : (w : List ℕ) (tree n : ℕ) → Room w tree n → Built w w tree n n
built_start w tree n R = record { room = R; low = R.some; high = omega arith; same = same_refl tree n w; done = λ q lo lq. absurd (omega arith) }

pub built_step : (w₀ w : List ℕ) (tree n p x : ℕ) → Built w₀ w tree n p → 1 < p → x ≡ min (val w tree (2 * (p - 1))) (val w tree (2 * (p - 1) + 1))
    → Built w₀ (set w (tree + (p - 1)) x) tree n (p - 1)
built_step w₀ w tree n p x B h e = record {
  room = room_set w tree n (tree + (p - 1)) x B.room;
  low = omega arith;
  high = omega arith;
  same = same_set tree n w₀ w (tree + (p - 1)) x B.same (omega arith) (omega arith);
  done = λ q lo lq. store w tree n (p - 1) x B.room (omega arith) (omega arith) e q (omega arith) (λ ne. B.done q (omega arith) lq);
}

pub built_end : (w₀ w : List ℕ) (tree n p : ℕ) → Built w₀ w tree n p → p ≤ 1 → Played w tree n
built_end w₀ w tree n p B h = record { room = B.room; node = λ q lo lq. B.done q (omega arith) lq }

-- ---- `change`: x is the word of the node p, and the rule holds but at the node above p
pub record Loose (w₀ w : List ℕ) (tree n p x : ℕ) : Type 0 where
  pub room : Room w tree n
  pub low : 1 ≤ p
  pub high : p < 2 * n
  pub same : Same tree n w₀ w
  pub held : x ≡ val w tree p
  pub off : (q : ℕ) → 1 ≤ q → q < n → q ≢ p / 2 → Rule w tree q

pub loose_start : (w : List ℕ) (tree n i v : ℕ) → i < n → Played w tree n → Loose (set w (tree + (n + i)) v) (set w (tree + (n + i)) v) tree n (n + i) v
loose_start w tree n i v li P = record {
  room = room_set w tree n (tree + (n + i)) v P.room;
  low = omega arith;
  high = omega arith;
  same = same_refl tree n (set w (tree + (n + i)) v);
  held = sym (get_or-set_same w (tree + (n + i)) v 0 (omega arith));
  off = λ q lo lq up. apart w tree (n + i) v q (omega arith) up (P.node q lo lq);
}

pub loose_step : (w₀ w : List ℕ) (tree n p x y : ℕ) → Loose w₀ w tree n p x → 1 < p → y ≡ min x (val w tree (p + 1 - 2 * (p % 2))) → Loose w₀ (set w (tree + p / 2) y) tree n (p / 2) y
loose_step w₀ w tree n p x y L h e = record {
  room = room_set w tree n (tree + p / 2) y L.room;
  low = omega arith;
  high = omega arith;
  same = same_set tree n w₀ w (tree + p / 2) y L.same (omega arith) (omega arith);
  held = sym (get_or-set_same w (tree + p / 2) y 0 (omega arith));
  off = λ q lo lq up. store w tree n (p / 2) y L.room (omega arith) (omega arith) (omega (arith, pair w tree p)) q up (L.off q lo lq);
}

pub loose_end : (w₀ w : List ℕ) (tree n p x : ℕ) → Loose w₀ w tree n p x → p ≤ 1 → Played w tree n
loose_end w₀ w tree n p x L h = record { room = L.room; node = λ q lo lq. L.off q lo lq (omega arith) }
