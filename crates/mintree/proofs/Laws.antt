-- The laws of the least of n words, for callers.
use mathlib.Core.Path.{◌≡◌, sym, ◌∙◌, ap}
use mathlib.Core.Logic.{◌≢◌, ◌⊎◌, inl, inr, ⊎_elim}
use mathlib.Core.List.{List}
use Prim.Native.Nat.{ℕ, zero, suc, ◌+◌, ◌-◌, ◌*◌, ◌/◌, ◌%◌, ◌≤◌, ◌<◌, min}
use native.Mathlib.Decide.{ℕ_discrete, dec_lt}
use native.Mathlib.Omega.{arith}
use lib.ListN.{get_or, set}
use lib.Seq.{get_or-set_same, get_or-set_other}
use Rattle.mintree.specs.Mintree.{leaf, Room, Played, Least, Same}
use Rattle.mintree.proofs.Nodes.{val, room_set}

module _ (w : List ℕ) (tree n : ℕ) (P : Played w tree n) where
  -- the first node's word is at most every node's
  under : (f p : ℕ) → p ≤ f → 1 ≤ p → p < 2 * n → val w tree 1 ≤ val w tree p
  under zero p h lo hi = absurd (omega arith)
  under (suc f) p h lo hi = elim (ℕ_discrete p 1) [
    | yes e ↦ rw e (omega arith)
    | no ne ↦ omega (arith, under f (p / 2) (omega arith) (omega arith) (omega arith), P.node (p / 2) (omega arith) (omega arith), half)
  ]
    where
      half : min (val w tree (2 * (p / 2))) (val w tree (2 * (p / 2) + 1)) ≤ val w tree p
      half = elim (ℕ_discrete (p % 2) 0) [
        | yes e ↦ let a : 2 * (p / 2) ≡ p = omega arith in omega (arith, ap (val w tree) a)
        | no e ↦ let a : 2 * (p / 2) + 1 ≡ p = omega arith in omega (arith, ap (val w tree) a)
      ]

  -- a node's word is that of an index
  found : (f p : ℕ) → 2 * n ≤ p + f → 1 ≤ p → p < 2 * n → (j : ℕ) × (j < n) × (val w tree p ≡ val w tree (n + j))
  found zero p h lo hi = absurd (omega arith)
  found (suc f) p h lo hi = elim (dec_lt p n) [
    | yes l ↦ ⊎_elim (λ e. let r = found f (2 * p) (omega arith) (omega arith) (omega arith) in (r.0, r.1, e ∙ r.2)) (λ e. let r = found f (2 * p + 1) (omega arith) (omega arith) (omega arith) in (r.0, r.1, e ∙ r.2)) (one l)
    | no g ↦ (p - n, omega arith, ap (val w tree) (omega arith))
  ]
    where
      one : p < n → (val w tree p ≡ val w tree (2 * p)) ⊎ (val w tree p ≡ val w tree (2 * p + 1))
      one l = elim (dec_lt (val w tree (2 * p)) (val w tree (2 * p + 1))) [
        | yes a ↦ inl (omega (arith, P.node p lo l))
        | no a ↦ inr (omega (arith, P.node p lo l))
      ]

  pub least_of : Least w tree n (val w tree 1)
  least_of =
      let r = found (2 * n) 1 (omega arith) (omega arith) (omega arith) in
      record { at = r.0; inside = r.1; is = r.2; least = λ j lj. under (n + j) (n + j) (omega arith) (omega arith) (omega arith) }

-- there is but one least word
pub least_unique : (w : List ℕ) (tree n r s : ℕ) → Least w tree n r → Least w tree n s → r ≡ s
least_unique w tree n r s L M = omega (arith, L.is, M.is, L.least M.at M.inside, M.least L.at L.inside)

-- where every word holds its index as its rest by k, the least word's rest is the index whose word it is
pub packed : (w : List ℕ) (tree n r k : ℕ) → Least w tree n r → ((j : ℕ) → j < n → leaf w tree n j % k ≡ j) → (r % k < n) × (r ≡ leaf w tree n (r % k))
packed w tree n r k L each =
    let e : r % k ≡ L.at = ap (λ (x : ℕ). x % k) L.is ∙ each L.at L.inside in
    (rw e L.inside, rw e L.is)

-- what a caller stores elsewhere in the slice leaves the tournament as it is
pub played_set : (w : List ℕ) (tree n k x : ℕ) → Played w tree n → ((p : ℕ) → p < 2 * n → tree + p ≢ k) → Played (set w k x) tree n
played_set w tree n k x P ne = record {
  room = room_set w tree n k x P.room;
  node = λ p lo lp. omega (arith, P.node p lo lp, get_or-set_other w k (tree + p) x 0 (ne p (omega arith)), get_or-set_other w k (tree + 2 * p) x 0 (ne (2 * p) (omega arith)), get_or-set_other w k (tree + (2 * p + 1)) x 0 (ne (2 * p + 1) (omega arith)));
}

-- after `build` the words are as they were
pub word_same : (a b : List ℕ) (tree n j : ℕ) → Same tree n a b → leaf b tree n j ≡ leaf a tree n j
word_same a b tree n j S = S.after (tree + (n + j)) (omega arith)

-- after `change`: the word that was stored, the other words, and what lies outside the tournament
module _ (a b : List ℕ) (tree n i x : ℕ) (S : Same tree n (set a (tree + (n + i)) x) b) where
  pub word_new : Room a tree n → i < n → leaf b tree n i ≡ x
  word_new R h = S.after (tree + (n + i)) (omega arith) ∙ get_or-set_same a (tree + (n + i)) x 0 (omega arith)

  pub word_other : (j : ℕ) → j ≢ i → leaf b tree n j ≡ leaf a tree n j
  word_other j ne = S.after (tree + (n + j)) (omega arith) ∙ get_or-set_other a (tree + (n + i)) (tree + (n + j)) x 0 (omega arith)

  pub kept_before : 1 ≤ n → (k : ℕ) → k ≤ tree → get_or b k 0 ≡ get_or a k 0
  kept_before some k h = S.before k h ∙ get_or-set_other a (tree + (n + i)) k x 0 (omega arith)

  pub kept_after : i < n → (k : ℕ) → tree + 2 * n ≤ k → get_or b k 0 ≡ get_or a k 0
  kept_after l k h = S.after k (omega arith) ∙ get_or-set_other a (tree + (n + i)) k x 0 (omega arith)

-- `build` and `change` leave no choice: the slice before them gives every word after them
module _ (a b c : List ℕ) (tree n : ℕ) (S : Same tree n a b) (T : Same tree n a c) (P : Played b tree n) (Q : Played c tree n) where
  nodes-same : (f p : ℕ) → n ≤ p + f → 1 ≤ p → val b tree p ≡ val c tree p
  nodes-same zero p h lo = S.after (tree + p) (omega arith) ∙ sym (T.after (tree + p) (omega arith))
  nodes-same (suc f) p h lo = elim (dec_lt p n) [
    | yes l ↦ omega (arith, P.node p lo l, Q.node p lo l, nodes-same f (2 * p) (omega arith) (omega arith), nodes-same f (2 * p + 1) (omega arith) (omega arith))
    | no g ↦ S.after (tree + p) (omega arith) ∙ sym (T.after (tree + p) (omega arith))
  ]

  pub played_unique : (k : ℕ) → get_or b k 0 ≡ get_or c k 0
  played_unique k = elim (dec_lt tree k) [
    | yes l ↦ let e : tree + (k - tree) ≡ k = omega arith in rw e at (nodes-same n (k - tree) (omega arith) (omega arith))
    | no g ↦ S.before k (omega arith) ∙ sym (T.before k (omega arith))
  ]
