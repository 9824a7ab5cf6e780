-- How a search starts: what stands once v has its length.
use mathlib.Core.Path.{◌≡◌, ap, ◌∙◌}
use mathlib.Core.Logic.{◌≢◌}
use mathlib.Core.List.{List, ◌++◌}
use Prim.Native.Nat.{ℕ, ◌+◌, ◌≤◌, ◌<◌}
use native.Mathlib.Decide.{ℕ_discrete}
use native.Mathlib.Omega.{arith}
use lib.ListN.{length, get_or, set, take, drop, replicate, length-replicate}
use lib.Seq.{get_or-set_other, length-take-le}
use Rattle.std.proofs.Math.ListN.{get_or-append}
use Rattle.std.proofs.lemmas.List.{get_or-replicate}
use Rattle.mintree.specs.Mintree.{Same}
use Rattle.std.proofs.Common.{rules}
use Rattle.paper.specs.Map.{Map}
use Rattle.paper.specs.Road.{arrived}
use Rattle.roads.specs.Towards.{far}
use Rattle.roads.specs.Search.{packed, word_of, Done, Sound}

-- the library's fill gives no place a length
pub filled_far : (n : ℕ) (l new : List ℕ) → n ≤ length l → new ≡ replicate (length (take n l)) far → (k : ℕ) → k < n → get_or (new ++ drop n l) k 0 ≡ far
filled_far n l new p e k q = let f : new ≡ replicate n far = rw (length-take-le n l p) at e in
    rw f (get_or-append (replicate n far) (drop n l) 0 k (omega (arith, length-replicate n far)) ∙ get_or-replicate n k far 0 q)

-- the places have no length
pub record Blank (n : ℕ) (column w : List ℕ) : Type 0 where
  pub column_room : n ≤ length column
  pub w_room : n + n ≤ length w
  pub blank : (k : ℕ) → k < n → get_or column k 0 ≡ far
  pub word : (k : ℕ) → k < n → get_or w (n + k) 0 ≡ packed far k

module _ {n v : ℕ} {column w w' : List ℕ} (B : Blank n column w) (v-in : v < n) (S : Same 0 n (set w (n + v) v) w') where
  begun-word : word_of w' n v ≡ v
  begun-word = search rules

  begun-value : get_or (set column v 0) v 0 ≡ 0
  begun-value = search rules

  module _ (u : ℕ) (u-in : u < n) (ne : u ≢ v) where
    other-begun : word_of w' n u ≡ packed far u
    other-begun =
        let e : 0 + (n + u) ≡ n + u = omega arith in
        S.after (0 + (n + u)) (omega arith) ∙ ap (λ (z : ℕ). get_or (set w (n + v) v) z 0) e ∙ get_or-set_other w (n + v) (n + u) v 0 (omega arith) ∙ B.word u u-in

    other-value : get_or (set column v 0) u 0 ≡ far
    other-value = search rules

  pub begun_sound : (m : Map) → ((i : ℕ) → i < m.stages → m.head i < n) → Sound m n v 0 0 0 (set column v 0) w'
  begun_sound m head_in = record {
    real = λ u l h. elim (ℕ_discrete u v) [
      | yes e ↦ rw (e, begun-value) arrived
      | no ne ↦ absurd (omega (arith, other-value u l ne))
    ];
    self = begun-value;
    closed = λ i l D. absurd (open-all (m.head i) (head_in i l) D);
  }
    where
      open-all : (u : ℕ) → u < n → Done 0 (get_or (set column v 0) u 0) (word_of w' n u) u → ⊥
      open-all u l D = search rules
