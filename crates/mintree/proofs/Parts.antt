-- A tournament in a part of a caller's slice: what holds of the part, from its first word on, holds of the slice from the word `tree` on.
use mathlib.Core.Path.{◌≡◌}
use mathlib.Core.List.{List}
use Prim.Native.Nat.{ℕ, ◌+◌, ◌-◌, ◌*◌, ◌<◌}
use native.Mathlib.Omega.{arith}
use borrow.Rule.Slice.PartMut.{put_mid, put_same, set_mid_at, same_len_mid}
use lib.ListN.{length, get_or, set, take, drop, length-take, length-drop}
use Rattle.std.proofs.Common.{rules}
use Rattle.std.proofs.Math.Seq.{of_parts}
use Rattle.std.proofs.lemmas.List.{get_or-take, get_or-drop}
use Rattle.mintree.specs.Mintree.{Room, Played, Least, Same}

-- b is the words of w from the word `tree` on
pub record Part (tree n : ℕ) (b w : List ℕ) : Type 0 where
  pub room : Room w tree n
  pub part : Room b 0 n
  pub word : (p : ℕ) → p < 2 * n → get_or b (0 + p) 0 ≡ get_or w (tree + p) 0

module _ {tree n : ℕ} {b w : List ℕ} (B : Part tree n b w) where
  pub played_part : Played w tree n → Played b 0 n
  played_part P = search rules

  pub played_whole : Played b 0 n → Played w tree n
  played_whole P = search rules

  pub least_whole : (r : ℕ) → Least b 0 n r → Least w tree n r
  least_whole r L = record { at = L.at; inside = L.inside; is = omega (arith, L.is, L.inside, B.word (n + L.at)); least = λ j l. omega (arith, L.least j l, B.word (n + j)) }

-- `&w[tree..]`, and what a write of b there leaves
module _ {tree n : ℕ} {w : List ℕ} (R : Room w tree n) where
  -- what is the same in the part is the same in the slice
  around : {a b : List ℕ} → Same 0 n a b → Same tree n (put_mid tree (length w - tree) w a) (put_mid tree (length w - tree) w b)
  around S = search (rules, of_parts, S.before, S.after, length-take)

  pub part_of : Part tree n (take (length w - tree) (drop tree w)) w
  part_of = search (rules, length-take, length-drop, get_or-take, get_or-drop)

  module _ {b : List ℕ} (e : length b ≡ length (take (length w - tree) (drop tree w))) where
    pub part_back : Part tree n b (put_mid tree (length w - tree) w b)
    part_back = search (rules, of_parts, part_of, length-drop, same_len_mid)

    pub built_back : Same 0 n (take (length w - tree) (drop tree w)) b → Same tree n w (put_mid tree (length w - tree) w b)
    built_back S = rw (put_same tree (length w - tree) w) at (around S)

    pub changed_back : (i x : ℕ) → i < n → Same 0 n (set (take (length w - tree) (drop tree w)) (n + i) x) b → Same tree n (set w (tree + (n + i)) x) (put_mid tree (length w - tree) w b)
    changed_back i x l S = rw (set_mid_at tree (length w - tree) (n + i) w x (omega (arith, part_of.part.ends))) at (around S)
