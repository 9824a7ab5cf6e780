-- The leader taken out of the tree, and put back.
use Prim.Native.Nat.{ℕ, ◌+◌, ◌-◌, ◌/◌, ◌%◌, ◌^◌, ◌<◌}
use native.Mathlib.Omega.{arith}
use mathlib.Core.Path.{◌≡◌, refl, sym, ap, subst, ◌∙◌}
use mathlib.Core.Option.{some}
use mathlib.Core.List.{List}
use lib.Dec.{ltb}
use borrow.Rule.Slice.PartMut.{put_mid}
use lib.ListN.{length, set, take, drop}
use Rattle.std.proofs.Common.{rules}
use Rattle.mintree.specs.Mintree.{Played, Least, Same}
use Rattle.mintree.proofs.Parts.{part_of, part_back, played_whole, least_whole, changed_back}
use Rattle.paper.specs.Sizes.{most_offices}
use Rattle.paper.specs.Trail.{Trail}
use Rattle.paper.specs.Listing.{Slot, at, low_of, retired}
use Rattle.paper.specs.Bounds.{Sane}
use Rattle.nearest.specs.declared.tree.Lead.{Lead}
use Rattle.nearest.specs.Working.{tree_at, key, gone, Side, Shown, Beyond}
use Rattle.nearest.specs.Going.{Waiting, Led}
use Rattle.quadtree.specs.Walks.{trail_of}
use Rattle.nearest.proofs.Lead.{leads_one, leads, lead-waits, lead-number, lead_low, clear_by}
use Rattle.nearest.proofs.Hold.{retire}

trail_same : (a b : Trail) → a.via ≡ b.via → a.walked ≡ b.walked → a.low ≡ b.low → a.high ≡ b.high → a.stages ≡ b.stages → a ≡ b
trail_same a b p q r s t = search (rules, p, q, r, s, t)

-- what stands beside the tree, with the low end, is the trail
side_trail : {w : List ℕ} {i : ℕ} (a b : Trail) → Side w i a → Side w i b → a.low ≡ b.low → a ≡ b
side_trail a b A B e =
    trail_same a b (sym A.via ∙ B.via) (sym A.walked ∙ B.walked) e (sym A.high ∙ B.high) (sym A.stages ∙ B.stages)

pub beyond_then : {n : ℕ} {a b c : List ℕ} → Beyond n a b → Beyond n b c → Beyond n a c
beyond_then A B = record { long = B.long ∙ A.long; rest = λ k p. B.rest k p ∙ A.rest k p }

-- the words from the tree on are lent, and r is the least
module _ {places₀ n : ℕ} {w : List ℕ} (W : Waiting places₀ n w) (r : ℕ) (T : Least (take (length w - tree_at n) (drop (tree_at n) w)) 0 n r) where
  L : Least w (tree_at n) n r
  L = least_whole (part_of W.shown.played.room) r T

  pub take_some : r < gone
  take_some =
      let S : Shown places₀ n w W.slots = W.shown in
      omega (arith, L.least W.number W.here, (S.held W.number W.here W.waits).low, (S.sane W.number W.here W.waits).ordered, (S.sane W.number W.here W.waits).high, S.few, W.here)

  pub take_inside : r % most_offices < n
  take_inside = omega (arith, lead-number W.shown r L take_some, L.inside)

  pub take_high : (t : Trail) → Side w (r % most_offices) t → t.high < 2 ^ 51
  take_high t X =
      let h = lead-waits W.shown r L take_some in
      let Y = rw (lead-number W.shown r L take_some) at X in
      omega (arith, Y.high, (W.shown.held L.at L.inside h).side.high, (W.shown.sane L.at L.inside h).high)

  module _ (places : ℕ) (ss : List Slot) (S : Shown places n w ss) (b : List ℕ) (r' : ℕ) (e : length b ≡ length (take (length w - tree_at n) (drop (tree_at n) w))) (P : Played b 0 n) (T' : Least b 0 n r') where
    -- the office that leads, by the tree's index
    led-at : (t : Trail) (i : ℕ) → i ≡ L.at → Side w i t → t.low ≡ low_of ss i → (at ss i).trail ≡ t
    led-at t i e X low = side_trail (at ss i).trail t (rw e (S.held L.at L.inside (lead-waits S r L take_some)).side) X (sym low)

    pub led : (l : Lead) → l.number ≡ r % most_offices → Side w l.number (trail_of l.trail) → l.trail.low.0 ≡ r / most_offices
        → l.clear ≡ ltb (key l.trail.high.0 l.number) r' → Same 0 n (set (take (length w - tree_at n) (drop (tree_at n) w)) (n + l.number) gone) b → Led places n ss (put_mid (tree_at n) (length w - tree_at n) w b) l
    led l here' X low c C =
        let here : l.number ≡ L.at = here' ∙ lead-number S r L take_some in
        let inside : l.number < n = omega (arith, L.inside) in
        let same : (at ss l.number).trail ≡ trail_of l.trail =
        led-at (trail_of l.trail) l.number here X (low ∙ lead_low S r L take_some ∙ ap (low_of ss) (sym here)) in
        let B = part_back W.shown.played.room e in
        let out : Shown places n (put_mid (tree_at n) (length w - tree_at n) w b) (retired ss l.number) = retire S l.number inside _ (changed_back W.shown.played.room e _ _ inside C) (played_whole B P) in
        let first : Sane places (at ss l.number).trail = rw here (S.sane L.at L.inside (lead-waits S r L take_some)) in
        let sane : Sane places (trail_of l.trail) = subst (Sane places) same first in
        record {
          here = inside;
          leads = leads_one ss n L.at (leads S r L take_some) ∙ ap some (sym here);
          trail = same;
          sane = sane;
          alone = c ∙ clear_by ss l.number (omega (arith, S.size)) out r' (least_whole B r' T') inside l.trail.high.0 (sym (ap (λ (t : Trail). t.high) same)) (omega (arith, sane.high));
          shown = out;
        }

pub beyond_same : (n : ℕ) (a : List ℕ) → Beyond n a a
beyond_same n a = record { long = refl; rest = λ k p. refl }
