-- The leader is the least word of the tree, and the leader of the rest is the least word once the leader has left.
use Prim.Native.Nat.{ℕ, suc, ◌/◌, ◌%◌, ◌^◌, ◌≤◌, ◌<◌}
use native.Mathlib.Omega.{arith}
use native.Mathlib.Decide.{dec_lt}
use mathlib.Core.Path.{◌≡◌, refl, sym, ap, ◌∙◌}
use mathlib.Core.Bool.{Bool, true, false}
use mathlib.Core.Option.{Option, some, none}
use mathlib.Core.List.{List}
use lib.Dec.{ltb}
use lib.ListN.{length}
use borrow.Author.Tests.{lt-ltb, le-ltb}
use Rattle.mintree.specs.Mintree.{Least}
use Rattle.paper.specs.Sizes.{most_offices}
use Rattle.paper.specs.Order.{Before, before}
use Rattle.paper.specs.Trail.{Trail}
use Rattle.paper.specs.Listing.{Slot, at, low_of, leader, retired, clear}
use Rattle.paper.proofs.Test.{true_false}
use Rattle.paper.proofs.Leader.{Leads, leader_law, before_true}
use Rattle.paper.proofs.Leader as laws
use Rattle.paper.proofs.Slots.{retired_trail, clear_of}
use Rattle.nearest.specs.Working.{tree_at, key, gone, Shown}

-- there is one leader
pub leads_one : (ss : List Slot) (n i : ℕ) → Leads ss n i → leader ss n ≡ some i
leads_one ss n i L = go (leader ss n) refl (leader_law ss n)
  where
    go : (r : Option ℕ) → leader ss n ≡ r → laws.Least ss n r → leader ss n ≡ some i
    go none e h = true_false L.waits (h i L.here)
    go (some j) e h =
        let a : Before (low_of ss i) i (low_of ss j) (suc j) = L.least j h.here h.waits in
        let b : Before (low_of ss j) j (low_of ss i) (suc i) = h.least i L.here L.waits in
        let same : j ≡ i = omega (arith, a.le, b.le, a.tie b.le, b.tie a.le) in
        e ∙ ap some same

module _ {places n : ℕ} {w : List ℕ} {ss : List Slot} (S : Shown places n w ss) (r : ℕ) (L : Least w (tree_at n) n r) where
  -- the least word is a waiting office's
  waits-at : r < gone → (b : Bool) → (at ss L.at).waits ≡ b → (at ss L.at).waits ≡ true
  waits-at h true e = e
  waits-at h false e = absurd (omega (arith, L.is, S.left L.at L.inside e))

  module _ (h : r < gone) where
    pub lead-waits : (at ss L.at).waits ≡ true
    lead-waits = waits-at h (at ss L.at).waits refl

    lead-key : r ≡ key (low_of ss L.at) L.at
    lead-key = L.is ∙ (S.held L.at L.inside lead-waits).low

    pub lead-number : r % most_offices ≡ L.at
    lead-number = omega (arith, lead-key, L.inside, S.few)

    pub lead_low : r / most_offices ≡ low_of ss L.at
    lead_low = omega (arith, lead-key, L.inside, S.few)

    pub leads : Leads ss n L.at
    leads = record {
      here = L.inside;
      waits = lead-waits;
      least = λ j p w. record {
        le = omega (arith, lead-key, L.least j p, (S.held j p w).low, L.inside, S.few);
        tie = λ e. omega (arith, lead-key, L.least j p, (S.held j p w).low, L.inside, S.few);
      };
    }

  -- nobody waits
  pub lead_none : gone ≤ r → (j : ℕ) → j < n → (at ss j).waits ≡ false
  lead_none h j p = go (at ss j).waits refl
    where
      go : (b : Bool) → (at ss j).waits ≡ b → (at ss j).waits ≡ false
      go true e = absurd (omega (arith, L.least j p, (S.held j p e).low, (S.sane j p e).ordered, (S.sane j p e).high, S.few))
      go false e = e

module _ {places n : ℕ} {w : List ℕ} (ss : List Slot) (i : ℕ) (here : i < length ss) (S : Shown places n w (retired ss i)) (r : ℕ)
    (L : Least w (tree_at n) n r) (small : i < n) where
  low-kept : (j : ℕ) → low_of (retired ss i) j ≡ low_of ss j
  low-kept j = ap (λ (t : Trail). t.low) (retired_trail ss i here j)

  -- the high end and the number, packed, come before the least word of the rest: nobody comes between
  pub clear_when : (h : ℕ) → h ≡ (at ss i).trail.high → key h i < r → clear ss i (leader (retired ss i) n) ≡ true
  clear_when h e lt = clear_of ss i here n (λ j p wait. record {
    le = omega (arith, L.least j p, (S.held j p wait).low, low-kept j, p, S.few);
    tie = λ q. omega (arith, L.least j p, (S.held j p wait).low, low-kept j, p, S.few);
  })

  pub clear_not : (h : ℕ) → h ≡ (at ss i).trail.high → h < 2 ^ 51 → r ≤ key h i → clear ss i (leader (retired ss i) n) ≡ false
  clear_not h e fits le = rw (leads_one (retired ss i) n L.at D) (go (before (at ss i).trail.high i (low_of ss L.at) L.at) refl)
    where
      some_left : r < gone
      some_left = omega (arith, S.few)

      D : Leads (retired ss i) n L.at
      D = leads S r L some_left

      go : (b : Bool) → before (at ss i).trail.high i (low_of ss L.at) L.at ≡ b → before (at ss i).trail.high i (low_of ss L.at) L.at ≡ false
      go true q =
          let B : Before (at ss i).trail.high i (low_of ss L.at) L.at = before_true _ _ _ _ q in
          absurd (apart B (dec_lt (at ss i).trail.high (low_of ss L.at)))
        where
          apart : Before (at ss i).trail.high i (low_of ss L.at) L.at → Dec ((at ss i).trail.high < low_of ss L.at) → ⊥
          apart B (yes a) = omega (arith, lead-key S r L some_left, low-kept L.at, L.inside, S.few)
          apart B (no a) = omega (arith, lead-key S r L some_left, low-kept L.at, B.tie (omega arith), L.inside, S.few)
      go false q = q

  pub clear_by : (h : ℕ) → h ≡ (at ss i).trail.high → h < 2 ^ 51 → ltb (key h i) r ≡ clear ss i (leader (retired ss i) n)
  clear_by h e fits = go (dec_lt (key h i) r)
    where
      go : Dec (key h i < r) → ltb (key h i) r ≡ clear ss i (leader (retired ss i) n)
      go (yes p) = lt-ltb (key h i) r p ∙ sym (clear_when h e p)
      go (no p) = le-ltb (key h i) r (omega arith) ∙ sym (clear_not h e fits (omega arith))
