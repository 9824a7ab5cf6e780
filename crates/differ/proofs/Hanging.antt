-- A word that is sought in the tree of those before it, and hung into it where it is new.
use Prim.Native.Nat.{ℕ, ◌+◌, ◌*◌, ◌/◌, ◌%◌, ◌≤◌, ◌<◌}
use native.Mathlib.Omega.{arith}
use native.Mathlib.Decide.{ℕ_discrete}
use mathlib.Core.Path.{◌≡◌, sym, subst}
use mathlib.Core.Bool.{true, false, not}
use mathlib.Core.List.{List}
use lib.ListN.{get_or, set, length-set, replicate, length-replicate}
use lib.Seq.{get_or-set_same, get_or-set_other}
use borrow.Author.Tests.{eq-eqb, ne_eqb}
use Rattle.paper.specs.Sizes.{most_places}
use Rattle.paper.specs.Test.{every, apart}
use Rattle.paper.proofs.Test.{every_of, every_more, every_false, apart_true, apart_of}
use Rattle.paper.proofs.Cleared.{zeros}
use Rattle.differ.specs.Tree.{same, ways, kid, Leads, here, down, Hung}

-- the ways down that there are stay
abbrev pub Keeps : List ℕ → List ℕ → Type 0
Keeps kids kids' = (p d : ℕ) → 0 < kid kids p d → kid kids' p d ≡ kid kids p d

pub leads_kept : {kids kids' : List ℕ} {j digits p : ℕ} → Keeps kids kids' → Leads kids j digits p → Leads kids' j digits p
leads_kept K (here e) = here e
leads_kept {kids} {kids'} {j} {digits} {p} K (down h L) =
    let e : kid kids' p digits ≡ kid kids p digits = K p digits h in
    down {digits = digits} {p = p} (omega arith) (subst (λ (q : ℕ). Leads kids' j (digits / ways) q) (sym e) (leads_kept K L))

-- word i on its way down, at p with these digits left
pub record Seeking (words : List ℕ) (i : ℕ) (kids : List ℕ) (digits p : ℕ) : Type 0 where
  pub earlier : p < i
  pub way : (kids' : List ℕ) → Keeps kids kids' → Leads kids' i digits p → Leads kids' i (get_or words i 0) 0
  pub same : (j : ℕ) → j < i → get_or words j 0 ≡ get_or words i 0 → Leads kids j digits p

module _ {words kids : List ℕ} {i : ℕ} (H : Hung words i kids) where
  pub seek : 1 ≤ i → Seeking words i kids (get_or words i 0) 0
  seek p = record {
    earlier = omega arith;
    way = λ kids' K L. L;
    same = λ j q e. subst (λ (d : ℕ). Leads kids j d 0) e (H.led j q);
  }

  module _ {digits p : ℕ} (S : Seeking words i kids digits p) where
    -- it is met
    pub seek-met : get_or words p 0 ≡ get_or words i 0 → false ≡ every i (λ j. not (same words j i))
    seek-met e = sym (every_false i (λ j. not (same words j i)) p S.earlier (rw (eq-eqb (get_or words p 0) (get_or words i 0) e)))

    module _ (other : get_or words p 0 ≡ get_or words i 0 → ⊥) where
      below : (j : ℕ) → get_or words j 0 ≡ get_or words i 0 → Leads kids j digits p → (0 < kid kids p digits) × Leads kids j (digits / ways) (kid kids p digits)
      below j e (here f) = absurd (other (rw f e))
      below j e (down h L) = (h, L)

      pub seek-down : 0 < kid kids p digits → Seeking words i kids (digits / ways) (kid kids p digits)
      seek-down h = record {
        earlier = (H.later p digits h).1;
        way = λ kids' K L. let e : kid kids' p digits ≡ kid kids p digits = K p digits h in
            S.way kids' K (down {digits = digits} {p = p} (omega arith) (subst (λ (q : ℕ). Leads kids' i (digits / ways) q) (sym e) L));
        same = λ j q e. (below j e (S.same j q e)).1;
      }

      -- there is no way down: it is new
      module _ (none : kid kids p digits ≡ 0) where
        pub seek-new : true ≡ every i (λ j. not (same words j i))
        seek-new = sym (every_of i (λ j. not (same words j i))
            (λ j q. rw (ne_eqb (get_or words j 0) (get_or words i 0) (λ e. absurd (omega (arith, (below j e (S.same j q e)).0))))))

        module _ (some : 1 ≤ i) (few : i < most_places) where
          abbrev at : ℕ
          at = ways * p + digits % ways

          abbrev kids' : List ℕ
          kids' = set kids at i

          set_here : kid kids' p digits ≡ i
          set_here = get_or-set_same kids at i 0 (omega (arith, H.room, S.earlier))

          kept : Keeps kids kids'
          kept q d h = get_or-set_other kids at (ways * q + d % ways) i 0 (λ e. absurd (omega (arith, rw e at h)))

          later : (q d : ℕ) → 0 < kid kids' q d → (q < kid kids' q d) × (kid kids' q d < i + 1)
          later q d h = elim (ℕ_discrete (ways * q + d % ways) at) [
            | yes e ↦ (let f : get_or kids' (ways * q + d % ways) 0 ≡ i = rw e set_here in omega (arith, S.earlier))
            | no e ↦ (let f : kid kids' q d ≡ kid kids q d = get_or-set_other kids at (ways * q + d % ways) i 0 e in let g : 0 < kid kids q d = omega arith in omega (arith, H.later q d g))
          ]

          pub seek-hung : Hung words (i + 1) kids'
          seek-hung = record {
            room = simp length-set H.room;
            later = later;
            led = λ j q. elim (ℕ_discrete j i) [
              | yes e ↦ rw e (S.way kids' kept (down {digits = digits} {p = p} (omega (arith, set_here)) (here set_here)))
              | no e ↦ leads_kept kept (H.led j (omega arith))
            ];
          }

-- the first word alone hangs in an empty tree
pub hung_first : (words : List ℕ) → Hung words 1 (replicate (ways * most_places) 0)
hung_first words = record {
  room = omega (arith, length-replicate {A = ℕ} (ways * most_places) 0);
  later = λ p d h. absurd (omega (arith, zeros (ways * most_places) (ways * p + d % ways)));
  led = λ j q. here {p = 0} (omega arith);
}

module _ (words : List ℕ) where
  -- one word more that differs from those before it, or does not
  module _ (i : ℕ) where
    pub apart_more : apart i (same words) ≡ true → every i (λ j. not (same words j i)) ≡ true → apart (i + 1) (same words) ≡ true
    unfolding apart
    apart_more a e = every_more i (λ k. every k (λ j. not (same words j k))) a e

    pub apart-fails : (n : ℕ) → i < n → every i (λ j. not (same words j i)) ≡ false → apart n (same words) ≡ false
    unfolding apart
    apart-fails n p e = every_false n (λ k. every k (λ j. not (same words j k))) i p e

  pub apart_fewer : (i n : ℕ) → n ≤ i → apart i (same words) ≡ true → apart n (same words) ≡ true
  apart_fewer i n p h = apart_of n (same words) (λ k j q r. apart_true i (same words) h k j (omega arith) r)

-- what begins the way down, and goes on with it
pub ruleset ways_down = (seek, seek-down)
