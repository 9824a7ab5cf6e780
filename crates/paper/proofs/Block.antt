-- The block of u that covers v.
use Prim.Native.Nat.{ℕ, zero, suc, ◌+◌, ◌^◌, ◌≤◌, ◌<◌}
use native.Mathlib.Omega.{arith}
use native.Mathlib.Decide.{dec_lt}
use mathlib.Core.Path.{◌≡◌, refl, sym, ap, subst, ◌∙◌}
use mathlib.Core.Logic.{◌↔◌}
use mathlib.Core.Bool.{Bool, true, false}
use mathlib.Core.Option.{Option, some, none}
use lib.Dec.{leb, ltb, eqb}
use borrow.Author.Tests.{eqb-true, leb-true, ltb-true}
use Rattle.paper.specs.Test.{both}
use Rattle.paper.specs.Map.{Map}
use Rattle.paper.specs.Cell.{cell}
use Rattle.paper.specs.Stage.{stage_of}
use Rattle.paper.specs.Block.{covers, block_below, block_of}
use Rattle.paper.proofs.LaidOut.{Grounded, LaidOut}
use Rattle.paper.proofs.Test.{true_false, both_left, both_right}
use Rattle.paper.proofs.Count.{below_all}

-- block i is u's, and v's cell is in it
pub record Covering (m : Map) (u v i : ℕ) : Type 0 where
  pub owner : m.owner i ≡ u
  pub from : m.code i ≤ cell m v
  pub to : cell m v < m.code i + 4 ^ m.level i

pub covering : (m : Map) (u v i : ℕ) → covers m u v i ≡ true → Covering m u v i
unfolding covers
covering m u v i h =
    let a : Bool = eqb (m.owner i) u in
    let b : Bool = leb (m.code i) (cell m v) in
    let c : Bool = ltb (cell m v) (m.code i + 4 ^ m.level i) in
    record {
      owner = eqb-true _ _ (both_left a (both b c) h);
      from = leb-true _ _ (both_left b c (both_right a (both b c) h));
      to = ltb-true _ _ (both_right b c (both_right a (both b c) h));
    }

-- a block that is found is below n and covers v; where none is found, none does
pub record BlockOf (m : Map) (u v n b : ℕ) : Type 0 where
  pub under : b < n
  pub owner : m.owner b ≡ u
  pub covered : covers m u v b ≡ true

abbrev Found : Map → ℕ → ℕ → ℕ → Option ℕ → Type 0
Found m u v n none = (b : ℕ) → b < n → covers m u v b ≡ false
Found m u v n (some b) = BlockOf m u v n b

found : (m : Map) (u v n : ℕ) → Found m u v n (block_below m u v n)
unfolding block_below
found m u v zero = λ b p. absurd (omega arith)
found m u v (suc i) = go (covers m u v i) refl (block_below m u v i) (found m u v i)
  where
    go : (t : Bool) → covers m u v i ≡ t → (r : Option ℕ) → Found m u v i r → Found m u v (suc i) (elim t [ true ↦ some i | false ↦ r ])
    go true e r h = record { under = omega arith; owner = (covering m u v i e).owner; covered = e }
    go false e none h = below_all (λ b. covers m u v b ≡ false) i h e
    go false e (some b) h = record { under = omega (arith, h.under); owner = h.owner; covered = h.covered }

pub block_of_lem : (m : Map) (u v b : ℕ) → block_of m u v ≡ some b → BlockOf m u v m.blocks b
unfolding block_of
block_of_lem m u v b e = subst (Found m u v m.blocks) e (found m u v m.blocks)

-- the stage that u's block for v names is one of the map's
pub named_under : {m : Map} → LaidOut m → (u v b : ℕ) → block_of m u v ≡ some b → stage_of m u (m.colour b) < m.stages
named_under {m} L u v b e = let B : BlockOf m u v m.blocks b = block_of_lem m u v b e in rw B.owner at (L.colours b B.under)

pub block_none : (m : Map) (u v : ℕ) → block_of m u v ≡ none → (b : ℕ) → b < m.blocks → covers m u v b ≡ false
unfolding block_of
block_none m u v e = subst (Found m u v m.blocks) e (found m u v m.blocks)

pub block_none_of : (m : Map) (u v : ℕ) → ((b : ℕ) → b < m.blocks → covers m u v b ≡ false) → block_of m u v ≡ none
block_none_of m u v h = go (block_of m u v) refl
  where
    go : (r : Option ℕ) → block_of m u v ≡ r → block_of m u v ≡ none
    go none e = e
    go (some b) e = let B : BlockOf m u v m.blocks b = block_of_lem m u v b e in true_false B.covered (h b B.under)

module _ {m : Map} (G : Grounded m) where
  -- of two blocks of u only one covers v
  pub cover_one : (u v b c : ℕ) → b < m.blocks → c < m.blocks → covers m u v b ≡ true → covers m u v c ≡ true → b ≡ c
  cover_one u v b c hb hc p q = go (dec_lt b c) (dec_lt c b)
    where
      B : Covering m u v b
      B = covering m u v b p

      C : Covering m u v c
      C = covering m u v c q

      go : Dec (b < c) → Dec (c < b) → b ≡ c
      go (yes l) r = absurd (omega (arith, G.parted b c l hc (B.owner ∙ sym C.owner), B.to, C.from))
      go (no l) (yes r) = absurd (omega (arith, G.parted c b r hb (C.owner ∙ sym B.owner), C.to, B.from))
      go (no l) (no r) = omega arith

  -- the block that is found is the one that covers
  pub block_is : (u v b : ℕ) → b < m.blocks → covers m u v b ≡ true → block_of m u v ≡ some b
  block_is u v b hb p = go (block_of m u v) refl
    where
      go : (r : Option ℕ) → block_of m u v ≡ r → block_of m u v ≡ some b
      go none e = true_false p (block_none m u v e b hb)
      go (some c) e =
          let B : BlockOf m u v m.blocks c = block_of_lem m u v c e in
          e ∙ ap some (cover_one u v c b B.under hb B.covered p)

  pub block_iff : (u v b : ℕ) → (block_of m u v ≡ some b) ↔ ((b < m.blocks) × (covers m u v b ≡ true))
  block_iff u v b = (λ e. ((block_of_lem m u v b e).under, (block_of_lem m u v b e).covered), λ h. block_is u v b h.0 h.1)
