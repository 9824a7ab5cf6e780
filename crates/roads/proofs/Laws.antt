-- The laws of chains and of columns, for callers.
use mathlib.Core.Path.{◌≡◌, sym, ◌∙◌}
use mathlib.Core.List.{List}
use Prim.Native.Nat.{ℕ, ◌-◌, ◌≤◌, ◌<◌}
use native.Mathlib.Decide.{dec_lt}
use native.Mathlib.Omega.{arith}
use lib.ListN.{length, get_or}
use Rattle.std.proofs.Common.{rules}
use Rattle.paper.specs.Map.{Map}
use Rattle.paper.proofs.LaidOut.{LaidOut}
use Rattle.roads.specs.Chain.{Latest, Starts, GoesOn, Chained}
use Rattle.roads.specs.Towards.{Towards, Ready, Entered, Lists}

-- ---- `chain` leaves no choice
latest_le : {head : ℕ → ℕ} {w k b c : ℕ} → Latest head w k b → Latest head w k c → b ≤ c
latest_le {b = b} {c = c} B C = elim (dec_lt c b) [
  | yes l ↦ absurd (C.none (b - 1) (omega arith) (omega (arith, B.within)) (B.into (b - 1) (omega arith)))
  | no l ↦ omega arith
]

latest_unique : {head : ℕ → ℕ} {w k b c : ℕ} → Latest head w k b → Latest head w k c → b ≡ c
latest_unique B C = omega (arith, latest_le B C, latest_le C B)

module _ (heads : List ℕ) (n : ℕ) (last₀ previous₀ last previous last' previous' : List ℕ) (C : Chained heads n last₀ previous₀ last previous) (D : Chained heads n last₀ previous₀ last' previous') where
  pub last_unique : (k : ℕ) → get_or last k 0 ≡ get_or last' k 0
  last_unique k = elim (dec_lt k n) [ yes l ↦ latest_unique (C.starts k l) (D.starts k l) | no g ↦ C.last_past k (omega arith) ∙ sym (D.last_past k (omega arith)) ]

  pub previous_unique : (k : ℕ) → get_or previous k 0 ≡ get_or previous' k 0
  previous_unique k = elim (dec_lt k (length heads)) [ yes l ↦ latest_unique (C.goes k l) (D.goes k l) | no g ↦ C.previous_past k (omega arith) ∙ sym (D.previous_past k (omega arith)) ]

-- ---- the chains of a map whose heads the slice holds
latest_same : {f g : ℕ → ℕ} {w k b : ℕ} → ((i : ℕ) → i < k → g i ≡ f i) → Latest f w k b → Latest g w k b
latest_same same B = search rules

module _ (m : Map) (heads : List ℕ) (n : ℕ) (last₀ previous₀ last previous : List ℕ) (C : Chained heads n last₀ previous₀ last previous) (stages : m.stages ≡ length heads) (same : (i : ℕ) → i < m.stages → m.head i ≡ get_or heads i 0) where
  pub map-starts : Starts m.head n m.stages last
  map-starts w l = search rules

  pub map_goes : GoesOn m.head m.stages previous
  map_goes i l = search rules

-- ---- what `towards` needs, of a map that is laid out
module _ {m : Map} (L : LaidOut m) (tails lengths : List ℕ) (K : Lists m tails lengths m.places) where
  pub map_ready : (previous : List ℕ) → length tails ≤ length lengths → length tails ≤ length previous → GoesOn m.head m.stages previous → Ready tails lengths previous m.places
  map_ready previous lengths_long previous_long G = search rules

  pub map_entered : (last : List ℕ) → m.places ≤ length last → Starts m.head m.places m.stages last → Entered last m.places (length tails)
  map_entered last places T = search rules

-- ---- a column is what its entries are, and `towards` leaves no choice
pub towards_same : (m : Map) (n v : ℕ) (f g : ℕ → ℕ) → ((u : ℕ) → u < n → g u ≡ f u) → Towards m n v f → Towards m n v g
towards_same m n v f g same T = search rules

module _ (m : Map) (n v : ℕ) (f g : ℕ → ℕ) (F : Towards m n v f) (G : Towards m n v g) where
  column-le : (u : ℕ) → u < n → f u ≤ g u
  column-le u l = search rules

pub column_unique : (m : Map) (n v : ℕ) (f g : ℕ → ℕ) → Towards m n v f → Towards m n v g → (u : ℕ) → u < n → f u ≡ g u
column_unique m n v f g F G u l = omega (arith, column-le m n v f g F G u l, column-le m n v g f G F u l)
