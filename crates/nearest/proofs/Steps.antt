-- A step of the definitions, by its leader and by what the refinement comes to.
use Prim.Native.Nat.{ℕ}
use mathlib.Core.Path.{◌≡◌, ap, ◌∙◌}
use mathlib.Core.Bool.{Bool, true, false}
use mathlib.Core.Option.{some}
use Rattle.paper.specs.Served.{Served, refused, served, and_then}
use Rattle.paper.specs.Map.{Map}
use Rattle.paper.specs.Quest.{Quest}
use Rattle.paper.specs.Trail.{Trail, refine}
use Rattle.paper.specs.Listing.{State, at, leader, retired, clear, listed, walked_on, move, step}

module _ (m : Map) (x : Quest) (st : State) (i : ℕ) (L : leader st.slots x.count ≡ some i) where
  abbrev alone : Bool
  alone = clear st.slots i (leader (retired st.slots i) x.count)

  abbrev refined-once : Served Trail
  refined-once = refine m (x.to i) (at st.slots i).trail

  abbrev moved : Bool → Served Trail → Served State
  moved b r = elim b [ true ↦ served (listed m x st i) | false ↦ and_then r (λ t. served (walked_on st i t)) ]

  step-led : step m x st ≡ moved alone refined-once
  unfolding step
  step-led = ap (move m x st) L

  pub step-listed : alone ≡ true → step m x st ≡ served (listed m x st i)
  step-listed e = step-led ∙ ap (λ (b : Bool). moved b refined-once) e

  pub step_walked : alone ≡ false → (t : Trail) → refined-once ≡ served t → step m x st ≡ served (walked_on st i t)
  step_walked e t r = step-led ∙ ap (λ (b : Bool). moved b refined-once) e ∙ ap (moved false) r

  pub step_refused : alone ≡ false → (n : ℕ) → refined-once ≡ refused n → step m x st ≡ refused n
  step_refused e n r = step-led ∙ ap (λ (b : Bool). moved b refined-once) e ∙ ap (moved false) r
