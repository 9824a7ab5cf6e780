-- A listing under way with its answer slice: what the loop keeps, and how it ends.
use Prim.Native.Nat.{ℕ, ◌+◌, ◌*◌, ◌≤◌, ◌<◌}
use native.Mathlib.Omega.{arith}
use native.Mathlib.Nat.{mul-le-mul}
use mathlib.Core.Path.{◌≡◌, sym, subst}
use mathlib.Core.List.{List}
use lib.ListN.{length}
use Rattle.paper.specs.Sizes.{line_words, most_offices, most_places}
use Rattle.std.specs.Prelude.{Ok, Err}
use Rattle.paper.specs.Served.{Served, refused}
use Rattle.paper.specs.Refusal.{number_of}
use Rattle.paper.specs.declared.refusal.Refusal.{Refusal}
use Rattle.paper.specs.Map.{Map}
use Rattle.paper.specs.Quest.{Quest}
use Rattle.paper.specs.Trail.{Trail}
use Rattle.paper.specs.Listing.{Slot, State, at, line_of, step, begin, run, enough}
use Rattle.nearest.specs.Working.{Shown}
use Rattle.nearest.specs.Going.{Fresh, Waiting, Wrote, ListedNow, WalkedNow, Came}
use Rattle.nearest.proofs.Going.{Going, going-begin, going-most, going_done, going-waits, going-refused, going-listed, going-walked}
use Rattle.nearest.proofs.Advance.{shown_as}
use Rattle.nearest.proofs.Text.{Text, text_none, text_more, text_whole}

pub record Progress (m : Map) (x : Quest) (k : ℕ) (goal : Served State) (w a₀ a : List ℕ) (r total : ℕ) : Type 0 where
  pub going : Going m x k goal w r total
  pub text : Text a₀ a going.state.lines

pub progress_begin : (m : Map) (x : Quest) (k : ℕ) (ss : List Slot) (w a : List ℕ) → Shown m.places x.count w ss → Fresh x.count ss
    → Progress m x k (run m x (enough m x k) k (begin ss)) w a a 0 0
unfolding going-begin
progress_begin m x k ss w a S F = record { going = going-begin m x k ss w S F; text = text_none a }

module _ {m : Map} {x : Quest} {k : ℕ} {goal : Served State} {w a₀ a : List ℕ} {r total : ℕ} (P : Progress m x k goal w a₀ a r total) where
  abbrev G : Going m x k goal w r total
  G = P.going

  abbrev st : State
  st = G.state

  -- so many lines stand in the answer
  pub progress_long : length a ≡ length a₀
  progress_long = P.text.long

  pub progress_few : r ≤ k
  progress_few = G.few

  -- on a map of so many places, for n offices
  module _ (places n : ℕ) (p : places ≡ m.places) (same : n ≡ x.count) where
    pub progress-shown : Shown places n w st.slots
    progress-shown = shown_as (sym p) (sym same) G.shown

    pub progress-waits : r < k → k ≤ n → Waiting places n w
    progress-waits h most =
        let W : Waiting m.places x.count w = going-waits m x k G h (omega arith) in
        record { slots = W.slots; shown = shown_as (sym p) (sym same) W.shown; number = W.number; here = omega (arith, W.here); waits = W.waits }

    pub progress-most : total ≤ n * places
    progress-most = rw (same, p) (going-most m x k G)

    -- few enough to count
    pub progress-small : n ≤ most_offices → places ≤ most_places → total ≤ most_offices * most_places
    progress-small few room =
        let l : n * places ≤ most_offices * most_places = mul-le-mul few room in
        omega (arith, progress-most)

  module _ (h : r < k) (most : k ≤ x.count) where
    pub progress-listed : (i : ℕ) (t : Trail) (w' a' : List ℕ) → ListedNow m x st w' i t → Wrote r (line_of m x i t) a a' → Progress m x k goal w' a₀ a' (r + 1) total
    unfolding going-listed
    progress-listed i t w' a' L W = record {
      going = going-listed m x k G h most i t w' L;
      text = text_more P.text (line_of m x i (at st.slots i).trail) (subst (λ (b : ℕ). Wrote b (line_of m x i (at st.slots i).trail) a a') (sym G.counted) (rw L.trail W));
    }

    pub progress-walked : (w' : List ℕ) → WalkedNow m x st w' → Progress m x k goal w' a₀ a r (total + 1)
    unfolding going-walked
    progress-walked w' W = record { going = going-walked m x k G h most w' W; text = P.text }

    pub progress-refused : (r : Refusal) → step m x st ≡ refused (number_of r) → Came k goal a₀ a (Err r)
    progress-refused r e = (going-refused m x k G h most (number_of r) e, record { long = P.text.long; rest = λ j p. P.text.rest j (omega (arith, G.counted)) })

  pub progress_done : k ≤ r → line_words * k ≤ length a₀ → Came k goal a₀ a (Ok total)
  progress_done h long = (st, going_done m x k G h, G.made, text_whole a₀ a st.lines k P.text (omega (arith, G.counted, G.few)) long)
