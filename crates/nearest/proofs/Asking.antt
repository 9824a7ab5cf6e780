-- The reply that the code makes is that of the definitions: refused before the walk, listed, or refused by the walk.
use Prim.Native.Nat.{ℕ, zero, suc, ◌*◌, ◌≤◌}
use native.Mathlib.Omega.{arith}
use mathlib.Core.Path.{◌≡◌, refl, sym, ap, ◌∙◌}
use mathlib.Core.List.{List, ◌++◌}
use lib.ListN.{length, drop}
use Rattle.paper.specs.Sizes.{line_words, slot_words}
use Rattle.paper.specs.Refusal.{number_of}
use Rattle.paper.specs.declared.refusal.Refusal.{Refusal}
use Rattle.paper.specs.Served.{refused, served}
use Rattle.paper.specs.Map.{Map, Offices}
use Rattle.paper.specs.Sheet.{map_of, offices_in}
use Rattle.sheet.specs.declared.ground.Sheet.{Sheet}
use Rattle.sheet.proofs.Grounds.{roll_count}
use Rattle.paper.specs.Quest.{directed}
use Rattle.paper.specs.Listing.{State, listing}
use Rattle.paper.specs.Slice.{cleared}
use Rattle.paper.specs.Reply.{Reply, invalid, lines_out, walk_out, reply_on}
use Rattle.paper.proofs.Reply.{Allowed, valid}
use Rattle.paper.proofs.Numbers.{number_some}
use Rattle.paper.proofs.Cleared.{cleared-same}
use Rattle.nearest.specs.Working.{Beyond}
use Rattle.nearest.proofs.Replies.{early, reply-invalid, walk-reply}

-- over a sheet that its layout passes
module _ (s : Sheet) (q k d : ℕ) (a w : List ℕ) where
  abbrev m : Map
  m = map_of s.map.bytes.now

  abbrev o : Offices
  o = offices_in s.list.now

  abbrev n : ℕ
  n = s.map.counts.offices

  refused_by : (y : ℕ) → 1 ≤ y → y ≡ invalid m o q k d a w → early y a w ≡ reply_on 0 m o q k d a w
  refused_by zero p t = absurd (omega arith)
  refused_by (suc y) p t = sym (reply-invalid 0 m o q k d a w refl y (sym t))

  pub ask_invalid : (r : Refusal) → number_of r ≡ invalid m o q k d a w → early (number_of r) a w ≡ reply_on 0 m o q k d a w
  ask_invalid r t = refused_by (number_of r) (number_some r) t

  module _ (ok : 0 ≡ invalid m o q k d a w) where
    pub ask-allowed : Allowed m o q k d a w
    ask-allowed = valid m o q k d a w (sym ok)

    -- so many working words are lent
    pub ask-works : slot_words * n ≤ length w
    ask-works = omega (arith, ask-allowed.works, roll_count s.roll)

    module _ (w' w'' : List ℕ) (B : Beyond (slot_words * n) w w') (C : w'' ≡ cleared (slot_words * n) w') where
      zeroed : w'' ≡ cleared (slot_words * o.count) w
      zeroed = C ∙ cleared-same (slot_words * n) w w' B.long B.rest ∙ ap (λ (i : ℕ). cleared (slot_words * i) w) (roll_count s.roll)

      pub ask-done : (st : State) (total : ℕ) (a' : List ℕ) → listing m (directed o q d) k ≡ served st → st.total ≡ total
          → a' ≡ lines_out st.lines ++ drop (line_words * k) a
          → ◌≡◌ {A = Reply} (record { number = 0; count = k; refinements = total; answer = a'; working = w'' }) (reply_on 0 m o q k d a w)
      ask-done st total a' e made text =
          rw (sym made, text, zeroed) (sym (walk-reply 0 m o q k d a w refl (sym ok) ∙ ap (walk_out o.count k a w) e))

      pub ask-refused : (r : ℕ) (a' a'' : List ℕ) → listing m (directed o q d) k ≡ refused r → Beyond (line_words * k) a a' → a'' ≡ cleared (line_words * k) a'
          → early r a'' w'' ≡ reply_on 0 m o q k d a w
      ask-refused r a' a'' e A D =
          rw (D, cleared-same (line_words * k) a a' A.long A.rest, zeroed) (sym (walk-reply 0 m o q k d a w refl (sym ok) ∙ ap (walk_out o.count k a w) e))
