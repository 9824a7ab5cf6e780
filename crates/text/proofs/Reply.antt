-- The text of a reply, by its number; its working slice does not show.
use Prim.Native.Nat.{ℕ, zero, suc}
use mathlib.Core.Path.{◌≡◌, refl}
use mathlib.Core.List.{List, [], ◌∷◌, ◌++◌}
use Rattle.paper.specs.Reply.{Reply}
use Rattle.paper.specs.Printed.{line_text, refusal_text, list_text, reply_text, text_by}
use Rattle.text.specs.Put.{reply_of}

pub reply_shown : (r : Reply) (working : List ℕ) → reply_text (reply_of r.number r.count r.refinements r.answer working) ≡ reply_text r
unfolding reply_text
reply_shown r working = go r.number
  where
    go : (n : ℕ) → text_by (reply_of r.number r.count r.refinements r.answer working) n ≡ text_by r n
    go zero = refl
    go (suc n) = refl

module _ (number count refinements : ℕ) (answer working : List ℕ) where
  pub reply_refused : (number ≡ 0 → ⊥) → reply_text (reply_of number count refinements answer working) ≡ refusal_text number
  unfolding reply_text
  reply_refused h = go number h
    where
      go : (n : ℕ) → (n ≡ 0 → ⊥) → text_by (reply_of number count refinements answer working) n ≡ refusal_text n
      go zero h = absurd (h refl)
      go (suc n) h = refl

  pub reply-listed : number ≡ 0 → reply_text (reply_of number count refinements answer working) ≡ line_text (count ∷ refinements ∷ []) ++ list_text count answer
  unfolding reply_text
  reply-listed e = rw (reply_text, e)
