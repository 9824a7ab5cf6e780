-- `nearest::invalid` meets its contract.
use mathlib.Core.Bool.{true}
use mathlib.Core.Path.{◌≡◌, sym, ◌∙◌}
use native.Mathlib.Omega.{arith}
use Rattle.paper.specs.Quest.{is_direction}
use Rattle.nearest.proofs.Replies.{invalid_place, invalid_direction, invalid_none, invalid-many, invalid-answer, invalid-working, invalid-not}
use Rattle.nearest.proofs.invalid.Goals.{Else-counts-k, Else-not-is_direction}
use Rattle.nearest.proofs.invalid.Goals as goal

-- past the test of the direction
directed : (c : Else-not-is_direction) → is_direction c.args.direction ≡ true
directed c = sym c.is_direction.ensures ∙ c.if-not-is_direction.false

-- and from where the test of k is past
past-k : (c : Else-counts-k) → is_direction c.args.direction ≡ true
past-k c = sym c.is_direction.ensures ∙ c.if-not-is_direction.false

pub returns-then-counts-q : goal.returns-then-counts-q
returns-then-counts-q c = λ m o a w p n e f. sym (invalid_place m o _ _ _ _ _ (omega arith))

pub returns-then-not-is_direction : goal.returns-then-not-is_direction
returns-then-not-is_direction c = λ m o a w p n e f. sym (invalid_direction m o _ _ _ _ _ (sym c.is_direction.ensures ∙ c.if-not-is_direction.true))

pub returns-then-k-eq0 : goal.returns-then-k-eq0
returns-then-k-eq0 c = λ m o a w p n e f. sym (invalid_none m o _ _ _ _ _ (omega arith) (directed (goal.at.returns-then-k-eq0 c).Else-not-is_direction) c.if-k-eq0.true)

pub returns-then-counts-k : goal.returns-then-counts-k
returns-then-counts-k c = λ m o a w p n e f. sym (invalid-many m o _ _ _ _ _ (omega arith) (directed (goal.at.returns-then-counts-k c).Else-not-is_direction) (omega arith))

pub returns-then-answer-k : goal.returns-then-answer-k
returns-then-answer-k c = λ m o a w p n e f. sym (invalid-answer m o _ _ _ _ _ (omega arith) (past-k (goal.at.returns-then-answer-k c).Else-counts-k) (omega arith) (omega arith) (omega arith))

pub returns-then-working-counts : goal.returns-then-working-counts
returns-then-working-counts c = λ m o a w p n e f. sym (invalid-working m o _ _ _ _ _ (omega arith) (past-k (goal.at.returns-then-working-counts c).Else-counts-k) (omega arith) (omega arith) (omega arith))

pub returns : goal.returns
returns c = λ m o a w p n e f. sym (invalid-not m o _ _ _ _ _ (omega arith) (past-k (goal.at.returns c).Else-counts-k) (omega arith) (omega arith) (omega arith) (omega arith))
