-- What the program's functions come to.
use Rattle.std.specs.Prelude.{ℕ, ◌≤◌, ◌≡◌, List, length, take, drop}
use Rattle.paper.specs.Verdict.{Checked}
use Rattle.paper.specs.Printed.{lent_distances, Printed}

-- the check's number on a slice of zeros
pub record Judged (s : List ℕ) (n : ℕ) : Type 0 where
  pub table : List ℕ
  pub checked : Checked s lent_distances n table

-- the first r bytes of the output are what is printed for the input, and the others are untouched
pub record Serves (input before after : List ℕ) (r : ℕ) : Type 0 where
  pub fits : r ≤ length after
  pub printed : Printed input (take r after)
  pub rest : drop r after ≡ drop r before
