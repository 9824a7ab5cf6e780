-- A quest and a reply as the code hands them on.
use Rattle.std.specs.Prelude.{ℕ, List, Result, Ok, Err}
use Rattle.paper.specs.Sheet.{offices_in}
use Rattle.paper.specs.Quest.{Quest, directed}
use Rattle.paper.specs.Reply.{Reply}
use Rattle.paper.specs.Refusal.{number_of}
use Rattle.paper.specs.declared.Quest as asked
use Rattle.paper.specs.declared.Listed.{Listed}
use Rattle.paper.specs.declared.refusal.Refusal.{Refusal}

-- the quest over the list that is lent
abbrev pub quest_on : List ℕ → asked.Quest → Quest
quest_on list x = directed (offices_in list) x.place x.direction

-- what the code gives, with the answer and the working slice at exit
abbrev pub replied : Result Listed Refusal → List ℕ → List ℕ → Reply
replied (Ok l) answer working = record { number = 0; count = l.count; refinements = l.refinements; answer = answer; working = working }
replied (Err r) answer working = record { number = number_of r; count = 0; refinements = 0; answer = answer; working = working }
