-- `roads::start` meets its contract: every place is blank, and then v has its length.
use Rattle.std.proofs.Common.{rules}
use Rattle.std.proofs.lemmas.List.{places}
use Rattle.roads.proofs.Begun.{filled_far, begun_sound}
use Rattle.roads.proofs.start.Goals as goal

pub returns-clause-by_index : goal.returns-clause-by_index
returns-clause-by_index c =
    let blank = filled_far _ _ _ c.requires.2 (c.fill.ensures.after (λ y e. e)) in
    begun_sound (record { column_room = search rules; w_room = search rules; blank = blank; word = λ k p. search (rules, places) }) c.requires.0 c.build.ensures.same
