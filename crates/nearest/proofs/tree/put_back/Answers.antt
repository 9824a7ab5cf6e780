-- `nearest::tree::put_back` meets its contract.
use Rattle.mintree.proofs.Parts.{part_back, played_whole, changed_back}
use Rattle.nearest.proofs.Put.{room, put_back}
use Rattle.nearest.proofs.tree.put_back.Goals as goal

pub returns-clause-by_index : goal.returns-clause-by_index
returns-clause-by_index c = λ m ss S sane.
    let R = room S.played.room c.store.ensures in
    let B = part_back R c.change.auto.words in
    put_back ss _ c.requires.here S _ _ _ c.store.ensures _ c.key.ensures (changed_back R c.change.auto.words _ _ c.requires.here c.change.ensures.same) (played_whole B c.change.ensures.played_2) sane
