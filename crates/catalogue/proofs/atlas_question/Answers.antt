-- `catalogue::atlas_question` meets its contract: the clauses about an accepted sheet follow from the rules.
use Rattle.std.proofs.Common.{rules}
use Rattle.paper.specs.Layout.{Bytes}
use Rattle.catalogue.proofs.Replied.{promised}
use Rattle.catalogue.proofs.atlas_question.Goals.{After-listed}
use Rattle.catalogue.proofs.atlas_question.Goals as goal

-- the bytes that are lent
answers : (c : After-listed) → Bytes c.args.answer.now
answers c i p = search rules

works : (c : After-listed) → Bytes c.args.working.now
works c i p = search rules

pub returns-in-Ok : goal.returns-in-Ok
returns-in-Ok c =
    let at = (goal.at.returns-in-Ok c).After-listed in
    let (first, near, thrift) = promised _ c.args.q c.args.k c.args.direction _ _ c.args.counts.now (λ i p. (c.type_inv.sheet i).fits) (answers at) (works at) _ (rw (c.put_counts.ensures, c.from.ensures) c.in-Ok.ensures) in
    record { rules = first; nearest = near; thrifty = thrift }

pub returns-in-Err : goal.returns-in-Err
returns-in-Err c =
    let at = (goal.at.returns-in-Err c).After-listed in
    let (first, near, thrift) = promised _ c.args.q c.args.k c.args.direction _ _ c.args.counts.now (λ i p. (c.type_inv.sheet i).fits) (answers at) (works at) _ (rw (c.put_counts-in-Err.ensures, c.from-in-Err.ensures) c.in-Err.ensures) in
    record { rules = first; nearest = near; thrifty = thrift }
