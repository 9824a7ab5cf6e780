-- `Roads::towards` meets its contract.
use Rattle.roads.proofs.roads.Roads.towards.Goals as goal

pub returns-clause-towards : goal.returns-clause-towards
returns-clause-towards c = λ m K T G. c.settle.ensures.towards m _ K T G (c.start.ensures.by_index m K.head_in)
