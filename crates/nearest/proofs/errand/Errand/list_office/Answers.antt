-- `Errand::list_office` meets its contract: the gazetteer number is that of the place where the office stands.
use Rattle.std.proofs.Common.{rules}
use Rattle.quadtree.proofs.Words.{place_room}
use Rattle.nearest.proofs.errand.Errand.list_office.Goals as goal

pub gazetteer_of-gazetteer-requires : goal.gazetteer_of-gazetteer-requires
gazetteer_of-gazetteer-requires c = place_room c.args.self.now.chart.ground.keeps _ c.stand-place.ensures.placed

pub returns : goal.returns
returns c = search rules
