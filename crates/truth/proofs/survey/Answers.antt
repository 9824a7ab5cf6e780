-- `truth::survey` meets its contract: the book and its chains survey the map that is read off the bytes.
use mathlib.Core.Path.{sym}
use Prim.Native.Nat.{◌≤◌}
use native.Mathlib.Omega.{arith}
use lib.ListN.{length}
use lib.Seq.{length-take-le}
use Rattle.paper.specs.Sizes.{most_stages}
use Rattle.sheet.proofs.Room.{room}
use Rattle.truth.proofs.Surveyed.{chainable, surveyed}
use Rattle.truth.proofs.survey.Goals.{After-road_book}
use Rattle.truth.proofs.survey.Goals as goal

-- the slices of the book have room for the stages
stages-fit : (c : After-road_book) → let k = c.args.map.now.counts.stages in (k ≤ most_stages) × (k ≤ length c.road_book.new.heads)
stages-fit c = let R = room _ _ c.args.map.now.keeps.parts in omega (arith, R.within.stages, R.stages, c.road_book.ensures.book.leads.to.long)

pub road_book-requires : goal.road_book-requires
road_book-requires c = c.requires.roomy

pub slice_bounds-chain-end : goal.slice_bounds-chain-end
slice_bounds-chain-end c = omega (arith, stages-fit (goal.at.slice_bounds-chain-end c).After-road_book)

pub slice_bounds-chain-end-2 : goal.slice_bounds-chain-end-2
slice_bounds-chain-end-2 c = sym (length-take-le _ _ (stages-fit (goal.at.slice_bounds-chain-end-2 c).After-road_book).1)

pub chain-requires : goal.chain-requires
chain-requires c = chainable c.args.map.now.keeps c.args.map.now.fits _ _ _ _ c.road_book.ensures.book _ _ c.requires.places_in_bounds.0 c.requires.places_in_bounds.1

pub returns : goal.returns
returns c = surveyed c.args.map.now.keeps c.args.map.now.fits _ _ _ _ c.road_book.ensures.book _ _ _ _ (omega (arith, c.requires.places_in_bounds.0, c.chain.auto.last)) (omega (arith, c.requires.places_in_bounds.1, c.chain.auto.previous)) c.chain.ensures
