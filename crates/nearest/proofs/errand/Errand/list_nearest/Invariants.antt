-- `Errand::list_nearest` meets its contract. The invariant: on any map that has the chart, the listing is under way.
use mathlib.Core.List.{List}
use Prim.Native.Nat.{◌+◌, ◌-◌, ◌*◌}
use Rattle.paper.specs.Sizes.{slot_words}
use Rattle.paper.specs.Map.{Map}
use Rattle.paper.specs.Listing.{Slot, begin, run, enough}
use Rattle.sheet.specs.Charts.{OnChart}
use Rattle.nearest.specs.Working.{Shown, Beyond}
use Rattle.nearest.specs.Going.{Fresh}
use Rattle.nearest.specs.Errands.{offices, places, asked}
use Rattle.nearest.proofs.Progress.{Progress}
use Rattle.nearest.proofs.errand.Errand.list_nearest.Given as goal

abbrev pub invariant-loop-listed : goal.invariant-loop-listed
invariant-loop-listed l = Beyond (slot_words * offices l.self) l.initial.working l.working
    × ((m : Map) → OnChart l.self.chart m → (ss : List Slot) → Shown (places l.self) (offices l.self) l.initial.working ss → Fresh (offices l.self) ss
    → Progress m (asked l.self) l.k (run m (asked l.self) (enough m (asked l.self) l.k) l.k (begin ss)) l.working l.initial.answer l.answer l.listed l.total)

abbrev pub decreases-loop-listed : goal.decreases-loop-listed
decreases-loop-listed l = l.k + offices l.self * places l.self - (l.listed + l.total)
