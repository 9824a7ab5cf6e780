-- `truth::pairs::column_fault` meets its contract. The invariant: the first u pairs are gone through (`Gone`), and nothing is due for them, by the chart and on
-- any map that has it.
use Prim.Native.Nat.{◌-◌}
use Rattle.paper.specs.Map.{Map}
use Rattle.paper.specs.Sheet.{map_of}
use Rattle.paper.specs.Verdict.{fault as fault_of}
use Rattle.sheet.specs.Charts.{OnChart}
use Rattle.truth.specs.Faults.{none_below}
use Rattle.truth.specs.Pairs.{by_column, fault_by_chart}
use Rattle.truth.proofs.Pairing.{Clean, Gone}
use Rattle.truth.proofs.pairs.column_fault.Given as goal

abbrev pub invariant-loop-u : goal.invariant-loop-u
invariant-loop-u l = Gone (map_of l.chart.ground.bytes.now) l.v l.u (none_below l.below) l.initial.marks l.marks × Clean (λ x. fault_by_chart l.chart l.column x l.v) l.u × ((m : Map) → OnChart l.chart m → Clean (λ x. fault_of m (by_column l.column) x l.v) l.u)

abbrev pub decreases-loop-u : goal.decreases-loop-u
decreases-loop-u l = l.below - l.u
