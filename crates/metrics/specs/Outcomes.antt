-- What a call answers, in the words of the definitions. Definitions only.
use Rattle.std.specs.Prelude.{Result}
use Rattle.refusal.specs.declared.Refusal.{Refusal}
use Rattle.metrics.specs.declared.Metric.{Metric}
use Rattle.metrics.specs.declared.Split.{Split}

-- the metric of a name, or the refusal
abbrev pub NamedMetric : Type 0
NamedMetric = Result Metric Refusal

-- a split, or the refusal of a side
abbrev pub Splitting : Type 0
Splitting = Result Split Refusal
