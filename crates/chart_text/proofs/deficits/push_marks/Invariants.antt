use Rattle.std.proofs.Common.{◌≡◌, ◌++◌, map, take}
use Rattle.std.specs.Prelude.{string_bytes}
use Rattle.chart_text.specs.Deficits.{value_in, greatest_in, mark_of}
use Rattle.chart_text.proofs.deficits.push_marks.Given as goal

abbrev pub invariant-loop-column : goal.invariant-loop-column
invariant-loop-column l =
    string_bytes l.text ≡ string_bytes l.initial.text
    ++ map (λ c. mark_of (greatest_in (value_in l.values) c)) (take l.column-index l.columns)
