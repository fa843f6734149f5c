-- How the weights of the named kinds are told: a number, yes or none.
use Rattle.std.specs.Prelude.{cond, ◌==◌}
use Rattle.weights.specs.declared.figure.Figure.{Figure}
use Rattle.weights.specs.declared.grade.HighestGrade.{HighestGrade}
use Rattle.weights.specs.declared.minutes.Minutes.{Minutes}
use Rattle.weights.specs.declared.reach.Reached.{Reached}
use Rattle.weights.specs.HighestGrade.{above_nine}
use Rattle.weights.specs.Minutes.{above_top}

abbrev pub minutes_figure : Minutes → Figure
minutes_figure x = cond (x.number == above_top) Figure.None (Figure.Number x.number)

abbrev pub grade_figure : HighestGrade → Figure
grade_figure x = cond (x.number == above_nine) Figure.None (Figure.Number x.number)

abbrev pub reach_figure : Reached → Figure
reach_figure Reached.Yes = Figure.Yes
reach_figure Reached.None = Figure.None
