-- `Window::with_squares` meets its contract. Assumes nothing.
use mathlib.Core.Path.{sym, ◌∙◌}
use lib.Ieee.{of_bits}
use Rattle.nsdf.proofs.Summing.{sums_fit, sums_give, no_squares}
use Rattle.nsdf.proofs.sums.Window.with_squares.Goals as goal

pub normalised-requires-clause-cross_bound : goal.normalised-requires-clause-cross_bound
normalised-requires-clause-cross_bound c =
    (sums_fit c.args.self.samples.now c.args.lag c.cross.result c.args.squares c.cross.ensures c.requires.squares_known c.requires.squares_bound).0

pub returns-then-squares-eq0 : goal.returns-then-squares-eq0
unfolding of_bits
returns-then-squares-eq0 c = no_squares c.args.self.samples.now c.args.lag (sym c.requires.squares_known ∙ c.if-squares-eq0.true)

pub returns : goal.returns
returns c = c.normalised.ensures ∙ sums_give c.args.self.samples.now c.args.lag c.cross.result c.args.squares c.cross.ensures c.requires.squares_known c.requires.squares_bound
