-- `contact::span::covers` meets its contract. The invariant: from the date reached on, the segments left have the answer of all.
use Rattle.std.proofs.Common.{◌≡◌, drop}
use Rattle.contact.specs.Segments.{spans}
use Rattle.contact.proofs.span.covers.Given as goal

abbrev pub invariant-loop-s : goal.invariant-loop-s
invariant-loop-s g l =
    spans g.T.Span.span l.window.start.0 l.window.end.0 l.list ≡ spans g.T.Span.span l.at.0 l.window.end.0 (drop l.s-index l.list)
