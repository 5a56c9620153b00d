-- What the two passes say, and that it reads back.
use Rattle.std.proofs.Common.{sym, ◌∙◌}
use Rattle.listing.proofs.Answers.{print_served}
use Rattle.listing.proofs.RoundTrip.{printed_back}
use Rattle.listing.proofs.print.Goals as goal

pub returns : goal.returns
returns c =
    printed_back (λ i. (c.type_inv.words i).fits)
    (print_served (sym c.fits.ensures ∙ c.if-not-fits.false) c.written-size.ensures)
