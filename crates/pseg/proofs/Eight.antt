-- No call of the priority manager, by what the calls promise in src/, answers 8, by either delay rule.
use mathlib.Core.Path.{sym, ap, ◌∙◌}
use Rattle.units.specs.declared.Offer.{Offer}
use Rattle.units.specs.Logged.{Never}
use Rattle.pseg.specs.declared.PrioritySeg.{PrioritySeg}
use Rattle.pseg.specs.declared.Booked.{Booked}
use Rattle.pseg.specs.declared.Listing.{Listing}
use Rattle.pseg.proofs.Never8.{dry-never-8, book-never-8, list-never-8}
use Rattle.pseg.proofs.Promised.{promised}

pub never-8 : (r : PrioritySeg) → Never promised 8 r
never-8 r =
    record {
      dry_run = λ at b o p e. dry-never-8 r at b (sym (ap (λ (x : Offer). x.number) p.1) ∙ e);
      book = λ at b d a p e. book-never-8 r at b d (sym (ap (λ (x : Booked). x.number) p.1) ∙ e);
      list = λ o p e. list-never-8 r (sym (ap (λ (x : Listing). x.number) p.1) ∙ e);
      further = λ a p e. p;
    }
